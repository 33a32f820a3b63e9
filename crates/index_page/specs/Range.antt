-- Keys that lie in a range: at or above a low key, and below an optional end.
use Rattle.std.specs.Prelude.{◌≡◌, true, false, ⊤, List, Option, Some, None}
use Rattle.std.specs.declared.cmp.Ordering.TheVariants.{Less}
use Rattle.std.specs.List.{AllByRecursion}
use Rattle.keys.specs.Bytes.{Bytes}
use Rattle.keys.specs.Order.{order}
pub use Rattle.keys.specs.Range.{is_below, is_before, is_within}

-- all keys are below k
abbrev pub AreBelow : Bytes → List Bytes → Type 0
AreBelow k ks = AllByRecursion (λ j. is_below j k ≡ true) ks

-- no key is below k
abbrev pub AreFrom : Bytes → List Bytes → Type 0
AreFrom k ks = AllByRecursion (λ j. is_below j k ≡ false) ks

-- all keys are below the end
abbrev pub AreBefore : Option Bytes → List Bytes → Type 0
AreBefore None ks = ⊤
AreBefore (Some end) ks = AreBelow end ks

-- the key is below the end
abbrev pub IsBefore : Option Bytes → Bytes → Type 0
IsBefore None k = ⊤
IsBefore (Some end) k = order k end ≡ Less
