-- The place of a key among keys.
use Rattle.std.specs.Prelude.{◌≡◌, ℕ, ◌<◌, ◌≤◌, List, length, slice_get, Some, count_by}
use Rattle.std.specs.Ordering.{is_lt}
use Rattle.std.specs.declared.cmp.Ordering.TheVariants.{Less}
use Rattle.keys.specs.Bytes.{Bytes}
use Rattle.keys.specs.Order.{order}

-- how many of the keys are below the key
abbrev pub count_below : Bytes → List Bytes → ℕ
count_below k ks = count_by (λ j. is_lt (order j k)) ks

-- each key before this place is below the key
abbrev pub AreBelowBefore : Bytes → List Bytes → ℕ → Type 0
AreBelowBefore k ks at = (m : ℕ) (j : Bytes) → m < at → slice_get ks m ≡ Some j → order j k ≡ Less

-- each key from this place on is above the key
abbrev pub AreAboveFrom : Bytes → List Bytes → ℕ → Type 0
AreAboveFrom k ks at = (m : ℕ) (j : Bytes) → at ≤ m → slice_get ks m ≡ Some j → order k j ≡ Less

-- the key is not in the list, and would be inserted at this place
pub record KeyGoesTo (k : Bytes) (ks : List Bytes) (at : ℕ) : Type 0 where
  pub within : at ≤ length ks
  pub below : AreBelowBefore k ks at
  pub above : AreAboveFrom k ks at
