-- The remaining children of an iteration over the children of an index page.
use Rattle.std.specs.Prelude.{◌≡◌, ℕ, ◌+◌, ◌<◌, ◌≤◌, ◌∷◌, drop, length, slice_get, Option, Some}
use Rattle.std.specs.List.{filter}
use Rattle.keys.specs.Bytes.{Bytes, Separators}
use Rattle.index_page.specs.Children.{children_within}
use Rattle.index_page.specs.Range.{is_before}
use Rattle.index_page.specs.declared.within.NextChild.{NextChild}
use Rattle.index_page.specs.declared.within.NextChild.TheVariants.{For, At}

-- the entries from place n on whose keys are before hi
abbrev pub left_at : ℕ → Option Bytes → Separators → Separators
left_at n hi es = filter (λ e. is_before hi e.0) (drop n es)

-- the remaining entries begin with the entry before place n, and continue from place n with those whose keys are before hi
pub record PassesOne (hi : Option Bytes) (es left : Separators) (n : ℕ) : Type 0 where
  pub some : 0 < n
  pub within : n ≤ length es
  pub parts : (at : ℕ) (e : Bytes × ℕ) → at + 1 ≡ n → slice_get es at ≡ Some e → left ≡ e ∷ left_at n hi es

-- the remaining children of an iteration up to hi: from the child that contains a key, or from a place
abbrev pub left_with : NextChild → Option Bytes → Separators → Separators
left_with (For k) hi es = children_within k.now hi es
left_with (At n) hi es = left_at n hi es
