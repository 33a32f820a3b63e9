-- How many of the recorded keys pass a test. All keys that may be recorded are known and sorted, so each has a place, whose counter is updated.
use Rattle.std.specs.Prelude.{◌≡◌, ℕ, ◌+◌, ◌-◌, ◌/◌, ◌<◌, ◌≤◌, Bool, true, false, not, List, [], ◌∷◌, length, slice_index}
use Rattle.std.specs.List.{filter}
use Rattle.std.specs.List.Sorted.{IsSorted}
use Rattle.keys.specs.Bytes.{Bytes}
use Rattle.keys.specs.Order.{order}
use Rattle.keys.specs.Range.{is_below}

-- how many of the keys pass a test
abbrev pub passing : (Bytes → Bool) → List Bytes → ℕ
passing test keys = length (filter test keys)

-- how many of the keys are below one
abbrev pub below : Bytes → List Bytes → ℕ
below key keys = passing (λ k. is_below k key) keys

-- how many of the keys are not above one
abbrev pub up_to : Bytes → List Bytes → ℕ
up_to key keys = passing (λ k. not (is_below key k)) keys

-- if the test passes a key, it passes all keys that aren't above it
abbrev pub PassesLower : (Bytes → Bool) → Type 0
PassesLower test = (j k : Bytes) → test k ≡ true → is_below k j ≡ false → test j ≡ true

-- how many recorded places precede a place: those in its group of 16, and those in the groups before that group
abbrev pub counted : List (List ℕ) → ℕ → ℕ
counted [] at = 0
counted (level ∷ levels) at = slice_index level at + counted levels (at / 16)

-- the levels have room for `places` places; each level counts the groups of the one below
abbrev pub AreWide : ℕ → List (List ℕ) → Type 0
AreWide places [] = places ≤ 1
AreWide places (level ∷ levels) = (places ≤ length level) × AreWide ((places - 1) / 16 + 1) levels

-- after recording a place, one more recorded place precedes each later one
pub record IsOneMore (place at old new : ℕ) : Type 0 where
  pub after : place < at → new ≡ old + 1
  pub others : at ≤ place → new ≡ old

-- sorted keys, with the levels over their places
abbrev pub RankCounter : Type 0
RankCounter = List Bytes × List (List ℕ)

-- exactly these keys are recorded
pub record IsTally (came : List Bytes) (t : RankCounter) : Type 0 where
  pub sorted : IsSorted order t.0
  pub wide : AreWide (length t.0 + 1) t.1
  pub few : (at : ℕ) → at < length t.0 + 1 → counted t.1 at ≤ length came
  pub counts : (test : Bytes → Bool) → PassesLower test → counted t.1 (passing test t.0) ≡ passing test came
