-- Scans with a smaller upper bound, which is sound if they reach their limit below that bound.
use Rattle.std.specs.Prelude.{◌≡◌, ℕ, ◌≤◌, true, ⊤, List, [], ◌∷◌, length, drop, slice_get, Option, Some, None}
use Rattle.keys.specs.Bytes.{Bytes, Pairs}
use Rattle.keys.specs.Range.{is_below, is_before, in_range}
use Rattle.keys.specs.Step.{map_after}
use Rattle.keys.specs.declared.command.Command.{Command}
use Rattle.keys.specs.declared.command.Command.TheVariants.{Scan}

-- a scan with this key as its upper bound, if a key is given; other commands are unchanged
abbrev pub with_end : {A : Type 0} → Option Bytes → Command A → Command A
with_end None c = c
with_end (Some end) (Scan lo hi limit) = Scan lo (Some end) limit
with_end (Some end) c = c

-- the head of the list, or None if the list is empty
abbrev pub first_end : List (Option Bytes) → Option Bytes
first_end [] = None
first_end (end ∷ ends) = end

-- each scan with the upper bound at its place in the list
abbrev pub with_ends : {A : Type 0} → List (Command A) → List (Option Bytes) → List (Command A)
with_ends [] ends = []
with_ends (c ∷ cs) ends = with_end (first_end ends) c ∷ with_ends cs (drop 1 ends)

-- a scan of this map may end at this key: the key is one of `keys` and within the scan's bounds, and at least as many pairs as the limit come before
-- it
pub record IsEnough (keys : List Bytes) (m : Pairs Bytes) (lo : Bytes) (hi : Option Bytes) (limit : ℕ) (end : Bytes) : Type 0 where
  pub known : (at : ℕ) × (slice_get keys at ≡ Some end)
  pub following : is_below lo end ≡ true
  pub before : is_before hi end ≡ true
  pub rows : limit ≤ length (in_range lo (Some end) m)

-- a command may have this end, if an end is given
abbrev pub MayEndAt : {A : Type 0} → List Bytes → Pairs Bytes → Command A → Option Bytes → Type 0
MayEndAt keys m c None = ⊤
MayEndAt keys m (Scan lo hi limit) (Some end) = IsEnough keys m lo hi limit end
MayEndAt keys m c (Some end) = ⊤

-- each scan may have the end at its place in the list, on the map that it is executed on
abbrev pub MayEndAtAll : {A : Type 0} → List Bytes → Pairs Bytes → List (Command A) → List (Option Bytes) → Type 0
MayEndAtAll keys m [] ends = ⊤
MayEndAtAll keys m (c ∷ cs) ends = MayEndAt keys m c (first_end ends) × MayEndAtAll keys (map_after m c) cs (drop 1 ends)
