-- How a base stores its entries: the concatenated keys, the end of each key, and a cell for each key.
use Rattle.std.specs.Prelude.{◌≡◌, ℕ, ◌≤◌, ⊤, List, [], ◌∷◌, length, map, slice_range}
use Rattle.keys.specs.Bytes.{Bytes, Pairs}
use Rattle.keys.specs.Order.{IsRising}
use Rattle.keys.specs.Words.{IsWordOf}
use Rattle.delta_chain.specs.declared.base.KeyMark.{KeyMark}

-- the entries whose keys begin at a place in the bytes; each key goes from the end of the previous one to its own end
abbrev pub packed_from : {V : Type 0} → ℕ → Bytes → List ℕ → List V → Pairs V
packed_from from bytes [] cells = []
packed_from from bytes (end ∷ ends) [] = []
packed_from from bytes (end ∷ ends) (cell ∷ cells) = (slice_range bytes from end, cell) ∷ packed_from end bytes ends cells

-- the ends are not decreasing, from a first place up to a last one
abbrev pub AreEnds : ℕ → List ℕ → ℕ → Type 0
AreEnds from [] last = from ≡ last
AreEnds from (end ∷ ends) last = (from ≤ end) × AreEnds end ends last

-- there are as many cells as keys, the ends use up the bytes, and the keys rise
pub record IsPacked {V : Type 0} (bytes : Bytes) (ends : List ℕ) (cells : List V) : Type 0 where
  pub count : length cells ≡ length ends
  pub cut : AreEnds 0 ends (length bytes)
  pub rising : IsRising (packed_from 0 bytes ends cells)

-- the ends of keys
abbrev pub ends_of : List KeyMark → List ℕ
ends_of marks = map (λ (m : KeyMark). m.end) marks

-- each key has a mark with its first word
abbrev pub AreMarked : List Bytes → List KeyMark → Type 0
AreMarked [] [] = ⊤
AreMarked [] (mark ∷ marks) = ⊥
AreMarked (key ∷ keys) [] = ⊥
AreMarked (key ∷ keys) (mark ∷ marks) = IsWordOf mark.word key × AreMarked keys marks
