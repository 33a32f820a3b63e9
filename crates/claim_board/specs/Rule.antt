-- The invariant of a board, which holds between any two steps.
use Rattle.std.specs.Prelude.{◌≡◌, ℕ, ◌+◌, ◌<◌, ◌≤◌, min, if◌then◌else◌, nat_lt, List, [], ◌∷◌, ◌++◌, drop, map, length, slice_index}
use Rattle.std.specs.List.{All}
use mathlib.Core.Option.{some}
use lib.ListN.{get_elem?}
use Rattle.atomic_table.specs.Table.{State, Me}
use Rattle.claim_board.specs.declared.rule.PassState.{PassState}
use Rattle.claim_board.specs.declared.rule.Slot.{Slot}
use Rattle.claim_board.specs.declared.rule.Slot.TheVariants.{Piece}
use Rattle.claim_board.specs.Counting.{HasEachBelowOnce, times, total}

module _ {P : Type 0} where
  -- the state of one pass, or of several merged passes
  abbrev pub hand : List P → ℕ → List ℕ → ℕ → PassState P
  hand pieces passes drawn misses = record { pieces = pieces; passes = passes; drawn = drawn; misses = misses }

  -- the slots at the start: the pieces in order, followed by one more slot
  abbrev pub slots_of : List P → Slot P → List (Slot P)
  slots_of pieces last = map Piece pieces ++ last ∷ []

  -- the invariant of one state when the word is w
  pub record Fits (all : List P) (w : ℕ) (v : PassState P) : Type 0 where
    pub same_pieces : 0 < v.passes → v.pieces ≡ all
    pub few_misses : v.misses ≤ v.passes
    pub miss_past_end : 0 < v.misses → length all < w
    pub below : All (λ k. k < w) v.drawn
    pub spent : v.passes ≡ 0 → v.drawn ≡ []

  -- the claimed numbers are those below the word, each exactly once, at most as many as there are pieces; each miss increments the word further;
  -- unclaimed pieces are at their places
  pub record Keeps (all : List P) (last : Slot P) (count : ℕ) (s : State (Slot P) (PassState P)) : Type 0 where
    pub one_word : length s.words ≡ 1
    pub word_is : slice_index s.words 0 ≡ min (slice_index s.words 0) (length all) + total (λ v. v.misses) s.views
    pub once : (x : ℕ) → total (λ v. times x v.drawn) s.views ≡ (if nat_lt x (min (slice_index s.words 0) (length all)) then 1 else 0)
    pub many : total (λ v. length v.drawn) s.views ≡ min (slice_index s.words 0) (length all)
    pub passes : total (λ v. v.passes) s.views ≡ count
    pub fits : (id : ℕ) (v : PassState P) → get_elem? s.views id ≡ some v → Fits all (slice_index s.words 0) v
    pub home : (k : ℕ) (y : Slot P) → min (slice_index s.words 0) (length all) ≤ k → get_elem? (slots_of all last) k ≡ some y → get_elem? s.homes k ≡ some (some y)

  -- a claim that found a number n below the number of pieces: it takes piece n
  pub record Takes (m : Me (Slot P) (PassState P)) (n : ℕ) (w : Me (Slot P) (PassState P)) : Type 0 where
    pub hand_is : w.0 ≡ hand m.0.pieces m.0.passes (m.0.drawn ++ n ∷ []) m.0.misses
    pub piece : P
    pub taken : w.1 ≡ (n, Piece piece) ∷ m.1
    pub piece_is : get_elem? m.0.pieces n ≡ some piece
    pub rising : All (λ k. k < n) m.0.drawn
    pub as_many : length m.0.drawn ≤ n

  -- the result of a claim that found the number n: it takes a piece, or it misses
  abbrev pub Draws : Me (Slot P) (PassState P) → ℕ → Me (Slot P) (PassState P) → Type 0
  Draws m n w =
      (n < length m.0.pieces → Takes m n w)
      × (length m.0.pieces ≤ n → (w.0 ≡ hand m.0.pieces m.0.passes m.0.drawn (m.0.misses + 1)) × (w.1 ≡ m.1))

  -- the result of closing a board, with one state into which all passes were merged
  pub record Leaves (pieces : List P) (all : PassState P) (left : List P) : Type 0 where
    pub once : HasEachBelowOnce (length all.drawn) all.drawn
    pub within : length all.drawn ≤ length pieces
    pub left_are : left ≡ drop (length all.drawn) pieces
    pub none_left : 0 < all.misses → length all.drawn ≡ length pieces
