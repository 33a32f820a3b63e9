-- Lemmas on the root of a tree, where iterations begin, and on the rows of an iteration that has an end and a limit.
use Rattle.std.specs.Prelude.{◌≡◌, ℕ, zero, suc, ◌-◌, ◌<◌, pred, ⊤, Bool, true, false, not, List, [], ◌∷◌, take, reverse, length, Option, Some, None, MatchOption}
use Rattle.std.proofs.Common.{refl, subst, arith, ap, sym, ◌∙◌}
use Rattle.std.proofs.lemmas.List.{reverse-append}
use Rattle.std.specs.Iterator.{MakesProgress, item_count}
use Rattle.std.specs.List.{filter}
use Rattle.keys.specs.Order.{IsRising}
use Rattle.keys.proofs.RangeLemmas.{rising-filtered}
use Rattle.mapping.specs.Levels.{levels_of, contents}
use Rattle.mapping.specs.Proper.{AreLevels, HoldsLevels}
use Rattle.mapping.specs.TreeInMemory.{TreeInMemory, tree_of}
use Rattle.scan.specs.Direction.{IsNext}
use Rattle.scan.specs.Edge.{is_beyond, beyond, PartAlike}
use Rattle.scan.specs.Path.{IsKnown}
use Rattle.scan.specs.Range.{IsOwnEdge}
use Rattle.scan.specs.RankCounter.{PassesLower}
use Rattle.scan.specs.Rows.{limited, GoesOn, in_order, comes_before, rows_left, between_in_order}
use Rattle.scan.specs.Walk.{IsAt, HasNextKey}
use Rattle.scan.specs.declared.direction.Direction.{Direction}
use Rattle.scan.specs.declared.direction.Direction.TheVariants.{Up, Down}
use Rattle.scan.proofs.DirectionLemmas.{through}
use Rattle.scan.proofs.LastLemmas.{passes_none, passes_alike}
use Rattle.scan.proofs.RangeLemmas.{PassesEarlier, no_row, row_taken, own_alike, same_alike, same_between, between-up, between-down, all_such}
use Rattle.scan.proofs.TreeLemmas.{root_is_known, contents-rise}

abbrev Pairs : Type 0
Pairs = List (List ℕ × List ℕ)

pub fewer_left : (e : List ℕ × List ℕ) (all later : Pairs) → all ≡ e ∷ later → length later < length all
fewer_left e all later h = omega (arith, ap (λ (x : Pairs). length x) h)

module _ (t : TreeInMemory) (held : HoldsLevels (tree_of t).pages (levels_of (tree_of t))) (levels : AreLevels (levels_of (tree_of t))) where
  pub at_top : pred t.height - 0 ≡ pred t.height
  at_top = omega arith

  pub root_is_there : IsAt t 0 t.root
  root_is_there = record { within = omega arith; known = subst (λ (n : ℕ). IsKnown (tree_of t).pages n t.root) (sym at_top) (root_is_known (tree_of t) held levels) }

-- ---- the limit

one_less : (n : ℕ) (e : List ℕ × List ℕ) (es : Pairs) → 0 < n → limited (Some n) (e ∷ es) ≡ e ∷ limited (Some (n - 1)) es
one_less zero e es h = absurd (omega arith)
one_less (suc n) e es h = let less : n ≡ suc n - 1 = omega arith in ap (λ (i : ℕ). e ∷ take i es) less

pub goes_on_none : (left : Option ℕ) → left ≡ None → GoesOn left None
goes_on_none left h = subst (λ (o : Option ℕ). GoesOn o None) (sym h) (λ e es. refl)

pub goes_on_some : (left : Option ℕ) (n : ℕ) → left ≡ Some n → 0 < n → GoesOn left (Some (n - 1))
goes_on_some left n h l = subst (λ (o : Option ℕ). GoesOn o (Some (n - 1))) (sym h) (λ e es. one_less n e es l)

take_nothing : (n : ℕ) (es : Pairs) → es ≡ [] → take n es ≡ []
take_nothing zero es h = refl
take_nothing (suc n) [] h = refl
take_nothing (suc n) (e ∷ es) h = absurd (cc)

limited_nothing : (left : Option ℕ) (es : Pairs) → es ≡ [] → limited left es ≡ []
limited_nothing None es h = h
limited_nothing (Some n) es h = take_nothing n es h

take_none : (es : Pairs) → take 0 es ≡ []
take_none [] = refl
take_none (e ∷ es) = refl

-- ---- the remaining rows

in_order_next : (d : Direction) (x : List ℕ × List ℕ) (all rest : Pairs) → IsNext d all x rest → in_order d all ≡ x ∷ in_order d rest
in_order_next Up x all rest h = h
in_order_next Down x all rest h = ap (λ (es : Pairs). reverse es) h ∙ reverse-append rest (x ∷ [])

in_order_none : (d : Direction) (es : Pairs) → es ≡ [] → in_order d es ≡ []
in_order_none Up es h = h
in_order_none Down es h = ap (λ (xs : Pairs). reverse xs) h

-- an iteration that comes to a key before it stops comes to all earlier keys
earlier_too : (d : Direction) (stop : Option (List ℕ)) → PassesEarlier d (comes_before d stop)
earlier_too d None = λ k j p h. refl
earlier_too d (Some s) = λ k j p h. through d k j s p h

module _ (d : Direction) (left : Option ℕ) (stop : Option (List ℕ)) (all : Pairs) where
  none_passing : filter (λ e. comes_before d stop e.0) all ≡ [] → rows_left d left stop all ≡ []
  none_passing h = limited_nothing left (in_order d (filter (λ e. comes_before d stop e.0) all)) (in_order_none d (filter (λ e. comes_before d stop e.0) all) h)

  pub none_left : all ≡ [] → rows_left d left stop all ≡ []
  none_left h = none_passing (ap (λ (es : Pairs). filter (λ e. comes_before d stop e.0) es) h)

  -- the limit is reached
  pub limit_reached : left ≡ Some 0 → rows_left d left stop all ≡ []
  limit_reached h = ap (λ (o : Option ℕ). rows_left d o stop all) h ∙ take_none (in_order d (filter (λ e. comes_before d stop e.0) all))

  module _ (k v : List ℕ) (rest : Pairs) (rising : IsRising all) (next : IsNext d all (k, v) rest) where
    -- the stop is reached
    pub end_reached : false ≡ comes_before d stop k → rows_left d left stop all ≡ []
    end_reached f = none_passing (no_row d all rising k v rest next (comes_before d stop) (earlier_too d stop) (sym f)).0

    -- the next row, and those after it
    pub row_given : (later : Option ℕ) (w : List ℕ) → GoesOn left later → w ≡ v → true ≡ comes_before d stop k → rows_left d left stop all ≡ (k, w) ∷ rows_left d later stop rest
    row_given later w step same t =
        ap (λ (es : Pairs). limited left es)
        (in_order_next d (k, v) (filter (λ e. comes_before d stop e.0) all) (filter (λ e. comes_before d stop e.0) rest) (row_taken d all rising k v rest next (comes_before d stop) (earlier_too d stop) (sym t)))
        ∙ rw same (step (k, v) (in_order d (filter (λ e. comes_before d stop e.0) rest)))

-- ---- the start

-- the edge that is reached just before the stop
abbrev stop_edge : Direction → Option (List ℕ) → List ℕ → Bool
stop_edge Up stop k = comes_before Up stop k
stop_edge Down stop k = not (comes_before Down stop k)

is_own : (d : Direction) (stop : Option (List ℕ)) → IsOwnEdge d stop (stop_edge d stop)
is_own Up None = λ k. refl
is_own Up (Some s) = λ k. refl
is_own Down None = λ k. refl
is_own Down (Some s) = λ k. refl

not_not : (b : Bool) → b ≡ not (not b)
not_not true = refl
not_not false = refl

module _ (start end : List ℕ → Bool) (es : Pairs) where
  cut_at : (d : Direction) (stop : Option (List ℕ)) → PartAlike (stop_edge d stop) end es → in_order d (filter (λ e. comes_before d stop e.0) (beyond d start es)) ≡ between_in_order d start end es
  cut_at Up stop a = sym (between-up start (stop_edge Up stop) es) ∙ same_between start start (stop_edge Up stop) end es (same_alike start start es (λ k. refl)) a
  cut_at Down stop a =
      ap (λ (xs : Pairs). reverse xs)
      (passes_alike (λ (e : List ℕ × List ℕ). comes_before Down stop e.0) (λ (e : List ℕ × List ℕ). not (stop_edge Down stop e.0)) (beyond Down start es)
      (all_such (λ e. comes_before Down stop e.0 ≡ not (stop_edge Down stop e.0)) (λ e. not_not (comes_before Down stop e.0)) (beyond Down start es))
      ∙ sym (between-down (stop_edge Down stop) start es)
      ∙ same_between (stop_edge Down stop) end start start es a (same_alike start start es (λ k. refl)))

  -- an iteration from the start that stops at the first key after the end has the pairs between them
  pub rows_at_start : (d : Direction) (left : Option ℕ) (stop : Option (List ℕ)) → IsRising es → PassesLower end → HasNextKey d stop (beyond d end es) → rows_left d left stop (beyond d start es) ≡ limited left (between_in_order d start end es)
  rows_at_start d left stop r l h = ap (λ (xs : Pairs). limited left xs) (cut_at d stop (own_alike d end (stop_edge d stop) es r l stop h (is_own d stop)))

-- the remaining pairs of a walk rise
pub walk_rises : (d : Direction) (under : List ℕ → Bool) (t : TreeInMemory) (left : Pairs) → HoldsLevels (tree_of t).pages (levels_of (tree_of t)) → AreLevels (levels_of (tree_of t)) → left ≡ beyond d under (contents (tree_of t)) → IsRising left
walk_rises d under t left held levels h = subst (λ (xs : Pairs). IsRising xs) (sym h) (rising-filtered (λ e. is_beyond d under e.0) (contents (tree_of t)) (contents-rise (tree_of t) held levels))

-- nothing lies after an edge that all keys come before
pub none_after_all : (d : Direction) (end : List ℕ → Bool) (es : Pairs) → ((k : List ℕ) → is_beyond d end k ≡ false) → beyond d end es ≡ []
none_after_all d end es f = passes_none (λ e. is_beyond d end e.0) es (all_such (λ e. is_beyond d end e.0 ≡ false) (λ e. f e.0) es)

-- ---- progress

module _ {A : Type 0} (view : A → List ℕ × List ℕ) where
  -- a step leaves fewer rows
  pub turn_goes : (o : Option A) (old new : Pairs) → MatchOption o ((old ≡ []) × (new ≡ [])) (λ x. old ≡ view x ∷ new) → MakesProgress (λ _. ⊤) (item_count (λ es. es)) old o new
  turn_goes None old new h = record { on = λ _. tt; keeps = tt; rests = λ _. tt }
  turn_goes (Some x) old new h = let fewer = fewer_left (view x) old new h in record { on = λ _. (tt, tt, fewer); keeps = tt; rests = λ _. tt }
