-- A step of an iteration between two edges, from either end: what remains, and that the iterations from both ends still have the pairs beyond the edges.
use Rattle.std.specs.Prelude.{◌≡◌, ℕ, ◌<◌, ⊤, Bool, true, false, not, List, [], ◌∷◌, ◌++◌, length, Option, Some, None, IfSome, MatchOption}
use Rattle.std.proofs.Common.{refl, sym, subst}
use Rattle.std.specs.Iterator.{MakesProgress, item_count}
use Rattle.keys.specs.Order.{IsRising}
use Rattle.keys.specs.Range.{is_below}
use Rattle.mapping.specs.Levels.{contents}
use Rattle.mapping.specs.TreeInMemory.{TreeInMemory, tree_of}
use Rattle.scan.specs.Edge.{beyond, between}
use Rattle.scan.specs.Range.{IsBetween, IsTurn}
use Rattle.scan.specs.RankCounter.{PassesLower}
use Rattle.scan.specs.Search.{IsPassed}
use Rattle.scan.specs.declared.direction.Direction.TheVariants.{Up, Down}
use Rattle.scan.proofs.DirectionLemmas.{one_less}
use Rattle.scan.proofs.RangeLemmas.{turn_up, turn_down, nothing_up, nothing_down}
use Rattle.scan.proofs.TreeLemmas.{contents-rise}

abbrev Pairs : Type 0
Pairs = List (List ℕ × List ℕ)

-- the keys that are not above a key
abbrev pub up_to : List ℕ → List ℕ → Bool
up_to k j = not (is_below k j)

-- the keys below a key
abbrev pub under : List ℕ → List ℕ → Bool
under k j = is_below j k

not_not : (b : Bool) → not (not b) ≡ b
not_not true = refl
not_not false = refl

passed_up : (k : List ℕ) → IsPassed Up k (up_to k)
passed_up k = λ j. not_not (is_below k j)

passed_down : (k : List ℕ) → IsPassed Down k (under k)
passed_down k = λ j. refl

module _ (t : TreeInMemory) (start end : List ℕ → Bool) (front back : Option Pairs) (b : IsBetween t start end front back) where
  abbrev All : Pairs
  All = contents (tree_of t)

  all_rise : IsRising All
  all_rise = contents-rise (tree_of t) b.held b.levels

  -- ---- no pair is left at one end

  pub front_none : (left : Option Pairs) → IsTurn Up (beyond Up start All) None left → between start end All ≡ []
  front_none left h = nothing_up start end All h.0

  pub back_none : (left : Option Pairs) → IsTurn Down (beyond Down end All) None left → between start end All ≡ []
  back_none left h = nothing_down start end All h.0

  -- ---- a pair is taken at one end

  module _ (ls : PassesLower start) (le : PassesLower end) (k v : List ℕ) (left : Option Pairs) where
    pub front_moved : IsTurn Up (beyond Up start All) (Some (k, v)) left → IsBetween t (up_to k) end left back
    front_moved h = record {
      home = b.home;
      height = b.height;
      held = b.held;
      levels = b.levels;
      upward = subst (λ (o : Option Pairs). IfSome o (λ es. es ≡ beyond Up (up_to k) All)) (sym h.2) (turn_up start end (up_to k) All k v h.0 all_rise ls le h.1 (passed_up k)).0;
      downward = b.downward;
    }

    pub back_moved : IsTurn Down (beyond Down end All) (Some (k, v)) left → IsBetween t start (under k) front left
    back_moved h = record {
      home = b.home;
      height = b.height;
      held = b.held;
      levels = b.levels;
      upward = b.upward;
      downward = subst (λ (o : Option Pairs). IfSome o (λ es. es ≡ beyond Down (under k) All)) (sym h.2) (turn_down start end (under k) All k v h.0 all_rise ls le h.1 (passed_down k)).0;
    }

    -- a row
    pub front_row : IsTurn Up (beyond Up start All) (Some (k, v)) left → true ≡ end k → (w : List ℕ) → w ≡ v → between start end All ≡ (k, w) ∷ between (up_to k) end All
    front_row h e w same = rw same ((turn_up start end (up_to k) All k v h.0 all_rise ls le h.1 (passed_up k)).1 (sym e))

    pub back_row : IsTurn Down (beyond Down end All) (Some (k, v)) left → false ≡ start k → (w : List ℕ) → w ≡ v → between start end All ≡ between start (under k) All ++ (k, w) ∷ []
    back_row h e w same = rw same ((turn_down start end (under k) All k v h.0 all_rise ls le h.1 (passed_down k)).1 (sym e))

    -- the two ends have met
    pub front_met : IsTurn Up (beyond Up start All) (Some (k, v)) left → false ≡ end k → (between start end All ≡ []) × (between (up_to k) end All ≡ [])
    front_met h e = (turn_up start end (up_to k) All k v h.0 all_rise ls le h.1 (passed_up k)).2 (sym e)

    pub back_met : IsTurn Down (beyond Down end All) (Some (k, v)) left → true ≡ start k → (between start end All ≡ []) × (between start (under k) All ≡ [])
    back_met h e = (turn_down start end (under k) All k v h.0 all_rise ls le h.1 (passed_down k)).2 (sym e)

-- ---- what a call returns

module _ {A : Type 0} (view : A → List ℕ × List ℕ) (o : Option A) (old new : Pairs) where
  -- the first pair, or the last one
  pub first_given : (x : A) → o ≡ Some x → old ≡ view x ∷ new → MatchOption o ((old ≡ []) × (new ≡ [])) (λ y. old ≡ view y ∷ new)
  first_given x e h = subst (λ (p : Option A). MatchOption p ((old ≡ []) × (new ≡ [])) (λ y. old ≡ view y ∷ new)) (sym e) h

  pub last_given : (x : A) → o ≡ Some x → old ≡ new ++ view x ∷ [] → MatchOption o ((old ≡ []) × (new ≡ [])) (λ y. old ≡ new ++ view y ∷ [])
  last_given x e h = subst (λ (p : Option A). MatchOption p ((old ≡ []) × (new ≡ [])) (λ y. old ≡ new ++ view y ∷ [])) (sym e) h

  -- or no pair
  pub no_first_given : o ≡ None → (old ≡ []) × (new ≡ []) → MatchOption o ((old ≡ []) × (new ≡ [])) (λ y. old ≡ view y ∷ new)
  no_first_given e h = subst (λ (p : Option A). MatchOption p ((old ≡ []) × (new ≡ [])) (λ y. old ≡ view y ∷ new)) (sym e) h

  pub no_last_given : o ≡ None → (old ≡ []) × (new ≡ []) → MatchOption o ((old ≡ []) × (new ≡ [])) (λ y. old ≡ new ++ view y ∷ [])
  no_last_given e h = subst (λ (p : Option A). MatchOption p ((old ≡ []) × (new ≡ [])) (λ y. old ≡ new ++ view y ∷ [])) (sym e) h

module _ {A : Type 0} (view : A → List ℕ × List ℕ) where
  -- after a pair from the back, fewer pairs remain
  pub back_goes : (o : Option A) (old new : Pairs) → MatchOption o ((old ≡ []) × (new ≡ [])) (λ x. old ≡ new ++ view x ∷ []) → MakesProgress (λ _. ⊤) (item_count (λ es. es)) old o new
  back_goes None old new h = record { on = λ _. tt; keeps = tt; rests = λ _. tt }
  back_goes (Some x) old new h = let fewer : length new < length old = one_less Down (view x) old new h in record { on = λ _. (tt, tt, fewer); keeps = tt; rests = λ _. tt }
