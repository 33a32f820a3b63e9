use Rattle.std.proofs.Common.{◌≡◌, ◌≤◌, ◌-◌, ◌++◌, ℕ, zero, suc, List, [], take, drop, map, refl, sym, ap, ◌∙◌, arith, append-nil}
use Rattle.std.proofs.lemmas.List.{nil_from_length}
use Rattle.keys.specs.Lists.{flat}
use Rattle.climb_plan.proofs.ChangedNames.{joined_more, after_more}
use Rattle.climb_plan.proofs.change.next_names.Goals.{else-loop-list-test, then-loop-list-test+in_default}
use Rattle.climb_plan.proofs.change.next_names.Goals as goal

-- if no list is to come, or none is left, all separators are there
module _ {X : Type 0} where
  taken_none : (n : ℕ) → take {A = List X} n [] ≡ []
  taken_none zero = refl
  taken_none (suc n) = refl

  dropped_none : (n : ℕ) → drop {A = List X} n [] ≡ []
  dropped_none zero = refl
  dropped_none (suc n) = refl

  names_come : (count i : ℕ) (out all : List X) (lists : List (List X)) → count ≤ i → out ++ flat (take (count - i) lists) ≡ all → out ≡ all
  names_come count i out all lists l h =
      let none : count - i ≡ 0 = omega arith in
      sym (append-nil out) ∙ ap (λ (n : ℕ). out ++ flat (take n lists)) (sym none) ∙ h

  names_left : (n : ℕ) (out all : List X) (lists : List (List X)) → lists ≡ [] → out ++ flat (take n lists) ≡ all → out ≡ all
  names_left n out all lists e h =
      sym (append-nil out) ∙ ap (λ (xs : List (List X)). out ++ flat xs) (sym (taken_none n)) ∙ ap (λ (xs : List (List X)). out ++ flat (take n xs)) (sym e) ∙ h

  rest_comes : (count i : ℕ) (lists all : List (List X)) → count ≤ i → drop (count - i) lists ≡ all → lists ≡ all
  rest_comes count i lists all l h =
      let none : count - i ≡ 0 = omega arith in
      ap (λ (n : ℕ). drop n lists) (sym none) ∙ h

  rest_left : (n : ℕ) (lists new all : List (List X)) → lists ≡ [] → new ≡ [] → drop n lists ≡ all → new ≡ all
  rest_left n lists new all e f h = f ∙ sym (dropped_none n) ∙ ap (λ (xs : List (List X)). drop n xs) (sym e) ∙ h

pub loop-list-init : goal.loop-list-init
loop-list-init c =
    let whole : c.args.count - 0 ≡ c.args.count = omega arith in
    record { names = rw (c.new-names.ensures.items, whole) refl; rest = rw whole refl }

pub loop-list-preserved : goal.loop-list-preserved
loop-list-preserved c =
    let lists = ap (map (λ list. list.items)) c.in-Some.ensures.items in
    record {
      names = rw c.in_ok-append.ensures.items (joined_more _ _ _ _ _ c.args.count c.loop-list._list lists c.loop-list-test.true c.loop-list.invariant.names);
      rest = after_more _ _ _ _ c.args.count c.loop-list._list lists c.loop-list-test.true c.loop-list.invariant.rest;
    }

pub returns-clause-names : goal.returns-clause-names
returns-clause-names c = elim c.loop-list-test.branch [
  | else-loop-list-test w ↦ names_come c.args.count c.loop-list._list c.loop-list.names.items _ _ w.loop-list-test.false c.loop-list.invariant.names
  | then-loop-list-test+in_default w ↦ names_left _ c.loop-list.names.items _ _ (ap (map (λ list. list.items)) (nil_from_length c.loop-list.lists.items (omega (arith, w.in_default.ensures.cases.0)))) c.loop-list.invariant.names
]

pub returns-clause-rest : goal.returns-clause-rest
returns-clause-rest c = elim c.loop-list-test.branch [
  | else-loop-list-test w ↦ rw w.lists-is (rest_comes c.args.count c.loop-list._list _ _ w.loop-list-test.false c.loop-list.invariant.rest)
  | then-loop-list-test+in_default w ↦
      rw w.lists-is
      (rest_left _ _ _ _ (ap (map (λ list. list.items)) (nil_from_length c.loop-list.lists.items (omega (arith, w.in_default.ensures.cases.0))))
      (ap (map (λ list. list.items)) (nil_from_length w.pop_front.new.self.items (omega (arith, w.in_default.ensures.cases.1)))) c.loop-list.invariant.rest)
]
