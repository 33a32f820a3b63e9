-- Filtering by a test on the keys commutes with merging.
use Rattle.std.specs.Prelude.{◌≡◌, ℕ, Bool, true, false, cond, List, [], ◌∷◌, map, Option, Some, None}
use Rattle.std.proofs.Common.{refl, sym, ap, ◌∙◌}
use Rattle.std.specs.Ordering.{is_eq}
use Rattle.std.specs.List.{filter, AllByRecursion}
use Rattle.std.specs.List.Sorted.{IsStrictlySortedBy}
use Rattle.keys.specs.Order.{order, IsRising}
use Rattle.keys.specs.OrderedMap.{value_at}
use Rattle.keys.proofs.MapLemmas.{passes_same, same_map}
use Rattle.keys.proofs.RangeLemmas.{rising-filtered}
use Rattle.delta_chain.specs.Layers.{Layers, change_or, with_run, entries_of, AllRise, IsInOrder}
use Rattle.delta_chain.specs.Merging.{asserted, joined_changes}
use Rattle.delta_chain.proofs.LayerLemmas.{rising-with_run, value_at-with_run}
use Rattle.delta_chain.proofs.Overlays.{rising-asserted, rising-joined_changes, entries-joined_changes}

-- the pairs whose keys pass
abbrev pub passing : {X : Type 0} → (List ℕ → Bool) → List (List ℕ × X) → List (List ℕ × X)
passing test es = filter (λ e. test e.0) es

module _ {X : Type 0} (test : List ℕ → Bool) where
  passing_by : (b t u : Bool) (k : List ℕ) (e : List ℕ × X) (es rest : List (List ℕ × X)) → is_eq (order k e.0) ≡ t → (t ≡ true → u ≡ b) → value_at k rest ≡ cond u (value_at k es) None → value_at k (cond b (e ∷ rest) rest) ≡ cond u (value_at k (e ∷ es)) None
  passing_by true true true k e es rest h same ih = rw h refl
  passing_by true true false k e es rest h same ih = absurd (let f = same refl in cc)
  passing_by true false u k e es rest h same ih = rw h ih
  passing_by false true true k e es rest h same ih = absurd (let f = same refl in cc)
  passing_by false true false k e es rest h same ih = ih
  passing_by false false u k e es rest h same ih = rw h ih

  nothing_by : (b : Bool) → ◌≡◌ {A = Option X} None (cond b None None)
  nothing_by true = refl
  nothing_by false = refl

  -- at a key that passes they have the same value as all pairs, and at other keys none
  pub value_at-passing : (es : List (List ℕ × X)) (k : List ℕ) → value_at k (passing test es) ≡ cond (test k) (value_at k es) None
  value_at-passing [] k = nothing_by (test k)
  value_at-passing (e ∷ es) k =
      passing_by (test e.0) (is_eq (order k e.0)) (test k) k e es (passing test es) refl (λ h. ap test (passes_same k e.0 h)) (value_at-passing es k)

module _ {V : Type 0} (test : List ℕ → Bool) where
  said_passing : (b : Bool) (o : Option (Option V)) (p : Option V) → cond b (change_or o p) None ≡ change_or (cond b o None) (cond b p None)
  said_passing true o p = refl
  said_passing false o p = refl

  -- pairs with a run applied
  pub passing-with_run : (m : List (List ℕ × V)) (run : List (List ℕ × Option V)) → IsRising m → IsRising run → passing test (with_run m run) ≡ with_run (passing test m) (passing test run)
  passing-with_run m run r s =
      let m_rises = rising-filtered (λ e. test e.0) m r in
      let run_rises = rising-filtered (λ e. test e.0) run s in
      same_map (passing test (with_run m run)) (with_run (passing test m) (passing test run)) (rising-filtered (λ e. test e.0) (with_run m run) (rising-with_run m run r)) (rising-with_run (passing test m) (passing test run) m_rises)
      (λ q.
      value_at-passing test (with_run m run) q
      ∙ ap (λ (o : Option V). cond (test q) o None) (value_at-with_run m run q r s)
      ∙ said_passing (test q) (value_at q run) (value_at q m)
      ∙ ap (λ (o : Option (Option V)). change_or o (cond (test q) (value_at q m) None)) (sym (value_at-passing test run q))
      ∙ ap (λ (o : Option V). change_or (value_at q (passing test run)) o) (sym (value_at-passing test m q))
      ∙ sym (value_at-with_run (passing test m) (passing test run) q m_rises run_rises))

  asserted_by : (b : Bool) (c : List ℕ × Option V) (cs : List (List ℕ × Option V)) (rest : List (List ℕ × Option (Option V))) → rest ≡ asserted cs → cond b ((c.0, Some c.1) ∷ rest) rest ≡ asserted (cond b (c ∷ cs) cs)
  asserted_by true c cs rest h = ap (λ (x : List (List ℕ × Option (Option V))). (c.0, Some c.1) ∷ x) h
  asserted_by false c cs rest h = h

  passing-asserted : (run : List (List ℕ × Option V)) → passing test (asserted run) ≡ asserted (passing test run)
  passing-asserted [] = refl
  passing-asserted (c ∷ cs) = asserted_by (test c.0) c (passing test cs) (passing test (asserted cs)) (passing-asserted cs)

all_rise : {V : Type 0} (runs : List (List (List ℕ × Option V))) (base : List (List ℕ × V)) → AllByRecursion IsRising runs → IsRising base → AllRise runs base
all_rise [] base a r = r
all_rise (run ∷ runs) base a r = (a.0, all_rise runs base a.1 r)

each_rises : {V : Type 0} (runs : List (List (List ℕ × Option V))) (base : List (List ℕ × V)) → AllRise runs base → AllByRecursion IsRising runs × IsRising base
each_rises [] base a = (tt, a)
each_rises (run ∷ runs) base a = let rest = each_rises runs base a.1 in ((a.0, rest.0), rest.1)

module _ {V : Type 0} where
  pub joined_changes-rises : (runs : List (List (List ℕ × Option V))) → AllByRecursion IsRising runs → IsRising (joined_changes runs)
  unfolding IsStrictlySortedBy
  joined_changes-rises runs a = rising-joined_changes runs [] (all_rise runs [] a tt)

  -- the merged changes of runs
  pub passing-joined_changes : (test : List ℕ → Bool) (runs : List (List (List ℕ × Option V))) → AllByRecursion IsRising runs → passing test (joined_changes runs) ≡ joined_changes (map (passing test) runs)
  passing-joined_changes test [] a = refl
  passing-joined_changes test (run ∷ runs) a =
      passing-with_run test (joined_changes runs) (asserted run) (joined_changes-rises runs a.1) (rising-asserted run a.0)
      ∙ ap (λ (x : List (List ℕ × Option (Option V))). with_run (passing test (joined_changes runs)) x) (passing-asserted test run)
      ∙ ap (λ (x : List (List ℕ × Option V)). with_run x (asserted (passing test run))) (passing-joined_changes test runs a.1)

  -- ---- the lists of a page

  -- the entries of a page that pass, from the entries of its lists that pass
  pub passing-entries : (test : List ℕ → Bool) (p : Layers V) → IsInOrder p → with_run (passing test p.base) (joined_changes (map (passing test) p.runs)) ≡ passing test (entries_of p)
  passing-entries test p a =
      let each = each_rises p.runs p.base a in
      ap (λ (x : List (List ℕ × Option V)). with_run (passing test p.base) x) (sym (passing-joined_changes test p.runs each.0))
      ∙ sym (passing-with_run test p.base (joined_changes p.runs) each.1 (joined_changes-rises p.runs each.0))
      ∙ ap (λ (x : List (List ℕ × V)). passing test x) (entries-joined_changes p.runs p.base a)
