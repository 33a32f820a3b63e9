-- Lemmas on an iteration over a leaf that searches for each next key, in either direction.
use Rattle.std.specs.Prelude.{◌≡◌, ℕ, Bool, true, false, not, cond, ◌&&◌, List, [], ◌∷◌, ◌++◌, length, map, slice_get, Option, Some, None, MatchOption, count_by}
use Rattle.std.proofs.Common.{refl, sym, ap, ◌∙◌, subst, Less}
use Rattle.std.specs.Ordering.{is_lt}
use Rattle.std.specs.List.{AllByRecursion, filter}
use Rattle.std.specs.List.Sorted.{IsStrictlySortedBy}
use Rattle.std.specs.Map.{keys_of}
use Rattle.std.specs.Option.{option_or}
use Rattle.keys.specs.Order.{order, IsRising}
use Rattle.keys.specs.Range.{is_below, is_before}
use Rattle.keys.proofs.MapLemmas.{IsBelowAll, below_all}
use Rattle.keys.proofs.Basics.{less_by}
use Rattle.keys.proofs.RangeLemmas.{rising-filtered}
use Rattle.delta_chain.specs.Layers.{Layers, with_run, entries_of, IsInOrder}
use Rattle.delta_chain.specs.Merging.{joined_changes}
use Rattle.delta_chain.proofs.LayerLemmas.{rising-entries_of}
use Rattle.page_search.specs.Floor.{floor}
use Rattle.scan.specs.Direction.{precedes, IsNext, in_turn, until, left_at, BeginsWith, IsNonePlace, IsNextPlace}
use Rattle.scan.specs.Edge.{is_beyond, beyond}
use Rattle.scan.specs.Search.{left_with, NamesNone, AreNamedFrom, IsPassed}
use Rattle.scan.specs.RankCounter.{PassesLower}
use Rattle.scan.specs.declared.direction.Direction.{Direction}
use Rattle.scan.specs.declared.direction.Direction.TheVariants.{Down}
use Rattle.scan.proofs.DirectionLemmas.{first_there, in_turn_next, same_place, none_until_earlier, none_until_not_after}
use Rattle.scan.proofs.LastLemmas.{each, before, none_passes, passes_none, passes_alike, none_before}
use Rattle.scan.proofs.LeafLemmas.{itself}
use Rattle.scan.proofs.PassingLemmas.{passing, passing-entries}
use Rattle.scan.proofs.PlaceLemmas.{begins_at_edge, at_end, at_next_key}
use Rattle.scan.proofs.RangeLemmas.{both_pass, near_by, next_holds, passing_pass}

module _ (d : Direction) (test : List ℕ → Bool) where
  -- a key that doesn't come before one beyond the edge is beyond it, too
  late_by : PassesLower test → (b : Bool) (k e : List ℕ) → precedes d k e ≡ b → is_beyond d test k ≡ true → precedes d e k ≡ false → is_beyond d test e ≡ true
  late_by l true k e h o n = near_by d test (is_beyond d test e) k e refl o h l
  late_by l false k e h o n = ap (λ (i : List ℕ). is_beyond d test i) (same_place d e k n h) ∙ o

  alike_by : PassesLower test → (b : Bool) (k e : List ℕ) → precedes d e k ≡ b → is_beyond d test k ≡ true → (is_beyond d test e && b) ≡ false → is_beyond d test e ≡ not b
  alike_by l true k e h o n = sym (and_true (is_beyond d test e)) ∙ n
    where
      and_true : (c : Bool) → (c && true) ≡ c
      and_true true = refl
      and_true false = refl
  alike_by l false k e h o n = late_by l (precedes d k e) k e refl o h

module _ {V : Type 0} where
  -- ---- the keys of a leaf's lists

  -- runs without a change that passes have no merged change that passes
  none_joined : (test : List ℕ → Bool) (runs : List (List (List ℕ × Option V))) → AllByRecursion (λ run. passing test run ≡ []) runs → joined_changes (map (passing test) runs) ≡ []
  none_joined test [] a = refl
  none_joined test (run ∷ runs) a =
      ap (λ (x : List (List ℕ × Option V)). joined_changes (x ∷ map (passing test) runs)) a.0 ∙ none_joined test runs a.1

  -- if no list has a pair that passes, the leaf has none
  none_of_lists : (test : List ℕ → Bool) (p : Layers V) → IsInOrder p → AllByRecursion (λ run. passing test run ≡ []) p.runs → passing test p.base ≡ [] → passing test (entries_of p) ≡ []
  none_of_lists test p a r b =
      sym (passing-entries test p a)
      ∙ ap (λ (x : List (List ℕ × V)). with_run x (joined_changes (map (passing test) p.runs))) b
      ∙ ap (λ (x : List (List ℕ × Option V)). with_run [] x) (none_joined test p.runs r)

  module _ (d : Direction) (test : List ℕ → Bool) where
    pub nothing_named : (p : Layers V) → IsInOrder p → NamesNone d test p → beyond d test (entries_of p) ≡ []
    nothing_named p a n = none_of_lists (λ j. is_beyond d test j) p a n.runs n.base

    none_until : (k : List ℕ) (p : Layers V) → IsInOrder p → AreNamedFrom d k test p → until d k (beyond d test (entries_of p)) ≡ []
    none_until k p a n =
        let both : List ℕ → Bool = λ j. is_beyond d test j && precedes d j k in
        both_pass (λ e. is_beyond d test e.0) (λ e. precedes d e.0 k) (entries_of p)
        ∙ none_of_lists both p a
        (each (λ (run : List (List ℕ × Option V)) (e : until d k (beyond d test run) ≡ []). sym (both_pass (λ c. is_beyond d test c.0) (λ c. precedes d c.0 k) run) ∙ e) p.runs n.runs)
        (sym (both_pass (λ e. is_beyond d test e.0) (λ e. precedes d e.0 k) p.base) ∙ n.base)

    -- the pairs beyond the edge are those that don't come before the next key of the lists
    pub from_named : PassesLower test → (k : List ℕ) (p : Layers V) → IsInOrder p → AreNamedFrom d k test p → beyond d test (entries_of p) ≡ filter (λ e. not (precedes d e.0 k)) (entries_of p)
    from_named l k p a n =
        let fail = none_passes (λ e. is_beyond d test e.0 && precedes d e.0 k) (entries_of p) (sym (both_pass (λ e. is_beyond d test e.0) (λ e. precedes d e.0 k) (entries_of p)) ∙ none_until k p a n) in
        passes_alike (λ e. is_beyond d test e.0) (λ e. not (precedes d e.0 k)) (entries_of p)
        (each (λ (e : List ℕ × V) (q : (is_beyond d test e.0 && precedes d e.0 k) ≡ false). alike_by d test l (precedes d e.0 k) k e.0 refl n.own q) (entries_of p) fail)

  -- ---- downward: the last pair up to a key

  abbrev NotAfter : List ℕ → List (List ℕ × V) → List (List ℕ × V)
  NotAfter k es = filter (λ e. not (is_below k e.0)) es

  floor_above_by : (o : Option (List ℕ × V)) (b : Bool) (j : List ℕ) (g f : List ℕ × V) → (o ≡ Some f → order j f.0 ≡ Less) → order j g.0 ≡ Less → option_or o (cond b None (Some g)) ≡ Some f → order j f.0 ≡ Less
  floor_above_by (Some x) b j g f ih l h = ih h
  floor_above_by None true j g f ih l h = absurd (cc)
  floor_above_by None false j g f ih l h = let same : g ≡ f = cc in subst (λ (x : List ℕ × V). order j x.0 ≡ Less) same l

  floor_above : (j k : List ℕ) (es : List (List ℕ × V)) (f : List ℕ × V) → IsBelowAll j (keys_of es) → floor k es ≡ Some f → order j f.0 ≡ Less
  floor_above j k [] f a h = absurd (cc)
  floor_above j k (g ∷ gs) f a h = floor_above_by (floor k gs) (is_lt (order k g.0)) j g f (λ e. floor_above j k gs f a.1 e) a.0 h

  all_above : (k : List ℕ) (es : List (List ℕ × V)) → IsBelowAll k (keys_of es) → NotAfter k es ≡ []
  all_above k [] a = refl
  all_above k (e ∷ es) a = rw a.0 (all_above k es a.1)

  floor_step : (o : Option (List ℕ × V)) (b : Bool) (k : List ℕ) (e : List ℕ × V) (es : List (List ℕ × V)) → floor k es ≡ o → is_below k e.0 ≡ b → IsRising (e ∷ es) → left_with Down o es ≡ NotAfter k es
      → left_with Down (option_or o (cond b None (Some e))) (e ∷ es) ≡ cond (not b) (e ∷ NotAfter k es) (NotAfter k es)
  unfolding IsStrictlySortedBy
  floor_step None true k e es h l r ih = sym (all_above k es (below_all k e.0 (keys_of es) (less_by (order k e.0) l) r.0))
  floor_step (Some f) true k e es h l r ih = absurd (never (before (Some f.0) es) f (ih ∙ all_above k es (below_all k e.0 (keys_of es) (less_by (order k e.0) l) r.0)))
    where
      never : (xs : List (List ℕ × V)) (x : List ℕ × V) → xs ++ x ∷ [] ≡ [] → ⊥
      never [] x h = cc
      never (y ∷ ys) x h = cc
  floor_step None false k e es h l r ih =
      ap (λ (b : Bool). cond b (e ∷ before (Some e.0) es) (before (Some e.0) es) ++ e ∷ []) (itself e.0)
      ∙ ap (λ (x : List (List ℕ × V)). x ++ e ∷ []) (passes_none (λ f. is_before (Some e.0) f.0) es (none_before (Some e.0) e.0 es (itself e.0) r.0))
      ∙ ap (λ (x : List (List ℕ × V)). e ∷ x) ih
  floor_step (Some f) false k e es h l r ih =
      ap (λ (b : Bool). cond b (e ∷ before (Some f.0) es) (before (Some f.0) es) ++ f ∷ []) (ap is_lt (floor_above e.0 k es f r.0 h))
      ∙ ap (λ (x : List (List ℕ × V)). e ∷ x) ih

  -- the last pair up to a key, and those before it, are those up to the key
  upto-floor : (k : List ℕ) (es : List (List ℕ × V)) → IsRising es → left_with Down (floor k es) es ≡ NotAfter k es
  unfolding IsStrictlySortedBy
  upto-floor k [] r = refl
  upto-floor k (e ∷ es) r = floor_step (floor k es) (is_below k e.0) k e es refl refl r (upto-floor k es r.1)

  pub nearest_down : (k : List ℕ) (p : Layers V) (o : Option (List ℕ × V)) → IsInOrder p → o ≡ floor k (entries_of p) → left_with Down o (entries_of p) ≡ filter (λ e. not (precedes Down e.0 k)) (entries_of p)
  nearest_down k p o a f = ap (λ (x : Option (List ℕ × V)). left_with Down x (entries_of p)) f ∙ upto-floor k (entries_of p) (rising-entries_of p a)

-- ---- the next key of the lists

-- by the place of the edge in a list
module _ {X : Type 0} (d : Direction) (test : List ℕ → Bool) (lower : PassesLower test) (es : List (List ℕ × X)) (r : IsRising es) (at : ℕ) (a : at ≡ count_by test (keys_of es)) where
  pub none_beyond : IsNonePlace d at (length es) → beyond d test es ≡ []
  none_beyond n = sym (begins_at_edge test lower d es at r a) ∙ at_end d es at n

  pub first_beyond : (here later : ℕ) (k : List ℕ) → IsNextPlace d at (length es) here later → slice_get (keys_of es) here ≡ Some k → (v : X) × BeginsWith d (k, v) (beyond d test es)
  first_beyond here later k p h =
      let n = at_next_key d es at here later k p h in
      (n.0, record { rest = left_at d later es; parts = subst (λ (x : List (List ℕ × X)). IsNext d x (k, n.0) (left_at d later es)) (begins_at_edge test lower d es at r a) n.1 })

abbrev Run : Type 0 → Type 0
Run V = List (List ℕ × Option V)

module _ (d : Direction) (test : List ℕ → Bool) where
  own_by : {X : Type 0} (e : List ℕ × X) (es : List (List ℕ × X)) → BeginsWith d e (beyond d test es) → is_beyond d test e.0 ≡ true
  own_by {X} e es b = next_holds (λ (x : List ℕ × X). is_beyond d test x.0 ≡ true) d e (beyond d test es) b.rest b.parts (passing_pass (λ (x : List ℕ × X). is_beyond d test x.0) es)

module _ {V : Type 0} (d : Direction) (test : List ℕ → Bool) where
  pub base_names_none : (p : Layers V) (base : List (List ℕ × V)) → p.runs ≡ [] → base ≡ p.base → beyond d test base ≡ [] → NamesNone d test p
  base_names_none p base e b n = record {
    runs = subst (λ (x : List (Run V)). AllByRecursion (λ run. beyond d test run ≡ []) x) (sym e) tt;
    base = ap (λ (x : List (List ℕ × V)). beyond d test x) (sym b) ∙ n;
  }

  pub base_names : (p : Layers V) (base : List (List ℕ × V)) (k : List ℕ) (v : V) → p.runs ≡ [] → base ≡ p.base → IsRising base → BeginsWith d (k, v) (beyond d test base) → AreNamedFrom d k test p
  base_names p base k v e b r n = record {
    own = own_by d test (k, v) base n;
    runs = subst (λ (x : List (Run V)). AllByRecursion (λ run. until d k (beyond d test run) ≡ []) x) (sym e) tt;
    base = ap (λ (x : List (List ℕ × V)). until d k (beyond d test x)) (sym b) ∙ (first_there d (k, v) (beyond d test base) n.rest (rising-filtered (λ x. is_beyond d test x.0) base r) n.parts).none_before;
  }

  abbrev With : Run V → Layers V → Layers V
  With run below = record { runs = run ∷ below.runs; base = below.base }

  -- a run without a key beyond the edge
  pub run_names_none : (p below : Layers V) (run : Run V) (X : Type 0) (f : X → List ℕ) (o : Option X) → p ≡ With run below → beyond d test run ≡ [] → MatchOption o (NamesNone d test below) (λ x. AreNamedFrom d (f x) test below) → MatchOption o (NamesNone d test p) (λ x. AreNamedFrom d (f x) test p)
  run_names_none p below run X f None e z n = subst (λ (q : Layers V). NamesNone d test q) (sym e) (record { runs = (z, n.runs); base = n.base })
  run_names_none p below run X f (Some x) e z n =
      subst (λ (q : Layers V). AreNamedFrom d (f x) test q) (sym e) (record { own = n.own; runs = (ap (λ (r : Run V). until d (f x) r) z, n.runs); base = n.base })

  module _ (p below : Layers V) (run : Run V) (c : List ℕ × Option V) (e : p ≡ With run below) (r : IsRising run) (n : BeginsWith d c (beyond d test run)) where
    none_before_own : until d c.0 (beyond d test run) ≡ []
    none_before_own = (first_there d c (beyond d test run) n.rest (rising-filtered (λ x. is_beyond d test x.0) run r) n.parts).none_before

    -- only the run has a key beyond the edge
    pub run_names_only : NamesNone d test below → AreNamedFrom d c.0 test p
    run_names_only m =
        subst (λ (q : Layers V). AreNamedFrom d c.0 test q) (sym e)
        (record {
          own = own_by d test c run n;
          runs = (none_before_own, each (λ (l : Run V) (z : beyond d test l ≡ []). ap (λ (x : Run V). until d c.0 x) z) below.runs m.runs);
          base = ap (λ (x : List (List ℕ × V)). until d c.0 x) m.base;
        })

    -- the run's next key doesn't come after that of the lists below
    pub run_names_first : (k : List ℕ) → AreNamedFrom d k test below → precedes d k c.0 ≡ false → AreNamedFrom d c.0 test p
    run_names_first k m q =
        subst (λ (x : Layers V). AreNamedFrom d c.0 test x) (sym e)
        (record {
          own = own_by d test c run n;
          runs = (none_before_own, each (λ (l : Run V) (z : until d k (beyond d test l) ≡ []). none_until_not_after d k c.0 (beyond d test l) q z) below.runs m.runs);
          base = none_until_not_after d k c.0 (beyond d test below.base) q m.base;
        })

    -- or it does
    pub run_names_later : (k : List ℕ) → AreNamedFrom d k test below → precedes d k c.0 ≡ true → AreNamedFrom d k test p
    run_names_later k m q =
        subst (λ (x : Layers V). AreNamedFrom d k test x) (sym e)
        (record {
          own = m.own;
          runs = (none_until_earlier d k c.0 (beyond d test run) q none_before_own, m.runs);
          base = m.base;
        })

-- ---- a step of the search

module _ {V : Type 0} where
  passed_alike : (d : Direction) (k : List ℕ) (test : List ℕ → Bool) (es : List (List ℕ × V)) → IsPassed d k test → AllByRecursion (λ e. is_beyond d test e.0 ≡ precedes d k e.0) es
  passed_alike d k test [] p = tt
  passed_alike d k test (e ∷ es) p = (p e.0, passed_alike d k test es p)

  -- the remaining pairs after a key are those beyond the edge at the key
  pub search_turn : (d : Direction) (e : List ℕ × V) (test : List ℕ → Bool) (es new : List (List ℕ × V)) → IsPassed d e.0 test → new ≡ beyond d test es → IsNext d (left_with d (Some e) es) e new
  search_turn d e test es new p h =
      in_turn_next d e (left_with d (Some e) es) new
      (ap (λ (x : List (List ℕ × V)). in_turn d (e ∷ []) x) (sym (h ∙ passes_alike (λ x. is_beyond d test x.0) (λ x. precedes d e.0 x.0) es (passed_alike d e.0 test es p))))
