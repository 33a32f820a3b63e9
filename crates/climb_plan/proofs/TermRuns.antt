-- Lemmas on parents when only some of them get a run, and on these parents after their runs.
use Rattle.std.specs.Prelude.{◌≡◌, ◌≢◌, ℕ, suc, ◌+◌, false, nat_eq, List, [], ◌∷◌, map, take, drop, length, Option, Some, None}
use Rattle.std.proofs.Common.{refl, sym, ap, ◌∙◌, arith}
use Rattle.std.specs.List.{AllByRecursion}
use Rattle.std.proofs.lemmas.Bool.{or_from, eqb-true, false_from_ne_true}
use Rattle.keys.specs.declared.settings.Settings.{Settings}
use Rattle.index_page.specs.Page.{Page, PageOfKind}
use Rattle.mapping.specs.Levels.{Placed, entries, pids}
use Rattle.mapping.specs.FreshPids.{is_among}
use Rattle.mapping.specs.Table.{Mapping, place_of}
use Rattle.mapping.specs.Proper.{Distinct}
use Rattle.page_runs.specs.Updated as runs
use Rattle.page_runs.specs.Updated.{Updated, is_thin}
use Rattle.split_plan.specs.Groups.{groups}
use Rattle.split_plan.specs.UpdatedLevel.{updated_parents}
use Rattle.split_plan.specs.Change.{Change, changes, family_changes, fresh_of}
use Rattle.split_plan.specs.Terms.{terms}
use Rattle.climb_plan.specs.Climb.{families}
use Rattle.climb_plan.specs.Changing.{AreSeen, page_seen, Changing, groups_to_rewrite, with_changing, changing_families, parents_of, changing_changes}
use Rattle.climb_plan.specs.Changing.AreSeen.{updated, at_home}
use Rattle.climb_plan.proofs.ParentRuns.AreRunsOf.{termed, untermed}
use Rattle.climb_plan.proofs.ChangingGroups.{AreAlike, alike_rewritten, alike_terms}
use Rattle.climb_plan.proofs.ParentRuns.{AreRunsOf}

-- ---- only parents of families that change get a run

-- runs for the pages of a level
abbrev RunsOf : Type 0 → Type 0
RunsOf V = List (List (List ℕ × Option V))

module _ {V : Type 0} where
  -- one more parent, whose family has these groups that are rewritten
  termed_step : (gs : List (List (Updated V))) (s : Settings) (used : List ℕ) (i : ℕ) (p : Placed ℕ) (ps : List (Placed ℕ)) (cs : List (Change V)) (later : ℕ → RunsOf ℕ) (chs : List (Changing V)) → AreAlike cs (changes s used i gs)
      → ((j : ℕ) → AreRunsOf ps (later j) (parents_of chs) (map terms (changing_changes s used j chs)))
      → (let all : List (Changing V) = with_changing gs (record { parent = p; groups = gs }) chs in AreRunsOf (p ∷ ps) (terms cs ∷ later (i + length (fresh_of cs))) (parents_of all) (map terms (changing_changes s used i all)))
  termed_step [] s used i p ps cs later chs a ih =
      let nothing : terms cs ≡ [] = alike_terms cs [] a in
      let none : i + 0 ≡ i = omega arith in
      let count : i + length (fresh_of cs) ≡ i = ap (λ (qs : List (Placed V)). i + length qs) a.fresh ∙ none in
      rw (nothing, count) (untermed p (ih i))
  termed_step (g ∷ gs) s used i p ps cs later chs a ih =
      let same_terms : terms cs ≡ terms (changes s used i (g ∷ gs)) = alike_terms cs (changes s used i (g ∷ gs)) a in
      rw (same_terms, a.fresh) (termed p (terms (changes s used i (g ∷ gs))) (ih (i + length (fresh_of (changes s used i (g ∷ gs))))))

  -- the terms of all families are empty, except for those that change
  pub all_terms_given : (s : Settings) (used : List ℕ) (i : ℕ) (ps : List (Placed ℕ)) (ws : List (Updated V))
      → AreRunsOf ps (map terms (family_changes s used i (families ps ws))) (parents_of (changing_families ps ws)) (map terms (changing_changes s used i (changing_families ps ws)))
  all_terms_given s used i [] ws = AreRunsOf.none
  all_terms_given s used i (p ∷ ps) ws =
      let f : List (Updated V) = take (length (entries p)) ws in
      let more : List (Updated V) = drop (length (entries p)) ws in
      termed_step (groups_to_rewrite f) s used i p ps (changes s used i (groups is_thin f)) (λ j. map terms (family_changes s used j (families ps more))) (changing_families ps more) (alike_rewritten s used i (groups is_thin f)) (λ j. all_terms_given s used j ps more)

-- ---- pages after their runs

module _ {V : Type 0} where
  -- there are as many runs as pages
  pub length-runs : {ps qs : List (Placed V)} {all rs : List (List (List ℕ × Option V))} → AreRunsOf ps all qs rs → length rs ≡ length qs
  length-runs (AreRunsOf.none) = refl
  length-runs (termed p run r) = ap (λ (n : ℕ). suc n) (length-runs r)
  length-runs (untermed p r) = length-runs r

  -- what holds of all pages holds of those that have a run
  pub all_termed : {ps qs : List (Placed V)} {all rs : List (List (List ℕ × Option V))} (P : Placed V → Type 0) → AreRunsOf ps all qs rs → AllByRecursion P ps → AllByRecursion P qs
  all_termed P (AreRunsOf.none) h = tt
  all_termed P (termed p run r) h = (h.0, all_termed P r h.1)
  all_termed P (untermed p r) h = all_termed P r h.1

  abbrev AreOther : ℕ → List (Placed V) → Type 0
  AreOther n ps = AllByRecursion (λ p. p.pid ≢ n) ps

  others : (n : ℕ) (ps : List (Placed V)) → AllByRecursion (λ m. m ≢ n) (pids ps) → AreOther n ps
  others n [] d = tt
  others n (p ∷ ps) d = (d.0, others n ps d.1)

  not_among : (n : ℕ) (ps : List (Placed V)) → AreOther n ps → is_among n (pids ps) ≡ false
  not_among n [] d = refl
  not_among n (p ∷ ps) d = or_from (nat_eq n p.pid) (is_among n (pids ps)) (false_from_ne_true (nat_eq n p.pid) (λ e. d.0 (sym (eqb-true n p.pid e)))) (not_among n ps d.1)

  -- each page that isn't among these is in the table
  abbrev pub AreHomeBut : (Page V → PageOfKind) → Mapping PageOfKind → List (Placed V) → List (Placed V) → Type 0
  AreHomeBut of t qs ps = AllByRecursion (λ p. is_among p.pid (pids qs) ≡ false → place_of t p.pid ≡ Some (Some (of p.page))) ps

  without_first : (of : Page V → PageOfKind) (t : Mapping PageOfKind) (q : Placed V) (qs ps : List (Placed V)) → AreOther q.pid ps → AreHomeBut of t (q ∷ qs) ps → AreHomeBut of t qs ps
  without_first of t q qs [] d h = tt
  without_first of t q qs (p ∷ ps) d h =
      let other : nat_eq p.pid q.pid ≡ false = false_from_ne_true (nat_eq p.pid q.pid) (λ e. d.0 (eqb-true p.pid q.pid e)) in
      (λ e. h.0 (or_from (nat_eq p.pid q.pid) (is_among p.pid (pids qs)) other e), without_first of t q qs ps d.1 h.1)

  -- if the pages that have a run are checked out and the others are in the table, those with a run are the pages seen
  pub seen_after_runs : {ps qs : List (Placed V)} {all rs : List (List (List ℕ × Option V))} (s : Settings) (of : Page V → PageOfKind) (t : Mapping PageOfKind) → AreRunsOf ps all qs rs → Distinct (pids ps) → AreHomeBut of t qs ps → AllByRecursion (λ q. place_of t q.pid ≡ Some None) qs
      → AreSeen of t (map (page_seen of) (updated_parents s qs rs)) (updated_parents s ps all)
  seen_after_runs s of t (AreRunsOf.none) d h a = AreSeen.none
  seen_after_runs {ps} s of t (termed {ps = more} {qs = qs} p run r) d h a =
      updated (runs.updated s p run) a.0 (seen_after_runs s of t r d.1 (without_first of t p qs more (others p.pid more d.0) h.1) a.1)
  seen_after_runs {ps} {qs} s of t (untermed {ps = more} p r) d h a =
      at_home p (h.0 (not_among p.pid qs (all_termed (λ q. q.pid ≢ p.pid) r (others p.pid more d.0)))) (seen_after_runs s of t r d.1 h.1 a)
