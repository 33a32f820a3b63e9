-- The highest level has climbed after levels were added above it, and after it is installed.
use Rattle.std.specs.Prelude.{◌≡◌, ℕ, ◌+◌, Bool, true, false, ◌||◌, nat_eq, List, [], ◌∷◌, ◌++◌, flat_map, drop, length}
use Rattle.std.proofs.Common.{refl, sym, ap, ◌∙◌, arith, append-nil, inl, inr}
use Rattle.std.specs.List.{AllByRecursion}
use Rattle.std.proofs.lemmas.Bool.{eqb-true, eq-eqb, false_from_ne_true}
use Rattle.std.proofs.lemmas.List.{length-map}
use Rattle.keys.specs.declared.settings.Settings.{Settings}
use Rattle.index_page.specs.Page.{Page, PageOfKind}
use Rattle.index_page.specs.Page.PageOfKind.{Index}
use Rattle.mapping.specs.Levels.{Placed, name, names, pids, all_pids, top_pid}
use Rattle.mapping.specs.FreshPids.{is_among, IsNeverUnused}
use Rattle.mapping.specs.Outdate.{outdate_all}
use Rattle.mapping.specs.Proper.{Distinct, Stacked}
use Rattle.mapping.specs.Tree.{Logged}
use Rattle.mapping.specs.TreeInMemory.{TreeInMemory}
use Rattle.mapping.proofs.PidLemmas.{among_either_by}
use Rattle.page_runs.specs.Updated.{Updated}
use Rattle.split_plan.specs.UpdatedLevel.{placed_of}
use Rattle.split_plan.specs.Change.{Change, remade, changes, all_new, all_fresh, all_outdated}
use Rattle.split_plan.proofs.ChangeLemmas.{remade_begins}
use Rattle.split_plan.proofs.PidLemmas.{distinct_renewed}
use Rattle.split_plan.proofs.Renewed.{Renewed}
use Rattle.climb_plan.specs.Changing.{AreHome}
use Rattle.climb_plan.specs.Climb.{climb, grown_levels}
use Rattle.climb_plan.specs.HasClimbed.{HasClimbed}
use Rattle.climb_plan.proofs.InstalledPages.{AreApart, turned, distinct_apart}
use Rattle.climb_plan.proofs.Pids.{renewed-climb}
use Rattle.climb_plan.proofs.Climbing.{IsMadeReady, IsLevelInstalled, fresh_is_new, above_stay, gone_joined, others_joined}
use Rattle.climb_plan.proofs.Installed.{updated_pids}
use Rattle.climb_plan.proofs.LevelParts.{level_of}

-- ---- the highest level

module _ {V : Type 0} where
  first_stays_by : (ps : List (Placed V)) (m : List ℕ × ℕ) (ms : List (List ℕ × ℕ)) → names ps ≡ m ∷ ms → is_among m.1 (pids ps) ≡ true
  first_stays_by [] m ms e = absurd (cc)
  first_stays_by (p ∷ ps) m ms e = let here : name p ≡ m = cc in ap (λ (b : Bool). b || is_among m.1 (pids ps)) (eq-eqb m.1 p.pid (ap (λ (x : List ℕ × ℕ). x.1) (sym here)))

  -- the page of the highest level keeps its pid, which one of those that are made of it has
  top_stays : (s : Settings) (used : List ℕ) (i n : ℕ) (ws : List (Updated V)) → length ws ≡ 1 → is_among n (updated_pids ws) ≡ true → is_among n (pids (all_new (changes s used i (ws ∷ []) ∷ []))) ≡ true
  top_stays s used i n [] l e = absurd (omega arith)
  top_stays s used i n (w ∷ []) l e =
      let new : List (Placed V) = remade s used i (w ∷ []) in
      let own : is_among w.placed.pid (pids new) ≡ true = first_stays_by new (name w.placed) (names (drop 1 new)) (remade_begins s used i w []) in
      let one : n ≡ w.placed.pid = elim (among_either_by (nat_eq n w.placed.pid) false e) [ inl a ↦ eqb-true n w.placed.pid a | inr b ↦ absurd (cc) ] in
      let only : all_new (changes s used i ((w ∷ []) ∷ []) ∷ []) ≡ new = append-nil (new ++ []) ∙ append-nil new in
      ap (λ (ps : List (Placed V)). is_among n (pids ps)) only ∙ ap (λ (m : ℕ). is_among m (pids new)) one ∙ own
  top_stays s used i n (w ∷ v ∷ ws) l e = absurd (omega arith)

module _ {V : Type 0} (s : Settings) (used : List ℕ) (i : ℕ) (ws : List (Updated V)) where
  -- the new pages of the top page, and the levels that are added above it
  abbrev pub made_on_top : List (List (Change V))
  made_on_top = changes s used i (ws ∷ []) ∷ []

  abbrev pub grown_above : List (List (Placed ℕ))
  grown_above = grown_levels (length (all_new made_on_top)) s used (i + length (all_fresh made_on_top)) (all_new made_on_top)

  module _ (one : Stacked (placed_of ws) []) (never : AllByRecursion (IsNeverUnused used) (all_pids (placed_of ws) [])) where
    one_page : length ws ≡ 1
    one_page = sym (length-map ws (λ (w : Updated V). w.placed)) ∙ one

    only_distinct : (ps : List (Placed V)) → length ps ≡ 1 → Distinct (all_pids ps [])
    only_distinct [] e = tt
    only_distinct (p ∷ []) e = (tt, tt)
    only_distinct (p ∷ q ∷ ps) e = absurd (omega arith)

    abbrev renewed_top : (k : ℕ) × Renewed used i k (all_pids (placed_of ws) []) (pids (all_new made_on_top) ++ flat_map pids grown_above)
    renewed_top = renewed-climb s used i ws (placed_of ws) [] refl one

    grown_new : AreApart (flat_map pids grown_above) (pids (all_new made_on_top))
    grown_new =
        let d : Distinct (pids (all_new made_on_top) ++ flat_map pids grown_above) = distinct_renewed renewed_top.1 never (only_distinct (placed_of ws) one) in
        turned (pids (all_new made_on_top)) (flat_map pids grown_above) (distinct_apart (pids (all_new made_on_top)) (flat_map pids grown_above) d).0

    grown_apart : AreApart (flat_map pids grown_above) (updated_pids ws)
    grown_apart n e =
        false_from_ne_true (is_among n (updated_pids ws)) (λ a. let b : is_among n (pids (all_new made_on_top)) ≡ true = top_stays s used i n ws one_page a in let c : is_among n (pids (all_new made_on_top)) ≡ false = grown_new n e in absurd (cc))

    -- the levels that grow don't touch it, nor its fresh pids
    pub own_not_grown : AreApart (updated_pids ws) (flat_map pids grown_above)
    own_not_grown = turned (flat_map pids grown_above) (updated_pids ws) grown_apart

    pub fresh_not_grown : AreApart (pids (all_fresh made_on_top)) (flat_map pids grown_above)
    fresh_not_grown n e = turned (flat_map pids grown_above) (pids (all_new made_on_top)) grown_new n (fresh_is_new n made_on_top e)

    -- the highest level has climbed after levels have grown above it, and it is installed
    pub top-climbed : (of : Page V → PageOfKind) (start ready after : TreeInMemory) → IsMadeReady start ready ws (all_fresh made_on_top) (flat_map pids grown_above) → AllByRecursion (AreHome Index ready.table) grown_above
        → IsLevelInstalled of ready after ws made_on_top → after.root ≡ top_pid (all_new made_on_top) grown_above → after.height ≡ ready.height + length grown_above → HasClimbed of start after (level_of ws [] used i) (climb s used i ws [])
    top-climbed of start ready after r c l e h = record {
      level = l.level.home;
      above = above_stay of start.table ready.table after.table ws made_on_top [] grown_above l.level grown_apart grown_new c;
      gone = gone_joined of start.table ready.table after.table ws made_on_top [] grown_above l.level (λ n a b. absurd (cc));
      others = others_joined of start.table ready.table after.table ws made_on_top [] grown_above l.level (λ n p q a b. r.others n p q b);
      rising = l.rising;
      logged = l.logged ∙ ap (λ (ls : List (ℕ × Logged)). outdate_all (all_outdated made_on_top) ls) r.logged;
      root = e;
      height = heights after.height ready.height start.height (length grown_above) h r.height;
    }
      where
        heights : (t3 t1 t0 n : ℕ) → t3 ≡ t1 + n → t1 ≡ t0 → t3 + 0 ≡ t0 + n
        heights t3 t1 t0 n e f = omega arith
