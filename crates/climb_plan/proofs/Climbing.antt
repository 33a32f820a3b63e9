-- A level of a climb, installed under the levels above it, which were installed before.
use Rattle.std.specs.Prelude.{◌≡◌, ℕ, Bool, true, false, nat_eq, List, [], ◌∷◌, ◌++◌, map, flat_map, drop, None}
use Rattle.std.proofs.Common.{refl, sym, ap, ◌∙◌, subst, inl, inr}
use Rattle.std.specs.List.{AllByRecursion}
use Rattle.std.proofs.lemmas.Bool.{or_parts, true_from_ne_false}
use Rattle.keys.specs.declared.settings.Settings.{Settings}
use Rattle.index_page.specs.Page.{Page, PageOfKind}
use Rattle.index_page.specs.Page.PageOfKind.{Index}
use Rattle.index_page.proofs.ListLemmas.{all_apart, all_weaker}
use Rattle.mapping.specs.Levels.{Placed, pids, all_pids, top_pid}
use Rattle.mapping.specs.FreshPids.{is_among}
use Rattle.mapping.specs.Outdate.{outdate_all}
use Rattle.mapping.specs.Proper.{AreRisingPids, Stacked}
use Rattle.mapping.specs.Table.{Mapping, pids_in_use, place_of}
use Rattle.mapping.specs.TreeInMemory.{TreeInMemory}
use Rattle.mapping.proofs.LevelLemmas.{pids-append}
use Rattle.mapping.proofs.PidLemmas.{all_among, among_apart, among_either}
use Rattle.page_runs.specs.Updated.{Updated}
use Rattle.split_plan.specs.UpdatedLevel.{placed_of}
use Rattle.split_plan.specs.Change.{Change, fresh, new_of, fresh_of, all_new, all_fresh, all_outdated}
use Rattle.climb_plan.specs.Changing.{AreHome, same_page}
use Rattle.climb_plan.specs.Climb.{Climbed, climb}
use Rattle.climb_plan.specs.HasClimbed.{HasClimbed}
use Rattle.climb_plan.proofs.ChangingOutdated.{updated_pids-placed}
use Rattle.climb_plan.proofs.InstalledLevel.{HasLevel}
use Rattle.climb_plan.proofs.InstalledPages.{AreApart, not_among_from}
use Rattle.climb_plan.proofs.Untouched.{as_they_were, climb_same, none_outdated}
use Rattle.climb_plan.proofs.Installed.{updated_pids}
use Rattle.climb_plan.proofs.LevelParts.{level_of}

module _ {V : Type 0} where
  -- ---- nothing is touched

  pub placed_same : (ps : List (Placed V)) → placed_of (map same_page ps) ≡ ps
  placed_same [] = refl
  placed_same (p ∷ ps) = ap (λ (qs : List (Placed V)). p ∷ qs) (placed_same ps)

  stays_there : (used : List ℕ) (i : ℕ) (of : Page V → PageOfKind) (t : TreeInMemory) (ps : List (Placed V)) (ups : List (List (Placed ℕ)))
      → AreHome of t.table ps → AllByRecursion (AreHome Index t.table) ups → AreRisingPids (pids_in_use t.table) → t.root ≡ top_pid ps ups
      → HasClimbed of t t (level_of (map same_page ps) ups used i) (as_they_were ps ups)
  stays_there used i of t ps ups h k r e =
      let olds : all_pids (placed_of (map same_page ps)) ups ≡ all_pids ps ups = ap (λ (qs : List (Placed V)). all_pids qs ups) (placed_same ps) in
      record {
        level = h;
        above = k;
        gone = λ n a b. absurd (let c : is_among n (all_pids ps ups) ≡ true = ap (λ (ns : List ℕ). is_among n ns) (sym olds) ∙ a in cc);
        others = λ n a b. refl;
        rising = r;
        logged = sym (none_outdated t.table.logged);
        root = e;
        height = refl;
      }

  -- levels none of whose pages got a run are unchanged
  pub untouched-climbed : (s : Settings) (used : List ℕ) (i : ℕ) (of : Page V → PageOfKind) (t : TreeInMemory) (ps : List (Placed V)) (ups : List (List (Placed ℕ)))
      → Stacked ps ups → AreHome of t.table ps → AllByRecursion (AreHome Index t.table) ups → AreRisingPids (pids_in_use t.table) → t.root ≡ top_pid ps ups
      → HasClimbed of t t (level_of (map same_page ps) ups used i) (climb s used i (map same_page ps) ups)
  untouched-climbed s used i of t ps ups o h k r e =
      subst (λ (c : Climbed V). HasClimbed of t t (level_of (map same_page ps) ups used i) c) (sym (climb_same s used i ps ups o)) (stays_there used i of t ps ups h k r e)

module _ {V : Type 0} where
  -- ---- the pids of fresh pages are among those of the new ones

  not_after : (n : ℕ) (ps : List (Placed V)) → is_among n (pids ps) ≡ false → is_among n (pids (drop 1 ps)) ≡ false
  not_after n [] h = h
  not_after n (p ∷ ps) h = (or_parts (nat_eq n p.pid) (is_among n (pids ps)) h).1

  not_in_both : (n : ℕ) (ps qs : List (Placed V)) → is_among n (pids ps) ≡ false → is_among n (pids qs) ≡ false → is_among n (pids (ps ++ qs)) ≡ false
  not_in_both n ps qs a b = ap (λ (ns : List ℕ). is_among n ns) (pids-append ps qs) ∙ not_among_from n (pids ps) (pids qs) a b

  not_in_either : (n : ℕ) (ps qs : List (Placed V)) → is_among n (pids (ps ++ qs)) ≡ false → (is_among n (pids ps) ≡ false) × (is_among n (pids qs) ≡ false)
  not_in_either n ps qs h = among_apart n (pids ps) (pids qs) (ap (λ (ns : List ℕ). is_among n ns) (sym (pids-append ps qs)) ∙ h)

  not_fresh_here : (n : ℕ) (cs : List (Change V)) → is_among n (pids (new_of cs)) ≡ false → is_among n (pids (fresh_of cs)) ≡ false
  not_fresh_here n [] h = h
  not_fresh_here n (c ∷ cs) h =
      let r = not_in_either n c.pages (new_of cs) h in
      not_in_both n (fresh c) (fresh_of cs) (not_after n c.pages r.0) (not_fresh_here n cs r.1)

  -- a pid that no new page has isn't a fresh one's
  pub not_fresh : (n : ℕ) (css : List (List (Change V))) → is_among n (pids (all_new css)) ≡ false → is_among n (pids (all_fresh css)) ≡ false
  not_fresh n [] h = h
  not_fresh n (cs ∷ css) h =
      let r = not_in_either n (new_of cs) (all_new css) h in
      not_in_both n (fresh_of cs) (all_fresh css) (not_fresh_here n cs r.0) (not_fresh n css r.1)

  pub fresh_is_new : (n : ℕ) (css : List (List (Change V))) → is_among n (pids (all_fresh css)) ≡ true → is_among n (pids (all_new css)) ≡ true
  fresh_is_new n css h = true_from_ne_false (is_among n (pids (all_new css))) (λ e. let f : is_among n (pids (all_fresh css)) ≡ false = not_fresh n css e in cc)

  -- ---- a level is installed under others

  -- pages whose places stayed are still in the table
  pub still_home : (of : Page V → PageOfKind) (before after : Mapping PageOfKind) (ps : List (Placed V)) → AllByRecursion (λ n. place_of after n ≡ place_of before n) (pids ps) → AreHome of before ps → AreHome of after ps
  still_home of before after [] a h = tt
  still_home of before after (p ∷ ps) a h = (a.0 ∙ h.0, still_home of before after ps a.1 h.1)

pub still_home_above : (before after : Mapping PageOfKind) (ls : List (List (Placed ℕ))) → AllByRecursion (λ n. place_of after n ≡ place_of before n) (flat_map pids ls) → AllByRecursion (AreHome Index before) ls → AllByRecursion (AreHome Index after) ls
still_home_above before after [] a h = tt
still_home_above before after (l ∷ ls) a h =
    let r = all_apart (λ n. place_of after n ≡ place_of before n) (pids l) (flat_map pids ls) a in
    (still_home Index before after l r.0 h.0, still_home_above before after ls r.1 h.1)

module _ {V : Type 0} where
  -- a table that differs from another one only at the level's pids may be used in its place
  pub has_level_from : (of : Page V → PageOfKind) (like before after : Mapping PageOfKind) (ws : List (Updated V)) (new fresh : List (Placed V)) → ((n : ℕ) → is_among n (updated_pids ws) ≡ false → place_of like n ≡ place_of before n)
      → HasLevel of like after ws new fresh → HasLevel of before after ws new fresh
  has_level_from of like before after ws new fresh same l =
      record { home = l.home; freed = l.freed; others = λ n a b. l.others n a b ∙ same n a }

module _ {V : Type 0} (of : Page V → PageOfKind) (below before after : Mapping PageOfKind) (ws : List (Updated V)) (css : List (List (Change V))) (olds : List ℕ) (ls : List (List (Placed ℕ)))
    (level : HasLevel of before after ws (all_new css) (all_fresh css)) where
  -- the levels above stay in the table, if they share no pid with the level
  pub above_stay : AreApart (flat_map pids ls) (updated_pids ws) → AreApart (flat_map pids ls) (pids (all_new css)) → AllByRecursion (AreHome Index before) ls → AllByRecursion (AreHome Index after) ls
  above_stay a b h =
      let ns : List ℕ = flat_map pids ls in
      still_home_above before after ls (all_weaker (λ n. is_among n ns ≡ true) (λ n. place_of after n ≡ place_of before n) (λ n e. level.others n (a n e) (not_fresh n css (b n e))) ns (all_among ns)) h

  gone_by : (b : Bool) (n : ℕ) → is_among n (updated_pids ws) ≡ b → (b ≡ false → place_of before n ≡ None) → is_among n (pids (all_new css)) ≡ false → place_of after n ≡ None
  gone_by true n e h k = level.freed n e k
  gone_by false n e h k = level.others n e (not_fresh n css k) ∙ h refl

  among_upper : (n : ℕ) → is_among n (pids (placed_of ws) ++ olds) ≡ true → is_among n (updated_pids ws) ≡ false → is_among n olds ≡ true
  among_upper n h e =
      elim (among_either n (pids (placed_of ws)) olds h) [
        | inl a ↦ absurd (let c : is_among n (updated_pids ws) ≡ true = ap (λ (ns : List ℕ). is_among n ns) (updated_pids-placed ws) ∙ a in cc)
        | inr b ↦ b
      ]

  -- a pid of this level or of one above that no page has now has no place
  pub gone_joined : ((n : ℕ) → is_among n olds ≡ true → is_among n (flat_map pids ls) ≡ false → place_of before n ≡ None)
      → (n : ℕ) → is_among n (pids (placed_of ws) ++ olds) ≡ true → is_among n (pids (all_new css) ++ flat_map pids ls) ≡ false → place_of after n ≡ None
  gone_joined h n a b =
      let r = among_apart n (pids (all_new css)) (flat_map pids ls) b in
      gone_by (is_among n (updated_pids ws)) n refl (λ e. h n (among_upper n a e) r.1) r.0

  -- and a pid of none of them has the place that it had
  pub others_joined : ((n : ℕ) → is_among n (updated_pids ws) ≡ false → is_among n (pids (all_fresh css)) ≡ false → is_among n olds ≡ false → is_among n (flat_map pids ls) ≡ false → place_of before n ≡ place_of below n)
      → (n : ℕ) → is_among n (pids (placed_of ws) ++ olds) ≡ false → is_among n (pids (all_new css) ++ flat_map pids ls) ≡ false → place_of after n ≡ place_of below n
  others_joined h n a b =
      let q = among_apart n (pids (placed_of ws)) olds a in
      let r = among_apart n (pids (all_new css)) (flat_map pids ls) b in
      let own : is_among n (updated_pids ws) ≡ false = ap (λ (ns : List ℕ). is_among n ns) (updated_pids-placed ws) ∙ q.0 in
      let fresh : is_among n (pids (all_fresh css)) ≡ false = not_fresh n css r.0 in
      level.others n own fresh ∙ h n own fresh q.1 r.1

-- ---- what goes from one tree to the next

-- before a climb continues above a level, fresh pids get places, and parents their runs: all else stays
pub record IsMadeReady {V : Type 0} (before after : TreeInMemory) (ws : List (Updated V)) (fresh : List (Placed V)) (touched : List ℕ) : Type 0 where
  pub others : (n : ℕ) → is_among n (updated_pids ws) ≡ false → is_among n (pids fresh) ≡ false → is_among n touched ≡ false → place_of after.table n ≡ place_of before.table n
  pub logged : after.table.logged ≡ before.table.logged
  pub height : after.height ≡ before.height

-- after the levels above are there, the new pages of a level are installed
pub record IsLevelInstalled {V : Type 0} (of : Page V → PageOfKind) (before after : TreeInMemory) (ws : List (Updated V)) (css : List (List (Change V))) : Type 0 where
  pub level : HasLevel of before.table after.table ws (all_new css) (all_fresh css)
  pub rising : AreRisingPids (pids_in_use after.table)
  pub logged : after.table.logged ≡ outdate_all (all_outdated css) before.table.logged
