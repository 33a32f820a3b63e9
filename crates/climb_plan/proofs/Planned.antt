-- The plan of a proper tree: its contents are the map after the commands, and it is proper.
use Rattle.std.specs.Prelude.{◌≡◌, ℕ, ◌<◌, ◌≤◌, Bool, true, false, cond, nat_le, List, [], ◌∷◌, length, Option, Some, None}
use Rattle.std.proofs.Common.{refl, sym, ap, ◌∙◌, subst, arith, leb-true}
use Rattle.std.specs.List.{AllByRecursion}
use Rattle.std.proofs.lemmas.Bool.{and_parts}
use Rattle.std.specs.Map.{keys_of}
use Rattle.keys.specs.Limits.{first_bad_field, is_in_limits}
use Rattle.keys.specs.Step.{map_after_all}
use Rattle.keys.specs.declared.settings.Settings.{Settings}
use Rattle.keys.specs.declared.settings.Field.{Field}
use Rattle.keys.specs.declared.settings.Field.TheVariants.{Fan}
use Rattle.keys.specs.declared.command.Command.{Command}
use Rattle.index_page.specs.Page.{first_key}
use Rattle.index_page.specs.Rules.{IsHeaded, Fits, IsShortChange, IsShortValue, IsAnyPid}
use Rattle.index_page.proofs.ListLemmas.{all_weaker, all_keys, all_keys-append}
use Rattle.mapping.specs.FreshPids.{IsNeverUnused}
use Rattle.mapping.specs.Tree.{Tree}
use Rattle.mapping.specs.Levels.{Placed, Levels, entries, joined, name, names, all_pids, levels_of, contents, all_pages, by_pid}
use Rattle.mapping.proofs.LevelLemmas.{levels_found}
use Rattle.mapping.proofs.TileLemmas.{Separators, rising-joined, some_page}
use Rattle.mapping.proofs.TableLemmas.{rising-by_pid, by_pid-holds, all_pids_hold}
use Rattle.mapping.proofs.PidLemmas.{used_is_never_unused}
use Rattle.mapping.specs.Proper.{next_low, Tiled, Stacked, Distinct, AreLevels, AllFit, IsProper, HoldsLevels}
use Rattle.page_runs.specs.NetRun.{net_run}
use Rattle.page_runs.proofs.NetLemmas.{with_run-net_run}
use Rattle.page_runs.specs.Updated.{Updated}
use Rattle.split_plan.specs.UpdatedLevel.{updated_leaves, placed_of}
use Rattle.split_plan.proofs.RunLemmas.{joined-updated_leaves, names-updated_leaves}
use Rattle.split_plan.proofs.PidLemmas.{distinct_renewed}
use Rattle.climb_plan.specs.Limits.{AreShort}
use Rattle.climb_plan.specs.Climb.{Climbed}
use Rattle.climb_plan.specs.Plan.{batch_climb, planned_levels, planned_tree}
use Rattle.climb_plan.proofs.Climbs.{joined-climb, next_low-climb, stacked-climb}
use Rattle.climb_plan.proofs.Pids.{renewed-climb}
use Rattle.climb_plan.proofs.Kept.{stacked-kept_levels, branched-kept_levels, distinct-kept_levels, all-kept_levels}
use Rattle.climb_plan.proofs.Sizes.{IsSmall, HaveShortLows, small-climb, short_entries, short_first_key}
use Rattle.climb_plan.proofs.Leaves.{tiled-leaves, small-leaves}

-- ---- settings

fan_by : (b : Bool) (fan : ℕ) (rest : Option Field) → is_in_limits 4 64 fan ≡ b → cond b rest (Some Fan) ≡ None → 4 ≤ fan
fan_by true fan rest e h = leb-true 4 fan (and_parts (nat_le 4 fan) (nat_le fan 64) e).0
fan_by false fan rest e h = absurd (cc)

-- settings that pass the check have a fan of several entries
pub several : (s : Settings) → first_bad_field s ≡ None → 1 < s.fan
several s h = let l : 4 ≤ s.fan = fan_by (is_in_limits 4 64 s.fan) s.fan _ refl h in omega arith

-- ---- the levels of a proper tree are within the settings, their low keys too

module _ (s : Settings) where
  small_index_page : (p : Placed ℕ) → Fits s IsAnyPid p.page → IsHeaded 1 p.page → IsSmall s IsAnyPid p
  small_index_page p f h =
      let l : length (first_key (entries p)) ≤ s.max_key = short_first_key s IsAnyPid (entries p) (short_entries s IsAnyPid p f.changes) in
      record { fit = f; low = subst (λ (k : List ℕ). length k ≤ s.max_key) h.first l }

  small_level : (ps : List (Placed ℕ)) → AllByRecursion (λ p. Fits s IsAnyPid p.page) ps → AllByRecursion (λ p. IsHeaded 1 p.page) ps → AllByRecursion (IsSmall s IsAnyPid) ps
  small_level [] f h = tt
  small_level (p ∷ ps) f h = (small_index_page p f.0 h.0, small_level ps f.1 h.1)

  small_above : {V : Type 0} (level : List (Placed V)) (ups : List (List (Placed ℕ))) → AllByRecursion (AllByRecursion (λ p. Fits s IsAnyPid p.page)) ups → Stacked level ups → AllByRecursion (AllByRecursion (IsSmall s IsAnyPid)) ups
  small_above level [] f o = tt
  small_above level (up ∷ ups) f o = (small_level up f.0 o.0.headed, small_above up ups f.1 o.1)

  short_keys : (ps : List (Placed ℕ)) → AllByRecursion (λ p. Fits s IsAnyPid p.page) ps → AllByRecursion (λ k. length k ≤ s.max_key) (keys_of (joined ps))
  short_keys [] f = tt
  short_keys (p ∷ ps) f =
      let P : List ℕ → Type 0 = λ k. length k ≤ s.max_key in
      all_keys-append P (entries p) (joined ps) (all_keys P (entries p) (all_weaker (λ (e : List ℕ × ℕ). IsShortChange s IsAnyPid (e.0, Some e.1)) (λ e. length e.0 ≤ s.max_key) (λ e h. h.key) (entries p) (short_entries s IsAnyPid p f.0.changes))) (short_keys ps f.1)

  module _ {V : Type 0} (IsShort : V → Type 0) where
    lows_named : (ps : List (Placed V)) (ns : Separators) → ns ≡ names ps → AllByRecursion (λ k. length k ≤ s.max_key) (keys_of ns) → HaveShortLows s IsShort ps
    lows_named [] ns e a = tt
    lows_named (p ∷ ps) [] e a = absurd (cc)
    lows_named (p ∷ ps) (n ∷ ns) e a =
        let here : n ≡ name p = cc in
        let rest : ns ≡ names ps = cc in
        (subst (λ (m : List ℕ × ℕ). length m.0 ≤ s.max_key) here a.0, lows_named ps ns rest a.1)

    only_low : (ps : List (Placed V)) → length ps ≡ 1 → next_low ps None ≡ Some [] → HaveShortLows s IsShort ps
    only_low [] n e = tt
    only_low (p ∷ []) n e = let l : p.page.low ≡ [] = cc in (rw l (omega arith), tt)
    only_low (p ∷ q ∷ ps) n e = absurd (omega arith)

    short_lows : (level : List (Placed V)) (ups : List (List (Placed ℕ))) → next_low level None ≡ Some [] → Stacked level ups → AllByRecursion (AllByRecursion (λ p. Fits s IsAnyPid p.page)) ups → HaveShortLows s IsShort level
    short_lows level [] e o f = only_low level o e
    short_lows level (up ∷ ups) e o f = lows_named level (joined up) o.0.linked (short_keys up f.0)

    small_pages : (ps : List (Placed V)) → AllByRecursion (λ p. Fits s IsShort p.page) ps → HaveShortLows s IsShort ps → AllByRecursion (IsSmall s IsShort) ps
    small_pages [] f l = tt
    small_pages (p ∷ ps) f l = (record { fit = f.0; low = l.0 }, small_pages ps f.1 l.1)

    fits_of : (ps : List (Placed V)) → AllByRecursion (IsSmall s IsShort) ps → AllByRecursion (λ p. Fits s IsShort p.page) ps
    fits_of ps h = all_weaker (IsSmall s IsShort) (λ p. Fits s IsShort p.page) (λ p a. a.fit) ps h

  all_fits : (ls : List (List (Placed ℕ))) → AllByRecursion (AllByRecursion (IsSmall s IsAnyPid)) ls → AllByRecursion (AllByRecursion (λ p. Fits s IsAnyPid p.page)) ls
  all_fits [] h = tt
  all_fits (l ∷ ls) h = (fits_of IsAnyPid l h.0, all_fits ls h.1)

-- ---- the levels after the commands

-- no pid of a proper tree is unused
pub never_unused : (s : Settings) (t : Tree) → IsProper s t → AllByRecursion (IsNeverUnused (keys_of t.pages)) (all_pids (levels_of t).level (levels_of t).above)
never_unused s t proper = all_pids_hold (IsNeverUnused (keys_of t.pages)) t.pages (used_is_never_unused (keys_of t.pages) proper.tree.rising) (levels_of t) proper.held

module _ {A : Type 0} (s : Settings) (t : Tree) (cs : List (Command A)) (fan : 1 < s.fan) (proper : IsProper s t) where
  abbrev leaves : List (Updated (List ℕ))
  leaves = updated_leaves s (net_run (contents t) cs) (levels_of t).level

  keep_names : names (placed_of leaves) ≡ names (levels_of t).level
  keep_names = names-updated_leaves s (net_run (contents t) cs) (levels_of t).level

  pub planned_are_levels : AreLevels (planned_levels s t cs)
  planned_are_levels =
      let l : Levels = levels_of t in
      let c : Climbed (List ℕ) = batch_climb s t cs in
      let tiled : Tiled (placed_of leaves) None = tiled-leaves s cs l.level proper.levels.first proper.levels.tiled in
      let stacked = stacked-climb s (keys_of t.pages) 0 leaves l.level l.above fan keep_names proper.levels.stacked tiled in
      let renewed = renewed-climb s (keys_of t.pages) 0 leaves l.level l.above keep_names proper.levels.stacked in
      let distinct : Distinct (all_pids c.tower.level c.tower.above) = distinct_renewed renewed.1 (never_unused s t proper) proper.levels.distinct in
      record {
        first = next_low-climb s (keys_of t.pages) 0 leaves l.above l.level keep_names proper.levels.stacked ∙ proper.levels.first;
        tiled = stacked.0;
        stacked = stacked-kept_levels c.tower.above c.tower.level stacked.1;
        top = branched-kept_levels c.tower.above c.tower.level stacked.1;
        distinct = distinct-kept_levels c.tower.level c.tower.above distinct;
      }

  -- the planned table has exactly these levels
  held : HoldsLevels (by_pid (all_pages (planned_levels s t cs))) (planned_levels s t cs)
  held = by_pid-holds (planned_levels s t cs) planned_are_levels.distinct

  pub levels_of_planned : levels_of (planned_tree s t cs) ≡ planned_levels s t cs
  levels_of_planned =
      let l : Levels = planned_levels s t cs in
      levels_found (by_pid (all_pages l)) l.level l.above held.leaves held.above planned_are_levels.stacked

  -- ---- its contents

  updated_contents : (ps : List (Placed (List ℕ))) → 0 < length ps → Tiled ps None → joined (placed_of (updated_leaves s (net_run (joined ps) cs) ps)) ≡ map_after_all (joined ps) cs
  updated_contents [] h d = absurd (omega arith)
  updated_contents (p ∷ ps) h d =
      joined-updated_leaves s (net_run (joined (p ∷ ps)) cs) p ps None d ∙ with_run-net_run (joined (p ∷ ps)) cs (rising-joined (p ∷ ps) None d)

  -- the plan's contents are the map after the commands
  pub contents_of_planned : contents (planned_tree s t cs) ≡ map_after_all (contents t) cs
  contents_of_planned =
      let l : Levels = levels_of t in
      ap (λ (x : Levels). joined x.level) levels_of_planned
      ∙ joined-climb s (keys_of t.pages) 0 leaves l.above l.level keep_names proper.levels.stacked
      ∙ updated_contents l.level (some_page l.level [] proper.levels.first) proper.levels.tiled

  -- ---- it is proper

  planned_fit : AreShort s cs → AllFit s (planned_levels s t cs)
  planned_fit short =
      let l : Levels = levels_of t in
      let c : Climbed (List ℕ) = batch_climb s t cs in
      let z : 0 < s.fan = omega arith in
      let small : AllByRecursion (IsSmall s (IsShortValue s)) l.level = small_pages s (IsShortValue s) l.level proper.fit.leaves (short_lows s (IsShortValue s) l.level l.above proper.levels.first proper.levels.stacked proper.fit.above) in
      let upper : AllByRecursion (AllByRecursion (IsSmall s IsAnyPid)) l.above = small_above s l.level l.above proper.fit.above proper.levels.stacked in
      let r = small-climb s (IsShortValue s) (keys_of t.pages) 0 leaves l.level l.above z keep_names proper.levels.stacked (small-leaves s cs l.level short small) upper in
      record {
        leaves = fits_of s (IsShortValue s) c.tower.level r.0;
        above = all-kept_levels (AllByRecursion (λ (p : Placed ℕ). Fits s IsAnyPid p.page)) c.tower.above (all_fits s c.tower.above r.1);
      }

  -- the plan of a proper tree is proper
  pub planned_is_proper : AreShort s cs → IsProper s (planned_tree s t cs)
  planned_is_proper short =
      let l : Levels = planned_levels s t cs in
      let e : l ≡ levels_of (planned_tree s t cs) = sym levels_of_planned in
      record {
        tree = record { rising = rising-by_pid (all_pages l); some = omega arith };
        held = subst (λ (x : Levels). HoldsLevels (by_pid (all_pages l)) x) e held;
        levels = subst (λ (x : Levels). AreLevels x) e planned_are_levels;
        fit = subst (λ (x : Levels). AllFit s x) e (planned_fit short);
      }
