-- The leaves after their parts of the net run.
use Rattle.std.specs.Prelude.{◌≡◌, ℕ, ◌≤◌, Bool, true, false, cond, not, is_some, List, [], ◌∷◌, length, Option, Some, None}
use Rattle.std.specs.Ordering.{is_eq}
use Rattle.std.specs.List.{AllByRecursion}
use Rattle.std.specs.Map.{keys_of}
use Rattle.keys.specs.Order.{order}
use Rattle.keys.specs.OrderedMap.{value_at, with_pair, without}
use Rattle.keys.specs.Range.{is_within, in_range}
use Rattle.keys.specs.Step.{map_after, map_after_all}
use Rattle.keys.specs.declared.settings.Settings.{Settings}
use Rattle.keys.specs.declared.command.Command.{Command}
use Rattle.keys.specs.declared.command.Command.TheVariants.{Get, Put, Add, Del, Scan, Wipe}
use Rattle.index_page.specs.Range.{AreFrom}
use Rattle.index_page.specs.Rules.{OfCell, IsShortValue, IsShortChange}
use Rattle.index_page.proofs.ListLemmas.{all-append, all-filter}
use Rattle.index_page.proofs.RangeLemmas.{from_nothing}
use Rattle.index_page.proofs.PageLemmas.{all-with_pair, all-without}
use Rattle.mapping.specs.Levels.{Placed, entries, joined}
use Rattle.mapping.specs.Proper.{next_low, Tiled}
use Rattle.page_runs.specs.NetRun.{noted, noted_all, noted_by, touched, net_run}
use Rattle.page_runs.proofs.NetLemmas.{rising-net_run}
use Rattle.split_plan.specs.UpdatedLevel.{part_below, part_from, updated_leaves, placed_of}
use Rattle.split_plan.proofs.WorkedLemmas.{tiled-updated_leaves}
use Rattle.climb_plan.specs.Limits.{IsShortCommand, AreShort}
use Rattle.climb_plan.proofs.Sizes.{IsSmall, IsSmallUnlessFat, AreShortPairs, AreShortChanges, small-updated, short_entries}

-- ---- they are tiled

-- the net run is one for the first leaf, whose low key is the empty one
pub tiled-leaves : {A : Type 0} (s : Settings) (cs : List (Command A)) (ps : List (Placed (List ℕ))) → next_low ps None ≡ Some [] → Tiled ps None → Tiled (placed_of (updated_leaves s (net_run (joined ps) cs) ps)) None
tiled-leaves s cs [] e h = tt
tiled-leaves s cs (p ∷ ps) e h =
    let run : List (List ℕ × Option (List ℕ)) = net_run (joined (p ∷ ps)) cs in
    let least : p.page.low ≡ [] = cc in
    let from_low : AreFrom p.page.low (keys_of run) = rw least (from_nothing (keys_of run)) in
    tiled-updated_leaves s run p ps None h (record { rising = rising-net_run (joined (p ∷ ps)) cs; from = from_low; before = tt })

-- ---- they are within the settings

module _ (s : Settings) where
  -- pairs, and changes, of keys and values that are no longer than the settings allow
  abbrev ShortPairs : List (List ℕ × List ℕ) → Type 0
  ShortPairs m = AreShortPairs s (IsShortValue s) m

  abbrev ShortChanges : List (List ℕ × Option (List ℕ)) → Type 0
  ShortChanges run = AreShortChanges s (IsShortValue s) run

  either : {X : Type 0} (P : X → Type 0) (b : Bool) (x y : X) → P x → P y → P (cond b x y)
  either P true x y p q = p
  either P false x y p q = q

  short_put : (m : List (List ℕ × List ℕ)) (k v : List ℕ) → length k ≤ s.max_key → length v ≤ s.max_value → ShortPairs m → ShortPairs (with_pair m k v)
  short_put m k v l n a = all-with_pair (λ (e : List ℕ × List ℕ). IsShortChange s (IsShortValue s) (e.0, Some e.1)) m k v (record { key = l; cell = n }) a

  short_delete : (m : List (List ℕ × List ℕ)) (k : List ℕ) → ShortPairs m → ShortPairs (without m k)
  short_delete m k a = all-without (λ (e : List ℕ × List ℕ). IsShortChange s (IsShortValue s) (e.0, Some e.1)) m k a

  module _ {A : Type 0} where
    short-map_after : (m : List (List ℕ × List ℕ)) (c : Command A) → IsShortCommand s c → ShortPairs m → ShortPairs (map_after m c)
    short-map_after m (Get k) h a = a
    short-map_after m (Put k v) h a = short_put m k v h.0 h.1 a
    short-map_after m (Add k v) h a = either ShortPairs (is_some (value_at k m)) m (with_pair m k v) a (short_put m k v h.0 h.1 a)
    short-map_after m (Del k) h a = short_delete m k a
    short-map_after m (Scan lo hi limit) h a = a
    short-map_after m (Wipe lo hi) h a = all-filter (λ (e : List ℕ × List ℕ). IsShortChange s (IsShortValue s) (e.0, Some e.1)) (λ e. not (is_within lo hi e.0)) m a

    -- short commands leave a map of short pairs
    short-map_after_all : (m : List (List ℕ × List ℕ)) (cs : List (Command A)) → AreShort s cs → ShortPairs m → ShortPairs (map_after_all m cs)
    short-map_after_all m [] h a = a
    short-map_after_all m (c ∷ cs) h a = short-map_after_all (map_after m c) cs h.1 (short-map_after m c h.0 a)

  short_cell_by : (b : Bool) (v : List ℕ) (rest : Option (List ℕ)) → length v ≤ s.max_value → OfCell (IsShortValue s) rest → OfCell (IsShortValue s) (cond b (Some v) rest)
  short_cell_by true v rest h a = h
  short_cell_by false v rest h a = a

  short-value_at : (m : List (List ℕ × List ℕ)) (k : List ℕ) → ShortPairs m → OfCell (IsShortValue s) (value_at k m)
  short-value_at [] k a = tt
  short-value_at (e ∷ es) k a = short_cell_by (is_eq (order k e.0)) e.1 (value_at k es) a.0.cell (short-value_at es k a.1)

  short-noted : (after : List (List ℕ × List ℕ)) (run : List (List ℕ × Option (List ℕ))) (k : List ℕ) → length k ≤ s.max_key → ShortPairs after → ShortChanges run → ShortChanges (noted after run k)
  short-noted after run k l a r = all-with_pair (IsShortChange s (IsShortValue s)) run k (value_at k after) (record { key = l; cell = short-value_at after k a }) r

  short-noted_all : (after : List (List ℕ × List ℕ)) (run : List (List ℕ × Option (List ℕ))) (ks : List (List ℕ)) → AllByRecursion (λ k. length k ≤ s.max_key) ks → ShortPairs after → ShortChanges run → ShortChanges (noted_all after run ks)
  short-noted_all after run [] l a r = r
  short-noted_all after run (k ∷ ks) l a r = short-noted_all after (noted after run k) ks l.1 a (short-noted after run k l.0 a r)

  short_keys : (m : List (List ℕ × List ℕ)) → ShortPairs m → AllByRecursion (λ k. length k ≤ s.max_key) (keys_of m)
  short_keys [] a = tt
  short_keys (e ∷ es) a = (a.0.key, short_keys es a.1)

  module _ {A : Type 0} where
    short-noted_by : (after before : List (List ℕ × List ℕ)) (c : Command A) (run : List (List ℕ × Option (List ℕ))) → IsShortCommand s c → ShortPairs after → ShortPairs before → ShortChanges run → ShortChanges (noted_by after before c run)
    short-noted_by after before (Get k) run h a b r = r
    short-noted_by after before (Put k v) run h a b r = short-noted after run k h.0 a r
    short-noted_by after before (Add k v) run h a b r = either ShortChanges (is_some (value_at k before)) run (noted after run k) r (short-noted after run k h.0 a r)
    short-noted_by after before (Del k) run h a b r = either ShortChanges (is_some (value_at k before)) (noted after run k) run (short-noted after run k h a r) r
    short-noted_by after before (Scan lo hi limit) run h a b r = r
    short-noted_by after before (Wipe lo hi) run h a b r =
        let there = all-filter (λ (e : List ℕ × List ℕ). IsShortChange s (IsShortValue s) (e.0, Some e.1)) (λ e. is_within lo hi e.0) before b in
        short-noted_all after run (keys_of (in_range lo hi before)) (short_keys (in_range lo hi before) there) a r

    short-touched : (after before : List (List ℕ × List ℕ)) (cs : List (Command A)) → AreShort s cs → ShortPairs after → ShortPairs before → ShortChanges (touched after before cs)
    short-touched after before [] h a b = tt
    short-touched after before (c ∷ cs) h a b = short-noted_by after before c (touched after (map_after before c) cs) h.0 a b (short-touched after (map_after before c) cs h.1 a (short-map_after before c h.0 b))

    -- the net run of short commands over short pairs is one of short changes
    short-net_run : (m : List (List ℕ × List ℕ)) (cs : List (Command A)) → AreShort s cs → ShortPairs m → ShortChanges (net_run m cs)
    short-net_run m cs h a = short-touched (map_after_all m cs) m cs h (short-map_after_all m cs h a) a

  short_leaves : (ps : List (Placed (List ℕ))) → AllByRecursion (IsSmall s (IsShortValue s)) ps → ShortPairs (joined ps)
  short_leaves [] h = tt
  short_leaves (p ∷ ps) h =
      all-append (λ (e : List ℕ × List ℕ). IsShortChange s (IsShortValue s) (e.0, Some e.1)) (entries p) (joined ps) (short_entries s (IsShortValue s) p h.0.fit.changes) (short_leaves ps h.1)

  small-updated_leaves : (run : List (List ℕ × Option (List ℕ))) (ps : List (Placed (List ℕ))) → AllByRecursion (IsSmall s (IsShortValue s)) ps → ShortChanges run → AllByRecursion (IsSmallUnlessFat s (IsShortValue s)) (updated_leaves s run ps)
  small-updated_leaves run [] h a = tt
  small-updated_leaves run (p ∷ []) h a = (small-updated s (IsShortValue s) p run h.0 a, tt)
  small-updated_leaves run (p ∷ q ∷ qs) h a = (
    small-updated s (IsShortValue s) p (part_below q.page.low run) h.0 (all-filter (IsShortChange s (IsShortValue s)) _ run a),
    small-updated_leaves (part_from q.page.low run) (q ∷ qs) h.1 (all-filter (IsShortChange s (IsShortValue s)) _ run a),
  )

  -- leaves within the settings stay within them after the net run of commands within them, except for fat leaves
  pub small-leaves : {A : Type 0} (cs : List (Command A)) (ps : List (Placed (List ℕ))) → AreShort s cs → AllByRecursion (IsSmall s (IsShortValue s)) ps → AllByRecursion (IsSmallUnlessFat s (IsShortValue s)) (updated_leaves s (net_run (joined ps) cs) ps)
  small-leaves cs ps h a = small-updated_leaves (net_run (joined ps) cs) ps a (short-net_run (joined ps) cs h (short_leaves ps a))
