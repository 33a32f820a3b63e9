-- A batch whose routes are known: the answers of its leaves, the tree, which is ready to climb, and how the batch is undone.
use Rattle.std.specs.Prelude.{◌≡◌, ◌⊎◌, ℕ, ◌+◌, ◌<◌, ◌≤◌, Bool, true, false, not, length, List, [], ◌∷◌, map, slice_get, None, Result, Ok, Err, OnErr}
use Rattle.std.proofs.Common.{refl, sym, ap, ◌∙◌, subst}
use Rattle.std.specs.List.{AllByRecursion, filter}
use Rattle.std.specs.Map.{keys_of}
use Rattle.std.specs.declared.alloc.Global.{Global}
use Rattle.keys.specs.Narrowed.{with_ends}
use Rattle.keys.specs.Step.{replies_to}
use Rattle.keys.specs.declared.command.Command.{Command}
use Rattle.keys.specs.declared.command.Reply.{Reply}
use Rattle.keys.specs.declared.fault.Fault.{Fault}
use Rattle.keys.specs.declared.fault.Fault.TheVariants.{NoMemory, Spent}
use Rattle.keys.specs.declared.settings.Settings.{Settings}
use Rattle.keys.specs.declared.version.Version.TheVariants.{One}
use Rattle.keys.proofs.NarrowedLemmas.{replies-with_ends, length-with_ends}
use Rattle.index_page.specs.Page.{PageOfKind}
use Rattle.index_page.specs.Page.PageOfKind.{Leaf}
use Rattle.mapping.specs.Levels.{names, joined, levels_of, contents}
use Rattle.mapping.specs.Proper.{Distinct, AreRisingPids, AreLogsTrue, IsProper}
use Rattle.mapping.specs.Table.{pids_in_use, page_of}
use Rattle.mapping.specs.Tree.{Tree, Store}
use Rattle.mapping.specs.TreeInMemory.{TreeInMemory, AreAllHome, tree_of}
use Rattle.mapping.proofs.TileLemmas.{rising-joined, rising-names}
use Rattle.keys.specs.declared.piece.Piece.{Piece}
use Rattle.page_runs.specs.LeafWork.{LeafHeld, LeafMade, LeafUpdate}
use Rattle.page_runs.specs.Reads.{IsLeafAt, is_only_read}
use Rattle.page_runs.specs.Replies.{commands_at}
use Rattle.page_runs.proofs.EndedBatch.{near_ends, all_end_before, net_run-ended}
use Rattle.page_runs.proofs.IdleBatch.{AreButBlank}
use Rattle.page_runs.proofs.ReadLemmas.{net_run-looks}
use Rattle.replies.specs.ByPlace.{most_counted, reply_at, AreAnswers}
use Rattle.routing.specs.Routes.{Route}
use Rattle.climb_plan.specs.Changing.{SeenPage, page_seen}
use Rattle.climb_plan.specs.Installing.{AreAway, all_taken, all_put, page_or_none}
use Rattle.climb_plan.specs.Plan.{planned_tree}
use Rattle.climb_plan.specs.Ready.{IsReady}
use Rattle.climb_plan.proofs.ArrivedPages.{home_keys}
use Rattle.engine.specs.Leaves.{AreRoutesFor, AreLeafRoutes, leaf_held, leaves_made, answers, route_pids, written_routes, is_written, without_answers}
use Rattle.engine.specs.SoundTree.{IsSoundInMemory}
use Rattle.engine.proofs.Answered.{routes_here, leaf_parts, routes_are_leaves, answered_rightly, answered_as_a_map}
use Rattle.engine.proofs.BlankAnswers.{but_reply, but_answers}
use Rattle.engine.proofs.EndedRoutes.{planned-ended, places-ended, reply-ended, answers-ended}
use Rattle.engine.proofs.Executed.{held_all, seen_leaves, held_without, seen_without}
use Rattle.engine.proofs.Readied.{ready_here, taken_away, put_back_here}
use Rattle.engine.proofs.RunRoutes.{AreSameWork, runs_same, same_pids, all_places, all_ended, all_but_blank, changed_same, same_seen}
use Rattle.engine.proofs.SeenLeaves.{ComeToNone}

abbrev pub made_all : List LeafUpdate → List LeafMade
made_all ds = map (λ d. d.made) ds

-- the views of leaves are those of the results for them
seen_by_made : (ds : List LeafUpdate) → seen_leaves ds ≡ map (λ x. page_seen Leaf x.updated) (made_all ds)
seen_by_made [] = refl
seen_by_made (d ∷ ds) = ap (λ (xs : List SeenPage). page_seen Leaf d.made.updated ∷ xs) (seen_by_made ds)

pids_held : (ds : List LeafUpdate) → map (λ d. d.held.route.pid) ds ≡ map (λ h. h.route.pid) (held_all ds)
pids_held [] = refl
pids_held (d ∷ ds) = ap (λ (ns : List ℕ). d.held.route.pid ∷ ns) (pids_held ds)

pages_held : (ds : List LeafUpdate) → map {B = ℕ × PageOfKind} (λ d. (d.held.route.pid, d.held.page)) ds ≡ map {B = ℕ × PageOfKind} (λ h. (h.route.pid, h.page)) (held_all ds)
pages_held [] = refl
pages_held (d ∷ ds) = ap (λ (es : List (ℕ × PageOfKind)). (d.held.route.pid, d.held.page) ∷ es) (pages_held ds)

module _ (m : TreeInMemory) where
  pids_of_routes : (rs : List Route) → map (λ h. h.route.pid) (map (leaf_held m.table) rs) ≡ route_pids rs
  pids_of_routes [] = refl
  pids_of_routes (r ∷ rs) = ap (λ (ns : List ℕ). r.pid ∷ ns) (pids_of_routes rs)

  -- the pages of the routes, under their pids
  abbrev routed_pages : List Route → List (ℕ × PageOfKind)
  routed_pages rs = map (λ r. (r.pid, page_or_none (page_of m.table r.pid))) rs

  pages_of_routes : (rs : List Route) → map {B = ℕ × PageOfKind} (λ h. (h.route.pid, h.page)) (map (leaf_held m.table) rs) ≡ routed_pages rs
  pages_of_routes [] = refl
  pages_of_routes (r ∷ rs) = ap (λ (es : List (ℕ × PageOfKind)). (r.pid, page_or_none (page_of m.table r.pid)) ∷ es) (pages_of_routes rs)

  -- these are the pages under them
  abbrev pages_under : List ℕ → List (ℕ × PageOfKind)
  pages_under ns = map {B = ℕ × PageOfKind} (λ n. (n, page_or_none (page_of m.table n))) ns

  pages_by_pid : (rs : List Route) → routed_pages rs ≡ pages_under (route_pids rs)
  pages_by_pid [] = refl
  pages_by_pid (r ∷ rs) = ap (λ (es : List (ℕ × PageOfKind)). (r.pid, page_or_none (page_of m.table r.pid)) ∷ es) (pages_by_pid rs)

-- the tree without the pages under these pids
abbrev without_pids : TreeInMemory → List ℕ → TreeInMemory
without_pids m ns = record m { table = all_taken m.table ns }

-- and without the pages of these routes
abbrev without_leaves : TreeInMemory → List Route → TreeInMemory
without_leaves m rs = without_pids m (route_pids rs)

-- what always holds also holds after an error
pub on_any_error : {T E P : Type 0} (r : Result T E) → P → OnErr r P
on_any_error (Ok x) p = tt
on_any_error (Err e) p = p

-- the pids of a sound tree rise
pub sound_rising : (s : Settings) (m : TreeInMemory) → IsSoundInMemory s m → AreRisingPids (pids_in_use m.table)
sound_rising s m sound = subst (λ (ns : List ℕ). AreRisingPids ns) (home_keys m.table.places sound.home) sound.sound.proper.tree.rising

is_true : (b : Bool) → not b ≡ false → b ≡ true
is_true true h = refl
is_true false h = absurd (cc)

-- ---- a batch whose routes are known

module _ (s : Settings) (m : TreeInMemory) (cs : List (Command Global)) (sound : IsSoundInMemory s m) (rs : List Route) (routed : AreRoutesFor (tree_of m) cs rs) where
  -- the commands, with the ends of scans by which they were routed
  abbrev ended : List (Command Global)
  ended = with_ends cs routed.0

  -- all routes of these; the present ones lack some commands that find nothing
  abbrev here : List Route
  here = routes_here m ended

  same : AreSameWork s cs routed.0 m.table rs here
  same =
      let level = (levels_of (tree_of m)).level in
      let tiled = sound.sound.proper.levels.tiled in
      runs_same s cs routed.0 m.table (joined level) (rising-joined level None tiled) (keys_of (names level)) (near_ends (keys_of (names level)) (joined level) cs routed.0 routed.1) routed.2 (leaf_parts s m cs sound.home sound.sound.proper)
      (all_end_before (names level) (rising-names level None tiled))

  -- the leaves that are changed
  abbrev changed : Route → Bool
  changed = is_written cs

  same_changed : AreSameWork s cs routed.0 m.table (written_routes cs rs) (filter changed here)
  same_changed = changed_same s cs routed.0 m.table rs here same

  pids_changed : route_pids (written_routes cs rs) ≡ route_pids (filter changed here)
  pids_changed = same_pids s cs routed.0 m.table (written_routes cs rs) (filter changed here) same_changed

  -- the commands of the others have an empty net run
  quiet : ComeToNone ended changed
  quiet r h n = net_run-ended cs routed.0 r.places n ∙ net_run-looks n (commands_at cs r.places) (is_true (is_only_read cs r) h)

  -- the leaves are in the table
  pub all_routes : AreLeafRoutes m.table cs rs
  all_routes =
      let there : AreLeafRoutes m.table ended here = routes_are_leaves s m ended sound.home sound.sound.proper in
      let pids = sym (same_pids s cs routed.0 m.table rs here same) in
      record {
        home = subst (λ (ns : List ℕ). AllByRecursion (λ pid. IsLeafAt (page_of m.table pid)) ns) pids there.home;
        distinct = subst (λ (ns : List ℕ). Distinct ns) pids there.distinct;
        places = places-ended cs routed.0 rs (all_places s cs routed.0 m.table rs here same);
      }

  -- the results for all leaves are the same with the closer ends
  all_made : leaves_made s cs m.table rs ≡ leaves_made s ended m.table rs
  all_made = all_ended s cs routed.0 m.table rs here same

  -- and the same as for all commands, except for blank answers
  blanks_missing : AreButBlank ended (answers (leaves_made s ended m.table rs)) (answers (leaves_made s ended m.table here))
  blanks_missing = all_but_blank s cs routed.0 m.table rs here same

  -- the answers are those of the leaves to the commands with closer ends, except for blank answers
  module _ (ps : List (Piece Global)) (reported : ps ≡ answers (leaves_made s cs m.table rs)) where
    pub answered : AreAnswers cs ps
    answered =
        let right = but_answers ended (answers (leaves_made s ended m.table rs)) (answers (leaves_made s ended m.table here)) blanks_missing (answered_rightly s m ended sound.home sound.sound.proper) in
        let all : AreAnswers cs (answers (leaves_made s cs m.table rs)) = answers-ended cs routed.0 (answers (leaves_made s cs m.table rs)) (rw all_made right) in
        subst (λ (qs : List (Piece Global)). AreAnswers cs qs) (sym reported) all

    pub as_a_map : length (contents (tree_of m)) + length cs ≤ most_counted → (xs : List (Reply Global)) → ((place : ℕ) → slice_get xs place ≡ reply_at cs ps place) → xs ≡ replies_to (contents (tree_of m)) cs
    as_a_map few xs at =
        answered_as_a_map s m ended sound.home sound.sound.proper (rw (length-with_ends cs routed.0) few) xs
        (λ place. at place ∙ ap (λ (qs : List (Piece Global)). reply_at cs qs place) reported ∙ sym (reply-ended cs routed.0 (answers (leaves_made s cs m.table rs)) place) ∙ ap (λ (ms : List LeafMade). reply_at ended (answers ms) place) all_made
        ∙ but_reply ended (answers (leaves_made s ended m.table rs)) (answers (leaves_made s ended m.table here)) blanks_missing place)
        ∙ replies-with_ends (keys_of (names (levels_of (tree_of m)).level)) (contents (tree_of m)) cs routed.0 (rising-joined (levels_of (tree_of m)).level None sound.sound.proper.levels.tiled) routed.1

  -- the leaves that were changed, from which the answers are then collected
  module _ (ds leaves : List LeafUpdate) (asked : leaves ≡ map without_answers ds) (now : TreeInMemory) (taken : now ≡ without_leaves m (written_routes cs rs)) where
    module _ (made : made_all ds ≡ leaves_made s cs m.table (written_routes cs rs)) where
      seen_here : seen_leaves leaves ≡ map (λ x. page_seen Leaf x.updated) (leaves_made s ended m.table (filter changed here))
      seen_here =
          ap (λ (xs : List LeafUpdate). seen_leaves xs) asked ∙ seen_without ds ∙ seen_by_made ds ∙ ap (λ (ms : List LeafMade). map (λ x. page_seen Leaf x.updated) ms) made
          ∙ same_seen s cs routed.0 m.table (written_routes cs rs) (filter changed here) same_changed

      is_ready : IsReady s (tree_of m) ended now (seen_leaves leaves)
      is_ready =
          let there : now ≡ without_leaves m (filter changed here) = taken ∙ ap (λ (ns : List ℕ). without_pids m ns) pids_changed in
          rw (there, seen_here) (ready_here s m ended changed sound quiet)

      pub some_ready : (t : Tree) × (bs : List (Command Global)) × IsReady s t bs now (seen_leaves leaves)
      some_ready = (tree_of m, ended, is_ready)

      -- what holds for every plan for which the tree is ready holds for this plan
      pub for_this : (P : Tree → Type 0) → ((t : Tree) (bs : List (Command Global)) → IsReady s t bs now (seen_leaves leaves) → P (planned_tree s t bs)) → P (planned_tree s (tree_of m) cs)
      for_this P f = subst P (planned-ended s (tree_of m) cs routed.0) (f (tree_of m) ended is_ready)

    module _ (held : held_all ds ≡ map (leaf_held m.table) (written_routes cs rs)) (again : List LeafUpdate) (back : again ≡ leaves) (refused : TreeInMemory) (kept : refused ≡ now) where
      there : refused ≡ without_leaves m (filter changed here)
      there = kept ∙ taken ∙ ap (λ (ns : List ℕ). without_pids m ns) pids_changed

      held_again : held_all again ≡ map (leaf_held m.table) (written_routes cs rs)
      held_again = ap (λ (xs : List LeafUpdate). held_all xs) (back ∙ asked) ∙ held_without ds ∙ held

      pub again_away : AreAway refused.table (map (λ d. d.held.route.pid) again)
      again_away =
          let pids : map (λ d. d.held.route.pid) again ≡ route_pids (filter changed here) = pids_held again ∙ ap (λ (hs : List LeafHeld). map (λ h. h.route.pid) hs) held_again ∙ pids_of_routes m (written_routes cs rs) ∙ pids_changed in
          rw (there, pids) (taken_away s m ended changed sound)

      pub again_back : (last : TreeInMemory) → last ≡ record refused { table = all_put refused.table (map {B = ℕ × PageOfKind} (λ d. (d.held.route.pid, d.held.page)) again) } → last ≡ m
      again_back last e =
          let pages : map {B = ℕ × PageOfKind} (λ d. (d.held.route.pid, d.held.page)) again ≡ routed_pages m (filter changed here) =
          pages_held again ∙ ap (λ (hs : List LeafHeld). map {B = ℕ × PageOfKind} (λ h. (h.route.pid, h.page)) hs) held_again ∙ pages_of_routes m (written_routes cs rs)
          ∙ pages_by_pid m (written_routes cs rs) ∙ ap (λ (ns : List ℕ). pages_under m ns) pids_changed ∙ sym (pages_by_pid m (filter changed here)) in
          let whole : record refused { table = all_put refused.table (map {B = ℕ × PageOfKind} (λ d. (d.held.route.pid, d.held.page)) again) } ≡ m = rw (there, pages) (put_back_here s m ended changed sound) in
          e ∙ whole

-- ---- the tree after a batch

-- a fault after the climb, which depends on the planned tree
abbrev pub IsFaultOf : Tree → Fault → Type 0
IsFaultOf planned fault = (fault ≡ NoMemory) ⊎ ((fault ≡ Spent) × (64 < planned.height))

abbrev pub as_store : Tree → Store
as_store t = record { tree = t; head = 0; tail = 0; sequence = 0; version = One }

-- the plan of a sound tree is sound if its height is within the limit
pub sound_planned : (s : Settings) (m now : TreeInMemory) (cs : List (Command Global)) → IsSoundInMemory s m → AreAllHome now × (tree_of now ≡ planned_tree s (tree_of m) cs) → now.height ≤ 64
    → IsProper s (planned_tree s (tree_of m) cs) → AreLogsTrue (planned_tree s (tree_of m) cs) → IsSoundInMemory s now
sound_planned s m now cs sound planned low proper logs = record {
  home = planned.0;
  sound = record {
    settings = sound.sound.settings;
    proper = rw planned.1 proper;
    logs = rw planned.1 logs;
    height = low;
  };
}
