-- The tasks of a batch: the leaves that they hold are those that may be changed, and their results have the answers of all leaves.
use Rattle.std.specs.Prelude.{◌≡◌, ◌≢◌, ℕ, Bool, true, false, ◌++◌, map, flat_map, length, slice_get, List, [], ◌∷◌, Option, Some, None, Result, Ok, Err, IfOk, IsOkAnd, if◌then◌else◌}
use Rattle.std.proofs.Common.{refl, sym, ap, ◌∙◌, subst}
use Rattle.std.specs.List.{All, AllByRecursion}
use Rattle.std.specs.declared.alloc.Global.{Global}
use Rattle.std.proofs.lemmas.List.{append_assoc, map_push}
use Rattle.std.proofs.lemmas.List.Elements.{All-from_recursion}
use Rattle.std.proofs.lemmas.List.{length-map}
use Rattle.keys.specs.Lists.{flat}
use Rattle.keys.specs.declared.command.Command.{Command}
use Rattle.keys.specs.declared.command.Reply.{Reply}
use Rattle.keys.specs.declared.piece.Piece.{Piece}
use Rattle.keys.specs.declared.settings.Settings.{Settings}
use Rattle.index_page.specs.Page.{PageOfKind}
use Rattle.mapping.specs.Proper.{Distinct, AreRisingPids}
use Rattle.mapping.specs.Table.{Mapping, pids_in_use, place_of, page_of, at_home, with_place}
use Rattle.mapping.specs.TreeInMemory.{TreeInMemory}
use Rattle.routing.specs.Routes.{Route}
use Rattle.page_runs.specs.LeafWork.{LeafHeld, LeafMade, LeafUpdate, IsLeafHeld, leaf_made, leaf_answers}
use Rattle.page_runs.specs.Reads.{IsRouteToRead, answers_at, is_only_read}
use Rattle.page_runs.specs.Replies.{ArePlacesOf}
use Rattle.replies.specs.ByPlace.{AreAnswers, blank_of, reply_at, with_pieces}
use Rattle.replies.proofs.Placing.{replies-with_pieces, with_pieces-page}
use Rattle.climb_plan.specs.Installing.{AreAway, all_taken, page_or_none}
use Rattle.climb_plan.proofs.BridgeTables.{taken_others}
use Rattle.climb_plan.proofs.Installing.{KeepsOthers, placed_apart, away_next, tree_taken, tree_put}
use Rattle.climb_plan.proofs.InstallingLemmas.{not_among}
use Rattle.engine.specs.Leaves.{AreLeavesHome, AreLeafRoutes, IsLeafAt, route_pids, leaf_held, leaves_made, answers, is_written, written_routes, without_answers}
use Rattle.engine.specs.Tasks.{TaskHeld, TaskMade, MayBeWorked, task_made, task_for, task_held, done_held, done_made, taken_in, taken_of, under_pids, changed_in, changed_of, pieces_in, pieces_of}
use Rattle.engine.specs.Tasks.TaskHeld.{Reads, Changes}
use Rattle.engine.specs.Tasks.TaskMade.{Answered, Changed}
use Rattle.engine.specs.declared.leaf_tasks.LeafTask.{LeafTask}
use Rattle.engine.specs.declared.leaf_tasks.TaskDone.{TaskDone}
use Rattle.engine.specs.declared.leaf_tasks.TaskDone.TheVariants.{Read as WasRead, Changed as WasChanged}
use Rattle.engine.proofs.BatchLeaves.{leaf_there, leaves_next, back_away, back_is_before}
use Rattle.engine.proofs.PartedLemmas.{all_passing, distinct_passing}

-- ---- the results, in terms of the returned outputs

-- the leaf that was changed, in the result for it
abbrev changed_made : TaskMade → List LeafMade
changed_made (Answered ps) = []
changed_made (Changed m) = m ∷ []

abbrev pieces_made : TaskMade → List (Piece Global)
pieces_made (Answered ps) = ps
pieces_made (Changed m) = m.pieces

changed_by_made : (ds : List TaskDone) → map (λ d. d.made) (changed_of ds) ≡ flat_map changed_made (map done_made ds)
changed_by_made [] = refl
changed_by_made (WasRead d ∷ ds) = changed_by_made ds
changed_by_made (WasChanged d ∷ ds) = ap (λ (ms : List LeafMade). d.made ∷ ms) (changed_by_made ds)

changed_by_held : (ds : List TaskDone) → map (λ d. d.held) (changed_of ds) ≡ taken_of (map done_held ds)
changed_by_held [] = refl
changed_by_held (WasRead d ∷ ds) = changed_by_held ds
changed_by_held (WasChanged d ∷ ds) = ap (λ (hs : List LeafHeld). d.held ∷ hs) (changed_by_held ds)

pieces_by_made : (ds : List TaskDone) → map pieces_in ds ≡ map pieces_made (map done_made ds)
pieces_by_made [] = refl
pieces_by_made (WasRead d ∷ ds) = ap (λ (xs : List (List (Piece Global))). d.pieces ∷ xs) (pieces_by_made ds)
pieces_by_made (WasChanged d ∷ ds) = ap (λ (xs : List (List (Piece Global))). d.made.pieces ∷ xs) (pieces_by_made ds)

-- ---- the tasks of routes

module _ (cs : List (Command Global)) (t : Mapping PageOfKind) where
  taken_by : (r : Route) (rs : List Route) (b : Bool) → is_only_read cs r ≡ b → taken_of (map (task_for t cs) rs) ≡ map (leaf_held t) (written_routes cs rs)
      → taken_of (map (task_for t cs) (r ∷ rs)) ≡ map (leaf_held t) (written_routes cs (r ∷ rs))
  taken_by r rs true e h = rw e h
  taken_by r rs false e h = rw e (ap (λ (hs : List LeafHeld). leaf_held t r ∷ hs) h)

  -- the leaves that they hold are those that may be changed
  pub taken_for : (rs : List Route) → taken_of (map (task_for t cs) rs) ≡ map (leaf_held t) (written_routes cs rs)
  taken_for [] = refl
  taken_for (r ∷ rs) = taken_by r rs (is_only_read cs r) refl (taken_for rs)

  module _ (s : Settings) where
    abbrev job_made : Route → LeafMade
    job_made r = leaf_made s cs (leaf_held t r)

    -- the result of the task of a route
    abbrev pub made_for : Route → TaskMade
    made_for r = if is_only_read cs r then Answered (job_made r).pieces else Changed (job_made r)

    changed_by : (r : Route) (rs : List Route) (b : Bool) → is_only_read cs r ≡ b → flat_map changed_made (map made_for rs) ≡ leaves_made s cs t (written_routes cs rs)
        → flat_map changed_made (map made_for (r ∷ rs)) ≡ leaves_made s cs t (written_routes cs (r ∷ rs))
    changed_by r rs true e h = rw e h
    changed_by r rs false e h = rw e (ap (λ (ms : List LeafMade). job_made r ∷ ms) h)

    changed_for : (rs : List Route) → flat_map changed_made (map made_for rs) ≡ leaves_made s cs t (written_routes cs rs)
    changed_for [] = refl
    changed_for (r ∷ rs) = changed_by r rs (is_only_read cs r) refl (changed_for rs)

    pieces_by : (r : Route) (rs : List Route) (b : Bool) → is_only_read cs r ≡ b → map pieces_made (map made_for rs) ≡ map (λ m. m.pieces) (leaves_made s cs t rs)
        → map pieces_made (map made_for (r ∷ rs)) ≡ map (λ m. m.pieces) (leaves_made s cs t (r ∷ rs))
    pieces_by r rs true e h = rw e (ap (λ (xs : List (List (Piece Global))). (job_made r).pieces ∷ xs) h)
    pieces_by r rs false e h = rw e (ap (λ (xs : List (List (Piece Global))). (job_made r).pieces ∷ xs) h)

    pieces_for : (rs : List Route) → map pieces_made (map made_for rs) ≡ map (λ m. m.pieces) (leaves_made s cs t rs)
    pieces_for [] = refl
    pieces_for (r ∷ rs) = pieces_by r rs (is_only_read cs r) refl (pieces_for rs)

    -- so the returned outputs have the answers of all leaves, and the results for those that may be changed
    module _ (rs : List Route) (ds : List TaskDone) (made : map done_made ds ≡ map made_for rs) where
      pub answers_there : pieces_of ds ≡ answers (leaves_made s cs t rs)
      answers_there =
          ap (λ (xs : List (List (Piece Global))). flat xs) (pieces_by_made ds ∙ ap (λ (ms : List TaskMade). map pieces_made ms) made ∙ pieces_for rs)

      pub changed_there : map (λ d. d.made) (changed_of ds) ≡ leaves_made s cs t (written_routes cs rs)
      changed_there = changed_by_made ds ∙ ap (λ (ms : List TaskMade). flat_map changed_made ms) made ∙ changed_for rs

  -- and the original pages of the changed ones
  pub held_there : (rs : List Route) (ds : List TaskDone) → map done_held ds ≡ map (task_for t cs) rs → map (λ d. d.held) (changed_of ds) ≡ map (leaf_held t) (written_routes cs rs)
  held_there rs ds h = changed_by_held ds ∙ ap (λ (hs : List TaskHeld). taken_of hs) h ∙ taken_for rs

-- there are as many outputs as routes
pub as_many : (cs : List (Command Global)) (t : Mapping PageOfKind) (rs : List Route) (ds : List TaskDone) (hs : List TaskHeld) → map done_held ds ≡ hs → hs ≡ map (task_for t cs) rs → length ds ≡ length rs
as_many cs t rs ds hs o e = sym (length-map ds done_held) ∙ ap (λ (xs : List TaskHeld). length xs) (o ∙ e) ∙ length-map rs (task_for t cs)

-- ---- leaves that are only read stay

-- the answers of a leaf that stays are the same as if it was checked out
pub answers_by : (cs : List (Command Global)) (o : Option PageOfKind) (r : Route) → IsLeafAt o → answers_at cs o r ≡ leaf_answers cs (record { page = page_or_none o; route = r })
answers_by cs None r h = absurd h
answers_by cs (Some p) r h = refl

module _ (cs : List (Command Global)) where
  -- the page of a route that only reads has another pid than all these
  abbrev IsApart : List Route → Route → Type 0
  IsApart rs q = is_only_read cs q ≡ true → AllByRecursion (λ n. n ≢ q.pid) (route_pids (written_routes cs rs))

  apart_by : (r q : Route) (rs : List Route) (b : Bool) → is_only_read cs r ≡ b → q.pid ≢ r.pid → AllByRecursion (λ n. n ≢ q.pid) (route_pids (written_routes cs rs)) → AllByRecursion (λ n. n ≢ q.pid) (route_pids (written_routes cs (r ∷ rs)))
  apart_by r q rs true e d a = rw e a
  apart_by r q rs false e d a = rw e ((λ f. d (sym f)), a)

  apart_later : (r : Route) (rs qs : List Route) → AllByRecursion (λ n. n ≢ r.pid) (route_pids qs) → AllByRecursion (IsApart rs) qs → AllByRecursion (IsApart (r ∷ rs)) qs
  apart_later r rs [] d a = tt
  apart_later r rs (q ∷ qs) d a = ((λ e. apart_by r q rs (is_only_read cs r) refl d.0 (a.0 e)), apart_later r rs qs d.1 a.1)

  apart_first : (r : Route) (rs : List Route) → AllByRecursion (λ n. n ≢ r.pid) (route_pids rs) → IsApart (r ∷ rs) r
  apart_first r rs d e = rw e (all_passing (is_written cs) (λ n. n ≢ r.pid) rs d)

  all_apart : (rs : List Route) → Distinct (route_pids rs) → AllByRecursion (IsApart rs) rs
  all_apart [] d = tt
  all_apart (r ∷ rs) d = (apart_first r rs d.0, apart_later r rs rs d.0 (all_apart rs d.1))

  module _ (s : Settings) (t : Mapping PageOfKind) (now : TreeInMemory) where
    -- if a leaf that is only read is in the table as before, its task is a valid input
    updated_by : (r : Route) (b : Bool) → is_only_read cs r ≡ b → (is_only_read cs r ≡ true → place_of now.table r.pid ≡ place_of t r.pid) → IsLeafAt (page_of t r.pid) → ArePlacesOf cs r.places → MayBeWorked now cs (task_for t cs r)
    updated_by r true e stays home places =
        let there : IsRouteToRead now cs r = record { home = subst (λ (o : Option (Option PageOfKind)). IsLeafAt (at_home o)) (sym (stays e)) home; places = places } in rw e there
    updated_by r false e stays home places =
        let held : IsLeafHeld cs (leaf_held t r) = record { leaf = leaf_there (page_of t r.pid) home; places = places } in rw e held

    made_by : (r : Route) (b : Bool) → is_only_read cs r ≡ b → (is_only_read cs r ≡ true → place_of now.table r.pid ≡ place_of t r.pid) → IsLeafAt (page_of t r.pid) → task_made now s cs (task_for t cs r) ≡ made_for cs t s r
    made_by r true e stays home =
        let there : answers_at cs (page_of now.table r.pid) r ≡ (leaf_made s cs (leaf_held t r)).pieces =
        ap (λ (o : Option (Option PageOfKind)). answers_at cs (at_home o) r) (stays e) ∙ answers_by cs (page_of t r.pid) r home in
        rw e (ap (λ (ps : List (Piece Global)). Answered ps) there)
    made_by r false e stays home = rw e refl

    module _ (all : List Route) (is : now.table ≡ all_taken t (route_pids (written_routes cs all))) where
      stays_by : (r : Route) → IsApart all r → is_only_read cs r ≡ true → place_of now.table r.pid ≡ place_of t r.pid
      stays_by r a e =
          let ns : List ℕ = route_pids (written_routes cs all) in
          ap (λ (u : Mapping PageOfKind). place_of u r.pid) is ∙ taken_others t ns r.pid (not_among r.pid ns (a e))

      all_updated : (rs : List Route) → AllByRecursion (IsApart all) rs → AllByRecursion (λ pid. IsLeafAt (page_of t pid)) (route_pids rs) → AllByRecursion (λ r. ArePlacesOf cs r.places) rs → AllByRecursion (MayBeWorked now cs) (map (task_for t cs) rs)
      all_updated [] a h p = tt
      all_updated (r ∷ rs) a h p = (updated_by r (is_only_read cs r) refl (stays_by r a.0) h.0 p.0, all_updated rs a.1 h.1 p.1)

      all_made : (rs : List Route) → AllByRecursion (IsApart all) rs → AllByRecursion (λ pid. IsLeafAt (page_of t pid)) (route_pids rs) → map (task_made now s cs) (map (task_for t cs) rs) ≡ map (made_for cs t s) rs
      all_made [] a h = refl
      all_made (r ∷ rs) a h =
          ap (λ (m : TaskMade). m ∷ map (task_made now s cs) (map (task_for t cs) rs)) (made_by r (is_only_read cs r) refl (stays_by r a.0) h.0)
          ∙ ap (λ (ms : List TaskMade). made_for cs t s r ∷ ms) (all_made rs a.1 h.1)

held_by : (now : TreeInMemory) (cs : List (Command Global)) (js : List LeafTask) → AllByRecursion (MayBeWorked now cs) (map task_held js) → AllByRecursion (λ j. MayBeWorked now cs (task_held j)) js
held_by now cs [] a = tt
held_by now cs (j ∷ js) a = (a.0, held_by now cs js a.1)

module _ (s : Settings) (cs : List (Command Global)) (tree now : TreeInMemory) (rs : List Route) (routes : AreLeafRoutes tree.table cs rs) (taken : now ≡ tree_taken tree (route_pids (written_routes cs rs))) where
  table_is : now.table ≡ all_taken tree.table (route_pids (written_routes cs rs))
  table_is = ap (λ (m : TreeInMemory). m.table) taken

  -- the tasks are valid inputs after the leaves that may be changed were checked out
  pub may_be_updated : (js : List LeafTask) → map task_held js ≡ map (task_for tree.table cs) rs → All (λ j. MayBeWorked now cs (task_held j)) js
  may_be_updated js e =
      let each = all_updated cs s tree.table now rs table_is rs (all_apart cs rs routes.distinct) routes.home routes.places in
      All-from_recursion (λ (j : LeafTask). MayBeWorked now cs (task_held j)) js (held_by now cs js (subst (λ (hs : List TaskHeld). AllByRecursion (MayBeWorked now cs) hs) (sym e) each))

  -- and their results
  pub made_is : (hs : List TaskHeld) (ms : List TaskMade) → hs ≡ map (task_for tree.table cs) rs → ms ≡ map (task_made now s cs) hs → ms ≡ map (made_for cs tree.table s) rs
  made_is hs ms e m =
      m ∙ ap (λ (xs : List TaskHeld). map (task_made now s cs) xs) e ∙ all_made cs s tree.table now rs table_is rs (all_apart cs rs routes.distinct) routes.home

-- ---- tasks that could not be done are returned

module _ (cs : List (Command Global)) (tree taken : TreeInMemory) (rs : List Route) (routes : AreLeafRoutes tree.table cs rs) (js again : List LeafTask) (n : taken ≡ tree_taken tree (route_pids (written_routes cs rs)))
    (e : map task_held js ≡ map (task_for tree.table cs) rs) (f : map task_held again ≡ map task_held js) where
  held_again : taken_of (map task_held again) ≡ map (leaf_held tree.table) (written_routes cs rs)
  held_again = ap (λ (hs : List TaskHeld). taken_of hs) (f ∙ e) ∙ taken_for cs tree.table rs

  -- the places of the leaves that they hold are empty
  pub again_away : Distinct (route_pids (written_routes cs rs)) → AreAway taken.table (map (λ h. h.route.pid) (taken_of (map task_held again)))
  again_away d = back_away tree taken (taken_of (map task_held again)) (written_routes cs rs) n held_again d

  -- and after these are put back the tree is the same as before
  pub again_before : (now : TreeInMemory) → now ≡ tree_put taken (under_pids (taken_of (map task_held again))) → AreLeavesHome tree.table (route_pids (written_routes cs rs)) → AreRisingPids (pids_in_use tree.table) → now ≡ tree
  again_before now p h r = back_is_before tree taken now (taken_of (map task_held again)) (written_routes cs rs) n held_again p h r

-- ---- leaves are checked out, one after the other

module _ (cs : List (Command Global)) where
  held_apart : (t u : Mapping PageOfKind) (k : ℕ) (rs : List Route) → KeepsOthers t u k → AllByRecursion (λ q. q ≢ k) (route_pids rs) → map (task_for u cs) rs ≡ map (task_for t cs) rs
  held_apart t u k [] keeps d = refl
  held_apart t u k (r ∷ rs) keeps d =
      ap (λ (o : Option (Option PageOfKind)). (if is_only_read cs r then Reads r else Changes (record { page = page_or_none (at_home o); route = r })) ∷ map (task_for u cs) rs) (keeps r.pid d.0)
      ∙ ap (λ (hs : List TaskHeld). task_for t cs r ∷ hs) (held_apart t u k rs keeps d.1)

  module _ (tree now : TreeInMemory) (r : Route) (rs all : List Route) (e : all ≡ r ∷ rs) (n : now ≡ tree_taken tree (route_pids (written_routes cs (r ∷ [])))) where
    -- the others are still in the table
    home_by : (b : Bool) → is_only_read cs r ≡ b → AreLeavesHome tree.table (route_pids all) → AreLeavesHome now.table (route_pids rs)
    home_by true o h =
        let same : now ≡ tree = rw o at n in
        let there = subst (λ (ys : List Route). AreLeavesHome tree.table (route_pids ys)) e h in
        subst (λ (m : TreeInMemory). AreLeavesHome m.table (route_pids rs)) (sym same) (there.0.1, there.1.1)
    home_by false o h =
        let one : now ≡ record tree { table = with_place tree.table r.pid None } = rw o at n in
        leaves_next tree now r.pid (route_pids rs) (route_pids all) (ap route_pids e) one h

    pub home_next : AreLeavesHome tree.table (route_pids all) → AreLeavesHome now.table (route_pids rs)
    home_next h = home_by (is_only_read cs r) refl h

    tasks_by : (b : Bool) → is_only_read cs r ≡ b → AreLeavesHome tree.table (route_pids all) → map (task_for now.table cs) rs ≡ map (task_for tree.table cs) rs
    tasks_by true o h =
        let same : now ≡ tree = rw o at n in
        ap (λ (m : TreeInMemory). map (task_for m.table cs) rs) same
    tasks_by false o h =
        let one : now ≡ record tree { table = with_place tree.table r.pid None } = rw o at n in
        let apart = (subst (λ (ys : List Route). AreLeavesHome tree.table (route_pids ys)) e h).1.0 in
        ap (λ (m : TreeInMemory). map (task_for m.table cs) rs) one ∙ held_apart tree.table (with_place tree.table r.pid None) r.pid rs (placed_apart tree.table r.pid None) apart

    -- the next task is pushed, and the tasks so far and the rest hold what all held
    pub held_next : (done pushed : List LeafTask) (task : LeafTask) (hs : List TaskHeld) → AreLeavesHome tree.table (route_pids all) → pushed ≡ done ++ task ∷ [] → task_held task ≡ task_for tree.table cs r
        → map task_held done ++ map (task_for tree.table cs) all ≡ hs → map task_held pushed ++ map (task_for now.table cs) rs ≡ hs
    held_next done pushed task hs home p first h =
        ap (λ (ys : List LeafTask). map task_held ys ++ map (task_for now.table cs) rs) p
        ∙ ap (λ (x : List TaskHeld). x ++ map (task_for now.table cs) rs) (map_push task_held done task)
        ∙ append_assoc (map task_held done) (task_held task ∷ []) (map (task_for now.table cs) rs)
        ∙ ap (λ (ys : List TaskHeld). map task_held done ++ task_held task ∷ ys) (tasks_by (is_only_read cs r) refl home)
        ∙ ap (λ (y : TaskHeld). map task_held done ++ y ∷ map (task_for tree.table cs) rs) first
        ∙ ap (λ (ys : List Route). map task_held done ++ map (task_for tree.table cs) ys) (sym e)
        ∙ h

    taken_by_one : (b : Bool) → is_only_read cs r ≡ b → (last : TreeInMemory) → tree_taken tree (route_pids (written_routes cs (r ∷ rs))) ≡ last → tree_taken now (route_pids (written_routes cs rs)) ≡ last
    taken_by_one true o last h =
        let same : now ≡ tree = rw o at n in
        let before : tree_taken tree (route_pids (written_routes cs rs)) ≡ last = rw o at h in
        ap (λ (m : TreeInMemory). tree_taken m (route_pids (written_routes cs rs))) same ∙ before
    taken_by_one false o last h =
        let one : now ≡ record tree { table = with_place tree.table r.pid None } = rw o at n in
        let before : tree_taken tree (r.pid ∷ route_pids (written_routes cs rs)) ≡ last = rw o at h in
        ap (λ (m : TreeInMemory). tree_taken m (route_pids (written_routes cs rs))) one ∙ before

    -- checking out the rest from the tree now equals checking out all from the tree before
    pub taken_next : (last : TreeInMemory) → tree_taken tree (route_pids (written_routes cs all)) ≡ last → tree_taken now (route_pids (written_routes cs rs)) ≡ last
    taken_next last h = taken_by_one (is_only_read cs r) refl last (ap (λ (ys : List Route). tree_taken tree (route_pids (written_routes cs ys))) (sym e) ∙ h)

-- ---- leaves are put back, one after the other

module _ (tree now : TreeInMemory) (x : TaskHeld) (xs all : List TaskHeld) (e : all ≡ x ∷ xs) (n : now ≡ tree_put tree (under_pids (taken_in x))) where
  away_by : (y : TaskHeld) → now ≡ tree_put tree (under_pids (taken_in y)) → AreAway tree.table (map (λ h. h.route.pid) (taken_of (y ∷ xs))) → AreAway now.table (map (λ h. h.route.pid) (taken_of xs))
  away_by (Reads r) p a = subst (λ (m : TreeInMemory). AreAway m.table (map (λ h. h.route.pid) (taken_of xs))) (sym p) a
  away_by (Changes h) p a = away_next tree now (with_place tree.table h.route.pid (Some h.page)) h.route.pid (map (λ h. h.route.pid) (taken_of xs)) (h.route.pid ∷ map (λ h. h.route.pid) (taken_of xs)) refl p (placed_apart tree.table h.route.pid (Some h.page)) a

  pub away_left : AreAway tree.table (map (λ h. h.route.pid) (taken_of all)) → AreAway now.table (map (λ h. h.route.pid) (taken_of xs))
  away_left a = away_by x n (subst (λ (ys : List TaskHeld). AreAway tree.table (map (λ h. h.route.pid) (taken_of ys))) e a)

  put_by : (y : TaskHeld) → now ≡ tree_put tree (under_pids (taken_in y)) → tree_put now (under_pids (taken_of xs)) ≡ tree_put tree (under_pids (taken_of (y ∷ xs)))
  put_by (Reads r) p = ap (λ (m : TreeInMemory). tree_put m (under_pids (taken_of xs))) p
  put_by (Changes h) p = ap (λ (m : TreeInMemory). tree_put m (under_pids (taken_of xs))) p

  pub put_left : (last : TreeInMemory) → tree_put tree (under_pids (taken_of all)) ≡ last → tree_put now (under_pids (taken_of xs)) ≡ last
  put_left last h = put_by x n ∙ ap (λ (ys : List TaskHeld). tree_put tree (under_pids (taken_of ys))) (sym e) ∙ h

module _ (tree : TreeInMemory) (x : TaskHeld) (xs all : List TaskHeld) (e : all ≡ x ∷ xs) where
  first_by : (y : TaskHeld) → AreAway tree.table (map (λ h. h.route.pid) (taken_of (y ∷ xs))) → AreAway tree.table (map (λ h. h.route.pid) (taken_in y))
  first_by (Reads r) a = (tt, tt)
  first_by (Changes h) a = ((a.0.0, tt), (tt, tt))

  pub away_first : AreAway tree.table (map (λ h. h.route.pid) (taken_of all)) → AreAway tree.table (map (λ h. h.route.pid) (taken_in x))
  away_first a = first_by x (subst (λ (ys : List TaskHeld). AreAway tree.table (map (λ h. h.route.pid) (taken_of ys))) e a)

-- the first of routes to leaves in the table goes to such a leaf
pub home_first : (tree : TreeInMemory) (r : Route) (rs all : List Route) → all ≡ r ∷ rs → AreLeavesHome tree.table (route_pids all) → IsLeafAt (page_of tree.table r.pid)
home_first tree r rs all e h = (subst (λ (ys : List Route). AreLeavesHome tree.table (route_pids ys)) e h).0.0

-- those that may be changed are distinct and in the table
module _ (t : Mapping PageOfKind) (cs : List (Command Global)) (rs : List Route) (routes : AreLeafRoutes t cs rs) where
  pub written_distinct : Distinct (route_pids (written_routes cs rs))
  written_distinct = distinct_passing (is_written cs) rs routes.distinct

  pub written_home : AreLeavesHome t (route_pids (written_routes cs rs))
  written_home = (all_passing (is_written cs) (λ pid. IsLeafAt (page_of t pid)) rs routes.home, written_distinct)

-- ---- answers are collected, one leaf after the other

without_in : (d : TaskDone) (ds : List LeafUpdate) → map without_answers (changed_in d) ++ map without_answers ds ≡ map without_answers (changed_in d ++ ds)
without_in (WasRead d) ds = refl
without_in (WasChanged d) ds = refl

-- the next leaf goes onto the list if it was changed
pub asked_next : (old new : List LeafUpdate) (d : TaskDone) (ds all : List TaskDone) (last : List LeafUpdate) → all ≡ d ∷ ds → new ≡ old ++ map without_answers (changed_in d) → old ++ map without_answers (changed_of all) ≡ last
    → new ++ map without_answers (changed_of ds) ≡ last
asked_next old new d ds all last e n h =
    ap (λ (xs : List LeafUpdate). xs ++ map without_answers (changed_of ds)) n
    ∙ append_assoc old (map without_answers (changed_in d)) (map without_answers (changed_of ds))
    ∙ ap (λ (xs : List LeafUpdate). old ++ xs) (without_in d (changed_of ds))
    ∙ ap (λ (xs : List TaskDone). old ++ map without_answers (changed_of xs)) (sym e)
    ∙ h

-- its answers are the first of the remaining ones
pub pieces_next : (d : TaskDone) (ds all : List TaskDone) (ps : List (Piece Global)) → all ≡ d ∷ ds → ps ≡ pieces_in d → map pieces_in all ≡ ps ∷ map pieces_in ds
pieces_next d ds all ps e p = ap (λ (xs : List TaskDone). map pieces_in xs) e ∙ ap (λ (qs : List (Piece Global)). qs ∷ map pieces_in ds) (sym p)

-- and adding the rest to the replies with them equals adding all to the replies before
pub gathered_next : (cs : List (Command Global)) (page : List (Piece Global)) (all rest : List (List (Piece Global))) (was now end : List (Reply Global)) → all ≡ page ∷ rest → now ≡ with_pieces cs page was → with_pieces cs (flat all) was ≡ end → with_pieces cs (flat rest) now ≡ end
gathered_next cs page all rest was now end e n h = ap (λ (rs : List (Reply Global)). with_pieces cs (flat rest) rs) n ∙ with_pieces-page cs page all rest was end e h

-- a property of the replies before holds for those with more answers, if no allocation failed
pub carried : {X E : Type 0} (r now : Result X E) (f : X → X → Type 0) (P Q : X → Type 0) → IfOk now (λ y. IsOkAnd r (f y)) → ((x y : X) → f y x → P x → Q y) → IfOk r P → IfOk now Q
carried (Ok x) (Ok y) f P Q h g p = g x y h p
carried (Err e) (Ok y) f P Q h g p = absurd h
carried (Ok x) (Err e) f P Q h g p = tt
carried (Err d) (Err e) f P Q h g p = tt

-- what holds for replies without a failed allocation holds for the same items
pub through : {X E Y : Type 0} (r : Result X E) (items : X → List Y) (now : List Y) (P : List Y → Type 0) → IsOkAnd r (λ x. now ≡ items x) → IfOk r (λ x. P (items x)) → P now
through (Ok x) items now P e h = subst P (sym e) h
through (Err d) items now P e h = absurd e

-- when no leaf remains, each reply is at its place
pub all_added : (cs : List (Command Global)) (left : List TaskDone) (all : List (Piece Global)) (rs : List (Reply Global)) → left ≡ [] → AreAnswers cs all → with_pieces cs (pieces_of left) rs ≡ with_pieces cs all (map blank_of cs)
    → (place : ℕ) → slice_get rs place ≡ reply_at cs all place
all_added cs left all rs none a h place =
    let made : rs ≡ with_pieces cs all (map blank_of cs) = rw none at h in
    ap (λ (qs : List (Reply Global)). slice_get qs place) made ∙ replies-with_pieces cs all a place
