-- A batch that goes to one leaf: its replies, the tree without the leaf, which is ready to climb, and how the batch is undone.
use Rattle.std.specs.Prelude.{◌≡◌, ℕ, ◌+◌, ◌<◌, ◌≤◌, Bool, true, false, not, ◌&&◌, ◌||◌, length, map, List, [], ◌∷◌, slice_get, Option, Some, None, IsSome, Result, Ok, Err, OnOk, OnErr, IfErr}
use Rattle.std.proofs.Common.{refl, sym, ap, ◌∙◌, subst, append-nil}
use Rattle.std.specs.List.{AllByRecursion, filter}
use Rattle.std.specs.declared.alloc.Global.{Global}
use Rattle.keys.specs.Step.{replies_to}
use Rattle.keys.specs.declared.command.Command.{Command}
use Rattle.keys.specs.declared.command.Reply.{Reply}
use Rattle.keys.specs.declared.piece.Piece.{Piece}
use Rattle.keys.specs.declared.settings.Settings.{Settings}
use Rattle.index_page.specs.Page.{PageOfKind, IsLeaf}
use Rattle.index_page.specs.Page.PageOfKind.{Leaf, Index}
use Rattle.mapping.specs.Levels.{contents, levels_of}
use Rattle.mapping.specs.Proper.{AreLogsTrue, IsProper}
use Rattle.mapping.specs.Table.{place_of, page_of, with_place}
use Rattle.mapping.specs.Tree.{Tree}
use Rattle.mapping.specs.TreeInMemory.{TreeInMemory, AreAllHome, tree_of}
use Rattle.replies.specs.ByPlace.{most_counted, reply_at, AreAnswers}
use Rattle.routing.specs.Routes.{Route, routes}
use Rattle.page_runs.specs.LeafWork.{LeafHeld, LeafMade, LeafUpdate, IsLeafHeld, leaf_made, leaf_answers}
use Rattle.page_runs.specs.NetRun.{net_run}
use Rattle.page_runs.specs.Reads.{IsRouteToRead, is_only_read, answers_at, route_answers}
use Rattle.page_runs.proofs.ReadLemmas.{net_run-looks}
use Rattle.page_runs.specs.Updated.{Updated, is_thin_class, is_fat_class}
use Rattle.climb_plan.specs.Changing.{page_seen}
use Rattle.climb_plan.specs.Installing.{all_taken, all_put, page_or_none}
use Rattle.climb_plan.specs.Ready.{IsReady}
use Rattle.climb_plan.specs.Plan.{planned_tree}
use Rattle.climb_plan.proofs.QuietLeaf.{IsSeenQuiet, put_is_planned}
use Rattle.engine.specs.Leaves.{AreLeafRoutes, IsLeafAt, leaf_held, leaves_made, answers, route_pids}
use Rattle.engine.specs.OnlyRoute.{IsOnlyRoute, IsOnlyLeaf, is_quiet}
use Rattle.engine.specs.SoundTree.{IsSoundInMemory}
use Rattle.engine.proofs.Answered.{routes_are_leaves, answered_rightly, answered_as_a_map}
use Rattle.engine.proofs.Readied.{ready_here, taken_away, put_back_here}
use Rattle.engine.proofs.Routed.{sound_planned}

some_leaf : (o : Option PageOfKind) → IsLeafAt o → IsSome o
some_leaf None h = absurd h
some_leaf (Some p) h = refl

a_leaf : (o : Option PageOfKind) (p : PageOfKind) → o ≡ Some p → IsLeafAt o → IsLeaf p
a_leaf o (Leaf p) e h = tt
a_leaf o (Index p) e h = absurd (rw e at h)

same_answers : (cs : List (Command Global)) (o : Option PageOfKind) (r : Route) → IsLeafAt o → answers_at cs o r ≡ leaf_answers cs (record { page = page_or_none o; route = r })
same_answers cs None r h = absurd h
same_answers cs (Some p) r h = refl

never : {P : Type 0} → true ≡ false → P
never h = absurd (cc)

module _ (s : Settings) (m : TreeInMemory) (cs : List (Command Global)) (sound : IsSoundInMemory s m) (r : Route) (only : IsOnlyRoute (tree_of m) cs r) where
  there : AreLeafRoutes m.table cs (r ∷ [])
  there = subst (λ (rs : List Route). AreLeafRoutes m.table cs rs) only (routes_are_leaves s m cs sound.home sound.sound.proper)

  -- the leaf is in the table
  pub at_home : IsSome (page_of m.table r.pid)
  at_home = some_leaf (page_of m.table r.pid) there.home.0

  pub may_read : IsRouteToRead m cs r
  may_read = record { home = there.home.0; places = there.places.0 }

  -- ---- its answers

  all_of_it : answers (leaves_made s cs m.table (routes (levels_of (tree_of m)).level cs)) ≡ (leaf_made s cs (leaf_held m.table r)).pieces
  all_of_it = ap (λ (rs : List Route). answers (leaves_made s cs m.table rs)) only ∙ append-nil (leaf_made s cs (leaf_held m.table r)).pieces

  module _ (ps : List (Piece Global)) (same : ps ≡ (leaf_made s cs (leaf_held m.table r)).pieces) where
    pub answered : AreAnswers cs ps
    answered = subst (λ (qs : List (Piece Global)). AreAnswers cs qs) (all_of_it ∙ sym same) (answered_rightly s m cs sound.home sound.sound.proper)

    pub as_a_map : length (contents (tree_of m)) + length cs ≤ most_counted → (xs : List (Reply Global)) → ((place : ℕ) → slice_get xs place ≡ reply_at cs ps place) → xs ≡ replies_to (contents (tree_of m)) cs
    as_a_map few xs at = answered_as_a_map s m cs sound.home sound.sound.proper few xs (λ place. at place ∙ ap (λ (qs : List (Piece Global)). reply_at cs qs place) (same ∙ sym all_of_it))

  -- its answers are the same whether it stays in the tree or is updated
  pub read_is : route_answers m cs r ≡ (leaf_made s cs (leaf_held m.table r)).pieces
  read_is = same_answers cs (page_of m.table r.pid) r there.home.0

  -- ---- the leaf, checked out and updated

  abbrev every : Route → Bool
  every _ = true

  all_pass : (rs : List Route) → filter every rs ≡ rs
  all_pass [] = refl
  all_pass (x ∷ xs) = ap (λ (ys : List Route). x ∷ ys) (all_pass xs)

  just_it : filter every (routes (levels_of (tree_of m)).level cs) ≡ r ∷ []
  just_it = all_pass (routes (levels_of (tree_of m)).level cs) ∙ only

  -- the tree without it
  abbrev without : TreeInMemory
  without = record m { table = with_place m.table r.pid None }

  ready_without : IsReady s (tree_of m) cs without (page_seen Leaf (leaf_made s cs (leaf_held m.table r)).updated ∷ [])
  ready_without =
      subst (λ (rs : List Route). IsReady s (tree_of m) cs (record m { table = all_taken m.table (route_pids rs) }) (map (λ d. page_seen Leaf d.updated) (leaves_made s cs m.table rs))) just_it
      (ready_here s m cs every sound (λ q h n. never h))

  away_without : place_of without.table r.pid ≡ Some None
  away_without = (subst (λ (rs : List Route). AllByRecursion (λ n. place_of (all_taken m.table (route_pids rs)) n ≡ Some None) (route_pids rs)) just_it (taken_away s m cs every sound).0).0

  back_again : record without { table = with_place without.table r.pid (Some (page_or_none (page_of m.table r.pid))) } ≡ m
  back_again =
      subst (λ (rs : List Route). record m { table = all_put (all_taken m.table (route_pids rs)) (map (λ q. (q.pid, page_or_none (page_of m.table q.pid))) rs) } ≡ m) just_it (put_back_here s m cs every sound)

  module _ (page : PageOfKind) (found : page_of m.table r.pid ≡ Some page) where
    abbrev held : LeafHeld
    held = record { page = page; route = r }

    same_held : leaf_held m.table r ≡ held
    same_held = ap (λ (o : Option PageOfKind). (let h : LeafHeld = record { page = page_or_none o; route = r } in h)) found

    pub may_work : IsLeafHeld cs held
    may_work = record { leaf = a_leaf (page_of m.table r.pid) page found there.home.0; places = there.places.0 }

    module _ (now : TreeInMemory) (taken : now ≡ without) where
      module _ (d : LeafUpdate) (of : d.held ≡ held) (made : d.made ≡ leaf_made s cs held) where
        made_is : d.made ≡ leaf_made s cs (leaf_held m.table r)
        made_is = made ∙ ap (λ (h : LeafHeld). leaf_made s cs h) (sym same_held)

        pub pieces_are : d.made.pieces ≡ (leaf_made s cs (leaf_held m.table r)).pieces
        pieces_are = ap (λ (x : LeafMade). x.pieces) made_is

        pub ready : IsReady s (tree_of m) cs now (page_seen Leaf d.made.updated ∷ [])
        ready = rw (taken, made_is) ready_without

        pub same_pid : d.made.updated.placed.pid ≡ d.held.route.pid
        same_pid = ap (λ (x : LeafMade). x.updated.placed.pid) made ∙ ap (λ (h : LeafHeld). h.route.pid) (sym of)

      -- its place is empty
      pub away : (h : LeafHeld) → h ≡ held → place_of now.table h.route.pid ≡ Some None
      away h e = rw (taken, e) away_without

      -- after it is put back, the tree is the same as before
      pub back : (h : LeafHeld) → h ≡ held → (last : TreeInMemory) → last ≡ record now { table = with_place now.table h.route.pid (Some h.page) } → last ≡ m
      back h e last put =
          let page_is : page_or_none (page_of m.table r.pid) ≡ page = ap (λ (o : Option PageOfKind). page_or_none o) found in
          let again : record without { table = with_place without.table r.pid (Some page) } ≡ m = subst (λ (p : PageOfKind). record without { table = with_place without.table r.pid (Some p) } ≡ m) page_is back_again in
          put ∙ rw (taken, e) again

-- ---- one updated leaf

quiet_by : (r a b : Bool) → (not r && not (a || b)) ≡ true → (a ≡ false) × (b ≡ false) × (r ≡ false)
quiet_by false false false h = (refl, refl, refl)
quiet_by true a b h = absurd (cc)
quiet_by false true b h = absurd (cc)
quiet_by false false true h = absurd (cc)

-- a quiet page is quiet in the view of its parent
seen_quiet : (w : Updated (List ℕ)) → is_quiet w ≡ true → IsSeenQuiet (page_seen Leaf w)
seen_quiet w h = let q = quiet_by w.replaced (is_thin_class w.class) (is_fat_class w.class) h in record { kept = q.0; small = q.1; same = q.2 }

-- what holds for every plan for which the tree is ready
abbrev pub ForReady : Settings → TreeInMemory → Updated (List ℕ) → (Tree → List (Command Global) → Type 0) → Type 0
ForReady s m w P = (t : Tree) (cs : List (Command Global)) → IsReady s t cs m (page_seen Leaf w ∷ []) → P t cs

module _ (s : Settings) (m : TreeInMemory) (w v : Updated (List ℕ)) (same : v ≡ w) where
  -- the same for the same leaf
  pub ready_still : (t : Tree) × (cs : List (Command Global)) × IsReady s t cs m (page_seen Leaf w ∷ []) → (t : Tree) × (cs : List (Command Global)) × IsReady s t cs m (page_seen Leaf v ∷ [])
  ready_still h = (h.0, h.1, subst (λ (x : Updated (List ℕ)). IsReady s h.0 h.1 m (page_seen Leaf x ∷ [])) (sym same) h.2)

  pub for_still : (P : Tree → List (Command Global) → Type 0) → ForReady s m v P → ForReady s m w P
  for_still P f t cs r = f t cs (subst (λ (x : Updated (List ℕ)). IsReady s t cs m (page_seen Leaf x ∷ [])) (sym same) r)

  -- a quiet leaf is put back, and the result is the plan
  pub quiet_home : 1 < s.fan → is_quiet v ≡ true → (now : TreeInMemory) → now ≡ record m { table = with_place m.table v.placed.pid (Some (Leaf v.placed.page)) } → ForReady s m w (λ t cs. AreAllHome now × (tree_of now ≡ planned_tree s t cs))
  quiet_home fan h now e = for_still (λ t cs. AreAllHome now × (tree_of now ≡ planned_tree s t cs)) (λ t cs r. rw e (put_is_planned s fan t cs m (page_seen Leaf v) r (seen_quiet v h)))

-- a leaf that is put back unchanged
pub held_back : (m now : TreeInMemory) (g h : LeafHeld) → g ≡ h → now ≡ record m { table = with_place m.table g.route.pid (Some g.page) } → now ≡ record m { table = with_place m.table h.route.pid (Some h.page) }
held_back m now g h e p = rw (← e) p

pub still_away : (m : TreeInMemory) (g h : LeafHeld) → g ≡ h → place_of m.table h.route.pid ≡ Some None → place_of m.table g.route.pid ≡ Some None
still_away m g h e a = rw e a

-- ---- what holds of a result in one case

pub on_ok : {X E P Q : Type 0} (r : Result X E) → (P → Q) → OnOk r P → OnOk r Q
on_ok (Ok x) f h = f h
on_ok (Err e) f h = h

pub on_err : {X E P Q : Type 0} (r : Result X E) → (P → Q) → OnErr r P → OnErr r Q
on_err (Ok x) f h = h
on_err (Err e) f h = f h

pub if_err : {X E : Type 0} (P Q : E → Type 0) (r : Result X E) → ((e : E) → P e → Q e) → IfErr r P → IfErr r Q
if_err P Q (Ok x) f h = h
if_err P Q (Err e) f h = f e h

-- ---- a batch of one command

module _ (cs : List (Command Global)) (c : Command Global) (r : Route) (pid : ℕ) (one : cs ≡ c ∷ []) (is : (let x : Route = record { pid = pid; places = 0 ∷ [] } in r ≡ x)) where
  pub only_by : (t : Tree) → IsOnlyLeaf t c pid → IsOnlyRoute t cs r
  only_by t h = rw (one, is) h

  -- if the command only reads, its net run is empty
  pub nothing_by : is_only_read cs r ≡ true → (m : List (List ℕ × List ℕ)) → net_run m cs ≡ []
  nothing_by h m = rw one (net_run-looks m (c ∷ []) (rw (one, is) at h))

-- the tree is sound, whether it is the planned one or unchanged
pub sound_after : {X E : Type 0} (r : Result X E) (s : Settings) (m now : TreeInMemory) (cs : List (Command Global)) → IsSoundInMemory s m → IsProper s (planned_tree s (tree_of m) cs) → AreLogsTrue (planned_tree s (tree_of m) cs)
    → OnOk r (AreAllHome now × (tree_of now ≡ planned_tree s (tree_of m) cs)) → OnOk r (now.height ≤ 64) → OnErr r (now ≡ m) → IsSoundInMemory s now
sound_after (Ok x) s m now cs sound proper logs planned low same = sound_planned s m now cs sound planned low proper logs
sound_after (Err e) s m now cs sound proper logs planned low same = rw same sound
