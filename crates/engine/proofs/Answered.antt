-- The answers of the leaves that a batch goes to make the replies of the whole batch.
use Rattle.std.specs.Prelude.{◌≡◌, ℕ, ◌+◌, ◌≤◌, cond, length, List, [], ◌∷◌, ◌++◌, flat_map, slice_get, Some, None}
use Rattle.std.proofs.Common.{refl, sym, ap, ◌∙◌, subst}
use Rattle.std.specs.List.{AllByRecursion}
use Rattle.std.specs.declared.alloc.Global.{Global}
use Rattle.keys.specs.Order.{IsRising}
use Rattle.keys.specs.Step.{replies_to}
use Rattle.keys.specs.declared.command.Command.{Command}
use Rattle.keys.specs.declared.command.Reply.{Reply}
use Rattle.keys.specs.declared.piece.Piece.{Piece}
use Rattle.keys.specs.declared.settings.Settings.{Settings}
use Rattle.index_page.specs.Children.{Place}
use Rattle.index_page.specs.Page.{PageOfKind, entries, leaf_of}
use Rattle.mapping.specs.Levels.{Placed, levels_of, contents, joined, pids}
use Rattle.mapping.specs.Proper.{next_low, Tiled, Distinct, IsProper}
use Rattle.mapping.specs.Table.{Mapping, page_of}
use Rattle.mapping.specs.TreeInMemory.{TreeInMemory, AreAllHome, tree_of}
use Rattle.mapping.proofs.TileLemmas.{rising-joined}
use Rattle.routing.specs.Routes.{Route, route_to, has_places, places_within, ranges, routes}
use Rattle.routing.proofs.RouteLemmas.{kept}
use Rattle.page_runs.specs.LeafWork.{leaf_made}
use Rattle.page_runs.specs.Replies.{commands_at, pieces_of}
use Rattle.replies.specs.ByPlace.{most_counted, reply_at, AreAnswers}
use Rattle.climb_plan.specs.Installing.{page_or_none}
use Rattle.climb_plan.proofs.Installing.{distinct_first}
use Rattle.engine.specs.Leaves.{IsLeafAt, AreLeafRoutes, leaf_held, leaves_made, answers}
use Rattle.engine.proofs.LeafRoutes.{IsHomeLeaf, pids-ranges, all-route_pids, distinct-route_pids, within-routes, home_leaves, leaves_there, HoldsPart, parts_from}
use Rattle.engine.proofs.PartAnswers.{answers_from, page_answers, all_answers_from, answers_are_right, answers_make_the_replies}

abbrev Commands : Type 0
Commands = List (Command Global)

-- the routes of a batch to the leaves of a tree in memory
abbrev pub routes_here : TreeInMemory → Commands → List Route
routes_here m cs = routes (levels_of (tree_of m)).level cs

-- ---- the leaves of some routes

module _ (s : Settings) (cs : Commands) (t : Mapping PageOfKind) where
  -- the answers of a leaf's job
  abbrev leaf_answers : Route → List (Piece Global)
  leaf_answers r = (leaf_made s cs (leaf_held t r)).pieces

  abbrev all_answers : List Route → List (Piece Global)
  all_answers rs = answers (leaves_made s cs t rs)

  -- a leaf to which no command goes has no answers
  answers_if : (pid : ℕ) (ps : List ℕ) (rs : List Route) → (let r : Route = record { pid = pid; places = ps } in all_answers (cond (has_places r) (r ∷ rs) rs) ≡ leaf_answers r ++ all_answers rs)
  answers_if pid [] rs = refl
  answers_if pid (p ∷ ps) rs = refl

  module _ (m : List (List ℕ × List ℕ)) (rises : IsRising m) where
    -- a leaf that has its part of the map gives the answers to its own commands on this part
    its_answers : (at : Place) → HoldsPart t m at → leaf_answers (route_to cs at) ≡ answers_from 0 at.low at.end m cs
    its_answers at h =
        let home = h.home in
        let ps = places_within at.low at.end cs in
        let part : entries (leaf_of (page_or_none (page_of t at.pid))) ≡ entries h.leaf = rw home refl in
        ap (λ (x : List (List ℕ × List ℕ)). pieces_of ps (replies_to x (commands_at cs ps))) (part ∙ h.part) ∙ page_answers at.low at.end m cs rises

    kept_answers : (ats : List Place) → AllByRecursion (HoldsPart t m) ats → all_answers (kept cs ats) ≡ all_answers_from m cs ats
    kept_answers [] h = refl
    kept_answers (at ∷ ats) h =
        answers_if at.pid (places_within at.low at.end cs) (kept cs ats)
        ∙ ap (λ (ps : List (Piece Global)). ps ++ all_answers (kept cs ats)) (its_answers at h.0)
        ∙ ap (λ (ps : List (Piece Global)). answers_from 0 at.low at.end m cs ++ ps) (kept_answers ats h.1)

-- ---- a level of leaves

module _ (s : Settings) (cs : Commands) (t : Mapping PageOfKind) (level : List (Placed (List ℕ))) (home : AllByRecursion (IsHomeLeaf t) level) where
  -- the routes are to leaves in the table, to distinct ones if the pids are distinct
  level_routes : Distinct (pids level) → AreLeafRoutes t cs (routes level cs)
  level_routes distinct =
      let IsLeafPid : ℕ → Type 0 = λ pid. IsLeafAt (page_of t pid) in
      record {
        home = all-route_pids cs IsLeafPid (ranges level) (subst (λ (ns : List ℕ). AllByRecursion IsLeafPid ns) (sym (pids-ranges level)) (leaves_there t level home));
        distinct = distinct-route_pids cs (ranges level) (subst (λ (ns : List ℕ). Distinct ns) (sym (pids-ranges level)) distinct);
        places = within-routes cs (ranges level);
      }

  module _ (first : next_low level None ≡ Some []) (tiled : Tiled level None) where
    level_answers : all_answers s cs t (routes level cs) ≡ all_answers_from (joined level) cs (ranges level)
    level_answers = kept_answers s cs t (joined level) (rising-joined level None tiled) (ranges level) (parts_from t [] level level refl tiled home)

    -- leaves that tile all keys give correct answers
    level_rightly : AreAnswers cs (all_answers s cs t (routes level cs))
    level_rightly = rw level_answers (answers_are_right level first tiled (joined level) cs (rising-joined level None tiled))

    -- and their answers make the replies of the map that they hold together
    level_as_a_map : length (joined level) + length cs ≤ most_counted → (rs : List (Reply Global)) → ((place : ℕ) → slice_get rs place ≡ reply_at cs (all_answers s cs t (routes level cs)) place) → rs ≡ replies_to (joined level) cs
    level_as_a_map few rs answered =
        answers_make_the_replies level first tiled (joined level) cs (rising-joined level None tiled) few rs
        (λ place. answered place ∙ ap (λ (ps : List (Piece Global)). reply_at cs ps place) level_answers)

-- ---- the leaves of a tree

module _ (s : Settings) (m : TreeInMemory) (cs : Commands) (home : AreAllHome m) (proper : IsProper s (tree_of m)) where
  leaves_home : AllByRecursion (IsHomeLeaf m.table) (levels_of (tree_of m)).level
  leaves_home = home_leaves m.table (levels_of (tree_of m)).level home proper.held.leaves

  -- the leaves of its level have their parts of the contents
  pub leaf_parts : AllByRecursion (HoldsPart m.table (contents (tree_of m))) (ranges (levels_of (tree_of m)).level)
  leaf_parts = let level = (levels_of (tree_of m)).level in parts_from m.table [] level level refl proper.levels.tiled leaves_home

  -- the routes of a batch are to distinct leaves in the table
  pub routes_are_leaves : AreLeafRoutes m.table cs (routes_here m cs)
  routes_are_leaves =
      let l = levels_of (tree_of m) in
      level_routes s cs m.table l.level leaves_home (distinct_first (pids l.level) (flat_map pids l.above) proper.levels.distinct)

  -- the answers of the leaves are correct
  pub answered_rightly : AreAnswers cs (answers (leaves_made s cs m.table (routes_here m cs)))
  answered_rightly = level_rightly s cs m.table (levels_of (tree_of m)).level leaves_home proper.levels.first proper.levels.tiled

  -- replies that are made, at each place, of the answers there are those of the whole batch on the whole map
  pub answered_as_a_map : length (contents (tree_of m)) + length cs ≤ most_counted → (rs : List (Reply Global)) → ((place : ℕ) → slice_get rs place ≡ reply_at cs (answers (leaves_made s cs m.table (routes_here m cs))) place) → rs ≡ replies_to (contents (tree_of m)) cs
  answered_as_a_map few rs answered = level_as_a_map s cs m.table (levels_of (tree_of m)).level leaves_home proper.levels.first proper.levels.tiled few rs answered
