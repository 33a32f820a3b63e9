-- A batch that only reads: no leaf may be changed by it, and the answers of leaves in the tree are those of jobs for them.
use Rattle.std.specs.Prelude.{◌≡◌, ℕ, zero, suc, ◌&&◌, Bool, true, false, map, slice_get, List, [], ◌∷◌}
use Rattle.std.proofs.Common.{refl, sym, ap, ◌∙◌}
use Rattle.std.proofs.lemmas.List.Folds.{list_all-append}
use Rattle.std.specs.List.{AllByRecursion, list_all}
use Rattle.std.specs.Option.{option_to_list}
use Rattle.std.specs.declared.alloc.Global.{Global}
use Rattle.keys.specs.Lists.{flat}
use Rattle.keys.specs.declared.command.Command.{Command}
use Rattle.keys.specs.declared.command.Reply.{Reply}
use Rattle.keys.specs.declared.piece.Piece.{Piece}
use Rattle.keys.specs.declared.settings.Settings.{Settings}
use Rattle.mapping.specs.Table.{page_of}
use Rattle.mapping.specs.TreeInMemory.{TreeInMemory}
use Rattle.routing.specs.Routes.{Route}
use Rattle.page_runs.specs.LeafWork.{LeafMade, leaf_made}
use Rattle.page_runs.specs.Reads.{IsRouteToRead, is_read_only, is_only_read, route_answers}
use Rattle.page_runs.specs.Replies.{commands_at, ArePlacesOf}
use Rattle.replies.specs.ByPlace.{AreAnswers, blank_of, reply_at, with_pieces}
use Rattle.replies.proofs.Placing.{replies-with_pieces}
use Rattle.climb_plan.proofs.Installing.{tree_taken}
use Rattle.engine.specs.Leaves.{IsLeafAt, route_pids, leaf_held, leaves_made, answers, written_routes}
use Rattle.engine.proofs.TaskLemmas.{answers_by}

both_look : (a b : Bool) → (a && b) ≡ true → (a ≡ true) × (b ≡ true)
both_look true true h = (refl, refl)
both_look true false h = absurd (cc)
both_look false b h = absurd (cc)

looks_at : (cs : List (Command Global)) (i : ℕ) → list_all is_read_only cs ≡ true → list_all is_read_only (option_to_list (slice_get cs i)) ≡ true
looks_at [] i h = refl
looks_at (c ∷ cs) zero h = ap (λ (b : Bool). b && true) (both_look (is_read_only c) (list_all is_read_only cs) h).0
looks_at (c ∷ cs) (suc i) h = looks_at cs i (both_look (is_read_only c) (list_all is_read_only cs) h).1

all_look : (cs : List (Command Global)) (ps : List ℕ) → list_all is_read_only cs ≡ true → list_all is_read_only (commands_at cs ps) ≡ true
all_look cs [] h = refl
all_look cs (p ∷ ps) h =
    list_all-append is_read_only (option_to_list (slice_get cs p)) (commands_at cs ps)
    ∙ ap (λ (b : Bool). b && list_all is_read_only (commands_at cs ps)) (looks_at cs p h)
    ∙ all_look cs ps h

-- no leaf may be changed
pub none_written : (cs : List (Command Global)) → list_all is_read_only cs ≡ true → (rs : List Route) → written_routes cs rs ≡ []
none_written cs h [] = refl
none_written cs h (r ∷ rs) = let e : is_only_read cs r ≡ true = all_look cs r.places h in rw e (none_written cs h rs)

-- so none is checked out
pub none_taken : (cs : List (Command Global)) → list_all is_read_only cs ≡ true → (m : TreeInMemory) (rs : List Route) → m ≡ tree_taken m (route_pids (written_routes cs rs))
none_taken cs h m rs = ap (λ (ws : List Route). tree_taken m (route_pids ws)) (sym (none_written cs h rs))

pub none_made : (cs : List (Command Global)) → list_all is_read_only cs ≡ true → (s : Settings) (m : TreeInMemory) (rs : List Route) → ◌≡◌ {A = List LeafMade} [] (leaves_made s cs m.table (written_routes cs rs))
none_made cs h s m rs = ap (λ (ws : List Route). leaves_made s cs m.table ws) (sym (none_written cs h rs))

-- leaves in the table, and places of the batch, may be read
pub all_readable : (m : TreeInMemory) (cs : List (Command Global)) (rs : List Route) → AllByRecursion (λ pid. IsLeafAt (page_of m.table pid)) (route_pids rs) → AllByRecursion (λ r. ArePlacesOf cs r.places) rs → AllByRecursion (IsRouteToRead m cs) rs
all_readable m cs [] a b = tt
all_readable m cs (r ∷ rs) a b = (record { home = a.0; places = b.0 }, all_readable m cs rs a.1 b.1)

read_as_jobs : (s : Settings) (cs : List (Command Global)) (m : TreeInMemory) (rs : List Route) → AllByRecursion (λ pid. IsLeafAt (page_of m.table pid)) (route_pids rs) → map (route_answers m cs) rs ≡ map (λ x. x.pieces) (leaves_made s cs m.table rs)
read_as_jobs s cs m [] a = refl
read_as_jobs s cs m (r ∷ rs) a =
    ap (λ (ps : List (Piece Global)). ps ∷ map (route_answers m cs) rs) (answers_by cs (page_of m.table r.pid) r a.0)
    ∙ ap (λ (xs : List (List (Piece Global))). (leaf_made s cs (leaf_held m.table r)).pieces ∷ xs) (read_as_jobs s cs m rs a.1)

-- their answers
pub answers_read : (s : Settings) (cs : List (Command Global)) (m : TreeInMemory) (rs : List Route) → AllByRecursion (λ pid. IsLeafAt (page_of m.table pid)) (route_pids rs)
    → flat (map (route_answers m cs) rs) ≡ answers (leaves_made s cs m.table rs)
answers_read s cs m rs a = ap (λ (xs : List (List (Piece Global))). flat xs) (read_as_jobs s cs m rs a)

module _ {D : Type 0} (pieces : D → List (Piece Global)) where
  -- the next answers are the first of the remaining ones
  pub read_next : (d : D) (ds all : List D) (ps : List (Piece Global)) → all ≡ d ∷ ds → ps ≡ pieces d → map pieces all ≡ ps ∷ map pieces ds
  read_next d ds all ps e p = ap (λ (xs : List D). map pieces xs) e ∙ ap (λ (qs : List (Piece Global)). qs ∷ map pieces ds) (sym p)

  -- when no answers remain, each reply is at its place
  pub all_read : (cs : List (Command Global)) (left : List D) (all : List (Piece Global)) (rs : List (Reply Global)) → left ≡ [] → AreAnswers cs all → with_pieces cs (flat (map pieces left)) rs ≡ with_pieces cs all (map blank_of cs)
      → (place : ℕ) → slice_get rs place ≡ reply_at cs all place
  all_read cs left all rs none a h place =
      let made : rs ≡ with_pieces cs all (map blank_of cs) = rw none at h in
      ap (λ (qs : List (Reply Global)). slice_get qs place) made ∙ replies-with_pieces cs all a place
