-- A batch some of whose scans get a closer end, before which they have all their rows: its leaves give the same results with the closer ends; and the
-- replies, the plan and everything else of the batch are the same.
use Rattle.std.specs.Prelude.{◌≡◌, ℕ, suc, ◌<◌, Bool, List, ◌++◌, map, drop, length, slice_get, Option, Some, None, Result, Ok, Err, IfOk}
use Rattle.std.proofs.Common.{refl, sym, ap, ◌∙◌, subst}
use Rattle.std.specs.List.{All, AllByRecursion}
use Rattle.std.specs.Map.{keys_of}
use Rattle.std.specs.Option.{option_map}
use Rattle.std.specs.declared.alloc.Global.{Global}
use Rattle.std.proofs.lemmas.List.Elements.{All-weaker}
use Rattle.keys.specs.CommandKey.{is_ranged, is_scan, is_wipe}
use Rattle.keys.specs.Narrowed.{with_end, first_end, with_ends}
use Rattle.keys.specs.Places.{is_some_that, is_scan_at, is_wipe_at, is_ranged_at}
use Rattle.keys.specs.declared.command.Command.{Command}
use Rattle.keys.specs.declared.command.Command.TheVariants.{Scan}
use Rattle.keys.specs.declared.command.Reply.{Reply}
use Rattle.keys.specs.declared.piece.Piece.{Piece}
use Rattle.keys.specs.declared.settings.Settings.{Settings}
use Rattle.keys.proofs.NarrowedLemmas.{scan-with_end, wipe-with_end, ranged-with_end, get-with_ends, length-with_ends}
use Rattle.mapping.specs.Levels.{levels_of, contents, all_pages, by_pid, top_pid}
use Rattle.mapping.specs.Outdate.{outdate_all}
use Rattle.mapping.specs.Tree.{Tree}
use Rattle.routing.specs.Routes.{Route}
use Rattle.page_runs.specs.Replies.{ArePlacesOf}
use Rattle.page_runs.proofs.EndedBatch.{net_run-with_ends}
use Rattle.replies.specs.ByPlace.{joined_replies, joined_replies_at, reply_at, pieces_at, is_rows, is_count, AreAnswers}
use Rattle.split_plan.specs.UpdatedLevel.{updated_leaves}
use Rattle.climb_plan.specs.Climb.{Climbed, climb}
use Rattle.climb_plan.specs.Plan.{shrunk_levels, shrunk_pids, planned_tree}

abbrev Pairs : Type 0
Pairs = List (List ℕ × List ℕ)

abbrev Changes : Type 0
Changes = List (List ℕ × Option (List ℕ))

-- ---- the plan

-- the tree after a net run
abbrev pub tree_by : Settings → Tree → Changes → Tree
tree_by s t run =
    let l = levels_of t in
    let c : Climbed (List ℕ) = climb s (keys_of t.pages) 0 (updated_leaves s run l.level) l.above in
    let after = shrunk_levels c in
    record {
      pages = by_pid (all_pages after);
      root = top_pid after.level after.above;
      height = suc (length after.above);
      logged = outdate_all (c.outdated ++ shrunk_pids c.tower.above) t.logged;
    }

-- the plan does not depend on scans
pub planned-ended : (s : Settings) (t : Tree) (cs : List (Command Global)) (ends : List (Option (List ℕ))) → planned_tree s t (with_ends cs ends) ≡ planned_tree s t cs
planned-ended s t cs ends = ap (tree_by s t) (net_run-with_ends (contents t) cs ends)

-- ---- the places of a batch

module _ (cs : List (Command Global)) (ends : List (Option (List ℕ))) where
  pub places-ended : (rs : List Route) → AllByRecursion (λ r. ArePlacesOf (with_ends cs ends) r.places) rs → AllByRecursion (λ r. ArePlacesOf cs r.places) rs
  places-ended rs a = subst (λ (n : ℕ). AllByRecursion (λ r. AllByRecursion (λ place. place < n) r.places) rs) (length-with_ends cs ends) a

  -- the kind of a command is the same with any end
  kind_by : (kind : Command Global → Bool) → ((end : Option (List ℕ)) (c : Command Global) → kind (with_end end c) ≡ kind c) → (end : Option (List ℕ)) (o : Option (Command Global)) → is_some_that kind (option_map (with_end end) o) ≡ is_some_that kind o
  kind_by kind same end None = refl
  kind_by kind same end (Some c) = same end c

  kind-ended : (kind : Command Global → Bool) → ((end : Option (List ℕ)) (c : Command Global) → kind (with_end end c) ≡ kind c) → (place : ℕ) → is_some_that kind (slice_get (with_ends cs ends) place) ≡ is_some_that kind (slice_get cs place)
  kind-ended kind same place = ap (is_some_that kind) (get-with_ends cs ends place) ∙ kind_by kind same (first_end (drop place ends)) (slice_get cs place)

  scan-ended : (place : ℕ) → is_scan_at (with_ends cs ends) place ≡ is_scan_at cs place
  scan-ended place = kind-ended is_scan scan-with_end place

  wipe-ended : (place : ℕ) → is_wipe_at (with_ends cs ends) place ≡ is_wipe_at cs place
  wipe-ended place = kind-ended is_wipe wipe-with_end place

  ranged-ended : (place : ℕ) → is_ranged_at (with_ends cs ends) place ≡ is_ranged_at cs place
  ranged-ended place = kind-ended is_ranged ranged-with_end place

  joined-with_end : (end : Option (List ℕ)) (c : Command Global) (rs : List (Reply Global)) → joined_replies (with_end end c) rs ≡ joined_replies c rs
  joined-with_end None c rs = refl
  joined-with_end (Some end) (Scan lo hi limit) rs = refl
  joined-with_end (Some end) _ rs = refl

  joined_by : (end : Option (List ℕ)) (o : Option (Command Global)) (rs : List (Reply Global)) → joined_replies_at (option_map (with_end end) o) rs ≡ joined_replies_at o rs
  joined_by end None rs = refl
  joined_by end (Some c) rs = joined-with_end end c rs

  -- pieces make the same replies
  pub reply-ended : (ps : List (Piece Global)) (place : ℕ) → reply_at (with_ends cs ends) ps place ≡ reply_at cs ps place
  reply-ended ps place =
      let rs : List (Reply Global) = map (λ p. p.reply) (pieces_at ps place) in
      ap (λ (o : Option (Command Global)). joined_replies_at o rs) (get-with_ends cs ends place) ∙ joined_by (first_end (drop place ends)) (slice_get cs place) rs

  -- and are answers to either
  pub answers-ended : (ps : List (Piece Global)) → AreAnswers (with_ends cs ends) ps → AreAnswers cs ps
  answers-ended ps a = record {
    within = subst (λ (n : ℕ). All (λ p. p.place < n) ps) (length-with_ends cs ends) a.within;
    kind = All-weaker (λ p. is_rows p.reply ≡ is_scan_at (with_ends cs ends) p.place) (λ p. is_rows p.reply ≡ is_scan_at cs p.place) (λ p h. h ∙ scan-ended p.place) ps a.kind;
    counts = All-weaker (λ p. is_count p.reply ≡ is_wipe_at (with_ends cs ends) p.place) (λ p. is_count p.reply ≡ is_wipe_at cs p.place) (λ p h. h ∙ wipe-ended p.place) ps a.counts;
    once = λ place h plain. a.once place (subst (λ (n : ℕ). place < n) (sym (length-with_ends cs ends)) h) (ranged-ended place ∙ plain);
  }

-- what holds of a result where it is `Ok`
pub weaker_ok : {X E : Type 0} (P Q : X → Type 0) (r : Result X E) → ((x : X) → P x → Q x) → IfOk r P → IfOk r Q
weaker_ok P Q (Ok x) f h = f x h
weaker_ok P Q (Err e) f h = h
