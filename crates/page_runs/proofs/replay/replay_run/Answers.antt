use Rattle.std.proofs.Common.{◌≡◌, true, List, ℕ, ◌∙◌, subst, sym}
use Rattle.std.specs.declared.alloc.Global.{Global}
use Rattle.std.specs.List.{list_all}
use Rattle.std.specs.List.Sorted.{IsNonDecreasing, IsPermutation}
use Rattle.std.proofs.lemmas.List.Sorted.{IsPermutation-trans, non_decreasing_from_is_sorted}
use Rattle.std.proofs.lemmas.Result.{IfOk-weaker}
use Rattle.keys.specs.declared.command.Command.{Command}
use Rattle.delta_chain.specs.Layers.{entries_of}
use Rattle.delta_chain.proofs.LayerLemmas.{rising-entries_of}
use Rattle.page_runs.specs.Reads.{is_read_only}
use Rattle.page_runs.specs.Replies.{commands_at}
use Rattle.page_runs.proofs.KeyOrder.{same_pieces, same_pieces_in_order, same_pieces_of_reads, same_read_only, same_run, same_run_in_order, same_run_of_reads, within_permutation}
use Rattle.page_runs.proofs.replay.replay_run.Goals as goal

read_only : (cs : List (Command Global)) (ps qs : List ℕ) → IsPermutation ps qs → list_all is_read_only (commands_at cs qs) ≡ true → list_all is_read_only (commands_at cs ps) ≡ true
read_only cs ps qs same h = same_read_only cs ps qs same ∙ h

sorted_places : (ps qs os : List ℕ) (result : List ℕ) → IsPermutation ps qs → IsPermutation qs os → result ≡ os → IsPermutation ps result
sorted_places ps qs os result p q e = subst (λ (xs : List ℕ). IsPermutation ps xs) (sym e) (IsPermutation-trans ps qs os p q)

sorted_rising : (os result : List ℕ) → IsNonDecreasing os → result ≡ os → IsNonDecreasing result
sorted_rising os result h e = subst (λ (xs : List ℕ). IsNonDecreasing xs) (sym e) h

-- ---- all only read

pub replay-requires : goal.replay-requires
replay-requires c = within_permutation c.args.commands.now c.args.page_run.now.places c.places-places.result.now c.places-places.ensures.same c.requires

pub returns-then-kinds-eq0-clause-run : goal.returns-then-kinds-eq0-clause-run
returns-then-kinds-eq0-clause-run c =
    let cs = c.args.commands.now in
    let ps = c.args.page_run.now.places in
    let qs = c.places-places.result.now in
    let same = c.places-places.ensures.same in
    IfOk-weaker c.replay.result _ _ (λ r e. e ∙ same_run_of_reads cs ps qs c.places-places.ensures.rising same c.requires (entries_of c.args.page.now) (read_only cs ps qs same (c.of-kinds.ensures c.if-kinds-eq0.true))) c.replay.ensures.run

pub returns-then-kinds-eq0-clause-pieces : goal.returns-then-kinds-eq0-clause-pieces
returns-then-kinds-eq0-clause-pieces c =
    let cs = c.args.commands.now in
    let ps = c.args.page_run.now.places in
    let qs = c.places-places.result.now in
    let same = c.places-places.ensures.same in
    IfOk-weaker c.replay.result _ _ (λ r e. e ∙ same_pieces_of_reads cs ps qs c.places-places.ensures.rising same c.requires (entries_of c.args.page.now) (read_only cs ps qs same (c.of-kinds.ensures c.if-kinds-eq0.true))) c.replay.ensures.pieces

-- ---- on one key each, in the order of the keys

pub replay-requires-then-are_points_by_key : goal.replay-requires-then-are_points_by_key
replay-requires-then-are_points_by_key c = within_permutation c.args.commands.now c.args.page_run.now.places c.places-places.result.now c.places-places.ensures.same c.requires

pub returns-then-are_points_by_key-clause-run : goal.returns-then-are_points_by_key-clause-run
returns-then-are_points_by_key-clause-run c =
    let said = c.are_points_by_key.ensures in
    let yes = c.if-are_points_by_key.true in
    IfOk-weaker c.replay-then-are_points_by_key.result _ _ (λ r e. e ∙ same_run c.args.commands.now c.args.page_run.now.places c.places-places.result.now c.places-places.ensures.rising c.places-places.ensures.same c.requires (said.points yes) (said.in_order yes) (entries_of c.args.page.now) (rising-entries_of c.args.page.now c.depth-in_order.ensures.rising)) c.replay-then-are_points_by_key.ensures.run

pub returns-then-are_points_by_key-clause-pieces : goal.returns-then-are_points_by_key-clause-pieces
returns-then-are_points_by_key-clause-pieces c =
    let said = c.are_points_by_key.ensures in
    let yes = c.if-are_points_by_key.true in
    IfOk-weaker c.replay-then-are_points_by_key.result _ _ (λ r e. e ∙ same_pieces c.args.commands.now c.args.page_run.now.places c.places-places.result.now c.places-places.ensures.rising c.places-places.ensures.same c.requires (said.points yes) (said.in_order yes) (entries_of c.args.page.now) (rising-entries_of c.args.page.now c.depth-in_order.ensures.rising)) c.replay-then-are_points_by_key.ensures.pieces

-- ---- in the order of the batch

pub replay-requires-then-is_sorted : goal.replay-requires-then-is_sorted
replay-requires-then-is_sorted c = within_permutation c.args.commands.now c.args.page_run.now.places c.places-places.result.now c.places-places.ensures.same c.requires

pub returns-then-is_sorted-clause-run : goal.returns-then-is_sorted-clause-run
returns-then-is_sorted-clause-run c =
    let qs = c.places-places.result.now in
    IfOk-weaker c.replay-then-is_sorted.result _ _ (λ r e. e ∙ same_run_in_order c.args.commands.now c.args.page_run.now.places qs c.places-places.ensures.rising c.places-places.ensures.same c.requires (entries_of c.args.page.now) (non_decreasing_from_is_sorted qs true c.if-is_sorted.ensures.cases)) c.replay-then-is_sorted.ensures.run

pub returns-then-is_sorted-clause-pieces : goal.returns-then-is_sorted-clause-pieces
returns-then-is_sorted-clause-pieces c =
    let qs = c.places-places.result.now in
    IfOk-weaker c.replay-then-is_sorted.result _ _ (λ r e. e ∙ same_pieces_in_order c.args.commands.now c.args.page_run.now.places qs c.places-places.ensures.rising c.places-places.ensures.same c.requires (entries_of c.args.page.now) (non_decreasing_from_is_sorted qs true c.if-is_sorted.ensures.cases)) c.replay-then-is_sorted.ensures.pieces

-- ---- sorted into the order of the batch

pub replay-requires-2 : goal.replay-requires-2
replay-requires-2 c =
    let ps = c.args.page_run.now.places in
    let qs = c.deref.result.now in
    within_permutation c.args.commands.now ps qs (sorted_places ps _ _ qs c.places-places.ensures.same c.in_ok-sorted.ensures.same c.deref.ensures.value) c.requires

pub returns-clause-run : goal.returns-clause-run
returns-clause-run c =
    let ps = c.args.page_run.now.places in
    let qs = c.deref.result.now in
    IfOk-weaker c.replay-2.result _ _ (λ r e. e ∙ same_run_in_order c.args.commands.now ps qs c.places-places.ensures.rising (sorted_places ps _ _ qs c.places-places.ensures.same c.in_ok-sorted.ensures.same c.deref.ensures.value) c.requires (entries_of c.args.page.now) (sorted_rising _ qs c.in_ok-sorted.ensures.rising c.deref.ensures.value)) c.replay-2.ensures.run

pub returns-clause-pieces : goal.returns-clause-pieces
returns-clause-pieces c =
    let ps = c.args.page_run.now.places in
    let qs = c.deref.result.now in
    IfOk-weaker c.replay-2.result _ _ (λ r e. e ∙ same_pieces_in_order c.args.commands.now ps qs c.places-places.ensures.rising (sorted_places ps _ _ qs c.places-places.ensures.same c.in_ok-sorted.ensures.same c.deref.ensures.value) c.requires (entries_of c.args.page.now) (sorted_rising _ qs c.in_ok-sorted.ensures.rising c.deref.ensures.value)) c.replay-2.ensures.pieces
