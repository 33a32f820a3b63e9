use Rattle.std.proofs.Common.{◌∙◌, ap, length, arith}
use Rattle.std.proofs.lemmas.List.{nil_from_length}
use Rattle.std.specs.Vec.Iter.{into_iter_items}
use Rattle.replies.proofs.Placing.{within-page, within-pages, length-with_pieces}
use Rattle.engine.proofs.EndedRoutes.{weaker_ok}
use Rattle.engine.proofs.TaskLemmas.{asked_next, pieces_next, gathered_next, carried, all_added}
use Rattle.engine.proofs.leaves.take_replies.Goals as goal

pub take_answers-pieces-requires : goal.take_answers-pieces-requires
take_answers-pieces-requires c = omega (arith, ap length c.in-Some.ensures.steps.0, c.loop-done.invariant.room)

pub with_answers-replies-requires-clause-within : goal.with_answers-replies-requires-clause-within
with_answers-replies-requires-clause-within c =
    within-page c.args.commands.now _ _ _ (pieces_next c.in-Some.done _ _ _ c.in-Some.ensures.steps.0 c.take_answers-pieces.ensures.pieces) c.loop-done.invariant.within

pub loop-done-preserved : goal.loop-done-preserved
loop-done-preserved c =
    let at = c.loop-done in
    let cs = c.args.commands.now in
    let page = c.take_answers-pieces.result in
    let left = pieces_next c.in-Some.done _ _ _ c.in-Some.ensures.steps.0 c.take_answers-pieces.ensures.pieces in
    record {
      count = carried at.replies c.with_answers-replies.result _ _ _ c.with_answers-replies.ensures (λ x y e h. ap length e ∙ length-with_pieces cs page x.items ∙ h) at.invariant.count;
      within = within-pages cs _ _ _ left at.invariant.within;
      gathered = carried at.replies c.with_answers-replies.result _ _ _ c.with_answers-replies.ensures (λ x y e h. gathered_next cs page _ _ x.items y.items _ left e h) at.invariant.gathered;
      leaves = asked_next _ _ c.in-Some.done _ _ _ c.in-Some.ensures.steps.0 c.take_answers-pieces.ensures.leaves at.invariant.leaves;
      room = omega (arith, ap length c.in-Some.ensures.steps.0, c.take_answers-pieces.ensures.count, c.take_answers-pieces.ensures.same, at.invariant.room);
    }

pub returns-clause-replies : goal.returns-clause-replies
returns-clause-replies c =
    let at = c.loop-done in
    weaker_ok _ _ at.replies (λ x h. all_added c.args.commands.now _ _ x.items (nil_from_length (into_iter_items at.done-iterator) (omega (arith, c.in-None.ensures.steps.0))) c.requires.answered h) at.invariant.gathered
