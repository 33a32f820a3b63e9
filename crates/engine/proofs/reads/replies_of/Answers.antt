use Rattle.std.proofs.Common.{◌∙◌, ap, length, arith}
use Rattle.std.proofs.lemmas.List.{nil_from_length}
use Rattle.std.specs.Vec.Iter.{into_iter_items}
use Rattle.replies.proofs.Placing.{within-page, within-pages, length-with_pieces}
use Rattle.engine.proofs.EndedRoutes.{weaker_ok}
use Rattle.engine.proofs.ReadBatch.{read_next, all_read}
use Rattle.engine.proofs.TaskLemmas.{gathered_next, carried}
use Rattle.engine.proofs.reads.replies_of.Goals as goal

pub with_answers-replies-requires-clause-within : goal.with_answers-replies-requires-clause-within
with_answers-replies-requires-clause-within g c =
    within-page c.args.commands.now _ _ _ (read_next g.R.Answers.answers c.in-Some.read _ _ _ c.in-Some.ensures.steps.0 c.into_pieces-pieces.ensures) c.loop-read.invariant.within

pub loop-read-preserved : goal.loop-read-preserved
loop-read-preserved g c =
    let at = c.loop-read in
    let cs = c.args.commands.now in
    let page = c.into_pieces-pieces.result in
    let left = read_next g.R.Answers.answers c.in-Some.read _ _ _ c.in-Some.ensures.steps.0 c.into_pieces-pieces.ensures in
    record {
      count = carried at.replies c.with_answers-replies.result _ _ _ c.with_answers-replies.ensures (λ x y e h. ap length e ∙ length-with_pieces cs page x.items ∙ h) at.invariant.count;
      within = within-pages cs _ _ _ left at.invariant.within;
      gathered = carried at.replies c.with_answers-replies.result _ _ _ c.with_answers-replies.ensures (λ x y e h. gathered_next cs page _ _ x.items y.items _ left e h) at.invariant.gathered;
    }

pub returns : goal.returns
returns g c =
    let at = c.loop-read in
    weaker_ok _ _ at.replies (λ x h. all_read g.R.Answers.answers c.args.commands.now _ _ x.items (nil_from_length (into_iter_items at.read-iterator) (omega (arith, c.in-None.ensures.steps.0))) c.requires h) at.invariant.gathered
