use Rattle.std.proofs.Common.{◌∙◌, arith}
use Rattle.std.proofs.lemmas.List.{length-set}
use Rattle.replies.proofs.Placing.{within-first, within-rest, with_pieces-rest}
use Rattle.replies.proofs.add_all.Goals as goal

pub loop-place-preserved : goal.loop-place-preserved
loop-place-preserved c =
    let at = c.loop-place in
    let left = c.in-Some.ensures.steps.0 in
    let within = within-first _ _ _ _ left at.invariant.within in
    record {
      count = length-set at.replies c.in-Some.field-0.place _ ∙ at.invariant.count;
      within = within-rest _ _ _ _ left at.invariant.within;
      gathered = with_pieces-rest _ _ _ _ _ _ c.index-commands-place.result c.index-replies-place.result _ left at.invariant.gathered within (omega arith) c.index-commands-place.is c.in_ok-add.ensures;
    }
