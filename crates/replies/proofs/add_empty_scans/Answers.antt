use Rattle.std.proofs.Common.{◌∙◌, arith}
use Rattle.std.proofs.lemmas.List.{length-set}
use Rattle.replies.proofs.Placing.{empty_scans-first, empty_scans-rest, with_pieces-piece_of_empty_scan}
use Rattle.replies.proofs.add_empty_scans.Goals as goal

pub loop-place-preserved : goal.loop-place-preserved
loop-place-preserved c =
    let at = c.loop-place in
    let left = c.in-Some.ensures.steps.0 in
    let within = empty_scans-first _ _ _ _ left at.invariant.within in
    record {
      count = length-set at.replies c.in-Some.field-0.place _ ∙ at.invariant.count;
      within = empty_scans-rest _ _ _ _ left at.invariant.within;
      gathered = with_pieces-piece_of_empty_scan c.args.commands.now _ _ _ _ _ c.index-commands-place.result c.index-replies-place.result _ c.limit_of.result left at.invariant.gathered within (omega arith) c.index-commands-place.is c.limit_of.ensures c.cut.ensures;
    }
