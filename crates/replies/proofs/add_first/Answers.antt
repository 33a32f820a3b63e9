use Rattle.std.proofs.Common.{[], refl, arith}
use Rattle.std.proofs.lemmas.Result.{on_ok_weaker}
use Rattle.replies.proofs.Placing.{within-first, with_pieces-rest}
use Rattle.replies.proofs.add_first.Goals as goal

pub returns-in-Some : goal.returns-in-Some
returns-in-Some c =
    let piece = c.in-Some.piece in
    let within = within-first c.args.commands.now piece _ [] refl (rw c.in-Some.is at c.requires.within) in
    rw c.in-Some.is (on_ok_weaker c.add.result (with_pieces-rest c.args.commands.now piece _ [] c.args.replies.now _ c.index-commands-place.result c.index-replies-place.result _ refl refl within (omega arith) c.index-commands-place.is) c.add.ensures)

pub bounds-replies-place : goal.bounds-replies-place
bounds-replies-place c = let within = within-first c.args.commands.now c.in-Some.piece _ [] refl (rw c.in-Some.is at c.requires.within) in omega arith

pub bounds-commands-place : goal.bounds-commands-place
bounds-commands-place c = within-first c.args.commands.now c.in-Some.piece _ [] refl (rw c.in-Some.is at c.requires.within)
