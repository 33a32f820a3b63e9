use Rattle.std.proofs.Common.{◌≡◌, ◌∙◌, ◌++◌, ap, length, take, drop, sym}
use Rattle.std.specs.Prelude.{slice_get}
use Rattle.std.proofs.lemmas.List.{take_at}
use Rattle.replies.specs.ByPlace.{with_pieces}
use Rattle.replies.proofs.Placing.{length-blanks, length-with_pieces, replies-with_pieces}
use Rattle.engine.proofs.execute_one.replies_of.Goals as goal

pub add_answers-requires-clause-count : goal.add_answers-requires-clause-count
add_answers-requires-clause-count c = ap length c.deref_mut.ensures.value ∙ ap length c.in_ok-replies.ensures ∙ length-blanks c.args.commands.now

pub add_answers-requires-clause-within : goal.add_answers-requires-clause-within
add_answers-requires-clause-within c = c.requires.within

pub returns : goal.returns
returns c =
    let cs = c.args.commands.now in
    let ps = c.args.pieces in
    let was = c.in_ok-replies.replies in
    let now : c.add_answers.new.replies ≡ with_pieces cs ps was.items = c.in_ok-add_answers.ensures ∙ ap (with_pieces cs ps) c.deref_mut.ensures.value in
    let len : length c.add_answers.new.replies ≡ was.len = ap length now ∙ length-with_pieces cs ps was.items ∙ sym was.ok.0 in
    let is : take was.len (c.add_answers.new.replies ++ drop (length c.add_answers.new.replies) was.items) ≡ with_pieces cs ps was.items = take_at _ _ _ len ∙ now in
    λ place. ap (λ xs. slice_get xs place) (is ∙ ap (with_pieces cs ps) c.in_ok-replies.ensures) ∙ replies-with_pieces cs ps c.requires place
