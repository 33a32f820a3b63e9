use Rattle.replies.proofs.Placing.{count-with_pieces, replies-with_pieces, with_pieces-append}
use Rattle.replies.proofs.laws.blanks_with_all_answers_are_the_replies.Goals as goal

pub returns-clause-count : goal.returns-clause-count
returns-clause-count g c = count-with_pieces

pub returns-clause-replies : goal.returns-clause-replies
returns-clause-replies g c = replies-with_pieces

pub returns-clause-pages : goal.returns-clause-pages
returns-clause-pages g c = with_pieces-append
