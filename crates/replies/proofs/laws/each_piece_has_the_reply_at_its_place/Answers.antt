use Rattle.replies.proofs.Placing.{reply_at-piece, reply_at-scan, reply_at-wipe, replies_determined}
use Rattle.replies.proofs.laws.each_piece_has_the_reply_at_its_place.Goals as goal

pub returns-clause-here : goal.returns-clause-here
returns-clause-here g c = reply_at-piece

pub returns-clause-scan : goal.returns-clause-scan
returns-clause-scan g c = reply_at-scan

pub returns-clause-wipe : goal.returns-clause-wipe
returns-clause-wipe g c = reply_at-wipe

pub returns-clause-determined : goal.returns-clause-determined
returns-clause-determined g c cs ps xs rs answers made len reported scans wipes = replies_determined cs ps rs answers reported scans wipes xs made len
