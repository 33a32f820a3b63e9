use Rattle.std.proofs.Common.{◌≡◌, vec_len}
use Rattle.claim_board.proofs.Gathering.{Gathered}
use Rattle.claim_board.proofs.draw.Board.close.Given as goal

abbrev pub invariant-loop-pass : goal.invariant-loop-pass
invariant-loop-pass g l = (l.all.table_id ≡ l.self.table.shared.table_id) × Gathered l.self l.all.me.0 l.passes.items l.fn.passes.items

abbrev pub decreases-loop-pass : goal.decreases-loop-pass
decreases-loop-pass g l = vec_len l.passes
