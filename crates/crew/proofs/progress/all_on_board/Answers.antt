use Rattle.std.proofs.Common.{◌+◌, ◌++◌, ap, map, ◌∙◌, arith, length, drop}
use Rattle.std.proofs.lemmas.Grind.{common_steps}
use Rattle.std.proofs.lemmas.List.{length_push}
use Rattle.crew.specs.Marks.{forgotten, jobs_in}
use Rattle.crew.specs.Round.{numbered_pieces}
use Rattle.crew.proofs.AllOnBoard.{board_more}
use Rattle.crew.proofs.progress.all_on_board.Goals as goal

pub loop-piece-preserved : goal.loop-piece-preserved
loop-piece-preserved g c = record {
  room = omega arith;
  count = ap length c.push_back_reserved.ensures.items ∙ length_push _ _ ∙ ap (λ n. n + 1) c.loop-piece.invariant.count;
  first = grind (arith, common_steps);
  board =
      ap (λ board. map jobs_in board ++ numbered_pieces (c.loop-piece.first + c.len.result) (map (λ piece. forgotten piece.items) (drop (c.loop-piece.piece-index + 1) c.args.pieces.now)))
      c.push_back_reserved.ensures.items
      ∙ board_more c.loop-piece.board.items c.loop-piece.first c.len.result c.loop-piece.piece-index c.args.pieces.now c.piece-item.result c.loop-piece-test.true c.piece-item.is (omega arith)
      ∙ c.loop-piece.invariant.board;
}
