use Rattle.std.proofs.Common.{arith}
use Rattle.flush_log.proofs.NumberLemmas.{room, place_small, head_test, head_small, head_end_small, position_small, tail_small}
use Rattle.flush_log.proofs.commit_laws.a_log_has_room_for_its_positions.Goals as goal

pub returns : goal.returns
returns c = record {
  test = head_test;
  head = head_small;
  next_head = head_end_small;
  position = λ s head tail n offset good following small. position_small s head tail good following small n offset;
  tail = tail_small;
  sequence = λ n small. omega arith;
  place = λ s n offset good within. let place = place_small s good n offset within in omega arith;
  size = λ s good. let all = room s good in omega arith;
}
