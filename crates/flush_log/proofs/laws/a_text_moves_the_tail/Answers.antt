use Rattle.flush_log.proofs.TailLemmas.{tail-rises, tail-bounded, tail-in-room, room-for-clean, room-for-flush, too-long, full-for-flush}
use Rattle.flush_log.proofs.laws.a_text_moves_the_tail.Goals as goal

pub returns : goal.returns
returns c = record {
  rises = λ g tail text good. tail-rises g good tail text;
  bounded = λ g tail text good. tail-bounded g good tail text;
  in_room = λ s head tail good. tail-in-room s good head tail;
  clean = room-for-clean;
  flush = room-for-flush;
  too_long = λ g head tail text good within less long.
      let full = too-long g head tail text good within less long in (full, full-for-flush g.settings head _ full);
}
