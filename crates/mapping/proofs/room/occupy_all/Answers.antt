use Rattle.std.proofs.Common.{sym, ap, ◌∙◌, arith, get_or, take}
use Rattle.std.proofs.lemmas.List.{take_more}
use Rattle.mapping.specs.Table.{with_room, with_rooms}
use Rattle.mapping.specs.Slots.{table_of}
use Rattle.mapping.proofs.FreshLemmas.{with_rooms-push}
use Rattle.mapping.proofs.room.occupy_all.Goals as goal

pub loop-pid-preserved : goal.loop-pid-preserved
loop-pid-preserved g c =
    let pids = c.args.pids.now in
    let at = c.loop-pid.pid-index in
    let table = table_of c.reserve.new.self.items in
    record {
      rising = c.in_ok-occupy.ensures.rising;
      made =
          c.in_ok-occupy.ensures.ok
          ∙ ap (λ t. with_room t (get_or pids at 0)) c.loop-pid.invariant.made
          ∙ sym (with_rooms-push table (take at pids) (get_or pids at 0))
          ∙ ap (with_rooms table) (sym (take_more pids at 0 c.loop-pid-test.true));
      room = let x = c.in_ok-occupy.ensures.len in let y = c.in_ok-occupy.ensures.capacity in let z = c.loop-pid.invariant.room in omega arith;
    }
