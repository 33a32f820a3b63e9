use Rattle.std.proofs.Common.{◌≡◌, length, map, take}
use Rattle.std.specs.Prelude.{vec_len, vec_capacity}
use Rattle.engine.specs.ClaimPlay.{IsTurnOf, calls_of, members_of}
use Rattle.engine.specs.Plays.{answer_of, step_of}
use Rattle.engine.proofs.ordered_store.plays.play.Given as goal

-- the steps so far succeeded, and there is room for the answers of the rest
abbrev pub invariant-loop-next : goal.invariant-loop-next
invariant-loop-next g l = record {
  len : vec_len l.answers ≡ l.next-index;
  room : vec_capacity l.answers ≡ length l.steps;
  turn : IsTurnOf g.S.OrderedStore.recovered
      (calls_of g.S.OrderedStore.after_batch g.S.OrderedStore.after_flush g.S.OrderedStore.after_clean g.S.OrderedStore.after_upgrade)
      (members_of g.S.OrderedStore.contents g.S.OrderedStore.settings g.S.OrderedStore.has_failed g.S.OrderedStore.state g.S.OrderedStore.disk_of g.D.Disk.view l.fn.store)
      (map step_of (take l.next-index l.steps)) (map answer_of l.answers.items)
      (members_of g.S.OrderedStore.contents g.S.OrderedStore.settings g.S.OrderedStore.has_failed g.S.OrderedStore.state g.S.OrderedStore.disk_of g.D.Disk.view l.store);
}
