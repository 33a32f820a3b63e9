use Rattle.std.proofs.Common.{◌≡◌, false}
use Rattle.bwsh.specs.Source.{IsToCome}
use Rattle.bwsh.proofs.LoopLemmas.{Continues}
use Rattle.bwsh.proofs.context.Session.run_orders.Given as goal

-- the output of the orders that can still come, after the output so far, is the output of some orders that were possible at first
abbrev pub invariant-loop : goal.invariant-loop
invariant-loop g l = record {
  settings : l.store.settings ≡ l.fn.store.settings;
  honest : (g.D.Disk.view l.store.disk).is_honest ≡ (g.D.Disk.view l.fn.store.disk).is_honest;
  fine : l.store.has_failed ≡ false;
  continues : Continues l.fn.self.calls.mode (g.D.Disk.view l.fn.store.disk).is_honest l.fn.store.settings l.fn.store.store (g.D.Disk.view l.fn.store.disk).seen
      (IsToCome g.I.Read.remaining l.fn.source) (g.O.Write.contents l.fn.out) l.store.store (g.D.Disk.view l.store.disk).seen (IsToCome g.I.Read.remaining l.source)
      (g.O.Write.contents l.out);
}
