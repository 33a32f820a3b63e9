use Rattle.std.proofs.Common.{◌≡◌, List, None}
use Rattle.bwsh.specs.declared.order.Order.{Order}
use Rattle.bwsh.specs.Source.{IsToCome}
use Rattle.bwsh.proofs.source.Source.next.Given as goal

-- orders that can come from the remaining input can come from all
abbrev pub invariant-loop : goal.invariant-loop
invariant-loop g l = record {
  queued : l.self.queued ≡ None;
  bounds : l.self.bounds ≡ l.fn.self.bounds;
  comes : (rest : List Order) → IsToCome g.I.Read.remaining l.self rest → IsToCome g.I.Read.remaining l.fn.self rest;
}
