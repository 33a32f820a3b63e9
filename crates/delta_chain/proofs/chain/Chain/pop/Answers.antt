use Rattle.std.specs.Map.{keys_of}
use Rattle.delta_chain.specs.Located.{keys_of_runs}
use Rattle.delta_chain.proofs.LocatorLemmas.{keys_push, numbered-pop}
use Rattle.delta_chain.proofs.RunList.{counted-pop}
use Rattle.delta_chain.proofs.chain.Chain.pop.Goals as goal

pub remove_newest-requires-clause-numbered : goal.remove_newest-requires-clause-numbered
remove_newest-requires-clause-numbered g c =
    let older = c.pop.new.self.items in
    let run = c.in_ok-run.run' in
    rw c.deref.ensures.value (numbered-pop (keys_of_runs older) (keys_of run) (rw (keys_push older c.self.inside.runs.items run c.in_ok-run.ensures.items) at c.self.invariant.1))

pub remove_newest-requires-clause-list : goal.remove_newest-requires-clause-list
remove_newest-requires-clause-list g c =
    rw (c.deref.ensures.value) (rw (keys_push c.pop.new.self.items c.self.inside.runs.items c.in_ok-run.run' c.in_ok-run.ensures.items) at c.self.invariant.2)

pub invariant_of-self-2 : goal.invariant_of-self-2
invariant_of-self-2 g c =
    let older = c.pop.new.self.items in
    let run = c.in_ok-run.run' in (
      counted-pop c.self.inside.runs.items older run c.self.inside.base c.len-added.result c.self.inside.entries.fewest c.with_changes-self-inside.result.fewest c.self.inside.entries.most c.with_changes-self-inside.result.most
          c.in_ok-run.ensures.items c.len-added.ensures.count c.with_changes-self-inside.ensures.fewest c.with_changes-self-inside.ensures.most c.self.invariant.0,
      numbered-pop (keys_of_runs older) (keys_of run) (rw (keys_push older c.self.inside.runs.items run c.in_ok-run.ensures.items) at c.self.invariant.1),
      rw c.deref.ensures.value at c.remove_newest.ensures,
    )
