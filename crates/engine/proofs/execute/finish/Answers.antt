use Rattle.climb_plan.specs.Changing.{leaves_seen}
use Rattle.climb_plan.specs.Ready.{IsReady}
use Rattle.engine.proofs.Executed.{fault_is}
use Rattle.engine.proofs.execute.finish.Goals as goal

pub returns-in-Err-clause-fault : goal.returns-in-Err-clause-fault
returns-in-Err-clause-fault g c =
    fault_is c.args.work.now.settings (λ t cs. IsReady c.args.work.now.settings t cs c.args.tree.now (leaves_seen c.args.leaves.items)) c.in-Err.refused c.fault_of.result c.fault_of.ensures c.in-Err.ensures.high
