use Rattle.std.proofs.Common.{◌≡◌}
use Rattle.engine.specs.Refusal.{refusal}
use Rattle.engine.proofs.DurableOnDisk.{still_admitted}
use Rattle.engine.proofs.handle.Handle.execute_durable.Goals as goal

pub returns-clause-refused : goal.returns-clause-refused
returns-clause-refused g c fine =
    still_admitted c.in_ok-replies.replies c.new.result (refusal c.args.self.now.settings) c.args.batch.now c.commands.result.now (c.execute_or_undo.new.self ≡ c.args.self.now) c.commands.ensures
    (c.in_ok-replies.ensures.refused fine)
