use Rattle.std.proofs.Common.{◌∙◌, sym, arith}
use Rattle.engine.proofs.CleansLemmas.{none_on}
use Rattle.engine.proofs.RowsLemmas.{calm_by, true_false}
use Rattle.engine.proofs.store.Store.clean_early.Goals as goal

pub read_and_clean-requires-clause-due : goal.read_and_clean-requires-clause-due
read_and_clean-requires-clause-due g c = λ κs within. c.may_clean_early.ensures.0 c.if-may_clean_early.true

pub returns-clause-done : goal.returns-clause-done
returns-clause-done g c = (
  omega arith,
  none_on g.D.Disk.view g.D.Disk.failed g.met.D.Disk.lawful c.args.self.now,
  λ some. absurd (omega (arith, some)),
  λ _. calm_by g.D.Disk.view g.D.Disk.failed g.met.D.Disk.lawful c.args.self.now (λ both. absurd (true_false (sym (c.may_clean_early.ensures.1 both) ∙ c.if-may_clean_early.false))),
  tt,
)
