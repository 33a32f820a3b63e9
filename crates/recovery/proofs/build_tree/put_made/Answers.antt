use Rattle.recovery.proofs.BuildLemmas.{nothing-filled, made-filled}
use Rattle.recovery.proofs.build_tree.put_made.Goals as goal

pub returns-in_default : goal.returns-in_default
returns-in_default c = nothing-filled c.args.table.now c.args.made c.in_default.is

pub returns : goal.returns
returns c = made-filled c.put_last.result c.args.table.now c.put_last.new.table c.args.made c.in-Some.page c.in-Some.is c.put_last.ensures
