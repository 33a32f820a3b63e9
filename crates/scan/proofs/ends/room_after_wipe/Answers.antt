use Rattle.std.proofs.Common.{arith}
use Rattle.scan.proofs.RowLemmas.{root_is_there}
use Rattle.scan.proofs.ends.room_after_wipe.Goals as goal

pub new-leaves-requires : goal.new-leaves-requires
new-leaves-requires c = (omega arith, (c.requires.home, (c.requires.height, root_is_there c.args.tree.now c.requires.held c.requires.levels)))
