use Rattle.std.proofs.Common.{◌∙◌}
use Rattle.mapping.specs.Levels.{contents}
use Rattle.mapping.specs.TreeInMemory.{tree_of}
use Rattle.scan.proofs.RangeLemmas.{between_prefix}
use Rattle.scan.proofs.rows.Rows.with_prefix.Goals as goal

pub returns : goal.returns
returns c = c.new.ensures ∙ between_prefix c.args.prefix.now (contents (tree_of c.args.tree.now))
