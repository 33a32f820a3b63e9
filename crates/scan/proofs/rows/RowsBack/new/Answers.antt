use Rattle.std.proofs.Common.{ap, ◌∙◌}
use Rattle.std.specs.Prelude.{take, reverse}
use Rattle.std.specs.Option.{option_copied}
use Rattle.mapping.specs.Levels.{contents}
use Rattle.mapping.specs.TreeInMemory.{tree_of}
use Rattle.scan.proofs.RangeLemmas.{between_in_range}
use Rattle.scan.proofs.rows.RowsBack.new.Goals as goal

pub returns : goal.returns
returns c = c.new.ensures ∙ ap (λ es. take c.args.limit (reverse es)) (between_in_range _ _ c.args.lo.now (option_copied c.args.hi) (contents (tree_of c.args.tree.now)) c.lower_edge-start.ensures c.upper_edge-end.ensures)
