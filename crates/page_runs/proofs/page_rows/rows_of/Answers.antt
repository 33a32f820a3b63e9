use Rattle.delta_chain.proofs.LayerLemmas.{rising-entries_of}
use Rattle.delta_chain.specs.Layers.{entries_of}
use Rattle.page_runs.proofs.page_rows.rows_of.Goals as goal

pub returns : goal.returns
returns c = c.rows_left.ensures (entries_of c.args.page.now) c.args.changes.now c.args.low.now (rising-entries_of c.args.page.now c.requires) c.new-named.ensures.changes_rise c.new-named.ensures.named
