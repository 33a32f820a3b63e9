use Rattle.delta_chain.proofs.LazyLemmas.{rising-seen}
use Rattle.delta_chain.proofs.late.LazyChain.depth.Goals as goal

pub returns-clause-rising : goal.returns-clause-rising
returns-clause-rising g c =
    rw (← c.self.view_is) (rising-seen (record { chain = c.self.inside.chain; merged_runs = c.self.inside.merged_runs }) c.run_count.ensures.rising)
