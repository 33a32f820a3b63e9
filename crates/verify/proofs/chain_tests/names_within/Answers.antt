use Rattle.std.specs.Option.{option_copied}
use Rattle.index_page.specs.Range.{is_within}
use Rattle.verify.proofs.ChainLemmas.{base_alone}
use Rattle.verify.proofs.chain_tests.names_within.Goals as goal

pub returns : goal.returns
returns g c =
    base_alone (is_within c.args.low.now (option_copied c.args.end)) (g.B.BaseList.entries c.args.base.now) c.base_within.result _
    c.base_within.ensures (rw c.in_default.is at c.loop-next.invariant)
