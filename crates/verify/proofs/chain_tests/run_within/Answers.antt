use Rattle.std.proofs.Common.{sym}
use Rattle.std.specs.Option.{option_copied}
use Rattle.std.specs.Map.{keys_of}
use Rattle.index_page.specs.Range.{is_within}
use Rattle.verify.proofs.ChainLemmas.{all_next, all_fails}
use Rattle.verify.proofs.chain_tests.run_within.Goals as goal

pub returns-then-not-is_within : goal.returns-then-not-is_within
returns-then-not-is_within g c =
    all_fails (is_within c.args.low.now (option_copied c.args.end)) (keys_of c.args.run.now) c.loop-at.at c.key.result.now _ c.key.ensures (sym c.if-not-is_within.ensures) c.loop-at.invariant

pub loop-at-preserved : goal.loop-at-preserved
loop-at-preserved g c =
    all_next (is_within c.args.low.now (option_copied c.args.end)) (keys_of c.args.run.now) c.loop-at.at c.key.result.now _ c.key.ensures (sym c.if-not-is_within.ensures) c.loop-at.invariant
