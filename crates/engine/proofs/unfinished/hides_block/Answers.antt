use Rattle.std.proofs.Common.{ap, ◌∙◌, arith, is_some}
use Rattle.flush_log.specs.SettingsBlock.{read_settings}
use Rattle.engine.proofs.UnfinishedLemmas.{block_is, hides_none}
use Rattle.engine.proofs.unfinished.hides_block.Goals as goal

pub returns-then-len-clause-exact : goal.returns-then-len-clause-exact
returns-then-len-clause-exact g c honest =
    let disk = c.args.disk.now in
    hides_none (g.D.Disk.view disk).seen (let whole = (g.met.D.Disk.lawful disk honest).whole in omega arith)

pub returns-clause-exact : goal.returns-clause-exact
returns-clause-exact g c honest =
    let disk = c.args.disk.now in
    let file = (g.D.Disk.view disk).seen in
    c.is_some.ensures ∙ ap is_some (c.read_settings.ensures ∙ ap read_settings
    (block_is file c.read_at.new.buf c.exchanged_byte.result (let whole = (g.met.D.Disk.lawful disk honest).whole in omega arith)
    (c.in_ok-read_at.ensures.bytes honest) c.exchanged_byte.ensures))
