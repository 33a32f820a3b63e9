use Rattle.std.proofs.Common.{sym, ◌∙◌, arith}
use Rattle.flush_log.proofs.SettingsLemmas.{settings-stand}
use Rattle.recovery.proofs.ReadBlock.{block-none, block-short, block-room}
use Rattle.recovery.proofs.read_disk.settings_in.Goals as goal

pub returns-in_default-clause-read : goal.returns-in_default-clause-read
returns-in_default-clause-read c file start long = block-none file c.args.block.now start c.read_settings.result c.in_default.is c.read_settings.ensures

pub disk_size-requires : goal.disk_size-requires
disk_size-requires c = (settings-stand c.args.block.now c.in-Some.settings (sym c.read_settings.ensures ∙ c.in-Some.is)).1

pub returns-clause-read : goal.returns-clause-read
returns-clause-read c file start long =
    block-room file c.args.block.now start c.read_settings.result c.in-Some.settings c.in-Some.is c.read_settings.ensures (omega (arith, c.disk_size.ensures, long))

pub returns-clause-good : goal.returns-clause-good
returns-clause-good c = ((settings-stand c.args.block.now c.in-Some.settings (sym c.read_settings.ensures ∙ c.in-Some.is)).1, omega (arith, c.disk_size.ensures))

pub returns-then-len-disk_size-clause-read : goal.returns-then-len-disk_size-clause-read
returns-then-len-disk_size-clause-read c file start long =
    block-short file c.args.block.now start c.read_settings.result c.in-Some.settings c.in-Some.is c.read_settings.ensures (let size = c.disk_size.ensures in let less = c.if-len-disk_size.true in omega (arith, size, less, long))
