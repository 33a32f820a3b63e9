use Rattle.std.proofs.Common.{subst}
use Rattle.std.specs.Prelude.{OnOk}
use Rattle.keys.specs.declared.settings.Settings.{Settings}
use Rattle.mapping.specs.Levels.{contents}
use Rattle.bwsh.specs.Session.{IsCopyMade}
use Rattle.bwsh.proofs.CopyOrderLemmas.{IsCopyEnd-either}
use Rattle.bwsh.proofs.context.Session.copy_asked.Goals as goal

pub returns-clause-copied : goal.returns-clause-copied
returns-clause-copied g c =
    subst (λ (s : Settings). OnOk c.copy_into.result (IsCopyMade s (contents c.args.store.now.store.tree))) c.in_ok-copy.ensures.settings c.copy_into.ensures.copied

pub returns-clause-refused : goal.returns-clause-refused
returns-clause-refused g c =
    IsCopyEnd-either c.in_ok-copy.copy.settings c.args.settings c.in_ok-copy.ensures.settings (contents c.args.store.now.store.tree) c.copy_into.result c.copy_into.ensures.refused
