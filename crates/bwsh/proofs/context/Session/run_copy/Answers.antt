use Rattle.std.proofs.Common.{◌⊎◌, ◌∷◌, [], ◌∙◌, ap, subst, ℕ, Some}
use Rattle.keys.specs.declared.settings.Settings.{Settings}
use Rattle.mapping.specs.Levels.{contents}
use Rattle.bwsh.specs.declared.order.Order.TheVariants.{Copy}
use Rattle.bwsh.specs.Output.{Writes}
use Rattle.bwsh.specs.Session.{IsCopyEnd, IsCopyMade, IsUncopied, copy_settings}
use Rattle.bwsh.specs.Shown.{shown_copied}
use Rattle.bwsh.proofs.AloneLemmas.{RunsOrder-still}
use Rattle.bwsh.proofs.CopyOrderLemmas.{RunsOrder-uncopied, RunsOrder-unfiled}
use Rattle.bwsh.proofs.context.Session.run_copy.Goals as goal

pub returns-in-Ok : goal.returns-in-Ok
returns-in-Ok g c =
    let store = c.args.store.now in
    let disk = g.D.Disk.view store.disk in
    let old = g.O.Write.contents c.args.out.now in
    let new = g.O.Write.contents c.print_numbers.new.out in
    let end = c.print_numbers.result in
    let is = c.copy_settings-settings.ensures ∙ ap (λ (s : Settings). copy_settings s c.args.segments) c.settings.ensures in
    RunsOrder-still c.args.self.now.calls.mode disk.is_honest store.settings store.store disk.seen (Copy c.args.path.now c.args.segments) tt
    (subst (λ (s : Settings). IsCopyMade s (contents store.store.tree)) is c.in-Ok.ensures.copied) old new end
    (subst (λ (n : ℕ). Writes old new (shown_copied n ∷ []) end) c.len-pairs.ensures c.print_numbers.ensures)

pub returns-in-Err-Device : goal.returns-in-Err-Device
returns-in-Err-Device g c =
    let store = c.args.store.now in
    let disk = g.D.Disk.view store.disk in
    RunsOrder-unfiled c.args.self.now.calls.mode disk.is_honest store.settings store.store disk.seen c.args.path.now c.args.segments _

pub returns-in-Err : goal.returns-in-Err
returns-in-Err g c =
    let store = c.args.store.now in
    let disk = g.D.Disk.view store.disk in
    let is = c.copy_settings-settings.ensures ∙ ap (λ (s : Settings). copy_settings s c.args.segments) c.settings.ensures in
    RunsOrder-uncopied c.args.self.now.calls.mode disk.is_honest store.settings store.store disk.seen c.args.path.now c.args.segments _ _
    (subst (λ (s : Settings). IsUncopied (Some s) c.in-Err.refused ⊎ IsCopyEnd s (contents store.store.tree) c.in-Err.refused) is c.in-Err.ensures.refused)
