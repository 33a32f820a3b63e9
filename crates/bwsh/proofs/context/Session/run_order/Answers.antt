use Rattle.std.proofs.Common.{◌∷◌, [], ap, refl, subst, sym, List, Option, Some}
use Rattle.std.specs.Prelude.{take}
use Rattle.std.specs.Option.{option_copied}
use Rattle.std.specs.declared.alloc.Global.{Global}
use Rattle.keys.specs.Bytes.{Bytes}
use Rattle.keys.specs.declared.command.Command.{Command}
use Rattle.mapping.specs.Levels.{contents}
use Rattle.scan.specs.Back.{rows_back}
use Rattle.scan.specs.Prefix.{with_prefix}
use Rattle.engine.specs.Steps.{Step}
use Rattle.bwsh.specs.declared.order.Order.TheVariants.{Batch, BadLine, Lost, Flush, Clean, Upgrade, Verify, Numbers, Stat, Copy, Tidy, Back, Prefix, Help}
use Rattle.bwsh.specs.Output.{Writes}
use Rattle.bwsh.specs.Session.{RunsOrder}
use Rattle.bwsh.specs.Shown.{shown_rows}
use Rattle.bwsh.proofs.AloneLemmas.{RunsOrder-lost, RunsOrder-still}
use Rattle.bwsh.proofs.AskLemmas.{Writes-one}
use Rattle.bwsh.proofs.FirstLemmas.{RunsFirst-one}
use Rattle.bwsh.proofs.context.Session.run_order.Goals as goal

pub returns-in-Batch-clause-runs : goal.returns-in-Batch-clause-runs
returns-in-Batch-clause-runs g c =
    let mode = c.args.self.now.calls.mode in
    let store = c.args.store.now in
    let disk = g.D.Disk.view store.disk in
    rw c.in-Batch.is (RunsFirst-one mode disk.is_honest store.settings store.store disk.seen (Batch c.in-Batch.batch) _ _ _ _ _
    (c.run_step.ensures.runs mode (Batch c.in-Batch.batch) (ap (λ (cs : List (Command Global)). Some (Step.Batch cs)) (sym c.commands.ensures)) (λ e. absurd (cc))))

pub returns-in-BadLine-clause-runs : goal.returns-in-BadLine-clause-runs
returns-in-BadLine-clause-runs g c =
    let mode = c.args.self.now.calls.mode in
    let store = c.args.store.now in
    let disk = g.D.Disk.view store.disk in
    rw c.in-BadLine.is (RunsFirst-one mode disk.is_honest store.settings store.store disk.seen (BadLine c.in-BadLine.line c.in-BadLine.why) _ _ _ _ _
    (RunsOrder-still mode disk.is_honest store.settings store.store disk.seen (BadLine c.in-BadLine.line c.in-BadLine.why) tt tt _ _ _ c.report_line.ensures))

pub returns-in-Lost-clause-runs : goal.returns-in-Lost-clause-runs
returns-in-Lost-clause-runs g c =
    let mode = c.args.self.now.calls.mode in
    let store = c.args.store.now in
    let disk = g.D.Disk.view store.disk in
    rw c.in-Lost.is (RunsFirst-one mode disk.is_honest store.settings store.store disk.seen Lost _ _ _ _ _
    (RunsOrder-lost mode disk.is_honest store.settings store.store disk.seen _))

pub returns-in-Flush-clause-runs : goal.returns-in-Flush-clause-runs
returns-in-Flush-clause-runs g c =
    let mode = c.args.self.now.calls.mode in
    let store = c.args.store.now in
    let disk = g.D.Disk.view store.disk in
    rw c.in-Flush.is (RunsFirst-one mode disk.is_honest store.settings store.store disk.seen Flush _ _ _ _ _
    (c.run_flush.ensures.runs))

pub returns-in-Clean-clause-runs : goal.returns-in-Clean-clause-runs
returns-in-Clean-clause-runs g c =
    let mode = c.args.self.now.calls.mode in
    let store = c.args.store.now in
    let disk = g.D.Disk.view store.disk in
    rw c.in-Clean.is (RunsFirst-one mode disk.is_honest store.settings store.store disk.seen Clean _ _ _ _ _
    (c.run_step-in-Clean.ensures.runs mode Clean refl (λ e. absurd (cc))))

pub returns-in-Upgrade-clause-runs : goal.returns-in-Upgrade-clause-runs
returns-in-Upgrade-clause-runs g c =
    let mode = c.args.self.now.calls.mode in
    let store = c.args.store.now in
    let disk = g.D.Disk.view store.disk in
    rw c.in-Upgrade.is (RunsFirst-one mode disk.is_honest store.settings store.store disk.seen Upgrade _ _ _ _ _
    (c.run_step-in-Upgrade.ensures.runs mode Upgrade refl (λ e. absurd (cc))))

pub returns-in-Verify-clause-runs : goal.returns-in-Verify-clause-runs
returns-in-Verify-clause-runs g c =
    let mode = c.args.self.now.calls.mode in
    let store = c.args.store.now in
    let disk = g.D.Disk.view store.disk in
    rw c.in-Verify.is (RunsFirst-one mode disk.is_honest store.settings store.store disk.seen Verify _ _ _ _ _ c.print_report.ensures)

pub returns-in-Numbers-clause-runs : goal.returns-in-Numbers-clause-runs
returns-in-Numbers-clause-runs g c =
    let mode = c.args.self.now.calls.mode in
    let store = c.args.store.now in
    let disk = g.D.Disk.view store.disk in
    rw c.in-Numbers.is (RunsFirst-one mode disk.is_honest store.settings store.store disk.seen Numbers _ _ _ _ _ c.print_statistics.ensures)

pub returns-in-Stat-clause-runs : goal.returns-in-Stat-clause-runs
returns-in-Stat-clause-runs g c =
    let mode = c.args.self.now.calls.mode in
    let store = c.args.store.now in
    let disk = g.D.Disk.view store.disk in
    rw c.in-Stat.is (RunsFirst-one mode disk.is_honest store.settings store.store disk.seen Stat _ _ _ _ _ c.print_stat.ensures)

pub returns-in-Copy-clause-runs : goal.returns-in-Copy-clause-runs
returns-in-Copy-clause-runs g c =
    let mode = c.args.self.now.calls.mode in
    let store = c.args.store.now in
    let disk = g.D.Disk.view store.disk in
    let old = g.O.Write.contents c.args.out.now in
    let new = g.O.Write.contents c.run_copy.new.out in
    let end = c.run_copy.result in
    rw c.in-Copy.is (RunsFirst-one mode disk.is_honest store.settings store.store disk.seen (Copy c.in-Copy.path c.in-Copy.segments) _ _ _ _ _
    (subst (λ (path : Bytes). RunsOrder mode disk.is_honest store.settings store.store disk.seen (Copy path c.in-Copy.segments) old new end store.store disk.seen) c.as_bytes.ensures c.run_copy.ensures))

pub returns-in-Tidy-clause-runs : goal.returns-in-Tidy-clause-runs
returns-in-Tidy-clause-runs g c =
    let mode = c.args.self.now.calls.mode in
    let store = c.args.store.now in
    let disk = g.D.Disk.view store.disk in
    rw c.in-Tidy.is (RunsFirst-one mode disk.is_honest store.settings store.store disk.seen (Tidy c.in-Tidy.most) _ _ _ _ _
    (c.run_tidy.ensures.runs))

pub returns-in-Back-clause-runs : goal.returns-in-Back-clause-runs
returns-in-Back-clause-runs g c =
    let mode = c.args.self.now.calls.mode in
    let store = c.args.store.now in
    let disk = g.D.Disk.view store.disk in
    let old = g.O.Write.contents c.args.out.now in
    let new = g.O.Write.contents c.print_back.new.out in
    let end = c.print_back.result in
    rw c.in-Back.is (RunsFirst-one mode disk.is_honest store.settings store.store disk.seen (Back c.in-Back.lo c.in-Back.hi c.in-Back.limit) _ _ _ _ _
    (RunsOrder-still mode disk.is_honest store.settings store.store disk.seen (Back c.in-Back.lo c.in-Back.hi c.in-Back.limit) tt tt old new end
    (subst (λ (hi : Option Bytes). Writes old new (shown_rows (rows_back c.in-Back.lo hi c.in-Back.limit (contents store.store.tree)) ∷ []) end) c.bound_of.ensures
    (subst (λ (lo : Bytes). Writes old new (shown_rows (rows_back lo (option_copied c.bound_of.result) c.in-Back.limit (contents store.store.tree)) ∷ []) end) c.as_bytes-in-Back.ensures c.print_back.ensures))))

pub returns-in-Prefix-clause-runs : goal.returns-in-Prefix-clause-runs
returns-in-Prefix-clause-runs g c =
    let mode = c.args.self.now.calls.mode in
    let store = c.args.store.now in
    let disk = g.D.Disk.view store.disk in
    let old = g.O.Write.contents c.args.out.now in
    let new = g.O.Write.contents c.print_prefix.new.out in
    let end = c.print_prefix.result in
    rw c.in-Prefix.is (RunsFirst-one mode disk.is_honest store.settings store.store disk.seen (Prefix c.in-Prefix.bytes c.in-Prefix.limit) _ _ _ _ _
    (RunsOrder-still mode disk.is_honest store.settings store.store disk.seen (Prefix c.in-Prefix.bytes c.in-Prefix.limit) tt tt old new end
    (subst (λ (bytes : Bytes). Writes old new (shown_rows (take c.in-Prefix.limit (with_prefix bytes (contents store.store.tree))) ∷ []) end) c.as_bytes-in-Prefix.ensures c.print_prefix.ensures)))

pub returns-in-Help-clause-runs : goal.returns-in-Help-clause-runs
returns-in-Help-clause-runs g c =
    let mode = c.args.self.now.calls.mode in
    let store = c.args.store.now in
    let disk = g.D.Disk.view store.disk in
    let old = g.O.Write.contents c.args.out.now in
    let new = g.O.Write.contents c.write_bytes.new.out in
    let end = c.write_bytes.result in
    let written = c.write_bytes.ensures in
    rw c.in-Help.is (RunsFirst-one mode disk.is_honest store.settings store.store disk.seen Help _ _ _ _ _
    (RunsOrder-still mode disk.is_honest store.settings store.store disk.seen Help tt tt old new end
    (subst (λ (text : Bytes). Writes old new (text ∷ []) end) c.as_bytes-in-Help.ensures.value (Writes-one old new c.as_bytes-in-Help.result.now end written.ok written.err written.device))))

-- the settings stay, and whether the disk is honest, and the store has failed
pub returns-in-Batch-clause-rest : goal.returns-in-Batch-clause-rest
returns-in-Batch-clause-rest g c = c.run_step.ensures.rest

pub returns-in-BadLine-clause-rest : goal.returns-in-BadLine-clause-rest
returns-in-BadLine-clause-rest g c = (refl, refl, λ other. refl)

pub returns-in-Lost-clause-rest : goal.returns-in-Lost-clause-rest
returns-in-Lost-clause-rest g c = (refl, refl, λ other. refl)

pub returns-in-Flush-clause-rest : goal.returns-in-Flush-clause-rest
returns-in-Flush-clause-rest g c = c.run_flush.ensures.rest.0

pub returns-in-Clean-clause-rest : goal.returns-in-Clean-clause-rest
returns-in-Clean-clause-rest g c = c.run_step-in-Clean.ensures.rest

pub returns-in-Upgrade-clause-rest : goal.returns-in-Upgrade-clause-rest
returns-in-Upgrade-clause-rest g c = c.run_step-in-Upgrade.ensures.rest

pub returns-in-Verify-clause-rest : goal.returns-in-Verify-clause-rest
returns-in-Verify-clause-rest g c = (refl, refl, λ other. refl)

pub returns-in-Numbers-clause-rest : goal.returns-in-Numbers-clause-rest
returns-in-Numbers-clause-rest g c = (refl, refl, λ other. refl)

pub returns-in-Stat-clause-rest : goal.returns-in-Stat-clause-rest
returns-in-Stat-clause-rest g c = (refl, refl, λ other. refl)

pub returns-in-Copy-clause-rest : goal.returns-in-Copy-clause-rest
returns-in-Copy-clause-rest g c = (refl, refl, λ other. refl)

pub returns-in-Tidy-clause-rest : goal.returns-in-Tidy-clause-rest
returns-in-Tidy-clause-rest g c = c.run_tidy.ensures.holds.0

pub returns-in-Back-clause-rest : goal.returns-in-Back-clause-rest
returns-in-Back-clause-rest g c = (refl, refl, λ other. refl)

pub returns-in-Prefix-clause-rest : goal.returns-in-Prefix-clause-rest
returns-in-Prefix-clause-rest g c = (refl, refl, λ other. refl)

pub returns-in-Help-clause-rest : goal.returns-in-Help-clause-rest
returns-in-Help-clause-rest g c = (refl, refl, λ other. refl)
