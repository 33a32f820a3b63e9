use Rattle.std.proofs.Common.{◌-◌, ◌∷◌, [], refl}
use Rattle.std.proofs.lemmas.Result.{err_from_is_err_and}
use Rattle.bwsh.specs.Session.{head_lines}
use Rattle.bwsh.specs.Shown.{shown_flushed}
use Rattle.bwsh.proofs.FlushLemmas.{cut_from, done_failed, done_from, settings_stay, stopped_failed, stopped_from, writes_all, writes_begun, writes_device, writes_ended, writes_then}
use Rattle.bwsh.proofs.RunLemmas.{err_device, no_device_in}
use Rattle.bwsh.proofs.context.Context.flush_and_print.Goals as goal

-- the output failed while the lines of the cleans were written
pub returns-in_err-print_cleans-clause-runs : goal.returns-in_err-print_cleans-clause-runs
returns-in_err-print_cleans-clause-runs g c mode room first by =
    let done = c.flush_cleaning-done in
    let written = c.in_err-print_cleans.ensures in
    let old = g.O.Write.contents c.args.out.now in
    let mid = g.O.Write.contents c.print_cleans.new.out in
    let lines = head_lines c.head-head.result (c.head.result - c.head-head.result) in
    let p = err_from_is_err_and c.from_residual.result c.from_residual.ensures.1 in
    rw (p.1, p.2)
    (cut_from g.D.Disk.view g.D.Disk.failed mode room c.args.store.now done.new.self first by c.head-head.result c.head.result c.head-head.ensures c.head.ensures
    old mid _ done.result done.ensures.flushed (done.ensures.refused c.requires.fine c.args.self.now.crew_in_range)
    (writes_ended old mid lines _ written) (writes_begun old mid lines _ written))

pub returns-in_err-print_cleans-clause-rest : goal.returns-in_err-print_cleans-clause-rest
returns-in_err-print_cleans-clause-rest g c =
    let done = c.flush_cleaning-done in
    let lines = head_lines c.head-head.result (c.head.result - c.head-head.result) in
    let device = writes_device (g.O.Write.contents c.args.out.now) (g.O.Write.contents c.print_cleans.new.out) lines _ c.in_err-print_cleans.ensures in
    let stays = settings_stay g.D.Disk.view g.D.Disk.failed c.args.store.now done.new.self done.result done.ensures.flushed (done.ensures.refused c.requires.fine c.args.self.now.crew_in_range) in
    let p = err_from_is_err_and c.from_residual.result c.from_residual.ensures.1 in
    rw (p.1, p.2) ((stays.0, stays.1, λ other. absurd (err_device _ other device)), done.ensures.holds)

-- it is done
pub returns-in-Ok-clause-runs : goal.returns-in-Ok-clause-runs
returns-in-Ok-clause-runs g c mode room first by =
    let done = c.flush_cleaning-done in
    let old = g.O.Write.contents c.args.out.now in
    let mid = g.O.Write.contents c.print_cleans.new.out in
    let new = g.O.Write.contents c.print_numbers.new.out in
    let lines = head_lines c.head-head.result (c.head.result - c.head-head.result) in
    done_from g.D.Disk.view g.D.Disk.failed mode room c.args.store.now done.new.self first by c.head-head.result c.head.result c.head-head.ensures c.head.ensures old new c.print_numbers.result
    (rw c.in-Ok.is at done.ensures.flushed)
    (writes_then mode.stream old mid new lines (shown_flushed done.new.self.store.sequence ∷ []) c.print_numbers.result (writes_all old mid lines _ c.in_ok-print_cleans.ensures) (rw (rw c.in-Ok.is at done.ensures.number) at c.print_numbers.ensures))

pub returns-in-Ok-clause-rest : goal.returns-in-Ok-clause-rest
returns-in-Ok-clause-rest g c =
    let done = c.flush_cleaning-done in
    let stays = settings_stay g.D.Disk.view g.D.Disk.failed c.args.store.now done.new.self done.result done.ensures.flushed (done.ensures.refused c.requires.fine c.args.self.now.crew_in_range) in
    ((stays.0, stays.1, λ other. done_failed g.D.Disk.view g.D.Disk.failed c.args.store.now done.new.self (rw c.in-Ok.is at done.ensures.flushed)), done.ensures.holds)

-- it is refused
pub returns-in-Err-clause-runs : goal.returns-in-Err-clause-runs
returns-in-Err-clause-runs g c mode room first by =
    let done = c.flush_cleaning-done in
    let old = g.O.Write.contents c.args.out.now in
    let mid = g.O.Write.contents c.print_cleans.new.out in
    stopped_from g.D.Disk.view g.D.Disk.failed mode room c.args.store.now done.new.self first by c.head-head.result c.head.result c.head-head.ensures c.head.ensures old mid _
    c.in-Err.fault (rw c.in-Err.is at (done.ensures.refused c.requires.fine c.args.self.now.crew_in_range)) c.store_fault.result c.store_fault.ensures refl (writes_all old mid (head_lines c.head-head.result (c.head.result - c.head-head.result)) _ c.in_ok-print_cleans.ensures)

pub returns-in-Err-clause-rest : goal.returns-in-Err-clause-rest
returns-in-Err-clause-rest g c =
    let done = c.flush_cleaning-done in
    let refused = done.ensures.refused c.requires.fine c.args.self.now.crew_in_range in
    let stays = settings_stay g.D.Disk.view g.D.Disk.failed c.args.store.now done.new.self done.result done.ensures.flushed refused in (
      (
        stays.0,
        stays.1,
        λ other. stopped_failed g.D.Disk.view g.D.Disk.failed c.args.store.now done.new.self c.in-Err.fault (rw c.in-Err.is at refused)
            (no_device_in c.in-Err.fault c.store_fault.result c.store_fault.ensures (err_device c.store_fault.result other)),
      ),
      done.ensures.holds,
    )
