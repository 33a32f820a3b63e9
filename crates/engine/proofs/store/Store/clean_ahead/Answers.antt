use Rattle.std.proofs.Common.{◌∙◌, inl, inr, refl, ⊎_elim, arith}
use Rattle.std.proofs.lemmas.Result.{err_from_is_err_and}
use Rattle.engine.proofs.AsBefore.{refused_clean}
use Rattle.engine.proofs.CleansLemmas.{none_on, stopped_on, read_then, read_then_stopped, some_done, some_stopped}
use Rattle.engine.proofs.EarlyLemmas.{done_on}
use Rattle.engine.proofs.store.Store.clean_ahead.Goals as goal

pub returns-in_err-reading-clause-stopped : goal.returns-in_err-reading-clause-stopped
returns-in_err-reading-clause-stopped g c =
    let old = c.args.self.now in
    let refused = c.in_err-reading.ensures.refused in
    let p = err_from_is_err_and c.from_residual.result c.from_residual.ensures.1 in
    rw (p.1, p.2) (0, c.requires.some, inl (refl, (refused_clean g.D.Disk.view g.D.Disk.failed old c.read_ahead.new.self _ refused).unchanged), stopped_on g.D.Disk.view g.D.Disk.failed g.met.D.Disk.lawful old 0 old (none_on g.D.Disk.view g.D.Disk.failed g.met.D.Disk.lawful old) c.read_ahead.new.self _ refused)

pub returns-in-Ok-clause-done : goal.returns-in-Ok-clause-done
returns-in-Ok-clause-done g c =
    let (only, read, next) = c.in_ok-reading.ensures.read in
    let (some, few, exact, on) = c.in-Ok.ensures.done in
    (some, few, read_then g.D.Disk.view g.D.Disk.failed g.met.D.Disk.lawful c.args.self.now c.read_ahead.new.self c.clean_all_read.new.self _ only on)

pub returns-clause-done : goal.returns-clause-done
returns-clause-done g c =
    let view = g.D.Disk.view in
    let failed = g.D.Disk.failed in
    let mid = c.read_ahead.new.self in
    let next = c.clean_all_read.new.self in
    let (n, fault) = c.in-Err.refused in
    let (only, read, below) = c.in_ok-reading.ensures.read in
    let (few, within, same, stopped, refused) = c.in-Err.ensures.stopped in
    some_done c.after_some.result n fault _ c.after_some.ensures
    (λ some other. (some, omega (arith, few), read_then view failed g.met.D.Disk.lawful c.args.self.now mid next n only (done_on view failed mid next n fault other stopped)))

pub returns-clause-stopped : goal.returns-clause-stopped
returns-clause-stopped g c =
    let (n, fault) = c.in-Err.refused in
    let (only, read, below) = c.in_ok-reading.ensures.read in
    let (few, within, same, stopped, refused) = c.in-Err.ensures.stopped in
    some_stopped c.after_some.result n fault _ c.after_some.ensures
    (λ why. (
      n,
      few,
      ⊎_elim (λ none. inl (none, same none ∙ only.store)) (λ device. inr device) why,
      read_then_stopped g.D.Disk.view g.D.Disk.failed g.met.D.Disk.lawful c.args.self.now c.read_ahead.new.self c.clean_all_read.new.self n fault only stopped,
    ))
