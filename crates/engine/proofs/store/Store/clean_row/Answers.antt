use Rattle.std.proofs.Common.{inl, inr, ⊎_elim, arith}
use Rattle.engine.proofs.EarlyLemmas.{done_on, row_done, row_stopped}
use Rattle.engine.proofs.store.Store.clean_row.Goals as goal

-- all segments of the row that the reading has were cleaned
pub returns-in-Ok-clause-done : goal.returns-in-Ok-clause-done
returns-in-Ok-clause-done g c =
    let (some, few, exact, on) = c.in-Ok.ensures.done in
    let limit = c.requires.ready.held.limit in
    let most = c.requires.ready.few in
    (some, few, on, (omega (arith, exact, limit, most), inl (omega (arith, exact, limit, most))))

-- a clean was refused after some others
pub returns-clause-done : goal.returns-clause-done
returns-clause-done g c =
    let (n, fault) = c.in-Err.refused in
    let (few, within, same, stopped, refused) = c.in-Err.ensures.stopped in
    let limit = c.requires.ready.held.limit in
    let most = c.requires.ready.few in
    row_done c.after_row.result n fault _ c.after_row.ensures
    (λ some other memory. (
      some,
      omega (arith, few),
      done_on g.D.Disk.view g.D.Disk.failed c.args.self.now c.clean_all_read.new.self n fault other stopped,
      (omega (arith, few, within, limit, most), inr (⊎_elim (λ machine. absurd (⊎_elim other memory machine)) (λ is. is) refused)),
    ))

pub returns-clause-stopped : goal.returns-clause-stopped
returns-clause-stopped g c =
    let (n, fault) = c.in-Err.refused in
    let (few, within, same, stopped, refused) = c.in-Err.ensures.stopped in
    let limit = c.requires.ready.held.limit in
    let most = c.requires.ready.few in
    row_stopped c.after_row.result n fault _ c.after_row.ensures
    (λ why. (n, few, omega (arith, within, limit, most), ⊎_elim (λ none. inl (none, same none)) (λ machine. inr machine) why, stopped, refused))
