use Rattle.std.proofs.Common.{⊎_elim, arith}
use Rattle.engine.proofs.EarlyLemmas.{early_ok, early_err, none_done_on}
use Rattle.engine.proofs.store.Store.clean_row_early.Goals as goal

pub returns-in-Ok-clause-done : goal.returns-in-Ok-clause-done
returns-in-Ok-clause-done g c =
    let (some, few, on, whole) = c.in-Ok.ensures.done in
    (few, on, λ _. (tt, whole), λ none. absurd (omega (arith, some, none)), tt)

pub returns-in-Err-clause-done : goal.returns-in-Err-clause-done
returns-in-Err-clause-done g c =
    let (n, less, few, why, stopped, refused) = c.in-Err.ensures.stopped in
    early_ok c.early_refusal.result c.in-Err.fault _ c.early_refusal.ensures
    (λ other. (
      omega arith,
      none_done_on g.D.Disk.view g.D.Disk.failed c.args.self.now c.clean_row.new.self n c.in-Err.fault other why stopped,
      λ some. absurd (omega (arith, some)),
      λ none. ⊎_elim (λ machine. absurd (⊎_elim other.0 other.1 machine)) (λ is. is) refused,
      tt,
    ))

pub returns-in-Err-clause-stopped : goal.returns-in-Err-clause-stopped
returns-in-Err-clause-stopped g c =
    let (n, less, few, why, stopped, refused) = c.in-Err.ensures.stopped in
    early_err c.early_refusal.result c.in-Err.fault _ c.early_refusal.ensures (λ machine. (machine, n, less, few, λ _. tt, stopped))
