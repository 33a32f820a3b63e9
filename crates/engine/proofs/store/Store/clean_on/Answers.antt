use Rattle.std.proofs.Common.{◌≡◌, ◌∙◌, ℕ, ap, subst, arith}
use Rattle.std.specs.Prelude.{min}
use Rattle.std.proofs.lemmas.Result.{err_from_is_err_and}
use Rattle.engine.specs.Cleaning.{IsWhole, most_ahead}
use Rattle.engine.proofs.store.Store.clean_on.Goals as goal

pub clean_row-requires : goal.clean_row-requires
clean_row-requires g c =
    let some = c.requires.some in
    let exact = c.most_ahead.ensures.exact in
    let most = c.min-most.ensures in
    record {
      ready = record {
        fine = c.requires.fine;
        held = c.requires.held;
        -- `most_ahead` is at least 1: `max (segments / 8) 1`
        some = omega (arith, some, exact, most);
        few = omega (arith, exact, most);
      };
    }

pub returns-in_err-cleaned-clause-stopped : goal.returns-in_err-cleaned-clause-stopped
returns-in_err-cleaned-clause-stopped g c =
    let (n, less, few, first_or, stopped, refused) = c.in_err-cleaned.ensures.stopped in
    let most = c.min-most.ensures in
    let exact = c.most_ahead.ensures.exact in
    let p = err_from_is_err_and c.from_residual.result c.from_residual.ensures.1 in
    rw (p.1, p.2) (n, omega (arith, less, most, exact), few, first_or, stopped, refused)

pub returns-clause-done : goal.returns-clause-done
returns-clause-done g c =
    let old = c.args.self.now in
    let new = c.clean_row.new.self in
    let (some, few, on, whole) = c.in_ok-cleaned.ensures.done in
    let most = c.min-most.ensures in
    let is_most : c.min-most.result ≡ min (most_ahead old.settings) c.args.left = c.min-most.ensures ∙ ap (λ (n : ℕ). min n c.args.left) c.most_ahead.ensures.exact in
    (_, some, omega (arith, few, most), on, subst (λ (m : ℕ). IsWhole g.D.Disk.view old m c.in_ok-cleaned.cleaned new) is_most whole)
