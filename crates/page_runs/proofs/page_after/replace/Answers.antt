use Rattle.std.proofs.Common.{◌∙◌, ap, refl, sym, length, ℕ}
use Rattle.page_runs.specs.AfterRun.{class_of_size}
use Rattle.page_runs.proofs.page_after.replace.Goals as goal

pub popped-requires : goal.popped-requires
popped-requires g c = rw c.in-Err.ensures.err c.requires

pub returns-in-Ok-clause-page : goal.returns-in-Ok-clause-page
returns-in-Ok-clause-page g c = rw (c.of_base.ensures, c.in-Ok.ensures.base) refl

pub returns-in-Ok-clause-class : goal.returns-in-Ok-clause-class
returns-in-Ok-clause-class g c =
    let size = c.len.ensures.count ∙ ap length c.in-Ok.ensures.base in
    c.class_of-class.ensures ∙ ap (λ (n : ℕ). class_of_size c.args.settings.now n) size

pub returns-in-Ok-clause-can_undo : goal.returns-in-Ok-clause-can_undo
returns-in-Ok-clause-can_undo g c = rw c.of_base.ensures (refl, rw c.in-Ok.ensures.back c.requires)

pub returns-in-Ok-clause-page_before : goal.returns-in-Ok-clause-page_before
returns-in-Ok-clause-page_before g c = rw (c.of_base.ensures, c.in-Ok.ensures.back) refl

pub returns-in-Ok-clause-run_before : goal.returns-in-Ok-clause-run_before
returns-in-Ok-clause-run_before g c = rw (c.of_base.ensures, c.in-Ok.ensures.back) refl

pub returns-in-Err-clause-back : goal.returns-in-Err-clause-back
returns-in-Err-clause-back g c = sym c.in-Err.ensures.err ∙ c.popped.ensures
