use Rattle.std.proofs.Common.{[], refl}
use Rattle.std.proofs.lemmas.Result.{err_from_is_err_and}
use Rattle.keys.specs.Limits.{first_bad_field}
use Rattle.keys.specs.declared.fault.Fault.TheVariants.{BadSettings}
use Rattle.crew.specs.Crew.{is_crew}
use Rattle.engine.proofs.CreateLemmas.{not_refused}
use Rattle.engine.proofs.FileStoreLemmas.{field_reported, of_system}
use Rattle.engine.proofs.RefusedCalls.{not_both}
use Rattle.engine.proofs.file_store.open_or_create.Goals as goal

pub returns-in_err-admit_crew : goal.returns-in_err-admit_crew
returns-in_err-admit_crew g c =
    let why = c.in_err-admit_crew.ensures.err in
    let p = err_from_is_err_and c.from_residual.result c.from_residual.ensures.1 in
    rw (p.1, p.2, why.0) (record {
      bad_crew = λ _. refl;
      opened = λ able. absurd (not_both (is_crew c.args.crew) able why.1);
      fine = tt;
    })

pub returns-in_err-check : goal.returns-in_err-check
returns-in_err-check g c =
    let p = err_from_is_err_and c.from_residual-in_err-check.result c.from_residual-in_err-check.ensures.1 in
    rw (p.1, p.2) (record {
      bad_crew = λ bad. absurd (not_both (is_crew c.args.crew) c.in_ok-admit_crew.ensures.ok bad);
      opened = λ _. field_reported (first_bad_field c.args.settings) c.check.result tt _ _ _ c.check.ensures c.in_err-check.was refl;
      fine = tt;
    })

pub returns-in_err-disk : goal.returns-in_err-disk
returns-in_err-disk g c =
    let good = not_refused (λ field. BadSettings field) (first_bad_field c.args.settings) c.check.result tt _ c.check.ensures c.in_ok-check.was in
    let p = err_from_is_err_and c.from_residual-in_err-disk.result c.from_residual-in_err-disk.ensures.1 in
    rw p.1 (record {
      bad_crew = λ bad. absurd (not_both (is_crew c.args.crew) c.in_ok-admit_crew.ensures.ok bad);
      opened = λ _. rw good ([], of_system [] _ _ p.2);
      fine = tt;
    })

pub store_of-requires-clause-good : goal.store_of-requires-clause-good
store_of-requires-clause-good g c κs within = not_refused (λ field. BadSettings field) (first_bad_field c.args.settings) c.check.result tt _ c.check.ensures c.in_ok-check.was

pub returns : goal.returns
returns g c =
    let good = not_refused (λ field. BadSettings field) (first_bad_field c.args.settings) c.check.result tt _ c.check.ensures c.in_ok-check.was in
    let (file, read, is) = c.store_of.ensures.opened in
    record {
      bad_crew = λ bad. absurd (not_both (is_crew c.args.crew) c.in_ok-admit_crew.ensures.ok bad);
      opened = λ _. rw good (file, is);
      fine = c.store_of.ensures.fine;
    }
