use Rattle.std.proofs.Common.{◌≡◌, ◌∙◌, false, sym, ap}
use Rattle.std.proofs.lemmas.Result.{err_from_is_err_and}
use Rattle.crew.specs.Crew.{is_crew}
use Rattle.engine.specs.Opening.{bad_field}
use Rattle.engine.proofs.OpeningLemmas.{by_crew, in_range_if_opened, opened_has, passed_on, same_store, uncounted}
use Rattle.engine.proofs.RefusedCalls.{not_both}
use Rattle.engine.proofs.options.Options.map_at.Goals as goal

-- the store was not opened
pub returns-in_err-store : goal.returns-in_err-store
returns-in_err-store g c =
    let access = c.args.self.access in
    let p = err_from_is_err_and c.from_residual.result c.from_residual.ensures.1 in
    rw (p.1, p.2) (record {
      bad_crew = λ bad. sym c.in_err-store.was ∙ c.store_at.ensures.bad_crew bad;
      opened = λ able. passed_on (bad_field access) access c.store_at.result (c.store_at.ensures.opened able) _ c.in_err-store.was;
      fine = tt;
    })

-- its pairs were not counted
pub returns-in-Err : goal.returns-in-Err
returns-in-Err g c =
    let access = c.args.self.access in
    let able = in_range_if_opened (is_crew c.args.self.crew) c.store_at.result c.in_ok-store.store c.in_ok-store.was c.store_at.ensures.bad_crew in
    record {
      bad_crew = λ bad. absurd (not_both (is_crew c.args.self.crew) able bad);
      opened = λ able. uncounted (bad_field access) access c.store_at.result (c.store_at.ensures.opened able) c.in_ok-store.store c.in_ok-store.was c.in-Err.refused.0
          (by_crew (is_crew c.args.self.crew) c.in-Err.refused.0 able c.in-Err.ensures.1);
      fine = tt;
    }

pub returns-in-Ok : goal.returns-in-Ok
returns-in-Ok g c =
    let access = c.args.self.access in
    let able = in_range_if_opened (is_crew c.args.self.crew) c.store_at.result c.in_ok-store.store c.in_ok-store.was c.store_at.ensures.bad_crew in
    record {
      bad_crew = λ bad. absurd (not_both (is_crew c.args.self.crew) able bad);
      opened = λ able. same_store (bad_field access) access c.store_at.result (c.store_at.ensures.opened able) c.in_ok-store.store c.in_ok-store.was c.in-Ok.map c.in-Ok.ensures.1;
      fine = ap (λ x. x.has_failed) c.in-Ok.ensures.1 ∙ opened_has c.store_at.result c.in_ok-store.store (λ x. x.has_failed ≡ false) c.in_ok-store.was c.store_at.ensures.fine;
    }
