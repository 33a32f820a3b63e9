use Rattle.std.proofs.Common.{◌<◌, length, ap, sym, subst, arith}
use Rattle.std.proofs.lemmas.List.{drop_more}
use Rattle.std.specs.Prelude.{get_or}
use Rattle.verify.specs.declared.look.Verdict.TheVariants.{Broken}
use Rattle.verify.proofs.LevelLemmas.{from_here, found_step, fault_step, pairs_step, met_step, count_step, err_of}
use Rattle.verify.specs.Report.{IsFaultOf}
use Rattle.verify.specs.Seen.{first_found}
use Rattle.verify.proofs.level.meet_all.Goals as goal

pub loop-at-preserved : goal.loop-at-preserved
loop-at-preserved c =
    let at = c.loop-at.at in
    let ats = c.args.places.now in
    let seen = c.args.seen.now in
    let p = c.index-places-at.result in
    let s = get_or seen at (Broken 0) in
    let within : at < length seen = omega (arith, c.requires) in
    let h = from_here ats at p c.loop-at-test.true c.index-places-at.is in
    let i = drop_more seen at (Broken 0) within in
    let e = ap (λ z. z.pid) c.place.view_is in
    let m = c.in_ok-pairs.ensures in
    record {
      found = found_step ats seen at p s h i c.loop-at.met c.meet_page.new.met c.place.inside.pid _ e m.ok m.met c.loop-at.invariant.found;
      pairs = pairs_step ats seen at p s h i c.loop-at.pairs c.in_ok-pairs.field-0 _ m.pairs c.loop-at.invariant.pairs;
      small = omega arith;
      met = met_step ats seen at p s h i c.args.met.now c.loop-at.met c.meet_page.new.met c.place.inside.pid e m.met c.loop-at.invariant.met;
      count = count_step ats seen at p s h i c.loop-at.met c.meet_page.new.met _ m.count c.loop-at.invariant.count;
    }

-- a fault of the page here is one of all places
pub returns-in_err-pairs-clause-err : goal.returns-in_err-pairs-clause-err
returns-in_err-pairs-clause-err c =
    let at = c.loop-at.at in
    let ats = c.args.places.now in
    let seen = c.args.seen.now in
    let p = c.index-places-at.result in
    let s = get_or seen at (Broken 0) in
    let within : at < length seen = omega (arith, c.requires) in
    let h = from_here ats at p c.loop-at-test.true c.index-places-at.is in
    let i = drop_more seen at (Broken 0) within in
    let e = ap (λ z. z.pid) c.place.view_is in
    let reported = fault_step ats seen at p s h i c.loop-at.met c.place.inside.pid _ _ e c.loop-at.invariant.found c.in_err-pairs.ensures.err in
    err_of c.from_residual.result _ _ c.from_residual.ensures.1 (λ fault same. subst (IsFaultOf (first_found c.args.met.now ats seen)) (sym same) reported)
