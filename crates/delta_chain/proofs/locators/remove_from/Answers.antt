use Rattle.std.proofs.Common.{◌≡◌, ◌<◌, ◌++◌, ◌∷◌, [], suc, length, reverse, take, refl, ap, ◌∙◌, sym, arith, add-one, Some}
use Rattle.std.specs.Prelude.{set}
use Rattle.std.specs.List.{slice_get}
use Rattle.std.specs.Map.{keys_of}
use Rattle.std.proofs.lemmas.List.{length-set}
use Rattle.delta_chain.specs.Located.{keys_of_runs, key_at, IsIn}
use Rattle.delta_chain.proofs.LocatorLemmas.{all-append, all-there, take-set, drop-set, drop-more, passed_none, passed_kept, passed_gone, passed_all, rising-located, old_there, number_within, at_run, key_run, length-keys_of_runs}
use Rattle.delta_chain.proofs.locators.remove_from.Goals.{in-Some, in_default}
use Rattle.delta_chain.proofs.locators.remove_from.Goals as goal

pub run_at-run-requires : goal.run_at-run-requires
run_at-run-requires g c =
    let old = c.args.locators.now in
    let n : c.loop-at.at < length old.items = omega (arith, c.loop-at-test.true, c.len-at-end.ensures, old.ok.0) in
    let there : slice_get old.items c.loop-at.at ≡ Some c.index-locator.result.now = old_there c.loop-at.locators.items old.items c.loop-at.at c.index-locator.result.now c.loop-at.invariant.count c.loop-at.invariant.rest n c.index-locator.ensures in
    let within = number_within (keys_of_runs c.args.older.now) (keys_of c.args.newest.now) c.index-locator.result.now (all-there (IsIn (keys_of_runs c.args.older.now ++ keys_of c.args.newest.now ∷ [])) old.items c.loop-at.at c.index-locator.result.now c.requires.newest.all there) in
    omega (arith, within, length-keys_of_runs c.args.older.now)

pub key_ref-requires : goal.key_ref-requires
key_ref-requires g c =
    let old = c.args.locators.now in
    let n : c.loop-at.at < length old.items = omega (arith, c.loop-at-test.true, c.len-at-end.ensures, old.ok.0) in
    let there : slice_get old.items c.loop-at.at ≡ Some c.index-locator.result.now = old_there c.loop-at.locators.items old.items c.loop-at.at c.index-locator.result.now c.loop-at.invariant.count c.loop-at.invariant.rest n c.index-locator.ensures in
    at_run c.args.older.now c.args.newest.now c.run_at-run.result.now c.index-locator.result.now c.run_at-run.ensures (all-there (IsIn (keys_of_runs c.args.older.now ++ keys_of c.args.newest.now ∷ [])) old.items c.loop-at.at c.index-locator.result.now c.requires.newest.all there)

pub loop-at-preserved : goal.loop-at-preserved
loop-at-preserved g c =
    let runs = keys_of_runs c.args.older.now in
    let keys = keys_of c.args.newest.now in
    let old = c.args.locators.now.items in
    let items = c.loop-at.locators.items in
    let at = c.loop-at.at in
    let kept = c.loop-at.kept in
    let key = c.key_ref.result in
    let l = c.index-locator.result.now in
    let n : at < length old = omega (arith, c.loop-at-test.true, c.len-at-end.ensures, c.args.locators.now.ok.0) in
    let k : kept < length items = omega (arith, n, c.loop-at.invariant.kept, c.loop-at.invariant.count) in
    let there : slice_get old at ≡ Some l = old_there items old at l c.loop-at.invariant.count c.loop-at.invariant.rest n c.index-locator.ensures in
    let has : key_at (runs ++ keys ∷ []) l ≡ key = key_run c.args.older.now c.args.newest.now c.run_at-run.result.now l c.run_at-run.ensures key c.key_ref.ensures in
    elim c.match-newest_of.branch [
      | in-Some w ↦
          let under = w.in-Some.under in
          let now : c.match-newest_of.locators.items ≡ set items kept under = ap (λ v. v.items) w.locators-is in
          rw (w.kept-is, now) (record {
            kept = omega (arith, c.loop-at.invariant.kept);
            count = length-set items kept under ∙ c.loop-at.invariant.count;
            rest = simp add-one (drop-set items kept (suc at) under (omega (arith, c.loop-at.invariant.kept)) ∙ drop-more items old at c.loop-at.invariant.rest);
            all = simp add-one (rw (take-set items kept under k) (all-append (IsIn runs) (take kept items) (under ∷ []) c.loop-at.invariant.all (w.in-Some.ensures.place.0, tt)));
            passed = passed_kept runs keys old items kept at l under key there k has w.in-Some.ensures.place.1 w.in-Some.ensures.value c.loop-at.invariant.passed;
          })
      | in_default w ↦
          let now : c.match-newest_of.locators.items ≡ items = ap (λ v. v.items) w.locators-is in
          rw (w.kept-is, now) (record {
            kept = omega (arith, c.loop-at.invariant.kept);
            count = c.loop-at.invariant.count;
            rest = simp add-one (drop-more items old at c.loop-at.invariant.rest);
            all = c.loop-at.invariant.all;
            passed = passed_gone runs keys old items kept at l key there has (sym w.in_default.is ∙ c.newest_of.ensures.value) c.loop-at.invariant.passed;
          })
    ]

pub loop-at-init : goal.loop-at-init
loop-at-init g c =
    let runs = keys_of_runs c.args.older.now in
    record {
      kept = omega arith;
      count = refl;
      rest = refl;
      all = tt;
      passed = passed_none runs (keys_of c.args.newest.now) c.args.locators.now.items c.requires.newest.keys (rising-located (length (reverse runs)) c.args.newest.now c.len-rising.ensures.rising);
    }

pub returns : goal.returns
returns g c =
    let runs = keys_of_runs c.args.older.now in
    let old = c.args.locators.now in
    record {
      all = rw c.truncate.ensures.items c.loop-at.invariant.all;
      keys = rw c.truncate.ensures.items (passed_all runs (keys_of c.args.newest.now) old.items c.loop-at.locators.items c.loop-at.kept c.loop-at.at (omega (arith, c.loop-at-test.false, c.len-at-end.ensures, old.ok.0)) c.loop-at.invariant.passed);
    }
