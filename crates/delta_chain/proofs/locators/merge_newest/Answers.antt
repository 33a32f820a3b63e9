use Rattle.std.proofs.Common.{◌≡◌, ◌++◌, ◌∷◌, [], List, length, reverse, refl, ap, ◌∙◌, arith}
use Rattle.std.specs.Map.{keys_of}
use Rattle.keys.specs.Words.{first_word}
use Rattle.delta_chain.specs.Located.{keys_of_runs, keyed, IsIn}
use Rattle.delta_chain.specs.declared.locators.Locator.{Locator}
use Rattle.delta_chain.proofs.LocatorLemmas.{all-append, all_still, is_in_newest, merged-next, merged-all, rising-newest, rising-located, rising_above, newest_with, locator_is, length-keys_of}
use Rattle.delta_chain.proofs.locators.merge_newest.Goals as goal

pub new-requires-clause-at : goal.new-requires-clause-at
new-requires-clause-at g c = omega (arith, c.loop-at-test.true, c.len-count.ensures.count, c.requires.places)

pub loop-at-init : goal.loop-at-init
loop-at-init g c = record {
  all = c.requires.newest.all;
  rising = rw c.requires.newest.keys (rising-newest (reverse (keys_of_runs c.args.runs.now)));
  merged = rw c.in_ok-merged.ensures.items tt;
  laid = rw c.in_ok-merged.ensures.items refl;
}

pub loop-at-preserved : goal.loop-at-preserved
loop-at-preserved g c =
    let runs = keys_of_runs c.args.runs.now in
    let keys = keys_of c.args.run.now in
    let key = c.key_ref-key.result in
    let l = c.new.result in
    let is : l ≡ record { word = first_word key; run = length runs; at = c.loop-at.at } = locator_is c.args.runs.now keys l c.loop-at.at key c.new.ensures.locator in
    let now : c.push.new.self.items ≡ (c.loop-at.merged.items ++ c.split.result.0.now) ++ l ∷ [] = c.in_ok-push.ensures.items ∙ ap (λ (ls : List Locator). ls ++ l ∷ []) c.in_ok-extend_from_slice.ensures.items in
    let mine : IsIn (runs ++ keys ∷ []) l = is_in_newest c.args.runs.now keys l c.loop-at.at key c.new.ensures.locator c.key_ref-key.ensures c.new.ensures.bytes in
    record {
      all = c.split.ensures.above;
      rising = rising_above (keyed runs c.loop-at.rest.now) (keyed runs c.split.result.0.now) (keyed runs c.split.result.1.now) key l c.loop-at.invariant.rising (c.split.ensures.apart l);
      merged = rw now (all-append (IsIn (runs ++ keys ∷ [])) (c.loop-at.merged.items ++ c.split.result.0.now) (l ∷ []) (all-append (IsIn (runs ++ keys ∷ [])) c.loop-at.merged.items c.split.result.0.now c.loop-at.invariant.merged (all_still runs (keys ∷ []) c.split.result.0.now c.split.ensures.below)) (mine, tt));
      laid = merged-next runs keys _ c.loop-at.merged.items c.loop-at.rest.now c.split.result.0.now c.split.result.1.now c.push.new.self.items c.loop-at.at key l is c.loop-at.invariant.rising (rising-located (length runs) c.args.run.now c.len-count.ensures.rising)
          c.key_ref-key.ensures c.split.ensures.below (c.split.ensures.apart l) now c.loop-at.invariant.laid;
    }

pub returns : goal.returns
returns g c =
    let runs = keys_of_runs c.args.runs.now in
    let keys = keys_of c.args.run.now in
    let many = length-keys_of c.args.run.now in
    record {
      all = rw c.in_ok-extend_from_slice-2.ensures.items (all-append (IsIn (runs ++ keys ∷ [])) c.loop-at.merged.items c.loop-at.rest.now c.loop-at.invariant.merged (all_still runs (keys ∷ []) c.loop-at.rest.now c.loop-at.invariant.all));
      keys = merged-all runs keys _ c.loop-at.merged.items c.loop-at.rest.now c.extend_from_slice-2.new.self.items c.loop-at.at (omega (arith, c.loop-at-test.false, c.len-count.ensures.count, many)) c.loop-at.invariant.all c.in_ok-extend_from_slice-2.ensures.items c.loop-at.invariant.laid
          ∙ newest_with runs keys c.args.locators.now c.requires.newest.keys;
    }
