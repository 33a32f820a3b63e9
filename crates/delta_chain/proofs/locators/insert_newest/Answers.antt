use Rattle.std.proofs.Common.{◌≡◌, ◌++◌, ◌∷◌, [], ◌+◌, ◌-◌, ◌≤◌, length, take, drop, reverse, refl, sym, ap, ◌∙◌, arith}
use native.Mathlib.Numerals.{unary_clauses}
use Rattle.std.specs.Map.{keys_of}
use Rattle.std.proofs.lemmas.List.{take-append-drop, take_rest, length-drop, length-take, length-take-le, length-append}
use Rattle.keys.specs.Words.{first_word}
use Rattle.delta_chain.specs.Located.{keys_of_runs, keyed, IsIn}
use Rattle.delta_chain.proofs.LocatorLemmas.{all-append, all-take, all-drop, all_still, is_in_newest, merged-next, merged-all, rising-newest, rising-located, rising_above, newest_with, locator_is, length-keys_of}
use Rattle.delta_chain.proofs.Putting.{put_front, put_back}
use Rattle.delta_chain.proofs.locators.insert_newest.Goals as goal

pub new-requires-clause-at : goal.new-requires-clause-at
new-requires-clause-at g c = omega (arith, c.loop-at-test.true, c.len-at-end.ensures.count, c.requires.places)

pub loop-at-init : goal.loop-at-init
loop-at-init g c = record {
  from = omega arith;
  all = c.requires.newest.all;
  rising = rw c.requires.newest.keys (rising-newest (reverse (keys_of_runs c.args.runs.now)));
  merged = tt;
  laid = refl;
  room = simp unary_clauses c.requires.room;
}

pub loop-at-preserved : goal.loop-at-preserved
loop-at-preserved g c =
    let runs = keys_of_runs c.args.runs.now in
    let keys = keys_of c.args.run.now in
    let key = c.key_ref-key.result in
    let l = c.new.result in
    let old = c.loop-at.locators.items in
    let new = c.put.new.locators.items in
    let from = c.loop-at.from in
    let rest = drop from old in
    let below = c.bounds_of-below.result.0 in
    let above = c.bounds_of-below.result.1 in
    let most = rw (c.deref.ensures.value, take_rest old from) at c.bounds_of-below.ensures.most in
    let apart = rw (c.deref.ensures.value, take_rest old from) at (c.bounds_of-below.ensures.apart l) in
    let is : l ≡ record { word = first_word key; run = length runs; at = c.loop-at.at } = locator_is c.args.runs.now keys l c.loop-at.at key c.new.ensures.locator in
    let mine : IsIn (runs ++ keys ∷ []) l = is_in_newest c.args.runs.now keys l c.loop-at.at key c.new.ensures.locator c.key_ref-key.ensures c.new.ensures.bytes in
    let many : length rest ≡ length old - from = length-drop from old in
    let within : from + below ≤ length old = omega (arith, many, most, c.bounds_of-below.ensures.order.0, c.loop-at.invariant.from) in
    let next = from + (below + 1) in
    let front : take next new ≡ (take from old ++ take below rest) ++ l ∷ [] = put_front old new l from below above next (omega arith) within c.put.ensures.items in
    let back : drop next new ≡ drop above rest = put_back old new l from below above next (omega arith) within c.put.ensures.items in
    let held = all-take (IsIn runs) below rest c.loop-at.invariant.all in
    rw (front, back) (record {
      from = omega (arith, ap length front, length-append (take from old ++ take below rest) (l ∷ []), length-append (take from old) (take below rest), length-take-le from old c.loop-at.invariant.from, length-take-le below rest (omega (arith, most, c.bounds_of-below.ensures.order.0)), length-take next new);
      all = all-drop (IsIn runs) above rest c.loop-at.invariant.all;
      rising = rising_above (keyed runs rest) (keyed runs (take below rest)) (keyed runs (drop above rest)) key l c.loop-at.invariant.rising apart;
      merged = all-append (IsIn (runs ++ keys ∷ [])) (take from old ++ take below rest) (l ∷ []) (all-append (IsIn (runs ++ keys ∷ [])) (take from old) (take below rest) c.loop-at.invariant.merged (all_still runs (keys ∷ []) (take below rest) held)) (mine, tt);
      laid = merged-next runs keys _ (take from old) rest (take below rest) (drop above rest) ((take from old ++ take below rest) ++ l ∷ []) c.loop-at.at key l is c.loop-at.invariant.rising (rising-located (length runs) c.args.run.now c.len-at-end.ensures.rising)
          c.key_ref-key.ensures held apart refl c.loop-at.invariant.laid;
      room = omega (arith, c.loop-at.invariant.room, c.put.ensures.len, c.put.ensures.capacity, c.loop-at-test.true, c.len-at-end.ensures.count);
    })

pub returns : goal.returns
returns g c =
    let runs = keys_of_runs c.args.runs.now in
    let keys = keys_of c.args.run.now in
    let now = c.loop-at.locators.items in
    let from = c.loop-at.from in
    let many = length-keys_of c.args.run.now in
    let whole : now ≡ take from now ++ drop from now = sym (take-append-drop from now) in
    record {
      all = rw whole (all-append (IsIn (runs ++ keys ∷ [])) (take from now) (drop from now) c.loop-at.invariant.merged (all_still runs (keys ∷ []) (drop from now) c.loop-at.invariant.all));
      keys = merged-all runs keys _ (take from now) (drop from now) now c.loop-at.at (omega (arith, c.loop-at-test.false, c.len-at-end.ensures.count, many)) c.loop-at.invariant.all whole c.loop-at.invariant.laid
          ∙ newest_with runs keys c.args.locators.now.items c.requires.newest.keys;
    }
