use Rattle.std.proofs.Common.{◌<◌, length, sym, arith}
use Rattle.delta_chain.specs.Located.{keys_of_runs, keyed}
use Rattle.delta_chain.specs.declared.locators.Locator.{Locator}
use Rattle.delta_chain.proofs.LocatorLemmas.{there_in, key_there_in, length-keyed}
use Rattle.delta_chain.proofs.Setting.{AboveFrom, below_through, above_onward, key_there, value_at-found, value_at-missing, with_pair-missing}
use Rattle.delta_chain.proofs.locators.search_near.Goals as goal

abbrev first : Locator
first = record { word = 0; run = 0; at = 0 }

pub compare-requires : goal.compare-requires
compare-requires g c =
    there_in (keys_of_runs c.args.runs.now) c.args.locators.now c.near_place-middle.result first (omega (arith, c.loop-low.invariant.within, c.near_place-middle.ensures.upto)) c.requires.all

pub loop-low-preserved-in-Less : goal.loop-low-preserved-in-Less
loop-low-preserved-in-Less g c =
    let middle = c.near_place-middle.result in
    let l : middle < length c.args.locators.now = omega (arith, c.loop-low.invariant.within, c.near_place-middle.ensures.upto) in
    record {
      ordered = omega (arith, c.near_place-middle.ensures.upto);
      within = c.loop-low.invariant.within;
      below = below_through (keyed (keys_of_runs c.args.runs.now) c.args.locators.now) middle c.args.key.now _ c.requires.rising (key_there_in (keys_of_runs c.args.runs.now) c.args.locators.now middle first l) (sym c.in-Less.ensures);
      above = c.loop-low.invariant.above;
    }

pub returns-in-Equal : goal.returns-in-Equal
returns-in-Equal g c =
    let middle = c.near_place-middle.result in
    let es = keyed (keys_of_runs c.args.runs.now) c.args.locators.now in
    let l : middle < length c.args.locators.now = omega (arith, c.loop-low.invariant.within, c.near_place-middle.ensures.upto) in
    let many = length-keyed (keys_of_runs c.args.runs.now) c.args.locators.now in
    let there = key_there es middle c.args.key.now _ (key_there_in (keys_of_runs c.args.runs.now) c.args.locators.now middle first l) (sym c.in-Equal.ensures) in
    (omega (arith, l, many), there, value_at-found es middle c.args.key.now c.requires.rising there)

pub loop-low-preserved : goal.loop-low-preserved
loop-low-preserved g c =
    let middle = c.near_place-middle.result in
    let l : middle < length c.args.locators.now = omega (arith, c.loop-low.invariant.within, c.near_place-middle.ensures.upto) in
    record {
      ordered = c.near_place-middle.ensures.from;
      within = omega (arith, c.loop-low.invariant.within, c.near_place-middle.ensures.upto);
      below = c.loop-low.invariant.below;
      above = above_onward (keyed (keys_of_runs c.args.runs.now) c.args.locators.now) middle c.args.key.now _ c.requires.rising (key_there_in (keys_of_runs c.args.runs.now) c.args.locators.now middle first l) (sym c.in-Greater.ensures);
    }

pub returns : goal.returns
returns g c =
    let es = keyed (keys_of_runs c.args.runs.now) c.args.locators.now in
    let low = c.loop-low.low in
    let many = length-keyed (keys_of_runs c.args.runs.now) c.args.locators.now in
    let none : AboveFrom es low c.args.key.now = λ m d f l. c.loop-low.invariant.above m d (omega (arith, f, c.loop-low.invariant.ordered, c.loop-low-test.false)) l in (
      omega (arith, c.loop-low.invariant.ordered, c.loop-low.invariant.within, many),
      value_at-missing es low c.args.key.now c.loop-low.invariant.below none,
      λ item. with_pair-missing es low c.args.key.now item (omega (arith, c.loop-low.invariant.ordered, c.loop-low.invariant.within, many)) c.loop-low.invariant.below none,
    )
