use Rattle.std.proofs.Common.{◌<◌, length, refl, ap, ◌∙◌, arith, add-one}
use Rattle.std.proofs.lemmas.List.{length-set}
use Rattle.split_plan.specs.Frames.{frame_in}
use Rattle.split_plan.proofs.MovingLemmas.{none_complete, next_blank, one_complete, all_complete}
use Rattle.split_plan.proofs.moving.fill_all.Goals as goal

pub loop-at-init : goal.loop-at-init
loop-at-init c = record { count = refl; filled = λ bs e h. (none_complete c.args.blanks.items bs e, h) }

pub fill-requires : goal.fill-requires
fill-requires c =
    let all = c.loop-at.invariant.filled c.requires.0 c.requires.1 c.requires.2 in
    let next = next_blank c.loop-at.source.chain c.loop-at.source.leaves.items c.loop-at.pages.items c.requires.0 c.loop-at.at c.index_mut.result.now all.0 (omega (arith, c.loop-at.invariant.count, c.len-at-end.ensures, c.loop-at-test.true, c.args.blanks.ok)) c.index_mut.ensures.value all.1 in
    (next.0.0, next.0.1, _, ap frame_in c.as_mut.ensures.value ∙ next.2, next.3)

pub loop-at-preserved : goal.loop-at-preserved
loop-at-preserved c = record {
  count = length-set c.loop-at.pages.items c.loop-at.at _ ∙ c.loop-at.invariant.count;
  filled = λ bs e h.
      let within : c.loop-at.at < length c.loop-at.pages.items = omega (arith, c.loop-at.invariant.count, c.len-at-end.ensures, c.loop-at-test.true, c.args.blanks.ok) in
      let all = c.loop-at.invariant.filled bs e h in
      let next = next_blank c.loop-at.source.chain c.loop-at.source.leaves.items c.loop-at.pages.items bs c.loop-at.at c.index_mut.result.now all.0 within c.index_mut.ensures.value all.1 in
      let done = c.fill.ensures next.0.0 next.0.1 _ (ap frame_in c.as_mut.ensures.value ∙ next.2) next.3 in
      rw add-one (one_complete c.loop-at.pages.items bs c.loop-at.at _ next.0 all.0 within next.1 done.0, done.1);
}

pub returns : goal.returns
returns c = λ bs e h.
    let all = c.loop-at.invariant.filled bs e h in
    all_complete c.loop-at.pages.items bs c.loop-at.at all.0 (omega (arith, c.loop-at.invariant.count, c.len-at-end.ensures, c.loop-at-test.false, c.args.blanks.ok))
