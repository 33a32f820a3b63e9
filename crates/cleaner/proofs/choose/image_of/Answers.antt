use Rattle.std.proofs.Common.{true, false, refl, sym, ◌∙◌}
use Rattle.recovery.proofs.RebuildLemmas.{tail_by}
use Rattle.recovery.proofs.ScanLemmas.{state-none, state-some, less-left}
use Rattle.cleaner.proofs.ChooseLemmas.{image-none, image-more, image-all, image-other}
use Rattle.cleaner.proofs.choose.image_of.Goals as goal

pub loop-rest-init : goal.loop-rest-init
loop-rest-init c = image-none c.args.format.now c.args.frames.now c.new-image.result c.new-image.ensures

pub returns-in_default : goal.returns-in_default
returns-in_default c =
    let state = c.skim_frame.ensures in
    image-other c.args.format.now c.args.frames.now c.loop-rest.image c.new.result c.loop-rest.rest.now c.loop-rest.invariant (tail_by c.loop-rest.rest.now false (sym c.is_empty.ensures ∙ c.loop-rest-test.true))
    (state-none c.args.format.now c.loop-rest.rest.now c.skim_frame.result c.in_default.is (record { found = state.found; within = state.within })) c.new.ensures

pub loop-rest-smaller : goal.loop-rest-smaller
loop-rest-smaller c =
    let state = c.skim_frame.ensures in
    less-left c.args.format.now c.loop-rest.rest.now c.in-Some.skimmed c.in-Some.skimmed.size refl
    (state-some c.args.format.now c.loop-rest.rest.now c.skim_frame.result c.in-Some.skimmed c.in-Some.is (record { found = state.found; within = state.within }))

pub loop-rest-preserved : goal.loop-rest-preserved
loop-rest-preserved c =
    let state = c.skim_frame.ensures in
    image-more c.args.format.now c.args.frames.now c.loop-rest.image c.push.new.self c.loop-rest.rest.now c.in-Some.skimmed c.in-Some.skimmed.size c.loop-rest.invariant (tail_by c.loop-rest.rest.now false (sym c.is_empty.ensures ∙ c.loop-rest-test.true))
    (state-some c.args.format.now c.loop-rest.rest.now c.skim_frame.result c.in-Some.skimmed c.in-Some.is (record { found = state.found; within = state.within }))
    refl c.in_ok-push.ensures.ok

pub returns : goal.returns
returns c = image-all c.args.format.now c.args.frames.now c.loop-rest.image c.loop-rest.rest.now c.loop-rest.invariant (tail_by c.loop-rest.rest.now true (sym c.is_empty.ensures ∙ c.loop-rest-test.false))
