use Rattle.std.proofs.Common.{◌++◌, arith}
use Rattle.std.specs.Vec.Iter.{into_iter_items}
use Rattle.std.proofs.lemmas.List.{nil_from_length}
use Rattle.recovery.proofs.SoFarLemmas.{following-next, following-none}
use Rattle.recovery.proofs.partial_log.add_all.Goals as goal

pub loop-frame-preserved : goal.loop-frame-preserved
loop-frame-preserved c w found more same live =
    following-next w c.loop-frame.gathering c.add.new.self c.args.number (found ++ more) (into_iter_items c.loop-frame.frame-iterator) (into_iter_items c.next.new.self) c.in-Some.frame c.in-Some.ensures.steps.0
    (c.loop-frame.invariant w found more same live) (c.in_ok-add.ensures w)

pub returns-clause-ok : goal.returns-clause-ok
returns-clause-ok c w found more same live =
    following-none w c.loop-frame.gathering c.args.number (found ++ more) (into_iter_items c.loop-frame.frame-iterator) (nil_from_length _ (omega (arith, c.in-None.ensures.steps.0))) (c.loop-frame.invariant w found more same live)
