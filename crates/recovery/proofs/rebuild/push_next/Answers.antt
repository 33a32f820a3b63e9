use Rattle.std.proofs.Common.{inl, inr}
use Rattle.frame_codec.specs.Shown.{frame_of}
use Rattle.recovery.proofs.RebuildLemmas.{IsReadAt, front_of}
use Rattle.recovery.proofs.rebuild.push_next.Goals as goal

pub returns-in_default : goal.returns-in_default
returns-in_default c = inl (rw c.in_default.is at c.in_ok-frame.ensures.found)

pub returns-then-not-is_run : goal.returns-then-not-is_run
returns-then-not-is_run c =
    let at : IsReadAt c.args.format.now c.args.bytes.now (frame_of c.in-Some.frame) c.in-Some.size = record {
      found = rw c.in-Some.is at c.in_ok-frame.ensures.found;
      long = rw c.in-Some.is at c.in_ok-frame.ensures.size;
      within = rw c.in-Some.is at c.in_ok-frame.ensures.within;
    } in
    let front = front_of c.args.format.now c.args.bytes.now (frame_of c.in-Some.frame) c.in-Some.size at in
    inr (frame_of c.in-Some.frame, _, front.found, front.less, rw c.if-not-is_run.true at c.in_ok-is_run.ensures)

pub returns : goal.returns
returns c =
    let at : IsReadAt c.args.format.now c.args.bytes.now (frame_of c.in-Some.frame) c.in-Some.size = record {
      found = rw c.in-Some.is at c.in_ok-frame.ensures.found;
      long = rw c.in-Some.is at c.in_ok-frame.ensures.size;
      within = rw c.in-Some.is at c.in_ok-frame.ensures.within;
    } in
    let front = front_of c.args.format.now c.args.bytes.now (frame_of c.in-Some.frame) c.in-Some.size at in
    (frame_of c.in-Some.frame, front.found, front.less, rw c.if-not-is_run.false at c.in_ok-is_run.ensures)
