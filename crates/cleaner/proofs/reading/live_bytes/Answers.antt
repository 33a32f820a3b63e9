use Rattle.std.proofs.Common.{arith}
use Rattle.cleaner.proofs.LiveLemmas.{next-live, all-live}
use Rattle.cleaner.proofs.reading.live_bytes.Goals as goal

pub loop-entry-preserved : goal.loop-entry-preserved
loop-entry-preserved c =
    let added = c.saturating_add-live.ensures in
    record {
      fits = omega (arith, added);
      all = next-live c.loop-entry.live c.saturating_add-live.result c.loop-entry.entry-iterator c.next.new.self c.args.by_pid.now.entries (c.in-Some.entry.0.now, c.in-Some.entry.1.now) c.in-Some.ensures.steps c.loop-entry.invariant.all added;
    }

pub returns : goal.returns
returns c = all-live c.loop-entry.live c.loop-entry.entry-iterator c.args.by_pid.now.entries c.in-None.ensures.steps.0 c.loop-entry.invariant.fits c.loop-entry.invariant.all
