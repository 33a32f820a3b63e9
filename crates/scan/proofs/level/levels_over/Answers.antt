use Rattle.std.proofs.Common.{arith}
use Rattle.scan.proofs.Counting.{leads_more, leads_up, blank_more, blank_counts}
use Rattle.scan.proofs.level.levels_over.Goals as goal

pub loop-wide-preserved : goal.loop-wide-preserved
loop-wide-preserved c = record {
  leads = leads_more c.args.places c.loop-wide.wide c.loop-wide.levels.items c.push.new.self.items c.in_ok-new.field-0 c.in_ok-push.ensures.items c.in_ok-new.ensures c.loop-wide.invariant.leads;
  blank = blank_more c.loop-wide.wide c.loop-wide.levels.items c.push.new.self.items c.in_ok-new.field-0 c.in_ok-push.ensures.items c.in_ok-new.ensures c.loop-wide.invariant.blank;
}

pub returns-clause-wide : goal.returns-clause-wide
returns-clause-wide c = let one = c.loop-wide-test.false in leads_up c.args.places c.loop-wide.wide c.loop-wide.levels.items c.loop-wide.invariant.leads (omega (arith, one))

pub returns-clause-none : goal.returns-clause-none
returns-clause-none c = blank_counts c.loop-wide.levels.items c.loop-wide.invariant.blank
