use Rattle.std.proofs.Common.{refl}
use Rattle.delta_chain.proofs.Rising.{goes_last-rising}
use Rattle.split_plan.proofs.ExchangeLemmas.{rising-with_present}
use Rattle.split_plan.proofs.parent_run.terms.Goals as goal

pub loop-term-init : goal.loop-term-init
loop-term-init c = rw (c.from-gone.ensures.0, c.from-come.ensures.0, c.in_ok-run.ensures) (record {
  freed_rises = c.requires.freed;
  fresh_rises = c.requires.fresh;
  rises = rising-with_present c.args.freed.items c.args.fresh.items c.requires.freed;
  made = refl;
})

pub push_next-requires : goal.push_next-requires
push_next-requires c =
    let rises = rw c.in-Some-next_term.ensures.terms at c.loop-term.invariant.rises in
    goes_last-rising c.loop-term.run c.in-Some-next_term.term.0 c.in-Some-next_term.term.1 _ rises
