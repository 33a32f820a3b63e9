use Rattle.scan.proofs.PastLemmas.{up_before, down_before, same_here, up_later, down_later}
use Rattle.scan.proofs.merge.past.Goals as goal

pub returns-in-Less : goal.returns-in-Less
returns-in-Less c k h = up_later c.args.direction c.args.base.now c.len.ensures.rising c.args.at c.in-Some.place c.in-Some.later k _ (rw c.len.ensures.count at c.in-Some.ensures) c.key_ref.ensures c.in-Up.is (c.in-Less.ensures k h)

pub returns-in-Equal : goal.returns-in-Equal
returns-in-Equal c k h = same_here c.args.direction c.args.base.now c.len.ensures.rising c.args.at c.in-Some.place c.in-Some.later k _ (rw c.len.ensures.count at c.in-Some.ensures) c.key_ref.ensures (c.in-Equal.ensures k h)

pub returns-in-Greater : goal.returns-in-Greater
returns-in-Greater c k h = up_before c.args.direction c.args.base.now c.len.ensures.rising c.args.at c.in-Some.place c.in-Some.later k _ (rw c.len.ensures.count at c.in-Some.ensures) c.key_ref.ensures c.in-Up.is (c.in-Greater.ensures k h)

pub returns-in-Less-order : goal.returns-in-Less-order
returns-in-Less-order c k h = down_before c.args.direction c.args.base.now c.len.ensures.rising c.args.at c.in-Some.place c.in-Some.later k _ (rw c.len.ensures.count at c.in-Some.ensures) c.key_ref.ensures c.in-Down.is (c.in-Less-order.ensures k h)

pub returns-in-Equal-order : goal.returns-in-Equal-order
returns-in-Equal-order c k h = same_here c.args.direction c.args.base.now c.len.ensures.rising c.args.at c.in-Some.place c.in-Some.later k _ (rw c.len.ensures.count at c.in-Some.ensures) c.key_ref.ensures (c.in-Equal-order.ensures k h)

pub returns-in-Greater-order : goal.returns-in-Greater-order
returns-in-Greater-order c k h = down_later c.args.direction c.args.base.now c.len.ensures.rising c.args.at c.in-Some.place c.in-Some.later k _ (rw c.len.ensures.count at c.in-Some.ensures) c.key_ref.ensures c.in-Down.is (c.in-Greater-order.ensures k h)
