use Rattle.std.proofs.Common.{length, ap, arith}
use Rattle.delta_chain.proofs.Alone.{put_before, put_after}
use Rattle.delta_chain.proofs.entries.with_two.Goals as goal

pub push_reserved-requires : goal.push_reserved-requires
push_reserved-requires g c = omega (arith, ap length c.requires.none, c.args.list.ok, c.requires.room)

pub push_reserved-requires-then-at-eq0 : goal.push_reserved-requires-then-at-eq0
push_reserved-requires-then-at-eq0 g c = omega (arith, ap length c.requires.none, c.args.list.ok, c.requires.room, c.push_reserved.ensures.len, c.push_reserved.ensures.capacity)

pub push_reserved-requires-2 : goal.push_reserved-requires-2
push_reserved-requires-2 g c = omega (arith, ap length c.requires.none, c.args.list.ok, c.requires.room)

pub push_reserved-requires-3 : goal.push_reserved-requires-3
push_reserved-requires-3 g c = omega (arith, ap length c.requires.none, c.args.list.ok, c.requires.room, c.push_reserved-2.ensures.len, c.push_reserved-2.ensures.capacity)

pub returns-then-at-eq0 : goal.returns-then-at-eq0
returns-then-at-eq0 g c =
    rw (c.push_reserved-then-at-eq0.ensures.items, c.push_reserved.ensures.items) (put_before c.args.list.items c.args.alone c.args.entry c.args.at c.requires.none c.if-at-eq0.true)

pub returns : goal.returns
returns g c =
    rw (c.push_reserved-3.ensures.items, c.push_reserved-2.ensures.items) (put_after c.args.list.items c.args.alone c.args.entry c.args.at c.requires.none c.if-at-eq0.false c.requires.place)
