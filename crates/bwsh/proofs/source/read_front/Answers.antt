use Rattle.bwsh.proofs.LongLemmas.{begun-more, front-at_end, front-feed}
use Rattle.bwsh.proofs.source.read_front.Goals as goal

pub returns-in_default : goal.returns-in_default
returns-in_default g c =
    let none = rw c.in_default.is at c.in_ok-shown.ensures in
    front-at_end (g.I.Read.remaining c.args.input.now) (g.I.Read.remaining c.loop.input) (g.I.Read.remaining c.push_shown.new.input) c.loop.text.items c.push_shown.new.text.items
    c.loop.invariant none

pub returns-then-byte-eq10 : goal.returns-then-byte-eq10
returns-then-byte-eq10 g c =
    let some = rw c.in-Some.is at c.in_ok-shown.ensures in
    front-feed (g.I.Read.remaining c.args.input.now) (g.I.Read.remaining c.loop.input) (g.I.Read.remaining c.push_shown.new.input) c.loop.text.items c.push_shown.new.text.items
    c.in-Some.byte c.loop.invariant some c.if-byte-eq10.true

pub loop-preserved : goal.loop-preserved
loop-preserved g c =
    let some = rw c.in-Some.is at c.in_ok-shown.ensures in
    begun-more (g.I.Read.remaining c.args.input.now) (g.I.Read.remaining c.loop.input) (g.I.Read.remaining c.push_shown.new.input) c.loop.text.items c.push_shown.new.text.items
    c.in-Some.byte c.loop.invariant some c.if-byte-eq10.false
