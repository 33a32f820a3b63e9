use Rattle.bwsh.proofs.SourceLemmas.{Skips-at_end, Skips-ended, Skips-more, Skips-none, is_feed, no_feed}
use Rattle.bwsh.proofs.source.skip_rest.Goals as goal

pub loop-init : goal.loop-init
loop-init g c = Skips-none (g.I.Read.remaining c.args.input.now) c.args.read.now c.last_byte-last.result c.requires c.last_byte-last.ensures

pub returns-then-eq : goal.returns-then-eq
returns-then-eq g c =
    Skips-ended (g.I.Read.remaining c.args.input.now) (g.I.Read.remaining c.loop.input) c.args.read.now c.loop.last c.loop.invariant (is_feed c.loop.last c.eq.result c.eq.ensures c.if-eq.true)

pub returns-in_default : goal.returns-in_default
returns-in_default g c =
    let none = rw c.in_default.is at c.in_ok-skipped.ensures in
    Skips-at_end (g.I.Read.remaining c.args.input.now) (g.I.Read.remaining c.loop.input) (g.I.Read.remaining c.skip_shown.new.input) c.args.read.now c.loop.last c.loop.invariant
    (no_feed c.loop.last c.eq.result c.eq.ensures c.if-eq.false) none

pub loop-preserved : goal.loop-preserved
loop-preserved g c =
    let some = rw c.in-Some.is at c.in_ok-skipped.ensures in
    Skips-more (g.I.Read.remaining c.args.input.now) (g.I.Read.remaining c.loop.input) (g.I.Read.remaining c.skip_shown.new.input) c.args.read.now c.loop.last c.in-Some.byte c.loop.invariant
    (no_feed c.loop.last c.eq.result c.eq.ensures c.if-eq.false) some
