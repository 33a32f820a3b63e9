use Rattle.std.proofs.Common.{◌∙◌, ◌∷◌, [], None, Some, refl, sym}
use Rattle.bwsh.proofs.SourceLemmas.{IsNext-ended, IsNext-from, IsToCome-ended, IsToCome-line, IsToCome-taken}
use Rattle.bwsh.proofs.source.Source.next.Goals as goal

pub loop-init : goal.loop-init
loop-init g c = record {
  queued = c.take.ensures.after;
  bounds = refl;
  comes = IsToCome-taken g.I.Read.remaining c.args.self.now c.take.new.self (sym c.take.ensures.value ∙ c.in_default.is) c.take.ensures.after;
}

pub returns-then-self-clause-next : goal.returns-then-self-clause-next
returns-then-self-clause-next g c =
    let before = c.loop in
    before.invariant.comes [] (IsToCome-ended g.I.Read.remaining before.self before.invariant.queued c.if-self.true)

pub returns-in_default-2-clause-next : goal.returns-in_default-2-clause-next
returns-in_default-2-clause-next g c =
    let before = c.loop in
    let read = c.read_line in
    let none = rw c.in_default-2.is at c.in_ok-line.ensures.read in
    IsNext-from g.I.Read.remaining c.args.self.now before.self c.end.new.self c.end.result before.invariant.comes
    (IsNext-ended g.I.Read.remaining before.self read.new.self c.end.new.self c.end.result before.invariant.queued c.if-self.false read.ensures.kept none
    c.end.ensures.orders c.end.ensures.ended c.end.ensures.queued)

pub returns-in-Some-order_of-clause-next : goal.returns-in-Some-order_of-clause-next
returns-in-Some-order_of-clause-next g c rest can =
    let before = c.loop in
    let read = c.read_line in
    let next = c.in-Some-order_of in
    let some = rw c.in-Some-2.is at c.in_ok-line.ensures.read in
    before.invariant.comes (next.order ∷ rest)
    (IsToCome-line g.I.Read.remaining before.self read.new.self c.order_of.new.self (Some next.order) before.invariant.queued c.if-self.false read.ensures.kept
    c.in-Some-2.line some c.in_ok-line.ensures.number next.ensures.orders c.order_of.ensures.kept rest can)

pub loop-preserved : goal.loop-preserved
loop-preserved g c =
    let before = c.loop in
    let read = c.read_line in
    let next = c.in_default-order_of in
    let some = rw c.in-Some-2.is at c.in_ok-line.ensures.read in
    record {
      queued = c.order_of.ensures.queued next.is;
      bounds = c.order_of.ensures.kept.1 ∙ read.ensures.kept.0 ∙ before.invariant.bounds;
      comes = λ rest can.
          before.invariant.comes rest
          (IsToCome-line g.I.Read.remaining before.self read.new.self c.order_of.new.self None before.invariant.queued c.if-self.false read.ensures.kept
          c.in-Some-2.line some c.in_ok-line.ensures.number next.ensures.orders c.order_of.ensures.kept rest can);
    }
