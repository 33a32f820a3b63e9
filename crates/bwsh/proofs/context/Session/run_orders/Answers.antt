use Rattle.std.proofs.Common.{◌∙◌, refl}
use Rattle.std.proofs.lemmas.Result.{err_from_is_err_and}
use Rattle.mapping.specs.Levels.{contents}
use Rattle.bwsh.specs.Source.{IsToCome}
use Rattle.bwsh.proofs.LoopLemmas.{Continues-first, Continues-done, Continues-cut, Continues-stops, Continues-next, some_to_come}
use Rattle.bwsh.proofs.context.Session.run_orders.Goals as goal

pub loop-init : goal.loop-init
loop-init g c =
    let store = c.args.store.now in
    record {
      settings = refl;
      honest = refl;
      fine = c.requires.fine;
      continues = Continues-first c.args.self.now.calls.mode (g.D.Disk.view store.disk).is_honest store.settings store.store (g.D.Disk.view store.disk).seen (IsToCome g.I.Read.remaining c.args.source.now)
          (g.O.Write.contents c.args.out.now);
    }

-- the input fails
pub returns-in_err-order : goal.returns-in_err-order
returns-in_err-order g c =
    let store = c.args.store.now in
    let disk = g.D.Disk.view store.disk in
    let known = g.I.Read.remaining in
    let at = c.loop in
    let p = err_from_is_err_and c.from_residual.result c.from_residual.ensures.1 in
    rw (p.1, p.2, c.in_err-order.ensures.device) (Continues-cut c.args.self.now.calls.mode disk.is_honest store.settings store.store at.store.store disk.seen (g.D.Disk.view at.store.disk).seen
    (IsToCome known c.args.source.now) (IsToCome known at.source) (g.O.Write.contents c.args.out.now) (g.O.Write.contents at.out) at.invariant.continues (some_to_come known at.source) (contents at.store.store.tree))

-- no order is left
pub returns-in_default : goal.returns-in_default
returns-in_default g c =
    let store = c.args.store.now in
    let disk = g.D.Disk.view store.disk in
    let known = g.I.Read.remaining in
    let at = c.loop in
    Continues-done c.args.self.now.calls.mode disk.is_honest store.settings store.store at.store.store disk.seen (g.D.Disk.view at.store.disk).seen
    (IsToCome known c.args.source.now) (IsToCome known at.source) (g.O.Write.contents c.args.out.now) (g.O.Write.contents at.out) at.invariant.continues (rw c.in_default.is at c.in_ok-order.ensures.next)

pub returns-in_err-done : goal.returns-in_err-done
returns-in_err-done g c =
    let store = c.args.store.now in
    let disk = g.D.Disk.view store.disk in
    let known = g.I.Read.remaining in
    let at = c.loop in
    let now = g.D.Disk.view at.store.disk in
    let run = c.answer-done.new in
    let p = err_from_is_err_and c.from_residual-in_err-done.result c.from_residual-in_err-done.ensures.1 in
    rw (p.1, p.2) (Continues-stops c.args.self.now.calls.mode disk.is_honest store.settings store.store at.store.store disk.seen now.seen (IsToCome known c.args.source.now) (IsToCome known at.source)
    (g.O.Write.contents c.args.out.now) (g.O.Write.contents at.out) at.invariant.continues c.in-Some.order (IsToCome known c.next.new.self) (rw c.in-Some.is at c.in_ok-order.ensures.next)
    now.is_honest at.invariant.honest at.store.settings at.invariant.settings (g.O.Write.contents run.out) _ run.store.store (g.D.Disk.view run.store.disk).seen c.answer-done.ensures.runs _ c.in_err-done.was
    (some_to_come known c.next.new.self) (contents run.store.store.tree))

pub loop-preserved : goal.loop-preserved
loop-preserved g c =
    let store = c.args.store.now in
    let disk = g.D.Disk.view store.disk in
    let known = g.I.Read.remaining in
    let at = c.loop in
    let now = g.D.Disk.view at.store.disk in
    let run = c.answer-done.new in
    let rest = c.answer-done.ensures.rest in
    let was = c.in_ok-done.was in
    record {
      settings = rest.0 ∙ at.invariant.settings;
      honest = rest.1 ∙ at.invariant.honest;
      fine = rest.2 (λ e. absurd (cc)) ∙ at.invariant.fine;
      continues = Continues-next c.args.self.now.calls.mode disk.is_honest store.settings store.store at.store.store disk.seen now.seen (IsToCome known c.args.source.now) (IsToCome known at.source)
          (g.O.Write.contents c.args.out.now) (g.O.Write.contents at.out) at.invariant.continues c.in-Some.order (IsToCome known c.next.new.self) (rw c.in-Some.is at c.in_ok-order.ensures.next)
          now.is_honest at.invariant.honest at.store.settings at.invariant.settings (g.O.Write.contents run.out) _ run.store.store (g.D.Disk.view run.store.disk).seen c.answer-done.ensures.runs _ was;
    }

-- the orders are too many
pub returns : goal.returns
returns g c =
    let store = c.args.store.now in
    let disk = g.D.Disk.view store.disk in
    let known = g.I.Read.remaining in
    let at = c.loop in
    Continues-cut c.args.self.now.calls.mode disk.is_honest store.settings store.store at.store.store disk.seen (g.D.Disk.view at.store.disk).seen
    (IsToCome known c.args.source.now) (IsToCome known at.source) (g.O.Write.contents c.args.out.now) (g.O.Write.contents at.out) at.invariant.continues (some_to_come known at.source) (contents at.store.store.tree)
