use Rattle.std.proofs.Common.{sym, ap, ◌∙◌, get_or, take, ◌∷◌, []}
use Rattle.std.proofs.lemmas.List.{take_more}
use Rattle.mapping.specs.Flushed.{marked}
use Rattle.mapping.proofs.DueSlots.{marked-none, marked-more, rising-marked}
use Rattle.mapping.proofs.flush.mark_all.Goals as goal

pub loop-pid-init : goal.loop-pid-init
loop-pid-init g c = sym (marked-none c.args.slots.now.items)

pub mark-requires : goal.mark-requires
mark-requires g c = rw c.loop-pid.invariant (rising-marked c.args.slots.now.items (take c.loop-pid.pid-index c.args.pids.now) c.requires)

pub loop-pid-preserved : goal.loop-pid-preserved
loop-pid-preserved g c =
    let slots = c.args.slots.now.items in
    let pids = c.args.pids.now in
    let at = c.loop-pid.pid-index in
    c.mark.ensures
    ∙ ap (λ ss. marked ss (get_or pids at 0 ∷ [])) c.loop-pid.invariant
    ∙ marked-more slots (take at pids) (get_or pids at 0)
    ∙ ap (marked slots) (sym (take_more pids at 0 c.loop-pid-test.true))
