use Rattle.std.proofs.Common.{sym, ◌∙◌, arith, vec_len}
use Rattle.mapping.specs.Table.{pids_in_use}
use Rattle.mapping.specs.Slots.{table_of}
use Rattle.mapping.proofs.InUse.{among-lookup}
use Rattle.mapping.proofs.FreshLemmas.{rising-in_use, none_drawn, one_passed, one_drawn, all_drawn}
use Rattle.mapping.proofs.room.least_free.Goals as goal
use Rattle.mapping.proofs.room.least_free.Goals.{then-not-is_used+in_ok-push, else-not-is_used}

pub loop-pid-init : goal.loop-pid-init
loop-pid-init g c =
    let slots = c.args.slots.now in
    rw (c.in_ok-pids.ensures.items, c.in_ok-pids.ensures.len) (none_drawn (pids_in_use (table_of slots)) (rising-in_use slots c.requires.rising) c.args.count c.args.from c.requires.in_use)

pub loop-pid-preserved : goal.loop-pid-preserved
loop-pid-preserved g c =
    let slots = c.args.slots.now in
    let used = pids_in_use (table_of slots) in
    let rising = rising-in_use slots c.requires.rising in
    let pids = c.loop-pid.pids in
    let test = sym (among-lookup c.loop-pid.pid (table_of slots).places) ∙ sym c.is_used.ensures in
    elim c.if-not-is_used.branch [
      | then-not-is_used+in_ok-push w ↦
          rw (w.pids-is, w.in_ok-push.ensures.items, w.in_ok-push.ensures.len)
          (one_drawn used rising pids.items (vec_len pids) c.args.count c.loop-pid.pid c.loop-pid.invariant (test ∙ w.if-not-is_used.true) (λ e. c.if-len-count.false (c.len.ensures ∙ e)))
      | else-not-is_used w ↦ rw w.pids-is (one_passed used rising pids.items (vec_len pids) c.args.count c.loop-pid.pid c.loop-pid.invariant (test ∙ w.if-not-is_used.false))
    ]

pub returns : goal.returns
returns g c =
    let pids = c.loop-pid.pids in
    all_drawn (pids_in_use (table_of c.args.slots.now)) pids.items (vec_len pids) c.args.count c.loop-pid.pid c.loop-pid.invariant (omega arith)
