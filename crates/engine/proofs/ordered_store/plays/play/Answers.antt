use Rattle.std.proofs.Common.{rules, [], ◌∷◌, inr, refl, sym, ap, ◌∙◌, subst, map, take, drop, arith, ◌+◌}
use Rattle.std.proofs.lemmas.List.{take_all}
use Rattle.engine.specs.ClaimPlay.{IsStoppedOf, calls_of, members_of}
use Rattle.engine.specs.Plays.{answer_of, step_of}
use Rattle.engine.proofs.ClaimPlayLemmas.{answered_more, first_step, no_memory_no_device, no_turn_of, stopped_on, stopped_same, turn_of_same, turn_stopped, turns_on}
use Rattle.engine.proofs.PlayTurn.{one_after, one_taken}
use Rattle.engine.proofs.ordered_store.plays.play.Goals as goal

-- ---- no memory for the answers

pub returns-in-Err-clause-refused : goal.returns-in-Err-clause-refused
returns-in-Err-clause-refused g c =
    let calls = calls_of g.S.OrderedStore.after_batch g.S.OrderedStore.after_flush g.S.OrderedStore.after_clean g.S.OrderedStore.after_upgrade in
    let old = members_of g.S.OrderedStore.contents g.S.OrderedStore.settings g.S.OrderedStore.has_failed g.S.OrderedStore.state g.S.OrderedStore.disk_of g.D.Disk.view c.args.store.now in
    let (x, rest, is) = first_step c.args.steps.now (search rules) in (
      x,
      rest,
      is,
      stopped_same g.S.OrderedStore.recovered calls old old [] [] (map answer_of c.new.result.items) (step_of x) _ (search rules)
          (turn_stopped g.S.OrderedStore.recovered calls old old (step_of x) _ (λ _. inr refl) no_memory_no_device (no_turn_of g.S.OrderedStore.recovered calls old (g.met.D.Disk.lawful _))),
    )

pub loop-next-init : goal.loop-next-init
loop-next-init g c =
    let calls = calls_of g.S.OrderedStore.after_batch g.S.OrderedStore.after_flush g.S.OrderedStore.after_clean g.S.OrderedStore.after_upgrade in
    let old = members_of g.S.OrderedStore.contents g.S.OrderedStore.settings g.S.OrderedStore.has_failed g.S.OrderedStore.state g.S.OrderedStore.disk_of g.D.Disk.view c.args.store.now in
    record {
      len = c.in-Ok.ensures.len;
      room = c.in-Ok.ensures.exact;
      turn = turn_of_same g.S.OrderedStore.recovered calls old old _ _ _ _ refl (ap (map answer_of) c.in-Ok.ensures.items)
          (no_turn_of g.S.OrderedStore.recovered calls old (g.met.D.Disk.lawful _));
    }

-- ---- a step failed

pub returns-in-Err-do_step-clause-place : goal.returns-in-Err-do_step-clause-place
returns-in-Err-do_step-clause-place g c =
    let below = c.loop-next-test.true in
    omega (arith, c.len.ensures ∙ c.loop-next.invariant.len, below)

pub returns-in-Err-do_step-clause-refused : goal.returns-in-Err-do_step-clause-refused
returns-in-Err-do_step-clause-refused g c =
    let calls = calls_of g.S.OrderedStore.after_batch g.S.OrderedStore.after_flush g.S.OrderedStore.after_clean g.S.OrderedStore.after_upgrade in
    let at = c.loop-next in
    let old = members_of g.S.OrderedStore.contents g.S.OrderedStore.settings g.S.OrderedStore.has_failed g.S.OrderedStore.state g.S.OrderedStore.disk_of g.D.Disk.view c.args.store.now in
    let mid = members_of g.S.OrderedStore.contents g.S.OrderedStore.settings g.S.OrderedStore.has_failed g.S.OrderedStore.state g.S.OrderedStore.disk_of g.D.Disk.view at.store in
    let new = members_of g.S.OrderedStore.contents g.S.OrderedStore.settings g.S.OrderedStore.has_failed g.S.OrderedStore.state g.S.OrderedStore.disk_of g.D.Disk.view c.do_step.new.store in
    let steps = c.args.steps.now in
    let x = c.next-item.result in
    let fault = c.in-Err-do_step.fault in
    let n_is = c.len.ensures ∙ at.invariant.len in
    let stopped = stopped_on g.S.OrderedStore.recovered calls old mid new (map step_of (take at.next-index steps)) (map answer_of at.answers.items) at.invariant.turn
    (step_of x) fault c.in-Err-do_step.ensures.refused in (
      x,
      drop (at.next-index + 1) steps,
      ap (λ n. drop n steps) n_is ∙ one_after steps at.next-index x c.loop-next-test.true c.next-item.is,
      subst (λ n. IsStoppedOf g.S.OrderedStore.recovered calls old (map step_of (take n steps)) (map answer_of at.answers.items) (step_of x) fault new) (sym n_is) stopped,
    )

-- ---- a step succeeded

pub loop-next-preserved : goal.loop-next-preserved
loop-next-preserved g c =
    let calls = calls_of g.S.OrderedStore.after_batch g.S.OrderedStore.after_flush g.S.OrderedStore.after_clean g.S.OrderedStore.after_upgrade in
    let at = c.loop-next in
    let old = members_of g.S.OrderedStore.contents g.S.OrderedStore.settings g.S.OrderedStore.has_failed g.S.OrderedStore.state g.S.OrderedStore.disk_of g.D.Disk.view c.args.store.now in
    let mid = members_of g.S.OrderedStore.contents g.S.OrderedStore.settings g.S.OrderedStore.has_failed g.S.OrderedStore.state g.S.OrderedStore.disk_of g.D.Disk.view at.store in
    let new = members_of g.S.OrderedStore.contents g.S.OrderedStore.settings g.S.OrderedStore.has_failed g.S.OrderedStore.state g.S.OrderedStore.disk_of g.D.Disk.view c.do_step.new.store in
    let steps = c.args.steps.now in
    let x = c.next-item.result in
    let a = c.in-Ok-do_step.answer in
    let next = turns_on g.S.OrderedStore.recovered calls old mid new (map step_of (take at.next-index steps)) (step_of x ∷ []) (map answer_of at.answers.items) (answer_of a ∷ []) at.invariant.turn
    c.in-Ok-do_step.ensures.done in
    record {
      len = c.push_reserved.ensures.len ∙ ap (λ n. n + 1) at.invariant.len;
      room = c.push_reserved.ensures.capacity ∙ at.invariant.room;
      turn = turn_of_same g.S.OrderedStore.recovered calls old new _ _ _ _ (one_taken steps at.next-index x c.loop-next-test.true c.next-item.is)
          (answered_more at.answers.items c.push_reserved.new.self.items a c.push_reserved.ensures.items) next;
    }

-- ---- all steps succeeded

pub returns-clause-done : goal.returns-clause-done
returns-clause-done g c =
    let calls = calls_of g.S.OrderedStore.after_batch g.S.OrderedStore.after_flush g.S.OrderedStore.after_clean g.S.OrderedStore.after_upgrade in
    let at = c.loop-next in
    let all = take_all at.next-index c.args.steps.now (omega (arith, c.loop-next-test.false)) in
    turn_of_same g.S.OrderedStore.recovered calls (members_of g.S.OrderedStore.contents g.S.OrderedStore.settings g.S.OrderedStore.has_failed g.S.OrderedStore.state g.S.OrderedStore.disk_of g.D.Disk.view c.args.store.now) (members_of g.S.OrderedStore.contents g.S.OrderedStore.settings g.S.OrderedStore.has_failed g.S.OrderedStore.state g.S.OrderedStore.disk_of g.D.Disk.view at.store) _ _ _ _ (ap (map step_of) (sym all)) refl at.invariant.turn
