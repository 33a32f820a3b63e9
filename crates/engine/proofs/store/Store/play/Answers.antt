use Rattle.std.proofs.Common.{rules, [], inl, inr, refl, sym, ap, ◌∙◌, subst, map, take, drop, arith, ◌+◌}
use Rattle.std.proofs.lemmas.List.{take_all}
use Rattle.recovery.proofs.ReadBytes.{kept_self}
use Rattle.engine.specs.Plays.{IsPlayFault, step_of}
use Rattle.engine.specs.Refusal.{is_crew}
use Rattle.engine.specs.State.{IsSound}
use Rattle.engine.specs.Steps.{AllNumbersFit, batching, plays}
use Rattle.engine.proofs.AsBefore.{step_as_before}
use Rattle.engine.proofs.PlayTurn.{no_turn, turn_as, goes_on, refused_after, one_taken, one_after, none_taken, none_left}
use Rattle.engine.proofs.PlayStopped.{no_memory_no_device, stopped_at}
use Rattle.engine.proofs.StepDone.{fine_where, able_where}
use Rattle.engine.proofs.store.Store.play.Goals as goal

-- ---- no memory for the answers

pub returns-in-Err-clause-headline : goal.returns-in-Err-clause-headline
returns-in-Err-clause-headline g c fine honest on_disk stands =
    let old = c.args.self.now in
    let sound : IsSound g.D.Disk.view old = rw (← c.self.view_is) c.self.invariant.sound in
    c.steps_answer_as_a_map_and_are_read_back.ensures old.settings old.store on_disk (g.D.Disk.view old.disk).seen [] (record { is = sound.is; step = sound.step fine honest }) stands tt

pub returns-in-Err-clause-refused : goal.returns-in-Err-clause-refused
returns-in-Err-clause-refused g c fine able = ((g.D.Disk.view c.args.self.now.disk).seen, λ _. refl, inl (refl, refl))

pub returns-in-Err-clause-still : goal.returns-in-Err-clause-still
returns-in-Err-clause-still g c _ = refl

pub returns-in-Err-clause-still_failed : goal.returns-in-Err-clause-still_failed
returns-in-Err-clause-still_failed g c _ = (refl, inr refl)

pub returns-in-Err-clause-bad_crew : goal.returns-in-Err-clause-bad_crew
returns-in-Err-clause-bad_crew g c _ _ = (tt, (refl, inr refl))

pub returns-in-Err-clause-sound : goal.returns-in-Err-clause-sound
returns-in-Err-clause-sound g c =
    let sound : IsSound g.D.Disk.view c.args.self.now = rw (← c.self.view_is) c.self.invariant.sound in
    (sound, sound)

pub returns-in-Err-clause-stopped : goal.returns-in-Err-clause-stopped
returns-in-Err-clause-stopped g c =
    let old = c.args.self.now in
    let sound : IsSound g.D.Disk.view old = rw (← c.self.view_is) c.self.invariant.sound in
    let turn = turn_as g.D.Disk.view g.D.Disk.failed old old [] (map step_of (take 0 c.args.steps.now)) [] c.new.result.items refl (search rules) (no_turn g.D.Disk.view g.D.Disk.failed g.met.D.Disk.lawful old sound) in
    record {
      sound = sound;
      rest = (refl, kept_self (g.D.Disk.view old.disk));
      played = turn.played;
      exact = turn.exact;
      turn = λ _. turn;
      words = turn.words;
      device = λ device. absurd (no_memory_no_device device);
      words_reached = turn.words;
      crash = turn.crash;
      following = λ _ _ device. absurd (no_memory_no_device device);
    }

pub loop-step-init : goal.loop-step-init
loop-step-init g c =
    let old = c.args.self.now in
    let sound : IsSound g.D.Disk.view old = rw (← c.self.view_is) c.self.invariant.sound in
    record {
      len = c.in-Ok.ensures.len;
      room = c.in-Ok.ensures.exact;
      still = λ _. refl;
      able = λ _ _. refl;
      turn = turn_as g.D.Disk.view g.D.Disk.failed old old _ _ _ _ refl c.in-Ok.ensures.items (no_turn g.D.Disk.view g.D.Disk.failed g.met.D.Disk.lawful old sound);
    }

-- ---- a step was refused

pub returns-in-Err-step-clause-place : goal.returns-in-Err-step-clause-place
returns-in-Err-step-clause-place g c =
    let below = c.loop-step-test.true in
    omega (arith, c.len.ensures ∙ c.loop-step.invariant.len, below)

pub returns-in-Err-step-clause-stopped : goal.returns-in-Err-step-clause-stopped
returns-in-Err-step-clause-stopped g c =
    let view = g.D.Disk.view in
    let failed = g.D.Disk.failed in
    let at = c.loop-step in
    let x = step_of c.step-item.result in
    let step = step_as_before view failed (is_crew c.args.crew) x at.self c.step.new.self _ c.in-Err-step.ensures in
    stopped_at view failed g.met.D.Disk.lawful c.args.self.now c.args.steps.now at.step-index c.step-item.result c.loop-step-test.true c.step-item.is
    at.answers.items at.self at.invariant.turn c.step.new.self c.in-Err-step.fault (is_crew c.args.crew) step c.len.result (c.len.ensures ∙ at.invariant.len)

pub returns-in-Err-step-clause-still : goal.returns-in-Err-step-clause-still
returns-in-Err-step-clause-still g c bad =
    let at = c.loop-step in
    (c.step.ensures.failed (at.invariant.turn.has_failed ∙ bad)).1 ∙ at.invariant.still bad

pub returns-in-Err-step-clause-headline : goal.returns-in-Err-step-clause-headline
returns-in-Err-step-clause-headline g c fine honest on_disk stands =
    let old = c.args.self.now in
    let file = (g.D.Disk.view old.disk).seen in
    let at = c.loop-step in
    let sound : IsSound g.D.Disk.view old = rw (← c.self.view_is) c.self.invariant.sound in
    let n_is = c.len.ensures ∙ at.invariant.len in
    let words = subst (λ n. AllNumbersFit (batching old.settings) old.settings old.store file (map step_of (take n c.args.steps.now))) (sym n_is) (at.invariant.turn.words honest) in
    c.steps_answer_as_a_map_and_are_read_back.ensures old.settings old.store on_disk file _ (record { is = sound.is; step = sound.step fine honest }) stands words

pub returns-in-Err-step-clause-still_failed : goal.returns-in-Err-step-clause-still_failed
returns-in-Err-step-clause-still_failed g c bad =
    let at = c.loop-step in
    let first = none_taken c.args.steps.now at.step-index c.loop-step-test.true (at.invariant.turn.none bad) in
    let failed = (c.step.ensures.failed (at.invariant.turn.has_failed ∙ bad)).0 in
    (c.len.ensures ∙ at.invariant.len ∙ first, inl (cc))

pub returns-in-Err-step-clause-bad_crew : goal.returns-in-Err-step-clause-bad_crew
returns-in-Err-step-clause-bad_crew g c fine bad =
    let at = c.loop-step in
    let refused = (c.step.ensures.bad_crew (at.invariant.turn.has_failed ∙ fine) bad).0 in
    (tt, (c.len.ensures ∙ at.invariant.len ∙ at.invariant.able fine bad, inl (cc)))

pub returns-in-Err-step-clause-refused : goal.returns-in-Err-step-clause-refused
returns-in-Err-step-clause-refused g c fine able =
    let old = c.args.self.now in
    let view = g.D.Disk.view in
    let s = old.settings in
    let now = c.step.new.self in
    let steps = c.args.steps.now in
    let at = c.loop-step in
    let n_is = c.len.ensures ∙ at.invariant.len in
    let step = step_as_before view g.D.Disk.failed (is_crew c.args.crew) (step_of c.step-item.result) at.self now _ c.in-Err-step.ensures in
    let (file, shown, why) = refused_after view g.D.Disk.failed g.met.D.Disk.lawful old _ _ at.self at.invariant.turn now c.step-item.result _ _ step.unchanged
    (step.refused (at.invariant.turn.has_failed ∙ fine) able) in (
      file,
      λ honest. shown honest ∙ ap (λ n. (plays (batching s) s old.store (view old.disk).seen (map step_of (take n steps))).bytes) (sym n_is),
      subst (λ n. IsPlayFault s now.store file (g.D.Disk.failed old.disk) (g.D.Disk.failed now.disk) steps n c.in-Err-step.fault) (sym n_is)
          (inr (c.step-item.result, drop (at.step-index + 1) steps, one_after steps at.step-index c.step-item.result c.loop-step-test.true c.step-item.is, why)),
    )

pub returns-in-Err-step-clause-sound : goal.returns-in-Err-step-clause-sound
returns-in-Err-step-clause-sound g c = (rw (← c.self.view_is) c.self.invariant.sound, c.step.ensures.sound.1)

-- ---- a step was done

pub loop-step-preserved : goal.loop-step-preserved
loop-step-preserved g c =
    let old = c.args.self.now in
    let view = g.D.Disk.view in
    let steps = c.args.steps.now in
    let at = c.loop-step in
    let ok = step_as_before view g.D.Disk.failed (is_crew c.args.crew) (step_of c.step-item.result) at.self c.step.new.self _ c.in-Ok-step.ensures in
    let fine = fine_where at.self.has_failed c.step.result c.in-Ok-step.answer c.in-Ok-step.is (λ bad. (c.step.ensures.failed bad).0) in
    let next = goes_on view g.D.Disk.failed g.met.D.Disk.lawful old _ _ at.self at.invariant.turn c.step.new.self (step_of c.step-item.result) c.in-Ok-step.answer
    ok.ok c.step.ensures.rest ok.counted fine ok.bytes ok.is_synced c.step.ensures.crash c.step.ensures.sound.1 in
    record {
      len = c.push_reserved.ensures.len ∙ ap (λ n. n + 1) at.invariant.len;
      room = c.push_reserved.ensures.capacity ∙ at.invariant.room;
      still = λ bad. (let same = at.invariant.turn.has_failed in absurd (cc));
      able = λ _ bad. (let able = able_where (is_crew c.args.crew) c.step.result c.in-Ok-step.answer c.in-Ok-step.is (λ bad. (c.step.ensures.bad_crew fine bad).0) in absurd (cc));
      turn = turn_as view g.D.Disk.failed old c.step.new.self _ _ _ _ (one_taken steps at.step-index c.step-item.result c.loop-step-test.true c.step-item.is) c.push_reserved.ensures.items next;
    }

-- ---- all are done

pub returns-clause-turn : goal.returns-clause-turn
returns-clause-turn g c =
    let at = c.loop-step in
    let all = take_all at.step-index c.args.steps.now (omega (arith, c.loop-step-test.false)) in
    turn_as g.D.Disk.view g.D.Disk.failed c.args.self.now at.self _ _ _ _ (ap (map step_of) (sym all)) refl at.invariant.turn

pub returns-clause-still : goal.returns-clause-still
returns-clause-still g c bad = c.loop-step.invariant.still bad

pub returns-clause-bad_crew : goal.returns-clause-bad_crew
returns-clause-bad_crew g c fine bad =
    let at = c.loop-step in
    (none_left c.args.steps.now at.step-index (at.invariant.able fine bad) (omega (arith, c.loop-step-test.false)), tt)

pub returns-clause-headline : goal.returns-clause-headline
returns-clause-headline g c fine honest on_disk stands =
    let old = c.args.self.now in
    let file = (g.D.Disk.view old.disk).seen in
    let at = c.loop-step in
    let steps = c.args.steps.now in
    let sound : IsSound g.D.Disk.view old = rw (← c.self.view_is) c.self.invariant.sound in
    let all = take_all at.step-index steps (omega (arith, c.loop-step-test.false)) in
    let words = subst (λ xs. AllNumbersFit (batching old.settings) old.settings old.store file (map step_of xs)) all (at.invariant.turn.words honest) in
    c.steps_answer_as_a_map_and_are_read_back.ensures old.settings old.store on_disk file _ (record { is = sound.is; step = sound.step fine honest }) stands words

pub returns-clause-sound : goal.returns-clause-sound
returns-clause-sound g c = (rw (← c.self.view_is) c.self.invariant.sound, c.loop-step.invariant.turn.sound)
