use Rattle.std.proofs.Common.{◌≡◌, true, false, length, rules, refl, ap, sym, subst, ◌∙◌, ◌+◌, ◌-◌, ◌<◌, ◌≤◌, ◌^◌}
use Rattle.std.proofs.lemmas.Result.{err_from_is_err_and}
use Rattle.keys.specs.Order.{IsRising}
use Rattle.mapping.specs.Levels.{contents}
use Rattle.mapping.specs.Tree.{Tree}
use Rattle.mapping.specs.TreeInMemory.{TreeInMemory, tree_of}
use Rattle.engine.specs.Refusal.{is_crew, refusal}
use Rattle.engine.specs.State.{IsSound, state_of}
use Rattle.engine.proofs.Admitted.{admitted, passed_by, refused_by_own}
use Rattle.engine.proofs.BatchDone.{batched-sound, planned-is, unrefused}
use Rattle.engine.proofs.PairCounts.{counted}
use Rattle.engine.proofs.RefusedCalls.{not_both}
use Rattle.engine.proofs.SoundStores.{IsSoundStore, uncounted, with_count}
use Rattle.engine.proofs.store.Store.batch.Goals as goal

pub execute-requires-clause-short : goal.execute-requires-clause-short
execute-requires-clause-short g c κs within =
    admitted c.self.inside.settings c.args.commands.now (passed_by (refusal c.self.inside.settings c.args.commands.now) c.admit.result tt c.in_ok-admit.field-0 c.admit.ensures c.in_ok-admit.was)

-- ---- the store has failed

pub returns-then-self : goal.returns-then-self
returns-then-self g c =
    let old = c.args.self.now in
    let bad : old.has_failed ≡ true = subst (λ x. x.has_failed ≡ true) c.self.view_is c.if-self.true in
    let sound : IsSound g.D.Disk.view old = rw (← c.self.view_is) c.self.invariant.sound in
    record {
      replies = tt;
      store = tt;
      contents = tt;
      rest = (refl, refl, refl);
      failed = λ _. refl;
      bad_crew = λ fine. absurd (not_both old.has_failed bad fine);
      refused = λ fine. absurd (not_both old.has_failed bad fine);
      unchanged = refl;
      allowed = tt;
      sound = (sound, sound);
    }

-- ---- the crew is out of range

pub returns-in_err-admit_crew : goal.returns-in_err-admit_crew
returns-in_err-admit_crew g c =
    let old = c.args.self.now in
    let fine : old.has_failed ≡ false = subst (λ x. x.has_failed ≡ false) c.self.view_is c.if-self.false in
    let sound : IsSound g.D.Disk.view old = rw (← c.self.view_is) c.self.invariant.sound in
    let why = c.in_err-admit_crew.ensures.err in
    let p = err_from_is_err_and c.from_residual.result c.from_residual.ensures.1 in
    rw (p.1, p.2, why.0) (record {
      replies = tt;
      store = tt;
      contents = tt;
      rest = (refl, refl, refl);
      failed = λ bad. absurd (not_both old.has_failed bad fine);
      bad_crew = λ _ _. refl;
      refused = λ _ able. absurd (not_both (is_crew c.args.crew) able why.1);
      unchanged = refl;
      allowed = tt;
      sound = (sound, sound);
    })

-- ---- the commands are refused

pub returns-in_err-admit : goal.returns-in_err-admit
returns-in_err-admit g c =
    let p = err_from_is_err_and c.from_residual-in_err-admit.result c.from_residual-in_err-admit.ensures.1 in
    rw (← c.self.view_is) (rw (p.1, p.2) (record {
      replies = tt;
      store = tt;
      contents = tt;
      rest = (refl, refl, refl);
      failed = λ bad. absurd (not_both c.self.inside.has_failed bad c.if-self.false);
      bad_crew = λ _ bad. absurd (not_both (is_crew c.args.crew) c.in_ok-admit_crew.ensures.ok bad);
      refused = λ _ _. refused_by_own _ (refusal c.self.inside.settings c.args.commands.now) c.admit.result tt _ _ c.admit.ensures c.in_err-admit.was;
      unchanged = refl;
      allowed = tt;
      sound = (c.self.invariant.sound, c.self.invariant.sound);
    }))

-- ---- they are refused later

pub invariant_of-self : goal.invariant_of-self
invariant_of-self g c = rw c.in_err-replies.ensures.err c.self.invariant

pub returns-in_err-replies : goal.returns-in_err-replies
returns-in_err-replies g c =
    let s = c.self.inside.settings in
    let cs = c.args.commands.now in
    let own = passed_by (refusal s cs) c.admit.result tt c.in_ok-admit.field-0 c.admit.ensures c.in_ok-admit.was in
    let p = err_from_is_err_and c.from_residual-in_err-replies.result c.from_residual-in_err-replies.ensures.1 in
    rw (← c.self.view_is) (rw (p.1, p.2) (record {
      replies = tt;
      store = tt;
      contents = tt;
      rest = (refl, refl, refl);
      failed = λ bad. absurd (not_both c.self.inside.has_failed bad c.if-self.false);
      bad_crew = λ _ bad. absurd (not_both (is_crew c.args.crew) c.in_ok-admit_crew.ensures.ok bad);
      refused = λ _ _. rw own c.in_err-replies.ensures.fault;
      unchanged = ap (λ (t : TreeInMemory). state_of s t c.self.inside.log c.self.inside.version c.self.inside.disk c.self.inside.has_failed) c.in_err-replies.ensures.err;
      allowed = tt;
      sound = (c.self.invariant.sound, (invariant_of-self g c).sound);
    }))

-- ---- executed

pub invariant_of-self-2 : goal.invariant_of-self-2
invariant_of-self-2 g c =
    let s = c.self.inside.settings in
    let t = c.self.inside.tree in
    let cs = c.args.commands.now in
    let own = passed_by (refusal s cs) c.admit.result tt c.in_ok-admit.field-0 c.admit.ensures c.in_ok-admit.was in
    let planned = c.in_ok-replies.ensures.tree in
    let none = unrefused s t c.execute.new.tree cs own c.execute.ensures.sound.sound.height planned in
    let words : c.execute.new.tree.root < 2 ^ 64 = (search rules) in
    let m = contents (tree_of t) in
    let after = contents (tree_of c.execute.new.tree) in
    let rising : IsRising m = subst (λ x. IsRising (contents x.store.tree)) (sym c.self.view_is) c.pairs_fit.ensures.rising in
    let fit = subst (λ x. length (contents x.store.tree) + length cs ≤ 2 ^ 128 - 1) (sym c.self.view_is) c.pairs_fit.ensures.fit in
    with_count _ (subst (λ b. IsSoundStore g.D.Disk.view s c.execute.new.tree c.self.inside.log c.self.inside.version c.self.inside.disk b) (sym c.if-self.false)
    (batched-sound g.D.Disk.view s t c.execute.new.tree c.self.inside.log c.self.inside.version c.self.inside.disk cs
    (subst (λ b. IsSoundStore g.D.Disk.view s t c.self.inside.log c.self.inside.version c.self.inside.disk b) c.if-self.false (uncounted c.self.invariant))
    c.execute.ensures.sound.home planned none words c.a_batch_stays_in_step.ensures.kept c.a_batch_stays_in_step.ensures.step))
    (counted m after cs c.deref.result.now c.self.inside.pairs c.pairs_after_all-self-inside.result rising fit c.self.invariant.counted (c.deref.ensures.value ∙ c.in_ok-replies.ensures.replies) c.in_ok-replies.ensures.contents
    c.pairs_after_all-self-inside.ensures)

pub returns : goal.returns
returns g c = rw (← c.self.view_is) (
    let s = c.self.inside.settings in
    let t = c.self.inside.tree in
    let cs = c.args.commands.now in
    let own = passed_by (refusal s cs) c.admit.result tt c.in_ok-admit.field-0 c.admit.ensures c.in_ok-admit.was in
    let planned = c.in_ok-replies.ensures.tree in
    let words : c.execute.new.tree.root < 2 ^ 64 = (search rules) in
    record {
      replies = c.in_ok-replies.ensures.replies;
      store = planned-is s t c.execute.new.tree c.self.inside.log c.self.inside.version cs planned;
      contents = c.in_ok-replies.ensures.contents;
      rest = (refl, refl, refl);
      failed = λ bad. absurd (not_both c.self.inside.has_failed bad c.if-self.false);
      bad_crew = λ _ bad. absurd (not_both (is_crew c.args.crew) c.in_ok-admit_crew.ensures.ok bad);
      refused = λ _ _. rw own tt;
      unchanged = tt;
      allowed = (unrefused s t c.execute.new.tree cs own c.execute.ensures.sound.sound.height planned, subst (λ (x : Tree). x.root < 2 ^ 64) planned words);
      sound = (c.self.invariant.sound, (invariant_of-self-2 g c).sound);
    })
