use Rattle.std.proofs.Common.{◌≡◌, true, false, length, rules, refl, sym, ap, subst, ◌∙◌, ◌<◌, ◌^◌}
use Rattle.std.proofs.lemmas.Result.{err_from_is_err_and}
use Rattle.mapping.specs.Levels.{contents}
use Rattle.mapping.specs.Tree.{Tree}
use Rattle.engine.specs.Refusal.{is_crew}
use Rattle.engine.specs.State.{store_in}
use Rattle.engine.proofs.CompactedStores.{compacted_sound, is_compacted}
use Rattle.engine.proofs.RefusedCalls.{admitted_call, bad_crew_call, failed_call, not_both}
use Rattle.engine.proofs.SoundStores.{uncounted, with_count}
use Rattle.engine.proofs.store.Store.compact.Goals as goal

pub returns-then-self : goal.returns-then-self
returns-then-self g c =
    let old = c.args.self.now in
    let bad : old.has_failed ≡ true = subst (λ x. x.has_failed ≡ true) c.self.view_is c.if-self.true in
    record {
      compacted = tt;
      pages = tt;
      rest = (refl, refl, refl);
      unchanged = refl;
      admitted = failed_call (is_crew c.args.crew) old bad;
      refused = λ fine. absurd (not_both old.has_failed bad fine);
    }

pub returns-in_err-admit_crew : goal.returns-in_err-admit_crew
returns-in_err-admit_crew g c =
    let old = c.args.self.now in
    let fine : old.has_failed ≡ false = subst (λ x. x.has_failed ≡ false) c.self.view_is c.if-self.false in
    let why = c.in_err-admit_crew.ensures.err in
    let p = err_from_is_err_and c.from_residual.result c.from_residual.ensures.1 in
    rw (p.1, p.2, why.0) (record {
      compacted = tt;
      pages = tt;
      rest = (refl, refl, refl);
      unchanged = refl;
      admitted = bad_crew_call (is_crew c.args.crew) old fine;
      refused = λ _ able. absurd (not_both (is_crew c.args.crew) able why.1);
    })

pub returns-in_err-new : goal.returns-in_err-new
returns-in_err-new g c =
    let p = err_from_is_err_and c.from_residual-in_err-new.result c.from_residual-in_err-new.ensures.1 in
    rw (← c.self.view_is) (rw (p.1, p.2) (record {
      compacted = tt;
      pages = tt;
      rest = (refl, refl, refl);
      unchanged = refl;
      admitted = admitted_call (is_crew c.args.crew) _ _ _ c.if-self.false c.in_ok-admit_crew.ensures.ok;
      refused = λ _ _. c.in_err-new.ensures.fault;
    }))

pub invariant_of-self : goal.invariant_of-self
invariant_of-self g c =
    let words : c.in_ok-new.new.root < 2 ^ 64 = search rules in
    let was = store_in c.self.inside.tree c.self.inside.log c.self.inside.version in
    let holds = ap (λ (t : Tree). contents t) c.in_ok-new.ensures.tree ∙ c.a_compacted_tree_keeps_the_store_in_step.ensures.holds c.self.inside.settings was c.self.invariant.sound.is in
    with_count _ (compacted_sound g.D.Disk.view c.self.inside.settings c.self.inside.tree c.in_ok-new.new c.self.inside.log c.self.inside.version c.self.inside.disk c.self.inside.has_failed
    c.in_ok-new.ensures.tree words (uncounted c.self.invariant) c.in_ok-new.ensures.sound
    c.a_compacted_tree_keeps_the_store_in_step.ensures.kept c.a_compacted_tree_keeps_the_store_in_step.ensures.step)
    (c.self.invariant.counted ∙ ap length (sym holds))

pub returns-clause-compacted : goal.returns-clause-compacted
returns-clause-compacted g c =
    let words : c.in_ok-new.new.root < 2 ^ 64 = search rules in
    let was = store_in c.self.inside.tree c.self.inside.log c.self.inside.version in
    rw (← c.self.view_is) (is_compacted g.D.Disk.view c.self.inside.settings c.self.inside.tree c.in_ok-new.new c.self.inside.log c.self.inside.version c.self.inside.disk c.self.inside.has_failed
    c.in_ok-new.ensures.tree words (c.a_compacted_tree_keeps_the_store_in_step.ensures.holds c.self.inside.settings was c.self.invariant.sound.is))

pub returns-clause-admitted : goal.returns-clause-admitted
returns-clause-admitted g c =
    let old = c.args.self.now in
    let fine : old.has_failed ≡ false = subst (λ x. x.has_failed ≡ false) c.self.view_is c.if-self.false in
    admitted_call (is_crew c.args.crew) old _ _ fine c.in_ok-admit_crew.ensures.ok
