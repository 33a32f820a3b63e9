use Rattle.std.proofs.Common.{◌<◌, ◌-◌, ap, sym, ◌∙◌, arith, subst}
use Rattle.mapping.specs.Finding.{children_at, finding}
use Rattle.verify.specs.Report.{IsFaultOf}
use Rattle.verify.proofs.LevelLemmas.{err_of}
use Rattle.std.specs.Prelude.{flat_map}
use Rattle.mapping.specs.TreeInMemory.{tree_of}
use Rattle.verify.specs.Walked.{HasComeTo}
use Rattle.verify.proofs.WalkLemmas.{at_root, one_down, fault_above, owes_nothing, fault_of_memory}
use Rattle.verify.proofs.walk.walk_to_leaves.Goals as goal

pub loop-level-init : goal.loop-level-init
loop-level-init g c = rw (c.requires.none, c.in_ok-places.ensures, c.root.ensures) (at_root c.args.settings.now (tree_of c.args.tree.now))

pub returns-in_err-pass_level-clause-err : goal.returns-in_err-pass_level-clause-err
returns-in_err-pass_level-clause-err g c =
    let s = c.args.settings.now in
    let t = tree_of c.args.tree.now in
    let height = c.args.tree.now.height in
    let level = c.loop-level._level in
    let within : level < height = omega arith in
    let w = subst (λ ats. HasComeTo s t (height - level) c.loop-level.least c.loop-level.met ats) (sym c.deref.ensures.value) c.loop-level.invariant in
    let f = fault_above s t height level c.loop-level.least c.loop-level.met c.deref.result.now c.in_err-pass_level.field-0.0 within w c.in_err-pass_level.ensures.err in
    err_of c.from_residual-in_err-pass_level.result _ _ c.from_residual-in_err-pass_level.ensures.1 (λ e h. subst (IsFaultOf (finding s t)) (sym h) f)

pub loop-level-preserved : goal.loop-level-preserved
loop-level-preserved g c =
    let s = c.args.settings.now in
    let t = tree_of c.args.tree.now in
    let height = c.args.tree.now.height in
    let level = c.loop-level._level in
    let within : level < height = omega arith in
    let w = subst (λ ats. HasComeTo s t (height - level) c.loop-level.least c.loop-level.met ats) (sym c.deref.ensures.value) c.loop-level.invariant in
    let m = c.in_ok-pass_level.ensures in
    let same = c.in_ok-places-2.ensures ∙ ap (flat_map (children_at t.pages)) (c.deref-in-loop-level.ensures.value ∙ sym c.deref.ensures.value) in
    rw same (one_down s t height level c.loop-level.least c.loop-level.met c.pass_level.new.met c.deref.result.now within w m.ok m.met m.count)

pub returns-in_err-places-clause-ok : goal.returns-in_err-places-clause-ok
returns-in_err-places-clause-ok g c = owes_nothing c.from_residual.result _ c.from_residual.ensures.0

pub returns-in_err-places-clause-err : goal.returns-in_err-places-clause-err
returns-in_err-places-clause-err g c =
    let found = finding c.args.settings.now (tree_of c.args.tree.now) in
    err_of c.from_residual.result _ _ c.from_residual.ensures.1 (λ e h. subst (IsFaultOf found) (sym h) (fault_of_memory found))

pub returns-in_err-pass_level-clause-ok : goal.returns-in_err-pass_level-clause-ok
returns-in_err-pass_level-clause-ok g c = owes_nothing c.from_residual-in_err-pass_level.result _ c.from_residual-in_err-pass_level.ensures.0

pub returns-in_err-places-2-clause-ok : goal.returns-in_err-places-2-clause-ok
returns-in_err-places-2-clause-ok g c = owes_nothing c.from_residual-in_err-places-2.result _ c.from_residual-in_err-places-2.ensures.0

pub returns-in_err-places-2-clause-err : goal.returns-in_err-places-2-clause-err
returns-in_err-places-2-clause-err g c =
    let found = finding c.args.settings.now (tree_of c.args.tree.now) in
    err_of c.from_residual-in_err-places-2.result _ _ c.from_residual-in_err-places-2.ensures.1 (λ e h. subst (IsFaultOf found) (sym h) (fault_of_memory found))

pub returns-clause-err : goal.returns-clause-err
returns-clause-err g c = tt
