use Rattle.std.proofs.Common.{List, ℕ, rules, arith, inr, sym, ap, subst, ◌∙◌}
use Rattle.std.proofs.lemmas.Result.{err_from_is_err_and}
use Rattle.flush_log.specs.CommitPlan.{next_slot}
use Rattle.flush_log.specs.Images.{AreOfText, FitSegments, frames_in}
use Rattle.flush_log.specs.Layout.{tail_after}
use Rattle.flush_log.specs.Slot.{Slot, format_of}
use Rattle.flush_log.proofs.PlannedLemmas.{planned-by}
use Rattle.flush_log.proofs.ReachLemmas.{text-fits}
use Rattle.flush_log.proofs.commit_plan.Commit.plan.Goals as goal

pub tail_of_commit-requires-clause-fits : goal.tail_of_commit-requires-clause-fits
tail_of_commit-requires-clause-fits c =
    let s = c.args.settings.now in
    let (text, are) = c.requires.text in
    subst (λ (images : List (List (List ℕ))). FitSegments s (frames_in images)) (sym c.deref.ensures.value) (text-fits (format_of s c.args.slot.now) c.requires.checked c.args.images.items text are.of are.within)

pub returns-in_err-tail : goal.returns-in_err-tail
returns-in_err-tail c text are =
    let s = c.args.settings.now in
    let t = c.args.slot.now in
    let of = subst (λ (images : List (List (List ℕ))). AreOfText images text) (sym c.deref.ensures.value) are.of in
    let number = ap (λ (u : Slot). u.sequence) c.slot.view_is in
    let head = ap (λ (u : Slot). u.head) c.slot.view_is in
    let tail = ap (λ (u : Slot). u.tail) c.slot.view_is in
    let is = c.tail_of_commit.ensures (next_slot s t text) text of (omega (arith, number)) (sym head) (ap (λ (n : ℕ). tail_after s n text) (sym tail)) in
    let p = err_from_is_err_and c.from_residual-in_err-tail.result c.from_residual-in_err-tail.ensures.1 in
    rw (p.1, p.2) (inr (sym is ∙ c.in_err-tail.was))

pub returns : goal.returns
returns c text are =
    let s = c.args.settings.now in
    let t = c.args.slot.now in
    let of = subst (λ (images : List (List (List ℕ))). AreOfText images text) (sym c.deref.ensures.value) are.of in
    let number = ap (λ (u : Slot). u.sequence) c.slot.view_is in
    let head = ap (λ (u : Slot). u.head) c.slot.view_is in
    let tail = ap (λ (u : Slot). u.tail) c.slot.view_is in
    let is = c.tail_of_commit.ensures (next_slot s t text) text of (omega (arith, number)) (sym head) (ap (λ (n : ℕ). tail_after s n text) (sym tail)) in
    planned-by s t text c.requires.checked c.requires.log _ _ c.in_ok-tail.tail _ c.slot.view_is are (sym c.in_ok-tail.was ∙ is) (search rules)
