use Rattle.std.proofs.Common.{◌≡◌, ◌∙◌, None, length, refl, sym, ap, inr}
use Rattle.mapping.specs.Finding.{finding}
use Rattle.mapping.specs.Levels.{contents}
use Rattle.mapping.specs.TreeInMemory.{TreeInMemory, tree_of}
use Rattle.flush_log.specs.Slot.{Slot}
use Rattle.recovery.specs.LogPages.{broken_in}
use Rattle.recovery.specs.StoreOfDisk.{frames_in, wrong_in, tree_by_log}
use Rattle.recovery.specs.declared.gather.Wanted.TheVariants.{Every}
use Rattle.recovery.proofs.BuildLemmas.{built-table, home-table, slot_tree, pages-gathered, built-wrong, marked-built, found_first, found_of_same, found_by_walk, found_leaves}
use Rattle.recovery.proofs.build_tree.checked_tree.Goals as goal

pub verify-requires-after_bounds : goal.verify-requires-after_bounds
verify-requires-after_bounds g c κs within = home-table c.new-tree.result c.in_ok-table.table _ (ap (λ (u : TreeInMemory). u.table) c.new-tree.ensures) c.in_ok-table.ensures.ok

pub returns-in-Some-clause-err : goal.returns-in-Some-clause-err
returns-in-Some-clause-err g c found h =
    inr (
      c.in-Some.finding,
      found_first _ (broken_in (frames_in found)) (finding c.args.format.now.settings (tree_by_log c.args.slot.now (frames_in found))) c.in-Some.finding refl (c.in-Some.ensures Every found h.live),
      refl,
    )

pub returns-in_err-report-clause-err : goal.returns-in_err-report-clause-err
returns-in_err-report-clause-err g c found h =
    let format = c.args.format.now in
    let s = format.settings in
    let t = c.args.slot.now in
    let fs = frames_in found in
    let none : broken_in fs ≡ None = sym (c.in_default.ensures Every found h.live) in
    let built = c.new-tree.ensures ∙ ap (λ (u : Slot). slot_tree c.in_ok-table.table u) c.slot.view_is ∙ built-table t c.in_ok-table.table _ _ c.in_ok-table.ensures.ok (pages-gathered format c.args.gathering found c.requires c.table_of.ensures.ordered h) in
    let fault = c.in_err-report.field-0.0 in
    let seen = finding s (tree_of c.new-tree.result) in
    found_leaves c.from_residual-in_err-report.result (wrong_in s t fs) fault c.from_residual-in_err-report.ensures.1
    (found_of_same seen (wrong_in s t fs) fault (built-wrong s t fs c.new-tree.result built none) (found_by_walk seen fault c.in_err-report.ensures.err))

pub returns-clause-ok : goal.returns-clause-ok
returns-clause-ok g c found h =
    let format = c.args.format.now in
    let s = format.settings in
    let t = c.args.slot.now in
    let fs = frames_in found in
    let broken : broken_in fs ≡ None = sym (c.in_default.ensures Every found h.live) in
    let built = c.new-tree.ensures ∙ ap (λ (u : Slot). slot_tree c.in_ok-table.table u) c.slot.view_is ∙ built-table t c.in_ok-table.table _ _ c.in_ok-table.ensures.ok (pages-gathered format c.args.gathering found c.requires c.table_of.ensures.ordered h) in
    let none = c.in_ok-report.ensures.sound in
    let marked = marked-built s t fs c.new-tree.result built c.requires none c.reserve.new.self (c.reserve.ensures ∙ c.flushed.ensures) in
    (sym (built-wrong s t fs c.new-tree.result built broken) ∙ none, marked.0, marked.1)

pub returns-clause-counted : goal.returns-clause-counted
returns-clause-counted g c =
    ap (λ r. r.pairs) c.in_ok-report.ensures.report
    ∙ sym (ap (λ (t : TreeInMemory). length (contents (tree_of t))) (c.reserve.ensures ∙ c.flushed.ensures))
