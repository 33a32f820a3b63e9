use Rattle.std.proofs.Common.{◌<◌, ◌≤◌, length, arith, inr, refl, subst, ◌∙◌}
use Rattle.mapping.specs.Levels.{contents}
use Rattle.engine.specs.Refusal.{longest_batch}
use Rattle.engine.proofs.UndoAdmitted.{all_undone, too_many}
use Rattle.engine.proofs.store.Store.push_few.Goals as goal

pub returns-then-len-gt-LONGEST_BATCH-clause-refused : goal.returns-then-len-gt-LONGEST_BATCH-clause-refused
returns-then-len-gt-LONGEST_BATCH-clause-refused g c =
    let many : longest_batch < length c.push_undo.new.undo.items = omega (arith, c.len.ensures) in
    inr (refl, too_many (contents c.args.self.now.store.tree) c.args.command.now c.args.undo.now.items (subst (λ ds. longest_batch < length ds) c.in_ok-push_undo.ensures many))

pub returns-clause-added : goal.returns-clause-added
returns-clause-added g c =
    let few : length c.push_undo.new.undo.items ≤ longest_batch = omega (arith, c.len.ensures) in
    (c.in_ok-push_undo.ensures ∙ all_undone (contents c.args.self.now.store.tree) c.args.command.now c.args.undo.now.items (subst (λ ds. length ds ≤ longest_batch) c.in_ok-push_undo.ensures few), few)
