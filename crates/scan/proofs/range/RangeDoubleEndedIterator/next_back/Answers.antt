use Rattle.std.proofs.Common.{sym, ◌∙◌}
use Rattle.mapping.specs.Levels.{contents}
use Rattle.mapping.specs.TreeInMemory.{tree_of}
use Rattle.scan.specs.Edge.{between, is_under}
use Rattle.scan.proofs.PlaceLemmas.{edge_passes_lower}
use Rattle.scan.proofs.RangeSteps.{back_none, back_moved, back_row, back_met, under, last_given, no_last_given, back_goes}
use Rattle.scan.proofs.range.RangeDoubleEndedIterator.next_back.Goals.{then-is_under, else-is_under}
use Rattle.scan.proofs.range.RangeDoubleEndedIterator.next_back.Goals as goal

pub invariant_of-self : goal.invariant_of-self
invariant_of-self c = back_moved c.self.inside.tree.now (is_under c.self.inside.start) (is_under c.self.inside.end) c.self.inside.front c.self.inside.back c.self.invariant (edge_passes_lower c.self.inside.start) (edge_passes_lower c.self.inside.end) c.in-Some.key.now c.in-Some.value.now c.next_of.new.walk c.in-Some.ensures

pub returns-in-None-clause-steps : goal.returns-in-None-clause-steps
returns-in-None-clause-steps c =
    let none = back_none c.self.inside.tree.now (is_under c.self.inside.start) (is_under c.self.inside.end) c.self.inside.front c.self.inside.back c.self.invariant c.next_of.new.walk c.in-None.ensures in
    (sym c.self.view_is ∙ none, none)

pub returns-after-is_under-clause-steps : goal.returns-after-is_under-clause-steps
returns-after-is_under-clause-steps c = elim c.if-is_under.branch [
  | then-is_under w ↦
      let met = back_met c.self.inside.tree.now (is_under c.self.inside.start) (is_under c.self.inside.end) c.self.inside.front c.self.inside.back c.self.invariant (edge_passes_lower c.self.inside.start) (edge_passes_lower c.self.inside.end) c.in-Some.key.now c.in-Some.value.now c.next_of.new.walk c.in-Some.ensures w.if-is_under.ensures in
      no_last_given (λ item. (item.0.now, item.1.now)) c.if-is_under.result c.args.self.now (between (is_under c.self.inside.start) (under c.in-Some.key.now) (contents (tree_of c.self.inside.tree.now))) w.result-is (sym c.self.view_is ∙ met.0, met.1)
  | else-is_under w ↦
      last_given (λ item. (item.0.now, item.1.now)) c.if-is_under.result c.args.self.now (between (is_under c.self.inside.start) (under c.in-Some.key.now) (contents (tree_of c.self.inside.tree.now))) (c.in-Some.key, w.as_bytes.result) w.result-is
      (sym c.self.view_is ∙ back_row c.self.inside.tree.now (is_under c.self.inside.start) (is_under c.self.inside.end) c.self.inside.front c.self.inside.back c.self.invariant (edge_passes_lower c.self.inside.start) (edge_passes_lower c.self.inside.end) c.in-Some.key.now c.in-Some.value.now c.next_of.new.walk c.in-Some.ensures w.if-is_under.ensures w.as_bytes.result.now w.as_bytes.ensures)
]

pub returns-after-is_under-clause-goes : goal.returns-after-is_under-clause-goes
returns-after-is_under-clause-goes c = back_goes (λ item. (item.0.now, item.1.now)) c.if-is_under.result c.args.self.now (between (is_under c.self.inside.start) (under c.in-Some.key.now) (contents (tree_of c.self.inside.tree.now))) (returns-after-is_under-clause-steps c)
