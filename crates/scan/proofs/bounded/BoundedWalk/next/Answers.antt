use Rattle.std.proofs.Common.{◌≡◌, [], refl, sym, subst, ◌∙◌}
use Rattle.std.specs.List.Sorted.{IsStrictlySortedBy}
use Rattle.std.specs.Option.{option_copied}
use Rattle.keys.specs.Bytes.{Bytes, Pairs}
use Rattle.keys.specs.Order.{IsRising}
use Rattle.scan.specs.Rows.{rows_left}
use Rattle.scan.proofs.RangeLemmas.{rest_rises}
use Rattle.scan.proofs.RowLemmas.{row_given, end_reached, none_left}
use Rattle.scan.proofs.bounded.BoundedWalk.next.Goals.{in_default-next-via-in-Some-next+else-comes_before, in_default-next-via-in_default-next}
use Rattle.scan.proofs.bounded.BoundedWalk.next.Goals as goal

no_pairs_rise : (es : Pairs Bytes) → es ≡ [] → IsRising es
unfolding IsStrictlySortedBy
no_pairs_rise es h = subst (λ (xs : Pairs Bytes). IsRising xs) (sym h) tt

pub invariant_of-self : goal.invariant_of-self
invariant_of-self g c = rest_rises g.W.Towards.direction c.self.inside.walk c.self.invariant c.in-Some-next.key.now c.in-Some-next.value.now c.next.new.self c.in-Some-next.ensures

pub invariant_of-self-in_default-next : goal.invariant_of-self-in_default-next
invariant_of-self-in_default-next g c = elim c.in_default-next.branch [
  | in_default-next-via-in-Some-next+else-comes_before w ↦ rest_rises g.W.Towards.direction c.self.inside.walk c.self.invariant w.in-Some-next.key.now w.in-Some-next.value.now c.next.new.self w.in-Some-next.ensures
  | in_default-next-via-in_default-next w ↦ no_pairs_rise c.next.new.self w.in_default-next.ensures.1
]

pub returns-in-Some-next : goal.returns-in-Some-next
returns-in-Some-next g c =
    sym c.self.view_is
    ∙ row_given g.W.Towards.direction c.self.inside.left (option_copied c.self.inside.stop) _ c.in-Some-next.key.now c.in-Some-next.value.now _ c.self.invariant c.in-Some-next.ensures c.in-Some.later c.as_bytes.result.now c.in-Some.ensures c.as_bytes.ensures (rw c.direction-direction.ensures at c.if-comes_before.ensures)

pub returns-in_default-next : goal.returns-in_default-next
returns-in_default-next g c =
    let none : rows_left g.W.Towards.direction c.self.inside.left (option_copied c.self.inside.stop) c.self.inside.walk ≡ [] = elim c.in_default-next.branch [
      | in_default-next-via-in-Some-next+else-comes_before w ↦ end_reached g.W.Towards.direction c.self.inside.left (option_copied c.self.inside.stop) c.self.inside.walk w.in-Some-next.key.now w.in-Some-next.value.now c.next.new.self c.self.invariant w.in-Some-next.ensures (rw c.direction-direction.ensures at w.if-comes_before.ensures)
      | in_default-next-via-in_default-next w ↦ none_left g.W.Towards.direction c.self.inside.left (option_copied c.self.inside.stop) c.self.inside.walk w.in_default-next.ensures.0
    ] in
    (sym c.self.view_is ∙ none, refl)
