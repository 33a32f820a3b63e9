use Rattle.std.proofs.Common.{arith, length}
use Rattle.std.proofs.lemmas.Bool.{ltb-true}
use Rattle.page_runs.proofs.PointsByKey.{follow_more, are_points, are_in_key_order}
use Rattle.page_runs.proofs.places.are_points_by_key.Goals as goal

pub loop-at-preserved : goal.loop-at-preserved
loop-at-preserved c =
    let said = c.are_in_order.ensures in
    let yes = c.if-not-are_in_order.false in
    follow_more c.args.commands.now c.args.places.now c.loop-at.at (omega arith) (omega arith) c.loop-at.invariant (record { one = said.one yes; next = said.next yes; order = said.order yes })

pub returns-clause-points : goal.returns-clause-points
returns-clause-points c = λ two. are_points c.args.commands.now c.args.places.now (λ k d l. c.loop-at.invariant k d (omega (arith, l))) (ltb-true 1 (length c.args.places.now) two)

pub returns-clause-in_order : goal.returns-clause-in_order
returns-clause-in_order c = λ two. are_in_key_order c.args.commands.now c.args.places.now (λ k d l. c.loop-at.invariant k d (omega (arith, l)))
