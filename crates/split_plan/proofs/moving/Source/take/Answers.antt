use Rattle.std.proofs.Common.{ℕ, List, sym, subst}
use Rattle.split_plan.specs.Moving.{HasLeft}
use Rattle.split_plan.proofs.MovingLemmas.{not_here, missed, goes_on, moved}
use Rattle.split_plan.proofs.moving.Source.take.Goals as goal

pub go_on-requires : goal.go_on-requires
go_on-requires c =
    let left = c.loop-self.invariant c.requires.0 c.requires.1 c.requires.2 in
    let on = goes_on c.loop-self.self.chain c.loop-self.self.leaves.items c.args.key.now c.requires.0 c.requires.1 left (not_here c.loop-self.self.chain c.args.key.now c.swap_cell.result c.swap_cell.ensures.found c.loop-self-test.true) in
    record { some = on.0; leaves = on.1; rising = on.2 }

pub loop-self-preserved : goal.loop-self-preserved
loop-self-preserved c = λ v es h.
    let left = c.loop-self.invariant v es h in
    let all = missed c.loop-self.self.chain c.loop-self.self.leaves.items c.args.key.now v es left (not_here c.loop-self.self.chain c.args.key.now c.swap_cell.result c.swap_cell.ensures.found c.loop-self-test.true) in
    subst (λ (xs : List (List ℕ × List ℕ)). HasLeft c.go_on.new.self.chain c.go_on.new.self.leaves.items xs) (sym all) c.go_on.ensures.left

pub returns : goal.returns
returns c = λ v es h. moved c.loop-self.self.chain c.swap_cell.new.self c.loop-self.self.leaves.items c.args.key.now v _ _ es c.swap_cell.result (c.loop-self.invariant v es h) c.swap_cell.ensures.found c.loop-self-test.false c.swap_cell.ensures.cell c.swap_cell.ensures.page
