use Rattle.std.proofs.Common.{sym}
use Rattle.page_runs.specs.PageRows.{pair_lent, change_lent}
use Rattle.page_runs.proofs.PageRows.{rising_next, less_step, equal_step, greater_step, change_alone}
use Rattle.page_runs.proofs.page_rows.NamedKeys.step.Goals as goal

pub invariant_of-self : goal.invariant_of-self
invariant_of-self c =
    (c.self.invariant.0, rising_next change_lent c.self.inside.change _ c.next-self-inside.result _ _ c.in-None-Some.is-1 c.self.invariant.1 c.next-self-inside.ensures.steps)

pub returns-in-None-Some : goal.returns-in-None-Some
returns-in-None-Some c =
    rw (← c.self.view_is) (change_alone pair_lent change_lent c.self.inside.pair c.self.inside.change _ c.next-self-inside.result _ _ _ c.in-None-Some.is-0 c.in-None-Some.is-1 c.self.invariant.1 c.next-self-inside.ensures.steps)

pub invariant_of-self-in-Some-None : goal.invariant_of-self-in-Some-None
invariant_of-self-in-Some-None c =
    (rising_next pair_lent c.self.inside.pair _ c.next-self-inside-in-Some-None.result _ _ c.in-Some-None.is-0 c.self.invariant.0 c.next-self-inside-in-Some-None.ensures.steps, c.self.invariant.1)

pub invariant_of-self-in-Less : goal.invariant_of-self-in-Less
invariant_of-self-in-Less c =
    (rising_next pair_lent c.self.inside.pair _ c.next-self-inside-in-Less.result _ _ c.in-Some-Some.is-0 c.self.invariant.0 c.next-self-inside-in-Less.ensures.steps, c.self.invariant.1)

pub returns-in-Less : goal.returns-in-Less
returns-in-Less c =
    rw (← c.self.view_is) (less_step pair_lent change_lent c.self.inside.pair c.self.inside.change _ _ c.next-self-inside-in-Less.result _ _ _ c.in-Some-Some.is-0 c.in-Some-Some.is-1 c.self.invariant.1 (sym c.in-Less.ensures) c.next-self-inside-in-Less.ensures.steps)

pub invariant_of-self-in-Equal : goal.invariant_of-self-in-Equal
invariant_of-self-in-Equal c = (
  rising_next pair_lent c.self.inside.pair _ c.next-self-inside-in-Equal.result _ _ c.in-Some-Some.is-0 c.self.invariant.0 c.next-self-inside-in-Equal.ensures.steps,
  rising_next change_lent c.self.inside.change _ c.next-self-inside-in-Equal-2.result _ _ c.in-Some-Some.is-1 c.self.invariant.1 c.next-self-inside-in-Equal-2.ensures.steps,
)

pub returns-in-Equal : goal.returns-in-Equal
returns-in-Equal c =
    rw (← c.self.view_is) (equal_step pair_lent change_lent c.self.inside.pair c.self.inside.change _ _ c.next-self-inside-in-Equal.result c.next-self-inside-in-Equal-2.result _ _ _ _ c.in-Some-Some.is-0 c.in-Some-Some.is-1 c.self.invariant.0 c.self.invariant.1 (sym c.in-Equal.ensures) c.next-self-inside-in-Equal.ensures.steps c.next-self-inside-in-Equal-2.ensures.steps)

pub invariant_of-self-in-Greater : goal.invariant_of-self-in-Greater
invariant_of-self-in-Greater c =
    (c.self.invariant.0, rising_next change_lent c.self.inside.change _ c.next-self-inside-in-Greater.result _ _ c.in-Some-Some.is-1 c.self.invariant.1 c.next-self-inside-in-Greater.ensures.steps)

pub returns-in-Greater : goal.returns-in-Greater
returns-in-Greater c =
    rw (← c.self.view_is) (greater_step pair_lent change_lent c.self.inside.pair c.self.inside.change _ _ c.next-self-inside-in-Greater.result _ _ _ c.in-Some-Some.is-0 c.in-Some-Some.is-1 c.self.invariant.0 c.self.invariant.1 (sym c.in-Greater.ensures) c.next-self-inside-in-Greater.ensures.steps)
