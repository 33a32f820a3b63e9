use Rattle.std.proofs.Common.{ap, ◌∙◌}
use Rattle.mapping.specs.Flushed.{marked_as_written}
use Rattle.mapping.proofs.DueTable.{noted-marked}
use Rattle.mapping.proofs.page_table.PageTable.flushed.Goals as goal
use Rattle.mapping.proofs.page_table.PageTable.flushed.Goals.{in-Some, in-None}

pub flushed_at-requires : goal.flushed_at-requires
flushed_at-requires g c = λ pid no. c.self.invariant pid (c.in-Some.ensures pid ∙ no)

pub invariant_of-self : goal.invariant_of-self
invariant_of-self g c =
    let marked = noted-marked c.self.inside.table c.clear.new.self c.pids-rising.ensures.rising in
    elim c.match-listed.branch [
      | in-Some w ↦ rw (w.self-inside-is, w.flushed_at.ensures) marked
      | in-None w ↦ rw (w.self-inside-is, w.flushed.ensures) marked
    ]

pub returns : goal.returns
returns g c =
    elim c.match-listed.branch [
      | in-Some w ↦ rw w.self-inside-is (w.flushed_at.ensures ∙ ap marked_as_written c.self.view_is)
      | in-None w ↦ rw w.self-inside-is (w.flushed.ensures ∙ ap marked_as_written c.self.view_is)
    ]
