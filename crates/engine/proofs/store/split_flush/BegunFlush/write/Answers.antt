use Rattle.std.specs.Arc.{arc_value}
use Rattle.std.proofs.Common.{◌≡◌, [], ap, ◌∙◌, subst}
use Rattle.flush_log.specs.FlushText.{flush_frames}
use Rattle.engine.specs.SplitFlush.{StateInMemory, IsCommitOf}
use Rattle.engine.proofs.SplitLemmas.{nothing_step}
use Rattle.engine.proofs.store.split_flush.BegunFlush.write.Goals as goal

pub returns-in_default : goal.returns-in_default
returns-in_default g c = rw (← c.self.view_is) (
    let m = arc_value c.self.inside.memory in
    let disk = c.self.inside.disk in
    let none : flush_frames m.store.version m.store.tree ≡ [] = subst (IsCommitOf m.settings m.store) c.in_default.is c.self.invariant.commit in
    nothing_step g.D.Disk.view g.D.Disk.failed m.settings m.store disk (g.met.D.Disk.lawful disk) c.self.invariant.sound none _
    (c.sequence-sequence.ensures ∙ ap (λ (x : StateInMemory). x.store.sequence) c.deref.ensures))

pub write_commit-requires-clause-sound : goal.write_commit-requires-clause-sound
write_commit-requires-clause-sound g c = c.self.invariant.sound

pub write_commit-requires-clause-commit : goal.write_commit-requires-clause-commit
write_commit-requires-clause-commit g c = (let m = arc_value c.self.inside.memory in subst (IsCommitOf m.settings m.store) c.in-Some.is c.self.invariant.commit)

pub returns : goal.returns
returns g c = rw (← c.self.view_is) c.write_commit.ensures
