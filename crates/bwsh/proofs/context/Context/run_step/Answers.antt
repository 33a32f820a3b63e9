use Rattle.std.proofs.Common.{◌∙◌, ap, refl, subst, List}
use Rattle.std.specs.Prelude.{map}
use Rattle.std.specs.List.{flat_map}
use Rattle.mapping.specs.Levels.{contents}
use Rattle.mapping.specs.Tree.{Store}
use Rattle.engine.specs.Plays.{answer_of}
use Rattle.engine.specs.declared.step.Answer as code_answer
use Rattle.bwsh.specs.Output.{Writes}
use Rattle.bwsh.specs.Shown.{shown_answer}
use Rattle.bwsh.proofs.RunLemmas.{RunsOrder-answered, RunsOrder-refused, answered_holds, err_device, no_device_in, refused_leaves, refused_store, written_ends}
use Rattle.bwsh.proofs.TidiedLemmas.{untidy}
use Rattle.bwsh.proofs.context.Context.run_step.Goals as goal

pub returns-in-Ok-clause-runs : goal.returns-in-Ok-clause-runs
returns-in-Ok-clause-runs g c mode order is plain =
    let store = c.args.store.now in
    let disk = g.D.Disk.view store.disk in
    let after = c.play.new.self in
    let old = g.O.Write.contents c.args.out.now in
    let new = g.O.Write.contents c.print_answers.new.out in
    let end = c.print_answers.result in
    let sound = c.play.ensures.sound.0.is in
    let shown = subst (λ (parsed : List code_answer.Answer). Writes old new (flat_map shown_answer (map answer_of parsed)) end) c.deref.ensures.value c.print_answers.ensures in
    RunsOrder-answered mode disk.is_honest store.settings store.store disk.seen order c.args.step is plain
    (λ cs. c.the_plan_holds_the_map_after_the_commands.ensures store.settings store.store cs sound.good sound.proper)
    (λ now file bytes done. (c.a_clean_keeps_the_store.ensures.memory store.settings store.store now file bytes done).0)
    c.in-Ok.answers.items after.store (g.D.Disk.view after.disk).seen c.in-Ok.ensures.turn.played c.in-Ok.ensures.turn.bytes old new end shown

pub returns-in-Ok-clause-rest : goal.returns-in-Ok-clause-rest
returns-in-Ok-clause-rest g c =
    let turn = c.in-Ok.ensures.turn in
    (turn.settings, turn.kept.honest, λ other. turn.has_failed)

pub returns-in-Ok-clause-holds : goal.returns-in-Ok-clause-holds
returns-in-Ok-clause-holds g c order is same =
    let store = c.args.store.now in
    let disk = g.D.Disk.view store.disk in
    let sound = c.play.ensures.sound.0.is in
    answered_holds (untidy c.args.self.now.mode) disk.is_honest store.settings store.store disk.seen order c.args.step is (λ flush. refl)
    (λ cs. c.the_plan_holds_the_map_after_the_commands.ensures store.settings store.store cs sound.good sound.proper)
    (λ now file bytes done. (c.a_clean_keeps_the_store.ensures.memory store.settings store.store now file bytes done).0)
    c.in-Ok.answers.items c.play.new.self.store c.in-Ok.ensures.turn.played ∙ same

pub returns-in-Ok-clause-kept : goal.returns-in-Ok-clause-kept
returns-in-Ok-clause-kept g c =
    let old = g.O.Write.contents c.args.out.now in
    let new = g.O.Write.contents c.print_answers.new.out in
    let end = c.print_answers.result in
    let shown = subst (λ (parsed : List code_answer.Answer). Writes old new (flat_map shown_answer (map answer_of parsed)) end) c.deref.ensures.value c.print_answers.ensures in
    written_ends _ old new (flat_map shown_answer (map answer_of c.in-Ok.answers.items)) end shown

pub returns-in-Err-clause-runs : goal.returns-in-Err-clause-runs
returns-in-Err-clause-runs g c mode order is plain =
    let store = c.args.store.now in
    let disk = g.D.Disk.view store.disk in
    let after = c.play.new.self in
    let bytes = (g.D.Disk.view after.disk).seen in
    let out = g.O.Write.contents c.args.out.now in
    let left = c.in-Err.ensures.stopped in
    let (file, shown, refused) = c.in-Err.ensures.refused c.requires.fine c.args.self.now.crew_in_range in
    RunsOrder-refused mode disk.is_honest store.settings store.store disk.seen order c.args.step is plain out _ after.store file bytes _ _ c.in-Err.refused.0 c.in-Err.refused.2 c.store_fault.result
    c.in-Err.ensures.place c.store_fault.ensures left.played shown (λ honest other. (left.turn other).bytes honest) refused

pub returns-in-Err-clause-rest : goal.returns-in-Err-clause-rest
returns-in-Err-clause-rest g c =
    let left = c.in-Err.ensures.stopped in
    (left.rest.0, left.rest.1.honest, λ other. (left.turn (no_device_in c.in-Err.refused.2 c.store_fault.result c.store_fault.ensures (err_device c.store_fault.result other))).has_failed)

pub returns-in-Err-clause-holds : goal.returns-in-Err-clause-holds
returns-in-Err-clause-holds g c order is same =
    let store = c.args.store.now in
    let disk = g.D.Disk.view store.disk in
    ap (λ (s : Store). contents s.tree)
    (refused_store disk.is_honest store.settings store.store disk.seen c.args.step _ c.play.new.self.store c.in-Err.refused.0 c.in-Err.ensures.place c.in-Err.ensures.stopped.played)

pub returns-in-Err-clause-kept : goal.returns-in-Err-clause-kept
returns-in-Err-clause-kept g c other =
    let store = c.args.store.now in
    let disk = g.D.Disk.view store.disk in
    let after = c.play.new.self in
    let left = c.in-Err.ensures.stopped in
    refused_leaves disk.is_honest store.settings store.store disk.seen c.args.step _ after.store (g.D.Disk.view after.disk).seen c.in-Err.refused.0 c.in-Err.refused.2
    store.has_failed after.has_failed c.in-Err.ensures.place left.played (λ honest other. (left.turn other).bytes honest) (λ unlike. (left.turn unlike).has_failed) (no_device_in c.in-Err.refused.2 c.store_fault.result c.store_fault.ensures other)

pub returns-in-Ok-clause-size : goal.returns-in-Ok-clause-size
returns-in-Ok-clause-size g c = c.in-Ok.ensures.turn.kept.size

pub returns-in-Err-clause-size : goal.returns-in-Err-clause-size
returns-in-Err-clause-size g c = c.in-Err.ensures.stopped.rest.1.size
