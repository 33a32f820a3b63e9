use Rattle.scan.proofs.Counting.{noted_first}
use Rattle.scan.proofs.level.+add_at.Goals as goal

pub returns-in-Some-clause-counted : goal.returns-in-Some-clause-counted
returns-in-Some-clause-counted t c =
    noted_first c.args.place c.args.levels.now c.in-Some.level.now c.note.new.self c.in-Some.above.now c.add_at.new.levels
    c.in-Some.ensures.cases.0 c.note.ensures.length c.note.ensures.after c.note.ensures.others c.add_at.ensures.counted
