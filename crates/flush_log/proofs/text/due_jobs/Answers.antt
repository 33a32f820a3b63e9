use Rattle.mapping.specs.TreeInMemory.{tree_of}
use Rattle.flush_log.proofs.TextImages.{can_be_written}
use Rattle.flush_log.proofs.DueLemmas.{jobs-due}
use Rattle.flush_log.proofs.text.due_jobs.Goals as goal

pub jobs_of-requires-clause-writable : goal.jobs_of-requires-clause-writable
jobs_of-requires-clause-writable c = λ pid. can_be_written c.args.text (tree_of c.args.tree.now) pid c.requires.proper

pub all_jobs-requires-clause-writable : goal.all_jobs-requires-clause-writable
all_jobs-requires-clause-writable c = λ pid. can_be_written c.args.text (tree_of c.args.tree.now) pid c.requires.proper

pub returns-in_ok-pids-in-Flush-Some-clause-text : goal.returns-in_ok-pids-in-Flush-Some-clause-text
returns-in_ok-pids-in-Flush-Some-clause-text c =
    let t = c.args.tree.now in
    let rising = c.in_ok-pids-in-Flush-Some.ensures in
    jobs-due (λ v. v.items) c.jobs_of.result c.args.text c.in-Flush-Some.field-0-0 c.in-Flush-Some.is-0 t c.requires.home c.requires.proper c.in-Flush-Some.due.now c.in_ok-pids-in-Flush-Some.pids.items c.in-Flush-Some.ensures rising.rising rising.all
    (rw c.deref.ensures.value at c.jobs_of.ensures.text)
