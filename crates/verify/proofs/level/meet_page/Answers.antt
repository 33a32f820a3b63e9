use Rattle.verify.proofs.MetLemmas.{among-insert}
use Rattle.verify.proofs.level.meet_page.Goals as goal

pub returns-then-branch-clause-met : goal.returns-then-branch-clause-met
returns-then-branch-clause-met c = λ n. rw c.in_ok-meet-in-Sound.ensures.met (among-insert n c.args.pid c.args.met.now)
