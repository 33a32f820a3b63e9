use Rattle.flush_log.proofs.DueLemmas.{none-due}
use Rattle.flush_log.proofs.text.is_all_written.Goals as goal

pub returns-in-Some : goal.returns-in-Some
returns-in-Some c = λ version.
    let same = none-due version c.args.tree.now c.requires.home c.requires.proper c.in-Some.pids.now c.in-Some.ensures in
    let written = c.are_written.ensures version in
    (λ h. same.0 (written.0 h), λ e. written.1 (same.1 e))
