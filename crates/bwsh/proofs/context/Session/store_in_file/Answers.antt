use Rattle.std.proofs.Common.{[], refl}
use Rattle.bwsh.specs.Session.{found_start, new_start}
use Rattle.bwsh.proofs.context.Session.store_in_file.Goals as goal

pub returns-then-self : goal.returns-then-self
returns-then-self g c = (new_start c.args.self.now.asked.now.settings [], rw c.if-self.true ([], refl), c.new_store.ensures [])

pub returns-else-self : goal.returns-else-self
returns-else-self g c =
    let (file, opens) = c.old_store.ensures in
    (found_start file, rw c.if-self.false (file, refl), opens)
