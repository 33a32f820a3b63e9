use Rattle.bwsh.proofs.TidiedLemmas.{by_no_batches, by_some_batches}
use Rattle.bwsh.proofs.context.Context.tidy_if_asked.Goals as goal

pub returns-then-self-eq0-clause-tidied : goal.returns-then-self-eq0-clause-tidied
returns-then-self-eq0-clause-tidied g c = by_no_batches c.args.self.now.mode c.args.store.now.settings c.args.store.now.store

pub returns-clause-tidied : goal.returns-clause-tidied
returns-clause-tidied g c =
    by_some_batches c.args.self.now.mode c.args.store.now.settings c.args.store.now.store c.tidy_store.new.store.store c.if-self-eq0.false c.tidy_store.ensures.tidied
