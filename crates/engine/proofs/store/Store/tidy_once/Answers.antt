use Rattle.std.proofs.Common.{◌∙◌, inl, refl, ap}
use Rattle.std.proofs.lemmas.Result.{err_from_is_err_and}
use Rattle.keys.specs.Step.{map_after_all}
use Rattle.mapping.specs.Levels.{contents}
use Rattle.engine.proofs.TidyLemmas.{untouched, tidied_by, tidy_refused}
use Rattle.engine.proofs.store.Store.tidy_once.Goals as goal

pub returns-in_err-commands-clause-tidied : goal.returns-in_err-commands-clause-tidied
returns-in_err-commands-clause-tidied g c = untouched _ _ _ refl

pub returns-in_err-commands-clause-refused : goal.returns-in_err-commands-clause-refused
returns-in_err-commands-clause-refused g c =
    let p = err_from_is_err_and c.from_residual.result c.from_residual.ensures.1 in
    rw (p.1, p.2) (inl c.in_err-commands.ensures.err)

pub returns-then-is_empty-clause-tidied : goal.returns-then-is_empty-clause-tidied
returns-then-is_empty-clause-tidied g c = untouched _ _ _ refl

pub returns-in_err-batch-clause-tidied : goal.returns-in_err-batch-clause-tidied
returns-in_err-batch-clause-tidied g c = untouched _ _ _ (ap (λ x. x.store) c.in_err-batch.ensures.unchanged)

pub returns-in_err-batch-clause-refused : goal.returns-in_err-batch-clause-refused
returns-in_err-batch-clause-refused g c =
    let old = c.args.self.now in
    let p = err_from_is_err_and c.from_residual-in_err-batch.result c.from_residual-in_err-batch.ensures.1 in
    rw (p.1, p.2) (tidy_refused old.settings old.store.tree c.deref.result.now c.batch.result _ (c.batch.ensures.refused c.requires.fine c.requires.crew) c.in_err-batch.was)

pub returns-clause-tidied : goal.returns-clause-tidied
returns-clause-tidied g c =
    let old = c.args.self.now in
    let batch = c.in_ok-batch.ensures in
    tidied_by old.settings old.store c.batch.new.self.store c.deref.result.now batch.store
    (batch.contents ∙ ap (λ x. map_after_all (contents old.store.tree) x) c.deref.ensures.value ∙ c.in_ok-commands.ensures.neutral)
