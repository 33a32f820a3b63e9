use Rattle.std.proofs.Common.{inl, inr, ⊎_elim}
use Rattle.engine.proofs.CleansLemmas.{on_ok}
use Rattle.engine.proofs.store.Store.compact_if_bloated.Goals as goal

pub returns-then-may_be_compacted-clause-compacted : goal.returns-then-may_be_compacted-clause-compacted
returns-then-may_be_compacted-clause-compacted g c =
    let both = c.may_be_compacted.ensures c.if-may_be_compacted.true in
    on_ok c.compact_if_it_fits.result _ _ c.compact_if_it_fits.ensures.compacted (λ h. ⊎_elim (λ same. inl same) (λ is. inr (both.0, both.1, is)) h)
