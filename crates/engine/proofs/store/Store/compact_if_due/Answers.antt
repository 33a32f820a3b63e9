use Rattle.std.proofs.Common.{inl, inr, ⊎_elim}
use Rattle.engine.proofs.CleansLemmas.{err_and, on_ok}
use Rattle.engine.proofs.store.Store.compact_if_due.Goals as goal

pub returns-then-is_flush_due-clause-start : goal.returns-then-is_flush_due-clause-start
returns-then-is_flush_due-clause-start g c =
    let due = c.is_flush_due.ensures.0 c.if-is_flush_due.true in
    let rest = c.compact_if_bloated.ensures.rest in
    on_ok c.compact_if_bloated.result _ _ c.compact_if_bloated.ensures.compacted (λ h. ⊎_elim (λ same. inl same) (λ is. inr (due, is.0, is.1, is.2, rest.0, rest.1, rest.2)) h)

pub returns-then-is_flush_due-clause-err : goal.returns-then-is_flush_due-clause-err
returns-then-is_flush_due-clause-err g c =
    err_and c.compact_if_bloated.result _ _ _ c.compact_if_bloated.ensures.err c.compact_if_bloated.ensures.unchanged (c.is_flush_due.ensures.0 c.if-is_flush_due.true)
