use Rattle.std.proofs.Common.{◌∙◌, sym, refl, inl, inr}
use Rattle.std.proofs.lemmas.Result.{err_from_is_err_and}
use Rattle.engine.proofs.store.Store.reading_for_room.Goals as goal

pub returns-in_err-reading-clause-refused : goal.returns-in_err-reading-clause-refused
returns-in_err-reading-clause-refused g c =
    let p = err_from_is_err_and c.from_residual.result c.from_residual.ensures.1 in
    rw (p.1, p.2) (record { why = inr c.in_err-reading.ensures.refused })

pub returns-in_err-is_overfull-clause-refused : goal.returns-in_err-is_overfull-clause-refused
returns-in_err-is_overfull-clause-refused g c =
    let p = err_from_is_err_and c.from_residual-in_err-is_overfull.result c.from_residual-in_err-is_overfull.ensures.1 in
    rw (p.1, p.2) (record { why = inl (c.in_ok-reading.ensures.read.0, inr c.in_err-is_overfull.ensures.err) })

pub returns-then-branch-clause-refused : goal.returns-then-branch-clause-refused
returns-then-branch-clause-refused g c =
    let (only, held) = c.in_ok-reading.ensures.read in
    let (file, shown, known) = held.live in
    record { why = inl (only, inl (refl, (file, shown, (_, known, sym c.in_ok-is_overfull.ensures.exact ∙ c.if-branch.true)))) }

pub returns-clause-read : goal.returns-clause-read
returns-clause-read g c =
    let (only, held) = c.in_ok-reading.ensures.read in
    (only, held, sym c.in_ok-is_overfull.ensures.exact ∙ c.if-branch.false)
