use Rattle.std.proofs.Common.{ap}
use Rattle.std.specs.List.{flat_map}
use Rattle.std.proofs.lemmas.Result.{err_from_is_err_and}
use Rattle.bwsh.specs.Shown.{shown_row}
use Rattle.bwsh.proofs.ShowLemmas.{Puts-stopped, added-first, added-next}
use Rattle.bwsh.proofs.asks.put_back.Goals as goal

pub loop-key-init : goal.loop-key-init
loop-key-init g c = added-first _ _ _

pub loop-key-preserved : goal.loop-key-preserved
loop-key-preserved g c =
    added-next _ _ _ _ _ _ c.loop-key.invariant (shown_row (c.in-Some.key.now, c.in-Some.value.now)) (flat_map shown_row c.next.new.self) (ap (flat_map shown_row) c.in-Some.ensures.steps) _ _ c.in_ok-put_row.ensures

pub returns-in_err-put_row : goal.returns-in_err-put_row
returns-in_err-put_row g c =
    let p = err_from_is_err_and c.from_residual.result c.from_residual.ensures.1 in
    Puts-stopped g.O.Write.contents c.args.buffer.now c.args.out.now c.loop-key.buffer c.loop-key.out c.put_row.new.self c.put_row.new.out (flat_map shown_row c.args.rows.now) (flat_map shown_row c.loop-key.rows)
    (shown_row (c.in-Some.key.now, c.in-Some.value.now)) (flat_map shown_row c.next.new.self) c.in_err-put_row.field-0.0 c.from_residual.result
    c.loop-key.invariant (ap (flat_map shown_row) c.in-Some.ensures.steps) p c.in_err-put_row.ensures
