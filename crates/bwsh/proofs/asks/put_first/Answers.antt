use Rattle.std.proofs.Common.{◌-◌, ℕ, List, take, ap, ◌∙◌}
use Rattle.std.specs.List.{flat_map}
use Rattle.std.proofs.lemmas.Result.{err_from_is_err_and}
use Rattle.bwsh.specs.Shown.{shown_row}
use Rattle.bwsh.proofs.ShowLemmas.{Puts-stopped, added-first, added-last, added-next, take_none, take_one}
use Rattle.bwsh.proofs.asks.put_first.Goals as goal

abbrev Rows : Type 0
Rows = List (List ℕ × List ℕ)

pub loop-key-init : goal.loop-key-init
loop-key-init g c = added-first _ _ _

pub loop-key-preserved : goal.loop-key-preserved
loop-key-preserved g c =
    let left = c.loop-key.left in
    let row : List ℕ × List ℕ = (c.in-Some.key.now, c.in-Some.value.now) in
    added-next _ _ _ _ _ _ c.loop-key.invariant (shown_row row) (flat_map shown_row (take (left - 1) c.next.new.self))
    (ap (λ (rows : Rows). flat_map shown_row (take left rows)) c.in-Some.ensures.steps ∙ ap (flat_map shown_row) (take_one left row c.next.new.self c.if-left-eq0.false)) _ _ c.in_ok-put_row.ensures

pub returns-in_err-put_row : goal.returns-in_err-put_row
returns-in_err-put_row g c =
    let left = c.loop-key.left in
    let row : List ℕ × List ℕ = (c.in-Some.key.now, c.in-Some.value.now) in
    let p = err_from_is_err_and c.from_residual.result c.from_residual.ensures.1 in
    Puts-stopped g.O.Write.contents c.args.buffer.now c.args.out.now c.loop-key.buffer c.loop-key.out c.put_row.new.self c.put_row.new.out (flat_map shown_row (take c.args.limit c.args.rows.now))
    (flat_map shown_row (take left c.loop-key.rows)) (shown_row row) (flat_map shown_row (take (left - 1) c.next.new.self)) c.in_err-put_row.field-0.0 c.from_residual.result
    c.loop-key.invariant (ap (λ (rows : Rows). flat_map shown_row (take left rows)) c.in-Some.ensures.steps ∙ ap (flat_map shown_row) (take_one left row c.next.new.self c.if-left-eq0.false)) p c.in_err-put_row.ensures

pub returns-then-left-eq0 : goal.returns-then-left-eq0
returns-then-left-eq0 g c = added-last _ _ _ _ _ _ c.loop-key.invariant (ap (λ (n : ℕ). flat_map shown_row (take n c.loop-key.rows)) c.if-left-eq0.true)

pub returns : goal.returns
returns g c = added-last _ _ _ _ _ _ c.loop-key.invariant (ap (flat_map shown_row) (take_none c.loop-key.left c.loop-key.rows c.in_default.ensures.steps.0))
