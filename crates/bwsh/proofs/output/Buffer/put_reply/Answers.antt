use Rattle.std.proofs.Common.{[], ◌∷◌, ◌++◌, length}
use Rattle.std.specs.Prelude.{codes}
use Rattle.std.specs.Fmt.{decimal}
use Rattle.std.specs.List.{flat_map}
use Rattle.std.proofs.lemmas.Result.{err_from_is_err_and}
use Rattle.bwsh.specs.Shown.{shown_row}
use Rattle.bwsh.proofs.ShowLemmas.{Puts-as, Puts-early, Puts-then, rows_joined}
use Rattle.bwsh.proofs.output.Buffer.put_reply.Goals as goal

pub returns-in_err-put_numbers-in-Rows : goal.returns-in_err-put_numbers-in-Rows
returns-in_err-put_numbers-in-Rows g c =
    let rows = c.in-Rows.rows in
    let put = c.put_numbers in
    let p = err_from_is_err_and c.from_residual.result c.from_residual.ensures.1 in
    rw c.in-Rows.is
    (Puts-as g.O.Write.contents c.args.self.now c.args.out.now put.new.self put.new.out _ _ c.from_residual.result (rows_joined (codes "rows ") (decimal (length rows)) (flat_map shown_row rows))
    (Puts-early g.O.Write.contents c.args.self.now c.args.out.now put.new.self put.new.out (codes "rows " ++ decimal (length rows) ++ 10 ∷ []) (flat_map shown_row rows) c.in_err-put_numbers-in-Rows.field-0.0 c.from_residual.result p
    (rw c.len.ensures at c.in_err-put_numbers-in-Rows.ensures)))

pub returns-in-Value : goal.returns-in-Value
returns-in-Value g c = rw c.in-Value.is (rw c.as_bytes.ensures at c.put_value.ensures)

pub returns-in_ok-put_numbers-in-Rows : goal.returns-in_ok-put_numbers-in-Rows
returns-in_ok-put_numbers-in-Rows g c =
    let rows = c.in-Rows.rows in
    let put = c.put_numbers in
    let last = c.put_rows.new in
    rw c.in-Rows.is
    (Puts-as g.O.Write.contents c.args.self.now c.args.out.now last.self last.out _ _ c.put_rows.result (rows_joined (codes "rows ") (decimal (length rows)) (flat_map shown_row rows))
    (Puts-then g.O.Write.contents c.args.self.now c.args.out.now put.new.self put.new.out last.self last.out (codes "rows " ++ decimal (length rows) ++ 10 ∷ []) (flat_map shown_row rows) tt c.put_rows.result
    (rw c.len.ensures at c.in_ok-put_numbers-in-Rows.ensures) c.put_rows.ensures))
