use Rattle.std.proofs.Common.{ℕ, List, [], ◌∷◌, ◌++◌, ◌∙◌, Err, Ok, ap, sym, length, take}
use Rattle.std.specs.Prelude.{codes, min}
use Rattle.std.specs.Fmt.{decimal}
use Rattle.std.specs.List.{flat_map}
use Rattle.std.proofs.lemmas.List.{length-take}
use Rattle.std.proofs.lemmas.Result.{err_from_is_err_and}
use Rattle.mapping.specs.Levels.{contents}
use Rattle.scan.specs.Prefix.{with_prefix}
use Rattle.bwsh.specs.Shown.{shown_row, shown_rows}
use Rattle.bwsh.proofs.ShowLemmas.{Puts-as, Puts-cut, Puts-then, Writes-put, Writes-put_out, rows_shown}
use Rattle.bwsh.proofs.context.Session.print_prefix.Goals as goal

pub returns-in_err-put_numbers : goal.returns-in_err-put_numbers
returns-in_err-put_numbers g c =
    let rows = take c.args.limit (with_prefix c.args.bytes.now (contents c.args.store.now.store.tree)) in
    let count = c.count_first-count.result in
    let end = c.from_residual in
    let first = c.new-buffer.result in
    let last = c.put_numbers.new in
    let line = codes "rows " ++ decimal count ++ 10 ∷ [] in
    let p = err_from_is_err_and end.result end.ensures.1 in
    Writes-put g.O.Write.contents first c.args.out.now last.self last.out (line ++ flat_map shown_row rows) (shown_rows rows ∷ []) c.in_err-put_numbers.field-0.0 end.result c.new-buffer.ensures
    (rows_shown rows count (c.count_first-count.ensures ∙ ap (λ (l : List (List ℕ × List ℕ)). min c.args.limit (length l)) c.prefix.ensures ∙ sym (length-take c.args.limit (with_prefix c.args.bytes.now (contents c.args.store.now.store.tree))))) p
    (Puts-cut g.O.Write.contents first c.args.out.now last.self last.out line (flat_map shown_row rows) c.in_err-put_numbers.field-0.0 c.in_err-put_numbers.ensures)

pub returns-in_err-put : goal.returns-in_err-put
returns-in_err-put g c =
    let rows = take c.args.limit (with_prefix c.args.bytes.now (contents c.args.store.now.store.tree)) in
    let count = c.count_first-count.result in
    let end = c.from_residual-in_err-put in
    let first = c.new-buffer.result in
    let mid = c.put_numbers.new in
    let last = c.put_first-put.new in
    let early = c.in_err-put.field-0.0 in
    let line = codes "rows " ++ decimal count ++ 10 ∷ [] in
    let p = err_from_is_err_and end.result end.ensures.1 in
    Writes-put g.O.Write.contents first c.args.out.now last.buffer last.out (line ++ flat_map shown_row rows) (shown_rows rows ∷ []) early end.result c.new-buffer.ensures
    (rows_shown rows count (c.count_first-count.ensures ∙ ap (λ (l : List (List ℕ × List ℕ)). min c.args.limit (length l)) c.prefix.ensures ∙ sym (length-take c.args.limit (with_prefix c.args.bytes.now (contents c.args.store.now.store.tree))))) p
    (Puts-then g.O.Write.contents first c.args.out.now mid.self mid.out last.buffer last.out line (flat_map shown_row rows) tt (Err early) c.in_ok-put_numbers.ensures
    (Puts-as g.O.Write.contents mid.self mid.out last.buffer last.out _ (flat_map shown_row rows) (Err early) (ap (flat_map shown_row) (ap (take c.args.limit) c.prefix-rows.ensures)) c.in_err-put.ensures))

pub returns : goal.returns
returns g c =
    let rows = take c.args.limit (with_prefix c.args.bytes.now (contents c.args.store.now.store.tree)) in
    let count = c.count_first-count.result in
    let first = c.new-buffer.result in
    let mid = c.put_numbers.new in
    let after = c.put_first-put.new in
    let last = c.write.new in
    let line = codes "rows " ++ decimal count ++ 10 ∷ [] in
    Writes-put_out g.O.Write.contents first c.args.out.now after.buffer after.out last.self last.out (line ++ flat_map shown_row rows) (shown_rows rows ∷ []) tt c.write.result c.new-buffer.ensures
    (rows_shown rows count (c.count_first-count.ensures ∙ ap (λ (l : List (List ℕ × List ℕ)). min c.args.limit (length l)) c.prefix.ensures ∙ sym (length-take c.args.limit (with_prefix c.args.bytes.now (contents c.args.store.now.store.tree)))))
    (Puts-then g.O.Write.contents first c.args.out.now mid.self mid.out after.buffer after.out line (flat_map shown_row rows) tt (Ok tt) c.in_ok-put_numbers.ensures
    (Puts-as g.O.Write.contents mid.self mid.out after.buffer after.out _ (flat_map shown_row rows) (Ok tt) (ap (flat_map shown_row) (ap (take c.args.limit) c.prefix-rows.ensures)) c.in_ok-put.ensures))
    c.write.ensures.puts c.write.ensures.text
