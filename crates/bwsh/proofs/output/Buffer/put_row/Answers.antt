use Rattle.std.proofs.Common.{[], ◌∷◌, ◌++◌}
use Rattle.std.proofs.lemmas.Result.{err_from_is_err_and}
use Rattle.bwsh.specs.Shown.{shown_row}
use Rattle.bwsh.specs.Token.{shown_token}
use Rattle.bwsh.proofs.ShowLemmas.{Puts-as, Puts-early, Puts-then, row_joined}
use Rattle.bwsh.proofs.output.Buffer.put_row.Goals as goal

pub returns-in_err-put_token : goal.returns-in_err-put_token
returns-in_err-put_token g c =
    let end = c.from_residual in
    let last = c.put_token.new in
    let p = err_from_is_err_and end.result end.ensures.1 in
    let key = shown_token c.args.key.now in
    let value = shown_token c.args.value.now in
    Puts-as g.O.Write.contents c.args.self.now c.args.out.now last.buffer last.out (key ++ (32 ∷ (value ++ 10 ∷ []))) (shown_row (c.args.key.now, c.args.value.now)) end.result (row_joined key value)
    (Puts-early g.O.Write.contents c.args.self.now c.args.out.now last.buffer last.out key (32 ∷ (value ++ 10 ∷ [])) c.in_err-put_token.field-0.0 end.result p c.in_err-put_token.ensures)

pub returns-in_err-put : goal.returns-in_err-put
returns-in_err-put g c =
    let end = c.from_residual-in_err-put in
    let last = c.put.new in
    let p = err_from_is_err_and end.result end.ensures.1 in
    let key = shown_token c.args.key.now in
    let value = shown_token c.args.value.now in
    Puts-as g.O.Write.contents c.args.self.now c.args.out.now last.self last.out (key ++ (32 ∷ (value ++ 10 ∷ []))) (shown_row (c.args.key.now, c.args.value.now)) end.result (row_joined key value)
    (Puts-then g.O.Write.contents c.args.self.now c.args.out.now c.put_token.new.buffer c.put_token.new.out last.self last.out key (32 ∷ (value ++ 10 ∷ [])) tt end.result c.in_ok-put_token.ensures
    (Puts-early g.O.Write.contents c.put_token.new.buffer c.put_token.new.out last.self last.out (32 ∷ []) (value ++ 10 ∷ []) c.in_err-put.field-0.0 end.result p c.in_err-put.ensures))

pub returns-in_err-put_token-2 : goal.returns-in_err-put_token-2
returns-in_err-put_token-2 g c =
    let end = c.from_residual-in_err-put_token-2 in
    let last = c.put_token-2.new in
    let p = err_from_is_err_and end.result end.ensures.1 in
    let key = shown_token c.args.key.now in
    let value = shown_token c.args.value.now in
    Puts-as g.O.Write.contents c.args.self.now c.args.out.now last.buffer last.out (key ++ (32 ∷ (value ++ 10 ∷ []))) (shown_row (c.args.key.now, c.args.value.now)) end.result (row_joined key value)
    (Puts-then g.O.Write.contents c.args.self.now c.args.out.now c.put_token.new.buffer c.put_token.new.out last.buffer last.out key (32 ∷ (value ++ 10 ∷ [])) tt end.result c.in_ok-put_token.ensures
    (Puts-then g.O.Write.contents c.put_token.new.buffer c.put_token.new.out c.put.new.self c.put.new.out last.buffer last.out (32 ∷ []) (value ++ 10 ∷ []) tt end.result c.in_ok-put.ensures
    (Puts-early g.O.Write.contents c.put.new.self c.put.new.out last.buffer last.out value (10 ∷ []) c.in_err-put_token-2.field-0.0 end.result p c.in_err-put_token-2.ensures)))

pub returns : goal.returns
returns g c =
    let last = c.put-2.new in
    let key = shown_token c.args.key.now in
    let value = shown_token c.args.value.now in
    Puts-as g.O.Write.contents c.args.self.now c.args.out.now last.self last.out (key ++ (32 ∷ (value ++ 10 ∷ []))) (shown_row (c.args.key.now, c.args.value.now)) c.put-2.result (row_joined key value)
    (Puts-then g.O.Write.contents c.args.self.now c.args.out.now c.put_token.new.buffer c.put_token.new.out last.self last.out key (32 ∷ (value ++ 10 ∷ [])) tt c.put-2.result c.in_ok-put_token.ensures
    (Puts-then g.O.Write.contents c.put_token.new.buffer c.put_token.new.out c.put.new.self c.put.new.out last.self last.out (32 ∷ []) (value ++ 10 ∷ []) tt c.put-2.result c.in_ok-put.ensures
    (Puts-then g.O.Write.contents c.put.new.self c.put.new.out c.put_token-2.new.buffer c.put_token-2.new.out last.self last.out value (10 ∷ []) tt c.put-2.result c.in_ok-put_token-2.ensures c.put-2.ensures)))
