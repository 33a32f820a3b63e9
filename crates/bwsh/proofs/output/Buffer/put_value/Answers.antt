use Rattle.std.proofs.Common.{[], ◌∷◌, ◌++◌}
use Rattle.std.specs.Prelude.{codes}
use Rattle.std.proofs.lemmas.Result.{err_from_is_err_and}
use Rattle.bwsh.specs.Token.{shown_token}
use Rattle.bwsh.proofs.ShowLemmas.{Puts-early, Puts-then}
use Rattle.bwsh.proofs.output.Buffer.put_value.Goals as goal

pub returns-in_err-put : goal.returns-in_err-put
returns-in_err-put g c =
    let p = err_from_is_err_and c.from_residual.result c.from_residual.ensures.1 in
    Puts-early g.O.Write.contents c.args.self.now c.args.out.now c.put.new.self c.put.new.out (codes "value ") (shown_token c.args.value.now ++ 10 ∷ []) c.in_err-put.field-0.0 c.from_residual.result p c.in_err-put.ensures

pub returns-in_err-put_token : goal.returns-in_err-put_token
returns-in_err-put_token g c =
    let end = c.from_residual-in_err-put_token in
    let p = err_from_is_err_and end.result end.ensures.1 in
    Puts-then g.O.Write.contents c.args.self.now c.args.out.now c.put.new.self c.put.new.out c.put_token.new.buffer c.put_token.new.out (codes "value ") (shown_token c.args.value.now ++ 10 ∷ []) tt end.result c.in_ok-put.ensures
    (Puts-early g.O.Write.contents c.put.new.self c.put.new.out c.put_token.new.buffer c.put_token.new.out (shown_token c.args.value.now) (10 ∷ []) c.in_err-put_token.field-0.0 end.result p c.in_err-put_token.ensures)

pub returns : goal.returns
returns g c =
    Puts-then g.O.Write.contents c.args.self.now c.args.out.now c.put.new.self c.put.new.out c.put-2.new.self c.put-2.new.out (codes "value ") (shown_token c.args.value.now ++ 10 ∷ []) tt c.put-2.result c.in_ok-put.ensures
    (Puts-then g.O.Write.contents c.put.new.self c.put.new.out c.put_token.new.buffer c.put_token.new.out c.put-2.new.self c.put-2.new.out (shown_token c.args.value.now) (10 ∷ []) tt c.put-2.result c.in_ok-put_token.ensures c.put-2.ensures)
