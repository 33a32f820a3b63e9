use Rattle.std.proofs.Common.{◌+◌, Ok, sym, ap, ◌∙◌, drop, get_or, arith}
use Rattle.std.specs.List.{flat_map}
use Rattle.std.proofs.lemmas.List.{drop_all, drop_more}
use Rattle.std.proofs.lemmas.Result.{err_from_is_err_and}
use Rattle.bwsh.specs.Token.{shown_byte, shown_token}
use Rattle.bwsh.proofs.TokenLemmas.{shown_token-plain, shown_token-some}
use Rattle.bwsh.proofs.ShowLemmas.{Puts-as, Puts-stopped, added-first, added-last, added-next}
use Rattle.bwsh.proofs.token.put_token.Goals as goal

pub returns-then-are_plain : goal.returns-then-are_plain
returns-then-are_plain g c =
    let bytes = c.args.bytes.now in
    let put = c.put-then-are_plain in
    Puts-as g.O.Write.contents c.args.buffer.now c.args.out.now put.new.self put.new.out bytes (shown_token bytes) put.result
    (sym (shown_token-plain bytes (sym c.is_empty.ensures ∙ c.if-is_empty.false) (sym c.are_plain.ensures ∙ c.if-are_plain.true))) put.ensures

pub loop-byte-init : goal.loop-byte-init
loop-byte-init g c = added-first _ _ _

pub returns-in_err-put_byte : goal.returns-in_err-put_byte
returns-in_err-put_byte g c =
    let at = c.loop-byte in
    let bytes = c.args.bytes.now in
    let put = c.put_byte in
    let p = err_from_is_err_and c.from_residual.result c.from_residual.ensures.1 in
    Puts-as g.O.Write.contents c.args.buffer.now c.args.out.now put.new.buffer put.new.out (flat_map shown_byte bytes) (shown_token bytes) c.from_residual.result
    (sym (shown_token-some bytes (sym c.is_empty.ensures ∙ c.if-is_empty.false)))
    (Puts-stopped g.O.Write.contents c.args.buffer.now c.args.out.now at.buffer at.out put.new.buffer put.new.out (flat_map shown_byte bytes) (flat_map shown_byte (drop at.byte-index bytes))
    (shown_byte (get_or bytes at.byte-index 0)) (flat_map shown_byte (drop (at.byte-index + 1) bytes)) c.in_err-put_byte.field-0.0 c.from_residual.result
    at.invariant (ap (flat_map shown_byte) (drop_more bytes at.byte-index 0 c.loop-byte-test.true)) p c.in_err-put_byte.ensures)

pub loop-byte-preserved : goal.loop-byte-preserved
loop-byte-preserved g c =
    let at = c.loop-byte in
    let bytes = c.args.bytes.now in
    added-next _ _ _ _ _ _ at.invariant (shown_byte (get_or bytes at.byte-index 0)) (flat_map shown_byte (drop (at.byte-index + 1) bytes))
    (ap (flat_map shown_byte) (drop_more bytes at.byte-index 0 c.loop-byte-test.true)) _ _ c.in_ok-put_byte.ensures

pub returns : goal.returns
returns g c =
    let at = c.loop-byte in
    let bytes = c.args.bytes.now in
    Puts-as g.O.Write.contents c.args.buffer.now c.args.out.now at.buffer at.out (flat_map shown_byte bytes) (shown_token bytes) (Ok tt)
    (sym (shown_token-some bytes (sym c.is_empty.ensures ∙ c.if-is_empty.false)))
    (added-last _ _ _ _ _ _ at.invariant (ap (flat_map shown_byte) (drop_all at.byte-index bytes (omega arith))))
