use Rattle.std.proofs.Common.{[], refl, map, ◌+◌, ap, sym, drop, arith}
use Rattle.std.specs.List.{flat_map}
use Rattle.std.proofs.lemmas.List.{drop_all}
use Rattle.std.proofs.lemmas.Result.{err_from_is_err_and}
use Rattle.bwsh.specs.Shown.{shown_reply}
use Rattle.bwsh.proofs.Prints.{flat-map}
use Rattle.bwsh.proofs.ShowLemmas.{Writes-out, Writes-stopped, added-first, added-last, added-next, bytes_left}
use Rattle.bwsh.proofs.show.print_replies.Goals as goal

pub loop-reply-init : goal.loop-reply-init
loop-reply-init g c = rw c.new-buffer.ensures (added-first _ _ _)

pub returns-in_err-put_reply : goal.returns-in_err-put_reply
returns-in_err-put_reply g c =
    let at = c.loop-reply in
    let replies = c.args.replies.now in
    let p = err_from_is_err_and c.from_residual.result c.from_residual.ensures.1 in
    Writes-stopped g.O.Write.contents (g.O.Write.contents c.args.out.now) [] refl (map shown_reply replies) at.buffer at.out c.put_reply.new.self c.put_reply.new.out
    (flat_map shown_reply replies) (flat_map shown_reply (drop at.reply-index replies)) (shown_reply c.reply-item.result) (flat_map shown_reply (drop (at.reply-index + 1) replies)) c.in_err-put_reply.field-0.0 c.from_residual.result
    at.invariant (bytes_left shown_reply replies at.reply-index c.reply-item.result c.loop-reply-test.true c.reply-item.is) (sym (flat-map shown_reply replies)) p c.in_err-put_reply.ensures

pub loop-reply-preserved : goal.loop-reply-preserved
loop-reply-preserved g c =
    let at = c.loop-reply in
    let replies = c.args.replies.now in
    added-next _ _ _ _ _ _ at.invariant (shown_reply c.reply-item.result) (flat_map shown_reply (drop (at.reply-index + 1) replies))
    (bytes_left shown_reply replies at.reply-index c.reply-item.result c.loop-reply-test.true c.reply-item.is) _ _ c.in_ok-put_reply.ensures

pub returns : goal.returns
returns g c =
    let at = c.loop-reply in
    let replies = c.args.replies.now in
    Writes-out g.O.Write.contents (g.O.Write.contents c.args.out.now) [] refl (map shown_reply replies) at.buffer at.out c.write.new.self c.write.new.out (flat_map shown_reply replies) c.write.result
    (added-last _ _ _ _ _ _ at.invariant (ap (flat_map shown_reply) (drop_all at.reply-index replies (omega arith))))
    (sym (flat-map shown_reply replies)) c.write.ensures.puts c.write.ensures.text
