use Rattle.std.proofs.Common.{◌∙◌, refl, sym, true}
use Rattle.bwsh.proofs.SourceLemmas.{Orders-command, Orders-lost_command, Orders-too_long, Orders-too_many, ok_has}
use Rattle.bwsh.proofs.source.Source.add.Goals as goal

pub returns-then-is_err-clause-orders : goal.returns-then-is_err-clause-orders
returns-then-is_err-clause-orders g c =
    let discard = c.discard in
    Orders-lost_command c.args.self.now discard.new.self c.args.command discard.result discard.ensures.answer discard.ensures.pending (discard.ensures.queued ∙ c.requires)

pub returns-then-asks_too_much-clause-orders : goal.returns-then-asks_too_much-clause-orders
returns-then-asks_too_much-clause-orders g c =
    let (token, (placed, added)) = ok_has c.push.result c.is_err.result _ c.is_err.ensures.value c.if-is_err.false c.push.ensures.added in
    let discard = c.discard-then-asks_too_much in
    Orders-too_many c.args.self.now discard.new.self c.args.command c.push.new.self discard.result c.if-self.false added discard.ensures.answer
    (sym c.asks_too_much.ensures ∙ c.if-asks_too_much.true) discard.ensures.pending (discard.ensures.queued ∙ c.requires)

pub returns-then-is_too_long-clause-orders : goal.returns-then-is_too_long-clause-orders
returns-then-is_too_long-clause-orders g c =
    let ended = c.end_batch-batch in
    let (token, (placed, added)) = ok_has c.push.result c.is_err.result _ c.is_err.ensures.value c.if-is_err.false c.push.ensures.added in
    Orders-too_long c.args.self.now (record ended.new.self { is_discarded = true }) c.args.command c.push.new.self ended.result c.if-self.false added ended.ensures.batch
    (sym c.asks_too_much.ensures ∙ c.if-asks_too_much.false) (sym c.is_too_long.ensures ∙ c.if-is_too_long.true) refl (ended.ensures.queued ∙ c.requires)

pub returns-clause-orders : goal.returns-clause-orders
returns-clause-orders g c =
    let (token, (placed, added)) = ok_has c.push.result c.is_err.result _ c.is_err.ensures.value c.if-is_err.false c.push.ensures.added in
    Orders-command c.args.self.now c.args.command c.push.new.self c.requires c.if-self.false added (sym c.asks_too_much.ensures ∙ c.if-asks_too_much.false)
    (sym c.is_too_long.ensures ∙ c.if-is_too_long.false)
