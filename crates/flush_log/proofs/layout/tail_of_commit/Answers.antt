use Rattle.std.proofs.Common.{true, false, sym, ◌∙◌}
use Rattle.flush_log.specs.Layout.{is_full_for_flush}
use Rattle.flush_log.proofs.AdmitLemmas.{admits_none, admits, full_at}
use Rattle.flush_log.proofs.layout.tail_of_commit.Goals as goal

pub returns-in-None : goal.returns-in-None
returns-in-None c t text of number head is =
    admits_none t (is_full_for_flush c.args.settings.now t.head t.tail) (c.in-None.ensures t text of number is)

pub returns-in-Some : goal.returns-in-Some
returns-in-Some c t text of number head is =
    admits t c.in-Some.after (is_full_for_flush c.args.settings.now t.head t.tail) true (c.in-Some.ensures t text of number is)
    (λ same. sym c.if-is_full.true ∙ c.is_full.ensures ∙ full_at c.args.settings.now t c.args.head c.in-Some.after head same)

pub returns-in-Some-2 : goal.returns-in-Some-2
returns-in-Some-2 c t text of number head is =
    admits t c.in-Some.after (is_full_for_flush c.args.settings.now t.head t.tail) false (c.in-Some.ensures t text of number is)
    (λ same. sym c.if-is_full.false ∙ c.is_full.ensures ∙ full_at c.args.settings.now t c.args.head c.in-Some.after head same)
