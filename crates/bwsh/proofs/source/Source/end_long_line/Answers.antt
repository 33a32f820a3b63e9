use Rattle.std.proofs.Common.{◌∙◌, List, ap, subst, ℕ}
use Rattle.bstr.specs.Text.{without_terminator}
use Rattle.bwsh.proofs.LongLemmas.{long_parsed}
use Rattle.bwsh.proofs.SourceLemmas.{IsSkippedWhole}
use Rattle.bwsh.proofs.source.Source.end_long_line.Goals as goal

pub returns-clause-parsed : goal.returns-clause-parsed
returns-clause-parsed g c =
    let source = c.args.self.now in
    let text = source.text.items in
    let known = g.I.Read.remaining source.input in
    let left = g.I.Read.remaining c.skip_rest.new.input in
    let last = c.in_ok-last.last in
    let whole : IsSkippedWhole known left text last = subst (λ (read : List ℕ). IsSkippedWhole known left read last) c.deref.ensures.value c.in_ok-last.ensures in
    long_parsed source.bounds.is_stream c.requires.stream known left text c.without_end.result.now last c.is_line.result c.read.result whole c.is_line.ensures c.if-not-is_line.false
    c.requires.long (c.without_end.ensures ∙ ap without_terminator c.deref-2.ensures.value) c.read.ensures
