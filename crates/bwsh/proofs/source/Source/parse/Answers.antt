use Rattle.std.proofs.Common.{◌∙◌, ap}
use Rattle.bstr.specs.Text.{last_byte_of, without_terminator}
use Rattle.bwsh.proofs.SourceLemmas.{IsParsed-none, IsParsed-some}
use Rattle.bwsh.proofs.source.Source.parse.Goals as goal

pub returns-then-not-is_line-clause-parsed : goal.returns-then-not-is_line-clause-parsed
returns-then-not-is_line-clause-parsed g c =
    IsParsed-none c.args.self.now.bounds.is_stream c.args.self.now.text.items c.last_byte-last.result c.is_line.result c.is_line.ensures
    (c.last_byte-last.ensures ∙ ap last_byte_of c.as_slice.ensures.value) c.if-not-is_line.true

pub returns-clause-parsed : goal.returns-clause-parsed
returns-clause-parsed g c =
    IsParsed-some c.args.self.now.bounds.is_stream c.args.self.now.text.items c.without_end.result.now c.last_byte-last.result c.is_line.result c.read.result c.is_line.ensures
    (c.last_byte-last.ensures ∙ ap last_byte_of c.as_slice.ensures.value) c.if-not-is_line.false
    (c.without_end.ensures ∙ ap without_terminator c.deref.ensures.value) c.read.ensures
