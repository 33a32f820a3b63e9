use Rattle.std.proofs.Common.{List, subst, ℕ}
use Rattle.bwsh.proofs.SourceLemmas.{IsParsed-lost, IsSkippedWhole}
use Rattle.bwsh.proofs.source.Source.lose_line.Goals as goal

pub returns-clause-lost : goal.returns-clause-lost
returns-clause-lost g c =
    let text = c.args.self.now.text.items in
    let known = g.I.Read.remaining c.args.self.now.input in
    let left = g.I.Read.remaining c.skip_rest.new.input in
    let last = c.in_ok-last.last in
    let whole : IsSkippedWhole known left text last = subst (λ (read : List ℕ). IsSkippedWhole known left read last) c.deref.ensures.value c.in_ok-last.ensures in
    IsParsed-lost c.args.self.now.bounds.is_stream c.requires.text known left text last c.is_line.result c.then_some.result whole c.is_line.ensures c.then_some.ensures
