use Rattle.std.proofs.Common.{[], false, refl, rules, subst, true}
use Rattle.bwsh.specs.Source.{IsFront}
use Rattle.bwsh.proofs.SourceLemmas.{IsRead-skipped, IsRead-whole}
use Rattle.bwsh.proofs.source.Source.try_read_bounded.Goals as goal

pub returns-then-branch-clause-read : goal.returns-then-branch-clause-read
returns-then-branch-clause-read g c =
    let source = c.args.self.now in
    let known = g.I.Read.remaining source.input in
    let left = g.I.Read.remaining c.read_front.new.input in
    let text = c.read_front.new.text.items in
    let front = subst (IsFront known left text) {y = true} (search rules) c.in_ok-read_front.ensures in
    rw c.parse.ensures.input (IsRead-whole source.bounds.is_stream known left [] text c.parse.result refl front.0 front.1 c.parse.ensures.parsed)

pub returns-clause-read : goal.returns-clause-read
returns-clause-read g c =
    let source = c.args.self.now in
    let known = g.I.Read.remaining source.input in
    let left = g.I.Read.remaining c.read_front.new.input in
    let text = c.read_front.new.text.items in
    let front = subst (IsFront known left text) {y = false} (search rules) c.in_ok-read_front.ensures in
    IsRead-skipped source.bounds.is_stream known left (g.I.Read.remaining c.end_long_line.new.self.input) [] text c.end_long_line.result refl front.0 c.end_long_line.ensures.parsed
