use Rattle.bwsh.proofs.SourceLemmas.{IsRead-skipped, IsRead-whole}
use Rattle.bwsh.proofs.source.Source.try_read.Goals as goal

pub returns-in-Ok-clause-read : goal.returns-in-Ok-clause-read
returns-in-Ok-clause-read g c =
    let source = c.args.self.now in
    let read = c.in-Ok.ensures in
    rw c.parse.ensures.input (IsRead-whole source.bounds.is_stream (g.I.Read.remaining source.input) (g.I.Read.remaining c.read_until.new.self) c.clear.new.self.items c.read_until.new.buf.items c.parse.result
    c.clear.ensures.items read.bytes read.rest c.parse.ensures.parsed)

pub returns-in-Err-clause-read : goal.returns-in-Err-clause-read
returns-in-Err-clause-read g c =
    let source = c.args.self.now in
    let read = c.read_until in
    IsRead-skipped source.bounds.is_stream (g.I.Read.remaining source.input) (g.I.Read.remaining read.new.self) (g.I.Read.remaining c.lose_line.new.self.input) c.clear.new.self.items read.new.buf.items
    c.lose_line.result c.clear.ensures.items read.ensures.none_lost c.lose_line.ensures.lost
