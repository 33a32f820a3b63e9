use Rattle.bwsh.proofs.SourceLemmas.{Skips}
use Rattle.bwsh.proofs.source.skip_rest.Given as goal

-- the bytes skipped so far, after the bytes read first, are the beginning of a line
abbrev pub invariant-loop : goal.invariant-loop
invariant-loop g l = Skips (g.I.Read.remaining l.fn.input) (g.I.Read.remaining l.input) l.fn.read l.last
