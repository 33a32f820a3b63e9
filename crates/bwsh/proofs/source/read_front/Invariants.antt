use Rattle.bwsh.proofs.LongLemmas.{IsBegun}
use Rattle.bwsh.proofs.source.read_front.Given as goal

-- the bytes read so far are the beginning of a line
abbrev pub invariant-loop : goal.invariant-loop
invariant-loop g l = IsBegun (g.I.Read.remaining l.fn.input) (g.I.Read.remaining l.input) l.text.items
