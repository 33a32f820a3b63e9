use Rattle.std.proofs.Common.{◌≡◌, length}
use Rattle.bwsh.specs.Token.{unescaped}
use Rattle.bwsh.specs.Token.{with_front}
use Rattle.bwsh.proofs.token.push_unescaped.Given as goal

-- the bytes so far, followed by the bytes that the rest encodes, are those that the text encodes
abbrev pub invariant-loop-rest : goal.invariant-loop-rest
invariant-loop-rest l = with_front l.bytes.items (unescaped l.rest) ≡ with_front l.fn.bytes.items (unescaped l.text)

abbrev pub decreases-loop-rest : goal.decreases-loop-rest
decreases-loop-rest l = length l.rest
