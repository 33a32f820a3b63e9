use Rattle.std.proofs.Common.{drop}
use Rattle.std.specs.List.{flat_map}
use Rattle.bwsh.specs.Token.{shown_byte}
use Rattle.bwsh.proofs.ShowLemmas.{AreAdded}
use Rattle.bwsh.proofs.token.put_token.Given as goal

-- the bytes that are left are still to be added
abbrev pub invariant-loop-byte : goal.invariant-loop-byte
invariant-loop-byte g l =
    AreAdded (g.O.Write.contents l.fn.out) l.fn.buffer.text.items (g.O.Write.contents l.out) l.buffer.text.items (flat_map shown_byte l.bytes) (flat_map shown_byte (drop l.byte-index l.bytes))
