use Rattle.std.proofs.Common.{◌≡◌, take}
use Rattle.std.specs.List.{list_all}
use Rattle.bwsh.specs.Token.{stands_for_itself}
use Rattle.bwsh.proofs.token.are_plain.Given as goal

-- the bytes so far were tested
abbrev pub invariant-loop-byte : goal.invariant-loop-byte
invariant-loop-byte l = l.plain ≡ list_all stands_for_itself (take l.byte-index l.bytes)
