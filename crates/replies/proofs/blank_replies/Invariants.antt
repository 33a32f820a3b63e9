use Rattle.std.proofs.Common.{◌≡◌, length, map, take}
use Rattle.std.specs.Prelude.{vec_len, vec_capacity}
use Rattle.replies.specs.ByPlace.{blank_of}
use Rattle.replies.proofs.blank_replies.Given as goal

-- there is one for each command so far, and room for the rest
abbrev pub invariant-loop-command : goal.invariant-loop-command
invariant-loop-command l = record {
  blanks : l.blanks.items ≡ map blank_of (take l.command-index l.commands);
  len : vec_len l.blanks ≡ l.command-index;
  room : vec_capacity l.blanks ≡ length l.commands;
}
