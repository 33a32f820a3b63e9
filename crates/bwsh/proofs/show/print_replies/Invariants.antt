use Rattle.std.proofs.Common.{drop, []}
use Rattle.std.specs.List.{flat_map}
use Rattle.bwsh.specs.Shown.{shown_reply}
use Rattle.bwsh.proofs.ShowLemmas.{AreAdded}
use Rattle.bwsh.proofs.show.print_replies.Given as goal

-- the lines of the remaining replies are still to be added
abbrev pub invariant-loop-reply : goal.invariant-loop-reply
invariant-loop-reply g l =
    AreAdded (g.O.Write.contents l.fn.out) [] (g.O.Write.contents l.out) l.buffer.text.items (flat_map shown_reply l.replies) (flat_map shown_reply (drop l.reply-index l.replies))
