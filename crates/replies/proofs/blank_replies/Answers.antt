use Rattle.std.proofs.Common.{◌∷◌, [], ◌++◌, map, take, sym, ap, ◌∙◌, arith}
use Rattle.std.proofs.lemmas.List.{map-append, take_all}
use Rattle.std.proofs.lemmas.Grind.{take_at_read}
use Rattle.replies.specs.ByPlace.{blank_of}
use Rattle.replies.proofs.blank_replies.Goals as goal

pub push_reserved-requires : goal.push_reserved-requires
push_reserved-requires c = omega (arith, c.loop-command.invariant.len, c.loop-command.invariant.room, c.loop-command-test.true)

pub loop-command-preserved : goal.loop-command-preserved
loop-command-preserved c =
    let commands = c.args.commands.now in let at = c.loop-command.command-index in let command = c.command-item.result in
    let next = take_at_read commands at command (omega (arith, c.loop-command-test.true)) in
    record {
      blanks = c.push_reserved.ensures.items ∙ ap (λ bs. bs ++ c.blank.result ∷ []) c.loop-command.invariant.blanks
          ∙ ap (λ b. map blank_of (take at commands) ++ b ∷ []) (c.blank.ensures ∙ ap blank_of c.command-item.is)
          ∙ sym (ap (map blank_of) next.1 ∙ map-append blank_of (take at commands) _);
      len = omega (arith, c.push_reserved.ensures.len, c.loop-command.invariant.len);
      room = c.push_reserved.ensures.capacity ∙ c.loop-command.invariant.room;
    }

pub returns : goal.returns
returns c =
    let all = take_all c.loop-command.command-index c.args.commands.now (omega (arith, c.loop-command-test.false)) in
    rw all at c.loop-command.invariant.blanks
