use Rattle.std.specs.Prelude.{◌≡◌, ◌<◌, ◌^◌, ◌-◌}
use Rattle.std.proofs.Common.{ap, ◌∙◌, arith, length, length-append, List, ℕ, ◌+◌, ◌∷◌, [], Option, Bor}
use Rattle.scan.proofs.EndLemmas.{ends_on}
use Rattle.scan.proofs.TakenLemmas.{taken_on, ready_still}
use Rattle.scan.proofs.ends.all_ends.Goals as goal

pub loop-command-preserved : goal.loop-command-preserved
loop-command-preserved c =
    let within = c.loop-command-test.true in
    let count = c.loop-command.invariant.count in
    let made = c.in_ok-push.ensures.items in
    let longer : length c.push.new.self.items ≡ c.loop-command.command-index + 1 = ap (λ (x : List (Option (Bor (List ℕ)))). length x) made ∙ length-append c.loop-command.ends.items (c.end_of.result ∷ []) ∙ ap (λ (n : ℕ). n + 1) count in
    let long = c.push.new.self.ok.0 in
    let small = c.push.new.self.small in
    let fits : c.loop-command.command-index < 2 ^ 64 - 1 = omega (arith, longer, long, small) in
    record {
      taken = taken_on c.args.commands.now c.loop-command.command-index c.command-item.result c.loop-command.taken c.note.new.self (omega (arith, within)) fits c.command-item.is c.loop-command.invariant.ready c.note.ensures.taken c.loop-command.invariant.taken;
      ready = ready_still c.args.commands.now c.loop-command.taken c.note.new.self c.loop-command.invariant.ready c.note.ensures.keys;
      count = longer;
      ends = ends_on _ _ c.args.commands.now c.loop-command.command-index c.command-item.result _ _ c.end_of.result c.loop-command.taken (omega (arith, within)) c.command-item.is count made c.loop-command.invariant.taken c.end_of.ensures c.loop-command.invariant.ends;
    }
