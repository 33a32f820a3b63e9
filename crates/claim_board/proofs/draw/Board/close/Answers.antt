use Rattle.std.proofs.Common.{◌≡◌, [], ◌∙◌, rules}
use Rattle.claim_board.specs.Passes.{pieces_of}
use Rattle.claim_board.proofs.Gathering.{gathers_first, gathers_next, closes}
use Rattle.claim_board.proofs.draw.Board.close.Goals as goal

pub loop-pass-init : goal.loop-pass-init
loop-pass-init g c =
    let first = gathers_first c.args.self c.args.passes.items c.pop.new.self.items c.in-Some.first c.requires.passes c.in-Some.ensures.items in
    (search rules, first)

pub loop-pass-preserved : goal.loop-pass-preserved
loop-pass-preserved g c =
    let e = c.gather.ensures in (
      e.same ∙ c.loop-pass.invariant.0,
      gathers_next c.args.self c.loop-pass.all.me.0 c.gather.new.all.me.0 c.args.passes.items c.loop-pass.passes.items c.pop-in-loop-pass.new.self.items c.in-Some-pop.pass
          c.in-Some-pop.ensures.items c.loop-pass.invariant.1 e.passes e.drawn e.misses,
    )

pub returns : goal.returns
returns g c =
    let none : c.loop-pass.passes.items ≡ [] = search rules in
    closes c.args.self c.loop-pass.all.me.0 (pieces_of c.args.self) c.give_back.result.items c.loop-pass.passes.items c.args.passes.items none c.requires.passes c.loop-pass.invariant.1 c.give_back.ensures
