use Rattle.std.proofs.Common.{rules, ◌≡◌, ◌++◌, [], ◌∷◌, map, sym, ap, subst, ◌∙◌}
use Rattle.std.proofs.lemmas.List.{map-append}
use Rattle.std.specs.List.{AllByRecursion}
use Rattle.claim_board.specs.Passes.{pieces_of}
use Rattle.crew.specs.Home.{IsWorkedOf}
use Rattle.crew.proofs.DrawnLemmas.{all_append, is_worked}
use Rattle.crew.proofs.drawn.draw_and_work.Goals as goal

pub loop-init : goal.loop-init
loop-init g c = c.requires.hand

pub returns-in_default : goal.returns-in_default
returns-in_default g c = record {
  pass = c.loop.invariant.pass;
  numbers = rw c.reserve.ensures.items c.loop.invariant.numbers;
  worked = rw c.reserve.ensures.items c.loop.invariant.worked;
}

pub returns-in_default-claim : goal.returns-in_default-claim
returns-in_default-claim g c = record {
  pass = c.claim.ensures.same_board;
  numbers = rw c.reserve.ensures.items c.loop.invariant.numbers ∙ sym c.in_default-claim.ensures.none;
  worked = rw c.reserve.ensures.items c.loop.invariant.worked;
}

pub returns : goal.returns
returns g c = c.loop.invariant

pub loop-preserved : goal.loop-preserved
loop-preserved g c =
    let pieces = pieces_of c.args.board.now in let w = c.args.work.now in
    let number = c.in-Some.found.0 in let made = c.work_in_turn-made.result in
    let before = c.loop.hand.worked.items in
    let pushed : c.push_reserved.new.self.items ≡ before ++ record { number = number; made = made } ∷ [] = search rules in
    let ends = c.work_in_turn-made.ensures in
    let is = is_worked g.W.Work w pieces number c.in-Some.found.1 made c.in-Some.ensures.piece ends.made ends.origin ends.held in
    record {
      pass = c.claim.ensures.same_board;
      numbers = ap (map (λ x. x.number)) pushed ∙ map-append (λ x. x.number) before (record { number = number; made = made } ∷ [])
          ∙ ap (λ ns. ns ++ number ∷ []) c.loop.invariant.numbers ∙ sym c.in-Some.ensures.drawn;
      worked = subst (AllByRecursion (IsWorkedOf g.W.Work w pieces)) (sym pushed)
          (all_append (IsWorkedOf g.W.Work w pieces) before (record { number = number; made = made } ∷ []) c.loop.invariant.worked (is, tt));
    }
