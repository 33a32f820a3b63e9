use Rattle.std.proofs.Common.{rules, ◌≡◌, ◌++◌, [], ◌∷◌, map, length, sym, ap, ◌∙◌, append_assoc, length-append, arith}
use Rattle.std.specs.List.{flat_map}
use Rattle.std.specs.Vec.Iter.{into_iter_items}
use Rattle.crew.specs.Home.{placed}
use Rattle.crew.proofs.DrawnLemmas.{placed_append}
use Rattle.crew.proofs.drawn.bring_home.Goals as goal

pub loop-hand-preserved : goal.loop-hand-preserved
loop-hand-preserved g c =
    let rest = into_iter_items c.next.new.self in let hand = c.in-Some.hand in
    let is : into_iter_items c.loop-hand.hand-iterator ≡ hand ∷ rest = search rules in
    let pushed : c.push_reserved.new.self.items ≡ c.loop-hand.passes.items ++ hand.pass ∷ [] = search rules in
    record {
      passes = ap (λ ps. ps ++ map (λ h. h.pass) rest) pushed ∙ append_assoc c.loop-hand.passes.items (hand.pass ∷ []) (map (λ h. h.pass) rest)
          ∙ ap (λ hs. c.loop-hand.passes.items ++ map (λ h. h.pass) hs) (sym is) ∙ c.loop-hand.invariant.passes;
      homes = ap (λ hs. placed hs (flat_map (λ h. h.worked.items) rest)) c.place_all.ensures
          ∙ placed_append c.loop-hand.homes.items hand.worked.items (flat_map (λ h. h.worked.items) rest)
          ∙ ap (λ hs. placed c.loop-hand.homes.items (flat_map (λ h. h.worked.items) hs)) (sym is) ∙ c.loop-hand.invariant.homes;
      room =
          let n = ap length is in let p = ap length pushed in let k = c.push_reserved.ensures.capacity in let r = c.loop-hand.invariant.room in
          omega (arith, length-append c.loop-hand.passes.items (hand.pass ∷ []));
    }
