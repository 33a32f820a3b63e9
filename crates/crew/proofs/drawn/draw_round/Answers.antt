use Rattle.std.proofs.Common.{rules, ◌≡◌, ◌-◌, map, length, replicate, sym, ap, subst, ◌∙◌, arith}
use Rattle.std.specs.Prelude.{None}
use Rattle.std.specs.List.{AllByRecursion, flat_map}
use Rattle.std.proofs.lemmas.List.{length-map, length-replicate, length-reverse}
use Rattle.claim_board.specs.Passes.{pieces_of, drawn_by_all, Closes}
use Rattle.crew.specs.Drawn.{held_in}
use Rattle.crew.specs.Home.{placed, undrawn, home_origins, IsMadeHome}
use Rattle.crew.proofs.DrawnLemmas.{dealt, passes_of, left_length, length-placed, all_home, all_made}
use Rattle.crew.proofs.drawn.draw_round.Goals as goal

pub returns-in-Err-clause-back : goal.returns-in-Err-clause-back
returns-in-Err-clause-back g c = c.in-Err.ensures.refused

pub deal-requires : goal.deal-requires
deal-requires g c =
    let room = c.in-Ok-with_capacity.ensures in
    record { room = (room.items, omega (arith, room.capacity, c.in-Ok-open.ensures.as_many)) }

pub draw_all-requires-clause-accepted : goal.draw_all-requires-clause-accepted
draw_all-requires-clause-accepted g c κs within = rw c.in-Ok-open.ensures.pieces c.requires.accepted

pub draw_all-requires-clause-some : goal.draw_all-requires-clause-some
draw_all-requires-clause-some g c κs within =
    let passes = c.in-Ok-open.opened.1.items in
    omega (arith, ap length c.deal.ensures.passes, length-map c.deal.new.hands.items (λ hand. hand.pass), length-reverse passes, c.in-Ok-open.ensures.as_many, c.requires.workers.0)

pub draw_all-requires-clause-hands : goal.draw_all-requires-clause-hands
draw_all-requires-clause-hands g c κs within =
    dealt g.W.Work c.args.work.now c.in-Ok-open.opened.0 c.deal.new.hands.items c.in-Ok-open.opened.1.items c.deal.ensures.passes c.deal.ensures.none c.in-Ok-open.ensures.new

pub bring_home-requires : goal.bring_home-requires
bring_home-requires g c =
    let passes = c.in-Ok-open.opened.1.items in
    record {
      room = (
        c.deal.ensures.emptied,
        omega (
          arith,
          c.draw_all.ensures.len,
          ap length c.deal.ensures.passes,
          length-map c.deal.new.hands.items (λ hand. hand.pass),
          length-reverse passes,
          c.deal.ensures.same,
          c.in-Ok-open.opened.1.ok,
        ),
      );
    }

pub close-left-requires-clause-passes : goal.close-left-requires-clause-passes
close-left-requires-clause-passes g c =
    passes_of g.W.Work c.args.work.now c.in-Ok-open.opened.0 c.draw_all.new.hands.items c.bring_home.new.passes.items c.bring_home.ensures.passes c.draw_all.ensures.hands

pub overflow_sub-drawn : goal.overflow_sub-drawn
overflow_sub-drawn g c =
    let board = c.in-Ok-open.opened.0 in let hands = c.draw_all.new.hands.items in let left = c.close-left.result.items in
    let from = length (drawn_by_all (map (λ hand. hand.pass) hands)) in
    let closes : Closes (pieces_of board) (map (λ hand. hand.pass) hands) left =
    subst (λ ps. Closes (pieces_of board) ps left) c.bring_home.ensures.passes c.close-left.ensures in
    let len : c.len.result ≡ length (pieces_of board) = search rules in
    let empty : c.in-Ok.homes.items ≡ replicate (length (pieces_of board)) None = c.in-Ok.ensures ∙ ap (λ k. replicate k None) len in
    let brought : c.bring_home.new.homes.items ≡ placed (replicate (length (pieces_of board)) None) (flat_map (λ hand. hand.worked.items) hands) =
    c.bring_home.ensures.homes ∙ ap (λ hs. placed hs (flat_map (λ hand. hand.worked.items) hands)) empty in
    let homes : c.len-2.result ≡ length c.bring_home.new.homes.items = search rules in
    let rest : c.len-3.result ≡ length left = search rules in
    let all = left_length g.W.Work c.args.work.now board hands left c.draw_all.ensures.hands closes in
    let n : length c.bring_home.new.homes.items ≡ length (pieces_of board) =
    ap length brought ∙ length-placed (replicate (length (pieces_of board)) None) (flat_map (λ hand. hand.worked.items) hands) ∙ length-replicate (length (pieces_of board)) None in
    omega arith

pub returns-clause-home : goal.returns-clause-home
returns-clause-home g c =
    let board = c.in-Ok-open.opened.0 in let hands = c.draw_all.new.hands.items in let left = c.close-left.result.items in
    let from = length (drawn_by_all (map (λ hand. hand.pass) hands)) in
    let closes : Closes (pieces_of board) (map (λ hand. hand.pass) hands) left =
    subst (λ ps. Closes (pieces_of board) ps left) c.bring_home.ensures.passes c.close-left.ensures in
    let len : c.len.result ≡ length (pieces_of board) = search rules in
    let empty : c.in-Ok.homes.items ≡ replicate (length (pieces_of board)) None = c.in-Ok.ensures ∙ ap (λ k. replicate k None) len in
    let brought : c.bring_home.new.homes.items ≡ placed (replicate (length (pieces_of board)) None) (flat_map (λ hand. hand.worked.items) hands) =
    c.bring_home.ensures.homes ∙ ap (λ hs. placed hs (flat_map (λ hand. hand.worked.items) hands)) empty in
    let homes : c.len-2.result ≡ length c.bring_home.new.homes.items = search rules in
    let rest : c.len-3.result ≡ length left = search rules in
    let all = left_length g.W.Work c.args.work.now board hands left c.draw_all.ensures.hands closes in
    let n : length c.bring_home.new.homes.items ≡ length (pieces_of board) =
    ap length brought ∙ length-placed (replicate (length (pieces_of board)) None) (flat_map (λ hand. hand.worked.items) hands) ∙ length-replicate (length (pieces_of board)) None in
    let drawn : c.len-2.result - c.len-3.result ≡ from = omega arith in
    let placed_is : c.place_left.new.homes.items ≡ placed (placed (replicate (length (pieces_of board)) None) (flat_map (λ hand. hand.worked.items) hands)) (undrawn from left) =
    c.place_left.ensures ∙ ap (λ hs. placed hs (undrawn (c.len-2.result - c.len-3.result) left)) brought
    ∙ ap (λ k. placed (placed (replicate (length (pieces_of board)) None) (flat_map (λ hand. hand.worked.items) hands)) (undrawn k left)) drawn in
    ap (map (home_origins g.W.Work)) placed_is ∙ all_home g.W.Work c.args.work.now board hands left c.draw_all.ensures.hands closes
    ∙ ap (map (held_in g.W.Work)) c.in-Ok-open.ensures.pieces

pub returns-clause-made : goal.returns-clause-made
returns-clause-made g c =
    let board = c.in-Ok-open.opened.0 in let hands = c.draw_all.new.hands.items in let left = c.close-left.result.items in
    let from = length (drawn_by_all (map (λ hand. hand.pass) hands)) in
    let closes : Closes (pieces_of board) (map (λ hand. hand.pass) hands) left =
    subst (λ ps. Closes (pieces_of board) ps left) c.bring_home.ensures.passes c.close-left.ensures in
    let len : c.len.result ≡ length (pieces_of board) = search rules in
    let empty : c.in-Ok.homes.items ≡ replicate (length (pieces_of board)) None = c.in-Ok.ensures ∙ ap (λ k. replicate k None) len in
    let brought : c.bring_home.new.homes.items ≡ placed (replicate (length (pieces_of board)) None) (flat_map (λ hand. hand.worked.items) hands) =
    c.bring_home.ensures.homes ∙ ap (λ hs. placed hs (flat_map (λ hand. hand.worked.items) hands)) empty in
    let homes : c.len-2.result ≡ length c.bring_home.new.homes.items = search rules in
    let rest : c.len-3.result ≡ length left = search rules in
    let all = left_length g.W.Work c.args.work.now board hands left c.draw_all.ensures.hands closes in
    let n : length c.bring_home.new.homes.items ≡ length (pieces_of board) =
    ap length brought ∙ length-placed (replicate (length (pieces_of board)) None) (flat_map (λ hand. hand.worked.items) hands) ∙ length-replicate (length (pieces_of board)) None in
    let drawn : c.len-2.result - c.len-3.result ≡ from = omega arith in
    let placed_is : c.place_left.new.homes.items ≡ placed (placed (replicate (length (pieces_of board)) None) (flat_map (λ hand. hand.worked.items) hands)) (undrawn from left) =
    c.place_left.ensures ∙ ap (λ hs. placed hs (undrawn (c.len-2.result - c.len-3.result) left)) brought
    ∙ ap (λ k. placed (placed (replicate (length (pieces_of board)) None) (flat_map (λ hand. hand.worked.items) hands)) (undrawn k left)) drawn in
    subst (AllByRecursion (IsMadeHome g.W.Work c.args.work.now)) (sym placed_is) (all_made g.W.Work c.args.work.now board hands left c.draw_all.ensures.hands closes)
