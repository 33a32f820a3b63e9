use Rattle.std.proofs.Common.{rules, ◌≡◌, ◌≤◌, map, length, vec_capacity, sym, ap, subst, ◌∙◌}
use Rattle.std.proofs.lemmas.List.{length-map}
use Rattle.std.specs.List.{AllByRecursion, flat_map}
use Rattle.crew.specs.Home.{home_origins}
use Rattle.crew.proofs.DrawnLemmas.{by_recursion, pieces_accepted, homes_held}
use Rattle.crew.proofs.RoundLemmas.{ok_is, err_is}
use Rattle.crew.proofs.drawn.work_drawn.Goals as goal

pub draw_round-requires-clause-accepted : goal.draw_round-requires-clause-accepted
draw_round-requires-clause-accepted g c κs within =
    let accepted : g.row.W-Job.Denot → Type 0 = λ job. g.W.Work.accepts c.args.work.now (g.W.Work.held job) in
    pieces_accepted g.W.Work c.args.work.now c.in-Ok-cut.pieces.items
    (subst (AllByRecursion accepted) (sym c.in-Ok-cut.ensures.pieces) (by_recursion accepted c.args.jobs.items c.requires.accepted))

pub gather-requires-clause-room : goal.gather-requires-clause-room
gather-requires-clause-room g c κs within =
    let all = homes_held g.W.Work c.in-Ok-draw_round.homes.items c.in-Ok-cut.pieces.items c.args.jobs.items c.in-Ok-draw_round.ensures.home c.in-Ok-cut.ensures.pieces in
    let n : length (flat_map (home_origins g.W.Work) c.in-Ok-draw_round.homes.items) ≡ length c.args.jobs.items = ap length all ∙ length-map c.args.jobs.items g.W.Work.held in
    let jobs : length c.args.jobs.items ≤ vec_capacity c.cut.new.jobs = search rules in
    let dones : length c.args.jobs.items ≤ vec_capacity c.in-Ok.dones = search rules in
    (rw n jobs, rw n dones)

pub returns-in-Ok-draw_round-clause-made : goal.returns-in-Ok-draw_round-clause-made
returns-in-Ok-draw_round-clause-made g c =
    let all = homes_held g.W.Work c.in-Ok-draw_round.homes.items c.in-Ok-cut.pieces.items c.args.jobs.items c.in-Ok-draw_round.ensures.home c.in-Ok-cut.ensures.pieces in
    ok_is g.W.Work.outcome c.gather.result _ _ c.gather.ensures.made (sym (ap (map (g.W.Work.made c.args.work.now)) all))

pub returns-in-Ok-draw_round-clause-origin : goal.returns-in-Ok-draw_round-clause-origin
returns-in-Ok-draw_round-clause-origin g c =
    let all = homes_held g.W.Work c.in-Ok-draw_round.homes.items c.in-Ok-cut.pieces.items c.args.jobs.items c.in-Ok-draw_round.ensures.home c.in-Ok-cut.ensures.pieces in
    ok_is g.W.Work.origin c.gather.result _ _ c.gather.ensures.origin (sym all)

pub returns-in-Ok-draw_round-clause-held : goal.returns-in-Ok-draw_round-clause-held
returns-in-Ok-draw_round-clause-held g c =
    let all = homes_held g.W.Work c.in-Ok-draw_round.homes.items c.in-Ok-cut.pieces.items c.args.jobs.items c.in-Ok-draw_round.ensures.home c.in-Ok-cut.ensures.pieces in
    err_is g.W.Work.held c.gather.result _ _ c.gather.ensures.held (sym all)
