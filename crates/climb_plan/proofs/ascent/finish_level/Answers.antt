-- Proof for finish_level of ascent.rt.
use Rattle.climb_plan.proofs.ThroughBack.{refused_away, refused_fresh, refused_back}
use Rattle.climb_plan.proofs.ThroughClimb.{away_here, away_for, installs_here, climbs_here, low_here, high_here, climbed_by, refused_by}
use Rattle.climb_plan.proofs.ascent.finish_level.Goals as goal

pub put_home-requires : goal.put_home-requires
put_home-requires g c =
    let w = c.requires.0 in
    let can = c.requires.1 in
    let up = climbed_by c.args.settings.now w c.args.tree.now c.args.climbed _ c.in-Ok.is can.ended in
    (search, away_for g.D.UpdatedPage.seen_page c.args.tree.now c.args.dones.items (away_here can.updated up.climbs))

pub install_all-requires : goal.install_all-requires
install_all-requires g c =
    let w = c.requires.0 in
    let can = c.requires.1 in
    let up = climbed_by c.args.settings.now w c.args.tree.now c.args.climbed _ c.in-Ok.is can.ended in
    installs_here can.updated up.climbs c.put_home.ensures c.is_of_a_kind.ensures

pub returns-in-Ok-clause-climbed : goal.returns-in-Ok-clause-climbed
returns-in-Ok-clause-climbed g c = λ w can.
    let up = climbed_by c.args.settings.now w c.args.tree.now c.args.climbed _ c.in-Ok.is can.ended in
    climbs_here can.updated up.climbs c.put_home.ensures c.install_all.ensures

pub returns-in-Ok-clause-low : goal.returns-in-Ok-clause-low
returns-in-Ok-clause-low g c =
    let w = c.requires.0 in
    let can = c.requires.1 in
    let up = climbed_by c.args.settings.now w c.args.tree.now c.args.climbed _ c.in-Ok.is can.ended in
    low_here can.updated up.climbs c.put_home.ensures c.install_all.ensures up.low

pub undo_parents-requires : goal.undo_parents-requires
undo_parents-requires g c =
    let w = c.requires.0 in
    let can = c.requires.1 in
    let down = refused_by c.args.settings.now w c.args.tree.now c.args.climbed _ c.in-Err.is can.ended in
    refused_away can.updated down.same down.back

pub free_drawn-requires : goal.free_drawn-requires
free_drawn-requires g c =
    let w = c.requires.0 in
    let can = c.requires.1 in
    let down = refused_by c.args.settings.now w c.args.tree.now c.args.climbed _ c.in-Err.is can.ended in
    refused_fresh can.updated down.same down.back c.undo_parents.ensures c.deref.ensures.value

pub returns-in-Err-clause-err : goal.returns-in-Err-clause-err
returns-in-Err-clause-err g c = λ w can.
    let down = refused_by c.args.settings.now w c.args.tree.now c.args.climbed _ c.in-Err.is can.ended in
    refused_back can.updated down.same down.back c.undo_parents.ensures c.deref.ensures.value c.free_drawn.ensures (λ m n r o. c.drawn_pids_get_places_that_are_away.ensures.freed m n r o)

pub returns-in-Err-clause-high : goal.returns-in-Err-clause-high
returns-in-Err-clause-high g c = λ w can too_high.
    let down = refused_by c.args.settings.now w c.args.tree.now c.args.climbed _ c.in-Err.is can.ended in
    high_here can.updated (down.high too_high)
