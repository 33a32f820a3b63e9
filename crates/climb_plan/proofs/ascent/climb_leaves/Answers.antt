-- Proof for climb_leaves of ascent.rt.
use Rattle.std.proofs.Common.{◌≡◌, ◌-◌, length, arith}
use Rattle.std.specs.Vec.{vec_len}
use Rattle.index_page.specs.Page.PageOfKind.{Leaf}
use Rattle.climb_plan.specs.Changing.{page_seen, leaves_seen}
use Rattle.climb_plan.specs.LevelSteps.{Working, IsWorkedOn, CanEnd}
use Rattle.climb_plan.proofs.ThroughClimb.{children_for, works_for, none_by, nothing_done, some_above, low_above, have_ended, ended_climbs, ended_back, ended_high}
use Rattle.climb_plan.proofs.ascent.climb_leaves.Goals as goal
use Rattle.climb_plan.proofs.ascent.climb_leaves.Goals.{In-Ok}
use Rattle.climb_plan.proofs.ascent.climb_leaves.Given as given

-- the level, after its parents got terms
abbrev working : (g : given.Over) (c : In-Ok g) → Working
working g c = record { depth = c.args.depth; before = c.args.tree.now; ready = c.change_level.new.tree; parents = c.in-Ok.changed.parents.items }

-- and the facts about it then
here : (g : given.Over) (c : In-Ok g) → IsWorkedOn Leaf c.args.settings.now (working g c) (leaves_seen c.args.dones.items) c.in-Ok.changed.groups.items
here g c = record {
  fan = c.requires.fan;
  deep = c.if-depth-eq0.false;
  level = c.requires.level;
  works = works_for Leaf (λ d. page_seen Leaf d.made.updated) c.args.dones.items c.deref.result.now (c.args.depth - 1) c.deref.ensures.value c.in-Ok.ensures.changed;
}

pub returns-then-is_empty-clause-climbed : goal.returns-then-is_empty-clause-climbed
returns-then-is_empty-clause-climbed g c =
    let zero : vec_len c.args.dones ≡ 0 = none_by c.is_empty.result (vec_len c.args.dones) c.is_empty.ensures c.if-is_empty.true in
    let ok = c.args.dones.ok in
    let empty : length c.args.dones.items ≡ 0 = omega arith in
    nothing_done Leaf (λ d. page_seen Leaf d.made.updated) c.args.settings.now c.args.tree.now c.args.dones.items c.args.depth empty

pub change_level-requires-clause-level : goal.change_level-requires-clause-level
change_level-requires-clause-level g c κs within =
    children_for Leaf (λ d. page_seen Leaf d.made.updated) c.args.tree.now c.args.dones.items c.deref.result.now c.args.depth c.deref.ensures.value c.if-depth-eq0.false c.requires.level

pub climb_parents-climbed-requires-clause-level : goal.climb_parents-climbed-requires-clause-level
climb_parents-climbed-requires-clause-level g c κs within = some_above (here g (goal.at.climb_parents-climbed-requires-clause-level g c).In-Ok)

pub climb_parents-climbed-requires-clause-height : goal.climb_parents-climbed-requires-clause-height
climb_parents-climbed-requires-clause-height g c κs within = low_above (here g (goal.at.climb_parents-climbed-requires-clause-height g c).In-Ok) c.requires.height

pub finish_level-requires : goal.finish_level-requires
finish_level-requires g c =
    let k = (goal.at.finish_level-requires g c).In-Ok in
    let termed = c.climb_parents-climbed.ensures in
    let can : CanEnd Leaf c.args.settings.now (working g k) c.climb_parents-climbed.new.tree (leaves_seen c.args.dones.items) c.in-Ok.changed.groups.items c.climb_parents-climbed.result =
    record { updated = here g k; ended = have_ended c.args.settings.now (working g k) c.climb_parents-climbed.new.tree c.climb_parents-climbed.result termed.climbed termed.low termed.back termed.err termed.high } in
    (search, (working g k, can))

pub returns-clause-climbed : goal.returns-clause-climbed
returns-clause-climbed g c =
    let k = (goal.at.returns-clause-climbed g c).In-Ok in
    let termed = c.climb_parents-climbed.ensures in
    let can : CanEnd Leaf c.args.settings.now (working g k) c.climb_parents-climbed.new.tree (leaves_seen c.args.dones.items) c.in-Ok.changed.groups.items c.climb_parents-climbed.result =
    record { updated = here g k; ended = have_ended c.args.settings.now (working g k) c.climb_parents-climbed.new.tree c.climb_parents-climbed.result termed.climbed termed.low termed.back termed.err termed.high } in
    ended_climbs can c.finish_level.new.tree c.finish_level.result c.finish_level.ensures.climbed

pub returns-clause-err : goal.returns-clause-err
returns-clause-err g c =
    let k = (goal.at.returns-clause-err g c).In-Ok in
    let termed = c.climb_parents-climbed.ensures in
    let can : CanEnd Leaf c.args.settings.now (working g k) c.climb_parents-climbed.new.tree (leaves_seen c.args.dones.items) c.in-Ok.changed.groups.items c.climb_parents-climbed.result =
    record { updated = here g k; ended = have_ended c.args.settings.now (working g k) c.climb_parents-climbed.new.tree c.climb_parents-climbed.result termed.climbed termed.low termed.back termed.err termed.high } in
    ended_back can c.finish_level.new.tree c.finish_level.result c.finish_level.ensures.err

pub returns-clause-high : goal.returns-clause-high
returns-clause-high g c =
    let k = (goal.at.returns-clause-high g c).In-Ok in
    let termed = c.climb_parents-climbed.ensures in
    let can : CanEnd Leaf c.args.settings.now (working g k) c.climb_parents-climbed.new.tree (leaves_seen c.args.dones.items) c.in-Ok.changed.groups.items c.climb_parents-climbed.result =
    record { updated = here g k; ended = have_ended c.args.settings.now (working g k) c.climb_parents-climbed.new.tree c.climb_parents-climbed.result termed.climbed termed.low termed.back termed.err termed.high } in
    ended_high can c.finish_level.new.tree c.finish_level.result c.finish_level.ensures.high
