-- Proof for climb_parents of ascent.rt.
use Rattle.std.proofs.Common.{◌≡◌, ℕ, ◌-◌, ◌<◌, length, arith}
use Rattle.std.specs.Vec.{vec_len}
use Rattle.index_page.specs.Page.PageOfKind.{Index}
use Rattle.climb_plan.specs.Changing.{page_seen, parents_seen}
use Rattle.climb_plan.specs.LevelSteps.{Working, IsWorkedOn, CanEnd}
use Rattle.climb_plan.proofs.ThroughClimb.{children_for, works_for, none_by, nothing_done, some_above, low_above, one_less, have_ended, ended_climbs, ended_back, ended_high}
use Rattle.climb_plan.proofs.ascent.+climb_parents.Goals as goal
use Rattle.climb_plan.proofs.ascent.+climb_parents.Goals.{In-Ok}
use Rattle.climb_plan.proofs.ascent.+climb_parents.Given as given

-- the level, after its parents got terms
abbrev working : (g : given.Over) (t : ℕ) (c : In-Ok g t) → Working
working g t c = record { depth = c.args.depth; before = c.args.tree.now; ready = c.change_level.new.tree; parents = c.in-Ok.changed.parents.items }

-- and the facts about it then
here : (g : given.Over) (t : ℕ) (c : In-Ok g t) → IsWorkedOn Index c.args.settings.now (working g t c) (parents_seen c.args.dones.items) c.in-Ok.changed.groups.items
here g t c = record {
  fan = c.requires.fan;
  deep = c.if-depth-eq0.false;
  level = c.requires.level;
  works = works_for Index (λ d. page_seen Index d.made) c.args.dones.items c.deref.result.now (c.args.depth - 1) c.deref.ensures.value c.in-Ok.ensures.changed;
}

pub returns-then-is_empty-clause-climbed : goal.returns-then-is_empty-clause-climbed
returns-then-is_empty-clause-climbed g t c =
    let zero : vec_len c.args.dones ≡ 0 = none_by c.is_empty.result (vec_len c.args.dones) c.is_empty.ensures c.if-is_empty.true in
    let ok = c.args.dones.ok in
    let empty : length c.args.dones.items ≡ 0 = omega arith in
    nothing_done Index (λ d. page_seen Index d.made) c.args.settings.now c.args.tree.now c.args.dones.items c.args.depth empty

pub change_level-requires-clause-level : goal.change_level-requires-clause-level
change_level-requires-clause-level g t c κs within =
    children_for Index (λ d. page_seen Index d.made) c.args.tree.now c.args.dones.items c.deref.result.now c.args.depth c.deref.ensures.value c.if-depth-eq0.false c.requires.level

pub climb_parents-climbed-requires : goal.climb_parents-climbed-requires
climb_parents-climbed-requires g t c = λ κs within.
    let k = here g t (goal.at.climb_parents-climbed-requires g t c).In-Ok in
    let less : c.args.depth - 1 < c.args.depth = one_less c.args.depth c.if-depth-eq0.false in
    let measured = c.decreases in
    (omega arith, (within.0, (within.1, (search, (search, (c.requires.fan, (some_above k, low_above k c.requires.height)))))))

pub finish_level-requires-after_bounds : goal.finish_level-requires-after_bounds
finish_level-requires-after_bounds g t c κs within =
    let k = (goal.at.finish_level-requires-after_bounds g t c).In-Ok in
    let termed = c.climb_parents-climbed.ensures in
    let can : CanEnd Index c.args.settings.now (working g t k) c.climb_parents-climbed.new.tree (parents_seen c.args.dones.items) c.in-Ok.changed.groups.items c.climb_parents-climbed.result =
    record { updated = here g t k; ended = have_ended c.args.settings.now (working g t k) c.climb_parents-climbed.new.tree c.climb_parents-climbed.result termed.climbed termed.low termed.back termed.err termed.high } in
    (working g t k, can)

pub returns-clause-climbed : goal.returns-clause-climbed
returns-clause-climbed g t c =
    let k = (goal.at.returns-clause-climbed g t c).In-Ok in
    let termed = c.climb_parents-climbed.ensures in
    let can : CanEnd Index c.args.settings.now (working g t k) c.climb_parents-climbed.new.tree (parents_seen c.args.dones.items) c.in-Ok.changed.groups.items c.climb_parents-climbed.result =
    record { updated = here g t k; ended = have_ended c.args.settings.now (working g t k) c.climb_parents-climbed.new.tree c.climb_parents-climbed.result termed.climbed termed.low termed.back termed.err termed.high } in
    ended_climbs can c.finish_level.new.tree c.finish_level.result c.finish_level.ensures.climbed

pub returns-clause-err : goal.returns-clause-err
returns-clause-err g t c =
    let k = (goal.at.returns-clause-err g t c).In-Ok in
    let termed = c.climb_parents-climbed.ensures in
    let can : CanEnd Index c.args.settings.now (working g t k) c.climb_parents-climbed.new.tree (parents_seen c.args.dones.items) c.in-Ok.changed.groups.items c.climb_parents-climbed.result =
    record { updated = here g t k; ended = have_ended c.args.settings.now (working g t k) c.climb_parents-climbed.new.tree c.climb_parents-climbed.result termed.climbed termed.low termed.back termed.err termed.high } in
    ended_back can c.finish_level.new.tree c.finish_level.result c.finish_level.ensures.err

pub returns-clause-high : goal.returns-clause-high
returns-clause-high g t c =
    let k = (goal.at.returns-clause-high g t c).In-Ok in
    let termed = c.climb_parents-climbed.ensures in
    let can : CanEnd Index c.args.settings.now (working g t k) c.climb_parents-climbed.new.tree (parents_seen c.args.dones.items) c.in-Ok.changed.groups.items c.climb_parents-climbed.result =
    record { updated = here g t k; ended = have_ended c.args.settings.now (working g t k) c.climb_parents-climbed.new.tree c.climb_parents-climbed.result termed.climbed termed.low termed.back termed.err termed.high } in
    ended_high can c.finish_level.new.tree c.finish_level.result c.finish_level.ensures.high
