use Rattle.std.proofs.Common.{ap, ◌∙◌, map}
use Rattle.climb_plan.specs.Rewriting.{all_seen, groups_seen}
use Rattle.climb_plan.proofs.LeveledCut.{level_in_sight, cut_in_sight, all_cut}
use Rattle.climb_plan.proofs.level.cut_level.Goals as goal

pub rewrites-requires : goal.rewrites-requires
rewrites-requires g c =
    let l = c.requires.level in
    let same = ap all_seen c.deref.ensures.value ∙ c.in_ok-seen.ensures in
    (_, l.1, l.0.above, level_in_sight g.D.UpdatedPage.of c.is_of_a_kind.ensures c.args.tree.now (map g.D.UpdatedPage.seen_page c.args.dones.now) (all_seen c.deref.result.now) c.args.depth same l.0.updated l.1 l.0.above l.0.used l.0.from l.2 l.3)

pub cut_all-requires-clause-joined : goal.cut_all-requires-clause-joined
cut_all-requires-clause-joined g c κs within =
    let l = c.requires.level in
    let same = ap all_seen c.deref.ensures.value ∙ c.in_ok-seen.ensures in
    let groups = ap groups_seen c.deref-3.ensures.value in
    cut_in_sight g.D.UpdatedPage.of c.is_of_a_kind.ensures c.args.tree.now (map g.D.UpdatedPage.seen_page c.args.dones.now) (all_seen c.deref.result.now) c.args.depth same (groups_seen c.deref-3.result.now) l.0.updated l.1 l.0.above l.0.used l.0.from l.2 l.3
    (λ all ps ups seen. groups ∙ c.in_ok-to_rewrite.ensures.groups all ps ups seen)

pub returns : goal.returns
returns g c = record {
  cut = λ l ps level e.
      let same = ap all_seen c.deref.ensures.value ∙ c.in_ok-seen.ensures in
      let before-2 = ap groups_seen c.deref-2.ensures.value in
      let before-3 = ap groups_seen c.deref-3.ensures.value in
      all_cut g.D.UpdatedPage.of c.is_of_a_kind.ensures c.args.tree.now (map g.D.UpdatedPage.seen_page c.args.dones.now) (all_seen c.deref.result.now) c.args.depth same c.args.settings.now _ _ _ _
      c.in_ok-to_rewrite.ensures.parents c.in_ok-to_rewrite.ensures.groups (c.in_ok-freed.ensures ∙ ap (map _) before-2) (c.in_ok-groups.ensures ∙ ap (map _) before-3) l.updated ps l.above l.used l.from level e;
}
