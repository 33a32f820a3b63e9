use Rattle.std.proofs.Common.{refl, map}
use Rattle.climb_plan.proofs.ThroughClimb.{away_for}
use Rattle.climb_plan.proofs.ThroughTop.{changed_for, top_level, top_climbs, top_away, top_installs, top_through}
use Rattle.climb_plan.proofs.top.climb_root.Goals as goal

pub put_home-requires : goal.put_home-requires
put_home-requires g c =
    let l = top_level g.D.UpdatedPage.of c.args.tree.now (map g.D.UpdatedPage.seen_page c.args.dones.items) 0 refl c.requires.level in
    let changed = changed_for c.args.settings.now g.D.UpdatedPage.of c.args.tree.now c.change_root.new.tree c.in-Ok.groups.items c.in-Ok.root c.in-Ok.height g.D.UpdatedPage.seen_page c.args.dones.items c.deref.result.now c.deref.ensures.value c.in-Ok.ensures.changed in
    (search, away_for g.D.UpdatedPage.seen_page c.change_root.new.tree c.args.dones.items (top_away c.args.settings.now g.D.UpdatedPage.of c.args.tree.now c.change_root.new.tree (map g.D.UpdatedPage.seen_page c.args.dones.items) l.0.updated l.0.used l.0.from l.1 _ _ _ (changed l.0 l.1)))

pub install_all-requires : goal.install_all-requires
install_all-requires g c =
    let l = top_level g.D.UpdatedPage.of c.args.tree.now (map g.D.UpdatedPage.seen_page c.args.dones.items) 0 refl c.requires.level in
    let changed = changed_for c.args.settings.now g.D.UpdatedPage.of c.args.tree.now c.change_root.new.tree c.in-Ok.groups.items c.in-Ok.root c.in-Ok.height g.D.UpdatedPage.seen_page c.args.dones.items c.deref.result.now c.deref.ensures.value c.in-Ok.ensures.changed in
    top_installs c.args.settings.now g.D.UpdatedPage.of c.args.tree.now c.change_root.new.tree (map g.D.UpdatedPage.seen_page c.args.dones.items) l.0.updated l.0.used l.0.from l.1 _ _ _ (changed l.0 l.1) c.is_of_a_kind.ensures c.put_home.new.tree c.put_home.ensures

pub returns-in-Ok-clause-climbed : goal.returns-in-Ok-clause-climbed
returns-in-Ok-clause-climbed g c =
    let changed = changed_for c.args.settings.now g.D.UpdatedPage.of c.args.tree.now c.change_root.new.tree c.in-Ok.groups.items c.in-Ok.root c.in-Ok.height g.D.UpdatedPage.seen_page c.args.dones.items c.deref.result.now c.deref.ensures.value c.in-Ok.ensures.changed in
    top_climbs g.D.UpdatedPage.of c.args.tree.now (map g.D.UpdatedPage.seen_page c.args.dones.items) c.args.settings.now c.set_root.new.self
    (λ l h. top_through c.args.settings.now g.D.UpdatedPage.of c.args.tree.now c.change_root.new.tree (map g.D.UpdatedPage.seen_page c.args.dones.items) l.updated l.used l.from h _ _ _ (changed l h) c.put_home.new.tree c.install_all.new.tree c.set_root.new.self c.put_home.ensures c.install_all.ensures c.set_root.ensures)
