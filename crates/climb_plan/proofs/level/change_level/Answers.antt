use Rattle.std.proofs.Common.{◌∷◌, map, sym, subst, arith, ◌∙◌}
use Rattle.climb_plan.specs.Level.{IsChanged}
use Rattle.climb_plan.specs.Rewriting.{HaveSome}
use Rattle.climb_plan.proofs.LeveledChange.{some_piece, level_drawn, can_give_back}
use Rattle.climb_plan.proofs.level.change_level.Goals as goal

pub draw_all-requires-clause-some : goal.draw_all-requires-clause-some
draw_all-requires-clause-some g c =
    let l = c.requires.level in
    let cut = c.in_ok-cut.ensures.cut l.0 l.1 l.2 l.3 in
    subst HaveSome (sym c.deref_mut.ensures.value)
    (some_piece c.args.settings.now g.D.UpdatedPage.of c.is_of_a_kind.ensures (omega (arith, c.requires.fan)) c.args.tree.now (map g.D.UpdatedPage.seen_page c.args.dones.now) l.0.updated l.1 l.0.above l.0.used l.0.from l.2 _ _ _ cut)

pub update_parents-requires-clause-rising : goal.update_parents-requires-clause-rising
update_parents-requires-clause-rising g c κs within =
    let l = c.requires.level in
    let cut = c.in_ok-cut.ensures.cut l.0 l.1 l.2 l.3 in
    let drawn = level_drawn c.args.settings.now g.D.UpdatedPage.of c.is_of_a_kind.ensures (omega (arith, c.requires.fan)) c.args.tree.now c.draw_all.new.tree (map g.D.UpdatedPage.seen_page c.args.dones.now) l.0.updated l.1 l.0.above l.0.used l.0.from l.2 _ _ _ _ _ c.draw_all.new.all _ _ _ cut
    c.deref.ensures.value c.deref_mut.ensures.value c.in_ok-draw_all.ensures.numbers c.deref_mut.ensures.len c.deref-2.ensures.value c.in_ok-draw_all.ensures.tree in
    drawn.rising

pub update_parents-requires-clause-names : goal.update_parents-requires-clause-names
update_parents-requires-clause-names g c κs within =
    let l = c.requires.level in
    let cut = c.in_ok-cut.ensures.cut l.0 l.1 l.2 l.3 in
    let drawn = level_drawn c.args.settings.now g.D.UpdatedPage.of c.is_of_a_kind.ensures (omega (arith, c.requires.fan)) c.args.tree.now c.draw_all.new.tree (map g.D.UpdatedPage.seen_page c.args.dones.now) l.0.updated l.1 l.0.above l.0.used l.0.from l.2 _ _ _ _ _ c.draw_all.new.all _ _ _ cut
    c.deref.ensures.value c.deref_mut.ensures.value c.in_ok-draw_all.ensures.numbers c.deref_mut.ensures.len c.deref-2.ensures.value c.in_ok-draw_all.ensures.tree in
    drawn.names

pub update_parents-requires-clause-home : goal.update_parents-requires-clause-home
update_parents-requires-clause-home g c κs within =
    let l = c.requires.level in
    let cut = c.in_ok-cut.ensures.cut l.0 l.1 l.2 l.3 in
    let drawn = level_drawn c.args.settings.now g.D.UpdatedPage.of c.is_of_a_kind.ensures (omega (arith, c.requires.fan)) c.args.tree.now c.draw_all.new.tree (map g.D.UpdatedPage.seen_page c.args.dones.now) l.0.updated l.1 l.0.above l.0.used l.0.from l.2 _ _ _ _ _ c.draw_all.new.all _ _ _ cut
    c.deref.ensures.value c.deref_mut.ensures.value c.in_ok-draw_all.ensures.numbers c.deref_mut.ensures.len c.deref-2.ensures.value c.in_ok-draw_all.ensures.tree in
    drawn.home

pub returns-in-Ok-clause-changed : goal.returns-in-Ok-clause-changed
returns-in-Ok-clause-changed g c = λ l ps h e.
    let cut = c.in_ok-cut.ensures.cut l ps h e in
    let drawn = level_drawn c.args.settings.now g.D.UpdatedPage.of c.is_of_a_kind.ensures (omega (arith, c.requires.fan)) c.args.tree.now c.draw_all.new.tree (map g.D.UpdatedPage.seen_page c.args.dones.now) l.updated ps l.above l.used l.from h _ _ _ _ _ c.draw_all.new.all _ _ _ cut
    c.deref.ensures.value c.deref_mut.ensures.value c.in_ok-draw_all.ensures.numbers c.deref_mut.ensures.len c.deref-2.ensures.value c.in_ok-draw_all.ensures.tree in
    subst (λ rs. IsChanged c.args.settings.now g.D.UpdatedPage.of c.args.tree.now c.update_parents.new.tree l ps rs c.in-Ok.parents.items) c.deref-2.ensures.value
    (drawn.changed c.update_parents.new.tree c.in-Ok.parents.items c.in-Ok.ensures.made c.in-Ok.ensures.held c.in-Ok.ensures.taken)

pub free_drawn-requires : goal.free_drawn-requires
free_drawn-requires g c =
    let l = c.requires.level in
    let back = can_give_back g.D.UpdatedPage.of c.args.tree.now c.draw_all.new.tree c.update_parents.new.tree (map g.D.UpdatedPage.seen_page c.args.dones.now) l.0.updated (l.1 ∷ l.0.above) l.0.used l.0.from l.2 _ c.draw_all.new.all _ _ _
    c.in_ok-draw_all.ensures.numbers c.deref_mut.ensures.len c.deref-in-Err.ensures.value c.in_ok-draw_all.ensures.tree c.in-Err.ensures.err in
    back.away

pub returns-clause-err : goal.returns-clause-err
returns-clause-err g c =
    let l = c.requires.level in
    let back = can_give_back g.D.UpdatedPage.of c.args.tree.now c.draw_all.new.tree c.update_parents.new.tree (map g.D.UpdatedPage.seen_page c.args.dones.now) l.0.updated (l.1 ∷ l.0.above) l.0.used l.0.from l.2 _ c.draw_all.new.all _ _ _
    c.in_ok-draw_all.ensures.numbers c.deref_mut.ensures.len c.deref-in-Err.ensures.value c.in_ok-draw_all.ensures.tree c.in-Err.ensures.err in
    c.free_drawn.ensures ∙ back.back
