use Rattle.std.proofs.Common.{[], refl, sym, ap, subst, arith, map, Err}
use Rattle.climb_plan.specs.Rewriting.{HaveSome}
use Rattle.climb_plan.proofs.LeveledChange.{can_give_back}
use Rattle.climb_plan.proofs.LeveledTop.{some_seen, pages_are_one, can_cut, some_piece, top_drawn, given_back, of_groups}
use Rattle.climb_plan.proofs.ThroughTop.{top_level, top_high}
use Rattle.climb_plan.proofs.top.change_root.Goals as goal

pub cut_root-requires-clause-one : goal.cut_root-requires-clause-one
cut_root-requires-clause-one g c κs within =
    let l = top_level g.D.UpdatedPage.of c.args.tree.now (map g.D.UpdatedPage.seen_page c.args.dones.now) 0 refl c.requires.level in
    let some = some_seen g.D.UpdatedPage.seen_page c.args.dones.now c.requires.some in
    pages_are_one c.args.settings.now g.D.UpdatedPage.of c.is_of_a_kind.ensures (omega (arith, c.requires.fan)) c.args.tree.now (map g.D.UpdatedPage.seen_page c.args.dones.now) l.0.updated l.0.used l.0.from l.1 some g.D.UpdatedPage.seen_page c.args.dones.now refl

pub cut_root-requires-clause-joined : goal.cut_root-requires-clause-joined
cut_root-requires-clause-joined g c κs within =
    let l = top_level g.D.UpdatedPage.of c.args.tree.now (map g.D.UpdatedPage.seen_page c.args.dones.now) 0 refl c.requires.level in
    let some = some_seen g.D.UpdatedPage.seen_page c.args.dones.now c.requires.some in
    can_cut c.args.settings.now g.D.UpdatedPage.of c.is_of_a_kind.ensures (omega (arith, c.requires.fan)) c.args.tree.now (map g.D.UpdatedPage.seen_page c.args.dones.now) l.0.updated l.0.used l.0.from l.1 some

pub draw_all-requires-clause-some : goal.draw_all-requires-clause-some
draw_all-requires-clause-some g c =
    let l = top_level g.D.UpdatedPage.of c.args.tree.now (map g.D.UpdatedPage.seen_page c.args.dones.now) 0 refl c.requires.level in
    let some = some_seen g.D.UpdatedPage.seen_page c.args.dones.now c.requires.some in
    subst HaveSome (sym c.deref_mut.ensures.value)
    (some_piece c.args.settings.now g.D.UpdatedPage.of c.is_of_a_kind.ensures (omega (arith, c.requires.fan)) c.args.tree.now (map g.D.UpdatedPage.seen_page c.args.dones.now) l.0.updated l.0.used l.0.from l.1 some _ c.in_ok-groups.ensures)

pub grow_above-requires-clause-some : goal.grow_above-requires-clause-some
grow_above-requires-clause-some g c =
    let l = top_level g.D.UpdatedPage.of c.args.tree.now (map g.D.UpdatedPage.seen_page c.args.dones.now) 0 refl c.requires.level in
    let some = some_seen g.D.UpdatedPage.seen_page c.args.dones.now c.requires.some in
    let drawn = top_drawn c.args.settings.now g.D.UpdatedPage.of c.is_of_a_kind.ensures (omega (arith, c.requires.fan)) c.args.tree.now (map g.D.UpdatedPage.seen_page c.args.dones.now) l.0.updated l.0.used l.0.from l.1 some c.draw_all.new.tree _ _ c.draw_all.new.all _ _ _
    c.in_ok-groups.ensures c.deref_mut.ensures.value c.in_ok-draw_all.ensures.numbers c.deref_mut.ensures.len c.deref.ensures.value c.in_ok-draw_all.ensures.tree in
    drawn.some

pub grow_above-requires-clause-named : goal.grow_above-requires-clause-named
grow_above-requires-clause-named g c =
    let l = top_level g.D.UpdatedPage.of c.args.tree.now (map g.D.UpdatedPage.seen_page c.args.dones.now) 0 refl c.requires.level in
    let some = some_seen g.D.UpdatedPage.seen_page c.args.dones.now c.requires.some in
    let drawn = top_drawn c.args.settings.now g.D.UpdatedPage.of c.is_of_a_kind.ensures (omega (arith, c.requires.fan)) c.args.tree.now (map g.D.UpdatedPage.seen_page c.args.dones.now) l.0.updated l.0.used l.0.from l.1 some c.draw_all.new.tree _ _ c.draw_all.new.all _ _ _
    c.in_ok-groups.ensures c.deref_mut.ensures.value c.in_ok-draw_all.ensures.numbers c.deref_mut.ensures.len c.deref.ensures.value c.in_ok-draw_all.ensures.tree in
    drawn.named

pub grow_above-requires-clause-rising : goal.grow_above-requires-clause-rising
grow_above-requires-clause-rising g c =
    let l = top_level g.D.UpdatedPage.of c.args.tree.now (map g.D.UpdatedPage.seen_page c.args.dones.now) 0 refl c.requires.level in
    let some = some_seen g.D.UpdatedPage.seen_page c.args.dones.now c.requires.some in
    let drawn = top_drawn c.args.settings.now g.D.UpdatedPage.of c.is_of_a_kind.ensures (omega (arith, c.requires.fan)) c.args.tree.now (map g.D.UpdatedPage.seen_page c.args.dones.now) l.0.updated l.0.used l.0.from l.1 some c.draw_all.new.tree _ _ c.draw_all.new.all _ _ _
    c.in_ok-groups.ensures c.deref_mut.ensures.value c.in_ok-draw_all.ensures.numbers c.deref_mut.ensures.len c.deref.ensures.value c.in_ok-draw_all.ensures.tree in
    drawn.rising

pub grow_above-requires-clause-logs : goal.grow_above-requires-clause-logs
grow_above-requires-clause-logs g c =
    let l = top_level g.D.UpdatedPage.of c.args.tree.now (map g.D.UpdatedPage.seen_page c.args.dones.now) 0 refl c.requires.level in
    let some = some_seen g.D.UpdatedPage.seen_page c.args.dones.now c.requires.some in
    let drawn = top_drawn c.args.settings.now g.D.UpdatedPage.of c.is_of_a_kind.ensures (omega (arith, c.requires.fan)) c.args.tree.now (map g.D.UpdatedPage.seen_page c.args.dones.now) l.0.updated l.0.used l.0.from l.1 some c.draw_all.new.tree _ _ c.draw_all.new.all _ _ _
    c.in_ok-groups.ensures c.deref_mut.ensures.value c.in_ok-draw_all.ensures.numbers c.deref_mut.ensures.len c.deref.ensures.value c.in_ok-draw_all.ensures.tree in
    drawn.logs

pub returns-in-Ok-clause-changed : goal.returns-in-Ok-clause-changed
returns-in-Ok-clause-changed g c = λ l h.
    let some = some_seen g.D.UpdatedPage.seen_page c.args.dones.now c.requires.some in
    let drawn = top_drawn c.args.settings.now g.D.UpdatedPage.of c.is_of_a_kind.ensures (omega (arith, c.requires.fan)) c.args.tree.now (map g.D.UpdatedPage.seen_page c.args.dones.now) l.updated l.used l.from h some c.draw_all.new.tree _ _ c.draw_all.new.all _ _ _
    c.in_ok-groups.ensures c.deref_mut.ensures.value c.in_ok-draw_all.ensures.numbers c.deref_mut.ensures.len c.deref.ensures.value c.in_ok-draw_all.ensures.tree in
    of_groups c.args.settings.now g.D.UpdatedPage.of c.args.tree.now c.grow_above.new.tree l.updated l.used l.from _ _ _ _ c.deref.ensures.value (drawn.changed c.grow_above.new.tree _ _ c.in-Ok.ensures.grown)

pub returns-in-Err-clause-high : goal.returns-in-Err-clause-high
returns-in-Err-clause-high g c = λ refused.
    let some = some_seen g.D.UpdatedPage.seen_page c.args.dones.now c.requires.some in
    top_high g.D.UpdatedPage.of c.args.tree.now (map g.D.UpdatedPage.seen_page c.args.dones.now) c.args.settings.now (λ l h.
    let drawn = top_drawn c.args.settings.now g.D.UpdatedPage.of c.is_of_a_kind.ensures (omega (arith, c.requires.fan)) c.args.tree.now (map g.D.UpdatedPage.seen_page c.args.dones.now) l.updated l.used l.from h some c.draw_all.new.tree _ _ c.draw_all.new.all _ _ _
    c.in_ok-groups.ensures c.deref_mut.ensures.value c.in_ok-draw_all.ensures.numbers c.deref_mut.ensures.len c.deref.ensures.value c.in_ok-draw_all.ensures.tree in
    drawn.too_high (c.in-Err.ensures.high l.used drawn.next drawn.like drawn.numbered drawn.like_named (ap Err refused)))

pub free_drawn-requires : goal.free_drawn-requires
free_drawn-requires g c =
    let l = top_level g.D.UpdatedPage.of c.args.tree.now (map g.D.UpdatedPage.seen_page c.args.dones.now) 0 refl c.requires.level in
    let back = can_give_back g.D.UpdatedPage.of c.args.tree.now c.draw_all.new.tree c.grow_above.new.tree (map g.D.UpdatedPage.seen_page c.args.dones.now) l.0.updated [] l.0.used l.0.from l.1 _ c.draw_all.new.all _ _ _
    c.in_ok-draw_all.ensures.numbers c.deref_mut.ensures.len c.deref-in-Err.ensures.value c.in_ok-draw_all.ensures.tree c.in-Err.ensures.err in
    back.away

pub returns-in-Err-clause-err : goal.returns-in-Err-clause-err
returns-in-Err-clause-err g c =
    let l = top_level g.D.UpdatedPage.of c.args.tree.now (map g.D.UpdatedPage.seen_page c.args.dones.now) 0 refl c.requires.level in
    let back = can_give_back g.D.UpdatedPage.of c.args.tree.now c.draw_all.new.tree c.grow_above.new.tree (map g.D.UpdatedPage.seen_page c.args.dones.now) l.0.updated [] l.0.used l.0.from l.1 _ c.draw_all.new.all _ _ _
    c.in_ok-draw_all.ensures.numbers c.deref_mut.ensures.len c.deref-in-Err.ensures.value c.in_ok-draw_all.ensures.tree c.in-Err.ensures.err in
    given_back c.args.tree.now c.grow_above.new.tree c.free_drawn.new.tree c.deref-in-Err.result.now back c.free_drawn.ensures
