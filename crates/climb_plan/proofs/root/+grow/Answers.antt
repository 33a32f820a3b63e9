use Rattle.std.proofs.Common.{◌≡◌, ◌∙◌, ◌<◌, ◌+◌, ℕ, List, refl, sym, ap, subst, map, length, arith}
use Rattle.std.specs.Prelude.{Box}
use Rattle.std.proofs.lemmas.List.{length-map}
use Rattle.keys.specs.Order.{IsRising}
use Rattle.index_page.specs.InMemory.{InMemory, page_shown}
use Rattle.index_page.specs.Page.{PageOfKind}
use Rattle.mapping.specs.Table.{pids_in_use, fresh_pids}
use Rattle.climb_plan.proofs.Rooted.{cut_is, some_upper, rising_upper, drawn_away, drawn_logs, away_before, number_zero, upper_are, still_away, cut_level, up, up_named, up_numbered, grown_result, too_high}
use Rattle.climb_plan.proofs.root.+grow.Goals as goal

abbrev shown : {Z : Type 0} → Box InMemory Z → PageOfKind
shown page = page_shown page.value

-- there are as many pages as they show
counted : {Z : Type 0} (ms : List (Box InMemory Z)) (used ns : List ℕ) → ns ≡ fresh_pids used (length ms) → ns ≡ fresh_pids used (length (map shown ms))
counted ms used ns h = h ∙ ap (fresh_pids used) (sym (length-map ms shown))

pub grow-requires : goal.grow-requires
grow-requires t c =
    let is = cut_is c.args.settings.now c.args.below.now (map shown c.in_ok-pages.pages.items) (map shown c.deref.result.now) c.in_ok-fresh.fresh.items c.in_ok-fresh.upper.items c.args.tree.now c.draw_names.new.tree c.requires.fan c.requires.some c.if-below-eq1.false c.requires.named c.in_ok-pages.ensures (ap (map shown) c.deref.ensures.value) (counted c.deref.result.now (pids_in_use c.args.tree.now.table) c.in_ok-fresh.fresh.items c.in_ok-fresh.ensures.pids) c.in_ok-fresh.ensures.names c.in_ok-fresh.ensures.drawn in
    let some : 0 < length c.deref-2.result.now = subst (λ ns. 0 < length ns) (sym c.deref-2.ensures.value) (some_upper c.args.settings.now c.args.below.now (map shown c.in_ok-pages.pages.items) c.in_ok-fresh.fresh.items c.in_ok-fresh.upper.items c.args.tree.now c.draw_names.new.tree is) in
    let rising : IsRising c.deref-2.result.now = subst (λ ns. IsRising ns) (sym c.deref-2.ensures.value) (rising_upper c.args.settings.now c.args.below.now (map shown c.in_ok-pages.pages.items) c.in_ok-fresh.fresh.items c.in_ok-fresh.upper.items c.args.tree.now c.draw_names.new.tree is) in
    let far = c.if-height-ge-MOST_LEVELS.false in
    let most = c.requires.height in
    (omega arith, (c.requires.fan, (some, (rising, (c.in_ok-fresh.ensures.drawn.rising, (drawn_logs c.args.settings.now c.args.below.now (map shown c.in_ok-pages.pages.items) c.in_ok-fresh.fresh.items c.in_ok-fresh.upper.items c.args.tree.now c.draw_names.new.tree is c.requires.logs, omega arith))))))

pub put_pieces-requires : goal.put_pieces-requires
put_pieces-requires t c =
    let is = cut_is c.args.settings.now c.args.below.now (map shown c.in_ok-pages.pages.items) (map shown c.deref.result.now) c.in_ok-fresh.fresh.items c.in_ok-fresh.upper.items c.args.tree.now c.draw_names.new.tree c.requires.fan c.requires.some c.if-below-eq1.false c.requires.named c.in_ok-pages.ensures (ap (map shown) c.deref.ensures.value) (counted c.deref.result.now (pids_in_use c.args.tree.now.table) c.in_ok-fresh.fresh.items c.in_ok-fresh.ensures.pids) c.in_ok-fresh.ensures.names c.in_ok-fresh.ensures.drawn in
    let level = cut_level c.args.settings.now c.args.below.now (map shown c.in_ok-pages.pages.items) c.in_ok-fresh.fresh.items c.in_ok-fresh.upper.items c.args.tree.now c.draw_names.new.tree is in
    let over = (c.in-Ok.ensures.grown _ (0 + length level) level (number_zero c.args.settings.now c.args.below.now (map shown c.in_ok-pages.pages.items) c.in_ok-fresh.fresh.items c.in_ok-fresh.upper.items c.args.tree.now c.draw_names.new.tree is) (sym (upper_are c.args.settings.now c.args.below.now (map shown c.in_ok-pages.pages.items) c.in_ok-fresh.fresh.items c.in_ok-fresh.upper.items c.args.tree.now c.draw_names.new.tree is) ∙ sym c.deref-2.ensures.value)).2 in
    away_before c.grow.new.tree c.grow.new.tree _ _ (still_away c.args.settings.now c.args.below.now (map shown c.in_ok-pages.pages.items) c.in_ok-fresh.fresh.items c.in_ok-fresh.upper.items c.args.tree.now c.draw_names.new.tree is (length level) c.grow.new.tree over) refl c.deref-in-Ok.ensures.value

pub free_all-requires : goal.free_all-requires
free_all-requires t c =
    let is = cut_is c.args.settings.now c.args.below.now (map shown c.in_ok-pages.pages.items) (map shown c.deref.result.now) c.in_ok-fresh.fresh.items c.in_ok-fresh.upper.items c.args.tree.now c.draw_names.new.tree c.requires.fan c.requires.some c.if-below-eq1.false c.requires.named c.in_ok-pages.ensures (ap (map shown) c.deref.ensures.value) (counted c.deref.result.now (pids_in_use c.args.tree.now.table) c.in_ok-fresh.fresh.items c.in_ok-fresh.ensures.pids) c.in_ok-fresh.ensures.names c.in_ok-fresh.ensures.drawn in
    away_before c.draw_names.new.tree _ _ _ (drawn_away c.args.settings.now c.args.below.now (map shown c.in_ok-pages.pages.items) c.in_ok-fresh.fresh.items c.in_ok-fresh.upper.items c.args.tree.now c.draw_names.new.tree is) c.in-Err.ensures.err c.deref-in-Err.ensures.value

pub returns-in-Ok-clause-grown : goal.returns-in-Ok-clause-grown
returns-in-Ok-clause-grown t c used i ps alike named =
    let is = cut_is c.args.settings.now c.args.below.now (map shown c.in_ok-pages.pages.items) (map shown c.deref.result.now) c.in_ok-fresh.fresh.items c.in_ok-fresh.upper.items c.args.tree.now c.draw_names.new.tree c.requires.fan c.requires.some c.if-below-eq1.false c.requires.named c.in_ok-pages.ensures (ap (map shown) c.deref.ensures.value) (counted c.deref.result.now (pids_in_use c.args.tree.now.table) c.in_ok-fresh.fresh.items c.in_ok-fresh.ensures.pids) c.in_ok-fresh.ensures.names c.in_ok-fresh.ensures.drawn in
    let over = c.in-Ok.ensures.grown used (i + length (up c.args.settings.now c.args.below.now (map shown c.in_ok-pages.pages.items) c.in_ok-fresh.fresh.items c.in_ok-fresh.upper.items c.args.tree.now c.draw_names.new.tree is used i ps alike named)) (up c.args.settings.now c.args.below.now (map shown c.in_ok-pages.pages.items) c.in_ok-fresh.fresh.items c.in_ok-fresh.upper.items c.args.tree.now c.draw_names.new.tree is used i ps alike named) (up_numbered c.args.settings.now c.args.below.now (map shown c.in_ok-pages.pages.items) c.in_ok-fresh.fresh.items c.in_ok-fresh.upper.items c.args.tree.now c.draw_names.new.tree is used i ps alike named) (up_named c.args.settings.now c.args.below.now (map shown c.in_ok-pages.pages.items) c.in_ok-fresh.fresh.items c.in_ok-fresh.upper.items c.args.tree.now c.draw_names.new.tree is used i ps alike named ∙ sym c.deref-2.ensures.value) in
    grown_result c.args.settings.now c.args.below.now (map shown c.in_ok-pages.pages.items) c.in_ok-fresh.fresh.items c.in_ok-fresh.upper.items c.args.tree.now c.draw_names.new.tree is used i ps alike named c.args.height c.in-Ok.top _ _ _ _ over (ap (map shown) c.into_iter.ensures.rest) c.deref-in-Ok.ensures.value c.put_pieces.ensures

pub returns-in-Err-clause-high : goal.returns-in-Err-clause-high
returns-in-Err-clause-high t c used i ps alike named refused =
    let is = cut_is c.args.settings.now c.args.below.now (map shown c.in_ok-pages.pages.items) (map shown c.deref.result.now) c.in_ok-fresh.fresh.items c.in_ok-fresh.upper.items c.args.tree.now c.draw_names.new.tree c.requires.fan c.requires.some c.if-below-eq1.false c.requires.named c.in_ok-pages.ensures (ap (map shown) c.deref.ensures.value) (counted c.deref.result.now (pids_in_use c.args.tree.now.table) c.in_ok-fresh.fresh.items c.in_ok-fresh.ensures.pids) c.in_ok-fresh.ensures.names c.in_ok-fresh.ensures.drawn in
    let more = c.in-Err.ensures.high used (i + length (up c.args.settings.now c.args.below.now (map shown c.in_ok-pages.pages.items) c.in_ok-fresh.fresh.items c.in_ok-fresh.upper.items c.args.tree.now c.draw_names.new.tree is used i ps alike named)) (up c.args.settings.now c.args.below.now (map shown c.in_ok-pages.pages.items) c.in_ok-fresh.fresh.items c.in_ok-fresh.upper.items c.args.tree.now c.draw_names.new.tree is used i ps alike named) (up_numbered c.args.settings.now c.args.below.now (map shown c.in_ok-pages.pages.items) c.in_ok-fresh.fresh.items c.in_ok-fresh.upper.items c.args.tree.now c.draw_names.new.tree is used i ps alike named) (up_named c.args.settings.now c.args.below.now (map shown c.in_ok-pages.pages.items) c.in_ok-fresh.fresh.items c.in_ok-fresh.upper.items c.args.tree.now c.draw_names.new.tree is used i ps alike named ∙ sym c.deref-2.ensures.value) refused in
    too_high c.args.settings.now c.args.below.now (map shown c.in_ok-pages.pages.items) c.in_ok-fresh.fresh.items c.in_ok-fresh.upper.items c.args.tree.now c.draw_names.new.tree is used i ps alike named c.args.height more
