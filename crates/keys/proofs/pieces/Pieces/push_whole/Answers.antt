use Rattle.std.proofs.Common.{◌++◌, ◌∙◌, ap, arith, sym}
use Rattle.std.specs.Option.{option_to_list}
use Rattle.std.specs.Vec.{vec_len}
use Rattle.std.proofs.lemmas.Bool.{eqb-true}
use Rattle.std.proofs.lemmas.List.{nil_from_length}
use Rattle.keys.specs.PlacedPieces.{by_place}
use Rattle.keys.specs.Woven.{woven}
use Rattle.keys.proofs.PlacedPieces.{by_place-push}
use Rattle.keys.proofs.Weaving.{first_pushed, first_within, rest_pushed, rest_within}
use Rattle.keys.proofs.pieces.Pieces.push_whole.Goals as goal

pub invariant_of-self : goal.invariant_of-self
invariant_of-self g c =
    let inside = c.self.inside in
    first_within inside.first inside.rest.items inside.rest.items inside.empty_scans.items c.args.piece c.self.invariant c.if-is_none.ensures
    (nil_from_length inside.rest.items (omega (arith, eqb-true (vec_len inside.rest) 0 (sym c.if-is_empty.ensures))))

pub returns-then-is_empty-clause-ok : goal.returns-then-is_empty-clause-ok
returns-then-is_empty-clause-ok g c =
    let inside = c.self.inside in
    rw (← c.self.view_is)
    (ap by_place (first_pushed inside.first inside.rest.items inside.rest.items inside.empty_scans.items c.args.piece c.self.invariant c.if-is_none.ensures
    (nil_from_length inside.rest.items (omega (arith, eqb-true (vec_len inside.rest) 0 (sym c.if-is_empty.ensures)))))
    ∙ by_place-push (woven (option_to_list inside.first ++ inside.rest.items) inside.empty_scans.items) c.args.piece)

pub invariant_of-self-2 : goal.invariant_of-self-2
invariant_of-self-2 g c =
    let inside = c.self.inside in
    rest_within inside.first inside.rest.items c.push.new.self.items inside.empty_scans.items c.args.piece c.self.invariant c.in_ok-push.ensures.items

pub returns-clause-ok : goal.returns-clause-ok
returns-clause-ok g c =
    let inside = c.self.inside in
    rw (← c.self.view_is)
    (ap by_place (rest_pushed inside.first inside.rest.items c.push.new.self.items inside.empty_scans.items c.args.piece c.self.invariant c.in_ok-push.ensures.items)
    ∙ by_place-push (woven (option_to_list inside.first ++ inside.rest.items) inside.empty_scans.items) c.args.piece)
