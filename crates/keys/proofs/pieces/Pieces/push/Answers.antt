use Rattle.std.proofs.Common.{◌++◌, ◌∙◌, ap, refl, arith}
use Rattle.std.specs.Option.{option_to_list}
use Rattle.keys.specs.PlacedPieces.{by_place}
use Rattle.keys.specs.Woven.{woven}
use Rattle.keys.proofs.PlacedPieces.{by_place-push}
use Rattle.keys.proofs.Weaving.{counted, rowless_pushed, rowless_within}
use Rattle.keys.proofs.pieces.Pieces.push.Goals as goal

pub invariant_of-self-then-before-le-MOST : goal.invariant_of-self-then-before-le-MOST
invariant_of-self-then-before-le-MOST g c =
    let inside = c.self.inside in
    rowless_within (option_to_list inside.first ++ inside.rest.items) inside.empty_scans.items c.push.new.self.items _ c.args.piece c.in_ok-push.ensures.items
    (counted inside.first inside.rest.items inside.empty_scans.items c.args.self.now c.count-before.result c.self.view_is (omega (arith, c.count-before.ensures, c.if-before-le-MOST.true)))
    c.self.invariant

pub returns-then-before-le-MOST-clause-ok : goal.returns-then-before-le-MOST-clause-ok
returns-then-before-le-MOST-clause-ok g c =
    let inside = c.self.inside in
    rw (← c.self.view_is)
    (ap by_place (rowless_pushed (option_to_list inside.first ++ inside.rest.items) inside.empty_scans.items c.push.new.self.items _ c.args.piece c.in_ok-push.ensures.items
    (counted inside.first inside.rest.items inside.empty_scans.items c.args.self.now c.count-before.result c.self.view_is (omega (arith, c.count-before.ensures, c.if-before-le-MOST.true))) refl (c.if-is_without_rows.ensures refl))
    ∙ by_place-push (woven (option_to_list inside.first ++ inside.rest.items) inside.empty_scans.items) c.args.piece)
