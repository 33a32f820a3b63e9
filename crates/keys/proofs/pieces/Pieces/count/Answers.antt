use Rattle.std.proofs.Common.{arith, ◌++◌}
use Rattle.std.specs.Option.{option_to_list}
use Rattle.std.proofs.lemmas.List.{length-append}
use Rattle.keys.specs.Woven.{woven}
use Rattle.keys.proofs.PlacedPieces.{length-by_place}
use Rattle.keys.proofs.Weaving.{length-woven}
use Rattle.keys.proofs.pieces.Pieces.count.Goals as goal

pub returns : goal.returns
returns g c =
    let inside = c.self.inside in
    let all = length-woven (option_to_list inside.first ++ inside.rest.items) inside.empty_scans.items in
    let placed = length-by_place (woven (option_to_list inside.first ++ inside.rest.items) inside.empty_scans.items) in
    let held = length-append (option_to_list inside.first) inside.rest.items in
    rw (← c.self.view_is) (omega (arith, all, placed, held, c.len.ensures, c.len-2.ensures, c.count_of.ensures, c.saturating_add-others.ensures, c.saturating_add.ensures))
