use Rattle.std.proofs.Common.{rules, get_or}
use Rattle.delta_chain.specs.Exchange.{in_place_of}
use Rattle.delta_chain.specs.Located.{change_at}
use Rattle.delta_chain.proofs.LocatorLemmas.{run_within, same_run, at_within, item_is, exchanged_is}
use Rattle.delta_chain.proofs.locators.Locator.swap_cell.Goals as goal

pub offset_bounds-runs-self : goal.offset_bounds-runs-self
offset_bounds-runs-self g c = let within = run_within c.args.runs.now c.args.self c.requires in search rules

pub swap_cell-requires : goal.swap_cell-requires
swap_cell-requires g c =
    let runs = c.args.runs.now in
    let l = c.args.self in
    let run = get_or runs l.run c.index-runs-self.result in
    at_within runs l run (same_run runs l c.index-runs-self.result c.requires) c.requires

pub returns-clause-cell : goal.returns-clause-cell
returns-clause-cell g c =
    let runs = c.args.runs.now in
    let l = c.args.self in
    let run = get_or runs l.run c.index-runs-self.result in
    c.swap_cell.ensures.cell (change_at runs l) (item_is runs l run (same_run runs l c.index-runs-self.result c.requires) c.requires)

pub returns-clause-runs : goal.returns-clause-runs
returns-clause-runs g c =
    let runs = c.args.runs.now in
    let l = c.args.self in
    let run = get_or runs l.run c.index-runs-self.result in
    let change = change_at runs l in
    let is = same_run runs l c.index-runs-self.result c.requires in
    exchanged_is runs l run is c.requires c.swap_cell.new.self (in_place_of change c.args.cell.now) (c.swap_cell.ensures.run change (item_is runs l run is c.requires))

pub returns-clause-found : goal.returns-clause-found
returns-clause-found g c =
    let runs = c.args.runs.now in
    let l = c.args.self in
    let run = get_or runs l.run c.index-runs-self.result in
    c.swap_cell.ensures.found (change_at runs l) (item_is runs l run (same_run runs l c.index-runs-self.result c.requires) c.requires)
