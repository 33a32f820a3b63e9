use Rattle.std.proofs.Common.{◌≡◌, ◌≤◌, ◌^◌, ◌-◌, min, length, take, drop}
use Rattle.keys.specs.PlacedPieces.{with_each, by_place}
use Rattle.keys.specs.Step.{replies_to}
use Rattle.delta_chain.specs.Layers.{entries_of}
use Rattle.page_runs.specs.NetRun.{net_run}
use Rattle.page_runs.specs.Replay.{map_by_now}
use Rattle.page_runs.specs.Replies.{commands_at, pieces_of}
use Rattle.page_runs.proofs.replay.execute_all.Given as goal

-- the changes are the net run of the commands so far; the pieces so far with those of the rest, on the page with the
-- changes, are all the pieces; and the page with the changes has as many entries as the bounds say
abbrev pub invariant-loop-place : goal.invariant-loop-place
invariant-loop-place l = record {
  changes : l.changes ≡ net_run (entries_of l.page) (commands_at l.commands (take l.place-index l.places));
  pieces : with_each l.pieces (pieces_of (drop l.place-index l.places) (replies_to (map_by_now l.page l.changes) (commands_at l.commands (drop l.place-index l.places))))
      ≡ by_place (pieces_of l.places (replies_to (entries_of l.page) (commands_at l.commands l.places)));
  fewest : l.bounds.fewest ≤ length (map_by_now l.page l.changes);
  most : min (length (map_by_now l.page l.changes)) (2 ^ 64 - 1) ≤ l.bounds.most;
}
