use Rattle.std.proofs.Common.{◌≡◌, ◌<◌, ◌^◌, ◌-◌, ℕ, List, ◌∷◌, ◌++◌, [], Some, length, take, get_or, slice_get, refl, arith, add-one}
use Rattle.std.proofs.lemmas.Option.{slice_get_read, slice_get-get_or}
use Rattle.std.specs.declared.alloc.Global.{Global}
use Rattle.keys.specs.Order.{IsRising}
use Rattle.keys.specs.Step.{map_after}
use Rattle.keys.specs.declared.command.Command.{Command}
use Rattle.delta_chain.specs.Layers.{entries_of, with_run}
use Rattle.delta_chain.proofs.LayerLemmas.{rising-with_run, rising-entries_of}
use Rattle.page_runs.proofs.Counts.{fewest_after, most_after_command}
use Rattle.page_runs.proofs.NetLemmas.{Pairs, Changes}
use Rattle.page_runs.specs.NetRun.{net_run}
use Rattle.page_runs.specs.Replies.{commands_at}
use Rattle.page_runs.proofs.Replays.{place_within, read_place_within, commands_at-take, changes_step, map_step, pieces_step}
use Rattle.page_runs.proofs.replay.execute_all.Goals as goal

pub loop-place-preserved : goal.loop-place-preserved
loop-place-preserved c =
    let batch : List (Command Global) = c.args.commands.now in
    let places : List ℕ = c.args.places.now in
    let i : ℕ = c.loop-place.place-index in
    let place : ℕ = get_or places i 0 in
    let command : Command Global = c.index-commands-place.result in
    let held : Pairs = entries_of c.args.page.now in
    let before : Changes = c.loop-place.changes in
    let after : Changes = c.execute.new.changes in
    let rising : IsRising held = rising-entries_of c.args.page.now c.depth-in_order.ensures.rising in
    let here : slice_get places i ≡ Some place = slice_get-get_or places i 0 (omega arith) in
    let within : place < length batch = place_within batch places i place c.requires.places here in
    let there : slice_get batch place ≡ Some command = slice_get_read batch (length batch) place command refl within c.index-commands-place.is in
    let so_far : List (Command Global) = commands_at batch (take i places) in
    let changes : after ≡ net_run held (so_far ++ command ∷ []) = changes_step held rising so_far command before after c.loop-place.invariant.changes c.in_ok-reply.ensures.changes in
    let map : with_run held after ≡ map_after (with_run held before) command = map_step held rising so_far command before after c.loop-place.invariant.changes changes in
    let pieces = pieces_step batch places i place command (with_run held before) c.loop-place.pieces _ here there c.loop-place.invariant.pieces in
    let fewest = fewest_after c.loop-place.bounds.fewest (with_run held before) command c.loop-place.invariant.fewest in
    let most = most_after_command (2 ^ 64 - 1) c.loop-place.bounds.most (with_run held before) command (rising-with_run held before rising) c.bounds_after-bounds.ensures.within c.loop-place.invariant.most in
    record {
      changes = rw (add-one, commands_at-take batch places i place command here there) changes;
      pieces = rw (add-one, c.in_ok-push.ensures.ok, c.in_ok-reply.ensures.reply, map) pieces;
      fewest = rw (c.bounds_after-bounds.ensures.fewest, c.in_ok-reply.ensures.reply, map) (omega (arith, fewest));
      most = rw (c.bounds_after-bounds.ensures.most, c.in_ok-reply.ensures.reply, map) most;
    }

pub bounds-commands-place : goal.bounds-commands-place
bounds-commands-place c = read_place_within c.args.commands.now c.args.places.now c.loop-place.place-index c.requires.places c.loop-place-test.true
