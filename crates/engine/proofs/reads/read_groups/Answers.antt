use denote.Param.Send.{sendable}
use Rattle.std.proofs.Common.{◌∙◌, ap, map, refl}
use Rattle.std.proofs.lemmas.List.{map-id}
use Rattle.keys.specs.Lists.{flat}
use Rattle.page_runs.specs.Reads.{route_answers}
use Rattle.replies.specs.ByPlace.{pieces_at}
use Rattle.engine.specs.GroupReads.{group_at, group_answers}
use Rattle.engine.proofs.Crossing.{groups_sync}
use Rattle.engine.proofs.GroupLemmas.{all_groups}
use Rattle.engine.proofs.reads.read_groups.Goals as goal

pub run_round-requires-sync-W : goal.run_round-requires-sync-W
run_round-requires-sync-W g c κs within = search (sendable, groups_sync)

pub returns-in-Ok : goal.returns-in-Ok
returns-in-Ok g c place =
    let tree = c.args.work.now.tree.now in
    let cs = c.args.work.now.commands.now in
    let rs = c.args.page_runs.now in
    let starts = c.in_ok-starts.starts.items in
    ap (λ xs. pieces_at (flat xs) place) (c.in-Ok.ensures.made ∙ ap (map (λ start. group_answers tree cs (group_at rs start))) (map-id starts))
    ∙ all_groups tree cs rs starts place
    ∙ ap (λ qs. pieces_at (flat (map (route_answers tree cs) qs)) place) (c.in_ok-starts.ensures rs refl)
