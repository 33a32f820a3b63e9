use Rattle.std.proofs.lemmas.Option.{slice_get_within}
use Rattle.scan.proofs.EdgeLemmas.{count_there, count_gap}
use Rattle.scan.proofs.edge.place_after.Goals as goal

pub returns-in-Ok : goal.returns-in-Ok
returns-in-Ok g c = count_there c.args.key.now (g.L.KeyList.keys c.args.list.now) c.place.ensures.rising c.in-Ok.at (slice_get_within _ c.in-Ok.at c.args.key.now c.in-Ok.ensures.place) c.in-Ok.ensures.place

pub returns-in-Err : goal.returns-in-Err
returns-in-Err g c = count_gap c.args.key.now (g.L.KeyList.keys c.args.list.now) c.place.ensures.rising c.in-Err.at c.in-Err.ensures.place
