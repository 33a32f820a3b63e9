use Rattle.std.proofs.Common.{◌≤◌, length, arith}
use Rattle.engine.proofs.HiddenLemmas.{store_revealed}
use Rattle.engine.proofs.hidden_disk.reveal.Goals as goal

pub returns-clause-crash : goal.returns-clause-crash
returns-clause-crash g c is_synced =
    let old = g.D.Disk.view c.args.disk.now in
    let whole = (g.met.D.Disk.lawful c.args.disk.now is_synced.honest).whole in
    let some : 1 ≤ length old.seen = omega (arith, whole, c.requires) in
    store_revealed old (g.D.Disk.view c.write_through.new.disk) is_synced some (c.write_through.ensures.crash is_synced.honest)
