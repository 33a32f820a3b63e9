use Rattle.std.proofs.Common.{rules, ◌≡◌, ◌&&◌, ◌∷◌, ◌++◌, [], true}
use Rattle.mapping.specs.FreshPids.{is_among}
use Rattle.mapping.specs.Table.{log_of, pids_in_use_or_old}
use Rattle.engine.specs.Compacted.{is_logged}
use Rattle.engine.proofs.OutdatedTables.{pids_pushed}
use Rattle.engine.proofs.store.compact.logged_pids.Goals as goal

pub loop-pid-preserved-in-Continue-1 : goal.loop-pid-preserved-in-Continue-1
loop-pid-preserved-in-Continue-1 c =
    let table = c.args.tree.now.table in
    let next : c.loop-pid.pid-iterator ≡ c.in-Some.pid ∷ c.next.new.self = search rules in
    let logged : is_logged (log_of table c.in-Some.pid) ≡ true = search rules in
    let pushed : c.push.new.self.items ≡ c.loop-pid.pids.items ++ c.in-Some.pid ∷ [] = search rules in
    pids_pushed (λ q. is_logged (log_of table q)) (λ q. is_among q (pids_in_use_or_old table) && is_logged (log_of table q)) c.loop-pid.pids.items c.next.new.self
    c.push.new.self.items c.loop-pid.pid-iterator c.in-Some.pid next logged pushed c.loop-pid.invariant
