use Rattle.std.proofs.Common.{◌≡◌, ◌&&◌, ◌||◌, ℕ}
use Rattle.mapping.specs.FreshPids.{is_among}
use Rattle.mapping.specs.Table.{log_of, pids_in_use_or_old}
use Rattle.engine.specs.Compacted.{is_logged}
use Rattle.engine.proofs.store.compact.logged_pids.Given as goal

-- the page ids found so far, and the remaining logged ones, are all that are known and logged
abbrev pub invariant-loop-pid : goal.invariant-loop-pid
invariant-loop-pid l = (q : ℕ) → (is_among q l.pids.items || (is_among q l.pid-iterator && is_logged (log_of l.tree.table q)))
    ≡ (is_among q (pids_in_use_or_old l.tree.table) && is_logged (log_of l.tree.table q))
