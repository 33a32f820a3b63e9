use Rattle.std.specs.Prelude.{◌≡◌, IfOk, reverse}
use Rattle.std.proofs.Common.{subst}
use Rattle.delta_chain.specs.Layers.{entries_of, with_run}
use Rattle.delta_chain.proofs.Halves.{rising-together}
use Rattle.delta_chain.proofs.Overlays.{entries-joined_changes}
use Rattle.delta_chain.proofs.RunList.{all_rise-over}
use Rattle.delta_chain.proofs.chain.ChainRef.pairs.Goals as goal

pub with_run-requires-clause-changes : goal.with_run-requires-clause-changes
with_run-requires-clause-changes g c = rw c.in_ok-changes.ensures.changes (rising-together (reverse c.self.inside.runs.now) c.in_ok-changes.ensures.rising)

pub returns-clause-entries : goal.returns-clause-entries
returns-clause-entries g c =
    let runs = reverse c.self.inside.runs.now in
    let base = c.self.inside.base.now in
    let rise = all_rise-over runs base c.in_ok-changes.ensures.rising (rw c.in_ok-under.ensures.entries at c.in_ok-under.ensures.rising) in
    let all : with_run c.in_ok-under.under c.in_ok-changes.changes ≡ entries_of c.args.self.now =
    rw (c.in_ok-under.ensures.entries, c.in_ok-changes.ensures.changes, ← c.self.view_is) (entries-joined_changes runs base rise) in
    subst (λ es. IfOk c.with_run.result (λ pairs. pairs ≡ es)) all c.with_run.ensures.entries
