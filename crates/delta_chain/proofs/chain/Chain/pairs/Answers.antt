use Rattle.std.specs.Prelude.{◌≡◌, IfOk}
use Rattle.std.proofs.Common.{subst}
use Rattle.delta_chain.specs.Layers.{entries_of, with_run}
use Rattle.delta_chain.proofs.LocatorLemmas.{rising_changes, entries_changes}
use Rattle.delta_chain.proofs.chain.Chain.pairs.Goals as goal

pub lent_changes-requires : goal.lent_changes-requires
lent_changes-requires g c = rw c.deref-2.ensures.value (let newest = rw c.in-Some.is at c.self.invariant.2 in rw c.deref.ensures.value newest.all)

pub with_run-requires-clause-changes : goal.with_run-requires-clause-changes
with_run-requires-clause-changes g c =
    let newest = rw c.in-Some.is at c.self.invariant.2 in
    rw (c.in_ok-changes.ensures, c.deref.ensures.value, c.deref-2.ensures.value) (rising_changes c.self.inside.runs.items c.in-Some.locators.items newest)

pub returns-clause-entries : goal.returns-clause-entries
returns-clause-entries g c =
    let newest = rw c.in-Some.is at c.self.invariant.2 in
    let all : with_run c.in_ok-under.under c.in_ok-changes.changes ≡ entries_of c.args.self.now =
    rw (c.in_ok-under.ensures.entries, c.in_ok-changes.ensures, c.deref.ensures.value, c.deref-2.ensures.value, ← c.self.view_is) (entries_changes c.self.inside.runs.items c.self.inside.base c.in-Some.locators.items newest c.self.invariant.0.rising) in
    subst (λ es. IfOk c.with_run.result (λ pairs. pairs ≡ es)) all c.with_run.ensures.entries
