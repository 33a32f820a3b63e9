use Rattle.std.proofs.Common.{IsTrue, arith, drop, subst, sym, take, ap, ◌∙◌, List, ℕ}
use Rattle.engine.specs.Hidden.{is_later_slot}
use Rattle.engine.proofs.UnfinishedLemmas.{later_slots, none_complete}
use Rattle.engine.proofs.unfinished.was_complete.Goals as goal

pub returns-then-len-clause-exact : goal.returns-then-len-clause-exact
returns-then-len-clause-exact g c honest =
    let disk = c.args.disk.now in
    none_complete (g.D.Disk.view disk).seen (let whole = (g.met.D.Disk.lawful disk honest).whole in omega arith)

pub returns-clause-exact : goal.returns-clause-exact
returns-clause-exact g c honest =
    let disk = c.args.disk.now in
    let whole = (g.met.D.Disk.lawful disk honest).whole in
    let read = c.has_later_slot.ensures in
    let second = c.in_ok-second.ensures.exact (subst IsTrue (sym read.kept.honest) honest) in
    later_slots (g.D.Disk.view disk).seen _ _ (omega arith) (c.in_ok-first.ensures.exact honest)
    (second ∙ ap (λ (file : List ℕ). is_later_slot (take 64 (drop 192 file))) (read.same honest).seen)
