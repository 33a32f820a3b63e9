use Rattle.std.proofs.Common.{◌≤◌, ◌∙◌, length, IsTrue, inr, sym, subst, arith}
use Rattle.engine.specs.Hidden.{HoldsNoStore, IsLeftHiding}
use Rattle.flush_log.proofs.ViewLemmas.{only_then, weaker}
use Rattle.engine.proofs.HiddenLemmas.{store_hidden, others_written, first_written, second_is}
use Rattle.engine.proofs.hidden_disk.clear_first.Goals as goal

pub returns-then-first-eq-STORE_BYTE-clause-crash : goal.returns-then-first-eq-STORE_BYTE-clause-crash
returns-then-first-eq-STORE_BYTE-clause-crash g c is_synced =
    store_hidden (g.D.Disk.view c.args.disk.now) (g.D.Disk.view c.write_through.new.disk) is_synced (sym (c.requires.first is_synced.honest) ∙ c.if-first-eq-STORE_BYTE.true) (c.write_through.ensures.crash is_synced.honest)

pub returns-in_err-write_through-clause-crash : goal.returns-in_err-write_through-clause-crash
returns-in_err-write_through-clause-crash g c is_synced =
    let old = g.D.Disk.view c.args.disk.now in
    let new = g.D.Disk.view c.write_through-2.new.disk in
    weaker old new HoldsNoStore (IsLeftHiding old.seen) (λ f none. inr none)
    (others_written old new is_synced 1 (λ is. c.if-first-eq-STORE_BYTE.false (c.requires.first is_synced.honest ∙ is)) (c.write_through-2.ensures.crash is_synced.honest))

pub returns-clause-crash : goal.returns-clause-crash
returns-clause-crash g c is_synced =
    let old = g.D.Disk.view c.args.disk.now in
    let mid = g.D.Disk.view c.write_through-2.new.disk in
    let new = g.D.Disk.view c.write_through-3.new.disk in
    let still = subst IsTrue (sym c.write_through-2.ensures.kept.honest) is_synced.honest in
    let whole = (g.met.D.Disk.lawful c.args.disk.now is_synced.honest).whole in
    let room : 2 ≤ length old.seen = omega (arith, whole, c.requires.room) in
    weaker old new HoldsNoStore (IsLeftHiding old.seen) (λ f none. inr none)
    (only_then old mid new HoldsNoStore
    (others_written old mid is_synced 1 (λ is. c.if-first-eq-STORE_BYTE.false (c.requires.first is_synced.honest ∙ is)) (c.write_through-2.ensures.crash is_synced.honest))
    (first_written mid new (c.in_ok-write_through.ensures.is_synced is_synced.honest) (second_is old.seen mid.seen room (c.in_ok-write_through.ensures.written is_synced.honest)) (c.write_through-3.ensures.crash still)))
