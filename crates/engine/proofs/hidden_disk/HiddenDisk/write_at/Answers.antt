use Rattle.std.proofs.Common.{◌≤◌, ◌+◌, inl, inr, length, arith, sym, subst, IsTrue, eqb-true}
use Rattle.flush_log.specs.Overlay.{IsBeside}
use Rattle.engine.proofs.HiddenLemmas.{agree_exchanged, leaves_one, leaves_two, rest_less, some_bytes, torn_exchanged, torn_one, torn_two, written_rest}
use Rattle.engine.proofs.hidden_disk.HiddenDisk.write_at.Goals.{then-at-gt0-via-then-at-gt0, then-at-gt0-via-else-at-gt0+then-is_empty}
use Rattle.engine.proofs.hidden_disk.HiddenDisk.write_at.Goals as goal

-- ---- not from the first byte on

pub returns-then-at-gt0-clause-written : goal.returns-then-at-gt0-clause-written
returns-then-at-gt0-clause-written g c honest =
    let old = g.D.Disk.view c.args.self.now.disk in
    let whole = (g.met.D.Disk.lawful c.args.self.now.disk honest).whole in
    let fits : c.args.at + length c.args.bytes.now ≤ length old.seen = omega (arith, whole, c.requires) in
    written_rest c.write_at.result old.seen (g.D.Disk.view c.write_at.new.self).seen c.args.at c.args.bytes.now
    (elim c.then-at-gt0.branch [ then-at-gt0-via-then-at-gt0 w ↦ inl w.if-at-gt0.true | then-at-gt0-via-else-at-gt0+then-is_empty w ↦ inr (eqb-true (length c.args.bytes.now) 0 (sym w.if-is_empty.ensures)) ])
    fits (c.write_at.ensures.written honest)

pub returns-then-at-gt0-clause-torn : goal.returns-then-at-gt0-clause-torn
returns-then-at-gt0-clause-torn g c honest =
    agree_exchanged (IsBeside c.args.at (length c.args.bytes.now)) (g.D.Disk.view c.args.self.now.disk).seen (g.D.Disk.view c.write_at.new.self).seen (c.write_at.ensures.torn honest)

pub returns-then-at-gt0-clause-crash : goal.returns-then-at-gt0-clause-crash
returns-then-at-gt0-clause-crash g c honest =
    torn_exchanged (g.D.Disk.view c.args.self.now.disk) (g.D.Disk.view c.write_at.new.self) c.args.at (length c.args.bytes.now) (c.write_at.ensures.crash honest)

-- ---- from the first byte on

pub returns-in_err-write_at-clause-torn : goal.returns-in_err-write_at-clause-torn
returns-in_err-write_at-clause-torn g c honest =
    let old = g.D.Disk.view c.args.self.now.disk in
    let new = g.D.Disk.view c.write_at-2.new.self in
    let n = length c.args.bytes.now in
    agree_exchanged (IsBeside c.args.at n) old.seen new.seen
    (torn_one old.seen new.seen c.args.at n (omega (arith, c.if-at-gt0.false)) (some_bytes c.args.bytes.now (sym c.if-is_empty.ensures)) (c.write_at-2.ensures.torn honest))

pub returns-in_err-write_at-clause-crash : goal.returns-in_err-write_at-clause-crash
returns-in_err-write_at-clause-crash g c honest =
    leaves_one (g.D.Disk.view c.args.self.now.disk) (g.D.Disk.view c.write_at-2.new.self) c.args.at (length c.args.bytes.now)
    (omega (arith, c.if-at-gt0.false)) (some_bytes c.args.bytes.now (sym c.if-is_empty.ensures)) (c.write_at-2.ensures.crash honest)

pub returns-clause-torn : goal.returns-clause-torn
returns-clause-torn g c honest =
    let old = g.D.Disk.view c.args.self.now.disk in
    let mid = g.D.Disk.view c.write_at-2.new.self in
    let new = g.D.Disk.view c.write_at-3.new.self in
    let n = length c.args.bytes.now in
    let some = some_bytes c.args.bytes.now (sym c.if-is_empty.ensures) in
    let still = subst IsTrue (sym c.write_at-2.ensures.kept.honest) honest in
    agree_exchanged (IsBeside c.args.at n) old.seen new.seen
    (torn_two old.seen mid.seen new.seen c.args.at _ n (omega (arith, c.if-at-gt0.false)) (rest_less c.args.bytes.now some) (c.write_at-2.ensures.torn honest) (c.write_at-3.ensures.torn still))

pub returns-clause-crash : goal.returns-clause-crash
returns-clause-crash g c honest =
    let some = some_bytes c.args.bytes.now (sym c.if-is_empty.ensures) in
    let still = subst IsTrue (sym c.write_at-2.ensures.kept.honest) honest in
    leaves_two (g.D.Disk.view c.args.self.now.disk) (g.D.Disk.view c.write_at-2.new.self) (g.D.Disk.view c.write_at-3.new.self) c.args.at _ (length c.args.bytes.now)
    (omega (arith, c.if-at-gt0.false)) (rest_less c.args.bytes.now some) (g.met.D.Disk.lawful c.write_at-2.new.self still) (c.write_at-2.ensures.crash honest) (c.write_at-3.ensures.crash still)
