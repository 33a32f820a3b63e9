use Rattle.std.proofs.Common.{◌≡◌, IsTrue, inr, refl, sym, subst, ◌∙◌}
use Rattle.std.specs.Prelude.{◌≢◌, IfErr, IfOk}
use Rattle.keys.specs.declared.fault.Fault.TheVariants.{Device}
use Rattle.flush_log.proofs.SameLemmas.{settled_still}
use Rattle.flush_log.proofs.ViewLemmas.{counted_failed, nothing_leaves}
use Rattle.recovery.proofs.ReadBytes.{kept_self, kept_then}
use Rattle.engine.specs.Opened.{IsOpened, disk_left}
use Rattle.engine.specs.Refusal.{is_crew}
use Rattle.engine.proofs.OpenedLemmas.{failed-first, read_earlier, leaves_still, settled_where}
use Rattle.engine.proofs.RefusedCalls.{not_both}
use Rattle.engine.proofs.store.Store.open.Goals as goal

-- ---- the crew is out of range

pub returns-in-Err : goal.returns-in-Err
returns-in-Err g c =
    let old = g.D.Disk.view c.args.disk in
    let why = c.in-Err.ensures.err in
    rw why.0 (record {
      bad_crew = λ _. refl;
      read = λ able. absurd (not_both (is_crew c.args.crew) able why.1);
      honest = λ able. absurd (not_both (is_crew c.args.crew) able why.1);
      fine = tt;
      seen = λ _. refl;
      is_synced = λ _. tt;
      crash = λ honest. nothing_leaves old (λ b a. a ≡ b) (g.met.D.Disk.lawful c.args.disk honest) (λ _. refl);
      kept = kept_self old;
      counted = tt;
      uncounted = λ _. refl;
      sound = tt;
    })

-- ---- the disk is not synced

pub returns-in-Err-settle : goal.returns-in-Err-settle
returns-in-Err-settle g c =
    let failed = g.D.Disk.failed in
    let old = c.args.disk in
    let new = c.settle.new.disk in
    let device = c.into.ensures in
    let count = c.in-Err-settle.ensures.failed in
    record {
      bad_crew = λ bad. absurd (not_both (is_crew c.args.crew) c.in_default.ensures.ok bad);
      read = λ _. failed-first (g.D.Disk.view old) (failed old) (failed new) c.into.result (λ honest. g.met.D.Disk.lawful old honest) device count;
      honest = λ _ _. inr (inr (device, counted_failed (failed old) (failed new) count));
      fine = tt;
      seen = c.settle.ensures.seen;
      is_synced = λ _. tt;
      crash = c.settle.ensures.crash;
      kept = c.settle.ensures.kept;
      counted = tt;
      uncounted = λ other. absurd (other device);
      sound = tt;
    }

-- ---- synced

pub returns-in-Ok : goal.returns-in-Ok
returns-in-Ok g c =
    let view = g.D.Disk.view in
    let failed = g.D.Disk.failed in
    let old = c.args.disk in
    let mid = c.settle.new.disk in
    let result = c.recover.result in
    let new = disk_left result in
    let synced = c.in-Ok.ensures in
    let still = c.recover.ensures in
    record {
      bad_crew = λ bad. absurd (not_both (is_crew c.args.crew) c.in_default.ensures.ok bad);
      read = λ able. (
          let (file, read, opened) = still.read able in
          (file, read_earlier (view old) (view mid) file synced.kept synced.seen read, subst (λ n. IsOpened failed file n result) synced.failed opened));
      honest = λ able honest.
          subst (λ n. IsOpened failed (view old).seen n result) synced.failed
          (subst (λ file. IsOpened failed file (failed mid) result) (synced.seen honest) (still.honest able (subst IsTrue (sym synced.kept.honest) honest)));
      fine = still.fine;
      seen = λ honest. (still.same (synced.is_synced honest).honest).seen ∙ synced.seen honest;
      is_synced = λ honest. settled_where view result (settled_still (view mid) (view new) still.kept (still.same (synced.is_synced honest).honest) (synced.is_synced honest));
      crash = λ honest. leaves_still (view old) (view mid) (view new) (λ b a. a ≡ b) (synced.crash honest) (still.same (synced.is_synced honest).honest);
      kept = kept_then (view old) (view mid) (view new) synced.kept still.kept;
      counted = subst (λ n. IfOk result (λ opened. failed opened.disk ≡ n)) synced.failed still.counted;
      uncounted = subst (λ n. IfErr result (λ e. e.0 ≢ Device → failed e.1 ≡ n)) synced.failed still.uncounted;
      sound = still.sound;
    }
