use Rattle.std.proofs.Common.{inr}
use Rattle.flush_log.proofs.ViewLemmas.{counted_failed}
use Rattle.engine.proofs.OpenedLemmas.{failed-first, read-synced, read_home}
use Rattle.engine.proofs.store.reopen.read_synced.Goals as goal

-- ---- the disk is not synced

pub returns-in-Err-clause-opened : goal.returns-in-Err-clause-opened
returns-in-Err-clause-opened g c =
    let failed = g.D.Disk.failed in
    let old = c.args.disk.now in
    let new = c.settle.new.disk in
    let device = c.into.ensures in
    let count = c.in-Err.ensures.failed in
    record {
      bad_crew = λ bad. absurd (cc);
      read = λ _. failed-first (g.D.Disk.view old) (failed old) (failed new) c.into.result (λ honest. g.met.D.Disk.lawful old honest) device count;
      honest = λ _ _. inr (inr (device, counted_failed (failed old) (failed new) count));
      fine = tt;
      seen = c.settle.ensures.seen;
      is_synced = λ _. tt;
      crash = c.settle.ensures.crash;
      kept = c.settle.ensures.kept;
      counted = tt;
      uncounted = λ other. absurd (other device);
      sound = tt;
    }

-- ---- synced

pub returns-in-Ok-clause-opened : goal.returns-in-Ok-clause-opened
returns-in-Ok-clause-opened g c =
    let (file, read, reported) = c.recover.ensures.read in
    let synced = c.in-Ok.ensures in
    read-synced g.D.Disk.view g.D.Disk.failed c.args.disk.now c.settle.new.disk c.recover.new.disk c.what_is_read_is_a_store.ensures synced.kept synced.failed synced.is_synced synced.seen synced.crash
    c.recover.result file read reported c.recover.ensures.only_reads

pub returns-in-Ok-clause-home : goal.returns-in-Ok-clause-home
returns-in-Ok-clause-home g c = (let (file, read, reported) = c.recover.ensures.read in read_home c.recover.result _ _ reported)
