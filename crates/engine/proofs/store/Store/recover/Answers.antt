use Rattle.std.proofs.Common.{refl}
use Rattle.recovery.proofs.ReadBytes.{kept_self, same_self}
use Rattle.engine.specs.Refusal.{is_crew}
use Rattle.engine.proofs.OpenedLemmas.{opened-read, opened-seen, opened-store, refused-seen}
use Rattle.engine.proofs.RefusedCalls.{not_both}
use Rattle.engine.proofs.SoundStores.{with_count}
use Rattle.engine.proofs.store.Store.recover.Goals as goal

-- ---- the crew is out of range

pub returns-in-Err : goal.returns-in-Err
returns-in-Err g c =
    let old = g.D.Disk.view c.args.disk in
    let why = c.in-Err.ensures.err in
    rw why.0 (record {
      bad_crew = λ _. refl;
      read = λ able. absurd (not_both (is_crew c.args.crew) able why.1);
      honest = λ able. absurd (not_both (is_crew c.args.crew) able why.1);
      fine = tt;
      same = λ _. same_self old;
      kept = kept_self old;
      counted = tt;
      uncounted = λ _. refl;
      sound = tt;
    })

-- ---- recovered

pub invariant_of-result : goal.invariant_of-result
invariant_of-result g c =
    let (file, read, reported) = c.in-Ok.ensures.read in
    let r = c.in-Ok.found in
    with_count _ (opened-store g.D.Disk.view r.settings r.tree r.slot c.slot.inside.ends _ _ c.slot.inside.version c.args.disk c.recover.new.disk file read reported.0 c.in-Ok.ensures.only_reads.kept c.in-Ok.ensures.only_reads.same
    c.what_is_read_is_a_store.ensures c.slot.view_is reported.1) c.in-Ok.ensures.counted

pub returns-in-Ok : goal.returns-in-Ok
returns-in-Ok g c =
    let view = g.D.Disk.view in
    let (file, read, reported) = c.in-Ok.ensures.read in
    let r = c.in-Ok.found in
    let ok = c.in-Ok.ensures.only_reads in
    record {
      bad_crew = λ bad. absurd (not_both (is_crew c.args.crew) c.in_default.ensures.ok bad);
      read = λ _. (
        file,
        read,
        opened-read view r.settings r.tree r.slot c.slot.inside.ends _ _ c.slot.inside.version c.args.disk c.recover.new.disk file read reported.0 ok.kept ok.same
            c.what_is_read_is_a_store.ensures c.slot.view_is,
      );
      honest = λ _. opened-seen view r.settings r.tree r.slot c.slot.inside.ends _ _ c.slot.inside.version c.args.disk c.recover.new.disk file read reported.0 ok.kept ok.same
          c.what_is_read_is_a_store.ensures c.slot.view_is;
      fine = refl;
      same = ok.same;
      kept = ok.kept;
      counted = ok.counted;
      uncounted = tt;
      sound = (invariant_of-result g c).sound;
    }

-- ---- refused

pub returns-in-Err-recover : goal.returns-in-Err-recover
returns-in-Err-recover g c =
    let (file, read, reported) = c.in-Err-recover.ensures.read in
    let err = c.in-Err-recover.ensures.only_reads in
    record {
      bad_crew = λ bad. absurd (not_both (is_crew c.args.crew) c.in_default.ensures.ok bad);
      read = λ _. (file, read, reported);
      honest = λ _. refused-seen (g.D.Disk.view c.args.disk) file c.in-Err-recover.fault _ read reported;
      fine = tt;
      same = err.same;
      kept = err.kept;
      counted = tt;
      uncounted = err.uncounted;
      sound = tt;
    }
