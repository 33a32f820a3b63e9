use Rattle.std.proofs.Common.{◌≡◌, ◌≤◌, [], ◌∷◌, ◌++◌, length, replicate, refl, sym, ap, subst, ◌∙◌}
use Rattle.flush_log.specs.Commit.{seen_after}
use Rattle.flush_log.specs.Commit.Call.{Sync}
use Rattle.flush_log.specs.Record.{AreCalls, calls_of, with_zeros}
use Rattle.flush_log.proofs.RecordLemmas.{sync_in_range, sync_seen, sync_leaves, sync_settles, either_way, none_same, none_leaves}
use Rattle.flush_log.proofs.mem_disk.MemDisk.sync_recorded.Goals as goal

pub returns-in-Ok-clause-done : goal.returns-in-Ok-clause-done
returns-in-Ok-clause-done g c = c.in-Ok.ensures.ok

pub returns-in-Ok-clause-refused : goal.returns-in-Ok-clause-refused
returns-in-Ok-clause-refused g c = tt

pub returns-in-Ok-clause-len : goal.returns-in-Ok-clause-len
returns-in-Ok-clause-len g c = refl

pub returns-in-Ok-clause-kept : goal.returns-in-Ok-clause-kept
returns-in-Ok-clause-kept g c = refl

pub returns-in-Ok-clause-none : goal.returns-in-Ok-clause-none
returns-in-Ok-clause-none g c = tt

pub returns-in-Ok-clause-failed : goal.returns-in-Ok-clause-failed
returns-in-Ok-clause-failed g c = refl

pub returns-in-Ok-clause-seen : goal.returns-in-Ok-clause-seen
returns-in-Ok-clause-seen g c = sync_seen c.args.self.now.len c.args.self.now.len (calls_of c.args.self.now.calls.items) (calls_of c.note.new.calls.items) refl c.in-Ok.ensures.ok

pub returns-in-Err-clause-done : goal.returns-in-Err-clause-done
returns-in-Err-clause-done g c = tt

pub returns-in-Err-clause-refused : goal.returns-in-Err-clause-refused
returns-in-Err-clause-refused g c = ap (λ calls. calls_of calls) c.in-Err.ensures.err

pub returns-in-Err-clause-len : goal.returns-in-Err-clause-len
returns-in-Err-clause-len g c = refl

pub returns-in-Err-clause-kept : goal.returns-in-Err-clause-kept
returns-in-Err-clause-kept g c = refl

pub returns-in-Err-clause-none : goal.returns-in-Err-clause-none
returns-in-Err-clause-none g c = none_same c.args.self.now.len c.args.self.now.len (calls_of c.args.self.now.calls.items) (calls_of c.note.new.calls.items) refl (ap (λ calls. calls_of calls) c.in-Err.ensures.err)

pub returns-in-Err-clause-failed : goal.returns-in-Err-clause-failed
returns-in-Err-clause-failed g c = c.count_failure.ensures

pub returns-in-Err-clause-is_synced : goal.returns-in-Err-clause-is_synced
returns-in-Err-clause-is_synced g c = tt

pub returns-in-Err-clause-seen : goal.returns-in-Err-clause-seen
returns-in-Err-clause-seen g c = ap (λ calls. seen_after (calls_of calls) (replicate c.args.self.now.len 0)) c.in-Err.ensures.err

pub returns-in-Err-clause-crash : goal.returns-in-Err-clause-crash
returns-in-Err-clause-crash g c = none_leaves c.args.self.now.len c.args.self.now.len (calls_of c.args.self.now.calls.items) (calls_of c.note.new.calls.items) refl (ap (λ calls. calls_of calls) c.in-Err.ensures.err) (λ before c. c ≡ before) (λ file. refl)

pub invariant_of-self : goal.invariant_of-self
invariant_of-self g c =
    let old = c.args.self.now in
    let n = old.len in
    let more = calls_of c.note.new.calls.items in
    either_way (more ≡ calls_of old.calls.items ++ Sync ∷ []) (c.note.new.calls.items ≡ old.calls.items)
    (record { in_range : AreCalls n more; short : length old.kept.items ≤ n; recorded : with_zeros n old.kept.items ≡ seen_after more (replicate n 0) }) c.note.result c.note.ensures.ok c.note.ensures.err
    (λ is. record {
      in_range = sync_in_range n n (calls_of old.calls.items) more refl is old.in_range;
      short = old.short;
      recorded = old.recorded ∙ sym (sync_seen n n (calls_of old.calls.items) more refl is);
    })
    (λ is. record {
      in_range = subst (λ calls. AreCalls n (calls_of calls)) (sym is) old.in_range;
      short = old.short;
      recorded = old.recorded ∙ ap (λ calls. seen_after (calls_of calls) (replicate n 0)) (sym is);
    })

pub returns-in-Ok-clause-is_synced : goal.returns-in-Ok-clause-is_synced
returns-in-Ok-clause-is_synced g c =
    let old = c.args.self.now in
    sync_settles old.len old.len (calls_of old.calls.items) (calls_of c.note.new.calls.items) refl c.in-Ok.ensures.ok old.in_range

pub returns-in-Ok-clause-crash : goal.returns-in-Ok-clause-crash
returns-in-Ok-clause-crash g c =
    let old = c.args.self.now in
    sync_leaves old.len old.len (calls_of old.calls.items) (calls_of c.note.new.calls.items) refl c.in-Ok.ensures.ok old.in_range
