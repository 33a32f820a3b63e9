use Rattle.std.proofs.Common.{◌+◌, ◌≤◌, length, replicate, refl, sym, ap, subst, ◌∙◌, arith}
use Rattle.flush_log.specs.Overlay.{overlay, IsBeside, AgreeAt}
use Rattle.flush_log.specs.Disk.{Torn}
use Rattle.flush_log.specs.Commit.{seen_after}
use Rattle.flush_log.specs.Record.{AreCalls, calls_of, with_zeros}
use Rattle.flush_log.proofs.OverlayLemmas.{agree_same}
use Rattle.flush_log.proofs.RecordLemmas.{in_bytes, zeros-overlay, zeros-whole, if_grown, written_length, write_in_range, write_recorded, write_seen, write_torn, write_leaves, none_same, none_leaves}
use Rattle.flush_log.proofs.mem_disk.MemDisk.write_recorded.Goals as goal

pub overflow_add-end : goal.overflow_add-end
overflow_add-end g c = let within = in_bytes c.args.self.now.len (c.args.at + length c.args.bytes.now) c.requires in omega (arith, within)

pub lengthen-requires-clause-short : goal.lengthen-requires-clause-short
lengthen-requires-clause-short g c = c.args.self.now.short

pub lengthen-requires-clause-within : goal.lengthen-requires-clause-within
lengthen-requires-clause-within g c = in_bytes c.args.self.now.len (c.args.at + length c.args.bytes.now) c.requires

-- no room was found for the bytes
pub invariant_of-self : goal.invariant_of-self
invariant_of-self g c =
    let old = c.args.self.now in
    record { in_range = old.in_range; short = c.lengthen.ensures.short; recorded = c.lengthen.ensures.same ∙ old.recorded }

pub returns-then-is_err-clause-done : goal.returns-then-is_err-clause-done
returns-then-is_err-clause-done g c = tt

pub returns-then-is_err-clause-refused : goal.returns-then-is_err-clause-refused
returns-then-is_err-clause-refused g c = refl

pub returns-then-is_err-clause-kept : goal.returns-then-is_err-clause-kept
returns-then-is_err-clause-kept g c = record { honest = refl; size = refl }

pub returns-then-is_err-clause-len : goal.returns-then-is_err-clause-len
returns-then-is_err-clause-len g c = refl

pub returns-then-is_err-clause-grows : goal.returns-then-is_err-clause-grows
returns-then-is_err-clause-grows g c = c.lengthen.ensures.grows

pub returns-then-is_err-clause-none : goal.returns-then-is_err-clause-none
returns-then-is_err-clause-none g c =
    let old = c.args.self.now in
    none_same old.len old.len (calls_of old.calls.items) (calls_of old.calls.items) refl refl

pub returns-then-is_err-clause-failed : goal.returns-then-is_err-clause-failed
returns-then-is_err-clause-failed g c = c.count_failure.ensures

pub returns-then-is_err-clause-written : goal.returns-then-is_err-clause-written
returns-then-is_err-clause-written g c = tt

pub returns-then-is_err-clause-torn : goal.returns-then-is_err-clause-torn
returns-then-is_err-clause-torn g c =
    let old = c.args.self.now in
    agree_same (IsBeside c.args.at (length c.args.bytes.now)) (seen_after (calls_of old.calls.items) (replicate old.len 0))

pub returns-then-is_err-clause-crash : goal.returns-then-is_err-clause-crash
returns-then-is_err-clause-crash g c =
    let old = c.args.self.now in
    let at = c.args.at in
    let long = length c.args.bytes.now in
    none_leaves old.len old.len (calls_of old.calls.items) (calls_of old.calls.items) refl refl (Torn at long) (λ f. agree_same (IsBeside at long) f)

-- the bytes were written
pub overwrite-requires : goal.overwrite-requires
overwrite-requires g c =
    let end = c.args.at + length c.args.bytes.now in
    if_grown (end ≤ length c.lengthen.new.kept.items) c.lengthen.result (sym c.is_err.ensures.value ∙ c.if-is_err.false) c.lengthen.ensures.enough

pub invariant_of-self-in-Ok : goal.invariant_of-self-in-Ok
invariant_of-self-in-Ok g c =
    let old = c.args.self.now in
    let n = old.len in
    let kept = c.lengthen.new.kept.items in
    let now = c.overwrite.new.file.items in
    let at = c.args.at in
    let bytes = c.args.bytes.now in
    let more = calls_of c.note_write.new.calls.items in
    let within = in_bytes n (at + length bytes) c.requires in
    let here : at + length bytes ≤ length kept = if_grown (at + length bytes ≤ length kept) c.lengthen.result (sym c.is_err.ensures.value ∙ c.if-is_err.false) c.lengthen.ensures.enough in
    let long = written_length kept now at bytes c.overwrite.ensures here in
    let is = ap (λ file. with_zeros n file) c.overwrite.ensures ∙ zeros-overlay n kept at bytes here ∙ ap (λ file. overlay file at bytes) c.lengthen.ensures.same in
    record {
      in_range = write_in_range n n (calls_of old.calls.items) more refl at bytes c.in-Ok.ensures.ok within old.in_range;
      short = omega (arith, long, c.lengthen.ensures.short);
      recorded = write_recorded n n (calls_of old.calls.items) more refl at bytes c.in-Ok.ensures.ok within (with_zeros n old.kept.items) (with_zeros n now) old.recorded is;
    }

pub returns-in-Ok-clause-done : goal.returns-in-Ok-clause-done
returns-in-Ok-clause-done g c = c.in-Ok.ensures.ok

pub returns-in-Ok-clause-refused : goal.returns-in-Ok-clause-refused
returns-in-Ok-clause-refused g c = tt

pub returns-in-Ok-clause-kept : goal.returns-in-Ok-clause-kept
returns-in-Ok-clause-kept g c = record { honest = refl; size = refl }

pub returns-in-Ok-clause-len : goal.returns-in-Ok-clause-len
returns-in-Ok-clause-len g c = refl

pub returns-in-Ok-clause-grows : goal.returns-in-Ok-clause-grows
returns-in-Ok-clause-grows g c =
    let kept = c.lengthen.new.kept.items in
    let end = c.args.at + length c.args.bytes.now in
    let here : end ≤ length kept = if_grown (end ≤ length kept) c.lengthen.result (sym c.is_err.ensures.value ∙ c.if-is_err.false) c.lengthen.ensures.enough in
    let long = written_length kept c.overwrite.new.file.items c.args.at c.args.bytes.now c.overwrite.ensures here in
    omega (arith, long, c.lengthen.ensures.grows)

pub returns-in-Ok-clause-none : goal.returns-in-Ok-clause-none
returns-in-Ok-clause-none g c = tt

pub returns-in-Ok-clause-failed : goal.returns-in-Ok-clause-failed
returns-in-Ok-clause-failed g c = refl

pub returns-in-Ok-clause-crash : goal.returns-in-Ok-clause-crash
returns-in-Ok-clause-crash g c =
    let old = c.args.self.now in
    let bytes = c.args.bytes.now in
    let within = in_bytes old.len (c.args.at + length bytes) c.requires in
    write_leaves old.len old.len (calls_of old.calls.items) (calls_of c.note_write.new.calls.items) refl c.args.at bytes c.in-Ok.ensures.ok within old.in_range

pub returns-in-Ok-clause-written : goal.returns-in-Ok-clause-written
returns-in-Ok-clause-written g c =
    let old = c.args.self.now in
    let bytes = c.args.bytes.now in
    let within = in_bytes old.len (c.args.at + length bytes) c.requires in
    write_seen old.len old.len (calls_of old.calls.items) (calls_of c.note_write.new.calls.items) refl c.args.at bytes c.in-Ok.ensures.ok within

pub returns-in-Ok-clause-torn : goal.returns-in-Ok-clause-torn
returns-in-Ok-clause-torn g c =
    let old = c.args.self.now in
    let bytes = c.args.bytes.now in
    let within = in_bytes old.len (c.args.at + length bytes) c.requires in
    write_torn old.len old.len (calls_of old.calls.items) (calls_of c.note_write.new.calls.items) refl c.args.at bytes c.in-Ok.ensures.ok within (with_zeros old.len old.kept.items)
    (zeros-whole old.len old.kept.items old.short) old.recorded

-- the record could not grow
pub invariant_of-self-in-Err : goal.invariant_of-self-in-Err
invariant_of-self-in-Err g c =
    let old = c.args.self.now in
    let n = old.len in
    let was = sym c.in-Err.ensures.err in
    record {
      in_range = subst (λ calls. AreCalls n (calls_of calls)) was old.in_range;
      short = c.lengthen.ensures.short;
      recorded = c.lengthen.ensures.same ∙ old.recorded ∙ ap (λ calls. seen_after (calls_of calls) (replicate n 0)) was;
    }

pub returns-in-Err-clause-done : goal.returns-in-Err-clause-done
returns-in-Err-clause-done g c = tt

pub returns-in-Err-clause-refused : goal.returns-in-Err-clause-refused
returns-in-Err-clause-refused g c = ap (λ calls. calls_of calls) c.in-Err.ensures.err

pub returns-in-Err-clause-kept : goal.returns-in-Err-clause-kept
returns-in-Err-clause-kept g c = record { honest = refl; size = refl }

pub returns-in-Err-clause-len : goal.returns-in-Err-clause-len
returns-in-Err-clause-len g c = refl

pub returns-in-Err-clause-grows : goal.returns-in-Err-clause-grows
returns-in-Err-clause-grows g c = c.lengthen.ensures.grows

pub returns-in-Err-clause-failed : goal.returns-in-Err-clause-failed
returns-in-Err-clause-failed g c = c.count_failure-in-Err.ensures

pub returns-in-Err-clause-written : goal.returns-in-Err-clause-written
returns-in-Err-clause-written g c = tt

pub returns-in-Err-clause-torn : goal.returns-in-Err-clause-torn
returns-in-Err-clause-torn g c =
    let old = c.args.self.now in
    let beside = IsBeside c.args.at (length c.args.bytes.now) in
    let seen = seen_after (calls_of old.calls.items) (replicate old.len 0) in
    subst (λ calls. AgreeAt beside seen (seen_after (calls_of calls) (replicate old.len 0))) (sym c.in-Err.ensures.err) (agree_same beside seen)

pub returns-in-Err-clause-none : goal.returns-in-Err-clause-none
returns-in-Err-clause-none g c =
    let old = c.args.self.now in
    none_same old.len old.len (calls_of old.calls.items) (calls_of c.note_write.new.calls.items) refl (ap (λ calls. calls_of calls) c.in-Err.ensures.err)

pub returns-in-Err-clause-crash : goal.returns-in-Err-clause-crash
returns-in-Err-clause-crash g c =
    let old = c.args.self.now in
    let at = c.args.at in
    let long = length c.args.bytes.now in
    none_leaves old.len old.len (calls_of old.calls.items) (calls_of c.note_write.new.calls.items) refl (ap (λ calls. calls_of calls) c.in-Err.ensures.err) (Torn at long) (λ f. agree_same (IsBeside at long) f)
