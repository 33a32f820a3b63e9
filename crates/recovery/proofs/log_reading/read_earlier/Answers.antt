use Rattle.std.proofs.Common.{◌≡◌, ℕ, ◌+◌, ◌-◌, refl, sym, subst, ◌∙◌, arith, inl}
use Rattle.std.specs.List.{length_refill}
use Rattle.flush_log.specs.Reading.{read_earlier}
use Rattle.flush_log.specs.Segments.{last_segment}
use Rattle.recovery.specs.Gathered.{IsPartialLog}
use Rattle.recovery.specs.Recovered.{IsLate}
use Rattle.recovery.proofs.ReadBytes.{kept_self, same_self, kept_then, same_then, late_since, err_on, not_ok, reads_without_failure, reads_with_fault, reads_then}
use Rattle.recovery.proofs.ReadLog.{none-read, round-more, is_last}
use Rattle.recovery.proofs.log_reading.read_earlier.Goals as goal

pub loop-first-init : goal.loop-first-init
loop-first-init g c =
    let format = c.args.format.now in
    let s = format.settings in
    let t = c.args.ends.now in
    let start = g.D.Disk.view c.args.disk.now in
    let last = (is_last s t c.requires.checked c.requires.ends).from in
    record {
      from = omega arith;
      upto = omega (arith, last);
      buffer = refl;
      kept = kept_self start;
      same = λ honest. same_self start;
      counted = refl;
      read = λ w file is none. (file, none-read (IsPartialLog w c.args.so_far.now.gathering c.args.so_far.now.fault) start format t.head (t.head - t.head) file (omega arith) is none);
    }

pub read_whole-requires-clause-within : goal.read_whole-requires-clause-within
read_whole-requires-clause-within g c =
    let within = c.requires.within in
    let kept = c.loop-first.invariant.kept.size in
    omega (arith, within, kept)

pub loop-first-preserved : goal.loop-first-preserved
loop-first-preserved g c =
    let disk = g.D.Disk in
    let start = disk.view c.args.disk.now in
    let old = disk.view c.loop-first.disk in
    let new = disk.view c.read_whole.new.disk in
    let format = c.args.format.now in
    let s = format.settings in
    let t = c.args.ends.now in
    let n = c.loop-first.first in
    let count = c.min-count.result in
    let so_far = c.loop-first.invariant in
    let last = c.last_segment-last.ensures in
    let less = c.loop-first-test.true in
    let few = c.min-count.ensures in
    let from = so_far.from in
    let free = (is_last s t c.requires.checked c.requires.ends).free in
    record {
      from = omega (arith, from);
      upto = omega (arith, last, less, few);
      buffer = sym (length_refill c.loop-first.buffer.len c.loop-first.buffer.items _ c.loop-first.buffer.ok.0) ∙ c.loop-first.buffer.ok.0 ∙ so_far.buffer;
      kept = kept_then start old new so_far.kept c.read_whole.ensures.only_reads.kept;
      same = λ honest. same_then start old new (so_far.same honest) (c.read_whole.ensures.only_reads.same (so_far.kept.honest ∙ honest));
      counted = c.in_ok-segments.ensures.only_reads.counted ∙ so_far.counted;
      read = λ w file is none.
          let (now, upto) = so_far.read w file is none in
          let (then, bytes, front, state) = c.in_ok-segments.ensures.read now t.head upto.bytes from (omega (arith, free, few, less, last, from)) in (
            then,
            round-more (IsPartialLog w c.loop-first.so_far.gathering c.loop-first.so_far.fault) (IsPartialLog w c.take.new.self.gathering c.take.new.self.fault) old new format t.head (n - t.head) (n + count - t.head) c.in_ok-segments.segments.items file now then
                upto bytes front state (c.in_ok-take.ensures.ok w),
          );
    }

-- these segments were not read
pub returns-in_err-segments-clause-read : goal.returns-in_err-segments-clause-read
returns-in_err-segments-clause-read g c w file is none =
    let t = c.args.ends.now in
    let few = c.min-count.ensures in
    let less = c.loop-first-test.true in
    let last = c.last_segment-last.ensures in
    let free = (is_last c.args.format.now.settings t c.requires.checked c.requires.ends).free in
    let from = c.loop-first.invariant.from in
    let (now, upto) = c.loop-first.invariant.read w file is none in
    let (then, bytes, front, state) = c.in_err-segments.ensures.read now t.head upto.bytes from (omega (arith, free, few, less, last, from)) in
    (then, bytes, front ∙ upto.front, not_ok c.from_residual.result _ c.in_err-segments.field-0.0 c.from_residual.ensures.1)

pub returns-in_err-segments-clause-room : goal.returns-in_err-segments-clause-room
returns-in_err-segments-clause-room g c =
    let buffer = c.loop-first.buffer in
    sym (length_refill buffer.len buffer.items _ buffer.ok.0) ∙ buffer.ok.0 ∙ c.loop-first.invariant.buffer

pub returns-in_err-segments-clause-err : goal.returns-in_err-segments-clause-err
returns-in_err-segments-clause-err g c =
    let failed = g.D.Disk.failed in
    err_on c.from_residual.result (IsLate (failed c.args.disk.now) (failed c.read_whole.new.disk)) c.in_err-segments.field-0.0 c.from_residual.ensures.1
    (late_since _ _ _ _ c.loop-first.invariant.counted c.in_err-segments.ensures.err)

pub returns-in_err-segments-clause-only_reads : goal.returns-in_err-segments-clause-only_reads
returns-in_err-segments-clause-only_reads g c =
    let so_far = c.loop-first.invariant in
    reads_with_fault g.D.Disk.view g.D.Disk.failed c.args.disk.now c.read_whole.new.disk c.from_residual.result c.in_err-segments.field-0.0 c.from_residual.ensures.1
    (reads_then g.D.Disk.view g.D.Disk.failed c.args.disk.now c.loop-first.disk c.read_whole.new.disk _ so_far.kept so_far.same so_far.counted c.in_err-segments.ensures.only_reads)

-- these were not scanned
pub returns-in_err-take-clause-read : goal.returns-in_err-take-clause-read
returns-in_err-take-clause-read g c w file is none =
    let t = c.args.ends.now in
    let few = c.min-count.ensures in
    let less = c.loop-first-test.true in
    let last = c.last_segment-last.ensures in
    let free = (is_last c.args.format.now.settings t c.requires.checked c.requires.ends).free in
    let from = c.loop-first.invariant.from in
    let (now, upto) = c.loop-first.invariant.read w file is none in
    let (then, bytes, front, state) = c.in_ok-segments.ensures.read now t.head upto.bytes from (omega (arith, free, few, less, last, from)) in
    (then, bytes, front ∙ upto.front, not_ok c.from_residual-in_err-take.result _ c.in_err-take.field-0.0 c.from_residual-in_err-take.ensures.1)

pub returns-in_err-take-clause-room : goal.returns-in_err-take-clause-room
returns-in_err-take-clause-room g c =
    let buffer = c.loop-first.buffer in
    sym (length_refill buffer.len buffer.items _ buffer.ok.0) ∙ buffer.ok.0 ∙ c.loop-first.invariant.buffer

pub returns-in_err-take-clause-err : goal.returns-in_err-take-clause-err
returns-in_err-take-clause-err g c =
    let failed = g.D.Disk.failed in
    err_on c.from_residual-in_err-take.result (IsLate (failed c.args.disk.now) (failed c.read_whole.new.disk)) c.in_err-take.field-0.0 c.from_residual-in_err-take.ensures.1
    (inl c.in_err-take.ensures.err)

pub returns-in_err-take-clause-only_reads : goal.returns-in_err-take-clause-only_reads
returns-in_err-take-clause-only_reads g c =
    let so_far = c.loop-first.invariant in
    let ok = reads_then g.D.Disk.view g.D.Disk.failed c.args.disk.now c.loop-first.disk c.read_whole.new.disk _ so_far.kept so_far.same so_far.counted c.in_ok-segments.ensures.only_reads in
    reads_without_failure g.D.Disk.view g.D.Disk.failed c.args.disk.now c.read_whole.new.disk c.from_residual-in_err-take.result ok.kept ok.same ok.counted

pub returns-clause-read : goal.returns-clause-read
returns-clause-read g c w file is none =
    let format = c.args.format.now in
    let s = format.settings in
    let t = c.args.ends.now in
    let last = c.last_segment-last.ensures in
    let upto = c.loop-first.invariant.upto in
    let over = c.loop-first-test.false in
    let all : c.loop-first.first - t.head ≡ last_segment s t.tail - t.head = omega (arith, last, upto, over) in
    let (now, read) = c.loop-first.invariant.read w file is none in
    (now, read.bytes, read.front, subst (λ (k : ℕ). IsPartialLog w c.loop-first.so_far.gathering c.loop-first.so_far.fault (read_earlier format now t.head k)) all read.found)

pub returns-clause-only_reads : goal.returns-clause-only_reads
returns-clause-only_reads g c =
    let so_far = c.loop-first.invariant in
    record { kept = so_far.kept; same = so_far.same; counted = so_far.counted; uncounted = tt }
