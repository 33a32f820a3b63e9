use Rattle.std.proofs.Common.{inl, ◌≡◌, ℕ, ◌+◌, ◌-◌, ◌*◌, ◌^◌, ◌≤◌, ◌<◌, length, arith, rules, sym, subst, ◌∙◌, refl}
use Rattle.std.specs.List.{All}
use Rattle.std.proofs.lemmas.List.Elements.{All-push}
use Rattle.keys.specs.declared.fault.Fault.TheVariants.{NoMemory}
use Rattle.flush_log.specs.Overlay.{overlay}
use Rattle.flush_log.specs.Segments.{disk_size, place_of_segment}
use Rattle.flush_log.proofs.FitLemmas.{are_sized}
use Rattle.flush_log.proofs.PlaceLemmas.{place-within}
use Rattle.recovery.specs.Recovered.{IsReadOf, IsLate}
use Rattle.recovery.specs.Scan.{held_segment}
use Rattle.recovery.proofs.ReadBytes.{kept_then, same_then, late_since, err_on, nothing_of, reads_nothing, reads_with_fault, reads_then}
use Rattle.recovery.proofs.ReadLog.{one-left, following-next, following-all}
use Rattle.recovery.proofs.log_reading.read_whole.Goals as goal

pub read-requires : goal.read-requires
read-requires g c =
    let s = c.args.format.now.settings in
    let least = (are_sized s c.requires.checked).least_count in
    let room = place-within s c.loop-number.number (omega (arith, least)) in
    let place = c.place_of_segment.ensures in
    let part = c.split_at_mut-bytes.ensures.front_len in
    let within = c.requires.within in
    let kept = c.loop-number.invariant.kept.size in
    omega (arith, room, place, part, within, kept)

-- an allocation failed, and nothing was read
pub returns-in_err-segments-clause-read : goal.returns-in_err-segments-clause-read
returns-in_err-segments-clause-read g c file head is low high = (file, is, refl, nothing_of c.from_residual.result _ c.from_residual.ensures.0)

pub returns-in_err-segments-clause-short : goal.returns-in_err-segments-clause-short
returns-in_err-segments-clause-short g c = nothing_of c.from_residual.result _ c.from_residual.ensures.0

pub returns-in_err-segments-clause-only_reads : goal.returns-in_err-segments-clause-only_reads
returns-in_err-segments-clause-only_reads g c = reads_nothing g.D.Disk.view g.D.Disk.failed c.args.disk.now c.from_residual.result

pub returns-in_err-segments-clause-err : goal.returns-in_err-segments-clause-err
returns-in_err-segments-clause-err g c =
    let failed = g.D.Disk.failed c.args.disk.now in
    err_on c.from_residual.result (IsLate failed failed) NoMemory c.from_residual.ensures.1 (inl refl)

-- a segment was not read
pub returns-in_err-read-clause-read : goal.returns-in_err-read-clause-read
returns-in_err-read-clause-read g c file head is low high =
    let (now, upto) = c.loop-number.invariant.read file head is low high in
    (now, c.read.ensures.stays now upto.bytes, upto.front, nothing_of c.from_residual-in_err-read.result _ c.from_residual-in_err-read.ensures.0)

pub returns-in_err-read-clause-short : goal.returns-in_err-read-clause-short
returns-in_err-read-clause-short g c = nothing_of c.from_residual-in_err-read.result _ c.from_residual-in_err-read.ensures.0

pub returns-in_err-read-clause-err : goal.returns-in_err-read-clause-err
returns-in_err-read-clause-err g c =
    let failed = g.D.Disk.failed in
    err_on c.from_residual-in_err-read.result (IsLate (failed c.args.disk.now) (failed c.read.new.disk)) c.in_err-read.field-0.0 c.from_residual-in_err-read.ensures.1
    (late_since _ _ _ _ c.loop-number.invariant.counted c.in_err-read.ensures.device)

pub returns-in_err-read-clause-only_reads : goal.returns-in_err-read-clause-only_reads
returns-in_err-read-clause-only_reads g c =
    let so_far = c.loop-number.invariant in
    reads_with_fault g.D.Disk.view g.D.Disk.failed c.args.disk.now c.read.new.disk c.from_residual-in_err-read.result c.in_err-read.field-0.0 c.from_residual-in_err-read.ensures.1
    (reads_then g.D.Disk.view g.D.Disk.failed c.args.disk.now c.loop-number.disk c.read.new.disk _ so_far.kept so_far.same so_far.counted c.in_err-read.ensures.only_reads)

pub loop-number-preserved : goal.loop-number-preserved
loop-number-preserved g c =
    let disk = g.D.Disk in
    let start = disk.view c.args.disk.now in
    let old = disk.view c.loop-number.disk in
    let new = disk.view c.read.new.disk in
    let format = c.args.format.now in
    let s = format.settings in
    let n = c.loop-number.number in
    let so_far = c.loop-number.invariant in
    let read = c.in_ok-read.ensures in
    let place = c.place_of_segment.ensures in
    let from = c.loop-number.auto.number in
    let less = c.loop-number-test.true in
    let same = c.read.auto.buf in
    let front = c.split_at_mut-bytes.ensures.front_len in
    let back = c.split_at_mut-bytes.ensures.back_len in
    let left = so_far.rest in
    let within = c.requires.within in
    let kept = so_far.kept.size in
    let most = (are_sized s c.requires.checked).most_size in
    let size : disk_size s ≤ old.size = omega (arith, within, kept) in
    record {
      rest = one-left _ _ n c.args.first s.seg_size (c.args.count * s.seg_size) from back left;
      read_so_far = search rules;
      room = search rules;
      short = subst (λ hs. All (λ h. length (held_segment h).bytes < 2 ^ 32) hs) (sym c.push_reserved.ensures.items) (All-push (λ h. length (held_segment h).bytes < 2 ^ 32) c.loop-number.segments.items _ so_far.short (omega (arith, same, front, most)));
      kept = kept_then start old new so_far.kept c.read.ensures.only_reads.kept;
      same = λ honest. same_then start old new (so_far.same honest) (c.read.ensures.only_reads.same (so_far.kept.honest ∙ honest));
      counted = read.only_reads.counted ∙ so_far.counted;
      read = λ file head is low high.
          let (now, upto) = so_far.read file head is low high in
          let at : n ≡ head + (n - head) = omega (arith, low, from) in (
            overlay now (place_of_segment s n) c.read.new.buf,
            following-next format head (c.args.first - head) (n - head) (n + 1 - head) n c.loop-number.segments.items c.push_reserved.new.self.items _ file now c.read.new.buf old new c.requires.checked size
                refl c.push_reserved.ensures.items at (omega (arith, low, from)) (omega (arith, low, from, less, high)) (omega (arith, same, front)) upto
                (subst (λ (p : ℕ). IsReadOf new (overlay now p c.read.new.buf)) place (read.bytes now upto.bytes)),
          );
    }

pub returns-clause-read : goal.returns-clause-read
returns-clause-read g c file head is low high =
    let format = c.args.format.now in
    let most = c.loop-number.auto.number-end in
    let over = c.loop-number-test.false in
    let (now, upto) = c.loop-number.invariant.read file head is low high in
    let last = most (omega arith) in
    let all : c.loop-number.number - head ≡ c.args.first + c.args.count - head = omega (arith, last, over) in (
      now,
      upto.bytes,
      upto.front,
      following-all (g.D.Disk.view c.loop-number.disk) format head (c.args.first - head) (c.loop-number.number - head) _ c.loop-number.segments.items file now all upto,
    )

pub returns-clause-short : goal.returns-clause-short
returns-clause-short g c = c.loop-number.invariant.short

pub returns-clause-only_reads : goal.returns-clause-only_reads
returns-clause-only_reads g c =
    let so_far = c.loop-number.invariant in
    record { kept = so_far.kept; same = so_far.same; counted = so_far.counted; uncounted = tt }

pub returns-clause-err : goal.returns-clause-err
returns-clause-err g c = tt
