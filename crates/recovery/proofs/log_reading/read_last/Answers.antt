use Rattle.std.proofs.Common.{◌≤◌, ℕ, ◌-◌, length, subst, ◌∙◌, arith}
use Rattle.std.proofs.lemmas.List.{length-take-le}
use Rattle.flush_log.specs.Overlay.{overlay}
use Rattle.flush_log.specs.Reading.{read_earlier}
use Rattle.flush_log.specs.Segments.{place_of_segment, last_segment}
use Rattle.flush_log.proofs.FitLemmas.{are_sized}
use Rattle.flush_log.proofs.PlaceLemmas.{place-within}
use Rattle.recovery.specs.Recovered.{IsReadOf}
use Rattle.recovery.proofs.ReadBytes.{reads_nothing, reads_with_fault}
use Rattle.recovery.proofs.ReadLog.{ReadResult, one-scanned, read-last}
use Rattle.recovery.proofs.log_reading.read_last.Goals as goal

pub read-requires : goal.read-requires
read-requires g c =
    let format = c.args.format.now in
    let s = format.settings in
    let least = (are_sized s c.requires.checked).least_count in
    let room = place-within s c.last_segment-number.result (omega (arith, least)) in
    let place = c.place_of_segment.ensures in
    let used = c.bytes_in_use.ensures.within in
    let long = length-take-le c.bytes_in_use.result c.args.buf.now (let enough = c.requires.room in omega (arith, used, enough)) in
    let within = c.requires.within in
    omega (arith, room, place, used, long, within)

pub returns-clause-read : goal.returns-clause-read
returns-clause-read g c file is =
    let format = c.args.format.now in
    let s = format.settings in
    let t = c.args.ends.now in
    let n = c.last_segment-number.result in
    let buf = c.read.new.buf in
    let now = overlay file (place_of_segment s n) buf in
    let state : ReadResult = read_earlier format file t.head (last_segment s t.tail - t.head) in
    let used = c.bytes_in_use.ensures.within in
    let enough = c.requires.room in
    let fits : c.bytes_in_use.result ≤ length c.args.buf.now = omega (arith, used, enough) in
    let (front, whole) = read-last format t file buf (g.D.Disk.view c.args.disk.now) n c.requires.checked c.requires.within c.requires.ends c.last_segment-number.ensures
    (c.read.auto.buf ∙ length-take-le c.bytes_in_use.result c.args.buf.now fits ∙ c.bytes_in_use.ensures.same) is in (
      now,
      subst (λ (p : ℕ). IsReadOf (g.D.Disk.view c.read.new.disk) (overlay file p buf)) c.place_of_segment.ensures (c.in_ok-read.ensures.bytes file is),
      front,
      one-scanned format state c.in_ok-segments.segments.items c.push_reserved.new.self.items _ c.push_reserved.ensures.items c.in_ok-segments.ensures.items ∙ whole,
    )

pub returns-in_err-segments-clause-only_reads : goal.returns-in_err-segments-clause-only_reads
returns-in_err-segments-clause-only_reads g c = reads_nothing g.D.Disk.view g.D.Disk.failed c.args.disk.now c.from_residual.result

pub returns-in_err-read-clause-only_reads : goal.returns-in_err-read-clause-only_reads
returns-in_err-read-clause-only_reads g c = reads_with_fault g.D.Disk.view g.D.Disk.failed c.args.disk.now c.read.new.disk c.from_residual-in_err-read.result c.in_err-read.field-0.0 c.from_residual-in_err-read.ensures.1 c.in_err-read.ensures.only_reads

pub returns-clause-only_reads : goal.returns-clause-only_reads
returns-clause-only_reads g c =
    let ok = c.in_ok-read.ensures.only_reads in
    record { kept = ok.kept; same = ok.same; counted = ok.counted; uncounted = tt }
