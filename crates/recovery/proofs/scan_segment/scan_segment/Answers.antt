use Rattle.std.proofs.Common.{◌≡◌, ◌∙◌, nat_eq, true, length, drop, inr, refl, sym, ap, arith}
use Rattle.std.specs.List.{starts_with}
use Rattle.frame_codec.specs.declared.skim.Skimmed.{Skimmed}
use Rattle.flush_log.specs.Segments.{segment_header}
use Rattle.recovery.specs.Scan.{is_end_at, held_segment}
use Rattle.recovery.proofs.ScanLemmas.{state-none, state-some, less-left, upto-none, upto-more, segment-read, segment-broken, frames-said}
use Rattle.recovery.proofs.scan_segment.scan_segment.Goals as goal

pub loop-bytes-init : goal.loop-bytes-init
loop-bytes-init c =
    let bytes = c.args.segment.bytes.now in
    upto-none c.args.format.now (is_end_at c.args.segment.end) (length bytes) c.args.segment.number (drop 16 bytes) c.new-frames.result.items bytes c.new-frames.ensures.items refl (omega arith)

pub overflow_sub-result : goal.overflow_sub-result
overflow_sub-result c = let room = c.loop-bytes.invariant.read.room in omega (arith, room)

pub returns-in_default-clause-err : goal.returns-in_default-clause-err
returns-in_default-clause-err c =
    let g = held_segment c.args.segment in
    let state = c.skim_frame.ensures in
    let headed : starts_with nat_eq g.bytes (segment_header g.number) ≡ true = cc (c.starts_with.ensures.value, c.segment_header-header.ensures, c.if-not-starts_with.false) in
    let none = state-none c.args.format.now c.loop-bytes.rest.now c.skim_frame.result c.in_default.is (record { found = state.found; within = state.within }) in
    let so_far = c.loop-bytes.invariant in
    inr (segment-broken c.args.format.now g headed so_far.frames c.loop-bytes.rest.now so_far.read (sym c.is_end.ensures ∙ c.loop-bytes-test.true) none)

pub loop-bytes-smaller : goal.loop-bytes-smaller
loop-bytes-smaller c =
    let state = c.skim_frame.ensures in
    less-left c.args.format.now c.loop-bytes.rest.now c.in-Some.skimmed _ (ap (λ (k : Skimmed). k.size) c.skimmed.view_is) (state-some c.args.format.now c.loop-bytes.rest.now c.skim_frame.result c.in-Some.skimmed c.in-Some.is (record { found = state.found; within = state.within }))

pub loop-bytes-preserved : goal.loop-bytes-preserved
loop-bytes-preserved c =
    let s = c.args.format.now in
    let bytes = c.args.segment.bytes.now in
    let rest = c.loop-bytes.rest.now in
    let state = c.skim_frame.ensures in
    let frame = state-some s rest c.skim_frame.result c.in-Some.skimmed c.in-Some.is (record { found = state.found; within = state.within }) in
    upto-more s (is_end_at c.args.segment.end) (length bytes) c.args.segment.number (drop 16 bytes) c.loop-bytes.frames.items c.push.new.self.items _ c.in-Some.skimmed _ rest
    c.in_ok-push.ensures.items (ap (λ (k : Skimmed). k.pid) c.skimmed.view_is) (ap (λ (k : Skimmed). k.kind) c.skimmed.view_is) (ap (λ (k : Skimmed). k.size) c.skimmed.view_is) refl c.loop-bytes.invariant (sym c.is_end.ensures ∙ c.loop-bytes-test.true) frame

pub returns-clause-ok : goal.returns-clause-ok
returns-clause-ok c =
    let g = held_segment c.args.segment in
    let headed : starts_with nat_eq g.bytes (segment_header g.number) ≡ true = cc (c.starts_with.ensures.value, c.segment_header-header.ensures, c.if-not-starts_with.false) in
    let so_far = c.loop-bytes.invariant in
    frames-said c.args.format.now g so_far.frames c.loop-bytes.frames.items (segment-read c.args.format.now g headed so_far.frames c.loop-bytes.rest.now so_far.read (sym c.is_end.ensures ∙ c.loop-bytes-test.false)) so_far.held
