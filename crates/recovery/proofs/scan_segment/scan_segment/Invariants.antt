use Rattle.std.proofs.Common.{length, drop}
use Rattle.recovery.specs.Scan.{is_end_at}
use Rattle.recovery.proofs.ScanLemmas.{IsUpto}
use Rattle.recovery.proofs.scan_segment.scan_segment.Given as goal

-- the frames before the remaining bytes were identified
abbrev pub invariant-loop-bytes : goal.invariant-loop-bytes
invariant-loop-bytes l = IsUpto l.format (is_end_at l.end) (length l.bytes) l.number (drop 16 l.bytes) l.frames.items l.rest

abbrev pub decreases-loop-bytes : goal.decreases-loop-bytes
decreases-loop-bytes l = length l.rest
