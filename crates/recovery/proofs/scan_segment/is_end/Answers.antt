use Rattle.std.proofs.Common.{◌∙◌}
use Rattle.recovery.proofs.ScanLemmas.{padding-zeros}
use Rattle.recovery.proofs.scan_segment.is_end.Goals as goal

pub returns-in-Padding : goal.returns-in-Padding
returns-in-Padding c = rw c.in-Padding.is (c.are_zeros.ensures ∙ padding-zeros c.args.rest.now)
