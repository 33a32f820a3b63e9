use Rattle.std.proofs.Common.{rules}
use Rattle.frame_codec.proofs.cell.ValueGlobalFrameItem.skip.Goals as goal

pub returns : goal.returns
returns c = (c.in_ok-value.value.now, search rules)
