use Rattle.std.proofs.Common.{arith, length-take-le, sym}
use Rattle.bwsh.proofs.line.LineReader.read.Goals as goal

pub slice_bounds-long_line-end : goal.slice_bounds-long_line-end
slice_bounds-long_line-end c = sym (length-take-le 16384 c.args.line.now (omega (arith, c.if-line-gt-MOST_BYTES.true)))
