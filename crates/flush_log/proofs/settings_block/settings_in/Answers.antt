use Rattle.std.proofs.Common.{arith}
use Rattle.flush_log.proofs.ReadNumbers.{number_at-is}
use Rattle.flush_log.proofs.settings_block.settings_in.Goals as goal

pub returns : goal.returns
returns c =
    let bytes = c.args.bytes.now in
    let fan = number_at-is 2 8 bytes (omega arith) in
    let chain = number_at-is 2 10 bytes (omega arith) in
    let max_key = number_at-is 2 12 bytes (omega arith) in
    let max_value = number_at-is 2 14 bytes (omega arith) in
    let seg_size = number_at-is 4 16 bytes (omega arith) in
    let segments = number_at-is 4 20 bytes (omega arith) in
    cc
