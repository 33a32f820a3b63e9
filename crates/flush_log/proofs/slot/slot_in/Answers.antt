use Rattle.std.proofs.Common.{arith}
use Rattle.flush_log.proofs.ReadNumbers.{number_at-is}
use Rattle.flush_log.proofs.slot.slot_in.Goals as goal

pub returns-clause-said : goal.returns-clause-said
returns-clause-said c =
    let bytes = c.args.bytes.now in
    let sequence = number_at-is 8 8 bytes (omega arith) in
    let head = number_at-is 8 16 bytes (omega arith) in
    let tail = number_at-is 8 24 bytes (omega arith) in
    let root = number_at-is 8 32 bytes (omega arith) in
    let height = number_at-is 4 40 bytes (omega arith) in
    let version = number_at-is 4 44 bytes (omega arith) in
    cc
