use Rattle.std.proofs.Common.{◌+◌, length, ap}
use Rattle.frame_codec.proofs.WriteLemmas.{full-framed}
use Rattle.frame_codec.proofs.write.write_full.Goals as goal

pub returns-clause-ok : goal.returns-clause-ok
returns-clause-ok g c =
    full-framed g.V.FrameItem.codec c.args.kind c.args.pid (4 + length c.args.low.now + c.base_len.result) c.len.result
    c.args.out.now c.begin_frame.new.out c.append_length.new.out c.append_entries.new.out c.args.encoding c.append_counted.new.out c.args.low.now c.args.base.now
    (ap (λ n. 4 + length c.args.low.now + n) c.base_len.ensures) c.len.ensures.count
    c.in_ok-begin_frame.ensures.ok c.append_counted.ensures c.append_length.ensures c.append_entries.ensures.bytes
