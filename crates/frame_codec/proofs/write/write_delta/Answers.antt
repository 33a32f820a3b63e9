use Rattle.std.proofs.Common.{◌+◌, ap}
use Rattle.frame_codec.proofs.WriteLemmas.{delta-framed}
use Rattle.frame_codec.proofs.write.write_delta.Goals as goal

pub returns-clause-ok : goal.returns-clause-ok
returns-clause-ok g c =
    delta-framed g.V.FrameItem.codec c.args.kind c.args.pid (2 + c.run_len.result) c.len.result
    c.args.out.now c.begin_frame.new.out c.append_length.new.out c.append_changes.new.out
    c.args.run.now (ap (λ n. 2 + n) c.run_len.ensures) c.len.ensures.count
    c.in_ok-begin_frame.ensures.ok c.append_length.ensures c.append_changes.ensures.bytes
