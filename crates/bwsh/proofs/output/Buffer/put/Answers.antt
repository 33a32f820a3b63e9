use Rattle.std.proofs.lemmas.Result.{err_from_is_err_and}
use Rattle.std.proofs.Common.{[]}
use Rattle.bwsh.proofs.ShowLemmas.{Puts-early, Puts-from, Puts-then, Puts-written}
use Rattle.bwsh.proofs.output.Buffer.put.Goals as goal

pub returns-in_err-write : goal.returns-in_err-write
returns-in_err-write g c =
    let p = err_from_is_err_and c.from_residual.result c.from_residual.ensures.1 in
    Puts-from g.O.Write.contents c.args.self.now c.keep.new.self c.args.out.now c.write.new.self c.write.new.out c.args.bytes.now c.from_residual.result c.if-keep.ensures
    (Puts-early g.O.Write.contents c.keep.new.self c.args.out.now c.write.new.self c.write.new.out [] c.args.bytes.now _ _ p c.in_err-write.ensures.puts)

pub returns : goal.returns
returns g c =
    let written = c.write_bytes.ensures in
    Puts-from g.O.Write.contents c.args.self.now c.keep.new.self c.args.out.now c.write.new.self c.write_bytes.new.out c.args.bytes.now c.write_bytes.result c.if-keep.ensures
    (Puts-then g.O.Write.contents c.keep.new.self c.args.out.now c.write.new.self c.write.new.out c.write.new.self c.write_bytes.new.out [] c.args.bytes.now _ c.write_bytes.result c.in_ok-write.ensures.puts
    (Puts-written g.O.Write.contents c.write.new.self c.write.new.out c.write_bytes.new.out c.args.bytes.now c.write_bytes.result c.in_ok-write.ensures.text written.ok written.err written.device))
