use Rattle.std.proofs.Common.{◌≡◌, ◌++◌, ◌∷◌, [], length}
use Rattle.frame_codec.specs.Frame.{bytes_of}
use Rattle.flush_log.proofs.ImageLemmas.{frame-push}
use Rattle.flush_log.proofs.image.Image.push_full.Goals as goal

pub invariant_of-self-2 : goal.invariant_of-self-2
invariant_of-self-2 g c =
    let later : c.push_reserved.new.self.items ≡ c.self.inside.ends.items ++ length c.write_full.new.out.items ∷ [] = cc in
    (frame-push c.self.inside.bytes.items c.write_full.new.out.items (bytes_of (record { pid = c.args.pid; content = g.V.Kind.full c.args.encoding c.args.low.now c.args.base.now })) c.self.inside.ends.items c.push_reserved.new.self.items c.args.self.now
    c.self.invariant c.self.view_is c.in_ok-write_full.ensures.ok later).cut

pub returns-clause-ok : goal.returns-clause-ok
returns-clause-ok g c =
    let later : c.push_reserved.new.self.items ≡ c.self.inside.ends.items ++ length c.write_full.new.out.items ∷ [] = cc in
    (frame-push c.self.inside.bytes.items c.write_full.new.out.items (bytes_of (record { pid = c.args.pid; content = g.V.Kind.full c.args.encoding c.args.low.now c.args.base.now })) c.self.inside.ends.items c.push_reserved.new.self.items c.args.self.now
    c.self.invariant c.self.view_is c.in_ok-write_full.ensures.ok later).shown
