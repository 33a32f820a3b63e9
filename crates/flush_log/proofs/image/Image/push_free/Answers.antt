use Rattle.std.proofs.Common.{◌≡◌, ◌++◌, ◌∷◌, [], length}
use Rattle.frame_codec.specs.Frame.{bytes_of}
use Rattle.frame_codec.specs.Frame.Content.{Free}
use Rattle.flush_log.proofs.ImageLemmas.{frame-push}
use Rattle.flush_log.proofs.image.Image.push_free.Goals as goal

pub invariant_of-self-2 : goal.invariant_of-self-2
invariant_of-self-2 c =
    let later : c.push_reserved.new.self.items ≡ c.self.inside.ends.items ++ length c.write_free.new.out.items ∷ [] = cc in
    (frame-push c.self.inside.bytes.items c.write_free.new.out.items (bytes_of (record { pid = c.args.pid; content = Free })) c.self.inside.ends.items c.push_reserved.new.self.items c.args.self.now
    c.self.invariant c.self.view_is c.in_ok-write_free.ensures.ok later).cut

pub returns-clause-ok : goal.returns-clause-ok
returns-clause-ok c =
    let later : c.push_reserved.new.self.items ≡ c.self.inside.ends.items ++ length c.write_free.new.out.items ∷ [] = cc in
    (frame-push c.self.inside.bytes.items c.write_free.new.out.items (bytes_of (record { pid = c.args.pid; content = Free })) c.self.inside.ends.items c.push_reserved.new.self.items c.args.self.now
    c.self.invariant c.self.view_is c.in_ok-write_free.ensures.ok later).shown
