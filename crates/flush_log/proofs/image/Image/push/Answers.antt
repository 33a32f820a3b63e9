use Rattle.std.proofs.Common.{◌≡◌, ◌++◌, ◌∷◌, [], length, refl}
use Rattle.std.proofs.lemmas.Slice.{pushed}
use Rattle.flush_log.proofs.ImageLemmas.{frame-push}
use Rattle.flush_log.proofs.image.Image.push.Goals as goal

pub invariant_of-self-2 : goal.invariant_of-self-2
invariant_of-self-2 c =
    let now = pushed c.args.frame.now refl c.in_ok-extend_from_slice.was c.extend_from_slice.ensures.items in
    let later : c.push_reserved.new.self.items ≡ c.self.inside.ends.items ++ length c.extend_from_slice.new.self.items ∷ [] = cc in
    (frame-push c.self.inside.bytes.items c.extend_from_slice.new.self.items c.args.frame.now c.self.inside.ends.items c.push_reserved.new.self.items c.args.self.now
    c.self.invariant c.self.view_is now later).cut

pub returns : goal.returns
returns c =
    let now = pushed c.args.frame.now refl c.in_ok-extend_from_slice.was c.extend_from_slice.ensures.items in
    let later : c.push_reserved.new.self.items ≡ c.self.inside.ends.items ++ length c.extend_from_slice.new.self.items ∷ [] = cc in
    record {
      ok = (frame-push c.self.inside.bytes.items c.extend_from_slice.new.self.items c.args.frame.now c.self.inside.ends.items c.push_reserved.new.self.items c.args.self.now
          c.self.invariant c.self.view_is now later).shown;
    }
