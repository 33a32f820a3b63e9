use Rattle.std.proofs.Common.{ℕ, List, ◌∙◌, ◌+◌, ◌-◌, ◌^◌, min, ap}
use Rattle.flush_log.specs.Images.{frames_in}
use Rattle.engine.specs.State.{store_in}
use Rattle.engine.proofs.RoomLemmas.{lengths, overfull-by}
use Rattle.engine.proofs.store.Store.is_overfull.Goals as goal

pub returns-clause-exact : goal.returns-clause-exact
returns-clause-exact g c = rw (← c.self.view_is) (
    let s = c.self.inside.settings in
    let st = store_in c.self.inside.tree c.self.inside.log c.self.inside.version in
    let sum = c.with_images.ensures
    ∙ ap (λ (n : ℕ). min (n + lengths (frames_in c.deref.result.now)) (2 ^ 64 - 1)) c.live.ensures
    ∙ ap (λ (images : List (List (List ℕ))). min (c.args.reading.now.live + lengths (frames_in images)) (2 ^ 64 - 1)) c.deref.ensures.value in
    overfull-by s st c.in_ok-images.images.items c.args.reading.now.live c.most_live.result c.with_images.result c.in_ok-images.ensures.text c.most_live.ensures.exact c.most_live.ensures.small sum)
