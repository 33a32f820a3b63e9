use Rattle.std.proofs.Common.{◌≡◌, ℕ, List, IfOk, subst}
use Rattle.flush_log.specs.Images.{frames_in}
use Rattle.cleaner.proofs.ChooseLemmas.{held-frames}
use Rattle.cleaner.proofs.choose.choose.Goals as goal

pub returns-in-Some-clause-frames : goal.returns-in-Some-clause-frames
returns-in-Some-clause-frames c =
    subst (λ (fs : List (List ℕ)). IfOk c.images_in.result (λ images. frames_in images.items ≡ fs)) (held-frames c.args.format.now c.args.pages c.in-Some.pages c.in-Some.is) c.images_in.ensures.frames
