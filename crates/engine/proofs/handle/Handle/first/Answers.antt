use Rattle.std.specs.Prelude.{ℕ, List, slice_get}
use Rattle.std.proofs.Common.{◌∙◌, Bor, ap}
use Rattle.mapping.specs.Levels.{contents}
use Rattle.engine.proofs.BoundsLemmas.{first_pair, unbounded}
use Rattle.engine.proofs.handle.Handle.first.Goals as goal

pub returns : goal.returns
returns g c =
    first_pair (λ (pair : Bor (List ℕ) × Bor (List ℕ)). (pair.0.now, pair.1.now)) c.next.result c.range.result c.next.new.self c.next.ensures.steps
    ∙ ap (λ (es : List (List ℕ × List ℕ)). slice_get es 0) (c.range.ensures tt ∙ unbounded (contents c.args.self.now.store.tree))
