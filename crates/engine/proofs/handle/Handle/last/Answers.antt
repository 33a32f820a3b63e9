use Rattle.std.specs.Prelude.{ℕ, List, reverse, slice_get}
use Rattle.std.proofs.Common.{◌∙◌, Bor, ap}
use Rattle.mapping.specs.Levels.{contents}
use Rattle.engine.proofs.BoundsLemmas.{last_pair, unbounded}
use Rattle.engine.proofs.handle.Handle.last.Goals as goal

pub returns : goal.returns
returns g c =
    last_pair (λ (pair : Bor (List ℕ) × Bor (List ℕ)). (pair.0.now, pair.1.now)) c.next_back.result c.range.result c.next_back.new.self c.next_back.ensures.steps
    ∙ ap (λ (es : List (List ℕ × List ℕ)). slice_get (reverse es) 0) (c.range.ensures tt ∙ unbounded (contents c.args.self.now.store.tree))
