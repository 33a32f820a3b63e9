-- Lemmas on leaves some of whose runs count as merged into their base.
use Rattle.std.specs.Prelude.{◌≡◌, ℕ, Bool, List}
use Rattle.std.proofs.Common.{sym, ap, ◌∙◌}
use Rattle.delta_chain.specs.Lazy.{Lazy, seen}
use Rattle.delta_chain.specs.Layers.{Layers, entries_of}
use Rattle.delta_chain.proofs.LazyLemmas.{entries-seen}
use Rattle.scan.specs.Edge.{beyond}
use Rattle.scan.specs.declared.direction.Direction.{Direction}

abbrev Pairs : Type 0
Pairs = List (List ℕ × List ℕ)

-- the chain in memory has the same pairs beyond an edge as the leaf, and the same pairs altogether
pub late_beyond : (d : Direction) (test : List ℕ → Bool) (c : Lazy (List ℕ)) (chain : Layers (List ℕ)) (left : Pairs) → chain ≡ c.chain → left ≡ beyond d test (entries_of chain) → left ≡ beyond d test (entries_of (seen c))
late_beyond d test c chain left e l = l ∙ ap (λ (p : Layers (List ℕ)). beyond d test (entries_of p)) e ∙ ap (λ (es : Pairs). beyond d test es) (sym (entries-seen c))

pub late_whole : (c : Lazy (List ℕ)) (chain : Layers (List ℕ)) (left : Pairs) → chain ≡ c.chain → left ≡ entries_of chain → left ≡ entries_of (seen c)
late_whole c chain left e l = l ∙ ap (λ (p : Layers (List ℕ)). entries_of p) e ∙ sym (entries-seen c)

-- if the leaf's pairs are a part of a map, the pairs of the chain in memory are the same part
pub late_part : (c : Lazy (List ℕ)) (chain : Layers (List ℕ)) (part : Pairs) → chain ≡ c.chain → entries_of (seen c) ≡ part → entries_of chain ≡ part
late_part c chain part e p = ap (λ (q : Layers (List ℕ)). entries_of q) e ∙ sym (entries-seen c) ∙ p
