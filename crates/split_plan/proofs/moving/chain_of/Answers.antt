use Rattle.std.proofs.Common.{ℕ, List, sym, ap, ◌∙◌}
use Rattle.delta_chain.specs.Layers.{Layers, entries_of}
use Rattle.delta_chain.proofs.LazyLemmas.{entries-seen}
use Rattle.index_page.specs.InMemory.{InMemory, page_shown}
use Rattle.index_page.specs.Page.{PageOfKind, entries, leaf_of}
use Rattle.split_plan.proofs.moving.chain_of.Goals as goal

pub take_leaf-requires : goal.take_leaf-requires
take_leaf-requires c = rw (c.as_mut.ensures.value, c.into_memory-page.ensures) c.requires

pub returns-clause-entries : goal.returns-clause-entries
returns-clause-entries c =
    ap (λ (p : Layers (List ℕ)). entries_of p) c.into_chain-chain.ensures
    ∙ sym (entries-seen c.take_leaf.result)
    ∙ ap (λ (m : InMemory). entries (leaf_of (page_shown m))) (sym c.take_leaf.ensures.values ∙ c.as_mut.ensures.value)
    ∙ ap (λ (page : PageOfKind). entries (leaf_of page)) c.into_memory-page.ensures
