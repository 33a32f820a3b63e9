use Rattle.std.proofs.Common.{sym, ap, ◌∙◌, ℕ, List}
use Rattle.delta_chain.specs.Layers.{Layers, entries_of}
use Rattle.delta_chain.proofs.LazyLemmas.{entries-seen}
use Rattle.index_page.specs.InMemory.{InMemory, page_shown}
use Rattle.index_page.specs.Page.{entries, leaf_of}
use Rattle.split_plan.proofs.kind.ValueGlobalKind.chain.Goals as goal

pub returns : goal.returns
returns c =
    ap (λ (p : Layers (List ℕ)). entries_of p) c.whole.ensures
    ∙ sym (entries-seen c.in-Some.chain.now)
    ∙ ap (λ (page : InMemory). entries (leaf_of (page_shown page))) (sym c.in-Some.ensures)
