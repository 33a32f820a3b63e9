use Rattle.std.proofs.Common.{sym, ap, ◌∙◌, Some}
use Rattle.delta_chain.specs.Lazy.{seen}
use Rattle.delta_chain.specs.Layers.{Layers, entries_of}
use Rattle.delta_chain.proofs.LazyLemmas.{entries-seen}
use Rattle.index_page.specs.Page.{PageOfKind, low_of}
use Rattle.keys.specs.Bytes.{Bytes}
use Rattle.engine.proofs.store.reads.leaf_under.Goals as goal

pub returns : goal.returns
returns c = (
  record { low = low_of c.in-Some.page.now; layers = seen c.in-Some-as_leaf.leaf.now },
  sym (c.in-Some.ensures.listed c.requires.home) ∙ ap (λ (p : PageOfKind). Some p) c.in-Some-as_leaf.ensures,
  entries-seen c.in-Some-as_leaf.leaf.now ∙ sym (ap (λ (p : Layers Bytes). entries_of p) c.whole.ensures),
)
