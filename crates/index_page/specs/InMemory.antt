-- The representation of a page in memory, and the page that it represents.
use Rattle.std.specs.Prelude.{ℕ, [], ◌∷◌}
use Rattle.keys.specs.Bytes.{Bytes, Changes}
use Rattle.delta_chain.specs.Lazy.{Lazy, seen}
use Rattle.delta_chain.specs.Layers.{Layers}
use Rattle.index_page.specs.Page.{PageOfKind, low_of}
use Rattle.index_page.specs.Page.PageOfKind.{Leaf, Index}

-- the low key, and the values of a leaf, some of whose runs may count as merged into the base, or the pids of an index page
pub data InMemory : Type 0 where
  LeafInMemory : Bytes → Lazy Bytes → InMemory
  IndexInMemory : Bytes → Layers ℕ → InMemory

-- the page that it represents
abbrev pub page_shown : InMemory → PageOfKind
page_shown (LeafInMemory low chain) = Leaf (record { low = low; layers = seen chain })
page_shown (IndexInMemory low chain) = Index (record { low = low; layers = chain })

-- the values of a leaf in memory; an index page counts as an empty leaf
abbrev pub lazy_of : InMemory → Lazy Bytes
lazy_of (LeafInMemory low c) = c
lazy_of (IndexInMemory low p) = record { chain = record { runs = []; base = [] }; merged_runs = 0 }

-- the leaf with this run in front
abbrev pub prepended : InMemory → Changes Bytes → InMemory
prepended p run =
    let c = lazy_of p in
    LeafInMemory (low_of (page_shown p)) (record { chain = record { runs = run ∷ c.chain.runs; base = c.chain.base }; merged_runs = c.merged_runs })
