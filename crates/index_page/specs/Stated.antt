-- The page in memory that a low key and a state form.
use Rattle.index_page.specs.InMemory.{InMemory}
use Rattle.index_page.specs.InMemory.InMemory.{LeafInMemory, IndexInMemory}
use Rattle.index_page.specs.declared.in_memory.State.{State}
use Rattle.index_page.specs.declared.in_memory.State.TheVariants.{Values, Pids}
use Rattle.keys.specs.Bytes.{Bytes}

-- a leaf of the values, or an index page of the pids
abbrev pub in_memory : {A : Type 0} → Bytes → State A → InMemory
in_memory low (Values chain) = LeafInMemory low chain
in_memory low (Pids chain) = IndexInMemory low chain
