-- The low key of a page in memory.
use Rattle.std.specs.Prelude.{◌≡◌}
use Rattle.std.proofs.Common.{refl}
use Rattle.keys.specs.Bytes.{Bytes}
use Rattle.index_page.specs.InMemory.{page_shown}
use Rattle.index_page.specs.Page.{low_of}
use Rattle.index_page.specs.Stated.{in_memory}
use Rattle.index_page.specs.declared.in_memory.State.{State}
use Rattle.index_page.specs.declared.in_memory.State.TheVariants.{Values, Pids}

pub low_of_memory : {A : Type 0} (low : Bytes) (state : State A) → low_of (page_shown (in_memory low state)) ≡ low
low_of_memory low (Values chain) = refl
low_of_memory low (Pids chain) = refl
