use Rattle.std.proofs.Common.{refl}
use Rattle.index_page.proofs.MemoryLemmas.{low_of_memory}
use Rattle.index_page.proofs.in_memory.PageInMemory.put_leaf.Goals as goal

pub returns : goal.returns
returns g c = rw (← c.self.view_is, low_of_memory c.self.inside.low c.self.inside.state) refl
