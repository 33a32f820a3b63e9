use Rattle.std.proofs.Common.{rules, ◌≡◌}
use Rattle.index_page.specs.InMemory.{page_shown}
use Rattle.index_page.specs.Page.{low_of}
use Rattle.index_page.specs.Stated.{in_memory}
use Rattle.index_page.proofs.MemoryLemmas.{low_of_memory}
use Rattle.index_page.proofs.in_memory.PageInMemory.put_index.Goals as goal

pub returns : goal.returns
returns g c =
    let low : low_of (page_shown (in_memory c.self.inside.low c.self.inside.state)) ≡ c.self.inside.low = low_of_memory c.self.inside.low c.self.inside.state in
    search rules
