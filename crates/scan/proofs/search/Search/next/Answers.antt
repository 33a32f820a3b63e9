use Rattle.delta_chain.specs.Layers.{entries_of}
use Rattle.scan.specs.Edge.{is_under}
use Rattle.scan.proofs.SearchLemmas.{search_turn}
use Rattle.scan.proofs.search.Search.next.Goals as goal

pub returns-in-Some : goal.returns-in-Some
returns-in-Some g c =
    rw (← c.self.view_is, c.in-Some.is)
    (search_turn g.W.Towards.direction (c.in-Some.key.now, c.in-Some.value.now) (is_under c.past_key.result) (entries_of c.self.inside.chain.now) _ (rw c.direction.ensures at c.past_key.ensures) c.next_from-self-inside.ensures)
