use Rattle.std.proofs.Common.{rules}
use Rattle.std.proofs.lemmas.List.Sorted.{answers_always}
use Rattle.mapping.proofs.Search.{searched}
use Rattle.mapping.proofs.slots.search.Goals as goal

-- the closure gives a slot's pid
pub returns : goal.returns
returns g c =
    let facts = c.binary_search_by_key.ensures in
    let by_pid = facts.position (λ slot. slot.pid) (answers_always _ _ _ (λ f a r g called. search rules)) in
    searched (λ slot. slot.pid) c.args.slots.now c.args.pid c.binary_search_by_key.result c.requires facts.bound by_pid
