use Rattle.std.proofs.Common.{◌≡◌, ◌++◌, ◌∷◌, []}
use Rattle.delta_chain.proofs.LocatorLemmas.{keys_push}
use Rattle.delta_chain.proofs.RunList.{counted-push, page-push}
use Rattle.delta_chain.proofs.chain.Chain.prepend.Goals as goal

pub invariant_of-self : goal.invariant_of-self
invariant_of-self g c = rw c.make_room.ensures.kept c.self.invariant

pub add_newest-requires-clause-numbered : goal.add_newest-requires-clause-numbered
add_newest-requires-clause-numbered g c = rw (c.deref.ensures.value, c.make_room.ensures.kept) c.self.invariant.1

pub add_newest-requires-clause-list : goal.add_newest-requires-clause-list
add_newest-requires-clause-list g c = rw (c.deref.ensures.value, c.make_room.ensures.kept) c.self.invariant.2

pub invariant_of-self-in-Err-add_newest : goal.invariant_of-self-in-Err-add_newest
invariant_of-self-in-Err-add_newest g c = rw c.make_room.ensures.kept (c.self.invariant.0, c.self.invariant.1, rw (c.deref.ensures.value, c.make_room.ensures.kept) at c.in-Err-add_newest.ensures.err)

pub invariant_of-self-2 : goal.invariant_of-self-2
invariant_of-self-2 g c =
    let added : c.push_reserved.new.self.items ≡ c.self.inside.runs.items ++ c.args.run ∷ [] = rw (← c.make_room.ensures.kept) c.push_reserved.ensures.items in
    let keys = keys_push c.self.inside.runs.items c.push_reserved.new.self.items c.args.run added in (
      counted-push c.self.inside.runs.items c.push_reserved.new.self.items c.args.run c.self.inside.base c.len.result c.self.inside.entries.fewest c.with_changes-self-inside.result.fewest c.self.inside.entries.most c.with_changes-self-inside.result.most
          added c.len.ensures.rising c.len.ensures.count c.with_changes-self-inside.ensures.fewest c.with_changes-self-inside.ensures.most c.self.invariant.0,
      rw keys (rw (c.deref.ensures.value, c.make_room.ensures.kept) at c.in_default-add_newest.ensures.numbered),
      rw keys (rw (c.deref.ensures.value, c.make_room.ensures.kept) at c.in_default-add_newest.ensures.ok),
    )

pub returns-clause-ok : goal.returns-clause-ok
returns-clause-ok g c =
    rw (← c.self.view_is) (page-push c.self.inside.runs.items c.push_reserved.new.self.items c.args.run c.self.inside.base (rw (← c.make_room.ensures.kept) c.push_reserved.ensures.items))
