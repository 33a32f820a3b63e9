use Rattle.std.proofs.Common.{◌≡◌, sym}
use Rattle.std.specs.List.{insert}
use Rattle.keys.specs.OrderedMap.{with_pair}
use Rattle.keys.proofs.MapLemmas.{rising-with_pair}
use Rattle.delta_chain.specs.Kept.{entries_kept}
use Rattle.delta_chain.proofs.Setting.{with_pair-found}
use Rattle.delta_chain.proofs.entries.Entries.set.Goals as goal

-- the key was there, and its entry is written over
pub write-requires : goal.write-requires
write-requires g c = rw c.self.view_is c.in-Ok.ensures.0

pub invariant_of-self : goal.invariant_of-self
invariant_of-self g c =
    let written = with_pair-found (entries_kept c.self.inside.kept) c.in-Ok.at c.new-key.result c.args.item c.self.invariant (rw (c.self.view_is, ← c.key_ref.ensures) c.in-Ok.ensures.1) in
    rw (c.write.ensures, ← written) (rising-with_pair (entries_kept c.self.inside.kept) c.new-key.result c.args.item c.self.invariant)

pub returns-in-Ok-clause-ok : goal.returns-in-Ok-clause-ok
returns-in-Ok-clause-ok g c =
    let written = with_pair-found (entries_kept c.self.inside.kept) c.in-Ok.at c.new-key.result c.args.item c.self.invariant (rw (c.self.view_is, ← c.key_ref.ensures) c.in-Ok.ensures.1) in
    rw (c.write.ensures, ← c.self.view_is, ← c.new-key.ensures) (sym written)

-- the key goes between others
pub insert-requires : goal.insert-requires
insert-requires g c = rw c.self.view_is c.in-Err.ensures.0

pub returns-in_ok-insert-in-Err-clause-ok : goal.returns-in_ok-insert-in-Err-clause-ok
returns-in_ok-insert-in-Err-clause-ok g c =
    rw (c.in_ok-insert-in-Err.ensures.ok, ← c.new-key.ensures, ← c.self.view_is) (sym (rw (c.self.view_is, ← c.key_ref.ensures) (c.in-Err.ensures.2 c.args.item)))

pub invariant_of-self-in-Err : goal.invariant_of-self-in-Err
invariant_of-self-in-Err g c =
    let put : with_pair (entries_kept c.self.inside.kept) c.new-key.result c.args.item ≡ insert (entries_kept c.self.inside.kept) c.in-Err.at (c.new-key.result, c.args.item) = rw (c.self.view_is, ← c.key_ref.ensures) (c.in-Err.ensures.2 c.args.item) in
    rw (c.in_ok-insert-in-Err.ensures.ok, ← put) (rising-with_pair (entries_kept c.self.inside.kept) c.new-key.result c.args.item c.self.invariant)
