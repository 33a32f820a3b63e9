use Rattle.std.proofs.Common.{refl, arith}
use Rattle.delta_chain.specs.Kept.{entries_kept}
use Rattle.delta_chain.proofs.Alone.{put_last}
use Rattle.delta_chain.proofs.Rising.{rising-push}
use Rattle.delta_chain.proofs.entries.Entries.push.Goals as goal

pub insert-requires : goal.insert-requires
insert-requires g c = rw c.self.view_is (omega (arith, c.len-at.ensures.count))

pub invariant_of-self-2 : goal.invariant_of-self-2
invariant_of-self-2 g c =
    let put = put_last (entries_kept c.self.inside.kept) c.len-at.result (c.new-key.result, c.args.item) (rw c.self.view_is c.len-at.ensures.count) in
    rw (c.in_ok-insert.ensures.ok, put) (rising-push (entries_kept c.self.inside.kept) c.new-key.result c.args.item c.self.invariant (rw (c.self.view_is, c.new-key.ensures) c.requires))

pub returns-clause-ok : goal.returns-clause-ok
returns-clause-ok g c =
    let put = put_last (entries_kept c.self.inside.kept) c.len-at.result (c.new-key.result, c.args.item) (rw c.self.view_is c.len-at.ensures.count) in
    rw (c.in_ok-insert.ensures.ok, put, c.new-key.ensures, c.self.view_is) refl
