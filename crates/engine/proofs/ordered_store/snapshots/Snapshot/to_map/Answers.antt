use Rattle.std.proofs.Common.{◌∙◌, ◌++◌, ap}
use Rattle.keys.specs.Bytes.{Bytes, Pairs}
use Rattle.keys.specs.Order.{IsRising}
use Rattle.engine.proofs.CopyLemmas.{next_put}
use Rattle.engine.proofs.ordered_store.snapshots.Snapshot.to_map.Goals as goal

pub loop-key-preserved : goal.loop-key-preserved
loop-key-preserved c =
    let rising : IsRising c.args.self.now.1 = rw (← c.self.view_is) c.self.invariant in
    ap (λ (m : Pairs Bytes). m ++ c.next.new.self) c.in_ok-_there.ensures.map
    ∙ next_put c.args.self.now.1 c.loop-key.map c.next.new.self c.in-Some.key.now c.in-Some.value.now rising (rw c.in-Some.ensures.steps at c.loop-key.invariant)
