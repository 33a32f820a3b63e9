use Rattle.std.proofs.Common.{◌≡◌}
use Rattle.std.specs.Vec.Iter.{into_iter_items}
use Rattle.page_runs.specs.Replay.{with_absent}
use Rattle.page_runs.proofs.replay.note_absent.Given as goal

-- deleting the remaining keys gives the changes that deleting all keys at first gives
abbrev pub invariant-loop-key : goal.invariant-loop-key
invariant-loop-key l = with_absent l.changes (into_iter_items l.key-iterator) ≡ with_absent l.fn.changes l.fn.keys.items
