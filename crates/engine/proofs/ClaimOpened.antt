-- A store that was opened, in terms of the claim.
use Rattle.std.specs.Prelude.{◌≡◌, false, None, Result, Ok, Err, IfOk}
use Rattle.keys.specs.Order.{IsRising}
use Rattle.keys.specs.declared.fault.Fault.{Fault}
use Rattle.mapping.specs.Levels.{contents, levels_of}
use Rattle.mapping.proofs.TileLemmas.{rising-joined}
use Rattle.flush_log.specs.Disk.{View}
use Rattle.engine.specs.State.{State, IsSound}

-- the pairs of a sound store are in the order of their keys
contents-rise : {D : Type 0} (view : D → View) (x : State D) → IsSound view x → IsRising (contents x.store.tree)
contents-rise view x sound = rising-joined (levels_of x.store.tree).level None sound.is.proper.levels.tiled

pub opened-fine : {D : Type 0} (view : D → View) (r : Result (State D) (Fault × D)) → IfOk r (λ x. x.has_failed ≡ false) → IfOk r (IsSound view)
    → IfOk r (λ x. (x.has_failed ≡ false) × IsRising (contents x.store.tree))
opened-fine view (Ok x) fine sound = (fine, contents-rise view x sound)
opened-fine view (Err e) fine sound = tt
