-- A store is proper, so there is no finding in it.
use Rattle.std.specs.Prelude.{◌≡◌, Option, Some, None, Result, IfErr}
use Rattle.keys.specs.Finding.{Finding}
use Rattle.keys.specs.declared.fault.Fault.{Fault}
use Rattle.keys.specs.declared.fault.Fault.TheVariants.{NoMemory}
use Rattle.verify.specs.Report.{IsFaultOf}

-- if there is no finding, the check fails only because an allocation failed
pub refused_for_memory : {T : Type 0} (r : Result T Fault) (o : Option Finding) → o ≡ None → IfErr r (IsFaultOf o) → IfErr r (λ fault. fault ≡ NoMemory)
refused_for_memory r None e h = h
refused_for_memory r (Some f) e h = absurd (cc)
