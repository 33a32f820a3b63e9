-- The log states of the code, as those of the definitions.
use Rattle.mapping.specs.Tree as tree
use Rattle.mapping.specs.Tree.Logged.{No as nothing, Old as old, Upto as upto}
use Rattle.mapping.specs.declared.logged.Logged.{Logged}
use Rattle.mapping.specs.declared.logged.Logged.TheVariants.{No, Old, Upto}

-- the definitions' log state for the code's
abbrev pub log_state : Logged → tree.Logged
log_state No = nothing
log_state Old = old
log_state (Upto k) = upto k
