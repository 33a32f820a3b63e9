-- The report on a tree, or the reason for its absence.
use Rattle.std.specs.Prelude.{◌≡◌, ◌⊎◌, Option, Some, None, length}
use Rattle.keys.specs.Finding.{Finding}
use Rattle.keys.specs.declared.fault.Fault.{Fault}
use Rattle.keys.specs.declared.fault.Fault.TheVariants.{NoMemory, BadStructure}
use Rattle.mapping.specs.Tree.{Tree}
use Rattle.mapping.specs.Levels.{Levels, levels_of, contents, all_pids}
use Rattle.verify.specs.declared.report.Report.{Report}

-- the pages that the walk from the root reaches, the levels, and the pairs of all leaves
abbrev pub report : Tree → Report
report t =
    let l : Levels = levels_of t in
    record { pages = length (all_pids l.level l.above); height = t.height; pairs = length (contents t) }

-- why there is no report: the finding, or out of memory, which may happen in either case
abbrev pub IsFaultOf : Option Finding → Fault → Type 0
IsFaultOf None fault = fault ≡ NoMemory
IsFaultOf (Some f) fault = (fault ≡ NoMemory) ⊎ (fault ≡ BadStructure f)
