-- How log states change when pages are replaced.
use Rattle.std.specs.Prelude.{ℕ, List, map, if◌then◌else◌}
use Rattle.mapping.specs.Tree.{Logged}
use Rattle.mapping.specs.Tree.Logged.{No, Old, Upto}
use Rattle.mapping.specs.FreshPids.{is_among}

-- the log state after the page was replaced
abbrev pub outdate : Logged → Logged
outdate No = No
outdate Old = Old
outdate (Upto k) = Old

-- the log states after the pages of these pids were replaced
abbrev pub outdate_all : List ℕ → List (ℕ × Logged) → List (ℕ × Logged)
outdate_all gone ls = map (λ l. (l.0, if is_among l.0 gone then outdate l.1 else l.1)) ls
