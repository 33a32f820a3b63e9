-- The valid crews.
use Rattle.std.specs.Prelude.{Bool, ◌&&◌, nat_le}
use Rattle.crew.specs.declared.limits.Crew.{Crew}

-- 1 to 64 workers, and 1 to 65,535 jobs in a piece
abbrev pub is_crew : Crew → Bool
is_crew crew = (nat_le 1 crew.workers && nat_le crew.workers 64) && (nat_le 1 crew.grain && nat_le crew.grain 65535)
