use Rattle.std.proofs.Common.{◌≡◌, drop}
use Rattle.std.specs.List.{list_all}
use Rattle.page_runs.specs.Reads.{is_read_only}
use Rattle.page_runs.specs.Replies.{commands_at}
use Rattle.page_runs.proofs.kinds.Kinds.of.Given as goal

-- without writes so far, all commands only read if and only if the remaining ones do
abbrev pub invariant-loop-place : goal.invariant-loop-place
invariant-loop-place l = l.kinds.writes ≡ 0 → list_all is_read_only (commands_at l.commands (drop l.place-index l.places)) ≡ list_all is_read_only (commands_at l.commands l.places)
