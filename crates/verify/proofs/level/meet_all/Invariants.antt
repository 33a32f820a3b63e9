use Rattle.std.proofs.Common.{◌≡◌, ◌+◌, ◌*◌, ◌≤◌, drop, length}
use Rattle.mapping.specs.Finding.{all_met}
use Rattle.verify.specs.Met.{HaveMetTheSame}
use Rattle.verify.specs.Seen.{first_found, all_pairs}
use Rattle.verify.proofs.level.meet_all.Given as goal

-- findings, visited pids and counts from this place on, together with those before it, are those of all places
abbrev pub invariant-loop-at : goal.invariant-loop-at
invariant-loop-at l = record {
  found : first_found l.met (drop l.at l.places) (drop l.at l.seen) ≡ first_found l.fn.met l.places l.seen;
  pairs : l.pairs + all_pairs (drop l.at l.seen) ≡ all_pairs l.seen;
  small : l.pairs ≤ l.at * 18446744073709551615;
  met : HaveMetTheSame (all_met l.met (drop l.at l.places)) (all_met l.fn.met l.places);
  count : length l.met + length (drop l.at l.places) ≡ length l.fn.met + length l.places;
}
