use Rattle.mapping.specs.Table.{pids_in_use, with_rooms, fresh_pids}
use Rattle.mapping.proofs.DrawnPlaces.{drawn-away, away-place, other-place, freed-back}
use Rattle.mapping.proofs.laws.drawn_pids_get_places_that_are_away.Goals as goal

pub returns : goal.returns
returns g c = record {
  away = λ t n pid r. away-place t r n pid;
  others = λ t n pid r. other-place t r n pid;
  logged = λ t n r. (drawn-away t r n).logged;
  rising = λ t n r. (drawn-away t r n).rising;
  next = λ t n m r. (drawn-away t r n).next m;
  freed = λ t n r. freed-back t (with_rooms t (fresh_pids (pids_in_use t) n)) (fresh_pids (pids_in_use t) n) n r (drawn-away t r n);
}
