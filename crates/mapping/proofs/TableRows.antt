-- The effect of the calls on a small table: pages 10 and 15 are in it under the pids 0 and 5, that of pid 2 is checked out, pid 3 is freed.
use Rattle.std.specs.Prelude.{◌≡◌, ℕ, [], ◌∷◌, Some, None}
use Rattle.std.proofs.Common.{refl}
use Rattle.mapping.specs.Tree.Logged.{No, Old, Upto}
use Rattle.mapping.specs.Table.{Mapping, page_of, place_of, log_of, with_place, freed, with_room, with_rooms, pids_in_use, fresh_pids}

abbrev row : Mapping ℕ
row = record { places = (0, Some 10) ∷ (2, None) ∷ (5, Some 15) ∷ []; logged = (0, Upto 1) ∷ (2, Upto 0) ∷ (3, Old) ∷ [] }

page_at_home : page_of row 5 ≡ Some 15
page_at_home = refl

page_away : place_of row 2 ≡ Some None
page_away = refl

no_place : place_of row 3 ≡ None
no_place = refl

log_of_none : log_of row 5 ≡ No
log_of_none = refl

taken : with_place row 5 None ≡ record { places = (0, Some 10) ∷ (2, None) ∷ (5, None) ∷ []; logged = row.logged }
taken = refl

put_back : with_place row 2 (Some 12) ≡ record { places = (0, Some 10) ∷ (2, Some 12) ∷ (5, Some 15) ∷ []; logged = row.logged }
put_back = refl

given_up : freed row 2 ≡ record { places = (0, Some 10) ∷ (5, Some 15) ∷ []; logged = (0, Upto 1) ∷ (2, Old) ∷ (3, Old) ∷ [] }
given_up = refl

-- room changes nothing where there is a place
room_there : with_room row 5 ≡ row
room_there = refl

drawn : fresh_pids (pids_in_use row) 4 ≡ 1 ∷ 3 ∷ 4 ∷ 6 ∷ []
drawn = refl

drawn_away : with_rooms row (1 ∷ 3 ∷ []) ≡ record { places = (0, Some 10) ∷ (1, None) ∷ (2, None) ∷ (3, None) ∷ (5, Some 15) ∷ []; logged = row.logged }
drawn_away = refl
