-- Pids that were allocated for the new pages of groups, and freed again.
use Rattle.std.specs.Prelude.{◌≡◌, ◌≢◌, ℕ, zero, suc, ◌+◌, ◌-◌, ◌<◌, true, List, [], ◌∷◌, ◌++◌, map, flat_map, take, length, Some, None}
use Rattle.std.proofs.Common.{refl, sym, ap, ◌∙◌, arith}
use Rattle.std.specs.List.{AllByRecursion, range_with_len}
use Rattle.std.proofs.lemmas.List.{map-append, take_at}
use Rattle.index_page.specs.Page.{PageOfKind}
use Rattle.mapping.specs.FreshPids.{is_among, unused}
use Rattle.mapping.specs.Proper.{Distinct, AreRisingPids}
use Rattle.mapping.specs.Table.{Mapping, pids_in_use, place_of, with_rooms, fresh_pids, freed_all, IsOldWithoutPlace}
use Rattle.mapping.proofs.DrawnPlaces.{drawn-away, away-place, freed-back}
use Rattle.mapping.proofs.PidLemmas.{unused-rises, all_among}
use Rattle.climb_plan.specs.Installing.{AreAway}
use Rattle.climb_plan.specs.Rewriting.{Remade, with_numbers, numbers}

-- ---- numbers in order

range_joined : (a m n : ℕ) → range_with_len a m ++ range_with_len (a + m) n ≡ range_with_len a (m + n)
range_joined a zero n =
    let e : a + 0 ≡ a = omega arith in
    let f : n ≡ 0 + n = omega arith in
    ap (λ (b : ℕ). range_with_len b n) e ∙ ap (λ (m : ℕ). range_with_len a m) f
range_joined a (suc m) n =
    let e : a + suc m ≡ (a + 1) + m = omega arith in
    let f : suc (m + n) ≡ suc m + n = omega arith in
    ap (λ (b : ℕ). a ∷ (range_with_len (a + 1) m ++ range_with_len b n)) e ∙ ap (λ (ns : List ℕ). a ∷ ns) (range_joined (a + 1) m n) ∙ ap (λ (k : ℕ). range_with_len a k) f

-- the numbers of all pieces follow one another, from place i on
pub all_numbers : (used : List ℕ) (i : ℕ) (rs : List Remade) → flat_map (λ r. r.fresh) (with_numbers used i rs) ≡ map (unused used) (range_with_len i (numbers rs))
all_numbers used i [] = refl
all_numbers used i (r ∷ rs) =
    let n : ℕ = length r.pieces - 1 in
    ap (λ (ns : List ℕ). map (unused used) (range_with_len i n) ++ ns) (all_numbers used (i + n) rs)
    ∙ sym (map-append (unused used) (range_with_len i n) (range_with_len (i + n) (numbers rs)))
    ∙ ap (λ (ns : List ℕ). map (unused used) ns) (range_joined i n (numbers rs))

other_numbers : (used : List ℕ) (j k n : ℕ) → j < k → AllByRecursion (λ m. m ≢ unused used j) (map (unused used) (range_with_len k n))
other_numbers used j k zero l = tt
other_numbers used j k (suc n) l = ((λ e. let r = unused-rises used j k l in omega arith), other_numbers used j (k + 1) n (omega arith))

pub distinct_numbers : (used : List ℕ) (k n : ℕ) → Distinct (map (unused used) (range_with_len k n))
distinct_numbers used k zero = tt
distinct_numbers used k (suc n) = (other_numbers used k (k + 1) n (omega arith), distinct_numbers used (k + 1) n)

-- there are as many groups as before
pub length-with_numbers : (used : List ℕ) (i : ℕ) (rs : List Remade) → length (with_numbers used i rs) ≡ length rs
length-with_numbers used i [] = refl
length-with_numbers used i (r ∷ rs) = ap suc (length-with_numbers used (i + (length r.pieces - 1)) rs)

-- ---- places that are freed again

module _ (t : Mapping PageOfKind) (rising : AreRisingPids (pids_in_use t)) (n : ℕ) where
  -- the pids, and the table after they were allocated
  abbrev pub fresh : List ℕ
  fresh = fresh_pids (pids_in_use t) n

  abbrev pub rooms : Mapping PageOfKind
  rooms = with_rooms t fresh

  -- their places are empty
  pub drawn_away : AreAway rooms fresh
  drawn_away = (each fresh (all_among fresh), distinct_numbers (pids_in_use t) 0 n)
    where
      each : (ns : List ℕ) → AllByRecursion (λ m. is_among m fresh ≡ true) ns → AllByRecursion (λ m. place_of rooms m ≡ Some None) ns
      each [] h = tt
      each (m ∷ ms) h = (away-place t rising n m h.0, each ms h.1)

  -- freeing them restores the table
  pub drawn_back : IsOldWithoutPlace t → freed_all rooms fresh ≡ t
  drawn_back logs = freed-back t rooms fresh n rising (drawn-away t rising n) logs

-- ---- of groups

-- numbers of groups that were given in order
abbrev pub AreGiven : Mapping PageOfKind → List Remade → List Remade → Type 0
AreGiven t old new = (used : List ℕ) (i : ℕ) → ((m : ℕ) → unused (pids_in_use t) m ≡ unused used (i + m)) → new ≡ with_numbers used i old

given_here : (t : Mapping PageOfKind) (old new : List Remade) → AreGiven t old new → new ≡ with_numbers (pids_in_use t) 0 old
given_here t old new given = given (pids_in_use t) 0 (λ m. let e : m ≡ 0 + m = omega arith in ap (unused (pids_in_use t)) e)

pub numbers_given : (t : Mapping PageOfKind) (old new : List Remade) → AreGiven t old new → flat_map (λ r. r.fresh) new ≡ fresh_pids (pids_in_use t) (numbers old)
numbers_given t old new given = ap (λ (rs : List Remade). flat_map (λ r. r.fresh) rs) (given_here t old new given) ∙ all_numbers (pids_in_use t) 0 old

-- the rest of the list that they were in is empty
pub all_given : (t : Mapping PageOfKind) (old new rest : List Remade) (n : ℕ) → AreGiven t old new → length old ≡ n → take n (new ++ rest) ≡ new
all_given t old new rest n given e =
    take_at new rest n (ap (λ (rs : List Remade). length rs) (given_here t old new given) ∙ length-with_numbers (pids_in_use t) 0 old ∙ e)
