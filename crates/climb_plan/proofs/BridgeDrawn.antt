-- Allocated pids get places without pages.
use Rattle.std.specs.Prelude.{◌≡◌, ℕ, zero, suc, ◌+◌, Bool, true, false, cond, ◌||◌, nat_eq, nat_lt, List, [], ◌∷◌, map, Option, Some, None}
use Rattle.std.proofs.Common.{refl, sym, ap, ◌∙◌, subst, arith, ltb-true, ltb-false, Ordering, Less, Equal, Greater}
use Rattle.std.specs.List.{range_with_len}
use Rattle.std.specs.Ordering.{nat_cmp, match_ordering}
use Rattle.std.specs.Map.{keys_of, lookup}
use Rattle.std.specs.BTreeMap.{insert_entry}
use Rattle.std.proofs.lemmas.Cmp.{ranked}
use Rattle.std.proofs.lemmas.Bool.{eq-eqb, or_parts}
use Rattle.index_page.specs.Page.{PageOfKind}
use Rattle.mapping.specs.FreshPids.{is_among, unused, with_number}
use Rattle.mapping.specs.Proper.{AreRisingPids}
use Rattle.mapping.specs.Table.{Mapping, is_same_pid, pids_in_use, place_of, with_place, room_by, with_rooms, fresh_pids}
use Rattle.mapping.proofs.PidLemmas.{unused-is_free, unused-drawn, rising-with_number}
use Rattle.mapping.proofs.TableLemmas.{same_pid, listed-insert_entry}
use Rattle.climb_plan.proofs.BridgeTables.{test_true, test_false, AreDrawn}

-- ---- an entry under a pid that had none

module _ {X : Type 0} where
  nothing_there : (k : ℕ) (es : List (ℕ × X)) → is_among k (keys_of es) ≡ false → lookup (is_same_pid k) es ≡ None
  nothing_there k [] h = refl
  nothing_there k (e ∷ es) h =
      let apart = or_parts (nat_eq k e.0) (is_among k (keys_of es)) h in
      rw (test_false k e.0 apart.0) (nothing_there k es apart.1)

  new_by : (o : Ordering) (b : Bool) (k : ℕ) (v : X) (e : ℕ × X) (es rest : List (ℕ × X)) → nat_cmp k e.0 ≡ o → nat_lt k e.0 ≡ b → nat_eq k e.0 ≡ false → keys_of rest ≡ with_number k (keys_of es)
      → keys_of (match_ordering o ((k, v) ∷ e ∷ es) ((e.0, v) ∷ es) (e ∷ rest)) ≡ cond b (k ∷ e.0 ∷ keys_of es) (e.0 ∷ with_number k (keys_of es))
  new_by Less true k v e es rest c l d r = refl
  new_by Less false k v e es rest c l d r = absurd (let x = ranked k e.0 Less (sym c) in let y = ltb-false k e.0 l in omega arith)
  new_by Equal b k v e es rest c l d r = absurd (let x = eq-eqb k e.0 (same_pid k e.0 c) in cc)
  new_by Greater true k v e es rest c l d r = absurd (let x = ranked k e.0 Greater (sym c) in let y = ltb-true k e.0 l in omega arith)
  new_by Greater false k v e es rest c l d r = ap (λ (ns : List ℕ). e.0 ∷ ns) r

  new_pid : (k : ℕ) (v : X) (es : List (ℕ × X)) → is_among k (keys_of es) ≡ false → keys_of (insert_entry nat_cmp es k v) ≡ with_number k (keys_of es)
  new_pid k v [] h = refl
  new_pid k v (e ∷ es) h =
      let apart = or_parts (nat_eq k e.0) (is_among k (keys_of es)) h in
      new_by (nat_cmp k e.0) (nat_lt k e.0) k v e es (insert_entry nat_cmp es k v) refl refl apart.0 (new_pid k v es apart.1)

-- ---- one number, and then the others

later_numbers : (f g : ℕ → ℕ) (a n : ℕ) → ((m : ℕ) → g m ≡ f (suc m)) → map f (range_with_len (a + 1) n) ≡ map g (range_with_len a n)
later_numbers f g a zero h = refl
later_numbers f g a (suc n) h =
    let next : suc a ≡ a + 1 = omega arith in
    ap (λ (x : ℕ). x ∷ map f (range_with_len (a + 1 + 1) n)) (ap f (sym next) ∙ sym (h a)) ∙ ap (λ (xs : List ℕ). g a ∷ xs) (later_numbers f g (a + 1) n h)

module _ (t : Mapping PageOfKind) (n k : ℕ) (rest : List ℕ) (v : Mapping PageOfKind) where
  away_by : (b : Bool) (pid : ℕ) → is_among pid rest ≡ b → (nat_eq pid k || b) ≡ true → (is_among pid rest ≡ true → place_of v pid ≡ Some None) → (is_among pid rest ≡ false → place_of v pid ≡ place_of (with_place t k None) pid) → place_of v pid ≡ Some None
  away_by true pid e h a o = a e
  away_by false pid e h a o =
      o e ∙ listed-insert_entry t.places k None pid ∙ ap (λ (b : Bool). cond b (Some None) (place_of t pid)) (test_true pid k (left (nat_eq pid k) h))
    where
      left : (a : Bool) → (a || false) ≡ true → a ≡ true
      left true h = refl
      left false h = h

  other_by : (pid : ℕ) → (nat_eq pid k || is_among pid rest) ≡ false → (is_among pid rest ≡ false → place_of v pid ≡ place_of (with_place t k None) pid) → place_of v pid ≡ place_of t pid
  other_by pid h o =
      let apart = or_parts (nat_eq pid k) (is_among pid rest) h in
      o apart.1 ∙ listed-insert_entry t.places k None pid ∙ ap (λ (b : Bool). cond b (Some None) (place_of t pid)) (test_false pid k apart.0)

-- n pids are allocated
pub drawn_places : (n : ℕ) (t : Mapping PageOfKind) → AreRisingPids (pids_in_use t) → AreDrawn t (with_rooms t (fresh_pids (pids_in_use t) n)) n
drawn_places zero t r = record { away = λ pid h. absurd (cc); others = λ pid h. refl; logged = refl; rising = r; next = λ m. (let e : m ≡ 0 + m = omega arith in ap (λ (x : ℕ). unused (pids_in_use t) x) e) }
drawn_places (suc n) t r =
    let used : List ℕ = pids_in_use t in
    let k : ℕ = unused used 0 in
    let u : Mapping PageOfKind = with_place t k None in
    let free : is_among k used ≡ false = unused-is_free used 0 r in
    let keys : pids_in_use u ≡ with_number k used = new_pid k None t.places free in
    let rising : AreRisingPids (pids_in_use u) = subst (λ (ns : List ℕ). AreRisingPids ns) (sym keys) (rising-with_number k used r free) in
    let later : (m : ℕ) → unused (pids_in_use u) m ≡ unused used (suc m) = λ m. ap (λ (ns : List ℕ). unused ns m) keys ∙ unused-drawn used 0 m r (omega arith) in
    let rest : List ℕ = fresh_pids (pids_in_use u) n in
    let v : Mapping PageOfKind = with_rooms u rest in
    let ih : AreDrawn u v n = drawn_places n u rising in
    let numbers : fresh_pids used (suc n) ≡ k ∷ rest = ap (λ (ns : List ℕ). k ∷ ns) (later_numbers (unused used) (unused (pids_in_use u)) 0 n later) in
    let room : room_by (place_of t k) t k ≡ u = ap (λ (o : Option (Option PageOfKind)). room_by o t k) (nothing_there k t.places free) in
    let table : with_rooms t (fresh_pids used (suc n)) ≡ v = ap (λ (ns : List ℕ). with_rooms t ns) numbers ∙ ap (λ (w : Mapping PageOfKind). with_rooms w rest) room in
    let among : (pid : ℕ) → is_among pid (fresh_pids used (suc n)) ≡ (nat_eq pid k || is_among pid rest) = λ pid. ap (λ (ns : List ℕ). is_among pid ns) numbers in
    let one : AreDrawn t v (suc n) = record {
      away = λ pid h. away_by t n k rest v (is_among pid rest) pid refl (sym (among pid) ∙ h) (ih.away pid) (ih.others pid);
      others = λ pid h. other_by t n k rest v pid (sym (among pid) ∙ h) (ih.others pid);
      logged = ih.logged;
      rising = ih.rising;
      next = λ m. (let e : suc (n + m) ≡ suc n + m = omega arith in ih.next m ∙ later (n + m) ∙ ap (λ (x : ℕ). unused used x) e);
    } in
    subst (λ (w : Mapping PageOfKind). AreDrawn t w (suc n)) (sym table) one
