-- Allocated pids and their places, and freeing them again, for the proofs of this crate and of those above it.
use Rattle.std.specs.Prelude.{◌≡◌, ℕ, zero, suc, ◌+◌, ◌<◌, Bool, true, false, cond, ◌||◌, nat_eq, nat_lt, List, [], ◌∷◌, ◌++◌, Option, Some, None, is_some}
use Rattle.std.proofs.Common.{refl, sym, ap, ◌∙◌, arith, subst, ltb-true, ltb-false, Ordering, Less, Equal, Greater}
use Rattle.std.specs.List.{AllByRecursion}
use Rattle.std.specs.Ordering.{nat_cmp, is_eq, match_ordering}
use Rattle.std.specs.Map.{keys_of, remove_entry}
use Rattle.std.specs.BTreeMap.{insert_entry}
use Rattle.std.proofs.lemmas.Cmp.{ranked}
use Rattle.std.proofs.lemmas.Bool.{eq-eqb, eqb-true, or_parts}
use Rattle.keys.proofs.Basics.{equal_by, or_swapped}
use Rattle.mapping.specs.Tree.{Logged, listed_at}
use Rattle.mapping.specs.Tree.Logged.{Old}
use Rattle.mapping.specs.Outdate.{outdate, outdate_all}
use Rattle.mapping.specs.Proper.{AreRisingPids}
use Rattle.mapping.specs.FreshPids.{is_among, unused, with_number}
use Rattle.mapping.specs.Table.{Mapping, is_same_pid, pids_in_use, place_of, with_place, freed, room_by, with_room, with_rooms, fresh_pids, freed_all, IsOldWithoutPlace}
use Rattle.mapping.proofs.PidLemmas.{unused-is_free, unused-drawn, rising-with_number}
use Rattle.mapping.proofs.TableLemmas.{same_pid, listed-insert_entry}
use Rattle.mapping.proofs.TableSlots.{same_mapping}
use Rattle.mapping.proofs.SameTable.{rest_listed, same_table}
use Rattle.mapping.proofs.InUse.{among_place, is_eq_same}
use Rattle.mapping.proofs.FreshLemmas.{fresh_pids-more, with_rooms-push}

-- ---- tests of a pid

same_test_by : (b c : Bool) (m n : ℕ) → nat_eq m n ≡ b → is_eq (nat_cmp m n) ≡ c → b ≡ c
same_test_by true true m n e f = refl
same_test_by true false m n e f = let x = is_eq_same m n (eqb-true m n e) in absurd (cc)
same_test_by false true m n e f = let x = eq-eqb m n (same_pid m n (equal_by (nat_cmp m n) f)) in absurd (cc)
same_test_by false false m n e f = refl

same_test : (m n : ℕ) → nat_eq m n ≡ is_eq (nat_cmp m n)
same_test m n = same_test_by (nat_eq m n) (is_eq (nat_cmp m n)) m n refl refl

-- a number is among a list with one more at its end, if it is that one, or among the list
pub among_last : (q k : ℕ) (ns : List ℕ) → is_among q (ns ++ k ∷ []) ≡ (nat_eq q k || is_among q ns)
among_last q k [] = refl
among_last q k (n ∷ ns) = ap (λ (b : Bool). nat_eq q n || b) (among_last q k ns) ∙ or_swapped (nat_eq q n) (nat_eq q k) (is_among q ns)

none_if : {X : Type 0} (o : Option X) → is_some o ≡ false → o ≡ None
none_if None h = refl
none_if (Some x) h = absurd (cc)

-- ---- an entry put in, and one removed

module _ {V : Type 0} where
  keys_by : (o : Ordering) (c : Bool) (k : ℕ) (v : V) (e : ℕ × V) (es rest : List (ℕ × V)) → nat_cmp k e.0 ≡ o → nat_lt k e.0 ≡ c → nat_eq k e.0 ≡ false → keys_of rest ≡ with_number k (keys_of es)
      → keys_of (match_ordering o ((k, v) ∷ e ∷ es) ((e.0, v) ∷ es) (e ∷ rest)) ≡ cond c (k ∷ keys_of (e ∷ es)) (e.0 ∷ with_number k (keys_of es))
  keys_by Less true k v e es rest h f d r = refl
  keys_by Less false k v e es rest h f d r = absurd (let x = ranked k e.0 Less (sym h) in let y = ltb-false k e.0 f in omega arith)
  keys_by Equal c k v e es rest h f d r = absurd (let x = eq-eqb k e.0 (same_pid k e.0 h) in cc)
  keys_by Greater true k v e es rest h f d r = absurd (let x = ranked k e.0 Greater (sym h) in let y = ltb-true k e.0 f in omega arith)
  keys_by Greater false k v e es rest h f d r = ap (λ (ns : List ℕ). e.0 ∷ ns) r

  -- a new pid goes to its place
  keys-insert_entry : (k : ℕ) (v : V) (es : List (ℕ × V)) → is_among k (keys_of es) ≡ false → keys_of (insert_entry nat_cmp es k v) ≡ with_number k (keys_of es)
  keys-insert_entry k v [] h = refl
  keys-insert_entry k v (e ∷ es) h =
      let apart = or_parts (nat_eq k e.0) (is_among k (keys_of es)) h in
      keys_by (nat_cmp k e.0) (nat_lt k e.0) k v e es (insert_entry nat_cmp es k v) refl refl apart.0 (keys-insert_entry k v es apart.1)

  all_by : (Q : ℕ → Type 0) (b : Bool) (e : ℕ × V) (es rest : List (ℕ × V)) → Q e.0 → AllByRecursion Q (keys_of es) → AllByRecursion Q (keys_of rest) → AllByRecursion Q (keys_of (cond b es (e ∷ rest)))
  all_by Q true e es rest p a r = a
  all_by Q false e es rest p a r = (p, r)

  all-remove_entry : (Q : ℕ → Type 0) (k : ℕ) (es : List (ℕ × V)) → AllByRecursion Q (keys_of es) → AllByRecursion Q (keys_of (remove_entry (is_same_pid k) es))
  all-remove_entry Q k [] a = tt
  all-remove_entry Q k (e ∷ es) a = all_by Q (is_same_pid k e.0) e es (remove_entry (is_same_pid k) es) a.0 a.1 (all-remove_entry Q k es a.1)

  rising_by : (b : Bool) (e : ℕ × V) (es rest : List (ℕ × V)) → AreRisingPids (keys_of es) → AllByRecursion (λ n. e.0 < n) (keys_of rest) → AreRisingPids (keys_of rest) → AreRisingPids (keys_of (cond b es (e ∷ rest)))
  rising_by true e es rest r a s = r
  rising_by false e es rest r a s = (a, s)

  rising-remove_entry : (k : ℕ) (es : List (ℕ × V)) → AreRisingPids (keys_of es) → AreRisingPids (keys_of (remove_entry (is_same_pid k) es))
  rising-remove_entry k [] r = tt
  rising-remove_entry k (e ∷ es) r =
      rising_by (is_same_pid k e.0) e es (remove_entry (is_same_pid k) es) r.1 (all-remove_entry (λ n. e.0 < n) k es r.0) (rising-remove_entry k es r.1)

  none_by : (b : Bool) → ◌≡◌ {A = Option V} None (cond b None None)
  none_by true = refl
  none_by false = refl

  pass_by : (a b : Bool) (q k : ℕ) (e : ℕ × V) (later : Option V) → is_eq (nat_cmp q e.0) ≡ a → is_eq (nat_cmp q k) ≡ b → is_eq (nat_cmp k e.0) ≡ false → cond a (Some e.1) (cond b None later) ≡ cond b None (cond a (Some e.1) later)
  pass_by true true q k e later f g h =
      let x : k ≡ e.0 = sym (same_pid q k (equal_by (nat_cmp q k) g)) ∙ same_pid q e.0 (equal_by (nat_cmp q e.0) f) in
      let y = is_eq_same k e.0 x in
      absurd (cc)
  pass_by true false q k e later f g h = refl
  pass_by false b q k e later f g h = refl

  removed_by : (b : Bool) (k q : ℕ) (e : ℕ × V) (es rest : List (ℕ × V)) → is_eq (nat_cmp k e.0) ≡ b → AreRisingPids (keys_of (e ∷ es)) → listed_at rest q ≡ cond (is_eq (nat_cmp q k)) None (listed_at es q)
      → listed_at (cond b es (e ∷ rest)) q ≡ cond (is_eq (nat_cmp q k)) None (listed_at (e ∷ es) q)
  removed_by true k q e es rest h r ih =
      rest_listed q e es r ∙ ap (λ (n : ℕ). cond (is_eq (nat_cmp q n)) None (listed_at (e ∷ es) q)) (sym (same_pid k e.0 (equal_by (nat_cmp k e.0) h)))
  removed_by false k q e es rest h r ih =
      ap (λ (o : Option V). cond (is_eq (nat_cmp q e.0)) (Some e.1) o) ih
      ∙ pass_by (is_eq (nat_cmp q e.0)) (is_eq (nat_cmp q k)) q k e (listed_at es q) refl refl h

  -- the entries after a pid's entry was removed
  pub listed-remove_entry : (k q : ℕ) (es : List (ℕ × V)) → AreRisingPids (keys_of es) → listed_at (remove_entry (is_same_pid k) es) q ≡ cond (is_eq (nat_cmp q k)) None (listed_at es q)
  listed-remove_entry k q [] r = none_by (is_eq (nat_cmp q k))
  listed-remove_entry k q (e ∷ es) r = removed_by (is_eq (nat_cmp k e.0)) k q e es (remove_entry (is_same_pid k) es) refl r (listed-remove_entry k q es r.1)

-- ---- allocated pids

-- the table after drawing n pids: these pids, their places, and all else as it was
pub record AreAway {P : Type 0} (t u : Mapping P) (pids : List ℕ) (n : ℕ) : Type 0 where
  pub rising : AreRisingPids (pids_in_use u)
  pub next : (m : ℕ) → unused (pids_in_use u) m ≡ unused (pids_in_use t) (n + m)
  pub logged : u.logged ≡ t.logged
  pub places : (pid : ℕ) → place_of u pid ≡ cond (is_among pid pids) (Some None) (place_of t pid)
  pub apart : (pid : ℕ) → is_among pid pids ≡ true → is_among pid (pids_in_use t) ≡ false

module _ {P : Type 0} (t : Mapping P) (rising : AreRisingPids (pids_in_use t)) where
  abbrev used : List ℕ
  used = pids_in_use t

  two_tests : (a b : Bool) (o : Option (Option P)) → cond a (Some None) (cond b (Some None) o) ≡ cond (a || b) (Some None) o
  two_tests true b o = refl
  two_tests false b o = refl

  apart_by : (b c : Bool) (q k : ℕ) → nat_eq q k ≡ b → (b || c) ≡ true → is_among k used ≡ false → (c ≡ true → is_among q used ≡ false) → is_among q used ≡ false
  apart_by true c q k e h f g = ap (λ (n : ℕ). is_among n used) (eqb-true q k e) ∙ f
  apart_by false c q k e h f g = g h

  -- one more
  one_away : (u : Mapping P) (pids : List ℕ) (n k : ℕ) → AreAway t u pids n → k ≡ unused used n → AreAway t (with_room u k) (pids ++ k ∷ []) (suc n)
  one_away u pids n k a is =
      let least : k ≡ unused (pids_in_use u) 0 = is ∙ ap (unused used) (omega arith) ∙ sym (a.next 0) in
      let free : is_among k (pids_in_use u) ≡ false = ap (λ (x : ℕ). is_among x (pids_in_use u)) least ∙ unused-is_free (pids_in_use u) 0 a.rising in
      let none : place_of u k ≡ None = none_if (place_of u k) (among_place u k ∙ free) in
      let room : with_place u k None ≡ with_room u k = ap (λ (o : Option (Option P)). room_by o u k) (sym none) in
      let keys : pids_in_use (with_place u k None) ≡ with_number k (pids_in_use u) = keys-insert_entry k None u.places free in
      let more : AreAway t (with_place u k None) (pids ++ k ∷ []) (suc n) = record {
        rising = subst (λ (ns : List ℕ). AreRisingPids ns) (sym keys) (rising-with_number k (pids_in_use u) a.rising free);
        next = λ m.
            ap (λ (ns : List ℕ). unused ns m) keys
            ∙ ap (λ (x : ℕ). unused (with_number x (pids_in_use u)) m) least
            ∙ unused-drawn (pids_in_use u) 0 m a.rising (omega arith)
            ∙ a.next (suc m)
            ∙ ap (unused used) (omega arith);
        logged = a.logged;
        places = λ q.
            listed-insert_entry u.places k None q
            ∙ ap (λ (o : Option (Option P)). cond (is_eq (nat_cmp q k)) (Some None) o) (a.places q)
            ∙ two_tests (is_eq (nat_cmp q k)) (is_among q pids) (place_of t q)
            ∙ ap (λ (b : Bool). cond (b || is_among q pids) (Some None) (place_of t q)) (sym (same_test q k))
            ∙ ap (λ (b : Bool). cond b (Some None) (place_of t q)) (sym (among_last q k pids));
        apart = λ q h. apart_by (nat_eq q k) (is_among q pids) q k refl (sym (among_last q k pids) ∙ h) (ap (λ (x : ℕ). is_among x used) is ∙ unused-is_free used n rising) (a.apart q);
      } in
      subst (λ (v : Mapping P). AreAway t v (pids ++ k ∷ []) (suc n)) room more

  pub drawn-away : (n : ℕ) → AreAway t (with_rooms t (fresh_pids used n)) (fresh_pids used n) n
  drawn-away zero = record { rising = rising; next = λ m. ap (unused used) (omega arith); logged = refl; places = λ q. refl; apart = λ q h. absurd (cc) }
  drawn-away (suc n) =
      let one = one_away (with_rooms t (fresh_pids used n)) (fresh_pids used n) n (unused used n) (drawn-away n) refl in
      let count : n + 1 ≡ suc n = omega arith in
      let pids : fresh_pids used n ++ unused used n ∷ [] ≡ fresh_pids used (suc n) = sym (fresh_pids-more used n) ∙ ap (fresh_pids used) count in
      let room = subst (λ (v : Mapping P). AreAway t v (fresh_pids used n ++ unused used n ∷ []) (suc n)) (sym (with_rooms-push t (fresh_pids used n) (unused used n))) one in
      subst (λ (ps : List ℕ). AreAway t (with_rooms t ps) ps (suc n)) pids room

  pub away-place : (n pid : ℕ) → is_among pid (fresh_pids used n) ≡ true → place_of (with_rooms t (fresh_pids used n)) pid ≡ Some None
  away-place n pid h = (drawn-away n).places pid ∙ ap (λ (b : Bool). cond b (Some None) (place_of t pid)) h

  pub other-place : (n pid : ℕ) → is_among pid (fresh_pids used n) ≡ false → place_of (with_rooms t (fresh_pids used n)) pid ≡ place_of t pid
  other-place n pid h = (drawn-away n).places pid ∙ ap (λ (b : Bool). cond b (Some None) (place_of t pid)) h

-- ---- freed again

-- of each of these the log has no present page
abbrev AreOld : List ℕ → List (ℕ × Logged) → Type 0
AreOld pids ls = AllByRecursion (λ l. is_among l.0 pids ≡ true → l.1 ≡ Old) ls

outdated_by : (b : Bool) (l : Logged) → (b ≡ true → l ≡ Old) → cond b (outdate l) l ≡ l
outdated_by true l h = ap outdate (h refl) ∙ sym (h refl)
outdated_by false l h = refl

outdate_kept : (k : ℕ) (ls : List (ℕ × Logged)) → AreOld (k ∷ []) ls → outdate_all (k ∷ []) ls ≡ ls
outdate_kept k [] h = refl
outdate_kept k (l ∷ ls) h =
    ap (λ (x : Logged). (l.0, x) ∷ outdate_all (k ∷ []) ls) (outdated_by (nat_eq l.0 k || false) l.1 h.0)
    ∙ ap (λ (x : List (ℕ × Logged)). l ∷ x) (outdate_kept k ls h.1)

or_left : (a b : Bool) → (a || false) ≡ true → (a || b) ≡ true
or_left true b h = refl
or_left false b h = absurd (cc)

or_right : (a b : Bool) → b ≡ true → (a || b) ≡ true
or_right true b h = refl
or_right false b h = h

old_first : (k : ℕ) (pids : List ℕ) (ls : List (ℕ × Logged)) → AreOld (k ∷ pids) ls → AreOld (k ∷ []) ls
old_first k pids [] h = tt
old_first k pids (l ∷ ls) h = (λ e. h.0 (or_left (nat_eq l.0 k) (is_among l.0 pids) e), old_first k pids ls h.1)

old_rest : (k : ℕ) (pids : List ℕ) (ls : List (ℕ × Logged)) → AreOld (k ∷ pids) ls → AreOld pids ls
old_rest k pids [] h = tt
old_rest k pids (l ∷ ls) h = (λ e. h.0 (or_right (nat_eq l.0 k) (is_among l.0 pids) e), old_rest k pids ls h.1)

module _ {P : Type 0} where
  logged_kept : (u : Mapping P) (pids : List ℕ) → AreOld pids u.logged → (freed_all u pids).logged ≡ u.logged
  logged_kept u [] h = refl
  logged_kept u (k ∷ pids) h =
      let same : outdate_all (k ∷ []) u.logged ≡ u.logged = outdate_kept k u.logged (old_first k pids u.logged h) in
      logged_kept (freed u k) pids (subst (λ (ls : List (ℕ × Logged)). AreOld pids ls) (sym same) (old_rest k pids u.logged h)) ∙ same

  no_tests : (a b : Bool) (o : Option (Option P)) → cond a None (cond b None o) ≡ cond (b || a) None o
  no_tests true true o = refl
  no_tests true false o = refl
  no_tests false true o = refl
  no_tests false false o = refl

  rising_freed : (u : Mapping P) (pids : List ℕ) → AreRisingPids (pids_in_use u) → AreRisingPids (pids_in_use (freed_all u pids))
  rising_freed u [] r = r
  rising_freed u (k ∷ pids) r = rising_freed (freed u k) pids (rising-remove_entry k u.places r)

  places_freed : (u : Mapping P) (pids : List ℕ) (q : ℕ) → AreRisingPids (pids_in_use u) → place_of (freed_all u pids) q ≡ cond (is_among q pids) None (place_of u q)
  places_freed u [] q r = refl
  places_freed u (k ∷ pids) q r =
      places_freed (freed u k) pids q (rising-remove_entry k u.places r)
      ∙ ap (λ (o : Option (Option P)). cond (is_among q pids) None o) (listed-remove_entry k q u.places r)
      ∙ no_tests (is_among q pids) (is_eq (nat_cmp q k)) (place_of u q)
      ∙ ap (λ (b : Bool). cond (b || is_among q pids) None (place_of u q)) (sym (same_test q k))

  back_by : (b : Bool) (o : Option (Option P)) → (b ≡ true → o ≡ None) → cond b None (cond b (Some None) o) ≡ o
  back_by true o h = sym (h refl)
  back_by false o h = refl

  module _ (t u : Mapping P) (pids : List ℕ) (n : ℕ) (rising : AreRisingPids (pids_in_use t)) (a : AreAway t u pids n) where
    no_place : (q : ℕ) → is_among q pids ≡ true → place_of t q ≡ None
    no_place q h = none_if (place_of t q) (among_place t q ∙ a.apart q h)

    old_by : (ls : List (ℕ × Logged)) → AllByRecursion (λ l. place_of t l.0 ≡ None → l.1 ≡ Old) ls → AreOld pids ls
    old_by [] h = tt
    old_by (l ∷ ls) h = (λ e. h.0 (no_place l.0 e), old_by ls h.1)

    -- freeing the allocated pids restores the table
    pub freed-back : IsOldWithoutPlace t → freed_all u pids ≡ t
    freed-back h =
        let logged = logged_kept u pids (subst (λ (ls : List (ℕ × Logged)). AreOld pids ls) (sym a.logged) (old_by t.logged h)) ∙ a.logged in
        let places = same_table (freed_all u pids).places t.places (rising_freed u pids a.rising) rising
        (λ q. places_freed u pids q a.rising ∙ ap (λ (o : Option (Option P)). cond (is_among q pids) None o) (a.places q) ∙ back_by (is_among q pids) (place_of t q) (no_place q)) in
        same_mapping (freed_all u pids).places t.places (freed_all u pids).logged t.logged places logged
