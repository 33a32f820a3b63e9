-- Which pids are in use, after a change of a table.
use Rattle.std.specs.Prelude.{◌≡◌, ◌≢◌, ℕ, ◌≤◌, Bool, true, false, cond, ◌||◌, nat_eq, List, [], ◌∷◌, Option, Some, None, is_some}
use Rattle.std.proofs.Common.{refl, sym, ap, ◌∙◌, arith, Ordering, Less, Equal, Greater}
use Rattle.std.specs.Ordering.{nat_cmp, is_eq, match_ordering}
use Rattle.std.specs.Map.{keys_of, lookup, remove_entry}
use Rattle.std.specs.BTreeMap.{insert_entry}
use Rattle.std.proofs.lemmas.Cmp.{tied_itself}
use Rattle.std.proofs.lemmas.Bool.{eq-eqb, eqb-true}
use Rattle.keys.proofs.Basics.{equal_by}
use Rattle.mapping.specs.FreshPids.{is_among}
use Rattle.mapping.specs.Table.{Mapping, is_same_pid, pids_in_use, place_of, with_place, freed, room_by, with_room}
use Rattle.mapping.specs.Slots.{AreInUseBelow}
use Rattle.mapping.proofs.PidLemmas.{later_among}
use Rattle.mapping.proofs.TableLemmas.{total, same_pid}

or_step : (a b c : Bool) → (a || b) ≡ true → (b ≡ true → c ≡ true) → (a || c) ≡ true
or_step true b c h f = refl
or_step false b c h f = f h

module _ {V : Type 0} (q k : ℕ) where
  insert_by : (o : Ordering) (e : ℕ × V) (es rest : List (ℕ × V)) (v : V) → is_among q (keys_of (e ∷ es)) ≡ true → (is_among q (keys_of es) ≡ true → is_among q (keys_of rest) ≡ true)
      → is_among q (keys_of (match_ordering o ((k, v) ∷ e ∷ es) ((e.0, v) ∷ es) (e ∷ rest))) ≡ true
  insert_by Less e es rest v h f = later_among q k (keys_of (e ∷ es)) h
  insert_by Equal e es rest v h f = h
  insert_by Greater e es rest v h f = or_step (nat_eq q e.0) (is_among q (keys_of es)) (is_among q (keys_of rest)) h f

  -- pids in use stay in use
  among-insert_entry : (es : List (ℕ × V)) (v : V) → is_among q (keys_of es) ≡ true → is_among q (keys_of (insert_entry nat_cmp es k v)) ≡ true
  among-insert_entry [] v h = absurd (cc)
  among-insert_entry (e ∷ es) v h = insert_by (nat_cmp k e.0) e es (insert_entry nat_cmp es k v) v h (among-insert_entry es v)

  passed_by : (b : Bool) (e : ℕ × V) (rest : Bool) → nat_eq q e.0 ≡ b → q ≢ e.0 → (b || rest) ≡ true → rest ≡ true
  passed_by true e rest s d h = absurd (d (eqb-true q e.0 s))
  passed_by false e rest s d h = h

  remove_by : (b : Bool) (e : ℕ × V) (es rest : List (ℕ × V)) → is_eq (nat_cmp k e.0) ≡ b → q ≢ k → is_among q (keys_of (e ∷ es)) ≡ true → (is_among q (keys_of es) ≡ true → is_among q (keys_of rest) ≡ true)
      → is_among q (keys_of (cond b es (e ∷ rest))) ≡ true
  remove_by true e es rest s d h f =
      let same : k ≡ e.0 = same_pid k e.0 (equal_by (nat_cmp k e.0) s) in
      passed_by (nat_eq q e.0) e (is_among q (keys_of es)) refl (λ x. d (x ∙ sym same)) h
  remove_by false e es rest s d h f = or_step (nat_eq q e.0) (is_among q (keys_of es)) (is_among q (keys_of rest)) h f

  -- so do pids that are not freed
  among-remove_entry : (es : List (ℕ × V)) → q ≢ k → is_among q (keys_of es) ≡ true → is_among q (keys_of (remove_entry (is_same_pid k) es)) ≡ true
  among-remove_entry [] d h = absurd (cc)
  among-remove_entry (e ∷ es) d h = remove_by (is_eq (nat_cmp k e.0)) e es (remove_entry (is_same_pid k) es) refl d h (among-remove_entry es d)

pub is_eq_same : (m n : ℕ) → m ≡ n → is_eq (nat_cmp m n) ≡ true
is_eq_same m n e = ap (λ (x : ℕ). is_eq (nat_cmp m x)) (sym e) ∙ ap is_eq (tied_itself total m)

module _ {V : Type 0} (k : ℕ) where
  new_by : (o : Ordering) (e : ℕ × V) (es rest : List (ℕ × V)) (v : V) → nat_cmp k e.0 ≡ o → is_among k (keys_of rest) ≡ true
      → is_among k (keys_of (match_ordering o ((k, v) ∷ e ∷ es) ((e.0, v) ∷ es) (e ∷ rest))) ≡ true
  new_by Less e es rest v s f = rw (eq-eqb k k refl) refl
  new_by Equal e es rest v s f = rw (eq-eqb k e.0 (same_pid k e.0 s)) refl
  new_by Greater e es rest v s f = later_among k e.0 (keys_of rest) f

  -- a pid that is put in is in use
  pub among_new : (es : List (ℕ × V)) (v : V) → is_among k (keys_of (insert_entry nat_cmp es k v)) ≡ true
  among_new [] v = rw (eq-eqb k k refl) refl
  among_new (e ∷ es) v = new_by (nat_cmp k e.0) e es (insert_entry nat_cmp es k v) v refl (among_new es v)

  there_by : (b c : Bool) (e : ℕ × V) (rest : Option V) → is_eq (nat_cmp k e.0) ≡ b → nat_eq k e.0 ≡ c → is_some (cond b (Some e.1) rest) ≡ (c || is_some rest)
  there_by true true e rest s t = refl
  there_by true false e rest s t = let x = same_pid k e.0 (equal_by (nat_cmp k e.0) s) in let y = eq-eqb k e.0 x in absurd (cc)
  there_by false false e rest s t = refl
  there_by false true e rest s t = let x = is_eq_same k e.0 (eqb-true k e.0 t) in absurd (cc)

  -- a pid is in use exactly if it has a place
  pub among-lookup : (es : List (ℕ × V)) → is_some (lookup (is_same_pid k) es) ≡ is_among k (keys_of es)
  among-lookup [] = refl
  among-lookup (e ∷ es) = there_by (is_eq (nat_cmp k e.0)) (nat_eq k e.0) e (lookup (is_same_pid k) es) refl refl ∙ ap (λ (b : Bool). nat_eq k e.0 || b) (among-lookup es)

module _ {P : Type 0} (t : Mapping P) where
  pub in_use-with_place : (k : ℕ) (p : Option P) (n : ℕ) → AreInUseBelow t n → AreInUseBelow (with_place t k p) n
  in_use-with_place k p n h q l = among-insert_entry q k t.places p (h q l)

  pub in_use-freed : (k n m : ℕ) → AreInUseBelow t n → m ≤ n → m ≤ k → AreInUseBelow (freed t k) m
  in_use-freed k n m h a b q l = among-remove_entry q k t.places (omega arith) (h q (omega arith))

  pub among_place : (k : ℕ) → is_some (place_of t k) ≡ is_among k (pids_in_use t)
  among_place k = among-lookup k t.places

  -- ---- room

  kept_by : (o : Option (Option P)) (k q : ℕ) → is_among q (pids_in_use t) ≡ true → is_among q (pids_in_use (room_by o t k)) ≡ true
  kept_by None k q h = among-insert_entry q k t.places None h
  kept_by (Some p) k q h = h

  pub among_kept : (k q : ℕ) → is_among q (pids_in_use t) ≡ true → is_among q (pids_in_use (with_room t k)) ≡ true
  among_kept k q h = kept_by (place_of t k) k q h

  made_by : (o : Option (Option P)) (k : ℕ) → place_of t k ≡ o → is_among k (pids_in_use (room_by o t k)) ≡ true
  made_by None k e = among_new k t.places None
  made_by (Some p) k e = sym (among_place k) ∙ ap is_some e

  pub among_made : (k : ℕ) → is_among k (pids_in_use (with_room t k)) ≡ true
  among_made k = made_by (place_of t k) k refl
