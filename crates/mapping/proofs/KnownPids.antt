-- The pids that a table knows: those in use, and those that are `Old` in the log.
use Rattle.std.specs.Prelude.{◌≡◌, ℕ, ◌<◌, Bool, true, false, cond, ◌||◌, nat_eq, nat_lt, List, [], ◌∷◌, ◌++◌, Option, Some, None, is_some}
use Rattle.std.proofs.Common.{refl, sym, ap, ◌∙◌, arith, ltb-true, ltb-false}
use Rattle.std.specs.List.{AllByRecursion, filter}
use Rattle.std.specs.Ordering.{nat_cmp, is_eq}
use Rattle.std.specs.Map.{keys_of, lookup}
use Rattle.std.proofs.lemmas.Bool.{eq-eqb, eqb-true}
use Rattle.keys.proofs.Basics.{equal_by, or_turned, or_grouped}
use Rattle.mapping.specs.Tree.{Logged, or_no}
use Rattle.mapping.specs.Tree.Logged.{No, Old, Upto}
use Rattle.mapping.specs.FreshPids.{is_among, with_number}
use Rattle.mapping.specs.Proper.{AreRisingPids}
use Rattle.mapping.specs.LogState.{log_state}
use Rattle.mapping.specs.Table.{Mapping, is_same_pid, pids_in_use, place_of, log_of, is_old, old_pids, with_numbers, pids_in_use_or_old}
use Rattle.mapping.specs.Slots.{slot_pids, listed_place, listed_state, entry_if, table_of, is_known, known_pids}
use Rattle.mapping.specs.declared.slots.TableSlot.{TableSlot}
use Rattle.mapping.proofs.PidLemmas.{among-with_number, all-with_number, rising-with_number}
use Rattle.mapping.proofs.TableLemmas.{same_pid}
use Rattle.mapping.proofs.Around.{lookup_none}
use Rattle.mapping.proofs.InUse.{among_place, is_eq_same}
use Rattle.mapping.proofs.Listing.{keys-listing}

-- ---- one more number among rising ones

-- rising numbers, with this one among them
abbrev with_one : Bool → ℕ → List ℕ → List ℕ
with_one b n ns = cond b ns (with_number n ns)

apart_by : (b : Bool) (m n : ℕ) (rest : Bool) → nat_eq n m ≡ b → n < m → rest ≡ false → (b || rest) ≡ false
apart_by true m n rest e l h = absurd (let x = eqb-true n m e in omega arith)
apart_by false m n rest e l h = h

pub none_above : (n : ℕ) (ns : List ℕ) → AllByRecursion (λ m. n < m) ns → is_among n ns ≡ false
none_above n [] a = refl
none_above n (m ∷ ms) a = apart_by (nat_eq n m) m n (is_among n ms) refl a.0 (none_above n ms a.1)

first_by : (b : Bool) (n m : ℕ) (ms : List ℕ) → nat_lt n m ≡ b → n < m → cond b (n ∷ m ∷ ms) (m ∷ with_number n ms) ≡ n ∷ m ∷ ms
first_by true n m ms e l = refl
first_by false n m ms e l = absurd (let x = ltb-false n m e in omega arith)

first_number : (n : ℕ) (ns : List ℕ) → AllByRecursion (λ m. n < m) ns → with_number n ns ≡ n ∷ ns
first_number n [] a = refl
first_number n (m ∷ ms) a = first_by (nat_lt n m) n m ms refl a.0

-- one below all the others comes first
one_first : (n : ℕ) (ns : List ℕ) → AllByRecursion (λ m. n < m) ns → with_one (is_among n ns) n ns ≡ n ∷ ns
one_first n ns a = ap (λ (b : Bool). with_one b n ns) (none_above n ns a) ∙ first_number n ns a

one_after : (k n : ℕ) (ns : List ℕ) → k < n → with_one (is_among n (k ∷ ns)) n (k ∷ ns) ≡ k ∷ with_one (is_among n ns) n ns
one_after k n ns l = after_by (nat_eq n k) (nat_lt n k) (is_among n ns) refl refl
  where
    after_by : (b c d : Bool) → nat_eq n k ≡ b → nat_lt n k ≡ c → cond (b || d) (k ∷ ns) (cond c (n ∷ k ∷ ns) (k ∷ with_number n ns)) ≡ k ∷ with_one d n ns
    after_by true c d e f = absurd (let x = eqb-true n k e in omega arith)
    after_by false true d e f = absurd (let x = ltb-true n k f in omega arith)
    after_by false false true e f = refl
    after_by false false false e f = refl

one_there : (n : ℕ) (ns : List ℕ) → with_one (is_among n (n ∷ ns)) n (n ∷ ns) ≡ n ∷ ns
one_there n ns = rw (eq-eqb n n refl) refl

numbers_after : (k : ℕ) (ms ns : List ℕ) → AllByRecursion (λ m. k < m) ms → with_numbers ms (k ∷ ns) ≡ k ∷ with_numbers ms ns
numbers_after k [] ns a = refl
numbers_after k (m ∷ ms) ns a = ap (λ (x : List ℕ). with_one (is_among m x) m x) (numbers_after k ms ns a.1) ∙ one_after k m (with_numbers ms ns) a.0

all_by : (P : ℕ → Type 0) (b : Bool) (n : ℕ) (ns : List ℕ) → P n → AllByRecursion P ns → AllByRecursion P (with_one b n ns)
all_by P true n ns p a = a
all_by P false n ns p a = all-with_number P n ns p a

pub all-with_numbers : (P : ℕ → Type 0) (ms ns : List ℕ) → AllByRecursion P ms → AllByRecursion P ns → AllByRecursion P (with_numbers ms ns)
all-with_numbers P [] ns a b = b
all-with_numbers P (m ∷ ms) ns a b = all_by P (is_among m (with_numbers ms ns)) m (with_numbers ms ns) a.0 (all-with_numbers P ms ns a.1 b)

-- ---- what the slots list

abbrev olds : List (ℕ × Logged) → List ℕ
olds ls = keys_of (filter (λ l. is_old l.1) ls)

all_by_old : (Q : ℕ → Type 0) (b : Bool) (l : ℕ × Logged) (ls : List (ℕ × Logged)) → Q l.0 → AllByRecursion Q (keys_of ls) → AllByRecursion Q (keys_of (cond b (l ∷ ls) ls))
all_by_old Q true l ls q a = (q, a)
all_by_old Q false l ls q a = a

all_olds : (Q : ℕ → Type 0) (ls : List (ℕ × Logged)) → AllByRecursion Q (keys_of ls) → AllByRecursion Q (olds ls)
all_olds Q [] a = tt
all_olds Q (l ∷ ls) a = all_by_old Q (is_old l.1) l (filter (λ l. is_old l.1) ls) a.0 (all_olds Q ls a.1)

module _ {P : Type 0} where
  -- with one slot more in front
  known_by : (k : ℕ) (o : Option (Option P)) (l : Logged) (es : List (ℕ × Option P)) (ls : List (ℕ × Logged)) → AllByRecursion (λ n. k < n) (keys_of es) → AllByRecursion (λ n. k < n) (olds ls)
      → with_numbers (olds (entry_if k (listed_state l) ++ ls)) (keys_of (entry_if k o ++ es)) ≡ cond (is_some o || is_old l) (k ∷ with_numbers (olds ls) (keys_of es)) (with_numbers (olds ls) (keys_of es))
  known_by k None No es ls a b = refl
  known_by k None Old es ls a b = one_first k (with_numbers (olds ls) (keys_of es)) (all-with_numbers (λ n. k < n) (olds ls) (keys_of es) b a)
  known_by k None (Upto n) es ls a b = refl
  known_by k (Some p) No es ls a b = numbers_after k (olds ls) (keys_of es) b
  known_by k (Some p) Old es ls a b =
      let e = numbers_after k (olds ls) (keys_of es) b in
      ap (λ (x : List ℕ). with_one (is_among k x) k x) e ∙ one_there k (with_numbers (olds ls) (keys_of es))
  known_by k (Some p) (Upto n) es ls a b = numbers_after k (olds ls) (keys_of es) b

  pick_by : (b : Bool) (s : TableSlot P) (ss : List (TableSlot P)) → slot_pids (cond b (s ∷ ss) ss) ≡ cond b (s.pid ∷ slot_pids ss) (slot_pids ss)
  pick_by true s ss = refl
  pick_by false s ss = refl

  -- the known pids of slots are those of their table
  pub known-table : (ss : List (TableSlot P)) → AreRisingPids (slot_pids ss) → known_pids ss ≡ pids_in_use_or_old (table_of ss)
  known-table [] r = refl
  known-table (s ∷ ss) r =
      let t = table_of ss in
      let used = keys-listing (λ (s : TableSlot P). s.pid) (λ s. listed_place s.page) (λ n. s.pid < n) ss r.0 in
      let logged = all_olds (λ n. s.pid < n) t.logged (keys-listing (λ (s : TableSlot P). s.pid) (λ s. listed_state (log_state s.logged)) (λ n. s.pid < n) ss r.0) in
      pick_by (is_known s) s (filter is_known ss)
      ∙ ap (λ (ns : List ℕ). cond (is_known s) (s.pid ∷ ns) ns) (known-table ss r.1)
      ∙ sym (known_by s.pid (listed_place s.page) (log_state s.logged) t.places t.logged used logged)

-- ---- the law

or_same : (b c : Bool) (m n : ℕ) (ns : List ℕ) → nat_eq m n ≡ b → is_among m ns ≡ c → is_among n ns ≡ true → c ≡ (b || c)
or_same true true m n ns e f h = refl
or_same true false m n ns e f h = let x = eqb-true m n e in let y : is_among m ns ≡ true = ap (λ (k : ℕ). is_among k ns) x ∙ h in absurd (cc)
or_same false c m n ns e f h = refl

among-with_one : (b : Bool) (m n : ℕ) (ns : List ℕ) → is_among n ns ≡ b → is_among m (with_one b n ns) ≡ (nat_eq m n || is_among m ns)
among-with_one true m n ns e = or_same (nat_eq m n) (is_among m ns) m n ns refl refl e
among-with_one false m n ns e = among-with_number m n ns

pub among-with_numbers : (k : ℕ) (ms ns : List ℕ) → is_among k (with_numbers ms ns) ≡ (is_among k ms || is_among k ns)
among-with_numbers k [] ns = refl
among-with_numbers k (m ∷ ms) ns =
    among-with_one (is_among m (with_numbers ms ns)) k m (with_numbers ms ns) refl
    ∙ ap (λ (b : Bool). nat_eq k m || b) (among-with_numbers k ms ns)
    ∙ or_grouped (nat_eq k m) (is_among k ms) (is_among k ns)

rising_by : (b : Bool) (n : ℕ) (ns : List ℕ) → is_among n ns ≡ b → AreRisingPids ns → AreRisingPids (with_one b n ns)
rising_by true n ns e r = r
rising_by false n ns e r = rising-with_number n ns r e

pub rising-with_numbers : (ms ns : List ℕ) → AreRisingPids ns → AreRisingPids (with_numbers ms ns)
rising-with_numbers [] ns r = r
rising-with_numbers (m ∷ ms) ns r = rising_by (is_among m (with_numbers ms ns)) m (with_numbers ms ns) refl (rising-with_numbers ms ns r)

pub rising-in_use_or_old : {P : Type 0} (t : Mapping P) → AreRisingPids (pids_in_use t) → AreRisingPids (pids_in_use_or_old t)
rising-in_use_or_old t r = rising-with_numbers (old_pids t) (pids_in_use t) r

old_here : (b c old : Bool) (k : ℕ) (l : ℕ × Logged) (os : List (ℕ × Logged)) (later : Option Logged) → is_eq (nat_cmp k l.0) ≡ b → nat_eq k l.0 ≡ c → is_old l.1 ≡ old
    → is_among k (keys_of os) ≡ is_old (or_no later) → (k ≡ l.0 → later ≡ None) → is_among k (keys_of (cond old (l ∷ os) os)) ≡ is_old (or_no (cond b (Some l.1) later))
old_here true true true k l os later e f g ih h = rw f (sym g)
old_here true true false k l os later e f g ih h =
    let none : later ≡ None = h (same_pid k l.0 (equal_by (nat_cmp k l.0) e)) in
    ih ∙ ap (λ (o : Option Logged). is_old (or_no o)) none ∙ sym g
old_here true false old k l os later e f g ih h = let x = eq-eqb k l.0 (same_pid k l.0 (equal_by (nat_cmp k l.0) e)) in absurd (cc)
old_here false true old k l os later e f g ih h = let x = is_eq_same k l.0 (eqb-true k l.0 f) in absurd (cc)
old_here false false true k l os later e f g ih h = rw f ih
old_here false false false k l os later e f g ih h = ih

pub among-old : (k : ℕ) (ls : List (ℕ × Logged)) → AreRisingPids (keys_of ls) → is_among k (keys_of (filter (λ l. is_old l.1) ls)) ≡ is_old (or_no (lookup (is_same_pid k) ls))
among-old k [] r = refl
among-old k (l ∷ ls) r =
    old_here (is_eq (nat_cmp k l.0)) (nat_eq k l.0) (is_old l.1) k l (filter (λ l. is_old l.1) ls) (lookup (is_same_pid k) ls) refl refl refl (among-old k ls r.1)
    (λ e. ap (λ (n : ℕ). lookup (is_same_pid n) ls) e ∙ lookup_none l.0 ls r.0)

-- a pid is among them exactly if it has a place, or the log has `Old` of it
pub among-in_use_or_old : {P : Type 0} (t : Mapping P) (k : ℕ) → AreRisingPids (keys_of t.logged) → is_among k (pids_in_use_or_old t) ≡ (is_some (place_of t k) || is_old (log_of t k))
among-in_use_or_old t k r =
    among-with_numbers k (old_pids t) (pids_in_use t)
    ∙ or_turned (is_among k (old_pids t)) (is_among k (pids_in_use t))
    ∙ ap (λ (b : Bool). b || is_among k (old_pids t)) (sym (among_place t k))
    ∙ ap (λ (b : Bool). is_some (place_of t k) || b) (among-old k t.logged r)
