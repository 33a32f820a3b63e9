-- Slots where some are marked as written.
use Rattle.std.specs.Prelude.{◌≡◌, ◌≢◌, ℕ, zero, suc, ◌<◌, Bool, true, false, cond, ◌||◌, nat_eq, List, [], ◌∷◌, ◌++◌, map, take, drop, set, get_or, length}
use Rattle.std.proofs.Common.{refl, sym, ap, ◌∙◌, arith, subst}
use mathlib.Core.Bool.{false≢true}
use Rattle.std.specs.List.{AllByRecursion}
use Rattle.std.proofs.lemmas.List.{take-append-drop}
use Rattle.std.proofs.lemmas.Bool.{eq-eqb, eqb-true}
use Rattle.index_page.specs.Page.{PageOfKind}
use Rattle.index_page.proofs.ListLemmas.{all-append}
use Rattle.mapping.specs.LogState.{log_state}
use Rattle.mapping.specs.Flushed.{marked_as_written, logged_then, slot_then, marked}
use Rattle.mapping.specs.FreshPids.{is_among}
use Rattle.mapping.specs.Due.{log_then, AreDue}
use Rattle.mapping.specs.Proper.{AreRisingPids}
use Rattle.mapping.specs.Slots.{slot_pids, listed_place, table_of, GoesTo, AreSlots}
use Rattle.mapping.specs.declared.logged.Logged as of_code
use Rattle.mapping.specs.declared.logged.Logged.TheVariants.{No, Old, Upto}
use Rattle.mapping.specs.declared.slots.TablePlace.{TablePlace}
use Rattle.mapping.specs.declared.slots.TablePlace.TheVariants.{Vacant, Away, Home}
use Rattle.mapping.specs.declared.slots.TableSlot.{TableSlot}
use Rattle.mapping.proofs.Listing.{IsSlot}
use Rattle.mapping.proofs.TableSlots.{place-slot, log-slot}
use Rattle.mapping.proofs.FlushedSlots.{table-then, slots-then}
use Rattle.mapping.proofs.DrawnPlaces.{among_last}

abbrev Slot : Type 0
Slot = TableSlot PageOfKind

-- ---- one slot

pid_by : (b : Bool) (s : Slot) → (cond b (slot_then s) s).pid ≡ s.pid
pid_by true s = refl
pid_by false s = refl

-- marked twice
twice_by : (a b : Bool) (s : Slot) → cond a (slot_then (cond b (slot_then s) s)) (cond b (slot_then s) s) ≡ cond (a || b) (slot_then s) s
twice_by true true s = refl
twice_by true false s = refl
twice_by false b s = refl

-- ---- several

pub pids-marked : (ss : List Slot) (pids : List ℕ) → slot_pids (marked ss pids) ≡ slot_pids ss
pids-marked [] pids = refl
pids-marked (s ∷ ss) pids =
    ap (λ (n : ℕ). n ∷ slot_pids (marked ss pids)) (pid_by (is_among s.pid pids) s)
    ∙ ap (λ (ns : List ℕ). s.pid ∷ ns) (pids-marked ss pids)

pub rising-marked : (ss : List Slot) (pids : List ℕ) → AreRisingPids (slot_pids ss) → AreRisingPids (slot_pids (marked ss pids))
rising-marked ss pids r = subst (λ (ns : List ℕ). AreRisingPids ns) (sym (pids-marked ss pids)) r

pub marked-none : (ss : List Slot) → marked ss [] ≡ ss
marked-none [] = refl
marked-none (s ∷ ss) = ap (λ (x : List Slot). s ∷ x) (marked-none ss)

or_false : (b : Bool) → (b || false) ≡ b
or_false true = refl
or_false false = refl

-- one pid more
more_by : (s : Slot) (pids : List ℕ) (k : ℕ) → cond (is_among (cond (is_among s.pid pids) (slot_then s) s).pid (k ∷ [])) (slot_then (cond (is_among s.pid pids) (slot_then s) s)) (cond (is_among s.pid pids) (slot_then s) s)
    ≡ cond (is_among s.pid (pids ++ k ∷ [])) (slot_then s) s
more_by s pids k =
    let b : Bool = is_among s.pid pids in
    ap (λ (n : ℕ). cond (is_among n (k ∷ [])) (slot_then (cond b (slot_then s) s)) (cond b (slot_then s) s)) (pid_by b s)
    ∙ ap (λ (c : Bool). cond c (slot_then (cond b (slot_then s) s)) (cond b (slot_then s) s)) (or_false (nat_eq s.pid k))
    ∙ twice_by (nat_eq s.pid k) b s
    ∙ ap (λ (c : Bool). cond c (slot_then s) s) (sym (among_last s.pid k pids))

pub marked-more : (ss : List Slot) (pids : List ℕ) (k : ℕ) → marked (marked ss pids) (k ∷ []) ≡ marked ss (pids ++ k ∷ [])
marked-more [] pids k = refl
marked-more (s ∷ ss) pids k =
    ap (λ (x : Slot). x ∷ marked (marked ss pids) (k ∷ [])) (more_by s pids k)
    ∙ ap (λ (x : List Slot). cond (is_among s.pid (pids ++ k ∷ [])) (slot_then s) s ∷ x) (marked-more ss pids k)

-- ---- one pid

apart_by : (b : Bool) (s : Slot) (k : ℕ) → nat_eq s.pid k ≡ b → s.pid ≢ k → cond (b || false) (slot_then s) s ≡ s
apart_by true s k e d = absurd (d (eqb-true s.pid k e))
apart_by false s k e d = refl

-- where no slot has the pid
marked-apart : (ss : List Slot) (k : ℕ) → AllByRecursion (λ n. n ≢ k) (slot_pids ss) → marked ss (k ∷ []) ≡ ss
marked-apart [] k a = refl
marked-apart (s ∷ ss) k a =
    ap (λ (x : Slot). x ∷ marked ss (k ∷ [])) (apart_by (nat_eq s.pid k) s k refl a.0)
    ∙ ap (λ (x : List Slot). s ∷ x) (marked-apart ss k a.1)

all_apart_above : (k : ℕ) (ns : List ℕ) → AllByRecursion (λ n. k < n) ns → AllByRecursion (λ n. n ≢ k) ns
all_apart_above k [] a = tt
all_apart_above k (n ∷ ns) a = ((λ e. let l = a.0 in omega arith), all_apart_above k ns a.1)

all_apart_below : (k : ℕ) (ns : List ℕ) → AllByRecursion (λ n. n < k) ns → AllByRecursion (λ n. n ≢ k) ns
all_apart_below k [] a = tt
all_apart_below k (n ∷ ns) a = ((λ e. let l = a.0 in omega arith), all_apart_below k ns a.1)

pub marked-gap : (ss : List Slot) (k i : ℕ) → GoesTo (slot_pids ss) k i → marked ss (k ∷ []) ≡ ss
marked-gap ss k i g =
    let apart = all-append (λ n. n ≢ k) (take i (slot_pids ss)) (drop i (slot_pids ss)) (all_apart_below k (take i (slot_pids ss)) g.below) (all_apart_above k (drop i (slot_pids ss)) g.above) in
    marked-apart ss k (subst (λ (ns : List ℕ). AllByRecursion (λ n. n ≢ k) ns) (take-append-drop i (slot_pids ss)) apart)

here_by : (b : Bool) (s : Slot) (k : ℕ) → nat_eq s.pid k ≡ b → s.pid ≡ k → cond (b || false) (slot_then s) s ≡ slot_then s
here_by true s k e same = refl
here_by false s k e same = absurd (false≢true (sym e ∙ eq-eqb s.pid k same))

below_found : (n : ℕ) (ss : List Slot) (i k : ℕ) (s : Slot) → AllByRecursion (λ m. n < m) (slot_pids ss) → i < length ss → (get_or ss i s).pid ≡ k → n < k
below_found n [] i k s a l e = absurd (omega arith)
below_found n (x ∷ xs) zero k s a l e = let y = a.0 in omega arith
below_found n (x ∷ xs) (suc i) k s a l e = below_found n xs i k s a.1 (omega arith) e

-- the slot of the pid
marked_at : (ss : List Slot) (i k : ℕ) (s : Slot) → AreRisingPids (slot_pids ss) → i < length ss → (get_or ss i s).pid ≡ k → set ss i (slot_then (get_or ss i s)) ≡ marked ss (k ∷ [])
marked_at [] i k s r l e = absurd (omega arith)
marked_at (x ∷ xs) zero k s r l e =
    let above : AllByRecursion (λ m. k < m) (slot_pids xs) = subst (λ (n : ℕ). AllByRecursion (λ m. n < m) (slot_pids xs)) e r.0 in
    ap (λ (y : Slot). y ∷ xs) (sym (here_by (nat_eq x.pid k) x k refl e))
    ∙ ap (λ (ys : List Slot). cond (nat_eq x.pid k || false) (slot_then x) x ∷ ys) (sym (marked-apart xs k (all_apart_above k (slot_pids xs) above)))
marked_at (x ∷ xs) (suc i) k s r l e =
    let below : x.pid < k = below_found x.pid xs i k s r.0 (omega arith) e in
    ap (λ (y : Slot). y ∷ set xs i (slot_then (get_or xs i s))) (sym (apart_by (nat_eq x.pid k) x k refl (λ same. omega arith)))
    ∙ ap (λ (ys : List Slot). cond (nat_eq x.pid k || false) (slot_then x) x ∷ ys) (marked_at xs i k s r.1 (omega arith) e)

pub marked-slot : (ss : List Slot) (i k : ℕ) (s : Slot) (l : of_code.Logged) → AreRisingPids (slot_pids ss) → IsSlot (λ s. s.pid) ss i k s → l ≡ logged_then s.page
    → set ss i (record { pid = s.pid; page = s.page; logged = l }) ≡ marked ss (k ∷ [])
marked-slot ss i k s l r h e =
    ap (λ (x : of_code.Logged). set ss i (record { pid = s.pid; page = s.page; logged = x })) e
    ∙ ap (λ (x : Slot). set ss i (slot_then x)) h.read
    ∙ marked_at ss i k s r h.within (ap (λ (x : Slot). x.pid) (sym h.read) ∙ h.pid_is)

-- ---- all that are due

same_log : (l : of_code.Logged) (p : TablePlace PageOfKind) → log_state l ≡ log_then (listed_place p) → logged_then p ≡ l
same_log No Vacant e = refl
same_log Old Vacant e = absurd (cc)
same_log (Upto n) Vacant e = absurd (cc)
same_log No Away e = refl
same_log Old Away e = absurd (cc)
same_log (Upto n) Away e = absurd (cc)
same_log No (Home p) e = absurd (cc)
same_log Old (Home p) e = absurd (cc)
same_log (Upto n) (Home p) e = cc

-- a slot with nothing due is as it is then
abbrev IsSaid : List ℕ → Slot → Type 0
IsSaid pids s = is_among s.pid pids ≡ false → logged_then s.page ≡ s.logged

joined_changes : (b : Bool) (s : Slot) (pids : List ℕ) → is_among s.pid pids ≡ b → IsSaid pids s → cond b (slot_then s) s ≡ slot_then s
joined_changes true s pids e h = refl
joined_changes false s pids e h = ap (λ (l : of_code.Logged). (let x : Slot = record { pid = s.pid; page = s.page; logged = l } in x)) (sym (h e))

marked-said : (ss : List Slot) (pids : List ℕ) → AllByRecursion (IsSaid pids) ss → marked ss pids ≡ map slot_then ss
marked-said [] pids a = refl
marked-said (s ∷ ss) pids a =
    ap (λ (x : Slot). x ∷ marked ss pids) (joined_changes (is_among s.pid pids) s pids refl a.0)
    ∙ ap (λ (x : List Slot). slot_then s ∷ x) (marked-said ss pids a.1)

at_each : {X : Type 0} (Q : X → Type 0) (xs : List X) → ((i : ℕ) (x : X) → i < length xs → x ≡ get_or xs i x → Q x) → AllByRecursion Q xs
at_each Q [] h = tt
at_each Q (x ∷ xs) h = (h 0 x (omega arith) refl, at_each Q xs (λ i y l e. h (suc i) y (omega arith) e))

module _ (ss : List Slot) (n : ℕ) (pids : List ℕ) (a : AreSlots ss n) (due : AreDue (table_of ss) pids) where
  said : AllByRecursion (IsSaid pids) ss
  said = at_each (IsSaid pids) ss (λ i s l e f.
      let here : IsSlot (λ s. s.pid) ss i s.pid s = record { within = l; read = e; pid_is = refl } in
      same_log s.logged s.page (sym (log-slot ss i s.pid s a.rising here) ∙ due s.pid f ∙ ap log_then (place-slot ss i s.pid s a.rising here)))

  -- those that are due are marked, so all are written
  pub marked-all : AreSlots (marked ss pids) n × (table_of (marked ss pids) ≡ marked_as_written (table_of ss))
  marked-all =
      let all = marked-said ss pids said in
      (subst (λ (x : List Slot). AreSlots x n) (sym all) (slots-then ss n a), ap table_of all ∙ table-then ss)
