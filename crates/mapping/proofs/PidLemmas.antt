-- Lemmas on pids, used and unused, for the proofs of this crate and of those above it.
use Rattle.std.specs.Prelude.{◌≡◌, ◌≢◌, ℕ, zero, suc, ◌<◌, ◌≤◌, ◌⊎◌, Bool, true, false, cond, ◌||◌, nat_lt, nat_le, nat_eq, List, [], ◌∷◌, ◌++◌}
use Rattle.std.proofs.Common.{refl, sym, ap, ◌∙◌, arith, leb-true, leb-false, ltb-true, ltb-false, inl, inr}
use Rattle.std.specs.List.{AllByRecursion}
use Rattle.std.proofs.lemmas.Bool.{cases_lt, eq-eqb, eqb-true, eqb-false, or_parts}
use Rattle.keys.proofs.Basics.{or_swapped}
use Rattle.mapping.specs.FreshPids.{is_among, unused, IsNeverUnused, with_number}
use Rattle.mapping.specs.Proper.{AreRisingPids}

-- ---- among others

pub or_true_right : (a : Bool) → (a || true) ≡ true
or_true_right true = refl
or_true_right false = refl

pub later_among : (m n : ℕ) (ns : List ℕ) → is_among m ns ≡ true → is_among m (n ∷ ns) ≡ true
later_among m n ns h = ap (λ (b : Bool). nat_eq m n || b) h ∙ or_true_right (nat_eq m n)

later_all_among : (n : ℕ) (ms ns : List ℕ) → AllByRecursion (λ m. is_among m ns ≡ true) ms → AllByRecursion (λ m. is_among m (n ∷ ns) ≡ true) ms
later_all_among n [] ns h = tt
later_all_among n (m ∷ ms) ns h = (later_among m n ns h.0, later_all_among n ms ns h.1)

-- each of a list is among it
pub all_among : (ns : List ℕ) → AllByRecursion (λ n. is_among n ns ≡ true) ns
all_among [] = tt
all_among (n ∷ ns) = (ap (λ (b : Bool). b || is_among n ns) (eq-eqb n n refl), later_all_among n ns ns (all_among ns))

-- a number that isn't among joined lists is among neither
pub among_apart : (n : ℕ) (ms ns : List ℕ) → is_among n (ms ++ ns) ≡ false → (is_among n ms ≡ false) × (is_among n ns ≡ false)
among_apart n [] ns h = (refl, h)
among_apart n (m ∷ ms) ns h =
    let first = or_parts (nat_eq n m) (is_among n (ms ++ ns)) h in
    let rest = among_apart n ms ns first.1 in
    (ap (λ (b : Bool). b || is_among n ms) first.0 ∙ rest.0, rest.1)

-- and one that is among them is among one of them
pub among_either_by : (a b : Bool) → (a || b) ≡ true → (a ≡ true) ⊎ (b ≡ true)
among_either_by true b h = inl refl
among_either_by false b h = inr h

pub among_either : (n : ℕ) (ms ns : List ℕ) → is_among n (ms ++ ns) ≡ true → (is_among n ms ≡ true) ⊎ (is_among n ns ≡ true)
among_either n [] ns h = inr h
among_either n (m ∷ ms) ns h =
    elim (among_either_by (nat_eq n m) (is_among n (ms ++ ns)) h) [
      | inl a ↦ inl (ap (λ (b : Bool). b || is_among n ms) a)
      | inr b ↦ elim (among_either n ms ns b) [ inl c ↦ inl (later_among n m ms c) | inr c ↦ inr c ]
    ]

pub among_left : (n : ℕ) (ms ns : List ℕ) → is_among n ms ≡ true → is_among n (ms ++ ns) ≡ true
among_left n [] ns h = absurd (cc)
among_left n (m ∷ ms) ns h =
    elim (among_either_by (nat_eq n m) (is_among n ms) h) [
      | inl a ↦ ap (λ (b : Bool). b || is_among n (ms ++ ns)) a
      | inr b ↦ later_among n m (ms ++ ns) (among_left n ms ns b)
    ]

pub among_right : (n : ℕ) (ms ns : List ℕ) → is_among n ns ≡ true → is_among n (ms ++ ns) ≡ true
among_right n [] ns h = h
among_right n (m ∷ ms) ns h = later_among n m (ms ++ ns) (among_right n ms ns h)

-- ---- unused numbers

rise_by : (b c : Bool) (u m n : ℕ) → nat_le u m ≡ b → nat_le u n ≡ c → m < n → cond b (suc m) m < cond c (suc n) n
rise_by true true u m n p q h = omega arith
rise_by true false u m n p q h = absurd (omega (arith, leb-true, leb-false))
rise_by false true u m n p q h = omega arith
rise_by false false u m n p q h = h

-- later ones are greater
pub unused-rises : (us : List ℕ) (m n : ℕ) → m < n → unused us m < unused us n
unused-rises [] m n h = h
unused-rises (u ∷ us) m n h = unused-rises us (cond (nat_le u m) (suc m) m) (cond (nat_le u n) (suc n) n) (rise_by (nat_le u m) (nat_le u n) u m n refl refl h)

at_least_by : (b : Bool) (m : ℕ) → m ≤ cond b (suc m) m
at_least_by true m = omega arith
at_least_by false m = omega arith

at_least : (us : List ℕ) (m : ℕ) → m ≤ unused us m
at_least [] m = omega arith
at_least (u ∷ us) m =
    let a = at_least_by (nat_le u m) m in
    let b = at_least us (cond (nat_le u m) (suc m) m) in
    omega arith

stays_by : (b : Bool) (u m : ℕ) → nat_le u m ≡ b → m < u → cond b (suc m) m ≡ m
stays_by true u m e h = absurd (omega (arith, leb-true))
stays_by false u m e h = refl

-- a number below all used ones is its own place
stays : (us : List ℕ) (m : ℕ) → AllByRecursion (λ u. m < u) us → unused us m ≡ m
stays [] m h = refl
stays (u ∷ us) m h = ap (λ (n : ℕ). unused us n) (stays_by (nat_le u m) u m refl h.0) ∙ stays us m h.1

pub below_later : (m n : ℕ) (ns : List ℕ) → m < n → AllByRecursion (λ k. n < k) ns → AllByRecursion (λ k. m < k) ns
below_later m n [] h a = tt
below_later m n (k ∷ ks) h a = (let x = a.0 in omega arith, below_later m n ks h a.1)

first_is_used : (b : Bool) (u : ℕ) (us : List ℕ) (m : ℕ) → nat_le u m ≡ b → AllByRecursion (λ v. u < v) us → u ≡ unused us (cond b (suc m) m) → ⊥
first_is_used true u us m e a h = let x = at_least us (suc m) in let l : u ≤ m = leb-true u m e in omega arith
first_is_used false u us m e a h =
    let l : m < u = leb-false u m e in
    let s : unused us m ≡ m = stays us m (below_later m u us l a) in
    omega arith

later_never : (u : ℕ) (us ns : List ℕ) → AllByRecursion (IsNeverUnused us) ns → AllByRecursion (IsNeverUnused (u ∷ us)) ns
later_never u us [] h = tt
later_never u us (n ∷ ns) h = (λ m e. h.0 (cond (nat_le u m) (suc m) m) e, later_never u us ns h.1)

-- no used number is unused
pub used_is_never_unused : (used : List ℕ) → AreRisingPids used → AllByRecursion (IsNeverUnused used) used
used_is_never_unused [] r = tt
used_is_never_unused (u ∷ us) r = (λ m e. first_is_used (nat_le u m) u us m refl r.0 e, later_never u us us (used_is_never_unused us r.1))

-- ---- free numbers

or_false : (a b : Bool) → a ≡ false → b ≡ false → (a || b) ≡ false
or_false true b h k = absurd (cc)
or_false false b h k = k

differ_by : (b : Bool) (m n : ℕ) → nat_eq m n ≡ b → m ≢ n → b ≡ false
differ_by true m n e h = absurd (h (eqb-true m n e))
differ_by false m n e h = refl

not_among_those : (n : ℕ) (used ns : List ℕ) (at : ℕ) → n ≡ unused used at → AllByRecursion (IsNeverUnused used) ns → is_among n ns ≡ false
not_among_those n used [] at e h = refl
not_among_those n used (m ∷ ms) at e h =
    or_false (nat_eq n m) (is_among n ms) (differ_by (nat_eq n m) n m refl (λ s. h.0 at (sym s ∙ e))) (not_among_those n used ms at e h.1)

-- an unused number isn't among the used ones
pub unused-is_free : (used : List ℕ) (n : ℕ) → AreRisingPids used → is_among (unused used n) used ≡ false
unused-is_free used n r = not_among_those (unused used n) used used n refl (used_is_never_unused used r)

apart_le : (u n : ℕ) → u ≤ n → u ≢ n → u < n
apart_le u n l d = le_by (cases_lt u n)
  where
    le_by : (u < n) ⊎ (n ≤ u) → u < n
    le_by (inl k) = k
    le_by (inr k) = absurd (d (omega arith))

-- the place before the first used number is counted, of a later place
step_back : (u at n : ℕ) → ((b : Bool) → nat_le u n ≡ b → at < cond b (suc n) n) → u ≢ at → (m : ℕ) × (m < n) × (cond (nat_le u m) (suc m) m ≡ at)
step_back u at n h d = back_by (cases_lt at u) (nat_le u n) refl
  where
    below_first : (c : Bool) → nat_le u at ≡ c → at < u → cond c (suc at) at ≡ at
    below_first true e l = absurd (omega (arith, leb-true))
    below_first false e l = refl

    after_first : (m : ℕ) (c : Bool) → nat_le u m ≡ c → u ≤ m → cond c (suc m) m ≡ suc m
    after_first m true e l = refl
    after_first m false e l = absurd (let x = leb-false u m e in omega arith)

    small : (b : Bool) → nat_le u n ≡ b → at < cond b (suc n) n → at < u → at < n
    small true e l k = let x = leb-true u n e in omega arith
    small false e l k = l

    less : (m : ℕ) (b : Bool) → nat_le u n ≡ b → suc m < cond b (suc n) n → u ≤ m → m < n
    less m true e l k = omega arith
    less m false e l k = omega arith

    at_later : (k : ℕ) → k ≡ at → u < k → (b : Bool) → nat_le u n ≡ b → at < cond b (suc n) n → (m : ℕ) × (m < n) × (cond (nat_le u m) (suc m) m ≡ at)
    at_later zero e l b f x = absurd (omega arith)
    at_later (suc m) e l b f x =
        (m, less m b f (rw e x) (omega arith), after_first m (nat_le u m) refl (omega arith) ∙ e)

    back_by : (at < u) ⊎ (u ≤ at) → (b : Bool) → nat_le u n ≡ b → (m : ℕ) × (m < n) × (cond (nat_le u m) (suc m) m ≡ at)
    back_by (inl l) b e = (at, small b e (h b e) l, below_first (nat_le u at) refl l)
    back_by (inr l) b e = at_later at refl (let x : u ≢ at = d in apart_le u at l x) b e (h b e)

-- a number other than one below all used ones is at another place than that one
own_place : (u : ℕ) (us : List ℕ) (k at : ℕ) → AllByRecursion (λ v. u < v) us → nat_eq k u ≡ false → k ≡ unused us at → u ≢ at
own_place u us k at r d h e = eqb-false k u d (h ∙ ap (λ (x : ℕ). unused us x) (sym e) ∙ stays us u r)

-- each free number below an unused one is unused at an earlier place
pub unused-leaves_none : (used : List ℕ) (n k : ℕ) → AreRisingPids used → is_among k used ≡ false → k < unused used n → (m : ℕ) × (m < n) × (k ≡ unused used m)
unused-leaves_none [] n k r f h = (k, h, refl)
unused-leaves_none (u ∷ us) n k r f h =
    let apart = or_parts (nat_eq k u) (is_among k us) f in
    let rest = unused-leaves_none us (cond (nat_le u n) (suc n) n) k r.1 apart.1 h in
    let differ : u ≢ rest.0 = own_place u us k rest.0 r.0 apart.0 rest.2 in
    let back = step_back u rest.0 n (λ b e. rw (sym e) rest.1) differ in
    (back.0, back.1, rest.2 ∙ ap (λ (x : ℕ). unused us x) (sym back.2))

-- ---- one more number in use

module _ (us : List ℕ) where
  counted : (b : Bool) (u m : ℕ) → nat_le u m ≡ b → u ≤ m → unused us (cond b (suc m) m) ≡ unused us (suc m)
  counted true u m e l = refl
  counted false u m e l = absurd (let x = leb-false u m e in omega arith)

  -- a used number that isn't above the place is counted
  unused-counted : (u m : ℕ) → u ≤ m → unused (u ∷ us) m ≡ unused us (suc m)
  unused-counted u m l = counted (nat_le u m) u m refl l

placed_by : (b : Bool) (n u : ℕ) (us : List ℕ) (m : ℕ) → nat_lt n u ≡ b → n < u → unused (cond b (n ∷ u ∷ us) (u ∷ with_number n us)) m ≡ unused (n ∷ u ∷ us) m
placed_by true n u us m e l = refl
placed_by false n u us m e l = absurd (let x = ltb-false n u e in omega arith)

after_by : (b : Bool) (n u : ℕ) (us : List ℕ) (m : ℕ) → nat_lt n u ≡ b → u ≤ n → unused (cond b (n ∷ u ∷ us) (u ∷ with_number n us)) m ≡ unused (u ∷ with_number n us) m
after_by true n u us m e l = absurd (let x = ltb-true n u e in omega arith)
after_by false n u us m e l = refl

drawn_by : (b : Bool) (u : ℕ) (us : List ℕ) (n m : ℕ) → nat_le u n ≡ b → AreRisingPids (u ∷ us) → n ≤ m → ((k : ℕ) → k ≤ suc m → unused (with_number (unused us k) us) (suc m) ≡ unused us (suc (suc m)))
    → unused (with_number (unused us (cond b (suc n) n)) (u ∷ us)) m ≡ unused (u ∷ us) (suc m)
drawn_by true u us n m e r l ih =
    let below : u ≤ n = leb-true u n e in
    let more = at_least us (suc n) in
    after_by (nat_lt (unused us (suc n)) u) (unused us (suc n)) u us m refl (omega arith)
    ∙ unused-counted (with_number (unused us (suc n)) us) u m (omega arith)
    ∙ ih (suc n) (omega arith)
    ∙ sym (unused-counted us u (suc m) (omega arith))
drawn_by false u us n m e r l ih =
    let above : n < u = leb-false u n e in
    let own : unused us n ≡ n = stays us n (below_later n u us above r.0) in
    ap (λ (k : ℕ). unused (with_number k (u ∷ us)) m) own
    ∙ placed_by (nat_lt n u) n u us m refl above
    ∙ unused-counted (u ∷ us) n m l

-- after a number is taken into use, those after it are one place nearer
pub unused-drawn : (used : List ℕ) (n m : ℕ) → AreRisingPids used → n ≤ m → unused (with_number (unused used n) used) m ≡ unused used (suc m)
unused-drawn [] n m r l = unused-counted [] n m l
unused-drawn (u ∷ us) n m r l = drawn_by (nat_le u n) u us n m refl r l (λ k h. unused-drawn us k (suc m) r.1 h)

above_by : (P : ℕ → Type 0) (b : Bool) (n u : ℕ) (us rest : List ℕ) → P n → P u → AllByRecursion P us → AllByRecursion P rest → AllByRecursion P (cond b (n ∷ u ∷ us) (u ∷ rest))
above_by P true n u us rest p q a r = (p, (q, a))
above_by P false n u us rest p q a r = (q, r)

-- what holds of each number, and of the one more, holds of each afterwards
pub all-with_number : (P : ℕ → Type 0) (n : ℕ) (us : List ℕ) → P n → AllByRecursion P us → AllByRecursion P (with_number n us)
all-with_number P n [] p a = (p, tt)
all-with_number P n (u ∷ us) p a = above_by P (nat_lt n u) n u us (with_number n us) p a.0 a.1 (all-with_number P n us p a.1)

rising_by : (b : Bool) (n u : ℕ) (us : List ℕ) → nat_lt n u ≡ b → nat_eq n u ≡ false → AreRisingPids (u ∷ us) → AreRisingPids (with_number n us) → AreRisingPids (cond b (n ∷ u ∷ us) (u ∷ with_number n us))
rising_by true n u us e d r ih = let l : n < u = ltb-true n u e in ((l, below_later n u us l r.0), r)
rising_by false n u us e d r ih =
    let no_less : u ≤ n = ltb-false n u e in
    let apart : n ≢ u = eqb-false n u d in
    (all-with_number (λ m. u < m) n us (omega arith) r.0, ih)

-- with one more that isn't among them, rising numbers rise
pub rising-with_number : (n : ℕ) (used : List ℕ) → AreRisingPids used → is_among n used ≡ false → AreRisingPids (with_number n used)
rising-with_number n [] r f = (tt, tt)
rising-with_number n (u ∷ us) r f =
    let p = or_parts (nat_eq n u) (is_among n us) f in
    rising_by (nat_lt n u) n u us refl p.0 r (rising-with_number n us r.1 p.1)

among_by : (b : Bool) (m n u : ℕ) (us rest : List ℕ) → is_among m rest ≡ (nat_eq m n || is_among m us) → is_among m (cond b (n ∷ u ∷ us) (u ∷ rest)) ≡ (nat_eq m n || is_among m (u ∷ us))
among_by true m n u us rest h = refl
among_by false m n u us rest h = ap (λ (x : Bool). nat_eq m u || x) h ∙ or_swapped (nat_eq m u) (nat_eq m n) (is_among m us)

-- and among them are those that were, and that one
pub among-with_number : (m n : ℕ) (used : List ℕ) → is_among m (with_number n used) ≡ (nat_eq m n || is_among m used)
among-with_number m n [] = refl
among-with_number m n (u ∷ us) = among_by (nat_lt n u) m n u us (with_number n us) (among-with_number m n us)
