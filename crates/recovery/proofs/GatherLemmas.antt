-- Numbers that are looked up by their order, and lists of them that rise.
use Rattle.std.proofs.Common.{◌≡◌, ℕ, suc, ◌+◌, ◌<◌, nat_lt, get_or, arith, Bool, true, false, cond, ◌||◌, nat_eq, List, [], ◌∷◌, ◌++◌, Option, Some, is_some, refl, sym, ap, subst, ◌∙◌, Less, Equal, Greater}
use Rattle.std.specs.Cmp.{nat_cmp_is}
use Rattle.std.specs.List.{AllByRecursion}
use Rattle.std.specs.List.Sorted.{IsStrictlySortedBy, IsStrictlyIncreasing}
use Rattle.std.specs.Map.{keys_of, lookup}
use Rattle.std.specs.Ordering.{nat_cmp, is_eq}
use Rattle.std.proofs.lemmas.Map.Keys.{IsStrictlyIncreasing-from_sorted}
use Rattle.std.proofs.lemmas.Bool.{eqb-true, eq-eqb, ne_eqb, ltb-true, ltb-false}
use Rattle.mapping.specs.FreshPids.{is_among}
use Rattle.mapping.specs.Proper.{AreRisingPids}

-- ---- numbers looked up by their order

pub same_at : (m n : ℕ) → is_eq (nat_cmp m n) ≡ nat_eq m n
same_at m n = of (nat_lt m n) (nat_lt n m) refl refl
  where
    of : (b c : Bool) → nat_lt m n ≡ b → nat_lt n m ≡ c → is_eq (nat_cmp m n) ≡ nat_eq m n
    of true c e f = let less = ltb-true m n e in ap is_eq (sym (nat_cmp_is m n Less less)) ∙ sym (ne_eqb m n (λ same. omega (arith, same, less)))
    of false true e f = let more = ltb-true n m f in ap is_eq (sym (nat_cmp_is m n Greater more)) ∙ sym (ne_eqb m n (λ same. omega (arith, same, more)))
    of false false e f =
        let not_less = ltb-false m n e in
        let not_more = ltb-false n m f in
        let same : m ≡ n = omega (arith, not_less, not_more) in
        ap is_eq (sym (nat_cmp_is m n Equal same)) ∙ sym (eq-eqb m n same)

pub lookup-same : {V : Type 0} (n : ℕ) (es : List (ℕ × V)) → lookup (λ k. is_eq (nat_cmp n k)) es ≡ lookup (nat_eq n) es
lookup-same n [] = refl
lookup-same {V} n ((k, v) ∷ es) =
    let found : Option V = Some v in
    ap (λ (b : Bool). cond b found (lookup (λ k. is_eq (nat_cmp n k)) es)) (same_at n k) ∙ ap (λ (o : Option V). cond (nat_eq n k) found o) (lookup-same n es)

-- ---- a number among numbers

or_none : (b : Bool) → (b || false) ≡ b
or_none true = refl
or_none false = refl

among_by : (b : Bool) (n p : ℕ) (ns : List ℕ) → is_among n (ns ++ p ∷ []) ≡ (is_among n ns || nat_eq n p) → (b || is_among n (ns ++ p ∷ [])) ≡ ((b || is_among n ns) || nat_eq n p)
among_by true n p ns e = refl
among_by false n p ns e = e

pub among_more : (n p : ℕ) (ns : List ℕ) → is_among n (ns ++ p ∷ []) ≡ (is_among n ns || nat_eq n p)
among_more n p [] = or_none (nat_eq n p)
among_more n p (m ∷ ns) = among_by (nat_eq n m) n p ns (among_more n p ns)

pub same_turned : (b c : Bool) (m n : ℕ) → nat_eq m n ≡ b → nat_eq n m ≡ c → b ≡ c
same_turned true true m n e h = refl
same_turned false false m n e h = refl
same_turned true false m n e h = let x = eq-eqb n m (sym (eqb-true m n e)) in absurd (cc)
same_turned false true m n e h = let x = eq-eqb m n (sym (eqb-true n m h)) in absurd (cc)

-- ---- all pids, in order

strict_tail : (n : ℕ) (ns : List ℕ) → IsStrictlyIncreasing (n ∷ ns) → IsStrictlyIncreasing ns
strict_tail n ns s k h =
    let on : suc k + 1 ≡ suc (k + 1) = omega arith in
    let next : get_or (n ∷ ns) (suc k) 0 < get_or (n ∷ ns) (suc (k + 1)) 0 = subst (λ (j : ℕ). get_or (n ∷ ns) (suc k) 0 < get_or (n ∷ ns) j 0) on (s (suc k) (omega (arith, h))) in
    next

all_above : (n m : ℕ) (ns : List ℕ) → n < m → AllByRecursion (λ k. m < k) ns → AllByRecursion (λ k. n < k) ns
all_above n m [] h a = tt
all_above n m (k ∷ ns) h a = (let one = a.0 in omega (arith, h, one), all_above n m ns h a.1)

rising : (ns : List ℕ) → IsStrictlyIncreasing ns → AreRisingPids ns
rising [] s = tt
rising (n ∷ []) s = (tt, tt)
rising (n ∷ m ∷ ns) s =
    let later = rising (m ∷ ns) (strict_tail n (m ∷ ns) s) in
    let first : n < m = s 0 (omega arith) in
    ((first, all_above n m ns first later.0), later)

pub none_above : (k : ℕ) (ns : List ℕ) → AllByRecursion (λ m. k < m) ns → is_among k ns ≡ false
none_above k [] a = refl
none_above k (m ∷ ns) a = (let above = a.0 in ap (λ (b : Bool). b || is_among k ns) (ne_eqb k m (λ e. omega (arith, e, above)))) ∙ none_above k ns a.1

pub there : (m : ℕ) (ms : List ℕ) → is_among m (m ∷ ms) ≡ true
there m ms = ap (λ (b : Bool). b || is_among m ms) (eq-eqb m m refl)

-- rising lists with the same numbers are the same
pub same_rising : (ms ns : List ℕ) → AreRisingPids ms → AreRisingPids ns → ((k : ℕ) → is_among k ms ≡ is_among k ns) → ms ≡ ns
same_rising [] [] r s h = refl
same_rising [] (n ∷ ns) r s h = let e : false ≡ true = h n ∙ there n ns in absurd (cc)
same_rising (m ∷ ms) [] r s h = let e : true ≡ false = sym (there m ms) ∙ h m in absurd (cc)
same_rising (m ∷ ms) (n ∷ ns) r s h = of (nat_lt m n) (nat_lt n m) refl refl (λ tails. same_rising ms ns r.1 s.1 tails)
  where
    tail_by : (b : Bool) (k : ℕ) → m ≡ n → nat_eq k m ≡ b → is_among k ms ≡ is_among k ns
    tail_by true k same e =
        let is = eqb-true k m e in
        let here : is_among k ms ≡ false = subst (λ (j : ℕ). is_among j ms ≡ false) (sym is) (none_above m ms r.0) in
        let other : is_among k ns ≡ false = subst (λ (j : ℕ). is_among j ns ≡ false) (sym (is ∙ same)) (none_above n ns s.0) in
        here ∙ sym other
    tail_by false k same e =
        ap (λ (b : Bool). b || is_among k ms) (sym e) ∙ h k ∙ ap (λ (j : ℕ). nat_eq k j || is_among k ns) (sym same) ∙ ap (λ (b : Bool). b || is_among k ns) e

    of : (b c : Bool) → nat_lt m n ≡ b → nat_lt n m ≡ c → (((k : ℕ) → is_among k ms ≡ is_among k ns) → ms ≡ ns) → m ∷ ms ≡ n ∷ ns
    of true c e f rest =
        let less = ltb-true m n e in
        let none : is_among m (n ∷ ns) ≡ false = none_above m (n ∷ ns) (less, all_above m n ns less s.0) in
        let both : true ≡ false = sym (there m ms) ∙ h m ∙ none in
        absurd (cc)
    of false true e f rest =
        let less = ltb-true n m f in
        let none : is_among n (m ∷ ms) ≡ false = none_above n (m ∷ ms) (less, all_above n m ms less r.0) in
        let both : true ≡ false = sym (there n ns) ∙ sym (h n) ∙ none in
        absurd (cc)
    of false false e f rest =
        let not_less = ltb-false m n e in
        let not_more = ltb-false n m f in
        let same : m ≡ n = omega (arith, not_less, not_more) in
        ap (λ (k : ℕ). k ∷ ms) same ∙ ap (λ (ks : List ℕ). n ∷ ks) (rest (λ k. tail_by (nat_eq k m) k same refl))

-- ---- numbers that have something

among_by_found : {V : Type 0} (b : Bool) (n k : ℕ) (v : V) (es : List (ℕ × V)) → nat_eq n k ≡ b → is_among n (keys_of es) ≡ is_some (lookup (nat_eq n) es)
    → (nat_eq n k || is_among n (keys_of es)) ≡ is_some (lookup (nat_eq n) ((k, v) ∷ es))
among_by_found true n k v es e h = rw e refl
among_by_found false n k v es e h = rw e h

pub among_found : {V : Type 0} (n : ℕ) (es : List (ℕ × V)) → is_among n (keys_of es) ≡ is_some (lookup (nat_eq n) es)
among_found n [] = refl
among_found n ((k, v) ∷ es) = among_by_found (nat_eq n k) n k v es refl (among_found n es)

-- sorted pids rise
pub keys-rise : (ns : List ℕ) → IsStrictlySortedBy nat_cmp ns → AreRisingPids ns
keys-rise ns sorted = rising ns (IsStrictlyIncreasing-from_sorted ns sorted)
