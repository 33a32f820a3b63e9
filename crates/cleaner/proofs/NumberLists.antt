-- Lists that are made number by number from rising numbers; some numbers contribute nothing.
use Rattle.std.specs.Prelude.{◌≡◌, ℕ, ◌<◌, Bool, true, false, cond, ◌&&◌, ◌||◌, nat_eq, List, [], ◌∷◌, ◌++◌, flat_map}
use Rattle.std.proofs.Common.{refl, sym, ap, ◌∙◌}
use Rattle.std.specs.List.{AllByRecursion, filter}
use Rattle.std.proofs.lemmas.Bool.{eqb-true}
use Rattle.index_page.proofs.ListLemmas.{all-filter}
use Rattle.mapping.specs.FreshPids.{is_among}
use Rattle.mapping.specs.Proper.{AreRisingPids}
use Rattle.recovery.proofs.GatherLemmas.{same_rising}

-- ---- those that pass a test

rising_by : (b : Bool) (n : ℕ) (ns : List ℕ) → AllByRecursion (λ m. n < m) ns → AreRisingPids ns → AreRisingPids (cond b (n ∷ ns) ns)
rising_by true n ns a r = (a, r)
rising_by false n ns a r = r

filter-rising : (test : ℕ → Bool) (ns : List ℕ) → AreRisingPids ns → AreRisingPids (filter test ns)
filter-rising test [] r = tt
filter-rising test (n ∷ ns) r = rising_by (test n) n (filter test ns) (all-filter (λ m. n < m) test ns r.0) (filter-rising test ns r.1)

none_passes : (b : Bool) → (b && false) ≡ false
none_passes true = refl
none_passes false = refl

module _ (test : ℕ → Bool) where
  among_by : (b c : Bool) (k n : ℕ) (ns : List ℕ) → nat_eq k n ≡ c → test n ≡ b → is_among k (filter test ns) ≡ (is_among k ns && test k) → is_among k (cond b (n ∷ filter test ns) (filter test ns)) ≡ ((c || is_among k ns) && test k)
  among_by true true k n ns e t h = ap (λ (b : Bool). b || is_among k (filter test ns)) e ∙ sym (ap test (eqb-true k n e) ∙ t)
  among_by true false k n ns e t h = ap (λ (b : Bool). b || is_among k (filter test ns)) e ∙ h
  among_by false true k n ns e t h =
      let not : test k ≡ false = ap test (eqb-true k n e) ∙ t in
      h ∙ ap (λ (b : Bool). is_among k ns && b) not ∙ none_passes (is_among k ns) ∙ sym not
  among_by false false k n ns e t h = h

  among-filter : (k : ℕ) (ns : List ℕ) → is_among k (filter test ns) ≡ (is_among k ns && test k)
  among-filter k [] = refl
  among-filter k (n ∷ ns) = among_by (test n) (nat_eq k n) k n ns refl refl (among-filter k ns)

  module _ {X : Type 0} (g : ℕ → List X) (none : (k : ℕ) → test k ≡ false → g k ≡ []) where
    flat_by : (b : Bool) (n : ℕ) (ns : List ℕ) → test n ≡ b → flat_map g (filter test ns) ≡ flat_map g ns → flat_map g (cond b (n ∷ filter test ns) (filter test ns)) ≡ flat_map g (n ∷ ns)
    flat_by true n ns t h = ap (λ (xs : List X). g n ++ xs) h
    flat_by false n ns t h = h ∙ sym (ap (λ (xs : List X). xs ++ flat_map g ns) (none n t))

    -- those that make nothing can be left out
    flat-filter : (ns : List ℕ) → flat_map g (filter test ns) ≡ flat_map g ns
    flat-filter [] = refl
    flat-filter (n ∷ ns) = flat_by (test n) n ns refl (flat-filter ns)

-- ---- two lists

and_turned : (b c : Bool) → (b && c) ≡ (c && b)
and_turned true true = refl
and_turned true false = refl
and_turned false true = refl
and_turned false false = refl

-- two rising lists make the same if a number that is missing in one of them makes nothing
pub same-made : {X : Type 0} (g : ℕ → List X) (ms ns : List ℕ) → AreRisingPids ms → AreRisingPids ns → ((k : ℕ) → is_among k ms ≡ false → g k ≡ []) → ((k : ℕ) → is_among k ns ≡ false → g k ≡ []) → flat_map g ms ≡ flat_map g ns
same-made g ms ns r s none other =
    let in_ms : ℕ → Bool = λ k. is_among k ms in
    let in_ns : ℕ → Bool = λ k. is_among k ns in
    let same : filter in_ns ms ≡ filter in_ms ns =
    same_rising (filter in_ns ms) (filter in_ms ns) (filter-rising in_ns ms r) (filter-rising in_ms ns s) (λ k. among-filter in_ns k ms ∙ and_turned (is_among k ms) (is_among k ns) ∙ sym (among-filter in_ms k ns)) in
    sym (flat-filter in_ns g other ms) ∙ ap (λ (ks : List ℕ). flat_map g ks) same ∙ flat-filter in_ms g none ns

-- the same of what equals it at each number
pub flat-same : {X : Type 0} (f g : ℕ → List X) (ns : List ℕ) → ((n : ℕ) → f n ≡ g n) → flat_map f ns ≡ flat_map g ns
flat-same f g [] same = refl
flat-same {X} f g (n ∷ ns) same = ap (λ (xs : List X). xs ++ flat_map f ns) (same n) ∙ ap (λ (xs : List X). g n ++ xs) (flat-same f g ns same)
