-- Each test of `Rules` passes if and only if its fact holds: for the proofs of this crate and of those above it.
use Rattle.std.specs.Prelude.{◌≡◌, ℕ, ◌≤◌, Bool, true, false, not, ◌&&◌, nat_lt, nat_le, ◌↔◌, List, [], ◌∷◌, Option, Some, None, length}
use Rattle.std.proofs.Common.{refl, Decides, le-leb, leb-true}
use Rattle.std.proofs.lemmas.Bool.Decides.{Decides-and, Decides-like, Decides-ltb}
use Rattle.std.specs.declared.cmp.Ordering.{Ordering}
use Rattle.std.specs.declared.cmp.Ordering.TheVariants.{Less, Equal, Greater}
use Rattle.std.specs.Ordering.{is_lt}
use Rattle.std.specs.List.{AllByRecursion, list_all}
use Rattle.std.specs.List.Sorted.{IsStrictlySortedBy}
use Rattle.std.specs.Map.{keys_of}
use Rattle.keys.specs.Order.{order, AreRisingKeys}
use Rattle.keys.proofs.MapLemmas.{below_all, is_itself, passes_same}
use Rattle.keys.specs.declared.settings.Settings.{Settings}
use Rattle.delta_chain.specs.Layers.{AllRise}
use Rattle.index_page.specs.Page.{Page, entries, first_key, said, named}
use Rattle.index_page.specs.Range.{is_below, is_before, is_within, AreFrom, AreBefore}
use Rattle.index_page.specs.Rules.{KeepsRange, do_rise, all_rise, keeps_range, IsShortValue, IsAnyPid, is_short_value, is_any_pid, OfCell, of_cell, IsShortChange, is_short_change, IsRunSized, is_run_sized, Fits, fits_sizes, fits_depth, IsHeaded, is_same_key, is_headed}

-- ---- tests that are made of others

pub decides_not : (b : Bool) → Decides (not b) (b ≡ false)
decides_not true = (λ h. absurd (cc), λ h. absurd (cc))
decides_not false = (λ h. refl, λ h. refl)

-- a test of all is the fact of each
pub decides_all : {X : Type 0} (test : X → Bool) (P : X → Type 0) → ((x : X) → Decides (test x) (P x))
    → (xs : List X) → Decides (list_all test xs) (AllByRecursion P xs)
decides_all test P d [] = (λ h. tt, λ h. refl)
decides_all test P d (x ∷ xs) = Decides-and (test x) (list_all test xs) (d x) (decides_all test P d xs)

-- two facts of each are each fact of all
pub all_both : {X : Type 0} (P Q : X → Type 0) (xs : List X) → AllByRecursion (λ x. P x × Q x) xs ↔ (AllByRecursion P xs × AllByRecursion Q xs)
all_both P Q [] = (λ a. (tt, tt), λ a. tt)
all_both P Q (x ∷ xs) =
    let rest = all_both P Q xs in
    (λ a. (((a.0).0, (rest.0 a.1).0), ((a.0).1, (rest.0 a.1).1)), λ a. (((a.0).0, (a.1).0), rest.1 ((a.0).1, (a.1).1)))

pub decides_le : (m n : ℕ) → Decides (nat_le m n) (m ≤ n)
decides_le m n = (leb-true m n, le-leb m n)

decides_less : (o : Ordering) → Decides (is_lt o) (o ≡ Less)
decides_less Less = (λ h. refl, λ h. refl)
decides_less Equal = (λ h. absurd (cc), λ h. absurd (cc))
decides_less Greater = (λ h. absurd (cc), λ h. absurd (cc))

-- ---- keys

pub decides-is_same_key : (j k : List ℕ) → Decides (is_same_key j k) (j ≡ k)
decides-is_same_key j k = (passes_same j k, λ e. rw e (is_itself k))

-- a key that is below the next is below all later ones
rises_on : (k j : List ℕ) (ks : List (List ℕ)) → ((order k j ≡ Less) × AreRisingKeys (j ∷ ks)) ↔ AreRisingKeys (k ∷ j ∷ ks)
unfolding IsStrictlySortedBy
rises_on k j ks = (λ h. ((h.0, below_all k j ks h.0 (h.1).0), h.1), λ h. ((h.0).0, h.1))

one_rises : (k : List ℕ) → AreRisingKeys (k ∷ [])
unfolding IsStrictlySortedBy
one_rises k = (tt, tt)

none_rises : AreRisingKeys []
unfolding IsStrictlySortedBy
none_rises = tt

decides-do_rise : (ks : List (List ℕ)) → Decides (do_rise ks) (AreRisingKeys ks)
decides-do_rise [] = (λ h. none_rises, λ h. refl)
decides-do_rise (k ∷ []) = (λ h. one_rises k, λ h. refl)
decides-do_rise (k ∷ j ∷ ks) =
    let both = Decides-and (is_lt (order k j)) (do_rise (j ∷ ks)) (decides_less (order k j)) (decides-do_rise (j ∷ ks)) in
    Decides-like (is_lt (order k j) && do_rise (j ∷ ks)) (rises_on k j ks).0 (rises_on k j ks).1 both

all_before : (end : Option (List ℕ)) (ks : List (List ℕ)) → AllByRecursion (λ k. is_before end k ≡ true) ks ↔ AreBefore end ks
all_before (Some end) ks = (λ a. a, λ a. a)
all_before None [] = (λ a. tt, λ a. tt)
all_before None (k ∷ ks) = (λ a. tt, λ a. (refl, (all_before None ks).1 tt))

-- that keys lie in a range, as a test and as facts
decides_within : (low : List ℕ) (end : Option (List ℕ)) (ks : List (List ℕ)) → Decides (list_all (is_within low end) ks) (AreFrom low ks × AreBefore end ks)
decides_within low end ks =
    let From : List ℕ → Type 0 = λ k. is_below k low ≡ false in
    let Before : List ℕ → Type 0 = λ k. is_before end k ≡ true in
    let each : (k : List ℕ) → Decides (is_within low end k) (From k × Before k) =
    λ k. Decides-and (not (is_below k low)) (is_before end k) (decides_not (is_below k low)) (λ h. h, λ h. h) in
    let all = decides_all (is_within low end) (λ k. From k × Before k) each ks in
    let apart = all_both From Before ks in
    let before = all_before end ks in
    (λ h. let a = apart.0 (all.0 h) in (a.0, before.0 a.1), λ a. all.1 (apart.1 (a.0, before.1 a.1)))

module _ {V : Type 0} where
  decides-all_rise : (runs : List (List (List ℕ × Option V))) (base : List (List ℕ × V)) → Decides (all_rise runs base) (AllRise runs base)
  decides-all_rise [] base = decides-do_rise (keys_of base)
  decides-all_rise (run ∷ runs) base = Decides-and (do_rise (keys_of run)) (all_rise runs base) (decides-do_rise (keys_of run)) (decides-all_rise runs base)

  -- the test of a page's keys
  pub decides-keeps_range : (low : List ℕ) (end : Option (List ℕ)) (p : Page V) → Decides (keeps_range low end p) (KeepsRange low end p)
  decides-keeps_range low end p =
      let both = Decides-and (all_rise p.layers.runs p.layers.base) (list_all (is_within low end) (named p)) (decides-all_rise p.layers.runs p.layers.base) (decides_within low end (named p)) in
      (λ h. let a = both.0 h in record { rising = a.0; from = (a.1).0; before = (a.1).1 }, λ k. both.1 (k.rising, (k.from, k.before)))

-- ---- sizes

decides-is_run_sized : {X : Type 0} (s : Settings) (run : List X) → Decides (is_run_sized s run) (IsRunSized s run)
decides-is_run_sized s run =
    let both = Decides-and (nat_lt 0 (length run)) (nat_le (length run) s.fan) (Decides-ltb 0 (length run)) (decides_le (length run) s.fan) in
    (λ h. let a = both.0 h in record { some = a.0; most = a.1 }, λ k. both.1 (k.some, k.most))

module _ {V : Type 0} where
  decides-of_cell : (is_short : V → Bool) (IsShort : V → Type 0) → ((v : V) → Decides (is_short v) (IsShort v)) → (cell : Option V) → Decides (of_cell is_short cell) (OfCell IsShort cell)
  decides-of_cell is_short IsShort d None = (λ h. tt, λ h. refl)
  decides-of_cell is_short IsShort d (Some v) = d v

  decides-is_short_change : (s : Settings) (is_short : V → Bool) (IsShort : V → Type 0) → ((v : V) → Decides (is_short v) (IsShort v))
      → (c : List ℕ × Option V) → Decides (is_short_change s is_short c) (IsShortChange s IsShort c)
  decides-is_short_change s is_short IsShort d c =
      let both = Decides-and (nat_le (length c.0) s.max_key) (of_cell is_short c.1) (decides_le (length c.0) s.max_key) (decides-of_cell is_short IsShort d c.1) in
      (λ h. let a = both.0 h in record { key = a.0; cell = a.1 }, λ k. both.1 (k.key, k.cell))

  -- the tests of a page's sizes and of its depth, together
  pub decides-fits : (s : Settings) (is_short : V → Bool) (IsShort : V → Type 0) → ((v : V) → Decides (is_short v) (IsShort v))
      → (p : Page V) → ((fits_sizes s is_short p ≡ true) × (fits_depth s p ≡ true)) ↔ Fits s IsShort p
  decides-fits s is_short IsShort d p =
      let base : Bool = nat_le (length p.layers.base) s.fan in
      let runs : Bool = list_all (is_run_sized s) p.layers.runs in
      let changes : Bool = list_all (is_short_change s is_short) (said p) in
      let base_and_runs = Decides-and base runs (decides_le (length p.layers.base) s.fan) (decides_all (is_run_sized s) (IsRunSized s) (decides-is_run_sized s) p.layers.runs) in
      let of_changes = decides_all (is_short_change s is_short) (IsShortChange s IsShort) (decides-is_short_change s is_short IsShort d) (said p) in
      let all = Decides-and (base && runs) changes base_and_runs of_changes in
      let depth = decides_le (length p.layers.runs) s.chain in
      (λ h. let a = all.0 h.0 in record { base = (a.0).0; runs = (a.0).1; changes = a.1; depth = depth.0 h.1 }, λ k. (all.1 ((k.base, k.runs), k.changes), depth.1 k.depth))

-- the same of leaves, and of index pages
pub decides-fits_of_leaf : (s : Settings) (p : Page (List ℕ)) → ((fits_sizes s (is_short_value s) p ≡ true) × (fits_depth s p ≡ true)) ↔ Fits s (IsShortValue s) p
decides-fits_of_leaf s p = decides-fits s (is_short_value s) (IsShortValue s) (λ v. decides_le (length v) s.max_value) p

pub decides-fits_of_index : (s : Settings) (p : Page ℕ) → ((fits_sizes s is_any_pid p ≡ true) × (fits_depth s p ≡ true)) ↔ Fits s IsAnyPid p
decides-fits_of_index s p = decides-fits s is_any_pid IsAnyPid (λ v. (λ h. tt, λ h. refl)) p

-- ---- children

-- the test of an index page's children
pub decides-is_headed : (least : ℕ) (p : Page ℕ) → Decides (is_headed least p) (IsHeaded least p)
decides-is_headed least p =
    let some = decides_le least (length (entries p)) in
    let first = decides-is_same_key (first_key (entries p)) p.low in
    let both = Decides-and (nat_le least (length (entries p))) (is_same_key (first_key (entries p)) p.low) some first in
    (λ h. let a = both.0 h in record { some = a.0; first = a.1 }, λ k. both.1 (k.some, k.first))
