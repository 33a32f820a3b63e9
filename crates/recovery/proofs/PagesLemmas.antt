-- The pages of a log are those that its frames determine for each pid.
use Rattle.std.specs.Prelude.{◌≡◌, ℕ, ◌<◌, Bool, true, false, cond, ◌||◌, nat_eq, List, [], ◌∷◌, ◌++◌, map, flat_map, Option, Some, None}
use Rattle.std.proofs.Common.{refl, sym, ap, ◌∙◌}
use Rattle.std.specs.List.{AllByRecursion, filter}
use Rattle.std.specs.Map.{keys_of}
use Rattle.std.specs.Ordering.{nat_cmp, is_eq}
use Rattle.std.proofs.lemmas.Bool.{eqb-true, eq-eqb, or_parts}
use Rattle.std.proofs.lemmas.List.{map-append}
use Rattle.keys.proofs.Basics.{equal_by}
use Rattle.mapping.specs.Finding.{Finding}
use Rattle.mapping.specs.FreshPids.{is_among}
use Rattle.mapping.specs.Proper.{AreRisingPids}
use Rattle.mapping.specs.Slots.{entry_if}
use Rattle.mapping.specs.Tree.{listed_at, page_at}
use Rattle.mapping.proofs.InUse.{is_eq_same}
use Rattle.mapping.proofs.KnownPids.{among-with_numbers, rising-with_numbers}
use Rattle.mapping.proofs.TableLemmas.{same_pid}
use Rattle.frame_codec.specs.Frame.{Frame}
use Rattle.recovery.specs.LogPages.{contents_of, in_log, pids_of, pages_of, broken_under, broken_in}
use Rattle.recovery.specs.PageByLog.{page_in, is_broken}

-- ---- the results for some numbers, if there are any

module _ {V : Type 0} (f : ℕ → Option V) where
  abbrev entry_of : ℕ → List (ℕ × V)
  entry_of n = entry_if n (f n)

  abbrev entries_of : List ℕ → List (ℕ × V)
  entries_of ns = flat_map entry_of ns

  same_as : (b c : Bool) (q n : ℕ) → is_eq (nat_cmp q n) ≡ b → nat_eq q n ≡ c → b ≡ c
  same_as true true q n e h = refl
  same_as false false q n e h = refl
  same_as true false q n e h = let x = eq-eqb q n (same_pid q n (equal_by (nat_cmp q n) e)) in absurd (cc)
  same_as false true q n e h = let x = is_eq_same q n (eqb-true q n h) in absurd (cc)

  entry_by : (o : Option V) (c : Bool) (q n : ℕ) (rest : List (ℕ × V)) (among : Bool) → f n ≡ o → nat_eq q n ≡ c → listed_at rest q ≡ cond among (f q) None
      → listed_at (entry_if n o ++ rest) q ≡ cond (c || among) (f q) None
  entry_by None true q n rest among e h ih = ih ∙ none_by among (ap f (eqb-true q n h) ∙ e)
    where
      none_by : (among : Bool) → f q ≡ None → cond among (f q) None ≡ f q
      none_by true e = refl
      none_by false e = sym e
  entry_by None false q n rest among e h ih = ih
  entry_by (Some v) true q n rest among e h ih =
      ap (λ (b : Bool). cond b (Some v) (listed_at rest q)) (same_as (is_eq (nat_cmp q n)) true q n refl h)
      ∙ sym e ∙ ap f (sym (eqb-true q n h))
  entry_by (Some v) false q n rest among e h ih = ap (λ (b : Bool). cond b (Some v) (listed_at rest q)) (same_as (is_eq (nat_cmp q n)) false q n refl h) ∙ ih

  -- what is listed of a number
  pub listed-entries : (ns : List ℕ) (q : ℕ) → listed_at (entries_of ns) q ≡ cond (is_among q ns) (f q) None
  listed-entries [] q = refl
  listed-entries (n ∷ ns) q = entry_by (f n) (nat_eq q n) q n (entries_of ns) (is_among q ns) refl refl (listed-entries ns q)

  keys_by : (P : ℕ → Type 0) (o : Option V) (n : ℕ) (rest : List (ℕ × V)) → P n → AllByRecursion P (keys_of rest) → AllByRecursion P (keys_of (entry_if n o ++ rest))
  keys_by P None n rest p a = a
  keys_by P (Some v) n rest p a = (p, a)

  all_keys-entries : (P : ℕ → Type 0) (ns : List ℕ) → AllByRecursion P ns → AllByRecursion P (keys_of (entries_of ns))
  all_keys-entries P [] a = tt
  all_keys-entries P (n ∷ ns) a = keys_by P (f n) n (entries_of ns) a.0 (all_keys-entries P ns a.1)

  rising_by : (o : Option V) (n : ℕ) (rest : List (ℕ × V)) → AllByRecursion (λ m. n < m) (keys_of rest) → AreRisingPids (keys_of rest) → AreRisingPids (keys_of (entry_if n o ++ rest))
  rising_by None n rest a r = r
  rising_by (Some v) n rest a r = (a, r)

  pub rising-entries : (ns : List ℕ) → AreRisingPids ns → AreRisingPids (keys_of (entries_of ns))
  rising-entries [] r = tt
  rising-entries (n ∷ ns) r = rising_by (f n) n (entries_of ns) (all_keys-entries (λ m. n < m) ns r.0) (rising-entries ns r.1)

-- ---- the frames of a pid

filter_by : (b : Bool) (f : Frame) (xs ys zs : List Frame) → xs ≡ ys ++ zs → cond b (f ∷ xs) xs ≡ cond b (f ∷ ys) ys ++ zs
filter_by true f xs ys zs e = ap (λ (x : List Frame). f ∷ x) e
filter_by false f xs ys zs e = e

pub filter-append : (test : Frame → Bool) (xs ys : List Frame) → filter test (xs ++ ys) ≡ filter test xs ++ filter test ys
filter-append test [] ys = refl
filter-append test (x ∷ xs) ys = filter_by (test x) x (filter test (xs ++ ys)) (filter test xs) (filter test ys) (filter-append test xs ys)

pub contents-append : (pid : ℕ) (xs ys : List Frame) → contents_of pid (xs ++ ys) ≡ contents_of pid xs ++ contents_of pid ys
contents-append pid xs ys =
    let of_pid : Frame → Bool = λ f. nat_eq f.pid pid in
    ap (λ (fs : List Frame). map (λ (f : Frame). f.content) fs) (filter-append of_pid xs ys) ∙ map-append (λ (f : Frame). f.content) (filter of_pid xs) (filter of_pid ys)

abbrev pub pids : List Frame → List ℕ
pids fs = map (λ (f : Frame). f.pid) fs

nat_eq_turned : (m n : ℕ) → nat_eq m n ≡ false → nat_eq n m ≡ false
nat_eq_turned m n e = turned_by (nat_eq n m) refl
  where
    turned_by : (b : Bool) → nat_eq n m ≡ b → b ≡ false
    turned_by true h = let x = eq-eqb m n (sym (eqb-true n m h)) in absurd (cc)
    turned_by false h = refl

-- there are none of a pid that has no frame
pub none_of : (fs : List Frame) (pid : ℕ) → is_among pid (pids fs) ≡ false → contents_of pid fs ≡ []
none_of [] pid e = refl
none_of (f ∷ fs) pid e =
    let apart = or_parts (nat_eq pid f.pid) (is_among pid (pids fs)) e in
    rw (nat_eq_turned pid f.pid apart.0) (none_of fs pid apart.1)

-- ---- the pages

pub among-pids_of : (fs : List Frame) (pid : ℕ) → is_among pid (pids_of fs) ≡ is_among pid (pids fs)
among-pids_of fs pid = among-with_numbers pid (pids fs) [] ∙ or_false (is_among pid (pids fs))
  where
    or_false : (b : Bool) → (b || false) ≡ b
    or_false true = refl
    or_false false = refl

missing_by : (b : Bool) (fs : List Frame) (pid : ℕ) → is_among pid (pids_of fs) ≡ b → cond b (page_in (in_log fs pid)) None ≡ page_in (in_log fs pid)
missing_by true fs pid e = refl
missing_by false fs pid e = rw (none_of fs pid (sym (among-pids_of fs pid) ∙ e)) refl

-- the page of a log under a pid is what its frames say of it
pub page_at-pages_of : (fs : List Frame) (pid : ℕ) → page_at (pages_of fs) pid ≡ page_in (in_log fs pid)
page_at-pages_of fs pid = listed-entries (λ n. page_in (in_log fs n)) (pids_of fs) pid ∙ missing_by (is_among pid (pids_of fs)) fs pid refl

pub rising-pages_of : (fs : List Frame) → AreRisingPids (keys_of (pages_of fs))
rising-pages_of fs = rising-entries (λ n. page_in (in_log fs n)) (pids_of fs) (rising-with_numbers (pids fs) [] tt)

-- ---- finding 1

sound_by : (b : Bool) (found : Finding) (rest : Option Finding) → cond b (Some found) rest ≡ None → (b ≡ false) × (rest ≡ None)
sound_by true found rest e = absurd (cc)
sound_by false found rest e = (refl, e)

sound_first : (b : Bool) (fs : List Frame) (pid n : ℕ) (rest : Bool) → nat_eq pid n ≡ b → is_broken (in_log fs n) ≡ false → (b || rest) ≡ true → (rest ≡ true → is_broken (in_log fs pid) ≡ false) → is_broken (in_log fs pid) ≡ false
sound_first true fs pid n rest e h t f = ap (λ (m : ℕ). is_broken (in_log fs m)) (eqb-true pid n e) ∙ h
sound_first false fs pid n rest e h t f = f t

sound_under : (fs : List Frame) (ns : List ℕ) (pid : ℕ) → broken_under fs ns ≡ None → is_among pid ns ≡ true → is_broken (in_log fs pid) ≡ false
sound_under fs [] pid e h = absurd (cc)
sound_under fs (n ∷ ns) pid e h =
    let parts = sound_by (is_broken (in_log fs n)) (record { rule = 1; pid = n }) (broken_under fs ns) e in
    sound_first (nat_eq pid n) fs pid n (is_among pid ns) refl parts.0 h (λ later. sound_under fs ns pid parts.1 later)

sound_else : (b : Bool) (fs : List Frame) (pid : ℕ) → broken_in fs ≡ None → is_among pid (pids_of fs) ≡ b → is_broken (in_log fs pid) ≡ false
sound_else true fs pid e h = sound_under fs (pids_of fs) pid e h
sound_else false fs pid e h = rw (none_of fs pid (sym (among-pids_of fs pid) ∙ h)) refl

-- if finding 1 isn't found, no pid has it
pub none_broken : (fs : List Frame) (pid : ℕ) → broken_in fs ≡ None → is_broken (in_log fs pid) ≡ false
none_broken fs pid e = sound_else (is_among pid (pids_of fs)) fs pid e refl

sound_all : (fs : List Frame) (ns : List ℕ) → ((pid : ℕ) → is_broken (in_log fs pid) ≡ false) → broken_under fs ns ≡ None
sound_all fs [] h = refl
sound_all fs (n ∷ ns) h = rw (h n) (sound_all fs ns h)

-- and if no pid has it, it isn't found
pub not_broken : (fs : List Frame) → ((pid : ℕ) → is_broken (in_log fs pid) ≡ false) → broken_in fs ≡ None
not_broken fs h = sound_all fs (pids_of fs) h
