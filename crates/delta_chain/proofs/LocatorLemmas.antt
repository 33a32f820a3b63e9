-- The locators of the newest changes of a page's runs.
use Rattle.std.specs.Prelude.{◌≡◌, ℕ, zero, suc, ◌+◌, ◌-◌, ◌<◌, ◌≤◌, ◌^◌, Bool, true, false, cond, List, [], ◌∷◌, ◌++◌, length, get_or, take, drop, reverse, set, slice_get, Option, Some, None, IfSome, is_some, ⊤}
use Rattle.std.proofs.Common.{refl, sym, ap, ◌∙◌, arith, append_assoc, append-nil, add-one, Less}
use Rattle.std.specs.List.{AllByRecursion}
use Rattle.std.specs.List.Sorted.{IsStrictlySortedBy}
use Rattle.std.specs.Map.{keys_of, values_of}
use Rattle.std.specs.Option.{unwrap_or}
use Rattle.std.specs.Ordering.{is_eq}
use Rattle.std.proofs.lemmas.List.{reverse-append, reverse-reverse, length-reverse, length-append, length-set, take_rest}
use Rattle.std.proofs.lemmas.Option.{slice_get-get_or, slice_get_read}
use Rattle.std.proofs.lemmas.Map.Keys.{sorted_head, sorted_tail}
use Rattle.keys.specs.Bytes.{Bytes, Pairs, Changes}
use Rattle.keys.specs.Cells.{AreBytes}
use Rattle.keys.specs.Order.{order, IsRising}
use Rattle.keys.specs.OrderedMap.{value_at, with_pair}
use Rattle.keys.specs.Words.{first_word, IsWordOf}
use Rattle.keys.proofs.MapLemmas.{IsBelowAll, below_all, rising-with_pair, passes_same, same_map}
use Rattle.delta_chain.specs.Exchange.{exchanged_at, exchanged_by, exchanged_under, exchanged, in_place_of}
use Rattle.delta_chain.specs.Layers.{Layers, change_or, held_under, with_run, entries_under, AllRise}
use Rattle.delta_chain.specs.Located.{keys_of_runs, located_from, newest_locators, key_at, change_at, keyed, changes_of, exchanged_in, IsIn, AreNumbered, AreNewest}
use Rattle.delta_chain.specs.Merging.{pair_if, joined_changes}
use Rattle.delta_chain.specs.declared.locators.Locator.{Locator}
use Rattle.delta_chain.proofs.Exchanging.{keys-exchanged_at, exchanged_at-same, exchanged_at-pair}
use Rattle.delta_chain.proofs.Halves.{reported, value_at-overlaid}
use Rattle.delta_chain.proofs.LayerLemmas.{value_at-with_run, rising-with_run}
use Rattle.delta_chain.proofs.Merges.{run_after, rising_after, run_past}
use Rattle.delta_chain.proofs.Overlays.{rising-none, rising-joined_changes, held-joined_changes, entries-joined_changes}
use Rattle.delta_chain.proofs.Putting.{set_parts}
use Rattle.delta_chain.proofs.Setting.{with_pair-found, value_at-found}

-- ---- lists

module _ {X : Type 0} where
  get_or-first : (xs ys : List X) (i : ℕ) (d : X) → i < length xs → get_or (xs ++ ys) i d ≡ get_or xs i d
  get_or-first [] ys i d h = absurd (omega arith)
  get_or-first (x ∷ xs) ys zero d h = refl
  get_or-first (x ∷ xs) ys (suc i) d h = let l : i < length xs = omega arith in get_or-first xs ys i d l

  get_or-after : (xs : List X) (y : X) (i : ℕ) (d : X) → i ≡ length xs → get_or (xs ++ y ∷ []) i d ≡ y
  get_or-after [] y zero d h = refl
  get_or-after [] y (suc i) d h = absurd (omega arith)
  get_or-after (x ∷ xs) y zero d h = absurd (omega arith)
  get_or-after (x ∷ xs) y (suc i) d h = let l : i ≡ length xs = omega arith in get_or-after xs y i d l

  pub get_or-there : (xs : List X) (i : ℕ) (d x : X) → slice_get xs i ≡ Some x → (i < length xs) × (get_or xs i d ≡ x)
  get_or-there [] i d x h = absurd (cc)
  get_or-there (y ∷ xs) zero d x h = (omega arith, cc)
  get_or-there (y ∷ xs) (suc i) d x h = let rest = get_or-there xs i d x h in (omega (arith, rest.0), rest.1)

  -- within the list any default gives the same
  get_or-any : (xs : List X) (i : ℕ) (d e : X) → i < length xs → get_or xs i d ≡ get_or xs i e
  get_or-any [] i d e h = absurd (omega arith)
  get_or-any (x ∷ xs) zero d e h = refl
  get_or-any (x ∷ xs) (suc i) d e h = let l : i < length xs = omega arith in get_or-any xs i d e l

  pub take-set : (xs : List X) (i : ℕ) (x : X) → i < length xs → take (suc i) (set xs i x) ≡ take i xs ++ x ∷ []
  take-set [] i x h = absurd (omega arith)
  take-set (y ∷ xs) zero x h = refl
  take-set (y ∷ xs) (suc i) x h = let l : i < length xs = omega arith in ap (λ (ys : List X). y ∷ ys) (take-set xs i x l)

  pub drop-set : (xs : List X) (i n : ℕ) (x : X) → i < n → drop n (set xs i x) ≡ drop n xs
  drop-set [] i n x h = refl
  drop-set (y ∷ xs) i zero x h = absurd (omega arith)
  drop-set (y ∷ xs) zero (suc n) x h = refl
  drop-set (y ∷ xs) (suc i) (suc n) x h = let l : i < n = omega arith in drop-set xs i n x l

  pub drop-more : (xs ys : List X) (n : ℕ) → drop n xs ≡ drop n ys → drop (suc n) xs ≡ drop (suc n) ys
  drop-more xs ys n h = by xs n ∙ ap (drop 1) h ∙ sym (by ys n)
    where
      by : (zs : List X) (m : ℕ) → drop (suc m) zs ≡ drop 1 (drop m zs)
      by zs zero = refl
      by [] (suc m) = refl
      by (z ∷ zs) (suc m) = by zs m

module _ {X : Type 0} (P : X → Type 0) where
  pub all-append : (xs ys : List X) → AllByRecursion P xs → AllByRecursion P ys → AllByRecursion P (xs ++ ys)
  all-append [] ys a b = b
  all-append (x ∷ xs) ys a b = (a.0, all-append xs ys a.1 b)

  pub all-first : (xs ys : List X) → AllByRecursion P (xs ++ ys) → AllByRecursion P xs
  all-first [] ys a = tt
  all-first (x ∷ xs) ys a = (a.0, all-first xs ys a.1)

  pub all-last : (xs : List X) (y : X) → AllByRecursion P (xs ++ y ∷ []) → P y
  all-last [] y a = a.0
  all-last (x ∷ xs) y a = all-last xs y a.1

  pub all-take : (n : ℕ) (xs : List X) → AllByRecursion P xs → AllByRecursion P (take n xs)
  all-take zero xs a = tt
  all-take (suc n) [] a = tt
  all-take (suc n) (x ∷ xs) a = (a.0, all-take n xs a.1)

  pub all-drop : (n : ℕ) (xs : List X) → AllByRecursion P xs → AllByRecursion P (drop n xs)
  all-drop zero xs a = a
  all-drop (suc n) [] a = tt
  all-drop (suc n) (x ∷ xs) a = all-drop n xs a.1

  pub all-there : (xs : List X) (i : ℕ) (x : X) → AllByRecursion P xs → slice_get xs i ≡ Some x → P x
  all-there [] i x a h = absurd (cc)
  all-there (y ∷ xs) zero x a h = let s : y ≡ x = cc in rw (← s) a.0
  all-there (y ∷ xs) (suc i) x a h = all-there xs i x a.1 h

-- ---- the keys of runs

pub length-keys_of : {T : Type 0} (es : Pairs T) → length (keys_of es) ≡ length es
length-keys_of [] = refl
length-keys_of (e ∷ es) = ap suc (length-keys_of es)

length-values_of : {T : Type 0} (es : Pairs T) → length (values_of es) ≡ length es
length-values_of [] = refl
length-values_of (e ∷ es) = ap suc (length-values_of es)

module _ {V : Type 0} where
  pub keys_of_runs-append : (xs ys : List (Changes V)) → keys_of_runs (xs ++ ys) ≡ keys_of_runs xs ++ keys_of_runs ys
  keys_of_runs-append [] ys = refl
  keys_of_runs-append (x ∷ xs) ys = ap (λ (ks : List (List Bytes)). keys_of x ∷ ks) (keys_of_runs-append xs ys)

  pub length-keys_of_runs : (xs : List (Changes V)) → length (keys_of_runs xs) ≡ length xs
  length-keys_of_runs [] = refl
  length-keys_of_runs (x ∷ xs) = ap suc (length-keys_of_runs xs)

  -- the keys of the run at a place
  pub keys_there : (runs : List (Changes V)) (i : ℕ) → get_or (keys_of_runs runs) i [] ≡ keys_of (get_or runs i [])
  keys_there [] i = refl
  keys_there (run ∷ runs) zero = refl
  keys_there (run ∷ runs) (suc i) = keys_there runs i

pub run_within : {V : Type 0} (runs : List (Changes V)) (l : Locator) → IsIn (keys_of_runs runs) l → l.run < length runs
run_within runs l h = let many = length-keys_of_runs runs in omega (arith, h.run, many)

pub same_run : {V : Type 0} (runs : List (Changes V)) (l : Locator) (d : Changes V) → IsIn (keys_of_runs runs) l → get_or runs l.run d ≡ get_or runs l.run (get_or runs l.run d)
same_run runs l d h = get_or-any runs l.run d (get_or runs l.run d) (run_within runs l h)

-- a run by its number, and the key and the change that a locator has in it
module _ {V : Type 0} (runs : List (Changes V)) (l : Locator) (run : Changes V) (is : run ≡ get_or runs l.run run) (h : IsIn (keys_of_runs runs) l) where
  run_is : get_or runs l.run [] ≡ run
  run_is =
      let many = length-keys_of_runs runs in
      get_or-any runs l.run [] run (omega (arith, h.run, many)) ∙ sym is

  run_keys : get_or (keys_of_runs runs) l.run [] ≡ keys_of run
  run_keys = keys_there runs l.run ∙ ap (λ (r : Changes V). keys_of r) run_is

  pub at_within : l.at < length run
  at_within =
      let within : l.at < length (keys_of run) = rw run_keys at h.at in
      let many = length-keys_of run in
      omega (arith, within, many)

  pub key_is : (k : Bytes) → slice_get (keys_of run) l.at ≡ Some k → k ≡ key_at (keys_of_runs runs) l
  key_is k s = sym (ap (λ (ks : List Bytes). get_or ks l.at []) run_keys ∙ (get_or-there (keys_of run) l.at [] k s).1)

  -- so the run has this change there
  pub item_is : slice_get (values_of run) l.at ≡ Some (change_at runs l)
  item_is =
      let many = length-values_of run in
      let within : l.at < length (values_of run) = omega (arith, at_within, many) in
      slice_get-get_or (values_of run) l.at None within ∙ ap (λ (r : Changes V). Some (get_or (values_of r) l.at None)) (sym run_is)

  -- and the runs with another change there are those with another run
  pub exchanged_is : (now : Changes V) (o : Option V) → now ≡ exchanged_at run l.at o → set runs l.run now ≡ exchanged_in runs l o
  exchanged_is now o h = ap (λ (r : Changes V). set runs l.run r) (h ∙ ap (λ (r : Changes V). exchanged_at r l.at o) (sym run_is))

  pub change_is : (o : Option V) → slice_get (values_of run) l.at ≡ Some o → o ≡ change_at runs l
  change_is o s = sym (ap (λ (r : Changes V). get_or (values_of r) l.at None) run_is ∙ (get_or-there (values_of run) l.at None o s).1)

pub reverse-following : (ks : List (List Bytes)) (k : List Bytes) → reverse (ks ++ k ∷ []) ≡ k ∷ reverse ks
reverse-following ks k = reverse-append ks (k ∷ [])

-- ---- more runs

pub key_still : (runs more : List (List Bytes)) (l : Locator) → IsIn runs l → key_at (runs ++ more) l ≡ key_at runs l
key_still runs more l h = ap (λ (ks : List Bytes). get_or ks l.at []) (get_or-first runs more l.run [] h.run)

pub still_in : (runs more : List (List Bytes)) (l : Locator) → IsIn runs l → IsIn (runs ++ more) l
still_in runs more l h =
    let same : get_or (runs ++ more) l.run [] ≡ get_or runs l.run [] = get_or-first runs more l.run [] h.run in
    let long = length-append runs more in
    record {
      run = omega (arith, h.run, long);
      at = rw same h.at;
      word = rw (key_still runs more l h) h.word;
    }

pub all_still : (runs more : List (List Bytes)) (ls : List Locator) → AllByRecursion (IsIn runs) ls → AllByRecursion (IsIn (runs ++ more)) ls
all_still runs more [] a = tt
all_still runs more (l ∷ ls) a = (still_in runs more l a.0, all_still runs more ls a.1)

pub keyed_still : (runs more : List (List Bytes)) (ls : List Locator) → AllByRecursion (IsIn runs) ls → keyed (runs ++ more) ls ≡ keyed runs ls
keyed_still runs more [] a = refl
keyed_still runs more (l ∷ ls) a = rw (key_still runs more l a.0) (ap (λ (es : Pairs Locator). (key_at runs l, l) ∷ es) (keyed_still runs more ls a.1))

-- a locator of the last run
pub key_last : (runs : List (List Bytes)) (keys : List Bytes) (l : Locator) (k : Bytes) → l.run ≡ length runs → slice_get keys l.at ≡ Some k → key_at (runs ++ keys ∷ []) l ≡ k
key_last runs keys l k r h = rw (get_or-after runs keys l.run [] r) ((get_or-there keys l.at [] k h).1)

pub is_in_last : (runs : List (List Bytes)) (keys : List Bytes) (l : Locator) (k : Bytes) → l.run ≡ length runs → slice_get keys l.at ≡ Some k → IsWordOf l.word k → IsIn (runs ++ keys ∷ []) l
is_in_last runs keys l k r h w =
    let long = length-append runs (keys ∷ []) in
    record {
      run = omega (arith, r, long);
      at = rw (get_or-after runs keys l.run [] r) ((get_or-there keys l.at [] k h).0);
      word = rw (key_last runs keys l k r h) w;
    }

-- ---- numbers of 32 bits

-- one more run
pub numbered-push : (runs : List (List Bytes)) (keys : List Bytes) → length runs < 2 ^ 32 → length keys ≤ 2 ^ 32 → AreNumbered runs → AreNumbered (runs ++ keys ∷ [])
numbered-push runs keys l k h =
    let long = length-append runs (keys ∷ []) in
    record {
      count = omega (arith, l, long);
      places = all-append (λ (ks : List Bytes). length ks ≤ 2 ^ 32) runs (keys ∷ []) h.places (k, tt);
    }

-- one less
pub numbered-pop : (runs : List (List Bytes)) (keys : List Bytes) → AreNumbered (runs ++ keys ∷ []) → AreNumbered runs
numbered-pop runs keys h =
    let long = length-append runs (keys ∷ []) in
    record {
      count = omega (arith, h.count, long);
      places = all-first (λ (ks : List Bytes). length ks ≤ 2 ^ 32) runs (keys ∷ []) h.places;
    }

number_fits : (runs : List (List Bytes)) (keys : List Bytes) → AreNumbered (runs ++ keys ∷ []) → length runs < 2 ^ 32
number_fits runs keys h = let long = length-append runs (keys ∷ []) in omega (arith, h.count, long)

place_fits : (runs : List (List Bytes)) (keys : List Bytes) (at : ℕ) → AreNumbered (runs ++ keys ∷ []) → at < length keys → at < 2 ^ 32
place_fits runs keys at h l = let most = all-last (λ (ks : List Bytes). length ks ≤ 2 ^ 32) runs keys h.places in omega (arith, most, l)

-- ---- keys with their locators

module _ (runs : List (List Bytes)) where
  pub keyed-append : (xs ys : List Locator) → keyed runs (xs ++ ys) ≡ keyed runs xs ++ keyed runs ys
  keyed-append [] ys = refl
  keyed-append (x ∷ xs) ys = ap (λ (es : Pairs Locator). (key_at runs x, x) ∷ es) (keyed-append xs ys)

  keyed-take : (n : ℕ) (xs : List Locator) → keyed runs (take n xs) ≡ take n (keyed runs xs)
  keyed-take zero xs = refl
  keyed-take (suc n) [] = refl
  keyed-take (suc n) (x ∷ xs) = ap (λ (es : Pairs Locator). (key_at runs x, x) ∷ es) (keyed-take n xs)

  pub keyed-drop : (n : ℕ) (xs : List Locator) → keyed runs (drop n xs) ≡ drop n (keyed runs xs)
  keyed-drop zero xs = refl
  keyed-drop (suc n) [] = refl
  keyed-drop (suc n) (x ∷ xs) = keyed-drop n xs

  pub length-keyed : (xs : List Locator) → length (keyed runs xs) ≡ length xs
  length-keyed [] = refl
  length-keyed (x ∷ xs) = ap suc (length-keyed xs)

  pub key_keyed : (xs : List Locator) (i : ℕ) (x : Locator) → slice_get xs i ≡ Some x → slice_get (keys_of (keyed runs xs)) i ≡ Some (key_at runs x)
  key_keyed [] i x h = absurd (cc)
  key_keyed (y ∷ xs) zero x h = let s : y ≡ x = cc in ap (λ (l : Locator). Some (key_at runs l)) s
  key_keyed (y ∷ xs) (suc i) x h = key_keyed xs i x h

  pub values_keyed : (xs : List Locator) → values_of (keyed runs xs) ≡ xs
  values_keyed [] = refl
  values_keyed (x ∷ xs) = ap (λ (ls : List Locator). x ∷ ls) (values_keyed xs)

-- what setting a key gives, by the place where it is
pub pair_found : {T : Type 0} (es : Pairs T) (at : ℕ) (k : Bytes) (t : T) → IsRising es → at < length es → slice_get (keys_of es) at ≡ Some k → with_pair es k t ≡ take at es ++ (k, t) ∷ drop (suc at) es
pair_found es at k t r l h = with_pair-found es at k t r h ∙ set_parts es at (k, t) l

-- so of keys with locators
pub pair_between : (runs : List (List Bytes)) (ls : List Locator) (at next : ℕ) (k : Bytes) (l : Locator) → with_pair (keyed runs ls) k l ≡ take at (keyed runs ls) ++ (k, l) ∷ drop next (keyed runs ls)
    → with_pair (keyed runs ls) k l ≡ keyed runs (take at ls) ++ (k, l) ∷ keyed runs (drop next ls)
pair_between runs ls at next k l h = rw (keyed-take runs at ls, keyed-drop runs next ls) h

-- ---- a run's changes laid over others

module _ {T : Type 0} where
  below_mid : (j : Bytes) (below above : Pairs T) (k : Bytes) (t : T) → IsBelowAll j (keys_of (below ++ (k, t) ∷ above)) → order j k ≡ Less
  below_mid j [] above k t a = a.0
  below_mid j (e ∷ below) above k t a = below_mid j below above k t a.1

  -- changes above a pair leave what is up to it
  pub run_above : (below above : Pairs T) (k : Bytes) (t : T) (run : Changes T) → IsRising (below ++ (k, t) ∷ above) → IsBelowAll k (keys_of run) → with_run (below ++ (k, t) ∷ above) run ≡ below ++ (k, t) ∷ with_run above run
  run_above [] above k t run r a = run_after (k, t) above run a
  run_above (e ∷ below) above k t run r a =
      let l : order e.0 k ≡ Less = below_mid e.0 below above k t (sorted_head order e.0 (keys_of (below ++ (k, t) ∷ above)) r) in
      run_after e (below ++ (k, t) ∷ above) run (below_all e.0 k (keys_of run) l a)
      ∙ ap (λ (es : Pairs T). e ∷ es) (run_above below above k t run (sorted_tail order e.0 (keys_of (below ++ (k, t) ∷ above)) r) a)

  pub rising_rest : (below above : Pairs T) → IsRising (below ++ above) → IsRising above
  rising_rest [] above r = r
  rising_rest (e ∷ below) above r = rising_rest below above (sorted_tail order e.0 (keys_of (below ++ above)) r)

-- ---- a run's keys with locators

pub keys_of-located : (run at : ℕ) (ks : List Bytes) → keys_of (located_from run at ks) ≡ ks
keys_of-located run at [] = refl
keys_of-located run at (k ∷ ks) = ap (λ (js : List Bytes). k ∷ js) (keys_of-located run (suc at) ks)

length-located : (run at : ℕ) (ks : List Bytes) → length (located_from run at ks) ≡ length ks
length-located run at [] = refl
length-located run at (k ∷ ks) = ap suc (length-located run (suc at) ks)

pub rising-located : {V : Type 0} (run : ℕ) (changes : Changes V) → IsRising changes → IsRising (located_from run 0 (keys_of changes))
rising-located run changes r = rw (keys_of-located run 0 (keys_of changes)) r

located_at : (run from : ℕ) (ks : List Bytes) (at place : ℕ) (k : Bytes) → place ≡ from + at → slice_get ks at ≡ Some k
    → drop at (located_from run from ks) ≡ (k, Some (record { word = first_word k; run = run; at = place })) ∷ drop (suc at) (located_from run from ks)
located_at run from [] at place k p h = absurd (cc)
located_at run from (j ∷ ks) zero place k p h =
    let s : j ≡ k = cc in
    let q : from ≡ place = omega (arith, p) in
    rw (s, q) refl
located_at run from (j ∷ ks) (suc at) place k p h = located_at run (suc from) ks at place k (omega (arith, p)) h

located_item : (run from : ℕ) (ks : List Bytes) (at place : ℕ) (k : Bytes) → place ≡ from + at → slice_get ks at ≡ Some k → slice_get (values_of (located_from run from ks)) at ≡ Some (Some (record { word = first_word k; run = run; at = place }))
located_item run from [] at place k p h = absurd (cc)
located_item run from (j ∷ ks) zero place k p h =
    let s : j ≡ k = cc in
    let q : from ≡ place = omega (arith, p) in
    rw (s, q) refl
located_item run from (j ∷ ks) (suc at) place k p h = located_item run (suc from) ks at place k (omega (arith, p)) h

pub located_drop : (run : ℕ) (ks : List Bytes) (at : ℕ) (k : Bytes) → slice_get ks at ≡ Some k → drop at (located_from run 0 ks) ≡ (k, Some (record { word = first_word k; run = run; at = at })) ∷ drop (suc at) (located_from run 0 ks)
located_drop run ks at k h = located_at run 0 ks at at k (omega arith) h

pub rising-newest : (runs : List (List Bytes)) → IsRising (newest_locators runs)
unfolding IsStrictlySortedBy
rising-newest [] = tt
rising-newest (run ∷ older) = rising-with_run (newest_locators older) (located_from (length older) 0 run) (rising-newest older)

-- ---- the list with one more run

module _ (runs : List (List Bytes)) (keys : List Bytes) (all : Pairs Locator) where
  abbrev More : List (List Bytes)
  More = runs ++ keys ∷ []

  abbrev pub Laid : List Locator → List Locator → ℕ → Type 0
  Laid merged rest at = keyed More merged ++ with_run (keyed runs rest) (drop at (located_from (length runs) 0 keys)) ≡ all

  -- one more change was merged
  pub merged-next : (merged rest below above now : List Locator) (at : ℕ) (k : Bytes) (l : Locator) → l ≡ record { word = first_word k; run = length runs; at = at } → IsRising (keyed runs rest) → IsRising (located_from (length runs) 0 keys)
      → slice_get keys at ≡ Some k → AllByRecursion (IsIn runs) below → with_pair (keyed runs rest) k l ≡ keyed runs below ++ (k, l) ∷ keyed runs above → now ≡ (merged ++ below) ++ l ∷ [] → Laid merged rest at → Laid now above (at + 1)
  merged-next merged rest below above now at k l e r s h a p i t =
      let later = drop (suc at) (located_from (length runs) 0 keys) in
      let here : drop at (located_from (length runs) 0 keys) ≡ (k, Some l) ∷ later = rw e (located_drop (length runs) keys at k h) in
      let rising : IsRising ((k, Some l) ∷ later) = rw here at (rising_after at (located_from (length runs) 0 keys) s) in
      let set : IsRising (keyed runs below ++ (k, l) ∷ keyed runs above) = rw p at (rising-with_pair (keyed runs rest) k l r) in
      let step : with_run (keyed runs rest) ((k, Some l) ∷ later) ≡ keyed runs below ++ (k, l) ∷ with_run (keyed runs above) later =
      ap (λ (es : Pairs Locator). with_run es later) p ∙ run_above (keyed runs below) (keyed runs above) k l later set (sorted_head order k (keys_of later) rising) in
      let key : key_at More l ≡ k = rw e (key_last runs keys (record { word = first_word k; run = length runs; at = at }) k refl h) in
      let mine : keyed More now ≡ keyed More merged ++ (keyed runs below ++ (k, l) ∷ []) =
      ap (keyed More) i ∙ keyed-append More (merged ++ below) (l ∷ []) ∙ ap (λ (es : Pairs Locator). es ++ keyed More (l ∷ [])) (keyed-append More merged below)
      ∙ append_assoc (keyed More merged) (keyed More below) (keyed More (l ∷ []))
      ∙ rw (keyed_still runs (keys ∷ []) below a, key) refl in
      rw (add-one, mine)
      (append_assoc (keyed More merged) (keyed runs below ++ (k, l) ∷ []) (with_run (keyed runs above) later)
      ∙ ap (λ (es : Pairs Locator). keyed More merged ++ es) (append_assoc (keyed runs below) ((k, l) ∷ []) (with_run (keyed runs above) later) ∙ sym step ∙ ap (λ (es : Changes Locator). with_run (keyed runs rest) es) (sym here))
      ∙ t)

  -- all were
  pub merged-all : (merged rest now : List Locator) (at : ℕ) → length keys ≤ at → AllByRecursion (IsIn runs) rest → now ≡ merged ++ rest → Laid merged rest at → keyed More now ≡ all
  merged-all merged rest now at n a i t =
      let long = length-located (length runs) 0 keys in
      let none : with_run (keyed runs rest) (drop at (located_from (length runs) 0 keys)) ≡ keyed runs rest = run_past (keyed runs rest) (located_from (length runs) 0 keys) at (omega (arith, n, long)) in
      ap (keyed More) i ∙ keyed-append More merged rest ∙ ap (λ (es : Pairs Locator). keyed More merged ++ es) (keyed_still runs (keys ∷ []) rest a ∙ sym none) ∙ t

-- ---- the list without the newest run

module _ (newest : Pairs Locator) where
  -- the keys that are still there, each with what it has there
  abbrev pub Left : Pairs Locator → Pairs Locator
  Left [] = []
  Left (e ∷ es) = pair_if e.0 (value_at e.0 newest) ++ Left es

  abbrev some_or : Option Locator → Option Locator → Option Locator
  some_or None r = r
  some_or (Some l) r = Some l

  same_either : (b : Bool) (o : Option Locator) → o ≡ cond b o o
  same_either true o = refl
  same_either false o = refl

  value_at_if : (q k : Bytes) (o : Option Locator) (rest : Pairs Locator) → value_at q (pair_if k o ++ rest) ≡ cond (is_eq (order q k)) (some_or o (value_at q rest)) (value_at q rest)
  value_at_if q k None rest = same_either (is_eq (order q k)) (value_at q rest)
  value_at_if q k (Some l) rest = refl

  left_by : (b : Bool) (q k : Bytes) (l : Locator) (rest : Pairs Locator) (whole : Pairs Locator) → is_eq (order q k) ≡ b
      → value_at q rest ≡ cond (is_some (value_at q whole)) (value_at q newest) None
      → cond b (some_or (value_at k newest) (value_at q rest)) (value_at q rest) ≡ cond (is_some (cond b (Some l) (value_at q whole))) (value_at q newest) None
  left_by false q k l rest whole e h = h
  left_by true q k l rest whole e h = rw (passes_same q k e) (absent (value_at k newest) (is_some (value_at k whole)) (value_at k rest) (rw (passes_same q k e) at h))
    where
      absent : (o : Option Locator) (b : Bool) (r : Option Locator) → r ≡ cond b o None → some_or o r ≡ o
      absent None true r h = h
      absent None false r h = h
      absent (Some l) b r h = refl

  pub value_at-left : (whole : Pairs Locator) (q : Bytes) → value_at q (Left whole) ≡ cond (is_some (value_at q whole)) (value_at q newest) None
  value_at-left [] q = refl
  value_at-left (e ∷ es) q = value_at_if q e.0 (value_at e.0 newest) (Left es) ∙ left_by (is_eq (order q e.0)) q e.0 e.1 (Left es) es refl (value_at-left es q)

  below_if : (j k : Bytes) (o : Option Locator) (rest : Pairs Locator) → order j k ≡ Less → IsBelowAll j (keys_of rest) → IsBelowAll j (keys_of (pair_if k o ++ rest))
  below_if j k None rest l a = a
  below_if j k (Some x) rest l a = (l, a)

  below-left : (j : Bytes) (es : Pairs Locator) → IsBelowAll j (keys_of es) → IsBelowAll j (keys_of (Left es))
  below-left j [] a = tt
  below-left j (e ∷ es) a = below_if j e.0 (value_at e.0 newest) (Left es) a.0 (below-left j es a.1)

  rising_if : (k : Bytes) (o : Option Locator) (rest : Pairs Locator) → IsBelowAll k (keys_of rest) → IsRising rest → IsRising (pair_if k o ++ rest)
  unfolding IsStrictlySortedBy
  rising_if k None rest a r = r
  rising_if k (Some l) rest a r = (a, r)

  rising-left : (es : Pairs Locator) → IsRising es → IsRising (Left es)
  rising-left [] r = r
  rising-left (e ∷ es) r = rising_if e.0 (value_at e.0 newest) (Left es) (below-left e.0 es (sorted_head order e.0 (keys_of es) r)) (rising-left es (sorted_tail order e.0 (keys_of es) r))

  -- a change that isn't a deletion
  abbrev IsKept : Option (Option Locator) → Type 0
  IsKept None = ⊤
  IsKept (Some None) = ⊥
  IsKept (Some (Some l)) = ⊤

  kept_by : (b : Bool) (l : Locator) (x : Option (Option Locator)) → IsKept x → IsKept (cond b (Some (Some l)) x)
  kept_by true l x k = tt
  kept_by false l x k = k

  kept_located : (run at : ℕ) (ks : List Bytes) (q : Bytes) → IsKept (value_at q (located_from run at ks))
  kept_located run at [] q = tt
  kept_located run at (k ∷ ks) q = kept_by (is_eq (order q k)) (record { word = first_word k; run = run; at = at }) (value_at q (located_from run (suc at) ks)) (kept_located run (suc at) ks q)

  there_still : (x : Option (Option Locator)) (o : Option Locator) → IsKept x → cond (is_some (change_or x o)) o None ≡ o
  there_still None None k = refl
  there_still None (Some l) k = refl
  there_still (Some None) o k = absurd k
  there_still (Some (Some l)) o k = refl

  -- those of the newest run's keys that are still there, and all others, are the list without it
  pub left_newest : (run : ℕ) (keys : List Bytes) → IsRising newest → IsRising (located_from run 0 keys) → Left (with_run newest (located_from run 0 keys)) ≡ newest
  left_newest run keys r s =
      let whole = with_run newest (located_from run 0 keys) in
      same_map (Left whole) newest (rising-left whole (rising-with_run newest (located_from run 0 keys) r)) r
      (λ q. value_at-left whole q
      ∙ ap (λ (o : Option Locator). cond (is_some o) (value_at q newest) None) (value_at-with_run newest (located_from run 0 keys) q r s)
      ∙ there_still (value_at q (located_from run 0 keys)) (value_at q newest) (kept_located run 0 keys q))

-- one more place of the list was passed
module _ (runs : List (List Bytes)) (keys : List Bytes) where
  abbrev pub Whole : List (List Bytes)
  Whole = runs ++ keys ∷ []

  abbrev pub Passed : List Locator → List Locator → ℕ → ℕ → Type 0
  Passed old now kept at = keyed runs (take kept now) ++ Left (newest_locators (reverse runs)) (keyed Whole (drop at old)) ≡ newest_locators (reverse runs)

  rest_of : (old : List Locator) (at : ℕ) (l : Locator) → slice_get old at ≡ Some l → drop at old ≡ l ∷ drop (suc at) old
  rest_of [] at l h = absurd (cc)
  rest_of (x ∷ xs) zero l h = let s : x ≡ l = cc in ap (λ (y : Locator). y ∷ xs) s
  rest_of (x ∷ xs) (suc at) l h = rest_of xs at l h

  -- it has an older change
  pub passed_kept : (old now : List Locator) (kept at : ℕ) (l under : Locator) (k : Bytes) → slice_get old at ≡ Some l → kept < length now → key_at Whole l ≡ k → key_at runs under ≡ k → Some under ≡ value_at k (newest_locators (reverse runs))
      → Passed old now kept at → Passed old (set now kept under) (kept + 1) (at + 1)
  passed_kept old now kept at l under k h n s u f t =
      let mine : keyed runs (take (suc kept) (set now kept under)) ≡ keyed runs (take kept now) ++ (k, under) ∷ [] =
      ap (keyed runs) (take-set now kept under n) ∙ keyed-append runs (take kept now) (under ∷ []) ∙ rw u refl in
      let here : Left (newest_locators (reverse runs)) (keyed Whole (drop at old)) ≡ (k, under) ∷ Left (newest_locators (reverse runs)) (keyed Whole (drop (suc at) old)) =
      rw (rest_of old at l h, s, ← f) refl in
      simp add-one (rw mine (append_assoc (keyed runs (take kept now)) ((k, under) ∷ []) (Left (newest_locators (reverse runs)) (keyed Whole (drop (suc at) old)))
      ∙ ap (λ (es : Pairs Locator). keyed runs (take kept now) ++ es) (sym here) ∙ t))

  -- it has none
  pub passed_gone : (old now : List Locator) (kept at : ℕ) (l : Locator) (k : Bytes) → slice_get old at ≡ Some l → key_at Whole l ≡ k → None ≡ value_at k (newest_locators (reverse runs)) → Passed old now kept at → Passed old now kept (at + 1)
  passed_gone old now kept at l k h s f t =
      let here : Left (newest_locators (reverse runs)) (keyed Whole (drop at old)) ≡ Left (newest_locators (reverse runs)) (keyed Whole (drop (suc at) old)) =
      rw (rest_of old at l h, s, ← f) refl in
      rw add-one (ap (λ (es : Pairs Locator). keyed runs (take kept now) ++ es) (sym here) ∙ t)

  -- before the first one
  pub passed_none : (old : List Locator) → keyed Whole old ≡ newest_locators (reverse Whole) → IsRising (located_from (length (reverse runs)) 0 keys) → Passed old old 0 0
  passed_none old h r =
      let is : newest_locators (reverse Whole) ≡ with_run (newest_locators (reverse runs)) (located_from (length (reverse runs)) 0 keys) = ap newest_locators (reverse-following runs keys) in
      ap (Left (newest_locators (reverse runs))) (h ∙ is) ∙ left_newest (newest_locators (reverse runs)) (length (reverse runs)) keys (rising-newest (reverse runs)) r

  -- after the last one
  pub passed_all : (old now : List Locator) (kept at : ℕ) → length old ≤ at → Passed old now kept at → keyed runs (take kept now) ≡ newest_locators (reverse runs)
  passed_all old now kept at n t = sym (append-nil (keyed runs (take kept now))) ∙ ap (λ (ls : List Locator). keyed runs (take kept now) ++ Left (newest_locators (reverse runs)) (keyed Whole ls)) (sym (past old at n)) ∙ t
    where
      past : (xs : List Locator) (n : ℕ) → length xs ≤ n → drop n xs ≡ []
      past [] zero h = refl
      past [] (suc n) h = refl
      past (x ∷ xs) zero h = absurd (omega arith)
      past (x ∷ xs) (suc n) h = let l : length xs ≤ n = omega arith in past xs n l

-- ---- what a page holds, by the list

none_by_keys : {S T : Type 0} (xs : Pairs S) (ys : Pairs T) (q : Bytes) → keys_of xs ≡ keys_of ys → value_at q xs ≡ None → value_at q ys ≡ None
none_by_keys [] [] q e h = refl
none_by_keys [] (y ∷ ys) q e h = absurd (cc)
none_by_keys (x ∷ xs) [] q e h = absurd (cc)
none_by_keys (x ∷ xs) (y ∷ ys) q e h =
    let first : x.0 ≡ y.0 = cc in
    let rest : keys_of xs ≡ keys_of ys = cc in
    by (is_eq (order q x.0)) refl (ap (λ (k : Bytes). is_eq (order q k)) first) (none_by_keys xs ys q rest)
  where
    by : (b : Bool) → is_eq (order q x.0) ≡ b → is_eq (order q x.0) ≡ is_eq (order q y.0) → (value_at q xs ≡ None → value_at q ys ≡ None) → value_at q (y ∷ ys) ≡ None
    by true t s f = absurd (let said : Some x.1 ≡ None = sym (rw t refl) ∙ h in cc)
    by false t s f = rw (← s, t) (f (sym (rw t refl) ∙ h))

module _ {V : Type 0} where
  abbrev Found : ℕ → ℕ → Bytes → Changes V → Option V → Locator → Type 0
  Found run from q changes o l = (l.run ≡ run) × ((at : ℕ) × ((l.at ≡ from + at) × (get_or (values_of changes) at None ≡ o) × (slice_get (keys_of changes) at ≡ Some q)))

  abbrev Located : ℕ → ℕ → Bytes → Changes V → Option V → Type 0
  Located run from q changes o = (l : Locator) × ((value_at q (located_from run from (keys_of changes)) ≡ Some (Some l)) × Found run from q changes o l)

  located_here : (run from : ℕ) (c : Bytes × Option V) (cs : Changes V) (q : Bytes) (o : Option V) → is_eq (order q c.0) ≡ true → c.1 ≡ o → Located run from q (c ∷ cs) o
  located_here run from c cs q o t e = (record { word = first_word c.0; run = run; at = from }, (rw t refl, (refl, (0, (omega arith, e, ap (λ (j : Bytes). Some j) (sym (passes_same q c.0 t)))))))

  located_past : (run from : ℕ) (c : Bytes × Option V) (cs : Changes V) (q : Bytes) (o : Option V) → is_eq (order q c.0) ≡ false → Located run (suc from) q cs o → Located run from q (c ∷ cs) o
  located_past run from c cs q o t rest = (rest.0, (rw t rest.1.0, (rest.1.1.0, (suc rest.1.1.1.0, (omega (arith, rest.1.1.1.1.0), rest.1.1.1.1.1, rest.1.1.1.1.2)))))

  first_said : (b : Bool) (c o : Option V) (rest : Option (Option V)) → b ≡ true → cond b (Some c) rest ≡ Some o → c ≡ o
  first_said true c o rest e h = cc
  first_said false c o rest e h = absurd (cc)

  rest_said : (b : Bool) (c o : Option V) (rest : Option (Option V)) → b ≡ false → cond b (Some c) rest ≡ Some o → rest ≡ Some o
  rest_said true c o rest e h = absurd (cc)
  rest_said false c o rest e h = h

  -- the locator of a key of a run is that of its change
  located_value : (run from : ℕ) (changes : Changes V) (q : Bytes) (o : Option V) → value_at q changes ≡ Some o → Located run from q changes o
  located_value run from [] q o h = absurd (cc)
  located_value run from (c ∷ cs) q o h = by (located_value run (suc from) cs q o) (is_eq (order q c.0)) refl
    where
      by : (value_at q cs ≡ Some o → Located run (suc from) q cs o) → (b : Bool) → is_eq (order q c.0) ≡ b → Located run from q (c ∷ cs) o
      by f true t = located_here run from c cs q o t (first_said (is_eq (order q c.0)) c.1 o (value_at q cs) t h)
      by f false t = located_past run from c cs q o t (f (rest_said (is_eq (order q c.0)) c.1 o (value_at q cs) t h))

  keys_of_runs-reverse : (runs : List (Changes V)) → keys_of_runs (reverse runs) ≡ reverse (keys_of_runs runs)
  keys_of_runs-reverse [] = refl
  keys_of_runs-reverse (run ∷ runs) =
      ap keys_of_runs (reverse-append (run ∷ []) runs) ∙ keys_of_runs-append (reverse runs) (run ∷ [])
      ∙ ap (λ (ks : List (List Bytes)). ks ++ keys_of run ∷ []) (keys_of_runs-reverse runs) ∙ sym (reverse-append (keys_of run ∷ []) (keys_of_runs runs))

  -- the changes that the runs, which are given newest first, come to at a key, by the list
  abbrev Says : List (Changes V) → Bytes → Option Locator → Type 0
  Says runs q None = value_at q (joined_changes runs) ≡ None
  Says runs q (Some l) = (value_at q (joined_changes runs) ≡ Some (change_at (reverse runs) l)) × (l.run < length runs)

  says_older : (run : Changes V) (older : List (Changes V)) (q : Bytes) (o : Option Locator) → value_at q (joined_changes (run ∷ older)) ≡ value_at q (joined_changes older) → Says older q o → Says (run ∷ older) q o
  says_older run older q None n h = n ∙ h
  says_older run older q (Some l) n h =
      let long = length-reverse older in
      let there : get_or (reverse older ++ run ∷ []) l.run [] ≡ get_or (reverse older) l.run [] = get_or-first (reverse older) (run ∷ []) l.run [] (omega (arith, h.1, long)) in
      let same : change_at (reverse (run ∷ older)) l ≡ change_at (reverse older) l =
      ap (λ (rs : List (Changes V)). change_at rs l) (reverse-append (run ∷ []) older) ∙ ap (λ (r : Changes V). get_or (values_of r) l.at None) there in
      (n ∙ h.0 ∙ ap (λ (o : Option V). Some o) (sym same), omega (arith, h.1))

  says_newest : (n : ℕ) (run : Changes V) (older : List (Changes V)) (q : Bytes) (c : Option V) (l : Locator) → n ≡ length older → value_at q (joined_changes (run ∷ older)) ≡ Some c → Found n 0 q run c l → Says (run ∷ older) q (Some l)
  says_newest n run older q c l e s f =
      let long = length-reverse older in
      let there : get_or (reverse older ++ run ∷ []) l.run [] ≡ run = get_or-after (reverse older) run l.run [] (omega (arith, e, f.0, long)) in
      let place : l.at ≡ f.1.0 = omega (arith, f.1.1.0) in
      let is : change_at (reverse (run ∷ older)) l ≡ c =
      ap (λ (rs : List (Changes V)). change_at rs l) (reverse-append (run ∷ []) older) ∙ ap (λ (r : Changes V). get_or (values_of r) l.at None) there
      ∙ ap (λ (i : ℕ). get_or (values_of run) i None) place ∙ f.1.1.1 in
      (s ∙ ap (λ (o : Option V). Some o) (sym is), omega (arith, e, f.0))

  abbrev pub Locators : List (Changes V) → Pairs Locator
  Locators runs = newest_locators (keys_of_runs runs)

  says_by : (run : Changes V) (older : List (Changes V)) (q : Bytes) (o : Option (Option V)) → value_at q run ≡ o → IsRising run → AllRise {V = V} older [] → Says older q (value_at q (Locators older)) → Says (run ∷ older) q (value_at q (Locators (run ∷ older)))
  says_by run older q None h r a s =
      let n = length (keys_of_runs older) in
      let none : value_at q (located_from n 0 (keys_of run)) ≡ None = none_by_keys run (located_from n 0 (keys_of run)) q (sym (keys_of-located n 0 (keys_of run))) h in
      let laid : value_at q (Locators (run ∷ older)) ≡ value_at q (Locators older) =
      value_at-with_run (Locators older) (located_from n 0 (keys_of run)) q (rising-newest (keys_of_runs older)) (rising-located n run r) ∙ ap (λ (x : Option (Option Locator)). change_or x (value_at q (Locators older))) none in
      let joined : value_at q (joined_changes (run ∷ older)) ≡ value_at q (joined_changes older) =
      value_at-overlaid (joined_changes older) run q (rising-joined_changes older [] a) r ∙ ap (λ (x : Option (Option V)). change_or (reported x) (value_at q (joined_changes older))) h in
      rw laid (says_older run older q (value_at q (Locators older)) joined s)
  says_by run older q (Some c) h r a s =
      let n = length (keys_of_runs older) in
      let f = located_value n 0 run q c h in
      let many : n ≡ length older = length-keys_of_runs older in
      let laid : value_at q (Locators (run ∷ older)) ≡ Some f.0 =
      value_at-with_run (Locators older) (located_from n 0 (keys_of run)) q (rising-newest (keys_of_runs older)) (rising-located n run r) ∙ ap (λ (x : Option (Option Locator)). change_or x (value_at q (Locators older))) f.1.0 in
      let joined : value_at q (joined_changes (run ∷ older)) ≡ Some c =
      value_at-overlaid (joined_changes older) run q (rising-joined_changes older [] a) r ∙ ap (λ (x : Option (Option V)). change_or (reported x) (value_at q (joined_changes older))) h in
      rw laid (says_newest n run older q c f.0 many joined f.1.1)

  says : (runs : List (Changes V)) (q : Bytes) → AllRise {V = V} runs [] → Says runs q (value_at q (Locators runs))
  says [] q a = refl
  says (run ∷ older) q a = says_by run older q (value_at q run) refl a.0 a.1 (says older q a.1)

-- ---- of a chain, whose runs are given oldest first

module _ {V : Type 0} where
  pub keys_push : (runs now : List (Changes V)) (run : Changes V) → now ≡ runs ++ run ∷ [] → keys_of_runs now ≡ keys_of_runs runs ++ keys_of run ∷ []
  keys_push runs now run i = ap keys_of_runs i ∙ keys_of_runs-append runs (run ∷ [])

  none_below : (runs : List (Changes V)) (base : Pairs V) → AllRise runs base → AllRise {V = V} runs []
  none_below [] base a = rising-none V
  none_below (run ∷ runs) base a = (a.0, none_below runs base a.1)

module _ {V : Type 0} (runs : List (Changes V)) (base : Pairs V) (a : AllRise (reverse runs) base) where
  said : (q : Bytes) → Says (reverse runs) q (value_at q (newest_locators (reverse (keys_of_runs runs))))
  said q = rw (← keys_of_runs-reverse runs) (says (reverse runs) q (none_below (reverse runs) base a))

  held-by : (q : Bytes) (o : Option (Option V)) → value_at q (joined_changes (reverse runs)) ≡ o → held_under q (reverse runs) base ≡ change_or o (value_at q base)
  held-by q o s = sym (held-joined_changes (reverse runs) base q a) ∙ ap (λ (x : Option (Option V)). change_or x (value_at q base)) s

  pub held-found : (q : Bytes) (l : Locator) → Some l ≡ value_at q (newest_locators (reverse (keys_of_runs runs))) → held_under q (reverse runs) base ≡ change_at runs l
  held-found q l is =
      let both = rw (← is) at (said q) in
      held-by q (Some (change_at (reverse (reverse runs)) l)) both.0 ∙ ap (λ (rs : List (Changes V)). change_at rs l) (reverse-reverse runs)

  pub held-missing : (q : Bytes) → None ≡ value_at q (newest_locators (reverse (keys_of_runs runs))) → held_under q (reverse runs) base ≡ value_at q base
  held-missing q is = let none = rw (← is) at (said q) in held-by q None none

-- ---- a search in the list

module _ (runs : List (List Bytes)) (ls : List Locator) (h : AreNewest runs ls) where
  pub rising-listed : IsRising (keyed runs ls)
  rising-listed = rw h.keys (rising-newest (reverse runs))

  pub listed-here : (k : Bytes) (at : ℕ) (l : Locator) → value_at k (keyed runs ls) ≡ slice_get (values_of (keyed runs ls)) at → slice_get ls at ≡ Some l → Some l ≡ value_at k (newest_locators (reverse runs))
  listed-here k at l w s =
      sym s ∙ sym (ap (λ (xs : List Locator). slice_get xs at) (values_keyed runs ls)) ∙ sym w ∙ ap (λ (es : Pairs Locator). value_at k es) h.keys

  pub listed-nowhere : (k : Bytes) → value_at k (keyed runs ls) ≡ None → None ≡ value_at k (newest_locators (reverse runs))
  listed-nowhere k n = sym n ∙ ap (λ (es : Pairs Locator). value_at k es) h.keys

module _ (runs : List (List Bytes)) (ls : List Locator) (k : Bytes) (at : ℕ) (l : Locator) where
  pub key-here : slice_get (keys_of (keyed runs ls)) at ≡ Some k → slice_get ls at ≡ Some l → key_at runs l ≡ k
  key-here h s = let there = key_keyed runs ls at l s in by (key_at runs l) (sym there ∙ h)
    where
      by : (j : Bytes) → Some j ≡ Some k → j ≡ k
      by j e = cc

-- ---- the changes at locators

module _ {V : Type 0} where
  keys_of-changes_of : (runs : List (Changes V)) (ls : List Locator) → keys_of (changes_of runs ls) ≡ keys_of (keyed (keys_of_runs runs) ls)
  keys_of-changes_of runs [] = refl
  keys_of-changes_of runs (l ∷ ls) = ap (λ (ks : List Bytes). key_at (keys_of_runs runs) l ∷ ks) (keys_of-changes_of runs ls)

  abbrev ChangeOf : List (Changes V) → Option Locator → Option (Option V)
  ChangeOf runs None = None
  ChangeOf runs (Some l) = Some (change_at runs l)

  change_by : (b : Bool) (runs : List (Changes V)) (l : Locator) (o : Option Locator) → cond b (Some (change_at runs l)) (ChangeOf runs o) ≡ ChangeOf runs (cond b (Some l) o)
  change_by true runs l o = refl
  change_by false runs l o = refl

  value_at-changes_of : (runs : List (Changes V)) (ls : List Locator) (q : Bytes) → value_at q (changes_of runs ls) ≡ ChangeOf runs (value_at q (keyed (keys_of_runs runs) ls))
  value_at-changes_of runs [] q = refl
  value_at-changes_of runs (l ∷ ls) q =
      ap (λ (o : Option (Option V)). cond (is_eq (order q (key_at (keys_of_runs runs) l))) (Some (change_at runs l)) o) (value_at-changes_of runs ls q)
      ∙ change_by (is_eq (order q (key_at (keys_of_runs runs) l))) runs l (value_at q (keyed (keys_of_runs runs) ls))

  said_change : (runs : List (Changes V)) (q : Bytes) (o : Option Locator) → Says (reverse runs) q o → ChangeOf runs o ≡ value_at q (joined_changes (reverse runs))
  said_change runs q None h = sym h
  said_change runs q (Some l) h = ap (λ (rs : List (Changes V)). Some (change_at rs l)) (sym (reverse-reverse runs)) ∙ sym h.0

  pub rising_changes : (runs : List (Changes V)) (ls : List Locator) → AreNewest (keys_of_runs runs) ls → IsRising (changes_of runs ls)
  rising_changes runs ls h = rw (keys_of-changes_of runs ls) (rising-listed (keys_of_runs runs) ls h)

  -- those at the newest locators are the merged changes
  changes_joined : (runs : List (Changes V)) (ls : List Locator) → AreNewest (keys_of_runs runs) ls → AllRise {V = V} (reverse runs) [] → changes_of runs ls ≡ joined_changes (reverse runs)
  changes_joined runs ls h a =
      let says_at = said runs [] a in
      same_map (changes_of runs ls) (joined_changes (reverse runs)) (rising_changes runs ls h) (rising-joined_changes (reverse runs) [] a)
      (λ q. value_at-changes_of runs ls q ∙ ap (λ (es : Pairs Locator). ChangeOf runs (value_at q es)) h.keys ∙ said_change runs q (value_at q (newest_locators (reverse (keys_of_runs runs)))) (says_at q))

-- ---- the places of the list

module _ (runs : List (List Bytes)) (ls : List Locator) where
  pub there_in : (at : ℕ) (d : Locator) → at < length ls → AllByRecursion (IsIn runs) ls → IsIn runs (get_or ls at d)
  there_in at d l a = all-there (IsIn runs) ls at (get_or ls at d) a (slice_get-get_or ls at d l)

  pub key_there_in : (at : ℕ) (d : Locator) → at < length ls → slice_get (keys_of (keyed runs ls)) at ≡ Some (key_at runs (get_or ls at d))
  key_there_in at d l = key_keyed runs ls at (get_or ls at d) (slice_get-get_or ls at d l)

-- what setting a key gives, by the bounds of the place where it is
pub apart_rest : (runs : List (List Bytes)) (ls : List Locator) (below above : ℕ) (k : Bytes) (l : Locator) → with_pair (keyed runs ls) k l ≡ keyed runs (take below ls) ++ (k, l) ∷ keyed runs (drop above ls)
    → with_pair (keyed runs ls) k l ≡ keyed runs (take below ls) ++ (k, l) ∷ keyed runs (take (length ls - above) (drop above ls))
apart_rest runs ls below above k l h = rw (take_rest ls above) h

pub all_rest : (runs : List (List Bytes)) (ls : List Locator) (at : ℕ) → AllByRecursion (IsIn runs) ls → AllByRecursion (IsIn runs) (take (length ls - at) (drop at ls))
all_rest runs ls at a = all-take (IsIn runs) (length ls - at) (drop at ls) (all-drop (IsIn runs) at ls a)

-- ---- the newest of a list of runs

module _ {V : Type 0} (runs older : List (Changes V)) (run : Changes V) (i : runs ≡ older ++ run ∷ []) (r : IsRising run) where
  keys_split : keys_of_runs runs ≡ keys_of_runs older ++ keys_of run ∷ []
  keys_split = keys_push older runs run i

  value_laid : (q : Bytes) → value_at q (newest_locators (reverse (keys_of_runs runs))) ≡ change_or (value_at q (located_from (length (reverse (keys_of_runs older))) 0 (keys_of run))) (value_at q (newest_locators (reverse (keys_of_runs older))))
  value_laid q =
      ap (λ (ks : List (List Bytes)). value_at q (newest_locators (reverse ks))) keys_split
      ∙ ap (λ (ks : List (List Bytes)). value_at q (newest_locators ks)) (reverse-following (keys_of_runs older) (keys_of run))
      ∙ value_at-with_run (newest_locators (reverse (keys_of_runs older))) (located_from (length (reverse (keys_of_runs older))) 0 (keys_of run)) q (rising-newest (reverse (keys_of_runs older))) (rising-located (length (reverse (keys_of_runs older))) run r)

  pub numbered-older : AreNumbered (keys_of_runs runs) → AreNumbered (keys_of_runs older)
  numbered-older h = numbered-pop (keys_of_runs older) (keys_of run) (rw keys_split at h)

  pub number_of-older : AreNumbered (keys_of_runs runs) → length older < 2 ^ 32
  number_of-older h =
      let less = number_fits (keys_of_runs older) (keys_of run) (rw keys_split at h) in
      let many = length-keys_of_runs older in
      omega (arith, less, many)

  pub place_of-run : (at : ℕ) → AreNumbered (keys_of_runs runs) → at < length run → at < 2 ^ 32
  place_of-run at h l =
      let many = length-keys_of run in
      place_fits (keys_of_runs older) (keys_of run) at (rw keys_split at h) (omega (arith, l, many))

  -- it contains the key
  pub newest-here : (q : Bytes) (at : ℕ) (l : Locator) → slice_get (keys_of run) at ≡ Some q → l ≡ record { word = first_word q; run = length older; at = at } → Some l ≡ value_at q (newest_locators (reverse (keys_of_runs runs)))
  newest-here q at l h e =
      let n = length (reverse (keys_of_runs older)) in
      let many : n ≡ length older = length-reverse (keys_of_runs older) ∙ length-keys_of_runs older in
      let key : slice_get (keys_of (located_from n 0 (keys_of run))) at ≡ Some q = rw (keys_of-located n 0 (keys_of run)) h in
      let item : slice_get (values_of (located_from n 0 (keys_of run))) at ≡ Some (Some (record { word = first_word q; run = n; at = at })) = located_item n 0 (keys_of run) at at q (omega arith) h in
      let found : value_at q (located_from n 0 (keys_of run)) ≡ Some (Some (record { word = first_word q; run = n; at = at })) = value_at-found (located_from n 0 (keys_of run)) at q (rising-located n run r) key ∙ item in
      sym (value_laid q ∙ ap (λ (x : Option (Option Locator)). change_or x (value_at q (newest_locators (reverse (keys_of_runs older))))) found
      ∙ ap (λ (m : ℕ). Some (record { word = first_word q; run = m; at = at })) many ∙ ap (λ (x : Locator). Some x) (sym e))

  pub in-here : (q : Bytes) (at : ℕ) (l : Locator) → slice_get (keys_of run) at ≡ Some q → l ≡ record { word = first_word q; run = length older; at = at } → AreBytes q → IsIn (keys_of_runs runs) l × (key_at (keys_of_runs runs) l ≡ q)
  in-here q at l h e b =
      let number : l.run ≡ length (keys_of_runs older) = ap (λ (x : Locator). x.run) e ∙ sym (length-keys_of_runs older) in
      let place : slice_get (keys_of run) l.at ≡ Some q = ap (λ (x : Locator). slice_get (keys_of run) x.at) e ∙ h in
      let word : l.word ≡ first_word q = ap (λ (x : Locator). x.word) e in
      (rw keys_split (is_in_last (keys_of_runs older) (keys_of run) l q number place (word, b)), rw keys_split (key_last (keys_of_runs older) (keys_of run) l q number place))

  -- it does not
  pub newest-below : (q : Bytes) (o : Option Locator) → value_at q run ≡ None → o ≡ value_at q (newest_locators (reverse (keys_of_runs older))) → o ≡ value_at q (newest_locators (reverse (keys_of_runs runs)))
  newest-below q o n h =
      let k = length (reverse (keys_of_runs older)) in
      let none : value_at q (located_from k 0 (keys_of run)) ≡ None = none_by_keys run (located_from k 0 (keys_of run)) q (sym (keys_of-located k 0 (keys_of run))) n in
      h ∙ sym (value_laid q ∙ ap (λ (x : Option (Option Locator)). change_or x (value_at q (newest_locators (reverse (keys_of_runs older))))) none)

  pub in-below : (q : Bytes) (l : Locator) → IsIn (keys_of_runs older) l × (key_at (keys_of_runs older) l ≡ q) → IsIn (keys_of_runs runs) l × (key_at (keys_of_runs runs) l ≡ q)
  in-below q l h = (rw keys_split (still_in (keys_of_runs older) (keys_of run ∷ []) l h.0), rw keys_split (key_still (keys_of_runs older) (keys_of run ∷ []) l h.0 ∙ h.1))

  pub in-below-any : (q : Bytes) (o : Option Locator) → IfSome o (λ l. IsIn (keys_of_runs older) l × (key_at (keys_of_runs older) l ≡ q)) → IfSome o (λ l. IsIn (keys_of_runs runs) l × (key_at (keys_of_runs runs) l ≡ q))
  in-below-any q None h = h
  in-below-any q (Some l) h = in-below q l h

-- ---- the list without its newest run, place by place

module _ {X : Type 0} where
  -- the same rest has the same first
  pub read_rest : (now old : List X) (at : ℕ) (d : X) → drop at now ≡ drop at old → at < length now → get_or now at d ≡ get_or old at d
  read_rest now old zero d h l = ap (λ (xs : List X). get_or xs 0 d) h
  read_rest [] old (suc at) d h l = absurd (omega arith)
  read_rest (x ∷ now) [] (suc at) d h l = past now at d h (omega arith)
    where
      past : (xs : List X) (n : ℕ) (d : X) → drop n xs ≡ [] → n < length xs → get_or xs n d ≡ d
      past [] n d h l = absurd (omega arith)
      past (x ∷ xs) zero d h l = absurd (cc)
      past (x ∷ xs) (suc n) d h l = past xs n d h (omega arith)
  read_rest (x ∷ now) (y ∷ old) (suc at) d h l = read_rest now old at d h (omega arith)

pub number_within : (runs : List (List Bytes)) (keys : List Bytes) (l : Locator) → IsIn (runs ++ keys ∷ []) l → l.run ≤ length runs
number_within runs keys l h = let many = length-append runs (keys ∷ []) in omega (arith, h.run, many)

module _ {T : Type 0} where
  pub rising_above : (es below above : Pairs T) (k : Bytes) (t : T) → IsRising es → with_pair es k t ≡ below ++ (k, t) ∷ above → IsRising above
  rising_above es below above k t r h =
      let all : IsRising (below ++ (k, t) ∷ above) = rw (← h) (rising-with_pair es k t r) in
      sorted_tail order k (keys_of above) (rising_rest below ((k, t) ∷ above) all)

-- the run laid over the list gives the locators of all runs
pub newest_with : (runs : List (List Bytes)) (keys : List Bytes) (ls : List Locator) → keyed runs ls ≡ newest_locators (reverse runs) → with_run (keyed runs ls) (located_from (length runs) 0 keys) ≡ newest_locators (reverse (runs ++ keys ∷ []))
newest_with runs keys ls h =
    ap (λ (es : Pairs Locator). with_run es (located_from (length runs) 0 keys)) h
    ∙ ap (λ (n : ℕ). with_run (newest_locators (reverse runs)) (located_from n 0 keys)) (sym (length-reverse runs))
    ∙ ap newest_locators (sym (reverse-following runs keys))

-- the locator of the key at a place of the newest run
module _ {V : Type 0} (runs : List (Changes V)) (keys : List Bytes) (l : Locator) (at : ℕ) (k : Bytes) (e : l ≡ record { word = first_word k; run = length runs; at = at }) where
  pub locator_is : l ≡ record { word = first_word k; run = length (keys_of_runs runs); at = at }
  locator_is = e ∙ ap (λ (n : ℕ). record { word = first_word k; run = n; at = at }) (sym (length-keys_of_runs runs))

  pub is_in_newest : slice_get keys at ≡ Some k → AreBytes k → IsIn (keys_of_runs runs ++ keys ∷ []) l
  is_in_newest h b =
      let number : l.run ≡ length (keys_of_runs runs) = ap (λ (x : Locator). x.run) e ∙ sym (length-keys_of_runs runs) in
      let place : slice_get keys l.at ≡ Some k = ap (λ (x : Locator). slice_get keys x.at) e ∙ h in
      let word : l.word ≡ first_word k = ap (λ (x : Locator). x.word) e in
      is_in_last (keys_of_runs runs) keys l k number place (word, b)

pub old_there : (now old : List Locator) (at : ℕ) (l : Locator) → length now ≡ length old → drop at now ≡ drop at old → at < length old → l ≡ get_or now at l → slice_get old at ≡ Some l
old_there now old at l e h n i = slice_get_read old (length old) at l refl n (i ∙ read_rest now old at l h (omega (arith, e, n)))

module _ {V : Type 0} (older : List (Changes V)) (newest run : Changes V) (l : Locator) (is : get_or (older ++ newest ∷ []) l.run [] ≡ run) where
  all_keys : keys_of_runs (older ++ newest ∷ []) ≡ keys_of_runs older ++ keys_of newest ∷ []
  all_keys = keys_of_runs-append older (newest ∷ [])

  run_has : get_or (keys_of_runs older ++ keys_of newest ∷ []) l.run [] ≡ keys_of run
  run_has = ap (λ (ks : List (List Bytes)). get_or ks l.run []) (sym all_keys) ∙ keys_there (older ++ newest ∷ []) l.run ∙ ap (λ (r : Changes V). keys_of r) is

  pub at_run : IsIn (keys_of_runs older ++ keys_of newest ∷ []) l → l.at < length run
  at_run h =
      let within : l.at < length (keys_of run) = rw run_has at h.at in
      let many = length-keys_of run in
      omega (arith, within, many)

  pub key_run : (k : Bytes) → slice_get (keys_of run) l.at ≡ Some k → key_at (keys_of_runs older ++ keys_of newest ∷ []) l ≡ k
  key_run k h = ap (λ (ks : List Bytes). get_or ks l.at []) run_has ∙ (get_or-there (keys_of run) l.at [] k h).1

-- ---- the page's entries by the list

module _ {V : Type 0} where
  pub key_change : (runs : List (Changes V)) (ls : List Locator) (at : ℕ) (l : Locator) → slice_get ls at ≡ Some l → slice_get (keys_of (changes_of runs ls)) at ≡ Some (key_at (keys_of_runs runs) l)
  key_change runs ls at l h = rw (keys_of-changes_of runs ls) (key_keyed (keys_of_runs runs) ls at l h)

  pub key_of_change : (runs : List (Changes V)) (ls : List Locator) (at : ℕ) (l : Locator) (k : Bytes) → slice_get ls at ≡ Some l → slice_get (keys_of (changes_of runs ls)) at ≡ Some k → key_at (keys_of_runs runs) l ≡ k
  key_of_change runs ls at l k s h = by (key_at (keys_of_runs runs) l) (sym (key_change runs ls at l s) ∙ h)
    where
      by : (j : Bytes) → Some j ≡ Some k → j ≡ k
      by j e = cc

  pub length-changes_of : (runs : List (Changes V)) (ls : List Locator) → length (changes_of runs ls) ≡ length ls
  length-changes_of runs [] = refl
  length-changes_of runs (l ∷ ls) = ap suc (length-changes_of runs ls)

  pub within_changes : (runs : List (Changes V)) (ls : List Locator) (at : ℕ) → at < length (changes_of runs ls) → at < length ls
  within_changes runs ls at h = let many = length-changes_of runs ls in omega (arith, h, many)

  pub within_keys : (runs : List (Changes V)) (ls : List Locator) (at : ℕ) → at < length (keys_of (changes_of runs ls)) → at < length ls
  within_keys runs ls at h = let many = length-keys_of (changes_of runs ls) in within_changes runs ls at (omega (arith, h, many))

  pub item_change : (runs : List (Changes V)) (ls : List Locator) (at : ℕ) (l : Locator) → slice_get ls at ≡ Some l → slice_get (values_of (changes_of runs ls)) at ≡ Some (change_at runs l)
  item_change runs [] at l h = absurd (cc)
  item_change runs (m ∷ ls) zero l h = let s : m ≡ l = cc in ap (λ (x : Locator). Some (change_at runs x)) s
  item_change runs (m ∷ ls) (suc at) l h = item_change runs ls at l h

-- all of a list, if nothing is left after a place
pub made_all : {X : Type 0} (out es : List X) (at : ℕ) → length es ≤ at → out ++ drop at es ≡ es → out ≡ es
made_all {X} out es at n t = sym (append-nil out) ∙ ap (λ (xs : List X). out ++ xs) (sym (past es at n)) ∙ t
  where
    past : (xs : List X) (n : ℕ) → length xs ≤ n → drop n xs ≡ []
    past [] zero h = refl
    past [] (suc n) h = refl
    past (x ∷ xs) zero h = absurd (omega arith)
    past (x ∷ xs) (suc n) h = let l : length xs ≤ n = omega arith in past xs n l

module _ {V : Type 0} (runs : List (Changes V)) (base : Pairs V) (ls : List Locator) (h : AreNewest (keys_of_runs runs) ls) (a : AllRise (reverse runs) base) where
  pub changes_of_page : changes_of runs ls ≡ joined_changes (reverse runs)
  changes_of_page = changes_joined runs ls h (none_below (reverse runs) base a)

  pub entries_changes : with_run base (changes_of runs ls) ≡ entries_under (reverse runs) base
  entries_changes = ap (λ (cs : Changes V). with_run base cs) changes_of_page ∙ entries-joined_changes (reverse runs) base a

-- ---- a cell exchanged by the list

module _ {X : Type 0} where
  set-first : (xs ys : List X) (i : ℕ) (x : X) → i < length xs → set (xs ++ ys) i x ≡ set xs i x ++ ys
  set-first [] ys i x h = absurd (omega arith)
  set-first (y ∷ xs) ys zero x h = refl
  set-first (y ∷ xs) ys (suc i) x h = let l : i < length xs = omega arith in ap (λ (zs : List X). y ∷ zs) (set-first xs ys i x l)

  set-after : (xs : List X) (y x : X) (i : ℕ) → i ≡ length xs → set (xs ++ y ∷ []) i x ≡ xs ++ x ∷ []
  set-after [] y x zero h = refl
  set-after [] y x (suc i) h = absurd (omega arith)
  set-after (z ∷ xs) y x zero h = absurd (omega arith)
  set-after (z ∷ xs) y x (suc i) h = let l : i ≡ length xs = omega arith in ap (λ (zs : List X). z ∷ zs) (set-after xs y x i l)

some_same : {x y : Locator} → Some x ≡ Some y → x ≡ y
some_same h = cc

module _ {V : Type 0} where
  -- what a run in which the key's cell is exchanged becomes
  run_exchanged : (run : Changes V) (at : ℕ) (k : Bytes) (c : Option V) (v : V) (older below : Layers V) → IsRising run → value_at k run ≡ Some c → slice_get (keys_of run) at ≡ Some k
      → exchanged_by (Some c) k v run older below ≡ record { runs = exchanged_at run at (in_place_of c v) ∷ older.runs; base = older.base }
  run_exchanged run at k None v older below r h n =
      let item : slice_get (values_of run) at ≡ Some None = sym (value_at-found run at k r n) ∙ h in
      ap (λ (x : Changes V). record { runs = x ∷ older.runs; base = older.base }) (sym (exchanged_at-same run at None item))
  run_exchanged run at k (Some w) v older below r h n =
      ap (λ (x : Changes V). record { runs = x ∷ older.runs; base = older.base }) (sym (exchanged_at-pair run at k (Some v) r n))

  abbrev Swapped : List (Changes V) → Pairs V → Bytes → V → Locator → Type 0
  Swapped runs base k v l = (exchanged_under k v runs base ≡ record { runs = reverse (exchanged_in (reverse runs) l (in_place_of (change_at (reverse runs) l) v)); base = base }) × (l.run < length runs)

  swapped_older : (run : Changes V) (older : List (Changes V)) (base : Pairs V) (k : Bytes) (v : V) (l : Locator) → value_at k run ≡ None → Swapped older base k v l → Swapped (run ∷ older) base k v l
  swapped_older run older base k v l n h =
      let long = length-reverse older in
      let within : l.run < length (reverse older) = omega (arith, h.1, long) in
      let there : get_or (reverse older ++ run ∷ []) l.run [] ≡ get_or (reverse older) l.run [] = get_or-first (reverse older) (run ∷ []) l.run [] within in
      let o = in_place_of (change_at (reverse older) l) v in
      let same : exchanged_in (reverse (run ∷ older)) l (in_place_of (change_at (reverse (run ∷ older)) l) v) ≡ exchanged_in (reverse older) l o ++ run ∷ [] =
      rw (reverse-append (run ∷ []) older, there) (set-first (reverse older) (run ∷ []) l.run (exchanged_at (get_or (reverse older) l.run []) l.at o) within) in
      let back : reverse (exchanged_in (reverse (run ∷ older)) l (in_place_of (change_at (reverse (run ∷ older)) l) v)) ≡ run ∷ reverse (exchanged_in (reverse older) l o) =
      ap reverse same ∙ reverse-append (exchanged_in (reverse older) l o) (run ∷ []) in
      (rw (n, back) (ap (λ (p : Layers V). record { runs = run ∷ p.runs; base = p.base }) h.0), omega (arith, h.1))

  swapped_newest : (run : Changes V) (older : List (Changes V)) (base : Pairs V) (k : Bytes) (v : V) (c : Option V) (l : Locator) → IsRising run → value_at k run ≡ Some c → l.run ≡ length older → slice_get (keys_of run) l.at ≡ Some k → change_at (reverse (run ∷ older)) l ≡ c → Swapped (run ∷ older) base k v l
  swapped_newest run older base k v c l r h n s d =
      let long = length-reverse older in
      let last : l.run ≡ length (reverse older) = omega (arith, n, long) in
      let x = exchanged_at run l.at (in_place_of c v) in
      let there : get_or (reverse older ++ run ∷ []) l.run [] ≡ run = get_or-after (reverse older) run l.run [] last in
      let same : exchanged_in (reverse (run ∷ older)) l (in_place_of c v) ≡ reverse older ++ x ∷ [] =
      rw (reverse-append (run ∷ []) older, there) (set-after (reverse older) run x l.run last) in
      let back : reverse (exchanged_in (reverse (run ∷ older)) l (in_place_of c v)) ≡ x ∷ older =
      ap reverse same ∙ reverse-append (reverse older) (x ∷ []) ∙ ap (λ (rs : List (Changes V)). x ∷ rs) (reverse-reverse older) in
      (rw (h, d, back) (run_exchanged run l.at k c v (record { runs = older; base = base }) (exchanged_under k v older base) r h s), omega (arith, n))

  same_locator : (run : Changes V) (older : List (Changes V)) (base : Pairs V) (k : Bytes) (v : V) (c : Option V) (l found : Locator) (n : ℕ) → n ≡ length older → IsRising run → value_at k run ≡ Some c → l ≡ found → Found n 0 k run c found → Swapped (run ∷ older) base k v l
  same_locator run older base k v c l found n many r h s f =
      let long = length-reverse older in
      let number : found.run ≡ length older = omega (arith, f.0, many) in
      let place : found.at ≡ f.1.0 = omega (arith, f.1.1.0) in
      let key : slice_get (keys_of run) found.at ≡ Some k = ap (λ (i : ℕ). slice_get (keys_of run) i) place ∙ f.1.1.2 in
      let there : get_or (reverse older ++ run ∷ []) found.run [] ≡ run = get_or-after (reverse older) run found.run [] (omega (arith, number, long)) in
      let is : change_at (reverse (run ∷ older)) found ≡ c =
      ap (λ (rs : List (Changes V)). change_at rs found) (reverse-append (run ∷ []) older) ∙ ap (λ (x : Changes V). get_or (values_of x) found.at None) there
      ∙ ap (λ (i : ℕ). get_or (values_of run) i None) place ∙ f.1.1.1 in
      rw s (swapped_newest run older base k v c found r h number key is)

  swapped_by : (run : Changes V) (older : List (Changes V)) (base : Pairs V) (k : Bytes) (v : V) (l : Locator) (o : Option (Option V)) → value_at k run ≡ o → IsRising run → (value_at k (Locators older) ≡ Some l → Swapped older base k v l)
      → value_at k (Locators (run ∷ older)) ≡ Some l → Swapped (run ∷ older) base k v l
  swapped_by run older base k v l None h r f s =
      let n = length (keys_of_runs older) in
      let none : value_at k (located_from n 0 (keys_of run)) ≡ None = none_by_keys run (located_from n 0 (keys_of run)) k (sym (keys_of-located n 0 (keys_of run))) h in
      let laid : value_at k (Locators (run ∷ older)) ≡ value_at k (Locators older) =
      value_at-with_run (Locators older) (located_from n 0 (keys_of run)) k (rising-newest (keys_of_runs older)) (rising-located n run r) ∙ ap (λ (x : Option (Option Locator)). change_or x (value_at k (Locators older))) none in
      swapped_older run older base k v l h (f (sym laid ∙ s))
  swapped_by run older base k v l (Some c) h r f s =
      let n = length (keys_of_runs older) in
      let found = located_value n 0 run k c h in
      let many : n ≡ length older = length-keys_of_runs older in
      let laid : value_at k (Locators (run ∷ older)) ≡ Some found.0 =
      value_at-with_run (Locators older) (located_from n 0 (keys_of run)) k (rising-newest (keys_of_runs older)) (rising-located n run r) ∙ ap (λ (x : Option (Option Locator)). change_or x (value_at k (Locators older))) found.1.0 in
      same_locator run older base k v c l found.0 n many r h (some_same (sym s ∙ laid)) found.1.1

  pub swapped : (runs : List (Changes V)) (base : Pairs V) (k : Bytes) (v : V) (l : Locator) → AllRise runs base → value_at k (Locators runs) ≡ Some l → Swapped runs base k v l
  swapped [] base k v l a s = absurd (cc)
  swapped (run ∷ older) base k v l a s = swapped_by run older base k v l (value_at k run) refl a.0 (λ t. swapped older base k v l a.1 t) s

  pub length-exchanged_in : (runs : List (Changes V)) (l : Locator) (o : Option V) → length (exchanged_in runs l o) ≡ length runs
  length-exchanged_in runs l o = length-set runs l.run (exchanged_at (get_or runs l.run []) l.at o)

  keys-exchanged_in : (runs : List (Changes V)) (l : Locator) (o : Option V) → keys_of_runs (exchanged_in runs l o) ≡ keys_of_runs runs
  keys-exchanged_in runs l o = by runs l.run
    where
      by : (xs : List (Changes V)) (i : ℕ) → keys_of_runs (set xs i (exchanged_at (get_or xs i []) l.at o)) ≡ keys_of_runs xs
      by [] i = refl
      by (x ∷ xs) zero = ap (λ (ks : List Bytes). ks ∷ keys_of_runs xs) (keys-exchanged_at x l.at o)
      by (x ∷ xs) (suc i) = ap (λ (ks : List (List Bytes)). keys_of x ∷ ks) (by xs i)

module _ {V : Type 0} where
  -- runs none of which contains the key stay
  stay_by : (run : Changes V) (older : List (Changes V)) (base : Pairs V) (k : Bytes) (v : V) (o : Option (Option V)) → value_at k run ≡ o → IsRising run → value_at k (Locators (run ∷ older)) ≡ None
      → (value_at k (Locators older) ≡ None → exchanged_under k v older base ≡ record { runs = older; base = (exchanged_under k v [] base).base }) → exchanged_under k v (run ∷ older) base ≡ record { runs = run ∷ older; base = (exchanged_under k v [] base).base }
  stay_by run older base k v None h r s f =
      let n = length (keys_of_runs older) in
      let none : value_at k (located_from n 0 (keys_of run)) ≡ None = none_by_keys run (located_from n 0 (keys_of run)) k (sym (keys_of-located n 0 (keys_of run))) h in
      let laid : value_at k (Locators (run ∷ older)) ≡ value_at k (Locators older) =
      value_at-with_run (Locators older) (located_from n 0 (keys_of run)) k (rising-newest (keys_of_runs older)) (rising-located n run r) ∙ ap (λ (x : Option (Option Locator)). change_or x (value_at k (Locators older))) none in
      rw h (ap (λ (p : Layers V). record { runs = run ∷ p.runs; base = p.base }) (f (sym laid ∙ s)))
  stay_by run older base k v (Some c) h r s f =
      let n = length (keys_of_runs older) in
      let found = located_value n 0 run k c h in
      let laid : value_at k (Locators (run ∷ older)) ≡ Some found.0 =
      value_at-with_run (Locators older) (located_from n 0 (keys_of run)) k (rising-newest (keys_of_runs older)) (rising-located n run r) ∙ ap (λ (x : Option (Option Locator)). change_or x (value_at k (Locators older))) found.1.0 in
      absurd (let wrong : Some found.0 ≡ None = sym laid ∙ s in cc)

  passed_over : (runs : List (Changes V)) (base : Pairs V) (k : Bytes) (v : V) → AllRise runs base → value_at k (Locators runs) ≡ None → exchanged_under k v runs base ≡ record { runs = runs; base = (exchanged_under k v [] base).base }
  passed_over [] base k v a s = refl
  passed_over (run ∷ older) base k v a s = stay_by run older base k v (value_at k run) refl a.0 s (λ t. passed_over older base k v a.1 t)

abbrev Page : {V : Type 0} → List (Changes V) → Pairs V → Layers V
Page runs base = record { runs = reverse runs; base = base }

-- of a page that contains the key in a run: the change at its locator is exchanged
module _ {V : Type 0} (runs : List (Changes V)) (base : Pairs V) (a : AllRise (reverse runs) base) (k : Bytes) (v : V) (l : Locator) (is : Some l ≡ value_at k (newest_locators (reverse (keys_of_runs runs))))
    (lent now items : List (Changes V)) (e : lent ≡ runs) (f : now ≡ exchanged_in lent l (in_place_of (change_at lent l) v)) (i : items ≡ now) where
  items_are : items ≡ exchanged_in runs l (in_place_of (change_at runs l) v)
  items_are = i ∙ f ∙ ap (λ (rs : List (Changes V)). exchanged_in rs l (in_place_of (change_at rs l) v)) e

  pub page-found : Page items base ≡ exchanged (Page runs base) k v
  page-found =
      let there : value_at k (newest_locators (keys_of_runs (reverse runs))) ≡ Some l = rw (keys_of_runs-reverse runs) (sym is) in
      let both = swapped (reverse runs) base k v l a there in
      ap (λ (rs : List (Changes V)). record { runs = reverse rs; base = base }) items_are
      ∙ sym (both.0 ∙ ap (λ (rs : List (Changes V)). record { runs = reverse (exchanged_in rs l (in_place_of (change_at rs l) v)); base = base }) (reverse-reverse runs))

  pub keys-found : keys_of_runs items ≡ keys_of_runs runs
  keys-found = ap keys_of_runs items_are ∙ keys-exchanged_in runs l (in_place_of (change_at runs l) v)

  pub cell-found : (cell : V) → cell ≡ unwrap_or (change_at lent l) v → cell ≡ unwrap_or (held_under k (reverse runs) base) v
  cell-found cell d = d ∙ ap (λ (rs : List (Changes V)). unwrap_or (change_at rs l) v) e ∙ ap (λ (o : Option V). unwrap_or o v) (sym (held-found runs base a k l is))

  pub said-found : (found : Bool) → found ≡ is_some (change_at lent l) → found ≡ is_some (held_under k (reverse runs) base)
  said-found found d = d ∙ ap (λ (rs : List (Changes V)). is_some (change_at rs l)) e ∙ ap is_some (sym (held-found runs base a k l is))

-- of a page whose runs do not contain the key: the cell in the base is exchanged, if there is one
module _ {V : Type 0} (runs : List (Changes V)) (base : Pairs V) (a : AllRise (reverse runs) base) (k : Bytes) (v : V) (is : None ≡ value_at k (newest_locators (reverse (keys_of_runs runs)))) where
  pub page-missing : (now : Pairs V) → Page [] now ≡ exchanged (Page [] base) k v → Page runs now ≡ exchanged (Page runs base) k v
  page-missing now e =
      let none : value_at k (newest_locators (keys_of_runs (reverse runs))) ≡ None = rw (keys_of_runs-reverse runs) (sym is) in
      let under : now ≡ (exchanged_under k v [] base).base = ap (λ (p : Layers V). p.base) e in
      rw under (sym (passed_over (reverse runs) base k v a none))

  pub cell-missing : (cell : V) → cell ≡ unwrap_or (value_at k base) v → cell ≡ unwrap_or (held_under k (reverse runs) base) v
  cell-missing cell d = d ∙ ap (λ (o : Option V). unwrap_or o v) (sym (held-missing runs base a k is))

  pub said-missing : (found : Bool) → found ≡ is_some (value_at k base) → found ≡ is_some (held_under k (reverse runs) base)
  said-missing found d = d ∙ ap is_some (sym (held-missing runs base a k is))
