-- The lists that slots by rising pid represent: at the index of a slot, and at an index where one would be inserted.
use Rattle.std.specs.Prelude.{◌≡◌, ℕ, suc, ◌<◌, List, [], ◌∷◌, ◌++◌, map, take, drop, flat_map, length, get_or, set, Option, Some, None}
use Rattle.std.proofs.Common.{sym, ap, ◌∙◌, arith, subst}
use Rattle.std.specs.List.{AllByRecursion, insert}
use Rattle.std.specs.Ordering.{nat_cmp}
use Rattle.std.specs.Option.{option_map}
use Rattle.std.specs.Map.{keys_of, lookup, remove_entry}
use Rattle.std.specs.BTreeMap.{insert_entry}
use Rattle.std.proofs.lemmas.List.{map-append, map-set, set_split, set-get_or, length-map, take-map, drop-map, take-append-drop, get_or-map}
use Rattle.std.proofs.lemmas.List.Concat.{flat_map-append}
use Rattle.std.proofs.lemmas.Option.{slice_get_within, get_or_from_slice_get}
use Rattle.index_page.proofs.ListLemmas.{all-append}
use Rattle.mapping.specs.Tree.{Logged}
use Rattle.mapping.specs.Outdate.{outdate, outdate_all}
use Rattle.mapping.specs.Proper.{AreRisingPids}
use Rattle.mapping.specs.Table.{is_same_pid}
use Rattle.mapping.specs.Slots.{entry_if, StandsAt, GoesTo}
use Rattle.mapping.proofs.PidLemmas.{below_later}
use Rattle.mapping.proofs.Around.{around, IsAround, lookup-around, insert-around, remove-around, outdate-around}

-- ---- rising pids in two parts

below_first : (ms ns : List ℕ) (k m : ℕ) → AllByRecursion (λ n. m < n) (ms ++ k ∷ ns) → m < k
below_first [] ns k m a = a.0
below_first (l ∷ ms) ns k m a = below_first ms ns k m a.1

below_one : (ms ns : List ℕ) (k : ℕ) → AreRisingPids (ms ++ k ∷ ns) → AllByRecursion (λ n. n < k) ms
below_one [] ns k r = tt
below_one (m ∷ ms) ns k r = (below_first ms ns k m r.0, below_one ms ns k r.1)

above_one : (ms ns : List ℕ) (k : ℕ) → AreRisingPids (ms ++ k ∷ ns) → AllByRecursion (λ n. k < n) ns
above_one [] ns k r = r.0
above_one (m ∷ ms) ns k r = above_one ms ns k r.1

all_above : (m k : ℕ) (ns : List ℕ) → m < k → AllByRecursion (λ n. k < n) ns → AllByRecursion (λ n. m < n) (k ∷ ns)
all_above m k ns l a = (l, below_later m k ns l a)

-- one more pid, where it goes
rising_between : (ms ns : List ℕ) (k : ℕ) → AreRisingPids (ms ++ ns) → AllByRecursion (λ n. n < k) ms → AllByRecursion (λ n. k < n) ns → AreRisingPids (ms ++ k ∷ ns)
rising_between [] ns k r b a = (a, r)
rising_between (m ∷ ms) ns k r b a =
    let parts = all_parts ms ns m r.0 in
    (all-append (λ n. m < n) ms (k ∷ ns) parts (all_above m k ns b.0 a), rising_between ms ns k r.1 b.1 a)
  where
    all_parts : (ms ns : List ℕ) (m : ℕ) → AllByRecursion (λ n. m < n) (ms ++ ns) → AllByRecursion (λ n. m < n) ms
    all_parts [] ns m h = tt
    all_parts (l ∷ ms) ns m h = (h.0, all_parts ms ns m h.1)

-- ---- the pids of slots

module _ {S : Type 0} (pid : S → ℕ) where
  -- the slot at the place, and its pid
  pub record IsSlot (ss : List S) (i k : ℕ) (s : S) : Type 0 where
    pub within : i < length ss
    pub read : s ≡ get_or ss i s
    pub pid_is : pid s ≡ k

  -- what a search found is the slot that is read there
  pub slot_read : (ss : List S) (i k : ℕ) (s : S) → StandsAt (map pid ss) k i → i < length ss → s ≡ get_or ss i s → IsSlot ss i k s
  slot_read ss i k s e l r = record {
    within = l;
    read = r;
    pid_is = ap pid r ∙ sym (get_or-map pid ss i s k l) ∙ get_or_from_slice_get (map pid ss) i k k e;
  }

  pub found_within : (ss : List S) (i k : ℕ) → StandsAt (map pid ss) k i → i < length ss
  found_within ss i k e = let x = slice_get_within (map pid ss) i k e in omega (arith, length-map ss pid)

  pub pids-set : (ss : List S) (i k : ℕ) (s t : S) → IsSlot ss i k s → pid t ≡ k → map pid (set ss i t) ≡ map pid ss
  pids-set ss i k s t h e =
      map-set pid ss i t
      ∙ ap (λ (n : ℕ). set (map pid ss) i n) (e ∙ sym h.pid_is ∙ ap pid h.read ∙ sym (get_or-map pid ss i s k h.within))
      ∙ set-get_or (map pid ss) i k

  pub rising-insert : (ss : List S) (i : ℕ) (t : S) → AreRisingPids (map pid ss) → GoesTo (map pid ss) (pid t) i → AreRisingPids (map pid (insert ss i t))
  rising-insert ss i t r h =
      let parts : map pid ss ≡ take i (map pid ss) ++ drop i (map pid ss) = sym (take-append-drop i (map pid ss)) in
      let new = rising_between (take i (map pid ss)) (drop i (map pid ss)) (pid t) (subst (λ (ns : List ℕ). AreRisingPids ns) parts r) h.below h.above in
      let e : take i (map pid ss) ++ pid t ∷ drop i (map pid ss) ≡ map pid (insert ss i t) =
      ap (λ (x : List ℕ). x ++ pid t ∷ drop i (map pid ss)) (take-map pid i ss)
      ∙ ap (λ (x : List ℕ). map pid (take i ss) ++ pid t ∷ x) (drop-map pid i ss)
      ∙ sym (map-append pid (take i ss) (t ∷ drop i ss)) in
      subst (λ (ns : List ℕ). AreRisingPids ns) e new

-- ---- what they list

module _ {S V : Type 0} (pid : S → ℕ) (say : S → Option V) where
  -- what the slots say, under their pids
  abbrev pub listing : List S → List (ℕ × V)
  listing ss = flat_map (λ s. entry_if (pid s) (say s)) ss

  keys_by : (P : ℕ → Type 0) (n : ℕ) (o : Option V) (es : List (ℕ × V)) → P n → AllByRecursion P (keys_of es) → AllByRecursion P (keys_of (entry_if n o ++ es))
  keys_by P n None es p a = a
  keys_by P n (Some v) es p a = (p, a)

  pub keys-listing : (P : ℕ → Type 0) (ss : List S) → AllByRecursion P (map pid ss) → AllByRecursion P (keys_of (listing ss))
  keys-listing P [] a = tt
  keys-listing P (s ∷ ss) a = keys_by P (pid s) (say s) (listing ss) a.0 (keys-listing P ss a.1)

  rising_by : (n : ℕ) (o : Option V) (es : List (ℕ × V)) → AllByRecursion (λ m. n < m) (keys_of es) → AreRisingPids (keys_of es) → AreRisingPids (keys_of (entry_if n o ++ es))
  rising_by n None es a r = r
  rising_by n (Some v) es a r = (a, r)

  -- they are listed by rising pid
  pub rising-listing : (ss : List S) → AreRisingPids (map pid ss) → AreRisingPids (keys_of (listing ss))
  rising-listing [] r = tt
  rising-listing (s ∷ ss) r = rising_by (pid s) (say s) (listing ss) (keys-listing (λ m. pid s < m) ss r.0) (rising-listing ss r.1)

  listing-append : (ss ts : List S) → listing (ss ++ ts) ≡ listing ss ++ listing ts
  listing-append ss ts = flat_map-append (λ s. entry_if (pid s) (say s)) ss ts

  -- ---- at a slot

  split_at : (ss : List S) (i : ℕ) (s : S) → i < length ss → s ≡ get_or ss i s → ss ≡ take i ss ++ s ∷ drop (suc i) ss
  split_at ss i s l r = sym (set-get_or ss i s) ∙ ap (λ (x : S). set ss i x) (sym r) ∙ set_split ss i s l

  listing-slot : (ss : List S) (i k : ℕ) (s : S) → IsSlot pid ss i k s → listing ss ≡ around (listing (take i ss)) k (say s) (listing (drop (suc i) ss))
  listing-slot ss i k s h =
      ap listing (split_at ss i s h.within h.read)
      ∙ listing-append (take i ss) (s ∷ drop (suc i) ss)
      ∙ ap (λ (n : ℕ). around (listing (take i ss)) n (say s) (listing (drop (suc i) ss))) h.pid_is

  listing-set : (ss : List S) (i k : ℕ) (t : S) → i < length ss → pid t ≡ k → listing (set ss i t) ≡ around (listing (take i ss)) k (say t) (listing (drop (suc i) ss))
  listing-set ss i k t l e =
      ap listing (set_split ss i t l)
      ∙ listing-append (take i ss) (t ∷ drop (suc i) ss)
      ∙ ap (λ (n : ℕ). around (listing (take i ss)) n (say t) (listing (drop (suc i) ss))) e

  around_slot : (ss : List S) (i k : ℕ) (s : S) → AreRisingPids (map pid ss) → IsSlot pid ss i k s → IsAround (listing (take i ss)) k (listing (drop (suc i) ss))
  around_slot ss i k s r h =
      let parts : map pid ss ≡ map pid (take i ss) ++ k ∷ map pid (drop (suc i) ss) =
      ap (map pid) (split_at ss i s h.within h.read)
      ∙ map-append pid (take i ss) (s ∷ drop (suc i) ss)
      ∙ ap (λ (n : ℕ). map pid (take i ss) ++ n ∷ map pid (drop (suc i) ss)) h.pid_is in
      let rising : AreRisingPids (map pid (take i ss) ++ k ∷ map pid (drop (suc i) ss)) = subst (λ (ns : List ℕ). AreRisingPids ns) parts r in
      record {
        below = keys-listing (λ n. n < k) (take i ss) (below_one (map pid (take i ss)) (map pid (drop (suc i) ss)) k rising);
        above = keys-listing (λ n. k < n) (drop (suc i) ss) (above_one (map pid (take i ss)) (map pid (drop (suc i) ss)) k rising);
      }

  module _ (ss : List S) (i k : ℕ) (s : S) (r : AreRisingPids (map pid ss)) (h : IsSlot pid ss i k s) where
    pub lookup-slot : lookup (is_same_pid k) (listing ss) ≡ say s
    lookup-slot = ap (lookup (is_same_pid k)) (listing-slot ss i k s h) ∙ lookup-around k (listing (take i ss)) (say s) (listing (drop (suc i) ss)) (around_slot ss i k s r h)

    pub insert-slot : (t : S) (v : V) → pid t ≡ k → say t ≡ Some v → listing (set ss i t) ≡ insert_entry nat_cmp (listing ss) k v
    insert-slot t v e f =
        listing-set ss i k t h.within e
        ∙ ap (λ (o : Option V). around (listing (take i ss)) k o (listing (drop (suc i) ss))) f
        ∙ sym (insert-around k (listing (take i ss)) (say s) (listing (drop (suc i) ss)) v (around_slot ss i k s r h))
        ∙ ap (λ (es : List (ℕ × V)). insert_entry nat_cmp es k v) (sym (listing-slot ss i k s h))

    pub remove-slot : (t : S) → pid t ≡ k → say t ≡ None → listing (set ss i t) ≡ remove_entry (is_same_pid k) (listing ss)
    remove-slot t e f =
        listing-set ss i k t h.within e
        ∙ ap (λ (o : Option V). around (listing (take i ss)) k o (listing (drop (suc i) ss))) f
        ∙ sym (remove-around k (listing (take i ss)) (say s) (listing (drop (suc i) ss)) (around_slot ss i k s r h))
        ∙ ap (remove_entry (is_same_pid k)) (sym (listing-slot ss i k s h))

    pub same-slot : (t : S) → pid t ≡ k → say t ≡ say s → listing (set ss i t) ≡ listing ss
    same-slot t e f =
        listing-set ss i k t h.within e
        ∙ ap (λ (o : Option V). around (listing (take i ss)) k o (listing (drop (suc i) ss))) f
        ∙ sym (listing-slot ss i k s h)

  -- ---- where a slot would go

  listing-gap : (ss : List S) (i k : ℕ) → listing ss ≡ around (listing (take i ss)) k None (listing (drop i ss))
  listing-gap ss i k = ap listing (sym (take-append-drop i ss)) ∙ listing-append (take i ss) (drop i ss)

  around_gap : (ss : List S) (i k : ℕ) → GoesTo (map pid ss) k i → IsAround (listing (take i ss)) k (listing (drop i ss))
  around_gap ss i k h = record {
    below = keys-listing (λ n. n < k) (take i ss) (subst (λ (ns : List ℕ). AllByRecursion (λ n. n < k) ns) (take-map pid i ss) h.below);
    above = keys-listing (λ n. k < n) (drop i ss) (subst (λ (ns : List ℕ). AllByRecursion (λ n. k < n) ns) (drop-map pid i ss) h.above);
  }

  module _ (ss : List S) (i k : ℕ) (h : GoesTo (map pid ss) k i) where
    pub lookup-gap : lookup (is_same_pid k) (listing ss) ≡ None
    lookup-gap = ap (lookup (is_same_pid k)) (listing-gap ss i k) ∙ lookup-around k (listing (take i ss)) None (listing (drop i ss)) (around_gap ss i k h)

    pub insert-gap : (t : S) (v : V) → pid t ≡ k → say t ≡ Some v → listing (insert ss i t) ≡ insert_entry nat_cmp (listing ss) k v
    insert-gap t v e f =
        listing-append (take i ss) (t ∷ drop i ss)
        ∙ ap (λ (n : ℕ). around (listing (take i ss)) n (say t) (listing (drop i ss))) e
        ∙ ap (λ (o : Option V). around (listing (take i ss)) k o (listing (drop i ss))) f
        ∙ sym (insert-around k (listing (take i ss)) None (listing (drop i ss)) v (around_gap ss i k h))
        ∙ ap (λ (es : List (ℕ × V)). insert_entry nat_cmp es k v) (sym (listing-gap ss i k))

    pub same-gap : (t : S) → say t ≡ None → listing (insert ss i t) ≡ listing ss
    same-gap t f =
        listing-append (take i ss) (t ∷ drop i ss)
        ∙ ap (λ (o : Option V). around (listing (take i ss)) (pid t) o (listing (drop i ss))) f
        ∙ sym (listing-gap ss i k)

-- ---- log states

module _ {S : Type 0} (pid : S → ℕ) (say : S → Option Logged) where
  pub outdate-slot : (ss : List S) (i k : ℕ) (s : S) → AreRisingPids (map pid ss) → IsSlot pid ss i k s → (t : S) → pid t ≡ k → say t ≡ option_map outdate (say s)
      → listing pid say (set ss i t) ≡ outdate_all (k ∷ []) (listing pid say ss)
  outdate-slot ss i k s r h t e f =
      listing-set pid say ss i k t h.within e
      ∙ ap (λ (o : Option Logged). around (listing pid say (take i ss)) k o (listing pid say (drop (suc i) ss))) f
      ∙ sym (outdate-around k (listing pid say (take i ss)) (say s) (listing pid say (drop (suc i) ss)) (around_slot pid say ss i k s r h))
      ∙ ap (outdate_all (k ∷ [])) (sym (listing-slot pid say ss i k s h))

  pub outdate-gap : (ss : List S) (i k : ℕ) → GoesTo (map pid ss) k i → outdate_all (k ∷ []) (listing pid say ss) ≡ listing pid say ss
  outdate-gap ss i k h =
      ap (outdate_all (k ∷ [])) (listing-gap pid say ss i k)
      ∙ outdate-around k (listing pid say (take i ss)) None (listing pid say (drop i ss)) (around_gap pid say ss i k h)
      ∙ sym (listing-gap pid say ss i k)
