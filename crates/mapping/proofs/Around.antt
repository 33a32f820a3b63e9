-- Entries by rising pid, seen from one pid: those below it, what is under it, those above it.
use Rattle.std.specs.Prelude.{◌≡◌, ◌≢◌, ℕ, ◌<◌, Bool, true, false, cond, ◌||◌, nat_eq, List, [], ◌∷◌, ◌++◌, map, Option, Some, None}
use Rattle.std.proofs.Common.{refl, sym, ap, ◌∙◌, arith, Less, Equal, Greater}
use Rattle.std.specs.List.{AllByRecursion}
use Rattle.std.specs.Ordering.{nat_cmp}
use Rattle.std.specs.Cmp.{nat_cmp_is}
use Rattle.std.specs.Option.{option_map}
use Rattle.std.specs.Map.{keys_of, lookup, remove_entry}
use Rattle.std.specs.BTreeMap.{insert_entry}
use Rattle.std.proofs.lemmas.Bool.{eq-eqb, eqb-true}
use Rattle.std.proofs.lemmas.List.{map-append}
use Rattle.mapping.specs.Tree.{Logged}
use Rattle.mapping.specs.Outdate.{outdate, outdate_all}
use Rattle.mapping.specs.Table.{is_same_pid}
use Rattle.mapping.specs.Slots.{entry_if}

-- ---- how pids compare

is_less : (m n : ℕ) → m < n → nat_cmp m n ≡ Less
is_less m n h = sym (nat_cmp_is m n Less h)

is_equal : (n : ℕ) → nat_cmp n n ≡ Equal
is_equal n = sym (nat_cmp_is n n Equal refl)

is_greater : (m n : ℕ) → n < m → nat_cmp m n ≡ Greater
is_greater m n h = sym (nat_cmp_is m n Greater h)

-- ---- the entry under a pid

-- entries with what is under one pid between them
abbrev pub around : {V : Type 0} → List (ℕ × V) → ℕ → Option V → List (ℕ × V) → List (ℕ × V)
around es k o fs = es ++ (entry_if k o ++ fs)

-- the pid is above those before it, and below those after it
pub record IsAround {V : Type 0} (es : List (ℕ × V)) (k : ℕ) (fs : List (ℕ × V)) : Type 0 where
  pub below : AllByRecursion (λ n. n < k) (keys_of es)
  pub above : AllByRecursion (λ n. k < n) (keys_of fs)

module _ {V : Type 0} (k : ℕ) where
  lookup_past : (es fs : List (ℕ × V)) → AllByRecursion (λ n. n < k) (keys_of es) → lookup (is_same_pid k) (es ++ fs) ≡ lookup (is_same_pid k) fs
  lookup_past [] fs b = refl
  lookup_past (e ∷ es) fs b = rw (is_greater k e.0 b.0) (lookup_past es fs b.1)

  pub lookup_none : (fs : List (ℕ × V)) → AllByRecursion (λ n. k < n) (keys_of fs) → lookup (is_same_pid k) fs ≡ None
  lookup_none [] a = refl
  lookup_none (f ∷ fs) a = rw (is_less k f.0 a.0) (lookup_none fs a.1)

  lookup_here : (o : Option V) (fs : List (ℕ × V)) → AllByRecursion (λ n. k < n) (keys_of fs) → lookup (is_same_pid k) (entry_if k o ++ fs) ≡ o
  lookup_here None fs a = lookup_none fs a
  lookup_here (Some v) fs a = rw (is_equal k) refl

  pub lookup-around : (es : List (ℕ × V)) (o : Option V) (fs : List (ℕ × V)) → IsAround es k fs → lookup (is_same_pid k) (around es k o fs) ≡ o
  lookup-around es o fs h = lookup_past es (entry_if k o ++ fs) h.below ∙ lookup_here o fs h.above

  insert_past : (es fs : List (ℕ × V)) (v : V) → AllByRecursion (λ n. n < k) (keys_of es) → insert_entry nat_cmp (es ++ fs) k v ≡ es ++ insert_entry nat_cmp fs k v
  insert_past [] fs v b = refl
  insert_past (e ∷ es) fs v b = rw (is_greater k e.0 b.0) (ap (λ (x : List (ℕ × V)). e ∷ x) (insert_past es fs v b.1))

  insert_here : (o : Option V) (fs : List (ℕ × V)) (v : V) → AllByRecursion (λ n. k < n) (keys_of fs) → insert_entry nat_cmp (entry_if k o ++ fs) k v ≡ (k, v) ∷ fs
  insert_here None [] v a = refl
  insert_here None (f ∷ fs) v a = rw (is_less k f.0 a.0) refl
  insert_here (Some w) fs v a = rw (is_equal k) refl

  pub insert-around : (es : List (ℕ × V)) (o : Option V) (fs : List (ℕ × V)) (v : V) → IsAround es k fs → insert_entry nat_cmp (around es k o fs) k v ≡ around es k (Some v) fs
  insert-around es o fs v h = insert_past es (entry_if k o ++ fs) v h.below ∙ ap (λ (x : List (ℕ × V)). es ++ x) (insert_here o fs v h.above)

  remove_past : (es fs : List (ℕ × V)) → AllByRecursion (λ n. n < k) (keys_of es) → remove_entry (is_same_pid k) (es ++ fs) ≡ es ++ remove_entry (is_same_pid k) fs
  remove_past [] fs b = refl
  remove_past (e ∷ es) fs b = rw (is_greater k e.0 b.0) (ap (λ (x : List (ℕ × V)). e ∷ x) (remove_past es fs b.1))

  remove_none : (fs : List (ℕ × V)) → AllByRecursion (λ n. k < n) (keys_of fs) → remove_entry (is_same_pid k) fs ≡ fs
  remove_none [] a = refl
  remove_none (f ∷ fs) a = rw (is_less k f.0 a.0) (ap (λ (x : List (ℕ × V)). f ∷ x) (remove_none fs a.1))

  remove_here : (o : Option V) (fs : List (ℕ × V)) → AllByRecursion (λ n. k < n) (keys_of fs) → remove_entry (is_same_pid k) (entry_if k o ++ fs) ≡ fs
  remove_here None fs a = remove_none fs a
  remove_here (Some v) fs a = rw (is_equal k) refl

  pub remove-around : (es : List (ℕ × V)) (o : Option V) (fs : List (ℕ × V)) → IsAround es k fs → remove_entry (is_same_pid k) (around es k o fs) ≡ around es k None fs
  remove-around es o fs h = remove_past es (entry_if k o ++ fs) h.below ∙ ap (λ (x : List (ℕ × V)). es ++ x) (remove_here o fs h.above)

-- ---- the log states after one pid is outdated

module _ (k : ℕ) where
  apart_by : (b : Bool) (n : ℕ) (l : Logged) → nat_eq n k ≡ b → n ≢ k → cond (b || false) (outdate l) l ≡ l
  apart_by true n l e h = absurd (h (eqb-true n k e))
  apart_by false n l e h = refl

  outdate_apart : (ls : List (ℕ × Logged)) → AllByRecursion (λ n. n ≢ k) (keys_of ls) → outdate_all (k ∷ []) ls ≡ ls
  outdate_apart [] h = refl
  outdate_apart (l ∷ ls) h =
      ap (λ (x : Logged). (l.0, x) ∷ outdate_all (k ∷ []) ls) (apart_by (nat_eq l.0 k) l.0 l.1 refl h.0)
      ∙ ap (λ (x : List (ℕ × Logged)). l ∷ x) (outdate_apart ls h.1)

  apart_below : (ls : List (ℕ × Logged)) → AllByRecursion (λ n. n < k) (keys_of ls) → AllByRecursion (λ n. n ≢ k) (keys_of ls)
  apart_below [] h = tt
  apart_below (l ∷ ls) h = (λ e. let x = h.0 in omega arith, apart_below ls h.1)

  apart_above : (ls : List (ℕ × Logged)) → AllByRecursion (λ n. k < n) (keys_of ls) → AllByRecursion (λ n. n ≢ k) (keys_of ls)
  apart_above [] h = tt
  apart_above (l ∷ ls) h = (λ e. let x = h.0 in omega arith, apart_above ls h.1)

  outdate_here : (o : Option Logged) → outdate_all (k ∷ []) (entry_if k o) ≡ entry_if k (option_map outdate o)
  outdate_here None = refl
  outdate_here (Some l) = rw (eq-eqb k k refl) refl

  pub outdate-around : (es : List (ℕ × Logged)) (o : Option Logged) (fs : List (ℕ × Logged)) → IsAround es k fs → outdate_all (k ∷ []) (around es k o fs) ≡ around es k (option_map outdate o) fs
  outdate-around es o fs h =
      let step : ℕ × Logged → ℕ × Logged = λ l. (l.0, cond (nat_eq l.0 k || false) (outdate l.1) l.1) in
      map-append step es (entry_if k o ++ fs)
      ∙ ap (λ (x : List (ℕ × Logged)). x ++ map step (entry_if k o ++ fs)) (outdate_apart es (apart_below es h.below))
      ∙ ap (λ (x : List (ℕ × Logged)). es ++ x) (map-append step (entry_if k o) fs
      ∙ ap (λ (x : List (ℕ × Logged)). x ++ map step fs) (outdate_here o)
      ∙ ap (λ (x : List (ℕ × Logged)). entry_if k (option_map outdate o) ++ x) (outdate_apart fs (apart_above fs h.above)))
