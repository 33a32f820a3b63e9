-- Lemmas on properties of all elements of a list, for the proofs of this crate and of those above it.
use Rattle.std.specs.Prelude.{Bool, true, false, cond, List, [], ◌∷◌, ◌++◌}
use Rattle.std.specs.List.{AllByRecursion, filter}
use Rattle.std.specs.Map.{keys_of}

module _ {X : Type 0} (P : X → Type 0) where
  pub all-append : (xs ys : List X) → AllByRecursion P xs → AllByRecursion P ys → AllByRecursion P (xs ++ ys)
  all-append [] ys a b = b
  all-append (x ∷ xs) ys a b = (a.0, all-append xs ys a.1 b)

  pub all_apart : (xs ys : List X) → AllByRecursion P (xs ++ ys) → AllByRecursion P xs × AllByRecursion P ys
  all_apart [] ys a = (tt, a)
  all_apart (x ∷ xs) ys a = let r = all_apart xs ys a.1 in ((a.0, r.0), r.1)

  filter_by : (b : Bool) (x : X) (rest : List X) → P x → AllByRecursion P rest → AllByRecursion P (cond b (x ∷ rest) rest)
  filter_by true x rest p a = (p, a)
  filter_by false x rest p a = a

  pub all-filter : (passes : X → Bool) (xs : List X) → AllByRecursion P xs → AllByRecursion P (filter passes xs)
  all-filter passes [] a = tt
  all-filter passes (x ∷ xs) a = filter_by (passes x) x (filter passes xs) a.0 (all-filter passes xs a.1)

  pub all_weaker : (Q : X → Type 0) → ((x : X) → P x → Q x) → (xs : List X) → AllByRecursion P xs → AllByRecursion Q xs
  all_weaker Q f [] a = tt
  all_weaker Q f (x ∷ xs) a = (f x a.0, all_weaker Q f xs a.1)

-- what holds of each key, as a fact on the pairs, and back
pub all_keyed : {K X : Type 0} (P : K → Type 0) (es : List (K × X)) → AllByRecursion P (keys_of es) → AllByRecursion (λ e. P e.0) es
all_keyed P [] a = tt
all_keyed P (e ∷ es) a = (a.0, all_keyed P es a.1)

pub all_keys : {K X : Type 0} (P : K → Type 0) (es : List (K × X)) → AllByRecursion (λ e. P e.0) es → AllByRecursion P (keys_of es)
all_keys P [] a = tt
all_keys P (e ∷ es) a = (a.0, all_keys P es a.1)

module _ {K X : Type 0} (P : K → Type 0) where
  pub all_keys-append : (xs ys : List (K × X)) → AllByRecursion P (keys_of xs) → AllByRecursion P (keys_of ys) → AllByRecursion P (keys_of (xs ++ ys))
  all_keys-append [] ys a b = b
  all_keys-append (x ∷ xs) ys a b = (a.0, all_keys-append xs ys a.1 b)

  pub all_keys_apart : (xs ys : List (K × X)) → AllByRecursion P (keys_of (xs ++ ys)) → AllByRecursion P (keys_of xs) × AllByRecursion P (keys_of ys)
  all_keys_apart [] ys a = (tt, a)
  all_keys_apart (x ∷ xs) ys a = let r = all_keys_apart xs ys a.1 in ((a.0, r.0), r.1)

  keys_filter_by : (b : Bool) (e : K × X) (rest : List (K × X)) → P e.0 → AllByRecursion P (keys_of rest) → AllByRecursion P (keys_of (cond b (e ∷ rest) rest))
  keys_filter_by true e rest p a = (p, a)
  keys_filter_by false e rest p a = a

  pub all_keys-filter : (passes : K × X → Bool) (es : List (K × X)) → AllByRecursion P (keys_of es) → AllByRecursion P (keys_of (filter passes es))
  all_keys-filter passes [] a = tt
  all_keys-filter passes (e ∷ es) a = keys_filter_by (passes e) e (filter passes es) a.0 (all_keys-filter passes es a.1)
