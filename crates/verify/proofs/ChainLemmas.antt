-- The results of the tests of a page's keys and sizes, list by list.
use Rattle.std.specs.Prelude.{◌≡◌, ⊤, ℕ, zero, suc, ◌+◌, Bool, true, false, ◌&&◌, List, [], ◌∷◌, drop, slice_get, Option, Some, None}
use Rattle.std.proofs.Common.{refl, sym, ap, ◌∙◌, add-one}
use Rattle.std.specs.Borrow.{Bor}
use Rattle.std.specs.List.{list_all}
use Rattle.std.specs.Map.{keys_of, values_of}
use Rattle.keys.specs.Bytes.{Pairs, Changes}
use Rattle.delta_chain.specs.Layers.{Layers}
use Rattle.delta_chain.proofs.Places.{drop_pair}
use Rattle.index_page.specs.Page.{as_changes}

-- ---- a test of a list, place by place

module _ {X : Type 0} where
  drop_front : (xs : List X) (at : ℕ) (x : X) → slice_get xs at ≡ Some x → drop at xs ≡ x ∷ drop (suc at) xs
  drop_front [] at x h = absurd (cc)
  drop_front (y ∷ ys) zero x h = let e : y ≡ x = cc in ap (λ (z : X). z ∷ ys) e
  drop_front (y ∷ ys) (suc at) x h = drop_front ys at x h

  passes : (p : X → Bool) (x : X) (xs : List X) (b : Bool) → p x ≡ b → list_all p (x ∷ xs) ≡ (b && list_all p xs)
  passes p x xs b h = ap (λ (c : Bool). c && list_all p xs) h

  -- the next one passes; it doesn't; there is no next one
  pub all_next : (p : X → Bool) (xs : List X) (at : ℕ) (x : X) (all : Bool) → slice_get xs at ≡ Some x → p x ≡ true → list_all p (drop at xs) ≡ all → list_all p (drop (at + 1) xs) ≡ all
  all_next p xs at x all h t e = rw add-one (sym (ap (list_all p) (drop_front xs at x h) ∙ passes p x (drop (suc at) xs) true t) ∙ e)

  pub all_fails : (p : X → Bool) (xs : List X) (at : ℕ) (x : X) (all : Bool) → slice_get xs at ≡ Some x → p x ≡ false → list_all p (drop at xs) ≡ all → false ≡ all
  all_fails p xs at x all h t e = sym (ap (list_all p) (drop_front xs at x h) ∙ passes p x (drop (suc at) xs) false t) ∙ e

-- the same of a list of pairs, by the key and the item at the place
module _ {T : Type 0} (p : List ℕ × T → Bool) (es : List (List ℕ × T)) (at : ℕ) (k : List ℕ) (v : T) (all : Bool) where
  pub pairs_next : slice_get (keys_of es) at ≡ Some k → slice_get (values_of es) at ≡ Some v → p (k, v) ≡ true → list_all p (drop at es) ≡ all → list_all p (drop (at + 1) es) ≡ all
  pairs_next h i t e = rw add-one (sym (ap (list_all p) (drop_pair es at k v h i) ∙ passes p (k, v) (drop (suc at) es) true t) ∙ e)

  pub pairs_fail : slice_get (keys_of es) at ≡ Some k → slice_get (values_of es) at ≡ Some v → p (k, v) ≡ false → list_all p (drop at es) ≡ all → false ≡ all
  pairs_fail h i t e = sym (ap (list_all p) (drop_pair es at k v h i) ∙ passes p (k, v) (drop (suc at) es) false t) ∙ e

-- ---- a base's entries as changes

module _ {V : Type 0} where
  pub keys-as_changes : (es : List (List ℕ × V)) → keys_of (as_changes es) ≡ keys_of es
  keys-as_changes [] = refl
  keys-as_changes (e ∷ es) = ap (λ (x : List (List ℕ)). e.0 ∷ x) (keys-as_changes es)

  pub base_alone : (p : List ℕ → Bool) (es : List (List ℕ × V)) (b all : Bool) → b ≡ list_all p (keys_of es) → list_all p (keys_of (as_changes es)) ≡ all → b ≡ all
  base_alone p es b all h e = h ∙ ap (list_all p) (sym (keys-as_changes es)) ∙ e

  -- the test of the changes, as a test of the entries
  pub all-as_changes : (p : List ℕ × Option V → Bool) (es : List (List ℕ × V)) → list_all p (as_changes es) ≡ list_all (λ e. p (e.0, Some e.1)) es
  all-as_changes p [] = refl
  all-as_changes p (e ∷ es) = ap (λ (b : Bool). p (e.0, Some e.1) && b) (all-as_changes p es)

  -- ---- one run more

  pub base_next : (p : List ℕ × Option V → Bool) (es : List (List ℕ × V)) (at : ℕ) (k : List ℕ) (v : V) (all : Bool) → slice_get (keys_of es) at ≡ Some k → slice_get (values_of es) at ≡ Some v
      → p (k, Some v) ≡ true → list_all p (as_changes (drop at es)) ≡ all → list_all p (as_changes (drop (at + 1) es)) ≡ all
  base_next p es at k v all h i t e =
      all-as_changes p (drop (at + 1) es) ∙ pairs_next (λ x. p (x.0, Some x.1)) es at k v all h i t (sym (all-as_changes p (drop at es)) ∙ e)

  pub base_fails : (p : List ℕ × Option V → Bool) (es : List (List ℕ × V)) (at : ℕ) (k : List ℕ) (v : V) (all : Bool) → slice_get (keys_of es) at ≡ Some k → slice_get (values_of es) at ≡ Some v
      → p (k, Some v) ≡ false → list_all p (as_changes (drop at es)) ≡ all → false ≡ all
  base_fails p es at k v all h i t e = pairs_fail (λ x. p (x.0, Some x.1)) es at k v all h i t (sym (all-as_changes p (drop at es)) ∙ e)

pub both_fail : (a b : Bool) → false ≡ b → false ≡ (a && b)
both_fail true b h = h
both_fail false b h = refl

-- ---- the remaining runs, when a walk down a page has reached the newest of them, or the base

module _ {V : Type 0} where
  abbrev pub runs_left : Option (Bor (Changes V) × Layers V) → List (Changes V)
  runs_left None = []
  runs_left (Some q) = q.0.now ∷ q.1.runs
