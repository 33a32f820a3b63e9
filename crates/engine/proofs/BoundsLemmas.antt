-- The pairs of a range without bounds, how many pairs a range has, and the first and the last of some pairs.
use Rattle.std.specs.Prelude.{◌≡◌, ℕ, ◌+◌, ◌-◌, ◌^◌, ◌≤◌, min, not, ◌&&◌, [], ◌∷◌, ◌++◌, length, reverse, slice_get, Option, Some, None, MatchOption}
use Rattle.std.specs.Borrow.{Bor}
use Rattle.std.specs.Option.{option_map}
use Rattle.std.specs.declared.ops.Bound.{Bound}
use Rattle.std.specs.declared.ops.Bound.TheVariants.{Unbounded}
use Rattle.std.proofs.Common.{refl, sym, ap, arith}
use Rattle.std.proofs.lemmas.List.{reverse-append}
use Rattle.std.proofs.lemmas.List.Filters.{length-filter_both}
use Rattle.keys.specs.Bytes.{Bytes, Pairs}
use Rattle.engine.specs.Bounds.{is_from, is_up_to, pairs_within}

-- all pairs
pub unbounded : {V : Type 0} (m : Pairs V) → pairs_within Unbounded Unbounded m ≡ m
unbounded [] = refl
unbounded {V} (e ∷ m) = ap (λ (es : Pairs V). e ∷ es) (unbounded m)

-- no more than all
within_few : (lo hi : Bound (Bor Bytes)) (m : Pairs Bytes) → length (pairs_within lo hi m) ≤ length m
within_few lo hi m =
    let all = length-filter_both (λ (e : Bytes × Bytes). is_from lo e.0 && is_up_to hi e.0) (λ (e : Bytes × Bytes). not (is_from lo e.0 && is_up_to hi e.0)) (λ e. refl) m in
    omega (arith, all)

-- the number of pairs of a range, if all pairs can be counted
pub counted_within : (lo hi : Bound (Bor Bytes)) (m es : Pairs Bytes) (n more : ℕ) → length m + more ≤ 2 ^ 128 - 1 → es ≡ pairs_within lo hi m → n ≡ min (length es) (2 ^ 128 - 1) → n ≡ length (pairs_within lo hi m)
counted_within lo hi m es n more fit same is =
    let few = within_few lo hi m in
    let long = ap (λ (x : Pairs Bytes). length x) same in
    omega (arith, few, long, fit, is)

pub first_pair : {I : Type 0} (view : I → Bytes × Bytes) (o : Option I) (all left : Pairs Bytes) → MatchOption o ((all ≡ []) × (left ≡ [])) (λ x. all ≡ view x ∷ left) → option_map view o ≡ slice_get all 0
first_pair view None all left h = ap (λ (es : Pairs Bytes). slice_get es 0) (sym h.0)
first_pair view (Some x) all left h = ap (λ (es : Pairs Bytes). slice_get es 0) (sym h)

pub last_pair : {I : Type 0} (view : I → Bytes × Bytes) (o : Option I) (all left : Pairs Bytes) → MatchOption o ((all ≡ []) × (left ≡ [])) (λ x. all ≡ left ++ view x ∷ []) → option_map view o ≡ slice_get (reverse all) 0
last_pair view None all left h = rw (h.0) refl
last_pair view (Some x) all left h = rw (h, reverse-append left (view x ∷ [])) refl
