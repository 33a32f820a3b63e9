-- Pairs of references, place by place, for the proofs of this crate and of those above it.
use Rattle.std.proofs.Common.{◌≡◌, ◌<◌, ℕ, zero, suc, List, [], ◌∷◌, ◌++◌, length, slice_get, get_or, Some, refl, sym, ap, arith}
use Rattle.std.specs.Borrow.{Bor}
use Rattle.std.specs.Map.{keys_of, values_of}
use Rattle.delta_chain.specs.Lent.{pairs_lent}

module _ {V : Type 0} where
  pub length-pairs_lent : (lent : List (Bor (List ℕ) × Bor V)) → length (pairs_lent lent) ≡ length lent
  length-pairs_lent [] = refl
  length-pairs_lent (e ∷ es) = ap (λ n. suc n) (length-pairs_lent es)

  -- the key and the cell at a place are what the references there point to
  pub key_lent : (lent : List (Bor (List ℕ) × Bor V)) (at : ℕ) (e : Bor (List ℕ) × Bor V) → at < length (pairs_lent lent) → e ≡ get_or lent at e → slice_get (keys_of (pairs_lent lent)) at ≡ Some e.0.now
  key_lent [] at e l h = absurd (omega arith)
  key_lent (d ∷ ds) zero e l h = ap (λ (x : Bor (List ℕ) × Bor V). Some x.0.now) (sym h)
  key_lent (d ∷ ds) (suc at) e l h = let m : at < length (pairs_lent ds) = omega arith in key_lent ds at e m h

  pub cell_lent : (lent : List (Bor (List ℕ) × Bor V)) (at : ℕ) (e : Bor (List ℕ) × Bor V) → at < length (pairs_lent lent) → e ≡ get_or lent at e → slice_get (values_of (pairs_lent lent)) at ≡ Some e.1.now
  cell_lent [] at e l h = absurd (omega arith)
  cell_lent (d ∷ ds) zero e l h = ap (λ (x : Bor (List ℕ) × Bor V). Some x.1.now) (sym h)
  cell_lent (d ∷ ds) (suc at) e l h = let m : at < length (pairs_lent ds) = omega arith in cell_lent ds at e m h

  -- one more after the others
  pub pairs_lent-push : (lent : List (Bor (List ℕ) × Bor V)) (e : Bor (List ℕ) × Bor V) → pairs_lent (lent ++ e ∷ []) ≡ pairs_lent lent ++ (e.0.now, e.1.now) ∷ []
  pairs_lent-push [] e = refl
  pairs_lent-push (d ∷ ds) e = ap (λ (m : List (List ℕ × V)). (d.0.now, d.1.now) ∷ m) (pairs_lent-push ds e)
