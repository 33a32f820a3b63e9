-- A single entry stored in place: where another key goes beside it, and the result of inserting it.
use Rattle.std.specs.Prelude.{◌≡◌, ℕ, zero, suc, ◌<◌, ◌≤◌, List, [], ◌∷◌, ◌++◌, length, set, Some, Ok, Err}
use Rattle.std.proofs.Common.{refl, sym, ap, arith, Less, Equal, Greater}
use Rattle.std.proofs.lemmas.List.Edits.{insert_end}
use Rattle.std.specs.List.{insert}
use Rattle.keys.specs.Order.{order}
use Rattle.keys.proofs.MapLemmas.{same_key, order_itself, flipped_less, flipped_greater}
use Rattle.delta_chain.proofs.Setting.{Answer}

module _ {T : Type 0} where
  -- ---- the place of a key, by how the key at that place compares

  compared : (e : List ℕ × T) (i j k : List ℕ) → i ≡ e.0 → j ≡ k → order i j ≡ order e.0 k
  compared e i j k p q = rw (p, q) refl

  pub after_alone : (e : List ℕ × T) (i j k : List ℕ) → i ≡ e.0 → j ≡ k → Less ≡ order i j → Answer (e ∷ []) k (Err 1)
  after_alone e i j k p q h =
      let above = flipped_less e.0 k (rw (← compared e i j k p q) (sym h)) in
      (omega arith, rw above refl, λ v. rw above refl)

  pub found_alone : (e : List ℕ × T) (i j k : List ℕ) → i ≡ e.0 → j ≡ k → Equal ≡ order i j → Answer (e ∷ []) k (Ok 0)
  found_alone e i j k p q h =
      let s : e.0 ≡ k = same_key e.0 k (rw (← compared e i j k p q) (sym h)) in
      (omega arith, ap (λ (x : List ℕ). Some x) s, rw (← s, order_itself e.0) refl)

  pub before_alone : (e : List ℕ × T) (i j k : List ℕ) → i ≡ e.0 → j ≡ k → Greater ≡ order i j → Answer (e ∷ []) k (Err 0)
  before_alone e i j k p q h =
      let below = flipped_greater e.0 k (rw (← compared e i j k p q) (sym h)) in
      (omega arith, rw below refl, λ v. rw below refl)

  -- ---- one entry more, or another in its place

  pub put_last : (es : List (List ℕ × T)) (at : ℕ) (e : List ℕ × T) → at ≡ length es → insert es at e ≡ es ++ e ∷ []
  put_last es at e h = rw h (insert_end es e)

  pub put_first : (es : List (List ℕ × T)) (at : ℕ) (e : List ℕ × T) → length es ≡ 0 → at ≤ length es → e ∷ [] ≡ insert es at e
  put_first [] zero e n l = refl
  put_first [] (suc at) e n l = absurd (omega arith)
  put_first (d ∷ es) at e n l = absurd (omega arith)

  pub put_before : (es : List (List ℕ × T)) (d e : List ℕ × T) (at : ℕ) → es ≡ [] → at ≡ 0 → (es ++ e ∷ []) ++ d ∷ [] ≡ insert (d ∷ []) at e
  put_before es d e at n h = rw (n, h) refl

  pub put_after : (es : List (List ℕ × T)) (d e : List ℕ × T) (at : ℕ) → es ≡ [] → (at ≡ 0 → ⊥) → at ≤ 1 → (es ++ d ∷ []) ++ e ∷ [] ≡ insert (d ∷ []) at e
  put_after es d e zero n h l = absurd (h refl)
  put_after es d e (suc zero) n h l = rw n refl
  put_after es d e (suc (suc at)) n h l = absurd (omega arith)

  pub written_alone : (d e : List ℕ × T) (at : ℕ) → at < length (d ∷ []) → e ∷ [] ≡ set (d ∷ []) at e
  written_alone d e zero l = refl
  written_alone d e (suc at) l = absurd (omega arith)
