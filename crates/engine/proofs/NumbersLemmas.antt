-- Numbers for the maintenance of a store: whether a flush is due; and the range of all pairs.
use Rattle.std.specs.Prelude.{◌≡◌, ◌≢◌, ◌↔◌, ℕ, Bool, IsTrue, true, false, not, List, [], ◌∷◌, None}
use Rattle.std.proofs.Common.{refl, ap}
use Rattle.keys.specs.Range.{in_range}

-- ---- a flush that is due

pub due_where : {X : Type 0} (b : Bool) (x y : X) → (IsTrue b ↔ (x ≡ y)) → IsTrue (not b) ↔ (x ≢ y)
due_where true x y h = ((λ no. absurd (cc)), λ some. absurd (some (h.0 refl)))
due_where false x y h = ((λ yes e. (let t = h.1 e in cc)), λ some. refl)

-- ---- all pairs

-- all pairs have keys from the least one on
pub all_within : (m : List (List ℕ × List ℕ)) → in_range [] None m ≡ m
all_within [] = refl
all_within (([], v) ∷ m) = ap (λ (es : List (List ℕ × List ℕ)). ([], v) ∷ es) (all_within m)
all_within ((x ∷ xs, v) ∷ m) = ap (λ (es : List (List ℕ × List ℕ)). (x ∷ xs, v) ∷ es) (all_within m)
