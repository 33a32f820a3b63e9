-- Keys that begin with a prefix are neighbours in key order, and are not below the prefix.
use Rattle.std.specs.Prelude.{◌≡◌, ℕ, ◌<◌, Bool, true, false, List, [], ◌∷◌, ◌++◌, drop, length}
use Rattle.std.proofs.Common.{refl, sym, ap, ◌∙◌, subst, Ordering, Less, Equal, Greater}
use Rattle.std.specs.Cmp.{ranks, nat_cmp_is}
use Rattle.std.specs.Ordering.{nat_cmp, ordering_then, is_lt, MatchOrdering}
use Rattle.std.proofs.lemmas.Bool.Decides.{Decides-eqb}
use Rattle.std.proofs.lemmas.Slice.Eq.{starts_is}
use Rattle.keys.specs.Order.{order}
use Rattle.keys.specs.Range.{is_below}
use Rattle.scan.specs.Prefix.{begins_with}
use Rattle.scan.proofs.EmptyKey.{none_below_empty}

-- ---- a key that begins with a prefix is the prefix followed by more bytes

pub begun : (p k : List ℕ) → begins_with p k ≡ true → k ≡ p ++ drop (length p) k
begun p k b = (starts_is Decides-eqb k p (begins_with p k) refl).0 b

begins : (p k rest : List ℕ) → k ≡ p ++ rest → begins_with p k ≡ true
begins p k rest e = (starts_is Decides-eqb k p (begins_with p k) refl).1 rest e

same_byte : (x : ℕ) → nat_cmp x x ≡ Equal
same_byte x = sym (nat_cmp_is x x Equal refl)

-- such a key isn't below the prefix
pub not_below_start : (p rest : List ℕ) → is_below (p ++ rest) p ≡ false
not_below_start [] rest = none_below_empty rest
not_below_start (x ∷ p) rest = ap (λ (o : Ordering). is_lt (ordering_then o (order (p ++ rest) p))) (same_byte x) ∙ not_below_start p rest

-- a key that isn't below the prefix, and is below a key that begins with it, begins with it, too
between_by : (o : Ordering) (x z : ℕ) (p e rest : List ℕ) → MatchOrdering o (z < x) (z ≡ x) (x < z) → is_lt (ordering_then o (order e p)) ≡ false → ordering_then o (order e (p ++ rest)) ≡ Less
    → (is_below e p ≡ false → order e (p ++ rest) ≡ Less → (more : List ℕ) × (e ≡ p ++ more)) → (more : List ℕ) × (z ∷ e ≡ x ∷ (p ++ more))
between_by Less x z p e rest m n l ih = absurd (cc)
between_by Equal x z p e rest m n l ih = let r = ih n l in (r.0, ap (λ (i : ℕ). i ∷ e) m ∙ ap (λ (ks : List ℕ). x ∷ ks) r.1)
between_by Greater x z p e rest m n l ih = absurd (cc)

between : (p e rest : List ℕ) → is_below e p ≡ false → order e (p ++ rest) ≡ Less → (more : List ℕ) × (e ≡ p ++ more)
between [] e rest n l = (e, refl)
between (x ∷ p) [] rest n l = absurd (cc)
between (x ∷ p) (z ∷ e) rest n l = between_by (nat_cmp z x) x z p e rest (ranks z x) n l (λ a b. between p e rest a b)

-- ---- so such keys are neighbours

pub lower_begins_not : (b : Bool) (p k : List ℕ) → begins_with p k ≡ b → is_below k p ≡ true → b ≡ false
lower_begins_not true p k b h = absurd (let same = begun p k b in let not_below : is_below k p ≡ false = ap (λ (j : List ℕ). is_below j p) same ∙ not_below_start p (drop (length p) k) in let wrong : true ≡ false = sym h ∙ not_below in cc)
lower_begins_not false p k b h = refl

pub later_begins_not : (b : Bool) (p e k : List ℕ) → begins_with p k ≡ b → begins_with p e ≡ false → is_below e p ≡ false → order e k ≡ Less → b ≡ false
later_begins_not true p e k b f n l =
    absurd (let r = between p e (drop (length p) k) n (subst (λ (j : List ℕ). order e j ≡ Less) (begun p k b) l) in let wrong : true ≡ false = sym (begins p e r.0 r.1) ∙ f in cc)
later_begins_not false p e k b f n l = refl
