-- The value of a map at a key, and the first of its rows from that key on.
use Rattle.std.specs.Prelude.{◌≡◌, ℕ, Bool, true, false, cond, List, [], ◌∷◌, take, Some, None}
use Rattle.std.proofs.Common.{refl, sym, ap, ◌∙◌, subst, Less}
use Rattle.std.specs.List.Sorted.{IsStrictlySortedBy}
use Rattle.std.specs.Ordering.{is_eq}
use Rattle.keys.specs.Order.{order, IsRising}
use Rattle.keys.specs.OrderedMap.{value_at}
use Rattle.keys.specs.Range.{is_within, in_range, rows}
use Rattle.keys.proofs.MapLemmas.{passes_same, order_itself}
use Rattle.keys.proofs.RangeLemmas.{all_below}
use Rattle.scan.proofs.Parts.{value_at-passing}

abbrev Pairs : Type 0
Pairs = List (List ℕ × List ℕ)

within_itself : (k : List ℕ) → is_within k None k ≡ true
within_itself k = rw (order_itself k) refl

lower_is_out : (j k : List ℕ) → order j k ≡ Less → is_within k None j ≡ false
lower_is_out j k l = rw l refl

none_of : (es : Pairs) → take 0 es ≡ []
none_of [] = refl
none_of (e ∷ es) = refl

first_by : (b : Bool) (k v : List ℕ) (e : List ℕ × List ℕ) (es : Pairs) → is_eq (order k e.0) ≡ b → IsRising (e ∷ es) → cond b (Some e.1) (value_at k es) ≡ Some v
    → (value_at k es ≡ Some v → rows k None 1 es ≡ (k, v) ∷ []) → rows k None 1 (e ∷ es) ≡ (k, v) ∷ []
unfolding IsStrictlySortedBy
first_by true k v e es b r h ih =
    let same : k ≡ e.0 = passes_same k e.0 b in
    let value : e.1 ≡ v = cc in
    let here : in_range e.0 None (e ∷ es) ≡ e ∷ in_range e.0 None es = rw (within_itself e.0) refl in
    let first : rows e.0 None 1 (e ∷ es) ≡ (e.0, e.1) ∷ [] = ap (λ (x : Pairs). take 1 x) here ∙ ap (λ (x : Pairs). e ∷ x) (none_of (in_range e.0 None es)) in
    rw (← value) (subst (λ (j : List ℕ). rows j None 1 (e ∷ es) ≡ (j, e.1) ∷ []) (sym same) first)
first_by false k v e es b r h ih =
    let l : order e.0 k ≡ Less = all_below k es v e.0 r.0 h in
    let passed : in_range k None (e ∷ es) ≡ in_range k None es = rw (lower_is_out e.0 k l) refl in
    ap (λ (x : Pairs). take 1 x) passed ∙ ih h

-- if the map has a value at the key, that is the first row
pub first_there : (k v : List ℕ) (m : Pairs) → IsRising m → value_at k m ≡ Some v → rows k None 1 m ≡ (k, v) ∷ []
unfolding IsStrictlySortedBy
first_there k v [] r h = absurd (cc)
first_there k v (e ∷ es) r h = first_by (is_eq (order k e.0)) k v e es refl r h (λ p. first_there k v es r.1 p)

starts_so : (k v : List ℕ) (es : Pairs) → take 1 es ≡ (k, v) ∷ [] → value_at k es ≡ Some v
starts_so k v [] h = absurd (cc)
starts_so k v (e ∷ es) h =
    let first : e ≡ (k, v) = cc in
    rw first (ap (λ (b : Bool). cond b (Some v) (value_at k es)) (ap is_eq (order_itself k)))

-- if that is the first row, the map has the value at the key
pub there_first : (k v : List ℕ) (m : Pairs) → rows k None 1 m ≡ (k, v) ∷ [] → value_at k m ≡ Some v
there_first k v m h =
    sym (value_at-passing (is_within k None) m k ∙ ap (λ (b : Bool). cond b (value_at k m) None) (within_itself k)) ∙ starts_so k v (in_range k None m) h
