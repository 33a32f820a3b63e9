-- Lists of pairs, place by place, for the proofs of this crate and of those above it.
use Rattle.std.specs.Prelude.{◌≡◌, ◌<◌, ◌+◌, ℕ, zero, suc, List, [], ◌∷◌, ◌++◌, length, drop, slice_get, Some}
use Rattle.std.proofs.Common.{refl, sym, ap, ◌∙◌, arith, append_assoc, add-one}
use Rattle.std.specs.Map.{keys_of, values_of}
use Rattle.keys.specs.Order.{order}
use Rattle.delta_chain.specs.Merging.{first_order}

module _ {T : Type 0} where
  -- the entries from a place on: the pair of the key and the item there, and then the rest
  pub drop_pair : (es : List (List ℕ × T)) (at : ℕ) (k : List ℕ) (v : T) → slice_get (keys_of es) at ≡ Some k → slice_get (values_of es) at ≡ Some v → drop at es ≡ (k, v) ∷ drop (suc at) es
  drop_pair [] at k v h i = absurd (cc)
  drop_pair (e ∷ es) zero k v h i =
      let s : e.0 ≡ k = cc in
      let t : e.1 ≡ v = cc in
      let pair : List ℕ → T → List ℕ × T = λ a b. (a, b) in
      ap (λ (a : List ℕ). pair a e.1 ∷ es) s ∙ ap (λ (b : T). pair k b ∷ es) t
  drop_pair (e ∷ es) (suc at) k v h i = drop_pair es at k v h i

  -- the same where only the key there is known, and where only the place is
  pub front_under : (es : List (List ℕ × T)) (at : ℕ) (k : List ℕ) → slice_get (keys_of es) at ≡ Some k → (v : T) × (drop at es ≡ (k, v) ∷ drop (suc at) es)
  front_under [] at k h = absurd (cc)
  front_under (e ∷ es) zero k h =
      let s : e.0 ≡ k = cc in
      let pair : List ℕ → T → List ℕ × T = λ a b. (a, b) in
      (e.1, ap (λ (a : List ℕ). pair a e.1 ∷ es) s)
  front_under (e ∷ es) (suc at) k h = front_under es at k h

  pub front_at : (es : List (List ℕ × T)) (at : ℕ) → at < length es → (e : List ℕ × T) × (drop at es ≡ e ∷ drop (suc at) es)
  front_at [] at h = absurd (omega arith)
  front_at (e ∷ es) zero h = (e, refl)
  front_at (e ∷ es) (suc at) h = let l : at < length es = omega arith in front_at es at l

  -- the key and the item at a place, by the entry there
  pub key_of_entry : (es : List (List ℕ × T)) (at : ℕ) (e : List ℕ × T) (k : List ℕ) → slice_get es at ≡ Some e → k ≡ e.0 → slice_get (keys_of es) at ≡ Some k
  key_of_entry [] at e k h q = absurd (cc)
  key_of_entry (d ∷ es) zero e k h q = let s : d ≡ e = cc in ap (λ (x : List ℕ × T). Some x.0) s ∙ ap (λ (x : List ℕ). Some x) (sym q)
  key_of_entry (d ∷ es) (suc at) e k h q = key_of_entry es at e k h q

  pub item_of_entry : (es : List (List ℕ × T)) (at : ℕ) (e : List ℕ × T) → slice_get es at ≡ Some e → slice_get (values_of es) at ≡ Some e.1
  item_of_entry [] at e h = absurd (cc)
  item_of_entry (d ∷ es) zero e h = let s : d ≡ e = cc in ap (λ (x : List ℕ × T). Some x.1) s
  item_of_entry (d ∷ es) (suc at) e h = item_of_entry es at e h

  -- the only place of a single entry
  pub alone_at : (e : List ℕ × T) (at : ℕ) → at < length (e ∷ []) → slice_get (e ∷ []) at ≡ Some e
  alone_at e zero l = refl
  alone_at e (suc at) l = absurd (omega arith)

  -- after the pair at a place is appended to the pairs so far, these and the pairs after the place are still all pairs
  pub push_pair : (out es all : List (List ℕ × T)) (at : ℕ) (k : List ℕ) (v : T) → slice_get (keys_of es) at ≡ Some k → slice_get (values_of es) at ≡ Some v → out ++ drop at es ≡ all → (out ++ (k, v) ∷ []) ++ drop (at + 1) es ≡ all
  push_pair out es all at k v h i t =
      rw add-one (append_assoc out ((k, v) ∷ []) (drop (suc at) es) ∙ ap (λ (x : List (List ℕ × T)). out ++ x) (sym (drop_pair es at k v h i)) ∙ t)

  -- how the first pair from a place on compares to a key, by the key there
  pub first_at : (es : List (List ℕ × T)) (at : ℕ) (j k : List ℕ) → slice_get (keys_of es) at ≡ Some j → first_order (drop at es) k ≡ order j k
  first_at [] at j k h = absurd (cc)
  first_at (e ∷ es) zero j k h = let s : e.0 ≡ j = cc in ap (λ (i : List ℕ). order i k) s
  first_at (e ∷ es) (suc at) j k h = first_at es at j k h
