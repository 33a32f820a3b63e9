-- The place of the first key that isn't below a key: the entries from that place on are those of the range that begins at the key.
use Rattle.std.specs.Prelude.{◌≡◌, ℕ, zero, suc, Bool, true, false, cond, List, [], ◌∷◌, drop, slice_get, Some, None}
use Rattle.std.proofs.Common.{refl, sym, ap, ◌∙◌, Ordering, Less, Equal, Greater}
use Rattle.std.specs.List.{insert}
use Rattle.std.specs.List.Sorted.{IsStrictlySortedBy}
use Rattle.std.specs.Map.{keys_of}
use Rattle.keys.specs.Order.{order, IsRising}
use Rattle.keys.specs.OrderedMap.{value_at, with_pair}
use Rattle.keys.specs.Range.{is_below, in_range}
use Rattle.keys.proofs.MapLemmas.{IsBelowAll, below_all, order_itself, flipped_less, flipped_greater}
use Rattle.delta_chain.proofs.Setting.{below_at}

module _ {T : Type 0} where
  kept_by : (b : Bool) (k : List ℕ) (e : List ℕ × T) (es : List (List ℕ × T)) → is_below e.0 k ≡ b → in_range k None (e ∷ es) ≡ cond b (in_range k None es) (e ∷ in_range k None es)
  kept_by true k e es h = rw h refl
  kept_by false k e es h = rw h refl

  -- if no key is below it, all entries are in the range
  kept_all : (k : List ℕ) (es : List (List ℕ × T)) → IsBelowAll k (keys_of es) → in_range k None es ≡ es
  kept_all k [] a = refl
  kept_all k (e ∷ es) a = kept_by false k e es (rw (flipped_less k e.0 a.0) refl) ∙ ap (λ (m : List (List ℕ × T)). e ∷ m) (kept_all k es a.1)

  -- the place of a key that is there
  pub lower-found : (es : List (List ℕ × T)) (at : ℕ) (k : List ℕ) → IsRising es → slice_get (keys_of es) at ≡ Some k → drop at es ≡ in_range k None es
  unfolding IsStrictlySortedBy
  lower-found [] at k r h = absurd (cc)
  lower-found (e ∷ es) zero k r h =
      let s : e.0 ≡ k = cc in
      let here : is_below e.0 k ≡ false = rw (s, order_itself k) refl in
      let following : IsBelowAll k (keys_of es) = rw s at r.0 in
      sym (kept_by false k e es here ∙ ap (λ (m : List (List ℕ × T)). e ∷ m) (kept_all k es following))
  lower-found (e ∷ es) (suc at) k r h =
      let below : is_below e.0 k ≡ true = rw (below_at e.0 (keys_of es) at k r.0 h) refl in
      lower-found es at k r.1 h ∙ sym (kept_by true k e es below)

  -- the place where a key goes, that isn't there
  same_first : (e : List ℕ × T) (k : List ℕ) (v : T) (es fs : List (List ℕ × T)) → e ∷ es ≡ (k, v) ∷ fs → order k e.0 ≡ Equal
  same_first e k v es fs h =
      let s : e ≡ (k, v) = cc in
      rw s (order_itself k)

  gap_here : (o : Ordering) (e : List ℕ × T) (es : List (List ℕ × T)) (k : List ℕ) (v : T) → order k e.0 ≡ o → IsRising (e ∷ es) → value_at k (e ∷ es) ≡ None → with_pair (e ∷ es) k v ≡ (k, v) ∷ e ∷ es → e ∷ es ≡ in_range k None (e ∷ es)
  unfolding IsStrictlySortedBy
  gap_here Less e es k v o r n h = sym (kept_all k (e ∷ es) (o, below_all k e.0 (keys_of es) o r.0))
  gap_here Equal e es k v o r n h = absurd (let wrong = rw o at n in cc)
  gap_here Greater e es k v o r n h =
      absurd (let first : e ∷ with_pair es k v ≡ (k, v) ∷ e ∷ es = rw o at h in let wrong = sym o ∙ same_first e k v (with_pair es k v) (e ∷ es) first in cc)

  gap_after : (o : Ordering) (e : List ℕ × T) (es : List (List ℕ × T)) (at : ℕ) (k : List ℕ) (v : T) → order k e.0 ≡ o → value_at k (e ∷ es) ≡ None → with_pair (e ∷ es) k v ≡ e ∷ insert es at (k, v)
      → (value_at k es ≡ None → with_pair es k v ≡ insert es at (k, v) → drop at es ≡ in_range k None es) → drop at es ≡ in_range k None (e ∷ es)
  gap_after Less e es at k v o n h ih =
      absurd (let first : (k, v) ∷ e ∷ es ≡ e ∷ insert es at (k, v) = rw o at h in let wrong = sym o ∙ same_first e k v (insert es at (k, v)) (e ∷ es) (sym first) in cc)
  gap_after Equal e es at k v o n h ih = absurd (let wrong = rw o at n in cc)
  gap_after Greater e es at k v o n h ih =
      let below : is_below e.0 k ≡ true = rw (flipped_greater k e.0 o) refl in
      let missing : value_at k es ≡ None = rw o at n in
      let rest : e ∷ with_pair es k v ≡ e ∷ insert es at (k, v) = rw o at h in
      ih missing (cc) ∙ sym (kept_by true k e es below)

  pub lower-missing : (es : List (List ℕ × T)) (at : ℕ) (k : List ℕ) (v : T) → IsRising es → value_at k es ≡ None → with_pair es k v ≡ insert es at (k, v) → drop at es ≡ in_range k None es
  unfolding IsStrictlySortedBy
  lower-missing [] zero k v r n h = refl
  lower-missing [] (suc at) k v r n h = refl
  lower-missing (e ∷ es) zero k v r n h = gap_here (order k e.0) e es k v refl r n h
  lower-missing (e ∷ es) (suc at) k v r n h = gap_after (order k e.0) e es at k v refl n h (λ m i. lower-missing es at k v r.1 m i)
