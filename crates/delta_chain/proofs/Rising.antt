-- Lemmas on lists of entries that rise, for the proofs of this crate and of those above it.
use Rattle.std.specs.Prelude.{◌≡◌, ℕ, zero, suc, ◌+◌, true, List, [], ◌∷◌, ◌++◌, length, drop, slice_get, Some}
use Rattle.std.proofs.Common.{refl, sym, ap, ◌∙◌, arith, append_assoc, add-one, Less, ◌-◌}
use Rattle.std.specs.Ordering.{is_lt}
use Rattle.std.specs.List.Sorted.{IsStrictlySortedBy}
use Rattle.std.specs.Map.{keys_of}
use Rattle.keys.specs.Order.{order, AreRisingKeys, IsRising}
use Rattle.keys.proofs.Basics.{less_by}
use Rattle.keys.proofs.MapLemmas.{IsBelowAll, total}
use Rattle.delta_chain.specs.Building.{goes_last}
use Rattle.delta_chain.proofs.Places.{front_under}

-- the keys from a place on: the key there, and then the rest
key_after : (ks : List (List ℕ)) (at : ℕ) (k : List ℕ) → slice_get ks at ≡ Some k → drop at ks ≡ k ∷ drop (suc at) ks
key_after [] at k h = absurd (cc)
key_after (j ∷ ks) zero k h = let s : j ≡ k = cc in ap (λ (i : List ℕ). i ∷ ks) s
key_after (j ∷ ks) (suc at) k h = key_after ks at k h

module _ {V : Type 0} where
  -- a key above the last one is above the first
  pub goes_last_first : (e : List ℕ × V) (es : List (List ℕ × V)) (k : List ℕ) → IsRising (e ∷ es) → goes_last k (e ∷ es) ≡ true → order e.0 k ≡ Less
  unfolding IsStrictlySortedBy
  goes_last_first e [] k r h = less_by (order e.0 k) h
  goes_last_first e (f ∷ es) k r h = total.trans e.0 f.0 k (r.0).0 (goes_last_first f es k r.1 h)

  pub goes_last_rest : (e : List ℕ × V) (es : List (List ℕ × V)) (k : List ℕ) → goes_last k (e ∷ es) ≡ true → goes_last k es ≡ true
  goes_last_rest e [] k h = refl
  goes_last_rest e (f ∷ es) k h = h

  below_push : (j : List ℕ) (es : List (List ℕ × V)) (k : List ℕ) (v : V) → IsBelowAll j (keys_of es) → order j k ≡ Less → IsBelowAll j (keys_of (es ++ (k, v) ∷ []))
  below_push j [] k v a h = (h, tt)
  below_push j (e ∷ es) k v a h = (a.0, below_push j es k v a.1 h)

  -- entries with one more after them, above the last one, rise
  pub rising-push : (es : List (List ℕ × V)) (k : List ℕ) (v : V) → IsRising es → goes_last k es ≡ true → IsRising (es ++ (k, v) ∷ [])
  unfolding IsStrictlySortedBy
  rising-push [] k v r h = (tt, tt)
  rising-push (e ∷ es) k v r h =
      (below_push e.0 es k v r.0 (goes_last_first e es k r h), rising-push es k v r.1 (goes_last_rest e es k h))

  last_by : (es : List (List ℕ × V)) (n : ℕ) (k : List ℕ) (e : List ℕ × V) → n + 1 ≡ length es → slice_get es n ≡ Some e → goes_last k es ≡ is_lt (order e.0 k)
  last_by [] n k e l h = absurd (omega arith)
  last_by (d ∷ []) zero k e l h = let s : d ≡ e = cc in ap (λ (x : List ℕ × V). is_lt (order x.0 k)) s
  last_by (d ∷ []) (suc n) k e l h = absurd (omega arith)
  last_by (d ∷ f ∷ es) zero k e l h = absurd (omega arith)
  last_by (d ∷ f ∷ es) (suc n) k e l h = let m : n + 1 ≡ length (f ∷ es) = omega arith in last_by (f ∷ es) n k e m h

  -- the test, by the entry at the last place
  pub goes_last-some : (es : List (List ℕ × V)) (k : List ℕ) (e : List ℕ × V) → slice_get es (length es - 1) ≡ Some e → goes_last k es ≡ is_lt (order e.0 k)
  goes_last-some [] k e h = absurd (cc)
  goes_last-some (d ∷ es) k e h = last_by (d ∷ es) (length (d ∷ es) - 1) k e (omega arith) h

  -- and by the key there
  pub goes_last-key : (es : List (List ℕ × V)) (n : ℕ) (j k : List ℕ) → n + 1 ≡ length es → slice_get (keys_of es) n ≡ Some j → goes_last k es ≡ is_lt (order j k)
  goes_last-key [] n j k l h = absurd (cc)
  goes_last-key (d ∷ []) zero j k l h = let s : d.0 ≡ j = cc in ap (λ (x : List ℕ). is_lt (order x k)) s
  goes_last-key (d ∷ []) (suc n) j k l h = absurd (cc)
  goes_last-key (d ∷ f ∷ es) zero j k l h = absurd (omega arith)
  goes_last-key (d ∷ f ∷ es) (suc n) j k l h = let m : n + 1 ≡ length (f ∷ es) = omega arith in goes_last-key (f ∷ es) n j k m h

  -- in a list that rises, each key may follow the entries before it
  pub goes_last-rising : (es : List (List ℕ × V)) (k : List ℕ) (v : V) (rest : List (List ℕ × V)) → IsRising (es ++ (k, v) ∷ rest) → goes_last k es ≡ true
  unfolding IsStrictlySortedBy
  goes_last-rising [] k v rest r = refl
  goes_last-rising (e ∷ []) k v rest r = rw (r.0).0 refl
  goes_last-rising (e ∷ f ∷ es) k v rest r = goes_last-rising (f ∷ es) k v rest r.1

  -- so a list may be built again from its front, entry by entry
  pub goes_last-next : (built es : List (List ℕ × V)) (at : ℕ) (k : List ℕ) → IsRising es → slice_get (keys_of es) at ≡ Some k → built ++ drop at es ≡ es → goes_last k built ≡ true
  goes_last-next built es at k r h t =
      let e = front_under es at k h in
      let s : built ++ (k, e.0) ∷ drop (suc at) es ≡ es = rw e.1 at t in
      goes_last-rising built k e.0 (drop (suc at) es) (rw s r)

  -- the same of a list that has only the keys of the other so far
  goes_last-rising_keys : (es : List (List ℕ × V)) (k : List ℕ) (rest : List (List ℕ)) → AreRisingKeys (keys_of es ++ k ∷ rest) → goes_last k es ≡ true
  unfolding IsStrictlySortedBy
  goes_last-rising_keys [] k rest r = refl
  goes_last-rising_keys (e ∷ []) k rest r = rw (r.0).0 refl
  goes_last-rising_keys (e ∷ f ∷ es) k rest r = goes_last-rising_keys (f ∷ es) k rest r.1

  pub goes_last-next_key : (built : List (List ℕ × V)) (ks : List (List ℕ)) (at : ℕ) (k : List ℕ) → AreRisingKeys ks → slice_get ks at ≡ Some k → keys_of built ++ drop at ks ≡ ks → goes_last k built ≡ true
  goes_last-next_key built ks at k r h t =
      let s : keys_of built ++ k ∷ drop (suc at) ks ≡ ks = rw (key_after ks at k h) at t in
      goes_last-rising_keys built k (drop (suc at) ks) (rw s r)

  keys_of-push : (es : List (List ℕ × V)) (k : List ℕ) (v : V) → keys_of (es ++ (k, v) ∷ []) ≡ keys_of es ++ k ∷ []
  keys_of-push [] k v = refl
  keys_of-push (e ∷ es) k v = ap (λ (ks : List (List ℕ)). e.0 ∷ ks) (keys_of-push es k v)

  pub push_key : (built : List (List ℕ × V)) (ks : List (List ℕ)) (at : ℕ) (k : List ℕ) (v : V) → slice_get ks at ≡ Some k → keys_of built ++ drop at ks ≡ ks → keys_of (built ++ (k, v) ∷ []) ++ drop (at + 1) ks ≡ ks
  push_key built ks at k v h t =
      rw (keys_of-push built k v, add-one) (append_assoc (keys_of built) (k ∷ []) (drop (suc at) ks) ∙ ap (λ (x : List (List ℕ)). keys_of built ++ x) (sym (key_after ks at k h)) ∙ t)
