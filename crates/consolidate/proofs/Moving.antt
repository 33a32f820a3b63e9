-- Cells that are moved out of a page one by one, and moved back.
use Rattle.std.specs.Prelude.{◌≡◌, ◌≢◌, ◌<◌, ◌≤◌, ◌-◌, ℕ, zero, suc, List, [], ◌∷◌, ◌++◌, length, take, drop, slice_get, Option, Some, None}
use Rattle.std.proofs.Common.{refl, sym, ap, ◌∙◌, arith, Less}
use Rattle.std.proofs.lemmas.List.{take_all}
use Rattle.std.specs.List.{AllByRecursion}
use Rattle.std.proofs.lemmas.Map.Keys.{sorted_head, sorted_tail}
use Rattle.std.specs.Map.{keys_of, values_of}
use Rattle.keys.specs.Order.{order, AreRisingKeys, IsRising}
use Rattle.keys.specs.OrderedMap.{value_at}
use Rattle.keys.proofs.MapLemmas.{order_itself}
use Rattle.consolidate.specs.PutBack.{put_back}
use Rattle.delta_chain.specs.Exchange.{exchanged_at, exchanged}
use Rattle.delta_chain.specs.Layers.{Layers, change_or, held_under, holds, entries_of, AllRise, IsInOrder}
use Rattle.delta_chain.proofs.Exchanging.{with_pair-same, exchanged-back, held-base, holds-exchanged_elsewhere, keys-exchanged_at, item_there}
use Rattle.delta_chain.proofs.LayerLemmas.{rising-entries_of, value_at-entries_of}
use Rattle.delta_chain.proofs.Places.{drop_pair}
use Rattle.delta_chain.proofs.Setting.{below_at}

-- ---- keys that rise are apart

rising_less : (ks : List (List ℕ)) (at m : ℕ) (k q : List ℕ) → AreRisingKeys ks → at < m → slice_get ks at ≡ Some k → slice_get ks m ≡ Some q → order k q ≡ Less
rising_less [] at m k q r l h g = absurd (cc)
rising_less (j ∷ ks) zero zero k q r l h g = absurd (omega arith)
rising_less (j ∷ ks) zero (suc m) k q r l h g = let s : j ≡ k = cc in rw (← s) (below_at j ks m q (sorted_head order j ks r) g)
rising_less (j ∷ ks) (suc at) zero k q r l h g = absurd (omega arith)
rising_less (j ∷ ks) (suc at) (suc m) k q r l h g = rising_less ks at m k q (sorted_tail order j ks r) (omega arith) h g

rising_apart : (ks : List (List ℕ)) (at m : ℕ) (k q : List ℕ) → AreRisingKeys ks → at < m → slice_get ks at ≡ Some k → slice_get ks m ≡ Some q → q ≢ k
rising_apart ks at m k q r l h g e = let less = rising_less ks at m k q r l h g in let same = order_itself k in absurd (let wrong : order k k ≡ Less = rw e at less in cc)

module _ {V : Type 0} where
  -- ---- entries that have the same keys, place by place

  -- how many there are follows from the keys
  pub length-keys : (bs es : List (List ℕ × V)) → keys_of bs ≡ keys_of es → length bs ≡ length es
  length-keys [] [] h = refl
  length-keys [] (e ∷ es) h = absurd (cc)
  length-keys (b ∷ bs) [] h = absurd (cc)
  length-keys (b ∷ bs) (e ∷ es) h = ap suc (length-keys bs es (cc))

  -- one more of the cells
  pub one_more : (bs es : List (List ℕ × V)) (at : ℕ) (k : List ℕ) (w : V) → keys_of bs ≡ keys_of es → slice_get (keys_of es) at ≡ Some k → slice_get (values_of es) at ≡ Some w → take at bs ≡ take at es → take (suc at) (exchanged_at bs at w) ≡ take (suc at) es
  one_more [] [] at k w h i j t = refl
  one_more [] (e ∷ es) at k w h i j t = absurd (cc)
  one_more (b ∷ bs) [] at k w h i j t = absurd (cc)
  one_more (b ∷ bs) (e ∷ es) zero k w h i j t =
      let s : b.0 ≡ e.0 = cc in
      let u : w ≡ e.1 = cc in
      let pair : List ℕ → V → List ℕ × V = λ a b. (a, b) in
      ap (λ (x : List ℕ). pair x w ∷ []) s ∙ ap (λ (x : V). pair e.0 x ∷ []) u
  one_more (b ∷ bs) (e ∷ es) (suc at) k w h i j t =
      let s : b ≡ e = cc in
      let rest : take at bs ≡ take at es = cc in
      ap (λ (x : List ℕ × V). x ∷ take (suc at) (exchanged_at bs at w)) s ∙ ap (λ (x : List (List ℕ × V)). e ∷ x) (one_more bs es at k w (cc) i j rest)

  -- one fewer
  pub one_fewer : (bs es : List (List ℕ × V)) (at : ℕ) (w : V) → take (suc at) bs ≡ take (suc at) es → take at (exchanged_at bs at w) ≡ take at es
  one_fewer bs [] zero w t = refl
  one_fewer bs (e ∷ es) zero w t = refl
  one_fewer [] [] (suc at) w t = refl
  one_fewer [] (e ∷ es) (suc at) w t = absurd (cc)
  one_fewer (b ∷ bs) [] (suc at) w t = absurd (cc)
  one_fewer (b ∷ bs) (e ∷ es) (suc at) w t =
      let s : b ≡ e = cc in
      let rest : take (suc at) bs ≡ take (suc at) es = cc in
      ap (λ (x : List ℕ × V). x ∷ take at (exchanged_at bs at w)) s ∙ ap (λ (x : List (List ℕ × V)). e ∷ x) (one_fewer bs es at w rest)

  -- the last of the first ones
  pub same_value : (bs es : List (List ℕ × V)) (at : ℕ) (w : V) → take (suc at) bs ≡ take (suc at) es → slice_get (values_of bs) at ≡ Some w → slice_get (values_of es) at ≡ Some w
  same_value [] es at w t h = absurd (cc)
  same_value (b ∷ bs) [] at w t h = absurd (cc)
  same_value (b ∷ bs) (e ∷ es) zero w t h = let s : b ≡ e = cc in rw (← s) h
  same_value (b ∷ bs) (e ∷ es) (suc at) w t h = let rest : take (suc at) bs ≡ take (suc at) es = cc in same_value bs es at w rest h

  pub all_same : (bs es : List (List ℕ × V)) (at : ℕ) → keys_of bs ≡ keys_of es → length bs ≤ at → take at bs ≡ take at es → bs ≡ es
  all_same bs es at h l t =
      let n = length-keys bs es h in
      sym (take_all at bs l) ∙ t ∙ take_all at es (omega (arith, l, n))

  take_one : (es : List (List ℕ × V)) (at : ℕ) (k : List ℕ) (w : V) → slice_get (keys_of es) at ≡ Some k → slice_get (values_of es) at ≡ Some w → take (suc at) es ≡ take at es ++ (k, w) ∷ []
  take_one [] at k w h j = absurd (cc)
  take_one (e ∷ es) zero k w h j =
      let s : e.0 ≡ k = cc in
      let u : e.1 ≡ w = cc in
      let pair : List ℕ → V → List ℕ × V = λ a b. (a, b) in
      ap (λ (x : List ℕ). pair x e.1 ∷ []) s ∙ ap (λ (x : V). pair k x ∷ []) u
  take_one (e ∷ es) (suc at) k w h j = ap (λ (x : List (List ℕ × V)). e ∷ x) (take_one es at k w h j)

  -- the entry at a place is the first of the entries from that place on
  front_of : (es : List (List ℕ × V)) (n : ℕ) (e : List ℕ × V) (rest : List (List ℕ × V)) → drop n es ≡ e ∷ rest → (slice_get (keys_of es) n ≡ Some e.0) × (slice_get (values_of es) n ≡ Some e.1) × (drop (suc n) es ≡ rest)
  front_of [] zero e rest h = absurd (cc)
  front_of [] (suc n) e rest h = absurd (cc)
  front_of (d ∷ es) zero e rest h =
      let s : d ≡ e = cc in
      (ap (λ (x : List ℕ × V). Some x.0) s, ap (λ (x : List ℕ × V). Some x.1) s, cc)
  front_of (d ∷ es) (suc n) e rest h = front_of es n e rest h

  -- ---- back

  put_back-push : (p : Layers V) (es : List (List ℕ × V)) (e : List ℕ × V) → put_back p (es ++ e ∷ []) ≡ put_back (exchanged p e.0 e.1) es
  put_back-push p [] e = refl
  put_back-push p (f ∷ es) e = ap (λ (q : Layers V). exchanged q f.0 f.1) (put_back-push p es e)

  -- the old page holds the cell of the entry at its key, and so does the page now
  abbrev pub HoldsFrom : Layers V → Layers V → ℕ → Type 0
  HoldsFrom was now at = (m : ℕ) (q : List ℕ) → at ≤ m → slice_get (keys_of (entries_of was)) m ≡ Some q → holds now q ≡ holds was q

  pub found : (was now : Layers V) (at : ℕ) (k : List ℕ) → IsInOrder was → HoldsFrom was now at → slice_get (keys_of (entries_of was)) at ≡ Some k → (w : V) × (slice_get (values_of (entries_of was)) at ≡ Some w) × (holds now k ≡ Some w)
  found was now at k a f h =
      let w = item_there (entries_of was) at k h in
      let there = held-base (entries_of was) at k w.0 (rising-entries_of was a) h w.1 in
      (w.0, w.1, f at k (omega arith) h ∙ sym (value_at-entries_of was k a) ∙ sym there)

  pub back_one_more : (was now : Layers V) (at : ℕ) (k : List ℕ) (v w : V) → IsInOrder now → slice_get (keys_of (entries_of was)) at ≡ Some k → slice_get (values_of (entries_of was)) at ≡ Some w → holds now k ≡ Some w → put_back now (take at (entries_of was)) ≡ was → put_back (exchanged now k v) (take (suc at) (entries_of was)) ≡ was
  back_one_more was now at k v w a h j g t =
      ap (λ (es : List (List ℕ × V)). put_back (exchanged now k v) es) (take_one (entries_of was) at k w h j)
      ∙ put_back-push (exchanged now k v) (take at (entries_of was)) (k, w)
      ∙ ap (λ (p : Layers V). put_back p (take at (entries_of was))) (exchanged-back now k v w a g)
      ∙ t

  -- where all are moved
  pub all_back : (was now : Layers V) (bs : List (List ℕ × V)) (at : ℕ) → keys_of bs ≡ keys_of (entries_of was) → length bs ≤ at → take at bs ≡ take at (entries_of was) → put_back now (take at (entries_of was)) ≡ was → put_back now bs ≡ was
  all_back was now bs at h l t b = ap (λ (es : List (List ℕ × V)). put_back now es) (sym (take_all at bs l) ∙ t) ∙ b

  pub holds_from : (was now : Layers V) (at : ℕ) (k : List ℕ) (v : V) → IsInOrder was → IsInOrder now → slice_get (keys_of (entries_of was)) at ≡ Some k → HoldsFrom was now at → HoldsFrom was (exchanged now k v) (suc at)
  holds_from was now at k v a b h f m q l g =
      holds-exchanged_elsewhere now k q v b (rising_apart (keys_of (entries_of was)) at m k q (rising-entries_of was a) (omega arith) h g)
      ∙ f m q (omega arith) g

  pub back_one : (p : Layers V) (es : List (List ℕ × V)) (at : ℕ) (k : List ℕ) (w : V) → slice_get (keys_of es) at ≡ Some k → slice_get (values_of es) at ≡ Some w → exchanged (put_back p (drop (suc at) es)) k w ≡ put_back p (drop at es)
  back_one p es at k w h j = ap (λ (x : List (List ℕ × V)). put_back p x) (sym (drop_pair es at k w h j))

  -- one more put back: the last of the remaining ones in the base
  pub within_left : (bs es : List (List ℕ × V)) (left : ℕ) → keys_of bs ≡ keys_of es → left ≤ length es → 0 < left → left - 1 < length bs
  within_left bs es left h l z = let n = length-keys bs es h in omega (arith, n, l, z)

  abbrev pub Left : Layers V → List (List ℕ × V) → Layers V → List (List ℕ × V) → ℕ → Type 0
  Left was all now bs left = (take left bs ≡ take left all) × (now ≡ put_back was (drop left all))

  pub left_one_fewer : (was now : Layers V) (all bs : List (List ℕ × V)) (left at : ℕ) (k : List ℕ) (w b : V) → left ≡ suc at → keys_of bs ≡ keys_of all → take left bs ≡ take left all → now ≡ put_back was (drop left all)
      → slice_get (keys_of (exchanged_at bs at b)) at ≡ Some k → slice_get (values_of bs) at ≡ Some w → Left was all (exchanged now k w) (exchanged_at bs at b) at
  left_one_fewer was now all bs left at k w b e h t n i j =
      let key : slice_get (keys_of all) at ≡ Some k = rw (← h, ← keys-exchanged_at bs at b) i in
      let first : take (suc at) bs ≡ take (suc at) all = rw (← e) t in
      let following : now ≡ put_back was (drop (suc at) all) = rw (← e) n in
      let value = same_value bs all at w first j in
      (one_fewer bs all at b first, ap (λ (p : Layers V). exchanged p k w) following ∙ back_one was all at k w key value)

  -- ---- cells that were copied

  abbrev Over : List (List ℕ × Option V) → Layers V → Layers V
  Over run p = record { runs = run ∷ p.runs; base = p.base }

  same_base_by : (o : Option V) (k : List ℕ) (v : V) (base : List (List ℕ × V)) → value_at k base ≡ o → IsRising base → o ≡ Some v → exchanged (record { runs = []; base = base }) k v ≡ record { runs = []; base = base }
  same_base_by None k v base e r h = absurd (cc)
  same_base_by (Some w) k v base e r h = rw e (ap (λ (m : List (List ℕ × V)). record { runs = []; base = m }) (with_pair-same base k v r (e ∙ h)))

  same_run_by : (o : Option (Option V)) (k : List ℕ) (v : V) (run : List (List ℕ × Option V)) (p : Layers V) → value_at k run ≡ o → IsRising run → change_or o (holds p k) ≡ Some v → (holds p k ≡ Some v → exchanged p k v ≡ p) → exchanged (Over run p) k v ≡ Over run p
  same_run_by None k v run p e r h ih = rw e (ap (λ (x : Layers V). Over run x) (ih h))
  same_run_by (Some None) k v run p e r h ih = absurd (cc)
  same_run_by (Some (Some w)) k v run p e r h ih =
      let here : value_at k run ≡ Some (Some v) = e ∙ ap (λ (t : Option V). Some t) h in
      rw e (ap (λ (m : List (List ℕ × Option V)). Over m p) (with_pair-same run k (Some v) r here))

  same_under : (k : List ℕ) (v : V) (runs : List (List (List ℕ × Option V))) (base : List (List ℕ × V)) → AllRise runs base → held_under k runs base ≡ Some v → exchanged (record { runs = runs; base = base }) k v ≡ record { runs = runs; base = base }
  same_under k v [] base a h = same_base_by (value_at k base) k v base refl a h
  same_under k v (run ∷ runs) base a h = same_run_by (value_at k run) k v run (record { runs = runs; base = base }) refl a.0 h (λ g. same_under k v runs base a.1 g)

  -- each of these cells is held by the page at its key
  abbrev AreHeld : Layers V → List (List ℕ × V) → Type 0
  AreHeld p es = AllByRecursion (λ (e : List ℕ × V). holds p e.0 ≡ Some e.1) es

  put_back-held : (p : Layers V) (es : List (List ℕ × V)) → IsInOrder p → AreHeld p es → put_back p es ≡ p
  put_back-held p [] a h = refl
  put_back-held p (e ∷ es) a h = ap (λ (q : Layers V). exchanged q e.0 e.1) (put_back-held p es a h.1) ∙ same_under e.0 e.1 p.runs p.base a h.0

  -- entries of a page from a place on are held by it
  held_from : (p : Layers V) (n : ℕ) (es : List (List ℕ × V)) → IsInOrder p → drop n (entries_of p) ≡ es → AreHeld p es
  held_from p n [] a h = tt
  held_from p n (e ∷ es) a h =
      let at = front_of (entries_of p) n e es h in
      let there = held-base (entries_of p) n e.0 e.1 (rising-entries_of p a) at.0 at.1 in
      (sym (value_at-entries_of p e.0 a) ∙ sym there, held_from p (suc n) es a at.2)

  -- so copies of them, put back, leave the page as it was
  pub put_back-copies : (p : Layers V) → IsInOrder p → put_back p (entries_of p) ≡ p
  put_back-copies p a = put_back-held p (entries_of p) a (held_from p 0 (entries_of p) a refl)
