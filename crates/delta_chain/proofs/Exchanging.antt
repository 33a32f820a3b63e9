-- Replacing a cell that a page holds, for the proofs of this crate and of those above it.
use Rattle.std.specs.Prelude.{◌≡◌, ◌≢◌, ◌≤◌, ◌-◌, ◌^◌, min, ℕ, zero, suc, Bool, true, false, cond, List, [], ◌∷◌, length, set, slice_get, slice_range, Option, Some, None, is_some}
use Rattle.std.proofs.Common.{refl, sym, ap, ◌∙◌, arith}
use Rattle.std.specs.Option.{unwrap_or}
use Rattle.std.specs.Ordering.{is_eq}
use Rattle.std.specs.Map.{keys_of, values_of}
use Rattle.std.proofs.lemmas.List.{length-set}
use Rattle.std.proofs.lemmas.Map.Keys.{sorted_tail}
use Rattle.keys.specs.Order.{order, IsRising}
use Rattle.keys.specs.OrderedMap.{value_at, with_pair}
use Rattle.keys.proofs.MapLemmas.{order_itself, is_apart, passes_same, same_map, value_at-with_pair_here, rising-with_pair}
use Rattle.delta_chain.specs.Exchange.{exchanged_at, exchanged_under, exchanged}
use Rattle.delta_chain.specs.Layers.{Layers, change_or, held_under, holds, entries_of, AllRise, IsInOrder}
use Rattle.delta_chain.specs.Packed.{packed_from, IsPacked}
use Rattle.delta_chain.specs.Counted.{IsCounted}
use Rattle.delta_chain.proofs.Counts.{most_with_pair}
use Rattle.delta_chain.proofs.LayerLemmas.{value_at-with_change, rising-entries_of, value_at-entries_of}
use Rattle.delta_chain.proofs.Setting.{first_below, value_at-found}

still_no_more : (n m most top : ℕ) → n ≤ m → min m top ≤ most → min n top ≤ most
still_no_more n m most top l h = omega (arith, l, h)

module _ {T : Type 0} where
  -- ---- at a place

  pub keys-exchanged_at : (es : List (List ℕ × T)) (at : ℕ) (t : T) → keys_of (exchanged_at es at t) ≡ keys_of es
  keys-exchanged_at [] at t = refl
  keys-exchanged_at (e ∷ es) zero t = refl
  keys-exchanged_at (e ∷ es) (suc at) t = ap (λ (ks : List (List ℕ)). e.0 ∷ ks) (keys-exchanged_at es at t)

  pub length-exchanged_at : (es : List (List ℕ × T)) (at : ℕ) (t : T) → length (exchanged_at es at t) ≡ length es
  length-exchanged_at [] at t = refl
  length-exchanged_at (e ∷ es) zero t = refl
  length-exchanged_at (e ∷ es) (suc at) t = ap suc (length-exchanged_at es at t)

  pub rising-exchanged_at : (es : List (List ℕ × T)) (at : ℕ) (t : T) → IsRising es → IsRising (exchanged_at es at t)
  rising-exchanged_at es at t r = rw (keys-exchanged_at es at t) r

  -- the entry there, written with another item
  pub set_item : (es : List (List ℕ × T)) (at : ℕ) (e : List ℕ × T) (t : T) → slice_get es at ≡ Some e → set es at (e.0, t) ≡ exchanged_at es at t
  set_item [] at e t h = refl
  set_item (d ∷ es) zero e t h = let s : d ≡ e = cc in ap (λ (x : List ℕ × T). (x.0, t) ∷ es) (sym s)
  set_item (d ∷ es) (suc at) e t h = ap (λ (m : List (List ℕ × T)). d ∷ m) (set_item es at e t h)

  -- it is what the pair of the key there is set to
  pub exchanged_at-pair : (es : List (List ℕ × T)) (at : ℕ) (k : List ℕ) (t : T) → IsRising es → slice_get (keys_of es) at ≡ Some k → exchanged_at es at t ≡ with_pair es k t
  exchanged_at-pair [] at k t r h = absurd (cc)
  exchanged_at-pair (e ∷ es) zero k t r h = let s : e.0 ≡ k = cc in rw (← s, order_itself) refl
  exchanged_at-pair (e ∷ es) (suc at) k t r h = rw (first_below e es at k r h) (ap (λ (m : List (List ℕ × T)). e ∷ m) (exchanged_at-pair es at k t (sorted_tail order e.0 (keys_of es) r) h))

  -- written twice, and written as it was
  pub exchanged_at-twice : (es : List (List ℕ × T)) (at : ℕ) (t u : T) → exchanged_at (exchanged_at es at t) at u ≡ exchanged_at es at u
  exchanged_at-twice [] at t u = refl
  exchanged_at-twice (e ∷ es) zero t u = refl
  exchanged_at-twice (e ∷ es) (suc at) t u = ap (λ (m : List (List ℕ × T)). e ∷ m) (exchanged_at-twice es at t u)

  pub exchanged_at-same : (es : List (List ℕ × T)) (at : ℕ) (t : T) → slice_get (values_of es) at ≡ Some t → exchanged_at es at t ≡ es
  exchanged_at-same [] at t h = refl
  exchanged_at-same (e ∷ es) zero t h = let s : e.1 ≡ t = cc in ap (λ (u : T). (e.0, u) ∷ es) (sym s)
  exchanged_at-same (e ∷ es) (suc at) t h = ap (λ (m : List (List ℕ × T)). e ∷ m) (exchanged_at-same es at t h)

  -- if there is a key at a place, there is an item too
  pub item_there : (es : List (List ℕ × T)) (at : ℕ) (k : List ℕ) → slice_get (keys_of es) at ≡ Some k → (t : T) × (slice_get (values_of es) at ≡ Some t)
  item_there [] at k h = absurd (cc)
  item_there (e ∷ es) zero k h = (e.1, refl)
  item_there (e ∷ es) (suc at) k h = item_there es at k h

  -- ---- of a base

  pub packed-exchanged : (from : ℕ) (bytes ends : List ℕ) (cells : List T) (at : ℕ) (t : T) → packed_from from bytes ends (set cells at t) ≡ exchanged_at (packed_from from bytes ends cells) at t
  packed-exchanged from bytes [] cells at t = refl
  packed-exchanged from bytes (end ∷ ends) [] at t = refl
  packed-exchanged from bytes (end ∷ ends) (cell ∷ cells) zero t = refl
  packed-exchanged from bytes (end ∷ ends) (cell ∷ cells) (suc at) t = ap (λ (m : List (List ℕ × T)). (slice_range bytes from end, cell) ∷ m) (packed-exchanged end bytes ends cells at t)

  pub IsPacked-exchanged : (bytes ends : List ℕ) (cells : List T) (at : ℕ) (t : T) → IsPacked bytes ends cells → IsPacked bytes ends (set cells at t)
  IsPacked-exchanged bytes ends cells at t h = record {
    count = length-set cells at t ∙ h.count;
    cut = h.cut;
    rising = rw (packed-exchanged 0 bytes ends cells at t) (rising-exchanged_at (packed_from 0 bytes ends cells) at t h.rising);
  }

  -- ---- set and set back

  -- the value at a key that is set, and at any other
  value_at-with_pair : (m : List (List ℕ × T)) (k q : List ℕ) (t : T) → IsRising m → value_at q (with_pair m k t) ≡ cond (is_eq (order q k)) (Some t) (value_at q m)
  value_at-with_pair m k q t r = value_at-with_change m k q (Some t) r

  same_by : (b : Bool) (m : List (List ℕ × T)) (k q : List ℕ) (t : T) → is_eq (order q k) ≡ b → value_at k m ≡ Some t → cond b (Some t) (value_at q m) ≡ value_at q m
  same_by true m k q t e h = rw (passes_same q k e) (sym h)
  same_by false m k q t e h = refl

  -- a key set to what it has
  pub with_pair-same : (m : List (List ℕ × T)) (k : List ℕ) (t : T) → IsRising m → value_at k m ≡ Some t → with_pair m k t ≡ m
  with_pair-same m k t r h =
      same_map (with_pair m k t) m (rising-with_pair m k t r) r
      (λ q. value_at-with_pair m k q t r ∙ same_by (is_eq (order q k)) m k q t refl h)

  back_by : (b : Bool) (m : List (List ℕ × T)) (k q : List ℕ) (t u : T) → is_eq (order q k) ≡ b → IsRising m → value_at k m ≡ Some t → cond b (Some t) (value_at q (with_pair m k u)) ≡ value_at q m
  back_by true m k q t u e r h = rw (passes_same q k e) (sym h)
  back_by false m k q t u e r h = value_at-with_pair m k q u r ∙ rw e refl

  -- what was there, set again
  pub with_pair-back : (m : List (List ℕ × T)) (k : List ℕ) (t u : T) → IsRising m → value_at k m ≡ Some t → with_pair (with_pair m k u) k t ≡ m
  with_pair-back m k t u r h =
      let s = rising-with_pair m k u r in
      same_map (with_pair (with_pair m k u) k t) m (rising-with_pair (with_pair m k u) k t s) r
      (λ q. value_at-with_pair (with_pair m k u) k q t s ∙ back_by (is_eq (order q k)) m k q t u refl r h)

module _ {V : Type 0} where
  -- ---- of a page, by what it holds at the key

  abbrev Base : List (List ℕ × V) → Layers V
  Base base = record { runs = []; base = base }

  abbrev Over : List (List ℕ × Option V) → Layers V → Layers V
  Over run p = record { runs = run ∷ p.runs; base = p.base }

  abbrev Named : List ℕ → V → Layers V → List ℕ → Type 0
  Named k v p q = holds (exchanged p k v) q ≡ cond (is_eq (order q k)) (Some v) (holds p q)

  named_base_by : (o : Option V) (k : List ℕ) (v : V) (base : List (List ℕ × V)) (q : List ℕ) → value_at k base ≡ o → IsRising base → is_some o ≡ true → Named k v (Base base) q
  named_base_by None k v base q e r n = absurd (cc)
  named_base_by (Some w) k v base q e r n = rw e (value_at-with_change base k q (Some v) r)

  over_by : (b : Bool) (v : V) (here : Option (Option V)) (below : Option V) → change_or (cond b (Some (Some v)) here) below ≡ cond b (Some v) (change_or here below)
  over_by true v here below = refl
  over_by false v here below = refl

  under_by : (b : Bool) (k q : List ℕ) (v : V) (run : List (List ℕ × Option V)) (below : Option V) → is_eq (order q k) ≡ b → value_at k run ≡ None → change_or (value_at q run) (cond b (Some v) below) ≡ cond b (Some v) (change_or (value_at q run) below)
  under_by true k q v run below e n = rw (passes_same q k e, n) refl
  under_by false k q v run below e n = refl

  named_run_by : (o : Option (Option V)) (k : List ℕ) (v : V) (run : List (List ℕ × Option V)) (p : Layers V) (q : List ℕ) → value_at k run ≡ o → IsRising run → (is_some (holds p k) ≡ true → Named k v p q) → is_some (change_or o (holds p k)) ≡ true → Named k v (Over run p) q
  named_run_by None k v run p q e r ih n = rw e (ap (λ (t : Option V). change_or (value_at q run) t) (ih n) ∙ under_by (is_eq (order q k)) k q v run (holds p q) refl e)
  named_run_by (Some None) k v run p q e r ih n = absurd (cc)
  named_run_by (Some (Some w)) k v run p q e r ih n = rw e (ap (λ (t : Option (Option V)). change_or t (holds p q)) (value_at-with_change run k q (Some (Some v)) r) ∙ over_by (is_eq (order q k)) v (value_at q run) (holds p q))

  -- if the page holds a cell at the key, it has the other cell there afterwards, and at every other key what it had
  held_named : (k : List ℕ) (v : V) (runs : List (List (List ℕ × Option V))) (base : List (List ℕ × V)) (q : List ℕ) → AllRise runs base → is_some (held_under k runs base) ≡ true → Named k v (record { runs = runs; base = base }) q
  held_named k v [] base q a n = named_base_by (value_at k base) k v base q refl a n
  held_named k v (run ∷ runs) base q a n = named_run_by (value_at k run) k v run (record { runs = runs; base = base }) q refl a.0 (λ m. held_named k v runs base q a.1 m) n

  left_base_by : (o : Option V) (k : List ℕ) (v : V) (base : List (List ℕ × V)) → value_at k base ≡ o → is_some o ≡ false → exchanged (Base base) k v ≡ Base base
  left_base_by None k v base e n = rw e refl
  left_base_by (Some w) k v base e n = absurd (cc)

  left_run_by : (o : Option (Option V)) (k : List ℕ) (v : V) (run : List (List ℕ × Option V)) (p : Layers V) → value_at k run ≡ o → (is_some (holds p k) ≡ false → exchanged p k v ≡ p) → is_some (change_or o (holds p k)) ≡ false → exchanged (Over run p) k v ≡ Over run p
  left_run_by None k v run p e ih n = rw e (ap (λ (x : Layers V). Over run x) (ih n))
  left_run_by (Some None) k v run p e ih n = rw e refl
  left_run_by (Some (Some w)) k v run p e ih n = absurd (cc)

  -- if the page holds none, it is unchanged
  left_unnamed : (k : List ℕ) (v : V) (runs : List (List (List ℕ × Option V))) (base : List (List ℕ × V)) → is_some (held_under k runs base) ≡ false → exchanged_under k v runs base ≡ record { runs = runs; base = base }
  left_unnamed k v [] base n = left_base_by (value_at k base) k v base refl n
  left_unnamed k v (run ∷ runs) base n = left_run_by (value_at k run) k v run (record { runs = runs; base = base }) refl (λ m. left_unnamed k v runs base m) n

  -- ---- its order, and how many entries there are

  rising_base_by : (o : Option V) (k : List ℕ) (v : V) (base : List (List ℕ × V)) → value_at k base ≡ o → IsRising base → IsInOrder (exchanged (Base base) k v)
  rising_base_by None k v base e r = rw e r
  rising_base_by (Some w) k v base e r = rw e (rising-with_pair base k v r)

  rising_run_by : (o : Option (Option V)) (k : List ℕ) (v : V) (run : List (List ℕ × Option V)) (p : Layers V) → value_at k run ≡ o → IsInOrder (Over run p) → IsInOrder (exchanged p k v) → IsInOrder (exchanged (Over run p) k v)
  rising_run_by None k v run p e a ih = rw e (a.0, ih)
  rising_run_by (Some None) k v run p e a ih = rw e a
  rising_run_by (Some (Some w)) k v run p e a ih = rw e (rising-with_pair run k (Some v) a.0, a.1)

  rising_under : (k : List ℕ) (v : V) (runs : List (List (List ℕ × Option V))) (base : List (List ℕ × V)) → AllRise runs base → IsInOrder (exchanged_under k v runs base)
  rising_under k v [] base a = rising_base_by (value_at k base) k v base refl a
  rising_under k v (run ∷ runs) base a = rising_run_by (value_at k run) k v run (record { runs = runs; base = base }) refl a (rising_under k v runs base a.1)

  pub rising-exchanged : (p : Layers V) (k : List ℕ) (v : V) → IsInOrder p → IsInOrder (exchanged p k v)
  rising-exchanged p k v a = rising_under k v p.runs p.base a

  most_by : (b : Bool) (p : Layers V) (k : List ℕ) (v : V) → is_some (holds p k) ≡ b → IsInOrder p → length (entries_of p) ≤ length (entries_of (exchanged p k v))
  most_by false p k v e a = rw (left_unnamed k v p.runs p.base e) (omega arith)
  most_by true p k v e a =
      let r = rising-entries_of p a in
      let s = rising-exchanged p k v a in
      let same : entries_of (exchanged p k v) ≡ with_pair (entries_of p) k v = same_map (entries_of (exchanged p k v)) (with_pair (entries_of p) k v) (rising-entries_of (exchanged p k v) s) (rising-with_pair (entries_of p) k v r)
      (λ q. value_at-entries_of (exchanged p k v) q s
      ∙ held_named k v p.runs p.base q a e
      ∙ ap (λ (t : Option V). cond (is_eq (order q k)) (Some v) t) (sym (value_at-entries_of p q a))
      ∙ sym (value_at-with_change (entries_of p) k q (Some v) r)) in
      rw same (most_with_pair (entries_of p) k v)

  -- no entry goes
  pub most_exchanged : (p : Layers V) (k : List ℕ) (v : V) → IsInOrder p → length (entries_of p) ≤ length (entries_of (exchanged p k v))
  most_exchanged p k v a = most_by (is_some (holds p k)) p k v refl a

  -- ---- other keys, and undoing a replacement

  elsewhere_by : (b : Bool) (p : Layers V) (k q : List ℕ) (v : V) → is_some (holds p k) ≡ b → IsInOrder p → is_eq (order q k) ≡ false → holds (exchanged p k v) q ≡ holds p q
  elsewhere_by false p k q v e a n = ap (λ (x : Layers V). holds x q) (left_unnamed k v p.runs p.base e)
  elsewhere_by true p k q v e a n = held_named k v p.runs p.base q a e ∙ rw n refl

  -- what the page holds at other keys is what it held
  pub holds-exchanged_elsewhere : (p : Layers V) (k q : List ℕ) (v : V) → IsInOrder p → q ≢ k → holds (exchanged p k v) q ≡ holds p q
  holds-exchanged_elsewhere p k q v a n = elsewhere_by (is_some (holds p k)) p k q v refl a (is_apart q k n)

  back_base : (k : List ℕ) (v w : V) (base : List (List ℕ × V)) → IsRising base → value_at k base ≡ Some w → exchanged (exchanged (Base base) k v) k w ≡ Base base
  back_base k v w base r h = rw (h, value_at-with_pair_here base k v) (ap Base (with_pair-back base k w v r h))

  back_run_by : (o : Option (Option V)) (k : List ℕ) (v w : V) (run : List (List ℕ × Option V)) (p : Layers V) → value_at k run ≡ o → IsRising run → change_or o (holds p k) ≡ Some w
      → (holds p k ≡ Some w → exchanged (exchanged p k v) k w ≡ p) → exchanged (exchanged (Over run p) k v) k w ≡ Over run p
  back_run_by None k v w run p e r h ih = rw (e, e) (ap (λ (x : Layers V). Over run x) (ih h))
  back_run_by (Some None) k v w run p e r h ih = absurd (cc)
  back_run_by (Some (Some c)) k v w run p e r h ih =
      let here : value_at k run ≡ Some (Some w) = e ∙ ap (λ (t : Option V). Some t) h in
      rw (e, value_at-with_pair_here run k (Some v)) (ap (λ (m : List (List ℕ × Option V)). Over m p) (with_pair-back run k (Some w) (Some v) r here))

  back_under : (k : List ℕ) (v w : V) (runs : List (List (List ℕ × Option V))) (base : List (List ℕ × V)) → AllRise runs base → held_under k runs base ≡ Some w → exchanged (exchanged_under k v runs base) k w ≡ record { runs = runs; base = base }
  back_under k v w [] base a h = back_base k v w base a h
  back_under k v w (run ∷ runs) base a h = back_run_by (value_at k run) k v w run (record { runs = runs; base = base }) refl a.0 h (λ g. back_under k v w runs base a.1 g)

  -- the cell that was there, put in its place again, is the page that was
  pub exchanged-back : (p : Layers V) (k : List ℕ) (v w : V) → IsInOrder p → holds p k ≡ Some w → exchanged (exchanged p k v) k w ≡ p
  exchanged-back p k v w a h = back_under k v w p.runs p.base a h

  -- ---- step by step

  -- in a base, at the place of the key
  pub exchanged-base : (base : List (List ℕ × V)) (at : ℕ) (k : List ℕ) (v w : V) → IsRising base → slice_get (keys_of base) at ≡ Some k → slice_get (values_of base) at ≡ Some w → Base (exchanged_at base at v) ≡ exchanged (Base base) k v
  exchanged-base base at k v w r h g =
      let there : value_at k base ≡ Some w = value_at-found base at k r h ∙ g in
      rw (there, exchanged_at-pair base at k v r h) refl

  -- a base holds at the key of a place the cell of that place
  pub held-base : (base : List (List ℕ × V)) (at : ℕ) (k : List ℕ) (w : V) → IsRising base → slice_get (keys_of base) at ≡ Some k → slice_get (values_of base) at ≡ Some w → Some w ≡ value_at k base
  held-base base at k w r h g = sym (value_at-found base at k r h ∙ g)

  pub cell-base : (base : List (List ℕ × V)) (at : ℕ) (k : List ℕ) (w v : V) → IsRising base → slice_get (keys_of base) at ≡ Some k → slice_get (values_of base) at ≡ Some w → w ≡ unwrap_or (value_at k base) v
  cell-base base at k w v r h g = let there : value_at k base ≡ Some w = value_at-found base at k r h ∙ g in rw there refl

  pub said-base : (base : List (List ℕ × V)) (at : ℕ) (k : List ℕ) (w : V) → IsRising base → slice_get (keys_of base) at ≡ Some k → slice_get (values_of base) at ≡ Some w → true ≡ is_some (value_at k base)
  said-base base at k w r h g = let there : value_at k base ≡ Some w = value_at-found base at k r h ∙ g in rw there refl

  pub missed-cell : (base : List (List ℕ × V)) (k : List ℕ) (v : V) → value_at k base ≡ None → v ≡ unwrap_or (value_at k base) v
  missed-cell base k v h = rw h refl

  pub said-missed : (base : List (List ℕ × V)) (k : List ℕ) → value_at k base ≡ None → false ≡ is_some (value_at k base)
  said-missed base k h = rw h refl

  pub missed-base : (base : List (List ℕ × V)) (k : List ℕ) (v : V) → value_at k base ≡ None → Base base ≡ exchanged (Base base) k v
  missed-base base k v h = rw h refl

  -- ---- what a chain keeps

  least_by : (o : Option V) (p : Layers V) (k : List ℕ) (v : V) → holds p k ≡ o → IsInOrder p → length (entries_of (exchanged p k v)) ≤ length (entries_of p)
  least_by None p k v e a = rw (left_unnamed k v p.runs p.base (ap is_some e)) (omega arith)
  least_by (Some w) p k v e a =
      let back = exchanged-back p k v w a e in
      rw back at (most_exchanged (exchanged p k v) k w (rising-exchanged p k v a))

  -- no entry comes
  least_exchanged : (p : Layers V) (k : List ℕ) (v : V) → IsInOrder p → length (entries_of (exchanged p k v)) ≤ length (entries_of p)
  least_exchanged p k v a = least_by (holds p k) p k v refl a

  pub counted_exchanged : (p : Layers V) (k : List ℕ) (v : V) (fewest most : ℕ) → IsCounted p fewest most → IsCounted (exchanged p k v) fewest most
  counted_exchanged p k v fewest most h =
      let more = most_exchanged p k v h.rising in
      record {
        rising = rising-exchanged p k v h.rising;
        entries = omega (arith, h.entries, more);
        no_more = still_no_more (length (entries_of (exchanged p k v))) (length (entries_of p)) most (2 ^ 64 - 1) (least_exchanged p k v h.rising) h.no_more;
      }
