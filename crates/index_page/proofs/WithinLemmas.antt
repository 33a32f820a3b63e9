-- Lemmas on the child for a key with the end of its range, and on the children between bounds.
use Rattle.std.specs.Prelude.{◌≡◌, ◌↔◌, ℕ, zero, suc, ◌+◌, ◌<◌, ◌≤◌, Bool, true, false, cond, ◌&&◌, ◌||◌, List, [], ◌∷◌, map, length, slice_get, Option, Some, None}
use Rattle.std.specs.Option.{option_map, option_or}
use Rattle.std.specs.List.{filter, AllByRecursion}
use Rattle.std.specs.List.Sorted.{IsStrictlySortedBy}
use Rattle.std.specs.Map.{keys_of}
use Rattle.std.proofs.Common.{refl, sym, ap, ◌∙◌, arith, Less}
use Rattle.keys.specs.Order.{order, IsRising}
use Rattle.keys.proofs.MapLemmas.{total, IsBelowAll, below_all}
use Rattle.page_search.specs.Floor.{floor}
use Rattle.page_search.proofs.PlaceLemmas.{key_at}
use Rattle.page_search.specs.Above.{above}
use Rattle.index_page.specs.ChildList.{IsCountUpTo}
use Rattle.index_page.specs.NextChild.{PassesOne, left_at}
use Rattle.index_page.specs.Page.{first_key}
use Rattle.index_page.specs.Range.{is_below, is_before, is_within}
use Rattle.index_page.specs.Children.{Place, children, is_place_for, child_with_end, is_between, meets, children_within, entries_between, left_from}
use Rattle.index_page.proofs.RangeLemmas.{below_is_less, less_is_below, low_through, not_below_lower, not_below_itself}
use Rattle.index_page.proofs.ChildLemmas.{next_key, place_of, children-cons, within, within_parts, not_within_below, not_within_after, no_floor, some_floor}

-- ---- what holds of all keys holds of the one that is found

module _ (P : List ℕ → Type 0) (k : List ℕ) where
  one_or : (o : Option (List ℕ × ℕ)) (b : Bool) (e g : List ℕ × ℕ) → P e.0 → ((h : List ℕ × ℕ) → o ≡ Some h → P h.0) → option_or o (cond b None (Some e)) ≡ Some g → P g.0
  one_or None true e g p ih h = absurd (cc)
  one_or None false e g p ih h = let same : e ≡ g = cc in rw (← same) p
  one_or (Some f) b e g p ih h = ih g h

  all_floor : (es : List (List ℕ × ℕ)) (g : List ℕ × ℕ) → AllByRecursion P (keys_of es) → floor k es ≡ Some g → P g.0
  all_floor [] g a h = absurd (cc)
  all_floor (e ∷ es) g a h = one_or (floor k es) (is_below k e.0) e g a.0 (λ f q. all_floor es f a.1 q) h

-- ---- the child for a key, with the end of its range

module _ (k : List ℕ) where
  -- the places that have the key in their range
  abbrev PlacesFor : List (List ℕ × ℕ) → Option (List ℕ) → List Place
  PlacesFor es end = filter (is_place_for k) (children es end)

  places_by : (b : Bool) (e : List ℕ × ℕ) (es : List (List ℕ × ℕ)) (end : Option (List ℕ)) → is_within e.0 (next_key es end) k ≡ b → PlacesFor (e ∷ es) end ≡ cond b (place_of e (next_key es end) ∷ PlacesFor es end) (PlacesFor es end)
  places_by b e es end h =
      ap (λ (x : List Place). filter (is_place_for k) x) (children-cons e es end)
      ∙ ap (λ (c : Bool). cond c (place_of e (next_key es end) ∷ PlacesFor es end) (PlacesFor es end)) h

  no_places : (es : List (List ℕ × ℕ)) (end : Option (List ℕ)) → IsBelowAll k (keys_of es) → PlacesFor es end ≡ []
  no_places [] end a = refl
  no_places (e ∷ es) end a = places_by false e es end (not_within_below e.0 (next_key es end) k (less_is_below k e.0 a.0)) ∙ no_places es end a.1

  abbrev With : List (List ℕ × ℕ) → ℕ × Option (List ℕ)
  With es = child_with_end k es

  -- the place of that child, in pid and end
  abbrev pub IsThePlace : List (List ℕ × ℕ) → Option (List ℕ) → Type 0
  IsThePlace es end = map {B = ℕ × Option (List ℕ)} (λ (at : Place). (at.pid, at.end)) (PlacesFor es end) ≡ ((With es).0, option_or (With es).1 end) ∷ []

  place_next : (b : Bool) (e f : List ℕ × ℕ) (es : List (List ℕ × ℕ)) (end : Option (List ℕ)) → is_below k f.0 ≡ b → IsRising (f ∷ es) → is_below k e.0 ≡ false
      → (is_below k f.0 ≡ false → IsThePlace (f ∷ es) end) → IsThePlace (e ∷ f ∷ es) end
  unfolding IsStrictlySortedBy
  place_next true e f es end b r h ih =
      let l = below_is_less k f.0 b in
      let none = no_places (f ∷ es) end (l, below_all k f.0 (keys_of es) l r.0) in
      let all : PlacesFor (e ∷ f ∷ es) end ≡ place_of e (Some f.0) ∷ [] = places_by true e (f ∷ es) end (within e.0 (Some f.0) k h b) ∙ ap (λ (x : List Place). place_of e (Some f.0) ∷ x) none in
      rw (all, b) refl
  place_next false e f es end b r h ih =
      let all : PlacesFor (e ∷ f ∷ es) end ≡ PlacesFor (f ∷ es) end = places_by false e (f ∷ es) end (not_within_after e.0 (Some f.0) k b) in
      rw (all, b) (ih b)

  place_from : (e : List ℕ × ℕ) (es : List (List ℕ × ℕ)) (end : Option (List ℕ)) → IsRising (e ∷ es) → is_below k e.0 ≡ false → is_before end k ≡ true → IsThePlace (e ∷ es) end
  unfolding IsStrictlySortedBy
  place_from e [] end r h b = let all : PlacesFor (e ∷ []) end ≡ place_of e end ∷ [] = places_by true e [] end (within e.0 end k h b) in rw all refl
  place_from e (f ∷ es) end r h b = place_next (is_below k f.0) e f es end refl r.1 h (λ c. place_from f es end r.1 c b)

  -- the child with the end of its range is the one place for the key, whatever the end beyond it
  pub place_of_child : (es : List (List ℕ × ℕ)) → IsRising es → (0 < length es) × (is_below k (first_key es) ≡ false) → (end : Option (List ℕ)) → is_before end k ≡ true → IsThePlace es end
  place_of_child [] r h end b = let none = h.0 in absurd (omega arith)
  place_of_child (e ∷ es) r h end b = place_from e es end r h.1 b

  -- ---- it is found by the last entry whose key isn't above the key, and the first whose is

  abbrev key_of : Option (List ℕ × ℕ) → Option (List ℕ)
  key_of o = option_map (λ (e : List ℕ × ℕ). e.0) o

  floor_here : (e g : List ℕ × ℕ) (es : List (List ℕ × ℕ)) → floor k es ≡ None → is_below k e.0 ≡ false → floor k (e ∷ es) ≡ Some g → e ≡ g
  floor_here e g es n h p = let s : Some e ≡ Some g = (rw (n, h) at p) in cc

  floor_rest : (o : Option (List ℕ × ℕ)) (b : Bool) (e g : List ℕ × ℕ) → (o ≡ None → ⊥) → option_or o (cond b None (Some e)) ≡ Some g → o ≡ Some g
  floor_rest None b e g n h = absurd (n refl)
  floor_rest (Some f) b e g n h = h

  reported_next : (b : Bool) (e f g : List ℕ × ℕ) (es : List (List ℕ × ℕ)) → is_below k f.0 ≡ b → IsRising (f ∷ es) → is_below k e.0 ≡ false → floor k (e ∷ f ∷ es) ≡ Some g
      → (is_below k f.0 ≡ false → floor k (f ∷ es) ≡ Some g → (g.1, key_of (above k (f ∷ es))) ≡ With (f ∷ es)) → (g.1, key_of (above k (e ∷ f ∷ es))) ≡ With (e ∷ f ∷ es)
  unfolding IsStrictlySortedBy
  reported_next true e f g es b r h p ih =
      let l = below_is_less k f.0 b in
      let same : e ≡ g = floor_here e g (f ∷ es) (no_floor k (f ∷ es) (l, below_all k f.0 (keys_of es) l r.0)) h p in
      rw (← same, h, b) refl
  reported_next false e f g es b r h p ih =
      let rest : floor k (f ∷ es) ≡ Some g = floor_rest (floor k (f ∷ es)) (is_below k e.0) e g (some_floor k f es b) p in
      let s = ih b rest in
      rw (h, b) (rw b at s)

  reported_from : (e g : List ℕ × ℕ) (es : List (List ℕ × ℕ)) → IsRising (e ∷ es) → is_below k e.0 ≡ false → floor k (e ∷ es) ≡ Some g → (g.1, key_of (above k (e ∷ es))) ≡ With (e ∷ es)
  unfolding IsStrictlySortedBy
  reported_from e g [] r h p = let same : e ≡ g = floor_here e g [] refl h p in rw (← same, h) refl
  reported_from e g (f ∷ es) r h p = reported_next (is_below k f.0) e f g es refl r.1 h p (λ c q. reported_from f g es r.1 c q)

  pub child_is_known : (es : List (List ℕ × ℕ)) (g : List ℕ × ℕ) (o : Option (List ℕ)) → IsRising es → (0 < length es) × (is_below k (first_key es) ≡ false) → Some g ≡ floor k es → o ≡ key_of (above k es) → (g.1, o) ≡ With es
  child_is_known [] g o r h p q = let none = h.0 in absurd (omega arith)
  child_is_known (e ∷ es) g o r h p q = rw q (reported_from e g es r h.1 (sym p))

  -- and these two are the pid and the end of the one place for the key
  pub place_at : (es : List (List ℕ × ℕ)) (g : List ℕ × ℕ) (o : Option (List ℕ)) → IsRising es → (0 < length es) × (is_below k (first_key es) ≡ false) → Some g ≡ floor k es → o ≡ key_of (above k es)
      → (end : Option (List ℕ)) → is_before end k ≡ true → map {B = ℕ × Option (List ℕ)} (λ (at : Place). (at.pid, at.end)) (filter (is_place_for k) (children es end)) ≡ (g.1, option_or o end) ∷ []
  place_at es g o r h p q end b =
      place_of_child es r h end b
      ∙ ap {B = List (ℕ × Option (List ℕ))} (λ (x : ℕ × Option (List ℕ)). (x.0, option_or x.1 end) ∷ []) (sym (child_is_known es g o r h p q))

  -- so the entry at a place gives it, where n entries have keys that aren't above the key
  pub child_is_known-at : (es : List (List ℕ × ℕ)) (n at : ℕ) (g : List ℕ × ℕ) (o : Option (List ℕ)) → IsRising es → (0 < length es) × (is_below k (first_key es) ≡ false)
      → IsCountUpTo k es n → at + 1 ≡ n → slice_get es at ≡ Some g → o ≡ key_of (slice_get es n) → (g.1, o) ≡ With es
  child_is_known-at es n at g o r h c l p q = child_is_known es g o r h (sym (c.last at l ∙ p)) (q ∙ ap (λ (e : Option (List ℕ × ℕ)). key_of e) (sym c.next))

  pub place_at-reported : (es : List (List ℕ × ℕ)) (n at : ℕ) (g : List ℕ × ℕ) (o : Option (List ℕ)) → IsRising es → (0 < length es) × (is_below k (first_key es) ≡ false)
      → IsCountUpTo k es n → at + 1 ≡ n → slice_get es at ≡ Some g → o ≡ key_of (slice_get es n)
      → (end : Option (List ℕ)) → is_before end k ≡ true → map {B = ℕ × Option (List ℕ)} (λ (at : Place). (at.pid, at.end)) (filter (is_place_for k) (children es end)) ≡ (g.1, option_or o end) ∷ []
  place_at-reported es n at g o r h c l p q = place_at es g o r h (sym (c.last at l ∙ p)) (q ∙ ap (λ (e : Option (List ℕ × ℕ)). key_of e) (sym c.next))

  -- so its pid is that of the one place
  pids_of : (xs : List Place) → map (λ (x : ℕ × Option (List ℕ)). x.0) (map {B = ℕ × Option (List ℕ)} (λ (at : Place). (at.pid, at.end)) xs) ≡ map (λ (at : Place). at.pid) xs
  pids_of [] = refl
  pids_of (x ∷ xs) = ap (λ (ps : List ℕ). x.pid ∷ ps) (pids_of xs)

  pub child_of_floor : (es : List (List ℕ × ℕ)) (g : List ℕ × ℕ) → IsRising es → (0 < length es) × (is_below k (first_key es) ≡ false) → Some g ≡ floor k es
      → (end : Option (List ℕ)) → is_before end k ≡ true → map (λ (at : Place). at.pid) (filter (is_place_for k) (children es end)) ≡ g.1 ∷ []
  child_of_floor es g r h p end b =
      sym (pids_of (PlacesFor es end))
      ∙ ap (λ (x : List (ℕ × Option (List ℕ))). map (λ (y : ℕ × Option (List ℕ)). y.0) x) (place_of_child es r h end b)
      ∙ ap (λ (x : ℕ × Option (List ℕ)). x.0 ∷ []) (sym (child_is_known es g (key_of (above k es)) r h p refl))

-- ---- the entries after a key

module _ (hi : Option (List ℕ)) where
  -- the entries before the end
  abbrev Before : List (List ℕ × ℕ) → List (List ℕ × ℕ)
  Before es = filter (λ (e : List ℕ × ℕ). is_before hi e.0) es

  -- if all are above k, those after k are all those before the end
  between-all : (k : List ℕ) (es : List (List ℕ × ℕ)) → IsBelowAll k (keys_of es) → entries_between k hi es ≡ Before es
  between-all k [] a = refl
  between-all k (e ∷ es) a =
      let c = less_is_below k e.0 a.0 in
      rw c (ap (λ (x : List (List ℕ × ℕ)). cond (is_before hi e.0) (e ∷ x) x) (between-all k es a.1))

  between-skips : (k : List ℕ) (e : List ℕ × ℕ) (es : List (List ℕ × ℕ)) → is_below k e.0 ≡ false → entries_between k hi (e ∷ es) ≡ entries_between k hi es
  between-skips k e es h = rw h refl

-- none is before the end after one that isn't
none_before : (hi : Option (List ℕ)) (k : List ℕ) (es : List (List ℕ × ℕ)) → is_before hi k ≡ false → IsBelowAll k (keys_of es) → Before hi es ≡ []
none_before None k es h a = absurd (cc)
none_before (Some end) k [] h a = refl
none_before (Some end) k (e ∷ es) h a = rw (after_end k e.0 end h a.0) (none_before (Some end) k es h a.1)
  where
    by : (b : Bool) (i j end : List ℕ) → is_below j end ≡ b → is_below i end ≡ false → order i j ≡ Less → b ≡ false
    by true i j end c n l = absurd (let t = less_is_below i end (total.trans i j end l (below_is_less j end c)) in cc)
    by false i j end c n l = refl

    after_end : (i j end : List ℕ) → is_below i end ≡ false → order i j ≡ Less → is_below j end ≡ false
    after_end i j end n l = by (is_below j end) i j end refl n l

-- ---- the entries from a place on

one_key : {o : Option (List ℕ)} {j k : List ℕ} → o ≡ Some j → o ≡ Some k → j ≡ k
one_key p q = cc

one_more : (n : ℕ) → suc n ≡ n + 1
one_more n = omega arith

module _ (hi : Option (List ℕ)) where
  -- the entry at a place, if it is before the end, and those after it
  pub left_at-here : (n : ℕ) (es : List (List ℕ × ℕ)) (e : List ℕ × ℕ) → slice_get es n ≡ Some e → is_before hi e.0 ≡ true → left_at n hi es ≡ e ∷ left_at (suc n) hi es
  left_at-here n [] e h b = absurd (cc)
  left_at-here zero (f ∷ es) e h b = let same : f ≡ e = cc in rw (same, b) refl
  left_at-here (suc n) (f ∷ es) e h b = left_at-here n es e h b

  pub passes_here : (n : ℕ) (es : List (List ℕ × ℕ)) (k : List ℕ) → n < length es → slice_get (keys_of es) n ≡ Some k → is_before hi k ≡ true → PassesOne hi es (left_at n hi es) (n + 1)
  passes_here n es k w h b = record {
    some = omega arith;
    within = omega (arith, w);
    parts = λ at e l g. let same : at ≡ n = omega (arith, l) in let there : slice_get es n ≡ Some e = (rw same at g) in let key : e.0 ≡ k = one_key (key_at es n e there) h in left_at-here n es e there (rw key b) ∙ ap (λ (m : ℕ). e ∷ left_at m hi es) (one_more n);
  }

  -- nothing remains if it isn't, or if there is none
  pub left_at-end : (n : ℕ) (es : List (List ℕ × ℕ)) (k : List ℕ) → IsRising es → slice_get (keys_of es) n ≡ Some k → is_before hi k ≡ false → left_at n hi es ≡ []
  unfolding IsStrictlySortedBy
  left_at-end n [] k r h b = absurd (cc)
  left_at-end zero (f ∷ es) k r h b = let same : f.0 ≡ k = cc in let c : is_before hi f.0 ≡ false = rw same b in rw c (none_before hi f.0 es c r.0)
  left_at-end (suc n) (f ∷ es) k r h b = left_at-end n es k r.1 h b

  pub left_at-past : (n : ℕ) (es : List (List ℕ × ℕ)) → length es ≤ n → left_at n hi es ≡ []
  left_at-past zero [] h = refl
  left_at-past (suc n) [] h = refl
  left_at-past zero (f ∷ es) h = absurd (omega (arith, h))
  left_at-past (suc n) (f ∷ es) h = left_at-past n es (omega (arith, h))

  all_at : (P : List ℕ → Type 0) (n : ℕ) (es : List (List ℕ × ℕ)) (e : List ℕ × ℕ) → AllByRecursion P (keys_of es) → slice_get es n ≡ Some e → P e.0
  all_at P n [] e a h = absurd (cc)
  all_at P zero (f ∷ es) e a h = let same : f ≡ e = cc in rw (← same) a.0
  all_at P (suc n) (f ∷ es) e a h = all_at P n es e a.1 h

  -- those after the entry at a place are those after its key
  pub left_at-after : (n : ℕ) (es : List (List ℕ × ℕ)) (e : List ℕ × ℕ) → IsRising es → slice_get es n ≡ Some e → entries_between e.0 hi es ≡ left_at (suc n) hi es
  unfolding IsStrictlySortedBy
  left_at-after n [] e r h = absurd (cc)
  left_at-after zero (f ∷ es) e r h = let same : f ≡ e = cc in ap (λ (x : List ℕ × ℕ). entries_between x.0 hi (f ∷ es)) (sym same) ∙ between-skips hi f.0 f es (not_below_itself f.0) ∙ between-all hi f.0 es r.0
  left_at-after (suc n) (f ∷ es) e r h = between-skips hi e.0 f es (not_below_lower f.0 e.0 (all_at (λ j. order f.0 j ≡ Less) n es e r.0 h)) ∙ left_at-after n es e r.1 h

-- ---- the children between bounds

module _ (lo : List ℕ) (hi : Option (List ℕ)) where
  abbrev entry_of : Place → List ℕ × ℕ
  entry_of at = (at.low, at.pid)

  within_by : (b : Bool) (e : List ℕ × ℕ) (es : List (List ℕ × ℕ)) → meets lo hi (place_of e (next_key es None)) ≡ b → children_within lo hi (e ∷ es) ≡ cond b (e ∷ children_within lo hi es) (children_within lo hi es)
  within_by b e es h =
      ap (λ (x : List Place). map (λ (at : Place). entry_of at) (filter (meets lo hi) x)) (children-cons e es None)
      ∙ ap (λ (c : Bool). map (λ (at : Place). entry_of at) (cond c (place_of e (next_key es None) ∷ filter (meets lo hi) (children es None)) (filter (meets lo hi) (children es None)))) h
      ∙ map_cond b
    where
      map_cond : (c : Bool) → map (λ (at : Place). entry_of at) (cond c (place_of e (next_key es None) ∷ filter (meets lo hi) (children es None)) (filter (meets lo hi) (children es None))) ≡ cond c (e ∷ children_within lo hi es) (children_within lo hi es)
      map_cond true = refl
      map_cond false = refl

  -- a child after lo meets the bounds where it begins before the end
  meets_after : (e : List ℕ × ℕ) (end : Option (List ℕ)) → is_below lo e.0 ≡ true → meets lo hi (place_of e end) ≡ is_before hi e.0
  meets_after e end h = rw (not_within_below e.0 end lo h, h) refl

  -- where all are after lo: those before the end
  within-all : (es : List (List ℕ × ℕ)) → IsBelowAll lo (keys_of es) → children_within lo hi es ≡ Before hi es
  within-all [] a = refl
  within-all (e ∷ es) a =
      within_by (is_before hi e.0) e es (meets_after e (next_key es None) (less_is_below lo e.0 a.0))
      ∙ ap (λ (x : List (List ℕ × ℕ)). cond (is_before hi e.0) (e ∷ x) x) (within-all es a.1)

  -- a child that lo lies in meets them
  meets_at : (e : List ℕ × ℕ) (end : Option (List ℕ)) → is_within e.0 end lo ≡ true → meets lo hi (place_of e end) ≡ true
  meets_at e end h = rw h refl

  -- a child that ends before lo doesn't
  meets_not : (e : List ℕ × ℕ) (end : Option (List ℕ)) → is_below lo e.0 ≡ false → is_within e.0 end lo ≡ false → meets lo hi (place_of e end) ≡ false
  meets_not e end h w = rw (w, h) refl

  start_next : (b : Bool) (e f g : List ℕ × ℕ) (es : List (List ℕ × ℕ)) → is_below lo f.0 ≡ b → IsRising (e ∷ f ∷ es) → is_below lo e.0 ≡ false → floor lo (e ∷ f ∷ es) ≡ Some g
      → (is_below lo f.0 ≡ false → floor lo (f ∷ es) ≡ Some g → children_within lo hi (f ∷ es) ≡ left_from (Some g) hi (f ∷ es)) → children_within lo hi (e ∷ f ∷ es) ≡ left_from (Some g) hi (e ∷ f ∷ es)
  unfolding IsStrictlySortedBy
  start_next true e f g es b r h p ih =
      let l = below_is_less lo f.0 b in
      let following : IsBelowAll lo (keys_of (f ∷ es)) = (l, below_all lo f.0 (keys_of es) l r.1.0) in
      let same : e ≡ g = floor_here lo e g (f ∷ es) (no_floor lo (f ∷ es) following) h p in
      within_by true e (f ∷ es) (meets_at e (Some f.0) (within e.0 (Some f.0) lo h b))
      ∙ ap (λ (x : List (List ℕ × ℕ)). e ∷ x) (within-all (f ∷ es) following ∙ sym (between-skips hi e.0 e (f ∷ es) (not_below_itself e.0) ∙ between-all hi e.0 (f ∷ es) r.0))
      ∙ ap (λ (x : List ℕ × ℕ). left_from (Some x) hi (e ∷ f ∷ es)) same
  start_next false e f g es b r h p ih =
      let rest : floor lo (f ∷ es) ≡ Some g = floor_rest lo (floor lo (f ∷ es)) (is_below lo e.0) e g (some_floor lo f es b) p in
      within_by false e (f ∷ es) (meets_not e (Some f.0) h (not_within_after e.0 (Some f.0) lo b))
      ∙ ih b rest
      ∙ ap (λ (x : List (List ℕ × ℕ)). g ∷ x) (sym (between-skips hi g.0 e (f ∷ es) (not_below_lower e.0 g.0 (all_floor (λ j. order e.0 j ≡ Less) lo (f ∷ es) g r.0 rest))))

  start_from : (e g : List ℕ × ℕ) (es : List (List ℕ × ℕ)) → IsRising (e ∷ es) → is_below lo e.0 ≡ false → floor lo (e ∷ es) ≡ Some g → children_within lo hi (e ∷ es) ≡ left_from (Some g) hi (e ∷ es)
  unfolding IsStrictlySortedBy
  start_from e g [] r h p =
      let same : e ≡ g = floor_here lo e g [] refl h p in
      within_by true e [] (meets_at e None (within e.0 None lo h refl))
      ∙ ap (λ (x : List (List ℕ × ℕ)). e ∷ x) (sym (between-skips hi e.0 e [] (not_below_itself e.0)))
      ∙ ap (λ (x : List ℕ × ℕ). left_from (Some x) hi (e ∷ [])) same
  start_from e g (f ∷ es) r h p = start_next (is_below lo f.0) e f g es refl r h p (λ c q. start_from f g es r.1 c q)

  first_by : (b : Bool) (e g : List ℕ × ℕ) (es : List (List ℕ × ℕ)) → is_below lo e.0 ≡ b → IsRising (e ∷ es) → floor lo (e ∷ es) ≡ Some g → is_below lo e.0 ≡ false
  unfolding IsStrictlySortedBy
  first_by true e g es b r p =
      let l = below_is_less lo e.0 b in
      let none : floor lo (e ∷ es) ≡ None = no_floor lo (e ∷ es) (l, below_all lo e.0 (keys_of es) l r.0) in
      absurd (cc)
  first_by false e g es b r p = b

  -- they are the last one that begins not above lo, and those after it and before the end
  pub within-start : (es : List (List ℕ × ℕ)) (g : List ℕ × ℕ) → IsRising es → Some g ≡ floor lo es → left_from (Some g) hi es ≡ children_within lo hi es
  within-start [] g r p = absurd (cc)
  within-start (e ∷ es) g r p = sym (start_from e g es r (first_by (is_below lo e.0) e g es refl r (sym p)) (sym p))

  none_by : (b : Bool) (e : List ℕ × ℕ) (es : List (List ℕ × ℕ)) → is_below lo e.0 ≡ b → IsRising (e ∷ es) → None ≡ floor lo (e ∷ es) → IsBelowAll lo (keys_of (e ∷ es))
  unfolding IsStrictlySortedBy
  none_by true e es b r p = let l = below_is_less lo e.0 b in (l, below_all lo e.0 (keys_of es) l r.0)
  none_by false e es b r p = absurd (some_floor lo e es b (sym p))

  -- so they begin with the entry before the place up to which they aren't above lo
  pub within-passes : (es : List (List ℕ × ℕ)) (n : ℕ) → IsRising es → 0 < n → IsCountUpTo lo es n → PassesOne hi es (children_within lo hi es) n
  within-passes es n r some c = record {
    some = some;
    within = c.within;
    parts = λ at e l h.
        sym (within-start es e r (sym (c.last at l ∙ h)))
        ∙ ap (λ (x : List (List ℕ × ℕ)). e ∷ x) (left_at-after hi at es e r h ∙ ap (λ (m : ℕ). left_at m hi es) (one_more at ∙ l));
  }

  -- and if none is, all those before the end
  within-none : (es : List (List ℕ × ℕ)) → IsRising es → None ≡ floor lo es → left_at 0 hi es ≡ children_within lo hi es
  within-none [] r p = refl
  within-none (e ∷ es) r p = sym (within-all (e ∷ es) (none_by (is_below lo e.0) e es refl r p))

  pub within-first : (es : List (List ℕ × ℕ)) (n : ℕ) → IsRising es → n ≡ 0 → IsCountUpTo lo es n → left_at 0 hi es ≡ children_within lo hi es
  within-first es n r z c = within-none es r (sym (c.none z))

-- ---- bounds and ranges meet where they share a key

or_true : (b c : Bool) → c ≡ true → (b || c) ≡ true
or_true true c h = refl
or_true false c h = h

through : (end : Option (List ℕ)) (j k : List ℕ) → is_below k j ≡ false → is_before end k ≡ true → is_before end j ≡ true
through None j k n b = refl
through (Some hi) j k n b = less_is_below j hi (low_through j k hi n (below_is_less k hi b))

abbrev Shares : List ℕ → Option (List ℕ) → Place → Type 0
Shares lo hi at = (k : List ℕ) × (is_within lo hi k ≡ true) × (is_place_for k at ≡ true)

module _ (lo : List ℕ) (hi : Option (List ℕ)) (at : Place) where
  shared_by : (b c : Bool) → is_place_for lo at ≡ b → is_below lo at.low ≡ c → is_before hi lo ≡ true → is_before at.end at.low ≡ true → (b || (c && is_before hi at.low)) ≡ true → Shares lo hi at
  shared_by true c p q f g m = (lo, within lo hi lo (not_below_itself lo) f, p)
  shared_by false true p q f g m = (at.low, within lo hi at.low (not_below_lower lo at.low (below_is_less lo at.low q)) m, within at.low at.end at.low (not_below_itself at.low) g)
  shared_by false false p q f g m = absurd (cc)

  meets_by : (c : Bool) → is_below lo at.low ≡ c → Shares lo hi at → meets lo hi at ≡ true
  meets_by true q s =
      let in_bounds = within_parts lo hi s.0 s.1 in
      let in_range = within_parts at.low at.end s.0 s.2 in
      or_true (is_place_for lo at) (is_between lo hi at.low) (rw (q, through hi at.low s.0 in_range.0 in_bounds.1) refl)
  meets_by false q s =
      let in_bounds = within_parts lo hi s.0 s.1 in
      let in_range = within_parts at.low at.end s.0 s.2 in
      rw (within at.low at.end lo q (through at.end lo s.0 in_bounds.0 in_range.1)) refl

  pub meets_iff_shares : is_before hi lo ≡ true → is_before at.end at.low ≡ true → (meets lo hi at ≡ true) ↔ ((k : List ℕ) × (is_within lo hi k ≡ true) × (is_place_for k at ≡ true))
  meets_iff_shares f g = (λ m. shared_by (is_place_for lo at) (is_below lo at.low) refl refl f g m, λ s. meets_by (is_below lo at.low) refl s)

  alone_by : (c d : Bool) → is_below lo at.low ≡ c → is_before hi at.low ≡ d → is_before hi lo ≡ false → (c && d) ≡ false
  alone_by true true q b f = absurd (let wrong = through hi lo at.low (not_below_lower lo at.low (below_is_less lo at.low q)) b in cc)
  alone_by true false q b f = refl
  alone_by false d q b f = refl

  or_false : (b c : Bool) → c ≡ false → (b || c) ≡ b
  or_false true c h = refl
  or_false false c h = h

  pub meets_alone : is_before hi lo ≡ false → meets lo hi at ≡ is_place_for lo at
  meets_alone f = or_false (is_place_for lo at) (is_between lo hi at.low) (alone_by (is_below lo at.low) (is_before hi at.low) refl refl f)
