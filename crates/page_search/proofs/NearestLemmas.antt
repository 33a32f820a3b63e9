-- Lemmas on the nearest key on one side of a key.
use Rattle.std.specs.Prelude.{◌≡◌, ℕ, zero, suc, ◌+◌, ◌-◌, ◌<◌, ◌≤◌, Bool, true, false, cond, not, List, [], ◌∷◌, length, slice_get, Option, Some, None, count_by, MatchOption}
use Rattle.std.proofs.Common.{refl, sym, ap, ◌∙◌, arith, Ordering, Less, Equal, Greater, ◌⊎◌, inl, inr}
use Rattle.std.specs.Option.{option_map, option_or, SomeIff}
use Rattle.std.specs.Ordering.{is_lt, is_eq}
use Rattle.std.specs.Map.{keys_of, values_of}
use Rattle.std.proofs.lemmas.Bool.{cases_lt}
use Rattle.std.proofs.lemmas.Option.{slice_get_within}
use Rattle.std.proofs.lemmas.List.Sums.{sum_by-cons}
use Rattle.std.proofs.lemmas.Map.Entries.{place_from_lookup}
use Rattle.keys.specs.Order.{order, AreRisingKeys, IsRising}
use Rattle.keys.specs.OrderedMap.{value_at}
use Rattle.keys.proofs.Basics.{less_by}
use Rattle.keys.proofs.MapLemmas.{total, same_key, order_itself, passes_same, flipped_less, flipped_greater}
use Rattle.delta_chain.specs.Layers.{Layers, change_or, held_under, holds, entries_of, IsInOrder}
use Rattle.delta_chain.proofs.LayerLemmas.{value_at-entries_of}
use Rattle.page_search.specs.Places.{KeyGoesTo}
use Rattle.page_search.specs.Nearest.{is_on, nearness, past, are_first, named_under, IsNearest, HasNoneOn, IsNearestPlace, Parts}
use Rattle.page_search.specs.declared.side.Side.{Side}
use Rattle.page_search.specs.declared.side.Side.TheVariants.{UpTo, Below, Above}
use Rattle.page_search.proofs.PlaceLemmas.{rising-or_same, rising-by_place, value_at-there, key_at}

-- ---- sides

nearness-trans : (s : Side) (a b c : List ℕ) → nearness s a b ≡ Less → nearness s b c ≡ Less → nearness s a c ≡ Less
nearness-trans UpTo a b c p q = total.trans a b c p q
nearness-trans Below a b c p q = total.trans a b c p q
nearness-trans Above a b c p q = total.trans c b a q p

pub nearness-same : (s : Side) (a b : List ℕ) → nearness s a b ≡ Equal → a ≡ b
nearness-same UpTo a b h = same_key a b h
nearness-same Below a b h = same_key a b h
nearness-same Above a b h = sym (same_key b a h)

pub nearness-flipped : (s : Side) (a b : List ℕ) → nearness s a b ≡ Greater → nearness s b a ≡ Less
nearness-flipped UpTo a b h = flipped_greater a b h
nearness-flipped Below a b h = flipped_greater a b h
nearness-flipped Above a b h = flipped_greater b a h

pub nearness-past : (s : Side) (a b : List ℕ) → nearness s a b ≡ nearness (past s) a b
nearness-past UpTo a b = refl
nearness-past Below a b = refl
nearness-past Above a b = refl

-- no key lies past itself
pub not_past : (s : Side) (j : List ℕ) → is_on (past s) j j ≡ false
not_past UpTo j = rw (order_itself j) refl
not_past Below j = rw (order_itself j) refl
not_past Above j = rw (order_itself j) refl

up_to_by : (o : Ordering) (k j i : List ℕ) → order k i ≡ o → is_on UpTo k j ≡ true → is_on Below j i ≡ true → not (is_lt o) ≡ true
up_to_by Less k j i h p q = absurd (let l : order k j ≡ Less = total.trans k i j h (less_by (order i j) q) in let wrong = rw l at p in cc)
up_to_by Equal k j i h p q = refl
up_to_by Greater k j i h p q = refl

-- what lies past a key on this side is on this side
pub past-on : (s : Side) (k j i : List ℕ) → is_on s k j ≡ true → is_on (past s) j i ≡ true → is_on s k i ≡ true
past-on UpTo k j i p q = up_to_by (order k i) k j i refl p q
past-on Below k j i p q = rw (total.trans i j k (less_by (order i j) q) (less_by (order j k) p)) refl
past-on Above k j i p q = rw (total.trans k j i (less_by (order k j) p) (less_by (order j i) q)) refl

-- and so is a key that is less near
less_near : (s : Side) (j i : List ℕ) → nearness s j i ≡ Greater → is_on (past s) j i ≡ true
less_near UpTo j i h = rw (flipped_greater j i h) refl
less_near Below j i h = rw (flipped_greater j i h) refl
less_near Above j i h = rw (flipped_greater i j h) refl

-- ---- the place that parts the keys of a list

on_below : (s : Side) (k i : List ℕ) → order i k ≡ Less → is_on s k i ≡ are_first s
on_below UpTo k i h = rw (flipped_less i k h) refl
on_below Below k i h = rw h refl
on_below Above k i h = rw (flipped_less i k h) refl

on_above : (s : Side) (k i : List ℕ) → order k i ≡ Less → is_on s k i ≡ not (are_first s)
on_above UpTo k i h = rw h refl
on_above Below k i h = rw (flipped_less k i h) refl
on_above Above k i h = rw h refl

-- if the key isn't there, it is the place where it would go
pub parts-goes_to : (s : Side) (k : List ℕ) (ks : List (List ℕ)) (at : ℕ) → KeyGoesTo k ks at → Parts s k ks at
parts-goes_to s k ks at g = record {
  within = g.within;
  before = λ m i l p. on_below s k i (g.below m i l p);
  from = λ m i l p. on_above s k i (g.above m i l p);
}

pub itself_up_to : (k : List ℕ) → is_on UpTo k k ≡ true
itself_up_to k = rw (order_itself k) refl

itself_above : (k : List ℕ) → is_on Above k k ≡ false
itself_above k = rw (order_itself k) refl

itself_below : (k : List ℕ) → is_on Below k k ≡ false
itself_below k = rw (order_itself k) refl

module _ (s : Side) (k : List ℕ) (ks : List (List ℕ)) (at : ℕ) (r : AreRisingKeys ks) (h : slice_get ks at ≡ Some k) where
  -- after the place where the key is, if it is with those before it
  following : is_on s k k ≡ are_first s → Parts s k ks (at + 1)
  following e =
      let within = slice_get_within ks at k h in
      record {
        within = omega arith;
        before = λ m i l p. elim (rising-or_same ks m at i k r p h (omega arith)) [ inl b ↦ on_below s k i b | inr same ↦ rw same e ];
        from = λ m i l p. on_above s k i (rising-by_place ks at m k i r h p (omega arith));
      }

  -- and else at that place
  before : is_on s k k ≡ not (are_first s) → Parts s k ks at
  before e =
      let within = slice_get_within ks at k h in
      record {
        within = omega arith;
        before = λ m i l p. on_below s k i (rising-by_place ks m at i k r p h l);
        from = λ m i l p. elim (rising-or_same ks at m k i r h p l) [ inl b ↦ on_above s k i b | inr same ↦ rw (← same) e ];
      }

  pub parts-following : (s ≡ UpTo) ⊎ (s ≡ Above) → Parts s k ks (at + 1)
  parts-following e = following (elim e [ inl u ↦ rw u (itself_up_to k) | inr a ↦ rw a (itself_above k) ])

  pub parts-there : s ≡ Below → Parts s k ks at
  parts-there e = before (rw e (itself_below k))

-- ---- the place of the nearest key of a list

-- among rising keys, a greater key has a greater place
stands_after : (ks : List (List ℕ)) (at m : ℕ) (j i : List ℕ) → AreRisingKeys ks → slice_get ks at ≡ Some j → slice_get ks m ≡ Some i → order j i ≡ Less → at < m
stands_after ks at m j i r p q h =
    elim (cases_lt at m) [
      | inl l ↦ l
      | inr l ↦ absurd (elim (rising-or_same ks m at i j r q p l) [
        | inl b ↦ (let above = flipped_less i j b in cc)
        | inr e ↦ (let itself : order j i ≡ Equal = rw e (order_itself j) in cc)
      ])
    ]

module _ (k : List ℕ) (ks : List (List ℕ)) (at : ℕ) (r : AreRisingKeys ks) where
  -- above the key it is the first from there on, if there is one
  pub first_above : Parts Above k ks at → at < length ks → IsNearestPlace Above k ks at
  first_above p l = record {
    within = l;
    on = λ j q. p.from at j (omega arith) q;
    none_nearer = λ m i j q t h. p.before m i (stands_after ks m at i j r t q h) t;
  }

  pub none_above : Parts Above k ks at → length ks ≤ at → HasNoneOn Above k ks
  none_above p l = λ m i q. let within = slice_get_within ks m i q in p.before m i (omega arith) q

-- up to the key and below it, it is the last before there, if there is one
last_before : (s : Side) (k : List ℕ) (ks : List (List ℕ)) (at : ℕ) → AreRisingKeys ks → are_first s ≡ true → ((j i : List ℕ) → nearness s j i ≡ order j i) → Parts s k ks (suc at) → IsNearestPlace s k ks at
last_before s k ks at r f n p =
    let within = p.within in
    record {
      within = omega arith;
      on = λ j q. p.before at j (omega arith) q ∙ f;
      none_nearer = λ m i j q t h. let l = stands_after ks at m j i r q t (sym (n j i) ∙ h) in p.from m i (omega arith) t ∙ ap not f;
    }

none_before : (s : Side) (k : List ℕ) (ks : List (List ℕ)) → are_first s ≡ true → Parts s k ks 0 → HasNoneOn s k ks
none_before s k ks f p = λ m i q. p.from m i (omega arith) q ∙ ap not f

last_by : (s : Side) (k : List ℕ) (ks : List (List ℕ)) (at : ℕ) (o : Option ℕ) → AreRisingKeys ks → are_first s ≡ true → ((j i : List ℕ) → nearness s j i ≡ order j i) → SomeIff o (1 ≤ at) (at - 1) → Parts s k ks at → MatchOption o (HasNoneOn s k ks) (IsNearestPlace s k ks)
last_by s k ks zero None r f n e p = none_before s k ks f p
last_by s k ks (suc m) None r f n e p = absurd (e (omega arith))
last_by s k ks zero (Some m) r f n e p = absurd (let one = e.0 in omega arith)
last_by s k ks (suc at) (Some m) r f n e p = let same : m ≡ at = omega (arith, e.1) in rw same (last_before s k ks at r f n p)

pub last_place : (s : Side) (k : List ℕ) (ks : List (List ℕ)) (at : ℕ) (o : Option ℕ) → (s ≡ UpTo) ⊎ (s ≡ Below) → AreRisingKeys ks → SomeIff o (1 ≤ at) (at - 1) → Parts s k ks at → MatchOption o (HasNoneOn s k ks) (IsNearestPlace s k ks)
last_place UpTo k ks at o h r e p = last_by UpTo k ks at o r refl (λ j i. refl) e p
last_place Below k ks at o h r e p = last_by Below k ks at o r refl (λ j i. refl) e p
last_place Above k ks at o h r e p = absurd (elim h [ inl u ↦ (cc) | inr b ↦ (cc) ])

-- ---- a list's item at the nearest key that it contains

module _ {V : Type 0} where
  unnamed_by : (o : Option V) (b : Bool) (i : List ℕ) (es : List (List ℕ × V)) → value_at i es ≡ o → b ≡ true → ((m : ℕ) → slice_get (keys_of es) m ≡ Some i → b ≡ false) → o ≡ None
  unnamed_by None b i es h t n = refl
  unnamed_by (Some v) b i es h t n =
      let found = place_from_lookup (λ j. is_eq (order i j)) es v h in
      let same : i ≡ found.1 = passes_same i found.1 found.3 in
      let here : slice_get (keys_of es) found.0 ≡ Some i = key_at es found.0 (found.1, v) found.2 ∙ ap (λ (j : List ℕ). Some j) (sym same) in
      let not_on : b ≡ false = n found.0 here in
      absurd (cc)

  unnamed : (s : Side) (k i : List ℕ) (es : List (List ℕ × V)) → HasNoneOn s k (keys_of es) → is_on s k i ≡ true → value_at i es ≡ None
  unnamed s k i es n o = unnamed_by (value_at i es) (is_on s k i) i es refl o (λ m t. n m i t)

  unnamed_nearer : (s : Side) (k j : List ℕ) (es : List (List ℕ × V)) (at : ℕ) → IsNearestPlace s k (keys_of es) at → slice_get (keys_of es) at ≡ Some j → (i : List ℕ) → is_on s k i ≡ true → nearness s j i ≡ Less → value_at i es ≡ None
  unnamed_nearer s k j es at n p = λ i o l. unnamed_by (value_at i es) (is_on s k i) i es refl o (λ m t. n.none_nearer m i j p t l)

-- ---- a page's item at the nearest key that it contains

module _ {V : Type 0} (s : Side) (k : List ℕ) (base : List (List ℕ × V)) where
  pub base-none : HasNoneOn s k (keys_of base) → IsNearest s k (λ i. named_under i [] base) None
  base-none n = λ i o. rw (unnamed s k i base n o) refl

  pub base-at : (j : List ℕ) (v : V) (at : ℕ) → IsRising base → IsNearestPlace s k (keys_of base) at → slice_get (keys_of base) at ≡ Some j → slice_get (values_of base) at ≡ Some v
      → IsNearest s k (λ i. named_under i [] base) (Some (j, Some v))
  base-at j v at r n p q =
      record { on = n.on j p; has = rw (value_at-there j v base at r p q) refl; none_nearer = λ i o l. rw (unnamed_nearer s k j base at n p i o l) refl }

module _ {V : Type 0} (s : Side) (k : List ℕ) (run : List (List ℕ × Option V)) (runs : List (List (List ℕ × Option V))) (base : List (List ℕ × V)) where
  -- if the run contains no key on this side, the nearest one is that of the page below it
  pub run-none : (x : Option (List ℕ × Option V)) → HasNoneOn s k (keys_of run) → IsNearest s k (λ i. named_under i runs base) x → IsNearest s k (λ i. named_under i (run ∷ runs) base) x
  run-none None n u = λ i o. rw (unnamed s k i run n o) (u i o)
  run-none (Some e) n u = record {
    on = u.on;
    has = rw (unnamed s k e.0 run n u.on) u.has;
    none_nearer = λ i o l. rw (unnamed s k i run n o) (u.none_nearer i o l);
  }

  module _ (a : List ℕ) (at : ℕ) (n : IsNearestPlace s k (keys_of run) at) (p : slice_get (keys_of run) at ≡ Some a) where
    -- if the page below it contains a nearer one, that is the nearest one
    pub run-under : (e : List ℕ × Option V) → IsNearest s k (λ i. named_under i runs base) (Some e) → true ≡ is_lt (nearness s a e.0) → IsNearest s k (λ i. named_under i (run ∷ runs) base) (Some e)
    run-under e u h =
        let nearer : nearness s a e.0 ≡ Less = less_by (nearness s a e.0) (sym h) in
        record {
          on = u.on;
          has = rw (unnamed_nearer s k a run at n p e.0 u.on nearer) u.has;
          none_nearer = λ i o l. rw (unnamed_nearer s k a run at n p i o (nearness-trans s a e.0 i nearer l)) (u.none_nearer i o l);
        }

    further : (o : Ordering) (i : List ℕ) (e : List ℕ × Option V) → nearness s a e.0 ≡ o → is_lt o ≡ false → nearness s a i ≡ Less → nearness s e.0 i ≡ Less
    further Less i e h f l = absurd (cc)
    further Equal i e h f l = rw (← nearness-same s a e.0 h) l
    further Greater i e h f l = nearness-trans s e.0 a i (nearness-flipped s a e.0 h) l

    module _ (c : Option V) (r : IsRising run) (q : slice_get (values_of run) at ≡ Some c) where
      here : ((i : List ℕ) → is_on s k i ≡ true → nearness s a i ≡ Less → named_under i runs base ≡ None) → IsNearest s k (λ i. named_under i (run ∷ runs) base) (Some (a, c))
      here f = record {
        on = n.on a p;
        has = rw (value_at-there a c run at r p q) refl;
        none_nearer = λ i o l. rw (unnamed_nearer s k a run at n p i o l) (f i o l);
      }

      -- else it is the run's, and for the same key the run's change counts
      pub run-here : (e : List ℕ × Option V) → IsNearest s k (λ i. named_under i runs base) (Some e) → false ≡ is_lt (nearness s a e.0) → IsNearest s k (λ i. named_under i (run ∷ runs) base) (Some (a, c))
      run-here e u h = here (λ i o l. u.none_nearer i o (further (nearness s a e.0) i e refl (sym h) l))

      pub run-alone : IsNearest s k (λ i. named_under i runs base) None → IsNearest s k (λ i. named_under i (run ∷ runs) base) (Some (a, c))
      run-alone u = here (λ i o l. u i o)

-- ---- a step of the search

module _ {V : Type 0} where
  base_by : (o : Option V) → o ≡ change_or (option_map Some o) None
  base_by None = refl
  base_by (Some v) = refl

  run_by : (o : Option (Option V)) (n : Option (Option V)) (h : Option V) → h ≡ change_or n None → change_or o h ≡ change_or (option_or o n) None
  run_by None n h e = e
  run_by (Some c) n h e = refl

  -- a page holds the item of the newest list that contains the key
  pub held-named : (i : List ℕ) (runs : List (List (List ℕ × Option V))) (base : List (List ℕ × V)) → held_under i runs base ≡ change_or (named_under i runs base) None
  held-named i [] base = base_by (value_at i base)
  held-named i (run ∷ runs) base = run_by (value_at i run) (named_under i runs base) (held_under i runs base) (held-named i runs base)

module _ {V : Type 0} (s : Side) (k : List ℕ) (p : Layers V) where
  abbrev names : List ℕ → Option (Option V)
  names i = named_under i p.runs p.base

  holds-by : (i : List ℕ) (o : Option (Option V)) → names i ≡ o → holds p i ≡ change_or o None
  holds-by i o h = held-named i p.runs p.base ∙ ap (λ (t : Option (Option V)). change_or t None) h

  -- if the page contains no key, it holds none
  pub none-held : IsNearest s k names None → IsNearest s k (holds p) None
  none-held n = λ i o. holds-by i None (n i o)

  -- if it holds the nearest key that it contains, that is the nearest one
  pub nearest-held : (j : List ℕ) (v : V) → IsNearest s k names (Some (j, Some v)) → IsNearest s k (holds p) (Some (j, v))
  nearest-held j v n = record { on = n.on; has = holds-by j (Some (Some v)) n.has; none_nearer = λ i o l. holds-by i None (n.none_nearer i o l) }

  module _ (j : List ℕ) (n : IsNearest s k names (Some (j, None))) where
    -- else the page holds nothing up to that key
    past_by : (o : Ordering) (i : List ℕ) → nearness s j i ≡ o → is_on s k i ≡ true → (is_on (past s) j i ≡ true → holds p i ≡ None) → holds p i ≡ None
    past_by Less i h o f = holds-by i None (n.none_nearer i o h)
    past_by Equal i h o f = rw (← nearness-same s j i h) (holds-by j (Some None) n.has)
    past_by Greater i h o f = f (less_near s j i h)

    -- so the nearest past it is the nearest
    pub nearest-past : (x : Option (List ℕ × V)) → IsNearest (past s) j (holds p) x → IsNearest s k (holds p) x
    nearest-past None f = λ i o. past_by (nearness s j i) i refl o (f i)
    nearest-past (Some e) f = record {
      on = past-on s k j e.0 n.on f.on;
      has = f.has;
      none_nearer = λ i o l. past_by (nearness s j i) i refl o (λ b. f.none_nearer i b (sym (nearness-past s e.0 i) ∙ l));
    }

  -- the page's entries are what the page holds
  pub nearest-entries : (x : Option (List ℕ × V)) → IsInOrder p → IsNearest s k (holds p) x → IsNearest s k (λ i. value_at i (entries_of p)) x
  nearest-entries None r n = λ i o. value_at-entries_of p i r ∙ n i o
  nearest-entries (Some e) r n = record { on = n.on; has = value_at-entries_of p e.0 r ∙ n.has; none_nearer = λ i o l. value_at-entries_of p i r ∙ n.none_nearer i o l }

-- ---- past a key of the lists, there are fewer keys

-- how many of the keys are on this side of a key
abbrev count_on : Side → List ℕ → List (List ℕ) → ℕ
count_on s k ks = count_by (λ i. is_on s k i) ks

-- the number of keys on this side in the runs and in the base, counting a key once for each list that contains it
abbrev pub count_named : {V : Type 0} → Side → List ℕ → List (List (List ℕ × Option V)) → List (List ℕ × V) → ℕ
count_named s k [] base = count_on s k (keys_of base)
count_named s k (run ∷ runs) base = count_on s k (keys_of run) + count_named s k runs base

count_on-cons : (s : Side) (k i : List ℕ) (is : List (List ℕ)) → count_on s k (i ∷ is) ≡ cond (is_on s k i) 1 0 + count_on s k is
count_on-cons s k i is = sum_by-cons (λ x. cond (is_on s k x) 1 0) i is

module _ (s : Side) (k j : List ℕ) (o : is_on s k j ≡ true) where
  no_more_by : (b : Bool) (i : List ℕ) → is_on (past s) j i ≡ b → cond b 1 0 ≤ cond (is_on s k i) 1 0
  no_more_by true i h = rw (past-on s k j i o h) (omega arith)
  no_more_by false i h = omega arith

  no_more : (is : List (List ℕ)) → count_on (past s) j is ≤ count_on s k is
  no_more [] = omega arith
  no_more (i ∷ is) =
      let here = no_more_by (is_on (past s) j i) i refl in
      let rest = no_more is in
      omega (arith, count_on-cons (past s) j i is, count_on-cons s k i is)

  no_more_named : {V : Type 0} (runs : List (List (List ℕ × Option V))) (base : List (List ℕ × V)) → count_named (past s) j runs base ≤ count_named s k runs base
  no_more_named [] base = no_more (keys_of base)
  no_more_named (run ∷ runs) base =
      let here = no_more (keys_of run) in
      let rest = no_more_named runs base in
      omega arith

  fewer_by : {V : Type 0} (b : Bool) (v : V) (e : List ℕ × V) (es : List (List ℕ × V)) → is_eq (order j e.0) ≡ b → cond b (Some e.1) (value_at j es) ≡ Some v → (value_at j es ≡ Some v → count_on (past s) j (keys_of es) < count_on s k (keys_of es))
      → count_on (past s) j (keys_of (e ∷ es)) < count_on s k (keys_of (e ∷ es))
  fewer_by true v e es h t ih =
      let same : j ≡ e.0 = passes_same j e.0 h in
      let now : is_on s k e.0 ≡ true = rw (← same) o in
      let later : is_on (past s) j e.0 ≡ false = rw (← same) (not_past s j) in
      let rest = no_more (keys_of es) in
      rw (count_on-cons (past s) j e.0 (keys_of es), count_on-cons s k e.0 (keys_of es), now, later) (omega arith)
  fewer_by false v e es h t ih =
      let here = no_more_by (is_on (past s) j e.0) e.0 refl in
      let rest = ih t in
      omega (arith, count_on-cons (past s) j e.0 (keys_of es), count_on-cons s k e.0 (keys_of es))

  fewer : {V : Type 0} (v : V) (es : List (List ℕ × V)) → value_at j es ≡ Some v → count_on (past s) j (keys_of es) < count_on s k (keys_of es)
  fewer v [] h = absurd (cc)
  fewer v (e ∷ es) h = fewer_by (is_eq (order j e.0)) v e es refl h (λ t. fewer v es t)

  fewer_in_base : {V : Type 0} (t : Option V) (c : Option V) (base : List (List ℕ × V)) → value_at j base ≡ t → option_map Some t ≡ Some c → count_on (past s) j (keys_of base) < count_on s k (keys_of base)
  fewer_in_base None c base h e = absurd (cc)
  fewer_in_base (Some v) c base h e = fewer v base h

  fewer_in_run : {V : Type 0} (t : Option (Option V)) (c : Option V) (run : List (List ℕ × Option V)) (runs : List (List (List ℕ × Option V))) (base : List (List ℕ × V)) → value_at j run ≡ t → option_or t (named_under j runs base) ≡ Some c
      → (named_under j runs base ≡ Some c → count_named (past s) j runs base < count_named s k runs base) → count_named (past s) j (run ∷ runs) base < count_named s k (run ∷ runs) base
  fewer_in_run None c run runs base h e ih =
      let here = no_more (keys_of run) in
      let rest = ih e in
      omega arith
  fewer_in_run (Some d) c run runs base h e ih =
      let here = fewer d run h in
      let rest = no_more_named runs base in
      omega arith

  pub fewer_named : {V : Type 0} (c : Option V) (runs : List (List (List ℕ × Option V))) (base : List (List ℕ × V)) → named_under j runs base ≡ Some c → count_named (past s) j runs base < count_named s k runs base
  fewer_named c [] base h = fewer_in_base (value_at j base) c base refl h
  fewer_named c (run ∷ runs) base h = fewer_in_run (value_at j run) c run runs base refl h (λ e. fewer_named c runs base e)
