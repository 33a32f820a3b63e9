-- Lemmas on counters of places, and on keys that are recorded one by one.
use Rattle.std.specs.Prelude.{◌≡◌, ◌≢◌, ◌⊎◌, ℕ, zero, suc, ◌+◌, ◌-◌, ◌*◌, ◌/◌, ◌^◌, ◌<◌, ◌≤◌, Bool, true, false, not, cond, List, [], ◌∷◌, ◌++◌, length, min, replicate, Contains}
use Rattle.std.proofs.Common.{refl, sym, ap, ◌∙◌, subst, arith, inl, inr, get_or, ⊎_elim, length-append}
use Rattle.std.specs.List.{AllByRecursion, filter}
use Rattle.std.specs.List.Sorted.{IsPartitionedBy, IsSorted}
use Rattle.std.specs.Ordering.{is_lt}
use Rattle.std.proofs.lemmas.Bool.{cases_lt}
use Rattle.std.proofs.lemmas.List.{length-replicate}
use Rattle.std.proofs.lemmas.List.Elements.{filter-append}
use Rattle.std.proofs.lemmas.List.Sorted.{sorted_far, ranks_by}
use Rattle.keys.specs.Order.{order}
use Rattle.keys.specs.Range.{is_below}
use Rattle.keys.proofs.MapLemmas.{total}
use Rattle.index_page.proofs.RangeLemmas.{less_is_below, below_is_less, less_through, low_through, not_below_lower, not_below_itself}
use Rattle.scan.specs.RankCounter.{RankCounter, passing, below, PassesLower, counted, AreWide, IsOneMore, IsTally}

-- ---- levels

same_group : (n : ℕ) → n * 16 / 16 ≡ n
same_group n = omega arith

-- the counters of a level and of those above it for a place, after another place was recorded
more_on : (place at here new_here above new_above : ℕ) → (place < at → at / 16 ≡ place / 16 → new_here ≡ here + 1) → ((at ≤ place) ⊎ (at / 16 ≢ place / 16) → new_here ≡ here) → IsOneMore (place / 16) (at / 16) above new_above
    → IsOneMore place at (here + above) (new_here + new_above)
more_on place at here new_here above new_above a o m = record {
  after = λ h. ⊎_elim
      (λ (l : place / 16 < at / 16).
      let ne : at / 16 ≢ place / 16 = omega arith in
      let first = o (inr ne) in
      let rest = m.after l in
      omega (arith, first, rest))
      (λ (g : at / 16 ≤ place / 16).
      let e : at / 16 ≡ place / 16 = omega arith in
      let first = a h e in
      let rest = m.others g in
      omega (arith, first, rest)) (cases_lt (place / 16) (at / 16));
  others = λ h.
      let first = o (inl h) in
      let g : at / 16 ≤ place / 16 = omega arith in
      let rest = m.others g in
      omega (arith, first, rest);
}

abbrev pub IsNotedOn : ℕ → List (List ℕ) → List (List ℕ) → Type 0
IsNotedOn place old new = (places most at : ℕ) → AreWide places old → place < places → at < places → ((each : ℕ) → each < places → counted old each ≤ most) → most < 2 ^ 64 - 1 → IsOneMore place at (counted old at) (counted new at)

noted_on : (place : ℕ) (level new_level : List ℕ) (above new_above : List (List ℕ)) → length new_level ≡ length level
    → ((at : ℕ) → place < at → at < length level → at / 16 ≡ place / 16 → get_or level at 0 < 2 ^ 64 - 1 → get_or new_level at 0 ≡ get_or level at 0 + 1)
    → ((at : ℕ) → at < length level → (at ≤ place) ⊎ (at / 16 ≢ place / 16) → get_or new_level at 0 ≡ get_or level at 0) → IsNotedOn (place / 16) above new_above → IsNotedOn place (level ∷ above) (new_level ∷ new_above)
noted_on place level new_level above new_above l a o n = λ places most at w p b few small.
    let wide : places ≤ length level = w.0 in
    let here : get_or level at 0 + counted above (at / 16) ≤ most = few at b in
    let least : get_or level at 0 < 2 ^ 64 - 1 = omega (arith, here, small) in
    let within : at < length level = omega (arith, b, wide) in
    let group : place / 16 < (places - 1) / 16 + 1 = omega arith in
    let own : at / 16 < (places - 1) / 16 + 1 = omega arith in
    let fewer = λ (each : ℕ) (s : each < (places - 1) / 16 + 1).
    let first : each * 16 < places = omega arith in
    let all : get_or level (each * 16) 0 + counted above (each * 16 / 16) ≤ most = few (each * 16) first in
    let rest : get_or level (each * 16) 0 + counted above each ≤ most = subst (λ (x : ℕ). get_or level (each * 16) 0 + counted above x ≤ most) (same_group each) all in
    let least_of : counted above each ≤ most = omega (arith, rest) in
    least_of in
    more_on place at (get_or level at 0) (get_or new_level at 0) (counted above (at / 16)) (counted new_above (at / 16)) (λ h e. a at h within e least) (o at within) (n ((places - 1) / 16 + 1) most (at / 16) w.1 group own fewer small)

-- the same of all levels: these are the first and the others
pub noted_first : (place : ℕ) (levels : List (List ℕ)) (level new_level : List ℕ) (above new_above : List (List ℕ)) → levels ≡ level ∷ above → length new_level ≡ length level
    → ((at : ℕ) → place < at → at < length level → at / 16 ≡ place / 16 → get_or level at 0 < 2 ^ 64 - 1 → get_or new_level at 0 ≡ get_or level at 0 + 1)
    → ((at : ℕ) → at < length level → (at ≤ place) ⊎ (at / 16 ≢ place / 16) → get_or new_level at 0 ≡ get_or level at 0) → IsNotedOn (place / 16) above new_above → IsNotedOn place levels (new_level ∷ new_above)
noted_first place levels level new_level above new_above e l a o n =
    subst (λ (x : List (List ℕ)). IsNotedOn place x (new_level ∷ new_above)) (sym e) (noted_on place level new_level above new_above l a o n)

-- ---- levels that are made one by one

-- each level has room for the places that come to it, from `places` on, up to where `left` are left
abbrev pub LeadsTo : ℕ → ℕ → List (List ℕ) → Type 0
LeadsTo places left [] = places ≡ left
LeadsTo places left (level ∷ levels) = (places ≤ length level) × LeadsTo ((places - 1) / 16 + 1) left levels

abbrev pub AreBlank : List (List ℕ) → Type 0
AreBlank levels = AllByRecursion (λ level. (k : ℕ) → get_or level k 0 ≡ 0) levels

leads_on : (places left : ℕ) (levels : List (List ℕ)) (level : List ℕ) → LeadsTo places left levels → left ≤ length level → LeadsTo places ((left - 1) / 16 + 1) (levels ++ level ∷ [])
leads_on places left [] level e l = (omega (arith, e, l), ap (λ (n : ℕ). (n - 1) / 16 + 1) e)
leads_on places left (x ∷ levels) level h l = (h.0, leads_on ((places - 1) / 16 + 1) left levels level h.1 l)

pub leads_up : (places left : ℕ) (levels : List (List ℕ)) → LeadsTo places left levels → left ≤ 1 → AreWide places levels
leads_up places left [] e l = omega (arith, e, l)
leads_up places left (x ∷ levels) h l = (h.0, leads_up ((places - 1) / 16 + 1) left levels h.1 l)

blank_on : (levels : List (List ℕ)) (level : List ℕ) → AreBlank levels → ((k : ℕ) → get_or level k 0 ≡ 0) → AreBlank (levels ++ level ∷ [])
blank_on [] level h b = (b, tt)
blank_on (x ∷ levels) level h b = (h.0, blank_on levels level h.1 b)

abbrev blanks : ℕ → List ℕ
blanks n = replicate n 0

blank_row : (n k : ℕ) → get_or (blanks n) k 0 ≡ 0
blank_row zero k = refl
blank_row (suc n) zero = refl
blank_row (suc n) (suc k) = blank_row n k

pub leads_more : (places left : ℕ) (levels new : List (List ℕ)) (level : List ℕ) → new ≡ levels ++ level ∷ [] → level ≡ blanks left → LeadsTo places left levels → LeadsTo places ((left - 1) / 16 + 1) new
leads_more places left levels new level e b h =
    let long : length level ≡ left = ap (λ (x : List ℕ). length x) b ∙ length-replicate left 0 in
    subst (λ (x : List (List ℕ)). LeadsTo places ((left - 1) / 16 + 1) x) (sym e) (leads_on places left levels level h (omega (arith, long)))

pub blank_more : (left : ℕ) (levels new : List (List ℕ)) (level : List ℕ) → new ≡ levels ++ level ∷ [] → level ≡ blanks left → AreBlank levels → AreBlank new
blank_more left levels new level e b h =
    subst AreBlank (sym e) (blank_on levels level h (λ k. ap (λ (x : List ℕ). get_or x k 0) b ∙ blank_row left k))

pub blank_counts : (levels : List (List ℕ)) → AreBlank levels → (at : ℕ) → counted levels at ≡ 0
blank_counts [] h at = refl
blank_counts (level ∷ levels) h at =
    let first = h.0 at in
    let rest = blank_counts levels h.1 (at / 16) in
    omega (arith, first, rest)

-- ---- places of keys

other_by : (b : Bool) (j k : List ℕ) → is_below k j ≡ b → is_below j k ≡ true → b ≡ false
other_by true j k e h = let f : is_below k j ≡ false = not_below_lower j k (below_is_less j k h) in cc
other_by false j k e h = refl

pub not_both_below : (j k : List ℕ) → is_below j k ≡ true → is_below k j ≡ false
not_both_below j k h = other_by (is_below k j) j k refl h

module _ (p q : List ℕ → Bool) (narrower : (j : List ℕ) → p j ≡ true → q j ≡ true) where
  no_more_by : (a b : Bool) (k : List ℕ) (xs ys : List (List ℕ)) → (a ≡ true → b ≡ true) → length xs ≤ length ys → length (cond a (k ∷ xs) xs) ≤ length (cond b (k ∷ ys) ys)
  no_more_by true true k xs ys i h = omega (arith, h)
  no_more_by true false k xs ys i h = absurd (let f = i refl in cc)
  no_more_by false true k xs ys i h = omega (arith, h)
  no_more_by false false k xs ys i h = h

  -- a narrower test passes no more
  pub no_more : (ks : List (List ℕ)) → passing p ks ≤ passing q ks
  no_more [] = omega arith
  no_more (k ∷ ks) = no_more_by (p k) (q k) k (filter p ks) (filter q ks) (narrower k) (no_more ks)

  less_by : (a b : Bool) (k : List ℕ) (xs ys : List (List ℕ)) → (a ≡ true → b ≡ true) → length xs < length ys → length (cond a (k ∷ xs) xs) < length (cond b (k ∷ ys) ys)
  less_by true true k xs ys i h = omega (arith, h)
  less_by true false k xs ys i h = absurd (let f = i refl in cc)
  less_by false true k xs ys i h = omega (arith, h)
  less_by false false k xs ys i h = h

  -- and less, if one of the keys passes the other alone
  pub less : (ks : List (List ℕ)) (k : List ℕ) (at : ℕ) → at < length ks → get_or ks at k ≡ k → p k ≡ false → q k ≡ true → passing p ks < passing q ks
  less [] k at l e n y = absurd (omega (arith, l))
  less (j ∷ ks) k zero l e n y =
      let out : p j ≡ false = ap p e ∙ n in
      let in_it : q j ≡ true = ap q e ∙ y in
      let rest = no_more ks in
      rw (out, in_it) (omega (arith, rest))
  less (j ∷ ks) k (suc at) l e n y = less_by (p j) (q j) j (filter p ks) (filter q ks) (narrower j) (less ks k at (omega (arith, l)) e n y)

-- among sorted keys, the place of a key is before the end of those that pass a test if and only if the key passes
module _ (test : List ℕ → Bool) (lower : PassesLower test) (key : List ℕ) where
  pub place_passes : (keys : List (List ℕ)) → Contains keys key → test key ≡ true → below key keys < passing test keys
  place_passes keys c h = less (λ k. is_below k key) test (λ j b. lower j key h (not_both_below j key b)) keys key c.0 c.1 c.2 (not_below_itself key) h

  below_of : (b : Bool) (j : List ℕ) → is_below j key ≡ b → test key ≡ false → test j ≡ true → b ≡ true
  below_of true j e n h = refl
  below_of false j e n h = absurd (let t : test key ≡ true = lower key j h e in cc)

  pub place_fails : (keys : List (List ℕ)) → test key ≡ false → passing test keys ≤ below key keys
  place_fails keys n = no_more test (λ k. is_below k key) (λ j h. below_of (is_below j key) j refl n h) keys

-- the two tests that are counted
pub passes_below : (key : List ℕ) → PassesLower (λ k. is_below k key)
passes_below key = λ j k h n. less_is_below j key (low_through j k key n (below_is_less k key h))

up_to_by : (b : Bool) (key j k : List ℕ) → is_below key j ≡ b → not (is_below key k) ≡ true → is_below k j ≡ false → not b ≡ true
up_to_by true key j k e h n = absurd (let t : is_below key k ≡ true = less_is_below key k (less_through key k j e n) in cc)
up_to_by false key j k e h n = refl

pub passes_up_to : (key : List ℕ) → PassesLower (λ k. not (is_below key k))
passes_up_to key = λ j k h n. up_to_by (is_below key j) key j k refl h n

-- among sorted keys, those that pass such a test come first
pub parted_keys : (test : List ℕ → Bool) (keys : List (List ℕ)) → PassesLower test → IsSorted order keys → IsPartitionedBy test keys
parted_keys test keys lower s = λ i j d l w h.
    lower (get_or keys i d) (get_or keys j d) h (sorted_far (λ x y. is_lt (order x y)) (ranks_by total (λ k. k)) keys s i j d l w)

-- ---- keys that come

most_by : (b : Bool) (k : List ℕ) (xs : List (List ℕ)) (n : ℕ) → length xs ≤ n → length (cond b (k ∷ xs) xs) ≤ suc n
most_by true k xs n h = omega (arith, h)
most_by false k xs n h = omega (arith, h)

pub at_most_all : (test : List ℕ → Bool) (keys : List (List ℕ)) → passing test keys ≤ length keys
at_most_all test [] = omega arith
at_most_all test (k ∷ keys) = most_by (test k) k (filter test keys) (length keys) (at_most_all test keys)

pub tally_new : (keys : List (List ℕ)) (levels : List (List ℕ)) → IsSorted order keys → AreWide (length keys + 1) levels → ((at : ℕ) → counted levels at ≡ 0) → IsTally [] (keys, levels)
tally_new keys levels s w z = record {
  sorted = s;
  wide = w;
  few = λ at b. let none = z at in omega (arith, none);
  counts = λ test l. z (passing test keys);
}

one_passing : (b : Bool) (k : List ℕ) → b ≡ true → length (cond b (k ∷ []) []) ≡ 1
one_passing true k h = refl
one_passing false k h = absurd (cc)

none_passing : (b : Bool) (k : List ℕ) → b ≡ false → length (cond b (k ∷ []) []) ≡ 0
none_passing true k h = absurd (cc)
none_passing false k h = refl

passing-append : (test : List ℕ → Bool) (xs ys : List (List ℕ)) → passing test (xs ++ ys) ≡ passing test xs + passing test ys
passing-append test xs ys = ap (λ (zs : List (List ℕ)). length zs) (filter-append test xs ys) ∙ length-append (filter test xs) (filter test ys)

module _ (came keys : List (List ℕ)) (levels new : List (List ℕ)) (key : List ℕ) (noted : IsNotedOn (below key keys) levels new) (t : IsTally came (keys, levels)) (known : Contains keys key) (small : length came < 2 ^ 64 - 1) where
  one_more : (at : ℕ) → at < length keys + 1 → IsOneMore (below key keys) at (counted levels at) (counted new at)
  one_more at b =
      let most = at_most_all (λ k. is_below k key) keys in
      noted (length keys + 1) (length came) at t.wide (omega (arith, most)) b t.few small

  longer : length (came ++ key ∷ []) ≡ length came + 1
  longer = length-append came (key ∷ [])

  few_more : (at : ℕ) → at < length keys + 1 → counted new at ≤ length (came ++ key ∷ [])
  few_more at b =
      let m = one_more at b in
      let f = t.few at b in
      let l = longer in
      ⊎_elim (λ (h : below key keys < at). let e = m.after h in omega (arith, e, f, l)) (λ (h : at ≤ below key keys). let e = m.others h in omega (arith, e, f, l)) (cases_lt (below key keys) at)

  counts_by : (b : Bool) (test : List ℕ → Bool) → PassesLower test → test key ≡ b → counted new (passing test keys) ≡ passing test (came ++ key ∷ [])
  counts_by true test lower e =
      let most = at_most_all test keys in
      let m = one_more (passing test keys) (omega (arith, most)) in
      let now = m.after (place_passes test lower key keys known e) in
      let before = t.counts test lower in
      let parts = passing-append test came (key ∷ []) in
      let one = one_passing (test key) key e in
      omega (arith, now, before, parts, one)
  counts_by false test lower e =
      let most = at_most_all test keys in
      let m = one_more (passing test keys) (omega (arith, most)) in
      let now = m.others (place_fails test lower key keys e) in
      let before = t.counts test lower in
      let parts = passing-append test came (key ∷ []) in
      let none = none_passing (test key) key e in
      omega (arith, now, before, parts, none)

  tally_noted : ((n : ℕ) → AreWide n levels → AreWide n new) → IsTally (came ++ key ∷ []) (keys, new)
  tally_noted wide = record {
    sorted = t.sorted;
    wide = wide (length keys + 1) t.wide;
    few = few_more;
    counts = λ test lower. counts_by (test key) test lower refl;
  }

-- a key that is recorded at its place, for borrowed lists and keys
pub tally_with : (came : List (List ℕ)) (old : RankCounter) (keys lent_keys : List (List ℕ)) (levels lent_levels new made : List (List ℕ)) (key lent_key : List ℕ) (place : ℕ) → old ≡ (keys, levels) → lent_keys ≡ keys → lent_levels ≡ levels → lent_key ≡ key
    → (IsSorted order lent_keys → place ≡ below lent_key lent_keys) → IsNotedOn place lent_levels new → ((n : ℕ) → AreWide n lent_levels → AreWide n new) → made ≡ new → IsTally came old → Contains old.0 key → length came < 2 ^ 64 - 1
    → IsTally (came ++ key ∷ []) (keys, made)
tally_with came old keys lent_keys levels lent_levels new made key lent_key place e k l q p n w g t c s =
    let is : IsTally came (keys, levels) = subst (λ (x : RankCounter). IsTally came x) e t in
    let at : place ≡ below key keys = p (subst (λ (x : List (List ℕ)). IsSorted order x) (sym k) is.sorted) ∙ ap (λ (x : List (List ℕ)). below lent_key x) k ∙ ap (λ (x : List ℕ). below x keys) q in
    let noted : IsNotedOn (below key keys) levels new = subst (λ (x : ℕ). IsNotedOn x levels new) at (subst (λ (x : List (List ℕ)). IsNotedOn place x new) l n) in
    subst (λ (x : List (List ℕ)). IsTally (came ++ key ∷ []) (keys, x)) (sym g)
    (tally_noted came keys levels new key noted is (subst (λ (x : RankCounter). Contains x.0 key) e c) s (subst (λ (x : List (List ℕ)). (m : ℕ) → AreWide m x → AreWide m new) l w))

pub tally_passing : (test : List ℕ → Bool) (came : List (List ℕ)) (t : RankCounter) (lent_keys lent_levels : List (List ℕ)) (place sum : ℕ) → PassesLower test → lent_keys ≡ t.0 → lent_levels ≡ t.1 → (IsSorted order lent_keys → place ≡ passing test lent_keys)
    → sum ≡ min (counted lent_levels place) (2 ^ 64 - 1) → IsTally came t → length came ≤ 2 ^ 64 - 1 → sum ≡ passing test came
tally_passing test came t lent_keys lent_levels place sum lower k l p s is small =
    let at : counted lent_levels place ≡ counted t.1 (passing test t.0) =
    ap (λ (x : List (List ℕ)). counted x place) l ∙ ap (counted t.1) (p (subst (λ (x : List (List ℕ)). IsSorted order x) (sym k) is.sorted) ∙ ap (λ (x : List (List ℕ)). passing test x) k) in
    let counts = is.counts test lower in
    let most = at_most_all test came in
    omega (arith, at, counts, most, small, s)
