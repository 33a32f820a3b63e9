-- Lemmas on the places of children, for the proofs of this crate and of those above it.
use Rattle.std.specs.Prelude.{◌≡◌, ◌≢◌, ◌↔◌, IsTrue, is_some, ℕ, ◌+◌, ◌<◌, Bool, true, false, not, cond, List, [], ◌∷◌, ◌++◌, map, length, count_by, Option, Some, None}
use Rattle.std.specs.Option.{option_map, option_or}
use Rattle.std.proofs.Common.{refl, sym, ap, ◌∙◌, arith}
use Rattle.std.specs.List.Sorted.{IsStrictlySortedBy}
use Rattle.std.specs.Map.{keys_of, values_of}
use Rattle.std.proofs.lemmas.Bool.{and_parts, not-true}
use Rattle.std.proofs.lemmas.List.Sums.{sum_by-cons}
use Rattle.keys.specs.Order.{IsRising}
use Rattle.keys.proofs.Basics.{and_false}
use Rattle.keys.proofs.MapLemmas.{IsBelowAll, below_all}
use Rattle.page_search.specs.Floor.{floor}
use Rattle.index_page.specs.Page.{PageOfKind, first_key, IsLeaf}
use Rattle.index_page.specs.Page.PageOfKind.{Leaf, Index}
use Rattle.index_page.specs.Range.{is_below, is_before, is_within, AreBefore}
use Rattle.index_page.specs.Children.{Place, children, is_place_for, child_entries}
use Rattle.index_page.proofs.RangeLemmas.{below_is_less, less_is_below, less_through, not_below_lower}

-- ---- the list of the places

-- the first pair's key, else the end
abbrev pub next_key : {X : Type 0} → List (List ℕ × X) → Option (List ℕ) → Option (List ℕ)
next_key [] end = end
next_key (e ∷ es) end = Some e.0

-- the place of an entry, if its range has this end
abbrev pub place_of : List ℕ × ℕ → Option (List ℕ) → Place
place_of e end = record { pid = e.1; low = e.0; end = end }

pub children-cons : (e : List ℕ × ℕ) (es : List (List ℕ × ℕ)) (end : Option (List ℕ)) → children (e ∷ es) end ≡ place_of e (next_key es end) ∷ children es end
children-cons e [] end = refl
children-cons e (f ∷ es) end = refl

pub children-append : (es fs : List (List ℕ × ℕ)) (end : Option (List ℕ)) → children (es ++ fs) end ≡ children es (next_key fs end) ++ children fs end
children-append [] fs end = refl
children-append (e ∷ []) [] end = refl
children-append (e ∷ []) (f ∷ fs) end = refl
children-append (e ∷ d ∷ es) fs end = ap (λ (x : List Place). place_of e (Some d.0) ∷ x) (children-append (d ∷ es) fs end)

pub pids-children : (es : List (List ℕ × ℕ)) (end : Option (List ℕ)) → map (λ (at : Place). at.pid) (children es end) ≡ values_of es
pids-children [] end = refl
pids-children (e ∷ []) end = refl
pids-children (e ∷ d ∷ es) end = ap (λ (x : List ℕ). e.1 ∷ x) (pids-children (d ∷ es) end)

pub lows-children : (es : List (List ℕ × ℕ)) (end : Option (List ℕ)) → map (λ (at : Place). at.low) (children es end) ≡ keys_of es
lows-children [] end = refl
lows-children (e ∷ []) end = refl
lows-children (e ∷ d ∷ es) end = ap (λ (x : List (List ℕ)). e.0 ∷ x) (lows-children (d ∷ es) end)

-- ---- whether a key is within a range

-- a key is within a range if it isn't below the low key, and is below the end
pub within : (low : List ℕ) (end : Option (List ℕ)) (k : List ℕ) → is_below k low ≡ false → is_before end k ≡ true → is_within low end k ≡ true
within low end k h b = rw (h, b) refl

pub not_within_below : (low : List ℕ) (end : Option (List ℕ)) (k : List ℕ) → is_below k low ≡ true → is_within low end k ≡ false
not_within_below low end k h = rw h refl

pub not_within_after : (low : List ℕ) (end : Option (List ℕ)) (k : List ℕ) → is_before end k ≡ false → is_within low end k ≡ false
not_within_after low end k h = and_false (not (is_below k low)) (is_before end k) h

-- ---- how many of the places have the key in their range

pub count-children : (k : List ℕ) (e : List ℕ × ℕ) (es : List (List ℕ × ℕ)) (end : Option (List ℕ))
    → count_by (is_place_for k) (children (e ∷ es) end) ≡ cond (is_within e.0 (next_key es end) k) 1 0 + count_by (is_place_for k) (children es end)
count-children k e es end =
    ap (λ (x : List Place). count_by (is_place_for k) x) (children-cons e es end)
    ∙ sum_by-cons (λ (at : Place). cond (is_place_for k at) 1 0) (place_of e (next_key es end)) (children es end)

-- the first place has the key, or has it not, and n of the others have
counted : (b c : Bool) (n m : ℕ) → b ≡ c → n ≡ m → cond b 1 0 + n ≡ cond c 1 0 + m
counted b c n m h e = rw (h, e) refl

-- none, if the key is below all low keys
pub none_below : (k : List ℕ) (es : List (List ℕ × ℕ)) (end : Option (List ℕ)) → IsBelowAll k (keys_of es) → count_by (is_place_for k) (children es end) ≡ 0
none_below k [] end a = refl
none_below k (e ∷ es) end a =
    count-children k e es end
    ∙ counted (is_within e.0 (next_key es end) k) false (count_by (is_place_for k) (children es end)) 0 (not_within_below e.0 (next_key es end) k (less_is_below k e.0 a.0)) (none_below k es end a.1)

next_after : (k : List ℕ) (e : List ℕ × ℕ) (es : List (List ℕ × ℕ)) (end : Option (List ℕ)) → is_before end k ≡ false → AreBefore end (keys_of (e ∷ es)) → (is_before (next_key es end) k ≡ false) × AreBefore end (keys_of es)
next_after k e es None h a = absurd (cc)
next_after k e [] (Some hi) h a = (h, tt)
next_after k e (f ∷ es) (Some hi) h a = (not_below_lower f.0 k (less_through f.0 k hi (a.1).0 h), a.1)

-- none, if the key isn't before the end, and all low keys are
pub none_after : (k : List ℕ) (es : List (List ℕ × ℕ)) (end : Option (List ℕ)) → is_before end k ≡ false → AreBefore end (keys_of es) → count_by (is_place_for k) (children es end) ≡ 0
none_after k [] end h a = refl
none_after k (e ∷ es) end h a =
    let r = next_after k e es end h a in
    count-children k e es end
    ∙ counted (is_within e.0 (next_key es end) k) false (count_by (is_place_for k) (children es end)) 0 (not_within_after e.0 (next_key es end) k r.0) (none_after k es end h r.1)

-- the first range has the key, or a later one has
next_by : (c : Bool) (k : List ℕ) (e f : List ℕ × ℕ) (es : List (List ℕ × ℕ)) (end : Option (List ℕ)) → is_below k f.0 ≡ c → IsRising (f ∷ es) → is_below k e.0 ≡ false
    → (is_below k f.0 ≡ false → count_by (is_place_for k) (children (f ∷ es) end) ≡ 1) → count_by (is_place_for k) (children (e ∷ f ∷ es) end) ≡ 1
unfolding IsStrictlySortedBy
next_by true k e f es end c r h ih =
    let l = below_is_less k f.0 c in
    count-children k e (f ∷ es) end
    ∙ counted (is_within e.0 (Some f.0) k) true (count_by (is_place_for k) (children (f ∷ es) end)) 0 (within e.0 (Some f.0) k h c) (none_below k (f ∷ es) end (l, below_all k f.0 (keys_of es) l r.0))
next_by false k e f es end c r h ih =
    count-children k e (f ∷ es) end
    ∙ counted (is_within e.0 (Some f.0) k) false (count_by (is_place_for k) (children (f ∷ es) end)) 1 (not_within_after e.0 (Some f.0) k c) (ih c)

-- exactly one, if the key isn't below the first low key, and is before the end
one_by : (k : List ℕ) (e : List ℕ × ℕ) (es : List (List ℕ × ℕ)) (end : Option (List ℕ)) → IsRising (e ∷ es) → is_below k e.0 ≡ false → is_before end k ≡ true → count_by (is_place_for k) (children (e ∷ es) end) ≡ 1
unfolding IsStrictlySortedBy
one_by k e [] end r h b = count-children k e [] end ∙ counted (is_within e.0 end k) true 0 0 (within e.0 end k h b) refl
one_by k e (f ∷ es) end r h b = next_by (is_below k f.0) k e f es end refl r.1 h (λ c. one_by k f es end r.1 c b)

pub within_parts : (low : List ℕ) (end : Option (List ℕ)) (k : List ℕ) → is_within low end k ≡ true → (is_below k low ≡ false) × (is_before end k ≡ true)
within_parts low end k h = let p = and_parts (not (is_below k low)) (is_before end k) h in (not-true (is_below k low) p.0, p.1)

-- each key from the first one on and before the end is in the range of exactly one place
pub one_child : (es : List (List ℕ × ℕ)) (end : Option (List ℕ)) (k : List ℕ) → IsRising es → 0 < length es → is_within (first_key es) end k ≡ true → count_by (is_place_for k) (children es end) ≡ 1
one_child [] end k r l h = absurd (omega arith)
one_child (e ∷ es) end k r l h = let p = within_parts e.0 end k h in one_by k e es end r p.0 p.1

none_by : (b : Bool) (e : List ℕ × ℕ) (es : List (List ℕ × ℕ)) (end : Option (List ℕ)) (k : List ℕ) → is_below k e.0 ≡ b → IsRising (e ∷ es) → AreBefore end (keys_of (e ∷ es)) → is_within e.0 end k ≡ false → count_by (is_place_for k) (children (e ∷ es) end) ≡ 0
unfolding IsStrictlySortedBy
none_by true e es end k c r a h = let l = below_is_less k e.0 c in none_below k (e ∷ es) end (l, below_all k e.0 (keys_of es) l r.0)
none_by false e es end k c r a h = none_after k (e ∷ es) end (following (is_before end k) refl) a
  where
    following : (b : Bool) → is_before end k ≡ b → is_before end k ≡ false
    following true b = absurd (let w = within e.0 end k c b in cc)
    following false b = b

-- and any other key in none
pub no_child : (es : List (List ℕ × ℕ)) (end : Option (List ℕ)) (k : List ℕ) → IsRising es → AreBefore end (keys_of es) → is_within (first_key es) end k ≡ false → count_by (is_place_for k) (children es end) ≡ 0
no_child [] end k r a h = refl
no_child (e ∷ es) end k r a h = none_by (is_below k e.0) e es end k refl r a h

-- ---- the child for a key, by the last entry whose key isn't above it

module _ (k : List ℕ) where
  -- there is no last entry, if the key is below all
  pub no_floor : (es : List (List ℕ × ℕ)) → IsBelowAll k (keys_of es) → floor k es ≡ None
  no_floor [] a = refl
  no_floor (e ∷ es) a = rw (no_floor es a.1, a.0) refl

  or_this : (o : Option (List ℕ × ℕ)) (e : List ℕ × ℕ) → option_or o (Some e) ≢ None
  or_this None e h = absurd (cc)
  or_this (Some f) e h = absurd (cc)

  -- if the first key isn't above it, there is one
  pub some_floor : (e : List ℕ × ℕ) (es : List (List ℕ × ℕ)) → is_below k e.0 ≡ false → floor k (e ∷ es) ≢ None
  some_floor e es h n = or_this (floor k es) e (sym (ap (λ (b : Bool). option_or (floor k es) (cond b None (Some e))) h) ∙ n)

  -- there is one, if and only if the first key isn't above the key
  pub has_floor : (es : List (List ℕ × ℕ)) → (0 < length es) × (is_below k (first_key es) ≡ false) → None ≡ floor k es → ⊥
  has_floor [] h p = let none = h.0 in absurd (omega arith)
  has_floor (e ∷ es) h p = some_floor e es h.1 (sym p)

  first_by : (b : Bool) (e g : List ℕ × ℕ) (es : List (List ℕ × ℕ)) → is_below k e.0 ≡ b → IsRising (e ∷ es) → Some g ≡ floor k (e ∷ es) → is_below k e.0 ≡ false
  unfolding IsStrictlySortedBy
  first_by true e g es b r p =
      let l = below_is_less k e.0 b in
      let none : Some g ≡ None = p ∙ no_floor (e ∷ es) (l, below_all k e.0 (keys_of es) l r.0) in
      absurd (cc)
  first_by false e g es b r p = b

  pub floor_has : (es : List (List ℕ × ℕ)) (g : List ℕ × ℕ) → IsRising es → Some g ≡ floor k es → (0 < length es) × (is_below k (first_key es) ≡ false)
  floor_has [] g r p = absurd (cc)
  floor_has (e ∷ es) g r p = (omega arith, first_by (is_below k e.0) e g es refl r p)

-- a leaf has no children, so their keys rise
pub leaf-rising : (p : PageOfKind) → IsLeaf p → IsRising (child_entries p)
unfolding IsStrictlySortedBy
leaf-rising (Leaf p) h = tt
leaf-rising (Index p) h = absurd h

-- a test for a last entry is a test for a child at the key or below it
pub has_child_by : {X : Type 0} (k : List ℕ) (read : X → List ℕ × ℕ) (o : Option X) (es : List (List ℕ × ℕ)) → IsRising es → option_map read o ≡ floor k es → IsTrue (is_some o) ↔ ((0 < length es) × (is_below k (first_key es) ≡ false))
has_child_by k read None es r p = (λ t. absurd (cc), λ h. absurd (has_floor k es h p))
has_child_by k read (Some x) es r p = (λ t. floor_has k es (read x) r p, λ h. refl)
