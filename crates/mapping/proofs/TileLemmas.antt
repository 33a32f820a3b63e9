-- Lemmas on pages with contiguous ranges, for the proofs of this crate and of those above it.
use Rattle.std.specs.Prelude.{◌≡◌, ℕ, ◌<◌, Bool, true, false, not, ◌&&◌, List, [], ◌∷◌, ◌++◌, length, count_by, Option, Some, None}
use Rattle.std.proofs.Common.{refl, sym, ap, ◌∙◌, subst, arith, append-nil}
use Rattle.std.specs.List.{AllByRecursion}
use Rattle.std.specs.List.Sorted.{IsStrictlySortedBy}
use Rattle.std.specs.Map.{keys_of}
use Rattle.std.proofs.lemmas.Grind.{flat_map-append}
use Rattle.std.proofs.lemmas.List.{map-append}
use Rattle.keys.specs.Order.{IsRising}
use Rattle.keys.specs.OrderedMap.{value_at}
use Rattle.keys.proofs.MapLemmas.{total, IsBelowAll, below_all}
use Rattle.delta_chain.proofs.LayerLemmas.{rising-entries_of}
use Rattle.index_page.specs.Page.{first_key}
use Rattle.index_page.specs.Children.{Place, children, is_place_for}
use Rattle.index_page.specs.Range.{is_below, is_before, is_within, AreBelow, AreFrom, AreBefore, IsBefore}
use Rattle.index_page.specs.Rules.{IsHeaded}
use Rattle.index_page.proofs.ListLemmas.{all_keys-append}
use Rattle.index_page.proofs.RangeLemmas.{less_is_below, from_lower, below_higher, not_below_itself, from_below_all, below_all_from, rising-append, first_key-append, value_at-following, value_at-in_front}
use Rattle.index_page.proofs.ChildLemmas.{next_key, place_of, children-cons, children-append, within, within_parts, one_child, no_child}
use Rattle.index_page.proofs.PageLemmas.{all_keys_entries}
use Rattle.mapping.specs.Levels.{Placed, entries, joined, name, names}
use Rattle.mapping.specs.Proper.{next_low, IsTile, Tiled}

abbrev pub Separators : Type 0
Separators = List (List ℕ × ℕ)

module _ {V : Type 0} where
  -- ---- joined lists of pages

  pub next_low-append : (xs ys : List (Placed V)) (end : Option (List ℕ)) → next_low (xs ++ ys) end ≡ next_low xs (next_low ys end)
  next_low-append [] ys end = refl
  next_low-append (x ∷ xs) ys end = refl

  pub tiled_apart : (xs ys : List (Placed V)) (end : Option (List ℕ)) → Tiled (xs ++ ys) end → Tiled xs (next_low ys end) × Tiled ys end
  tiled_apart [] ys end h = (tt, h)
  tiled_apart (x ∷ xs) ys end h =
      let r = tiled_apart xs ys end h.1 in
      let t : IsTile (next_low xs (next_low ys end)) x = rw (next_low-append xs ys end) at h.0 in
      ((t, r.0), r.1)

  pub tiled-append : (xs ys : List (Placed V)) (end : Option (List ℕ)) → Tiled xs (next_low ys end) → Tiled ys end → Tiled (xs ++ ys) end
  tiled-append [] ys end h k = k
  tiled-append (x ∷ xs) ys end h k = (rw (next_low-append xs ys end) h.0, tiled-append xs ys end h.1 k)

  pub names-append : (xs ys : List (Placed V)) → names (xs ++ ys) ≡ names xs ++ names ys
  names-append xs ys = map-append name xs ys

  -- ---- the entries of tiled pages

  -- no entry is below the first page's low key
  pub from-joined : (p : Placed V) (ps : List (Placed V)) (end : Option (List ℕ)) → Tiled (p ∷ ps) end → AreFrom p.page.low (keys_of (joined (p ∷ ps)))
  from-joined p [] end h =
      let P : List ℕ → Type 0 = λ j. is_below j p.page.low ≡ false in
      all_keys-append P (entries p) [] (all_keys_entries P p.page h.0.keys.from) tt
  from-joined p (q ∷ qs) end h =
      let P : List ℕ → Type 0 = λ j. is_below j p.page.low ≡ false in
      all_keys-append P (entries p) (joined (q ∷ qs)) (all_keys_entries P p.page h.0.keys.from) (from_lower p.page.low q.page.low (keys_of (joined (q ∷ qs))) h.0.low (from-joined q qs end h.1))

  -- a page's entries rise
  pub rising-tile : (end : Option (List ℕ)) (p : Placed V) → IsTile end p → IsRising (entries p)
  rising-tile end p t = rising-entries_of p.page.layers t.keys.rising

  -- the entries rise
  pub rising-joined : (ps : List (Placed V)) (end : Option (List ℕ)) → Tiled ps end → IsRising (joined ps)
  unfolding IsStrictlySortedBy
  rising-joined [] end h = tt
  rising-joined (p ∷ []) end h = rw (append-nil (entries p)) (rising-entries_of p.page.layers h.0.keys.rising)
  rising-joined (p ∷ q ∷ qs) end h =
      rising-append q.page.low (entries p) (joined (q ∷ qs)) (all_keys_entries (λ j. is_below j q.page.low ≡ true) p.page h.0.keys.before) (from-joined q qs end h.1) (rising-entries_of p.page.layers h.0.keys.rising) (rising-joined (q ∷ qs) end h.1)

  -- the first page's low key is below the end of them all
  pub low_is_before : (p : Placed V) (ps : List (Placed V)) (end : Option (List ℕ)) → Tiled (p ∷ ps) end → IsBefore end p.page.low
  low_is_before p ps None h = tt
  low_is_before p [] (Some hi) h = h.0.low
  low_is_before p (q ∷ qs) (Some hi) h = total.trans p.page.low q.page.low hi h.0.low (low_is_before q qs (Some hi) h.1)

  -- and so are all entries
  pub before-joined : (ps : List (Placed V)) (end : Option (List ℕ)) → Tiled ps end → AreBefore end (keys_of (joined ps))
  before-joined ps None h = tt
  before-joined [] (Some hi) h = tt
  before-joined (p ∷ []) (Some hi) h =
      let P : List ℕ → Type 0 = λ j. is_below j hi ≡ true in
      all_keys-append P (entries p) [] (all_keys_entries P p.page h.0.keys.before) tt
  before-joined (p ∷ q ∷ qs) (Some hi) h =
      let here : AreBelow q.page.low (keys_of (entries p)) = all_keys_entries (λ j. is_below j q.page.low ≡ true) p.page h.0.keys.before in
      all_keys-append (λ j. is_below j hi ≡ true) (entries p) (joined (q ∷ qs)) (below_higher q.page.low hi (keys_of (entries p)) (low_is_before q qs (Some hi) h.1) here) (before-joined (q ∷ qs) (Some hi) h.1)

  -- ---- the separators of tiled pages

  lows_above : (low : List ℕ) (ps : List (Placed V)) (end : Option (List ℕ)) → IsBefore (next_low ps end) low → Tiled ps end → IsBelowAll low (keys_of (names ps))
  lows_above low [] end l h = tt
  lows_above low (q ∷ qs) end l h = (l, below_all low q.page.low (keys_of (names qs)) l (lows_above q.page.low qs end h.0.low h.1))

  pub rising-names : (ps : List (Placed V)) (end : Option (List ℕ)) → Tiled ps end → IsRising (names ps)
  unfolding IsStrictlySortedBy
  rising-names [] end h = tt
  rising-names (p ∷ ps) end h = (lows_above p.page.low ps end h.0.low h.1, rising-names ps end h.1)

  lows_below : (ps : List (Placed V)) (hi : List ℕ) → Tiled ps (Some hi) → AreBelow hi (keys_of (names ps))
  lows_below [] hi h = tt
  lows_below (p ∷ ps) hi h = (less_is_below p.page.low hi (low_is_before p ps (Some hi) h), lows_below ps hi h.1)

  pub before-names : (ps : List (Placed V)) (end : Option (List ℕ)) → Tiled ps end → AreBefore end (keys_of (names ps))
  before-names ps None h = tt
  before-names ps (Some hi) h = lows_below ps hi h

  pub from-names : (ps : List (Placed V)) (low : List ℕ) (end : Option (List ℕ)) → next_low ps end ≡ Some low → Tiled ps end → AreFrom low (keys_of (names ps))
  from-names [] low end e h = tt
  from-names (p ∷ ps) low end e h =
      let same : p.page.low ≡ low = cc in
      let own : AreFrom p.page.low (keys_of (names (p ∷ ps))) = (not_below_itself p.page.low, from_below_all p.page.low (keys_of (names ps)) (lows_above p.page.low ps end h.0.low h.1)) in
      subst (λ (l : List ℕ). AreFrom l (keys_of (names (p ∷ ps)))) same own

  -- ---- where separators begin

  -- pages begin where their separators do
  pub next_low-named : (ps : List (Placed V)) (n : List ℕ × ℕ) (ns : Separators) (end : Option (List ℕ)) → names ps ≡ n ∷ ns → next_low ps end ≡ Some n.0
  next_low-named [] n ns end e = absurd (cc)
  next_low-named (p ∷ ps) n ns end e = let f : name p ≡ n = cc in ap (λ (m : List ℕ × ℕ). Some m.0) f

  pub next_low-same : {W : Type 0} (ps : List (Placed V)) (qs : List (Placed W)) (end : Option (List ℕ)) → names ps ≡ names qs → next_low ps end ≡ next_low qs end
  next_low-same [] [] end e = refl
  next_low-same [] (q ∷ qs) end e = absurd (cc)
  next_low-same (p ∷ ps) [] end e = absurd (cc)
  next_low-same (p ∷ ps) (q ∷ qs) end e = let f : name p ≡ name q = cc in ap (λ (m : List ℕ × ℕ). Some m.0) f

  pub next_low-entries : (ps : List (Placed V)) (es : Separators) (low : List ℕ) (end : Option (List ℕ)) → es ≡ names ps → 0 < length es → first_key es ≡ low → next_low ps end ≡ Some low
  next_low-entries ps [] low end e h f = absurd (omega arith)
  next_low-entries [] (n ∷ es) low end e h f = absurd (cc)
  next_low-entries (p ∷ ps) (n ∷ es) low end e h f =
      let a : n ≡ name p = cc in
      ap (λ (m : List ℕ × ℕ). Some m.0) (sym a) ∙ ap (λ (l : List ℕ). Some l) f

  pub some_page : (ps : List (Placed V)) (low : List ℕ) → next_low ps None ≡ Some low → 0 < length ps
  some_page [] low e = absurd (cc)
  some_page (p ∷ ps) low e = omega arith

  -- if parents' entries describe pages, the pages begin where the parents do
  pub next_low-parents : (ups : List (Placed ℕ)) (ps : List (Placed V)) → joined ups ≡ names ps → AllByRecursion (λ u. IsHeaded 1 u.page) ups → next_low ps None ≡ next_low ups None
  next_low-parents [] [] e h = refl
  next_low-parents [] (p ∷ ps) e h = absurd (cc)
  next_low-parents (u ∷ us) ps e h =
      let f = first_key-append (entries u) (joined us) h.0.some in
      next_low-entries ps (entries u ++ joined us) u.page.low None e f.0 (f.1 ∙ h.0.first)

-- ---- the page whose range has a key

not_both : (b : Bool) → (not b && b) ≡ true → ⊥
not_both true h = absurd (cc)
not_both false h = absurd (cc)

module _ {V : Type 0} where
  pub joined-append : (xs ys : List (Placed V)) → joined (xs ++ ys) ≡ joined xs ++ joined ys
  joined-append xs ys = flat_map-append entries xs ys

  -- a key before the next page is below all entries of the pages that follow
  below_later_pages : (k : List ℕ) (ys : List (Placed V)) (end : Option (List ℕ)) → Tiled ys end → is_before (next_low ys end) k ≡ true → IsBelowAll k (keys_of (joined ys))
  below_later_pages k [] end t h = tt
  below_later_pages k (q ∷ qs) end t h = below_all_from k q.page.low (keys_of (joined (q ∷ qs))) h (from-joined q qs end t)

  -- what a page has at a key within its range is what all pages of its level, joined, have there
  pub value_at-joined : (xs ys : List (Placed V)) (p : Placed V) (end : Option (List ℕ)) (k : List ℕ) → Tiled (xs ++ p ∷ ys) end → is_within p.page.low (next_low ys end) k ≡ true
      → value_at k (entries p) ≡ value_at k (joined (xs ++ p ∷ ys))
  value_at-joined xs ys p end k t h =
      let w = within_parts p.page.low (next_low ys end) k h in
      let apart = tiled_apart xs (p ∷ ys) end t in
      sym (
      ap (λ (es : List (List ℕ × V)). value_at k es) (joined-append xs (p ∷ ys))
      ∙ value_at-following p.page.low k (joined xs) (joined (p ∷ ys)) w.0 (before-joined xs (Some p.page.low) apart.0)
      ∙ value_at-in_front k (entries p) (joined ys) (below_later_pages k ys end apart.1.1 w.1)
      )

  pub next_names : (ps : List (Placed V)) (end : Option (List ℕ)) → next_key (names ps) end ≡ next_low ps end
  next_names [] end = refl
  next_names (p ∷ ps) end = refl

  -- the ranges of a level's pages are those of the places of its separators
  pub range-names : (xs ys : List (Placed V)) (p : Placed V) (end : Option (List ℕ))
      → children (names (xs ++ p ∷ ys)) end ≡ children (names xs) (Some p.page.low) ++ place_of (name p) (next_low ys end) ∷ children (names ys) end
  range-names xs ys p end =
      ap (λ (ns : Separators). children ns end) (names-append xs (p ∷ ys))
      ∙ children-append (names xs) (names (p ∷ ys)) end
      ∙ ap (λ (x : List Place). children (names xs) (Some p.page.low) ++ x) (children-cons (name p) (names ys) end ∙ ap (λ (x : Option (List ℕ)). place_of (name p) x ∷ children (names ys) end) (next_names ys end))

  -- a key from the first low key on, and before the end, is within the range of exactly one page
  pub one_page : (ps : List (Placed V)) (end : Option (List ℕ)) (low k : List ℕ) → Tiled ps end → next_low ps end ≡ Some low → is_within low end k ≡ true → count_by (is_place_for k) (children (names ps) end) ≡ 1
  one_page [] end low k t e h = absurd (not_both (is_below k low) (rw e at h))
  one_page (p ∷ ps) end low k t e h =
      let same : low ≡ p.page.low = cc in
      one_child (names (p ∷ ps)) end k (rising-names (p ∷ ps) end t) (omega arith) (subst (λ (l : List ℕ). is_within l end k ≡ true) same h)

  -- and any other key within that of none
  pub no_page : (ps : List (Placed V)) (end : Option (List ℕ)) (low k : List ℕ) → Tiled ps end → next_low ps end ≡ Some low → is_within low end k ≡ false → count_by (is_place_for k) (children (names ps) end) ≡ 0
  no_page [] end low k t e h = refl
  no_page (p ∷ ps) end low k t e h =
      let same : low ≡ p.page.low = cc in
      no_child (names (p ∷ ps)) end k (rising-names (p ∷ ps) end t) (before-names (p ∷ ps) end t) (subst (λ (l : List ℕ). is_within l end k ≡ false) same h)

  -- so there is such a page, between two parts of the level
  abbrev pub HasPageFor : List (Placed V) → Option (List ℕ) → List ℕ → Type 0
  HasPageFor ps end k = (xs : List (Placed V)) × (p : Placed V) × (ys : List (Placed V)) × (ps ≡ xs ++ p ∷ ys) × (is_within p.page.low (next_low ys end) k ≡ true)

  page_by : (b : Bool) (p q : Placed V) (qs : List (Placed V)) (end : Option (List ℕ)) (k : List ℕ) → is_below k q.page.low ≡ b → is_below k p.page.low ≡ false → (is_below k q.page.low ≡ false → HasPageFor (q ∷ qs) end k) → HasPageFor (p ∷ q ∷ qs) end k
  page_by true p q qs end k b h ih = ([], p, q ∷ qs, refl, within p.page.low (Some q.page.low) k h b)
  page_by false p q qs end k b h ih = let r = ih b in (p ∷ r.0, r.1, r.2, ap (λ (ps : List (Placed V)). p ∷ ps) r.3, r.4)

  page_from : (p : Placed V) (ps : List (Placed V)) (end : Option (List ℕ)) (k : List ℕ) → is_below k p.page.low ≡ false → is_before end k ≡ true → HasPageFor (p ∷ ps) end k
  page_from p [] end k h b = ([], p, [], refl, within p.page.low end k h b)
  page_from p (q ∷ qs) end k h b = page_by (is_below k q.page.low) p q qs end k refl h (λ c. page_from q qs end k c b)

  pub page_for : (ps : List (Placed V)) (end : Option (List ℕ)) (low k : List ℕ) → next_low ps end ≡ Some low → is_within low end k ≡ true → HasPageFor ps end k
  page_for [] end low k e h = absurd (not_both (is_below k low) (rw e at h))
  page_for (p ∷ ps) end low k e h =
      let same : p.page.low ≡ low = cc in
      let w = within_parts low end k h in
      page_from p ps end k (rw same w.0) w.1
