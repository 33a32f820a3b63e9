-- The concatenated entries of pages that tile keys, and the places of the children that they describe.
use Rattle.std.specs.Prelude.{◌≡◌, ℕ, ◌≤◌, true, ⊤, List, [], ◌∷◌, ◌++◌, flat_map, length, Option, Some, None}
use Rattle.std.proofs.Common.{refl, sym, ap, ◌∙◌, arith, subst}
use Rattle.std.specs.List.{AllByRecursion}
use Rattle.std.specs.List.Sorted.{IsStrictlySortedBy}
use Rattle.std.specs.Map.{keys_of}
use Rattle.keys.specs.Order.{IsRising}
use Rattle.delta_chain.proofs.LayerLemmas.{rising-entries_of}
use Rattle.index_page.specs.Page as page
use Rattle.index_page.specs.Page.{Page, PageOfKind, first_key, named}
use Rattle.index_page.specs.Range.{is_below, AreBefore, IsBefore}
use Rattle.index_page.specs.Rules.{IsHeaded}
use Rattle.index_page.proofs.RangeLemmas.{below_is_less}
use Rattle.index_page.proofs.PageLemmas.{all_keys_entries}
use Rattle.mapping.specs.Levels.{Placed, entries, joined, name, names}
use Rattle.index_page.specs.Children.{Place, children}
use Rattle.index_page.proofs.ChildLemmas.{next_key, children-cons, children-append}
use Rattle.mapping.specs.Finding.{children_at, children_of_page}
use Rattle.mapping.specs.Proper.{next_low, Tiled, HasIndexPages}
use Rattle.mapping.proofs.TileLemmas.{next_names}

-- if the keys of a page are below an end, so are its entries' keys
entries_before : {X : Type 0} → (end : Option (List ℕ)) (p : Page X) → AreBefore end (named p) → AreBefore end (keys_of (page.entries p))
entries_before None p a = tt
entries_before (Some end) p a = all_keys_entries (λ k. is_below k end ≡ true) p a

-- ---- pairs whose keys rise up to an end

-- each pair's key is below the next one's, and the last one's is below the end
abbrev pub AreSpaced : {X : Type 0} → List (List ℕ × X) → Option (List ℕ) → Type 0
AreSpaced [] end = ⊤
AreSpaced (e ∷ es) end = IsBefore (next_key es end) e.0 × AreSpaced es end

module _ {X : Type 0} where
  last_before : (end : Option (List ℕ)) (e : List ℕ × X) → AreBefore end (keys_of (e ∷ [])) → IsBefore end e.0
  last_before None e a = tt
  last_before (Some end) e a = below_is_less e.0 end a.0

  rest_before : (end : Option (List ℕ)) (e : List ℕ × X) (es : List (List ℕ × X)) → AreBefore end (keys_of (e ∷ es)) → AreBefore end (keys_of es)
  rest_before None e es a = tt
  rest_before (Some end) e es a = a.1

  -- pairs that rise and are all before an end rise up to it
  spaced : (es : List (List ℕ × X)) (end : Option (List ℕ)) → IsRising es → AreBefore end (keys_of es) → AreSpaced es end
  unfolding IsStrictlySortedBy
  spaced [] end r a = tt
  spaced (e ∷ []) end r a = (last_before end e a, tt)
  spaced (e ∷ f ∷ es) end r a = ((r.0).0, spaced (f ∷ es) end r.1 (rest_before end e (f ∷ es) a))

  pub next_key-append : (es fs : List (List ℕ × X)) (end : Option (List ℕ)) → next_key (es ++ fs) end ≡ next_key es (next_key fs end)
  next_key-append [] fs end = refl
  next_key-append (e ∷ es) fs end = refl

  spaced_append : (es fs : List (List ℕ × X)) (end : Option (List ℕ)) → AreSpaced es (next_key fs end) → AreSpaced fs end → AreSpaced (es ++ fs) end
  spaced_append [] fs end a b = b
  spaced_append (e ∷ es) fs end a b = (subst (λ (x : Option (List ℕ)). IsBefore x e.0) (sym (next_key-append es fs end)) a.0, spaced_append es fs end a.1 b)

  first_next : (es fs : List (List ℕ × X)) (low : List ℕ) (end : Option (List ℕ)) → 1 ≤ length es → first_key es ≡ low → next_key (es ++ fs) end ≡ Some low
  first_next [] fs low end h f = absurd (omega arith)
  first_next (e ∷ es) fs low end h f = ap (λ (k : List ℕ). Some k) f

-- ---- entries of a level, joined

abbrev pub AreHeaded : ℕ → List (Placed ℕ) → Type 0
AreHeaded least ps = AllByRecursion (λ p. IsHeaded least p.page) ps

-- the first of the joined entries has the first page's low key
pub next_joined : (ps : List (Placed ℕ)) (end : Option (List ℕ)) → AreHeaded 1 ps → next_key (joined ps) end ≡ next_low ps end
next_joined [] end h = refl
next_joined (p ∷ ps) end h = first_next (entries p) (joined ps) p.page.low end (h.0).some (h.0).first

-- the entries of pages that tile keys, joined, rise
pub spaced_joined : (ps : List (Placed ℕ)) (end : Option (List ℕ)) → AreHeaded 1 ps → Tiled ps end → AreSpaced (joined ps) end
spaced_joined [] end h t = tt
spaced_joined (p ∷ ps) end h t =
    let before = entries_before (next_low ps end) p.page (t.0).keys.before in
    let own = spaced (entries p) (next_low ps end) (rising-entries_of p.page.layers (t.0).keys.rising) before in
    spaced_append (entries p) (joined ps) end (subst (λ (x : Option (List ℕ)). AreSpaced (entries p) x) (sym (next_joined ps end h.1)) own) (spaced_joined ps end h.1 t.1)

-- ---- places

-- below the places of some pages are the places of their concatenated entries
pub places_below : (ps : List (ℕ × PageOfKind)) (here : List (Placed ℕ)) (end : Option (List ℕ)) → HasIndexPages ps here → AreHeaded 1 here
    → flat_map (children_at ps) (children (names here) end) ≡ children (joined here) end
places_below ps [] end h d = refl
places_below ps (p ∷ rest) end h d =
    ap (λ (x : List Place). flat_map (children_at ps) x) (children-cons (name p) (names rest) end)
    ∙ ap (λ (x : Option PageOfKind). children_of_page (next_key (names rest) end) x ++ flat_map (children_at ps) (children (names rest) end)) h.0
    ∙ ap (λ (x : List Place). children (entries p) (next_key (names rest) end) ++ x) (places_below ps rest end h.1 d.1)
    ∙ ap (λ (x : Option (List ℕ)). children (entries p) x ++ children (joined rest) end) (next_names rest end ∙ sym (next_joined rest end d.1))
    ∙ sym (children-append (entries p) (joined rest) end)
