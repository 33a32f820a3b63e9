-- Lemmas on the terms that parents get, for the proofs of this crate and of those above it.
use Rattle.std.specs.Prelude.{◌≡◌, ℕ, ◌+◌, ◌<◌, false, List, [], ◌∷◌, ◌++◌, take, drop, length, Option, Some, None}
use Rattle.std.proofs.Common.{refl, sym, ap, ◌∙◌, subst, arith, take-append-drop}
use Rattle.keys.specs.Order.{IsRising}
use Rattle.keys.specs.OrderedMap.{value_at}
use Rattle.keys.specs.declared.settings.Settings.{Settings}
use Rattle.delta_chain.specs.Layers.{with_run}
use Rattle.index_page.specs.Page.{first_key}
use Rattle.index_page.specs.Range.{is_below}
use Rattle.index_page.specs.Rules.{IsHeaded}
use Rattle.keys.specs.Lists.{flat}
use Rattle.mapping.specs.Levels.{Placed, entries, name, names}
use Rattle.mapping.specs.Proper.{next_low, Tiled}
use Rattle.mapping.proofs.TileLemmas.{Separators, names-append, rising-names, before-names, from-names}
use Rattle.split_plan.specs.Groups.{groups}
use Rattle.split_plan.proofs.GroupLemmas.{groups-joined, groups_full}
use Rattle.page_runs.specs.Updated.{Updated, is_thin}
use Rattle.split_plan.specs.UpdatedLevel.{placed_of}
use Rattle.split_plan.specs.Change.{remade, changes, new_of, fresh_of}
use Rattle.split_plan.proofs.ChangeLemmas.{placed_of-append, tiled_placed_apart, remade_begins, next_low-changes, tiled-groups}
use Rattle.split_plan.specs.Terms.{freed_of, terms, term_at}
use Rattle.split_plan.proofs.Exchange.{Exchange, whole, others, terms_of}
use Rattle.split_plan.proofs.ExchangeLemmas.{rising-others, rising-with_present, all_keys-terms_of, before-terms_of, value_at-with_present, terms_exchange}
use Rattle.index_page.proofs.RangeLemmas.{IsRunFor}
use Rattle.split_plan.proofs.Full.{AllFull}

module _ {V : Type 0} where
  -- a group, and the pages in its place, as the parent sees it
  abbrev exchange : List (Updated V) → List (Placed V) → Exchange
  exchange [] new = record { kept = ([], 0); gone = []; come = [] }
  exchange (w ∷ ws) new = record { kept = name w.placed; gone = names (placed_of ws); come = names (drop 1 new) }

  abbrev exchanges : Settings → List ℕ → ℕ → List (List (Updated V)) → List Exchange
  exchanges s used i [] = []
  exchanges s used i (g ∷ gs) = exchange g (remade s used i g) ∷ exchanges s used (i + length (drop 1 (remade s used i g))) gs

  -- the separators before are those of the groups' members
  names_before : (s : Settings) (used : List ℕ) (i : ℕ) (gs : List (List (Updated V))) → AllFull gs → whole (λ x. x.gone) (exchanges s used i gs) ≡ names (placed_of (flat gs))
  names_before s used i [] h = refl
  names_before s used i ([] ∷ gs) h = absurd (let z : 0 < 0 = h.0 in omega arith)
  names_before s used i ((w ∷ ws) ∷ gs) h =
      let j : ℕ = i + length (drop 1 (remade s used i (w ∷ ws))) in
      ap (λ (ns : Separators). name w.placed ∷ (names (placed_of ws) ++ ns)) (names_before s used j gs h.1)
      ∙ ap (λ (ns : Separators). name w.placed ∷ ns) (sym (ap (λ (ps : List (Placed V)). names ps) (placed_of-append ws (flat gs)) ∙ names-append (placed_of ws) (placed_of (flat gs))))

  -- the separators after are those of the pages that are made of them
  names_after : (s : Settings) (used : List ℕ) (i : ℕ) (gs : List (List (Updated V))) → AllFull gs → whole (λ x. x.come) (exchanges s used i gs) ≡ names (new_of (changes s used i gs))
  names_after s used i [] h = refl
  names_after s used i ([] ∷ gs) h = absurd (let z : 0 < 0 = h.0 in omega arith)
  names_after s used i ((w ∷ ws) ∷ gs) h =
      let here : List (Placed V) = remade s used i (w ∷ ws) in
      let j : ℕ = i + length (drop 1 here) in
      ap (λ (ns : Separators). (name w.placed ∷ names (drop 1 here)) ++ ns) (names_after s used j gs h.1)
      ∙ ap (λ (ns : Separators). ns ++ names (new_of (changes s used j gs))) (sym (remade_begins s used i w ws))
      ∙ sym (names-append here (new_of (changes s used j gs)))

  names_gone : (s : Settings) (used : List ℕ) (i : ℕ) (gs : List (List (Updated V))) → others (λ x. x.gone) (exchanges s used i gs) ≡ names (freed_of (changes s used i gs))
  names_gone s used i [] = refl
  names_gone s used i ([] ∷ gs) = names_gone s used (i + 0) gs
  names_gone s used i ((w ∷ ws) ∷ gs) =
      let j : ℕ = i + length (drop 1 (remade s used i (w ∷ ws))) in
      ap (λ (ns : Separators). names (placed_of ws) ++ ns) (names_gone s used j gs) ∙ sym (names-append (placed_of ws) (freed_of (changes s used j gs)))

  names_come : (s : Settings) (used : List ℕ) (i : ℕ) (gs : List (List (Updated V))) → others (λ x. x.come) (exchanges s used i gs) ≡ names (fresh_of (changes s used i gs))
  names_come s used i [] = refl
  names_come s used i ([] ∷ gs) = names_come s used (i + 0) gs
  names_come s used i ((w ∷ ws) ∷ gs) =
      let here : List (Placed V) = remade s used i (w ∷ ws) in
      let j : ℕ = i + length (drop 1 here) in
      ap (λ (ns : Separators). names (drop 1 here) ++ ns) (names_come s used j gs) ∙ sym (names-append (drop 1 here) (fresh_of (changes s used j gs)))

  terms_are : (s : Settings) (used : List ℕ) (i : ℕ) (gs : List (List (Updated V))) → terms_of (exchanges s used i gs) ≡ terms (changes s used i gs)
  terms_are s used i gs =
      let a = names_gone s used i gs in
      let b = names_come s used i gs in
      rw (a, b) refl

  -- ---- one family

  before_family : (s : Settings) (used : List ℕ) (i : ℕ) (f : List (Updated V)) → whole (λ x. x.gone) (exchanges s used i (groups is_thin f)) ≡ names (placed_of f)
  before_family s used i f = names_before s used i (groups is_thin f) (groups_full is_thin f) ∙ ap (λ (ws : List (Updated V)). names (placed_of ws)) (groups-joined is_thin f)

  after_family : (s : Settings) (used : List ℕ) (i : ℕ) (f : List (Updated V)) → whole (λ x. x.come) (exchanges s used i (groups is_thin f)) ≡ names (new_of (changes s used i (groups is_thin f)))
  after_family s used i f = names_after s used i (groups is_thin f) (groups_full is_thin f)

  -- the terms turn the separators of a family into those of the pages that are made of it
  pub with_run-terms : (s : Settings) (used : List ℕ) (i : ℕ) (f : List (Updated V)) (end : Option (List ℕ)) → 0 < s.fan → Tiled (placed_of f) end → with_run (names (placed_of f)) (terms (changes s used i (groups is_thin f))) ≡ names (new_of (changes s used i (groups is_thin f)))
  with_run-terms s used i f end z h =
      let gs : List (List (Updated V)) = groups is_thin f in
      let xs : List Exchange = exchanges s used i gs in
      let old : whole (λ x. x.gone) xs ≡ names (placed_of f) = before_family s used i f in
      let new : whole (λ x. x.come) xs ≡ names (new_of (changes s used i gs)) = after_family s used i f in
      let r : IsRising (whole (λ x. x.gone) xs) = rw old (rising-names (placed_of f) end h) in
      let t : IsRising (whole (λ x. x.come) xs) = rw new (rising-names (new_of (changes s used i gs)) end (tiled-groups s used i f end z h)) in
      ap (λ (ns : Separators). with_run ns (terms (changes s used i gs))) (sym old)
      ∙ ap (λ (run : List (List ℕ × Option ℕ)). with_run (whole (λ x. x.gone) xs) run) (sym (terms_are s used i gs))
      ∙ terms_exchange xs r t
      ∙ new

  -- they are a run for the family's parent
  pub terms_for_parent : (s : Settings) (used : List ℕ) (i : ℕ) (low : List ℕ) (f : List (Updated V)) (end : Option (List ℕ)) → 0 < s.fan → next_low (placed_of f) end ≡ Some low → Tiled (placed_of f) end → IsRunFor low end (terms (changes s used i (groups is_thin f)))
  terms_for_parent s used i low f end z n h =
      let gs : List (List (Updated V)) = groups is_thin f in
      let new : List (Placed V) = new_of (changes s used i gs) in
      let xs : List Exchange = exchanges s used i gs in
      let old_names : whole (λ x. x.gone) xs ≡ names (placed_of f) = before_family s used i f in
      let new_names : whole (λ x. x.come) xs ≡ names new = after_family s used i f in
      let t : Tiled new end = tiled-groups s used i f end z h in
      let m : next_low new end ≡ Some low = next_low-changes s used i gs end ∙ ap (λ (ws : List (Updated V)). next_low (placed_of ws) end) (groups-joined is_thin f) ∙ n in
      let r : IsRising (whole (λ x. x.gone) xs) = rw old_names (rising-names (placed_of f) end h) in
      let run : IsRunFor low end (terms_of xs) = record {
        rising = rising-with_present (others (λ x. x.gone) xs) (others (λ x. x.come) xs) (rising-others (λ x. x.gone) xs r);
        from = all_keys-terms_of (λ j. is_below j low ≡ false) xs (rw old_names (from-names (placed_of f) low end n h)) (rw new_names (from-names new low end m t));
        before = before-terms_of end xs (rw old_names (before-names (placed_of f) end h)) (rw new_names (before-names new end t));
      } in
      subst (λ (c : List (List ℕ × Option ℕ)). IsRunFor low end c) (terms_are s used i gs) run

  pub rising-terms : (s : Settings) (used : List ℕ) (i : ℕ) (f : List (Updated V)) (end : Option (List ℕ)) → 0 < s.fan → Tiled (placed_of f) end → IsRising (terms (changes s used i (groups is_thin f)))
  rising-terms s used i f end z h =
      let xs : List Exchange = exchanges s used i (groups is_thin f) in
      let gone : IsRising (others (λ x. x.gone) xs) = rising-others (λ x. x.gone) xs (rw (before_family s used i f) (rising-names (placed_of f) end h)) in
      subst (λ (run : List (List ℕ × Option ℕ)). IsRising run) (terms_are s used i (groups is_thin f)) (rising-with_present (others (λ x. x.gone) xs) (others (λ x. x.come) xs) gone)

  -- what they say of a key
  pub value_at-terms : (s : Settings) (used : List ℕ) (i : ℕ) (f : List (Updated V)) (end : Option (List ℕ)) (k : List ℕ) → 0 < s.fan → Tiled (placed_of f) end
      → value_at k (terms (changes s used i (groups is_thin f))) ≡ term_at (value_at k (names (fresh_of (changes s used i (groups is_thin f))))) (value_at k (names (freed_of (changes s used i (groups is_thin f)))))
  value_at-terms s used i f end k z h =
      let gs : List (List (Updated V)) = groups is_thin f in
      let xs : List Exchange = exchanges s used i gs in
      let gone = rising-others (λ x. x.gone) xs (rw (before_family s used i f) (rising-names (placed_of f) end h)) in
      let come = rising-others (λ x. x.come) xs (rw (after_family s used i f) (rising-names (new_of (changes s used i gs)) end (tiled-groups s used i f end z h))) in
      let freed : IsRising (names (freed_of (changes s used i gs))) = subst (λ (ns : Separators). IsRising ns) (names_gone s used i gs) gone in
      let fresh : IsRising (names (fresh_of (changes s used i gs))) = subst (λ (ns : Separators). IsRising ns) (names_come s used i gs) come in
      value_at-with_present k (names (freed_of (changes s used i gs))) (names (fresh_of (changes s used i gs))) freed fresh

  -- ---- all families of a level

  -- the separators of a level, split into the entries of its first parent and of the others
  pub names_apart : (es fs : Separators) (ws : List (Updated V)) → es ++ fs ≡ names (placed_of ws) → (es ≡ names (placed_of (take (length es) ws))) × (fs ≡ names (placed_of (drop (length es) ws)))
  names_apart [] fs ws e = (refl, e)
  names_apart (n ∷ es) fs [] e = absurd (cc)
  names_apart (n ∷ es) fs (w ∷ ws) e =
      let a : n ≡ name w.placed = cc in
      let b : es ++ fs ≡ names (placed_of ws) = cc in
      let r = names_apart es fs ws b in
      let c : es ≡ names (placed_of (take (length es) ws)) = r.0 in
      (cc, r.1)

  pub tiled_family_apart : (n : ℕ) (ws : List (Updated V)) (end : Option (List ℕ)) → Tiled (placed_of ws) end → Tiled (placed_of (take n ws)) (next_low (placed_of (drop n ws)) end) × Tiled (placed_of (drop n ws)) end
  tiled_family_apart n ws end h =
      tiled_placed_apart (take n ws) (drop n ws) end (subst (λ (vs : List (Updated V)). Tiled (placed_of vs) end) (sym (take-append-drop n ws)) h)

  pub headed_by_names : (q : Placed ℕ) (new : List (Placed V)) (low : List ℕ) → entries q ≡ names new → next_low new None ≡ Some low → low ≡ q.page.low → IsHeaded 1 q.page
  headed_by_names q [] low e n l = absurd (cc)
  headed_by_names q (p ∷ ps) low e n l =
      let a : p.page.low ≡ low = cc in
      record { some = rw e (omega arith); first = ap (λ (x : Separators). first_key x) e ∙ a ∙ l }
