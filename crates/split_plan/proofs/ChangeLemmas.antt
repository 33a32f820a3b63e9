-- Lemmas on the new pages of groups, for the proofs of this crate and of those above it.
use Rattle.std.specs.Prelude.{◌≡◌, ℕ, suc, ◌+◌, ◌<◌, ◌⊎◌, ◌↔◌, Bool, true, false, cond, List, [], ◌∷◌, ◌++◌, drop, length, Option, Some, None}
use Rattle.std.proofs.Common.{refl, sym, ap, ◌∙◌, subst, arith, inl, inr}
use Rattle.std.specs.List.{AllByRecursion}
use Rattle.std.specs.Map.{keys_of}
use Rattle.std.proofs.lemmas.List.{map-append}
use Rattle.std.proofs.lemmas.Grind.{flat_map-append}
use Rattle.keys.specs.Order.{IsRising}
use Rattle.keys.specs.declared.settings.Settings.{Settings}
use Rattle.index_page.specs.Page.{first_key}
use Rattle.index_page.specs.Range.{is_below, AreBelow, AreFrom, AreBefore, IsBefore}
use Rattle.index_page.specs.Rules.{IsHeaded}
use Rattle.keys.specs.Lists.{flat}
use Rattle.index_page.proofs.ListLemmas.{all-append, all_apart, all_keys_apart}
use Rattle.index_page.proofs.RangeLemmas.{rising_left, rising_right, from_first, below_next, first_is_before, low_is_below, before_apart, first_key-append}
use Rattle.index_page.proofs.PageLemmas.{all_keys-as_changes}
use Rattle.mapping.specs.Levels.{Placed, entries, joined, name, names}
use Rattle.mapping.specs.Proper.{next_low, IsTile, Tiled}
use Rattle.mapping.proofs.TileLemmas.{next_low-append, tiled_apart, tiled-append, next_low-named, rising-joined, from-joined, before-joined, low_is_before}
use Rattle.split_plan.specs.Cut.{cut}
use Rattle.split_plan.proofs.CutLemmas.{cut-joined, cut_full, cut_some, cut_nothing}
use Rattle.split_plan.specs.Groups.{groups}
use Rattle.split_plan.proofs.GroupLemmas.{groups-joined}
use Rattle.page_runs.specs.Updated.{Updated, is_thin, is_fat}
use Rattle.split_plan.specs.UpdatedLevel.{placed_of}
use Rattle.split_plan.specs.Change.{Change, placed_bare, fresh_pages, replacements, is_rewritten, remade, changes, family_changes, new_of, fresh_of, all_new}
use Rattle.split_plan.proofs.Full.{AllFull}

module _ {V : Type 0} where
  -- ---- which groups are rewritten

  pub rewritten_for_its_members : (g : List (Updated V)) → (is_rewritten g ≡ true) ↔ ((1 < length g) ⊎ ((w : Updated V) × (g ≡ w ∷ []) × (is_fat w ≡ true)))
  rewritten_for_its_members [] = (λ h. absurd (cc), λ r. elim r [ inl l ↦ absurd (omega arith) | inr one ↦ (let e = one.1 in absurd (cc)) ])
  rewritten_for_its_members (w ∷ []) = (λ h. inr (w, refl, h), λ r. elim r [ inl l ↦ absurd (omega arith) | inr one ↦ (let e : w ≡ one.0 = (let f : w ∷ [] ≡ one.0 ∷ [] = one.1 in cc) in rw e one.2) ])
  rewritten_for_its_members (w ∷ v ∷ ws) = (λ h. inl (omega arith), λ r. refl)

  -- ---- lists of pages after their runs

  pub placed_of-append : (g h : List (Updated V)) → placed_of (g ++ h) ≡ placed_of g ++ placed_of h
  placed_of-append g h = map-append (λ w. w.placed) g h

  -- a fact on the pages of two lists, and back
  pub tiled_placed_apart : (g h : List (Updated V)) (end : Option (List ℕ)) → Tiled (placed_of (g ++ h)) end → Tiled (placed_of g) (next_low (placed_of h) end) × Tiled (placed_of h) end
  tiled_placed_apart g h end t = tiled_apart (placed_of g) (placed_of h) end (subst (λ (ps : List (Placed V)). Tiled ps end) (placed_of-append g h) t)

  -- ---- the entries stay

  pub joined-fresh_pages : (used : List ℕ) (i : ℕ) (bs : List (List (List ℕ × V))) → joined (fresh_pages used i bs) ≡ flat bs
  joined-fresh_pages used i [] = refl
  joined-fresh_pages used i (b ∷ bs) = ap (λ (es : List (List ℕ × V)). b ++ es) (joined-fresh_pages used (suc i) bs)

  joined-replacements : (used : List ℕ) (i : ℕ) (p : Placed V) (bs : List (List (List ℕ × V))) → joined (replacements used i p bs) ≡ flat bs
  joined-replacements used i p [] = refl
  joined-replacements used i p (b ∷ bs) = ap (λ (es : List (List ℕ × V)). b ++ es) (joined-fresh_pages used i bs)

  -- a group's pages, by whether it is rewritten
  abbrev pub remade_by : Bool → Settings → List ℕ → ℕ → Updated V → List (Updated V) → List (Placed V)
  remade_by b s used i w ws = cond b (replacements used i w.placed (cut s.fan (joined (placed_of (w ∷ ws))))) (placed_of (w ∷ ws))

  joined_by : (b : Bool) (s : Settings) (used : List ℕ) (i : ℕ) (w : Updated V) (ws : List (Updated V)) → joined (remade_by b s used i w ws) ≡ joined (placed_of (w ∷ ws))
  joined_by true s used i w ws = joined-replacements used i w.placed (cut s.fan (joined (placed_of (w ∷ ws)))) ∙ cut-joined s.fan (joined (placed_of (w ∷ ws)))
  joined_by false s used i w ws = refl

  joined-remade : (s : Settings) (used : List ℕ) (i : ℕ) (g : List (Updated V)) → joined (remade s used i g) ≡ joined (placed_of g)
  joined-remade s used i [] = refl
  joined-remade s used i (w ∷ ws) = joined_by (is_rewritten (w ∷ ws)) s used i w ws

  joined-placed_of : (g h : List (Updated V)) → joined (placed_of (g ++ h)) ≡ joined (placed_of g) ++ joined (placed_of h)
  joined-placed_of g h = ap (λ (ps : List (Placed V)). joined ps) (placed_of-append g h) ∙ flat_map-append entries (placed_of g) (placed_of h)

  -- the pages that are made of groups have the groups' entries
  pub joined-changes : (s : Settings) (used : List ℕ) (i : ℕ) (gs : List (List (Updated V))) → joined (new_of (changes s used i gs)) ≡ joined (placed_of (flat gs))
  joined-changes s used i [] = refl
  joined-changes s used i (g ∷ gs) =
      let later : List (Placed V) = new_of (changes s used (i + length (drop 1 (remade s used i g))) gs) in
      flat_map-append entries (remade s used i g) later
      ∙ ap (λ (es : List (List ℕ × V)). es ++ joined later) (joined-remade s used i g)
      ∙ ap (λ (es : List (List ℕ × V)). joined (placed_of g) ++ es) (joined-changes s used (i + length (drop 1 (remade s used i g))) gs)
      ∙ sym (joined-placed_of g (flat gs))

  pub joined-groups : (s : Settings) (used : List ℕ) (i : ℕ) (f : List (Updated V)) → joined (new_of (changes s used i (groups is_thin f))) ≡ joined (placed_of f)
  joined-groups s used i f = joined-changes s used i (groups is_thin f) ∙ ap (λ (ws : List (Updated V)). joined (placed_of ws)) (groups-joined is_thin f)

  -- and so have those that are made of families
  pub joined-family_changes : (s : Settings) (used : List ℕ) (i : ℕ) (fs : List (List (Updated V))) → joined (all_new (family_changes s used i fs)) ≡ joined (placed_of (flat fs))
  joined-family_changes s used i [] = refl
  joined-family_changes s used i (f ∷ fs) =
      let cs : List (Change V) = changes s used i (groups is_thin f) in
      let later : List (Placed V) = all_new (family_changes s used (i + length (fresh_of cs)) fs) in
      flat_map-append entries (new_of cs) later
      ∙ ap (λ (es : List (List ℕ × V)). es ++ joined later) (joined-groups s used i f)
      ∙ ap (λ (es : List (List ℕ × V)). joined (placed_of f) ++ es) (joined-family_changes s used (i + length (fresh_of cs)) fs)
      ∙ sym (joined-placed_of f (flat fs))

  -- ---- the first page keeps its separator

  replacements_begin : (used : List ℕ) (i : ℕ) (p : Placed V) (bs : List (List (List ℕ × V))) → 0 < length bs → names (replacements used i p bs) ≡ name p ∷ names (drop 1 (replacements used i p bs))
  replacements_begin used i p [] h = absurd (omega arith)
  replacements_begin used i p (b ∷ bs) h = refl

  begins_by : (b : Bool) (s : Settings) (used : List ℕ) (i : ℕ) (w : Updated V) (ws : List (Updated V)) → names (remade_by b s used i w ws) ≡ name w.placed ∷ names (drop 1 (remade_by b s used i w ws))
  begins_by true s used i w ws = replacements_begin used i w.placed (cut s.fan (joined (placed_of (w ∷ ws)))) (cut_some s.fan (joined (placed_of (w ∷ ws))))
  begins_by false s used i w ws = refl

  -- the first page that is made of a group has the separator of its first member
  pub remade_begins : (s : Settings) (used : List ℕ) (i : ℕ) (w : Updated V) (ws : List (Updated V)) → names (remade s used i (w ∷ ws)) ≡ name w.placed ∷ names (drop 1 (remade s used i (w ∷ ws)))
  remade_begins s used i w ws = begins_by (is_rewritten (w ∷ ws)) s used i w ws

  next_low-remade : (s : Settings) (used : List ℕ) (i : ℕ) (g : List (Updated V)) (end : Option (List ℕ)) → next_low (remade s used i g) end ≡ next_low (placed_of g) end
  next_low-remade s used i [] end = refl
  next_low-remade s used i (w ∷ ws) end = next_low-named (remade s used i (w ∷ ws)) (name w.placed) (names (drop 1 (remade s used i (w ∷ ws)))) end (remade_begins s used i w ws)

  pub next_low-changes : (s : Settings) (used : List ℕ) (i : ℕ) (gs : List (List (Updated V))) (end : Option (List ℕ)) → next_low (new_of (changes s used i gs)) end ≡ next_low (placed_of (flat gs)) end
  next_low-changes s used i [] end = refl
  next_low-changes s used i (g ∷ gs) end =
      let j : ℕ = i + length (drop 1 (remade s used i g)) in
      next_low-append (remade s used i g) (new_of (changes s used j gs)) end
      ∙ ap (λ (e : Option (List ℕ)). next_low (remade s used i g) e) (next_low-changes s used j gs end)
      ∙ next_low-remade s used i g (next_low (placed_of (flat gs)) end)
      ∙ sym (next_low-append (placed_of g) (placed_of (flat gs)) end)
      ∙ ap (λ (ps : List (Placed V)). next_low ps end) (sym (placed_of-append g (flat gs)))

  pub next_low-groups : (s : Settings) (used : List ℕ) (i : ℕ) (f : List (Updated V)) (end : Option (List ℕ)) → next_low (new_of (changes s used i (groups is_thin f))) end ≡ next_low (placed_of f) end
  next_low-groups s used i f end = next_low-changes s used i (groups is_thin f) end ∙ ap (λ (ws : List (Updated V)). next_low (placed_of ws) end) (groups-joined is_thin f)

  pub next_low-family_changes : (s : Settings) (used : List ℕ) (i : ℕ) (fs : List (List (Updated V))) (end : Option (List ℕ)) → next_low (all_new (family_changes s used i fs)) end ≡ next_low (placed_of (flat fs)) end
  next_low-family_changes s used i [] end = refl
  next_low-family_changes s used i (f ∷ fs) end =
      let gs : List (List (Updated V)) = groups is_thin f in
      let cs : List (Change V) = changes s used i gs in
      let j : ℕ = i + length (fresh_of cs) in
      next_low-append (new_of cs) (all_new (family_changes s used j fs)) end
      ∙ ap (λ (e : Option (List ℕ)). next_low (new_of cs) e) (next_low-family_changes s used j fs end)
      ∙ next_low-groups s used i f (next_low (placed_of (flat fs)) end)
      ∙ sym (next_low-append (placed_of f) (placed_of (flat fs)) end)
      ∙ ap (λ (ps : List (Placed V)). next_low ps end) (sym (placed_of-append f (flat fs)))

  -- ---- the pages are tiled

  -- a page that is a base whose keys rise, from a low key on and before an end
  bare_tile : (pid : ℕ) (low : List ℕ) (b : List (List ℕ × V)) (end : Option (List ℕ)) → IsRising b → AreFrom low (keys_of b) → AreBefore end (keys_of b) → IsBefore end low → IsTile end (placed_bare pid low b)
  bare_tile pid low b end r f a l = record {
    keys = record { rising = r; from = all_keys-as_changes (λ j. is_below j low ≡ false) b f; before = before_base end b a };
    low = l;
  }
    where
      before_base : (end : Option (List ℕ)) (b : List (List ℕ × V)) → AreBefore end (keys_of b) → AreBefore end (keys_of (Rattle.index_page.specs.Page.as_changes b))
      before_base None b a = tt
      before_base (Some hi) b a = all_keys-as_changes (λ j. is_below j hi ≡ true) b a

  pub tiled-fresh_pages : (used : List ℕ) (i : ℕ) (bs : List (List (List ℕ × V))) (end : Option (List ℕ)) → AllFull bs → IsRising (flat bs) → AreBefore end (keys_of (flat bs)) → Tiled (fresh_pages used i bs) end
  tiled-fresh_pages used i [] end f r a = tt
  tiled-fresh_pages used i (b ∷ []) end f r a =
      let here : AreBefore end (keys_of b) = (before_apart end b [] a).0 in
      let rising : IsRising b = rising_left b [] r in
      (bare_tile (Rattle.mapping.specs.FreshPids.unused used i) (first_key b) b end rising (from_first b rising) here (first_is_before end b f.0 here), tt)
  tiled-fresh_pages used i (b ∷ c ∷ cs) end f r a =
      let below : AreBelow (first_key c) (keys_of b) = below_next b c (flat cs) f.1.0 r in
      let rising : IsRising b = rising_left b (flat (c ∷ cs)) r in (
        bare_tile (Rattle.mapping.specs.FreshPids.unused used i) (first_key b) b (Some (first_key c)) rising (from_first b rising) below (first_is_before (Some (first_key c)) b f.0 below),
        tiled-fresh_pages used (suc i) (c ∷ cs) end f.1 (rising_right b (flat (c ∷ cs)) r) (before_apart end b (flat (c ∷ cs)) a).1,
      )

  tiled-replacements : (used : List ℕ) (i : ℕ) (p : Placed V) (bs : List (List (List ℕ × V))) (end : Option (List ℕ)) → AllFull bs → IsRising (flat bs) → AreFrom p.page.low (keys_of (flat bs)) → AreBefore end (keys_of (flat bs)) → IsBefore end p.page.low → Tiled (replacements used i p bs) end
  tiled-replacements used i p [] end f r o a l = tt
  tiled-replacements used i p (b ∷ []) end f r o a l =
      let from = all_keys_apart (λ j. is_below j p.page.low ≡ false) b [] o in
      (bare_tile p.pid p.page.low b end (rising_left b [] r) from.0 (before_apart end b [] a).0 l, tt)
  tiled-replacements used i p (b ∷ c ∷ cs) end f r o a l =
      let below : AreBelow (first_key c) (keys_of b) = below_next b c (flat cs) f.1.0 r in
      let from = all_keys_apart (λ j. is_below j p.page.low ≡ false) b (flat (c ∷ cs)) o in (
        bare_tile p.pid p.page.low b (Some (first_key c)) (rising_left b (flat (c ∷ cs)) r) from.0 below (low_is_below p.page.low (first_key c) b f.0 from.0 below),
        tiled-fresh_pages used i (c ∷ cs) end f.1 (rising_right b (flat (c ∷ cs)) r) (before_apart end b (flat (c ∷ cs)) a).1,
      )

  tiled_cut : (fan : ℕ) (used : List ℕ) (i : ℕ) (p : Placed V) (es : List (List ℕ × V)) (end : Option (List ℕ)) → 0 < fan → IsRising es → AreFrom p.page.low (keys_of es) → AreBefore end (keys_of es) → IsBefore end p.page.low → Tiled (replacements used i p (cut fan es)) end
  tiled_cut fan used i p [] end h r o a l =
      rw (cut_nothing {X = List ℕ × V} fan h) (bare_tile p.pid p.page.low [] end r o a l, tt)
  tiled_cut fan used i p (e ∷ es) end h r o a l =
      let k : 0 < length (e ∷ es) = omega arith in
      let j : flat (cut fan (e ∷ es)) ≡ e ∷ es = cut-joined fan (e ∷ es) in
      tiled-replacements used i p (cut fan (e ∷ es)) end (cut_full fan (e ∷ es) h k) (rw j r) (rw j o) (rw j a) l

  tiled_by : (b : Bool) (s : Settings) (used : List ℕ) (i : ℕ) (w : Updated V) (ws : List (Updated V)) (end : Option (List ℕ)) → 0 < s.fan → Tiled (placed_of (w ∷ ws)) end → Tiled (remade_by b s used i w ws) end
  tiled_by true s used i w ws end f h =
      tiled_cut s.fan used i w.placed (joined (placed_of (w ∷ ws))) end f (rising-joined (placed_of (w ∷ ws)) end h) (from-joined w.placed (placed_of ws) end h) (before-joined (placed_of (w ∷ ws)) end h) (low_is_before w.placed (placed_of ws) end h)
  tiled_by false s used i w ws end f h = h

  -- what is made of a group keeps the group's range
  tiled-remade : (s : Settings) (used : List ℕ) (i : ℕ) (g : List (Updated V)) (end : Option (List ℕ)) → 0 < s.fan → Tiled (placed_of g) end → Tiled (remade s used i g) end
  tiled-remade s used i [] end f h = tt
  tiled-remade s used i (w ∷ ws) end f h = tiled_by (is_rewritten (w ∷ ws)) s used i w ws end f h

  pub tiled-changes : (s : Settings) (used : List ℕ) (i : ℕ) (gs : List (List (Updated V))) (end : Option (List ℕ)) → 0 < s.fan → Tiled (placed_of (flat gs)) end → Tiled (new_of (changes s used i gs)) end
  tiled-changes s used i [] end f h = tt
  tiled-changes s used i (g ∷ gs) end f h =
      let j : ℕ = i + length (drop 1 (remade s used i g)) in
      let later : List (Placed V) = new_of (changes s used j gs) in
      let a = tiled_placed_apart g (flat gs) end h in
      let n : next_low later end ≡ next_low (placed_of (flat gs)) end = next_low-changes s used j gs end in
      let here : Tiled (remade s used i g) (next_low later end) = rw n (tiled-remade s used i g (next_low (placed_of (flat gs)) end) f a.0) in
      tiled-append (remade s used i g) later end here (tiled-changes s used j gs end f a.1)

  -- and what is made of a family's groups keeps the family's range
  pub tiled-groups : (s : Settings) (used : List ℕ) (i : ℕ) (f : List (Updated V)) (end : Option (List ℕ)) → 0 < s.fan → Tiled (placed_of f) end → Tiled (new_of (changes s used i (groups is_thin f))) end
  tiled-groups s used i f end z h =
      tiled-changes s used i (groups is_thin f) end z (subst (λ (ws : List (Updated V)). Tiled (placed_of ws) end) (sym (groups-joined is_thin f)) h)

  pub tiled-family_changes : (s : Settings) (used : List ℕ) (i : ℕ) (fs : List (List (Updated V))) (end : Option (List ℕ)) → 0 < s.fan → Tiled (placed_of (flat fs)) end → Tiled (all_new (family_changes s used i fs)) end
  tiled-family_changes s used i [] end z h = tt
  tiled-family_changes s used i (f ∷ fs) end z h =
      let cs : List (Change V) = changes s used i (groups is_thin f) in
      let j : ℕ = i + length (fresh_of cs) in
      let later : List (Placed V) = all_new (family_changes s used j fs) in
      let a = tiled_placed_apart f (flat fs) end h in
      let n : next_low later end ≡ next_low (placed_of (flat fs)) end = next_low-family_changes s used j fs end in
      let here : Tiled (placed_of f) (next_low later end) = rw n a.0 in
      tiled-append (new_of cs) later end (tiled-groups s used i f (next_low later end) z here) (tiled-family_changes s used j fs end z a.1)

  pub length-fresh_pages : (used : List ℕ) (i : ℕ) (bs : List (List (List ℕ × V))) → length (fresh_pages used i bs) ≡ length bs
  length-fresh_pages used i [] = refl
  length-fresh_pages used i (b ∷ bs) = ap (λ n. suc n) (length-fresh_pages used (suc i) bs)

-- ---- index pages have their first child at their low key

abbrev pub AllHeaded : List (Placed ℕ) → Type 0
AllHeaded ps = AllByRecursion (λ p. IsHeaded 1 p.page) ps

pub headed-fresh_pages : (used : List ℕ) (i : ℕ) (bs : List (List (List ℕ × ℕ))) → AllFull bs → AllHeaded (fresh_pages used i bs)
headed-fresh_pages used i [] h = tt
headed-fresh_pages used i (b ∷ bs) h = (record { some = h.0; first = refl }, headed-fresh_pages used (suc i) bs h.1)

headed-replacements : (used : List ℕ) (i : ℕ) (p : Placed ℕ) (bs : List (List (List ℕ × ℕ))) → AllFull bs → first_key (flat bs) ≡ p.page.low → AllHeaded (replacements used i p bs)
headed-replacements used i p [] h e = tt
headed-replacements used i p (b ∷ bs) h e = (record { some = h.0; first = sym (first_key-append b (flat bs) h.0).1 ∙ e }, headed-fresh_pages used i bs h.1)

headed_by : (b : Bool) (s : Settings) (used : List ℕ) (i : ℕ) (w : Updated ℕ) (ws : List (Updated ℕ)) → 0 < s.fan → AllHeaded (placed_of (w ∷ ws)) → AllHeaded (remade_by b s used i w ws)
headed_by true s used i w ws z h =
    let es : List (List ℕ × ℕ) = joined (placed_of (w ∷ ws)) in
    let f = first_key-append (entries w.placed) (joined (placed_of ws)) h.0.some in
    headed-replacements used i w.placed (cut s.fan es) (cut_full s.fan es z f.0) (ap (λ (m : List (List ℕ × ℕ)). first_key m) (cut-joined s.fan es) ∙ f.1 ∙ h.0.first)
headed_by false s used i w ws z h = h

headed-remade : (s : Settings) (used : List ℕ) (i : ℕ) (g : List (Updated ℕ)) → 0 < s.fan → AllHeaded (placed_of g) → AllHeaded (remade s used i g)
headed-remade s used i [] z h = tt
headed-remade s used i (w ∷ ws) z h = headed_by (is_rewritten (w ∷ ws)) s used i w ws z h

headed_apart : (g h : List (Updated ℕ)) → AllHeaded (placed_of (g ++ h)) → AllHeaded (placed_of g) × AllHeaded (placed_of h)
headed_apart g h a = all_apart (λ (p : Placed ℕ). IsHeaded 1 p.page) (placed_of g) (placed_of h) (subst (λ (ps : List (Placed ℕ)). AllHeaded ps) (placed_of-append g h) a)

pub headed-changes : (s : Settings) (used : List ℕ) (i : ℕ) (gs : List (List (Updated ℕ))) → 0 < s.fan → AllHeaded (placed_of (flat gs)) → AllHeaded (new_of (changes s used i gs))
headed-changes s used i [] z h = tt
headed-changes s used i (g ∷ gs) z h =
    let j : ℕ = i + length (drop 1 (remade s used i g)) in
    let a = headed_apart g (flat gs) h in
    all-append (λ (p : Placed ℕ). IsHeaded 1 p.page) (remade s used i g) (new_of (changes s used j gs)) (headed-remade s used i g z a.0) (headed-changes s used j gs z a.1)

pub headed-family_changes : (s : Settings) (used : List ℕ) (i : ℕ) (fs : List (List (Updated ℕ))) → 0 < s.fan → AllHeaded (placed_of (flat fs)) → AllHeaded (all_new (family_changes s used i fs))
headed-family_changes s used i [] z h = tt
headed-family_changes s used i (f ∷ fs) z h =
    let gs : List (List (Updated ℕ)) = groups is_thin f in
    let cs : List (Change ℕ) = changes s used i gs in
    let j : ℕ = i + length (fresh_of cs) in
    let a = headed_apart f (flat fs) h in
    let b : AllHeaded (placed_of (flat gs)) = subst (λ (ws : List (Updated ℕ)). AllHeaded (placed_of ws)) (sym (groups-joined is_thin f)) a.0 in
    all-append (λ (p : Placed ℕ). IsHeaded 1 p.page) (new_of cs) (all_new (family_changes s used j fs)) (headed-changes s used i gs z b) (headed-family_changes s used j fs z a.1)
