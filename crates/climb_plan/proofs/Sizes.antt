-- Pages stay within the settings through a climb.
use Rattle.std.specs.Prelude.{◌≡◌, ℕ, zero, suc, ◌+◌, ◌/◌, ◌<◌, ◌≤◌, Bool, true, false, cond, nat_lt, List, [], ◌∷◌, map, drop, length, Option, Some, None}
use Rattle.std.proofs.Common.{refl, sym, ◌∙◌, subst, arith, append-nil, ltb-false, ltb-true}
use Rattle.std.specs.List.{AllByRecursion}
use Rattle.std.proofs.lemmas.Bool.{or_parts}
use Rattle.std.specs.Map.{keys_of}
use Rattle.keys.specs.declared.settings.Settings.{Settings}
use Rattle.delta_chain.specs.Layers.{with_run, entries_of, depth_of}
use Rattle.index_page.specs.Page.{Page, first_key, said}
use Rattle.index_page.specs.Rules.{OfCell, IsShortChange, Fits, IsAnyPid}
use Rattle.keys.specs.Lists.{flat}
use Rattle.index_page.proofs.ListLemmas.{all-append, all_apart}
use Rattle.index_page.proofs.PageLemmas.{all-as_changes, all_entries}
use Rattle.mapping.specs.Levels.{Placed, entries, joined, names}
use Rattle.mapping.specs.Proper.{Stacked}
use Rattle.mapping.proofs.TileLemmas.{Separators}
use Rattle.page_runs.specs.AfterRun.{must_replace, replaced, in_front, class_of_size}
use Rattle.page_runs.specs.declared.class.Class.TheVariants.{Changed, Thin, Fat}
use Rattle.split_plan.specs.Cut.{cut, AllAtMost}
use Rattle.split_plan.proofs.CutLemmas.{cut-joined, cut_at_most}
use Rattle.split_plan.proofs.ExchangeLemmas.{all_keys-with_present}
use Rattle.split_plan.specs.Groups.{groups}
use Rattle.split_plan.proofs.GroupLemmas.{groups-joined}
use Rattle.page_runs.specs.Updated.{Updated, updated, is_thin, is_fat, is_fat_class}
use Rattle.split_plan.specs.UpdatedLevel.{updated_parents, placed_of}
use Rattle.split_plan.proofs.RunLemmas.{all_said-after_run, names-updated_parents}
use Rattle.split_plan.specs.Change.{Change, placed_bare, fresh_pages, replacements, remade, changes, family_changes, new_of, fresh_of, all_new, all_fresh}
use Rattle.split_plan.specs.Terms.{freed_of, terms}
use Rattle.climb_plan.specs.Climb.{families, grown_levels, climb}
use Rattle.climb_plan.proofs.Families.{families-joined}

-- a page within the settings, its low key too
pub record IsSmall {V : Type 0} (s : Settings) (IsShort : V → Type 0) (p : Placed V) : Type 0 where
  pub fit : Fits s IsShort p.page
  pub low : length p.page.low ≤ s.max_key

-- and a page after its run, except that a fat one may have too many entries
pub record IsSmallUnlessFat {V : Type 0} (s : Settings) (IsShort : V → Type 0) (w : Updated V) : Type 0 where
  pub fit : is_fat w ≡ false → Fits s IsShort w.placed.page
  pub changes : AllByRecursion (IsShortChange s IsShort) (said w.placed.page)
  pub low : length w.placed.page.low ≤ s.max_key

-- ---- a page after a run

not_fat_by : (b c : Bool) (s : Settings) (n : ℕ) → nat_lt n (s.fan / 4) ≡ b → nat_lt s.fan n ≡ c → is_fat_class (cond b Thin (cond c Fat Changed)) ≡ false → n ≤ s.fan
not_fat_by true c s n e f h = let l : n < s.fan / 4 = ltb-true n (s.fan / 4) e in omega arith
not_fat_by false true s n e f h = absurd (cc)
not_fat_by false false s n e f h = ltb-false s.fan n f

not_fat : (s : Settings) (n : ℕ) → is_fat_class (class_of_size s n) ≡ false → n ≤ s.fan
not_fat s n h = not_fat_by (nat_lt n (s.fan / 4)) (nat_lt s.fan n) s n refl refl h

module _ {V : Type 0} (s : Settings) (IsShort : V → Type 0) where
  -- a run of short changes
  abbrev pub AreShortChanges : List (List ℕ × Option V) → Type 0
  AreShortChanges run = AllByRecursion (IsShortChange s IsShort) run

  fits_by : (b : Bool) (p : Page V) (c : List ℕ × Option V) (cs : List (List ℕ × Option V)) → must_replace s p.layers (c ∷ cs) ≡ b → Fits s IsShort p
      → AreShortChanges (said (record { low = p.low; layers = cond b (replaced p.layers (c ∷ cs)) (in_front p.layers (c ∷ cs)) }))
      → is_fat_class (cond b (class_of_size s (length (with_run (entries_of p.layers) (c ∷ cs)))) Changed) ≡ false
      → Fits s IsShort (record { low = p.low; layers = cond b (replaced p.layers (c ∷ cs)) (in_front p.layers (c ∷ cs)) })
  fits_by true p c cs o h a f = record { base = not_fat s (length (with_run (entries_of p.layers) (c ∷ cs))) f; runs = tt; changes = a; depth = omega arith }
  fits_by false p c cs o h a f =
      let both = or_parts (nat_lt s.fan (length (c ∷ cs))) (nat_lt s.chain (depth_of p.layers + 1)) o in
      let most : length (c ∷ cs) ≤ s.fan = ltb-false s.fan (length (c ∷ cs)) both.0 in
      let deep : depth_of p.layers + 1 ≤ s.chain = ltb-false s.chain (depth_of p.layers + 1) both.1 in
      record { base = h.base; runs = (record { some = omega arith; most = most }, h.runs); changes = a; depth = omega arith }

  fits-updated : (p : Placed V) (run : List (List ℕ × Option V)) → Fits s IsShort p.page → AreShortChanges (said (updated s p run).placed.page) → is_fat (updated s p run) ≡ false → Fits s IsShort (updated s p run).placed.page
  fits-updated p [] h a f = h
  fits-updated p (c ∷ cs) h a f = fits_by (must_replace s p.page.layers (c ∷ cs)) p.page c cs refl h a f

  pub small-updated : (p : Placed V) (run : List (List ℕ × Option V)) → IsSmall s IsShort p → AreShortChanges run → IsSmallUnlessFat s IsShort (updated s p run)
  small-updated p run h a =
      let said_short : AreShortChanges (said (updated s p run).placed.page) = all_said-after_run (IsShortChange s IsShort) s p.page.layers run a h.fit.changes in
      record { fit = fits-updated p run h.fit said_short; changes = said_short; low = h.low }

  pub small-updated_parents : (ps : List (Placed V)) (runs : List (List (List ℕ × Option V))) → AllByRecursion (IsSmall s IsShort) ps → AllByRecursion AreShortChanges runs → AllByRecursion (IsSmallUnlessFat s IsShort) (updated_parents s ps runs)
  small-updated_parents [] runs h a = tt
  small-updated_parents (p ∷ ps) [] h a = (small-updated p [] h.0 tt, small-updated_parents ps [] h.1 tt)
  small-updated_parents (p ∷ ps) (run ∷ runs) h a = (small-updated p run h.0 a.0, small-updated_parents ps runs h.1 a.1)

  -- ---- the new pages of groups

  abbrev pub AreShortPairs : List (List ℕ × V) → Type 0
  AreShortPairs es = AllByRecursion (λ e. IsShortChange s IsShort (e.0, Some e.1)) es

  pub short_first_key : (b : List (List ℕ × V)) → AreShortPairs b → length (first_key b) ≤ s.max_key
  short_first_key [] a = omega arith
  short_first_key (e ∷ es) a = a.0.key

  small_bare : (pid : ℕ) (low : List ℕ) (b : List (List ℕ × V)) → length low ≤ s.max_key → length b ≤ s.fan → AreShortPairs b → IsSmall s IsShort (placed_bare pid low b)
  small_bare pid low b l n a = record {
    fit = record { base = n; runs = tt; changes = all-as_changes (IsShortChange s IsShort) b a; depth = omega arith };
    low = l;
  }

  small-fresh_pages : (used : List ℕ) (i : ℕ) (bs : List (List (List ℕ × V))) → AllAtMost s.fan bs → AreShortPairs (flat bs) → AllByRecursion (IsSmall s IsShort) (fresh_pages used i bs)
  small-fresh_pages used i [] n a = tt
  small-fresh_pages used i (b ∷ bs) n a =
      let r = all_apart (λ (e : List ℕ × V). IsShortChange s IsShort (e.0, Some e.1)) b (flat bs) a in
      (small_bare (Rattle.mapping.specs.FreshPids.unused used i) (first_key b) b (short_first_key b r.0) n.0 r.0, small-fresh_pages used (suc i) bs n.1 r.1)

  small-replacements : (used : List ℕ) (i : ℕ) (p : Placed V) (bs : List (List (List ℕ × V))) → length p.page.low ≤ s.max_key → AllAtMost s.fan bs → AreShortPairs (flat bs) → AllByRecursion (IsSmall s IsShort) (replacements used i p bs)
  small-replacements used i p [] l n a = tt
  small-replacements used i p (b ∷ bs) l n a =
      let r = all_apart (λ (e : List ℕ × V). IsShortChange s IsShort (e.0, Some e.1)) b (flat bs) a in
      (small_bare p.pid p.page.low b l n.0 r.0, small-fresh_pages used i bs n.1 r.1)

  pub short_entries : (p : Placed V) → AreShortChanges (said p.page) → AreShortPairs (entries p)
  short_entries p a = all_entries (IsShortChange s IsShort) p.page a

  short-joined : (ws : List (Updated V)) → AllByRecursion (IsSmallUnlessFat s IsShort) ws → AreShortPairs (joined (placed_of ws))
  short-joined [] h = tt
  short-joined (w ∷ ws) h =
      all-append (λ (e : List ℕ × V). IsShortChange s IsShort (e.0, Some e.1)) (entries w.placed) (joined (placed_of ws)) (short_entries w.placed h.0.changes) (short-joined ws h.1)

  small_cut : (used : List ℕ) (i : ℕ) (p : Placed V) (es : List (List ℕ × V)) → 0 < s.fan → length p.page.low ≤ s.max_key → AreShortPairs es → AllByRecursion (IsSmall s IsShort) (replacements used i p (cut s.fan es))
  small_cut used i p es z l a =
      small-replacements used i p (cut s.fan es) l (cut_at_most s.fan es z) (subst (λ (m : List (List ℕ × V)). AreShortPairs m) (sym (cut-joined s.fan es)) a)

  small_one : (b : Bool) (used : List ℕ) (i : ℕ) (w : Updated V) → 0 < s.fan → is_fat w ≡ b → IsSmallUnlessFat s IsShort w → AllByRecursion (IsSmall s IsShort) (cond b (replacements used i w.placed (cut s.fan (joined (placed_of (w ∷ []))))) (placed_of (w ∷ [])))
  small_one true used i w z f h = small_cut used i w.placed (joined (placed_of (w ∷ []))) z h.low (short-joined (w ∷ []) (h, tt))
  small_one false used i w z f h = (record { fit = h.fit f; low = h.low }, tt)

  small-remade : (used : List ℕ) (i : ℕ) (g : List (Updated V)) → 0 < s.fan → AllByRecursion (IsSmallUnlessFat s IsShort) g → AllByRecursion (IsSmall s IsShort) (remade s used i g)
  small-remade used i [] z h = tt
  small-remade used i (w ∷ []) z h = small_one (is_fat w) used i w z refl h.0
  small-remade used i (w ∷ v ∷ ws) z h = small_cut used i w.placed (joined (placed_of (w ∷ v ∷ ws))) z h.0.low (short-joined (w ∷ v ∷ ws) h)

  -- the low keys of pages are short
  abbrev pub HaveShortLows : List (Placed V) → Type 0
  HaveShortLows ps = AllByRecursion (λ p. length p.page.low ≤ s.max_key) ps

  pub lows_of : (ps : List (Placed V)) → AllByRecursion (IsSmall s IsShort) ps → HaveShortLows ps
  lows_of [] h = tt
  lows_of (p ∷ ps) h = (h.0.low, lows_of ps h.1)

  lows_placed : (ws : List (Updated V)) → AllByRecursion (IsSmallUnlessFat s IsShort) ws → HaveShortLows (placed_of ws)
  lows_placed [] h = tt
  lows_placed (w ∷ ws) h = (h.0.low, lows_placed ws h.1)

  later : (P : Placed V → Type 0) (ps : List (Placed V)) → AllByRecursion P ps → AllByRecursion P (drop 1 ps)
  later P [] h = tt
  later P (p ∷ ps) h = h.1

  -- the sizes of the new pages of groups, and of the low keys of freed and of new pages
  record AreSmallChanges (cs : List (Change V)) : Type 0 where
    pub new : AllByRecursion (IsSmall s IsShort) (new_of cs)
    pub freed : HaveShortLows (freed_of cs)
    pub fresh : HaveShortLows (fresh_of cs)

  small-changes : (used : List ℕ) (i : ℕ) (gs : List (List (Updated V))) → 0 < s.fan → AllByRecursion (IsSmallUnlessFat s IsShort) (flat gs) → AreSmallChanges (changes s used i gs)
  small-changes used i [] z h = record { new = tt; freed = tt; fresh = tt }
  small-changes used i (g ∷ gs) z h =
      let here : List (Placed V) = remade s used i g in
      let cs : List (Change V) = changes s used (i + length (drop 1 here)) gs in
      let a = all_apart (IsSmallUnlessFat s IsShort) g (flat gs) h in
      let made : AllByRecursion (IsSmall s IsShort) here = small-remade used i g z a.0 in
      let rest = small-changes used (i + length (drop 1 here)) gs z a.1 in
      let P : Placed V → Type 0 = λ p. length p.page.low ≤ s.max_key in
      record {
        new = all-append (IsSmall s IsShort) here (new_of cs) made rest.new;
        freed = all-append P (drop 1 (placed_of g)) (freed_of cs) (later P (placed_of g) (lows_placed g a.0)) rest.freed;
        fresh = all-append P (drop 1 here) (fresh_of cs) (later P here (lows_of here made)) rest.fresh;
      }

  short_names : (ps : List (Placed V)) → HaveShortLows ps → AllByRecursion (λ k. length k ≤ s.max_key) (keys_of (names ps))
  short_names [] h = tt
  short_names (p ∷ ps) h = (h.0, short_names ps h.1)

-- any pid is short, so an index page's run is where its keys are
any_cell : (o : Option ℕ) → OfCell IsAnyPid o
any_cell None = tt
any_cell (Some n) = tt

short_run : (s : Settings) (run : List (List ℕ × Option ℕ)) → AllByRecursion (λ k. length k ≤ s.max_key) (keys_of run) → AllByRecursion (IsShortChange s IsAnyPid) run
short_run s [] a = tt
short_run s (c ∷ cs) a = (record { key = a.0; cell = any_cell c.1 }, short_run s cs a.1)

short_pairs : (s : Settings) (es : List (List ℕ × ℕ)) → AllByRecursion (λ k. length k ≤ s.max_key) (keys_of es) → AllByRecursion (λ e. IsShortChange s IsAnyPid (e.0, Some e.1)) es
short_pairs s [] a = tt
short_pairs s (e ∷ es) a = (record { key = a.0; cell = tt }, short_pairs s es a.1)

module _ {V : Type 0} (s : Settings) (IsShort : V → Type 0) where
  short-terms : (cs : List (Change V)) → AreSmallChanges s IsShort cs → AllByRecursion (IsShortChange s IsAnyPid) (terms cs)
  short-terms cs h =
      short_run s (terms cs) (all_keys-with_present (λ k. length k ≤ s.max_key) (names (freed_of cs)) (names (fresh_of cs)) (short_names s IsShort (freed_of cs) h.freed) (short_names s IsShort (fresh_of cs) h.fresh))

  small-family_changes : (used : List ℕ) (i : ℕ) (fs : List (List (Updated V))) → 0 < s.fan → AllByRecursion (IsSmallUnlessFat s IsShort) (flat fs)
      → AllByRecursion (IsSmall s IsShort) (all_new (family_changes s used i fs)) × AllByRecursion (AllByRecursion (IsShortChange s IsAnyPid)) (map terms (family_changes s used i fs))
  small-family_changes used i [] z h = (tt, tt)
  small-family_changes used i (f ∷ fs) z h =
      let gs : List (List (Updated V)) = groups is_thin f in
      let cs : List (Change V) = changes s used i gs in
      let a = all_apart (IsSmallUnlessFat s IsShort) f (flat fs) h in
      let b : AllByRecursion (IsSmallUnlessFat s IsShort) (flat gs) = subst (λ (ws : List (Updated V)). AllByRecursion (IsSmallUnlessFat s IsShort) ws) (sym (groups-joined is_thin f)) a.0 in
      let c = small-changes s IsShort used i gs z b in
      let rest = small-family_changes used (i + length (fresh_of cs)) fs z a.1 in
      (all-append (IsSmall s IsShort) (new_of cs) (all_new (family_changes s used (i + length (fresh_of cs)) fs)) c.new rest.0, (short-terms cs c, rest.1))

  grown_by : (b : Bool) (enough : ℕ) (used : List ℕ) (i : ℕ) (ps : List (Placed V)) → 0 < s.fan → HaveShortLows s IsShort ps
      → ((j : ℕ) (up : List (Placed ℕ)) → AllByRecursion (IsSmall s IsAnyPid) up → AllByRecursion (AllByRecursion (IsSmall s IsAnyPid)) (grown_levels enough s used j up))
      → AllByRecursion (AllByRecursion (IsSmall s IsAnyPid)) (cond b (let up : List (Placed ℕ) = fresh_pages used i (cut s.fan (names ps)) in up ∷ grown_levels enough s used (i + length up) up) [])
  grown_by false enough used i ps z h ih = tt
  grown_by true enough used i ps z h ih =
      let up : List (Placed ℕ) = fresh_pages used i (cut s.fan (names ps)) in
      let pairs : AllByRecursion (λ e. IsShortChange s IsAnyPid (e.0, Some e.1)) (names ps) = short_pairs s (names ps) (short_names s IsShort ps h) in
      let small : AllByRecursion (IsSmall s IsAnyPid) up =
      small-fresh_pages s IsAnyPid used i (cut s.fan (names ps)) (cut_at_most s.fan (names ps) z) (subst (λ (m : Separators). AllByRecursion (λ e. IsShortChange s IsAnyPid (e.0, Some e.1)) m) (sym (cut-joined s.fan (names ps))) pairs) in
      (small, ih (i + length up) up small)

small-grown_levels : {V : Type 0} (s : Settings) (IsShort : V → Type 0) (enough : ℕ) (used : List ℕ) (i : ℕ) (ps : List (Placed V)) → 0 < s.fan → HaveShortLows s IsShort ps → AllByRecursion (AllByRecursion (IsSmall s IsAnyPid)) (grown_levels enough s used i ps)
small-grown_levels s IsShort zero used i ps z h = tt
small-grown_levels s IsShort (suc enough) used i ps z h = grown_by s IsShort (nat_lt 1 (length ps)) enough used i ps z h (λ j up a. small-grown_levels s IsAnyPid enough used j up z (lows_of s IsAnyPid up a))

-- a climb over pages within the settings gives pages within the settings
pub small-climb : {V : Type 0} (s : Settings) (IsShort : V → Type 0) (used : List ℕ) (i : ℕ) (ws : List (Updated V)) (olds : List (Placed V)) (ups : List (List (Placed ℕ))) → 0 < s.fan → names (placed_of ws) ≡ names olds → Stacked olds ups
    → AllByRecursion (IsSmallUnlessFat s IsShort) ws → AllByRecursion (AllByRecursion (IsSmall s IsAnyPid)) ups
    → AllByRecursion (IsSmall s IsShort) (climb s used i ws ups).tower.level × AllByRecursion (AllByRecursion (IsSmall s IsAnyPid)) (climb s used i ws ups).tower.above
small-climb {V} s IsShort used i ws olds [] z e o h k =
    let css : List (List (Change V)) = changes s used i (ws ∷ []) ∷ [] in
    let top : List (Placed V) = all_new css in
    let a : AllByRecursion (IsSmallUnlessFat s IsShort) (flat (ws ∷ [])) = subst (λ (vs : List (Updated V)). AllByRecursion (IsSmallUnlessFat s IsShort) vs) (sym (append-nil ws)) h in
    let new : AllByRecursion (IsSmall s IsShort) top = subst (λ (ps : List (Placed V)). AllByRecursion (IsSmall s IsShort) ps) (sym (append-nil (new_of (changes s used i (ws ∷ []))))) (small-changes s IsShort used i (ws ∷ []) z a).new in
    (new, small-grown_levels s IsShort (length top) used (i + length (all_fresh css)) top z (lows_of s IsShort top new))
small-climb {V} s IsShort used i ws olds (ps ∷ ups) z e o h k =
    let linked : joined ps ≡ names (placed_of ws) = o.0.linked ∙ sym e in
    let css : List (List (Change V)) = family_changes s used i (families ps ws) in
    let vs : List (Updated ℕ) = updated_parents s ps (map terms css) in
    let a : AllByRecursion (IsSmallUnlessFat s IsShort) (flat (families ps ws)) = subst (λ (xs : List (Updated V)). AllByRecursion (IsSmallUnlessFat s IsShort) xs) (sym (families-joined ps ws linked)) h in
    let here = small-family_changes s IsShort used i (families ps ws) z a in
    let upper = small-climb s IsAnyPid used (i + length (all_fresh css)) vs ps ups z (names-updated_parents s ps (map terms css)) o.1 (small-updated_parents s IsAnyPid ps (map terms css) k.0 here.1) k.1 in
    (here.0, upper)
