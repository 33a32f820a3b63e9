-- Each page of a proper tree is within the settings.
use Rattle.std.specs.Prelude.{◌≡◌, ℕ, ◌≤◌, true, nat_eq, List, [], ◌∷◌, flat_map, length, Option, Some, None}
use Rattle.std.proofs.Common.{sym, ap, ◌∙◌, arith, subst, inl, inr}
use Rattle.std.specs.List.{AllByRecursion}
use Rattle.std.specs.Map.{keys_of}
use Rattle.std.proofs.lemmas.Bool.{eqb-true}
use Rattle.keys.specs.declared.settings.Settings.{Settings}
use Rattle.delta_chain.specs.Layers.{IsInOrder}
use Rattle.index_page.specs.Page.{Page, PageOfKind, entries, said}
use Rattle.index_page.specs.Page.PageOfKind.{Leaf, Index}
use Rattle.index_page.specs.Rules.{IsShortValue, IsAnyPid, IsShortChange, Fits}
use Rattle.index_page.proofs.ListLemmas.{all_keys-append}
use Rattle.index_page.proofs.PageLemmas.{all_keys_entries}
use Rattle.mapping.specs.FreshPids.{is_among}
use Rattle.mapping.specs.Levels.{Placed, joined, names, pids, all_pids, levels_of}
use Rattle.mapping.specs.Proper.{next_low, Tiled, Stacked, HasIndexPages, IsProper}
use Rattle.mapping.specs.Tree.{Tree, page_at}
use Rattle.mapping.proofs.PidLemmas.{among_either, among_either_by}
use Rattle.mapping.proofs.TableLemmas.{holds_where_found}
use Rattle.mapping.proofs.TileLemmas.{next_low-parents}

-- what a frame requires of a page
pub record IsGood {V : Type 0} (s : Settings) (IsShort : V → Type 0) (p : Page V) : Type 0 where
  pub low : length p.low ≤ s.max_key
  pub rising : IsInOrder p.layers
  pub fits : Fits s IsShort p

abbrev pub IsGoodOfKind : Settings → PageOfKind → Type 0
IsGoodOfKind s (Leaf p) = IsGood s (IsShortValue s) p
IsGoodOfKind s (Index p) = IsGood s IsAnyPid p

module _ (s : Settings) where
  abbrev IsShortKey : List ℕ → Type 0
  IsShortKey k = length k ≤ s.max_key

  -- ---- low keys

  short_named : {V : Type 0} (IsShort : V → Type 0) (cs : List (List ℕ × Option V)) → AllByRecursion (IsShortChange s IsShort) cs → AllByRecursion IsShortKey (keys_of cs)
  short_named IsShort [] a = tt
  short_named IsShort (c ∷ cs) a = (a.0.key, short_named IsShort cs a.1)

  short_joined : (up : List (Placed ℕ)) → AllByRecursion (λ p. Fits s IsAnyPid p.page) up → AllByRecursion IsShortKey (keys_of (joined up))
  short_joined [] a = tt
  short_joined (p ∷ ps) a =
      all_keys-append IsShortKey (entries p.page) (joined ps) (all_keys_entries IsShortKey p.page (short_named IsAnyPid (said p.page) a.0.changes)) (short_joined ps a.1)

  module _ {V : Type 0} where
    abbrev ShortLows : List (Placed V) → Type 0
    ShortLows ps = AllByRecursion (λ p. IsShortKey p.page.low) ps

    lows_of_names : (ps : List (Placed V)) → AllByRecursion IsShortKey (keys_of (names ps)) → ShortLows ps
    lows_of_names [] a = tt
    lows_of_names (p ∷ ps) a = (a.0, lows_of_names ps a.1)

    short_top : (ps : List (Placed V)) → length ps ≡ 1 → next_low ps None ≡ Some [] → ShortLows ps
    short_top [] l e = tt
    short_top (p ∷ []) l e = let low : p.page.low ≡ [] = cc in (rw low (omega arith), tt)
    short_top (p ∷ q ∷ qs) l e = absurd (omega arith)

    short_lows : (ps : List (Placed V)) (ups : List (List (Placed ℕ))) → Stacked ps ups → next_low ps None ≡ Some [] → AllByRecursion (AllByRecursion (λ p. Fits s IsAnyPid p.page)) ups → ShortLows ps
    short_lows ps [] st e fits = short_top ps st e
    short_lows ps (up ∷ ups) st e fits = lows_of_names ps (subst (λ (es : List (List ℕ × ℕ)). AllByRecursion IsShortKey (keys_of es)) st.0.linked (short_joined up fits.0))

    -- the pages of a level, of what is known of each
    good_level : (IsShort : V → Type 0) (ps : List (Placed V)) (end : Option (List ℕ)) → ShortLows ps → Tiled ps end → AllByRecursion (λ p. Fits s IsShort p.page) ps → AllByRecursion (λ p. IsGood s IsShort p.page) ps
    good_level IsShort [] end l t f = tt
    good_level IsShort (p ∷ ps) end l t f = (record { low = l.0; rising = t.0.keys.rising; fits = f.0 }, good_level IsShort ps end l.1 t.1 f.1)

  good_above : {V : Type 0} (ps : List (Placed V)) (ups : List (List (Placed ℕ))) → Stacked ps ups → next_low ps None ≡ Some [] → AllByRecursion (AllByRecursion (λ p. Fits s IsAnyPid p.page)) ups
      → AllByRecursion (AllByRecursion (λ p. IsGood s IsAnyPid p.page)) ups
  good_above ps [] st e fits = tt
  good_above ps (up ∷ ups) st e fits =
      let first : next_low up None ≡ Some [] = sym (next_low-parents up ps st.0.linked st.0.headed) ∙ e in
      (good_level IsAnyPid up None (short_lows up ups st.1 first fits.1) st.0.tiled fits.0, good_above up ups st.1 first fits.1)

-- ---- pages under their pids

module _ {V : Type 0} (P : Page V → Type 0) (as_page : Page V → PageOfKind) (t : List (ℕ × PageOfKind)) (pid : ℕ) (v : PageOfKind) (here : page_at t pid ≡ Some v) where
  same_by : (p : Placed V) → p.pid ≡ pid → page_at t p.pid ≡ Some (as_page p.page) → as_page p.page ≡ v
  same_by p e h = let both : Some (as_page p.page) ≡ Some v = sym h ∙ ap (λ (n : ℕ). page_at t n) e ∙ here in cc

  found_in : (ps : List (Placed V)) → AllByRecursion (λ p. page_at t p.pid ≡ Some (as_page p.page)) ps → AllByRecursion (λ p. P p.page) ps → is_among pid (pids ps) ≡ true → (p : Page V) × (as_page p ≡ v) × P p
  found_in [] h a m = absurd (cc)
  found_in (p ∷ ps) h a m =
      elim (among_either_by (nat_eq pid p.pid) (is_among pid (pids ps)) m) [
        | inl first ↦ (p.page, same_by p (sym (eqb-true pid p.pid first)) h.0, a.0)
        | inr later ↦ found_in ps h.1 a.1 later
      ]

module _ (s : Settings) (t : Tree) (proper : IsProper s t) where
  above_is_good : (ups : List (List (Placed ℕ))) (pid : ℕ) (v : PageOfKind) → page_at t.pages pid ≡ Some v → AllByRecursion (HasIndexPages t.pages) ups
      → AllByRecursion (AllByRecursion (λ p. IsGood s IsAnyPid p.page)) ups → is_among pid (flat_map pids ups) ≡ true → IsGoodOfKind s v
  above_is_good [] pid v e h a m = absurd (cc)
  above_is_good (up ∷ ups) pid v e h a m =
      elim (among_either pid (pids up) (flat_map pids ups) m) [
        | inl here ↦ (let p = found_in (IsGood s IsAnyPid) (λ q. Index q) t.pages pid v e up h.0 a.0 here in subst (λ (x : PageOfKind). IsGoodOfKind s x) p.1 p.2)
        | inr later ↦ above_is_good ups pid v e h.1 a.1 later
      ]

  -- the page under a pid is within the settings
  pub page-is_good : (pid : ℕ) (v : PageOfKind) → page_at t.pages pid ≡ Some v → IsGoodOfKind s v
  page-is_good pid v e =
      let l = levels_of t in
      let levels = proper.levels in
      let fits = proper.fit.above in
      let among = holds_where_found (λ n. is_among n (all_pids l.level l.above) ≡ true) t.pages pid v proper.held.no_other e in
      elim (among_either pid (pids l.level) (flat_map pids l.above) among) [
        | inl here ↦ (
            let good = good_level s (IsShortValue s) l.level None (short_lows s l.level l.above levels.stacked levels.first fits) levels.tiled proper.fit.leaves in
            let p = found_in (IsGood s (IsShortValue s)) (λ q. Leaf q) t.pages pid v e l.level proper.held.leaves good here in
            subst (λ (x : PageOfKind). IsGoodOfKind s x) p.1 p.2)
        | inr there ↦ above_is_good l.above pid v e proper.held.above (good_above s l.level l.above levels.stacked levels.first fits) there
      ]
