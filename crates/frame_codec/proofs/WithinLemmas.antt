-- The tests of a frame's content pass if the page satisfies the requirements on pages: for the proofs of the crates above.
use Rattle.std.specs.Prelude.{◌≡◌, ℕ, ◌^◌, ◌<◌, ◌≤◌, Bool, true, ◌&&◌, List, [], ◌∷◌, Option, Some, None, length}
use Rattle.std.proofs.Common.{refl, Decides, le-leb, leb-true}
use Rattle.std.proofs.lemmas.Bool.{and_parts, lt-ltb, ltb-true}
use Rattle.std.proofs.lemmas.Bool.Decides.{Decides-and}
use Rattle.std.specs.Cmp.Derive.{both_true}
use Rattle.std.specs.List.{AllByRecursion, list_all}
use Rattle.std.specs.Map.{keys_of}
use Rattle.keys.specs.Order.{IsRising}
use Rattle.keys.specs.declared.settings.Settings.{Settings}
use Rattle.delta_chain.specs.Layers.{AllRise, IsInOrder}
use Rattle.index_page.specs.Page.{Page, bare, as_changes, changes_over, named}
use Rattle.index_page.specs.Range.{is_within, AreFrom}
use Rattle.index_page.specs.Rules.{do_rise, is_short_value, IsShortValue, of_cell, OfCell, IsShortChange, IsRunSized, Fits}
use Rattle.index_page.proofs.ListLemmas.{all_apart, all_weaker}
use Rattle.index_page.proofs.RuleLemmas.{decides_all, decides_le, decides-keeps_range}
use Rattle.frame_codec.specs.declared.format.Format.{Format}
use Rattle.frame_codec.specs.declared.format.KeyEncoding.{KeyEncoding}
use Rattle.frame_codec.specs.Frame.{is_pid, is_key, is_full, is_run, is_known, is_frame}
use Rattle.frame_codec.specs.Frame.Content.{FullLeaf, DeltaLeaf, FullIndex, DeltaIndex}

-- ---- keys

in_range : (k : List ℕ) → is_within [] None k ≡ true
in_range [] = refl
in_range (b ∷ k) = refl

all_in_range : (ks : List (List ℕ)) → list_all (is_within [] None) ks ≡ true
all_in_range [] = refl
all_in_range (k ∷ ks) = both_true (in_range k) (all_in_range ks)

from_empty : (ks : List (List ℕ)) → AreFrom [] ks
from_empty [] = tt
from_empty ([] ∷ ks) = (refl, from_empty ks)
from_empty ((b ∷ k) ∷ ks) = (refl, from_empty ks)

pub decides-rising : {X : Type 0} (es : List (List ℕ × X)) → Decides (do_rise (keys_of es)) (IsRising es)
decides-rising es =
    let page = bare [] es in
    let tests = decides-keeps_range [] None page in (
      λ h. (tests.0 (both_true h (all_in_range (named page)))).rising,
      λ h. (and_parts _ _ (tests.1 (record { rising = h; from = from_empty (named page); before = tt }))).0,
    )

-- ---- entries and changes

module _ {V : Type 0} (s : Settings) (test : V → Bool) (Is : V → Type 0) (d : (v : V) → Decides (test v) (Is v)) where
  decides-cell : (o : Option V) → Decides (of_cell test o) (OfCell Is o)
  decides-cell None = (λ h. tt, λ h. refl)
  decides-cell (Some v) = d v

  decides-change : (c : List ℕ × Option V) → Decides (is_key s c.0 && of_cell test c.1) (IsShortChange s Is c)
  decides-change c =
      let both = Decides-and (is_key s c.0) (of_cell test c.1) (decides_le (length c.0) s.max_key) (decides-cell c.1) in
      (λ h. let facts = both.0 h in record { key = facts.0; cell = facts.1 }, λ k. both.1 (k.key, k.cell))

  -- a run that a frame may contain
  pub decides-run : (run : List (List ℕ × Option V)) → Decides (is_run s test run) (IsRunSized s run × IsRising run × AllByRecursion (IsShortChange s Is) run)
  decides-run run =
      let rising = decides-rising run in
      let changes = decides_all (λ c. is_key s c.0 && of_cell test c.1) (IsShortChange s Is) decides-change run in (
        λ h.
            let (some, entries) = and_parts _ _ h in
            let (sized, short) = and_parts _ _ entries in
            let (most, rise) = and_parts _ _ sized in
            (record { some = ltb-true 0 (length run) some; most = leb-true (length run) s.fan most }, rising.0 rise, changes.0 short),
        λ k. both_true (lt-ltb 0 (length run) k.0.some) (both_true (both_true (le-leb (length run) s.fan k.0.most) (rising.1 k.1)) (changes.1 k.2)),
      )

  -- an entry of a base, and what it says as a change
  decides-entry : (e : List ℕ × V) → Decides (is_key s e.0 && test e.1) (IsShortChange s Is (e.0, Some e.1))
  decides-entry e = decides-change (e.0, Some e.1)

  all_entries : (es : List (List ℕ × V)) → Decides (list_all (λ e. is_key s e.0 && test e.1) es) (AllByRecursion (IsShortChange s Is) (as_changes es))
  all_entries [] = (λ h. tt, λ h. refl)
  all_entries (e ∷ es) = Decides-and (is_key s e.0 && test e.1) (list_all (λ e. is_key s e.0 && test e.1) es) (decides-entry e) (all_entries es)

  -- a low key and a base that a frame may contain
  pub decides-full : (low : List ℕ) (base : List (List ℕ × V)) →
      Decides (is_full s test low base) ((length low ≤ s.max_key) × (length base ≤ s.fan) × IsRising base × AllByRecursion (IsShortChange s Is) (as_changes base))
  decides-full low base =
      let rising = decides-rising base in
      let entries = all_entries base in (
        λ h.
            let (key, of_base) = and_parts _ _ h in
            let (sized, short) = and_parts _ _ of_base in
            let (most, rise) = and_parts _ _ sized in
            (leb-true (length low) s.max_key key, leb-true (length base) s.fan most, rising.0 rise, entries.0 short),
        λ k. both_true (le-leb (length low) s.max_key k.0) (both_true (both_true (le-leb (length base) s.fan k.1) (rising.1 k.2)) (entries.1 k.3)),
      )

  -- ---- the base and the runs of a page

  runs_pass : (runs : List (List (List ℕ × Option V))) (base : List (List ℕ × V)) → AllRise runs base → AllByRecursion (IsRunSized s) runs
      → AllByRecursion (IsShortChange s Is) (changes_over runs base)
      → AllByRecursion (λ run. is_run s test run ≡ true) runs × IsRising base × AllByRecursion (IsShortChange s Is) (as_changes base)
  runs_pass [] base rising sized short = (tt, rising, short)
  runs_pass (run ∷ runs) base rising sized short =
      let (of_run, of_rest) = all_apart (IsShortChange s Is) run (changes_over runs base) short in
      let (rest, base_rises, base_short) = runs_pass runs base rising.1 sized.1 of_rest in
      (((decides-run run).1 (sized.0, rising.0, of_run), rest), base_rises, base_short)

  pub page_passes : (p : Page V) → length p.low ≤ s.max_key → IsInOrder p.layers → Fits s Is p →
      (is_full s test p.low p.layers.base ≡ true) × AllByRecursion (λ run. is_run s test run ≡ true) p.layers.runs
  page_passes p low rising fits =
      let (runs, base_rises, base_short) = runs_pass p.layers.runs p.layers.base rising fits.runs fits.changes in
      ((decides-full p.low p.layers.base).1 (low, fits.base, base_rises, base_short), runs)

pub decides-value : (s : Settings) (v : List ℕ) → Decides (is_short_value s v) (IsShortValue s v)
decides-value s v = decides_le (length v) s.max_value

pub decides-pid : (p : ℕ) → Decides (is_pid p) (p < 2 ^ 64)
decides-pid p = (ltb-true p (2 ^ 64), lt-ltb p (2 ^ 64))

pub leaf_within : (g : Format) (encoding : KeyEncoding) (pid : ℕ) (p : Page (List ℕ)) → is_known g.version encoding ≡ true → pid < 2 ^ 64
    → length p.low ≤ g.settings.max_key → IsInOrder p.layers → Fits g.settings (IsShortValue g.settings) p →
    (is_frame g (record { pid = pid; content = FullLeaf encoding p.low p.layers.base }) ≡ true)
    × AllByRecursion (λ run. is_frame g (record { pid = pid; content = DeltaLeaf run }) ≡ true) p.layers.runs
leaf_within g encoding pid p known at low rising fits =
    let s = g.settings in
    let numbered = (decides-pid pid).1 at in
    let (base, runs) = page_passes s (is_short_value s) (IsShortValue s) (decides-value s) p low rising fits in (
      both_true numbered (both_true known base),
      all_weaker (λ run. is_run s (is_short_value s) run ≡ true) (λ run. is_frame g (record { pid = pid; content = DeltaLeaf run }) ≡ true) (λ run h. both_true numbered (both_true refl h)) p.layers.runs runs,
    )

pub index_within : (g : Format) (encoding : KeyEncoding) (pid : ℕ) (p : Page ℕ) → is_known g.version encoding ≡ true → pid < 2 ^ 64
    → length p.low ≤ g.settings.max_key → IsInOrder p.layers → Fits g.settings (λ q. q < 2 ^ 64) p →
    (is_frame g (record { pid = pid; content = FullIndex encoding p.low p.layers.base }) ≡ true)
    × AllByRecursion (λ run. is_frame g (record { pid = pid; content = DeltaIndex run }) ≡ true) p.layers.runs
index_within g encoding pid p known at low rising fits =
    let s = g.settings in
    let numbered = (decides-pid pid).1 at in
    let (base, runs) = page_passes s is_pid (λ q. q < 2 ^ 64) decides-pid p low rising fits in (
      both_true numbered (both_true known base),
      all_weaker (λ run. is_run s is_pid run ≡ true) (λ run. is_frame g (record { pid = pid; content = DeltaIndex run }) ≡ true) (λ run h. both_true numbered (both_true refl h)) p.layers.runs runs,
    )
