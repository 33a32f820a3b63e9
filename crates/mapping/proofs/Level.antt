-- There is no finding on a level if and only if its pages are as the level above says, and are in order.
use Rattle.std.specs.Prelude.{◌≡◌, ◌≢◌, ℕ, Bool, true, false, ◌↔◌, List, [], ◌∷◌, ◌++◌, map, Option, Some, None}
use Rattle.std.proofs.Common.{refl, sym, ap, ◌∙◌, subst}
use Rattle.std.specs.List.{AllByRecursion}
use Rattle.std.specs.Map.{values_of}
use Rattle.keys.specs.declared.settings.Settings.{Settings}
use Rattle.index_page.specs.Page.{Page, PageOfKind}
use Rattle.index_page.specs.Page.PageOfKind.{Leaf, Index}
use Rattle.index_page.specs.Range.{IsBefore}
use Rattle.index_page.specs.Rules.{KeepsRange, Fits, IsHeaded, IsShortValue, IsAnyPid, is_short_value, is_any_pid}
use Rattle.index_page.proofs.RuleLemmas.{decides_not, decides-is_same_key, decides-keeps_range, decides-fits_of_leaf, decides-fits_of_index, decides-is_headed}
use Rattle.mapping.specs.Levels.{Placed, as_leaf, as_index, names, pids}
use Rattle.mapping.specs.FreshPids.{is_among}
use Rattle.index_page.specs.Children.{Place, children}
use Rattle.mapping.specs.Finding.{Finding, common_rules, child_rule, pid_rule, first_broken, broken_leaf, broken_index, or_else, found_at, on_level}
use Rattle.mapping.specs.Proper.{next_low, Tiled, Distinct}
use Rattle.mapping.proofs.MetPids.{not_among, distinct_ahead}
use Rattle.index_page.proofs.ListLemmas.{all_apart}
use Rattle.mapping.proofs.TileLemmas.{Separators, next_names}
use Rattle.index_page.proofs.ChildLemmas.{next_key, place_of, children-cons}
use Rattle.mapping.proofs.Joined.{AreSpaced}

-- ---- one page

rule_by : (b : Bool) (n : ℕ) (rs : List (ℕ × Bool)) → (first_broken ((n, b) ∷ rs) ≡ None) ↔ ((b ≡ true) × (first_broken rs ≡ None))
rule_by true n rs = (λ h. (refl, h), λ h. h.1)
rule_by false n rs = (λ h. absurd (cc), λ h. absurd (let z = h.0 in cc))

-- no rule is broken exactly if each of them holds
no_rule : (rs : List (ℕ × Bool)) → (first_broken rs ≡ None) ↔ AllByRecursion (λ r. r.1 ≡ true) rs
no_rule [] = (λ h. tt, λ a. refl)
no_rule (r ∷ rs) =
    let step = rule_by r.1 r.0 rs in
    let rest = no_rule rs in
    (λ h. let a = step.0 h in (a.0, rest.0 a.1), λ a. step.1 (a.0, rest.1 a.1))

-- the page is as its place says, and its pid hasn't been visited
pub record IsAt {V : Type 0} (Good : Page V → Type 0) (met : List ℕ) (at : Place) (p : Page V) : Type 0 where
  pub low : p.low ≡ at.low
  pub keys : KeepsRange at.low at.end p
  pub good : Good p
  pub new : is_among at.pid met ≡ false

-- the requirements on a leaf, and on an index page, by itself
abbrev pub IsGoodLeaf : Settings → Page (List ℕ) → Type 0
IsGoodLeaf s p = Fits s (IsShortValue s) p

abbrev pub IsGoodIndex : Settings → ℕ → Page ℕ → Type 0
IsGoodIndex s least p = Fits s IsAnyPid p × IsHeaded least p

leaf_rules : (s : Settings) (met : List ℕ) (at : Place) (p : Page (List ℕ))
    → (first_broken (common_rules s (is_short_value s) at p ++ pid_rule met at ∷ []) ≡ None) ↔ IsAt (IsGoodLeaf s) met at p
leaf_rules s met at p =
    let rules = no_rule (common_rules s (is_short_value s) at p ++ pid_rule met at ∷ []) in
    let low = decides-is_same_key p.low at.low in
    let keys = decides-keeps_range at.low at.end p in
    let fits = decides-fits_of_leaf s p in
    let new = decides_not (is_among at.pid met) in (
      λ h. let a = rules.0 h in record { low = low.0 a.0; keys = keys.0 (a.1).0; good = fits.0 (((a.1).1).0, (((a.1).1).1).0); new = new.0 ((((a.1).1).1).1).0 },
      λ k. let f = fits.1 k.good in rules.1 (low.1 k.low, (keys.1 k.keys, (f.0, (f.1, (new.1 k.new, tt))))),
    )

index_rules : (s : Settings) (least : ℕ) (met : List ℕ) (at : Place) (p : Page ℕ)
    → (first_broken (common_rules s is_any_pid at p ++ child_rule least p ∷ pid_rule met at ∷ []) ≡ None) ↔ IsAt (IsGoodIndex s least) met at p
index_rules s least met at p =
    let rules = no_rule (common_rules s is_any_pid at p ++ child_rule least p ∷ pid_rule met at ∷ []) in
    let low = decides-is_same_key p.low at.low in
    let keys = decides-keeps_range at.low at.end p in
    let fits = decides-fits_of_index s p in
    let headed = decides-is_headed least p in
    let new = decides_not (is_among at.pid met) in (
      λ h.
          let a = rules.0 h in
          let b = ((a.1).1).1 in
          record { low = low.0 a.0; keys = keys.0 (a.1).0; good = (fits.0 (((a.1).1).0, b.0), headed.0 (b.1).0); new = new.0 ((b.1).1).0 },
      λ k. let f = fits.1 k.good.0 in rules.1 (low.1 k.low, (keys.1 k.keys, (f.0, (f.1, (headed.1 k.good.1, (new.1 k.new, tt)))))),
    )

-- a place has no finding if and only if the table has a page of its kind there, as the place says
pub leaf_at_place : (s : Settings) (met : List ℕ) (at : Place) (o : Option PageOfKind)
    → (broken_leaf s met at o ≡ None) ↔ ((o ≡ Some (Leaf (as_leaf o))) × IsAt (IsGoodLeaf s) met at (as_leaf o))
leaf_at_place s met at None = (λ h. absurd (cc), λ h. absurd (let z = h.0 in cc))
leaf_at_place s met at (Some (Index p)) = (λ h. absurd (cc), λ h. absurd (let z = h.0 in cc))
leaf_at_place s met at (Some (Leaf p)) = let rules = leaf_rules s met at p in (λ h. (refl, rules.0 h), λ h. rules.1 h.1)

pub index_at_place : (s : Settings) (least : ℕ) (met : List ℕ) (at : Place) (o : Option PageOfKind)
    → (broken_index s least met at o ≡ None) ↔ ((o ≡ Some (Index (as_index o))) × IsAt (IsGoodIndex s least) met at (as_index o))
index_at_place s least met at None = (λ h. absurd (cc), λ h. absurd (let z = h.0 in cc))
index_at_place s least met at (Some (Leaf p)) = (λ h. absurd (cc), λ h. absurd (let z = h.0 in cc))
index_at_place s least met at (Some (Index p)) = let rules = index_rules s least met at p in (λ h. (refl, rules.0 h), λ h. rules.1 h.1)

-- ---- one level

found_by : (at : Place) (o : Option ℕ) (rest : Option Finding) → (or_else (found_at at o) rest ≡ None) ↔ ((o ≡ None) × (rest ≡ None))
found_by at None rest = (λ h. (refl, h), λ h. h.1)
found_by at (Some rule) rest = (λ h. absurd (cc), λ h. absurd (let z = h.0 in cc))

-- the pages of a level are in the table, tile the keys up to an end, and are good ones; no pid is another's
pub record IsLevel {V : Type 0} (Has : Placed V → Type 0) (Good : Page V → Type 0) (end : Option (List ℕ)) (met : List ℕ) (here : List (Placed V)) : Type 0 where
  pub has : AllByRecursion Has here
  pub tiled : Tiled here end
  pub good : AllByRecursion (λ p. Good p.page) here
  pub distinct : Distinct (pids here ++ met)

-- what the table has under a pid, as a page of a kind
abbrev pub placed : {V : Type 0} → (ℕ → Page V) → ℕ → Placed V
placed look pid = record { pid = pid; page = look pid }

-- a rule finds nothing at a place if and only if the page under its pid is there, and is as the place says
abbrev pub IsTestOf : {V : Type 0} → (Placed V → Type 0) → (Page V → Type 0) → (ℕ → Page V) → (List ℕ → Place → Option ℕ) → Type 0
IsTestOf Has Good look broken =
    (met : List ℕ) (at : Place) → (broken met at ≡ None) ↔ (Has (placed look at.pid) × IsAt Good met at (look at.pid))

module _ {V : Type 0} (Has : Placed V → Type 0) (Good : Page V → Type 0) (look : ℕ → Page V) (broken : List ℕ → Place → Option ℕ) (each : IsTestOf Has Good look broken) where
  -- if there is no finding on a level, its pages are those of the entries above, and in order
  pub level_of_none : (ns : Separators) (end : Option (List ℕ)) (met : List ℕ) → AreSpaced ns end → Distinct met → on_level broken met (children ns end) ≡ None
      → (let here : List (Placed V) = map (placed look) (values_of ns) in (names here ≡ ns) × IsLevel Has Good end met here)
  level_of_none [] end met r d h = (refl, record { has = tt; tiled = tt; good = tt; distinct = d })
  level_of_none (e ∷ es) end met r d h =
      let at : Place = place_of e (next_key es end) in
      let here : List (Placed V) = map (placed look) (values_of es) in
      let both = (found_by at (broken met at) (on_level broken (e.1 ∷ met) (children es end))).0 (ap (λ (x : List Place). on_level broken met x) (sym (children-cons e es end)) ∙ h) in
      let own = (each met at).0 both.0 in
      let rest = level_of_none es end (e.1 ∷ met) r.1 ((not_among e.1 met).0 own.1.new, d) both.1 in
      let pair : List ℕ → List ℕ × ℕ = λ k. (k, e.1) in
      let end_is : next_key es end ≡ next_low here end = ap (λ (x : Separators). next_key x end) (sym rest.0) ∙ next_names here end in
      let low : List ℕ = (look e.1).low in
      let keys : KeepsRange low (next_low here end) (look e.1) =
      subst (λ (x : Option (List ℕ)). KeepsRange low x (look e.1)) end_is (subst (λ (k : List ℕ). KeepsRange k (next_key es end) (look e.1)) (sym own.1.low) own.1.keys) in
      let below : IsBefore (next_low here end) low =
      subst (λ (x : Option (List ℕ)). IsBefore x low) end_is (subst (λ (k : List ℕ). IsBefore (next_key es end) k) (sym own.1.low) r.0) in (
        ap (λ (k : List ℕ). pair k ∷ names here) own.1.low ∙ ap (λ (x : Separators). e ∷ x) rest.0,
        record {
          has = (own.0, rest.1.has);
          tiled = (record { keys = keys; low = below }, rest.1.tiled);
          good = (own.1.good, rest.1.good);
          distinct = (distinct_ahead (pids here) e.1 met).0 rest.1.distinct;
        },
      )

  -- if the pages are those of the entries above, and in order, there is no finding
  pub none_of_level : (ns : Separators) (end : Option (List ℕ)) (met : List ℕ)
      → (let here : List (Placed V) = map (placed look) (values_of ns) in names here ≡ ns → IsLevel Has Good end met here → on_level broken met (children ns end) ≡ None)
  none_of_level [] end met n l = refl
  none_of_level (e ∷ es) end met n l =
      let at : Place = place_of e (next_key es end) in
      let here : List (Placed V) = map (placed look) (values_of es) in
      let low : List ℕ = (look e.1).low in
      let names_rest : names here ≡ es = cc in
      let first : (low, e.1) ≡ e = cc in
      let low_is : low ≡ e.0 = ap (λ (x : List ℕ × ℕ). x.0) first in
      let end_is : next_low here end ≡ next_key es end = sym (next_names here end) ∙ ap (λ (x : Separators). next_key x end) names_rest in
      let keys : KeepsRange e.0 (next_key es end) (look e.1) =
      subst (λ (x : Option (List ℕ)). KeepsRange e.0 x (look e.1)) end_is (subst (λ (k : List ℕ). KeepsRange k (next_low here end) (look e.1)) low_is (l.tiled.0).keys) in
      let new : is_among e.1 met ≡ false = (not_among e.1 met).1 (all_apart (λ m. m ≢ e.1) (pids here) met l.distinct.0).1 in
      let rest = none_of_level es end (e.1 ∷ met) names_rest (record { has = l.has.1; tiled = l.tiled.1; good = l.good.1; distinct = (distinct_ahead (pids here) e.1 met).1 l.distinct }) in
      ap (λ (x : List Place). on_level broken met x) (children-cons e es end)
      ∙ (found_by at (broken met at) (on_level broken (e.1 ∷ met) (children es end))).1
      ((each met at).1 (l.has.0, record { low = low_is; keys = keys; good = l.good.0; new = new }), rest)
