-- The rules for all pages, in the order in which they are tested.
use Rattle.std.specs.Prelude.{◌≡◌, ◌<◌, ◌≤◌, ℕ, Bool, true, false, ◌&&◌, nat_le, min, List, [], ◌∷◌, Option, Some, None}
use Rattle.std.proofs.Common.{refl, ap, ◌∙◌, arith, le-leb, leb-true}
use Rattle.std.specs.List.{list_all}
use Rattle.delta_chain.specs.Layers.{IsInOrder}
use Rattle.keys.specs.declared.settings.Settings.{Settings}
use Rattle.index_page.specs.Page.{Page, named}
use Rattle.index_page.specs.Page.PageOfKind.{Leaf}
use Rattle.index_page.specs.Children.{Place}
use Rattle.index_page.specs.Range.{is_below, is_within, AreFrom}
use Rattle.index_page.specs.Rules.{all_rise, keeps_range, fits_sizes, fits_depth, is_same_key, is_short_value}
use Rattle.index_page.proofs.RuleLemmas.{decides-keeps_range}
use Rattle.mapping.specs.Finding.{first_broken, common_rules, broken_leaf}
use Rattle.verify.specs.Seen.{seen_as}
use Rattle.verify.specs.declared.look.Verdict.TheVariants.{Sound}

-- no key is below the empty one
none_below : (k : List ℕ) → is_below k [] ≡ false
none_below [] = refl
none_below (b ∷ bs) = refl

all_from_empty : (ks : List (List ℕ)) → AreFrom [] ks
all_from_empty [] = tt
all_from_empty (k ∷ ks) = (none_below k, all_from_empty ks)

first_of : (a b : Bool) → (a && b) ≡ true → a ≡ true
first_of true b h = refl
first_of false b h = absurd (cc)

module _ {V : Type 0} where
  rises : (p : Page V) → IsInOrder p.layers → all_rise p.layers.runs p.layers.base ≡ true
  rises p h = first_of (all_rise p.layers.runs p.layers.base) (list_all (is_within [] None) (named p))
      ((decides-keeps_range [] None p).1 (record { rising = h; from = all_from_empty (named p); before = tt }))

  -- if the keys rise, only their range remains to be tested
  pub range_alone : (low : List ℕ) (end : Option (List ℕ)) (p : Page V) → IsInOrder p.layers → keeps_range low end p ≡ list_all (is_within low end) (named p)
  range_alone low end p h = ap (λ (b : Bool). b && list_all (is_within low end) (named p)) (rises p h)

-- ---- the test of the depth, by a count that stops at a greatest number

pub too_deep : (n most d c : ℕ) → d ≡ min n most → c < d → nat_le n c ≡ false
too_deep n most d c h l = by (nat_le n c) refl
  where
    by : (b : Bool) → nat_le n c ≡ b → nat_le n c ≡ false
    by true e = absurd (let x = leb-true n c e in omega arith)
    by false e = e

pub not_too_deep : (n most d c : ℕ) → d ≡ min n most → d ≤ c → c < most → nat_le n c ≡ true
not_too_deep n most d c h l m = le-leb n c (let x : n ≤ c = omega arith in x)

-- ---- which of them is the first

module _ (a b c d : Bool) (h : a ≡ true) (i : b ≡ true) where
  pub sizes_first : c ≡ false → Some 6 ≡ first_broken ((4, a) ∷ (5, b) ∷ (6, c) ∷ (7, d) ∷ [])
  sizes_first j = rw (h, i, j) refl

  pub depth_first : c ≡ true → d ≡ false → Some 7 ≡ first_broken ((4, a) ∷ (5, b) ∷ (6, c) ∷ (7, d) ∷ [])
  depth_first j k = rw (h, i, j, k) refl

  pub none_broken : c ≡ true → d ≡ true → None ≡ first_broken ((4, a) ∷ (5, b) ∷ (6, c) ∷ (7, d) ∷ [])
  none_broken j k = rw (h, i, j, k) refl

-- ---- the verdict on a leaf that breaks none of the rules, and whose pid hasn't been visited

none_of : (a b c d : Bool) (n m : ℕ) → None ≡ first_broken ((4, a) ∷ (5, b) ∷ (6, c) ∷ (7, d) ∷ []) → n ≡ m → Sound n ≡ seen_as (first_broken ((4, a) ∷ (5, b) ∷ (6, c) ∷ (7, d) ∷ (9, true) ∷ [])) m
none_of true true true true n m h e = ap Sound e
none_of true true true false n m h e = absurd (cc)
none_of true true false d n m h e = absurd (cc)
none_of true false c d n m h e = absurd (cc)
none_of false b c d n m h e = absurd (cc)

pub sound_leaf : (s : Settings) (at : Place) (p : Page (List ℕ)) (n m : ℕ) → None ≡ first_broken (common_rules s (is_short_value s) at p) → n ≡ m → Sound n ≡ seen_as (broken_leaf s [] at (Some (Leaf p))) m
sound_leaf s at p n m h e = none_of (is_same_key p.low at.low) (keeps_range at.low at.end p) (fits_sizes s (is_short_value s) p) (fits_depth s p) n m h e

-- ---- the sizes of a base alone

pub base_fits : (b a x all : Bool) → b ≡ (a && x) → (a && true && x) ≡ all → b ≡ all
base_fits b true x all h e = h ∙ e
base_fits b false x all h e = h ∙ e
