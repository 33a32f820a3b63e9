-- Ranges that have a key in common, for the proofs of this crate and of those above it.
use Rattle.std.specs.Prelude.{◌≡◌, ℕ, Bool, true, false, not, ◌||◌, List, Option, Some, None}
use Rattle.std.proofs.Common.{refl}
use Rattle.std.proofs.lemmas.Bool.{and_parts}
use Rattle.index_page.specs.Children.{is_between}
use Rattle.index_page.specs.Range.{is_below, is_before, is_within}
use Rattle.index_page.proofs.RangeLemmas.{below_is_less, less_is_below, low_through}

-- if a key isn't below a low key, and is before an end, the low key is before that end
before_through : (end : Option (List ℕ)) (low k : List ℕ) → is_below k low ≡ false → is_before end k ≡ true → is_before end low ≡ true
before_through None low k h b = refl
before_through (Some end) low k h b = less_is_below low end (low_through low k end h (below_is_less k end b))

not_true : (b : Bool) → not b ≡ true → b ≡ false
not_true true h = absurd (cc)
not_true false h = refl

-- of two ranges that have a key in common each begins before the other ends
pub both_begin : (low : List ℕ) (end : Option (List ℕ)) (lo : List ℕ) (hi : Option (List ℕ)) (k : List ℕ) → is_within low end k ≡ true → is_within lo hi k ≡ true → (is_before end lo ≡ true) × (is_before hi low ≡ true)
both_begin low end lo hi k h w =
    let there = and_parts (not (is_below k low)) (is_before end k) h in
    let own = and_parts (not (is_below k lo)) (is_before hi k) w in
    (before_through end lo k (not_true (is_below k lo) own.0) there.1, before_through hi low k (not_true (is_below k low) there.0) own.1)

met_by : (u : Bool) (low : List ℕ) (end : Option (List ℕ)) (lo : List ℕ) (hi : Option (List ℕ)) → is_below lo low ≡ u → is_before end lo ≡ true → is_before hi low ≡ true → (is_within low end lo || is_between lo hi low) ≡ true
met_by true low end lo hi u e h = rw (u, h) refl
met_by false low end lo hi u e h = rw (u, e) refl

not_met_by : (w : Bool) (low : List ℕ) (end : Option (List ℕ)) (lo : List ℕ) (hi : Option (List ℕ)) (k : List ℕ) → is_within lo hi k ≡ w → (is_within low end lo || is_between lo hi low) ≡ false → is_within low end k ≡ true → w ≡ false
not_met_by false low end lo hi k e m h = refl
not_met_by true low end lo hi k e m h =
    let both = both_begin low end lo hi k h e in
    let met : (is_within low end lo || is_between lo hi low) ≡ true = met_by (is_below lo low) low end lo hi refl both.0 both.1 in
    absurd (cc)

-- a command on a range that doesn't go to a page has none of the keys of the page's range in its own
pub not_met : (low : List ℕ) (end : Option (List ℕ)) (lo : List ℕ) (hi : Option (List ℕ)) (k : List ℕ) → (is_within low end lo || is_between lo hi low) ≡ false → is_within low end k ≡ true → is_within lo hi k ≡ false
not_met low end lo hi k m h = not_met_by (is_within lo hi k) low end lo hi k refl m h
