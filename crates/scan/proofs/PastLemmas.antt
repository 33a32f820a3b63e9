-- Lemmas on the order of a key and the base's next pair, in either direction.
use Rattle.std.specs.Prelude.{◌≡◌, ℕ, true, List, [], length, slice_get, Some}
use Rattle.std.proofs.Common.{sym, ap, subst, Less, Equal, Greater}
use Rattle.std.specs.Ordering.{is_lt}
use Rattle.std.specs.Map.{keys_of}
use Rattle.keys.specs.Order.{order, IsRising}
use Rattle.keys.proofs.MapLemmas.{same_key, flipped_greater}
use Rattle.scan.specs.Direction.{precedes, left_at, after, until, IsNextPlace}
use Rattle.scan.specs.Merge.{HasUntil}
use Rattle.scan.specs.declared.direction.Direction.{Direction}
use Rattle.scan.specs.declared.direction.Direction.TheVariants.{Up, Down}
use Rattle.scan.proofs.MergeLemmas.{past_equal, past_later, past_before}
use Rattle.scan.proofs.PlaceLemmas.{at_next_key, rising_left}

module _ {V : Type 0} (d : Direction) (es : List (List ℕ × V)) (rising : IsRising es) (at here later : ℕ) (k j : List ℕ) (p : IsNextPlace d at (length es) here later) (h : slice_get (keys_of es) here ≡ Some j) where
  pub up_before : d ≡ Up → Greater ≡ order k j → HasUntil d k (left_at d at es)
  up_before e o = let n = at_next_key d es at here later j p h in past_before d k j n.0 (left_at d at es) (left_at d later es) n.1 (subst (λ (x : Direction). precedes x j k ≡ true) (sym e) (ap is_lt (flipped_greater k j (sym o))))

  pub down_before : d ≡ Down → Less ≡ order k j → HasUntil d k (left_at d at es)
  down_before e o = let n = at_next_key d es at here later j p h in past_before d k j n.0 (left_at d at es) (left_at d later es) n.1 (subst (λ (x : Direction). precedes x j k ≡ true) (sym e) (ap is_lt (sym o)))

  pub same_here : Equal ≡ order k j → (until d k (left_at d at es) ≡ []) × (left_at d later es ≡ after d k (left_at d at es))
  same_here o = let n = at_next_key d es at here later j p h in past_equal d k j n.0 (left_at d at es) (left_at d later es) (rising_left d at es rising) n.1 (sym (same_key k j (sym o)))

  pub up_later : d ≡ Up → Less ≡ order k j → (until d k (left_at d at es) ≡ []) × (left_at d at es ≡ after d k (left_at d at es))
  up_later e o = let n = at_next_key d es at here later j p h in past_later d k j n.0 (left_at d at es) (left_at d later es) (rising_left d at es rising) n.1 (subst (λ (x : Direction). precedes x k j ≡ true) (sym e) (ap is_lt (sym o)))

  pub down_later : d ≡ Down → Greater ≡ order k j → (until d k (left_at d at es) ≡ []) × (left_at d at es ≡ after d k (left_at d at es))
  down_later e o = let n = at_next_key d es at here later j p h in past_later d k j n.0 (left_at d at es) (left_at d later es) (rising_left d at es rising) n.1 (subst (λ (x : Direction). precedes x k j ≡ true) (sym e) (ap is_lt (flipped_greater k j (sym o))))
