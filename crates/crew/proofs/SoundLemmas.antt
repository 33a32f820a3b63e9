-- The collected results of a round are true, and nothing is collected under a number that no job has.
use Rattle.std.specs.Prelude.{◌≡◌, ℕ, zero, suc, ◌+◌, ◌<◌, ◌≤◌, false, List, [], ◌∷◌, map, length, eqb, if◌then◌else◌, Some, None, option_map}
use Rattle.std.specs.List.{AllByRecursion, range_with_len}
use Rattle.std.proofs.Common.{refl, ap, subst, ◌∙◌, arith}
use Rattle.std.proofs.lemmas.Bool.{ne_eqb}
use Rattle.std.proofs.lemmas.List.Elements.{All-from_recursion}
use Rattle.std.proofs.lemmas.Option.{slice_get_within}
use Rattle.crew.specs.declared.machine.Event.{Event}
use Rattle.crew.specs.Marks.{mark_of, mark_at}
use Rattle.crew.specs.Round.{Fate, State, joined, fate_of, round, AreHome}
use Rattle.crew.specs.Round.Fate.{Made, Kept}
use Rattle.crew.specs.SoundRound.{IsFateOf, IsMadeAtHome, IsSoundRound}
use Rattle.crew.proofs.OnePlace.{each_once}
use Rattle.crew.proofs.RoundLemmas.{IsFate, round_true, home_is_made}

module _ {J D : Type 0} (made : J → D) (jobs : List J) where
  is_fate : (n : ℕ) (fate : Fate J D) → IsFate made jobs n fate → IsFateOf made jobs n fate
  is_fate n (Made d) is = is
  is_fate n (Kept j) is = is

  are_fates : (noted : List (ℕ × Fate J D)) → AllByRecursion (λ x. IsFate made jobs x.0 x.1) noted → AllByRecursion (λ x. IsFateOf made jobs x.0 x.1) noted
  are_fates [] all = tt
  are_fates (x ∷ rest) all = (is_fate x.0 x.1 all.0, are_fates rest all.1)

  -- ---- no other number is collected

  fate_within : (n : ℕ) (fate : Fate J D) → IsFate made jobs n fate → n < length jobs
  fate_within n (Made d) is = slice_get_within jobs n is.0 is.1
  fate_within n (Kept j) is = slice_get_within jobs n j is

  none_under : (n : ℕ) (noted : List (ℕ × Fate J D)) → AllByRecursion (λ x. IsFate made jobs x.0 x.1) noted → length jobs ≤ n → fate_of n noted ≡ None
  none_under n [] all past = refl
  none_under n (x ∷ rest) all past =
      let within = fate_within x.0 x.1 all.0 in
      let other : eqb x.0 n ≡ false = ne_eqb x.0 n (λ e. omega arith) in
      ap (λ b. if b then Some x.1 else fate_of n rest) other ∙ none_under n rest all.1 past

  -- ---- after all jobs are collected with outputs

  all_home_from : (s : State J D) (k len : ℕ) → ((n : ℕ) → n < k + len → IsMadeAtHome s n)
      → (ds : List D) × (map (λ n. fate_of n s.home) (range_with_len k len) ≡ map (λ d. Some (Made d)) ds)
  all_home_from s k zero home = ([], refl)
  all_home_from s k (suc len) home =
      let here = home k (omega arith) in
      let later = all_home_from s (k + 1) len (λ n h. home n (omega arith)) in
      (here.0 ∷ later.0, ap (λ o. o ∷ map (λ n. fate_of n s.home) (range_with_len (k + 1) len)) here.1 ∙ ap (λ rest. Some (Made here.0) ∷ rest) later.1)

-- what holds of every round
pub round_is_sound : {J D : Type 0} (made : J → D) (pieces : List (List J)) (workers : ℕ) (events : List Event) → IsSoundRound made (joined pieces) (round made pieces workers events)
round_is_sound {J} {D} made pieces workers events =
    let jobs = joined pieces in
    let is = round_true made jobs pieces workers events refl in
    record {
      one_place = each_once made pieces workers events;
      true_home = All-from_recursion _ _ (are_fates made jobs (round made pieces workers events).home is.home);
      all_made = λ home.
          let all = all_home_from made jobs (round made pieces workers events) 0 (length jobs) (λ n h. home n (omega arith)) in
          subst (AreHome (round made pieces workers events) (length jobs)) (home_is_made made jobs pieces workers events all.0 refl all.1) all.1;
    }

-- no number past those of the jobs is collected
pub none_past : {J D : Type 0} (made : J → D) (pieces : List (List J)) (workers : ℕ) (events : List Event) (job : ℕ) → length (joined pieces) ≤ job
    → mark_at (round made pieces workers events) job ≡ None
none_past made pieces workers events job past =
    let is = round_true made (joined pieces) pieces workers events refl in
    ap (λ o. option_map mark_of o) (none_under made (joined pieces) job (round made pieces workers events).home is.home past)
