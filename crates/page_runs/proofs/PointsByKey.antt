-- Commands on one key each in the order of their keys, from what is known of each two neighbours.
use Rattle.std.specs.Prelude.{◌≡◌, ℕ, zero, suc, ◌+◌, ◌-◌, ◌<◌, false, List, length}
use Rattle.std.proofs.Common.{sym, subst, arith, get_or, Less}
use Rattle.std.specs.List.{AllAdjacentBelow}
use Rattle.std.proofs.lemmas.Grind.{get_or_default_zero}
use Rattle.std.proofs.lemmas.List.Elements.{recursion_from_All}
use Rattle.std.proofs.lemmas.List.Sorted.{all_adjacent_more}
use Rattle.std.proofs.lemmas.Map.Keys.{sorted_from_all_adjacent}
use Rattle.keys.specs.Places.{is_ranged_at}
use Rattle.keys.specs.declared.command.Command.{Command}
use Rattle.routing.specs.Shares.{ArePoints}
use Rattle.routing.specs.SortedPlaces.{order_of_places, AreInKeyOrder}
use Rattle.routing.proofs.SortLemmas.{total_places}

-- what holds of two places that follow each other
pub record Follow {A : Type 0} (cs : List (Command A)) (p q : ℕ) : Type 0 where
  pub one : is_ranged_at cs p ≡ false
  pub next : is_ranged_at cs q ≡ false
  pub order : order_of_places cs p q ≡ Less

module _ {A : Type 0} (cs : List (Command A)) (ps : List ℕ) (follow : AllAdjacentBelow (Follow cs) ps (length ps)) where
  point_at : 1 < length ps → (i d : ℕ) → i < length ps → is_ranged_at cs (get_or ps i d) ≡ false
  point_at two zero d l = (follow 0 d (omega arith)).one
  point_at two (suc i) d l = subst (λ (n : ℕ). is_ranged_at cs (get_or ps n d) ≡ false) {x = i + 1} {y = suc i} (omega arith) (follow i d (omega arith)).next

  pub are_points : 1 < length ps → ArePoints cs ps
  are_points two = recursion_from_All (λ p. is_ranged_at cs p ≡ false) ps (λ i d l. point_at two i d l)

  pub are_in_key_order : AreInKeyOrder cs ps
  are_in_key_order = sorted_from_all_adjacent (total_places cs) ps 0 (λ k l. (follow k 0 l).order)

-- one more place
pub follow_more : {A : Type 0} (cs : List (Command A)) (ps : List ℕ) (i : ℕ) → 0 < i → i < length ps → AllAdjacentBelow (Follow cs) ps i → Follow cs (get_or ps (i - 1) 0) (get_or ps i 0) → AllAdjacentBelow (Follow cs) ps (i + 1)
follow_more cs ps i some l h f =
    all_adjacent_more ps (Follow cs) i some h (λ d.
    subst (λ (p : ℕ). Follow cs p (get_or ps i d)) (sym (get_or_default_zero ps (i - 1) d (omega arith)))
    (subst (λ (q : ℕ). Follow cs (get_or ps (i - 1) 0) q) (sym (get_or_default_zero ps i d l)) f))
