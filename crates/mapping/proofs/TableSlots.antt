-- A change of one slot as a change of the table that the slots represent.
use Rattle.std.specs.Prelude.{◌≡◌, ℕ, ◌<◌, ◌≤◌, true, List, length, set, get_or, Option, Some, None, IsSome, is_some}
use Rattle.std.proofs.Common.{refl, sym, ap, ◌∙◌, subst, arith}
use Rattle.std.proofs.lemmas.List.{length-map}
use mathlib.Core.Bool.{false≢true}
use Rattle.std.specs.List.{insert}
use Rattle.std.specs.Option.{option_map}
use Rattle.mapping.specs.Tree.{Logged, or_no}
use Rattle.mapping.specs.Tree.Logged.{No, Old, Upto}
use Rattle.mapping.specs.Outdate.{outdate}
use Rattle.mapping.specs.LogState.{log_state}
use Rattle.mapping.specs.Proper.{AreRisingPids}
use Rattle.mapping.specs.Table.{Mapping, at_home, place_of, log_of, with_place, log_outdated, freed}
use Rattle.mapping.specs.Slots.{slot_pids, listed_place, listed_state, table_of, StandsAt, GoesTo, AreInUseBelow, AreSlots}
use Rattle.mapping.specs.declared.slots.TablePlace.{TablePlace}
use Rattle.mapping.specs.declared.slots.TablePlace.TheVariants.{Vacant, Away, Home}
use Rattle.mapping.specs.declared.slots.TableSlot.{TableSlot}
use Rattle.mapping.proofs.InUse.{in_use-with_place, in_use-freed}
use Rattle.mapping.proofs.Listing.{IsSlot, slot_read, found_within, pids-set, lookup-slot, insert-slot, remove-slot, same-slot, outdate-slot, lookup-gap, insert-gap, same-gap, outdate-gap}

pub same_mapping : {P : Type 0} (a b : List (ℕ × Option P)) (c d : List (ℕ × Logged)) → a ≡ b → c ≡ d → ◌≡◌ {A = Mapping P} (record { places = a; logged = c }) (record { places = b; logged = d })
same_mapping {P} a b c d e f =
    let with_places : List (ℕ × Option P) → Mapping P = λ x. record { places = x; logged = c } in
    let with_logged : List (ℕ × Logged) → Mapping P = λ x. record { places = b; logged = x } in
    ap with_places e ∙ ap with_logged f

-- ---- what is listed of a log state

or_no-listed_state : (l : Logged) → or_no (listed_state l) ≡ l
or_no-listed_state No = refl
or_no-listed_state Old = refl
or_no-listed_state (Upto k) = refl

listed_state-outdate : (l : Logged) → listed_state (outdate l) ≡ option_map outdate (listed_state l)
listed_state-outdate No = refl
listed_state-outdate Old = refl
listed_state-outdate (Upto k) = refl

-- an empty place is a place
pub away_is_some : {X : Type 0} (o : Option (Option X)) → o ≡ Some None → IsSome o
away_is_some None e = absurd (cc)
away_is_some (Some x) e = refl

-- and so is one with a page
pub home_is_some : {X : Type 0} (o : Option (Option X)) → IsSome (at_home o) → IsSome o
home_is_some None h = absurd (false≢true h)
home_is_some (Some x) h = refl

pub none_is_not_some : {X : Type 0} (o : Option X) → o ≡ None → IsSome o → ⊥
none_is_not_some None e h = false≢true h
none_is_not_some (Some x) e h = absurd (cc)

module _ {P : Type 0} where
  abbrev pid_of : TableSlot P → ℕ
  pid_of s = s.pid

  abbrev place_in : TableSlot P → Option (Option P)
  place_in s = listed_place s.page

  abbrev log_in : TableSlot P → Option Logged
  log_in s = listed_state (log_state s.logged)

  -- ---- at a slot

  -- the slot that is read where a search found the pid
  pub slot_here : (ss : List (TableSlot P)) (i k : ℕ) (s : TableSlot P) → StandsAt (slot_pids ss) k i → s ≡ get_or ss i s → IsSlot pid_of ss i k s
  slot_here ss i k s e r = slot_read pid_of ss i k s e (found_within pid_of ss i k e) r

  -- the index of a slot's pid is below the number of slots
  pub stands_within : (ss : List (TableSlot P)) (i k : ℕ) → StandsAt (slot_pids ss) k i → i < length ss
  stands_within ss i k e = found_within pid_of ss i k e

  pub stands_up_to : (ss : List (TableSlot P)) (i k : ℕ) → StandsAt (slot_pids ss) k i → i ≤ length ss
  stands_up_to ss i k e = let within = stands_within ss i k e in omega arith

  -- and one that has none goes to a place among them or after them
  pub goes_within : (ss : List (TableSlot P)) (i k : ℕ) → GoesTo (slot_pids ss) k i → i ≤ length ss
  goes_within ss i k e = let within : i ≤ length (slot_pids ss) = e.within in omega (arith, length-map ss pid_of)

  pub not_home : (p : TablePlace P) → ((x : P) → p ≡ Home x → ⊥) → at_home (listed_place p) ≡ None
  not_home Vacant h = refl
  not_home Away h = refl
  not_home (Home x) h = absurd (h x refl)

  pub not_away : (p : TablePlace P) → (p ≡ Away → ⊥) → listed_place p ≡ Some None → ⊥
  not_away Vacant h e = absurd (cc)
  not_away Away h e = h refl
  not_away (Home x) h e = absurd (cc)

  pub not_vacant : (p : TablePlace P) → (p ≡ Vacant → ⊥) → is_some (listed_place p) ≡ true
  not_vacant Vacant h = absurd (h refl)
  not_vacant Away h = refl
  not_vacant (Home x) h = refl

  module _ (ss : List (TableSlot P)) (i k : ℕ) (s : TableSlot P) (r : AreRisingPids (slot_pids ss)) (h : IsSlot pid_of ss i k s) where
    pub place-slot : place_of (table_of ss) k ≡ listed_place s.page
    place-slot = lookup-slot pid_of place_in ss i k s r h

    pub log-slot : log_of (table_of ss) k ≡ log_state s.logged
    log-slot = ap or_no (lookup-slot pid_of log_in ss i k s r h) ∙ or_no-listed_state (log_state s.logged)

    pub with_place-slot : (t : TableSlot P) (p : Option P) → t.pid ≡ k → listed_place t.page ≡ Some p → t.logged ≡ s.logged → table_of (set ss i t) ≡ with_place (table_of ss) k p
    with_place-slot t p e f g =
        same_mapping _ _ _ _ (insert-slot pid_of place_in ss i k s r h t p e f) (same-slot pid_of log_in ss i k s r h t e (ap (λ l. listed_state (log_state l)) g))

    pub freed-slot : (t : TableSlot P) → t.pid ≡ k → listed_place t.page ≡ None → log_state t.logged ≡ outdate (log_state s.logged) → table_of (set ss i t) ≡ freed (table_of ss) k
    freed-slot t e f g =
        same_mapping _ _ _ _ (remove-slot pid_of place_in ss i k s r h t e f)
        (outdate-slot pid_of log_in ss i k s r h t e (ap listed_state g ∙ listed_state-outdate (log_state s.logged)))

    pub log_outdated-slot : (t : TableSlot P) → t.pid ≡ k → t.page ≡ s.page → log_state t.logged ≡ outdate (log_state s.logged) → table_of (set ss i t) ≡ log_outdated (table_of ss) k
    log_outdated-slot t e f g =
        same_mapping _ _ _ _ (same-slot pid_of place_in ss i k s r h t e (ap listed_place f))
        (outdate-slot pid_of log_in ss i k s r h t e (ap listed_state g ∙ listed_state-outdate (log_state s.logged)))

    module _ (n : ℕ) (t : TableSlot P) (e : t.pid ≡ k) where
      rising-set : AreRisingPids (slot_pids (set ss i t))
      rising-set = subst (λ (ns : List ℕ). AreRisingPids ns) (sym (pids-set pid_of ss i k s t h e)) r

      -- after the change the slots are still ordered, and represent this table
      slots-set : (u : Mapping P) → table_of (set ss i t) ≡ u → AreInUseBelow u n → AreSlots (set ss i t) n
      slots-set u f b = record { rising = rising-set; in_use = subst (λ (u : Mapping P). AreInUseBelow u n) (sym f) b }

  -- ---- where a slot would go

  module _ (ss : List (TableSlot P)) (i k : ℕ) (h : GoesTo (slot_pids ss) k i) where
    pub place-gap : place_of (table_of ss) k ≡ None
    place-gap = lookup-gap pid_of place_in ss i k h

    pub log-gap : log_of (table_of ss) k ≡ No
    log-gap = ap or_no (lookup-gap pid_of log_in ss i k h)

    pub log_outdated-gap : log_outdated (table_of ss) k ≡ table_of ss
    log_outdated-gap = same_mapping _ _ _ _ refl (outdate-gap pid_of log_in ss i k h)

    pub with_place-gap : (t : TableSlot P) (p : Option P) → t.pid ≡ k → listed_place t.page ≡ Some p → log_state t.logged ≡ No → table_of (insert ss i t) ≡ with_place (table_of ss) k p
    with_place-gap t p e f g =
        same_mapping _ _ _ _ (insert-gap pid_of place_in ss i k h t p e f) (same-gap pid_of log_in ss i k h t (ap listed_state g))

-- ---- each change of a slot

module _ {P : Type 0} (ss : List (TableSlot P)) (n : ℕ) (a : AreSlots ss n) (i k : ℕ) (s : TableSlot P) (stands : StandsAt (slot_pids ss) k i) (read : s ≡ get_or ss i s) where
  here : IsSlot (λ s. s.pid) ss i k s
  here = slot_here ss i k s stands read

  -- a page comes into the place, or leaves it
  pub page_changed : (t : TableSlot P) (p : Option P) → t.pid ≡ s.pid → listed_place t.page ≡ Some p → t.logged ≡ s.logged
      → AreSlots (set ss i t) n × (table_of (set ss i t) ≡ with_place (table_of ss) k p)
  page_changed t p e f g =
      let pid_is : t.pid ≡ k = e ∙ here.pid_is in
      let eq = with_place-slot ss i k s a.rising here t p pid_is f g in
      (slots-set ss i k s a.rising here n t pid_is (with_place (table_of ss) k p) eq (in_use-with_place (table_of ss) k p n a.in_use), eq)

  -- the place goes
  pub slot_freed : (t : TableSlot P) (m : ℕ) → t.pid ≡ s.pid → listed_place t.page ≡ None → log_state t.logged ≡ outdate (log_state s.logged) → m ≤ n → m ≤ k
      → AreSlots (set ss i t) m × (table_of (set ss i t) ≡ freed (table_of ss) k)
  slot_freed t m e f g x y =
      let pid_is : t.pid ≡ k = e ∙ here.pid_is in
      let eq = freed-slot ss i k s a.rising here t pid_is f g in
      (slots-set ss i k s a.rising here m t pid_is (freed (table_of ss) k) eq (in_use-freed (table_of ss) k n m a.in_use x y), eq)

  -- the log state becomes outdated
  pub slot_outdated : (t : TableSlot P) → t.pid ≡ s.pid → t.page ≡ s.page → log_state t.logged ≡ outdate (log_state s.logged)
      → AreSlots (set ss i t) n × (table_of (set ss i t) ≡ log_outdated (table_of ss) k)
  slot_outdated t e f g =
      let pid_is : t.pid ≡ k = e ∙ here.pid_is in
      let eq = log_outdated-slot ss i k s a.rising here t pid_is f g in
      (slots-set ss i k s a.rising here n t pid_is (log_outdated (table_of ss) k) eq a.in_use, eq)
