-- Places of a batch in the order of their commands' keys.
use Rattle.std.specs.Prelude.{◌≡◌, ℕ, Bool, false, List, length, slice_get, Option}
use Rattle.std.specs.declared.cmp.Ordering.{Ordering}
use Rattle.std.specs.Ordering.{nat_cmp, ordering_then}
use Rattle.std.specs.List.Sorted.{IsPermutation, IsStrictlySortedBy}
use Rattle.keys.specs.Bytes.{Bytes}
use Rattle.keys.specs.Order.{order}
use Rattle.keys.specs.CommandKey.{key_of}
use Rattle.keys.specs.Footprint.{Span, One, Range, span_of}
use Rattle.keys.specs.Places.{is_some_that}
use Rattle.keys.specs.declared.command.Command.{Command}
use Rattle.index_page.specs.Range.{is_within}
use Rattle.index_page.specs.Children.{is_between}
use Rattle.mapping.specs.FreshPids.{is_among}
use Rattle.routing.specs.BatchKeys.{key_at}
use Rattle.routing.specs.Places.{places_below}
use Rattle.routing.specs.Routes.{places_from}

-- compares two places by the keys of their commands, and equal keys by place
abbrev pub order_of_places : {A : Type 0} → List (Command A) → ℕ → ℕ → Ordering
order_of_places cs p q = ordering_then (order (key_at cs p) (key_at cs q)) (nat_cmp p q)

-- each place precedes, in this order, all places after it in the list
abbrev pub AreInKeyOrder : {A : Type 0} → List (Command A) → List ℕ → Type 0
AreInKeyOrder cs ps = IsStrictlySortedBy (order_of_places cs) ps

-- the places of all commands, in the order of their keys
pub record AreSortedPlaces {A : Type 0} (cs : List (Command A)) (ps : List ℕ) : Type 0 where
  pub all : IsPermutation (places_below (length cs)) ps
  pub in_order : AreInKeyOrder cs ps

-- whether the key of a command lies in the page with this range
abbrev pub begins_in : {A : Type 0} → Bytes → Option Bytes → Command A → Bool
begins_in low end c = is_within low end (key_of c)

-- whether a span reaches the page with this low key from the left: it is a range, and the low key lies between its bounds
abbrev pub reaches_page : Bytes → Span → Bool
reaches_page low (One k) = false
reaches_page low (Range lo hi) = is_between lo hi low

-- whether the command does
abbrev pub reaches : {A : Type 0} → Bytes → Command A → Bool
reaches low c = reaches_page low (span_of c)

-- whether the command at this place does
abbrev pub reaches_at : {A : Type 0} → List (Command A) → Bytes → ℕ → Bool
reaches_at cs low place = is_some_that (reaches low) (slice_get cs place)

-- the places of the commands that begin in the page with this range, in the order of their keys
pub record AreSortedWithin {A : Type 0} (low : Bytes) (end : Option Bytes) (cs : List (Command A)) (ps : List ℕ) : Type 0 where
  pub own : (place : ℕ) → is_among place ps ≡ is_among place (places_from 0 (begins_in low end) cs)
  pub in_order : AreInKeyOrder cs ps

-- the places of the commands that reach the page with this low key, in the order of their keys
pub record AreSortedReaching {A : Type 0} (low : Bytes) (cs : List (Command A)) (ps : List ℕ) : Type 0 where
  pub own : (place : ℕ) → is_among place ps ≡ is_among place (places_from 0 (reaches low) cs)
  pub in_order : AreInKeyOrder cs ps
