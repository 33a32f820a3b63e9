-- Which commands go to which page of a level.
use Rattle.std.specs.Prelude.{◌≡◌, ℕ, suc, ◌<◌, Bool, true, false, ◌||◌, List, [], ◌∷◌, map, length, slice_get, Option, None, if◌then◌else◌}
use Rattle.std.specs.List.{AllByRecursion, filter}
use Rattle.std.specs.List.Sorted.{IsStrictlyIncreasing}
use Rattle.keys.specs.Bytes.{Bytes}
use Rattle.keys.specs.Footprint.{Span, One, Range, span_of}
use Rattle.keys.specs.Places.{is_some_that}
use Rattle.keys.specs.declared.command.Command.{Command}
use Rattle.index_page.specs.Range.{is_within}
use Rattle.index_page.specs.Children.{Place, children, is_between}
use Rattle.mapping.specs.Levels.{Placed, names}

-- whether a span meets the page with this range of keys: the range contains its key or its lower bound, or the page's low key lies between its bounds
abbrev pub meets_page : Bytes → Option Bytes → Span → Bool
meets_page low end (One k) = is_within low end k
meets_page low end (Range lo hi) = is_within low end lo || is_between lo hi low

-- whether a command goes to the page with this range of keys
abbrev pub goes_to : {A : Type 0} → Bytes → Option Bytes → Command A → Bool
goes_to low end c = meets_page low end (span_of c)

-- whether the command at this place goes to the page with this range
abbrev pub goes_at : {A : Type 0} → List (Command A) → Bytes → Option Bytes → ℕ → Bool
goes_at cs low end place = is_some_that (goes_to low end) (slice_get cs place)

-- the places, counted from this number on, of the items that pass the test
abbrev pub places_from : {X : Type 0} → ℕ → (X → Bool) → List X → List ℕ
places_from n passes [] = []
places_from n passes (x ∷ xs) = if passes x then n ∷ places_from (suc n) passes xs else places_from (suc n) passes xs

-- the places, counted from 0, of the commands that go to the page with this range
abbrev pub places_within : {A : Type 0} → Bytes → Option Bytes → List (Command A) → List ℕ
places_within low end cs = places_from 0 (goes_to low end) cs

-- a page's pid, and the places of the commands that go to it
pub record Route : Type 0 where
  pub pid : ℕ
  pub places : List ℕ

abbrev pub route_to : {A : Type 0} → List (Command A) → Place → Route
route_to cs at = record { pid = at.pid; places = places_within at.low at.end cs }

abbrev pub has_some : List ℕ → Bool
has_some [] = false
has_some (p ∷ ps) = true

abbrev pub has_places : Route → Bool
has_places r = has_some r.places

-- the pages of a level, each with its range, which ends at the next page's low key; the last page's range has no end
abbrev pub ranges : {V : Type 0} → List (Placed V) → List Place
ranges level = children (names level) None

-- for each page of a level that some command goes to, from left to right, its pid and the places of these commands
abbrev pub routes : {A V : Type 0} → List (Placed V) → List (Command A) → List Route
routes level cs = filter has_places (map (route_to cs) (ranges level))

-- a route to the page with this range: places of the batch, in rising order, of commands that go to the page
pub record IsRouteTo {A : Type 0} (cs : List (Command A)) (at : Place) (r : Route) : Type 0 where
  pub pid : r.pid ≡ at.pid
  pub some : 0 < length r.places
  pub rising : IsStrictlyIncreasing r.places
  pub below : AllByRecursion (λ place. place < length cs) r.places
  pub own : AllByRecursion (λ place. goes_at cs at.low at.end place ≡ true) r.places

-- routes to some of the pages, in the order of the pages
pub data AreRoutesTo {A : Type 0} (cs : List (Command A)) : List Place → List Route → Type 0 where
  none : AreRoutesTo cs [] []
  next : {ats : List Place} {rs : List Route} → (at : Place) → (r : Route) → IsRouteTo cs at r → AreRoutesTo cs ats rs → AreRoutesTo cs (at ∷ ats) (r ∷ rs)
  left_out : {ats : List Place} {rs : List Route} → (at : Place) → AreRoutesTo cs ats rs → AreRoutesTo cs (at ∷ ats) rs
