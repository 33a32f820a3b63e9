-- Commands that find nothing in a page: an earlier wipe of the batch deletes all of the page, and the batch puts nothing into it.
use Rattle.std.specs.Prelude.{ℕ, Bool, true, false, not, ◌&&◌, List, take, slice_get, Option, Some, None}
use Rattle.std.specs.List.{list_any}
use Rattle.keys.specs.Bytes.{Bytes}
use Rattle.keys.specs.Footprint.{Span, One, Range, Access, Looks, Gives, Takes, span_of, access_of}
use Rattle.keys.specs.Places.{is_some_that}
use Rattle.keys.specs.declared.command.Command.{Command}
use Rattle.index_page.specs.Range.{is_below}
use Rattle.routing.specs.SortedPlaces.{begins_in, reaches, reaches_at}

-- whether a command of this kind sets values
abbrev pub is_giving : Access → Bool
is_giving Looks = false
is_giving (Gives v) = true
is_giving Takes = false

-- whether the command does
abbrev pub gives : {A : Type 0} → Command A → Bool
gives c = is_giving (access_of c)

-- whether the command at this place does
abbrev pub gives_at : {A : Type 0} → List (Command A) → ℕ → Bool
gives_at cs place = is_some_that gives (slice_get cs place)

-- whether all keys before this end are below the upper bound
abbrev pub covers : Option Bytes → Option Bytes → Bool
covers end None = true
covers None (Some hi) = false
covers (Some end) (Some hi) = not (is_below hi end)

-- whether a command of this kind deletes all keys from the span's first key up to this end
abbrev pub clears : Option Bytes → Access → Span → Bool
clears end Looks s = false
clears end (Gives v) s = false
clears end Takes (One k) = false
clears end Takes (Range lo hi) = covers end hi

-- whether the command does
abbrev pub empties : {A : Type 0} → Option Bytes → Command A → Bool
empties end c = clears end (access_of c) (span_of c)

-- whether the command at this place does
abbrev pub empties_at : {A : Type 0} → List (Command A) → Option Bytes → ℕ → Bool
empties_at cs end place = is_some_that (empties end) (slice_get cs place)

-- whether a command sets the value of a key of the page with this range
abbrev pub gives_within : {A : Type 0} → Bytes → Option Bytes → Command A → Bool
gives_within low end c = begins_in low end c && gives c

-- whether a command reaches the page with this range from the left and deletes all of it
abbrev pub takes_page : {A : Type 0} → Bytes → Option Bytes → Command A → Bool
takes_page low end c = reaches low c && empties end c

-- whether the command at this place reaches the page with this range after a command that deletes all of it, and the batch puts nothing there
abbrev pub is_idle : {A : Type 0} → List (Command A) → Bytes → Option Bytes → ℕ → Bool
is_idle cs low end place =
    reaches_at cs low place && (not (list_any (gives_within low end) cs) && list_any (takes_page low end) (take place cs))
