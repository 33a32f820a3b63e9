-- A table: the pages in their places, and the log state of each pid.
use Rattle.std.specs.Prelude.{◌≡◌, ℕ, Bool, true, false, if◌then◌else◌, List, [], ◌∷◌, map, Option, Some, None}
use Rattle.std.specs.List.{AllByRecursion, filter, range_with_len}
use Rattle.std.specs.Ordering.{nat_cmp, is_eq}
use Rattle.std.specs.Map.{keys_of, lookup, remove_entry}
use Rattle.std.specs.BTreeMap.{insert_entry}
use Rattle.mapping.specs.Tree.{Logged, or_no}
use Rattle.mapping.specs.Tree.Logged.{No, Old, Upto}
use Rattle.mapping.specs.FreshPids.{is_among, unused, with_number}
use Rattle.mapping.specs.Outdate.{outdate_all}

-- by rising pid the places, each with its page, or with `None` while it is empty; and by rising pid the log states other than `No`
pub record Mapping (P : Type 0) : Type 0 where
  pub places : List (ℕ × Option P)
  pub logged : List (ℕ × Logged)

-- the test for a pid
abbrev pub is_same_pid : ℕ → ℕ → Bool
is_same_pid pid n = is_eq (nat_cmp pid n)

-- no places, and only `No` log states
abbrev pub no_places : {P : Type 0} → Mapping P
no_places = record { places = []; logged = [] }

-- the pids that have a place
abbrev pub pids_in_use : {P : Type 0} → Mapping P → List ℕ
pids_in_use t = keys_of t.places

-- the pid's place, if it has one
abbrev pub place_of : {P : Type 0} → Mapping P → ℕ → Option (Option P)
place_of t pid = lookup (is_same_pid pid) t.places

-- the page in a place, unless the place is empty
abbrev pub at_home : {P : Type 0} → Option (Option P) → Option P
at_home None = None
at_home (Some p) = p

-- the page of the pid, unless its place is empty
abbrev pub page_of : {P : Type 0} → Mapping P → ℕ → Option P
page_of t pid = at_home (place_of t pid)

-- the log state of the pid
abbrev pub log_of : {P : Type 0} → Mapping P → ℕ → Logged
log_of t pid = or_no (lookup (is_same_pid pid) t.logged)

-- the table with the pid's place set: to a page, or empty
abbrev pub with_place : {P : Type 0} → Mapping P → ℕ → Option P → Mapping P
with_place t pid p = record { places = insert_entry nat_cmp t.places pid p; logged = t.logged }

-- the table after the pid's page was replaced
abbrev pub log_outdated : {P : Type 0} → Mapping P → ℕ → Mapping P
log_outdated t pid = record { places = t.places; logged = outdate_all (pid ∷ []) t.logged }

-- the table without the pid's place; its log state becomes that of a replaced page
abbrev pub freed : {P : Type 0} → Mapping P → ℕ → Mapping P
freed t pid = record { places = remove_entry (is_same_pid pid) t.places; logged = outdate_all (pid ∷ []) t.logged }

-- the table with a place for the pid: an empty one if it had none
abbrev pub room_by : {P : Type 0} → Option (Option P) → Mapping P → ℕ → Mapping P
room_by None t pid = with_place t pid None
room_by (Some p) t pid = t

abbrev pub with_room : {P : Type 0} → Mapping P → ℕ → Mapping P
with_room t pid = room_by (place_of t pid) t pid

-- the n least numbers that are not among these, which rise
abbrev pub fresh_pids : List ℕ → ℕ → List ℕ
fresh_pids used n = map (unused used) (range_with_len 0 n)

-- the table with a place for each of these pids
abbrev pub with_rooms : {P : Type 0} → Mapping P → List ℕ → Mapping P
with_rooms t [] = t
with_rooms t (pid ∷ pids) = with_rooms (with_room t pid) pids

-- the table without the places of these pids; their log states become those of replaced pages
abbrev pub freed_all : {P : Type 0} → Mapping P → List ℕ → Mapping P
freed_all t [] = t
freed_all t (pid ∷ pids) = freed_all (freed t pid) pids

-- the log state that is listed for a pid without a place is `Old`
abbrev pub IsOldWithoutPlace : {P : Type 0} → Mapping P → Type 0
IsOldWithoutPlace t = AllByRecursion (λ l. place_of t l.0 ≡ None → l.1 ≡ Old) t.logged

-- ---- all pids in a table

-- the log contains a page that was replaced or freed since
abbrev pub is_old : Logged → Bool
is_old No = false
is_old Old = true
is_old (Upto k) = false

-- the pids with that log state
abbrev pub old_pids : {P : Type 0} → Mapping P → List ℕ
old_pids t = keys_of (filter (λ l. is_old l.1) t.logged)

-- rising numbers with these inserted, each once
abbrev pub with_numbers : List ℕ → List ℕ → List ℕ
with_numbers [] ns = ns
with_numbers (m ∷ ms) ns = if is_among m (with_numbers ms ns) then with_numbers ms ns else with_number m (with_numbers ms ns)

-- the pids that are in use or `Old` in the log, in rising order
abbrev pub pids_in_use_or_old : {P : Type 0} → Mapping P → List ℕ
pids_in_use_or_old t = with_numbers (old_pids t) (pids_in_use t)
