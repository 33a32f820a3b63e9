-- A session: its start, the orders that it runs and answers, and its end.
use Rattle.std.specs.Prelude.{◌≡◌, ◌≢◌, ◌⊎◌, ◌+◌, ◌-◌, ◌&&◌, ℕ, zero, suc, Bool, true, false, IsTrue, ⊤, List, [], ◌∷◌, ◌++◌, map, take, is_none, is_some, codes, replicate, if◌then◌else◌, unwrap_or, Option, Some, None, IfSome, Result, Ok, Err, MatchResult, IfOk, IfErr, OnOk}
use Rattle.std.specs.Bool.{MatchBool}
use Rattle.std.specs.Option.{option_map, option_or}
use Rattle.std.specs.Str.{bytes_eq}
use Rattle.std.specs.Fmt.{decimal}
use Rattle.std.specs.Io.KnownBytes.{Appends}
use Rattle.std.specs.declared.alloc.Global.{Global}
use Rattle.crew.specs.Crew.{is_crew}
use Rattle.keys.specs.Bytes.{Bytes, Pairs}
use Rattle.keys.specs.Lists.{flat}
use Rattle.keys.specs.Limits.{first_bad_field}
use Rattle.keys.specs.Step.{replies_to, map_after_all}
use Rattle.keys.specs.declared.command.Command.{Command}
use Rattle.keys.specs.declared.settings.Settings.{Settings}
use Rattle.keys.specs.declared.settings.Field.{Field}
use Rattle.keys.specs.declared.fault.Fault.{Fault}
use Rattle.keys.specs.declared.fault.Fault.TheVariants.{BadCrew, BadSettings, Full, NoMemory, NothingToClean}
use Rattle.keys.specs.declared.fault.Fault.TheVariants as faults
use Rattle.mapping.specs.Tree.{Store, Tree, with_tree}
use Rattle.mapping.specs.Levels.{contents}
use Rattle.scan.specs.Back.{rows_back}
use Rattle.scan.specs.Prefix.{with_prefix}
use Rattle.verify.specs.Report.{report}
use Rattle.flush_log.specs.Disk.{View}
use Rattle.flush_log.specs.NewStore.{disk_of_new}
use Rattle.flush_log.specs.Segments.{disk_size, last_segment}
use Rattle.recovery.specs.StoreOfDisk.{first_store, store_of_disk}
use Rattle.engine.specs.Batches.{tree_in_turn}
use Rattle.engine.specs.Compacted.{compacted}
use Rattle.engine.specs.Copies.{IsCopied, IsFilledFault, IsPutFault}
use Rattle.engine.specs.Cleaning.{CleanRow, AreRows, IsCalm, NoneFollow, count_of, reads_in}
use Rattle.engine.specs.Room.{is_bloated}
use Rattle.engine.specs.State.{State}
use Rattle.engine.specs.Steps.{Step, Stepped, batching, after_step}
use Rattle.engine.specs.Tidied.{counted_pages, IsTidyFault}
use Rattle.bwsh.specs.declared.line.Line.{Line}
use Rattle.bwsh.specs.declared.line.Why.{Why}
use Rattle.bwsh.specs.declared.options.asked.Mode.{Mode}
use Rattle.bwsh.specs.declared.order.Order.{Order}
use Rattle.bwsh.specs.declared.order.Order.TheVariants.{Batch, BadLine, Lost, Flush, Clean, Upgrade, Verify, Numbers, Stat, Copy, Tidy, Back, Prefix, Help}
use Rattle.bwsh.specs.declared.session.SessionError.{SessionError}
use Rattle.bwsh.specs.declared.session.SessionError.TheVariants.{Words, Bad, Device}
use Rattle.bwsh.specs.declared.session.SessionError.TheVariants as errors
use Rattle.bwsh.specs.declared.show.StoreNumbers.{StoreNumbers}
use Rattle.bwsh.specs.BatchFile.{AreRead, IsReadError, first_bad, orders_in, parse_text}
use Rattle.bwsh.specs.Line.{why_text}
use Rattle.bwsh.specs.Options.{Text, Request, AsksFor, AsksForReports, AsksForText, AsksToExplain, AreRefused, bounds_of, copy_of}
use Rattle.bwsh.specs.Output.{BeginsWith, IsBegun}
use Rattle.bwsh.specs.Shown.{help_lines, shown_reply, shown_rows, shown_flushed, shown_cleaned, shown_upgraded, shown_report, shown_numbers, shown_settings, shown_tidied, shown_copied}

-- the exit status of a session that ends early
abbrev pub status_of : SessionError → ℕ
status_of (Words error) = 2
status_of (Bad line why) = 3
status_of (errors.Fault fault) = 4
status_of Device = 4

-- the exit status of a session
abbrev pub status_of_end : Result (Unit {0}) SessionError → ℕ
status_of_end (Ok done) = 0
status_of_end (Err early) = status_of early

-- the line that answers a bad line of a stream
abbrev pub bad_line : ℕ → Why → Bytes
bad_line line why = codes "line " ++ decimal line ++ codes ": " ++ why_text why ++ 10 ∷ []

-- the line that answers a refusal with a fault that is reported in this way
abbrev pub fault_line : Bytes → Bytes
fault_line told = codes "fault " ++ told ++ 10 ∷ []

-- the message for an error, with its line feed, if a clause can give it
abbrev pub error_text : SessionError → Option Bytes
error_text (Words error) = None
error_text (Bad line why) = Some (bad_line line why)
error_text (errors.Fault fault) = None
error_text Device = Some (codes "fault 9 Device" ++ 10 ∷ [])

-- the message for an end, if a clause can give it: none if all is done
abbrev pub reported_text : Result (Unit {0}) SessionError → Option Bytes
reported_text (Ok done) = Some []
reported_text (Err early) = error_text early

-- the message for words that cannot be read, with its line feed
abbrev pub unread_text : Bytes
unread_text = codes "error: a word of the command line is no text" ++ 10 ∷ []

-- the text that is printed for the version, with its line feed
abbrev pub version_text : Bytes
version_text = codes "bwsh 0.2.0 bytes 1" ++ 10 ∷ []

-- a store, and the bytes of its disk
abbrev pub Stored : Type 0
Stored = Store × Bytes

-- a new store with these settings, on a disk that had these bytes
abbrev pub first_stored : Settings → Bytes → Stored
first_stored settings file = (first_store, disk_of_new settings file)

-- the start of a session: the settings and what is stored; or why there is none
abbrev pub Start : Type 0
Start = Result (Settings × Stored) Fault

-- these stored data with these settings, unless a field of the settings is out of range
abbrev pub start_unless : Option Field → Settings → Stored → Start
start_unless None settings at = Ok (settings, at)
start_unless (Some field) settings at = Err (BadSettings field)

-- this start, unless a field is out of range
abbrev pub start_unless_bad : Option Field → Start → Start
start_unless_bad None start = start
start_unless_bad (Some field) start = Err (BadSettings field)

-- the start with a new store with these settings, on a disk that had these bytes
abbrev pub new_start : Settings → Bytes → Start
new_start settings file = start_unless (first_bad_field settings) settings (first_stored settings file)

-- the start with the store that the bytes of a disk encode, with its own settings; or with the fault of these bytes
abbrev pub start_by : Bytes → Result (Settings × Store) Fault → Start
start_by file (Ok p) = Ok (p.0, (p.1, file))
start_by file (Err fault) = Err fault

abbrev pub found_start : Bytes → Start
found_start file = start_by file (store_of_disk file)

-- this start if no copy is asked for; otherwise this start, unless a field of the copy's settings is out of range
abbrev pub start_for_copy : Option Settings → Start → Start
start_for_copy None start = start
start_for_copy (Some settings) start = start_unless_bad (first_bad_field settings) start

-- This is a correct start with these settings for a store in this file, if there is one, which is created or not, and which is to be copied with some
-- settings or not. In memory, it is a new store on a disk of zeros; in a created file, a new store whatever bytes the file had; otherwise it is the
-- store that the bytes of the file encode, whichever these are.
abbrev pub IsStartBy : Settings → Option Text → Bool → Option Settings → Start → Type 0
IsStartBy settings None create copy start = start ≡ new_start settings (replicate (disk_size settings) 0)
IsStartBy settings (Some path) true copy start = (file : Bytes) × (start ≡ new_start settings file)
IsStartBy settings (Some path) false copy start = (file : Bytes) × (start ≡ start_for_copy copy (found_start file))

-- it is a correct start for what the words ask for: with a crew in range, as above, whatever the crew is; otherwise there is no store, whatever else
-- the words ask for
abbrev pub IsStart : Request → Start → Type 0
IsStart request start = MatchBool (is_crew request.crew) (IsStartBy request.settings request.disk request.create (copy_of request) start) (start ≡ Err BadCrew)

-- batches that tidy a store, one after the other
abbrev pub Batches : Type 0
Batches = List (List (Command Global))

-- how a store is tidied before a flush: by these batches, and then by compaction or not
pub record Tidying : Type 0 where
  pub batches : Batches
  pub compacts : Bool

-- only by these batches
abbrev pub by_batches : Batches → Tidying
by_batches batches = record { batches = batches; compacts = false }

-- only by compaction
abbrev pub compacting : Tidying
compacting = record { batches = []; compacts = true }

-- not at all
abbrev pub no_tidying : Tidying
no_tidying = record { batches = []; compacts = false }

-- The events at an order: the bytes that a read of the disk gives; how the store is tidied before it, if it is a flush; the rows of cleans before it,
-- the last one first, each with the bytes that it reads; and the bytes that a read of the disk gives after them. Then the batches that tidy the
-- store, if the order asks for that; the fault with which it fails, if that is not a fault of the store itself (an allocation fails, a clean fails,
-- or the file of a copy fails); and how its refusal is reported, if it is refused.
pub record Seen : Type 0 where
  pub bytes : Bytes
  pub tidying : Tidying
  pub rows : List CleanRow
  pub last : Bytes
  pub merged : Batches
  pub fails : Option Fault
  pub told : Bytes

-- the events with these bytes if nothing is tidied or cleaned and nothing fails
abbrev pub untidied : Bytes → Seen
untidied file = record { bytes = file; tidying = no_tidying; rows = []; last = file; merged = []; fails = None; told = [] }

-- the events at each order, counted from 0
abbrev pub Reads : Type 0
Reads = ℕ → Seen

-- the events at the orders after the first one
abbrev pub later : Reads → Reads
later shown = λ i. shown (suc i)

-- the step of a play that an order is, if it is one
abbrev pub step_in : Order → Option (Step Global)
step_in (Batch commands) = Some (Step.Batch commands)
step_in Flush = Some Step.Flush
step_in Clean = Some Step.Clean
step_in Upgrade = Some Step.Upgrade
step_in _ = None

-- the stored data after a step that succeeds, or unchanged if it is refused
abbrev pub left_by : Stored → Stepped Global → Stored
left_by at (Ok p) = p.1
left_by at (Err fault) = at

abbrev pub refused_by : Stepped Global → Option Fault
refused_by (Ok p) = None
refused_by (Err fault) = Some fault

-- the same for a step, if there is one
abbrev pub left_by_step : Settings → Stored → Option (Step Global) → Stored
left_by_step settings at None = at
left_by_step settings at (Some x) = left_by at (after_step (batching settings) settings at.0 at.1 x)

abbrev pub refusal_of_step : Settings → Stored → Option (Step Global) → Option Fault
refusal_of_step settings at None = None
refusal_of_step settings at (Some x) = refused_by (after_step (batching settings) settings at.0 at.1 x)

-- whether two maps are equal
abbrev pub is_same_map : Pairs Bytes → Pairs Bytes → Bool
is_same_map [] [] = true
is_same_map (p ∷ ps) (q ∷ qs) = bytes_eq p.0 q.0 && bytes_eq p.1 q.1 && is_same_map ps qs
is_same_map _ _ = false

-- this tree instead of another one if both have the same contents, else the other one
abbrev pub if_it_holds : Tree → Tree → Tree
if_it_holds now old = if is_same_map (contents now) (contents old) then now else old

-- the tree after batches, each planned on the tree after the one before it, if it has the contents of the original tree
abbrev pub tree_of_batches : Settings → Batches → Tree → Tree
tree_of_batches settings [] t = t
tree_of_batches settings (b ∷ bs) t = if_it_holds (tree_in_turn settings t (b ∷ bs)) t

-- the compacted tree instead of a bloated one, if that is asked for and both have the same contents
abbrev pub compacted_if : Bool → Settings → Tree → Tree
compacted_if false settings t = t
compacted_if true settings t = if is_bloated settings t then if_it_holds (compacted settings t) t else t

-- the tree after tidying
abbrev pub tidied_tree : Settings → Tidying → Tree → Tree
tidied_tree settings tidying t = compacted_if tidying.compacts settings (tree_of_batches settings tidying.batches t)

-- the stored data after tidying
abbrev pub tidied : Settings → Tidying → Stored → Stored
tidied settings tidying at = (with_tree at.0 (tidied_tree settings tidying at.0.tree), at.1)

-- the stored data after cleans that read these bytes, one after the other
abbrev pub cleaned_by : Settings → List Bytes → Stored → Stored
cleaned_by settings [] at = at
cleaned_by settings (file ∷ reads) at = cleaned_by settings reads (left_by_step settings (at.0, file) (Some Step.Clean))

-- the stored data after tidying and cleaning, according to the events at a flush
abbrev pub cleaned : Settings → Seen → Stored → Stored
cleaned settings seen at = cleaned_by settings (reads_in seen.rows) (tidied settings seen.tidying at)

-- the stored data that an order finds: before a flush the store is tidied and cleaned, and by an order that asks for it the store is tidied
abbrev pub readied : Order → Settings → Seen → Stored → Stored
readied Flush settings seen at = ((cleaned settings seen at).0, seen.last)
readied (Tidy most) settings seen at = tidied settings (by_batches seen.merged) at
readied _ settings seen at = at

-- why a store that was prepared for the order refuses it by definition, if it does; a batch that lost a line is refused because an allocation failed
abbrev pub own_refusal : Settings → Stored → Order → Option Fault
own_refusal settings at Lost = Some NoMemory
own_refusal settings at order = refusal_of_step settings at (step_in order)

-- the stored data after an order that fails with this fault, or that succeeds
abbrev pub left_unless : Option Fault → Stored → Stored → Stored
left_unless None at done = done
left_unless (Some fault) at done = at

-- the stored data after an order with these events; after an order that is refused they are those that were prepared for it
unfoldable pub after_order : Settings → Store → Seen → Order → Stored
after_order settings st seen order =
    left_unless seen.fails (readied order settings seen (st, seen.bytes))
    (left_by_step settings (readied order settings seen (st, seen.bytes)) (step_in order))

-- why the order is refused, if it is, with these events
unfoldable pub refusal_of : Settings → Store → Seen → Order → Option Fault
refusal_of settings st seen order = option_or seen.fails (own_refusal settings (readied order settings seen (st, seen.bytes)) order)

-- the map after an order
abbrev pub map_after : Pairs Bytes → Order → Pairs Bytes
map_after m (Batch commands) = map_after_all m commands
map_after m _ = m

-- the map after an order that is refused with this fault, or succeeds
abbrev pub map_unless : Option Fault → Pairs Bytes → Order → Pairs Bytes
map_unless None m order = map_after m order
map_unless (Some fault) m order = m

-- the numbers of a store with these settings
abbrev pub numbers_of : Settings → Store → StoreNumbers
numbers_of settings st = record {
  sequence = st.sequence;
  head = st.head;
  tail = st.tail;
  in_use = last_segment settings st.tail + 1 - st.head;
  segments = settings.segments;
  pages = (report st.tree).pages;
  pairs = (report st.tree).pairs;
}

-- the lines that answer an order, with their line feeds, if the store has this map before it, with these events: for a batch the replies of the map,
-- each reply as one text; for a flush and an upgrade the resulting sequence number; for a clean the resulting head segment; for a verify the report
-- on the tree; the numbers of the store; and for the requests of a stream what they ask for
abbrev pub own_lines : Settings → Store → Seen → Pairs Bytes → Order → List Bytes
own_lines settings st seen m (Batch commands) = map shown_reply (replies_to m commands)
own_lines settings st seen m Flush = shown_flushed (after_order settings st seen Flush).0.sequence ∷ []
own_lines settings st seen m Clean = shown_cleaned (after_order settings st seen Clean).0.head ∷ []
own_lines settings st seen m Upgrade = shown_upgraded (after_order settings st seen Upgrade).0.sequence ∷ []
own_lines settings st seen m Verify = shown_report (report st.tree) ∷ []
own_lines settings st seen m Numbers = shown_numbers (numbers_of settings st) ∷ []
own_lines settings st seen m (BadLine line why) = bad_line line why ∷ []
own_lines settings st seen m Lost = []
own_lines settings st seen m Stat = shown_numbers (numbers_of settings st) ∷ shown_settings settings ∷ []
own_lines settings st seen m (Copy path segments) = shown_copied (report st.tree).pairs ∷ []
own_lines settings st seen m (Tidy most) = shown_tidied (counted_pages st.tree - counted_pages (after_order settings st seen (Tidy most)).0.tree) ∷ []
own_lines settings st seen m (Back lo hi limit) = shown_rows (rows_back lo hi limit m) ∷ []
own_lines settings st seen m (Prefix bytes limit) = shown_rows (take limit (with_prefix bytes m)) ∷ []
own_lines settings st seen m Help = help_lines ∷ []

-- the lines of this many cleans of a log whose first segment has this number: for each clean the number of the first segment after it
abbrev pub head_lines : ℕ → ℕ → List Bytes
head_lines head zero = []
head_lines head (suc count) = shown_cleaned (suc head) ∷ head_lines (suc head) count

-- the lines of the cleans in front of a flush; they are printed even if it is refused
abbrev pub front_lines : Store → Seen → Order → List Bytes
front_lines st seen Flush = head_lines st.head (count_of seen.rows)
front_lines st seen _ = []

-- the lines that answer orders one after the other, with these events at each; each order passes its store and its map to the next
abbrev pub answer_lines : Settings → Store → Reads → Pairs Bytes → List Order → List Bytes
answer_lines settings st shown m [] = []
answer_lines settings st shown m (order ∷ rest) =
    front_lines st (shown 0) order ++ own_lines settings st (shown 0) m order
    ++ answer_lines settings (after_order settings st (shown 0) order).0 (later shown) (map_after m order) rest

-- the text of these lines
abbrev pub printed : Settings → Store → Reads → Pairs Bytes → List Order → Bytes
printed settings st shown m orders = flat (answer_lines settings st shown m orders)

-- why a store refuses the first order that it refuses, if there is one; each accepted order passes its store to the next
abbrev pub first_refusal : Settings → Store → Reads → List Order → Option Fault
first_refusal settings st shown [] = None
first_refusal settings st shown (order ∷ rest) =
    option_or (refusal_of settings st (shown 0) order) (first_refusal settings (after_order settings st (shown 0) order).0 (later shown) rest)

-- the orders before that one, or all of them
abbrev pub accepted : Settings → Store → Reads → List Order → List Order
accepted settings st shown [] = []
accepted settings st shown (order ∷ rest) =
    if is_some (refusal_of settings st (shown 0) order) then []
    else order ∷ accepted settings (after_order settings st (shown 0) order).0 (later shown) rest

-- the lines of the cleans in front of the order that is refused, if there is one
abbrev pub front_of_refused : Settings → Store → Reads → List Order → List Bytes
front_of_refused settings st shown [] = []
front_of_refused settings st shown (order ∷ rest) =
    if is_some (refusal_of settings st (shown 0) order) then front_lines st (shown 0) order
    else front_of_refused settings (after_order settings st (shown 0) order).0 (later shown) rest

-- The lines that answer an order that is refused with this fault or succeeds, and the orders after it, with the lines of the cleans in front of it:
-- if the session goes on after a refusal, the refusal adds one line.
abbrev pub answer_then : Bool → Option Fault → Bytes → List Bytes → List Bytes → List Bytes → List Bytes
answer_then on None told front own rest = front ++ own ++ rest
answer_then true (Some fault) told front own rest = front ++ fault_line told ∷ rest
answer_then false (Some fault) told front own rest = front

-- the lines that answer these orders, in a session that goes on after a refusal or ends at the first one
abbrev pub answered : Bool → Settings → Store → Reads → Pairs Bytes → List Order → List Bytes
answered on settings st shown m [] = []
answered on settings st shown m (order ∷ rest) =
    answer_then on (refusal_of settings st (shown 0) order) (shown 0).told (front_lines st (shown 0) order) (own_lines settings st (shown 0) m order)
    (answered on settings (after_order settings st (shown 0) order).0 (later shown) (map_unless (refusal_of settings st (shown 0) order) m order) rest)

-- the map after these orders, whichever are refused
abbrev pub map_kept : Settings → Store → Reads → Pairs Bytes → List Order → Pairs Bytes
map_kept settings st shown m [] = m
map_kept settings st shown m (order ∷ rest) =
    map_kept settings (after_order settings st (shown 0) order).0 (later shown) (map_unless (refusal_of settings st (shown 0) order) m order) rest

-- and from this start
abbrev pub map_kept_from : Start → Reads → List Order → Pairs Bytes
map_kept_from (Ok p) shown orders = map_kept p.0 p.1.0 shown (contents p.1.0.tree) orders
map_kept_from (Err fault) shown orders = []

-- a clean that fails with this fault makes no room for a flush: the log is full for the clean, too, or there is nothing to clean
abbrev pub makes_no_room : Option Fault → Bool
makes_no_room (Some Full) = true
makes_no_room (Some NothingToClean) = true
makes_no_room _ = false

-- these bytes are read at an order of this store, and after the cleans in front of it the bytes that they leave
abbrev pub IsLeft : Settings → Store → Bytes → Seen → Type 0
IsLeft settings st file seen = (seen.bytes ≡ file) × (seen.last ≡ (cleaned settings seen (st, seen.bytes)).1)

-- each read of the disk returns what was left, before each of these orders: these bytes before the first one
abbrev pub AreLeft : Settings → Store → Bytes → Reads → List Order → Type 0
AreLeft settings st file shown [] = ⊤
AreLeft settings st file shown (order ∷ rest) =
    IsLeft settings st file (shown 0) × AreLeft settings (after_order settings st (shown 0) order).0 (after_order settings st (shown 0) order).1 (later shown) rest

-- the same from this start
abbrev pub AreLeftFrom : Start → Reads → List Order → Type 0
AreLeftFrom (Ok p) shown orders = AreLeft p.0 p.1.0 p.1.1 shown orders
AreLeftFrom (Err fault) shown orders = ⊤

-- no store is tidied
abbrev pub AreUntidied : Reads → Type 0
AreUntidied shown = (i : ℕ) → (shown i).tidying ≡ no_tidying

-- a store is tidied in this way only in modes that ask for batches, and compacted only in modes in which flushes make room
abbrev pub IsAsked : Mode → Tidying → Type 0
IsAsked mode tidying = (mode.tidy ≡ 0 → tidying.batches ≡ []) × (mode.clean_when_full ≡ false → tidying.compacts ≡ false)

-- the stores are tidied and cleaned in the same way, and fail in the same way
abbrev pub AreSeenAlike : Reads → Reads → Type 0
AreSeenAlike shown other =
    (i : ℕ) → ((shown i).tidying ≡ (other i).tidying) × ((shown i).rows ≡ (other i).rows) × ((shown i).merged ≡ (other i).merged)
    × ((shown i).fails ≡ (other i).fails) × ((shown i).told ≡ (other i).told)

-- a store is tidied only as it is asked for
abbrev pub TidiesBy : Mode → Reads → Type 0
TidiesBy mode shown = (i : ℕ) → IsAsked mode (shown i).tidying

-- a store becomes another one by tidying, in such a mode
pub record TidiesTo (mode : Mode) (settings : Settings) (old now : Store) : Type 0 where
  pub tidying : Tidying
  pub asked : IsAsked mode tidying
  pub leaves : (file : Bytes) → tidied settings tidying (old, file) ≡ (now, file)

-- a store becomes another one by batches that tidy it, as the mode asks for
abbrev pub IsByBatches : Mode → Settings → Store → Store → Type 0
IsByBatches mode settings old now = (batches : Batches) × (mode.tidy ≡ 0 → batches ≡ []) × ((file : Bytes) → tidied settings (by_batches batches) (old, file) ≡ (now, file))

-- a copy of a store with this map, with these settings, is refused with this fault: by its pairs, or by a flush of all of them
abbrev pub IsCopyRefusal : Settings → Pairs Bytes → Fault → Type 0
IsCopyRefusal settings m fault = IsPutFault settings m fault ⊎ IsFilledFault settings m fault

-- a store with this map can be copied with these settings: no batch of puts and no flush of the copy is refused, and the copy has the map
abbrev pub IsCopyMade : Settings → Pairs Bytes → Type 0
IsCopyMade settings m = (copy : Store) × IsCopied settings m copy × (contents copy.tree ≡ m)

-- the settings of a copy with this number of segments, or with as many as its store
abbrev pub copy_settings : Settings → Option ℕ → Settings
copy_settings settings segments = record settings { segments = unwrap_or segments settings.segments }

-- why an order of what was readied for it can fail, where flushes make themselves room or don't: it finds no memory; or it is a flush that finds the log
-- full, and one more clean in front of it is refused so; or it is a copy, which is refused, or whose file fails; or the store can't be tidied. A bad line
-- and the lines of help need nothing.
abbrev pub MayFail : Bool → Settings → Stored → Order → Fault → Type 0
MayFail cleans settings at (BadLine line why) fault = ⊥
MayFail cleans settings at Help fault = ⊥
MayFail cleans settings at Flush fault =
    (fault ≡ NoMemory)
    ⊎ ((cleans ≡ true) × (makes_no_room (Some fault) ≡ false) × (refusal_of_step settings at (Some Step.Flush) ≡ Some Full) × (refusal_of_step settings at (Some Step.Clean) ≡ Some fault))
MayFail cleans settings at (Copy path segments) fault =
    (fault ≡ NoMemory) ⊎ (fault ≡ faults.Device) ⊎ IsCopyRefusal (copy_settings settings segments) (contents at.0.tree) fault
    ⊎ ((field : Field) × (first_bad_field (copy_settings settings segments) ≡ Some field) × (fault ≡ BadSettings field))
MayFail cleans settings at (Tidy most) fault = IsTidyFault settings fault
MayFail cleans settings at order fault = fault ≡ NoMemory

-- a property of an order and the store that was prepared for it, if the order does not fail: a copy can be made
abbrev pub CanBeDone : Settings → Stored → Order → Type 0
CanBeDone settings at (Copy path segments) = IsCopyMade (copy_settings settings segments) (contents at.0.tree)
CanBeDone settings at order = ⊤

-- the order can fail with this fault, or with none
abbrev pub MayFailBy : Bool → Settings → Stored → Order → Option Fault → Type 0
MayFailBy cleans settings at order None = CanBeDone settings at order
MayFailBy cleans settings at order (Some fault) = MayFail cleans settings at order fault

-- each of these orders fails only in a possible way
abbrev pub AreFailing : Bool → Settings → Store → Reads → List Order → Type 0
AreFailing cleans settings st shown [] = ⊤
AreFailing cleans settings st shown (order ∷ rest) =
    MayFailBy cleans settings (readied order settings (shown 0) (st, (shown 0).bytes)) order (shown 0).fails × AreFailing cleans settings (after_order settings st (shown 0) order).0 (later shown) rest

-- the same from this start
abbrev pub AreFailingFrom : Bool → Start → Reads → List Order → Type 0
AreFailingFrom cleans (Ok p) shown orders = AreFailing cleans p.0 p.1.0 shown orders
AreFailingFrom cleans (Err fault) shown orders = ⊤

-- it fails because an allocation failed
abbrev pub finds_no_memory : Option Fault → Bool
finds_no_memory (Some NoMemory) = true
finds_no_memory _ = false

-- Rows of cleans of this tidied store lead to this cleaned one, as `flush_cleaning` performs them. The last row may be cut short only if an
-- allocation of the flush fails. Otherwise, if there is no row, none was to begin early; and if the flush does not fail, it finds the log full only
-- if no more cleans may follow, or none could help.
abbrev pub AreRight : Bool → Settings → Store → Store → Seen → Type 0
AreRight honest settings st now seen =
    AreRows honest (finds_no_memory seen.fails) settings st seen.bytes seen.rows now seen.last
    × (finds_no_memory seen.fails ≡ false → seen.rows ≡ [] → IsCalm honest settings st seen.bytes)
    × (seen.fails ≡ None → refusal_of_step settings (now, seen.last) (Some Step.Flush) ≡ Some Full → NoneFollow honest settings seen.rows now seen.last)

-- these cleans are possible in front of an order: none, except in front of a flush, in modes in which flushes make room
abbrev pub AreCleansOf : Bool → Bool → Settings → Store → Order → Seen → Type 0
AreCleansOf honest true settings st Flush seen =
    AreRight honest settings (tidied settings seen.tidying (st, seen.bytes)).0 (cleaned settings seen (st, seen.bytes)).0 seen
AreCleansOf honest cleans settings st order seen = seen.rows ≡ []

-- in front of each of these orders
abbrev pub AreCleaning : Bool → Bool → Settings → Store → Reads → List Order → Type 0
AreCleaning honest cleans settings st shown [] = ⊤
AreCleaning honest cleans settings st shown (order ∷ rest) =
    AreCleansOf honest cleans settings st order (shown 0) × AreCleaning honest cleans settings (after_order settings st (shown 0) order).0 (later shown) rest

-- the same from this start
abbrev pub AreCleaningFrom : Bool → Bool → Start → Reads → List Order → Type 0
AreCleaningFrom honest cleans (Ok p) shown orders = AreCleaning honest cleans p.0 p.1.0 shown orders
AreCleaningFrom honest cleans (Err fault) shown orders = ⊤

-- these events are possible at each of these orders, if the words ask for this: in memory each read returns what was left, in a file anything
abbrev pub IsShown : Request → Start → Reads → List Order → Type 0
IsShown request start shown orders =
    TidiesBy request.mode shown × AreFailingFrom request.mode.clean_when_full start shown orders
    × AreCleaningFrom (is_none request.disk) request.mode.clean_when_full start shown orders × (request.disk ≡ None → AreLeftFrom start shown orders)

-- the end for this reason, or with all done
abbrev pub stopped_by : Option SessionError → Result (Unit {0}) SessionError
stopped_by None = Ok tt
stopped_by (Some early) = Err early

-- how orders end by definition: with all done, if the session goes on after a refusal; else at the first order that is refused, if there is one
abbrev pub orders_end : Bool → Settings → Store → Reads → List Order → Result (Unit {0}) SessionError
orders_end true settings st shown orders = Ok tt
orders_end false settings st shown orders = stopped_by (option_map (λ fault. errors.Fault fault) (first_refusal settings st shown orders))

-- how a session with this start and these orders ends by definition
abbrev pub end_from : Bool → Start → Reads → List Order → Result (Unit {0}) SessionError
end_from on (Err fault) shown orders = Err (errors.Fault fault)
end_from on (Ok p) shown orders = orders_end on p.0 p.1.0 shown orders

-- the lines that it prints by definition
abbrev pub lines_from : Bool → Start → Reads → List Order → List Bytes
lines_from on (Err fault) shown orders = []
lines_from on (Ok p) shown orders = answered on p.0 p.1.0 shown (contents p.1.0.tree) orders

-- the orders of a session with these lines, with the order for the numbers if the words ask for them
abbrev pub session_orders : Request → List Line → List Order
session_orders request parsed = orders_in (bounds_of request.mode) request.mode.stat parsed

-- known bytes are extended by a prefix of the report of this end, if a clause can give it, followed by these bytes
abbrev pub IsReportedWith : Bytes → Result (Unit {0}) SessionError → Option Bytes → Option Bytes → Type 0
IsReportedWith more end old new = IfSome (reported_text end) (λ text. IsBegun old new (text ++ more))

-- the same, and more than that is reported only for words that ask for an explanation
abbrev pub IsReported : List Bytes → Result (Unit {0}) SessionError → Option Bytes → Option Bytes → Type 0
IsReported words end old new = (more : Bytes) × (AsksToExplain words ⊎ (more ≡ [])) × IsReportedWith more end old new

-- it is unchanged, or the words ask for reports, or for an explanation, and a note was written
abbrev pub IsQuiet : {E : Type 0} → (E → Option Bytes) → List Bytes → E → E → Type 0
IsQuiet contents words old new =
    (new ≡ old) ⊎ AsksForReports words ⊎ (AsksToExplain words × ((note : Bytes) × IsBegun (contents old) (contents new) note))

-- the line that answers the order at which the disk of the store failed, if the session goes on after other faults
abbrev pub device_line : Bool → Bytes
device_line false = []
device_line true = codes "fault 9 Device" ++ 10 ∷ []

-- Known bytes are extended by all of the lines if the end is the right one. An allocation may fail after some whole lines, except in a stream, where
-- this is a refusal like any other. A device may fail anywhere, and if it is the disk of the store, a line for this may be the last answer of a
-- stream.
abbrev pub Prints : Bool → Option Bytes → Option Bytes → List Bytes → Result (Unit {0}) SessionError → Result (Unit {0}) SessionError → Type 0
Prints on old new lines right end =
    ((end ≡ right) × Appends old new (flat lines))
    ⊎ ((on ≡ false) × (end ≡ Err (errors.Fault NoMemory)) × ((front : List Bytes) × BeginsWith lines front × Appends old new (flat front)))
    ⊎ ((end ≡ Err Device) × ((front : Bytes) × (last : Bytes) × BeginsWith (flat lines) front × BeginsWith (device_line on) last × Appends old new (front ++ last)))

-- why there is no copy: it is refused with this fault, an allocation failed, or a device failed
abbrev pub IsCopyEnd : Settings → Pairs Bytes → SessionError → Type 0
IsCopyEnd settings m early =
    ((fault : Fault) × (early ≡ errors.Fault fault) × IsCopyRefusal settings m fault) ⊎ (early ≡ errors.Fault NoMemory) ⊎ (early ≡ Device)

-- how a copy under these settings ends, if the session is asked for one: it is made, or there is none for such a reason
abbrev pub CopiesTo : Option Settings → Pairs Bytes → Result (Unit {0}) SessionError → Type 0
CopiesTo None m end = end ≡ Ok tt
CopiesTo (Some settings) m end = MatchResult end (λ done. IsCopyMade settings m) (IsCopyEnd settings m)

-- why a session that is asked for such a copy ends before anything is run: a field of the settings is out of range, or a device failed
abbrev pub IsUncopied : Option Settings → SessionError → Type 0
IsUncopied None early = ⊥
IsUncopied (Some settings) early =
    ((field : Field) × (first_bad_field settings ≡ Some field) × (early ≡ errors.Fault (BadSettings field))) ⊎ (early ≡ Device)

-- the right end of a session whose orders end in this way, and whose copy is refused with this fault, if it is
abbrev pub end_copied : Option Fault → Result (Unit {0}) SessionError → Result (Unit {0}) SessionError
end_copied refused (Ok done) = stopped_by (option_map (λ fault. errors.Fault fault) refused)
end_copied refused (Err early) = Err early

-- an end is this one, or this one is with all done and a fault comes after it
abbrev pub IsEndAfter : Result (Unit {0}) SessionError → Result (Unit {0}) SessionError → Type 0
IsEndAfter plain end = (end ≡ plain) ⊎ ((plain ≡ Ok tt) × ((fault : Fault) × (end ≡ Err (errors.Fault fault))))

-- The same of a session whose orders leave this map, and which is to leave a copy under some settings, if it is: where it isn't, word for word.
-- Where it is, nothing else is printed. If all is done, a copy of this map was made; and if all orders are done, the right end can be why a copy of this
-- map is refused.
abbrev pub PrintsCopied : Option Settings → Pairs Bytes → Bool → Option Bytes → Option Bytes → List Bytes → Result (Unit {0}) SessionError → Result (Unit {0}) SessionError → Type 0
PrintsCopied None m on old new lines right end = Prints on old new lines right end
PrintsCopied (Some settings) m on old new lines right end =
    OnOk end (IsCopyMade settings m)
    × (refused : Option Fault) × IfSome refused (λ fault. (fault ≡ NoMemory) ⊎ IsCopyRefusal settings m fault) × Prints on old new lines (end_copied refused right) end

-- the output of these orders on a store with these settings, with these events at each, and their end, are right except for memory and devices,
-- whether they go on after a refusal or end at the first, in a stream or not
unfoldable pub Runs : Bool → Bool → Settings → Store → Reads → List Order → Option Bytes → Option Bytes → Result (Unit {0}) SessionError → Type 0
Runs on stream settings st shown orders old new end =
    Prints stream old new (answered on settings st shown (contents st.tree) orders) (orders_end on settings st shown orders) end

-- the same for one order with these lines that ends in this way by definition, before the line for its device
abbrev pub PrintsOwn : Bool → Option Bytes → Option Bytes → List Bytes → Result (Unit {0}) SessionError → Result (Unit {0}) SessionError → Type 0
PrintsOwn on old new lines right end =
    ((end ≡ right) × Appends old new (flat lines))
    ⊎ ((on ≡ false) × (end ≡ Err (errors.Fault NoMemory)) × ((front : List Bytes) × BeginsWith lines front × Appends old new (flat front)))
    ⊎ ((end ≡ Err Device) × IsBegun old new (flat lines))

-- the same for this order on a store with these settings, with these events, in a stream or not: a refusal is an end
unfoldable pub RunsAlone : Bool → Settings → Store → Seen → Order → Option Bytes → Option Bytes → Result (Unit {0}) SessionError → Type 0
RunsAlone on settings st seen order old new end =
    PrintsOwn on old new (answer_then false (refusal_of settings st seen order) seen.told (front_lines st seen order) (own_lines settings st seen (contents st.tree) order) [])
    (stopped_by (option_map (λ fault. errors.Fault fault) (refusal_of settings st seen order))) end

-- these events are possible at each of these orders, in such a mode: if the disk is honest, each read returns what was left, and these bytes before
-- the first order
abbrev pub AreSeen : Mode → Bool → Settings → Store → Bytes → Reads → List Order → Type 0
AreSeen mode honest settings st left shown orders =
    TidiesBy mode shown × AreFailing mode.clean_when_full settings st shown orders × AreCleaning honest mode.clean_when_full settings st shown orders
    × (IsTrue honest → AreLeft settings st left shown orders)

-- if they end in this way with all done, this is the map after them
abbrev pub LeavesMap : Settings → Store → Reads → List Order → Result (Unit {0}) SessionError → Pairs Bytes → Type 0
LeavesMap settings st shown orders end held = OnOk end (held ≡ map_kept settings st shown (contents st.tree) orders)

-- the same in such a mode, for some such events at each order that is run; and if all is done, this is the map after them
abbrev pub RunsOn : Mode → Bool → Settings → Store → Bytes → List Order → Option Bytes → Option Bytes → Result (Unit {0}) SessionError → Pairs Bytes → Type 0
RunsOn mode honest settings st left orders old new end held =
    (shown : Reads) × AreSeen mode honest settings st left shown orders × Runs mode.stream mode.stream settings st shown orders old new end
    × LeavesMap settings st shown orders end held

-- the output of these orders after the line that answers a refusal which is reported in this way, and their end, are right except for memory and
-- devices
unfoldable pub RunsAfter : Bytes → Bool → Settings → Store → Reads → List Order → Option Bytes → Option Bytes → Result (Unit {0}) SessionError → Type 0
RunsAfter told on settings st shown orders old new end =
    Prints on old new (fault_line told ∷ answered on settings st shown (contents st.tree) orders) (orders_end on settings st shown orders) end

-- the same for that line and the output after it
abbrev pub RunsTold : Bytes → Mode → Bool → Settings → Store → Bytes → List Order → Option Bytes → Option Bytes → Result (Unit {0}) SessionError → Pairs Bytes → Type 0
RunsTold told mode honest settings st left orders old new end held =
    (shown : Reads) × AreSeen mode honest settings st left shown orders × RunsAfter told mode.stream settings st shown orders old new end
    × LeavesMap settings st shown orders end held

-- the same, if it ends with all done and with this store
abbrev pub RunsAll : Mode → Bool → Settings → Store → Bytes → List Order → Option Bytes → Option Bytes → Result (Unit {0}) SessionError → Store → Type 0
RunsAll mode honest settings st left orders old new end now = RunsOn mode honest settings st left orders old new end (contents now.tree)

-- this is the store after the order, whether the order succeeds or is refused, with its map; and on an honest disk these are the bytes
pub record LeavesStored (honest : Bool) (settings : Settings) (st : Store) (seen : Seen) (order : Order) (now : Store) (left : Bytes) : Type 0 where
  pub store : now ≡ (after_order settings st seen order).0
  pub bytes : IsTrue honest → left ≡ (after_order settings st seen order).1
  pub holds : contents now.tree ≡ map_unless (refusal_of settings st seen order) (contents st.tree) order

-- these events are possible at an order of a store, in such a mode: if the disk is honest, its reads return these bytes
abbrev pub IsSeen : Mode → Bool → Settings → Store → Bytes → Order → Seen → Type 0
IsSeen mode honest settings st left order seen =
    IsAsked mode seen.tidying × MayFailBy mode.clean_when_full settings (readied order settings seen (st, seen.bytes)) order seen.fails
    × AreCleansOf honest mode.clean_when_full settings st order seen × (IsTrue honest → IsLeft settings st left seen)

-- The output of one order and its end are right except for devices, for some possible events, in such a mode: a refusal is an end. Unless a device
-- fails, this is the store after it, and on an honest disk these last bytes are the contents.
abbrev pub RunsOrder : Mode → Bool → Settings → Store → Bytes → Order → Option Bytes → Option Bytes → Result (Unit {0}) SessionError → Store → Bytes → Type 0
RunsOrder mode honest settings st left order old new end now bytes =
    (seen : Seen) × IsSeen mode honest settings st left order seen × RunsAlone mode.stream settings st seen order old new end
    × (end ≢ Err Device → LeavesStored honest settings st seen order now bytes)

-- these orders go on, after the output so far, with any others that are run next on this store and, on an honest disk, on these bytes
abbrev pub GoesOn : Mode → Bool → Settings → Store → Bytes → List Order → Option Bytes → Option Bytes → Store → Bytes → Type 0
GoesOn mode honest settings st left orders old new now bytes =
    (rest : List Order) (last : Option Bytes) (end : Result (Unit {0}) SessionError) (held : Pairs Bytes) → RunsOn mode honest settings now bytes rest new last end held
    → RunsOn mode honest settings st left (orders ++ rest) old last end held

-- these orders stop early, whatever others there are
abbrev pub Stops : Mode → Bool → Settings → Store → Bytes → List Order → Option Bytes → Option Bytes → SessionError → Type 0
Stops mode honest settings st left orders old new early = (rest : List Order) (held : Pairs Bytes) → RunsOn mode honest settings st left (orders ++ rest) old new (Err early) held

-- The output after a refusal, in a session that goes on and in one that ends: the line of the fault is printed, and then the output of the others; or
-- all stop, and if a device is the reason, its line may be printed.
abbrev pub RunsRefused : Bool → Mode → Bool → Settings → Store → Bytes → List Order → Option Bytes → Option Bytes → SessionError → Store → Bytes → Type 0
RunsRefused true mode honest settings st left orders old new (errors.Fault fault) now bytes =
    (told : Bytes) (rest : List Order) (last : Option Bytes) (end : Result (Unit {0}) SessionError) (held : Pairs Bytes) → RunsTold told mode honest settings now bytes rest new last end held
    → RunsOn mode honest settings st left (orders ++ rest) old last end held
RunsRefused true mode honest settings st left orders old new Device now bytes =
    (more : Bytes) (printed : Option Bytes) → BeginsWith (device_line true) more → Appends new printed more → Stops mode honest settings st left orders old printed Device
RunsRefused true mode honest settings st left orders old new early now bytes = ⊥
RunsRefused false mode honest settings st left orders old new early now bytes = Stops mode honest settings st left orders old new early

-- The output of these orders, before the fault if one is refused, and their end, are right before any others that are run next: all of them are done,
-- or one is refused, and the others go on with this store and, on an honest disk, with these bytes; or all stop.
abbrev pub RunsFirst : Mode → Bool → Settings → Store → Bytes → List Order → Option Bytes → Option Bytes → Result (Unit {0}) SessionError → Store → Bytes → Type 0
RunsFirst mode honest settings st left orders old new (Ok done) now bytes = GoesOn mode honest settings st left orders old new now bytes
RunsFirst mode honest settings st left orders old new (Err early) now bytes = RunsRefused mode.stream mode honest settings st left orders old new early now bytes

-- The same with the fault printed: in a session that goes on after a refusal only a device stops the orders.
abbrev pub RunsAsk : Mode → Bool → Settings → Store → Bytes → List Order → Option Bytes → Option Bytes → Result (Unit {0}) SessionError → Store → Bytes → Type 0
RunsAsk mode honest settings st left orders old new (Ok done) now bytes = GoesOn mode honest settings st left orders old new now bytes
RunsAsk mode honest settings st left orders old new (Err early) now bytes = (mode.stream ≡ true → early ≡ Device) × Stops mode honest settings st left orders old new early

-- the same relations for a store before and after a call, and for the value that has the output
abbrev pub OrderRuns : {D : Type 0} → {O : Type 0} → (D → View) → (O → Option Bytes) → Mode → Order → State D → O → Result (Unit {0}) SessionError → State D → O → Type 0
OrderRuns view contents mode order x old end y new =
    RunsOrder mode (view x.disk).is_honest x.settings x.store (view x.disk).seen order (contents old) (contents new) end y.store (view y.disk).seen

-- the same for an order on another store, which was tidied to this one
abbrev pub OrderRunsFrom : {D : Type 0} → {O : Type 0} → (D → View) → (O → Option Bytes) → Mode → Store → Order → State D → O → Result (Unit {0}) SessionError → State D → O → Type 0
OrderRunsFrom view contents mode st order x old end y new =
    RunsOrder mode (view x.disk).is_honest x.settings st (view x.disk).seen order (contents old) (contents new) end y.store (view y.disk).seen

abbrev pub OrdersRun : {D : Type 0} → {O : Type 0} → (D → View) → (O → Option Bytes) → Mode → List Order → State D → O → Result (Unit {0}) SessionError → State D → O → Type 0
OrdersRun view contents mode orders x old end y new =
    RunsFirst mode (view x.disk).is_honest x.settings x.store (view x.disk).seen orders (contents old) (contents new) end y.store (view y.disk).seen

abbrev pub OrdersAnswered : {D : Type 0} → {O : Type 0} → (D → View) → (O → Option Bytes) → Mode → List Order → State D → O → Result (Unit {0}) SessionError → State D → O → Type 0
OrdersAnswered view contents mode orders x old end y new =
    RunsAsk mode (view x.disk).is_honest x.settings x.store (view x.disk).seen orders (contents old) (contents new) end y.store (view y.disk).seen

abbrev pub OrdersAll : {D : Type 0} → {O : Type 0} → (D → View) → (O → Option Bytes) → Mode → List Order → State D → O → Result (Unit {0}) SessionError → State D → O → Type 0
OrdersAll view contents mode orders x old end y new =
    RunsAll mode (view x.disk).is_honest x.settings x.store (view x.disk).seen orders (contents old) (contents new) end y.store

-- a call does not change the disk of a store, its settings, and whether it has failed
abbrev pub IsOnDisk : {D : Type 0} → State D → State D → Type 0
IsOnDisk old new = (new.settings ≡ old.settings) × (new.disk ≡ old.disk) × (new.has_failed ≡ old.has_failed)

-- it does not change the store, whether it has failed, and, on an honest disk, its bytes
abbrev pub IsUntouched : {D : Type 0} → (D → View) → State D → State D → Type 0
IsUntouched view old new =
    (new.store ≡ old.store) × (new.has_failed ≡ old.has_failed) × (IsTrue (view old.disk).is_honest → (view new.disk).seen ≡ (view old.disk).seen)

-- however a call ends, it does not change the settings of the store, and whether its disk is honest; and unless a device fails, whether the store has
-- failed
abbrev pub Stays : {D : Type 0} → {X : Type 0} → (D → View) → State D → Result X SessionError → State D → Type 0
Stays view old end new =
    (new.settings ≡ old.settings) × ((view new.disk).is_honest ≡ (view old.disk).is_honest) × (end ≢ Err Device → new.has_failed ≡ old.has_failed)

-- the same, and the pairs are unchanged
abbrev pub Holds : {D : Type 0} → {X : Type 0} → (D → View) → State D → Result X SessionError → State D → Type 0
Holds view old end new = Stays view old end new × (contents new.store.tree ≡ contents old.store.tree)

-- these are the readable contents of the disk, if it is honest
abbrev pub IsHolding : View → Bytes → Type 0
IsHolding disk file = IsTrue disk.is_honest → disk.seen ≡ file

-- the output from this start of a session with these lines, and its end, are right except for devices, for some possible events at each order that is
-- run; and then there is a copy with some settings, if one is asked for
unfoldable pub RunsFrom : Request → Start → List Line → Option Bytes → Option Bytes → Result (Unit {0}) SessionError → Type 0
RunsFrom request start parsed old new end =
    (shown : Reads) × IsShown request start shown (session_orders request parsed)
    × PrintsCopied (copy_of request) (map_kept_from start shown (session_orders request parsed)) request.mode.stream old new
    (lines_from request.mode.stream start shown (session_orders request parsed))
    (end_from request.mode.stream start shown (session_orders request parsed)) end

-- the same for a correct start, or nothing is printed and there is a reason why there is none: the copy is refused, an allocation failed, or a device
-- failed
unfoldable pub RunsRequest : Request → List Line → Option Bytes → Option Bytes → Result (Unit {0}) SessionError → Type 0
RunsRequest request parsed old new end = (start : Start) × IsStart request start × RunsFrom request start parsed old new end

-- the same for the lines that were read of the known bytes; or an allocation for the store failed, and nothing is printed
abbrev pub RunsRead : Request → Option Bytes → Option Bytes → Option Bytes → Result (Unit {0}) SessionError → Type 0
RunsRead request known old new end =
    ((parsed : List Line) × IfSome known (λ text. AreRead request.mode.stream (parse_text request.mode.stream text) parsed) × RunsRequest request parsed old new end)
    ⊎ ((end ≡ Err (errors.Fault NoMemory)) × Appends old new [])

-- a session with this start may end in this way before anything is run
abbrev pub IsUnopened : Start → SessionError → Type 0
IsUnopened start early = ((fault : Fault) × (start ≡ Err fault) × (early ≡ errors.Fault fault)) ⊎ (early ≡ errors.Fault NoMemory) ⊎ (early ≡ Device)

-- opening a store for a session with this start gives its settings, its store and, on an honest disk, its bytes, and the store has not failed; or it
-- gives the reason why there is none
abbrev pub Opens : {D : Type 0} → (D → View) → Start → Result (State D) SessionError → Type 0
Opens view start (Ok x) =
    (file : Bytes) × (start ≡ Ok (x.settings, (x.store, file))) × (IsTrue (view x.disk).is_honest → (view x.disk).seen ≡ file)
    × (x.has_failed ≡ false)
Opens view start (Err early) = IsUnopened start early

-- the disk of the store that was opened, if one was, is honest
abbrev pub IsHonestStore : {D : Type 0} → (D → View) → Result (State D) SessionError → Type 0
IsHonestStore view opened = IfOk opened (λ x. IsTrue (view x.disk).is_honest)

-- the same for what the words ask for, with a crew in range: for a correct start, on an honest disk if it is in memory
abbrev pub IsOpening : {D : Type 0} → (D → View) → Request → Result (State D) SessionError → Type 0
IsOpening view request opened =
    (start : Start) × IsStartBy request.settings request.disk request.create None start × Opens view start opened
    × (request.disk ≡ None → IfOk opened (λ x. IsTrue (view x.disk).is_honest))

-- a session ends in this way before any order is run, with nothing printed: its text is bad, an allocation failed, or a device failed
abbrev pub IsUnread : Request → Option (ℕ × Why) → Option Bytes → Option Bytes → Result (Unit {0}) SessionError → Type 0
IsUnread request bad old new (Ok done) = ⊥
IsUnread request bad old new (Err early) = IsReadError bad early × (request.mode.stream ≡ true → (number : ℕ) (why : Why) → early ≢ Bad number why) × Appends old new []

-- these lines were read: without `--stream` those of this text, in a stream those of the known bytes
abbrev pub AreReadOf : Bool → Option Bytes → Bytes → List Line → Type 0
AreReadOf false known text parsed = AreRead false (parse_text false text) parsed
AreReadOf true known text parsed = IfSome known (λ bytes. AreRead true (parse_text true bytes) parsed)

-- The output of a session with this request, and its end, are right for a text, which is the known one, for the lines that were read of it, for a
-- start, and for the events at each order, except for devices. A text without `--stream` then has no bad line. If the session is asked for a copy, it
-- is a copy of the map after its orders. It is not specified when lines are read: a stream that reads all of them first is also right.
unfoldable pub Answers : Request → Option Bytes → Option Bytes → Option Bytes → Result (Unit {0}) SessionError → Type 0
Answers request known old new end =
    (text : Bytes) × IfSome known (λ bytes. text ≡ bytes)
    × (IsUnread request (first_bad 1 (parse_text request.mode.stream text)) old new end
    ⊎ ((request.mode.stream ≡ false → first_bad 1 (parse_text false text) ≡ None)
    × ((parsed : List Line) × AreReadOf request.mode.stream known text parsed × RunsRequest request parsed old new end)))

-- a text is printed, except for failed allocations, after which none of it is printed, and devices
abbrev pub PrintsOneText : Option Bytes → Option Bytes → Result (Unit {0}) SessionError → Type 0
PrintsOneText old new end = ((text : Bytes) × Prints false old new (text ∷ []) (Ok tt) end) ⊎ ((end ≡ Err (errors.Fault NoMemory)) × Appends old new [])

-- this is the end of a session for refused words
abbrev pub IsForWords : Result (Unit {0}) SessionError → Type 0
IsForWords (Ok done) = ⊥
IsForWords (Err (Words error)) = Unit {0}
IsForWords (Err _) = ⊥

-- the end and the output of a session with these words, except for memory and devices: as the words ask for; or with nothing read, and the help or
-- the version if they ask for it; or with nothing printed, if they are refused
abbrev pub EndsBy : List Bytes → Option Bytes → Option Bytes → Option Bytes → Type 0 → Type 0 → Result (Unit {0}) SessionError → Type 0
EndsBy words known old new unread untouched end =
    ((request : Request) × AsksFor words request × (request.mode.version ≡ false) × Answers request known old new end)
    ⊎ (unread × AsksForText words × PrintsOneText old new end)
    ⊎ (unread × untouched × ((AreRefused words × IsForWords end) ⊎ (end ≡ Err (errors.Fault NoMemory))))

-- a session with these words ends with this status: it has an end that is right as `EndsBy` defines, and that is reported
abbrev pub EndsReported : List Bytes → Option Bytes → Option Bytes → Option Bytes → Option Bytes → Option Bytes → Type 0 → Type 0 → ℕ → Type 0
EndsReported words known old new err_old err_new unread untouched status =
    (end : Result (Unit {0}) SessionError) × (status ≡ status_of_end end) × EndsBy words known old new unread untouched end × (AsksForReports words ⊎ IfErr end (λ early. IsReported words (Err early) err_old err_new))
