-- What is known of the output of a session by its exit status.
use Rattle.std.specs.Prelude.{◌≡◌, ◌≢◌, ◌⊎◌, false, List, [], ◌++◌, Option, IfSome, Ok, IsOk, None}
use Rattle.std.specs.Io.KnownBytes.{Appends}
use Rattle.keys.specs.Bytes.{Bytes}
use Rattle.keys.specs.Lists.{flat}
use Rattle.bwsh.specs.declared.line.Line.{Line}
use Rattle.bwsh.specs.BatchFile.{AreRead, first_bad, parse_text}
use Rattle.bwsh.specs.Options.{Request, AsksFor, AsksForText, AsksToStream, copy_of}
use Rattle.bwsh.specs.Output.{BeginsWith}
use Rattle.bwsh.specs.Session.{IsCopyMade, IsShown, IsStart, Reads, Start, device_line, end_from, lines_from, map_kept_from, session_orders}

-- The answers to the orders of all lines of this text were printed, from a correct start that has a store, for possible events at each order. A clean
-- depends on what the disk returns, which in memory is what was written last. `--tidy` runs some batches, which change no pairs, before each flush. With
-- `--clean-when-full`, a flush may compact the tree, and does the cleans of `Store::flush_cleaning`, whose lines are printed in front of its own even
-- if it is refused. Without `--stream`, no line is bad, and no order was refused. With it, a refused order is answered by one line, and changes no
-- pairs; a line for which an allocation failed is such an order. If a copy is asked for, one of the pairs that the orders leave was made, under the
-- settings of the command line.
abbrev pub IsDoneOn : Request → Option Bytes → Option Bytes → Bytes → Type 0
IsDoneOn request old new text =
    (parsed : List Line) × AreRead request.mode.stream (parse_text request.mode.stream text) parsed × (request.mode.stream ≡ false → first_bad 1 (parse_text false text) ≡ None)
    × ((start : Start) × IsStart request start × IsOk start × (shown : Reads) × IsShown request start shown (session_orders request parsed)
    × (end_from request.mode.stream start shown (session_orders request parsed) ≡ Ok tt)
    × Appends old new (flat (lines_from request.mode.stream start shown (session_orders request parsed)))
    × IfSome (copy_of request) (λ settings. IsCopyMade settings (map_kept_from start shown (session_orders request parsed))))

-- a beginning of those answers was printed; after it, in a stream, the line for a failed device, or a part of that line
abbrev pub HasBegunOn : Request → Option Bytes → Option Bytes → Bytes → Type 0
HasBegunOn request old new text =
    (parsed : List Line) × AreRead request.mode.stream (parse_text request.mode.stream text) parsed
    × ((start : Start) × IsStart request start × (shown : Reads) × IsShown request start shown (session_orders request parsed)
    × ((front : Bytes) × (last : Bytes) × BeginsWith (flat (lines_from request.mode.stream start shown (session_orders request parsed))) front
    × BeginsWith (device_line request.mode.stream) last × Appends old new (front ++ last)))

-- exit status 0: the words ask for the help or the version; or they ask for a session, and its orders are done, if the input is known
abbrev pub IsAllDone : List Bytes → Option Bytes → Option Bytes → Option Bytes → Type 0
IsAllDone words known old new = AsksForText words ⊎ ((request : Request) × AsksFor words request × IfSome known (IsDoneOn request old new))

-- any exit status: the words ask for the help or the version, or nothing was printed, or a beginning of the right answers
abbrev pub HasBegun : List Bytes → Option Bytes → Option Bytes → Option Bytes → Type 0
HasBegun words known old new =
    AsksForText words ⊎ Appends old new [] ⊎ ((request : Request) × AsksFor words request × IfSome known (HasBegunOn request old new))

-- exit status 3: the session is not a stream, nothing was printed, and a line is bad
abbrev pub IsBad : List Bytes → Option Bytes → Option Bytes → Option Bytes → Type 0
IsBad words known old new = (AsksToStream words → ⊥) × Appends old new [] × IfSome known (λ text. first_bad 1 (parse_text false text) ≢ None)
