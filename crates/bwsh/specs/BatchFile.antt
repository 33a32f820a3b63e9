-- The lines of a text, and the orders that they make together.
use Rattle.std.specs.Prelude.{◌≡◌, ◌⊎◌, ⊤, ℕ, ◌+◌, ◌&&◌, ◌||◌, ◌==◌, nat_lt, Bool, not, true, false, List, [], ◌∷◌, ◌++◌, map, filter, length, if◌then◌else◌, Option, Some, None}
use Rattle.std.specs.List.{list_all}
use Rattle.std.specs.declared.alloc.Global.{Global}
use Rattle.std.specs.Io.BufRead.{ends_with_byte}
use Rattle.keys.specs.declared.command.Command.{Command}
use Rattle.keys.specs.declared.fault.Fault.TheVariants.{NoMemory}
use Rattle.bstr.specs.Text.{lines_of, without_terminator}
use Rattle.keys.specs.Bytes.{Bytes}
use Rattle.engine.specs.Tokens.{most_rows}
use Rattle.bwsh.specs.declared.line.Line.{Line}
use Rattle.bwsh.specs.declared.line.Line.TheVariants.{Blank, Go, Bad}
use Rattle.bwsh.specs.declared.line.Line.TheVariants as line_variants
use Rattle.bwsh.specs.declared.line.Why.{Why}
use Rattle.bwsh.specs.declared.line.Why.TheVariants.{TooManyRows}
use Rattle.bwsh.specs.declared.order.Order.{Order}
use Rattle.bwsh.specs.declared.order.Order.TheVariants.{Batch, BadLine, Lost, Flush, Clean, Upgrade, Numbers}
use Rattle.bwsh.specs.declared.order.Bounds.{Bounds}
use Rattle.bwsh.specs.declared.session.SessionError.{SessionError}
use Rattle.bwsh.specs.declared.session.SessionError.TheVariants as errors
use Rattle.bwsh.specs.Line.{parse_line}

-- the parts of a text that are lines, each with its end: in a stream only parts that end with a line feed, and otherwise also the last part
abbrev pub pieces : Bool → Bytes → List Bytes
pieces false text = lines_of text
pieces true text = filter (ends_with_byte 10) (lines_of text)

-- the parsed lines of a text, in a stream or not
abbrev pub parse_text : Bool → Bytes → List Line
parse_text stream text = map (λ piece. parse_line stream (without_terminator piece)) (pieces stream text)

-- the number of the first bad line, and why it is bad, where the first of these lines has the number n
abbrev pub first_bad : ℕ → List Line → Option (ℕ × Why)
first_bad n [] = None
first_bad n (Bad why ∷ rest) = Some (n, why)
first_bad n (_ ∷ rest) = first_bad (n + 1) rest

-- the order to run the pending commands, if there are any
abbrev pub last_order : List (Command Global) → List Order
last_order [] = []
last_order (command ∷ commands) = Batch (command ∷ commands) ∷ []

-- the orders of these lines, none of which is bad or lost, after the pending commands
abbrev pub orders_of : List (Command Global) → List Line → List Order
orders_of pending [] = last_order pending
orders_of pending (line_variants.Command command ∷ rest) = orders_of (pending ++ command ∷ []) rest
orders_of pending (Go ∷ rest) = Batch pending ∷ orders_of [] rest
orders_of pending (line_variants.Order order ∷ rest) = last_order pending ++ order ∷ orders_of [] rest
orders_of pending (_ ∷ rest) = orders_of pending rest

-- the batch that no line has ended yet: its commands; or it was already answered, and the rest of it is skipped
pub data Pending : Type 0 where
  begun : List (Command Global) → Pending
  skipped : Pending

-- these are more commands than a batch may have, which a stream refuses at once
abbrev pub is_too_long : Bounds → List (Command Global) → Bool
is_too_long bounds commands = bounds.is_stream && nat_lt 65535 (length commands)

-- the scans among these commands ask for more rows than a batch of the stream may ask for, if there is a bound on that
abbrev pub asks_too_much : Bounds → List (Command Global) → Bool
asks_too_much bounds commands = bounds.is_stream && not (bounds.max_rows == 0) && nat_lt bounds.max_rows (most_rows commands)

-- these commands are over a bound
abbrev pub is_over : Bounds → List (Command Global) → Bool
is_over bounds commands = asks_too_much bounds commands || is_too_long bounds commands

-- the answer to commands that are over a bound since the line with this number: the line asks for too many rows, or the store refuses the batch
abbrev pub over_order : Bounds → ℕ → List (Command Global) → Order
over_order bounds n cs = if asks_too_much bounds cs then BadLine n TooManyRows else Batch cs

-- the orders after the line n, with which these are the commands of the batch; if they are over a bound, this is answered first, and the rest of the
-- batch is skipped
abbrev pub or_over : Bounds → ℕ → List (Command Global) → (Pending → List Order) → List Order
or_over bounds n cs next = if is_over bounds cs then over_order bounds n cs ∷ next skipped else next (begun cs)

-- The orders of these lines, the first of which has the number n, within these bounds. A line that is bad or lost is answered at once, and its batch
-- is not run.
abbrev pub asked : Bounds → ℕ → Pending → List Line → List Order
asked bounds n (begun cs) [] = last_order cs
asked bounds n skipped [] = []
asked bounds n (begun cs) (line_variants.Command command ∷ rest) = or_over bounds n (cs ++ command ∷ []) (λ pending. asked bounds (n + 1) pending rest)
asked bounds n (begun cs) (Go ∷ rest) = Batch cs ∷ asked bounds (n + 1) (begun []) rest
asked bounds n (begun cs) (line_variants.Order order ∷ rest) = last_order cs ++ order ∷ asked bounds (n + 1) (begun []) rest
asked bounds n (begun cs) (Bad why ∷ rest) = BadLine n why ∷ asked bounds (n + 1) skipped rest
asked bounds n (begun cs) (line_variants.Lost ∷ rest) = Lost ∷ asked bounds (n + 1) skipped rest
asked bounds n (begun cs) (Blank ∷ rest) = asked bounds (n + 1) (begun cs) rest
asked bounds n skipped (Go ∷ rest) = asked bounds (n + 1) (begun []) rest
asked bounds n skipped (line_variants.Order order ∷ rest) = order ∷ asked bounds (n + 1) (begun []) rest
asked bounds n skipped (_ ∷ rest) = asked bounds (n + 1) skipped rest

-- these orders, followed by the order to print the numbers if that is asked for
abbrev pub with_numbers : Bool → List Order → List Order
with_numbers false orders = orders
with_numbers true orders = orders ++ Numbers ∷ []

-- the orders of a session with these lines
abbrev pub orders_in : Bounds → Bool → List Line → List Order
orders_in bounds numbers parsed = with_numbers numbers (asked bounds 1 (begun []) parsed)

-- An allocation failed for this line of a text or of a stream, and it was lost. In a stream, a lost order still ends its batch, and is refused; if the
-- line is bad, this may be unknown, and the same may happen. A line `go` and a line without words are not lost.
abbrev pub IsLostAs : Bool → Line → Line → Type 0
IsLostAs false said got = got ≡ line_variants.Lost
IsLostAs true Blank got = ⊥
IsLostAs true Go got = ⊥
IsLostAs true (line_variants.Order order) got = got ≡ line_variants.Order Lost
IsLostAs true (Bad why) got = (got ≡ line_variants.Lost) ⊎ (got ≡ line_variants.Order Lost)
IsLostAs true (line_variants.Command command) got = got ≡ line_variants.Lost
IsLostAs true line_variants.Lost got = got ≡ line_variants.Lost

-- this line of a text or of a stream was read: as parsed, or it was lost
abbrev pub IsReadAs : Bool → Line → Line → Type 0
IsReadAs stream said got = (got ≡ said) ⊎ IsLostAs stream said got

-- these lines were read
abbrev pub AreRead : Bool → List Line → List Line → Type 0
AreRead stream [] [] = ⊤
AreRead stream (said ∷ rest) (got ∷ left) = IsReadAs stream said got × AreRead stream rest left
AreRead stream _ _ = ⊥

-- none of these lines is bad or lost
abbrev pub IsWithin : List Line → Type 0
IsWithin [] = ⊤
IsWithin (Bad why ∷ rest) = ⊥
IsWithin (line_variants.Lost ∷ rest) = ⊥
IsWithin (_ ∷ rest) = IsWithin rest

-- none of these lines ends a batch
abbrev pub IsInBatch : List Line → Type 0
IsInBatch [] = ⊤
IsInBatch (Go ∷ rest) = ⊥
IsInBatch (line_variants.Order order ∷ rest) = ⊥
IsInBatch (_ ∷ rest) = IsInBatch rest

-- if the order is a batch, it is within the bounds
abbrev pub is_within_bounds : Bounds → Order → Bool
is_within_bounds bounds (Batch cs) = not (is_over bounds cs)
is_within_bounds bounds _ = true

abbrev pub are_within_bounds : Bounds → List Order → Bool
are_within_bounds bounds orders = list_all (is_within_bounds bounds) orders

-- a session whose text has this first bad line, if it has one, may end in this way before anything is run
abbrev pub IsReadError : Option (ℕ × Why) → SessionError → Type 0
IsReadError bad (errors.Words error) = ⊥
IsReadError bad (errors.Bad line why) = bad ≡ Some (line, why)
IsReadError bad (errors.Fault fault) = fault ≡ NoMemory
IsReadError bad errors.Device = Unit {0}

-- the order writes to the disk of its store
abbrev pub writes : Order → Bool
writes Flush = true
writes Clean = true
writes Upgrade = true
writes _ = false

-- the line is an order that writes to the disk
abbrev pub line_writes : Line → Bool
line_writes (line_variants.Order order) = writes order
line_writes _ = false

-- the order is a batch
abbrev pub IsBatch : Order → Type 0
IsBatch (Batch commands) = ⊤
IsBatch _ = ⊥

-- the order is no clean
abbrev pub IsNoClean : Order → Type 0
IsNoClean Clean = ⊥
IsNoClean _ = ⊤

-- the only orders of the line are batches
abbrev pub IsForBatches : Line → Type 0
IsForBatches (line_variants.Order order) = ⊥
IsForBatches _ = ⊤

-- the commands of an order
abbrev pub commands_of : Order → List (Command Global)
commands_of (Batch commands) = commands
commands_of _ = []

-- the commands of lines
abbrev pub commands_of_lines : List Line → List (Command Global)
commands_of_lines [] = []
commands_of_lines (line_variants.Command command ∷ rest) = command ∷ commands_of_lines rest
commands_of_lines (line_variants.Order order ∷ rest) = commands_of order ++ commands_of_lines rest
commands_of_lines (_ ∷ rest) = commands_of_lines rest

-- the parsed lines of these commands and of a line `go` after them
abbrev pub batch_lines : List (Command Global) → List Line
batch_lines commands = map (λ command. line_variants.Command command) commands ++ Go ∷ []
