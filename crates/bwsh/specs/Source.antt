-- The source of a session's orders: the lines that it reads, and the orders that are still to come.
use Rattle.std.specs.Prelude.{◌≡◌, ◌≢◌, ◌≤◌, ◌+◌, ◌||◌, ℕ, Bool, not, true, false, nat_eq, List, [], ◌∷◌, ◌++◌, if◌then◌else◌, option_to_list, Option, Some, None, IfSome, OnSome, length}
use Rattle.std.specs.Io.{StopsAt}
use Rattle.std.specs.Io.BufRead.{DropsThrough, take_through}
use Rattle.std.specs.Io.KnownBytes.{Consumes, IsAtEnd}
use Rattle.bstr.specs.Text.{last_byte_of, without_terminator}
use Rattle.keys.specs.Bytes.{Bytes}
use Rattle.bwsh.specs.declared.line.Line.{Line}
use Rattle.bwsh.specs.declared.order.Order.{Order}
use Rattle.bwsh.specs.declared.source.Source.{Source}
use Rattle.bwsh.specs.BatchFile.{AreRead, IsReadAs, Pending, asked, last_order, parse_text}
use Rattle.bwsh.specs.BatchFile.Pending.{begun, skipped}
use Rattle.bwsh.specs.Line.{most_in_line, parse_line}

-- whether bytes up to a line feed are a line, where this is the last byte: in a stream only if it is a line feed
abbrev pub is_line : Bool → Option ℕ → Bool
is_line stream None = false
is_line stream (Some byte) = not stream || nat_eq byte 10

-- such bytes were parsed: if they are a line, this is the parsed line, or it was lost
abbrev pub IsParsed : Bool → Bytes → Option Line → Type 0
IsParsed stream bytes None = is_line stream (last_byte_of bytes) ≡ false
IsParsed stream bytes (Some line) =
    (is_line stream (last_byte_of bytes) ≡ true) × IsReadAs stream (parse_line stream (without_terminator bytes)) line

-- the next line of known bytes is this one, and these bytes remain; or it was lost; or there is no line
abbrev pub IsRead : Bool → Option Bytes → Option Bytes → Option Line → Type 0
IsRead stream known left None = IfSome known (λ text. parse_text stream text ≡ [])
IsRead stream known left (Some line) =
    IfSome known (λ text. (said : Line) × (rest : Bytes) × (left ≡ Some rest) × (parse_text stream text ≡ said ∷ parse_text stream rest)
    × IsReadAs stream said line)

-- bytes of a line were skipped, the last of which is this one; or none, because none remained
abbrev pub IsSkipped : Option Bytes → Option Bytes → Option ℕ → Type 0
IsSkipped known left last =
    (bytes : Bytes) × Consumes known left bytes × StopsAt bytes 10 × (last ≡ last_byte_of bytes) × (last ≡ None → OnSome known (IsAtEnd left))

-- the same bytes were appended to a text, which was this one
abbrev pub IsPushed : Option Bytes → Option Bytes → Bytes → Bytes → Option ℕ → Type 0
IsPushed known left old new last =
    (bytes : Bytes) × (new ≡ old ++ bytes) × Consumes known left bytes × StopsAt bytes 10 × (last ≡ last_byte_of bytes) × (last ≡ None → OnSome known (IsAtEnd left))

-- this is the beginning of a line whose end was not read, and which is too long for a stream even without the two bytes that may end it
abbrev pub IsLong : Bytes → Type 0
IsLong text = StopsAt text 10 × (last_byte_of text ≢ Some 10) × (most_in_line + 3 ≤ length text)

-- a line was read to its end, or the beginning of a long one was
abbrev pub IsFront : Option Bytes → Option Bytes → Bytes → Bool → Type 0
IsFront known left text true = IfSome known (λ xs. text ≡ take_through 10 xs) × DropsThrough known left 10
IsFront known left text false = Consumes known left text × IsLong text

-- a line was read or not, and nothing else happened
abbrev pub IsKept : {I : Type 0} → Source I → Source I → Type 0
IsKept old new =
    (new.bounds ≡ old.bounds) × (new.batch ≡ old.batch) × (new.is_discarded ≡ old.is_discarded) × (new.queued ≡ old.queued)
    × (new.last ≡ old.last) × (new.is_at_end ≡ old.is_at_end)

-- a line was added to the batch, or ended it, and nothing was read
abbrev pub IsBatched : {I : Type 0} → Source I → Source I → Type 0
IsBatched old new =
    (new.input ≡ old.input) × (new.bounds ≡ old.bounds) × (new.number ≡ old.number) × (new.last ≡ old.last) × (new.is_at_end ≡ old.is_at_end)

-- the batch that no line has ended yet
abbrev pub pending_of : {I : Type 0} → Source I → Pending
pending_of s = if s.is_discarded then skipped else begun s.batch

-- the orders if no more lines come, after a batch that no line has ended
abbrev pub unended : Pending → List Order
unended (begun commands) = last_order commands
unended skipped = []

-- the orders that are still to come if the next lines are these
abbrev pub to_come : {I : Type 0} → Source I → List Line → List Order
to_come s parsed =
    option_to_list s.queued ++ (if s.is_at_end then [] else asked s.bounds (s.number + 1) (pending_of s) parsed ++ option_to_list s.last)

-- these orders can still come, if this is known of the remaining input: each line of it as parsed, or lost
abbrev pub IsToCome : {I : Type 0} → (I → Option Bytes) → Source I → List Order → Type 0
IsToCome known s orders = (parsed : List Line) × IfSome (known s.input) (λ text. AreRead s.bounds.is_stream (parse_text s.bounds.is_stream text) parsed) × (orders ≡ to_come s parsed)

-- this is the next order, before any that can still come after it; or there is none, and none can come
abbrev pub IsNext : {I : Type 0} → (I → Option Bytes) → Source I → Source I → Option Order → Type 0
IsNext known old new None = IsToCome known old []
IsNext known old new (Some order) = (rest : List Order) → IsToCome known new rest → IsToCome known old (order ∷ rest)

-- The orders of a line are this order, if there is one, and then the queued one. The line that was read counts, or a lost one in its place.
abbrev pub Orders : {I : Type 0} → Source I → Source I → Line → Option Order → Type 0
Orders old new line order =
    (got : Line) × IsReadAs old.bounds.is_stream line got
    × ((rest : List Line) → asked old.bounds old.number (pending_of old) (got ∷ rest)
    ≡ option_to_list order ++ (option_to_list new.queued ++ asked old.bounds (old.number + 1) (pending_of new) rest))
