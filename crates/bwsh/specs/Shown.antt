-- How replies, sequence numbers, head segments and reports are printed.
use Rattle.std.specs.Prelude.{ℕ, List, [], ◌∷◌, ◌++◌, map, length, flat_map, codes}
use Rattle.std.specs.Fmt.{decimal}
use Rattle.keys.specs.Bytes.{Bytes, Pairs}
use Rattle.keys.specs.declared.settings.Settings.{Settings}
use Rattle.keys.specs.declared.command.Reply.{Reply}
use Rattle.keys.specs.declared.command.Reply.TheVariants.{Value, Missing, New, Replaced, Added, Exists, Deleted, Rows, Wiped}
use Rattle.engine.specs.Steps.{Answer}
use Rattle.engine.specs.Steps.Answer.{Replies, Flushed, Cleaned, Upgraded}
use Rattle.verify.specs.declared.report.Report.{Report}
use Rattle.bwsh.specs.declared.show.StoreNumbers.{StoreNumbers}
use Rattle.bwsh.specs.declared.show.NumberLine.{NumberLine}
use Rattle.bwsh.specs.declared.show.NumberLine.TheVariants as number_lines
use Rattle.bwsh.specs.Token.{shown_token}

-- the first line of a reply
abbrev pub reply_text : {A : Type 0} → Reply A → Bytes
reply_text (Value v) = codes "value " ++ shown_token v
reply_text Missing = codes "missing"
reply_text New = codes "new"
reply_text Replaced = codes "replaced"
reply_text Added = codes "added"
reply_text Exists = codes "exists"
reply_text Deleted = codes "deleted"
reply_text (Rows rows) = codes "rows " ++ decimal (length rows)
reply_text (Wiped count) = codes "wiped " ++ decimal count

-- the line of a row: its key, a space and its value, with the line feed
abbrev pub shown_row : Bytes × Bytes → Bytes
shown_row row = shown_token row.0 ++ 32 ∷ shown_token row.1 ++ 10 ∷ []

-- the lines of a reply's rows; only a reply to a scan has any
abbrev pub row_lines : {A : Type 0} → Reply A → Bytes
row_lines (Rows rows) = flat_map shown_row rows
row_lines _ = []

-- the lines of a reply, each with its line feed
abbrev pub shown_reply : {A : Type 0} → Reply A → Bytes
shown_reply reply = reply_text reply ++ 10 ∷ row_lines reply

-- the lines of rows: how many there are, and then each
abbrev pub shown_rows : Pairs Bytes → Bytes
shown_rows rows = codes "rows " ++ decimal (length rows) ++ 10 ∷ flat_map shown_row rows

-- the line with the number of freed pages, and the line with the number of copied pairs
abbrev pub shown_tidied : ℕ → Bytes
shown_tidied pages = codes "tidied " ++ decimal pages ++ 10 ∷ []

abbrev pub shown_copied : ℕ → Bytes
shown_copied pairs = codes "copied " ++ decimal pairs ++ 10 ∷ []

-- the line of the settings of a store
abbrev pub shown_settings : Settings → Bytes
shown_settings s =
    codes "settings fan " ++ decimal s.fan ++ codes " chain " ++ decimal s.chain ++ codes " max-key " ++ decimal s.max_key
    ++ codes " max-value " ++ decimal s.max_value ++ codes " seg-size " ++ decimal s.seg_size ++ codes " segments " ++ decimal s.segments ++ 10 ∷ []

-- the lines that a stream understands
abbrev pub help_lines : Bytes
help_lines =
    codes "put K V | add K V | get K | del K | scan LO HI LIMIT | wipe LO HI: a command of the batch" ++ 10 ∷
    codes "go: runs the batch" ++ 10 ∷
    codes "flush | clean | upgrade | verify: runs the batch, and then this" ++ 10 ∷
    codes ".stat | .copy PATH [SEGMENTS] | .tidy N | .back LO HI LIMIT | .prefix BYTES LIMIT | .help: the same" ++ 10 ∷ []

-- the line of a report: its pages, its height and its pairs, with the line feed
abbrev pub shown_report : Report → Bytes
shown_report report = codes "ok " ++ decimal report.pages ++ 32 ∷ decimal report.height ++ 32 ∷ decimal report.pairs ++ 10 ∷ []

-- the line of the numbers of a store: the sequence number, the head and the tail of the log, the number of segments in use and of all segments, and
-- the numbers of pages and of pairs of the tree, with the line feed
abbrev pub shown_numbers : StoreNumbers → Bytes
shown_numbers n =
    codes "stat sequence " ++ decimal n.sequence ++ codes " head " ++ decimal n.head ++ codes " tail " ++ decimal n.tail
    ++ codes " segments " ++ decimal n.in_use ++ codes " of " ++ decimal n.segments
    ++ codes " pages " ++ decimal n.pages ++ codes " pairs " ++ decimal n.pairs ++ 10 ∷ []

-- the line of a flush: the sequence number, with the line feed
abbrev pub shown_flushed : ℕ → Bytes
shown_flushed sequence = codes "flushed " ++ decimal sequence ++ 10 ∷ []

-- the line of a clean: the head segment, with the line feed
abbrev pub shown_cleaned : ℕ → Bytes
shown_cleaned head = codes "cleaned " ++ decimal head ++ 10 ∷ []

-- the line of an upgrade: the sequence number, with the line feed
abbrev pub shown_upgraded : ℕ → Bytes
shown_upgraded sequence = codes "upgraded " ++ decimal sequence ++ 10 ∷ []

-- the lines of an answer; the lines of a reply are one text
abbrev pub shown_answer : {A : Type 0} → Answer A → List Bytes
shown_answer (Replies replies) = map shown_reply replies
shown_answer (Flushed sequence) = shown_flushed sequence ∷ []
shown_answer (Cleaned head) = shown_cleaned head ∷ []
shown_answer (Upgraded sequence) = shown_upgraded sequence ∷ []

-- a line of numbers
abbrev pub number_line : NumberLine → Bytes
number_line (number_lines.Rows count) = codes "rows " ++ decimal count ++ 10 ∷ []
number_line (number_lines.Wiped count) = codes "wiped " ++ decimal count ++ 10 ∷ []
number_line (number_lines.Flushed sequence) = shown_flushed sequence
number_line (number_lines.Cleaned head) = shown_cleaned head
number_line (number_lines.Upgraded sequence) = shown_upgraded sequence
number_line (number_lines.Tidied pages) = shown_tidied pages
number_line (number_lines.Copied pairs) = shown_copied pairs
number_line (number_lines.Report report) = shown_report report
number_line (number_lines.Numbers numbers) = shown_numbers numbers
number_line (number_lines.Settings settings) = shown_settings settings
