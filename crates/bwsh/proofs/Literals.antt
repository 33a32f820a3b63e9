-- The values of the definitions for a few literals.
use Rattle.std.proofs.Common.{◌≡◌, ℕ, List, [], ◌∷◌, ◌++◌, map, Some, None, refl, arith, true, false}
use Rattle.std.specs.Prelude.{codes}
use Rattle.std.proofs.lemmas.Fmt.{decimal_digit}
use Rattle.keys.specs.declared.command.Command.TheVariants.{Get, Put, Del, Scan, Wipe}
use Rattle.keys.specs.declared.command.Reply.{Reply}
use Rattle.keys.specs.declared.command.Reply.TheVariants.{Rows}
use Rattle.bstr.specs.Text.{line_len, lines_from, without_terminator}
use Rattle.bwsh.specs.declared.line.Line.{Line}
use Rattle.bwsh.specs.declared.line.Line.TheVariants.{Blank, Go, Bad}
use Rattle.bwsh.specs.declared.line.Line.TheVariants as line_variants
use Rattle.bwsh.specs.declared.line.Why.TheVariants.{UnknownCommand, WordCount, BadToken, BadNumber, TooManyRows}
use Rattle.bwsh.specs.declared.order.Bounds.{Bounds}
use Rattle.bwsh.specs.declared.order.Order.TheVariants.{Batch, BadLine, Copy, Flush, Stat, Tidy, Upgrade, Verify}
use Rattle.bwsh.specs.Token.{token_bytes, shown_token}
use Rattle.bwsh.specs.Words.{words_of}
use Rattle.bwsh.specs.Line.{parse_line}
use Rattle.bwsh.specs.Number.{number_in}
use Rattle.bwsh.specs.declared.options.asked.Mode.{Mode}
use Rattle.bwsh.specs.Options.{Given, asked, mode_of, options, path_of, refused, request_by, settings_of}
use Rattle.bwsh.specs.Shown.{shown_reply}
use Rattle.bwsh.specs.BatchFile.{asked as ordered, first_bad, orders_of, pieces}
use Rattle.bwsh.specs.BatchFile.Pending.{begun}

an_escape : token_bytes (codes "%41") ≡ Some (codes "A")
an_escape = refl

either_case : token_bytes (codes "%fF%0a") ≡ Some (255 ∷ 10 ∷ [])
either_case = refl

no_digit : token_bytes (codes "%g1") ≡ None
no_digit = refl

half_an_escape : token_bytes (codes "%2") ≡ None
half_an_escape = refl

the_empty_string : token_bytes (codes "%") ≡ Some []
the_empty_string = refl

a_sign_at_the_end : token_bytes (codes "a%") ≡ None
a_sign_at_the_end = refl

no_character : token_bytes [] ≡ None
no_character = refl

above_0x7E : token_bytes (127 ∷ []) ≡ None
above_0x7E = refl

printed : shown_token (32 ∷ 97 ∷ 37 ∷ 171 ∷ []) ≡ codes "%20a%25%AB"
printed = refl

printed_empty : shown_token [] ≡ codes "%"
printed_empty = refl

some_words : words_of (codes "  put   a 1 ") ≡ codes "put" ∷ codes "a" ∷ codes "1" ∷ []
some_words = refl

no_words : words_of (32 ∷ 9 ∷ 32 ∷ []) ≡ []
no_words = refl

a_comment : parse_line false (codes "  #put a 1") ≡ Blank
a_comment = refl

an_escaped_command : parse_line false (codes "%67et a") ≡ Bad UnknownCommand
an_escaped_command = refl

-- the number of words is checked before the words
a_word_too_few : parse_line false (codes "put a%") ≡ Bad WordCount
a_word_too_few = refl

a_bad_token : parse_line false (codes "put a% 1") ≡ Bad BadToken
a_bad_token = refl

go_with_a_word : parse_line false (codes "go a") ≡ Bad WordCount
go_with_a_word = refl

-- a single star means no upper bound, otherwise it is the key of one byte; leading zeros are allowed
a_scan_without_bound : parse_line false (codes "scan * * 005") ≡ Line.Command (Scan (42 ∷ []) None 5)
a_scan_without_bound = refl

a_scan_below_a_star : parse_line false (codes "scan % %2A 4294967295") ≡ Line.Command (Scan [] (Some (42 ∷ [])) 4294967295)
a_scan_below_a_star = refl

a_wipe_without_bound : parse_line false (codes "wipe % *") ≡ Line.Command (Wipe [] None)
a_wipe_without_bound = refl

a_wipe_up_to_a_key : parse_line false (codes "wipe b d") ≡ Line.Command (Wipe (98 ∷ []) (Some (100 ∷ [])))
a_wipe_up_to_a_key = refl

a_wipe_with_a_limit : parse_line false (codes "wipe b d 3") ≡ Bad WordCount
a_wipe_with_a_limit = refl

a_number_too_great : number_in (codes "4294967296") ≡ None
a_number_too_great = refl

no_digits : number_in [] ≡ None
no_digits = refl

a_sign_in_front : parse_line false (codes "scan a * +1") ≡ Bad BadNumber
a_sign_in_front = refl

-- a limit is not parsed as a token
an_escaped_number : parse_line false (codes "scan a * %31") ≡ Bad BadNumber
an_escaped_number = refl

-- a bad token is reported before a bad number, and the number of words before both
a_bad_token_first : parse_line false (codes "scan a %g1 x") ≡ Bad BadToken
a_bad_token_first = refl

no_limit : parse_line false (codes "scan %g1 *") ≡ Bad WordCount
no_limit = refl

verify_alone : parse_line false (codes " verify ") ≡ line_variants.Order Verify
verify_alone = refl

flush_alone : parse_line false (codes "flush") ≡ line_variants.Order Flush
flush_alone = refl

upgrade_alone : parse_line false (codes "upgrade") ≡ line_variants.Order Upgrade
upgrade_alone = refl

upgrade_with_a_word : parse_line false (codes "upgrade x") ≡ Bad WordCount
upgrade_with_a_word = refl

verify_with_a_word : parse_line false (codes "verify 1") ≡ Bad WordCount
verify_with_a_word = refl

seven_lines : List Line
seven_lines = map (parse_line false) (codes "get a" ∷ codes "put a 1" ∷ codes "get a" ∷ codes "put a 2" ∷ codes "get a" ∷ codes "del a" ∷ codes "get a" ∷ [])

one_batch_of_seven : orders_of [] seven_lines ≡ Batch (Get (97 ∷ []) ∷ Put (97 ∷ []) (49 ∷ []) ∷ Get (97 ∷ []) ∷ Put (97 ∷ []) (50 ∷ []) ∷ Get (97 ∷ []) ∷ Del (97 ∷ []) ∷ Get (97 ∷ []) ∷ []) ∷ []
unfolding seven_lines
one_batch_of_seven = refl

none_of_seven_is_bad : first_bad 1 seven_lines ≡ None
unfolding seven_lines
none_of_seven_is_bad = refl

the_second_is_bad : first_bad 1 (map (parse_line false) (codes "put a 1" ∷ codes "frob x" ∷ codes "put" ∷ [])) ≡ Some (2, UnknownCommand)
the_second_is_bad = refl

-- a flush and a verify run the pending batch only where it has commands
flushes : orders_of [] (map (parse_line false) (codes "flush" ∷ codes "get a" ∷ codes "flush" ∷ codes "verify" ∷ [])) ≡ Flush ∷ Batch (Get (97 ∷ []) ∷ []) ∷ Flush ∷ Verify ∷ []
flushes = refl

-- so does an upgrade
upgrades : orders_of [] (map (parse_line false) (codes "upgrade" ∷ codes "get a" ∷ codes "upgrade" ∷ [])) ≡ Upgrade ∷ Batch (Get (97 ∷ []) ∷ []) ∷ Upgrade ∷ []
upgrades = refl

verifies : orders_of [] (map (parse_line false) (codes "verify" ∷ codes "get a" ∷ codes "verify" ∷ codes "go" ∷ [])) ≡ Verify ∷ Batch (Get (97 ∷ []) ∷ []) ∷ Verify ∷ Batch [] ∷ []
verifies = refl

an_empty_batch : orders_of [] (Go ∷ Blank ∷ Go ∷ []) ≡ Batch [] ∷ Batch [] ∷ []
an_empty_batch = refl

-- the bounds of a stream without `--max-rows`
abbrev streaming : Bounds
streaming = record { is_stream = true; max_rows = 0 }

-- in a stream a bad line is answered, and its batch is skipped up to the line that ends it
a_stream : List Line
a_stream = map (parse_line true) (codes "put a 1" ∷ codes "frob" ∷ codes "get a" ∷ codes "go" ∷ codes "get a" ∷ codes ".stat" ∷ [])

a_skipped_batch : ordered streaming 1 (begun []) a_stream ≡ BadLine 2 UnknownCommand ∷ Batch (Get (97 ∷ []) ∷ []) ∷ Stat ∷ []
unfolding a_stream
a_skipped_batch = refl

-- the line that ends a skipped batch still runs its own order
a_flush_after_it : ordered streaming 1 (begun []) (map (parse_line true) (codes "put" ∷ codes "flush" ∷ [])) ≡ BadLine 1 WordCount ∷ Flush ∷ []
a_flush_after_it = refl

-- a batch may ask for as many rows as `--max-rows` says, and not for one more
too_many_rows : ordered (record streaming { max_rows = 5 }) 1 (begun []) (map (parse_line true) (codes "scan a * 3" ∷ codes "scan a * 3" ∷ codes "go" ∷ codes "scan a * 5" ∷ codes "go" ∷ []))
    ≡ BadLine 2 TooManyRows ∷ Batch (Scan (97 ∷ []) None 5 ∷ []) ∷ []
too_many_rows = refl

-- words that begin with a dot are known only in streams
a_dot_in_a_text : parse_line false (codes ".stat") ≡ Bad UnknownCommand
a_dot_in_a_text = refl

an_unknown_dot : parse_line true (codes ".frob") ≡ Bad UnknownCommand
an_unknown_dot = refl

a_copy : parse_line true (codes ".copy a%20b") ≡ line_variants.Order (Copy (97 ∷ 32 ∷ 98 ∷ []) None)
a_copy = refl

a_copy_with_segments : parse_line true (codes ".copy a 32") ≡ line_variants.Order (Copy (97 ∷ []) (Some 32))
a_copy_with_segments = refl

a_copy_of_no_number : parse_line true (codes ".copy a x") ≡ Bad BadNumber
a_copy_of_no_number = refl

a_tidy : parse_line true (codes ".tidy 7") ≡ line_variants.Order (Tidy 7)
a_tidy = refl

-- each line has its end: a line feed, or nothing if it is the last line of a text; in a stream the latter is no line
three_pieces : pieces false (97 ∷ 13 ∷ 10 ∷ 10 ∷ 98 ∷ []) ≡ (97 ∷ 13 ∷ 10 ∷ []) ∷ (10 ∷ []) ∷ (98 ∷ []) ∷ []
unfolding line_len lines_from
three_pieces = refl

two_pieces : pieces true (97 ∷ 13 ∷ 10 ∷ 10 ∷ 98 ∷ []) ≡ (97 ∷ 13 ∷ 10 ∷ []) ∷ (10 ∷ []) ∷ []
unfolding line_len lines_from
two_pieces = refl

-- only one LF or CR LF is cut from a line
line_ends : map without_terminator ((97 ∷ 13 ∷ 10 ∷ []) ∷ (98 ∷ 13 ∷ 13 ∷ 10 ∷ []) ∷ (10 ∷ []) ∷ (99 ∷ 13 ∷ []) ∷ []) ≡ (97 ∷ []) ∷ (98 ∷ 13 ∷ []) ∷ [] ∷ (99 ∷ 13 ∷ []) ∷ []
line_ends = refl

no_line : pieces false [] ≡ []
unfolding line_len lines_from
no_line = refl

-- a reply to a scan is the number of its rows, and a line for each
scanned : List (List ℕ × List ℕ) → Reply ℕ
scanned rows = Rows rows

some_rows : shown_reply (scanned ((32 ∷ 0 ∷ [], 37 ∷ []) ∷ ([], []) ∷ [])) ≡ codes "rows 2" ++ 10 ∷ codes "%20%00 %25" ++ 10 ∷ codes "% %" ++ 10 ∷ []
unfolding scanned
some_rows = rw (decimal_digit 2 (omega arith)) refl

-- the options of a command line may be in any order
some_options : asked (codes "--create" ∷ codes "--disk" ∷ codes "a b" ∷ codes "--fan=8" ∷ [])
    ≡ options ((codes "create", codes "true") ∷ (codes "disk", codes "a b") ∷ (codes "fan", codes "8") ∷ [])
some_options = refl

-- a session with default values is the same as one without options
abbrev no_ways : Mode
no_ways = record { version = false; explain = false; stat = false; clean_when_full = false; stream = false; tidy = 0; wait = 0; max_rows = 0; progress = false }

request_options : let given : Given = (codes "create", codes "true") ∷ (codes "disk", codes "a b") ∷ (codes "fan", codes "8") ∷ [] in
    request_by given (settings_of given)
    ≡ record { settings = record { fan = 8; chain = 4; max_key = 64; max_value = 256; seg_size = 65536; segments = 64 }; crew = record { workers = 1; grain = 64 }; disk = Some (codes "a b"); create = true; copy_to = None; mode = no_ways }
request_options = refl

nothing_request : request_by [] (settings_of [])
    ≡ record { settings = record { fan = 16; chain = 4; max_key = 64; max_value = 256; seg_size = 65536; segments = 64 }; crew = record { workers = 1; grain = 64 }; disk = None; create = false; copy_to = None; mode = no_ways }
nothing_request = refl

-- a path is any text, except that after `--disk` it must not look like a flag
an_empty_path : asked (codes "--disk" ∷ [] ∷ []) ≡ options ((codes "disk", []) ∷ [])
an_empty_path = refl

a_path_with_a_hyphen : asked (codes "--disk=--create" ∷ []) ≡ options ((codes "disk", codes "--create") ∷ [])
a_path_with_a_hyphen = refl

no_path : asked (codes "--disk" ∷ codes "--create" ∷ []) ≡ refused
no_path = refl

-- the flag has no text, and is given at most once
a_flag_with_a_text : asked (codes "--create=true" ∷ []) ≡ refused
a_flag_with_a_text = refl

asked_ways : asked (codes "--version" ∷ codes "--fan" ∷ codes "8" ∷ codes "--explain" ∷ [])
    ≡ options ((codes "version", codes "true") ∷ (codes "fan", codes "8") ∷ (codes "explain", codes "true") ∷ [])
asked_ways = refl

request_version : mode_of ((codes "version", codes "true") ∷ []) ≡ record no_ways { version = true }
request_version = refl

request_to_explain : mode_of ((codes "explain", codes "true") ∷ []) ≡ record no_ways { explain = true }
request_to_explain = refl

request_of_tidying : mode_of ((codes "tidy", codes "007") ∷ (codes "wait", codes "30") ∷ (codes "max-rows", codes "9") ∷ (codes "progress", codes "true") ∷ [])
    ≡ record no_ways { tidy = 7; wait = 30; max_rows = 9; progress = true }
request_of_tidying = refl

-- each option that takes a path has its own path
two_paths : asked (codes "--copy-to" ∷ codes "b" ∷ codes "--disk=a" ∷ []) ≡ options ((codes "copy-to", codes "b") ∷ (codes "disk", codes "a") ∷ [])
two_paths = refl

request_paths : path_of (codes "copy-to") ((codes "copy-to", codes "b") ∷ (codes "disk", codes "a") ∷ []) ≡ Some (codes "b")
request_paths = refl

-- `--pairs` needs a new store or a copy, and excludes the options for which it chooses numbers
some_pairs : asked (codes "--pairs=9" ∷ codes "--create" ∷ codes "--max-key=8" ∷ [])
    ≡ options ((codes "pairs", codes "9") ∷ (codes "create", codes "true") ∷ (codes "max-key", codes "8") ∷ [])
some_pairs = refl

pairs_of_a_copy : asked (codes "--pairs=9" ∷ codes "--copy-to=b" ∷ []) ≡ options ((codes "pairs", codes "9") ∷ (codes "copy-to", codes "b") ∷ [])
pairs_of_a_copy = refl

idle_pairs : asked (codes "--pairs=9" ∷ codes "--disk=a" ∷ []) ≡ refused
idle_pairs = refl

pairs_with_a_size : asked (codes "--segments=9" ∷ codes "--create" ∷ codes "--pairs=9" ∷ []) ≡ refused
pairs_with_a_size = refl

a_flag_twice : asked (codes "--create" ∷ codes "--create" ∷ []) ≡ refused
a_flag_twice = refl
