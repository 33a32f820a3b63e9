-- How a line of a batch file is parsed.
use Rattle.std.specs.Prelude.{ℕ, Bool, ◌&&◌, List, [], ◌∷◌, Option, Some, None, Result, Ok, Err, codes, length, take, nat_eq, nat_lt, if◌then◌else◌}
use Rattle.std.specs.List.{starts_with}
use Rattle.std.specs.Option.{ok_or, option_map, option_zip, unwrap_or}
use Rattle.std.specs.Str.{bytes_eq}
use Rattle.std.specs.declared.alloc.Global.{Global}
use Rattle.keys.specs.Bytes.{Bytes}
use Rattle.keys.specs.declared.command.Command.{Command}
use Rattle.keys.specs.declared.command.Command.TheVariants.{Get, Put, Add, Del, Scan, Wipe}
use Rattle.bwsh.specs.declared.line.Line.{Line}
use Rattle.bwsh.specs.declared.line.Line.TheVariants.{Blank, Go, Bad}
use Rattle.bwsh.specs.declared.line.Line.TheVariants as line_variants
use Rattle.bwsh.specs.declared.order.Order.TheVariants.{Flush, Clean, Upgrade, Verify, Stat, Copy, Tidy, Back, Prefix, Help}
use Rattle.bwsh.specs.declared.line.Why.{Why}
use Rattle.bwsh.specs.declared.line.Why.TheVariants.{UnknownCommand, WordCount, BadToken, BadNumber, TooLong, TooManyRows}
use Rattle.bwsh.specs.Number.{number_in}
use Rattle.bwsh.specs.Token.{token_bytes}
use Rattle.bwsh.specs.Words.{words_of}

-- why a line is bad, as text
abbrev pub why_text : Why → Bytes
why_text UnknownCommand = codes "unknown command"
why_text WordCount = codes "wrong number of words"
why_text BadToken = codes "bad token"
why_text BadNumber = codes "bad number"
why_text TooLong = codes "line too long"
why_text TooManyRows = codes "too many rows"

-- the key in these words
abbrev pub only_key : List Bytes → Result (Bytes) Why
only_key (key ∷ []) = ok_or (token_bytes key) BadToken
only_key _ = Err WordCount

-- the key and the value in these words
abbrev pub key_and_value : List Bytes → Result (Bytes × Bytes) Why
key_and_value (key ∷ value ∷ []) = ok_or (option_zip (token_bytes key) (token_bytes value)) BadToken
key_and_value _ = Err WordCount

-- the line of this command, or the bad line for this reason
abbrev pub command_or_bad : {X : Type 0} → (X → Command Global) → Result X Why → Line
command_or_bad command (Ok x) = Line.Command (command x)
command_or_bad command (Err why) = Bad why

-- the upper bound that a token encodes, if it is valid: a single star means no bound
abbrev pub bound_of : Bytes → Option (Option Bytes)
bound_of token = if bytes_eq token (codes "*") then Some None else option_map (λ key. Some key) (token_bytes token)

-- a lower bound, an upper bound and a limit, if each of them is valid
abbrev pub range_by : Option Bytes → Option (Option Bytes) → Option ℕ → Result (Bytes × Option Bytes × ℕ) Why
range_by None hi limit = Err BadToken
range_by (Some lo) None limit = Err BadToken
range_by (Some lo) (Some hi) None = Err BadNumber
range_by (Some lo) (Some hi) (Some limit) = Ok (lo, hi, limit)

-- the bounds and the limit in these words
abbrev pub range_and_limit : List Bytes → Result (Bytes × Option Bytes × ℕ) Why
range_and_limit (lo ∷ hi ∷ limit ∷ []) = range_by (token_bytes lo) (bound_of hi) (number_in limit)
range_and_limit _ = Err WordCount

-- the line of these words after `scan`
abbrev pub parse_scan : List Bytes → Line
parse_scan following = command_or_bad (λ (lo, hi, limit). Scan lo hi limit) (range_and_limit following)

-- the line of a lower bound and an upper bound after `wipe`, if each of them is valid
abbrev pub wipe_by : Option Bytes → Option (Option Bytes) → Line
wipe_by None hi = Bad BadToken
wipe_by (Some lo) None = Bad BadToken
wipe_by (Some lo) (Some hi) = Line.Command (Wipe lo hi)

-- the line of these words after `wipe`
abbrev pub parse_wipe : List Bytes → Line
parse_wipe (lo ∷ hi ∷ []) = wipe_by (token_bytes lo) (bound_of hi)
parse_wipe _ = Bad WordCount

-- this line, if no words follow
abbrev pub if_alone : Line → List Bytes → Line
if_alone parsed [] = parsed
if_alone parsed _ = Bad WordCount

-- the line of this word and the words after it, if the word is not a command
abbrev pub parse_order : Bytes → List Bytes → Line
parse_order word following =
    if bytes_eq word (codes "go") then if_alone Go following else (
    if bytes_eq word (codes "flush") then if_alone (line_variants.Order Flush) following else (
    if bytes_eq word (codes "clean") then if_alone (line_variants.Order Clean) following else (
    if bytes_eq word (codes "upgrade") then if_alone (line_variants.Order Upgrade) following else (
    if bytes_eq word (codes "verify") then if_alone (line_variants.Order Verify) following else
    Bad UnknownCommand))))

-- the line of a path and a number of segments after `.copy`, if each of them is valid
abbrev pub copy_by : Option Bytes → Option (Option ℕ) → Line
copy_by None segments = Bad BadToken
copy_by (Some path) None = Bad BadNumber
copy_by (Some path) (Some segments) = line_variants.Order (Copy path segments)

-- the line of these words after `.copy`
abbrev pub parse_copy : List Bytes → Line
parse_copy (path ∷ []) = copy_by (token_bytes path) (Some None)
parse_copy (path ∷ segments ∷ []) = copy_by (token_bytes path) (option_map (λ n. Some n) (number_in segments))
parse_copy _ = Bad WordCount

-- the line of these words after `.tidy`
abbrev pub tidy_by : Option ℕ → Line
tidy_by None = Bad BadNumber
tidy_by (Some most) = line_variants.Order (Tidy most)

abbrev pub parse_tidy : List Bytes → Line
parse_tidy (most ∷ []) = tidy_by (number_in most)
parse_tidy _ = Bad WordCount

-- the line of these words after `.back`: they are those after `scan`
abbrev pub back_of : Result (Bytes × Option Bytes × ℕ) Why → Line
back_of (Ok (lo, hi, limit)) = line_variants.Order (Back lo hi limit)
back_of (Err why) = Bad why

abbrev pub parse_back : List Bytes → Line
parse_back following = back_of (range_and_limit following)

-- the line of a prefix and a limit after `.prefix`, if each of them is valid
abbrev pub prefix_by : Option Bytes → Option ℕ → Line
prefix_by None limit = Bad BadToken
prefix_by (Some bytes) None = Bad BadNumber
prefix_by (Some bytes) (Some limit) = line_variants.Order (Prefix bytes limit)

-- the line of these words after `.prefix`
abbrev pub parse_prefix : List Bytes → Line
parse_prefix (bytes ∷ limit ∷ []) = prefix_by (token_bytes bytes) (number_in limit)
parse_prefix _ = Bad WordCount

-- the line of this word, which begins with a dot, and the words after it
abbrev pub parse_dot : Bytes → List Bytes → Line
parse_dot word following =
    if bytes_eq word (codes ".stat") then if_alone (line_variants.Order Stat) following else (
    if bytes_eq word (codes ".help") then if_alone (line_variants.Order Help) following else (
    if bytes_eq word (codes ".tidy") then parse_tidy following else (
    if bytes_eq word (codes ".copy") then parse_copy following else (
    if bytes_eq word (codes ".back") then parse_back following else (
    if bytes_eq word (codes ".prefix") then parse_prefix following else
    Bad UnknownCommand)))))

-- the line of this word and the words after it, if the word is that of a command
abbrev pub parse_command : Bytes → List Bytes → Option Line
parse_command word following =
    if bytes_eq word (codes "put") then Some (command_or_bad (λ (k, v). Put k v) (key_and_value following)) else (
    if bytes_eq word (codes "add") then Some (command_or_bad (λ (k, v). Add k v) (key_and_value following)) else (
    if bytes_eq word (codes "get") then Some (command_or_bad Get (only_key following)) else (
    if bytes_eq word (codes "del") then Some (command_or_bad Del (only_key following)) else (
    if bytes_eq word (codes "scan") then Some (parse_scan following) else (
    if bytes_eq word (codes "wipe") then Some (parse_wipe following) else
    None)))))

-- the line of another word; words that begin with a dot are known only in a stream
abbrev pub parse_other : Bool → Bytes → List Bytes → Line
parse_other dots word following = if dots && starts_with nat_eq word (codes ".") then parse_dot word following else parse_order word following

-- the line of this word and the words after it
abbrev pub parse_by : Bool → Bytes → List Bytes → Line
parse_by dots word following = unwrap_or (parse_command word following) (parse_other dots word following)

-- the line of these words: blank if there are none, or if the first word begins with `#`
abbrev pub parse_words : Bool → List Bytes → Line
parse_words dots [] = Blank
parse_words dots (word ∷ following) = if starts_with nat_eq word (codes "#") then Blank else parse_by dots word following

-- the most bytes of a line in a stream, unless it is a comment; a line of the longest words, with each byte escaped, has fewer
abbrev pub most_in_line : ℕ
most_in_line = 16384

-- a line with more bytes, of which the first ones have these words: a comment, or a bad line
abbrev pub parse_long : List Bytes → Line
parse_long [] = Bad TooLong
parse_long (word ∷ following) = if starts_with nat_eq word (codes "#") then Blank else Bad TooLong

-- the parsed line, in a stream or not
abbrev pub parse_line : Bool → Bytes → Line
parse_line dots line = if dots && nat_lt most_in_line (length line) then parse_long (words_of (take most_in_line line)) else parse_words dots (words_of line)
