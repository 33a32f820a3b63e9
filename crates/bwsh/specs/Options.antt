-- The meaning of the words of the command line.
use Rattle.std.specs.Prelude.{◌≡◌, ◌⊎◌, ◌==◌, ◌||◌, ◌&&◌, ◌+◌, ◌*◌, ◌≤◌, ℕ, Bool, true, false, not, List, [], ◌∷◌, ◌++◌, Option, Some, None, if◌then◌else◌, unwrap_or, option_map, find, slice_get, map, string_bytes, String, codes, pos}
use Rattle.std.specs.Bool.{MatchBool}
use Rattle.std.specs.List.{list_any}
use Rattle.std.specs.Str.{bytes_eq, chars}
use Rattle.std.specs.Str.Parse.{digits_value, without_leading_sign}
use Rattle.std.specs.declared.alloc.Global.{Global}
use Rattle.keys.specs.declared.settings.Settings.{Settings}
use Rattle.crew.specs.declared.limits.Crew.{Crew}
use Rattle.clap.specs.Lexer.{long_of, short_of}
use Rattle.clap.specs.ValueTests.{is_signed_in}
use Rattle.clap.specs.declared.error.kind.ErrorKind.{ErrorKind}
use Rattle.clap.specs.declared.error.kind.ErrorKind.TheVariants.{InvalidValue, UnknownArgument, ValueValidation, TooManyValues, ArgumentConflict, DisplayHelp, OutOfMemory}
use Rattle.keys.specs.Bytes.{Bytes}
use Rattle.keys.specs.Limits.{first_bad_field}
use Rattle.keys.specs.LogSize.{room_of_pairs}
use Rattle.bwsh.specs.declared.options.asked.Options.{Options}
use Rattle.bwsh.specs.declared.options.asked.Mode.{Mode}
use Rattle.bwsh.specs.declared.order.Bounds.{Bounds}

-- a text, as its bytes
abbrev pub Text : Type 0
Text = Bytes

-- the words, as text
abbrev pub texts : List (String Global) → List Text
texts = map string_bytes

-- the options that take a number
abbrev pub number_names : List Text
number_names = codes "fan" ∷ codes "chain" ∷ codes "max-key" ∷ codes "max-value" ∷ codes "seg-size" ∷ codes "segments"
    ∷ codes "pairs" ∷ codes "workers" ∷ codes "grain" ∷ codes "tidy" ∷ codes "wait" ∷ codes "max-rows" ∷ []

-- the option takes a number
abbrev pub takes_number : Text → Bool
takes_number name = list_any (λ known. bytes_eq known name) number_names

-- the options that take the path of a file
abbrev pub path_names : List Text
path_names = codes "disk" ∷ codes "copy-to" ∷ []

-- the option takes a path
abbrev pub takes_path : Text → Bool
takes_path name = list_any (λ known. bytes_eq known name) path_names

-- the option takes a text: a number, or the path of a file
abbrev pub takes_text : Text → Bool
takes_text name = takes_number name || takes_path name

-- the options that take nothing
abbrev pub flag_names : List Text
flag_names = codes "create" ∷ codes "version" ∷ codes "explain" ∷ codes "stat" ∷ codes "clean-when-full" ∷ codes "stream"
    ∷ codes "progress" ∷ []

-- the option takes nothing
abbrev pub takes_nothing : Text → Bool
takes_nothing name = list_any (λ known. bytes_eq known name) flag_names

-- the text is an integer from 0 to 4294967295, in digits with an optional sign
abbrev pub is_number : Text → Bool
is_number text = is_signed_in (pos 0) (pos 4294967295) text

-- the text is valid for the option: if the option takes a number, the text is a number
abbrev pub fits : Text → Text → Bool
fits name text = not (takes_number name) || is_number text

-- the number that a text with an optional sign denotes
abbrev pub number_of : Text → ℕ
number_of text = digits_value 10 (without_leading_sign text)

-- the kind of a word: an option whose text is the next word, an option with its text, a request for help, the word `--`, no flag, or an unknown flag
pub data Sort : Type 0 where
  awaits : Text → Sort
  gives : Text → Text → Sort
  asks : Sort
  ends : Sort
  plain : Sort
  unknown : Sort

-- `--name` of an option without text: such an option counts as one with the text `true`
abbrev pub sort_of_flag : Text → Sort
sort_of_flag name = if takes_nothing name then gives name (codes "true") else (if bytes_eq (codes "help") name then asks else unknown)

-- `--name`, or `--name=text`
abbrev pub sort_of_long : Text → Option Text → Sort
sort_of_long name (Some text) = if takes_text name then gives name text else unknown
sort_of_long name None = if takes_text name then awaits name else sort_of_flag name

-- `-x`, by the first character after the hyphen, of which only `h` (104) is known; a text always has one
abbrev pub sort_of_short : Option ℕ → Sort
sort_of_short None = plain
sort_of_short (Some first) = if 104 == first then asks else unknown

-- by the text after two hyphens, or else after one; a word of one hyphen is no flag
abbrev pub sort_by : Option (Text × Option Text) → Option Text → Sort
sort_by (Some long) short = sort_of_long long.0 long.1
sort_by None (Some short) = sort_of_short (slice_get (chars short) 0)
sort_by None None = plain

-- the kind of a word
abbrev pub sort_of : Text → Sort
sort_of word = if bytes_eq word (codes "--") then ends else sort_by (long_of word) (short_of word)

-- the options that were given, each with its text
abbrev pub Given : Type 0
Given = List (Text × Text)

-- the option is among them
abbrev pub is_given : Text → Given → Bool
is_given name given = list_any (λ g. bytes_eq g.0 name) given

-- the result of parsing words: options, help, or a refusal
pub data Asked : Type 0 where
  options : Given → Asked
  help : Asked
  refused : Asked

-- an option gets its text, and the rest has the result `next`; no option may be given twice, or with an invalid text
abbrev pub taken : Text → Text → Given → (Given → Asked) → Asked
taken name text given next = if is_given name given then refused
    else (if fits name text then next (given ++ (name, text) ∷ []) else refused)

-- nothing follows `--`
abbrev pub at_end : List Text → Given → Asked
at_end [] given = options given
at_end (word ∷ rest) given = refused

-- a word when no option is waiting for its text, and a word when an option is, which takes the word as its text
abbrev pub asked_by : Option Text → Sort → Text → List Text → Given → (Option Text → Given → Asked) → Asked
asked_by None (awaits name) word rest given next = next (Some name) given
asked_by None (gives name text) word rest given next = taken name text given (next None)
asked_by None asks word rest given next = help
asked_by None ends word rest given next = at_end rest given
asked_by None plain word rest given next = refused
asked_by None unknown word rest given next = refused
asked_by (Some name) plain word rest given next = taken name word given (next None)
asked_by (Some name) _ word rest given next = refused

-- the result of the words, after these options were given, where this option, if any, is waiting for its text
abbrev pub asked_from : List Text → Option Text → Given → Asked
asked_from [] None given = options given
asked_from [] (Some name) given = refused
asked_from (word ∷ rest) waiting given = asked_by waiting (sort_of word) word rest given (asked_from rest)

-- the number that was given for the option, or this default
abbrev pub number_or : ℕ → Text → Given → ℕ
number_or default name given = unwrap_or (option_map (λ g. number_of g.1) (find (λ g. bytes_eq g.0 name) given)) default

-- the number of pairs for which settings are to be chosen, or 0 if they are not
abbrev pub pairs_of : Given → ℕ
pairs_of given = number_or 0 (codes "pairs") given

-- an option is given for which `--pairs` chooses the number
abbrev pub gives_size : Given → Bool
gives_size given = is_given (codes "fan") given || is_given (codes "chain") given || is_given (codes "seg-size") given || is_given (codes "segments") given

-- a number of pairs can be given: it is 0, or there is a new store or a copy, and no option for which `--pairs` chooses the number
abbrev pub are_usable : ℕ → Bool → Bool → Bool
are_usable pairs is_new has_size = pairs == 0 || is_new && not has_size

-- the options can be given together
abbrev pub go_together : Given → Bool
go_together given = are_usable (pairs_of given) (is_given (codes "create") given || is_given (codes "copy-to") given) (gives_size given)

-- given options that do not go together are refused
abbrev pub together : Asked → Asked
together (options given) = if go_together given then options given else refused
together help = help
together refused = refused

-- the result of parsing the words of the command line
abbrev pub asked : List Text → Asked
asked words = together (asked_from words None [])

-- the settings that were given
abbrev pub settings_of : Given → Settings
settings_of given = record {
  fan = number_or 16 (codes "fan") given;
  chain = number_or 4 (codes "chain") given;
  max_key = number_or 64 (codes "max-key") given;
  max_value = number_or 256 (codes "max-value") given;
  seg_size = number_or 65536 (codes "seg-size") given;
  segments = number_or 64 (codes "segments") given;
}

-- settings for this many pairs, with keys and values of at most these lengths: if they are in range, the log has room for the pairs, and for three more
-- segments
abbrev pub AreForPairs : ℕ → ℕ → ℕ → Settings → Type 0
AreForPairs pairs key value settings =
    (settings.max_key ≡ key) × (settings.max_value ≡ value)
    × (first_bad_field settings ≡ None → room_of_pairs pairs key value + 3 * settings.seg_size ≤ settings.segments * settings.seg_size)

-- the settings that were given, or settings for the number of pairs that was given
abbrev pub AreAsked : Given → Settings → Type 0
AreAsked given settings =
    MatchBool (pairs_of given == 0) (settings ≡ settings_of given)
    (AreForPairs (pairs_of given) (settings_of given).max_key (settings_of given).max_value settings)

-- the crew that was given
abbrev pub crew_of : Given → Crew
crew_of given = record { workers = number_or 1 (codes "workers") given; grain = number_or 64 (codes "grain") given }

-- the path that was given for the option, if one was
abbrev pub path_of : Text → Given → Option Text
path_of name given = option_map (λ g. g.1) (find (λ g. bytes_eq g.0 name) given)

-- the mode that was given
abbrev pub mode_of : Given → Mode
mode_of given = record {
  version = is_given (codes "version") given;
  explain = is_given (codes "explain") given;
  stat = is_given (codes "stat") given;
  clean_when_full = is_given (codes "clean-when-full") given;
  stream = is_given (codes "stream") given;
  tidy = number_or 0 (codes "tidy") given;
  wait = number_or 0 (codes "wait") given;
  max_rows = number_or 0 (codes "max-rows") given;
  progress = is_given (codes "progress") given;
}

-- the bounds of the batches of a session in this mode
abbrev pub bounds_of : Mode → Bounds
bounds_of mode = record { is_stream = mode.stream; max_rows = mode.max_rows }

-- what words ask for: the six settings; the crew; the file of the store, if there is one; whether that file is created; the new file to which the
-- store is copied, if there is one; and the mode of the session
pub record Request : Type 0 where
  pub settings : Settings
  pub crew : Crew
  pub disk : Option Text
  pub create : Bool
  pub copy_to : Option Text
  pub mode : Mode

-- the given options ask for this, with these settings
abbrev pub request_by : Given → Settings → Request
request_by given settings = record {
  settings = settings;
  crew = crew_of given;
  disk = path_of (codes "disk") given;
  create = is_given (codes "create") given;
  copy_to = path_of (codes "copy-to") given;
  mode = mode_of given;
}

-- the words ask for these
abbrev pub AsksFor : List Text → Request → Type 0
AsksFor words request = (given : Given) × (asked words ≡ options given) × AreAsked given request.settings × (request ≡ request_by given request.settings)

-- the options of the code, as text
abbrev pub request_of : Options → Request
request_of o = record {
  settings = o.settings;
  crew = o.crew;
  disk = option_map string_bytes o.disk;
  create = o.create;
  copy_to = option_map string_bytes o.copy_to;
  mode = o.mode;
}

-- the settings of the copy that words ask for, if they ask for one: those of the command line
abbrev pub copy_of : Request → Option Settings
copy_of request = option_map (λ path. request.settings) request.copy_to

-- the words ask for help
abbrev pub AsksForHelp : List Text → Type 0
AsksForHelp words = asked words ≡ help

-- the words ask for the version
abbrev pub AsksForVersion : List Text → Type 0
AsksForVersion words = (request : Request) × AsksFor words request × (request.mode.version ≡ true)

-- the words ask for an explanation of the end
abbrev pub AsksToExplain : List Text → Type 0
AsksToExplain words = (request : Request) × AsksFor words request × (request.mode.explain ≡ true)

-- the words ask for a stream
abbrev pub AsksToStream : List Text → Type 0
AsksToStream words = (request : Request) × AsksFor words request × (request.mode.stream ≡ true)

-- in this mode a session writes to standard error while it runs
abbrev pub reports : Mode → Bool
reports mode = mode.progress || (mode.stream && mode.explain)

-- the words ask for such a mode
abbrev pub AsksForReports : List Text → Type 0
AsksForReports words = (request : Request) × AsksFor words request × (reports request.mode ≡ true)

-- the words only ask for a text to be printed, and nothing is read: the help, or the version
abbrev pub AsksForText : List Text → Type 0
AsksForText words = AsksForHelp words ⊎ AsksForVersion words

-- the words are refused
abbrev pub AreRefused : List Text → Type 0
AreRefused words = asked words ≡ refused

-- the kind of an error that reports what is wrong with the words
abbrev pub is_refusal : ErrorKind → Bool
is_refusal InvalidValue = true
is_refusal UnknownArgument = true
is_refusal ValueValidation = true
is_refusal TooManyValues = true
is_refusal ArgumentConflict = true
is_refusal _ = false

-- an error of this kind is possible for the words: an allocation failed, help was asked for, or the words are refused
abbrev pub IsRightKind : List Text → ErrorKind → Type 0
IsRightKind words kind = (kind ≡ OutOfMemory)
    ⊎ ((kind ≡ DisplayHelp) × AsksForHelp words)
    ⊎ ((is_refusal kind ≡ true) × AreRefused words)
