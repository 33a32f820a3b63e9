-- The command line of `bwsh` in terms of `clap`.
use Rattle.std.specs.Prelude.{◌≡◌, true, List, [], ◌∷◌, ◌++◌, map, Some, None, codes, pos, if◌then◌else◌}
use Rattle.std.specs.List.{All, fold}
use Rattle.clap.specs.Words.{App, Row, Rule, new_app, new_rule, with_rule}
use Rattle.clap.specs.Walk.{with_default}
use Rattle.clap.specs.Simple.{filled, on_top}
use Rattle.clap.specs.declared.builder.action.ArgAction.TheVariants.{SetTrue}
use Rattle.clap.specs.declared.builder.value_parser.ValueParser.TheVariants as vp
use Rattle.clap.specs.declared.builder.value_parser.Reading.{Reading}
use Rattle.clap.specs.declared.builder.value_parser.Reading.TheVariants.{AsWritten, WithoutMinus}
use Rattle.clap.specs.declared.parser.matches.ValueSource.TheVariants.{CommandLine}
use Rattle.bwsh.specs.Options.{Text, Given, fits, flag_names, path_names, takes_nothing, takes_number}

-- an option that takes a number
abbrev pub number_rule : Text → Text → Rule
number_rule name default = record (new_rule name) {
  long = Some name;
  value_names = 1;
  defaults = default ∷ [];
  parser = Some (vp.Signed (pos 0) (pos 4294967295));
}

-- an option that takes any text
abbrev pub text_rule : Text → Rule
text_rule name = record (new_rule name) { long = Some name; value_names = 1 }

-- an option that takes none
abbrev pub flag_rule : Text → Rule
flag_rule name = record (new_rule name) { long = Some name; action = Some SetTrue }

-- the program without its options
abbrev pub plain_bwsh : App
plain_bwsh = on_top (λ s. record s { no_binary_name = true }) (new_app (codes "bwsh"))

-- a command line with the options for the settings of a new store
abbrev pub with_settings : App → App
with_settings app = with_rule (with_rule (with_rule (with_rule (with_rule (with_rule (with_rule app
    (number_rule (codes "fan") (codes "16"))) (number_rule (codes "chain") (codes "4")))
    (number_rule (codes "max-key") (codes "64"))) (number_rule (codes "max-value") (codes "256")))
    (number_rule (codes "seg-size") (codes "65536"))) (number_rule (codes "segments") (codes "64")))
    (number_rule (codes "pairs") (codes "0"))

-- with the options for the crew and for the files
abbrev pub with_work : App → App
with_work app = with_rule (with_rule (with_rule (with_rule (with_rule (with_rule (with_rule app
    (number_rule (codes "workers") (codes "1"))) (number_rule (codes "grain") (codes "64")))
    (number_rule (codes "tidy") (codes "0"))) (number_rule (codes "wait") (codes "0"))) (number_rule (codes "max-rows") (codes "0")))
    (text_rule (codes "disk"))) (text_rule (codes "copy-to"))

-- with the options that take no value
abbrev pub with_flags : App → App
with_flags app = with_rule (with_rule (with_rule (with_rule (with_rule (with_rule (with_rule app
    (flag_rule (codes "create"))) (flag_rule (codes "version")))
    (flag_rule (codes "explain"))) (flag_rule (codes "stat"))) (flag_rule (codes "clean-when-full"))) (flag_rule (codes "stream")))
    (flag_rule (codes "progress"))

-- the program with its options
abbrev pub bwsh : App
bwsh = with_rule (with_rule (with_rule (with_rule (with_rule (with_rule (with_rule (with_rule (with_rule (with_rule (with_rule (with_rule (with_rule (with_rule (with_rule (with_rule (with_rule (with_rule (with_rule (with_rule (with_rule plain_bwsh
    (number_rule (codes "fan") (codes "16"))) (number_rule (codes "chain") (codes "4")))
    (number_rule (codes "max-key") (codes "64"))) (number_rule (codes "max-value") (codes "256")))
    (number_rule (codes "seg-size") (codes "65536"))) (number_rule (codes "segments") (codes "64")))
    (number_rule (codes "pairs") (codes "0")))
    (number_rule (codes "workers") (codes "1"))) (number_rule (codes "grain") (codes "64")))
    (number_rule (codes "tidy") (codes "0"))) (number_rule (codes "wait") (codes "0"))) (number_rule (codes "max-rows") (codes "0")))
    (text_rule (codes "disk"))) (text_rule (codes "copy-to"))) (flag_rule (codes "create"))) (flag_rule (codes "version")))
    (flag_rule (codes "explain"))) (flag_rule (codes "stat"))) (flag_rule (codes "clean-when-full"))) (flag_rule (codes "stream")))
    (flag_rule (codes "progress"))

-- the options that take a number, each with the text of its default
abbrev pub number_defaults : List (Text × Text)
number_defaults = (codes "fan", codes "16") ∷ (codes "chain", codes "4") ∷ (codes "max-key", codes "64")
    ∷ (codes "max-value", codes "256") ∷ (codes "seg-size", codes "65536") ∷ (codes "segments", codes "64")
    ∷ (codes "pairs", codes "0") ∷ (codes "workers", codes "1") ∷ (codes "grain", codes "64") ∷ (codes "tidy", codes "0") ∷ (codes "wait", codes "0")
    ∷ (codes "max-rows", codes "0") ∷ []

-- an option that takes a number, as it is parsed
abbrev pub built_number : Text × Text → Rule
built_number p = filled (number_rule p.0 p.1)

-- an option that takes a path, as it is parsed
abbrev pub built_path : Text → Rule
built_path name = filled (text_rule name)

-- an option that takes no value, as it is parsed
abbrev pub built_flag : Text → Rule
built_flag name = filled (flag_rule name)

-- all options, as they are parsed
abbrev pub built_rules : List Rule
built_rules = map built_number number_defaults ++ map built_path path_names ++ map built_flag flag_names

-- how the text of an option is parsed
abbrev pub reading_at : Text → Reading
reading_at name = if takes_number name then WithoutMinus else AsWritten

-- the parsed value of an option that was given
abbrev pub given_row : Text × Text → Row
given_row g = record {
  id = g.0;
  values = g.1 ∷ [];
  count = None;
  source = Some CommandLine;
  reading = reading_at g.0;
}

-- all parsed values: those that were given, and the defaults of the others
abbrev pub finished_rows : Given → List Row
finished_rows given = fold with_default (map given_row given) built_rules

-- this can be given: a text that is valid for the option; for an option that takes no value, the text is `true`
abbrev pub IsGivable : Text × Text → Type 0
IsGivable g = (fits g.0 g.1 ≡ true) × (takes_nothing g.0 ≡ true → g.1 ≡ codes "true")

-- each of these can be given
abbrev pub AreGivable : Given → Type 0
AreGivable = All IsGivable
