-- The result of `clap` for one word of the command line.
use Rattle.std.proofs.Common.{◌≡◌, ◌∙◌, ◌==◌, ◌&&◌, ◌||◌, not, ap, refl, sym, subst, ℕ, Bool, true, false, cond, List, [], ◌∷◌, length, Option, Some, None, codes}
use Rattle.std.specs.Prelude.{slice_get}
use Rattle.std.specs.List.{AllByRecursion, list_any}
use Rattle.std.specs.Option.{option_map_or}
use Rattle.std.specs.Str.{bytes_eq, chars}
use Rattle.std.proofs.lemmas.Slice.Eq.{bytes_eq-Decides}
use Rattle.clap.specs.Lexer.{long_of, short_of}
use Rattle.clap.specs.Kinds.{Kinds, or_else, value_kinds}
use Rattle.clap.specs.Walk.{Held, Row, Rule, Step, Waiting, Walk, after_flag, after_step, arg_by_id, arg_by_index, arg_by_long, arg_by_short, bundle_met, bundle_step, has_row, idle, long_met, long_or_other, option, plain as not_flag, plain_word, positional, settled_rows, subcommand_met, subcommand_or_other, short_or_plain, takes_values, trailing, used, walked, with_values, without}
use Rattle.clap.specs.Simple.{Shape, built, filled, help_rule, new_rule}
use Rattle.clap.specs.Values.{reading_of}
use Rattle.clap.specs.Faults.{bundle_fault, bundle_step_fault, flag_word_fault, flags_fault, long_fault, option_fault, other_fault, settle_fault, short_fault, step_fault, turn_fault, use_fault}
use Rattle.clap.specs.declared.error.kind.ErrorKind.{ErrorKind}
use Rattle.clap.specs.declared.error.kind.ErrorKind.TheVariants.{ArgumentConflict, DisplayHelp, TooManyValues, UnknownArgument, ValueValidation}
use Rattle.clap.specs.declared.builder.value_parser.Reading.{Reading}
use Rattle.clap.specs.declared.builder.value_parser.Reading.TheVariants.{AsWritten, WithoutMinus}
use Rattle.clap.specs.declared.builder.value_parser.ValueParser.{ValueParser}
use Rattle.clap.specs.declared.parser.matches.ValueSource.TheVariants.{CommandLine}
use Rattle.bwsh.specs.Options.{Sort, awaits, gives, asks, ends, plain, unknown, Text, fits, flag_names, is_number, is_refusal, sort_by, sort_of, sort_of_flag, sort_of_long, sort_of_short, takes_nothing, takes_number, takes_text}
use Rattle.bwsh.specs.CommandLine.{built_flag, bwsh, reading_at}

-- the rule of `--help`
abbrev pub built_help : Rule
built_help = filled help_rule

-- what holds for each of some names holds for any one of them
pub any_of : (P : Text → Type 0) (names : List Text) → AllByRecursion P names → (name : Text) → list_any (λ known. bytes_eq known name) names ≡ true → P name
any_of P [] all name e = absurd (cc)
any_of P (known ∷ rest) all name e = go (bytes_eq known name) refl e (any_of P rest all.1 name)
  where
    go : (b : Bool) → bytes_eq known name ≡ b → (b || list_any (λ other. bytes_eq other name) rest) ≡ true
        → (list_any (λ other. bytes_eq other name) rest ≡ true → P name) → P name
    go true hit any later = subst P ((bytes_eq-Decides known name).0 hit) all.0
    go false other any later = later any

-- an option without a value takes no number and no text
pub no_number : (name : Text) → takes_nothing name ≡ true → takes_number name ≡ false
no_number = any_of (λ name. takes_number name ≡ false) flag_names (refl, (refl, (refl, (refl, (refl, (refl, (refl, tt)))))))

no_text : (name : Text) → takes_nothing name ≡ true → takes_text name ≡ false
no_text = any_of (λ name. takes_text name ≡ false) flag_names (refl, (refl, (refl, (refl, (refl, (refl, (refl, tt)))))))

-- an option that takes a text, with these defaults and this check
abbrev pub taking : Text → List Text → ValueParser → Rule
taking name defaults parser = record (filled (new_rule name)) {
  long = Some name;
  value_names = 1;
  defaults = defaults;
  parser = Some parser;
}

-- an option that takes a text has its name, and checks and parses its text correctly
pub record TakesText (c : List Rule) (name : Text) : Type 0 where
  pub defaults : List Text
  pub parser : ValueParser
  pub checks : (text : Text) → value_kinds false parser text ≡ cond (fits name text) [] (ValueValidation ∷ [])
  pub reads : reading_of parser ≡ reading_at name
  pub by_long : arg_by_long c name ≡ Some (taking name defaults parser)
  pub by_id : arg_by_id c name ≡ Some (taking name defaults parser)

-- these are the options of the command line
pub record HasOptions (c : List Rule) : Type 0 where
  pub known : (name : Text) → takes_text name ≡ true → TakesText c name
  pub flags : (name : Text) → takes_nothing name ≡ true → arg_by_long c name ≡ Some (built_flag name)
  pub help : arg_by_long c (codes "help") ≡ Some built_help
  pub others : (name : Text) → takes_text name ≡ false → takes_nothing name ≡ false → bytes_eq (codes "help") name ≡ false → arg_by_long c name ≡ None
  pub short : (x : ℕ) → arg_by_short c x ≡ cond (104 == x) (Some built_help) None
  pub positional : arg_by_index c 1 ≡ None

-- the fault of an option with this text
abbrev pub given_fault : Text → Text → List Row → Kinds
given_fault name text rows = cond (has_row name rows) (ArgumentConflict ∷ []) (cond (fits name text) [] (ValueValidation ∷ []))

-- and what is found then
abbrev pub given_rows : Text → Text → List Row → List Row
given_rows name text rows = with_values name (reading_at name) CommandLine (text ∷ []) (without name rows)

-- the command line with these rules
abbrev pub shape : List Rule → Shape
shape c = record (built bwsh).top { rules = c }

abbrev pub Pending : Type 0
Pending = Option (Text × List Text)

abbrev pub held : List Row → Pending → Held
held rows pen = record { rows = rows; pending = pen; skip = 0 }

abbrev pub standing : List Row → Pending → Waiting → Bool → Walk
standing rows pen waiting is_trailing = record { held = held rows pen; waiting = waiting; position = 1; is_trailing = is_trailing; stopped = None }

-- if the option has no value, this is its text
abbrev pub HasText : Text → Text → Type 0
HasText name text = takes_nothing name ≡ true → text ≡ codes "true"

-- a word of this kind has this fault, and gives this state of the walk
abbrev pub TurnIs : List Rule → List Row → Pending → Waiting → Text → Kinds → Walk → Sort → Type 0
TurnIs c rows pen waiting word kinds after (awaits name) = (takes_text name ≡ true) × (kinds ≡ settle_fault c false (held rows pen))
    × (after ≡ standing (settled_rows c pen rows) (Some (name, [])) (option name) false)
TurnIs c rows pen waiting word kinds after (gives name text) = HasText name text
    × (kinds ≡ or_else (settle_fault c false (held rows pen)) (given_fault name text (settled_rows c pen rows)))
    × (after ≡ standing (given_rows name text (settled_rows c pen rows)) None idle false)
TurnIs c rows pen waiting word kinds after asks = kinds ≡ or_else (settle_fault c false (held rows pen)) (DisplayHelp ∷ [])
TurnIs c rows pen waiting word kinds after ends = (kinds ≡ []) × (after ≡ standing rows pen waiting true)
TurnIs c rows pen waiting word kinds after plain =
    let met = plain_word c waiting word (held rows pen) in
    (kinds ≡ step_fault (shape c) 1 met.0 met.1) × (after ≡ after_step c word (standing rows pen waiting false) met.0 met.1)
TurnIs c rows pen waiting word kinds after unknown = (kind : ErrorKind) × (kinds ≡ kind ∷ []) × (is_refusal kind ≡ true)

pub or_else-none : (ks : Kinds) → or_else ks [] ≡ ks
or_else-none [] = refl
or_else-none (k ∷ ks) = refl

pub or_else-assoc : (a b c : Kinds) → or_else (or_else a b) c ≡ or_else a (or_else b c)
or_else-assoc [] b c = refl
or_else-assoc (k ∷ ks) b c = refl

-- what comes after a fault does not matter
pub or_else-last : (ks : Kinds) (k : ErrorKind) (next : Kinds) → or_else (or_else ks (k ∷ [])) next ≡ or_else ks (k ∷ [])
or_else-last [] k next = refl
or_else-last (x ∷ ks) k next = refl

-- an option that takes a text is not one without a value
pub not_flag_text : (name text : Text) → takes_text name ≡ true → HasText name text
not_flag_text name text takes hit =
    let bad : false ≡ true = sym (no_text name hit) ∙ takes in
    absurd (cc)

-- an option that was given before, or else a text that is invalid for it
repeat_or : (b d : Bool) → or_else (cond (b && true) (ArgumentConflict ∷ []) []) (or_else (cond d [] (ValueValidation ∷ [])) [])
    ≡ cond b (ArgumentConflict ∷ []) (cond d [] (ValueValidation ∷ []))
repeat_or false false = refl
repeat_or false true = refl
repeat_or true d = refl

-- one use of an option with a text
pub use_is : (c : List Rule) (name text : Text) (k : TakesText c name) (rows : List Row)
    → use_fault false (taking name k.defaults k.parser) (text ∷ []) rows ≡ given_fault name text rows
use_is c name text k rows =
    ap (λ (ks : Kinds). or_else (cond (has_row name rows && true) (ArgumentConflict ∷ []) []) (or_else ks [])) (k.checks text)
    ∙ repeat_or (has_row name rows) (fits name text)

-- and what is found then
pub used_is : (c : List Rule) (name text : Text) (k : TakesText c name) (rows : List Row)
    → used (taking name k.defaults k.parser) (text ∷ []) rows ≡ given_rows name text rows
used_is c name text k rows = ap (λ (how : Reading). with_values name how CommandLine (text ∷ []) (without name rows)) k.reads

-- one use of an option without a value
flag_fault : (name : Text) → takes_nothing name ≡ true → (rows : List Row) → use_fault false (built_flag name) [] rows ≡ given_fault name (codes "true") rows
flag_fault name is rows =
    repeat_or (has_row name rows) true
    ∙ ap (λ (b : Bool). cond (has_row name rows) (ArgumentConflict ∷ []) (cond (not b || is_number (codes "true")) [] (ValueValidation ∷ []))) (sym (no_number name is))

module _ (c : List Rule) (facts : HasOptions c) (rows : List Row) (pen : Pending) (waiting : Waiting) (word : Text) where
  abbrev here : Held
  here = held rows pen

  -- the fault and the walk of a word with this result
  abbrev fault_with : Kinds → Held × Step → Kinds
  fault_with kinds met = or_else kinds (step_fault (shape c) 1 met.0 met.1)

  abbrev walk_with : Held × Step → Walk
  walk_with met = after_step c word (standing rows pen waiting false) met.0 met.1

  abbrev Turn : Kinds → Held × Step → Sort → Type 0
  Turn kinds met sort = TurnIs c rows pen waiting word (fault_with kinds met) (walk_with met) sort

  -- the result of a flag with this rule, if there is one, and this text, if there is one
  abbrev met_long : Option Rule → Option Text → Held × Step
  met_long o v = after_flag c waiting word (long_met c o v here).0 (long_met c o v here).1

  -- `--name=text` of an option
  gives_turn : (name text : Text) (k : TakesText c name) (o : Option Rule) → takes_text name ≡ true → Some (taking name k.defaults k.parser) ≡ o
      → Turn (long_fault c false o (Some text) here) (met_long o (Some text)) (gives name text)
  gives_turn name text k o is e =
      let is_synced = settled_rows c pen rows in
      subst (λ (r : Option Rule). Turn (long_fault c false r (Some text) here) (met_long r (Some text)) (gives name text))
      e (
        not_flag_text name text is,
        or_else-none _ ∙ ap (or_else (settle_fault c false here)) (use_is c name text k is_synced),
        ap (λ (rs : List Row). standing rs None idle false) (used_is c name text k is_synced),
      )

  -- `--name` of an option
  awaits_turn : (name : Text) (k : TakesText c name) (o : Option Rule) → takes_text name ≡ true → Some (taking name k.defaults k.parser) ≡ o
      → Turn (long_fault c false o None here) (met_long o None) (awaits name)
  awaits_turn name k o is e =
      subst (λ (r : Option Rule). Turn (long_fault c false r None here) (met_long r None) (awaits name))
      e (is, or_else-none _, refl)

  -- `--name` of an option without a value
  given_turn : (name : Text) (o : Option Rule) → takes_nothing name ≡ true → Some (built_flag name) ≡ o
      → Turn (long_fault c false o None here) (met_long o None) (gives name (codes "true"))
  given_turn name o is e =
      let is_synced = settled_rows c pen rows in
      subst (λ (r : Option Rule). Turn (long_fault c false r None here) (met_long r None) (gives name (codes "true"))) e (
        λ _. refl,
        or_else-none _ ∙ ap (or_else (settle_fault c false here)) (flag_fault name is is_synced),
        ap (λ (b : Bool). standing (with_values name (cond b WithoutMinus AsWritten) CommandLine (codes "true" ∷ []) (without name is_synced)) None idle false) (sym (no_number name is)),
      )

  -- an unknown name
  unknown_turn : (v : Option Text) (o : Option Rule) (met : Held × Step) → None ≡ o → Turn (long_fault c false o v here) met unknown
  unknown_turn v o met e = subst (λ (r : Option Rule). Turn (long_fault c false r v here) met unknown) e (UnknownArgument, refl, refl)

  -- a flag with a text
  unneeded_turn : (text : Text) (o : Option Rule) (flag : Rule) (met : Held × Step) → takes_values flag ≡ false → Some flag ≡ o
      → Turn (long_fault c false o (Some text) here) met unknown
  unneeded_turn text o flag met takes_none e =
      subst (λ (r : Option Rule). Turn (long_fault c false r (Some text) here) met unknown) e (
        TooManyValues,
        ap (λ (b : Bool). fault_with (cond b (option_fault c false flag (Some text) here) (TooManyValues ∷ [])) met) takes_none,
        refl,
      )

  -- `--help`
  help_turn : (o : Option Rule) (met : Held × Step) → Some built_help ≡ o → Turn (long_fault c false o None here) met asks
  help_turn o met e = subst (λ (r : Option Rule). Turn (long_fault c false r None here) met asks) e (or_else-last _ DisplayHelp _)

  flag_at : (flag name : Text) (a : Rule) → bytes_eq flag name ≡ true → arg_by_long c flag ≡ Some a → Some a ≡ arg_by_long c name
  flag_at flag name a hit known = subst (λ (n : Text). Some a ≡ arg_by_long c n) ((bytes_eq-Decides flag name).0 hit) (sym known)

  other_with : (name text : Text) (b d : Bool) (met : Held × Step) → takes_nothing name ≡ b → bytes_eq (codes "help") name ≡ d → takes_text name ≡ false
      → Turn (long_fault c false (arg_by_long c name) (Some text) here) met unknown
  other_with name text true d met hit other is = unneeded_turn text (arg_by_long c name) (built_flag name) met refl (sym (facts.flags name hit))
  other_with name text false true met other hit is = unneeded_turn text (arg_by_long c name) built_help met refl (flag_at (codes "help") name built_help hit facts.help)
  other_with name text false false met no_flag no_help is = unknown_turn (Some text) (arg_by_long c name) met (sym (facts.others name is no_flag no_help))

  other_alone : (name : Text) (b d : Bool) → takes_nothing name ≡ b → bytes_eq (codes "help") name ≡ d → takes_text name ≡ false
      → Turn (long_fault c false (arg_by_long c name) None here) (met_long (arg_by_long c name) None) (cond b (gives name (codes "true")) (cond d asks unknown))
  other_alone name true d hit other is = given_turn name (arg_by_long c name) hit (sym (facts.flags name hit))
  other_alone name false true other hit is = help_turn (arg_by_long c name) (met_long (arg_by_long c name) None) (flag_at (codes "help") name built_help hit facts.help)
  other_alone name false false no_flag no_help is =
      unknown_turn None (arg_by_long c name) (met_long (arg_by_long c name) None) (sym (facts.others name is no_flag no_help))

  long_with : (name text : Text) (b : Bool) → takes_text name ≡ b
      → Turn (long_fault c false (arg_by_long c name) (Some text) here) (met_long (arg_by_long c name) (Some text)) (cond b (gives name text) unknown)
  long_with name text true is = let k = facts.known name is in gives_turn name text k (arg_by_long c name) is (sym k.by_long)
  long_with name text false is =
      other_with name text (takes_nothing name) (bytes_eq (codes "help") name) (met_long (arg_by_long c name) (Some text)) refl refl is

  long_alone : (name : Text) (b : Bool) → takes_text name ≡ b
      → Turn (long_fault c false (arg_by_long c name) None here) (met_long (arg_by_long c name) None) (cond b (awaits name) (sort_of_flag name))
  long_alone name true is = let k = facts.known name is in awaits_turn name k (arg_by_long c name) is (sym k.by_long)
  long_alone name false is = other_alone name (takes_nothing name) (bytes_eq (codes "help") name) refl refl is

  long_turn : (name : Text) (v : Option Text)
      → Turn (long_fault c false (arg_by_long c name) v here) (met_long (arg_by_long c name) v) (sort_of_long name v)
  long_turn name (Some text) = long_with name text (takes_text name) refl
  long_turn name None = long_alone name (takes_text name) refl

  -- `-h`, alone or before more characters
  short_by : (b : Bool) (o : Option Rule) (rest : Text) (next : Held → Kinds) (met : Held × Step) → cond b (Some built_help) None ≡ o
      → Turn (short_fault c false o rest here next) met (cond b asks unknown)
  short_by true o rest next met e =
      subst (λ (r : Option Rule). Turn (short_fault c false r rest here next) met asks)
      e (ap (λ (ks : Kinds). or_else ks (step_fault (shape c) 1 met.0 met.1)) (or_else-last _ DisplayHelp _) ∙ or_else-last _ DisplayHelp _)
  short_by false o rest next met e = subst (λ (r : Option Rule). Turn (short_fault c false r rest here next) met unknown) e (UnknownArgument, refl, refl)

  first_turn : (o : Option ℕ) (k : ℕ) (flags : Text)
      → Turn (bundle_step_fault c false o flags 0 here (flags_fault c false k))
      (after_flag c waiting word (bundle_step c o flags 0 not_flag here (bundle_met c k)).0 (bundle_step c o flags 0 not_flag here (bundle_met c k)).1)
      (sort_of_short o)
  first_turn None k flags = (refl, refl)
  first_turn (Some x) k flags = short_by (104 == x) (arg_by_short c x) _ _ _ (sym (facts.short x))

  short_turn : (s : Option Text) → Turn (option_map_or (λ flags. bundle_fault c false flags here) s []) (short_or_plain c waiting word s here) (sort_by None s)
  unfolding flags_fault bundle_met chars
  short_turn None = (refl, refl)
  short_turn (Some []) = (refl, refl)
  short_turn (Some (x ∷ xs)) = first_turn (slice_get (chars (x ∷ xs)) 0) (length xs) (x ∷ xs)

  flag_turn : (l : Option (Text × Option Text)) → Turn (flag_word_fault c false l word here) (long_or_other c waiting word l here) (sort_by l (short_of word))
  flag_turn (Some p) = long_turn p.0 p.1
  flag_turn None = short_turn (short_of word)

  word_turn : (b : Bool) → Turn (cond b [] (flag_word_fault c false (long_of word) word here)) (cond b (here, trailing 1) (long_or_other c waiting word (long_of word) here))
      (cond b ends (sort_by (long_of word) (short_of word)))
  word_turn true = (refl, refl)
  word_turn false = flag_turn (long_of word)

  no_subcommand : (w : Waiting) → None ≡ subcommand_met [] w word
  no_subcommand idle = refl
  no_subcommand (option name) = refl
  no_subcommand positional = refl

  -- the result of a word if there was no `--`
  pub turn_is : TurnIs c rows pen waiting word (turn_fault (shape c) [] (standing rows pen waiting false) word) (walked c [] (standing rows pen waiting false) word) (sort_of word)
  unfolding walked
  turn_is = subst (λ (o : Option Text). Turn (other_fault (shape c) o word here) (subcommand_or_other c o waiting 1 word here) (sort_of word))
      (no_subcommand waiting) (word_turn (bytes_eq word (codes "--")))
