-- The meaning of the words of the command line is the result of `clap`, or its reason to refuse them.
use Rattle.std.proofs.Common.{◌≡◌, ◌∙◌, ◌⊎◌, ◌++◌, ◌||◌, ◌&&◌, ◌==◌, not, ap, refl, sym, subst, inl, inr, ℕ, Bool, true, false, cond, List, [], ◌∷◌, map, Option, Some, None, Result, Ok, Err, IfErr, IsErrAnd, codes}
use Rattle.std.specs.Prelude.{is_some, pos}
use Rattle.std.specs.List.{fold, list_all, list_any}
use Rattle.std.specs.Str.{bytes_eq}
use Rattle.std.proofs.lemmas.Slice.Eq.{bytes_eq-Decides}
use Rattle.clap.specs.Kinds.{HasKind, IsAmong, Kinds, or_else}
use Rattle.clap.specs.Walk.{Held, Row, Rule, arg_by_id, arg_by_long, has_row, idle, nothing_held, settled, walk, walk_from, with_default}
use Rattle.clap.specs.Simple.{built, entered}
use Rattle.clap.specs.declared.builder.value_parser.ValueParser.TheVariants as vp
use Rattle.clap.specs.declared.builder.value_parser.Reading.TheVariants.{AsWritten, WithoutMinus}
use Rattle.clap.specs.Faults.{defaults_fault, entered_fault, fault_of, level_fault, settle_fault, walk_fault}
use Rattle.clap.specs.Words.{kind_of, matches_of}
use Rattle.clap.specs.declared.error.Error.{Error}
use Rattle.clap.specs.declared.error.kind.ErrorKind.{ErrorKind}
use Rattle.clap.specs.declared.error.kind.ErrorKind.TheVariants.{ArgumentConflict, DisplayHelp, OutOfMemory, ValueValidation}
use Rattle.clap.proofs.WalkLemmas.{both}
use Rattle.bwsh.specs.Options.{Asked, options, help, refused, Given, IsRightKind, Text, are_usable, asked, asked_from, flag_names, gives_size, go_together, is_given, is_number, is_refusal, pairs_of, path_names, takes_nothing, takes_number, takes_path, together}
use Rattle.bwsh.specs.CommandLine.{AreGivable, built_flag, built_number, built_path, built_rules, bwsh, finished_rows, given_row, number_defaults}
use Rattle.bwsh.proofs.TurnLemmas.{HasOptions, TakesText, any_of, built_help, held, or_else-none, shape, standing}
use Rattle.bwsh.proofs.CommandLineLemmas.{Comes, rest_fault, rest_rows, words_come}

-- ---- the options of the command line

-- the rules of `--disk` and `--copy-to`
abbrev built_disk : Rule
built_disk = built_path (codes "disk")

abbrev built_copy : Rule
built_copy = built_path (codes "copy-to")

-- the options after those that take a number
abbrev last_rules : List Rule
last_rules = built_disk ∷ built_copy ∷ map built_flag flag_names ++ built_help ∷ []

abbrev pub rules : List Rule
rules = map built_number number_defaults ++ last_rules

-- the results for the option, by its name and by its id
abbrev IsKnownAs : Text → Option Rule → Option Rule → Type 0
IsKnownAs name by_long by_id = (default : Text) × (by_long ≡ Some (built_number (name, default))) × (by_id ≡ Some (built_number (name, default)))

known_in : (ps : List (Text × Text)) (more : List Rule) (name : Text) → list_any (λ p. bytes_eq p.0 name) ps ≡ true
    → IsKnownAs name (arg_by_long (map built_number ps ++ more) name) (arg_by_id (map built_number ps ++ more) name)
known_in [] more name e = cc
known_in (p ∷ ps) more name e = go (bytes_eq p.0 name) refl e (known_in ps more name)
  where
    go : (b : Bool) → bytes_eq p.0 name ≡ b → (b || list_any (λ q. bytes_eq q.0 name) ps) ≡ true
        → (list_any (λ q. bytes_eq q.0 name) ps ≡ true → IsKnownAs name (arg_by_long (map built_number ps ++ more) name) (arg_by_id (map built_number ps ++ more) name))
        → IsKnownAs name (cond (true && (b || false)) (Some (built_number p)) (arg_by_long (map built_number ps ++ more) name))
        (cond b (Some (built_number p)) (arg_by_id (map built_number ps ++ more) name))
    go true hit any later =
        let same = ap (λ (n : Text). Some (built_number (n, p.1))) ((bytes_eq-Decides p.0 name).0 hit) in
        (p.1, same, same)
    go false other any later = later any

long_after : (ps : List (Text × Text)) (more : List Rule) (name : Text) → list_any (λ p. bytes_eq p.0 name) ps ≡ false
    → arg_by_long (map built_number ps ++ more) name ≡ arg_by_long more name
long_after [] more name e = refl
long_after (p ∷ ps) more name e = go (bytes_eq p.0 name) e (long_after ps more name)
  where
    go : (b : Bool) → (b || list_any (λ q. bytes_eq q.0 name) ps) ≡ false
        → (list_any (λ q. bytes_eq q.0 name) ps ≡ false → arg_by_long (map built_number ps ++ more) name ≡ arg_by_long more name)
        → cond (true && (b || false)) (Some (built_number p)) (arg_by_long (map built_number ps ++ more) name) ≡ arg_by_long more name
    go true any later = cc
    go false any later = later any

or_false : (b : Bool) → (b || false) ≡ b
or_false true = refl
or_false false = refl

or_splits : (b d : Bool) → (b || d) ≡ false → (b ≡ false) × (d ≡ false)
or_splits true d e = cc
or_splits false d e = (refl, e)

known_text : (name : Text) (b : Bool) → takes_number name ≡ b → (b || takes_path name) ≡ true → TakesText rules name
known_text name true is e =
    let k = known_in number_defaults last_rules name is in
    record {
      defaults = k.0 ∷ [];
      parser = vp.Signed (pos 0) (pos 4294967295);
      checks = λ text. ap (λ (b : Bool). cond (not b || is_number text) [] (ValueValidation ∷ [])) (sym is);
      reads = ap (λ (b : Bool). cond b WithoutMinus AsWritten) (sym is);
      by_long = k.1;
      by_id = k.2;
    }
known_text name false is hit =
    any_of (TakesText rules) path_names (
      record {
        defaults = [];
        parser = vp.String;
        checks = λ text. refl;
        reads = refl;
        by_long = refl;
        by_id = refl;
      },
      (
        record {
          defaults = [];
          parser = vp.String;
          checks = λ text. refl;
          reads = refl;
          by_long = refl;
          by_id = refl;
        },
        tt,
      ),
    ) name hit

-- it is none of the options without a value
none_of_flags : (name : Text) → takes_nothing name ≡ false → takes_path name ≡ false → bytes_eq (codes "help") name ≡ false
    → arg_by_long last_rules name ≡ None
none_of_flags name none no_path no_help =
    let (no_disk, later_path) = or_splits (bytes_eq (codes "disk") name) _ no_path in
    let (no_copy, no_more) = or_splits (bytes_eq (codes "copy-to") name) _ later_path in
    let (one, later) = or_splits (bytes_eq (codes "create") name) _ none in
    let (two, later_two) = or_splits (bytes_eq (codes "version") name) _ later in
    let (three, later_three) = or_splits (bytes_eq (codes "explain") name) _ later_two in
    let (four, later_four) = or_splits (bytes_eq (codes "stat") name) _ later_three in
    let (five, later_five) = or_splits (bytes_eq (codes "clean-when-full") name) _ later_four in
    let (six, later_six) = or_splits (bytes_eq (codes "stream") name) _ later_five in
    let (seven, last) = or_splits (bytes_eq (codes "progress") name) _ later_six in
    rw (no_disk, no_copy, one, two, three, four, five, six, seven, no_help) refl

has_options : HasOptions rules
has_options = record {
  known = λ name takes. known_text name (takes_number name) refl takes;
  flags = any_of (λ name. arg_by_long rules name ≡ Some (built_flag name)) flag_names (refl, (refl, (refl, (refl, (refl, (refl, (refl, tt)))))));
  help = refl;
  others = λ name takes no_flag no_help.
      let (no_number, no_path) = or_splits (takes_number name) _ takes in
      long_after number_defaults last_rules name no_number ∙ none_of_flags name no_flag no_path no_help;
  short = λ x. ap (λ (b : Bool). cond b (Some built_help) None) (or_false (104 == x));
  positional = refl;
}

-- ---- before the words and after them

no_level : (held : Held) (words : List Text) (stop : Option (Text × List Text))
    → level_fault (built bwsh).top [] held words (is_some (entered (built bwsh) stop)) (entered_fault (built bwsh) stop)
    ≡ level_fault (built bwsh).top [] held words false []
no_level held words None = refl
no_level held words (Some p) = refl

both_same : {X : Type 0} (b : Bool) (x : X) → cond b x x ≡ x
both_same true x = refl
both_same false x = refl

no_default : (b : Bool) (kinds next : Kinds) → or_else (cond (b || true) [] kinds) next ≡ next
no_default true kinds next = refl
no_default false kinds next = refl

flag_default : (b : Bool) (next : Kinds) → or_else (cond (b || false) [] []) next ≡ next
flag_default true next = refl
flag_default false next = refl

default_passes : (b d : Bool) → d ≡ true → cond (b || false) [] (or_else (cond d [] (ValueValidation ∷ [])) []) ≡ []
default_passes true d e = refl
default_passes false true e = refl
default_passes false false e = cc

flags_pass : (names : List Text) (rows : List Row) → defaults_fault rows (map built_flag names ++ built_help ∷ []) ≡ []
unfolding defaults_fault
flags_pass [] rows = no_default (has_row (codes "help") rows) _ _
flags_pass (name ∷ names) rows = flag_default (has_row name rows) _ ∙ flags_pass names (with_default rows (built_flag name))

last_pass : (rows : List Row) → defaults_fault rows last_rules ≡ []
unfolding defaults_fault
last_pass rows =
    let after_disk = with_default rows built_disk in
    no_default (has_row (codes "disk") rows) _ _ ∙ no_default (has_row (codes "copy-to") after_disk) _ _ ∙ flags_pass flag_names (with_default after_disk built_copy)

defaults_pass : (ps : List (Text × Text)) (rows : List Row) → list_all (λ p. is_number p.1) ps ≡ true → defaults_fault rows (map built_number ps ++ last_rules) ≡ []
unfolding defaults_fault
defaults_pass [] rows e = last_pass rows
defaults_pass (p ∷ ps) rows e =
    let parts = both _ _ e in
    ap (λ (ks : Kinds). or_else ks (defaults_fault (with_default rows (built_number p)) (map built_number ps ++ last_rules))) (default_passes (has_row p.0 rows) (is_number p.1) parts.0)
    ∙ defaults_pass ps (with_default rows (built_number p)) parts.1

nothing_after : (words settle defaults : Kinds) → defaults ≡ [] → or_else words (or_else [] (or_else settle (or_else defaults []))) ≡ or_else words settle
nothing_after words settle defaults e = rw e (ap (or_else words) (or_else-none settle))

faults_are : (words : List Text) → fault_of bwsh words ≡ rest_fault rules (standing [] None idle false) words
faults_are words =
    let end = (walk rules [] nothing_held words) in
    no_level nothing_held words end.stopped
    ∙ nothing_after (walk_fault (shape rules) [] (walk_from nothing_held) words) (settle_fault rules false end.held) _ (defaults_pass number_defaults (settled rules end.held).rows refl)

rows_are : (words : List Text) → matches_of bwsh words ≡ fold with_default (rest_rows rules (standing [] None idle false) words) built_rules
rows_are words =
    let found = fold with_default (rest_rows rules (standing [] None idle false) words) built_rules in
    both_same (has_row (codes "help") found) found

-- ---- the whole

-- the result of parsing the words, before it is seen whether the options go together
abbrev pub parsed : List Text → Asked
parsed words = asked_from words None []

from_asked : (words : List Text) (kinds : Kinds) (rows : List Row) (asked_for : Asked) → parsed words ≡ asked_for → Comes kinds rows asked_for
    → (kinds ≡ [] → (given : Given) × (parsed words ≡ options given) × (rows ≡ map given_row given) × AreGivable given)
    × ((kind : ErrorKind) → IsAmong kind kinds → IsRightKind words kind)
from_asked words kinds rows (options given) e h = (λ none. (given, e, h.1, h.2), λ kind among. absurd (subst (IsAmong kind) h.0 among))
from_asked words kinds rows help e h = (
  λ none. let bad : [] ≡ DisplayHelp ∷ [] = sym none ∙ h in cc,
  λ kind among. elim (subst (IsAmong kind) h among) [
    | inl is ↦ inr (inl (is, ap together e))
    | inr none ↦ absurd none
  ],
)
from_asked words kinds rows refused e h = (
  λ none. let bad : [] ≡ h.0 ∷ [] = sym none ∙ h.1 in cc,
  λ kind among. elim (subst (IsAmong kind) h.1 among) [
    | inl is ↦ inr (inr (ap is_refusal is ∙ h.2, ap together e))
    | inr none ↦ absurd none
  ],
)

words_come_to : (words : List Text) → Comes (fault_of bwsh words) (rest_rows rules (standing [] None idle false) words) (parsed words)
words_come_to words =
    subst (λ (ks : Kinds). Comes ks (rest_rows rules (standing [] None idle false) words) (parsed words)) (sym (faults_are words)) (words_come rules has_options words)

-- if no word has a fault, the words are parsed as the given options, and these are the result
pub options_are_asked : (words : List Text) (rows : List Row) → fault_of bwsh words ≡ [] → rows ≡ matches_of bwsh words
    → (given : Given) × (parsed words ≡ options given) × (rows ≡ finished_rows given) × AreGivable given
options_are_asked words rows none is_rows =
    let w = (from_asked words _ _ (parsed words) refl (words_come_to words)).0 none in
    (w.0, w.1, is_rows ∙ rows_are words ∙ ap (λ (rs : List Row). fold with_default rs built_rules) w.2, w.3)

-- an error is a failed allocation, or is possible for the words
pub error_is_right : (words : List Text) (e : Error) → HasKind (fault_of bwsh words) e → IsRightKind words (kind_of e)
error_is_right words e (inl memory) = inl memory
error_is_right words e (inr among) = (from_asked words _ _ (parsed words) refl (words_come_to words)).1 (kind_of e) among

-- if the given options go together, the words ask for them; otherwise, the words are refused
pub asked_by_parsed : (words : List Text) (given : Given) (b : Bool) → parsed words ≡ options given → go_together given ≡ b → asked words ≡ cond b (options given) refused
asked_by_parsed words given b is usable = ap together is ∙ ap (λ (t : Bool). cond t (options given) refused) usable

usable_same : {a b : ℕ} {c d e f : Bool} → a ≡ b → c ≡ d → e ≡ f → are_usable a c e ≡ are_usable b d f
usable_same a c e = rw (a, c, e) refl

or_same : {a b c d : Bool} → a ≡ c → b ≡ d → (a || b) ≡ (c || d)
or_same a b = rw (a, b) refl

-- the given options go together if the program finds their number of pairs usable
pub together_is : (given : Given) (pairs : ℕ) (is_new creates has_copy has_size b : Bool) → pairs ≡ pairs_of given → is_new ≡ (creates || has_copy)
    → creates ≡ is_given (codes "create") given → has_copy ≡ is_given (codes "copy-to") given → has_size ≡ gives_size given
    → are_usable pairs is_new has_size ≡ b → go_together given ≡ b
together_is given pairs is_new creates has_copy has_size b of_pairs new create copy size usable =
    sym (usable_same of_pairs (new ∙ or_same create copy) size) ∙ usable

-- an error that `--pairs` causes is right
pub pairs_error_is_right : (words : List Text) (given : Given) (kind : ErrorKind) (b : Bool) → parsed words ≡ options given → go_together given ≡ b
    → (kind ≡ OutOfMemory) ⊎ ((kind ≡ ArgumentConflict) × (b ≡ false)) → IsRightKind words kind
pairs_error_is_right words given kind b is usable (inl memory) = inl memory
pairs_error_is_right words given kind b is usable (inr (conflict, apart)) =
    inr (inr (ap is_refusal conflict, asked_by_parsed words given false is (usable ∙ apart)))

pub handed_on : {X : Type 0} (r : Result X Error) (e : Error) (P : Error → Type 0) → IsErrAnd r (λ f. f ≡ e) → P e → IfErr r P
handed_on (Ok x) e P h p = absurd h
handed_on (Err f) e P h p = subst P (sym h) p
