-- The values of the options: those that were given, and the defaults of the others.
use Rattle.std.proofs.Common.{◌≡◌, ◌∙◌, ◌++◌, ◌||◌, ap, refl, sym, subst, ℕ, Bool, true, false, cond, List, [], ◌∷◌, map, not, Option, Some, None, append-nil, codes, is_some}
use Rattle.std.specs.List.{find, fold}
use Rattle.std.specs.Option.{option_map, option_or}
use Rattle.std.specs.Prelude.{nat_le, option_and_then, slice_get, unwrap_or}
use Rattle.std.specs.Str.{bytes_eq}
use Rattle.std.proofs.lemmas.List.Elements.{All-head, All-tail}
use Rattle.std.proofs.lemmas.Slice.Eq.{bytes_eq-Decides}
use Rattle.crew.specs.declared.limits.Crew.{Crew}
use Rattle.keys.specs.Limits.{first_bad_field, first_failed, is_in_limits, longest_frame}
use Rattle.keys.specs.declared.settings.Field.TheVariants.{Chain, Fan, MaxKey, MaxValue, SegSize, Segments}
use Rattle.keys.specs.declared.settings.Settings.{Settings}
use Rattle.bwsh.specs.declared.options.asked.Mode.{Mode}
use Rattle.clap.specs.Lexer.{without_minus}
use Rattle.clap.specs.Facts.{Entry}
use Rattle.clap.specs.Matches.{matched_of}
use Rattle.clap.specs.Walk.{Row, Rule, at_row, default_rows, first_of, has_row, more_values, one_of, reading_by, row_of, row_text, rows_of, with_default}
use Rattle.clap.specs.declared.builder.value_parser.Reading.TheVariants.{AsWritten, WithoutMinus}
use Rattle.clap.specs.declared.parser.matches.Found.{Found}
use Rattle.clap.specs.declared.parser.matches.MatchedArg.{MatchedArg}
use Rattle.clap.specs.declared.parser.matches.ValueSource.{ValueSource}
use Rattle.clap.specs.declared.parser.matches.ValueSource.TheVariants.{CommandLine, DefaultValue}
use Rattle.clap.specs.Values.{read_as}
use Rattle.clap.proofs.WalkLemmas.{find-map, find_row}
use Rattle.bwsh.specs.Options.{Text, Given, fits, flag_names, is_given, is_number, number_names, number_of, number_or, path_names, path_of, takes_nothing, takes_number, takes_path}
use Rattle.bwsh.specs.CommandLine.{AreGivable, IsGivable, built_rules, finished_rows, given_row, reading_at}
use Rattle.bwsh.proofs.TurnLemmas.{any_of, no_number}

abbrev pub at : Text → Row → Bool
at id r = bytes_eq r.id id

pub find-append-some : {X : Type 0} (p : X → Bool) (xs ys : List X) (x : X) → find p xs ≡ Some x → find p (xs ++ ys) ≡ Some x
find-append-some p [] ys x e = cc
find-append-some {X} p (y ∷ xs) ys x e = go (p y) (find-append-some p xs ys x) e
  where
    go : (b : Bool) → (find p xs ≡ Some x → find p (xs ++ ys) ≡ Some x) → cond b (Some y) (find p xs) ≡ Some x
        → cond b (Some y) (find p (xs ++ ys)) ≡ Some x
    go true later e = e
    go false later e = later e

pub find-append-none : {X : Type 0} (p : X → Bool) (xs ys : List X) → find p xs ≡ None → find p (xs ++ ys) ≡ find p ys
find-append-none p [] ys e = refl
find-append-none {X} p (y ∷ xs) ys e = go (p y) (find-append-none p xs ys) e
  where
    go : (b : Bool) → (find p xs ≡ None → find p (xs ++ ys) ≡ find p ys) → cond b (Some y) (find p xs) ≡ None
        → cond b (Some y) (find p (xs ++ ys)) ≡ find p ys
    go true later e = cc
    go false later e = later e

-- if there is no row of the id, one is appended
pub at_row-missing : (id : Text) (change : Row → List Row) (missing rows : List Row) → has_row id rows ≡ false → at_row id change missing rows ≡ rows ++ missing
at_row-missing id change missing [] e = refl
at_row-missing id change missing (r ∷ rs) e = go (bytes_eq r.id id) (at_row-missing id change missing rs) e
  where
    go : (b : Bool) → (has_row id rs ≡ false → at_row id change missing rs ≡ rs ++ missing) → (b || has_row id rs) ≡ false
        → cond b (change r ++ rs) (r ∷ at_row id change missing rs) ≡ r ∷ (rs ++ missing)
    go true later e = cc
    go false later e = ap (λ xs. r ∷ xs) (later e)

pub no_row : (id : Text) (rows : List Row) → find (at id) rows ≡ None → has_row id rows ≡ false
no_row id [] e = refl
no_row id (r ∷ rs) e = go (bytes_eq r.id id) (no_row id rs) e
  where
    go : (b : Bool) → (find (at id) rs ≡ None → has_row id rs ≡ false) → cond b (Some r) (find (at id) rs) ≡ None → (b || has_row id rs) ≡ false
    go true later e = cc
    go false later e = later e

-- the value from the defaults of an option that was not given
abbrev pub default_values : Rule → List Row
default_values a = default_rows a.id (reading_by a) a.defaults []

-- an option that has no row gets its defaults
with_default-is : (a : Rule) (rows : List Row) → with_default rows a ≡ cond (has_row a.id rows) rows (rows ++ default_values a)
with_default-is a rows = go (has_row a.id rows) refl
  where
    added : (values : List Text) → has_row a.id rows ≡ false
        → default_rows a.id (reading_by a) values rows ≡ rows ++ default_rows a.id (reading_by a) values []
    added [] e = sym (append-nil rows)
    added (v ∷ vs) e = at_row-missing a.id (more_values DefaultValue (v ∷ vs)) _ rows e

    go : (b : Bool) → has_row a.id rows ≡ b → cond b rows (default_rows a.id (reading_by a) a.defaults rows) ≡ cond b rows (rows ++ default_values a)
    go true e = refl
    go false e = added a.defaults e

stays : (a : Rule) (id : Text) (rows : List Row) (r : Row) → find (at id) rows ≡ Some r → find (at id) (with_default rows a) ≡ Some r
stays a id rows r e = subst (λ (xs : List Row). find (at id) xs ≡ Some r) (sym (with_default-is a rows)) (go (has_row a.id rows))
  where
    go : (b : Bool) → find (at id) (cond b rows (rows ++ default_values a)) ≡ Some r
    go true = e
    go false = find-append-some (at id) rows _ r e

none_of : (a : Rule) (id : Text) → bytes_eq a.id id ≡ false → find (at id) (default_values a) ≡ None
none_of a id other = go a.defaults
  where
    go : (values : List Text) → find (at id) (default_rows a.id (reading_by a) values []) ≡ None
    go [] = refl
    go (v ∷ vs) = rw other refl

stays_missing : (a : Rule) (id : Text) (rows : List Row) → bytes_eq a.id id ≡ false → find (at id) rows ≡ None → find (at id) (with_default rows a) ≡ None
stays_missing a id rows other e = subst (λ (xs : List Row). find (at id) xs ≡ None) (sym (with_default-is a rows)) (go (has_row a.id rows))
  where
    go : (b : Bool) → find (at id) (cond b rows (rows ++ default_values a)) ≡ None
    go true = e
    go false = find-append-none (at id) rows _ e ∙ none_of a id other

comes_in : (a : Rule) (id : Text) (rows : List Row) → bytes_eq a.id id ≡ true → find (at id) rows ≡ None
    → find (at id) (with_default rows a) ≡ find (at id) (default_values a)
comes_in a id rows hit e = subst (λ (xs : List Row). find (at id) xs ≡ find (at id) (default_values a)) (sym (with_default-is a rows)) (go (has_row a.id rows) same)
  where
    same : has_row a.id rows ≡ false
    same = subst (λ (t : Text). has_row t rows ≡ false) (sym ((bytes_eq-Decides a.id id).0 hit)) (no_row id rows e)

    go : (b : Bool) → b ≡ false → find (at id) (cond b rows (rows ++ default_values a)) ≡ find (at id) (default_values a)
    go true bad = cc
    go false ok = find-append-none (at id) rows _ e

-- a value that is found is not replaced
found_given : (rules : List Rule) (id : Text) (rows : List Row) (r : Row) → find (at id) rows ≡ Some r
    → find (at id) (fold with_default rows rules) ≡ Some r
found_given [] id rows r e = e
found_given (a ∷ rules) id rows r e = found_given rules id (with_default rows a) r (stays a id rows r e)

-- the rows of all defaults
abbrev pub defaults_in : List Rule → List Row
defaults_in [] = []
defaults_in (a ∷ rules) = default_values a ++ defaults_in rules

-- a value that is not found yet comes from the default
default_found : (a : Rule) (id : Text) (rows : List Row) → find (at id) rows ≡ None → find (at id) (with_default rows a) ≡ find (at id) (default_values a)
default_found a id rows e = go (bytes_eq a.id id) refl
  where
    go : (b : Bool) → bytes_eq a.id id ≡ b → find (at id) (with_default rows a) ≡ find (at id) (default_values a)
    go true hit = comes_in a id rows hit e
    go false other = stays_missing a id rows other e ∙ sym (none_of a id other)

-- and from the first default
found_default : (rules : List Rule) (id : Text) (rows : List Row) → find (at id) rows ≡ None
    → find (at id) (fold with_default rows rules) ≡ find (at id) (defaults_in rules)
found_default [] id rows e = e
found_default (a ∷ rules) id rows e = go (find (at id) (default_values a)) refl (found_default rules id (with_default rows a))
  where
    go : (o : Option Row) → find (at id) (default_values a) ≡ o
        → (find (at id) (with_default rows a) ≡ None → find (at id) (fold with_default (with_default rows a) rules) ≡ find (at id) (defaults_in rules))
        → find (at id) (fold with_default (with_default rows a) rules) ≡ find (at id) (default_values a ++ defaults_in rules)
    go (Some r) is later =
        found_given rules id (with_default rows a) r (default_found a id rows e ∙ is) ∙ sym (find-append-some (at id) (default_values a) (defaults_in rules) r is)
    go None is later = later (default_found a id rows e ∙ is) ∙ sym (find-append-none (at id) (default_values a) (defaults_in rules) is)

-- ---- given options

-- a given option has its name and a valid text
found_fits : (name : Text) (given : Given) (g : Text × Text) → AreGivable given → find (λ h. bytes_eq h.0 name) given ≡ Some g → (g.0 ≡ name) × IsGivable g
found_fits name [] g all e = cc
found_fits name (h ∷ given) g all e = go (bytes_eq h.0 name) refl (found_fits name given g (All-tail IsGivable h given all)) e
  where
    go : (b : Bool) → bytes_eq h.0 name ≡ b → (find (λ k. bytes_eq k.0 name) given ≡ Some g → (g.0 ≡ name) × IsGivable g)
        → cond b (Some h) (find (λ k. bytes_eq k.0 name) given) ≡ Some g → (g.0 ≡ name) × IsGivable g
    go true hit later e =
        let same : h ≡ g = ap (λ (o : Option (Text × Text)). unwrap_or o h) e in
        subst (λ (k : Text × Text). (k.0 ≡ name) × IsGivable k) same ((bytes_eq-Decides h.0 name).0 hit, All-head IsGivable h given all)
    go false other later e = later e

-- the final value under its name
found_at : (name : Text) (given : Given) (o : Option (Text × Text)) → find (λ g. bytes_eq g.0 name) given ≡ o
    → find (at name) (finished_rows given) ≡ option_or (option_map given_row o) (find (at name) (defaults_in built_rules))
found_at name given (Some g) e = found_given built_rules name (map given_row given) (given_row g) (sym (find-map (at name) given_row given) ∙ ap (option_map given_row) e)
found_at name given None e = found_default built_rules name (map given_row given) (sym (find-map (at name) given_row given) ∙ ap (option_map given_row) e)

-- the parsed text under its name
given_text : (name : Text) (g : Text × Text) → g.0 ≡ name → row_text (given_row g) ≡ Some (read_as (reading_at name) g.1)
given_text name g same = ap (λ (n : Text). Some (read_as (reading_at n) g.1)) same

-- the value of a number that was not given
abbrev default_row : Text × Text → Row
default_row p = record {
  id = p.0;
  values = p.1 ∷ [];
  count = None;
  source = Some DefaultValue;
  reading = WithoutMinus;
}

-- the number under the name of an option is the given one, or else the default
pub field_read : (name default : Text) (most : ℕ) (given : Given) (rows : List Row) (result : ℕ) → takes_number name ≡ true
    → find (at name) (defaults_in built_rules) ≡ Some (default_row (name, default)) → is_number default ≡ true → number_of default ≡ most
    → AreGivable given → rows ≡ finished_rows given
    → ((text : Text) → is_number text ≡ true → one_of name rows ≡ Some (without_minus text) → result ≡ number_of text)
    → result ≡ number_or most name given
field_read name default most given rows result takes is_default number value all is_rows read = go (find (λ g. bytes_eq g.0 name) given) refl
  where
    go : (o : Option (Text × Text)) → find (λ g. bytes_eq g.0 name) given ≡ o → result ≡ unwrap_or (option_map (λ g. number_of g.1) o) most
    go (Some g) e =
        let (named, (fit, flag)) = found_fits name given g all e in
        let is_right : fits name g.1 ≡ true = ap (λ (n : Text). fits n g.1) (sym named) ∙ fit in
        read g.1 (ap (λ (b : Bool). not b || is_number g.1) (sym takes) ∙ is_right)
        (ap (one_of name) is_rows ∙ ap (option_and_then row_text) (found_at name given (Some g) e) ∙ given_text name g named
        ∙ ap (λ (b : Bool). Some (read_as (cond b WithoutMinus AsWritten) g.1)) takes)
    go None e = read default number (ap (one_of name) is_rows ∙ ap (option_and_then row_text) (found_at name given None e ∙ is_default)) ∙ value

-- no path has a default
no_default_path : (name : Text) → takes_path name ≡ true → find (at name) (defaults_in built_rules) ≡ None
no_default_path = any_of (λ name. find (at name) (defaults_in built_rules) ≡ None) path_names (refl, (refl, tt))

-- the path is the given one
pub path_read : (name : Text) → takes_path name ≡ true → (given : Given) (rows : List Row) (result : Option Text) → rows ≡ finished_rows given
    → result ≡ first_of name rows → result ≡ path_of name given
path_read name is given rows result is_rows read = read ∙ ap (first_of name) is_rows ∙ go (find (λ g. bytes_eq g.0 name) given) refl
  where
    go : (o : Option (Text × Text)) → find (λ g. bytes_eq g.0 name) given ≡ o → first_of name (finished_rows given) ≡ option_map (λ g. g.1) o
    go (Some g) e = ap (option_and_then (λ (r : Row). slice_get r.values 0)) (found_at name given (Some g) e)
    go None e = ap (option_and_then (λ (r : Row). slice_get r.values 0)) (found_at name given None e ∙ no_default_path name is)

given_found : (name : Text) (given : Given) → is_given name given ≡ is_some (find (λ g. bytes_eq g.0 name) given)
given_found name [] = refl
given_found name (g ∷ given) = go (bytes_eq g.0 name) (given_found name given)
  where
    go : (b : Bool) → is_given name given ≡ is_some (find (λ g. bytes_eq g.0 name) given) → (b || is_given name given) ≡ is_some (cond b (Some g) (find (λ g. bytes_eq g.0 name) given))
    go true later = refl
    go false later = later

-- an option without a value that was not given has this value
default_flag : (name : Text) → takes_nothing name ≡ true → option_and_then row_text (find (at name) (defaults_in built_rules)) ≡ Some (codes "false")
default_flag = any_of (λ name. option_and_then row_text (find (at name) (defaults_in built_rules)) ≡ Some (codes "false")) flag_names
    (refl, (refl, (refl, (refl, (refl, (refl, (refl, tt)))))))

-- an option without a value is set if it was given
pub flag_read : (name : Text) → takes_nothing name ≡ true → (given : Given) (rows : List Row) (result : Bool) → AreGivable given → rows ≡ finished_rows given
    → (one_of name rows ≡ Some (codes "true") → result ≡ true) → (one_of name rows ≡ Some (codes "false") → result ≡ false)
    → result ≡ is_given name given
flag_read name is given rows result all is_rows set unset = go (find (λ g. bytes_eq g.0 name) given) refl ∙ sym (given_found name given)
  where
    go : (o : Option (Text × Text)) → find (λ g. bytes_eq g.0 name) given ≡ o → result ≡ is_some o
    go (Some g) e =
        let (named, (fit, flag)) = found_fits name given g all e in
        set (ap (one_of name) is_rows ∙ ap (option_and_then row_text) (found_at name given (Some g) e)
        ∙ given_text name g named ∙ ap (λ (b : Bool). Some (read_as (cond b WithoutMinus AsWritten) g.1)) (no_number name is)
        ∙ ap (λ (t : Text). Some t) (flag (ap takes_nothing named ∙ is)))
    go None e = unset (ap (one_of name) is_rows ∙ ap (option_and_then row_text) (found_at name given None e) ∙ default_flag name is)

-- an option that takes a number and was not given has a default
default_number : (name : Text) → takes_number name ≡ true → option_and_then (λ (r : Row). r.source) (find (at name) (defaults_in built_rules)) ≡ Some DefaultValue
default_number = any_of (λ name. option_and_then (λ (r : Row). r.source) (find (at name) (defaults_in built_rules)) ≡ Some DefaultValue) number_names
    (refl, (refl, (refl, (refl, (refl, (refl, (refl, (refl, (refl, (refl, (refl, (refl, tt))))))))))))

-- where the value of an option comes from that takes a number
abbrev pub source_by : Bool → ValueSource
source_by true = CommandLine
source_by false = DefaultValue

pub source_read : (name : Text) → takes_number name ≡ true → (given : Given) (f : Found) → rows_of f ≡ finished_rows given
    → option_and_then (λ a. a.source) (matched_of f name) ≡ Some (source_by (is_given name given))
source_read name is given f rows =
    from (find (λ e. bytes_eq e.0.now name) f.entries.items) ∙ ap (option_and_then (λ (r : Row). r.source)) (sym (find_row f.entries.items name) ∙ ap (find (at name)) rows)
    ∙ go (find (λ g. bytes_eq g.0 name) given) refl ∙ ap (λ (b : Bool). Some (source_by b)) (sym (given_found name given))
  where
    from : (o : Option Entry) → option_and_then (λ (a : MatchedArg). a.source) (option_map (λ e. e.1) o) ≡ option_and_then (λ (r : Row). r.source) (option_map row_of o)
    from None = refl
    from (Some e) = refl

    go : (o : Option (Text × Text)) → find (λ g. bytes_eq g.0 name) given ≡ o
        → option_and_then (λ (r : Row). r.source) (find (at name) (finished_rows given)) ≡ Some (source_by (is_some o))
    go (Some g) e = ap (option_and_then (λ (r : Row). r.source)) (found_at name given (Some g) e)
    go None e = ap (option_and_then (λ (r : Row). r.source)) (found_at name given None e) ∙ default_number name is

-- the value comes from the command line
abbrev pub is_from_words : Option ValueSource → Bool
is_from_words (Some CommandLine) = true
is_from_words _ = false

pub source_given : (name : Text) → takes_number name ≡ true → (given : Given) (f : Found) (r : Option ValueSource) (b : Bool) → rows_of f ≡ finished_rows given
    → r ≡ option_and_then (λ a. a.source) (matched_of f name) → is_from_words r ≡ b → b ≡ is_given name given
source_given name is given f r b rows read from = sym from ∙ ap is_from_words (read ∙ source_read name is given f rows) ∙ go (is_given name given)
  where
    go : (d : Bool) → is_from_words (Some (source_by d)) ≡ d
    go true = refl
    go false = refl

-- a path is given if there is one
pub path_is_given : {X : Type 0} (name : Text) (given : Given) (text : X → Text) (path : Option X) → option_map text path ≡ path_of name given
    → is_some path ≡ is_given name given
path_is_given name given text path is =
    sym (some_map text path) ∙ ap is_some is ∙ some_map (λ (g : Text × Text). g.1) (find (λ g. bytes_eq g.0 name) given) ∙ sym (given_found name given)
  where
    some_map : {X Y : Type 0} (f : X → Y) (o : Option X) → is_some (option_map f o) ≡ is_some o
    some_map f None = refl
    some_map f (Some x) = refl

-- ---- the settings for a number of pairs

-- settings with too many segments are out of range
pub too_many_segments : (s : Settings) → is_in_limits 3 65536 s.segments ≡ false → first_bad_field s ≡ None → ⊥
too_many_segments s over none = go (is_in_limits 4 64 s.fan) (is_in_limits 1 16 s.chain) (is_in_limits 1 255 s.max_key) (is_in_limits 0 1024 s.max_value)
    (is_in_limits 256 1048576 s.seg_size) (is_in_limits 3 65536 s.segments) over none
  where
    go : (a b c d e f : Bool) → f ≡ false
        → first_failed ((Fan, a) ∷ (Chain, b) ∷ (MaxKey, c) ∷ (MaxValue, d) ∷ (SegSize, e) ∷ (Segments, f) ∷ (SegSize, nat_le (longest_frame s) s.seg_size) ∷ []) ≡ None → ⊥
    go false b c d e f over none = cc
    go true false c d e f over none = cc
    go true true false d e f over none = cc
    go true true true false e f over none = cc
    go true true true true false f over none = cc
    go true true true true true false over none = cc
    go true true true true true true over none = cc

abbrev settings_with : ℕ → ℕ → ℕ → ℕ → ℕ → ℕ → Settings
settings_with a b c d e f = record { fan = a; chain = b; max_key = c; max_value = d; seg_size = e; segments = f }

-- settings are equal if their fields are
pub settings_equal : {a b c d e f g h i j k l : ℕ} → a ≡ g → b ≡ h → c ≡ i → d ≡ j → e ≡ k → f ≡ l
    → settings_with a b c d e f ≡ settings_with g h i j k l
settings_equal a b c d e f = rw (a, b, c, d, e, f) refl

abbrev crew_with : ℕ → ℕ → Crew
crew_with a b = record { workers = a; grain = b }

-- so are crews
pub crews_equal : {a b c d : ℕ} → a ≡ c → b ≡ d → crew_with a b ≡ crew_with c d
crews_equal a b = rw (a, b) refl

abbrev ways_with : Bool → Bool → Bool → Bool → Bool → ℕ → ℕ → ℕ → Bool → Mode
ways_with a b c d e f g r h = record { version = a; explain = b; stat = c; clean_when_full = d; stream = e; tidy = f; wait = g; max_rows = r; progress = h }

-- so are modes
pub ways_equal : {a b c d e h i j k l m p : Bool} {f g r n o s : ℕ} → a ≡ i → b ≡ j → c ≡ k → d ≡ l → e ≡ m → f ≡ n → g ≡ o → r ≡ s → h ≡ p
    → ways_with a b c d e f g r h ≡ ways_with i j k l m n o s p
ways_equal a b c d e f g r h = rw (a, b, c, d, e, f, g, r, h) refl
