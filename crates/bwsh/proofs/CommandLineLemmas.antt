-- The result of parsing the words of the command line is the result of `clap`.
use Rattle.std.proofs.Common.{◌≡◌, ◌∙◌, ◌++◌, ap, refl, sym, subst, Bool, true, false, cond, List, [], ◌∷◌, map, Option, Some, None, append-nil}
use Rattle.std.specs.Prelude.{nat_lt}
use Rattle.std.specs.List.{fold}
use Rattle.std.specs.Option.{option_map_or}
use Rattle.std.specs.Str.{bytes_eq}
use Rattle.std.proofs.lemmas.Slice.Eq.{bytes_eq-Decides}
use Rattle.std.proofs.lemmas.List.{map-append}
use Rattle.std.proofs.lemmas.List.Elements.{All-nil, All-push}
use Rattle.clap.specs.Kinds.{Kinds, or_else}
use Rattle.clap.specs.Walk.{Row, Rule, Waiting, Walk, after_step, arg_by_id, has_row, idle, more_values, next as next_step, option, option_word, plain_word, settled, settled_rows, used_by_id, value, walked, with_values, without}
use Rattle.clap.specs.Faults.{positional_fault, settle_fault, step_fault, turn_fault, use_fault, walk_fault}
use Rattle.clap.specs.declared.error.kind.ErrorKind.{ErrorKind}
use Rattle.clap.specs.declared.error.kind.ErrorKind.TheVariants.{ArgumentConflict, DisplayHelp, InvalidValue, UnknownArgument, ValueValidation}
use Rattle.clap.specs.declared.parser.matches.ValueSource.TheVariants.{CommandLine}
use Rattle.clap.proofs.WalkLemmas.{list_any-map}
use Rattle.bwsh.specs.Options.{Asked, options, help, refused, Given, Sort, awaits, gives, asks, ends, plain, unknown, Text, asked_by, asked_from, at_end, fits, is_given, is_refusal, sort_of, taken, takes_text}
use Rattle.bwsh.specs.CommandLine.{AreGivable, IsGivable, given_row, reading_at}
use Rattle.bwsh.proofs.FoundLemmas.{at_row-missing}
use Rattle.bwsh.proofs.TurnLemmas.{HasOptions, HasText, Pending, TurnIs, given_fault, given_rows, held, not_flag_text, or_else-assoc, or_else-last, or_else-none, shape, standing, turn_is, use_is, used_is}

-- the rows of the given options
abbrev pub rows_of_given : Given → List Row
rows_of_given = map given_row

-- the words are refused
abbrev pub Refuses : Kinds → Type 0
Refuses kinds = (kind : ErrorKind) × (kinds ≡ kind ∷ []) × (is_refusal kind ≡ true)

-- a parse with these faults and rows has this result
abbrev pub Comes : Kinds → List Row → Asked → Type 0
Comes kinds rows (options given) = (kinds ≡ []) × (rows ≡ rows_of_given given) × AreGivable given
Comes kinds rows help = kinds ≡ DisplayHelp ∷ []
Comes kinds rows refused = Refuses kinds

Refuses-first : (first next : Kinds) → Refuses first → Refuses (or_else first next)
Refuses-first first next r = (r.0, ap (λ (ks : Kinds). or_else ks next) r.1, r.2)

-- ---- one use of an option

row_is_given : (name : Text) (given : Given) → has_row name (rows_of_given given) ≡ is_given name given
row_is_given name given = sym (list_any-map (λ r. bytes_eq r.id name) given_row given)

fault_is : (name text : Text) (given : Given) → given_fault name text (rows_of_given given)
    ≡ cond (is_given name given) (ArgumentConflict ∷ []) (cond (fits name text) [] (ValueValidation ∷ []))
fault_is name text given = ap (λ (b : Bool). cond b (ArgumentConflict ∷ []) (cond (fits name text) [] (ValueValidation ∷ []))) (row_is_given name given)

rows_are : (name text : Text) (given : Given) → is_given name given ≡ false
    → given_rows name text (rows_of_given given) ≡ rows_of_given (given ++ (name, text) ∷ [])
rows_are name text given new =
    let rows = rows_of_given given in
    let none : has_row name rows ≡ false = row_is_given name given ∙ new in
    let same : without name rows ≡ rows = at_row-missing name (λ _. []) [] rows none ∙ append-nil rows in
    ap (λ (rs : List Row). with_values name (reading_at name) CommandLine (text ∷ []) rs) same
    ∙ (at_row-missing name (more_values CommandLine (text ∷ [])) (given_row (name, text) ∷ []) rows none
    ∙ sym (map-append given_row given ((name, text) ∷ [])))

use_by : (fault : Kinds) (after : List Row) (name text : Text) (given : Given) (later : List Row → Kinds) (rows_later : List Row → List Row) (next : Given → Asked)
    → ((g : Given) → AreGivable g → Comes (later (rows_of_given g)) (rows_later (rows_of_given g)) (next g)) → AreGivable given → HasText name text
    → fault ≡ cond (is_given name given) (ArgumentConflict ∷ []) (cond (fits name text) [] (ValueValidation ∷ []))
    → (is_given name given ≡ false → after ≡ rows_of_given (given ++ (name, text) ∷ []))
    → (b d : Bool) → is_given name given ≡ b → fits name text ≡ d
    → Comes (or_else fault (later after)) (rows_later after) (cond b refused (cond d (next (given ++ (name, text) ∷ [])) refused))
use_by fault after name text given later rows_later next right all has is_fault is_after true d again fit =
    Refuses-first fault (later after) (ArgumentConflict, is_fault ∙ rw again refl, refl)
use_by fault after name text given later rows_later next right all has is_fault is_after false false new bad =
    Refuses-first fault (later after) (ValueValidation, is_fault ∙ rw (new, bad) refl, refl)
use_by fault after name text given later rows_later next right all has is_fault is_after false true new fit =
    let more = given ++ (name, text) ∷ [] in
    let is_right = right more (All-push IsGivable given (name, text) all (fit, has)) in
    let none : fault ≡ [] = is_fault ∙ rw (new, fit) refl in
    let with_rows = subst (λ (rs : List Row). Comes (later rs) (rows_later rs) (next more)) (sym (is_after new)) is_right in
    subst (λ (ks : Kinds). Comes (or_else ks (later after)) (rows_later after) (next more)) (sym none) with_rows

-- an option gets a text, and the later words are right for the options given so far
use_comes : (name text : Text) (given : Given) (later : List Row → Kinds) (rows_later : List Row → List Row) (next : Given → Asked)
    → ((g : Given) → AreGivable g → Comes (later (rows_of_given g)) (rows_later (rows_of_given g)) (next g)) → AreGivable given → HasText name text
    → Comes (or_else (given_fault name text (rows_of_given given)) (later (given_rows name text (rows_of_given given))))
    (rows_later (given_rows name text (rows_of_given given))) (taken name text given next)
use_comes name text given later rows_later next right all has =
    use_by (given_fault name text (rows_of_given given)) (given_rows name text (rows_of_given given))
    name text given later rows_later next right all has (fault_is name text given) (rows_are name text given) (is_given name given) (fits name text) refl refl

-- ---- the last given option is handled late

-- the option with its text, if there is one that clap has not used yet
abbrev pub Late : Type 0
Late = Option (Text × Text)

abbrev pub late_pending : Late → Pending
late_pending None = None
late_pending (Some p) = Some (p.0, p.1 ∷ [])

abbrev pub IsKnown : Late → Type 0
IsKnown None = Unit {0}
IsKnown (Some p) = takes_text p.0 ≡ true

-- the result of the words after it
abbrev pub taken_late : Late → Given → (Given → Asked) → Asked
taken_late None given next = next given
taken_late (Some p) given next = taken p.0 p.1 given next

refused_late : (p : Late) (given : Given) → refused ≡ taken_late p given (λ _. refused)
refused_late None given = refl
refused_late (Some p) given = go (is_given p.0 given) (fits p.0 p.1)
  where
    go : (b d : Bool) → refused ≡ cond b refused (cond d refused refused)
    go true d = refl
    go false true = refl
    go false false = refl

Refuses-late : (p : Late) (given : Given) (kinds : Kinds) (rows : List Row) → Refuses kinds → Comes kinds rows (taken_late p given (λ _. refused))
Refuses-late p given kinds rows r = subst (Comes kinds rows) (refused_late p given) r

-- the faults and the rows of the words from here on
abbrev pub rest_fault : List Rule → Walk → List Text → Kinds
rest_fault c w words = or_else (walk_fault (shape c) [] w words) (settle_fault c false (fold (walked c []) w words).held)

abbrev pub rest_rows : List Rule → Walk → List Text → List Row
rest_rows c w words = (settled c (fold (walked c []) w words).held).rows

next_fault : (c : List Rule) (w : Walk) (word : Text) (rest : List Text)
    → rest_fault c w (word ∷ rest) ≡ or_else (turn_fault (shape c) [] w word) (rest_fault c (walked c [] w word) rest)
unfolding walk_fault
next_fault c w word rest = or_else-assoc (turn_fault (shape c) [] w word) (walk_fault (shape c) [] (walked c [] w word) rest) _

no_words : (c : List Rule) (w : Walk) → rest_fault c w [] ≡ settle_fault c false w.held
unfolding walk_fault
no_words c w = refl

module _ (c : List Rule) (facts : HasOptions c) where
  settled_comes : (p : Late) (given : Given) (later : List Row → Kinds) (rows_later : List Row → List Row) (next : Given → Asked) → IsKnown p
      → ((g : Given) → AreGivable g → Comes (later (rows_of_given g)) (rows_later (rows_of_given g)) (next g)) → AreGivable given
      → Comes (or_else (settle_fault c false (held (rows_of_given given) (late_pending p))) (later (settled_rows c (late_pending p) (rows_of_given given))))
      (rows_later (settled_rows c (late_pending p) (rows_of_given given))) (taken_late p given next)
  settled_comes None given later rows_later next known right all = right given all
  settled_comes (Some p) given later rows_later next known right all =
      let k = facts.known p.0 known in
      let rows = rows_of_given given in
      let fault = ap (λ (o : Option Rule). option_map_or (λ a. use_fault false a (p.1 ∷ []) rows) o []) k.by_id ∙ use_is c p.0 p.1 k rows in
      let found = ap (λ (o : Option Rule). used_by_id o (p.1 ∷ []) rows) k.by_id ∙ used_is c p.0 p.1 k rows in
      let h = use_comes p.0 p.1 given later rows_later next right all (not_flag_text p.0 p.1 known) in
      let with_rows = subst (λ (rs : List Row). Comes (or_else (given_fault p.0 p.1 rows) (later rs)) (rows_later rs) (taken p.0 p.1 given next)) (sym found) h in
      subst (λ (ks : Kinds). Comes (or_else ks (later (used_by_id (arg_by_id c p.0) (p.1 ∷ []) rows))) (rows_later (used_by_id (arg_by_id c p.0) (p.1 ∷ []) rows)) (taken p.0 p.1 given next))
      (sym fault) with_rows

  -- an option without text
  settle_waits : (name : Text) (rows : List Row) → takes_text name ≡ true → settle_fault c false (held rows (Some (name, []))) ≡ InvalidValue ∷ []
  settle_waits name rows is = subst (λ (o : Option Rule). option_map_or (λ a. use_fault false a [] rows) o [] ≡ InvalidValue ∷ []) (sym (facts.known name is).by_id) refl

  -- a word that is no text of an option
  stray : (rows : List Row) (pen : Pending) → step_fault (shape c) 1 (held rows pen) value ≡ UnknownArgument ∷ []
  stray rows pen = subst (λ (o : Option Rule). option_map_or (λ a. positional_fault c false a (held rows pen)) o (UnknownArgument ∷ []) ≡ UnknownArgument ∷ [])
      (sym facts.positional) refl

  pushed_walk : (name word : Text) (rows : List Row) → takes_text name ≡ true → let met = plain_word c (option name) word (held rows (Some (name, []))) in
      after_step c word (standing rows (Some (name, [])) (option name) false) met.0 met.1 ≡ standing rows (Some (name, word ∷ [])) idle false
  pushed_walk name word rows is =
      let w = standing rows (Some (name, [])) (option name) false in
      subst (λ (o : Option Rule). after_step c word w (option_word o name word w.held).0 (next_step (option_word o name word w.held).1) ≡ standing rows (Some (name, word ∷ [])) idle false)
      (sym (facts.known name is).by_id)
      (ap (λ (b : Bool). standing rows (Some (name, word ∷ [])) (cond (nat_lt (cond b 1 0) 1) (option name) idle) false) ((bytes_eq-Decides name name).1 refl))

  -- ---- after `--`

  trailing_stray : (rows : List Row) (pen : Pending) (waiting : Waiting) (word : Text) (rest : List Text) → Refuses (rest_fault c (standing rows pen waiting true) (word ∷ rest))
  trailing_stray rows pen waiting word rest =
      let w = standing rows pen waiting true in
      (UnknownArgument, next_fault c w word rest ∙ ap (λ (ks : Kinds). or_else (or_else [] ks) (rest_fault c (walked c [] w word) rest)) (stray rows pen), refl)

  end_comes : (p : Late) (given : Given) (is_trailing : Bool) → IsKnown p → AreGivable given
      → Comes (rest_fault c (standing (rows_of_given given) (late_pending p) idle is_trailing) []) (settled_rows c (late_pending p) (rows_of_given given)) (taken_late p given options)
  end_comes p given is_trailing known all =
      let w = standing (rows_of_given given) (late_pending p) idle is_trailing in
      let h = settled_comes p given (λ _. []) (λ rows. rows) options known (λ g right. (refl, refl, right)) all in
      subst (λ (ks : Kinds). Comes ks (rest_rows c w []) (taken_late p given options)) (or_else-none (settle_fault c false w.held) ∙ sym (no_words c w)) h

  ends_comes : (rest : List Text) (p : Late) (given : Given) → IsKnown p → AreGivable given
      → Comes (rest_fault c (standing (rows_of_given given) (late_pending p) idle true) rest) (rest_rows c (standing (rows_of_given given) (late_pending p) idle true) rest)
      (taken_late p given (at_end rest))
  ends_comes [] p given known all = end_comes p given true known all
  ends_comes (word ∷ rest) p given known all = Refuses-late p given _ _ (trailing_stray (rows_of_given given) (late_pending p) idle word rest)

  ends_waits : (rest : List Text) (name : Text) (rows : List Row) → takes_text name ≡ true → Refuses (rest_fault c (standing rows (Some (name, [])) (option name) true) rest)
  ends_waits [] name rows is = (InvalidValue, no_words c _ ∙ settle_waits name rows is, refl)
  ends_waits (word ∷ rest) name rows is = trailing_stray rows (Some (name, [])) (option name) word rest

  -- ---- word by word

  -- the result of the words when no option is waiting for its text, and when one is
  abbrev Idle : List Text → Type 0
  Idle words = (p : Late) (given : Given) → IsKnown p → AreGivable given
      → Comes (rest_fault c (standing (rows_of_given given) (late_pending p) idle false) words) (rest_rows c (standing (rows_of_given given) (late_pending p) idle false) words)
      (taken_late p given (asked_from words None))

  abbrev Waits : List Text → Type 0
  Waits words = (name : Text) (given : Given) → takes_text name ≡ true → AreGivable given
      → Comes (rest_fault c (standing (rows_of_given given) (Some (name, [])) (option name) false) words)
      (rest_rows c (standing (rows_of_given given) (Some (name, [])) (option name) false) words) (asked_from words (Some name) given)

  -- after this turn, this is the result of the rest
  abbrev After : List Text → Asked → Kinds → Walk → Type 0
  After rest asked kinds after = Comes (or_else kinds (rest_fault c after rest)) (rest_rows c after rest) asked

  moved : (rest : List Text) (asked : Asked) (kinds new_kinds : Kinds) (after new_after : Walk) → kinds ≡ new_kinds → after ≡ new_after
      → After rest asked new_kinds new_after → After rest asked kinds after
  moved rest asked kinds new_kinds after new_after same same_walk h =
      let with_walk = subst (After rest asked new_kinds) (sym same_walk) h in
      subst (λ (ks : Kinds). After rest asked ks after) (sym same) with_walk

  idle_awaits : (rest : List Text) → Waits rest → (name : Text) (p : Late) (given : Given) → IsKnown p → AreGivable given → takes_text name ≡ true
      → After rest (taken_late p given (asked_from rest (Some name))) (settle_fault c false (held (rows_of_given given) (late_pending p)))
      (standing (settled_rows c (late_pending p) (rows_of_given given)) (Some (name, [])) (option name) false)
  idle_awaits rest waits_rest name p given known all is =
      settled_comes p given (λ rows. rest_fault c (standing rows (Some (name, [])) (option name) false) rest)
      (λ rows. rest_rows c (standing rows (Some (name, [])) (option name) false) rest) (asked_from rest (Some name)) known
      (λ g right. waits_rest name g is right) all

  idle_gives : (rest : List Text) → Idle rest → (name text : Text) (p : Late) (given : Given) → IsKnown p → AreGivable given → HasText name text
      → After rest (taken_late p given (λ g. taken name text g (asked_from rest None)))
      (or_else (settle_fault c false (held (rows_of_given given) (late_pending p))) (given_fault name text (settled_rows c (late_pending p) (rows_of_given given))))
      (standing (given_rows name text (settled_rows c (late_pending p) (rows_of_given given))) None idle false)
  idle_gives rest idle_rest name text p given known all has =
      let h = settled_comes p given (λ rows. or_else (given_fault name text rows) (rest_fault c (standing (given_rows name text rows) None idle false) rest))
      (λ rows. rest_rows c (standing (given_rows name text rows) None idle false) rest) (λ g. taken name text g (asked_from rest None)) known
      (λ g right. use_comes name text g (λ rows. rest_fault c (standing rows None idle false) rest) (λ rows. rest_rows c (standing rows None idle false) rest)
      (asked_from rest None) (λ k more. idle_rest None k tt more) right has) all in
      let after = standing (given_rows name text (settled_rows c (late_pending p) (rows_of_given given))) None idle false in
      subst (λ (ks : Kinds). Comes ks (rest_rows c after rest) (taken_late p given (λ g. taken name text g (asked_from rest None))))
      (sym (or_else-assoc (settle_fault c false (held (rows_of_given given) (late_pending p))) (given_fault name text (settled_rows c (late_pending p) (rows_of_given given))) (rest_fault c after rest))) h

  idle_asks : (rest : List Text) (after : Walk) (p : Late) (given : Given) → IsKnown p → AreGivable given
      → After rest (taken_late p given (λ _. help)) (or_else (settle_fault c false (held (rows_of_given given) (late_pending p))) (DisplayHelp ∷ [])) after
  idle_asks rest after p given known all =
      let h = settled_comes p given (λ _. DisplayHelp ∷ []) (λ _. rest_rows c after rest) (λ _. help) known (λ g right. refl) all in
      subst (λ (ks : Kinds). Comes ks (rest_rows c after rest) (taken_late p given (λ _. help))) (sym (or_else-last _ DisplayHelp _)) h

  idle_step : (word : Text) (rest : List Text) → Idle rest → Waits rest → (p : Late) (given : Given) → IsKnown p → AreGivable given
      → (sort : Sort) (kinds : Kinds) (after : Walk) → TurnIs c (rows_of_given given) (late_pending p) idle word kinds after sort
      → After rest (taken_late p given (λ g. asked_by None sort word rest g (asked_from rest))) kinds after
  idle_step word rest idle_rest waits_rest p given known all (awaits name) kinds after t =
      moved rest _ kinds _ after _ t.1 t.2 (idle_awaits rest waits_rest name p given known all t.0)
  idle_step word rest idle_rest waits_rest p given known all (gives name text) kinds after t =
      moved rest _ kinds _ after _ t.1 t.2 (idle_gives rest idle_rest name text p given known all t.0)
  idle_step word rest idle_rest waits_rest p given known all asks kinds after t = moved rest _ kinds _ after after t refl (idle_asks rest after p given known all)
  idle_step word rest idle_rest waits_rest p given known all ends kinds after t = moved rest _ kinds _ after _ t.0 t.1 (ends_comes rest p given known all)
  idle_step word rest idle_rest waits_rest p given known all plain kinds after t =
      Refuses-late p given _ _ (Refuses-first kinds (rest_fault c after rest) (UnknownArgument, t.0 ∙ stray (rows_of_given given) (late_pending p), refl))
  idle_step word rest idle_rest waits_rest p given known all unknown kinds after t = Refuses-late p given _ _ (Refuses-first kinds (rest_fault c after rest) t)

  -- a flag in the place of a text
  flag_due : (name : Text) (rows : List Row) (kinds more next : Kinds) → takes_text name ≡ true → kinds ≡ or_else (settle_fault c false (held rows (Some (name, [])))) more
      → Refuses (or_else kinds next)
  flag_due name rows kinds more next is same =
      Refuses-first kinds next (InvalidValue, same ∙ ap (λ (ks : Kinds). or_else ks more) (settle_waits name rows is), refl)

  waits_step : (word : Text) (rest : List Text) → Idle rest → (name : Text) (given : Given) → takes_text name ≡ true → AreGivable given
      → (sort : Sort) (kinds : Kinds) (after : Walk) → TurnIs c (rows_of_given given) (Some (name, [])) (option name) word kinds after sort
      → After rest (asked_by (Some name) sort word rest given (asked_from rest)) kinds after
  waits_step word rest idle_rest name given is all (awaits other) kinds after t = flag_due name (rows_of_given given) kinds [] _ is (t.1 ∙ sym (or_else-none _))
  waits_step word rest idle_rest name given is all (gives other text) kinds after t = flag_due name (rows_of_given given) kinds _ _ is t.1
  waits_step word rest idle_rest name given is all asks kinds after t = flag_due name (rows_of_given given) kinds _ _ is t
  waits_step word rest idle_rest name given is all ends kinds after t =
      moved rest refused kinds [] after (standing (rows_of_given given) (Some (name, [])) (option name) true) t.0 t.1 (ends_waits rest name (rows_of_given given) is)
  waits_step word rest idle_rest name given is all plain kinds after t =
      moved rest (taken name word given (asked_from rest None)) kinds [] after (standing (rows_of_given given) (Some (name, word ∷ [])) idle false)
      t.0 (t.1 ∙ pushed_walk name word (rows_of_given given) is) (idle_rest (Some (name, word)) given is all)
  waits_step word rest idle_rest name given is all unknown kinds after t = Refuses-first kinds (rest_fault c after rest) t

  by_next : (w : Walk) (word : Text) (rest : List Text) (asked : Asked) → After rest asked (turn_fault (shape c) [] w word) (walked c [] w word)
      → Comes (rest_fault c w (word ∷ rest)) (rest_rows c w (word ∷ rest)) asked
  by_next w word rest asked h = subst (λ (ks : Kinds). Comes ks (rest_rows c w (word ∷ rest)) asked) (sym (next_fault c w word rest)) h

  both_come : (words : List Text) → Idle words × Waits words
  both_come [] = (
    λ p given known all. end_comes p given false known all,
    λ name given is all. (InvalidValue, no_words c _ ∙ settle_waits name (rows_of_given given) is, refl),
  )
  both_come (word ∷ rest) = (
    λ p given known all.
        let w = standing (rows_of_given given) (late_pending p) idle false in
        by_next w word rest _ (idle_step word rest (both_come rest).0 (both_come rest).1 p given known all (sort_of word) _ _
        (turn_is c facts (rows_of_given given) (late_pending p) idle word)),
    λ name given is all.
        let w = standing (rows_of_given given) (Some (name, [])) (option name) false in
        by_next w word rest _ (waits_step word rest (both_come rest).0 name given is all (sort_of word) _ _
        (turn_is c facts (rows_of_given given) (Some (name, [])) (option name) word)),
  )

  -- the result of the words is the result of `clap`
  pub words_come : (words : List Text) → Comes (rest_fault c (standing [] None idle false) words) (rest_rows c (standing [] None idle false) words) (asked_from words None [])
  words_come words = (both_come words).0 None [] tt (All-nil IsGivable)
