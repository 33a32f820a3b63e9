-- Lemmas on the loop over the orders of a source.
use Rattle.std.proofs.Common.{◌≡◌, inl, inr, Bool, true, false, List, [], ◌∷◌, ◌++◌, Option, Some, None, IfSome, Ok, Err, refl, ap, ◌∙◌, subst, append-nil}
use Rattle.std.specs.Prelude.{option_to_list}
use Rattle.std.specs.Bool.{then_some}
use Rattle.keys.specs.Bytes.{Bytes, Pairs}
use Rattle.keys.specs.declared.settings.Settings.{Settings}
use Rattle.mapping.specs.Levels.{contents}
use Rattle.mapping.specs.Tree.{Store}
use Rattle.bwsh.specs.declared.line.Line.{Line}
use Rattle.bwsh.specs.declared.options.asked.Mode.{Mode}
use Rattle.bwsh.specs.declared.order.Bounds.{Bounds}
use Rattle.bwsh.specs.declared.order.Order.{Order}
use Rattle.bwsh.specs.declared.order.Order.TheVariants.{Numbers}
use Rattle.bwsh.specs.declared.session.SessionError.{SessionError}
use Rattle.bwsh.specs.declared.session.SessionError.TheVariants.{Device}
use Rattle.bwsh.specs.declared.source.Source.{Source}
use Rattle.bwsh.specs.BatchFile.{AreRead, asked, orders_in, parse_text, with_numbers}
use Rattle.bwsh.specs.BatchFile.Pending.{begun}
use Rattle.bwsh.specs.Options.{bounds_of}
use Rattle.bwsh.specs.Session.{RunsAsk, RunsOn}
use Rattle.bwsh.specs.Source.{IsToCome, to_come}
use Rattle.bwsh.proofs.CopiedLemmas.{End}
use Rattle.bwsh.proofs.FirstLemmas.{RunsOn-cut, RunsOn-none}

-- Whatever orders can still come, their output after the output so far is the output of some orders that were possible at first: these are run on
-- this store and, on an honest disk, on these bytes.
abbrev pub Continues : Mode → Bool → Settings → Store → Bytes → (List Order → Type 0) → Option Bytes → Store → Bytes → (List Order → Type 0) → Option Bytes → Type 0
Continues mode honest settings first file AtFirst old st seen Now printed =
    (rest : List Order) → Now rest → (new : Option Bytes) (end : End) (held : Pairs Bytes) → RunsOn mode honest settings st seen rest printed new end held
    → (orders : List Order) × AtFirst orders × RunsOn mode honest settings first file orders old new end held

-- some orders that were possible at first end in this way
abbrev pub SomeRun : Mode → Bool → Settings → Store → Bytes → (List Order → Type 0) → Option Bytes → Option Bytes → End → Pairs Bytes → Type 0
SomeRun mode honest settings first file AtFirst old new end held = (orders : List Order) × AtFirst orders × RunsOn mode honest settings first file orders old new end held

pub Continues-first : (mode : Mode) (honest : Bool) (settings : Settings) (st : Store) (file : Bytes) (Now : List Order → Type 0) (old : Option Bytes)
    → Continues mode honest settings st file Now old st file Now old
Continues-first mode honest settings st file Now old rest is new end held runs = (rest, is, runs)

module _ (mode : Mode) (honest : Bool) (settings : Settings) (first st : Store) (file seen : Bytes) (AtFirst Now : List Order → Type 0) (old printed : Option Bytes)
    (continues : Continues mode honest settings first file AtFirst old st seen Now printed) where
  -- none is left
  pub Continues-done : Now [] → SomeRun mode honest settings first file AtFirst old printed (Ok tt) (contents st.tree)
  Continues-done is = continues [] is printed (Ok tt) (contents st.tree) (RunsOn-none mode honest settings st seen printed)

  -- the input fails
  pub Continues-cut : (left : (rest : List Order) × Now rest) (held : Pairs Bytes) → SomeRun mode honest settings first file AtFirst old printed (Err Device) held
  Continues-cut (rest, is) held = continues rest is printed (Err Device) held (RunsOn-cut mode honest settings st seen rest printed Device (inr refl) held)

  -- one more is answered, on a store that has the settings of the first, and on a disk that is as honest
  module _ (order : Order) (Then : List Order → Type 0) (next : (rest : List Order) → Then rest → Now (order ∷ rest)) (b : Bool) (b_is : b ≡ honest) (s : Settings) (s_is : s ≡ settings)
      (new : Option Bytes) (end : End) (after : Store) (bytes : Bytes) (one : RunsAsk mode b s st seen (order ∷ []) printed new end after bytes) where
    own : RunsAsk mode honest settings st seen (order ∷ []) printed new end after bytes
    own = subst (λ (c : Bool). RunsAsk mode c settings st seen (order ∷ []) printed new end after bytes) b_is
        (subst (λ (t : Settings). RunsAsk mode b t st seen (order ∷ []) printed new end after bytes) s_is one)

    -- it is the last one
    pub Continues-stops : (early : SessionError) → end ≡ Err early → (left : (rest : List Order) × Then rest) (held : Pairs Bytes) → SomeRun mode honest settings first file AtFirst old new (Err early) held
    Continues-stops early e (rest, is) held =
        let mine : RunsAsk mode honest settings st seen (order ∷ []) printed new (Err early) after bytes =
        subst (λ (r : End). RunsAsk mode honest settings st seen (order ∷ []) printed new r after bytes) e own in
        continues (order ∷ rest) (next rest is) new (Err early) held (mine.1 rest held)

    -- others follow
    pub Continues-next : (done : Unit {0}) → end ≡ Ok done → Continues mode honest settings first file AtFirst old after bytes Then new
    Continues-next done e rest is last ended held runs =
        let mine : RunsAsk mode honest settings st seen (order ∷ []) printed new (Ok done) after bytes =
        subst (λ (r : End). RunsAsk mode honest settings st seen (order ∷ []) printed new r after bytes) e own in
        continues (order ∷ rest) (next rest is) last ended held (mine rest last ended held runs)

-- ---- the orders that can come from a source

read_all : (stream : Bool) (lines : List Line) → AreRead stream lines lines
read_all stream [] = tt
read_all stream (line ∷ rest) = (inl refl, read_all stream rest)

-- some lines can be read of the known input
pub some_read : (stream : Bool) (known : Option Bytes) → (parsed : List Line) × IfSome known (λ text. AreRead stream (parse_text stream text) parsed)
some_read stream None = ([], tt)
some_read stream (Some text) = (parse_text stream text, read_all stream (parse_text stream text))

pub some_to_come : {I : Type 0} (known : I → Option Bytes) (s : Source I) → (orders : List Order) × IsToCome known s orders
some_to_come known s = let (parsed, read) = some_read s.bounds.is_stream (known s.input) in (to_come s parsed, (parsed, read, refl))

-- the last order is the one to print the numbers, if it is asked for
numbered : (stat : Bool) (orders : List Order) → orders ++ option_to_list (then_some stat Numbers) ≡ with_numbers stat orders
numbered true orders = refl
numbered false orders = append-nil orders

-- the orders that can come from a new source are those of a session with some lines that can be read of its input
pub come_new : {I : Type 0} (known : I → Option Bytes) (s : Source I) (input : I) (mode : Mode) (last : Option Order) → s.input ≡ input → s.bounds ≡ bounds_of mode → last ≡ then_some mode.stat Numbers
    → ((parsed : List Line) → to_come s parsed ≡ asked (bounds_of mode) 1 (begun []) parsed ++ option_to_list last) → (orders : List Order) → IsToCome known s orders
    → (parsed : List Line) × IfSome (known input) (λ text. AreRead mode.stream (parse_text mode.stream text) parsed) × (orders ≡ orders_in (bounds_of mode) mode.stat parsed)
come_new {I} known s input mode last input_is bounds_is last_is come orders (parsed, read, is) = (
  parsed,
  subst (λ (i : I). IfSome (known i) (λ text. AreRead mode.stream (parse_text mode.stream text) parsed)) input_is
      (subst (λ (b : Bounds). IfSome (known s.input) (λ text. AreRead b.is_stream (parse_text b.is_stream text) parsed)) bounds_is read),
  is ∙ come parsed ∙ ap (λ (o : Option Order). asked (bounds_of mode) 1 (begun []) parsed ++ option_to_list o) last_is ∙ numbered mode.stat (asked (bounds_of mode) 1 (begun []) parsed),
)
