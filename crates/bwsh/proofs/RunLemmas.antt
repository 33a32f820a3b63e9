-- Lemmas on what orders print, and how they end.
use Rattle.std.proofs.Common.{◌≡◌, ◌≢◌, ◌<◌, ◌⊎◌, inl, inr, ℕ, zero, suc, drop, List, [], ◌∷◌, ◌++◌, map, Option, Some, None, Result, Ok, Err, refl, sym, ap, ◌∙◌, subst, append-nil, arith}
use Rattle.std.specs.Prelude.{Bool, true, false, IsTrue, IfErr, if◌then◌else◌, take}
use Rattle.std.specs.Option.{option_or}
use Rattle.std.specs.List.{flat_map}
use Rattle.std.specs.declared.alloc.Global.{Global}
use Rattle.std.specs.Io.KnownBytes.{Appends}
use Rattle.std.proofs.KnownBytes.{Appends-nil}
use Rattle.keys.specs.Step.{map_after_all}
use Rattle.keys.specs.declared.fault.Fault.{Fault}
use Rattle.keys.specs.declared.fault.Fault.TheVariants.{NoMemory, Device, Spent, Full}
use Rattle.keys.specs.declared.command.Command.{Command}
use Rattle.keys.specs.declared.settings.Settings.{Settings}
use Rattle.keys.specs.declared.version.Version.{Version}
use Rattle.keys.specs.declared.version.Version.TheVariants.{One, Two}
use Rattle.mapping.specs.Levels.{contents}
use Rattle.keys.specs.Lists.{flat}
use Rattle.mapping.specs.Tree.{Store}
use Rattle.climb_plan.specs.Plan.{plan}
use Rattle.flush_log.specs.AfterFlush.{after_flush, after_upgrade, after_text, of_version_two, unless_upgraded, flush_commit, file_after, store_after, is_spent}
use Rattle.flush_log.specs.FlushText.{flush_frames, upgrade_frames, flushed}
use Rattle.flush_log.specs.Layout.{is_full_for_flush}
use Rattle.recovery.specs.StoreOfDisk.{and_then}
use Rattle.cleaner.specs.AfterClean.{after_clean}
use Rattle.cleaner.proofs.CleanBack.{cleaned-store}
use Rattle.engine.specs.Plays.{IsPlayed, IsStepDone, IsStepFault, IsPlayFault, step_of, answer_of}
use Rattle.engine.specs.Steps.{Step, Answer, Played, Stepped, unless_refused, played_on, after_step, batching, plays}
use Rattle.engine.specs.declared.step.Step as code_step
use Rattle.engine.specs.declared.step.Step.TheVariants as called
use Rattle.engine.specs.declared.step.Answer as code_answer
use Rattle.bwsh.specs.declared.order.Order.{Order}
use Rattle.bwsh.specs.declared.order.Order.TheVariants.{Batch, Lost, Flush, Clean, Upgrade, Tidy}
use Rattle.bwsh.specs.declared.session.SessionError.{SessionError}
use Rattle.bwsh.specs.declared.session.SessionError.TheVariants as errors
use Rattle.bwsh.specs.declared.options.asked.Mode.{Mode}
use Rattle.engine.specs.Cleaning.{CleanRow, count_of}
use Rattle.bwsh.specs.Session.{Stored, Seen, Reads, Tidying, AreCleansOf, AreUntidied, CanBeDone, IsAsked, IsSeen, MayFail, TidiesBy, no_tidying, untidied, step_in, left_by, refused_by, left_by_step, refusal_of_step, refusal_of, finds_no_memory, front_lines, head_lines, readied, after_order, map_after, map_unless, own_lines, own_refusal, answer_then, PrintsOwn, RunsAlone, RunsOrder, LeavesStored}
use Rattle.bwsh.specs.Output.{Writes}
use Rattle.bwsh.specs.Shown.{shown_flushed, shown_cleaned, shown_upgraded, shown_answer}
use Rattle.bwsh.proofs.StoreLemmas.{IsEndingOf}

-- ---- an order

-- this is seen at the first order, and then that
abbrev pub first_shown : Seen → Reads → ℕ → Seen
first_shown file shown zero = file
first_shown file shown (suc i) = shown i

-- it ends a session for another reason than a fault of an order alone: memory, where that isn't a refusal, or a device
abbrev pub IsCut : Bool → SessionError → Type 0
IsCut stream early = ((stream ≡ false) × (early ≡ errors.Fault NoMemory)) ⊎ (early ≡ errors.Device)

-- some lines were written, or the output failed
pub PrintsOwn-writes : (on : Bool) (old new : Option (List ℕ)) (lines : List (List ℕ)) (end : Result (Unit {0}) SessionError) → Writes old new lines end → PrintsOwn on old new lines (Ok tt) end
PrintsOwn-writes on old new lines end (inl (e, a)) = inl (e, a)
PrintsOwn-writes on old new lines end (inr (e, b)) = inr (inr (e, b))

module _ (settings : Settings) (st : Store) (file : Seen) (order : Order) (stream : Bool) (old new : Option (List ℕ)) where
  -- the lines of the order, and what it leaves
  abbrev lines : List (List ℕ)
  lines = own_lines settings st file (contents st.tree) order

  abbrev left : Stored
  left = after_order settings st file order

  -- the lines of the cleans in front of it
  abbrev front : List (List ℕ)
  front = front_lines st file order

  -- what the order does where it is the only one, and a refusal is an end
  abbrev AloneIs : Result (Unit {0}) SessionError → Type 0
  AloneIs end = RunsAlone stream settings st file order old new end

  -- a device fails before anything of it is written
  pub cut_off : new ≡ old → AloneIs (Err errors.Device)
  unfolding RunsAlone
  cut_off same = rw same (inr (inr (refl, ([], (flat (answer_then false (refusal_of settings st file order) file.told front lines []), refl), Appends-nil old))))

  -- the order is answered
  pub all_printed : (end : Result (Unit {0}) SessionError) → refusal_of settings st file order ≡ None → PrintsOwn stream old new (front ++ lines) (Ok tt) end → AloneIs end
  unfolding RunsAlone
  all_printed end none p =
      rw none (subst (λ (l : List (List ℕ)). PrintsOwn stream old new l (Ok tt) end) (sym (append-nil (front ++ lines))) p)

  -- what it prints where it isn't refused, and where it is
  pub own_printed : (end : Result (Unit {0}) SessionError) → refusal_of settings st file order ≡ None → AloneIs end → PrintsOwn stream old new (front ++ lines) (Ok tt) end
  unfolding RunsAlone
  own_printed end none p =
      let own : PrintsOwn stream old new (front ++ lines ++ []) (Ok tt) end = rw none at p in
      subst (λ (l : List (List ℕ)). PrintsOwn stream old new l (Ok tt) end) (append-nil (front ++ lines)) own

  pub none_printed : (end : Result (Unit {0}) SessionError) (fault : Fault) → refusal_of settings st file order ≡ Some fault → AloneIs end → PrintsOwn stream old new front (Err (errors.Fault fault)) end
  unfolding RunsAlone
  none_printed end fault some p =
      let own : PrintsOwn stream old new front (Err (errors.Fault fault)) end = rw some at p in
      own

  pub refused_printed : (end : Result (Unit {0}) SessionError) (fault : Fault) → refusal_of settings st file order ≡ Some fault → PrintsOwn stream old new front (Err (errors.Fault fault)) end → AloneIs end
  unfolding RunsAlone
  refused_printed end fault some p = rw some p

  -- with no cleans in front of it
  module _ (bare : front ≡ []) where
    pub refused : (fault : Fault) → new ≡ old → refusal_of settings st file order ≡ Some fault → AloneIs (Err (errors.Fault fault))
    refused fault same some =
        refused_printed (Err (errors.Fault fault)) fault some
        (subst (λ (l : List (List ℕ)). PrintsOwn stream old new l (Err (errors.Fault fault)) (Err (errors.Fault fault))) (sym bare)
        (subst (λ (o : Option (List ℕ)). PrintsOwn stream old o [] (Err (errors.Fault fault)) (Err (errors.Fault fault))) (sym same) (inl (refl, Appends-nil old))))

    pub bare_printed : (end : Result (Unit {0}) SessionError) → refusal_of settings st file order ≡ None → PrintsOwn stream old new lines (Ok tt) end → AloneIs end
    bare_printed end none p = all_printed end none (subst (λ (l : List (List ℕ)). PrintsOwn stream old new (l ++ lines) (Ok tt) end) (sym bare) p)

  -- it isn't refused where it is done
  unrefused_of : (r : Option Fault) → refusal_of settings st file order ≡ r → (done : Unit {0}) → AloneIs (Ok done) → refusal_of settings st file order ≡ None
  unrefused_of None none done p = none
  unrefused_of (Some fault) some done p = by (none_printed (Ok done) fault some p)
    where
      by : PrintsOwn stream old new front (Err (errors.Fault fault)) (Ok done) → refusal_of settings st file order ≡ None
      by (inl (e, a)) = absurd (cc)
      by (inr (inl (off, e, q))) = absurd (cc)
      by (inr (inr (e, q))) = absurd (cc)

  pub unrefused_by : (done : Unit {0}) → AloneIs (Ok done) → refusal_of settings st file order ≡ None
  unrefused_by done p = unrefused_of (refusal_of settings st file order) refl done p

pub same_ending : (early other : SessionError) → (let end : Result (Unit {0}) SessionError = Err early in end ≡ Err other) → early ≡ other
same_ending early other e = cc

-- all of it is done, so all was printed
pub own_all : (stream : Bool) (old new : Option (List ℕ)) (lines : List (List ℕ)) (done : Unit {0}) → PrintsOwn stream old new lines (Ok tt) (Ok done) → Appends old new (flat lines)
own_all stream old new lines done (inl (e, a)) = a
own_all stream old new lines done (inr (inl (off, e, q))) = absurd (cc)
own_all stream old new lines done (inr (inr (e, q))) = absurd (cc)

-- an order that is refused for the same reason and answers the same lines, on another store or where something else is seen, does the same where it is the only one
module _ (settings : Settings) (a b : Store) (f g : Seen) (order : Order) (refused_so : refusal_of settings a f order ≡ refusal_of settings b g order)
    (front_is : front_lines a f order ≡ front_lines b g order) (lines_are : own_lines settings a f (contents a.tree) order ≡ own_lines settings b g (contents b.tree) order) (stream : Bool) (old new : Option (List ℕ)) (end : Result (Unit {0}) SessionError) where
  alike_by : (r : Option Fault) → refusal_of settings b g order ≡ r → RunsAlone stream settings b g order old new end → RunsAlone stream settings a f order old new end
  alike_by None none p =
      all_printed settings a f order stream old new end (refused_so ∙ none)
      (subst (λ (l : List (List ℕ)). PrintsOwn stream old new (l ++ own_lines settings a f (contents a.tree) order) (Ok tt) end) (sym front_is)
      (subst (λ (l : List (List ℕ)). PrintsOwn stream old new (front_lines b g order ++ l) (Ok tt) end) (sym lines_are) (own_printed settings b g order stream old new end none p)))
  alike_by (Some fault) some p = refused_printed settings a f order stream old new end fault (refused_so ∙ some)
      (subst (λ (l : List (List ℕ)). PrintsOwn stream old new l (Err (errors.Fault fault)) end) (sym front_is) (none_printed settings b g order stream old new end fault some p))

  pub Runs-alike : RunsAlone stream settings b g order old new end → RunsAlone stream settings a f order old new end
  Runs-alike p = alike_by (refusal_of settings b g order) refl p

-- and leaves the same, if it leaves the same store
pub LeavesStored-alike : (honest : Bool) (settings : Settings) (a b : Store) (f g : Seen) (order : Order) → refusal_of settings a f order ≡ refusal_of settings b g order
    → after_order settings a f order ≡ after_order settings b g order → contents a.tree ≡ contents b.tree → (now : Store) (bytes : List ℕ)
    → LeavesStored honest settings b g order now bytes → LeavesStored honest settings a f order now bytes
LeavesStored-alike honest settings a b f g order refused_so after held now bytes leaves = record {
  store = leaves.store ∙ ap (λ (at : Stored). at.0) (sym after);
  bytes = λ h. leaves.bytes h ∙ ap (λ (at : Stored). at.1) (sym after);
  holds = leaves.holds ∙ ap (λ (r : Option Fault). map_unless r (contents b.tree) order) (sym refused_so) ∙ ap (λ (m : List (List ℕ × List ℕ)). map_unless (refusal_of settings a f order) m order) (sym held);
}

-- an order that is refused, and at which nothing is tidied, leaves all as it was
pub LeavesStored-unmoved : (honest : Bool) (settings : Settings) (st was : Store) (at : Seen) (order : Order) (fault : Fault) → refusal_of settings st at order ≡ Some fault
    → (file : List ℕ) → after_order settings st at order ≡ (was, file) → contents was.tree ≡ contents st.tree → (now : Store) (bytes : List ℕ) → now ≡ was → (IsTrue honest → bytes ≡ file)
    → LeavesStored honest settings st at order now bytes
LeavesStored-unmoved honest settings st was at order fault some file after held now bytes now_is bytes_are = record {
  store = now_is ∙ ap (λ (q : Stored). q.0) (sym after);
  bytes = λ h. bytes_are h ∙ ap (λ (q : Stored). q.1) (sym after);
  holds = ap (λ (s : Store). contents s.tree) now_is ∙ held ∙ ap (λ (r : Option Fault). map_unless r (contents st.tree) order) (sym some);
}

-- ---- cleans in front of an order

-- with no rows there are no lines of cleans
pub none_in_front : (st : Store) (seen : Seen) (order : Order) → seen.rows ≡ [] → front_lines st seen order ≡ []
none_in_front st seen Flush none = ap (λ (r : List CleanRow). head_lines st.head (count_of r)) none
none_in_front st seen _ none = refl

-- no rows can be seen in front of an order that is no flush, or where flushes make themselves no room
pub no_cleans : (honest cleans : Bool) (settings : Settings) (st : Store) (order : Order) (seen : Seen) → (order ≡ Flush → cleans ≡ false) → seen.rows ≡ [] → AreCleansOf honest cleans settings st order seen
no_cleans honest true settings st Flush seen plain none = (let off = plain refl in absurd (cc))
no_cleans honest true settings st _ seen plain none = none
no_cleans honest false settings st order seen plain none = none

-- none can be seen in front of an order that fails, if a flush does for want of memory
pub failing_cleans : (honest cleans : Bool) (settings : Settings) (st : Store) (order : Order) (fault : Fault) → (order ≡ Flush → fault ≡ NoMemory) → (file : List ℕ) (tidying : Tidying)
    → AreCleansOf honest cleans settings st order (record { bytes = file; tidying = tidying; rows = []; last = file; merged = []; fails = Some fault; told = [] })
failing_cleans honest true settings st Flush fault memory file tidying =
    let unfed : finds_no_memory (Some fault) ≡ true = ap (λ (f : Fault). finds_no_memory (Some f)) (memory refl) in
    ((refl, λ h. refl), λ other none. absurd (cc), λ e. absurd (cc))
failing_cleans honest true settings st _ fault memory file tidying = refl
failing_cleans honest false settings st order fault memory file tidying = refl

-- ---- what the disk shows is what was left

-- no tidying is asked for in any way
pub no_tidying_asked : (mode : Mode) → IsAsked mode no_tidying
no_tidying_asked mode = (λ off. refl, λ off. refl)

-- the same way is asked for
pub as_asked : (mode : Mode) {a b : Tidying} → IsAsked mode b → a ≡ b → IsAsked mode a
as_asked mode asked is = subst (IsAsked mode) (sym is) asked

-- where no store is tidied, none is where that isn't asked for
pub TidiesBy-none : (mode : Mode) (shown : Reads) → AreUntidied shown → TidiesBy mode shown
TidiesBy-none mode shown none = λ i. as_asked mode (no_tidying_asked mode) (none i)

-- these bytes are read, nothing is tidied, and this fails, if something does
abbrev pub failing : Option Fault → List ℕ → Seen
failing fails file = record { bytes = file; tidying = no_tidying; rows = []; last = file; merged = []; fails = fails; told = [] }

-- an order before which nothing is tidied does what its step does
pub untidied_before : (order : Order) (settings : Settings) (fails : Option Fault) (file : List ℕ) (st : Store) → readied order settings (failing fails file) (st, file) ≡ (st, file)
untidied_before Flush settings fails file st = refl
untidied_before (Tidy most) settings fails file st = refl
untidied_before _ settings fails file st = refl

-- these bytes can be seen, where nothing is tidied or cleaned, and they are what the disk shows if it is honest
pub seen_left : (mode : Mode) (honest : Bool) (settings : Settings) (st : Store) (left file : List ℕ) (order : Order) → (order ≡ Flush → mode.clean_when_full ≡ false)
    → CanBeDone settings (readied order settings (untidied file) (st, file)) order
    → (IsTrue honest → file ≡ left)
    → IsSeen mode honest settings st left order (untidied file)
seen_left mode honest settings st left file order plain can is =
    (no_tidying_asked mode, can, no_cleans honest mode.clean_when_full settings st order (untidied file) plain refl, λ h. (is h, refl))

pub seen_untidied : (mode : Mode) (honest : Bool) (settings : Settings) (st : Store) (left : List ℕ) (order : Order) → (order ≡ Flush → mode.clean_when_full ≡ false) → CanBeDone settings (st, left) order
    → IsSeen mode honest settings st left order (untidied left)
seen_untidied mode honest settings st left order plain can =
    seen_left mode honest settings st left left order plain (subst (λ (at : Stored). CanBeDone settings at order) (sym (untidied_before order settings None left st)) can) (λ h. refl)

-- it can be seen that something fails which may, if a flush does for want of memory
pub seen_failing : (mode : Mode) (honest : Bool) (settings : Settings) (st : Store) (left file : List ℕ) (order : Order) (fault : Fault) → (order ≡ Flush → fault ≡ NoMemory)
    → MayFail mode.clean_when_full settings (readied order settings (failing (Some fault) file) (st, file)) order fault → (IsTrue honest → file ≡ left)
    → IsSeen mode honest settings st left order (failing (Some fault) file)
seen_failing mode honest settings st left file order fault memory may is =
    (no_tidying_asked mode, may, failing_cleans honest mode.clean_when_full settings st order fault memory file no_tidying, λ h. (is h, refl))

pub after_order-untidied : (settings : Settings) (st : Store) (file : List ℕ) (order : Order) → after_order settings st (untidied file) order ≡ left_by_step settings (st, file) (step_in order)
unfolding after_order
after_order-untidied settings st file order = ap (λ (at : Stored). left_by_step settings at (step_in order)) (untidied_before order settings None file st)

pub after_order-failing : (settings : Settings) (st : Store) (file : List ℕ) (order : Order) (fault : Fault) → after_order settings st (failing (Some fault) file) order ≡ (st, file)
unfolding after_order
after_order-failing settings st file order fault = untidied_before order settings (Some fault) file st

pub refusal_of-failing : (settings : Settings) (st : Store) (at : Seen) (order : Order) (fault : Fault) → at.fails ≡ Some fault → refusal_of settings st at order ≡ Some fault
unfolding refusal_of
refusal_of-failing settings st at order fault fails =
    ap (λ (r : Option Fault). option_or r (own_refusal settings (readied order settings at (st, at.bytes)) order)) fails

-- the refusal of a step is that of its order
own_refusal-step : (settings : Settings) (order : Order) (at : Stored) (y : Step Global) → step_in order ≡ Some y → own_refusal settings at order ≡ refusal_of_step settings at (step_in order)
own_refusal-step settings Lost at y is = absurd (cc)
own_refusal-step settings _ at y is = refl

refusal_of-untidied : (settings : Settings) (st : Store) (file : List ℕ) (order : Order) (y : Step Global) → step_in order ≡ Some y
    → refusal_of settings st (untidied file) order ≡ refusal_of_step settings (st, file) (step_in order)
unfolding refusal_of
refusal_of-untidied settings st file order y is =
    ap (λ (at : Stored). own_refusal settings at order) (untidied_before order settings None file st) ∙ own_refusal-step settings order (st, file) y is

-- a step finds no memory
pub memory_fails : (cleans : Bool) (settings : Settings) (at : Stored) (order : Order) (y : Step Global) → step_in order ≡ Some y → MayFail cleans settings at order NoMemory
memory_fails cleans settings at Flush y is = inl refl
memory_fails cleans settings at (Batch cs) y is = refl
memory_fails cleans settings at Clean y is = refl
memory_fails cleans settings at Upgrade y is = refl
memory_fails cleans settings at _ y is = absurd (cc)

-- no step is a copy
pub step_can_be_done : (settings : Settings) (at : Stored) (order : Order) (y : Step Global) → step_in order ≡ Some y → CanBeDone settings at order
step_can_be_done settings at Flush y is = tt
step_can_be_done settings at (Batch cs) y is = tt
step_can_be_done settings at Clean y is = tt
step_can_be_done settings at Upgrade y is = tt
step_can_be_done settings at _ y is = absurd (cc)

-- ---- what a step answers

-- a step that is played alone
module _ (settings : Settings) (st : Store) (file : List ℕ) (y : Step Global) where
  abbrev alone : Played Global
  alone = plays (batching settings) settings st file (y ∷ [])

  abbrev played_by : Stepped Global → Played Global
  played_by r = played_on st file r (λ now bytes. plays (batching settings) settings now bytes [])

  alone_is : (p : Answer Global × (Store × List ℕ)) → after_step (batching settings) settings st file y ≡ Ok p → alone ≡ record { answers = p.0 ∷ []; store = p.1.0; bytes = p.1.1; fault = None }
  alone_is p done = ap played_by done

answered_batch : (o : Option Fault) (a : Answer Global) (st : Store) (file : List ℕ) (p : Answer Global × (Store × List ℕ)) → unless_refused o a st file ≡ Ok p → p.0 ≡ a
answered_batch None a st file p e =
    let same : (let q : Answer Global × (Store × List ℕ) = (a, (st, file)) in q ≡ p) = cc in
    sym (ap (λ (q : Answer Global × (Store × List ℕ)). q.0) same)
answered_batch (Some fault) a st file p e = absurd (cc)

-- the answer to a flush, to a clean and to an upgrade that leaves this store
abbrev pub of_flush : Store → Answer Global
of_flush st = Answer.Flushed st.sequence

abbrev pub of_clean : Store → Answer Global
of_clean st = Answer.Cleaned st.head

abbrev pub of_upgrade : Store → Answer Global
of_upgrade st = Answer.Upgraded st.sequence

-- a step that leaves this, and answers so
abbrev pub answering : (Store → Answer Global) → Result (Store × List ℕ) Fault → Stepped Global
answering say r = and_then r (λ q. Ok (say q.0, q))

answered_by : (say : Store → Answer Global) (r : Result (Store × List ℕ) Fault) (p : Answer Global × (Store × List ℕ)) → answering say r ≡ Ok p → (p.0 ≡ say p.1.0) × (r ≡ Ok p.1)
answered_by say (Ok q) p e =
    let same : (let u : Answer Global × (Store × List ℕ) = (say q.0, q) in u ≡ p) = cc in (
      sym (ap (λ (u : Answer Global × (Store × List ℕ)). u.0) same) ∙ ap (λ (u : Answer Global × (Store × List ℕ)). say u.1.0) same,
      ap (λ (u : Answer Global × (Store × List ℕ)). (let r : Result (Store × List ℕ) Fault = Ok u.1 in r)) same,
    )
answered_by say (Err fault) p e = absurd (cc)

-- ---- what a step leaves

-- what a commit leaves that is refused for the first reason, for the second, or not
abbrev pub committed_unless : Bool → Bool → Store → List ℕ → Result (Store × List ℕ) Fault
committed_unless spent full now bytes = if spent then Err Spent else (if full then Err Full else Ok (now, bytes))

commit-leaves : (spent full : Bool) (now : Store) (f : List ℕ) (p : Store × List ℕ) → committed_unless spent full now f ≡ Ok p → p.0 ≡ now
commit-leaves true full now f p e = absurd (cc)
commit-leaves false true now f p e = absurd (cc)
commit-leaves false false now f p e =
    let same : (let q : Store × List ℕ = (now, f) in q ≡ p) = cc in
    sym (ap (λ (q : Store × List ℕ). q.0) same)

batch-leaves : (o : Option Fault) (a : Answer Global) (now : Store) (f : List ℕ) (p : Answer Global × (Store × List ℕ)) → unless_refused o a now f ≡ Ok p → p.1.0 ≡ now
batch-leaves None a now f p e =
    let same : (let q : Answer Global × (Store × List ℕ) = (a, (now, f)) in q ≡ p) = cc in
    sym (ap (λ (q : Answer Global × (Store × List ℕ)). q.1.0) same)
batch-leaves (Some fault) a now f p e = absurd (cc)

module _ (settings : Settings) (st : Store) where
  text-leaves : (f : List ℕ) (text : _) (p : Store × List ℕ) → after_text settings st f text ≡ Ok p → contents p.0.tree ≡ contents st.tree
  text-leaves f [] p e =
      let same : (let q : Store × List ℕ = (st, f) in q ≡ p) = cc in
      sym (ap (λ (q : Store × List ℕ). contents q.0.tree) same)
  text-leaves f (x ∷ xs) p e =
      let m = flush_commit settings st (x ∷ xs) in
      ap (λ (s : Store). contents s.tree) (commit-leaves (is_spent m.slot) (is_full_for_flush settings m.slot.head m.slot.tail) (store_after (flushed st.tree) m.slot) (file_after settings f m) p e)

  text-head : (f : List ℕ) (text : _) (p : Store × List ℕ) → after_text settings st f text ≡ Ok p → p.0.head ≡ st.head
  text-head f [] p e =
      let same : (let q : Store × List ℕ = (st, f) in q ≡ p) = cc in
      sym (ap (λ (q : Store × List ℕ). q.0.head) same)
  text-head f (x ∷ xs) p e =
      let m = flush_commit settings st (x ∷ xs) in
      ap (λ (s : Store). s.head) (commit-leaves (is_spent m.slot) (is_full_for_flush settings m.slot.head m.slot.tail) (store_after (flushed st.tree) m.slot) (file_after settings f m) p e)

-- an upgrade that isn't refused finds a log of version 1
upgrade-goes : (version : Version) (r : Result (Store × List ℕ) Fault) (p : Store × List ℕ) → unless_upgraded version r ≡ Ok p → r ≡ Ok p
upgrade-goes One r p e = e
upgrade-goes Two r p e = absurd (cc)

upgrade-leaves : (settings : Settings) (st : Store) (f : List ℕ) (p : Store × List ℕ) → after_upgrade settings st f ≡ Ok p → contents p.0.tree ≡ contents st.tree
upgrade-leaves settings st f p e =
    let two : Store = of_version_two st in
    text-leaves settings two f (upgrade_frames st.tree) p (upgrade-goes st.version (after_text settings two f (upgrade_frames st.tree)) p e)

-- ---- which segment is the first one

-- a flush leaves it
pub flush_head : (settings : Settings) (st : Store) (file : List ℕ) (p : Answer Global × (Store × List ℕ)) → after_step (batching settings) settings st file Step.Flush ≡ Ok p → p.1.0.head ≡ st.head
flush_head settings st file p done = text-head settings st file (flush_frames st.version st.tree) p.1 (answered_by of_flush (after_flush settings st file) p done).1

-- and a clean leaves the next one as such
pub clean_head : (settings : Settings) (st : Store) (file : List ℕ) (answer : Answer Global) (now : Store) (bytes : List ℕ)
    → after_step (batching settings) settings st file Step.Clean ≡ Ok (answer, (now, bytes)) → now.head ≡ suc st.head
clean_head settings st file answer now bytes done =
    (cleaned-store settings st now file bytes (answered_by of_clean (after_clean settings st file) (answer, (now, bytes)) done).1).1

-- ---- what a step does

module _ (settings : Settings) (st : Store) where
  -- the step leaves this answer, this store and these bytes, of bytes that are shown
  abbrev steps_to : List ℕ → Step Global → Answer Global × Stored → Type 0
  steps_to file y p = after_step (batching settings) settings st file y ≡ Ok p

  -- the lines of an order are those of what its step answers
  lines_of : (file : List ℕ) (order : Order) (y : Step Global) (p : Answer Global × Stored) → step_in order ≡ Some y → steps_to file y p → after_order settings st (untidied file) order ≡ p.1
      → own_lines settings st (untidied file) (contents st.tree) order ≡ shown_answer p.0
  lines_of file (Batch cs) y p is done left =
      let same : Step.Batch cs ≡ y = cc in
      sym (ap shown_answer (answered_batch _ _ _ file p (subst (λ (z : Step Global). steps_to file z p) (sym same) done)))
  lines_of file Flush y p is done left =
      let same : (let z : Step Global = Step.Flush in z ≡ y) = cc in
      ap (λ (q : Stored). shown_flushed q.0.sequence ∷ []) left
      ∙ sym (ap shown_answer (answered_by of_flush (after_flush settings st file) p (subst (λ (z : Step Global). steps_to file z p) (sym same) done)).0)
  lines_of file Clean y p is done left =
      let same : (let z : Step Global = Step.Clean in z ≡ y) = cc in
      ap (λ (q : Stored). shown_cleaned q.0.head ∷ []) left
      ∙ sym (ap shown_answer (answered_by of_clean (after_clean settings st file) p (subst (λ (z : Step Global). steps_to file z p) (sym same) done)).0)
  lines_of file Upgrade y p is done left =
      let same : (let z : Step Global = Step.Upgrade in z ≡ y) = cc in
      ap (λ (q : Stored). shown_upgraded q.0.sequence ∷ []) left
      ∙ sym (ap shown_answer (answered_by of_upgrade (after_upgrade settings st file) p (subst (λ (z : Step Global). steps_to file z p) (sym same) done)).0)
  lines_of file _ y p is done left = absurd (cc)

  -- a batch that is planned holds the map after its commands
  abbrev PlansHold : Type 0
  PlansHold = (cs : List (Command Global)) → contents (plan settings st cs).tree ≡ map_after_all (contents st.tree) cs

  -- a clean keeps the tree
  abbrev CleansKeep : Type 0
  CleansKeep = (now : Store) (file bytes : List ℕ) → after_clean settings st file ≡ Ok (now, bytes) → now.tree ≡ st.tree

  -- so it keeps the map
  map_of_clean : CleansKeep → (file : List ℕ) (p : Answer Global × Stored) → steps_to file Step.Clean p → contents p.1.0.tree ≡ contents st.tree
  map_of_clean keep file p done = ap contents (keep p.1.0 file p.1.1 (answered_by of_clean (after_clean settings st file) p done).1)

  -- the map that a step leaves is that of its order
  map_of : PlansHold → CleansKeep → (file : List ℕ) (order : Order) (y : Step Global) (p : Answer Global × Stored) → step_in order ≡ Some y → steps_to file y p
      → contents p.1.0.tree ≡ map_after (contents st.tree) order
  map_of hold keep file (Batch cs) y p is done =
      let same : Step.Batch cs ≡ y = cc in
      ap (λ (s : Store). contents s.tree) (batch-leaves _ _ (plan settings st cs) file p (subst (λ (z : Step Global). steps_to file z p) (sym same) done)) ∙ hold cs
  map_of hold keep file Flush y p is done =
      let same : (let z : Step Global = Step.Flush in z ≡ y) = cc in
      text-leaves settings st file (flush_frames st.version st.tree) p.1
      (answered_by of_flush (after_flush settings st file) p (subst (λ (z : Step Global). steps_to file z p) (sym same) done)).1
  map_of hold keep file Clean y p is done =
      let same : (let z : Step Global = Step.Clean in z ≡ y) = cc in
      map_of_clean keep file p (subst (λ (z : Step Global). steps_to file z p) (sym same) done)
  map_of hold keep file Upgrade y p is done =
      let same : (let z : Step Global = Step.Upgrade in z ≡ y) = cc in
      upgrade-leaves settings st file p.1 (answered_by of_upgrade (after_upgrade settings st file) p (subst (λ (z : Step Global). steps_to file z p) (sym same) done)).1
  map_of hold keep file _ y p is done = absurd (cc)

-- a step is played on a store whose disk had the bytes `seen`, for an order
module _ (mode : Mode) (honest : Bool) (settings : Settings) (st : Store) (seen : List ℕ) (order : Order) (x : code_step.Step) (is : step_in order ≡ Some (step_of x)) (plain : order ≡ Flush → mode.clean_when_full ≡ false) where
  right_by : (file : List ℕ) (fault : Fault) → after_step (batching settings) settings st file (step_of x) ≡ Err fault → refusal_of settings st (untidied file) order ≡ Some fault
  right_by file fault e = refusal_of-untidied settings st file order (step_of x) is ∙ ap (refusal_of_step settings (st, file)) is ∙ ap refused_by e

  -- why it is refused: for lack of memory, or by its right
  abbrev WhyRefused : List ℕ → Fault → Type 0
  WhyRefused file fault = (fault ≡ NoMemory) ⊎ (after_step (batching settings) settings st file (step_of x) ≡ Err fault)

  late_by : (file : List ℕ) (old new : ℕ) (z : code_step.Step) (fault : Fault) → fault ≢ Device → z ≡ x → IsStepFault settings st file old new (step_of z) fault → WhyRefused file fault
  late_by file old new z fault other same (inl right) = inr (subst (λ (y : code_step.Step). after_step (batching settings) settings st file (step_of y) ≡ Err fault) same right)
  late_by file old new (called.Batch cs) fault other same (inr late) = inl late.0
  late_by file old new called.Flush fault other same (inr (inl memory)) = inl memory.0
  late_by file old new called.Flush fault other same (inr (inr device)) = absurd (other device.0)
  late_by file old new called.Upgrade fault other same (inr (inl memory)) = inl memory.0
  late_by file old new called.Upgrade fault other same (inr (inr device)) = absurd (other device.0)
  late_by file old new called.Clean fault other same (inr (several, inl memory)) = inl memory
  late_by file old new called.Clean fault other same (inr (several, inr device)) = absurd (other device.0)

  why_by : (now : Store) (file : List ℕ) (old new place : ℕ) (fault : Fault) → place ≡ 0 → now ≡ st → fault ≢ Device → IsPlayFault settings now file old new (x ∷ []) place fault → WhyRefused file fault
  why_by now file old new place fault first same other (inl memory) = inl memory.1
  why_by now file old new place fault first same other (inr (z, rest, orders_left_is, refused_so)) =
      let front : x ∷ [] ≡ z ∷ rest = subst (λ (n : ℕ). drop n (x ∷ []) ≡ z ∷ rest) first orders_left_is in
      let one : z ≡ x = cc in
      late_by file old new z fault other one (subst (λ (s : Store). IsStepFault settings s file old new (step_of z) fault) same refused_so)

  -- it fails for want of memory, which leaves all as it was
  module _ (text : Option (List ℕ)) (now : Store) (bytes : List ℕ) (same : now ≡ st) (unwritten : IsTrue honest → bytes ≡ seen) where
    pub RunsOrder-memory : (fault : Fault) → fault ≡ NoMemory → RunsOrder mode honest settings st seen order text text (Err (errors.Fault fault)) now bytes
    RunsOrder-memory fault memory =
        let at : Stored = readied order settings (failing (Some fault) seen) (st, seen) in
        let may : MayFail mode.clean_when_full settings at order fault =
        subst (MayFail mode.clean_when_full settings at order) (sym memory) (memory_fails mode.clean_when_full settings at order (step_of x) is) in
        let some = refusal_of-failing settings st (failing (Some fault) seen) order fault refl in (
          failing (Some fault) seen,
          seen_failing mode honest settings st seen seen order fault (λ flush. memory) may (λ h. refl),
          refused settings st (failing (Some fault) seen) order mode.stream text text (none_in_front st (failing (Some fault) seen) order refl) fault refl some,
          λ other. LeavesStored-unmoved honest settings st st (failing (Some fault) seen) order fault some seen (after_order-failing settings st seen order fault) refl now bytes same unwritten,
        )

    -- by its right
    RunsOrder-right : (file : List ℕ) → (IsTrue honest → file ≡ seen) → (fault : Fault) → after_step (batching settings) settings st file (step_of x) ≡ Err fault
        → RunsOrder mode honest settings st seen order text text (Err (errors.Fault fault)) now bytes
    RunsOrder-right file of_seen fault e =
        let some = right_by file fault e in
        let after : after_order settings st (untidied file) order ≡ (st, file) =
        after_order-untidied settings st file order ∙ ap (left_by_step settings (st, file)) is ∙ ap (left_by (st, file)) e in (
          untidied file,
          seen_left mode honest settings st seen file order plain (step_can_be_done settings (readied order settings (untidied file) (st, file)) order (step_of x) is) of_seen,
          refused settings st (untidied file) order mode.stream text text (none_in_front st (untidied file) order refl) fault refl some,
          λ other. LeavesStored-unmoved honest settings st st (untidied file) order fault some file after refl now bytes same (λ h. unwritten h ∙ sym (of_seen h)),
        )

    RunsOrder-why : (file : List ℕ) → (IsTrue honest → file ≡ seen) → (fault : Fault) → WhyRefused file fault → RunsOrder mode honest settings st seen order text text (Err (errors.Fault fault)) now bytes
    RunsOrder-why file of_seen fault (inl memory) = RunsOrder-memory fault memory
    RunsOrder-why file of_seen fault (inr e) = RunsOrder-right file of_seen fault e

  -- a device failed before anything of it was written
  pub RunsOrder-device : (text : Option (List ℕ)) (now : Store) (bytes : List ℕ) → RunsOrder mode honest settings st seen order text text (Err errors.Device) now bytes
  RunsOrder-device text now bytes = (
    untidied seen,
    seen_untidied mode honest settings st seen order plain (step_can_be_done settings (st, seen) order (step_of x) is),
    cut_off settings st (untidied seen) order mode.stream text text refl,
    λ other. absurd (other refl),
  )

  -- it is refused: by its right, or for lack of memory, or since a device failed, before anything of it is written
  pub RunsOrder-refused : (text : Option (List ℕ)) (said : List code_answer.Answer) (now : Store) (file bytes : List ℕ) (old new place : ℕ) (fault : Fault) (early : SessionError) → place < 1
      → IsEndingOf fault early → IsPlayed honest settings st seen (map step_of (take place (x ∷ []))) said now
      → (IsTrue honest → file ≡ (let p : Played Global = plays (batching settings) settings st seen (map step_of (take place (x ∷ []))) in p.bytes))
      → (IsTrue honest → fault ≢ Device → bytes ≡ (let p : Played Global = plays (batching settings) settings st seen (map step_of (take place (x ∷ []))) in p.bytes))
      → IsPlayFault settings now file old new (x ∷ []) place fault → RunsOrder mode honest settings st seen order text text (Err early) now bytes
  RunsOrder-refused text said now file bytes old new place fault early below (inl device) played shown after refused_so =
      subst (λ (e : SessionError). RunsOrder mode honest settings st seen order text text (Err e) now bytes) (sym device.1) (RunsOrder-device text now bytes)
  RunsOrder-refused text said now file bytes old new place fault early below (inr other) played shown after refused_so =
      let first : place ≡ 0 = omega (arith, below) in
      let none_played = subst (λ (n : ℕ). IsPlayed honest settings st seen (map step_of (take n (x ∷ []))) said now) first played in
      let of_seen = subst (λ (n : ℕ). IsTrue honest → file ≡ (let p : Played Global = plays (batching settings) settings st seen (map step_of (take n (x ∷ []))) in p.bytes)) first shown in
      let unwritten = λ (h : IsTrue honest). subst (λ (n : ℕ). bytes ≡ (let p : Played Global = plays (batching settings) settings st seen (map step_of (take n (x ∷ []))) in p.bytes)) first (after h other.0) in
      subst (λ (e : SessionError). RunsOrder mode honest settings st seen order text text (Err e) now bytes) (sym other.1)
      (RunsOrder-why text now bytes none_played.1 unwritten file of_seen fault (why_by now file old new place fault first none_played.1 other.0 refused_so))

  module _ (a : code_answer.Answer) (mid : Store) (bytes : List ℕ) (done : IsStepDone honest settings st seen (step_of x) a mid bytes) where
    abbrev outcome : Answer Global × Stored
    outcome = (answer_of a, (mid, bytes))

    left_is : after_order settings st (untidied done.file) order ≡ (mid, bytes)
    left_is = after_order-untidied settings st done.file order ∙ ap (left_by_step settings (st, done.file)) is ∙ ap (left_by (st, done.file)) done.done

    none : refusal_of settings st (untidied done.file) order ≡ None
    none = refusal_of-untidied settings st done.file order (step_of x) is ∙ ap (refusal_of_step settings (st, done.file)) is ∙ ap refused_by done.done

    -- on an honest disk it is done of what was there
    bytes_are : IsTrue honest → (alone settings st seen (step_of x)).bytes ≡ bytes
    bytes_are h =
        let here = subst (λ (f : List ℕ). after_step (batching settings) settings st f (step_of x) ≡ Ok outcome) (done.shown h) done.done in
        ap (λ (q : Played Global). q.bytes) (alone_is settings st seen (step_of x) outcome here)

    module _ (holds : contents mid.tree ≡ map_after (contents st.tree) order) (now : Store) (now_is : now ≡ mid) (after : List ℕ)
        (after_is : IsTrue honest → after ≡ (alone settings st seen (step_of x)).bytes) where
      leaves : LeavesStored honest settings st (untidied done.file) order now after
      leaves = record {
        store = now_is ∙ ap (λ (q : Stored). q.0) (sym left_is);
        bytes = λ h. after_is h ∙ bytes_are h ∙ ap (λ (q : Stored). q.1) (sym left_is);
        holds = ap (λ (s : Store). contents s.tree) now_is ∙ holds ∙ ap (λ (r : Option Fault). map_unless r (contents st.tree) order) (sym none);
      }

      answers_of : (said : List code_answer.Answer) → said ≡ a ∷ [] → flat_map shown_answer (map answer_of said) ≡ own_lines settings st (untidied done.file) (contents st.tree) order
      answers_of said said_is =
          ap (λ (s : List code_answer.Answer). flat_map shown_answer (map answer_of s)) said_is ∙ append-nil (shown_answer (answer_of a))
          ∙ sym (lines_of settings st done.file order (step_of x) outcome is done.done left_is)

      one_answered : (old new : Option (List ℕ)) (end : Result (Unit {0}) SessionError) (said : List code_answer.Answer) → said ≡ a ∷ []
          → Writes old new (flat_map shown_answer (map answer_of said)) end → RunsOrder mode honest settings st seen order old new end now after
      one_answered old new end said said_is p =
          let printed = subst (λ (l : List (List ℕ)). PrintsOwn mode.stream old new l (Ok tt) end) (answers_of said said_is) (PrintsOwn-writes mode.stream old new (flat_map shown_answer (map answer_of said)) end p) in (
            untidied done.file,
            seen_left mode honest settings st seen done.file order plain (step_can_be_done settings (readied order settings (untidied done.file) (st, done.file)) order (step_of x) is) done.shown,
            bare_printed settings st (untidied done.file) order mode.stream old new (none_in_front st (untidied done.file) order refl) end none printed,
            λ other. leaves,
          )

  -- it is played, and its answers are written
  pub RunsOrder-answered : PlansHold settings st → CleansKeep settings st → (said : List code_answer.Answer) (now : Store) (after : List ℕ)
      → IsPlayed honest settings st seen (step_of x ∷ []) said now → (IsTrue honest → after ≡ (alone settings st seen (step_of x)).bytes)
      → (old new : Option (List ℕ)) (end : Result (Unit {0}) SessionError) → Writes old new (flat_map shown_answer (map answer_of said)) end
      → RunsOrder mode honest settings st seen order old new end now after
  RunsOrder-answered hold keep said now after (a, rest, said_is, mid, bytes, done, ended) after_is old new end p =
      let holds = map_of settings st hold keep done.file order (step_of x) (answer_of a, (mid, bytes)) is done.done in
      one_answered a mid bytes done holds now ended.1 after after_is old new end said (said_is ∙ ap (λ (r : List code_answer.Answer). a ∷ r) ended.0) p

  -- so it leaves the map of its order
  pub answered_holds : PlansHold settings st → CleansKeep settings st → (said : List code_answer.Answer) (now : Store) → IsPlayed honest settings st seen (step_of x ∷ []) said now
      → contents now.tree ≡ map_after (contents st.tree) order
  answered_holds hold keep said now (a, rest, said_is, mid, bytes, done, ended) =
      ap (λ (s : Store). contents s.tree) ended.1 ∙ map_of settings st hold keep done.file order (step_of x) (answer_of a, (mid, bytes)) is done.done

-- ---- what a refusal leaves

-- the step is refused, and the store is as it was
pub refused_store : (honest : Bool) (settings : Settings) (st : Store) (seen : List ℕ) (x : code_step.Step) (said : List code_answer.Answer) (now : Store) (place : ℕ) → place < 1
    → IsPlayed honest settings st seen (map step_of (take place (x ∷ []))) said now → now ≡ st
refused_store honest settings st seen x said now place below played =
    let first : place ≡ 0 = omega (arith, below) in
    let none_played = subst (λ (n : ℕ). IsPlayed honest settings st seen (map step_of (take n (x ∷ []))) said now) first played in
    none_played.1

-- what was written of an answer ends for no other reason than that the output failed
pub written_ends : (P : Type 0) (old new : Option (List ℕ)) (lines : List (List ℕ)) (end : Result (Unit {0}) SessionError) → Writes old new lines end → IfErr end (λ early. early ≢ errors.Device → P)
written_ends P old new lines (Ok done) w = tt
written_ends P old new lines (Err early) (inl (e, a)) = absurd (cc)
written_ends P old new lines (Err early) (inr (e, b)) = λ other. absurd (other (same_ending early errors.Device e))

-- no device failed in a call of the store where none did in the session
pub no_device_in : (fault : Fault) (early : SessionError) → IsEndingOf fault early → early ≢ errors.Device → fault ≢ Device
no_device_in fault early (inl device) other = absurd (other device.1)
no_device_in fault early (inr ended) other = ended.0

pub err_device : {A : Type 0} (early : SessionError) → (let end : Result A SessionError = Err early in end ≢ Err errors.Device) → early ≢ errors.Device
err_device {A} early other device = other (ap (λ (x : SessionError). (let end : Result A SessionError = Err x in end)) device)

pub device_err : {A : Type 0} (early : SessionError) → early ≢ errors.Device → (let end : Result A SessionError = Err early in end ≢ Err errors.Device)
device_err {A} early other e = let same : early ≡ errors.Device = cc in other same

-- a step that is refused leaves all as it was, but where a call of the disk failed
pub refused_leaves : (honest : Bool) (settings : Settings) (st : Store) (seen : List ℕ) (x : code_step.Step) (said : List code_answer.Answer) (now : Store) (bytes : List ℕ) (place : ℕ)
    (fault : Fault) (had_failed has_failed : Bool) → place < 1 → IsPlayed honest settings st seen (map step_of (take place (x ∷ []))) said now
    → (IsTrue honest → fault ≢ Device → bytes ≡ (let p : Played Global = plays (batching settings) settings st seen (map step_of (take place (x ∷ []))) in p.bytes))
    → (fault ≢ Device → has_failed ≡ had_failed) → fault ≢ Device
    → (now ≡ st) × (has_failed ≡ had_failed) × (IsTrue honest → bytes ≡ seen)
refused_leaves honest settings st seen x said now bytes place fault had_failed has_failed below played shown counted other =
    let first : place ≡ 0 = omega (arith, below) in
    let none_played = subst (λ (n : ℕ). IsPlayed honest settings st seen (map step_of (take n (x ∷ []))) said now) first played in
    let left = λ (h : IsTrue honest). subst (λ (n : ℕ). bytes ≡ (let p : Played Global = plays (batching settings) settings st seen (map step_of (take n (x ∷ []))) in p.bytes)) first (shown h other) in
    (none_played.1, counted other, left)
