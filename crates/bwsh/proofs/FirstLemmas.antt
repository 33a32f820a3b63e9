-- Lemmas on orders that are run in front of others.
use Rattle.std.proofs.Common.{◌≡◌, inl, inr, ℕ, zero, suc, List, [], ◌∷◌, Option, Some, None, Result, Ok, Err, refl, sym, ap, ◌∙◌, subst}
use Rattle.std.specs.Prelude.{Bool, true, false, IsTrue}
use Rattle.std.specs.Io.KnownBytes.{Appends}
use Rattle.std.proofs.KnownBytes.{Appends-nil}
use Rattle.keys.specs.Bytes.{Bytes, Pairs}
use Rattle.keys.specs.Lists.{flat}
use Rattle.keys.specs.declared.fault.Fault.{Fault}
use Rattle.keys.specs.declared.fault.Fault.TheVariants.{NoMemory}
use Rattle.keys.specs.declared.settings.Settings.{Settings}
use Rattle.mapping.specs.Levels.{contents}
use Rattle.mapping.specs.Tree.{Store}
use Rattle.bwsh.specs.declared.options.asked.Mode.{Mode}
use Rattle.bwsh.specs.declared.order.Order.{Order}
use Rattle.bwsh.specs.declared.order.Order.TheVariants.{Copy, Flush, Help}
use Rattle.bwsh.specs.declared.session.SessionError.{SessionError}
use Rattle.bwsh.specs.declared.session.SessionError.TheVariants.{Bad, Device, Words}
use Rattle.bwsh.specs.declared.session.SessionError.TheVariants as errors
use Rattle.bwsh.specs.Output.{BeginsWith}
use Rattle.bwsh.specs.Session.{AreCleaning, AreCleansOf, AreFailing, AreLeft, AreSeen, GoesOn, IsAsked, IsSeen, LeavesMap, LeavesStored, MayFailBy, Reads, Runs, RunsFirst, RunsOn, RunsOrder, RunsRefused, RunsTold, Seen, Stops, Stored, after_order, answered, device_line, map_unless, no_tidying, readied}
use Rattle.bwsh.proofs.OwnLemmas.{LeavesMap-then, Runs-device, Runs-never, Runs-stops, Runs-then, Runs-told, after_told, refusal_told, told_before, with_told}
use Rattle.bwsh.proofs.RunLemmas.{IsCut, failing, failing_cleans, first_shown, no_cleans, no_tidying_asked}

-- ---- what can be seen at orders that aren't run

-- such a flush or copy finds no memory, and no other order fails
abbrev unrun_fault : Order → Option Fault
unrun_fault Flush = Some NoMemory
unrun_fault (Copy path segments) = Some NoMemory
unrun_fault _ = None

-- nothing is tidied or cleaned before it
abbrev unrun : Bytes → Order → Seen
unrun file order = failing (unrun_fault order) file

unrun_fails : (cleans : Bool) (settings : Settings) (at : Stored) (order : Order) → MayFailBy cleans settings at order (unrun_fault order)
unrun_fails cleans settings at Flush = inl refl
unrun_fails cleans settings at (Copy path segments) = inl refl
unrun_fails cleans settings at _ = tt

unrun_cleans : (honest cleans : Bool) (settings : Settings) (st : Store) (left : Bytes) (order : Order) → AreCleansOf honest cleans settings st order (unrun left order)
unrun_cleans honest cleans settings st left Flush = failing_cleans honest cleans settings st Flush NoMemory (λ flush. refl) left no_tidying
unrun_cleans honest cleans settings st left (Copy path segments) = no_cleans honest cleans settings st (Copy path segments) (unrun left (Copy path segments)) (λ e. absurd (cc)) refl
unrun_cleans honest cleans settings st left order = no_cleans honest cleans settings st order (unrun left order) (λ e. absurd (cc)) refl

IsSeen-unrun : (mode : Mode) (honest : Bool) (settings : Settings) (st : Store) (left : Bytes) (order : Order) → IsSeen mode honest settings st left order (unrun left order)
IsSeen-unrun mode honest settings st left order = (
  no_tidying_asked mode,
  unrun_fails mode.clean_when_full settings (readied order settings (unrun left order) (st, left)) order,
  unrun_cleans honest mode.clean_when_full settings st left order,
  λ h. (refl, refl),
)

-- the same at each of some orders, of which each leaves its store and its bytes to the next
abbrev unrun_reads : Settings → Store → Bytes → List Order → Reads
unrun_reads settings st file [] = λ i. unrun file Help
unrun_reads settings st file (order ∷ rest) =
    let left : Stored = after_order settings st (unrun file order) order in first_shown (unrun file order) (unrun_reads settings left.0 left.1 rest)

-- ---- what can be seen at an order, and at others after it

asked_first : (mode : Mode) (seen : Seen) (shown : Reads) → IsAsked mode seen.tidying → ((i : ℕ) → IsAsked mode (shown i).tidying) → (i : ℕ) → IsAsked mode (first_shown seen shown i).tidying
asked_first mode seen shown first further zero = first
asked_first mode seen shown first further (suc i) = further i

AreSeen-first : (mode : Mode) (honest : Bool) (settings : Settings) (st : Store) (left : Bytes) (order : Order) (seen : Seen) → IsSeen mode honest settings st left order seen
    → (at : Store) → at ≡ (after_order settings st seen order).0 → (file : Bytes) → (IsTrue honest → file ≡ (after_order settings st seen order).1)
    → (shown : Reads) (rest : List Order) → AreSeen mode honest settings at file shown rest → AreSeen mode honest settings st left (first_shown seen shown) (order ∷ rest)
AreSeen-first mode honest settings st left order seen is at at_is file file_is shown rest are = (
  asked_first mode seen shown is.0 are.0,
  (is.1, subst (λ (s : Store). AreFailing mode.clean_when_full settings s shown rest) at_is are.1),
  (is.2, subst (λ (s : Store). AreCleaning honest mode.clean_when_full settings s shown rest) at_is are.2),
  λ h. (
    is.3 h,
    subst (λ (f : Bytes). AreLeft settings (after_order settings st seen order).0 f shown rest) (file_is h)
        (subst (λ (s : Store). AreLeft settings s file shown rest) at_is (are.3 h)),
  ),
)

AreSeen-unrun : (mode : Mode) (honest : Bool) (settings : Settings) (st : Store) (left : Bytes) (orders : List Order)
    → AreSeen mode honest settings st left (unrun_reads settings st left orders) orders
AreSeen-unrun mode honest settings st left [] = (λ i. no_tidying_asked mode, tt, tt, λ h. tt)
AreSeen-unrun mode honest settings st left (order ∷ rest) =
    let at : Stored = after_order settings st (unrun left order) order in
    AreSeen-first mode honest settings st left order (unrun left order) (IsSeen-unrun mode honest settings st left order) at.0 refl at.1 (λ h. refl)
    (unrun_reads settings at.0 at.1 rest) rest (AreSeen-unrun mode honest settings at.0 at.1 rest)

-- ---- orders of which nothing is done

Runs-cut : (on : Bool) (settings : Settings) (st : Store) (shown : Reads) (orders : List Order) (old new : Option Bytes) → Appends old new [] → (early : SessionError) → IsCut on early
    → Runs on on settings st shown orders old new (Err early)
unfolding Runs
Runs-cut on settings st shown orders old new none early (inl (off, e)) =
    inr (inl (off, ap (λ (x : SessionError). Err x) e, ([], (answered on settings st shown (contents st.tree) orders, refl), none)))
Runs-cut on settings st shown orders old new none early (inr e) =
    inr (inr (ap (λ (x : SessionError). Err x) e, ([], [], (flat (answered on settings st shown (contents st.tree) orders), refl), (device_line on, refl), none)))

-- any orders end before anything of them is done
pub RunsOn-cut : (mode : Mode) (honest : Bool) (settings : Settings) (st : Store) (left : Bytes) (orders : List Order) (old : Option Bytes) (early : SessionError) → IsCut mode.stream early
    → (held : Pairs Bytes) → RunsOn mode honest settings st left orders old old (Err early) held
RunsOn-cut mode honest settings st left orders old early cut held =
    let shown : Reads = unrun_reads settings st left orders in
    (shown, AreSeen-unrun mode honest settings st left orders, Runs-cut mode.stream settings st shown orders old old (Appends-nil old) early cut, tt)

-- no orders are all done
Runs-none : (on : Bool) (settings : Settings) (st : Store) (shown : Reads) (old : Option Bytes) → Runs on on settings st shown [] old old (Ok tt)
unfolding Runs
Runs-none true settings st shown old = inl (refl, Appends-nil old)
Runs-none false settings st shown old = inl (refl, Appends-nil old)

pub RunsOn-none : (mode : Mode) (honest : Bool) (settings : Settings) (st : Store) (left : Bytes) (old : Option Bytes) → RunsOn mode honest settings st left [] old old (Ok tt) (contents st.tree)
RunsOn-none mode honest settings st left old =
    let shown : Reads = unrun_reads settings st left [] in
    (shown, AreSeen-unrun mode honest settings st left [], Runs-none mode.stream settings st shown old, refl)

-- ---- what is told of a refusal

module _ (told : Bytes) (settings : Settings) (st : Store) (seen : Seen) where
  cleans_told : (honest cleans : Bool) (order : Order) → AreCleansOf honest cleans settings st order seen → AreCleansOf honest cleans settings st order (with_told told seen)
  cleans_told honest true Flush are = are
  cleans_told honest true _ are = are
  cleans_told honest false order are = are

  -- it can be seen
  IsSeen-told : (mode : Mode) (honest : Bool) (left : Bytes) (order : Order) → IsSeen mode honest settings st left order seen → IsSeen mode honest settings st left order (with_told told seen)
  IsSeen-told mode honest left order is = (
    is.0,
    subst (λ (at : Stored). MayFailBy mode.clean_when_full settings at order seen.fails) (sym (told_before told order settings seen (st, seen.bytes))) is.1,
    cleans_told honest mode.clean_when_full order is.2,
    is.3,
  )

  LeavesStored-told : (honest : Bool) (order : Order) (now : Store) (bytes : Bytes) → LeavesStored honest settings st seen order now bytes
      → LeavesStored honest settings st (with_told told seen) order now bytes
  LeavesStored-told honest order now bytes leaves = record {
    store = leaves.store ∙ ap (λ (at : Stored). at.0) (sym (after_told told settings st seen order));
    bytes = λ h. leaves.bytes h ∙ ap (λ (at : Stored). at.1) (sym (after_told told settings st seen order));
    holds = leaves.holds ∙ ap (λ (r : Option Fault). map_unless r (contents st.tree) order) (sym (refusal_told told settings st seen order));
  }

-- ---- one order in front of others

module _ (mode : Mode) (honest : Bool) (settings : Settings) (st : Store) (left : Bytes) (order : Order) (old new : Option Bytes) (now : Store) (bytes : Bytes) where
  -- where this is seen at it, and it leaves this, others go on
  goes_with : (seen : Seen) → IsSeen mode honest settings st left order seen → LeavesStored honest settings st seen order now bytes
      → (rest : List Order) (last : Option Bytes) (end : Result (Unit {0}) SessionError) (held : Pairs Bytes) (shown : Reads) → AreSeen mode honest settings now bytes shown rest
      → LeavesMap settings now shown rest end held → Runs mode.stream mode.stream settings st (first_shown seen shown) (order ∷ rest) old last end
      → RunsOn mode honest settings st left (order ∷ rest) old last end held
  goes_with seen is leaves rest last end held shown are map runs = (
    first_shown seen shown,
    AreSeen-first mode honest settings st left order seen is now leaves.store bytes leaves.bytes shown rest are,
    runs,
    LeavesMap-then settings st seen order old last rest shown now leaves.store leaves.holds last end held map,
  )

  -- it stops early: so do others after it
  stops_with : (seen : Seen) → IsSeen mode honest settings st left order seen → (rest : List Order) (printed : Option Bytes) (early : SessionError) (held : Pairs Bytes)
      → ((shown : Reads) → Runs mode.stream mode.stream settings st (first_shown seen shown) (order ∷ rest) old printed (Err early))
      → RunsOn mode honest settings st left (order ∷ rest) old printed (Err early) held
  stops_with seen is rest printed early held runs =
      let at : Stored = after_order settings st seen order in
      let shown : Reads = unrun_reads settings at.0 at.1 rest in (
        first_shown seen shown,
        AreSeen-first mode honest settings st left order seen is at.0 refl at.1 (λ h. refl) shown rest (AreSeen-unrun mode honest settings at.0 at.1 rest),
        runs shown,
        tt,
      )

  -- it is done
  one_done : (done : Unit {0}) → RunsOrder mode honest settings st left order old new (Ok done) now bytes → GoesOn mode honest settings st left (order ∷ []) old new now bytes
  one_done done (seen, is, runs, leaves) rest last end held (shown, are, further, map) =
      let kept : LeavesStored honest settings st seen order now bytes = leaves (λ e. absurd (cc)) in
      goes_with seen is kept rest last end held shown are map (Runs-then settings st seen order old new rest shown now kept.store kept.holds last end mode.stream done runs further)

  -- it is refused in a stream
  one_told : mode.stream ≡ true → (fault : Fault) → RunsOrder mode honest settings st left order old new (Err (errors.Fault fault)) now bytes
      → (told : Bytes) (rest : List Order) (last : Option Bytes) (end : Result (Unit {0}) SessionError) (held : Pairs Bytes) → RunsTold told mode honest settings now bytes rest new last end held
      → RunsOn mode honest settings st left (order ∷ rest) old last end held
  one_told on fault (seen, is, runs, leaves) told rest last end held (shown, are, further, map) =
      let kept : LeavesStored honest settings st seen order now bytes = leaves (λ e. absurd (cc)) in
      goes_with (with_told told seen) (IsSeen-told told settings st seen mode honest left order is) (LeavesStored-told told settings st seen honest order now bytes kept) rest last end held shown are map
      (Runs-told settings st seen order old new rest shown told now kept.store kept.holds last end mode.stream on fault runs further)

  -- a device fails at it in a stream
  one_cut : mode.stream ≡ true → RunsOrder mode honest settings st left order old new (Err Device) now bytes → (more : Bytes) (printed : Option Bytes) → BeginsWith (device_line true) more
      → Appends new printed more → Stops mode honest settings st left (order ∷ []) old printed Device
  one_cut on (seen, is, runs, leaves) more printed begins a rest held =
      stops_with seen is rest printed Device held (λ shown. Runs-device settings st seen order old new rest shown mode.stream on more printed begins a runs)

  -- it ends a session that is no stream
  one_stops : mode.stream ≡ false → (early : SessionError) → RunsOrder mode honest settings st left order old new (Err early) now bytes
      → Stops mode honest settings st left (order ∷ []) old new early
  one_stops off early (seen, is, runs, leaves) rest held =
      stops_with seen is rest new early held (λ shown. Runs-stops settings st seen order old new rest shown mode.stream off early runs)

  one_refused : (b : Bool) → mode.stream ≡ b → (early : SessionError) → RunsOrder mode honest settings st left order old new (Err early) now bytes
      → RunsRefused b mode honest settings st left (order ∷ []) old new early now bytes
  one_refused false off early one = one_stops off early one
  one_refused true on (errors.Fault fault) one = one_told on fault one
  one_refused true on Device one = one_cut on one
  one_refused true on (Words error) (seen, is, runs, leaves) =
      Runs-never settings st seen order old new [] (λ i. seen) mode.stream on (Words error) (λ e. absurd (cc)) (λ fault e. absurd (cc)) runs
  one_refused true on (Bad line why) (seen, is, runs, leaves) =
      Runs-never settings st seen order old new [] (λ i. seen) mode.stream on (Bad line why) (λ e. absurd (cc)) (λ fault e. absurd (cc)) runs

  pub RunsFirst-one : (end : Result (Unit {0}) SessionError) → RunsOrder mode honest settings st left order old new end now bytes
      → RunsFirst mode honest settings st left (order ∷ []) old new end now bytes
  RunsFirst-one (Ok done) one = one_done done one
  RunsFirst-one (Err early) one = one_refused mode.stream refl early one
