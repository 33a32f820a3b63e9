-- Lemmas on how a session ends.
use Rattle.std.proofs.Common.{Bool, true, false, ◌≡◌, ◌≢◌, ◌↔◌, ◌⊎◌, inl, inr, ℕ, List, [], ◌∷◌, Option, Some, None, IfSome, Ok, Err, refl, sym, ap, ◌∙◌, subst, arith}
use Rattle.std.specs.Prelude.{IsTrue, IsOk, is_none, replicate, unwrap_or, if◌then◌else◌, ◌==◌}
use Rattle.std.specs.Bool.{MatchBool}
use Rattle.std.specs.Option.{option_map}
use Rattle.std.specs.Io.KnownBytes.{Appends, Keeps, prepend_known}
use Rattle.std.proofs.KnownBytes.{Appends-nil, Appends-trans}
use Rattle.clap.specs.declared.error.Error.{Error}
use Rattle.clap.specs.declared.error.kind.ErrorKind.{ErrorKind}
use Rattle.clap.specs.declared.error.kind.ErrorKind.TheVariants.{DisplayHelp, OutOfMemory}
use Rattle.crew.specs.Crew.{is_crew}
use Rattle.crew.specs.declared.limits.Crew.{Crew}
use Rattle.keys.specs.Bytes.{Bytes, Pairs}
use Rattle.keys.specs.Limits.{first_bad_field}
use Rattle.keys.specs.declared.fault.Fault.{Fault}
use Rattle.keys.specs.declared.fault.Fault.TheVariants.{BadCrew, BadSettings, NoMemory}
use Rattle.keys.specs.declared.settings.Field.{Field}
use Rattle.keys.specs.declared.settings.Settings.{Settings}
use Rattle.mapping.specs.Levels.{contents}
use Rattle.mapping.specs.Tree.{Store}
use Rattle.flush_log.specs.Segments.{disk_size}
use Rattle.bwsh.specs.declared.line.Line.{Line}
use Rattle.bwsh.specs.declared.line.Why.{Why}
use Rattle.bwsh.specs.declared.options.asked.Mode.{Mode}
use Rattle.bwsh.specs.declared.order.Order.{Order}
use Rattle.bwsh.specs.declared.session.SessionError.{SessionError}
use Rattle.bwsh.specs.declared.session.SessionError.TheVariants.{Words, Bad, Device}
use Rattle.bwsh.specs.declared.session.SessionError.TheVariants as errors
use Rattle.bwsh.specs.BatchFile.{AreRead, IsReadError, first_bad, orders_in, parse_text}
use Rattle.bwsh.specs.Ends.{HasBegun, HasBegunOn, IsAllDone, IsBad, IsDoneOn}
use Rattle.bwsh.specs.Options.{Given, Request, AsksFor, AsksForText, AreRefused, IsRightKind, bounds_of, copy_of, is_refusal, mode_of}
use Rattle.bwsh.specs.Options.Asked.{options}
use Rattle.bwsh.specs.Session.{Answers, AreLeft, AreReadOf, EndsBy, IsEndAfter, IsForWords, IsStart, IsStartBy, IsUncopied, IsUnopened, Prints, PrintsOneText, Reads, Runs, RunsAll, RunsFrom, RunsOn, RunsRead, RunsRequest, Start, answered, end_from, found_start, lines_from, map_kept, map_kept_from, new_start, orders_end, session_orders, start_for_copy, start_unless_bad, status_of_end, stopped_by, first_refusal, untidied, version_text}
use Rattle.bwsh.proofs.CopiedLemmas.{End, IsLeft, OnOk-flushed, Prints-done, Prints-none, Prints-right, PrintsCopied-begun, PrintsCopied-early, PrintsCopied-front, PrintsCopied-left, PrintsCopied-made, PrintsCopied-other, PrintsCopied-plain}
use Rattle.bwsh.proofs.FirstLemmas.{RunsOn-cut}
use Rattle.bwsh.proofs.LoopLemmas.{some_read}
use Rattle.bwsh.proofs.Prints.{Prints-flushed}
use Rattle.bwsh.proofs.RowLemmas.{AreCleaning-weaker}
use Rattle.bwsh.proofs.RunLemmas.{TidiesBy-none}

-- ---- right starts

-- what there is to be copied under good settings starts as without that
start_copied : (copy : Option Settings) (start : Start) → IfSome copy (λ s. first_bad_field s ≡ None) → start_for_copy copy start ≡ start
start_copied None start good = refl
start_copied (Some settings) start good = ap (λ (f : Option Field). start_unless_bad f start) good

start_with_copy : (settings : Settings) (disk : Option Bytes) (create : Bool) (copy : Option Settings) → IfSome copy (λ s. first_bad_field s ≡ None) → (start : Start)
    → IsStartBy settings disk create None start → IsStartBy settings disk create copy start
start_with_copy settings None create copy good start is = is
start_with_copy settings (Some path) true copy good start is = is
start_with_copy settings (Some path) false copy good start (file, is) = (file, is ∙ sym (start_copied copy (found_start file) good))

start_plain : (settings : Settings) (disk : Option Bytes) (create : Bool) (copy : Option Settings) → IfSome copy (λ s. first_bad_field s ≡ None) → (start : Start)
    → IsStartBy settings disk create copy start → IsStartBy settings disk create None start
start_plain settings None create copy good start is = is
start_plain settings (Some path) true copy good start is = is
start_plain settings (Some path) false copy good start (file, is) = (file, is ∙ start_copied copy (found_start file) good)

-- the settings of a copy are those of the command line
copy_good : (request : Request) → first_bad_field request.settings ≡ None → IfSome (copy_of request) (λ s. first_bad_field s ≡ None)
copy_good request good = by request.copy_to
  where
    by : (path : Option Bytes) → IfSome (option_map (λ (p : Bytes). request.settings) path) (λ s. first_bad_field s ≡ None)
    by None = tt
    by (Some path) = good

-- with settings that are refused there is no store where it is to be copied
start_uncopied : (settings : Settings) (disk : Option Bytes) (create : Bool) (field : Field) → first_bad_field settings ≡ Some field
    → IsStartBy settings disk create (Some settings) (Err (BadSettings field))
start_uncopied settings None create field bad = rw bad refl
start_uncopied settings (Some path) true field bad = ([], rw bad refl)
start_uncopied settings (Some path) false field bad = ([], rw bad refl)

-- what the words give has some right start
start_by_rest : (settings : Settings) (disk : Option Bytes) (create : Bool) (copy : Option Settings) → (start : Start) × IsStartBy settings disk create copy start
start_by_rest settings None create copy = (new_start settings (replicate (disk_size settings) 0), refl)
start_by_rest settings (Some path) true copy = (new_start settings [], ([], refl))
start_by_rest settings (Some path) false copy = (start_for_copy copy (found_start []), ([], refl))

start_of : (in_range : Bool) (settings : Settings) (disk : Option Bytes) (create : Bool) (copy : Option Settings)
    → (start : Start) × MatchBool in_range (IsStartBy settings disk create copy start) (start ≡ Err BadCrew)
start_of true settings disk create copy = start_by_rest settings disk create copy
start_of false settings disk create copy = (Err BadCrew, refl)

at_true : (b : Bool) (P Q : Type 0) → IsTrue b → P → MatchBool b P Q
at_true true P Q is p = p
at_true false P Q is p = cc

at_false : (b : Bool) (P Q : Type 0) → b ≡ false → Q → MatchBool b P Q
at_false true P Q is q = cc
at_false false P Q is q = q

-- this is a right start by what else the words give than the crew
IsStart-rest : (request : Request) → IsTrue (is_crew request.crew) → (start : Start) → IsStartBy request.settings request.disk request.create (copy_of request) start → IsStart request start
IsStart-rest request in_range start is =
    at_true (is_crew request.crew) (IsStartBy request.settings request.disk request.create (copy_of request) start) (start ≡ Err BadCrew) in_range is

-- none where the crew is out of range
start_without_crew : (request : Request) → is_crew request.crew ≡ false → IsStart request (Err BadCrew)
start_without_crew request out_of_range =
    let start : Start = Err BadCrew in at_false (is_crew request.crew) (IsStartBy request.settings request.disk request.create (copy_of request) start) (start ≡ Err BadCrew) out_of_range refl

-- the start of a session whose settings of a copy are refused; or the file of the copy is
start_of_uncopied : (request : Request) → IsTrue (is_crew request.crew) → (early : SessionError) → IsUncopied (copy_of request) early
    → ((fault : Fault) × IsStart request (Err fault) × (early ≡ errors.Fault fault)) ⊎ (early ≡ Device)
start_of_uncopied request in_range early why = by request.copy_to refl why
  where
    by : (path : Option Bytes) → path ≡ request.copy_to → IsUncopied (option_map (λ (p : Bytes). request.settings) path) early
        → ((fault : Fault) × IsStart request (Err fault) × (early ≡ errors.Fault fault)) ⊎ (early ≡ Device)
    by None is uncopied = absurd uncopied
    by (Some path) is (inr e) = inr e
    by (Some path) is (inl (field, bad, e)) =
        let start : Start = Err (BadSettings field) in
        let rest : IsStartBy request.settings request.disk request.create (copy_of request) start =
        subst (λ (c : Option Settings). IsStartBy request.settings request.disk request.create c start) (ap (option_map (λ (p : Bytes). request.settings)) is)
        (start_uncopied request.settings request.disk request.create field bad) in
        inl (BadSettings field, IsStart-rest request in_range start rest, e)

-- ---- known texts

-- the known text, or else any
pub text_of-known : (known : Option Bytes) → IfSome known (λ bytes. unwrap_or known [] ≡ bytes)
text_of-known None = tt
text_of-known (Some bytes) = refl

IfSome-known : (known : Option Bytes) (text : Bytes) (P : Bytes → Type 0) → IfSome known (λ bytes. text ≡ bytes) → P text → IfSome known P
IfSome-known None text P e p = tt
IfSome-known (Some bytes) text P e p = subst P e p

IfSome-kept : (known left : Option Bytes) (P : Bytes → Type 0) → Keeps known left → IfSome left P → IfSome known P
IfSome-kept None left P kept p = tt
IfSome-kept (Some xs) None P kept p = absurd kept
IfSome-kept (Some xs) (Some ys) P kept p = subst P kept p

-- the lines are read by way of a buffer, which holds nothing first
prepend-none : (known : Option Bytes) → prepend_known [] known ≡ known
prepend-none None = refl
prepend-none (Some bytes) = refl

buffered : (capacity : ℕ) (held : Bytes) (known : Option Bytes) → capacity ≡ 8192 → held ≡ [] → (if capacity == 0 then None else prepend_known held known) ≡ known
buffered capacity held known some none = rw (some, none) (prepend-none known)

-- ---- what a session runs

-- the orders are run on a store that it starts with, and then there is the copy of what they leave, or there is none
-- the output is handed on after some orders
pub RunsOn-flushed : (mode : Mode) (honest : Bool) (settings : Settings) (st : Store) (left : Bytes) (orders : List Order) (old mid new : Option Bytes) (done flushed : End) (held : Pairs Bytes)
    → RunsOn mode honest settings st left orders old mid done held → Keeps mid new → (flushed ≡ done) ⊎ (flushed ≡ Err Device) → RunsOn mode honest settings st left orders old new flushed held
unfolding Runs
RunsOn-flushed mode honest settings st left orders old mid new done flushed held (shown, are, runs, leaves) kept ended =
    let lines : List Bytes = answered mode.stream settings st shown (contents st.tree) orders in
    let right : End = orders_end mode.stream settings st shown orders in (
      shown,
      are,
      Prints-flushed mode.stream old mid new lines right done flushed runs kept ended,
      OnOk-flushed done flushed (held ≡ map_kept settings st shown (contents st.tree) orders) ended leaves,
    )

none_is : (disk : Option Bytes) → IsTrue (is_none disk) → disk ≡ None
none_is None memory = refl
none_is (Some path) memory = absurd (cc)

module _ (request : Request) (settings : Settings) (st : Store) (file left : Bytes) (honest : Bool) (is_left : IsTrue honest → left ≡ file) (in_memory : request.disk ≡ None → IsTrue honest)
    (parsed : List Line) (old new : Option Bytes) where
  RunsFrom-run : (done end : End) (held : Pairs Bytes) → RunsOn request.mode honest settings st left (orders_in (bounds_of request.mode) request.mode.stat parsed) old new done held
      → IsLeft (copy_of request) held done end → RunsFrom request (Ok (settings, (st, file))) parsed old new end
  unfolding RunsFrom Runs
  RunsFrom-run done end held (shown, (tidies, failing, cleans, are), runs, leaves) follows =
      let ran : List Order = orders_in (bounds_of request.mode) request.mode.stat parsed in
      let on : Bool = request.mode.stream in
      let lines : List Bytes = answered on settings st shown (contents st.tree) ran in
      let right : End = orders_end on settings st shown ran in
      let m : Pairs Bytes = map_kept settings st shown (contents st.tree) ran in (
        shown,
        (
          tidies,
          failing,
          AreCleaning-weaker honest (is_none request.disk) (λ memory. in_memory (none_is request.disk memory)) settings request.mode.clean_when_full st shown ran cleans,
          λ memory. let h : IsTrue honest = in_memory memory in subst (λ (f : Bytes). AreLeft settings st f shown ran) (is_left h) (are h),
        ),
        PrintsCopied-left (copy_of request) m held on old new lines right done end runs leaves follows,
      )

module _ (request : Request) (parsed : List Line) (old : Option Bytes) where
  -- there is no store
  RunsFrom-none : (fault : Fault) → RunsFrom request (Err fault) parsed old old (Err (errors.Fault fault))
  unfolding RunsFrom
  RunsFrom-none fault =
      let shown : Reads = λ i. untidied [] in
      let start : Start = Err fault in
      let ran : List Order = session_orders request parsed in (
        shown,
        (TidiesBy-none request.mode shown (λ i. refl), tt, tt, λ memory. tt),
        PrintsCopied-early (copy_of request) (map_kept_from start shown ran) request.mode.stream old old (lines_from request.mode.stream start shown ran)
            (end_from request.mode.stream start shown ran) (errors.Fault fault) (inl (refl, Appends-nil old)),
      )

  -- a device fails before anything is run
  RunsFrom-device : (start : Start) → RunsFrom request start parsed old old (Err Device)
  unfolding RunsFrom
  RunsFrom-device (Err fault) =
      let shown : Reads = λ i. untidied [] in
      let start : Start = Err fault in
      let ran : List Order = session_orders request parsed in (
        shown,
        (TidiesBy-none request.mode shown (λ i. refl), tt, tt, λ memory. tt),
        PrintsCopied-early (copy_of request) (map_kept_from start shown ran) request.mode.stream old old (lines_from request.mode.stream start shown ran)
            (end_from request.mode.stream start shown ran) Device
            (Prints-none request.mode.stream old (lines_from request.mode.stream start shown ran) (end_from request.mode.stream start shown ran)),
      )
  RunsFrom-device (Ok p) =
      RunsFrom-run request p.0 p.1.0 p.1.1 p.1.1 true (λ h. refl) (λ memory. refl) parsed old old (Err Device) (Err Device) []
      (RunsOn-cut request.mode true p.0 p.1.0 p.1.1 (orders_in (bounds_of request.mode) request.mode.stat parsed) old Device (inr refl) []) refl

module _ (request : Request) (known : Option Bytes) where
  -- from a right start, whatever the lines
  RunsRead-by : (old new : Option Bytes) (end : End) (start : Start) → IsStart request start → ((parsed : List Line) → RunsFrom request start parsed old new end) → RunsRead request known old new end
  unfolding RunsRequest
  RunsRead-by old new end start is runs = let (parsed, read) = some_read request.mode.stream known in inl (parsed, read, (start, is, runs parsed))

  RunsRead-fault : (old : Option Bytes) (fault : Fault) → IsStart request (Err fault) → RunsRead request known old old (Err (errors.Fault fault))
  RunsRead-fault old fault is = RunsRead-by old old (Err (errors.Fault fault)) (Err fault) is (λ parsed. RunsFrom-none request parsed old fault)

  RunsRead-device : (old : Option Bytes) (start : Start) → IsStart request start → RunsRead request known old old (Err Device)
  RunsRead-device old start is = RunsRead-by old old (Err Device) start is (λ parsed. RunsFrom-device request parsed old start)

  -- the crew is out of range
  pub RunsRead-no_crew : (old : Option Bytes) → is_crew request.crew ≡ false → RunsRead request known old old (Err (errors.Fault BadCrew))
  RunsRead-no_crew old out_of_range = RunsRead-fault old BadCrew (start_without_crew request out_of_range)

  -- the settings of a copy are refused, or its file is
  pub RunsRead-uncopied : (old : Option Bytes) → IsTrue (is_crew request.crew) → (early : SessionError) → IsUncopied (copy_of request) early → RunsRead request known old old (Err early)
  RunsRead-uncopied old in_range early why = by (start_of_uncopied request in_range early why)
    where
      by : ((fault : Fault) × IsStart request (Err fault) × (early ≡ errors.Fault fault)) ⊎ (early ≡ Device) → RunsRead request known old old (Err early)
      by (inl (fault, is, e)) = subst (λ (x : SessionError). RunsRead request known old old (Err x)) (sym e) (RunsRead-fault old fault is)
      by (inr e) =
          let (start, is) = start_of (is_crew request.crew) request.settings request.disk request.create (copy_of request) in
          subst (λ (x : SessionError). RunsRead request known old old (Err x)) (sym e) (RunsRead-device old start is)

  module _ (in_range : IsTrue (is_crew request.crew)) (good : IfSome (copy_of request) (λ s. first_bad_field s ≡ None)) where
    opened_start : (start : Start) → IsStartBy request.settings request.disk request.create None start → IsStart request start
    opened_start start is = IsStart-rest request in_range start (start_with_copy request.settings request.disk request.create (copy_of request) good start is)

    -- there is no store
    pub RunsRead-unopened : (old : Option Bytes) (early : SessionError) (start : Start) → IsStartBy request.settings request.disk request.create None start → IsUnopened start early
        → RunsRead request known old old (Err early)
    RunsRead-unopened old early start is (inl (fault, none, e)) =
        subst (λ (x : SessionError). RunsRead request known old old (Err x)) (sym e) (RunsRead-fault old fault (subst (IsStart request) none (opened_start start is)))
    RunsRead-unopened old early start is (inr (inl e)) = inr (ap (λ (x : SessionError). Err x) e, Appends-nil old)
    RunsRead-unopened old early start is (inr (inr e)) = subst (λ (x : SessionError). RunsRead request known old old (Err x)) (sym e) (RunsRead-device old start (opened_start start is))

    -- there is one: the orders of some lines are run on it, and then there is the copy of what they leave, or there is none
    module _ (settings : Settings) (st : Store) (file left : Bytes) (honest : Bool) (start : Start) (is : IsStartBy request.settings request.disk request.create None start)
        (start_is : start ≡ Ok (settings, (st, file))) (seen_is : IsTrue honest → left ≡ file) (in_memory : request.disk ≡ None → IsTrue honest) (mode : Mode) (mode_is : mode ≡ request.mode) where
      pub RunsRead-run : (parsed : List Line) → IfSome known (λ text. AreRead mode.stream (parse_text mode.stream text) parsed) → (old new : Option Bytes) (done end : End) (after : Store)
          → RunsAll mode honest settings st left (orders_in (bounds_of mode) mode.stat parsed) old new done after → IsLeft (copy_of request) (contents after.tree) done end
          → RunsRead request known old new end
      unfolding RunsRequest
      RunsRead-run parsed read old new done end after runs follows =
          let on_request : RunsOn request.mode honest settings st left (orders_in (bounds_of request.mode) request.mode.stat parsed) old new done (contents after.tree) =
          subst (λ (m : Mode). RunsOn m honest settings st left (orders_in (bounds_of m) m.stat parsed) old new done (contents after.tree)) mode_is runs in
          inl (
            parsed,
            subst (λ (m : Mode). IfSome known (λ text. AreRead m.stream (parse_text m.stream text) parsed)) mode_is read,
            (
              start,
              opened_start start is,
              subst (λ (s : Start). RunsFrom request s parsed old new end) (sym start_is)
                  (RunsFrom-run request settings st file left honest seen_is in_memory parsed old new done end (contents after.tree) on_request follows),
            ),
          )

-- ---- what it answers

-- it ends before anything is run
pub Answers-unread : (request : Request) (known old new : Option Bytes) (text : Bytes) → IfSome known (λ bytes. text ≡ bytes) → (early : SessionError)
    → IsReadError (first_bad 1 (parse_text request.mode.stream text)) early → (request.mode.stream ≡ true → (number : ℕ) (why : Why) → early ≢ Bad number why) → Appends old new []
    → Answers request known old new (Err early)
unfolding Answers
Answers-unread request known old new text is_known early is whole none = (text, is_known, inl (is, whole, none))

-- the same for want of memory, or since a device failed
pub Answers-cut : (request : Request) (known old new : Option Bytes) (early : SessionError) → (early ≡ errors.Fault NoMemory) ⊎ (early ≡ Device) → Appends old new []
    → Answers request known old new (Err early)
Answers-cut request known old new early cut none = Answers-unread request known old new (unwrap_or known []) (text_of-known known) early (is_error cut) (λ s number why. no_line cut number why) none
  where
    is_error : (early ≡ errors.Fault NoMemory) ⊎ (early ≡ Device) → IsReadError (first_bad 1 (parse_text request.mode.stream (unwrap_or known []))) early
    is_error (inl e) = subst (IsReadError (first_bad 1 (parse_text request.mode.stream (unwrap_or known [])))) (sym e) refl
    is_error (inr e) = subst (IsReadError (first_bad 1 (parse_text request.mode.stream (unwrap_or known [])))) (sym e) tt

    no_line : (early ≡ errors.Fault NoMemory) ⊎ (early ≡ Device) → (number : ℕ) (why : Why) → early ≢ Bad number why
    no_line (inl e) number why bad = let no : errors.Fault NoMemory ≡ Bad number why = sym e ∙ bad in cc
    no_line (inr e) number why bad = let no : Device ≡ Bad number why = sym e ∙ bad in cc

-- a line of a text is bad, or its check finds no memory
pub Answers-bad : (request : Request) (known old : Option Bytes) (text : Bytes) → request.mode.stream ≡ false → IfSome known (λ bytes. text ≡ bytes) → (early : SessionError)
    → IsReadError (first_bad 1 (parse_text false text)) early → Answers request known old old (Err early)
Answers-bad request known old text plain is_known early is =
    Answers-unread request known old old text is_known early (subst (λ (b : Bool). IsReadError (first_bad 1 (parse_text b text)) early) (sym plain) is)
    (λ streams. let no : true ≡ false = sym streams ∙ plain in cc) (Appends-nil old)

-- nothing was appended first
RunsRequest-begun : (request : Request) (parsed : List Line) (old mid new : Option Bytes) → Appends old mid [] → (end : End) → RunsRequest request parsed mid new end → RunsRequest request parsed old new end
unfolding RunsRequest RunsFrom
RunsRequest-begun request parsed old mid new none end (start, is, (shown, is_shown, p)) =
    (start, is, (shown, is_shown, PrintsCopied-begun (copy_of request) _ request.mode.stream old mid new none _ _ end p))

module _ (request : Request) (known old mid new : Option Bytes) (none : Appends old mid []) (end : End) where
  no_memory : (end ≡ Err (errors.Fault NoMemory)) → Appends mid new [] → Answers request known old new end
  no_memory e nothing =
      subst (λ (r : End). Answers request known old new r) (sym e) (Answers-cut request known old new (errors.Fault NoMemory) (inl refl) (Appends-trans old mid new [] [] none nothing))

  -- of a text that is all read, and has no bad line
  pub Answers-text : (text : Bytes) → request.mode.stream ≡ false → IfSome known (λ bytes. text ≡ bytes) → first_bad 1 (parse_text false text) ≡ None → RunsRead request (Some text) mid new end
      → Answers request known old new end
  unfolding Answers
  Answers-text text plain is_known good (inr (e, nothing)) = no_memory e nothing
  Answers-text text plain is_known good (inl (parsed, read, runs)) =
      (text, is_known, inr (λ s. good, (parsed, by request.mode.stream plain read, RunsRequest-begun request parsed old mid new none end runs)))
    where
      by : (b : Bool) → b ≡ false → AreRead b (parse_text b text) parsed → AreReadOf b known text parsed
      by true is p = cc
      by false is p = p

  -- of a stream
  pub Answers-stream : (left : Option Bytes) → request.mode.stream ≡ true → Keeps known left → RunsRead request left mid new end → Answers request known old new end
  unfolding Answers
  Answers-stream left streams kept (inr (e, nothing)) = no_memory e nothing
  Answers-stream left streams kept (inl (parsed, read, runs)) =
      (unwrap_or known [], text_of-known known, inr (λ s. no_text s, (parsed, by request.mode.stream streams read, RunsRequest-begun request parsed old mid new none end runs)))
    where
      no_text : request.mode.stream ≡ false → first_bad 1 (parse_text false (unwrap_or known [])) ≡ None
      no_text plain = let no : true ≡ false = sym streams ∙ plain in cc

      by : (b : Bool) → b ≡ true → IfSome left (λ text. AreRead b (parse_text b text) parsed) → AreReadOf b known (unwrap_or known []) parsed
      by true is p = IfSome-kept known left (λ (text : Bytes). AreRead true (parse_text true text) parsed) kept p
      by false is p = cc

  -- of a stream whose lines are read by way of a buffer, which holds nothing first
  pub Answers-buffered : (left inner : Option Bytes) (capacity : ℕ) (held : Bytes) → capacity ≡ 8192 → held ≡ [] → inner ≡ left → request.mode.stream ≡ true → Keeps known left
      → RunsRead request (if capacity == 0 then None else prepend_known held inner) mid new end → Answers request known old new end
  Answers-buffered left inner capacity held some empty same streams kept runs =
      Answers-stream left streams kept (subst (λ (o : Option Bytes). RunsRead request o mid new end) (buffered capacity held inner some empty ∙ same) runs)

-- another crew that is in range where this one is
pub Answers-crew : (request : Request) (crew : Crew) → is_crew crew ≡ is_crew request.crew → (known old new : Option Bytes) (end : End)
    → Answers request known old new end → Answers (record request { crew = crew }) known old new end
unfolding Answers RunsRequest RunsFrom
Answers-crew request crew same known old new end (text, is_known, inl unread) = (text, is_known, inl unread)
Answers-crew request crew same known old new end (text, is_known, inr (good, (parsed, read, (start, is, ran)))) =
    let is_right : Bool → Type 0 = λ b. MatchBool b (IsStartBy request.settings request.disk request.create (copy_of request) start) (start ≡ Err BadCrew) in
    (text, is_known, inr (good, (parsed, read, (start, subst is_right (sym same) is, ran))))

pub IsStart-plain : (request : Request) → first_bad_field request.settings ≡ None → (start : Start) → IsStart request start → IsStart (record request { copy_to = None }) start
IsStart-plain request good start is = by (is_crew request.crew) is
  where
    by : (b : Bool) → MatchBool b (IsStartBy request.settings request.disk request.create (copy_of request) start) (start ≡ Err BadCrew)
        → MatchBool b (IsStartBy request.settings request.disk request.create None start) (start ≡ Err BadCrew)
    by true rest = start_plain request.settings request.disk request.create (copy_of request) (copy_good request good) start rest
    by false none = none

-- a session without the copy prints the same, and ends so, or all is done
pub Answers-plain : (request : Request) → first_bad_field request.settings ≡ None → (known old new : Option Bytes) (end : End) → Answers request known old new end
    → (plain : End) × Answers (record request { copy_to = None }) known old new plain × IsEndAfter plain end
unfolding Answers RunsRequest RunsFrom
Answers-plain request good known old new end (text, is_known, inl unread) = (end, (text, is_known, inl unread), inl refl)
Answers-plain request good known old new end (text, is_known, inr (whole, (parsed, read, (start, is, (shown, is_shown, p))))) =
    let (plain, q, after) = PrintsCopied-plain (copy_of request) _ request.mode.stream old new _ _ end p in
    (plain, (text, is_known, inr (whole, (parsed, read, (start, IsStart-plain request good start is, (shown, is_shown, q))))), after)

-- no store where it is out of range
pub IsStart-no_crew : (request : Request) → is_crew request.crew ≡ false → (start : Start) → IsStart request start → start ≡ Err BadCrew
IsStart-no_crew request out_of_range start is =
    let is_right : Bool → Type 0 = λ b. MatchBool b (IsStartBy request.settings request.disk request.create (copy_of request) start) (start ≡ Err BadCrew) in
    subst is_right out_of_range is

-- reports, and how long a lock is waited for, change nothing
pub Answers-reports : (request : Request) (progress explain : Bool) (wait : ℕ) (known old new : Option Bytes) (end : End) → Answers request known old new end
    → Answers (record request { mode = record request.mode { progress = progress; explain = explain; wait = wait } }) known old new end
unfolding Answers RunsRequest RunsFrom
Answers-reports request progress explain wait known old new end (text, is_known, inl unread) = (text, is_known, inl unread)
Answers-reports request progress explain wait known old new end (text, is_known, inr (whole, (parsed, read, (start, is, ran)))) =
    (text, is_known, inr (whole, (parsed, read, (start, is, ran))))

-- ---- what follows of a session whose words name a store

-- where the right end is with all done there is a store
start_ok : (on : Bool) (start : Start) (shown : Reads) (orders : List Order) (done : Unit {0}) → Ok done ≡ end_from on start shown orders → IsOk start
start_ok on (Ok p) shown orders done e = refl
start_ok on (Err fault) shown orders done e = absurd (cc)

-- the right end is no bad line, and not for the words
no_stop : (r : Option Fault) (early : SessionError) → ((fault : Fault) → early ≡ errors.Fault fault → ⊥) → Err early ≡ stopped_by (option_map (λ fault. errors.Fault fault) r) → ⊥
no_stop None early other e = cc
no_stop (Some fault) early other e = other fault (let injective : early ≡ errors.Fault fault = cc in injective)

no_end : (on : Bool) (start : Start) (shown : Reads) (orders : List Order) (early : SessionError) → ((fault : Fault) → early ≡ errors.Fault fault → ⊥) → Err early ≡ end_from on start shown orders → ⊥
no_end on (Err fault) shown orders early other e = other fault (let injective : early ≡ errors.Fault fault = cc in injective)
no_end true (Ok p) shown orders early other e = cc
no_end false (Ok p) shown orders early other e = no_stop (first_refusal p.0 p.1.0 shown orders) early other e

module _ (request : Request) (known old new : Option Bytes) where
  -- what was read of the known text
  by_known : (text : Bytes) (parsed : List Line) (P : Bytes → Type 0) → IfSome known (λ bytes. text ≡ bytes) → AreReadOf request.mode.stream known text parsed
      → ((bytes : Bytes) → text ≡ bytes → AreRead request.mode.stream (parse_text request.mode.stream bytes) parsed → P bytes) → IfSome known P
  by_known text parsed P is_known read f = by request.mode.stream known is_known read f
    where
      by : (b : Bool) (k : Option Bytes) → IfSome k (λ bytes. text ≡ bytes) → AreReadOf b k text parsed → ((bytes : Bytes) → text ≡ bytes → AreRead b (parse_text b bytes) parsed → P bytes) → IfSome k P
      by true None is r g = tt
      by false None is r g = tt
      by true (Some bytes) is r g = g bytes is r
      by false (Some bytes) is r g = g bytes is (subst (λ (t : Bytes). AreRead false (parse_text false t) parsed) is r)

  request_done : (done : Unit {0}) → Answers request known old new (Ok done) → IfSome known (IsDoneOn request old new)
  unfolding Answers RunsRequest RunsFrom
  request_done done (text, is_known, inl unread) = absurd unread
  request_done done (text, is_known, inr (whole, (parsed, read, (start, is, (shown, is_shown, p))))) =
      let (right, a) = Prints-done request.mode.stream old new _ _ done (PrintsCopied-other (copy_of request) _ request.mode.stream old new _ _ (Ok done) (λ fault e. absurd (cc)) p) in
      by_known text parsed (IsDoneOn request old new) is_known read (λ bytes same got. (
        parsed,
        got,
        λ plain. subst (λ (t : Bytes). first_bad 1 (parse_text false t) ≡ None) same (whole plain),
        (start, is, start_ok request.mode.stream start shown _ done right, shown, is_shown, sym right, a, PrintsCopied-made (copy_of request) _ request.mode.stream old new _ _ done p),
      ))

  -- an end that is none for memory, a device or a fault is that of a session whose lines weren't run
  not_run : (early : SessionError) → ((fault : Fault) → early ≡ errors.Fault fault → ⊥) → (early ≡ Device → ⊥) → (parsed : List Line) → RunsRequest request parsed old new (Err early) → ⊥
  unfolding RunsRequest RunsFrom
  not_run early other no_device parsed (start, is, (shown, is_shown, p)) =
      no_end request.mode.stream start shown (session_orders request parsed) early other
      (Prints-right request.mode.stream old new _ _ (Err early) (λ e. other NoMemory (let injective : early ≡ errors.Fault NoMemory = cc in injective))
      (λ e. no_device (let injective : early ≡ Device = cc in injective))
      (PrintsCopied-other (copy_of request) _ request.mode.stream old new _ _ (Err early) (λ fault e. other fault (let injective : early ≡ errors.Fault fault = cc in injective)) p))

  request_bad : (line : ℕ) (why : Why) → Answers request known old new (Err (Bad line why))
      → (request.mode.stream ≡ true → ⊥) × Appends old new [] × IfSome known (λ text. first_bad 1 (parse_text false text) ≢ None)
  unfolding Answers
  request_bad line why (text, is_known, inl (bad, whole, none)) =
      (λ streams. whole streams line why refl, none, IfSome-known known text (λ (t : Bytes). first_bad 1 (parse_text false t) ≢ None) is_known (by request.mode.stream bad (λ s. whole s line why refl)))
    where
      by : (b : Bool) → first_bad 1 (parse_text b text) ≡ Some (line, why) → (b ≡ true → ⊥) → first_bad 1 (parse_text false text) ≢ None
      by true is never = absurd (never refl)
      by false is never = λ good. let contra : Some (line, why) ≡ None = sym is ∙ good in cc
  request_bad line why (text, is_known, inr (whole, (parsed, read, runs))) = absurd (not_run (Bad line why) (λ fault e. cc) (λ e. cc) parsed runs)

  request_words : (error : Error) → Answers request known old new (Err (Words error)) → ⊥
  unfolding Answers
  request_words error (text, is_known, inl (bad, whole, none)) = bad
  request_words error (text, is_known, inr (whole, (parsed, read, runs))) = not_run (Words error) (λ fault e. cc) (λ e. cc) parsed runs

  request_front : (end : End) → Answers request known old new end → Appends old new [] ⊎ IfSome known (HasBegunOn request old new)
  unfolding Answers RunsRequest RunsFrom
  request_front (Ok done) (text, is_known, inl unread) = absurd unread
  request_front (Err early) (text, is_known, inl (bad, whole, none)) = inl none
  request_front end (text, is_known, inr (whole, (parsed, read, (start, is, (shown, is_shown, p))))) =
      let begun = PrintsCopied-front (copy_of request) _ request.mode.stream old new _ _ end p in
      inr (by_known text parsed (HasBegunOn request old new) is_known read (λ bytes same got. (parsed, got, (start, is, shown, is_shown, begun))))

-- ---- what follows of any session

-- options of the same words are the same
options_same : (given others : Given) → options given ≡ options others → given ≡ others
options_same given others e = let injective : given ≡ others = cc in injective

-- words ask for one mode
same_mode : (words : List Bytes) (one other : Request) → AsksFor words one → AsksFor words other → one.mode ≡ other.mode
same_mode words one other (given, asks, sized, is) (others, also, fit, are) =
    let same : given ≡ others = options_same given others (sym asks ∙ also) in
    ap (λ (r : Request). r.mode) is ∙ ap mode_of same ∙ sym (ap (λ (r : Request). r.mode) are)

-- words that name a store are not refused
not_refused : (words : List Bytes) (request : Request) → AsksFor words request → AreRefused words → ⊥
not_refused words request (given, tells, sized, is) refused = cc

-- nor are words that ask for a text
text_not_refused : (words : List Bytes) → AsksForText words → AreRefused words → ⊥
text_not_refused words (inl helps) refused = cc
text_not_refused words (inr (request, tells, is)) refused = not_refused words request tells refused

status-one : (end : End) (status : ℕ) → status ≡ status_of_end end → (status ≡ 0) ⊎ (status ≡ 2) ⊎ (status ≡ 3) ⊎ (status ≡ 4)
status-one (Ok done) status e = inl e
status-one (Err (Words error)) status e = inr (inl e)
status-one (Err (Bad line why)) status e = inr (inr (inl e))
status-one (Err (errors.Fault fault)) status e = inr (inr (inr e))
status-one (Err Device) status e = inr (inr (inr e))

-- one text that is printed ends with all done, or with a fault
one_text : (old new : Option Bytes) (early : SessionError) → PrintsOneText old new (Err early) → status_of_end (Err early) ≡ 4
one_text old new early (inl (text, inl (e, a))) = absurd (cc)
one_text old new early (inl (text, inr (inl (off, e, q)))) = ap status_of_end e
one_text old new early (inl (text, inr (inr (e, q)))) = ap status_of_end e
one_text old new early (inr (e, none)) = ap status_of_end e

module _ (words : List Bytes) (known old new : Option Bytes) (unread untouched : Type 0) where
  -- the words are refused where the status is 2, and where they are it is 2 but for memory, with nothing read and nothing printed
  refused_end : (end : End) → EndsBy words known old new unread untouched end → status_of_end end ≡ 2 → AreRefused words
  refused_end (Ok done) p s = absurd (omega arith)
  refused_end (Err (Bad line why)) p s = absurd (omega arith)
  refused_end (Err (errors.Fault fault)) p s = absurd (omega arith)
  refused_end (Err Device) p s = absurd (omega arith)
  refused_end (Err (Words error)) (inl (request, tells, runs, answers)) s = absurd (request_words request known old new error answers)
  refused_end (Err (Words error)) (inr (inl (not_read, asks, printed_help))) s =
      let four = one_text old new (Words error) printed_help in absurd (omega arith)
  refused_end (Err (Words error)) (inr (inr (not_read, not_touched, inl (refused, for_words)))) s = refused
  refused_end (Err (Words error)) (inr (inr (not_read, not_touched, inr e))) s = absurd (cc)

  for_words_status : (end : End) → IsForWords end → status_of_end end ≡ 2
  for_words_status (Err (Words error)) w = refl
  for_words_status (Ok done) w = absurd w
  for_words_status (Err (Bad line why)) w = absurd w
  for_words_status (Err (errors.Fault fault)) w = absurd w
  for_words_status (Err Device) w = absurd w

  when_refused : (end : End) → EndsBy words known old new unread untouched end → AreRefused words → ((status_of_end end ≡ 2) ⊎ (status_of_end end ≡ 4)) × unread × untouched
  when_refused end (inl (request, tells, runs, answers)) refused = absurd (not_refused words request tells refused)
  when_refused end (inr (inl (not_read, asks, printed_help))) refused = absurd (text_not_refused words asks refused)
  when_refused end (inr (inr (not_read, not_touched, inl (is_refused, for_words)))) refused = (inl (for_words_status end for_words), not_read, not_touched)
  when_refused end (inr (inr (not_read, not_touched, inr e))) refused = (inr (ap status_of_end e), not_read, not_touched)

  refused_iff : (end : End) (status : ℕ) → status ≡ status_of_end end → EndsBy words known old new unread untouched end → (status ≡ 2) ↔ (AreRefused words × (status ≢ 4))
  refused_iff end status e p =
      (λ two. (refused_end end p (sym e ∙ two), λ four. absurd (omega arith)), λ (refused, no_fault). by (when_refused end p refused).0 no_fault) where
        by : (status_of_end end ≡ 2) ⊎ (status_of_end end ≡ 4) → status ≢ 4 → status ≡ 2
        by (inl two) no_fault = e ∙ two
        by (inr four) no_fault = absurd (no_fault (e ∙ four))

  done_end : (end : End) → status_of_end end ≡ 0 → EndsBy words known old new unread untouched end → IsAllDone words known old new
  done_end (Err (Words error)) s p = absurd (omega arith)
  done_end (Err (Bad line why)) s p = absurd (omega arith)
  done_end (Err (errors.Fault fault)) s p = absurd (omega arith)
  done_end (Err Device) s p = absurd (omega arith)
  done_end (Ok done) s (inl (request, tells, runs, answers)) = inr (request, tells, request_done request known old new done answers)
  done_end (Ok done) s (inr (inl (not_read, asks, printed_help))) = inl asks
  done_end (Ok done) s (inr (inr (not_read, not_touched, inl (refused, for_words)))) = absurd for_words
  done_end (Ok done) s (inr (inr (not_read, not_touched, inr e))) = absurd (cc)

  bad_end : (end : End) → status_of_end end ≡ 3 → EndsBy words known old new unread untouched end → IsBad words known old new
  bad_end (Ok done) s p = absurd (omega arith)
  bad_end (Err (Words error)) s p = absurd (omega arith)
  bad_end (Err (errors.Fault fault)) s p = absurd (omega arith)
  bad_end (Err Device) s p = absurd (omega arith)
  bad_end (Err (Bad line why)) s (inl (request, tells, runs, answers)) =
      let (no_stream, none, some) = request_bad request known old new line why answers in (
        λ (other, asks, streams). no_stream (subst (λ (m : Mode). m.stream ≡ true) (same_mode words other request asks tells) streams),
        none,
        some,
      )
  bad_end (Err (Bad line why)) s (inr (inl (not_read, asks, printed_help))) =
      let four = one_text old new (Bad line why) printed_help in absurd (omega arith)
  bad_end (Err (Bad line why)) s (inr (inr (not_read, not_touched, inl (refused, for_words)))) = absurd for_words
  bad_end (Err (Bad line why)) s (inr (inr (not_read, not_touched, inr e))) = absurd (cc)

  beginning_end : (end : End) → (untouched → Appends old new []) → EndsBy words known old new unread untouched end → HasBegun words known old new
  beginning_end end kept (inl (request, tells, runs, answers)) = by (request_front request known old new end answers)
    where
      by : Appends old new [] ⊎ IfSome known (HasBegunOn request old new) → HasBegun words known old new
      by (inl none) = inr (inl none)
      by (inr begun) = inr (inr (request, tells, begun))
  beginning_end end kept (inr (inl (not_read, asks, printed_help))) = inl asks
  beginning_end end kept (inr (inr (not_read, not_touched, q))) = inr (inl (kept not_touched))

-- what a session's contract says of its status follows from how it ends
pub record Follows (words : List Bytes) (known old new : Option Bytes) (unread untouched : Type 0) (status : ℕ) : Type 0 where
  pub status_is : (status ≡ 0) ⊎ (status ≡ 2) ⊎ (status ≡ 3) ⊎ (status ≡ 4)
  pub refused : (status ≡ 2) ↔ (AreRefused words × (status ≢ 4))
  pub untouched_is : AreRefused words → unread × untouched
  pub done : status ≡ 0 → IsAllDone words known old new
  pub bad : status ≡ 3 → IsBad words known old new
  pub beginning : HasBegun words known old new

pub all_follows : (words : List Bytes) (known old new : Option Bytes) (unread untouched : Type 0) (status : ℕ) (end : End) → status ≡ status_of_end end → (untouched → Appends old new [])
    → EndsBy words known old new unread untouched end → Follows words known old new unread untouched status
all_follows words known old new unread untouched status end e kept p = record {
  status_is = status-one end status e;
  refused = refused_iff words known old new unread untouched end status e p;
  untouched_is = λ r. let (of_two, not_read, not_touched) = when_refused words known old new unread untouched end p r in (not_read, not_touched);
  done = λ s. done_end words known old new unread untouched end (sym e ∙ s) p;
  bad = λ s. bad_end words known old new unread untouched end (sym e ∙ s) p;
  beginning = beginning_end words known old new unread untouched end kept p;
}

-- nothing was written to what is as it was
pub Appends-same : {X : Type 0} (contents : X → Option Bytes) (old new : X) → new ≡ old → Appends (contents old) (contents new) []
Appends-same {X} contents old new e = subst (λ (x : X). Appends (contents old) (contents x) []) (sym e) (Appends-nil (contents old))

-- ---- words that give no settings

-- what refuses words is no help, and no lack of memory
not_help : (kind : ErrorKind) → is_refusal kind ≡ true → kind ≢ DisplayHelp
not_help kind refuses e = let bad : false ≡ true = subst (λ (k : ErrorKind). is_refusal k ≡ true) e refuses in absurd (cc)

not_memory : (kind : ErrorKind) → is_refusal kind ≡ true → kind ≢ OutOfMemory
not_memory kind refuses e = let bad : false ≡ true = subst (λ (k : ErrorKind). is_refusal k ≡ true) e refuses in absurd (cc)

module _ (words : List Bytes) (known old new : Option Bytes) (unread untouched : Type 0) (end : End) (kind : ErrorKind) where
  pub EndsBy-words : IsRightKind words kind → (kind ≡ DisplayHelp → PrintsOneText old new end) → (kind ≡ OutOfMemory → (end ≡ Err (errors.Fault NoMemory)) × untouched)
      → (kind ≢ DisplayHelp → kind ≢ OutOfMemory → IsForWords end × untouched) → unread → EndsBy words known old new unread untouched end
  EndsBy-words (inl memory) helps starves refuses not_read =
      let (e, same) = starves memory in inr (inr (not_read, same, inr e))
  EndsBy-words (inr (inl (help, asks))) helps starves refuses not_read = inr (inl (not_read, inl asks, helps help))
  EndsBy-words (inr (inr (no_help_nor_memory, refused))) helps starves refuses not_read =
      let (for_words, same) = refuses (not_help kind no_help_nor_memory) (not_memory kind no_help_nor_memory) in inr (inr (not_read, same, inl (refused, for_words)))

-- words that tell something: the version is printed, or the batch file is run
pub EndsBy-request : (words : List Bytes) (known old new : Option Bytes) (unread untouched : Type 0) (end : End) (request : Request) → AsksFor words request
    → (request.mode.version ≡ true → unread × Prints false old new (version_text ∷ []) (Ok tt) end) → (request.mode.version ≡ false → Answers request known old new end)
    → EndsBy words known old new unread untouched end
EndsBy-request words known old new unread untouched end request tells shows runs = by request.mode.version refl where
  by : (b : Bool) → request.mode.version ≡ b → EndsBy words known old new unread untouched end
  by true is = let (not_read, printed) = shows is in inr (inl (not_read, inr (request, tells, is), inl (version_text, printed)))
  by false is = inl (request, tells, is, runs is)
