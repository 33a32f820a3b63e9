-- Lemmas on the answer to an order, derived from the steps that are run for it.
use Rattle.std.proofs.Common.{◌≡◌, ◌⊎◌, inl, inr, List, [], ◌∷◌, ◌++◌, Option, Result, Ok, Err, refl, sym, ap, ◌∙◌, subst, append-nil}
use Rattle.std.specs.Prelude.{Bool, true, IfSome, IsOkUnless, OnErr, OnOk, Some, None}
use Rattle.std.specs.Io.KnownBytes.{Appends, Keeps}
use Rattle.std.proofs.KnownBytes.{Appends-kept, Appends-nil}
use Rattle.keys.specs.Bytes.{Bytes, Pairs}
use Rattle.keys.specs.Lists.{flat}
use Rattle.keys.specs.declared.fault.Fault.{Fault}
use Rattle.keys.specs.declared.settings.Settings.{Settings}
use Rattle.mapping.specs.Levels.{contents}
use Rattle.mapping.specs.Tree.{Store}
use Rattle.bwsh.specs.declared.options.asked.Mode.{Mode}
use Rattle.bwsh.specs.declared.order.Order.{Order}
use Rattle.bwsh.specs.declared.session.SessionError.{SessionError}
use Rattle.bwsh.specs.declared.session.SessionError.TheVariants.{Bad, Device, Words}
use Rattle.bwsh.specs.declared.session.SessionError.TheVariants as errors
use Rattle.bwsh.specs.Output.{BeginsWith, IsBegun, Writes}
use Rattle.bwsh.specs.Session.{GoesOn, Runs, RunsAfter, RunsAsk, RunsFirst, RunsOn, RunsRefused, RunsTold, Stops, answered, device_line, fault_line}
use Rattle.bwsh.proofs.FirstLemmas.{RunsOn-cut}
use Rattle.bwsh.proofs.OwnLemmas.{Prints-then}
use Rattle.bwsh.proofs.Prints.{front-longer}

-- ---- a device fails

module _ (mode : Mode) (honest : Bool) (settings : Settings) (st : Store) (left : Bytes) (orders : List Order) (old new : Option Bytes) (held : Pairs Bytes) where
  -- before any of these orders has begun
  RunsOn-device : Appends old new [] → RunsOn mode honest settings st left orders old new (Err Device) held
  unfolding Runs
  RunsOn-device none =
      let (shown, are, p, map) = RunsOn-cut mode honest settings st left orders new Device (inr refl) held in
      (shown, are, Prints-then old new new [] none mode.stream _ _ (Err Device) p, tt)

  -- or while the line of a fault before them is written
  RunsTold-device : (told : Bytes) → IsBegun old new (fault_line told) → RunsTold told mode honest settings st left orders old new (Err Device) held
  unfolding RunsAfter
  RunsTold-device told (front, begins, a) =
      let (shown, are, p, map) = RunsOn-cut mode honest settings st left orders new Device (inr refl) held in (
        shown,
        are,
        inr (inr (
          refl,
          (
            front,
            [],
            front-longer (fault_line told) (flat (answered mode.stream settings st shown (contents st.tree) orders)) front begins,
            (device_line mode.stream, refl),
            subst (Appends old new) (sym (append-nil front)) a,
          ),
        )),
        tt,
      )

-- ---- the answer to an order

-- the written bytes are flushed to the device, or a device fails
abbrev pub IsFlushed : Option Bytes → Option Bytes → Result (Unit {0}) SessionError → Result (Unit {0}) SessionError → Type 0
IsFlushed mid new done end = Keeps mid new × ((end ≡ done) ⊎ (end ≡ Err Device))

module _ (mode : Mode) (honest : Bool) (settings : Settings) (st : Store) (left : Bytes) (orders : List Order) (old : Option Bytes) (now : Store) (bytes : Bytes) where
  module _ (on : mode.stream ≡ true) (mid new : Option Bytes) where
    -- no further output
    kept_nothing : Keeps mid new → Appends mid new []
    kept_nothing kept = Appends-kept mid mid new [] (Appends-nil mid) kept

    RunsOn-from : Appends mid new [] → (rest : List Order) (last : Option Bytes) (end : Result (Unit {0}) SessionError) (held : Pairs Bytes)
        → RunsOn mode honest settings now bytes rest new last end held → RunsOn mode honest settings now bytes rest mid last end held
    unfolding Runs
    RunsOn-from none rest last end held (shown, are, p, map) = (shown, are, Prints-then mid new last [] none mode.stream _ _ end p, map)

    -- the orders are done
    pub RunsAsk-done : (end : Result (Unit {0}) SessionError) (done : Unit {0}) → RunsFirst mode honest settings st left orders old mid (Ok done) now bytes → IsFlushed mid new (Ok done) end
        → RunsAsk mode honest settings st left orders old new end now bytes
    RunsAsk-done (Ok all) done p (kept, ended) = λ rest last e held q. p rest last e held (RunsOn-from (kept_nothing kept) rest last e held q)
    RunsAsk-done (Err early) done p (kept, inl e) = absurd (cc)
    RunsAsk-done (Err early) done p (kept, inr e) =
        let is : early ≡ Device = cc in (
          λ on. is,
          λ rest held. subst (λ (x : SessionError). RunsOn mode honest settings st left (orders ++ rest) old new (Err x) held) (sym is)
              (p rest new (Err Device) held (RunsOn-device mode honest settings now bytes rest mid new held (kept_nothing kept))),
        )

    -- one is refused, and the line of its fault is printed
    module _ (fault : Fault) (p : RunsFirst mode honest settings st left orders old mid (Err (errors.Fault fault)) now bytes) (told : Bytes) where
      goes_on : (rest : List Order) (last : Option Bytes) (end : Result (Unit {0}) SessionError) (held : Pairs Bytes) → RunsTold told mode honest settings now bytes rest mid last end held
          → RunsOn mode honest settings st left (orders ++ rest) old last end held
      goes_on =
          let refused : RunsRefused true mode honest settings st left orders old mid (errors.Fault fault) now bytes =
          subst (λ (b : Bool). RunsRefused b mode honest settings st left orders old mid (errors.Fault fault) now bytes) on p in
          refused told

      -- all of the line
      told_goes : Appends mid new (fault_line told) → GoesOn mode honest settings st left orders old new now bytes
      unfolding Runs RunsAfter
      told_goes a rest last end held (shown, are, q, map) =
          let line : Appends mid new (flat (fault_line told ∷ [])) = subst (Appends mid new) (sym (append-nil (fault_line told))) a in
          goes_on rest last end held (shown, are, Prints-then mid new last (fault_line told ∷ []) line mode.stream _ _ end q, map)

      -- or not all of it
      told_stops : IsBegun mid new (fault_line told) → Stops mode honest settings st left orders old new Device
      told_stops begun rest held = goes_on rest new (Err Device) held (RunsTold-device mode honest settings now bytes rest mid new held told begun)

      -- the line was written so
      told_ended : (end : Result (Unit {0}) SessionError) → ((end ≡ Ok tt) × Appends mid new (fault_line told)) ⊎ ((end ≡ Err Device) × IsBegun mid new (fault_line told))
          → RunsAsk mode honest settings st left orders old new end now bytes
      told_ended (Ok done) (inl (e, a)) = told_goes a
      told_ended (Ok done) (inr (e, begun)) = absurd (cc)
      told_ended (Err early) (inl (e, a)) = absurd (cc)
      told_ended (Err early) (inr (e, begun)) =
          let is : early ≡ Device = cc in
          (λ on. is, λ rest held. subst (λ (x : SessionError). RunsOn mode honest settings st left (orders ++ rest) old new (Err x) held) (sym is) (told_stops begun rest held))

-- a line was written, and then the output was flushed to the device
told_written : (old mid new : Option Bytes) (line : Bytes) (done end : Result (Unit {0}) SessionError) → Writes old mid (line ∷ []) done → IsFlushed mid new done end
    → ((end ≡ Ok tt) × Appends old new line) ⊎ ((end ≡ Err Device) × IsBegun old new line)
told_written old mid new line done end (inl (e, a)) (kept, inl same) = inl (same ∙ e, Appends-kept old mid new line (subst (Appends old mid) (append-nil line) a) kept)
told_written old mid new line done end (inl (e, a)) (kept, inr same) =
    inr (same, (line, ([], sym (append-nil line)), Appends-kept old mid new line (subst (Appends old mid) (append-nil line) a) kept))
told_written old mid new line done end (inr (e, (front, begins, a))) (kept, ended) =
    inr (either ended, (front, subst (λ (xs : Bytes). BeginsWith xs front) (append-nil line) begins, Appends-kept old mid new front a kept))
  where
    either : (end ≡ done) ⊎ (end ≡ Err Device) → end ≡ Err Device
    either (inl same) = same ∙ e
    either (inr same) = same

module _ (mode : Mode) (honest : Bool) (settings : Settings) (st : Store) (left : Bytes) (orders : List Order) (old : Option Bytes) (now : Store) (bytes : Bytes) (on : mode.stream ≡ true)
    (mid out new : Option Bytes) (done end : Result (Unit {0}) SessionError) (flushed : IsFlushed out new done end) where
  -- an order of a stream is refused: the line of its fault is written
  pub RunsAsk-told : (fault : Fault) → RunsFirst mode honest settings st left orders old mid (Err (errors.Fault fault)) now bytes → (told : Bytes) → Writes mid out (fault_line told ∷ []) done
      → RunsAsk mode honest settings st left orders old new end now bytes
  RunsAsk-told fault p told written =
      told_ended mode honest settings st left orders old now bytes on mid new fault p told end (told_written mid out new (fault_line told) done end written flushed)

  -- a device fails, and its line may be written
  pub RunsAsk-device : RunsFirst mode honest settings st left orders old mid (Err Device) now bytes → done ≡ Err Device → IsBegun mid out (device_line true)
      → RunsAsk mode honest settings st left orders old new end now bytes
  RunsAsk-device p is (last, ends, a) =
      let stops : (more : Bytes) (printed : Option Bytes) → BeginsWith (device_line true) more → Appends mid printed more → Stops mode honest settings st left orders old printed Device =
      subst (λ (b : Bool). RunsRefused b mode honest settings st left orders old mid Device now bytes) on p in
      ended end (either flushed.1) (stops last new ends (Appends-kept mid out new last a flushed.0))
    where
      either : (end ≡ done) ⊎ (end ≡ Err Device) → end ≡ Err Device
      either (inl same) = same ∙ is
      either (inr same) = same

      ended : (r : Result (Unit {0}) SessionError) → r ≡ Err Device → Stops mode honest settings st left orders old new Device → RunsAsk mode honest settings st left orders old new r now bytes
      ended (Ok all) e all_stop = absurd (cc)
      ended (Err early) e all_stop =
          let so : early ≡ Device = cc in
          (λ on. so, subst (λ (x : SessionError). Stops mode honest settings st left orders old new x) (sym so) all_stop)

  -- an order of a stream has no other end
  pub RunsAsk-never : (early : SessionError) → (early ≡ Device → ⊥) → ((fault : Fault) → early ≡ errors.Fault fault → ⊥)
      → RunsFirst mode honest settings st left orders old mid (Err early) now bytes → ⊥
  RunsAsk-never early other none p = by early other none (subst (λ (b : Bool). RunsRefused b mode honest settings st left orders old mid early now bytes) on p)
    where
      by : (x : SessionError) → (x ≡ Device → ⊥) → ((fault : Fault) → x ≡ errors.Fault fault → ⊥) → RunsRefused true mode honest settings st left orders old mid x now bytes → ⊥
      by (Words error) other none q = q
      by (Bad line why) other none q = q
      by (errors.Fault fault) other none q = none fault refl
      by Device other none q = other refl

-- ---- a line that a clause can give

-- a text is written completely, or the output fails in it
pub Writes-one : (old new : Option Bytes) (text : Bytes) (end : Result (Unit {0}) SessionError) → OnOk end (Appends old new text) → OnErr end (IsBegun old new text) → IsOkUnless end Device
    → Writes old new (text ∷ []) end
Writes-one old new text (Ok done) a begun is = inl (refl, subst (Appends old new) (sym (append-nil text)) a)
Writes-one old new text (Err early) a (front, begins, b) is =
    inr (ap (λ (x : SessionError). Err x) is, (front, subst (λ (xs : Bytes). BeginsWith xs front) (sym (append-nil text)) begins, b))

-- the same for an optional text
pub Writes-some : (old new : Option Bytes) (text : Option Bytes) (end : Result (Unit {0}) SessionError) → OnOk end (IfSome text (Appends old new)) → OnErr end (IfSome text (IsBegun old new))
    → IsOkUnless end Device → IfSome text (λ line. Writes old new (line ∷ []) end)
Writes-some old new None end a begun is = tt
Writes-some old new (Some line) end a begun is = Writes-one old new line end a begun is

-- ---- how the answer to an order ends

-- the output for the end of an order of a stream, after the output of the order itself
pub record IsEnded (old new : Option Bytes) (run end : Result (Unit {0}) SessionError) : Type 0 where
  pub done : run ≡ Ok tt → (end ≡ Ok tt) × (new ≡ old)
  pub fault : (fault : Fault) → run ≡ Err (errors.Fault fault) → (told : Bytes) × Writes old new (fault_line told ∷ []) end
  pub device : run ≡ Err Device → (end ≡ Err Device) × IsBegun old new (device_line true)

module _ (mode : Mode) (honest : Bool) (settings : Settings) (st : Store) (left : Bytes) (orders : List Order) (old : Option Bytes) (now : Store) (bytes : Bytes) (on : mode.stream ≡ true)
    (mid out new : Option Bytes) (done end : Result (Unit {0}) SessionError) (flushed : IsFlushed out new done end) where
  pub RunsAsk-ended : (run : Result (Unit {0}) SessionError) → RunsFirst mode honest settings st left orders old mid run now bytes → IsEnded mid out run done
      → RunsAsk mode honest settings st left orders old new end now bytes
  RunsAsk-ended (Ok all) p ended =
      let (is, same) = ended.done refl in
      let kept : Keeps mid new = subst (λ (o : Option Bytes). Keeps o new) same flushed.0 in
      RunsAsk-done mode honest settings st left orders old now bytes on mid new end all p (kept, either is flushed.1)
    where
      either : done ≡ Ok tt → (end ≡ done) ⊎ (end ≡ Err Device) → (end ≡ Ok all) ⊎ (end ≡ Err Device)
      either is (inl e) = inl (e ∙ is)
      either is (inr e) = inr e
  RunsAsk-ended (Err (errors.Fault fault)) p ended =
      let (told, written) = ended.fault fault refl in
      RunsAsk-told mode honest settings st left orders old now bytes on mid out new done end flushed fault p told written
  RunsAsk-ended (Err Device) p ended =
      let (is, begun) = ended.device refl in
      RunsAsk-device mode honest settings st left orders old now bytes on mid out new done end flushed p is begun
  RunsAsk-ended (Err (Words error)) p ended =
      absurd (RunsAsk-never mode honest settings st left orders old now bytes on mid out new done end flushed (Words error) (λ e. absurd (cc)) (λ fault e. absurd (cc)) p)
  RunsAsk-ended (Err (Bad line why)) p ended =
      absurd (RunsAsk-never mode honest settings st left orders old now bytes on mid out new done end flushed (Bad line why) (λ e. absurd (cc)) (λ fault e. absurd (cc)) p)
