-- A step of a play, by the call that does it.
use Rattle.std.specs.Prelude.{◌≡◌, ◌≢◌, ◌⊎◌, ℕ, ◌+◌, ◌<◌, nat_lt, Bool, true, false, if◌then◌else◌, List, [], ◌∷◌, Option, Some, None, MatchOption, Result, Ok, Err, IfErr}
use Rattle.std.specs.Option.{option_or}
use Rattle.std.proofs.Common.{refl, sym, ap, ◌∙◌, subst, inl, inr, ⊎_elim, arith}
use Rattle.std.proofs.lemmas.Bool.Decides.{nat_tests}
use Rattle.std.specs.declared.alloc.Global.{Global}
use Rattle.keys.specs.Footprint.{Span, One, Range, Access, Gives, span_of, access_of}
use Rattle.keys.specs.Step.{replies_to}
use Rattle.keys.specs.declared.command.Command.{Command}
use Rattle.keys.specs.declared.command.Reply.{Reply}
use Rattle.keys.specs.declared.fault.Fault.{Fault}
use Rattle.keys.specs.declared.fault.Fault.TheVariants.{BadCrew, Device, Failed, Spent, KeyTooLong, ValueTooLong, BatchTooLong}
use Rattle.keys.specs.declared.settings.Settings.{Settings}
use Rattle.mapping.specs.Levels.{contents}
use Rattle.mapping.specs.Tree.{Store, most_levels}
use Rattle.climb_plan.specs.Plan.{plan, planned_tree}
use Rattle.flush_log.specs.Disk.{View, Same}
use Rattle.flush_log.specs.declared.text.CommitKind.{CommitKind}
use Rattle.flush_log.specs.declared.text.CommitKind.TheVariants as texts
use Rattle.recovery.specs.StoreOfDisk.{store_of_disk, and_then}
use Rattle.cleaner.specs.AfterClean.{after_clean}
use Rattle.cleaner.specs.Cleaned.{IsCleanFault}
use Rattle.engine.specs.Batch.{IsLaterFault, height_fault, refusal_by}
use Rattle.engine.specs.Calls.{after_writing, IsLateInWriting}
use Rattle.engine.specs.OneStep.{step_by, answer_by}
use Rattle.engine.specs.Plays.{IsLateInStep, IsStepFault, IsLeftInStep}
use Rattle.engine.specs.Refusal.{refusal, first_fault, deed_fault, fault_at, key_fault, value_fault, bound_fault}
use Rattle.engine.specs.Steps.{Step, Stepped, NumbersFit, unless_refused, after_step, batching}
use Rattle.engine.specs.Steps.Step.{Batch, Clean}
use Rattle.engine.specs.Steps.Answer.{Replies, Cleaned}
use Rattle.engine.proofs.TextSteps.{IsWritingFault, after_text_step}

pub fine_where : {T : Type 0} (b : Bool) (r : Result T Fault) (x : T) → r ≡ Ok x → (b ≡ true → r ≡ Err Failed) → b ≡ false
fine_where false r x ok failed = refl
fine_where true r x ok failed = (let bad = failed refl in absurd (cc))

pub able_where : {T : Type 0} (b : Bool) (r : Result T Fault) (x : T) → r ≡ Ok x → (b ≡ false → r ≡ Err BadCrew) → b ≡ true
able_where true r x ok refused = refl
able_where false r x ok refused = (let bad = refused refl in absurd (cc))

pub empty_or_not : {X : Type 0} (xs : List X) → (xs ≡ []) ⊎ (xs ≢ [])
empty_or_not [] = inl refl
empty_or_not (x ∷ xs) = inr (λ e. cc)

-- ---- no batch fails by a device

no_if : (b : Bool) (f : Fault) → f ≢ Device → (if b then Some f else None) ≢ Some Device
no_if true f other e = other (ap_some e) where
  ap_some : Some f ≡ Some Device → f ≡ Device
  ap_some h = cc
no_if false f other e = absurd (cc)

no_or : (a b : Option Fault) → a ≢ Some Device → b ≢ Some Device → option_or a b ≢ Some Device
no_or None b first second e = second e
no_or (Some f) b first second e = first e

module _ (s : Settings) where
  no_key : (place : ℕ) (k : List ℕ) → key_fault s place k ≢ Some Device
  no_key place k = no_if _ (KeyTooLong place) (λ e. cc)

  no_value : (place : ℕ) (v : List ℕ) → value_fault s place v ≢ Some Device
  no_value place v = no_if _ (ValueTooLong place) (λ e. cc)

  no_bound : (place : ℕ) (hi : Option (List ℕ)) → bound_fault s place hi ≢ Some Device
  no_bound place None e = absurd (cc)
  no_bound place (Some hi) e = no_key place hi e

  no_deed : (place : ℕ) (span : Span) (deed : Access) → deed_fault s place span deed ≢ Some Device
  no_deed place (One k) (Gives v) = no_or (key_fault s place k) (value_fault s place v) (no_key place k) (no_value place v)
  no_deed place (One k) _ = no_key place k
  no_deed place (Range lo hi) deed = no_or (key_fault s place lo) (bound_fault s place hi) (no_key place lo) (no_bound place hi)

  no_command : (place : ℕ) (c : Command Global) → fault_at s place c ≢ Some Device
  no_command place c = no_deed place (span_of c) (access_of c)

  no_first : (place : ℕ) (cs : List (Command Global)) → first_fault s place cs ≢ Some Device
  no_first place [] e = absurd (cc)
  no_first place (c ∷ cs) e = no_or (fault_at s place c) (first_fault s (place + 1) cs) (no_command place c) (no_first (place + 1) cs) e

  no_refusal_by : (b : Bool) (cs : List (Command Global)) → (if b then Some BatchTooLong else first_fault s 0 cs) ≢ Some Device
  no_refusal_by true cs e = absurd (cc)
  no_refusal_by false cs e = no_first 0 cs e

module _ {T : Type 0} (s : Settings) (st : Store) (cs : List (Command Global)) (result : Result T Fault) (fault : Fault) (is : result ≡ Err fault) where
  abbrev Later : Option Fault → Type 0
  Later o = MatchOption o (IfErr result (IsLaterFault s st.tree cs)) (λ f. result ≡ Err f)

  never_by : (o : Option Fault) → o ≢ Some Device → Later o → fault ≢ Device
  never_by None other p e = later_no (subst (λ (r : Result T Fault). IfErr r (IsLaterFault s st.tree cs)) is p) where
    later_no : IsLaterFault s st.tree cs fault → ⊥
    later_no (inl memory) = cc
    later_no (inr spent) = let why = spent.0 in cc
  never_by (Some f) other p e = let same : fault ≡ f = cc in other (ap (λ (x : Fault). Some x) (sym same ∙ e))

  pub batch_never : (b able : Bool) → (b ≡ true → result ≡ Err Failed) → (b ≡ false → able ≡ false → result ≡ Err BadCrew) → (b ≡ false → able ≡ true → Later (refusal s cs)) → fault ≢ Device
  batch_never true able failed refused later e = (let bad = failed refl in absurd (cc))
  batch_never false false failed refused later e = (let bad = refused refl refl in absurd (cc))
  batch_never false true failed refused later e = never_by (refusal s cs) (no_refusal_by s _ cs) (later refl refl) e

  high : (h : ℕ) → most_levels < h → height_fault h ≡ Some Spent
  high h more =
      let yes : nat_lt most_levels h ≡ true = grind (arith, nat_tests) in
      rw yes refl

  module _ (file : List ℕ) (old new : ℕ) where
    right : (f : Fault) → refusal_by s st.tree cs ≡ Some f → after_step (batching s) s st file (Batch cs) ≡ Err f
    right f e = ap (λ (o : Option Fault). unless_refused o (Replies (replies_to (contents st.tree) cs)) (plan s st cs) file) e

    refused_by : (o : Option Fault) → refusal s cs ≡ o → Later o → IsStepFault s st file old new (Batch cs) fault
    refused_by None own p = later_is (subst (λ (r : Result T Fault). IfErr r (IsLaterFault s st.tree cs)) is p) where
      later_is : IsLaterFault s st.tree cs fault → IsStepFault s st file old new (Batch cs) fault
      later_is (inl memory) = inr (memory, own)
      later_is (inr (spent, more)) =
          inl (right fault (ap (λ (o : Option Fault). option_or o (height_fault (planned_tree s st.tree cs).height)) own ∙ high (planned_tree s st.tree cs).height more ∙ ap (λ (f : Fault). Some f) (sym spent)))
    refused_by (Some f) own p =
        let same : f ≡ fault = cc in
        inl (right fault (ap (λ (o : Option Fault). option_or o (height_fault (planned_tree s st.tree cs).height)) own ∙ ap (λ (x : Fault). Some x) same))

    pub batch_refused : (y : Step Global) → y ≡ Batch cs → Later (refusal s cs) → IsStepFault s st file old new y fault
    batch_refused y same later = subst (λ (z : Step Global). IsStepFault s st file old new z fault) (sym same) (refused_by (refusal s cs) refl later)

pub refusal_never : (s : Settings) (cs : List (Command Global)) → refusal s cs ≢ Some Device
refusal_never s cs = no_refusal_by s _ cs

pub batch_without_device : {T : Type 0} (s : Settings) (st : Store) (cs : List (Command Global)) (r : Result T Fault) (b able : Bool) → (b ≡ true → r ≡ Err Failed) → (b ≡ false → able ≡ false → r ≡ Err BadCrew)
    → (b ≡ false → able ≡ true → MatchOption (refusal s cs) (IfErr r (IsLaterFault s st.tree cs)) (λ f. r ≡ Err f)) → IfErr r (λ fault. fault ≢ Device)
batch_without_device s st cs (Ok x) b able failed refused later = tt
batch_without_device s st cs (Err fault) b able failed refused later = batch_never s st cs (Err fault) fault refl b able failed refused later

-- the fault of a batch that is not admitted
pub admitted_without_device : {U : Type 0} (o : Option Fault) (r : Result U Fault) (u : U) (fault : Fault) → o ≢ Some Device → MatchOption o (r ≡ Ok u) (λ f. r ≡ Err f) → r ≡ Err fault → fault ≢ Device
admitted_without_device None r u fault other given was = λ device. absurd (cc)
admitted_without_device (Some f) r u fault other given was = λ device. (let same : f ≡ fault = cc in other (ap (λ (x : Fault). (let o : Option Fault = Some x in o)) (same ∙ device)))

-- ---- what is done

pub words_of : (s : Settings) (st : Store) (x y : Step Global) → y ≡ x → NumbersFit (batching s) s st x → NumbersFit (batching s) s st y
words_of s st x y same words = subst (λ (z : Step Global). NumbersFit (batching s) s st z) (sym same) words

module _ (s : Settings) (st now : Store) (file : List ℕ) (y : Step Global) where
  pub batch_done : (cs : List (Command Global)) (replies : List (Reply Global)) → y ≡ Batch cs → refusal_by s st.tree cs ≡ None → now ≡ plan s st cs → replies ≡ replies_to (contents st.tree) cs
      → after_step (batching s) s st file y ≡ Ok (Replies replies, (now, file))
  batch_done cs replies same none is are =
      ap (after_step (batching s) s st file) same
      ∙ ap (λ (o : Option Fault). unless_refused o (Replies (replies_to (contents st.tree) cs)) (plan s st cs) file) none
      ∙ ap (λ (x : Store). (let q : Stepped Global = Ok (Replies (replies_to (contents st.tree) cs), (x, file)) in q)) (sym is)
      ∙ ap (λ (rs : List (Reply Global)). (let q : Stepped Global = Ok (Replies rs, (now, file)) in q)) (sym are)

  pub writing_done : (text : CommitKind) (bytes : List ℕ) (n : ℕ) → y ≡ step_by text → n ≡ now.sequence → after_writing text s st file ≡ Ok (now, bytes)
      → after_step (batching s) s st file y ≡ Ok (answer_by text n, (now, bytes))
  writing_done text bytes n same is done =
      ap (after_step (batching s) s st file) same
      ∙ after_text_step (batching s) s st file text
      ∙ ap (λ (r : Result (Store × List ℕ) Fault). (let q : Stepped Global = and_then r (λ p. Ok (answer_by text p.0.sequence, p)) in q)) done
      ∙ ap (λ (k : ℕ). (let q : Stepped Global = Ok (answer_by text k, (now, bytes)) in q)) (sym is)

  pub clean_done : (bytes : List ℕ) (n : ℕ) → y ≡ Clean → n ≡ now.head → after_clean s st file ≡ Ok (now, bytes) → after_step (batching s) s st file y ≡ Ok (Cleaned n, (now, bytes))
  clean_done bytes n same is done =
      ap (after_step (batching s) s st file) same
      ∙ ap (λ (r : Result (Store × List ℕ) Fault). (let q : Stepped Global = and_then r (λ p. Ok (Cleaned p.0.head, p)) in q)) done
      ∙ ap (λ (k : ℕ). (let q : Stepped Global = Ok (Cleaned k, (now, bytes)) in q)) (sym is)

late_in : (text : CommitKind) (s : Settings) (st : Store) (file : List ℕ) (old new : ℕ) (fault : Fault) → IsLateInWriting text s st file old new fault → IsLateInStep s st file old new (step_by text) fault
late_in (texts.Flush version) s st file old new fault late = late
late_in texts.Upgrade s st file old new fault late = late

module _ (s : Settings) (st : Store) (file : List ℕ) (y : Step Global) (text : CommitKind) (same : y ≡ step_by text) where
  pub writing_refused : (old new : ℕ) (fault : Fault) → IsWritingFault text s st file old new fault → IsStepFault s st file old new y fault
  writing_refused old new fault why = subst (λ (z : Step Global). IsStepFault s st file old new z fault) (sym same) (by why) where
    by : IsWritingFault text s st file old new fault → IsStepFault s st file old new (step_by text) fault
    by (inl right) =
        inl (after_text_step (batching s) s st file text
        ∙ ap (λ (r : Result (Store × List ℕ) Fault). (let q : Stepped Global = and_then r (λ p. Ok (answer_by text p.0.sequence, p)) in q)) right)
    by (inr late) = inr (late_in text s st file old new fault late)

  pub writing_left : (c : List ℕ) → (store_of_disk c ≡ store_of_disk file) ⊎ ((now : Store) × (after_writing text s st file ≡ Ok (now, c))) → IsLeftInStep s st file y c
  writing_left c (inl before) = inl before
  writing_left c (inr (now, done)) = inr (answer_by text now.sequence, now, writing_done s st now file y text c now.sequence same refl done)

module _ (s : Settings) (st : Store) (file : List ℕ) (y : Step Global) (same : y ≡ Clean) where
  pub clean_refused : (old new : ℕ) (fault : Fault) → IsCleanFault s st file old new fault → IsStepFault s st file old new y fault
  clean_refused old new fault why = subst (λ (z : Step Global). IsStepFault s st file old new z fault) (sym same) (by why) where
    by : IsCleanFault s st file old new fault → IsStepFault s st file old new Clean fault
    by (inl right) = inl (ap (λ (r : Result (Store × List ℕ) Fault). (let q : Stepped Global = and_then r (λ p. Ok (Cleaned p.0.head, p)) in q)) right)
    by (inr late) = inr late

  pub clean_left : (c : List ℕ) → (store_of_disk c ≡ store_of_disk file) ⊎ ((now : Store) × (after_clean s st file ≡ Ok (now, c))) → IsLeftInStep s st file y c
  clean_left c (inl before) = inl before
  clean_left c (inr (now, done)) = inr (Cleaned now.head, now, clean_done s st now file y c now.head same refl done)

-- a clean that was refused without a call that failed has written nothing
pub clean_same : (b : Bool) (old new : View) (fault : Fault) (W : Type 0) → (b ≡ true → Same old new) → (b ≡ false → Same old new ⊎ ((fault ≡ Device) × W)) → fault ≢ Device → Same old new
clean_same true old new fault W failed written other = failed refl
clean_same false old new fault W failed written other = ⊎_elim (λ same. same) (λ device. absurd (other device.0)) (written refl)
