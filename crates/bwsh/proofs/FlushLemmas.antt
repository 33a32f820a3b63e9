-- A flush with the cleans before it: its output and its result, from the contract of `flush_cleaning`.
use Rattle.std.proofs.Common.{append-nil, ◌≡◌, ◌≢◌, ◌⊎◌, ◌<◌, ◌-◌, ◌+◌, inl, inr, ℕ, zero, suc, Bool, true, false, List, [], ◌∷◌, ◌++◌, Option, Some, None, Result, Ok, Err, refl, sym, ap, ◌∙◌, ⊎_elim, subst, arith}
use Rattle.std.specs.Prelude.{IfErr, IfOk, IsTrue}
use Rattle.std.specs.Io.KnownBytes.{Appends}
use Rattle.std.proofs.KnownBytes.{Appends-trans}
use Rattle.std.specs.declared.alloc.Global.{Global}
use Rattle.keys.specs.Lists.{flat}
use Rattle.keys.specs.declared.fault.Fault.{Fault}
use Rattle.keys.specs.declared.fault.Fault.TheVariants.{Full, NoMemory, NothingToClean}
use Rattle.keys.specs.declared.fault.Fault.TheVariants as faults
use Rattle.keys.specs.declared.settings.Settings.{Settings}
use Rattle.mapping.specs.Levels.{contents}
use Rattle.mapping.specs.Tree.{Store}
use Rattle.flush_log.specs.AfterFlush.{after_flush}
use Rattle.flush_log.specs.Disk.{View}
use Rattle.engine.specs.Cleaning.{CleanRow, AreCleansBy, AreRows, IsCalm, IsFlushedCleaning, IsOfMachine, IsStart, IsStop, IsStoppedCleaning, IsWantOfRoom, NoneFollow, count_of, reads_in}
use Rattle.engine.specs.Plays.{IsStepFault, answer_of}
use Rattle.engine.specs.State.{State}
use Rattle.engine.specs.Steps.{Answer, Step, Stepped, after_step, batching}
use Rattle.engine.proofs.RowsLemmas.{none_follow_end, rows_cleans, rows_cut, rows_end}
use Rattle.bwsh.specs.declared.order.Order.TheVariants.{Flush}
use Rattle.bwsh.specs.declared.options.asked.Mode.{Mode}
use Rattle.bwsh.specs.declared.session.SessionError.{SessionError}
use Rattle.bwsh.specs.declared.session.SessionError.TheVariants.{Device}
use Rattle.bwsh.specs.declared.session.SessionError.TheVariants as errors
use Rattle.bwsh.specs.Output.{BeginsWith, IsBegun, Writes}
use Rattle.bwsh.specs.Session.{AreCleansOf, AreRight, IsAsked, IsByBatches, IsLeft, IsOnDisk, MayFail, PrintsOwn, RunsAlone, RunsOrder, Seen, Stored, Tidying, after_order, TidiesTo, cleaned, cleaned_by, finds_no_memory, head_lines, left_by, left_by_step, makes_no_room, map_unless, readied, refusal_of, refusal_of_step, refused_by}
use Rattle.bwsh.specs.Shown.{shown_cleaned, shown_flushed}
use Rattle.bwsh.proofs.Prints.{flat-append, front-longer, front-more, front-whole}
use Rattle.bwsh.proofs.RowLemmas.{rows_head}
use Rattle.bwsh.proofs.RunLemmas.{answering, flush_head, of_flush, refusal_of-failing}
use Rattle.bwsh.proofs.StoreLemmas.{IsEndingOf}
use Rattle.bwsh.proofs.TidiedLemmas.{IsTidiedBy, TidiesTo-batches, TidiesTo-compacted, held_by}

true_false : true ≡ false → ⊥
true_false e = cc

none_some : (fault : Fault) → (let o : Option Fault = None in o ≡ Some fault) → ⊥
none_some fault e = cc

some_is : {x y : Fault} → Some x ≡ Some y → x ≡ y
some_is e = cc

-- ---- the output

-- lines before others, all of which were written
pub writes_then : (on : Bool) (old mid new : Option (List ℕ)) (front lines : List (List ℕ)) (end : Result (Unit {0}) SessionError) → Appends old mid (flat front) → Writes mid new lines end
    → PrintsOwn on old new (front ++ lines) (Ok tt) end
writes_then on old mid new front lines end p (inl (e, a)) =
    inl (e, subst (Appends old new) (sym (flat-append front lines)) (Appends-trans old mid new (flat front) (flat lines) p a))
writes_then on old mid new front lines end p (inr (e, (begun, begins, a))) =
    inr (inr (
      e,
      (
        flat front ++ begun,
        subst (λ (bytes : List ℕ). BeginsWith bytes (flat front ++ begun)) (sym (flat-append front lines)) (front-more (flat front) (flat lines) begun begins),
        Appends-trans old mid new (flat front) begun p a,
      ),
    ))

-- all of them were written, or the output failed while they were
pub writes_all : (old new : Option (List ℕ)) (lines : List (List ℕ)) (done : Unit {0}) → Writes old new lines (Ok done) → Appends old new (flat lines)
writes_all old new lines done (inl (e, a)) = a
writes_all old new lines done (inr (e, b)) = absurd (cc)

pub writes_device : (old new : Option (List ℕ)) (lines : List (List ℕ)) (early : SessionError) → Writes old new lines (Err early) → early ≡ Device
writes_device old new lines early (inl (e, a)) = absurd (cc)
writes_device old new lines early (inr (e, b)) = (cc)

pub writes_ended : (old new : Option (List ℕ)) (lines : List (List ℕ)) (early : SessionError) → Writes old new lines (Err early) → (let end : Result (Unit {0}) SessionError = Err early in end ≡ Err Device)
writes_ended old new lines early (inl (e, a)) = absurd (cc)
writes_ended old new lines early (inr (e, b)) = e

pub writes_begun : (old new : Option (List ℕ)) (lines : List (List ℕ)) (early : SessionError) → Writes old new lines (Err early) → IsBegun old new (flat lines)
writes_begun old new lines early (inl (e, a)) = absurd (cc)
writes_begun old new lines early (inr (e, b)) = b

-- the output failed while they were written
pub writes_cut : (on : Bool) (old new : Option (List ℕ)) (front lines : List (List ℕ)) (right end : Result (Unit {0}) SessionError) → end ≡ Err Device → IsBegun old new (flat front)
    → PrintsOwn on old new (front ++ lines) right end
writes_cut on old new front lines right end e (begun, begins, a) =
    inr (inr (e, (begun, subst (λ (bytes : List ℕ). BeginsWith bytes begun) (sym (flat-append front lines)) (front-longer (flat front) (flat lines) begun begins), a)))

-- the lines of some cleans, and of later ones
head_lines-then : (n m head : ℕ) → head_lines head (n + m) ≡ head_lines head n ++ head_lines (head + n) m
head_lines-then zero m head =
    let all : 0 + m ≡ m = omega arith in
    let here : head ≡ head + 0 = omega arith in
    ap (λ (k : ℕ). head_lines head k) all ∙ ap (λ (h : ℕ). head_lines h m) here
head_lines-then (suc n) m head =
    let all : suc n + m ≡ suc (n + m) = omega arith in
    let next : suc head + n ≡ head + suc n = omega arith in
    ap (λ (k : ℕ). head_lines head k) all
    ∙ ap (λ (l : List (List ℕ)). shown_cleaned (suc head) ∷ l) (head_lines-then n m (suc head) ∙ ap (λ (h : ℕ). head_lines (suc head) n ++ head_lines h m) next)

-- the line of one more clean was written
pub one_printed : (old mid new : Option (List ℕ)) (head n segment : ℕ) (end : Result (Unit {0}) SessionError) → segment ≡ head + n → Appends old mid (flat (head_lines head n)) → end ≡ Ok tt
    → Writes mid new (shown_cleaned (segment + 1) ∷ []) end → Appends old new (flat (head_lines head (n + 1)))
one_printed old mid new head n segment end is p ok (inl (e, a)) =
    let line : shown_cleaned (segment + 1) ∷ [] ≡ head_lines (head + n) 1 = ap (λ (k : ℕ). shown_cleaned k ∷ []) (omega (arith, is)) in
    subst (λ (l : List (List ℕ)). Appends old new (flat l)) (sym (head_lines-then n 1 head))
    (subst (Appends old new) (sym (flat-append (head_lines head n) (head_lines (head + n) 1)))
    (Appends-trans old mid new (flat (head_lines head n)) (flat (head_lines (head + n) 1)) p (subst (λ (l : List (List ℕ)). Appends mid new (flat l)) line a)))
one_printed old mid new head n segment end is p ok (inr (e, b)) = absurd (cc)

-- the output failed while that line was written
pub one_cut : (old mid new : Option (List ℕ)) (head n segment all : ℕ) (early : SessionError) → segment ≡ head + n → n < all → Appends old mid (flat (head_lines head n))
    → Writes mid new (shown_cleaned (segment + 1) ∷ []) (Err early) → Writes old new (head_lines head all) (Err early)
one_cut old mid new head n segment all early is less p (inl (e, a)) = absurd (cc)
one_cut old mid new head n segment all early is less p (inr (e, (begun, begins, a))) =
    let k = all - n - 1 in
    let line : shown_cleaned (segment + 1) ∷ [] ≡ head_lines (head + n) 1 = ap (λ (j : ℕ). shown_cleaned j ∷ []) (omega (arith, is)) in
    let split : head_lines head all ≡ head_lines head n ++ (head_lines (head + n) 1 ++ head_lines (head + n + 1) k) =
    ap (λ (j : ℕ). head_lines head j) (omega (arith, less)) ∙ head_lines-then n (1 + k) head ∙ ap (λ (l : List (List ℕ)). head_lines head n ++ l) (head_lines-then 1 k (head + n)) in
    inr (
      e,
      subst (λ (l : List (List ℕ)). IsBegun old new (flat l)) (sym split) (
        flat (head_lines head n) ++ begun,
        subst (λ (bytes : List ℕ). BeginsWith bytes (flat (head_lines head n) ++ begun)) (sym (flat-append (head_lines head n) (head_lines (head + n) 1 ++ head_lines (head + n + 1) k)))
            (front-more (flat (head_lines head n)) (flat (head_lines (head + n) 1 ++ head_lines (head + n + 1) k)) begun
            (subst (λ (bytes : List ℕ). BeginsWith bytes begun) (sym (flat-append (head_lines (head + n) 1) (head_lines (head + n + 1) k)))
            (front-longer (flat (head_lines (head + n) 1)) (flat (head_lines (head + n + 1) k)) begun (subst (λ (l : List (List ℕ)). BeginsWith (flat l) begun) line begins)))),
        Appends-trans old mid new (flat (head_lines head n)) begun p a,
      ),
    )

-- ---- the store after cleans

pub cleaned_is : (honest : Bool) (settings : Settings) (reads : List (List ℕ)) (st : Store) (left : List ℕ) (now : Store) (last : List ℕ) → AreCleansBy honest settings st left reads now last
    → ((cleaned_by settings reads (st, left)).0 ≡ now) × (IsTrue honest → (cleaned_by settings reads (st, left)).1 ≡ last)
cleaned_is honest settings [] st left now last (same, shows) = (sym same, λ h. sym (shows h))
cleaned_is honest settings (file ∷ reads) st left now last (answer, mid, bytes, shown, done, further) =
    let one : left_by_step settings (st, file) (Some Step.Clean) ≡ (mid, bytes) = ap (left_by (st, file)) done in
    let (store, same) = cleaned_is honest settings reads mid bytes now last further in (
      ap (λ (at : Stored). (cleaned_by settings reads at).0) one ∙ store,
      λ h. ap (λ (at : Stored). (cleaned_by settings reads at).1) one ∙ same h,
    )

-- ---- how many segments were cleaned

-- the lines of the segments from the old first one to the new first one
lines_of : (head last first count : ℕ) → head ≡ first → last ≡ first + count → head_lines head (last - head) ≡ head_lines first count
lines_of head last first count head_is last_is =
    let n : last - head ≡ count = omega (arith, head_is, last_is) in
    ap (λ (k : ℕ). head_lines head k) n ∙ ap (λ (h : ℕ). head_lines h count) head_is

-- ---- a flush of a tidied store with these rows of cleans, which lead to this store and these bytes; the flush or a refused clean reads the given
-- bytes

module _ (mode : Mode) (room : mode.clean_when_full ≡ true) (honest : Bool) (settings : Settings) (under : Store) (left : List ℕ) (tidying : Tidying) (unasked : IsAsked mode tidying)
    (start : Store) (are : IsTidiedBy settings tidying under start) (rows : List CleanRow) (cut : Bool) (cleaned_store : Store) (bytes : List ℕ)
    (lead : AreRows honest cut settings start left rows cleaned_store bytes) (last : List ℕ) (shows : IsTrue honest → last ≡ bytes) where
  abbrev seen_at : Option Fault → Seen
  seen_at fails = record { bytes = left; tidying = tidying; rows = rows; last = last; merged = []; fails = fails; told = [] }

  at_end : (fails : Option Fault) → ((cleaned settings (seen_at fails) (under, left)).0 ≡ cleaned_store) × (IsTrue honest → (cleaned settings (seen_at fails) (under, left)).1 ≡ bytes)
  at_end fails =
      let (store, same) = cleaned_is honest settings (reads_in rows) start left cleaned_store bytes (rows_cleans honest settings cut start left rows cleaned_store bytes lead) in (
        ap (λ (at : Stored). (cleaned_by settings (reads_in rows) at).0) (are left) ∙ store,
        λ h. ap (λ (at : Stored). (cleaned_by settings (reads_in rows) at).1) (are left) ∙ same h,
      )

  ready : (fails : Option Fault) → readied Flush settings (seen_at fails) (under, left) ≡ (cleaned_store, last)
  ready fails = ap (λ (st : Store). (let at : Stored = (st, last) in at)) (at_end fails).0

  is_left : (fails : Option Fault) → IsTrue honest → IsLeft settings under left (seen_at fails)
  is_left fails h = (refl, shows h ∙ sym ((at_end fails).1 h))

  -- the cleans are right, if the last row may be incomplete only because an allocation failed
  right : (fails : Option Fault) → (cut ≡ true → finds_no_memory fails ≡ true) → (finds_no_memory fails ≡ false → rows ≡ [] → IsCalm honest settings start left)
      → (fails ≡ None → refusal_of_step settings (cleaned_store, last) (Some Step.Flush) ≡ Some Full → NoneFollow honest settings rows cleaned_store last)
      → AreCleansOf honest mode.clean_when_full settings under Flush (seen_at fails)
  right fails may calm full =
      let lead_on : AreRows honest (finds_no_memory fails) settings start left rows cleaned_store last =
      as_cut cut (finds_no_memory fails) may (rows_end honest settings cut start left rows cleaned_store cleaned_store bytes last refl shows lead) in
      let own : AreRight honest settings start cleaned_store (seen_at fails) = (lead_on, calm, full) in
      subst (λ (b : Bool). AreCleansOf honest b settings under Flush (seen_at fails)) (sym room)
      (subst (λ (st : Store). AreRight honest settings st (cleaned settings (seen_at fails) (under, left)).0 (seen_at fails)) (sym (ap (λ (at : Stored). at.0) (are left)))
      (subst (λ (now : Store). AreRight honest settings start now (seen_at fails)) (sym (at_end fails).0) own))
    where
      as_cut : (a b : Bool) → (a ≡ true → b ≡ true) → AreRows honest a settings start left rows cleaned_store last → AreRows honest b settings start left rows cleaned_store last
      as_cut true true may p = p
      as_cut true false may p = let no = may refl in absurd (cc)
      as_cut false b may p = rows_cut honest settings b start left rows cleaned_store last p

  -- ---- it is done

  module _ (answer : Answer Global) (now : Store) (after : List ℕ) (done : after_step (batching settings) settings cleaned_store last Step.Flush ≡ Ok (answer, (now, after)))
      (calm : rows ≡ [] → IsCalm honest settings start left) (uncut : cut ≡ false) where
    after_done : after_order settings under (seen_at None) Flush ≡ (now, after)
    unfolding after_order
    after_done = ap (λ (at : Stored). left_by_step settings at (Some Step.Flush)) (ready None) ∙ ap (left_by (cleaned_store, last)) done

    unrefused : refusal_of settings under (seen_at None) Flush ≡ None
    unfolding refusal_of
    unrefused = ap (λ (at : Stored). refusal_of_step settings at (Some Step.Flush)) (ready None) ∙ ap refused_by done

    flushed_alone : (old new : Option (List ℕ)) (end : Result (Unit {0}) SessionError)
        → PrintsOwn mode.stream old new (head_lines under.head (count_of rows) ++ shown_flushed now.sequence ∷ []) (Ok tt) end → RunsAlone mode.stream settings under (seen_at None) Flush old new end
    unfolding RunsAlone
    flushed_alone old new end p =
        rw unrefused (subst (λ (l : List (List ℕ)). PrintsOwn mode.stream old new l (Ok tt) end) (sym (append-nil (head_lines under.head (count_of rows) ++ shown_flushed (after_order settings under (seen_at None) Flush).0.sequence ∷ [])))
        (subst (λ (n : ℕ). PrintsOwn mode.stream old new (head_lines under.head (count_of rows) ++ shown_flushed n ∷ []) (Ok tt) end) (sym (ap (λ (at : Stored). at.0.sequence) after_done)) p))

    pub flushed_runs : (old new : Option (List ℕ)) (end : Result (Unit {0}) SessionError) (shown : List ℕ) → (IsTrue honest → after ≡ shown) → contents now.tree ≡ contents start.tree
        → PrintsOwn mode.stream old new (head_lines under.head (count_of rows) ++ shown_flushed now.sequence ∷ []) (Ok tt) end
        → RunsOrder mode honest settings under left Flush old new end now shown
    flushed_runs old new end shown same holds prints = (
      seen_at None,
      (unasked, tt, right None (λ e. absurd (true_false (sym e ∙ uncut))) (λ other. calm) (λ e full. absurd (none_some Full (sym (ap refused_by done) ∙ full))), is_left None),
      flushed_alone old new end prints,
      λ other. record {
        store = sym (ap (λ (at : Stored). at.0) after_done);
        bytes = λ h. sym (same h) ∙ sym (ap (λ (at : Stored). at.1) after_done);
        holds = holds ∙ held_by settings tidying under start are ∙ ap (λ (r : Option Fault). map_unless r (contents under.tree) Flush) (sym unrefused);
      },
    )

  -- ---- it fails: an allocation failed, or a clean is refused

  after_failed : (fault : Fault) → after_order settings under (seen_at (Some fault)) Flush ≡ (cleaned_store, last)
  unfolding after_order
  after_failed fault = ready (Some fault)

  -- only the lines of the cleans are printed
  refused_alone : (fails : Option Fault) (fault : Fault) → refusal_of settings under (seen_at fails) Flush ≡ Some fault → (old new : Option (List ℕ)) (end : Result (Unit {0}) SessionError)
      → PrintsOwn mode.stream old new (head_lines under.head (count_of rows)) (Err (errors.Fault fault)) end → RunsAlone mode.stream settings under (seen_at fails) Flush old new end
  unfolding RunsAlone
  refused_alone fails fault some old new end p = rw some p

  pub failed_runs : (fault : Fault) → MayFail mode.clean_when_full settings (cleaned_store, last) Flush fault → (cut ≡ true → fault ≡ NoMemory)
      → (finds_no_memory (Some fault) ≡ false → rows ≡ [] → IsCalm honest settings start left) → (old new : Option (List ℕ)) (end : Result (Unit {0}) SessionError) (now : Store) (shown : List ℕ)
      → (end ≢ Err Device → (now ≡ cleaned_store) × (IsTrue honest → shown ≡ last)) → contents cleaned_store.tree ≡ contents start.tree
      → PrintsOwn mode.stream old new (head_lines under.head (count_of rows)) (Err (errors.Fault fault)) end
      → RunsOrder mode honest settings under left Flush old new end now shown
  failed_runs fault may cut_so calm old new end now shown stays holds prints =
      let refused_so = refusal_of-failing settings under (seen_at (Some fault)) Flush fault refl in (
        seen_at (Some fault),
        (
          unasked,
          subst (λ (at : Stored). MayFail mode.clean_when_full settings at Flush fault) (sym (ready (Some fault))) may,
          right (Some fault) (λ e. ap (λ (f : Fault). finds_no_memory (Some f)) (cut_so e)) calm (λ e. absurd (cc)),
          is_left (Some fault),
        ),
        refused_alone (Some fault) fault refused_so old new end prints,
        λ other. record {
          store = (stays other).0 ∙ sym (ap (λ (at : Stored). at.0) (after_failed fault));
          bytes = λ h. (stays other).1 h ∙ sym (ap (λ (at : Stored). at.1) (after_failed fault));
          holds = ap (λ (st : Store). contents st.tree) (stays other).0 ∙ holds ∙ held_by settings tidying under start are ∙ ap (λ (r : Option Fault). map_unless r (contents under.tree) Flush) (sym refused_so);
        },
      )

  -- ---- it is refused by definition

  refused_own : (fault : Fault) → after_step {A = Global} (batching settings) settings cleaned_store last Step.Flush ≡ Err fault → refusal_of settings under (seen_at None) Flush ≡ Some fault
  unfolding refusal_of
  refused_own fault refused = ap (λ (at : Stored). refusal_of_step settings at (Some Step.Flush)) (ready None) ∙ ap refused_by refused

  after_refused : (fault : Fault) → after_step {A = Global} (batching settings) settings cleaned_store last Step.Flush ≡ Err fault → after_order settings under (seen_at None) Flush ≡ (cleaned_store, last)
  unfolding after_order
  after_refused fault refused = ap (λ (at : Stored). left_by_step settings at (Some Step.Flush)) (ready None) ∙ ap (left_by (cleaned_store, last)) refused

  pub refused_runs : (fault : Fault) → after_step {A = Global} (batching settings) settings cleaned_store last Step.Flush ≡ Err fault → (rows ≡ [] → IsCalm honest settings start left) → cut ≡ false
      → (fault ≡ Full → NoneFollow honest settings rows cleaned_store last)
      → (old new : Option (List ℕ)) (end : Result (Unit {0}) SessionError) (now : Store) (shown : List ℕ)
      → (end ≢ Err Device → (now ≡ cleaned_store) × (IsTrue honest → shown ≡ last)) → contents cleaned_store.tree ≡ contents start.tree
      → PrintsOwn mode.stream old new (head_lines under.head (count_of rows)) (Err (errors.Fault fault)) end
      → RunsOrder mode honest settings under left Flush old new end now shown
  refused_runs fault refused calm uncut full old new end now shown stays holds prints =
      let some = refused_own fault refused in (
        seen_at None,
        (unasked, tt, right None (λ e. absurd (true_false (sym e ∙ uncut))) (λ other. calm) (λ e is. full (some_is (sym (ap refused_by refused) ∙ is))), is_left None),
        refused_alone None fault some old new end prints,
        λ other. record {
          store = (stays other).0 ∙ sym (ap (λ (at : Stored). at.0) (after_refused fault refused));
          bytes = λ h. (stays other).1 h ∙ sym (ap (λ (at : Stored). at.1) (after_refused fault refused));
          holds = ap (λ (st : Store). contents st.tree) (stays other).0 ∙ holds ∙ held_by settings tidying under start are ∙ ap (λ (r : Option Fault). map_unless r (contents under.tree) Flush) (sym some);
        },
      )

-- ---- by the contract of `flush_cleaning`

machine_or_own : (fault : Fault) → (fault ≡ faults.Device) ⊎ (fault ≡ NoMemory) ⊎ ((fault ≢ faults.Device) × (fault ≢ NoMemory))
machine_or_own faults.Device = inl refl
machine_or_own NoMemory = inr (inl refl)
machine_or_own _ = inr (inr ((λ e. absurd (cc)), λ e. absurd (cc)))

own_flush : (s : Settings) (st : Store) (file : List ℕ) (old new : ℕ) (fault : Fault) → (fault ≢ faults.Device) × (fault ≢ NoMemory) → IsStepFault s st file old new Step.Flush fault
    → after_step {A = Global} (batching s) s st file Step.Flush ≡ Err fault
own_flush s st file old new fault other (inl right) = right
own_flush s st file old new fault other (inr (inl memory)) = absurd (other.1 memory.0)
own_flush s st file old new fault other (inr (inr device)) = absurd (other.0 device.0)

own_clean : (s : Settings) (st : Store) (file : List ℕ) (old new : ℕ) (fault : Fault) → (fault ≢ faults.Device) × (fault ≢ NoMemory) → IsStepFault s st file old new Step.Clean fault
    → after_step {A = Global} (batching s) s st file Step.Clean ≡ Err fault
own_clean s st file old new fault other (inl right) = right
own_clean s st file old new fault other (inr (last, inl memory)) = absurd (other.1 memory)
own_clean s st file old new fault other (inr (last, inr device)) = absurd (other.0 device.0)

-- a fault is a full log, or comes from a clean of a full log that frees nothing, or ends the flush
room_or : (fault : Fault) → (fault ≡ Full) ⊎ (fault ≡ NothingToClean) ⊎ (makes_no_room (Some fault) ≡ false)
room_or Full = inl refl
room_or NothingToClean = inr (inl refl)
room_or _ = inr (inr refl)

step_full : (s : Settings) (st : Store) (file : List ℕ) → after_flush s st file ≡ Err Full → (let r : Stepped Global = after_step {A = Global} (batching s) s st file Step.Flush in r ≡ Err Full)
step_full s st file full = ap (answering of_flush) full

full_step : (s : Settings) (st : Store) (file : List ℕ) (fault : Fault) → after_flush s st file ≡ Err Full → fault ≡ Full → after_step {A = Global} (batching s) s st file Step.Flush ≡ Err fault
full_step s st file fault full is = step_full s st file full ∙ ap (λ (x : Fault). (let r : Stepped Global = Err x in r)) (sym is)

module _ {D : Type 0} (view : D → View) (failures : D → ℕ) (mode : Mode) (room : mode.clean_when_full ≡ true) (start now : State D) (under : Store) (tidying : Tidying)
    (unasked : IsAsked mode tidying) (are : IsTidiedBy start.settings tidying under start.store) (old new : Option (List ℕ)) (end : Result (Unit {0}) SessionError) where
  abbrev honest : Bool
  honest = (view start.disk).is_honest

  abbrev seen : List ℕ
  seen = (view start.disk).seen

  abbrev Runs : Type 0
  Runs = RunsOrder mode honest start.settings under seen Flush old new end now.store (view now.disk).seen

  pub done_runs : (f : IsFlushedCleaning view failures start now)
      → PrintsOwn mode.stream old new (head_lines under.head (count_of f.rows) ++ shown_flushed now.store.sequence ∷ []) (Ok tt) end → Runs
  done_runs f prints =
      let (after, step, same) = f.flush in
      flushed_runs mode room honest start.settings under seen tidying unasked start.store are f.rows false f.cleaned f.left f.are step.file step.shown
      (answer_of f.answer) now.store after step.done f.calm refl old new end (view now.disk).seen same f.holds prints

  module _ (fault : Fault) (f : IsStoppedCleaning view failures start now fault) where
    -- the flush or the refused clean reads the bytes that were left
    read_left : fault ≢ faults.Device → IsTrue honest → f.why.0 ≡ f.left
    read_left other h = f.why.1 h ∙ sym ((f.turn other).bytes h) ∙ sym (f.shows other h)

    holds : contents now.store.tree ≡ contents start.store.tree
    holds = ap contents f.tree

    -- with this fault, after this number of cleans
    abbrev Prints : Fault → Type 0
    Prints why = PrintsOwn mode.stream old new (head_lines under.head (count_of f.rows)) (Err (errors.Fault why)) end

    -- because an allocation failed; a failing device gives the same, with a different end
    pub by_memory : (end ≢ Err Device → fault ≢ faults.Device) → Prints NoMemory → Runs
    by_memory other prints =
        failed_runs mode room honest start.settings under seen tidying unasked start.store are f.rows f.may_be_cut now.store f.left f.are f.left (λ h. refl)
        NoMemory (inl refl) (λ _. refl) (λ e. absurd (true_false e)) old new end now.store (view now.disk).seen (λ unended. (refl, λ h. sym (f.shows (other unended) h))) holds prints

    uncut_by : (fault ≢ faults.Device) × (fault ≢ NoMemory) → (b : Bool) → (b ≡ true → IsOfMachine fault) → b ≡ false
    uncut_by other true machine = absurd (⊎_elim other.0 other.1 (machine refl))
    uncut_by other false machine = refl

    uncut : (fault ≢ faults.Device) × (fault ≢ NoMemory) → f.may_be_cut ≡ false
    uncut other = uncut_by other f.may_be_cut f.cut

    calm : (fault ≢ faults.Device) × (fault ≢ NoMemory) → f.rows ≡ [] → IsCalm honest start.settings start.store seen
    calm other none = ⊎_elim (λ machine. absurd (⊎_elim other.0 other.1 machine)) (λ calm. calm) (f.calm none)

    by_flush : (fault ≢ faults.Device) × (fault ≢ NoMemory) → (file : List ℕ) → (IsTrue honest → file ≡ f.left) → after_step {A = Global} (batching start.settings) start.settings now.store file Step.Flush ≡ Err fault
        → Prints fault → Runs
    by_flush other file shown refused prints =
        refused_runs mode room honest start.settings under seen tidying unasked start.store are f.rows f.may_be_cut now.store f.left f.are file shown
        fault refused (calm other) (uncut other)
        (λ full. none_follow_end honest start.settings f.rows now.store f.left file shown (f.full full))
        old new end now.store (view now.disk).seen (λ _. (refl, λ h. sym (f.shows other.0 h) ∙ sym (shown h))) holds prints

    by_clean : (fault ≢ faults.Device) × (fault ≢ NoMemory) → makes_no_room (Some fault) ≡ false → (file : List ℕ) → (IsTrue honest → file ≡ f.left)
        → after_flush start.settings now.store file ≡ Err Full → after_step {A = Global} (batching start.settings) start.settings now.store file Step.Clean ≡ Err fault → Prints fault → Runs
    by_clean other frees file shown full refused prints =
        failed_runs mode room honest start.settings under seen tidying unasked start.store are f.rows f.may_be_cut now.store f.left f.are file shown
        fault (inr (room, frees, ap refused_by (step_full start.settings now.store file full), ap refused_by refused)) (λ e. absurd (true_false (sym e ∙ uncut other))) (λ _. calm other) old new end now.store (view now.disk).seen (λ _. (refl, λ h. sym (f.shows other.0 h) ∙ sym (shown h))) holds prints

    pub own_runs : (fault ≢ faults.Device) × (fault ≢ NoMemory) → Prints fault → Runs
    own_runs other prints = by f.why.2
      where
        by_room : (after_flush start.settings now.store f.why.0 ≡ Err Full) ⊎ IsOfMachine fault → (why : Fault) → IsWantOfRoom why fault
            → IsStepFault start.settings now.store f.why.0 (failures start.disk) (failures now.disk) Step.Clean why → (fault ≡ Full) ⊎ (fault ≡ NothingToClean) ⊎ (makes_no_room (Some fault) ≡ false) → Runs
        by_room (inr machine) why want refused how = absurd (⊎_elim other.0 other.1 machine)
        by_room (inl full) why want refused (inl is) =
            by_flush other f.why.0 (read_left other.0) (full_step start.settings now.store f.why.0 fault full is) prints
        by_room (inl full) why (inl nothing) refused (inr how) = by_flush other f.why.0 (read_left other.0) (full_step start.settings now.store f.why.0 fault full nothing.1) prints
        by_room (inl full) why (inr same) refused (inr (inl nothing)) = absurd (same.0 (sym same.1 ∙ nothing))
        by_room (inl full) why (inr same) refused (inr (inr frees)) =
            by_clean other frees f.why.0 (read_left other.0) full
            (own_clean start.settings now.store f.why.0 _ _ fault other (subst (λ (x : Fault). IsStepFault start.settings now.store f.why.0 (failures start.disk) (failures now.disk) Step.Clean x) (sym same.1) refused)) prints

        by : IsStop start.settings now.store f.why.0 (failures start.disk) (failures now.disk) (count_of f.rows) f.step fault → Runs
        by (inl (is, refused)) = by_flush other f.why.0 (read_left other.0) (own_flush start.settings now.store f.why.0 _ _ fault other refused) prints
        by (inr (is, few, full, why, want, refused)) = by_room full why want refused (room_or fault)

    -- it ends with the fault, after the lines of the cleans
    pub stopped_runs : (early : SessionError) → IsEndingOf fault early → end ≡ Err early → Appends old new (flat (head_lines under.head (count_of f.rows))) → Runs
    stopped_runs early (inl device) ended printed =
        let ends : end ≡ Err Device = ended ∙ ap (λ (x : SessionError). Err x) device.1 in
        by_memory (λ other. absurd (other ends)) (inr (inr (ends, (flat (head_lines under.head (count_of f.rows)), front-whole (flat (head_lines under.head (count_of f.rows))), printed))))
    stopped_runs early (inr other) ended printed =
        let ends : end ≡ Err (errors.Fault fault) = ended ∙ ap (λ (x : SessionError). Err x) other.1 in
        by (machine_or_own fault) ends
      where
        by : (fault ≡ faults.Device) ⊎ (fault ≡ NoMemory) ⊎ ((fault ≢ faults.Device) × (fault ≢ NoMemory)) → end ≡ Err (errors.Fault fault) → Runs
        by (inl device) ends = absurd (other.0 device)
        by (inr (inl memory)) ends = by_memory (λ _. other.0) (inl (ends ∙ ap (λ (x : Fault). Err (errors.Fault x)) memory, printed))
        by (inr (inr own)) ends = own_runs own (inl (ends, printed))

-- ---- the result for a store that may have been compacted, and then was cleaned and flushed

module _ {D : Type 0} (store start : State D) where
  start_settings : IsStart store start → start.settings ≡ store.settings
  start_settings (inl same) = ap (λ (s : State D). s.settings) same
  start_settings (inr (due, full, bloated, is, settings, disk, failed)) = settings

  start_disk : IsStart store start → start.disk ≡ store.disk
  start_disk (inl same) = ap (λ (s : State D). s.disk) same
  start_disk (inr (due, full, bloated, is, settings, disk, failed)) = disk

  start_failed : IsStart store start → start.has_failed ≡ store.has_failed
  start_failed (inl same) = ap (λ (s : State D). s.has_failed) same
  start_failed (inr (due, full, bloated, is, settings, disk, failed)) = failed

module _ {D : Type 0} (view : D → View) (failures : D → ℕ) (store now : State D) where
  -- it was done; it was refused with this fault
  abbrev Done : Type 0
  Done = (start : State D) × IsStart store start × IsFlushedCleaning view failures start now

  abbrev Stopped : Fault → Type 0
  Stopped fault = (start : State D) × IsStart store start × IsStoppedCleaning view failures start now fault

  -- the settings, and whether the disk is honest
  pub settings_stay : (r : Result ℕ Fault) → IfOk r (λ _. Done) → IfErr r Stopped → (now.settings ≡ store.settings) × ((view now.disk).is_honest ≡ (view store.disk).is_honest)
  settings_stay (Ok sequence) (start, is, f) none = (f.turn.settings ∙ start_settings store start is, f.turn.kept.honest ∙ ap (λ (d : D). (view d).is_honest) (start_disk store start is))
  settings_stay (Err fault) none (start, is, f) = (f.rest.0 ∙ start_settings store start is, f.rest.1.honest ∙ ap (λ (d : D). (view d).is_honest) (start_disk store start is))

  -- whether it has failed, unless a call of the disk failed
  pub done_failed : Done → now.has_failed ≡ store.has_failed
  done_failed (start, is, f) = f.turn.has_failed ∙ start_failed store start is

  pub stopped_failed : (fault : Fault) → Stopped fault → fault ≢ faults.Device → now.has_failed ≡ store.has_failed
  stopped_failed fault (start, is, f) other = (f.turn other).has_failed ∙ start_failed store start is

-- ---- the same for a store that batches have tidied before

module _ {D : Type 0} (view : D → View) (failures : D → ℕ) (mode : Mode) (room : mode.clean_when_full ≡ true) (store now : State D) (first : Store)
    (by : IsByBatches mode store.settings first store.store) where
  abbrev RunsFrom : Option (List ℕ) → Option (List ℕ) → Result (Unit {0}) SessionError → Type 0
  RunsFrom old new end = RunsOrder mode (view store.disk).is_honest store.settings first (view store.disk).seen Flush old new end now.store (view now.disk).seen

  module _ (start : State D) where
    start_tidied : IsStart store start → TidiesTo mode store.settings first start.store
    start_tidied (inl same) = TidiesTo-compacted mode store.settings first store.store start.store room by (inl (ap (λ (s : State D). s.store) same))
    start_tidied (inr (due, full, bloated, is, settings, disk, failed)) = TidiesTo-compacted mode store.settings first store.store start.store room by (inr (full, bloated, is))

    module _ (is : IsStart store start) where
      tidies : TidiesTo mode start.settings first start.store
      tidies = subst (λ (s : Settings). TidiesTo mode s first start.store) (sym (start_settings store start is)) (start_tidied is)

      first_head : start.store.head ≡ first.head
      first_head = ap (λ (at : Stored). at.0.head) (sym (tidies.leaves []))

      store_head : store.store.head ≡ first.head
      store_head = ap (λ (at : Stored). at.0.head) (sym ((TidiesTo-batches mode store.settings first store.store by).leaves []))

      as_store : (old new : Option (List ℕ)) (end : Result (Unit {0}) SessionError)
          → RunsOrder mode (view start.disk).is_honest start.settings first (view start.disk).seen Flush old new end now.store (view now.disk).seen → RunsFrom old new end
      as_store old new end p =
          subst (λ (d : D). RunsOrder mode (view d).is_honest store.settings first (view d).seen Flush old new end now.store (view now.disk).seen) (start_disk store start is)
          (subst (λ (s : Settings). RunsOrder mode (view start.disk).is_honest s first (view start.disk).seen Flush old new end now.store (view now.disk).seen) (start_settings store start is) p)

      -- the lines of all segments that were cleaned
      printed_are : (head last : ℕ) → head ≡ store.store.head → (rows : List CleanRow) → last ≡ start.store.head + count_of rows → head_lines head (last - head) ≡ head_lines first.head (count_of rows)
      printed_are head last head_is rows last_is =
          lines_of head last first.head (count_of rows) (head_is ∙ store_head) (last_is ∙ ap (λ (h : ℕ). h + count_of rows) first_head)

  flushed_lines : (d : Done view failures store now) (head last : ℕ) → head ≡ store.store.head → last ≡ now.store.head → head_lines head (last - head) ≡ head_lines first.head (count_of d.2.rows)
  flushed_lines (start, is, f) head last head_is last_is =
      let (after, step, same) = f.flush in
      printed_are start is head last head_is f.rows
      (last_is ∙ flush_head start.settings f.cleaned step.file (answer_of f.answer, (now.store, after)) step.done ∙ rows_head _ false start.settings start.store _ f.rows f.cleaned f.left f.are)

  stopped_lines : (fault : Fault) (d : Stopped view failures store now fault) (head last : ℕ) → head ≡ store.store.head → last ≡ now.store.head → head_lines head (last - head) ≡ head_lines first.head (count_of d.2.rows)
  stopped_lines fault (start, is, f) head last head_is last_is =
      printed_are start is head last head_is f.rows (last_is ∙ rows_head _ f.may_be_cut start.settings start.store _ f.rows now.store f.left f.are)

  module _ (head last : ℕ) (head_is : head ≡ store.store.head) (last_is : last ≡ now.store.head) (old new : Option (List ℕ)) (end : Result (Unit {0}) SessionError) where
    -- the lines of the cleans and the line of the flush are printed, or the output fails while they are
    pub done_from : Done view failures store now → PrintsOwn mode.stream old new (head_lines head (last - head) ++ shown_flushed now.store.sequence ∷ []) (Ok tt) end → RunsFrom old new end
    done_from (start, is, f) prints =
        as_store start is old new end
        (done_runs view failures mode room start now first (tidies start is).tidying (tidies start is).asked (tidies start is).leaves old new end f
        (subst (λ (l : List (List ℕ)). PrintsOwn mode.stream old new (l ++ shown_flushed now.store.sequence ∷ []) (Ok tt) end) (flushed_lines (start, is, f) head last head_is last_is) prints))

    -- the flush is refused after them
    pub stopped_from : (fault : Fault) → Stopped view failures store now fault → (early : SessionError) → IsEndingOf fault early → end ≡ Err early → Appends old new (flat (head_lines head (last - head))) → RunsFrom old new end
    stopped_from fault (start, is, f) early ends ended printed =
        as_store start is old new end
        (stopped_runs view failures mode room start now first (tidies start is).tidying (tidies start is).asked (tidies start is).leaves old new end fault f early ends ended
        (subst (λ (l : List (List ℕ)). Appends old new (flat l)) (stopped_lines fault (start, is, f) head last head_is last_is) printed))

    -- the output fails while the lines of the cleans are written
    pub cut_from : (r : Result ℕ Fault) → IfOk r (λ _. Done view failures store now) → IfErr r (Stopped view failures store now) → end ≡ Err Device → IsBegun old new (flat (head_lines head (last - head))) → RunsFrom old new end
    cut_from (Ok sequence) d none ends begun = done_from d (writes_cut mode.stream old new (head_lines head (last - head)) (shown_flushed now.store.sequence ∷ []) (Ok tt) end ends begun)
    cut_from (Err fault) none (start, is, f) ends begun =
        as_store start is old new end
        (by_memory view failures mode room start now first (tidies start is).tidying (tidies start is).asked (tidies start is).leaves old new end fault f (λ other. absurd (other ends))
        (inr (inr (ends, subst (λ (l : List (List ℕ)). IsBegun old new (flat l)) (stopped_lines fault (start, is, f) head last head_is last_is) begun))))

-- ---- a flush of the store after batches

-- it is a flush of the store before them, with the same settings on the same disk
pub flush_ready : {D : Type 0} (view : D → View) (mode : Mode) (store ready : State D) → IsOnDisk store ready → IsByBatches mode store.settings store.store ready.store
    → (old new : Option (List ℕ)) (end : Result (Unit {0}) SessionError) (now : Store) (bytes : List ℕ)
    → ((first : Store) → IsByBatches mode ready.settings first ready.store → RunsOrder mode (view ready.disk).is_honest ready.settings first (view ready.disk).seen Flush old new end now bytes)
    → RunsOrder mode (view store.disk).is_honest store.settings store.store (view store.disk).seen Flush old new end now bytes
flush_ready {D} view mode store ready (settings, disk, failed) by old new end now bytes runs =
    let own = runs store.store (subst (λ (s : Settings). IsByBatches mode s store.store ready.store) (sym settings) by) in
    subst (λ (d : D). RunsOrder mode (view d).is_honest store.settings store.store (view d).seen Flush old new end now bytes) disk
    (subst (λ (s : Settings). RunsOrder mode (view ready.disk).is_honest s store.store (view ready.disk).seen Flush old new end now bytes) settings own)
