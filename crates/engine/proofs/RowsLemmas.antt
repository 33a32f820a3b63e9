-- Rows of cleans: what they are by what was done, one more of them, and other bytes that a disk shows after them.
use Rattle.std.specs.Prelude.{◌≡◌, ◌≢◌, ◌⊎◌, ℕ, zero, suc, ◌+◌, ◌≤◌, min, Bool, IsTrue, true, false, List, [], ◌∷◌, ◌++◌, length, Option, Some, Ok, Err}
use Rattle.std.proofs.Common.{refl, sym, ap, ◌∙◌, subst, inl, inr, ⊎_elim, arith, zero-add}
use Rattle.std.specs.declared.alloc.Global.{Global}
use Rattle.keys.specs.declared.fault.Fault.{Fault}
use Rattle.keys.specs.declared.fault.Fault.TheVariants.{Device, NoMemory}
use Rattle.keys.specs.declared.settings.Settings.{Settings}
use Rattle.mapping.specs.Tree.{Store}
use Rattle.flush_log.specs.Disk.{View, Lawful}
use Rattle.flush_log.specs.FlushText.{flush_frames}
use Rattle.engine.specs.Cleaning.{CleanRow, AreCleansBy, AreRows, IsCalm, IsCalmOn, IsCleanRefused, IsCleanRefusedOn, IsEarly, IsOfBytes, IsOfMachine, IsRow, IsWhole, NoneFollow, most_cleanable, reads_in}
use Rattle.engine.specs.Cleans.{cleans, AreStopped, IsRefusedClean, IsCleanedOn, IsStoppedOn}
use Rattle.engine.specs.OneStep.{IsOnlyRead}
use Rattle.engine.specs.Plays.{IsPlayed, IsStepFault, answer_of}
use Rattle.engine.specs.Room.{is_overfull, is_tight, is_worth, live_known}
use Rattle.engine.specs.State.{State, IsSound}
use Rattle.engine.specs.Steps.{Answer, after_step, batching}
use Rattle.engine.specs.Steps.Step.{Clean}
use Rattle.engine.specs.Turns.{IsPlayedTo}
use Rattle.engine.specs.declared.step.Answer as code_answer
use Rattle.engine.proofs.AsBefore.{refused_clean}
use Rattle.engine.proofs.CleansLemmas.{none_cleaned}
use Rattle.engine.proofs.PlayTurn.{device_or_not}

module _ (honest : Bool) (s : Settings) where
  -- ---- other bytes at the end, which are the same if the disk is honest

  pub cleans_end : (st : Store) (left : List ℕ) (reads : List (List ℕ)) (now to : Store) (last end : List ℕ) → to ≡ now → (IsTrue honest → end ≡ last)
      → AreCleansBy honest s st left reads now last → AreCleansBy honest s st left reads to end
  cleans_end st left [] now to last end same shows (is, bytes) = (same ∙ is, λ h. shows h ∙ bytes h)
  cleans_end st left (file ∷ reads) now to last end same shows (answer, mid, bytes, shown, done, further) =
      (answer, mid, bytes, shown, done, cleans_end mid bytes reads now to last end same shows further)

  -- no cleans lead nowhere
  pub none_read : (st : Store) (left : List ℕ) (reads : List (List ℕ)) (now : Store) (last : List ℕ) → length reads ≡ 0 → AreCleansBy honest s st left reads now last → (now ≡ st) × (IsTrue honest → last ≡ left)
  none_read st left [] now last none are = are
  none_read st left (file ∷ reads) now last some are = absurd (cc)

  pub refused_end : (now to : Store) (last end : List ℕ) → to ≡ now → (IsTrue honest → end ≡ last) → IsCleanRefused honest s now last → IsCleanRefused honest s to end
  refused_end now to last end same shows (file, shown, fault, is) =
      (file, λ h. shown h ∙ sym (shows h), fault, subst (λ (x : Store). after_step {A = Global} (batching s) s x file Clean ≡ Err fault) (sym same) is)

  row_end : (cut : Bool) (earlier : List CleanRow) (st : Store) (left : List ℕ) (row : CleanRow) (now to : Store) (last end : List ℕ) → to ≡ now → (IsTrue honest → end ≡ last)
      → IsRow honest cut s earlier st left row now last → IsRow honest cut s earlier st left row to end
  row_end cut earlier st left row now to last end same shows r = record {
    shown = r.shown;
    begins = r.begins;
    done = cleans_end st left row.reads now to last end same shows r.done;
    some = r.some;
    few = r.few;
    whole = λ uncut. ⊎_elim (λ all. inl all) (λ refused. inr (refused_end now to last end same shows refused)) (r.whole uncut);
  }

  pub rows_end : (cut : Bool) (st : Store) (left : List ℕ) (rows : List CleanRow) (now to : Store) (last end : List ℕ) → to ≡ now → (IsTrue honest → end ≡ last)
      → AreRows honest cut s st left rows now last → AreRows honest cut s st left rows to end
  rows_end cut st left [] now to last end same shows (is, bytes) = (same ∙ is, λ h. shows h ∙ bytes h)
  rows_end cut st left (row ∷ earlier) now to last end same shows (mid, bytes, opened, is) = (mid, bytes, opened, row_end cut earlier mid bytes row now to last end same shows is)

  -- and so it is why none follow
  pub none_follow_end : (rows : List CleanRow) (now : Store) (last end : List ℕ) → (IsTrue honest → end ≡ last) → NoneFollow honest s rows now last → NoneFollow honest s rows now end
  none_follow_end rows now last end shows (inl all) = inl all
  none_follow_end rows now last end shows (inr (inl (ahead, shown, over))) = inr (inl (ahead, λ h. shown h ∙ sym (shows h), over))
  none_follow_end rows now last end shows (inr (inr refused)) = inr (inr (refused_end now now last end refl shows refused))

  -- with no rows yet, what is so of the start is so here
  pub calm_end : (st : Store) (left : List ℕ) (rows : List CleanRow) (now : Store) (last : List ℕ) → AreRows honest false s st left rows now last → (rows ≡ [] → IsCalm honest s st left) → rows ≡ []
      → IsCalm honest s now last
  calm_end st left [] now last (is, shows) calm none = by (calm none)
    where
      by : IsCalm honest s st left → IsCalm honest s now last
      by (inl (ahead, shown, never)) = inl (ahead, λ h. shown h ∙ sym (shows h), subst (λ (x : Store). IsEarly s x ahead → ⊥) (sym is) never)
      by (inr refused) = inr (refused_end st now left last is shows refused)
  calm_end st left (row ∷ rows) now last are calm none = absurd (cc)

  -- whole rows are rows, the last of which may be cut short
  row_cut : (cut : Bool) (earlier : List CleanRow) (st : Store) (left : List ℕ) (row : CleanRow) (now : Store) (last : List ℕ)
      → IsRow honest false s earlier st left row now last → IsRow honest cut s earlier st left row now last
  row_cut cut earlier st left row now last r = record { shown = r.shown; begins = r.begins; done = r.done; some = r.some; few = r.few; whole = λ _. r.whole refl }

  pub rows_cut : (cut : Bool) (st : Store) (left : List ℕ) (rows : List CleanRow) (now : Store) (last : List ℕ) → AreRows honest false s st left rows now last → AreRows honest cut s st left rows now last
  rows_cut cut st left [] now last are = are
  rows_cut cut st left (row ∷ earlier) now last (mid, bytes, opened, is) = (mid, bytes, opened, row_cut cut earlier mid bytes row now last is)

  -- ---- all cleans of some rows

  cleans_begin : (st from : Store) (left bytes : List ℕ) → from ≡ st → (IsTrue honest → bytes ≡ left) → (reads : List (List ℕ)) (now : Store) (last : List ℕ)
      → AreCleansBy honest s from bytes reads now last → AreCleansBy honest s st left reads now last
  cleans_begin st from left bytes same shows [] now last (is, ends) = (is ∙ same, λ h. ends h ∙ shows h)
  cleans_begin st from left bytes same shows (file ∷ reads) now last (answer, mid, after, shown, done, further) =
      (answer, mid, after, λ h. shown h ∙ shows h, subst (λ (x : Store). after_step (batching s) s x file Clean ≡ Ok (answer, (mid, after))) same done, further)

  cleans_then : (st : Store) (left : List ℕ) (first : List (List ℕ)) (mid : Store) (bytes : List ℕ) (second : List (List ℕ)) (now : Store) (last : List ℕ)
      → AreCleansBy honest s st left first mid bytes → AreCleansBy honest s mid bytes second now last → AreCleansBy honest s st left (first ++ second) now last
  cleans_then st left [] mid bytes second now last (is, shows) next = cleans_begin st mid left bytes is shows second now last next
  cleans_then st left (file ∷ first) mid bytes second now last (answer, at, after, shown, done, further) next =
      (answer, at, after, shown, done, cleans_then at after first mid bytes second now last further next)

  pub rows_cleans : (cut : Bool) (st : Store) (left : List ℕ) (rows : List CleanRow) (now : Store) (last : List ℕ) → AreRows honest cut s st left rows now last
      → AreCleansBy honest s st left (reads_in rows) now last
  rows_cleans cut st left [] now last are = are
  rows_cleans cut st left (row ∷ earlier) now last (mid, bytes, opened, is) =
      cleans_then st left (reads_in earlier) mid bytes row.reads now last (rows_cleans false st left earlier mid bytes opened) is.done

  -- each clean leaves the next segment as the first one
  pub cleans_head : ((st : Store) (file : List ℕ) (answer : Answer Global) (now : Store) (bytes : List ℕ) → after_step (batching s) s st file Clean ≡ Ok (answer, (now, bytes)) → now.head ≡ suc st.head)
      → (st : Store) (left : List ℕ) (reads : List (List ℕ)) (now : Store) (last : List ℕ) → AreCleansBy honest s st left reads now last → now.head ≡ st.head + length reads
  cleans_head one st left [] now last (is, shows) = (let same = ap (λ (x : Store). x.head) is in omega (arith, same))
  cleans_head one st left (file ∷ reads) now last (answer, mid, bytes, shown, done, further) =
      let first = one st file answer mid bytes done in
      let rest = cleans_head one mid bytes reads now last further in
      omega (arith, first, rest)

  -- ---- cleans by what was played

  by_trace : (n : ℕ) (st : Store) (left : List ℕ) (said : List code_answer.Answer) (now : Store) (last : List ℕ) → IsPlayedTo honest s st left (cleans n) said now last
      → (reads : List (List ℕ)) × (length reads ≡ n) × AreCleansBy honest s st left reads now last
  by_trace zero st left said now last (none, same, is) = ([], refl, (same, λ h. is))
  by_trace (suc n) st left said now last (a, rest, said_is, mid, bytes, done, further) =
      let (reads, many, are) = by_trace n mid bytes rest now last further in
      (done.file ∷ reads, ap suc many, (answer_of a, mid, bytes, done.shown, done.done, are))

  by_played : (n : ℕ) (st : Store) (left : List ℕ) (said : List code_answer.Answer) (now : Store) → IsPlayed honest s st left (cleans n) said now
      → (reads : List (List ℕ)) × (length reads ≡ n) × (last : List ℕ) × AreCleansBy honest s st left reads now last
  by_played zero st left said now (none, same) = ([], refl, left, (same, λ h. refl))
  by_played (suc n) st left said now (a, rest, said_is, mid, bytes, done, further) =
      let (reads, many, last, are) = by_played n mid bytes rest now further in
      (done.file ∷ reads, ap suc many, last, (answer_of a, mid, bytes, done.shown, done.done, are))

-- ---- cleans of a store on its disk

module _ {D : Type 0} (view : D → View) (failures : D → ℕ) (lawful : (disk : D) → IsTrue (view disk).is_honest → Lawful (view disk)) where
  abbrev ByReads : State D → List (List ℕ) → Store → List ℕ → Type 0
  ByReads x reads now last = AreCleansBy (view x.disk).is_honest x.settings x.store (view x.disk).seen reads now last

  -- some that were done
  pub reads_of : (cur next : State D) (n : ℕ) → IsSound view cur → IsCleanedOn view failures cur n next
      → (reads : List (List ℕ)) × (length reads ≡ n) × ByReads cur reads next.store (view next.disk).seen
  reads_of cur next n sound on =
      let done = on cur 0 (none_cleaned view failures lawful cur sound) in
      let (last, played, shows) = done.turn.trace in
      let (reads, many, are) = by_trace (view cur.disk).is_honest cur.settings (0 + n) cur.store (view cur.disk).seen done.said next.store last played in (
        reads,
        many ∙ zero-add n,
        cleans_end (view cur.disk).is_honest cur.settings cur.store (view cur.disk).seen reads next.store next.store last (view next.disk).seen refl (λ h. sym (shows h)) are,
      )

  -- and some after which one was refused
  abbrev AreReadBefore : State D → State D → ℕ → Fault → Type 0
  AreReadBefore cur next n fault =
      (reads : List (List ℕ)) × (length reads ≡ n) × (left : List ℕ) × (fault ≢ Device → IsTrue (view cur.disk).is_honest → left ≡ (view next.disk).seen) × ByReads cur reads next.store left

  pub reads_before : (cur next : State D) (n : ℕ) (fault : Fault) → IsSound view cur → IsStoppedOn view failures cur n fault next → AreReadBefore cur next n fault
  reads_before cur next n fault sound stopped =
      let r = stopped cur 0 (none_cleaned view failures lawful cur sound) in
      ⊎_elim (λ device. by_device r device) (λ other. by_other r other.0) (device_or_not fault)
    where
      by_device : AreStopped view failures cur next (0 + n) fault → fault ≡ Device → AreReadBefore cur next n fault
      by_device r device =
          let (reads, many, left, are) = by_played (view cur.disk).is_honest cur.settings (0 + n) cur.store (view cur.disk).seen r.said next.store r.played in
          (reads, many ∙ zero-add n, left, λ other. absurd (other device), are)

      by_other : AreStopped view failures cur next (0 + n) fault → fault ≢ Device → AreReadBefore cur next n fault
      by_other r other =
          let turn = r.turn other in
          let (last, played, shows) = turn.trace in
          let (reads, many, are) = by_trace (view cur.disk).is_honest cur.settings (0 + n) cur.store (view cur.disk).seen r.said next.store last played in
          (reads, many ∙ zero-add n, last, λ _ h. shows h, are)

  -- none was done: the store and what an honest disk shows stay
  pub none_moved : (cur next : State D) (n : ℕ) → n ≡ 0 → IsSound view cur → IsCleanedOn view failures cur n next
      → (next.store ≡ cur.store) × (IsTrue (view cur.disk).is_honest → (view next.disk).seen ≡ (view cur.disk).seen)
  none_moved cur next n none sound on =
      let (reads, many, are) = reads_of cur next n sound on in
      none_read (view cur.disk).is_honest cur.settings cur.store (view cur.disk).seen reads next.store (view next.disk).seen (many ∙ none) are

  -- ---- a clean that is refused

  -- as defined, if neither a call of the disk nor an allocation failed
  own_refusal : (x : State D) (st : Store) (file : List ℕ) (old new : ℕ) (fault : Fault) → (fault ≢ Device) × (fault ≢ NoMemory) → IsStepFault x.settings st file old new Clean fault
      → after_step {A = Global} (batching x.settings) x.settings st file Clean ≡ Err fault
  own_refusal x st file old new fault other (inl right) = right
  own_refusal x st file old new fault other (inr (last, inl memory)) = absurd (other.1 memory)
  own_refusal x st file old new fault other (inr (last, inr device)) = absurd (other.0 device.0)

  pub refused_on : (cur next : State D) (fault : Fault) → (fault ≢ Device) × (fault ≢ NoMemory) → IsRefusedClean view failures cur next fault → IsCleanRefusedOn view next
  refused_on cur next fault other is =
      let r = refused_clean view failures cur next fault is in
      let (file, shown, why) = r.refused is.0 refl in
      let settings : next.settings ≡ cur.settings = r.rest.0 in (
        file,
        λ h. (let was = subst IsTrue r.rest.1.honest h in shown was ∙ sym (r.same was other.0).seen),
        fault,
        subst (λ (s : Settings). after_step {A = Global} (batching s) s next.store file Clean ≡ Err fault) (sym settings)
            (subst (λ (st : Store). after_step {A = Global} (batching cur.settings) cur.settings st file Clean ≡ Err fault) (sym r.unchanged) (own_refusal cur cur.store file _ _ fault other why)),
      )

  machine_or : (fault : Fault) → IsOfMachine fault ⊎ ((fault ≢ Device) × (fault ≢ NoMemory))
  machine_or NoMemory = inl (inr refl)
  machine_or Device = inl (inl refl)
  machine_or _ = inr ((λ e. cc), λ e. cc)

  pub machine_or_refused : (cur next : State D) (fault : Fault) → IsRefusedClean view failures cur next fault → IsOfMachine fault ⊎ IsCleanRefusedOn view next
  machine_or_refused cur next fault r = ⊎_elim (λ machine. inl machine) (λ other. inr (refused_on cur next fault other r)) (machine_or fault)

  -- and so it is of a store that has the same, before it was read
  module _ (x y : State D) (settings : y.settings ≡ x.settings) (honest : (view y.disk).is_honest ≡ (view x.disk).is_honest) (store : y.store ≡ x.store)
      (seen : IsTrue (view x.disk).is_honest → (view y.disk).seen ≡ (view x.disk).seen) where
    pub refused_before : IsCleanRefusedOn view y → IsCleanRefusedOn view x
    refused_before (file, shown, fault, is) = (
      file,
      λ h. shown (subst IsTrue (sym honest) h) ∙ seen h,
      fault,
      subst (λ (s : Settings). after_step {A = Global} (batching s) s x.store file Clean ≡ Err fault) settings
          (subst (λ (st : Store). after_step {A = Global} (batching y.settings) y.settings st file Clean ≡ Err fault) store is),
    )

    pub calm_before : IsCalmOn view y → IsCalmOn view x
    calm_before (inl (ahead, shown, none)) = inl (
      ahead,
      λ h. shown (subst IsTrue (sym honest) h) ∙ seen h,
      λ early. none (subst (λ (s : Settings). IsEarly s y.store ahead) (sym settings) (subst (λ (st : Store). IsEarly x.settings st ahead) (sym store) early)),
    )
    calm_before (inr refused) = inr (refused_before refused)

  -- ---- no early row

  pub calm_by : (x : State D) → ((is_tight x.settings x.store ≡ true) × (flush_frames x.store.version x.store.tree ≢ []) → ⊥) → IsCalmOn view x
  calm_by x none = inl ((view x.disk).seen, λ h. refl, λ early. none (early.tight, early.due))

  same_live : (o : Option ℕ) (a b : ℕ) → o ≡ Some a → o ≡ Some b → a ≡ b
  same_live o a b first second = cc

  -- the row is not worth it, or too much lives
  pub calm_unhelped : (x : State D) (live : ℕ) → IsOfBytes view x (λ s st file. live_known s st file ≡ Some live)
      → ((is_worth x.settings x.store live ≡ true) × (is_overfull x.settings x.store live ≡ false) → ⊥) → IsCalmOn view x
  calm_unhelped x live (file, shown, known) none = inl (
    file,
    shown,
    λ early. (let same = same_live (live_known x.settings x.store file) early.live live early.known known in
        none (subst (λ (n : ℕ). is_worth x.settings x.store n ≡ true) same early.worth, subst (λ (n : ℕ). is_overfull x.settings x.store n ≡ false) same early.roomy)),
  )

  -- ---- after a reading of the log, or after no clean

  module _ (old mid : State D) (only : IsOnlyRead view failures old mid) where
    pub calm_read : IsCalmOn view mid → IsCalmOn view old
    calm_read = calm_before old mid only.rest.0 only.rest.1.honest only.store (λ h. (only.same h).seen)

    pub few_read : (n : ℕ) → n ≤ most_cleanable mid.settings mid.store → n ≤ most_cleanable old.settings old.store
    few_read n few = subst (λ (s : Settings). n ≤ most_cleanable s old.store) only.rest.0 (subst (λ (st : Store). n ≤ most_cleanable mid.settings st) only.store few)

    pub whole_read : (next : State D) (most n : ℕ) → IsWhole view mid most n next → IsWhole view old most n next
    whole_read next most n whole =
        subst (λ (s : Settings). (n ≤ min most (most_cleanable s old.store)) × ((n ≡ min most (most_cleanable s old.store)) ⊎ IsCleanRefusedOn view next)) only.rest.0
        (subst (λ (st : Store). (n ≤ min most (most_cleanable mid.settings st)) × ((n ≡ min most (most_cleanable mid.settings st)) ⊎ IsCleanRefusedOn view next)) only.store whole)

  -- the reading was refused as a clean is
  pub calm_refused : (old next : State D) (fault : Fault) → (fault ≢ Device) × (fault ≢ NoMemory) → IsRefusedClean view failures old next fault → IsCalmOn view old
  calm_refused old next fault other is =
      let r = refused_clean view failures old next fault is in
      inr (refused_before old next r.rest.0 r.rest.1.honest r.unchanged (λ h. (r.same h other.0).seen) (refused_on old next fault other is))

  -- no clean was done, and the first one was refused
  pub calm_moved : (old next : State D) (n : ℕ) → n ≡ 0 → IsSound view old → IsCleanedOn view failures old n next → IsCleanRefusedOn view next → IsCalmOn view old
  calm_moved old next n none sound on refused =
      let (store, seen) = none_moved old next n none sound on in
      let turn = (on old 0 (none_cleaned view failures lawful old sound)).turn in
      inr (refused_before old next turn.settings turn.kept.honest store seen refused)

pub true_false : true ≡ false → ⊥
true_false e = cc
