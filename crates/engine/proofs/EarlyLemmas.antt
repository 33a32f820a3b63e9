-- Early cleans: the result if they are refused, and a reading that is held for later ones.
use Rattle.std.specs.Prelude.{◌≡◌, ◌≢◌, ◌⊎◌, ℕ, ◌+◌, ◌/◌, ◌<◌, min, IsTrue, true, false, List, [], Option, Some, None, Result, Ok, Err, IfOk, IfErr, MatchResult}
use Rattle.std.proofs.Common.{refl, sym, ap, ◌∙◌, subst, inl, inr, ⊎_elim, arith}
use Rattle.std.proofs.Math.Nat.{le-max_right}
use Rattle.std.proofs.lemmas.Bool.{true≢false}
use Rattle.keys.specs.declared.fault.Fault.{Fault}
use Rattle.keys.specs.declared.fault.Fault.TheVariants.{Device, NoMemory}
use Rattle.keys.specs.declared.settings.Settings.{Settings}
use Rattle.mapping.specs.Tree.{Store}
use Rattle.flush_log.specs.Disk.{View, Lawful}
use Rattle.flush_log.specs.FlushText.{flush_frames}
use Rattle.cleaner.specs.PagesRead.{PagesRead}
use Rattle.flush_log.proofs.SameLemmas.{leaves_the_same}
use Rattle.engine.specs.Cleaning.{IsEarly, IsHeld, IsOfBytes, IsOfMachine, IsStoppedCleaning, most_ahead, most_cleanable}
use Rattle.engine.specs.Cleans.{cleans, IsReadFor, IsRefusedClean, IsCleanedOn, IsStoppedOn}
use Rattle.engine.specs.OneStep.{IsOnlyRead, IsStep}
use Rattle.engine.specs.Room.{is_overfull, is_tight, is_worth, live_known}
use Rattle.engine.specs.State.{State, IsSound}
use Rattle.engine.specs.Steps.Step.{Flush, Clean}
use Rattle.engine.specs.Steps.Answer.{Cleaned}
use Rattle.engine.proofs.CleaningLemmas.{still_of_bytes}
use Rattle.engine.proofs.CleansLemmas.{none_cleaned, none_on, stopped_on}
use Rattle.engine.proofs.PlayTurn.{crash_on}
use Rattle.engine.proofs.RefusedCalls.{not_both}

-- there is a segment at least that a row has
pub some_ahead : (most : ℕ) (s : Settings) → most ≡ most_ahead s → 0 < most
some_ahead most s is = omega (arith, is, le-max_right (s.segments / 8) 1)

-- ---- the result

abbrev Said : Type 0
Said = ℕ × Option PagesRead

-- none was done, or it is the fault, which ends the flush
abbrev IsEarlyRefusal : Fault → Result Said Fault → Type 0
IsEarlyRefusal fault r = MatchResult r (λ e. (e.0 ≡ 0) × (e.1 ≡ None) × (fault ≢ Device) × (fault ≢ NoMemory)) (λ reported. (reported ≡ fault) × IsOfMachine fault)

pub early_ok : (r : Result Said Fault) (fault : Fault) (P : Said → Type 0) → IsEarlyRefusal fault r → ((fault ≢ Device) × (fault ≢ NoMemory) → P (0, None)) → IfOk r P
early_ok (Ok (n, o)) fault P (zero, none, other, memory) p = subst (λ (k : ℕ). P (k, o)) (sym zero) (subst (λ (q : Option PagesRead). P (0, q)) (sym none) (p (other, memory)))
early_ok (Err reported) fault P h p = tt

pub early_err : (r : Result Said Fault) (fault : Fault) (Q : Fault → Type 0) → IsEarlyRefusal fault r → (IsOfMachine fault → Q fault) → IfErr r Q
early_err (Ok e) fault Q h q = tt
early_err (Err reported) fault Q (same, machine) q = subst Q (sym same) (q machine)

-- after a clean of a row that was refused, when so many had been done
abbrev IsAfterRow : ℕ → Fault → Result ℕ Fault → Type 0
IsAfterRow done fault r = MatchResult r (λ n. (n ≡ done) × (0 < done) × (fault ≢ Device) × (fault ≢ NoMemory)) (λ reported. (reported ≡ fault) × ((done ≡ 0) ⊎ IsOfMachine fault))

pub row_done : (r : Result ℕ Fault) (done : ℕ) (fault : Fault) (P : ℕ → Type 0) → IsAfterRow done fault r → (0 < done → fault ≢ Device → fault ≢ NoMemory → P done) → IfOk r P
row_done (Ok n) done fault P (same, some, other, memory) p = subst P (sym same) (p some other memory)
row_done (Err reported) done fault P h p = tt

pub row_stopped : (r : Result ℕ Fault) (done : ℕ) (fault : Fault) (P : Fault → Type 0) → IsAfterRow done fault r → ((done ≡ 0) ⊎ IsOfMachine fault → P fault) → IfErr r P
row_stopped (Ok n) done fault P h p = tt
row_stopped (Err reported) done fault P (same, why) p = subst P (sym same) (p why)

module _ {D : Type 0} (view : D → View) (failures : D → ℕ) where
  -- nothing was read
  pub not_read : (x : State D) → IsSound view x → IsOnlyRead view failures x x
  not_read x sound = record {
    rest = (refl, record { honest = refl; size = refl });
    store = refl;
    counted = (refl, refl);
    same = λ honest. record { seen = refl; may_leave = λ c. (λ h. h, λ h. h); moment = refl; left_since = λ t c. (λ h. h, λ h. h) };
    sound = sound;
  }

  -- cleans of which a later one was refused, but not by its disk, as cleans that were done
  pub done_on : (cur next : State D) (n : ℕ) (fault : Fault) → fault ≢ Device → IsStoppedOn view failures cur n fault next → IsCleanedOn view failures cur n next
  done_on cur next n fault other on old count done = let r = on old count done in record { said = r.said; turn = r.turn other; tree = r.tree }

  -- none was done, unless a call of the disk or an allocation failed
  pub none_done_on : (cur next : State D) (n : ℕ) (fault : Fault) → (fault ≢ Device) × (fault ≢ NoMemory) → ((n ≡ 0) × (next.store ≡ cur.store)) ⊎ IsOfMachine fault → IsStoppedOn view failures cur n fault next → IsCleanedOn view failures cur 0 next
  none_done_on cur next n fault other why stopped =
      ⊎_elim (λ none. subst (λ (k : ℕ). IsCleanedOn view failures cur k next) none.0 (done_on cur next n fault other.0 stopped)) (λ machine. absurd (⊎_elim other.0 other.1 machine)) why

  -- a reading that was just made is held
  abbrev IsFor : State D → ℕ → Type 0
  IsFor cur limit = limit ≡ cur.store.head + min (most_ahead cur.settings) (most_cleanable cur.settings cur.store)

  pub held_read : (cur next : State D) (r : PagesRead) → IsOnlyRead view failures cur next → IsReadFor view next r → next.store.head < r.limit → IsFor cur r.limit
      → IsOfBytes view cur (λ s st file. live_known s st file ≡ Some r.live) → IsHeld view next r
  held_read cur next r only read below limit live = record {
    read = read;
    next = below;
    limit = subst (λ (s : Settings). r.limit ≡ next.store.head + min (most_ahead s) (most_cleanable s next.store)) (sym only.rest.0)
        (subst (λ (st : Store). r.limit ≡ st.head + min (most_ahead cur.settings) (most_cleanable cur.settings st)) (sym only.store) limit);
    live = still_of_bytes view cur next only.rest.0 only.rest.1 only.store only.same (λ s st file. live_known s st file ≡ Some r.live) live;
  }

  -- a reading for so many segments is for as many as a row has
  pub is_for : (cur : State D) (most limit : ℕ) → most ≡ most_ahead cur.settings → limit ≡ cur.store.head + min most (most_cleanable cur.settings cur.store) → IsFor cur limit
  is_for cur most limit is so = so ∙ ap (λ (n : ℕ). cur.store.head + min n (most_cleanable cur.settings cur.store)) is

  pub held_by : (cur next : State D) (most : ℕ) → most ≡ most_ahead cur.settings → (Why : List ℕ → Fault → Type 0) (r : Result PagesRead Fault)
      → IfOk r (λ r. IsOnlyRead view failures cur next × IsReadFor view next r × (next.store.head < r.limit))
      → IfOk r (λ r. r.limit ≡ cur.store.head + min most (most_cleanable cur.settings cur.store))
      → (file : List ℕ) × (IsTrue (view cur.disk).is_honest → file ≡ (view cur.disk).seen) × MatchResult r (λ r. live_known cur.settings cur.store file ≡ Some r.live) (Why file)
      → IfOk r (λ r. IsOnlyRead view failures cur next × IsHeld view next r)
  held_by cur next most is Why (Ok r) (only, read, below) limit (file, shown, known) = (only, held_read cur next r only read below (is_for cur most r.limit is limit) (file, shown, known))
  held_by cur next most is Why (Err fault) h limit live = tt

  -- a row of cleans that is worth its cost is early
  pub is_early : (cur next : State D) (live : ℕ) → IsOnlyRead view failures cur next → (is_tight cur.settings cur.store ≡ true) × (flush_frames cur.store.version cur.store.tree ≢ [])
      → IsOfBytes view cur (λ s st file. live_known s st file ≡ Some live) → (is_worth next.settings next.store live ≡ true) × (is_overfull next.settings next.store live ≡ false) → IsOfBytes view cur IsEarly
  is_early cur next live only (tight, due) (file, shown, known) (worth, roomy) = (
    file,
    shown,
    record {
      due = due;
      tight = tight;
      live = live;
      known = known;
      worth = subst (λ (s : Settings). is_worth s cur.store live ≡ true) only.rest.0 (subst (λ (st : Store). is_worth next.settings st live ≡ true) only.store worth);
      roomy = subst (λ (s : Settings). is_overfull s cur.store live ≡ false) only.rest.0 (subst (λ (st : Store). is_overfull next.settings st live ≡ false) only.store roomy);
    },
  )

-- ---- allocations that fail

is_other : (fault : Fault) → fault ≡ NoMemory → fault ≢ Device
is_other fault memory device = absurd (cc)

module _ {D : Type 0} (view : D → View) (failures : D → ℕ) (lawful : (disk : D) → IsTrue (view disk).is_honest → Lawful (view disk)) where
  -- a clean for which the log was read is refused because an allocation failed
  refused_clean : (x : State D) → x.has_failed ≡ false → (r : PagesRead) (fault : Fault) → fault ≡ NoMemory → IsSound view x → IsHeld view x r → IsRefusedClean view failures x x fault
  refused_clean x fine r fault memory sound held =
      let (file, is, reading) = held.read in
      let below = held.next in
      let within = reading.within in
      let only = not_read view failures x sound in
      let step : IsStep {X = ℕ} view failures true x Clean (Err fault) (λ n. Cleaned n) x = record {
        done = tt;
        counted = tt;
        rest = only.rest;
        failed = λ bad. absurd (not_both x.has_failed bad fine);
        bad_crew = λ _ bad. absurd (true≢false bad);
        refused = λ _ _. (file, is, inr (λ last. absurd (omega (arith, below, within, last)), inl memory));
        undone = λ _. only;
        device = λ device. absurd (is_other fault memory device);
        bytes = λ _. tt;
        is_synced = λ _. tt;
        syncs = λ _ _. tt;
        crash = λ _ is_synced. leaves_the_same (view x.disk) (view x.disk) _ (lawful x.disk is_synced.honest) (only.same is_synced.honest) is_synced (inl refl);
        sound = (sound, sound);
      } in
      (fine, step)

  pub memory_on : (x : State D) → x.has_failed ≡ false → (r : PagesRead) (fault : Fault) → fault ≡ NoMemory → IsSound view x → IsHeld view x r → IsStoppedOn view failures x 0 fault x
  memory_on x fine r fault memory sound held = stopped_on view failures lawful x 0 x (none_on view failures lawful x) x fault (refused_clean x fine r fault memory sound held)

  -- a flush is refused because allocation failed before any clean
  no_memory : (old : State D) → IsSound view old → flush_frames old.store.version old.store.tree ≢ [] → IsStoppedCleaning view failures old old NoMemory
  no_memory old sound due =
      let done = none_cleaned view failures lawful old sound in
      let only = not_read view failures old sound in
      record {
        rows = [];
        left = (view old.disk).seen;
        shows = λ _ h. refl;
        may_be_cut = false;
        cut = λ e. absurd (cc);
        are = (refl, λ h. refl);
        calm = λ _. inl (inr refl);
        full = λ e. absurd (cc);
        said = done.said;
        played = done.turn.played;
        exact = done.turn.exact;
        tree = refl;
        rest = (done.turn.settings, done.turn.kept);
        turn = λ _. done.turn;
        device = λ e. absurd (cc);
        step = Flush;
        why = ((view old.disk).seen, λ honest. done.turn.bytes honest, inl (refl, inr (inl (refl, due))));
        words = λ e. absurd (cc);
        crash = λ fine was. crash_on view failures lawful old (cleans 0) done.said old done.turn old Flush
            (λ _ is_synced. leaves_the_same (view old.disk) (view old.disk) _ (lawful old.disk is_synced.honest) (only.same is_synced.honest) is_synced (inl refl)) fine was;
      }

  pub stopped_at_once : (old now : State D) (fault : Fault) → IsSound view old → (fault ≡ NoMemory) × (now ≡ old) × (flush_frames old.store.version old.store.tree ≢ []) → IsStoppedCleaning view failures old now fault
  stopped_at_once old now fault sound (memory, same, due) =
      subst (λ (f : Fault). IsStoppedCleaning view failures old now f) (sym memory) (subst (λ (x : State D). IsStoppedCleaning view failures old x NoMemory) (sym same) (no_memory old sound due))
