-- A turn of a play: one step more.
use Rattle.std.specs.Prelude.{◌≡◌, ◌≢◌, ◌⊎◌, ℕ, zero, suc, ◌+◌, ◌<◌, ◌≤◌, Bool, IsTrue, false, List, [], ◌∷◌, ◌++◌, length, map, take, drop, Option, None, Result, Ok, Err}
use Rattle.std.proofs.Common.{refl, sym, ap, ◌∙◌, subst, inl, inr, arith, get_or}
use Rattle.std.proofs.lemmas.List.{map-append, take_more, drop_more}
use Rattle.std.specs.declared.alloc.Global.{Global}
use Rattle.keys.specs.declared.fault.Fault.{Fault}
use Rattle.keys.specs.declared.fault.Fault.TheVariants.{BadSettings, KeyTooLong, ValueTooLong, BatchTooLong, BadCrew, NoMemory, Failed, Device, Full, NothingToClean, NotAStore, NoSlot, BadSegment, BadFrame, BadStructure, Spent, DiskTooSmall, AlreadyUpgraded}
use Rattle.keys.specs.declared.settings.Settings.{Settings}
use Rattle.mapping.specs.Tree.{Store}
use Rattle.flush_log.specs.Disk.{View, Lawful, IsSynced, Kept, Same, LeavesOnly}
use Rattle.flush_log.proofs.SameLemmas.{settled_still, left_still, leaves_itself}
use Rattle.flush_log.proofs.ViewLemmas.{only_then, weaker, now_leaves}
use Rattle.recovery.specs.StoreOfDisk.{store_of_disk}
use Rattle.engine.specs.Plays.{IsPlayed, IsPlayedOn, IsStepDone, IsStepFault, IsLeftInStep, step_of, answer_of, tried}
use Rattle.engine.specs.State.{State, IsSound}
use Rattle.engine.specs.Turns.{IsPlayedTo, IsTurn}
use Rattle.engine.specs.Steps.{Step, Answer, Played, Stepped, StandsAfterSome, NumbersFit, AllNumbersFit, here_and_on, played_on, with_later, after_step, batching, plays, plays_further}
use Rattle.engine.specs.declared.step.Step as code_step
use Rattle.engine.specs.declared.step.Answer as code_answer
use Rattle.engine.proofs.PlayLemmas.{plays-append, words-append, stands-later, stands-last}

-- ---- steps as they are called

-- one more of them
pub one_taken : (xs : List code_step.Step) (i : ℕ) (x : code_step.Step) → i < length xs → x ≡ get_or xs i x → map step_of (take (i + 1) xs) ≡ map step_of (take i xs) ++ step_of x ∷ []
one_taken xs i x h is =
    ap (map step_of) (take_more xs i x h)
    ∙ map-append step_of (take i xs) (get_or xs i x ∷ [])
    ∙ ap (λ (y : code_step.Step). map step_of (take i xs) ++ step_of y ∷ []) (sym is)

-- and the one after those that were taken
pub one_after : (xs : List code_step.Step) (i : ℕ) (x : code_step.Step) → i < length xs → x ≡ get_or xs i x → drop i xs ≡ x ∷ drop (i + 1) xs
one_after xs i x h is = drop_more xs i x h ∙ ap (λ (y : code_step.Step). y ∷ drop (i + 1) xs) (sym is)

-- if the first i of some steps are none, i is 0
pub none_taken : (xs : List code_step.Step) (i : ℕ) → i < length xs → map step_of (take i xs) ≡ [] → i ≡ 0
none_taken xs zero h e = refl
none_taken [] (suc i) h e = absurd (omega (arith, h))
none_taken (x ∷ xs) (suc i) h e = absurd (cc)

-- if no step was taken and none remains, there are none
pub none_left : (xs : List code_step.Step) (i : ℕ) → i ≡ 0 → length xs ≤ i → xs ≡ []
none_left [] i first last = refl
none_left (x ∷ xs) i first last = absurd (omega (arith, first, last))

-- ---- how far a play has come

pub device_or_not : (fault : Fault) → (fault ≡ Device) ⊎ ((fault ≢ Device) × ((n : ℕ) → tried fault n ≡ n))
device_or_not Device = inl refl
device_or_not (BadSettings a) = inr ((λ e. cc), λ n. refl)
device_or_not (KeyTooLong a) = inr ((λ e. cc), λ n. refl)
device_or_not (ValueTooLong a) = inr ((λ e. cc), λ n. refl)
device_or_not BatchTooLong = inr ((λ e. cc), λ n. refl)
device_or_not BadCrew = inr ((λ e. cc), λ n. refl)
device_or_not NoMemory = inr ((λ e. cc), λ n. refl)
device_or_not Failed = inr ((λ e. cc), λ n. refl)
device_or_not Full = inr ((λ e. cc), λ n. refl)
device_or_not NothingToClean = inr ((λ e. cc), λ n. refl)
device_or_not NotAStore = inr ((λ e. cc), λ n. refl)
device_or_not NoSlot = inr ((λ e. cc), λ n. refl)
device_or_not (BadSegment a) = inr ((λ e. cc), λ n. refl)
device_or_not (BadFrame a b) = inr ((λ e. cc), λ n. refl)
device_or_not (BadStructure a) = inr ((λ e. cc), λ n. refl)
device_or_not Spent = inr ((λ e. cc), λ n. refl)
device_or_not DiskTooSmall = inr ((λ e. cc), λ n. refl)
device_or_not AlreadyUpgraded = inr ((λ e. cc), λ n. refl)

pub reached_device : (xs : List code_step.Step) (fault : Fault) (n i : ℕ) (x : code_step.Step) → fault ≡ Device → n ≡ i → i < length xs → x ≡ get_or xs i x
    → map step_of (take (tried fault n) xs) ≡ map step_of (take i xs) ++ step_of x ∷ []
reached_device xs fault n i x device same h is =
    ap (λ (f : Fault). map step_of (take (tried f n) xs)) device
    ∙ ap (λ (k : ℕ). map step_of (take (k + 1) xs)) same
    ∙ one_taken xs i x h is

pub reached_other : (xs : List code_step.Step) (fault : Fault) (n i : ℕ) → tried fault n ≡ n → n ≡ i → map step_of (take (tried fault n) xs) ≡ map step_of (take i xs)
reached_other xs fault n i none same = ap (λ (k : ℕ). map step_of (take k xs)) (none ∙ same)

-- ---- step by step, on any disk

played_to : (honest : Bool) (s : Settings) (st : Store) (left : List ℕ) (xs : List (Step Global)) (said : List code_answer.Answer) (now : Store) (last : List ℕ) → IsPlayedTo honest s st left xs said now last → IsPlayed honest s st left xs said now
played_to honest s st left [] said now last (none, same, is) = (none, same)
played_to honest s st left (x ∷ xs) said now last (a, rest, is, mid, bytes, done, on) = (a, rest, is, mid, bytes, done, played_to honest s mid bytes xs rest now last on)

-- and one more
played_more : (honest : Bool) (s : Settings) (st : Store) (left : List ℕ) (xs : List (Step Global)) (said : List code_answer.Answer) (mid : Store) (last : List ℕ) (x : Step Global) (a : code_answer.Answer) (now : Store) (bytes : List ℕ)
    → IsPlayedTo honest s st left xs said mid last → IsStepDone honest s mid last x a now bytes → IsPlayedTo honest s st left (xs ++ x ∷ []) (said ++ a ∷ []) now bytes
played_more honest s st left [] said mid last x a now bytes (none, same, is) done =
    let there = subst (λ (f : List ℕ). IsStepDone honest s mid f x a now bytes) is done in
    (a, [], ap (λ (l : List code_answer.Answer). l ++ a ∷ []) none, now, bytes, subst (λ (y : Store). IsStepDone honest s y left x a now bytes) same there, (refl, refl, refl))
played_more honest s st left (y ∷ ys) said mid last x a now bytes (b, rest, is, m, f, first, on) done =
    (b, rest ++ a ∷ [], ap (λ (l : List code_answer.Answer). l ++ a ∷ []) is, m, f, first, played_more honest s m f ys rest mid last x a now bytes on done)

same_ok : {X : Type 0} (r : Result X Fault) (p q : X) → r ≡ Ok p → r ≡ Ok q → p ≡ q
same_ok r p q first second = cc

-- ---- one step more

module _ (s : Settings) (st : Store) (file : List ℕ) where
  abbrev at : List (Step Global) → Played Global
  at xs = plays (batching s) s st file xs

  one_more : (p : Played Global) (x : Step Global) (a : Answer Global) (now : Store) (bytes : List ℕ) → p.fault ≡ None → after_step (batching s) s p.store p.bytes x ≡ Ok (a, (now, bytes))
      → plays_further (batching s) s p (x ∷ []) ≡ record { answers = p.answers ++ a ∷ []; store = now; bytes = bytes; fault = None }
  one_more p x a now bytes none done =
      ap (λ (o : Option Fault). with_later o p (plays (batching s) s p.store p.bytes (x ∷ []))) none
      ∙ ap (λ (r : Stepped Global). with_later None p (played_on p.store p.bytes r (λ n f. plays (batching s) s n f []))) done

  next_of : (xs : List (Step Global)) (x : Step Global) (a : Answer Global) (now : Store) (bytes : List ℕ) → (at xs).fault ≡ None → after_step (batching s) s (at xs).store (at xs).bytes x ≡ Ok (a, (now, bytes))
      → at (xs ++ x ∷ []) ≡ record { answers = (at xs).answers ++ a ∷ []; store = now; bytes = bytes; fault = None }
  next_of xs x a now bytes none done = plays-append (batching s) s st file xs (x ∷ []) ∙ one_more (at xs) x a now bytes none done

  module _ (xs : List (Step Global)) (said : List code_answer.Answer) (cur : Store) (is : IsPlayedOn s st file xs said cur) (x : Step Global) where
    there : (a : Answer Global) (now : Store) (bytes : List ℕ) → after_step (batching s) s cur (at xs).bytes x ≡ Ok (a, (now, bytes)) → after_step (batching s) s (at xs).store (at xs).bytes x ≡ Ok (a, (now, bytes))
    there a now bytes done = subst (λ (y : Store). after_step (batching s) s y (at xs).bytes x ≡ Ok (a, (now, bytes))) is.store done

    still_played : (a : code_answer.Answer) (now : Store) (bytes : List ℕ) → after_step (batching s) s cur (at xs).bytes x ≡ Ok (answer_of a, (now, bytes)) → IsPlayedOn s st file (xs ++ x ∷ []) (said ++ a ∷ []) now
    still_played a now bytes done =
        let e = next_of xs x (answer_of a) now bytes is.unrefused (there (answer_of a) now bytes done) in
        record {
          unrefused = ap (λ (p : Played Global). p.fault) e;
          answers = map-append answer_of said (a ∷ []) ∙ ap (λ (l : List (Answer Global)). l ++ answer_of a ∷ []) is.answers ∙ sym (ap (λ (p : Played Global). p.answers) e);
          store = sym (ap (λ (p : Played Global). p.store) e);
        }

    still_bytes : (a : Answer Global) (now : Store) (bytes : List ℕ) → after_step (batching s) s cur (at xs).bytes x ≡ Ok (a, (now, bytes)) → (at (xs ++ x ∷ [])).bytes ≡ bytes
    still_bytes a now bytes done = ap (λ (p : Played Global). p.bytes) (next_of xs x a now bytes is.unrefused (there a now bytes done))

    one_word : (r : Stepped Global) (here : Type 0) → here → here_and_on r here (λ now bytes. AllNumbersFit {A = Global} (batching s) s now bytes [])
    one_word (Ok p) here w = (w, tt)
    one_word (Err fault) here w = tt

    still_words : AllNumbersFit (batching s) s st file xs → NumbersFit (batching s) s cur x → AllNumbersFit (batching s) s st file (xs ++ x ∷ [])
    still_words words here =
        words-append (batching s) s st file xs (x ∷ []) words
        (λ none. one_word (after_step (batching s) s (at xs).store (at xs).bytes x) _ (subst (λ (y : Store). NumbersFit (batching s) s y x) is.store here))

    -- ---- what a crash leaves

    left_by : (seen c : List ℕ) → seen ≡ (at xs).bytes → IsLeftInStep s cur seen x c → (store_of_disk c ≡ store_of_disk (at xs).bytes) ⊎ (store_of_disk c ≡ store_of_disk (at (xs ++ x ∷ [])).bytes)
    left_by seen c same (inl before) = inl (before ∙ ap store_of_disk same)
    left_by seen c same (inr (a, now, done)) =
        inr (ap store_of_disk (sym (still_bytes a now c (subst (λ (f : List ℕ). after_step (batching s) s cur f x ≡ Ok (a, (now, c))) same done))))

    left_in : (seen c : List ℕ) → seen ≡ (at xs).bytes → IsLeftInStep s cur seen x c → StandsAfterSome (batching s) s st file (xs ++ x ∷ []) c
    left_in seen c same left = elim (left_by seen c same left) [
      | inl before ↦ stands-later (batching s) s st file c xs (x ∷ []) (stands-last (batching s) s st file c xs before)
      | inr after ↦ stands-last (batching s) s st file c (xs ++ x ∷ []) after
    ]

-- ---- turns

-- of the same steps and answers
pub turn_as : {D : Type 0} (view : D → View) (failures : D → ℕ) (old now : State D) (xs ys : List (Step Global)) (said reported : List code_answer.Answer) → ys ≡ xs → reported ≡ said → IsTurn view failures old xs said now → IsTurn view failures old ys reported now
turn_as view failures old now xs ys said reported steps answers turn =
    subst (λ (l : List code_answer.Answer). IsTurn view failures old ys l now) (sym answers) (subst (λ (l : List (Step Global)). IsTurn view failures old l said now) (sym steps) turn)

module _ {D : Type 0} (view : D → View) (failures : D → ℕ) (lawful : (disk : D) → IsTrue (view disk).is_honest → Lawful (view disk)) (old : State D) where
  abbrev s : Settings
  s = old.settings

  -- none yet
  pub no_turn : IsSound view old → IsTurn view failures old [] [] old
  no_turn sound = record {
    sound = sound;
    settings = refl;
    has_failed = refl;
    failed = refl;
    kept = record { honest = refl; size = refl };
    none = λ _. refl;
    trace = ((view old.disk).seen, (refl, refl, refl), λ _. refl);
    played = (refl, refl);
    exact = λ _. record { unrefused = refl; answers = refl; store = refl };
    words = λ _. tt;
    bytes = λ _. refl;
    is_synced = λ is_synced. is_synced;
    crash = λ _ is_synced. leaves_itself (view old.disk) _ (lawful old.disk is_synced.honest) is_synced
        (stands-last (batching s) s old.store (view old.disk).seen (view old.disk).seen [] refl);
  }

  -- a step after these
  module _ (xs : List (Step Global)) (said : List code_answer.Answer) (cur : State D) (turn : IsTurn view failures old xs said cur) (next : State D) where
    abbrev first : List ℕ
    first = (view old.disk).seen

    abbrev Stands : List (Step Global) → List ℕ → Type 0
    Stands ys c = StandsAfterSome (batching s) s old.store first ys c

    still_honest : IsTrue (view old.disk).is_honest → IsTrue (view cur.disk).is_honest
    still_honest honest = subst IsTrue (sym turn.kept.honest) honest

    -- if it was refused, the answers so far stay
    pub still_said : next.store ≡ cur.store → IsPlayed (view old.disk).is_honest s old.store first xs said next.store
    still_said store = subst (λ (y : Store). IsPlayed (view old.disk).is_honest s old.store first xs said y) (sym store) turn.played

    pub still_exact : next.store ≡ cur.store → IsTrue (view old.disk).is_honest → IsPlayedOn s old.store first xs said next.store
    still_exact store honest = subst (λ (y : Store). IsPlayedOn s old.store first xs said y) (sym store) (turn.exact honest)

    -- and everything else, unless a call of the disk failed in it
    pub stays : (next.settings ≡ cur.settings) × Kept (view cur.disk) (view next.disk)
        → next.store ≡ cur.store
        → (next.has_failed ≡ cur.has_failed) × (failures next.disk ≡ failures cur.disk)
        → (IsTrue (view cur.disk).is_honest → Same (view cur.disk) (view next.disk))
        → IsSound view next
        → IsTurn view failures old xs said next
    stays rest store counted same sound =
        let (last, on, seen) = turn.trace in
        record {
          sound = sound;
          settings = rest.0 ∙ turn.settings;
          has_failed = counted.0 ∙ turn.has_failed;
          failed = counted.1 ∙ turn.failed;
          kept = record { honest = rest.1.honest ∙ turn.kept.honest; size = rest.1.size ∙ turn.kept.size };
          none = turn.none;
          trace = (
            last,
            subst (λ (y : Store). IsPlayedTo (view old.disk).is_honest s old.store first xs said y last) (sym store) on,
            λ honest. seen honest ∙ sym (same (still_honest honest)).seen,
          );
          played = still_said store;
          exact = λ honest. still_exact store honest;
          words = turn.words;
          bytes = λ honest. (same (still_honest honest)).seen ∙ turn.bytes honest;
          is_synced = λ was. settled_still (view cur.disk) (view next.disk) rest.1 (same (still_honest was.honest)) (turn.is_synced was);
          crash = λ fine was. left_still (view old.disk) (view cur.disk) (view next.disk) (Stands xs) (turn.crash fine was) (same (still_honest was.honest));
        }

    -- why it was refused
    pub refused_after : (y : code_step.Step) (count : ℕ) (fault : Fault) → next.store ≡ cur.store
        → (file : List ℕ) × (IsTrue (view cur.disk).is_honest → file ≡ (view cur.disk).seen) × IsStepFault cur.settings cur.store file (failures cur.disk) count (step_of y) fault
        → (file : List ℕ) × (IsTrue (view old.disk).is_honest → file ≡ (plays (batching s) s old.store first xs).bytes) × IsStepFault s next.store file (failures old.disk) count (step_of y) fault
    refused_after y count fault store (file, shown, why) =
        let here = subst (λ (z : Settings). IsStepFault z cur.store file (failures cur.disk) count (step_of y) fault) turn.settings why in
        let there = subst (λ (n : ℕ). IsStepFault s cur.store file n count (step_of y) fault) turn.failed here in (
          file,
          λ honest. shown (still_honest honest) ∙ turn.bytes honest,
          subst (λ (z : Store). IsStepFault s z file (failures old.disk) count (step_of y) fault) (sym store) there,
        )

    -- the result from its start, whether it was refused or not
    module _ (x : Step Global) where
      abbrev Left : Settings → List ℕ → Type 0
      Left z c = IsLeftInStep z cur.store (view cur.disk).seen x c

      abbrev CrashOfStep : Type 0
      CrashOfStep = cur.has_failed ≡ false → IsSynced (view cur.disk) → LeavesOnly (view cur.disk) (view next.disk) (Left cur.settings)

      step_leaves : CrashOfStep → old.has_failed ≡ false → IsSynced (view old.disk) → LeavesOnly (view cur.disk) (view next.disk) (Left s)
      step_leaves crash fine was =
          subst (λ (z : Settings). LeavesOnly (view cur.disk) (view next.disk) (Left z)) turn.settings (crash (turn.has_failed ∙ fine) (turn.is_synced was))

      pub crash_on : CrashOfStep → old.has_failed ≡ false → IsSynced (view old.disk) → LeavesOnly (view old.disk) (view next.disk) (Stands (xs ++ x ∷ []))
      crash_on crash fine was =
          only_then (view old.disk) (view cur.disk) (view next.disk) (Stands (xs ++ x ∷ []))
          (weaker (view old.disk) (view cur.disk) (Stands xs) (Stands (xs ++ x ∷ [])) (λ c h. stands-later (batching s) s old.store first c xs (x ∷ []) h) (turn.crash fine was))
          (weaker (view cur.disk) (view next.disk) (Left s) (Stands (xs ++ x ∷ []))
          (λ c left. left_in s old.store first xs said cur.store (turn.exact was.honest) x (view cur.disk).seen c (turn.bytes was.honest) left)
          (step_leaves crash fine was))

      -- its numbers too have 64 bits
      pub words_on : IsTrue (view old.disk).is_honest → NumbersFit (batching cur.settings) cur.settings cur.store x → AllNumbersFit (batching s) s old.store first (xs ++ x ∷ [])
      words_on honest here =
          still_words s old.store first xs said cur.store (turn.exact honest) x (turn.words honest)
          (subst (λ (z : Settings). NumbersFit {A = Global} (batching z) z cur.store x) turn.settings here)

      pub left_after_it : Kept (view cur.disk) (view next.disk) → CrashOfStep → old.has_failed ≡ false → IsSynced (view old.disk) → (c : List ℕ) → (view next.disk).may_leave c
          → (store_of_disk c ≡ store_of_disk (plays (batching s) s old.store first xs).bytes) ⊎ (store_of_disk c ≡ store_of_disk (plays (batching s) s old.store first (xs ++ x ∷ [])).bytes)
      left_after_it kept crash fine was c left =
          left_by s old.store first xs said cur.store (turn.exact was.honest) x (view cur.disk).seen c (turn.bytes was.honest)
          (now_leaves (view cur.disk) (view next.disk) (Left s) (lawful next.disk (subst IsTrue (sym kept.honest) (still_honest was.honest))) (step_leaves crash fine was) c left)

      -- a step that is done
      abbrev DoneOn : Settings → code_answer.Answer → List ℕ → List ℕ → Type 0
      DoneOn z a file bytes = after_step (batching z) z cur.store file x ≡ Ok (answer_of a, (next.store, bytes))

      pub goes_on : (a : code_answer.Answer) → (bytes : List ℕ) × IsStepDone (view cur.disk).is_honest cur.settings cur.store (view cur.disk).seen x a next.store bytes
          → (next.settings ≡ cur.settings) × Kept (view cur.disk) (view next.disk)
          → (next.has_failed ≡ cur.has_failed) × (failures next.disk ≡ failures cur.disk)
          → cur.has_failed ≡ false
          → (IsTrue (view cur.disk).is_honest → DoneOn cur.settings a (view cur.disk).seen (view next.disk).seen)
          → (IsSynced (view cur.disk) → IsSynced (view next.disk))
          → CrashOfStep
          → IsSound view next
          → IsTurn view failures old (xs ++ x ∷ []) (said ++ a ∷ []) next
      goes_on a (left, done) rest counted fine bytes is_synced crash sound =
          let (last, on, seen) = turn.trace in
          let here : IsStepDone (view cur.disk).is_honest s cur.store (view cur.disk).seen x a next.store left =
          subst (λ (z : Settings). IsStepDone (view cur.disk).is_honest z cur.store (view cur.disk).seen x a next.store left) turn.settings done in
          let there : IsStepDone (view old.disk).is_honest s cur.store last x a next.store left =
          record { file = here.file; shown = λ honest. here.shown (still_honest honest) ∙ sym (seen honest); done = here.done; words = here.words } in
          let more = played_more (view old.disk).is_honest s old.store first xs said cur.store last x a next.store left on there in
          let now_seen : IsTrue (view old.disk).is_honest → DoneOn s a (view cur.disk).seen (view next.disk).seen =
          λ honest. subst (λ (z : Settings). DoneOn z a (view cur.disk).seen (view next.disk).seen) turn.settings (bytes (still_honest honest)) in
          let one : IsTrue (view old.disk).is_honest → DoneOn s a (plays (batching s) s old.store first xs).bytes (view next.disk).seen =
          λ honest. subst (λ (f : List ℕ). DoneOn s a f (view next.disk).seen) (turn.bytes honest) (now_seen honest) in
          record {
            sound = sound;
            settings = rest.0 ∙ turn.settings;
            has_failed = counted.0 ∙ turn.has_failed;
            failed = counted.1 ∙ turn.failed;
            kept = record { honest = rest.1.honest ∙ turn.kept.honest; size = rest.1.size ∙ turn.kept.size };
            none = λ bad. (let same = turn.has_failed in absurd (cc));
            trace = (left, more, λ honest. same_left a left (view next.disk).seen (subst (λ (f : List ℕ). DoneOn s a f left) (here.shown (still_honest honest)) here.done) (now_seen honest));
            played = played_to (view old.disk).is_honest s old.store first (xs ++ x ∷ []) (said ++ a ∷ []) next.store left more;
            exact = λ honest. still_played s old.store first xs said cur.store (turn.exact honest) x a next.store (view next.disk).seen (one honest);
            words = λ honest. still_words s old.store first xs said cur.store (turn.exact honest) x (turn.words honest) here.words;
            bytes = λ honest. sym (still_bytes s old.store first xs said cur.store (turn.exact honest) x (answer_of a) next.store (view next.disk).seen (one honest));
            is_synced = λ was. is_synced (turn.is_synced was);
            crash = λ fine was. crash_on crash fine was;
          }
        where
          same_left : (a : code_answer.Answer) (f g : List ℕ) → DoneOn s a (view cur.disk).seen f → DoneOn s a (view cur.disk).seen g → f ≡ g
          same_left a f g one other =
              ap (λ (p : Answer Global × (Store × List ℕ)). p.1.1) (same_ok (after_step (batching s) s cur.store (view cur.disk).seen x) (answer_of a, (next.store, f)) (answer_of a, (next.store, g)) one other)
