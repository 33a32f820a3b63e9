-- Cleans in turn: what is kept from one to the next.
use Rattle.std.specs.Prelude.{◌≡◌, ◌≢◌, ◌⊎◌, ℕ, zero, suc, ◌+◌, ◌<◌, Bool, IsTrue, false, List, [], ◌∷◌, ◌++◌, Result, Ok, Err, IfOk, OnOk, IfErr, OnErr, MatchResult}
use Rattle.std.proofs.Common.{refl, sym, ap, ◌∙◌, subst, arith}
use Rattle.std.specs.declared.alloc.Global.{Global}
use Rattle.keys.specs.declared.fault.Fault.{Fault}
use Rattle.keys.specs.declared.fault.Fault.TheVariants.{Device}
use Rattle.keys.specs.declared.settings.Settings.{Settings}
use Rattle.mapping.specs.Tree.{Store}
use Rattle.flush_log.specs.Disk.{View, Lawful}
use Rattle.recovery.proofs.ReadBytes.{kept_then}
use Rattle.recovery.proofs.StoreLemmas.{ok-then}
use Rattle.cleaner.specs.AfterClean.{after_clean}
use Rattle.cleaner.proofs.CleanBack.{cleaned-store}
use Rattle.engine.specs.Cleans.{cleans, AreCleaned, AreStopped, IsDoneClean, IsRefusedClean, IsCleanedOn, IsStoppedOn}
use Rattle.engine.specs.OneStep.{IsOnlyRead}
use Rattle.engine.specs.Plays.{IsStepDone, answer_of}
use Rattle.engine.specs.State.{State, IsSound}
use Rattle.engine.specs.Steps.{Step, Answer, Stepped}
use Rattle.engine.specs.Steps.Step.{Clean}
use Rattle.engine.specs.Steps.Answer.{Cleaned as said_cleaned}
use Rattle.engine.specs.declared.step.Answer as code_answer
use Rattle.engine.specs.declared.step.Answer.TheVariants as answered
use Rattle.engine.specs.declared.step.Step.TheVariants as called
use Rattle.engine.proofs.AsBefore.{done_clean, refused_clean}
use Rattle.engine.proofs.PlayTurn.{no_turn, turn_as, stays, still_said, still_exact, goes_on, crash_on, refused_after}

-- ---- steps

pub one_more_clean : (n : ℕ) → cleans (suc n) ≡ cleans n ++ Clean ∷ []
one_more_clean zero = refl
one_more_clean (suc n) = ap (λ (xs : List (Step Global)). Clean ∷ xs) (one_more_clean n)

abbrev Left : Type 0
Left = Store × List ℕ

abbrev ok_left : Left → Result Left Fault
ok_left p = Ok p

abbrev ok_step : Answer Global → Left → Stepped Global
ok_step a p = Ok (a, p)

pub same_left : (a b : Answer Global) (p q : Left) → ok_step a p ≡ ok_step b q → p ≡ q
same_left a b p q h =
    let pair : (let x : Answer Global × Left = (a, p) in x ≡ (b, q)) = cc in
    ap (λ (x : Answer Global × Left). x.1) pair

-- a clean leaves the tree as it is
clean_tree : (honest : Bool) (s : Settings) (st : Store) (seen : List ℕ) (a : code_answer.Answer) (now : Store) (bytes : List ℕ) → IsStepDone honest s st seen Clean a now bytes → now.tree ≡ st.tree
clean_tree honest s st seen a now bytes done =
    let (p, was, is) = ok-then (after_clean s st done.file) (λ (p : Left). ok_step (said_cleaned p.0.head) p) (answer_of a, (now, bytes)) done.done in
    (cleaned-store s st now done.file bytes (was ∙ ap ok_left (same_left (said_cleaned p.0.head) (answer_of a) p (now, bytes) is))).0

-- and the next segment is the first one after it
pub clean_head : (honest : Bool) (s : Settings) (st : Store) (seen : List ℕ) (a : code_answer.Answer) (now : Store) (bytes : List ℕ) → IsStepDone honest s st seen Clean a now bytes → now.head ≡ suc st.head
clean_head honest s st seen a now bytes done =
    let (p, was, is) = ok-then (after_clean s st done.file) (λ (p : Left). ok_step (said_cleaned p.0.head) p) (answer_of a, (now, bytes)) done.done in
    (cleaned-store s st now done.file bytes (was ∙ ap ok_left (same_left (said_cleaned p.0.head) (answer_of a) p (now, bytes) is))).1

pub one_head : {D : Type 0} (view : D → View) (failures : D → ℕ) (cur next : State D) (head : ℕ) → IsDoneClean view failures cur next head → next.store.head ≡ cur.store.head + 1
one_head view failures cur next head c =
    let a : code_answer.Answer = answered.Cleaned head in
    let (bytes, done) = (done_clean view failures cur next head c).ok in
    let one = clean_head (view cur.disk).is_honest cur.settings cur.store (view cur.disk).seen a next.store bytes done in
    omega (arith, one)

-- ---- so far

module _ {D : Type 0} (view : D → View) (failures : D → ℕ) (lawful : (disk : D) → IsTrue (view disk).is_honest → Lawful (view disk)) where
  -- none yet
  pub none_cleaned : (old : State D) → IsSound view old → AreCleaned view failures old 0 old
  none_cleaned old sound = record { said = []; turn = no_turn view failures lawful old sound; tree = refl }

  module _ (old : State D) (count : ℕ) (cur : State D) (done : AreCleaned view failures old count cur) (next : State D) where
    -- where only the disk was read
    pub still_cleaned : IsOnlyRead view failures cur next → AreCleaned view failures old count next
    still_cleaned r = record {
      said = done.said;
      turn = stays view failures lawful old (cleans count) done.said cur done.turn next r.rest r.store r.counted r.same r.sound;
      tree = ap (λ (x : Store). x.tree) r.store ∙ done.tree;
    }

    -- one more
    pub one_cleaned : (head : ℕ) → cur.has_failed ≡ false → IsDoneClean view failures cur next head → AreCleaned view failures old (suc count) next
    one_cleaned head fine c =
        let a : code_answer.Answer = answered.Cleaned head in
        let was = done_clean view failures cur next head c in
        record {
          said = done.said ++ a ∷ [];
          turn = turn_as view failures old next (cleans count ++ Clean ∷ []) (cleans (suc count)) (done.said ++ a ∷ []) (done.said ++ a ∷ []) (one_more_clean count) refl
              (goes_on view failures lawful old (cleans count) done.said cur done.turn next Clean a was.ok was.rest was.counted fine was.bytes was.is_synced was.crash was.sound.1);
          tree = clean_tree (view cur.disk).is_honest cur.settings cur.store (view cur.disk).seen a next.store was.ok.0 was.ok.1 ∙ done.tree;
        }

    -- one that was refused
    pub one_stopped : (fault : Fault) → IsRefusedClean view failures cur next fault → AreStopped view failures old next count fault
    one_stopped fault is =
        let r = refused_clean view failures cur next fault is in
        record {
          said = done.said;
          played = still_said view failures lawful old (cleans count) done.said cur done.turn next r.unchanged;
          exact = still_exact view failures lawful old (cleans count) done.said cur done.turn next r.unchanged;
          tree = ap (λ (x : Store). x.tree) r.unchanged ∙ done.tree;
          sound = r.sound.1;
          rest = (r.rest.0 ∙ done.turn.settings, kept_then (view old.disk) (view cur.disk) (view next.disk) done.turn.kept r.rest.1);
          turn = λ other. stays view failures lawful old (cleans count) done.said cur done.turn next r.rest r.unchanged (r.fine other) (λ honest. r.same honest other) r.sound.1;
          device = λ device. (r.device device).0;
          why = refused_after view failures lawful old (cleans count) done.said cur done.turn next called.Clean (failures next.disk) fault r.unchanged (r.refused is.0 refl);
          crash = λ fine was. crash_on view failures lawful old (cleans count) done.said cur done.turn next Clean r.crash fine was;
        }

  -- ---- further ones

  as_count : (old next : State D) (n m : ℕ) → n ≡ m → AreCleaned view failures old n next → AreCleaned view failures old m next
  as_count old next n m same done = subst (λ (k : ℕ). AreCleaned view failures old k next) same done

  -- one that was refused, but not by its disk, as if it had only been read
  pub only_read : (cur next : State D) (fault : Fault) → fault ≢ Device → IsRefusedClean view failures cur next fault → IsOnlyRead view failures cur next
  only_read cur next fault other r = r.1.undone other

  pub none_on : (cur : State D) → IsCleanedOn view failures cur 0 cur
  none_on cur old count done = as_count old cur count (count + 0) (omega arith) done

  module _ (cur : State D) (more : ℕ) (mid : State D) (on : IsCleanedOn view failures cur more mid) (next : State D) where
    pub one_on : (head : ℕ) → mid.has_failed ≡ false → IsDoneClean view failures mid next head → IsCleanedOn view failures cur (more + 1) next
    one_on head fine c old count done = as_count old next (suc (count + more)) (count + (more + 1)) (omega arith) (one_cleaned old (count + more) mid (on old count done) next head fine c)

    pub refused_on : (fault : Fault) → fault ≢ Device → IsRefusedClean view failures mid next fault → IsCleanedOn view failures cur more next
    refused_on fault other r old count done = still_cleaned old (count + more) mid (on old count done) next (only_read mid next fault other r)

    pub stopped_on : (fault : Fault) → IsRefusedClean view failures mid next fault → IsStoppedOn view failures cur more fault next
    stopped_on fault r old count done = one_stopped old (count + more) mid (on old count done) next fault r

  -- after the log was read for them
  pub read_then : (cur mid next : State D) (more : ℕ) → IsOnlyRead view failures cur mid → IsCleanedOn view failures mid more next → IsCleanedOn view failures cur more next
  read_then cur mid next more r on old count done = on old count (still_cleaned old count cur done mid r)

  pub read_then_stopped : (cur mid next : State D) (more : ℕ) (fault : Fault) → IsOnlyRead view failures cur mid → IsStoppedOn view failures mid more fault next → IsStoppedOn view failures cur more fault next
  read_then_stopped cur mid next more fault r on old count done = on old count (still_cleaned old count cur done mid r)

-- ---- the result

pub if_ok : {X : Type 0} (r : Result X Fault) (P Q : X → Type 0) → IfOk r P → ((x : X) → P x → Q x) → IfOk r Q
if_ok (Ok x) P Q h step = step x h
if_ok (Err fault) P Q h step = tt

pub if_err : {X : Type 0} (r : Result X Fault) (P Q : Fault → Type 0) → IfErr r P → ((fault : Fault) → P fault → Q fault) → IfErr r Q
if_err (Ok x) P Q h step = tt
if_err (Err fault) P Q h step = step fault h

pub on_ok : {X : Type 0} (r : Result X Fault) (P Q : Type 0) → OnOk r P → (P → Q) → OnOk r Q
on_ok (Ok x) P Q h step = step h
on_ok (Err fault) P Q h step = tt

pub err_and : {X : Type 0} (r : Result X Fault) (P : Fault → Type 0) (Q R : Type 0) → IfErr r P → OnErr r Q → R → IfErr r (λ fault. P fault × Q × R)
err_and (Ok x) P Q R h on rest = tt
err_and (Err fault) P Q R h on rest = (h, on, rest)

-- after a clean that was refused, when so many had been done
abbrev IsAfterSome : ℕ → Fault → Result ℕ Fault → Type 0
IsAfterSome done fault r = MatchResult r (λ n. (n ≡ done) × (0 < done) × (fault ≢ Device)) (λ reported. (reported ≡ fault) × ((done ≡ 0) ⊎ (fault ≡ Device)))

pub some_done : (r : Result ℕ Fault) (done : ℕ) (fault : Fault) (P : ℕ → Type 0) → IsAfterSome done fault r → (0 < done → fault ≢ Device → P done) → IfOk r P
some_done (Ok n) done fault P (same, some, other) p = subst P (sym same) (p some other)
some_done (Err reported) done fault P h p = tt

pub some_stopped : (r : Result ℕ Fault) (done : ℕ) (fault : Fault) (P : Fault → Type 0) → IsAfterSome done fault r → ((done ≡ 0) ⊎ (fault ≡ Device) → P fault) → IfErr r P
some_stopped (Ok n) done fault P h p = tt
some_stopped (Err reported) done fault P (same, why) p = subst P (sym same) (p why)

pub either : {X S : Type 0} (r : Result X Fault) (P : X → Type 0) (Q : Fault → Type 0) → IfOk r P → IfErr r Q → ((x : X) → P x → S) → ((fault : Fault) → Q fault → S) → S
either (Ok x) P Q p q done stopped = done x p
either (Err fault) P Q p q done stopped = stopped fault q
