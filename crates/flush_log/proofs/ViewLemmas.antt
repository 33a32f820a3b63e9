-- The outcomes of a crash during sequences of calls, on any disk: for the proofs of code that writes to a disk. A state of a disk is no value that a
-- contract can quantify over, so these laws are not contracts of functions.
use Rattle.std.proofs.Common.{◌≡◌, inl, inr, ⊎_elim, ℕ, zero, suc, ◌+◌, ◌-◌, ◌^◌, ◌≤◌, min, List, [], ◌∷◌, ◌++◌, length, take, refl, sym, ap, subst, ◌∙◌, arith, Result, Ok, Err, IsErr, IfOk}
use Rattle.std.proofs.lemmas.Bool.{cases_lt, false≢true}
use Rattle.std.proofs.lemmas.List.{length-take}
use Rattle.flush_log.specs.Overlay.{overlay, IsBeside}
use Rattle.flush_log.specs.Disk.{HasFailed, CountsFailure, View, Lawful, Only, IsSynced, Torn, Elapses, Leaves, LeavesOnly}
use Rattle.flush_log.specs.Commit.{Call, seen_after, MayLeave, LeftDuring}
use Rattle.flush_log.specs.Commit.Call.{Write, Sync}
use Rattle.flush_log.proofs.OverlayLemmas.{agree_less}
use Rattle.flush_log.proofs.CallLemmas.{During, TornFrom, seen_after-append, after_all}

-- ---- failures

-- one failure is one
pub counted_failed : (old new : ℕ) → new ≡ min (old + 1) (2 ^ 64 - 1) → HasFailed old new
counted_failed old new is = elim (cases_lt (old + 1) (2 ^ 64 - 1)) [
  | inl less ↦ inl (omega (arith, is, less))
  | inr most ↦ inr (omega (arith, is, most))
]

-- a call that failed is counted, and need not satisfy what an Ok promises
pub counts_failed : {X E : Type 0} (result : Result X E) (old new : ℕ) → IsErr result → new ≡ min (old + 1) (2 ^ 64 - 1) → CountsFailure result old new
counts_failed (Ok x) old new is h = absurd (false≢true is)
counts_failed (Err e) old new is h = h

pub owes_nothing : {X E : Type 0} (result : Result X E) (P : X → Type 0) → IsErr result → IfOk result P
owes_nothing (Ok x) P is = absurd (false≢true is)
owes_nothing (Err e) P is = tt

-- and what holds is no less after an Ok
pub always : {X E P : Type 0} (result : Result X E) → P → IfOk result (λ _. P)
always (Ok x) p = p
always (Err e) p = tt

-- ---- runs by steps

pub elapses_then : (a b c : View) → Elapses a b → Elapses b c → Elapses a c
elapses_then a b c first second = record {
  later = omega (arith, first.later, second.later);
  splits = λ t x le left. ⊎_elim
      (λ was. ⊎_elim (λ old. inl old) (λ now. inr (second.keeps a.moment x first.later (inl now))) (first.splits t x le was))
      (λ now. inr (second.keeps a.moment x first.later (inr now)))
      (second.splits t x (omega (arith, le, first.later)) left);
  keeps = λ t x le left. ⊎_elim
      (λ was. second.keeps t x (omega (arith, le, first.later)) (inl (first.keeps t x le (inl was))))
      (λ now. ⊎_elim
      (λ mid. second.keeps t x (omega (arith, le, first.later)) (inl (first.keeps t x le (inr mid))))
      (λ last. second.keeps t x (omega (arith, le, first.later)) (inr last))
      (second.splits a.moment x first.later now))
      left;
}

-- a run by steps r and then one by steps s, where r and then s is a step q, and so is r alone
pub then : (a b c : View) (r s q : List ℕ → List ℕ → Type 0) → Lawful b → ((d e f : List ℕ) → r d e → s e f → q d f) → ((d e : List ℕ) → r d e → q d e) → Leaves a b r → Leaves b c s → Leaves a c q
then a b c r s q law both one first second = record {
  time = elapses_then a b c first.time second.time;
  crash = λ x left. ⊎_elim
      (λ was. let from = first.crash x was in (from.0, from.1, one from.0 x from.2))
      (λ now.
      let mid = second.crash x now in
      let from = first.crash mid.0 (law.counts_now a.moment mid.0 first.time.later mid.1) in
      (from.0, from.1, both from.0 mid.0 x from.2 mid.2))
      (second.time.splits a.moment x first.time.later left);
}

-- if no call is made, the state is unchanged
pub nothing_leaves : (v : View) (step : List ℕ → List ℕ → Type 0) → Lawful v → ((c : List ℕ) → step c c) → Leaves v v step
nothing_leaves v step law stays = record {
  time = record {
    later = omega arith;
    splits = λ t c le left. inl left;
    keeps = λ t c le left. ⊎_elim (λ was. was) (λ now. law.counts_now t c le (law.only_now c now)) left;
  };
  crash = λ c left. (c, law.only_now c left, stays c);
}

-- what was torn in fewer bytes was torn in more
pub torn_more : (at few many : ℕ) (file c : List ℕ) → few ≤ many → Torn at few file c → Torn at many file c
torn_more at few many file c more torn =
    agree_less (IsBeside at few) (IsBeside at many) file c (λ i out. ⊎_elim (λ low. inl low) (λ high. inr (omega (arith, more, high))) out) torn

pub leaves_more : (old new : View) (at few many : ℕ) → few ≤ many → Leaves old new (Torn at few) → Leaves old new (Torn at many)
leaves_more old new at few many more run = record {
  time = run.time;
  crash = λ c left. let from = run.crash c left in (from.0, from.1, torn_more at few many from.0 c more from.2);
}

-- of the first bytes of a range
pub leaves_part : (old new : View) (at k : ℕ) (bytes : List ℕ) → Leaves old new (Torn at (length (take k bytes))) → Leaves old new (Torn at (length bytes))
leaves_part old new at k bytes run = leaves_more old new at (length (take k bytes)) (length bytes) (let long = length-take k bytes in omega (arith, long)) run

-- ---- runs by what they leave

-- by steps that lead from what a crash might leave to what has P
pub leaves_only : (old new : View) (step : List ℕ → List ℕ → Type 0) (P : List ℕ → Type 0) → ((d c : List ℕ) → old.may_leave d → step d c → P c) → Leaves old new step → LeavesOnly old new P
leaves_only old new step P so run = record {
  later = run.time.later;
  each = λ c left. let from = run.crash c left in so from.0 c from.1 from.2;
  before = λ t c le left. ⊎_elim (λ was. inl was) (λ now. inr (let from = run.crash c now in so from.0 c from.1 from.2)) (run.time.splits t c le left);
}

pub only_then : (a b c : View) (P : List ℕ → Type 0) → LeavesOnly a b P → LeavesOnly b c P → LeavesOnly a c P
only_then a b c P first second = record {
  later = omega (arith, first.later, second.later);
  each = λ x left. ⊎_elim (first.each x) (λ now. now) (second.before a.moment x first.later left);
  before = λ t x le left. ⊎_elim (first.before t x le) (λ now. inr now) (second.before t x (omega (arith, le, first.later)) left);
}

pub weaker : (old new : View) (P Q : List ℕ → Type 0) → ((c : List ℕ) → P c → Q c) → LeavesOnly old new P → LeavesOnly old new Q
weaker old new P Q so run = record {
  later = run.later;
  each = λ c left. so c (run.each c left);
  before = λ t c le left. ⊎_elim (λ was. inl was) (λ now. inr (so c now)) (run.before t c le left);
}

-- what is known of a run is known of a crash now
pub now_leaves : (old new : View) (P : List ℕ → Type 0) → Lawful new → LeavesOnly old new P → (c : List ℕ) → new.may_leave c → P c
now_leaves old new P law run c left = run.each c (law.counts_now old.moment c run.later left)

-- ---- runs by their calls

pub leave-joined : (xs ys : List Call) (seen : List ℕ) (might : List ℕ → Type 0) (c : List ℕ) → MayLeave ys (seen_after xs seen) (MayLeave xs seen might) c → MayLeave (xs ++ ys) seen might c
leave-joined [] ys seen might c h = h
leave-joined (Write at bytes ∷ xs) ys seen might c h = leave-joined xs ys (overlay seen at bytes) (TornFrom might at bytes) c h
leave-joined (Sync ∷ xs) ys seen might c h = leave-joined xs ys seen (λ e. e ≡ seen) c h

during-first : (xs ys : List Call) (seen : List ℕ) (might : List ℕ → Type 0) (c : List ℕ) → During xs seen might c → During (xs ++ ys) seen might c
during-first xs ys seen might c (zero, h) = (zero, h)
during-first [] ys seen might c (suc k, h) = (zero, h)
during-first (Write at bytes ∷ xs) ys seen might c (suc k, h) = let more = during-first xs ys (overlay seen at bytes) (TornFrom might at bytes) c (k, h) in (suc more.0, more.1)
during-first (Sync ∷ xs) ys seen might c (suc k, h) = let more = during-first xs ys seen (λ e. e ≡ seen) c (k, h) in (suc more.0, more.1)

-- what fewer calls leave, more may leave
pub during_more : (xs ys : List Call) (file c : List ℕ) → LeftDuring xs file c → LeftDuring (xs ++ ys) file c
during_more xs ys file c h = during-first xs ys file (λ d. d ≡ file) c h

-- from a synced disk these calls were made, and each returned Ok
pub record AreMade (old new : View) (calls : List Call) : Type 0 where
  pub seen : new.seen ≡ seen_after calls old.seen
  pub now : (c : List ℕ) → new.may_leave c → MayLeave calls old.seen (λ d. d ≡ old.seen) c
  pub since : LeavesOnly old new (LeftDuring calls old.seen)

pub none_made : (v : View) → Lawful v → IsSynced v → AreMade v v []
none_made v law is_synced = record {
  seen = refl;
  now = λ c left. is_synced.only c left;
  since = record {
    later = omega arith;
    each = λ c left. (0, is_synced.only c (law.only_now c left));
    before = λ t c le left. inl left;
  };
}

module _ (old mid new : View) (calls : List Call) (made : AreMade old mid calls) where
  -- a write, whether it returned Ok or not
  pub write_leaves : (at : ℕ) (bytes : List ℕ) → Leaves mid new (Torn at (length bytes)) → LeavesOnly old new (LeftDuring (calls ++ Write at bytes ∷ []) old.seen)
  write_leaves at bytes wrote =
      only_then old mid new (LeftDuring (calls ++ Write at bytes ∷ []) old.seen)
      (weaker old mid (LeftDuring calls old.seen) (LeftDuring (calls ++ Write at bytes ∷ []) old.seen) (λ c h. during_more calls (Write at bytes ∷ []) old.seen c h) made.since)
      (leaves_only mid new (Torn at (length bytes)) (LeftDuring (calls ++ Write at bytes ∷ []) old.seen)
      (λ d c might torn. after_all (calls ++ Write at bytes ∷ []) old.seen (λ e. e ≡ old.seen) c
      (leave-joined calls (Write at bytes ∷ []) old.seen (λ e. e ≡ old.seen) c (d, made.now d might, torn))) wrote)

  pub write_made : (at : ℕ) (bytes : List ℕ) → Lawful new → Leaves mid new (Torn at (length bytes)) → new.seen ≡ overlay mid.seen at bytes → AreMade old new (calls ++ Write at bytes ∷ [])
  write_made at bytes law wrote is = record {
    seen = is ∙ ap (λ (f : List ℕ). overlay f at bytes) made.seen ∙ sym (seen_after-append calls (Write at bytes ∷ []) old.seen);
    now = λ c left.
        let (d, might, torn) = wrote.crash c (law.counts_now mid.moment c wrote.time.later left) in
        leave-joined calls (Write at bytes ∷ []) old.seen (λ e. e ≡ old.seen) c (d, made.now d might, torn);
    since = write_leaves at bytes wrote;
  }

  -- a sync, whether it returned Ok or not
  pub sync_leaves : Leaves mid new (λ d c. c ≡ d) → LeavesOnly old new (LeftDuring calls old.seen)
  sync_leaves synced =
      only_then old mid new (LeftDuring calls old.seen) made.since
      (leaves_only mid new (λ d c. c ≡ d) (LeftDuring calls old.seen)
      (λ d c might is. after_all calls old.seen (λ e. e ≡ old.seen) c (made.now c (subst mid.may_leave (sym is) might))) synced)

  pub sync_made : Leaves mid new (λ d c. c ≡ d) → Only new.seen new.may_leave → new.seen ≡ mid.seen → AreMade old new (calls ++ Sync ∷ [])
  sync_made synced only is = record {
    seen = is ∙ made.seen ∙ sym (seen_after-append calls (Sync ∷ []) old.seen);
    now = λ c left. leave-joined calls (Sync ∷ []) old.seen (λ e. e ≡ old.seen) c (only c left ∙ is ∙ made.seen);
    since = weaker old new (LeftDuring calls old.seen) (LeftDuring (calls ++ Sync ∷ []) old.seen) (λ c h. during_more calls (Sync ∷ []) old.seen c h) (sync_leaves synced);
  }
