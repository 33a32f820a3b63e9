-- Turns of a play in terms of the trait: two turns one after the other, and a step that fails after a turn.
use Rattle.std.specs.Prelude.{◌≡◌, ◌≢◌, ◌⊎◌, ℕ, suc, ◌<◌, Bool, IsTrue, true, false, List, [], ◌∷◌, ◌++◌, length, map, drop, Option, Some, None, Result, Err}
use Rattle.std.proofs.Common.{refl, sym, ap, ◌∙◌, subst, inl, inr, ⊎_elim, arith}
use Rattle.std.proofs.lemmas.List.{append-nil, length-append, map-append, take-append-le}
use Rattle.std.specs.declared.alloc.Global.{Global}
use Rattle.keys.specs.Bytes.{Bytes, Pairs}
use Rattle.keys.specs.Step.{replies_to, map_after_all}
use Rattle.keys.specs.declared.command.Command.{Command}
use Rattle.keys.specs.declared.command.Reply.{Reply}
use Rattle.keys.specs.declared.fault.Fault.{Fault}
use Rattle.keys.specs.declared.fault.Fault.TheVariants.{Device, Failed, NoMemory}
use Rattle.keys.specs.declared.settings.Settings.{Settings}
use Rattle.flush_log.specs.Disk.{View, Lawful, IsSynced, Kept, LeavesOnly, Same}
use Rattle.flush_log.proofs.SameLemmas.{leaves_itself, left_still, settled_still}
use Rattle.flush_log.proofs.ViewLemmas.{now_leaves, only_then, weaker}
use Rattle.recovery.proofs.ReadBytes.{kept_self, kept_then}
use Rattle.engine.specs.Claim.{Held}
use Rattle.engine.specs.ClaimPlay.{Members, StateCalls, AreAnswered, IsTurnOf, IsStoppedOf, IsDurableAfterSome, after_number, contents_after, durable_after, members_of, numbers_in, state_after, then_next}
use Rattle.engine.specs.Plays.{answer_of}
use Rattle.engine.specs.Steps.{Step, Answer}
use Rattle.engine.specs.Steps.Step.{Batch, Flush, Clean, Upgrade}
use Rattle.engine.specs.Steps.Answer.{Replies, Flushed, Cleaned, Upgraded}
use Rattle.engine.specs.declared.step.Answer as code_answer
use Rattle.engine.specs.declared.step.Step as code_step
use Rattle.engine.proofs.PlayTurn.{device_or_not}
use Rattle.engine.proofs.RefusedCalls.{not_both}

-- ---- more steps

answered-append : (m : Pairs Bytes) (xs ys : List (Step Global)) (answers more : List (Answer Global)) → AreAnswered m xs answers → AreAnswered (contents_after m xs) ys more → AreAnswered m (xs ++ ys) (answers ++ more)
answered-append m [] ys answers more none on = subst (λ (l : List (Answer Global)). AreAnswered m ys (l ++ more)) (sym none) on
answered-append m (Batch cs ∷ xs) ys answers more (rest, is, first) on =
    (rest ++ more, ap (λ (l : List (Answer Global)). l ++ more) is, answered-append (map_after_all m cs) xs ys rest more first on)
answered-append m (Flush ∷ xs) ys answers more (n, rest, is, first) on =
    (n, rest ++ more, ap (λ (l : List (Answer Global)). l ++ more) is, answered-append m xs ys rest more first on)
answered-append m (Clean ∷ xs) ys answers more (n, rest, is, first) on =
    (n, rest ++ more, ap (λ (l : List (Answer Global)). l ++ more) is, answered-append m xs ys rest more first on)
answered-append m (Upgrade ∷ xs) ys answers more (n, rest, is, first) on =
    (n, rest ++ more, ap (λ (l : List (Answer Global)). l ++ more) is, answered-append m xs ys rest more first on)

contents-append : (m : Pairs Bytes) (xs ys : List (Step Global)) → contents_after m (xs ++ ys) ≡ contents_after (contents_after m xs) ys
contents-append m [] ys = refl
contents-append m (Batch cs ∷ xs) ys = contents-append (map_after_all m cs) xs ys
contents-append m (Flush ∷ xs) ys = contents-append m xs ys
contents-append m (Clean ∷ xs) ys = contents-append m xs ys
contents-append m (Upgrade ∷ xs) ys = contents-append m xs ys

module _ (s : Settings) where
  durable-append : (h : Option Held) (m : Pairs Bytes) (xs ys : List (Step Global)) → durable_after s h m (xs ++ ys) ≡ durable_after s (durable_after s h m xs) (contents_after m xs) ys
  durable-append h m [] ys = refl
  durable-append h m (Batch cs ∷ xs) ys = durable-append h (map_after_all m cs) xs ys
  durable-append h m (Flush ∷ xs) ys = durable-append (Some (s, m)) m xs ys
  durable-append h m (Clean ∷ xs) ys = durable-append h m xs ys
  durable-append h m (Upgrade ∷ xs) ys = durable-append (Some (s, m)) m xs ys

  some-first : (h : Option Held) (m : Pairs Bytes) (xs ys : List (Step Global)) (c : Option Held) → IsDurableAfterSome s h m xs c → IsDurableAfterSome s h m (xs ++ ys) c
  some-first h m xs ys c (n, few, e) =
      let long = length-append xs ys in
      (n, omega (arith, few, long), e ∙ ap (λ (zs : List (Step Global)). durable_after s h m zs) (sym (take-append-le n xs ys few)))

  some-later : (h : Option Held) (m : Pairs Bytes) (xs ys : List (Step Global)) (c : Option Held) → IsDurableAfterSome s (durable_after s h m xs) (contents_after m xs) ys c → IsDurableAfterSome s h m (xs ++ ys) c
  some-later h m [] ys c is = is
  some-later h m (Batch cs ∷ xs) ys c is = (let (n, few, e) = some-later h (map_after_all m cs) xs ys c is in (suc n, omega (arith, few), e))
  some-later h m (Flush ∷ xs) ys c is = (let (n, few, e) = some-later (Some (s, m)) m xs ys c is in (suc n, omega (arith, few), e))
  some-later h m (Clean ∷ xs) ys c is = (let (n, few, e) = some-later h m xs ys c is in (suc n, omega (arith, few), e))
  some-later h m (Upgrade ∷ xs) ys c is = (let (n, few, e) = some-later (Some (s, m)) m xs ys c is in (suc n, omega (arith, few), e))

numbers-append : (answers more : List (Answer Global)) → numbers_in (answers ++ more) ≡ numbers_in answers ++ numbers_in more
numbers-append [] more = refl
numbers-append (Replies rs ∷ answers) more = numbers-append answers more
numbers-append (Flushed n ∷ answers) more = ap (λ (ns : List ℕ). n ∷ ns) (numbers-append answers more)
numbers-append (Cleaned n ∷ answers) more = ap (λ (ns : List ℕ). n ∷ ns) (numbers-append answers more)
numbers-append (Upgraded n ∷ answers) more = ap (λ (ns : List ℕ). n ∷ ns) (numbers-append answers more)

module _ {State : Type 0} (f : StateCalls State) (s : Settings) (ys : List (Step Global)) (mid last : State) (bytes left : Bytes) (more : List ℕ)
    (on : state_after f s mid bytes ys ≡ Some (more, last, left)) where
  -- numbers, a state and bytes
  abbrev Left : Type 0
  Left = List ℕ × State × Bytes

  -- these steps lead to the state between, and then all the steps to the last one
  abbrev LeadsOn : Option Left → Option Left → Type 0
  LeadsOn first all = (ns : List ℕ) → first ≡ Some (ns, mid, bytes) → all ≡ Some (ns ++ more, last, left)

  numbered_on : (n : ℕ) (first all : Option Left) → LeadsOn first all → LeadsOn (after_number n first) (after_number n all)
  numbered_on n None all on ns e = absurd (cc)
  numbered_on n (Some (ms, st, file)) all on ns e =
      let same : (let p : Left = (n ∷ ms, st, file) in p ≡ (ns, mid, bytes)) = cc in
      let now = ap (λ (p : Left). p.1) same in
      let there = ap (λ (p : Left). p.2) same in
      let numbers = ap (λ (p : Left). p.0) same in
      ap (after_number n) (on ms (ap (λ (x : State). (let q : Option Left = Some (ms, x, file) in q)) now ∙ ap (λ (x : Bytes). (let q : Option Left = Some (ms, mid, x) in q)) there))
      ∙ ap (λ (x : List ℕ). (let q : Option Left = Some (x ++ more, last, left) in q)) numbers

  state-by : (o : Option (ℕ × State × Bytes)) (xs : List (Step Global))
      → ((st : State) (file : Bytes) → LeadsOn (state_after f s st file xs) (state_after f s st file (xs ++ ys)))
      → LeadsOn (then_next o (λ now file. state_after f s now file xs)) (then_next o (λ now file. state_after f s now file (xs ++ ys)))
  state-by None xs ih ns e = absurd (cc)
  state-by (Some p) xs ih ns e = numbered_on p.0 (state_after f s p.1 p.2 xs) (state_after f s p.1 p.2 (xs ++ ys)) (ih p.1 p.2) ns e

  state-append : (xs : List (Step Global)) (st : State) (file : Bytes) → LeadsOn (state_after f s st file xs) (state_after f s st file (xs ++ ys))
  state-append [] st file ns e =
      let same : (let p : Left = ([], st, file) in p ≡ (ns, mid, bytes)) = cc in
      let now = ap (λ (p : Left). p.1) same in
      let there = ap (λ (p : Left). p.2) same in
      let none = ap (λ (p : Left). p.0) same in
      ap (λ (x : State). state_after f s x file ys) now
      ∙ ap (λ (x : Bytes). state_after f s mid x ys) there
      ∙ on
      ∙ ap (λ (x : List ℕ). (let q : Option Left = Some (x ++ more, last, left) in q)) none
  state-append (Batch cs ∷ xs) st file ns e = state-append xs (f.batch s st cs) file ns e
  state-append (Flush ∷ xs) st file ns e = state-by (f.flush s st file) xs (state-append xs) ns e
  state-append (Clean ∷ xs) st file ns e = state-by (f.clean s st file) xs (state-append xs) ns e
  state-append (Upgrade ∷ xs) st file ns e = state-by (f.upgrade s st file) xs (state-append xs) ns e

-- ---- turns

module _ {State : Type 0} (recovered : Bytes → Option Held) (calls : StateCalls State) where
  -- no step yet
  pub no_turn_of : (old : Members State) → (IsTrue old.disk.is_honest → Lawful old.disk) → IsTurnOf recovered calls old [] [] old
  no_turn_of old lawful = record {
    answered = refl;
    contents = refl;
    rest = (refl, refl, kept_self old.disk);
    none = λ _. refl;
    durable = λ _. refl;
    state = λ _. refl;
    is_synced = λ is_synced. is_synced;
    crash = λ is_synced. leaves_itself old.disk _ (lawful is_synced.honest) is_synced (0, omega arith, refl);
  }

  -- more steps after a turn
  module _ (old mid new : Members State) (xs ys : List (Step Global)) (answers more : List (Answer Global)) (first : IsTurnOf recovered calls old xs answers mid) where
    honest_still : IsTrue old.disk.is_honest → IsTrue mid.disk.is_honest
    honest_still honest = subst IsTrue (sym first.rest.2.honest) honest

    -- the durable state after more steps
    pub durable_there : IsTrue old.disk.is_honest → (zs : List (Step Global))
        → durable_after mid.settings (recovered mid.disk.seen) mid.contents zs ≡ durable_after old.settings (recovered old.disk.seen) old.contents (xs ++ zs)
    durable_there honest zs =
        ap (λ (s : Settings). durable_after s (recovered mid.disk.seen) mid.contents zs) first.rest.0
        ∙ ap (λ (h : Option Held). durable_after old.settings h mid.contents zs) (first.durable honest)
        ∙ ap (λ (m : Pairs Bytes). durable_after old.settings (durable_after old.settings (recovered old.disk.seen) old.contents xs) m zs) first.contents
        ∙ sym (durable-append old.settings (recovered old.disk.seen) old.contents xs zs)

    some_there : IsTrue old.disk.is_honest → (zs : List (Step Global)) (c : Option Held)
        → IsDurableAfterSome mid.settings (recovered mid.disk.seen) mid.contents zs c → IsDurableAfterSome old.settings (recovered old.disk.seen) old.contents (xs ++ zs) c
    some_there honest zs c is =
        some-later old.settings (recovered old.disk.seen) old.contents xs zs c
        (subst (λ (m : Pairs Bytes). IsDurableAfterSome old.settings (durable_after old.settings (recovered old.disk.seen) old.contents xs) m zs c) first.contents
        (subst (λ (h : Option Held). IsDurableAfterSome old.settings h mid.contents zs c) (first.durable honest)
        (subst (λ (s : Settings). IsDurableAfterSome s (recovered mid.disk.seen) mid.contents zs c) first.rest.0 is)))

    -- a crash in the steps after the turn
    pub crash_of : (zs : List (Step Global)) → IsSynced old.disk
        → LeavesOnly mid.disk new.disk (λ c. IsDurableAfterSome mid.settings (recovered mid.disk.seen) mid.contents zs (recovered c))
        → LeavesOnly old.disk new.disk (λ c. IsDurableAfterSome old.settings (recovered old.disk.seen) old.contents (xs ++ zs) (recovered c))
    crash_of zs is_synced later =
        only_then old.disk mid.disk new.disk _
        (weaker old.disk mid.disk _ _ (λ c is. some-first old.settings (recovered old.disk.seen) old.contents xs zs (recovered c) is) (first.crash is_synced))
        (weaker mid.disk new.disk _ _ (λ c is. some_there is_synced.honest zs (recovered c) is) later)

    contents_of : new.contents ≡ contents_after mid.contents ys → new.contents ≡ contents_after old.contents (xs ++ ys)
    contents_of next =
        next
        ∙ ap (λ (m : Pairs Bytes). contents_after m ys) first.contents
        ∙ sym (contents-append old.contents xs ys)

    none_after : IsTurnOf recovered calls mid ys more new → old.has_failed ≡ true → xs ++ ys ≡ []
    none_after next bad = ap (λ (zs : List (Step Global)). zs ++ ys) (first.none bad) ∙ next.none (first.rest.1 ∙ bad)

    pub turns_on : IsTurnOf recovered calls mid ys more new → IsTurnOf recovered calls old (xs ++ ys) (answers ++ more) new
    turns_on next = record {
      answered = answered-append old.contents xs ys answers more first.answered (subst (λ (m : Pairs Bytes). AreAnswered m ys more) first.contents next.answered);
      contents = contents_of next.contents;
      rest = (next.rest.0 ∙ first.rest.0, next.rest.1 ∙ first.rest.1, kept_then _ _ _ first.rest.2 next.rest.2);
      none = none_after next;
      durable = λ honest. next.durable (honest_still honest) ∙ durable_there honest ys;
      state = λ honest.
          state-append calls old.settings ys mid.state new.state mid.disk.seen new.disk.seen (numbers_in more)
          (ap (λ (s : Settings). state_after calls s mid.state mid.disk.seen ys) (sym first.rest.0) ∙ next.state (honest_still honest))
          xs old.state old.disk.seen (numbers_in answers) (first.state honest)
          ∙ ap (λ (ns : List ℕ). (let q : Option (List ℕ × State × Bytes) = Some (ns, new.state, new.disk.seen) in q)) (sym (numbers-append answers more));
      is_synced = λ is_synced. next.is_synced (first.is_synced is_synced);
      crash = λ is_synced. crash_of ys is_synced (next.crash (first.is_synced is_synced));
    }

-- ---- one step that succeeded

-- after a clean, the two outcomes are one
pub either_is : (recovered : Bytes → Option Held) (old new : View) (held : Option Held) → LeavesOnly old new (λ k. recovered k ≡ held) → LeavesOnly old new (λ k. (recovered k ≡ held) ⊎ (recovered k ≡ held))
either_is recovered old new held crash = weaker old new (λ k. recovered k ≡ held) (λ k. (recovered k ≡ held) ⊎ (recovered k ≡ held)) (λ k is. inl is) crash

-- the numbers, the state and the bytes after one call
pub next_is : {State : Type 0} (o : Option (ℕ × State × Bytes)) (n : ℕ) (st : State) (file : Bytes) → o ≡ Some (n, st, file) → then_next o (λ now bytes. Some ([], now, bytes)) ≡ Some (n ∷ [], st, file)
next_is {State = State} o n st file e = ap (λ (q : Option (ℕ × State × Bytes)). then_next q (λ now bytes. Some ([], now, bytes))) e

module _ {D State : Type 0} (view : D → View) (lawful : (disk : D) → IsTrue (view disk).is_honest → Lawful (view disk)) (recovered : Bytes → Option Held) (calls : StateCalls State)
    (m now : Pairs Bytes) (s t : Settings) (b c : Bool) (st next : State) (d e : D) where
  abbrev pub before : Members State
  before = record { contents = m; settings = s; has_failed = b; state = st; disk = view d }

  abbrev pub left : Members State
  left = record { contents = now; settings = t; has_failed = c; state = next; disk = view e }

  pub batch_turn : (cs : List (Command Global)) (rs : List (Reply Global)) → b ≡ false → rs ≡ replies_to m cs → now ≡ map_after_all m cs → (t ≡ s) × (e ≡ d) × (c ≡ b) → next ≡ calls.batch s st cs
      → IsTurnOf recovered calls before (Batch cs ∷ []) (Replies rs ∷ []) left
  batch_turn cs rs fine replies contents (settings, disk, failed) state = record {
    answered = ([], ap (λ (x : List (Reply Global)). (let l : List (Answer Global) = Replies x ∷ [] in l)) replies, refl);
    contents = contents;
    rest = (settings, failed, subst (λ (x : D). Kept (view d) (view x)) (sym disk) (kept_self (view d)));
    none = λ bad. absurd (not_both b bad fine);
    durable = λ _. ap (λ (x : D). recovered (view x).seen) disk;
    state = λ _.
        ap (λ (x : State). (let q : Option (List ℕ × State × Bytes) = Some ([], x, (view d).seen) in q)) (sym state)
        ∙ ap (λ (x : D). (let q : Option (List ℕ × State × Bytes) = Some ([], next, (view x).seen) in q)) (sym disk);
    is_synced = λ is_synced. subst (λ (x : D). IsSynced (view x)) (sym disk) is_synced;
    crash = λ is_synced.
        (let P : Bytes → Type 0 = λ k. IsDurableAfterSome s (recovered (view d).seen) m (Batch cs ∷ []) (recovered k) in
        subst (λ (x : D). LeavesOnly (view d) (view x) P) (sym disk) (leaves_itself (view d) P (lawful d is_synced.honest) is_synced (0, omega arith, refl)));
  }

  -- a flush, a clean or an upgrade, after which this is durable
  module _ (x : Step Global) (a : Answer Global) (held : Option Held) (answered : AreAnswered m (x ∷ []) (a ∷ [])) (same_pairs : contents_after m (x ∷ []) ≡ m)
      (holds : durable_after s (recovered (view d).seen) m (x ∷ []) ≡ held) where
    pub call_turn : b ≡ false → now ≡ m → (t ≡ s) × Kept (view d) (view e) → c ≡ b
        → (IsTrue (view d).is_honest → recovered (view e).seen ≡ held)
        → (IsTrue (view d).is_honest → state_after calls s st (view d).seen (x ∷ []) ≡ Some (numbers_in (a ∷ []), next, (view e).seen))
        → (IsSynced (view d) → IsSynced (view e))
        → (IsSynced (view d) → LeavesOnly (view d) (view e) (λ k. (recovered k ≡ recovered (view d).seen) ⊎ (recovered k ≡ held)))
        → IsTurnOf recovered calls before (x ∷ []) (a ∷ []) left
    call_turn fine contents (settings, kept) failed durable state is_synced crash = record {
      answered = answered;
      contents = contents ∙ sym same_pairs;
      rest = (settings, failed, kept);
      none = λ bad. absurd (not_both b bad fine);
      durable = λ honest. durable honest ∙ sym holds;
      state = state;
      is_synced = is_synced;
      crash = λ still. weaker (view d) (view e) _ _ (λ k is. ⊎_elim (λ before. (0, omega arith, before)) (λ after. (1, omega arith, after ∙ sym holds)) is) (crash still);
    }

-- ---- a step that failed

-- a failed store does not return `Device`
pub no_memory_no_device : NoMemory ≢ Device
no_memory_no_device e = cc

only_not_device : (fault : Fault) → (fault ≡ Failed) ⊎ (fault ≡ NoMemory) → fault ≢ Device
only_not_device fault (inl failed) e = cc
only_not_device fault (inr memory) e = cc

fine_at_device : (b : Bool) (fault : Fault) → (b ≡ true → (fault ≡ Failed) ⊎ (fault ≡ NoMemory)) → fault ≡ Device → b ≡ false
fine_at_device false fault failed device = refl
fine_at_device true fault failed device = absurd (only_not_device fault (failed refl) device)

module _ {State : Type 0} (recovered : Bytes → Option Held) (calls : StateCalls State) where
  module _ (old new : Members State) (x : Step Global) (fault : Fault) (failed : old.has_failed ≡ true → (fault ≡ Failed) ⊎ (fault ≡ NoMemory)) where
    -- it has changed nothing
    pub turn_stopped : fault ≢ Device → IsTurnOf recovered calls old [] [] new → IsStoppedOf recovered calls old [] [] x fault new
    turn_stopped other turn = record {
      answered = refl;
      contents = turn.contents;
      rest = (turn.rest.0, turn.rest.2);
      failed = λ bad. (refl, failed bad);
      turn = λ _. turn;
      device = λ device. absurd (other device);
      crash = λ is_synced. weaker old.disk new.disk _ _ (λ k is. some-first old.settings (recovered old.disk.seen) old.contents [] (x ∷ []) (recovered k) is) (turn.crash is_synced);
      following = λ is_synced k left. inl (ap recovered ((turn.is_synced is_synced).only k left) ∙ turn.durable is_synced.honest);
    }

    -- a call of the disk failed in it
    pub device_stopped : (held : Option Held) → durable_after old.settings (recovered old.disk.seen) old.contents (x ∷ []) ≡ held → fault ≡ Device → new.contents ≡ old.contents
        → (new.settings ≡ old.settings) × Kept old.disk new.disk → new.has_failed ≡ true → (IsTrue new.disk.is_honest → Lawful new.disk)
        → (old.has_failed ≡ false → IsSynced old.disk → LeavesOnly old.disk new.disk (λ k. (recovered k ≡ recovered old.disk.seen) ⊎ (recovered k ≡ held)))
        → IsStoppedOf recovered calls old [] [] x fault new
    device_stopped held holds device contents rest flag lawful crash = record {
      answered = refl;
      contents = contents;
      rest = rest;
      failed = λ bad. (refl, failed bad);
      turn = λ other. absurd (other device);
      device = λ _. flag;
      crash = λ is_synced. weaker old.disk new.disk _ _ (λ k is. ⊎_elim (λ before. (0, omega arith, before)) (λ after. (1, omega arith, after ∙ sym holds)) is) (crash fine is_synced);
      following = λ is_synced k left. ⊎_elim (λ before. inl before) (λ after. inr (after ∙ sym holds))
          (now_leaves old.disk new.disk _ (lawful (subst IsTrue (sym rest.1.honest) is_synced.honest)) (crash fine is_synced) k left);
    } where
      fine : old.has_failed ≡ false
      fine = fine_at_device old.has_failed fault failed device

  -- it fails after a turn
  module _ (old mid new : Members State) (xs : List (Step Global)) (answers : List (Answer Global)) (first : IsTurnOf recovered calls old xs answers mid) where
    pub stopped_on : (x : Step Global) (fault : Fault) → IsStoppedOf recovered calls mid [] [] x fault new → IsStoppedOf recovered calls old xs answers x fault new
    stopped_on x fault last = record {
      answered = first.answered;
      contents = last.contents ∙ first.contents;
      rest = (last.rest.0 ∙ first.rest.0, kept_then _ _ _ first.rest.2 last.rest.1);
      failed = λ bad. (first.none bad, (last.failed (first.rest.1 ∙ bad)).1);
      turn = λ other.
          subst (λ (zs : List (Step Global)). IsTurnOf recovered calls old zs answers new) (append-nil xs)
          (subst (λ (l : List (Answer Global)). IsTurnOf recovered calls old (xs ++ []) l new) (append-nil answers)
          (turns_on recovered calls old mid new xs [] answers [] first (last.turn other)));
      device = last.device;
      crash = λ is_synced. crash_of recovered calls old mid new xs [] answers [] first (x ∷ []) is_synced (last.crash (first.is_synced is_synced));
      following = λ is_synced k left. ⊎_elim
          (λ before. inl (before ∙ first.durable is_synced.honest))
          (λ after. inr (after ∙ durable_there recovered calls old mid new xs [] answers [] first is_synced.honest (x ∷ [])))
          (last.following (first.is_synced is_synced) k left);
    }

-- ---- lists as they are called

-- the first of some steps
pub first_step : (xs : List code_step.Step) → 0 < length xs → (x : code_step.Step) × (rest : List code_step.Step) × (drop 0 xs ≡ x ∷ rest)
first_step [] some = absurd (omega (arith, some))
first_step (x ∷ xs) some = (x, xs, refl)

-- one more answer
pub answered_more : (xs ys : List code_answer.Answer) (a : code_answer.Answer) → ys ≡ xs ++ a ∷ [] → map answer_of ys ≡ map answer_of xs ++ answer_of a ∷ []
answered_more xs ys a is = ap (map answer_of) is ∙ map-append answer_of xs (a ∷ [])

-- a turn of the same steps and answers
pub turn_of_same : {State : Type 0} (recovered : Bytes → Option Held) (calls : StateCalls State) (old new : Members State) (xs ys : List (Step Global)) (answers reported : List (Answer Global)) → ys ≡ xs → reported ≡ answers
    → IsTurnOf recovered calls old xs answers new → IsTurnOf recovered calls old ys reported new
turn_of_same recovered calls old new xs ys answers reported steps same turn =
    subst (λ (l : List (Answer Global)). IsTurnOf recovered calls old ys l new) (sym same) (subst (λ (l : List (Step Global)). IsTurnOf recovered calls old l answers new) (sym steps) turn)

-- a play that was stopped, with the same answers
pub stopped_same : {State : Type 0} (recovered : Bytes → Option Held) (calls : StateCalls State) (old new : Members State) (xs : List (Step Global)) (answers reported : List (Answer Global)) (x : Step Global) (fault : Fault) → reported ≡ answers
    → IsStoppedOf recovered calls old xs answers x fault new → IsStoppedOf recovered calls old xs reported x fault new
stopped_same recovered calls old new xs answers reported x fault same stopped =
    subst (λ (l : List (Answer Global)). IsStoppedOf recovered calls old xs l x fault new) (sym same) stopped

-- ---- stores that implement the trait

-- the fault that a failed store has to return
pub only_failed : {X : Type 0} (r : Result X Fault) (fault : Fault) → r ≡ Err fault → r ≡ Err Failed → (fault ≡ Failed) ⊎ (fault ≡ NoMemory)
only_failed r fault was has = (let same : fault ≡ Failed = cc in inl same)

module _ {X D State : Type 0} (con : X → Pairs Bytes) (set : X → Settings) (bad : X → Bool) (st : X → State) (disk : X → D) (view : D → View)
    (lawful : (d : D) → IsTrue (view d).is_honest → Lawful (view d)) (recovered : Bytes → Option Held) (calls : StateCalls State) (old new : X) where
  abbrev members : X → Members State
  members = members_of con set bad st disk view

  module _ (x : Step Global) (fault : Fault) (failed : bad old ≡ true → (fault ≡ Failed) ⊎ (fault ≡ NoMemory)) where
    pub unchanged_stopped : fault ≢ Device → new ≡ old → IsStoppedOf recovered calls (members old) [] [] x fault (members new)
    unchanged_stopped other same =
        turn_stopped recovered calls (members old) (members new) x fault failed other
        (subst (λ (y : X). IsTurnOf recovered calls (members old) [] [] (members y)) (sym same) (no_turn_of recovered calls (members old) (lawful (disk old))))

    module _ (contents : con new ≡ con old) (rest : (set new ≡ set old) × Kept (view (disk old)) (view (disk new))) where
      -- a flush or an upgrade
      pub written_stopped : (held : Option Held) → durable_after (set old) (recovered (view (disk old)).seen) (con old) (x ∷ []) ≡ held → (fault ≡ Device → bad new ≡ true) → (fault ≢ Device → new ≡ old)
          → (bad old ≡ false → IsSynced (view (disk old)) → LeavesOnly (view (disk old)) (view (disk new)) (λ k. (recovered k ≡ recovered (view (disk old)).seen) ⊎ (recovered k ≡ held)))
          → IsStoppedOf recovered calls (members old) [] [] x fault (members new)
      written_stopped held holds flag same crash = ⊎_elim
          (λ device. device_stopped recovered calls (members old) (members new) x fault failed held holds device contents rest (flag device) (lawful (disk new)) crash)
          (λ other. unchanged_stopped other.0 (same other.0))
          (device_or_not fault)

      -- a clean has only read the disk, if no call of the disk failed
      read_only : (fault ≢ Device → bad new ≡ bad old) → st new ≡ st old → (IsTrue (view (disk old)).is_honest → fault ≢ Device → Same (view (disk old)) (view (disk new)))
          → fault ≢ Device → IsTurnOf recovered calls (members old) [] [] (members new)
      read_only flag state same other = record {
        answered = refl;
        contents = contents;
        rest = (rest.0, flag other, rest.1);
        none = λ _. refl;
        durable = λ honest. ap recovered (same honest other).seen;
        state = λ honest.
            ap (λ (y : State). (let q : Option (List ℕ × State × Bytes) = Some ([], y, (view (disk old)).seen) in q)) (sym state)
            ∙ ap (λ (f : Bytes). (let q : Option (List ℕ × State × Bytes) = Some ([], st new, f) in q)) (sym (same honest other).seen);
        is_synced = λ is_synced. settled_still (view (disk old)) (view (disk new)) rest.1 (same is_synced.honest other) is_synced;
        crash = λ is_synced. left_still (view (disk old)) (view (disk old)) (view (disk new)) _
            (leaves_itself (view (disk old)) _ (lawful (disk old) is_synced.honest) is_synced (0, omega arith, refl)) (same is_synced.honest other);
      }

      pub clean_stopped : durable_after (set old) (recovered (view (disk old)).seen) (con old) (x ∷ []) ≡ recovered (view (disk old)).seen
          → (fault ≡ Device → bad new ≡ true) × (fault ≢ Device → bad new ≡ bad old) → st new ≡ st old
          → (IsTrue (view (disk old)).is_honest → fault ≢ Device → Same (view (disk old)) (view (disk new)))
          → (bad old ≡ false → IsSynced (view (disk old)) → LeavesOnly (view (disk old)) (view (disk new)) (λ k. recovered k ≡ recovered (view (disk old)).seen))
          → IsStoppedOf recovered calls (members old) [] [] x fault (members new)
      clean_stopped holds flag state same crash = ⊎_elim
          (λ device. device_stopped recovered calls (members old) (members new) x fault failed _ holds device contents rest (flag.0 device) (lawful (disk new))
          (λ fine is_synced. either_is recovered (view (disk old)) (view (disk new)) (recovered (view (disk old)).seen) (crash fine is_synced)))
          (λ other. turn_stopped recovered calls (members old) (members new) x fault failed other.0 (read_only flag.1 state same other.0))
          (device_or_not fault)

  -- the step under its other name
  pub turn_named : (x y : Step Global) (a b : Answer Global) → y ≡ x → b ≡ a → IsTurnOf recovered calls (members old) (x ∷ []) (a ∷ []) (members new) → IsTurnOf recovered calls (members old) (y ∷ []) (b ∷ []) (members new)
  turn_named x y a b step answer turn =
      subst (λ (z : Step Global). IsTurnOf recovered calls (members old) (z ∷ []) (b ∷ []) (members new)) (sym step)
      (subst (λ (z : Answer Global). IsTurnOf recovered calls (members old) (x ∷ []) (z ∷ []) (members new)) (sym answer) turn)

  pub stopped_named : (x y : Step Global) (fault : Fault) → y ≡ x → IsStoppedOf recovered calls (members old) [] [] x fault (members new) → IsStoppedOf recovered calls (members old) [] [] y fault (members new)
  stopped_named x y fault step stopped = subst (λ (z : Step Global). IsStoppedOf recovered calls (members old) [] [] z fault (members new)) (sym step) stopped
