-- A disk with a record of its calls: a crash leaves of it what these calls may leave, and each further call leaves what `Leaves` requires.
use Rattle.std.proofs.Common.{◌≡◌, ◌⊎◌, inl, inr, ⊎_elim, ℕ, ◌+◌, ◌≤◌, List, [], ◌∷◌, ◌++◌, length, take, refl, sym, subst, ◌∙◌, arith, length-append, take_all}
use Rattle.std.proofs.lemmas.Bool.{cases_lt}
use Rattle.std.proofs.lemmas.List.{take-append-le}
use Rattle.index_page.proofs.ListLemmas.{all-append}
use Rattle.flush_log.specs.Overlay.{overlay, IsBeside}
use Rattle.flush_log.specs.Disk.{Only, Torn, Elapses, Leaves}
use Rattle.flush_log.specs.Commit.{Call, seen_after, MayLeave, LeftDuring}
use Rattle.flush_log.specs.Commit.Call.{Write, Sync}
use Rattle.flush_log.specs.Record.{LeftNow, LeftEarlier, view_of, end_of_call, AreCalls}
use Rattle.flush_log.proofs.OverlayLemmas.{length-overlay, overlay-beside, agree_same}
use Rattle.flush_log.proofs.CallLemmas.{TornFrom, seen_after-append, leave-append, after_all}

-- one call more lies in range where it does by itself
pub one_in_range : (n : ℕ) (calls : List Call) (x : Call) → AreCalls n calls → end_of_call x ≤ n → AreCalls n (calls ++ x ∷ [])
one_in_range n calls x fit here = all-append (λ call. end_of_call call ≤ n) calls (x ∷ []) fit (here, tt)

-- a crash may leave the readable contents
pub may_stay : (calls : List Call) (seen : List ℕ) (might : List ℕ → Type 0) → AreCalls (length seen) calls → might seen → MayLeave calls seen might (seen_after calls seen)
may_stay [] seen might fit here = here
may_stay (Write at bytes ∷ calls) seen might fit here =
    let long = length-overlay seen at bytes fit.0 in
    may_stay calls (overlay seen at bytes) (TornFrom might at bytes) (subst (λ (n : ℕ). AreCalls n calls) (sym long) fit.1) (seen, here, overlay-beside seen at bytes fit.0)
may_stay (Sync ∷ calls) seen might fit here = may_stay calls seen (λ e. e ≡ seen) fit.1 refl

module _ (file : List ℕ) (calls : List Call) (fit : AreCalls (length file) calls) where
  -- the calls may leave the readable contents
  pub now_may : (c : List ℕ) → LeftNow file calls c → MayLeave calls file (λ d. d ≡ file) c
  now_may c left =
      ⊎_elim
      (λ is. subst (λ (f : List ℕ). MayLeave calls file (λ d. d ≡ file) f) (sym is) (may_stay calls file (λ d. d ≡ file) fit refl))
      (λ may. may) left

  -- a crash at any moment leaves an outcome of a crash during the calls
  pub left_during : (c : List ℕ) → LeftNow file calls c ⊎ LeftEarlier file calls 0 c → LeftDuring calls file c
  left_during c left =
      ⊎_elim (λ now. after_all calls file (λ d. d ≡ file) c (now_may c now)) (λ earlier. (earlier.0, earlier.3)) left

  pub during_left : (c : List ℕ) → LeftDuring calls file c → LeftNow file calls c ⊎ LeftEarlier file calls 0 c
  during_left c (k, h) =
      elim (cases_lt k (length calls)) [
        | inl earlier ↦ inr (k, omega arith, earlier, h)
        | inr all ↦ inl (inr (subst (λ (xs : List Call). MayLeave xs file (λ d. d ≡ file) c) (take_all k calls all) h))
      ]

  -- one call more
  module _ (x : Call) where
    abbrev more : List Call
    more = calls ++ x ∷ []

    one_longer : length more ≡ length calls + 1
    one_longer = length-append calls (x ∷ [])

    -- after one more call, the present is an earlier moment
    now_earlier : (t : ℕ) (c : List ℕ) → t ≤ length calls → LeftNow file calls c → LeftEarlier file more t c
    now_earlier t c before now =
        let long = one_longer in
        let first : take (length calls) more ≡ calls = take-append-le (length calls) calls (x ∷ []) (omega arith) ∙ take_all (length calls) calls (omega arith) in
        (length calls, before, omega (arith, long), subst (λ (xs : List Call). MayLeave xs file (λ d. d ≡ file) c) (sym first) (now_may c now))

    earlier_more : (t : ℕ) (c : List ℕ) → LeftEarlier file calls t c → LeftEarlier file more t c
    earlier_more t c (k, from, to, h) =
        let long = one_longer in
        (k, from, omega (arith, to, long), subst (λ (xs : List Call). MayLeave xs file (λ d. d ≡ file) c) (sym (take-append-le k calls (x ∷ []) (omega (arith, to)))) h)

    -- a moment before the call, or the one before it
    of_earlier : (t : ℕ) (c : List ℕ) → LeftEarlier file more t c → LeftNow file calls c ⊎ LeftEarlier file calls t c
    of_earlier t c (k, from, to, h) =
        let long = one_longer in
        let first : take k more ≡ take k calls = take-append-le k calls (x ∷ []) (omega (arith, to, long)) in
        let was : MayLeave (take k calls) file (λ d. d ≡ file) c = subst (λ (xs : List Call). MayLeave xs file (λ d. d ≡ file) c) first h in
        elim (cases_lt k (length calls)) [
          | inl earlier ↦ inr (k, from, earlier, was)
          | inr all ↦ inl (inr (subst (λ (xs : List Call). MayLeave xs file (λ d. d ≡ file) c) (take_all k calls all) was))
        ]

    elapses : Elapses (view_of file calls) (view_of file more)
    elapses = record {
      later = let long = one_longer in omega (arith, long);
      splits = λ t c before left. ⊎_elim (λ now. inr (inl now)) (λ earlier. inl (of_earlier t c earlier)) left;
      keeps = λ t c before either. ⊎_elim
          (λ was. inr (⊎_elim (λ now. now_earlier t c before now) (λ earlier. earlier_more t c earlier) was))
          (λ since. ⊎_elim (λ now. inl now) (λ later. inr (later.0, omega (arith, before, later.1), later.2, later.3)) since)
          either;
    }

    -- since the call began: as before it, or as now
    since : (c : List ℕ) → LeftNow file more c ⊎ LeftEarlier file more (length calls) c → LeftNow file calls c ⊎ LeftNow file more c
    since c left =
        ⊎_elim (λ now. inr now)
        (λ earlier. inl (⊎_elim (λ now. now) (λ before. absurd (omega (arith, before.1, before.2))) (of_earlier (length calls) c earlier))) left

  pub view-write : (at : ℕ) (bytes : List ℕ) → at + length bytes ≤ length file → Leaves (view_of file calls) (view_of file (calls ++ Write at bytes ∷ [])) (Torn at (length bytes))
  view-write at bytes here = record {
    time = elapses (Write at bytes);
    crash = λ c left. ⊎_elim
        (λ was. (c, was, agree_same (IsBeside at (length bytes)) c))
        (λ now. let (d, might, torn) = leave-append calls (Write at bytes ∷ []) file (λ d. d ≡ file) c (after c now) in (d, inr might, torn))
        (since (Write at bytes) c left);
  }
    where
      after : (c : List ℕ) → LeftNow file (calls ++ Write at bytes ∷ []) c → MayLeave (calls ++ Write at bytes ∷ []) file (λ d. d ≡ file) c
      after c now = ⊎_elim
          (λ is. subst (λ (f : List ℕ). MayLeave (calls ++ Write at bytes ∷ []) file (λ d. d ≡ file) f) (sym is)
          (may_stay (calls ++ Write at bytes ∷ []) file (λ d. d ≡ file) (one_in_range (length file) calls (Write at bytes) fit here) refl))
          (λ may. may) now

  pub view-sync : Leaves (view_of file calls) (view_of file (calls ++ Sync ∷ [])) (λ before c. c ≡ before)
  view-sync = record {
    time = elapses Sync;
    crash = λ c left. ⊎_elim
        (λ was. (c, was, refl))
        (λ now. (seen_after calls file, inl refl, synced_is now))
        (since Sync c left);
  }
    where
      synced_is : {c : List ℕ} → LeftNow file (calls ++ Sync ∷ []) c → c ≡ seen_after calls file
      synced_is {c} now = ⊎_elim
          (λ is. is ∙ seen_after-append calls (Sync ∷ []) file)
          (λ may. leave-append calls (Sync ∷ []) file (λ d. d ≡ file) c may) now

  -- after a successful sync the disk is synced
  pub view-is_synced : Only (seen_after (calls ++ Sync ∷ []) file) (LeftNow file (calls ++ Sync ∷ []))
  view-is_synced c now = ⊎_elim
      (λ is. is)
      (λ may. leave-append calls (Sync ∷ []) file (λ d. d ≡ file) c may ∙ sym (seen_after-append calls (Sync ∷ []) file)) now
