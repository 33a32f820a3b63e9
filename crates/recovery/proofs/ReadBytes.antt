-- Bytes that a reading of a disk may find.
use Rattle.std.specs.Prelude.{◌≡◌, ◌≢◌, ◌⊎◌, ℕ, Bool, true, false, IsTrue, List, replicate, Result, Ok, Err, IsErr, IsErrAnd, IfOk, IfErr, OnOk, MatchResult}
use Rattle.std.proofs.Common.{refl, sym, subst, ◌∙◌, inl}
use Rattle.std.proofs.lemmas.Bool.{false≢true}
use Rattle.std.proofs.lemmas.List.{length-replicate}
use Rattle.keys.specs.declared.fault.Fault.{Fault}
use Rattle.keys.specs.declared.fault.Fault.TheVariants.{NoMemory, Device}
use Rattle.flush_log.specs.Disk.{View, Lawful, Kept, Same, OnlyRead}
use Rattle.recovery.specs.Recovered.{IsReadOf, IsLate, OnlyReads}

-- ---- the first

-- there are such bytes: the readable contents if the disk is honest, else any
pub first_read : (v : View) → (IsTrue v.is_honest → Lawful v) → (file : List ℕ) × IsReadOf v file
first_read v law = of v.is_honest refl
  where
    of : (b : Bool) → v.is_honest ≡ b → (file : List ℕ) × IsReadOf v file
    of true honest = (v.seen, record { whole = (law honest).whole; honest = λ h. refl })
    of false honest = (
      replicate v.size 0,
      record { whole = length-replicate v.size 0; honest = λ h. absurd (cc) },
    )

-- ---- calls that change nothing, one after the other

pub kept_self : (v : View) → Kept v v
kept_self v = record { honest = refl; size = refl }

pub same_self : (v : View) → Same v v
same_self v = record { seen = refl; may_leave = λ c. (λ h. h, λ h. h); moment = refl; left_since = λ t c. (λ h. h, λ h. h) }

pub kept_then : (a b c : View) → Kept a b → Kept b c → Kept a c
kept_then a b c ab bc = record { honest = bc.honest ∙ ab.honest; size = bc.size ∙ ab.size }

pub same_then : (a b c : View) → Same a b → Same b c → Same a c
same_then a b c ab bc = record {
  seen = bc.seen ∙ ab.seen;
  may_leave = λ x. (λ h. (ab.may_leave x).0 ((bc.may_leave x).0 h), λ h. (bc.may_leave x).1 ((ab.may_leave x).1 h));
  moment = bc.moment ∙ ab.moment;
  left_since = λ t x. (λ h. (ab.left_since t x).0 ((bc.left_since t x).0 h), λ h. (bc.left_since t x).1 ((ab.left_since t x).1 h));
}

-- ---- decided faults

-- the fault that the bytes decide, or a late one
abbrev pub IsReadOrLate : {X : Type 0} → Result X Fault → (Fault → Type 0) → Result X Fault → Type 0
IsReadOrLate state Late result = MatchResult result (λ x. state ≡ Ok x) (λ fault. (state ≡ Err fault) ⊎ Late fault)

pub as_read : {X : Type 0} (state : Result X Fault) (Late : Fault → Type 0) (r : Result X Fault) → r ≡ state → IsReadOrLate state Late r
as_read state Late (Ok x) e = sym e
as_read state Late (Err fault) e = inl (sym e)

-- the same on an honest disk, which stays honest
pub same_on : (a b c : View) → Kept a b → (IsTrue a.is_honest → Same a b) → (IsTrue b.is_honest → Same b c) → IsTrue a.is_honest → Same a c
same_on a b c kept first second honest = same_then a b c (first honest) (second (subst IsTrue (sym kept.honest) honest))

-- what was read later was read of the disk as it was before
pub read_before : (a b : View) (file : List ℕ) → Kept a b → (IsTrue a.is_honest → Same a b) → IsReadOf b file → IsReadOf a file
read_before a b file kept same read = record {
  whole = read.whole ∙ kept.size;
  honest = λ honest. read.honest (subst IsTrue (sym kept.honest) honest) ∙ (same honest).seen;
}

-- and later it may still have been read
pub read_after : (a b : View) (file : List ℕ) → Kept a b → (IsTrue a.is_honest → Same a b) → IsReadOf a file → IsReadOf b file
read_after a b file kept same read = record {
  whole = read.whole ∙ sym kept.size;
  honest = λ honest. let was : IsTrue a.is_honest = subst IsTrue kept.honest honest in read.honest was ∙ sym (same was).seen;
}

-- a fault that was passed on
pub handed_on : {X : Type 0} (r : Result X Fault) (P : X → Type 0) (Q : Fault → Type 0) (fault : Fault) → IsErrAnd r (λ f. f ≡ fault) → Q fault → MatchResult r P Q
handed_on (Ok x) P Q fault is h = absurd is
handed_on (Err f) P Q fault is h = subst Q (sym is) h

-- one that was late stays so, if no read had failed before
pub late_since : (old mid new : ℕ) (fault : Fault) → mid ≡ old → IsLate mid new fault → IsLate old new fault
late_since old mid new fault same h = subst (λ (n : ℕ). IsLate n new fault) same h

pub or_late : {X : Type 0} (r : Result X Fault) (P : X → Type 0) (Q Late : Fault → Type 0) → MatchResult r P Q → MatchResult r P (λ fault. Q fault ⊎ Late fault)
or_late (Ok x) P Q Late h = h
or_late (Err fault) P Q Late h = inl h

-- ---- of a call that promises only the errors, or only the rest

pub err_on : {X : Type 0} (r : Result X Fault) (Q : Fault → Type 0) (fault : Fault) → IsErrAnd r (λ f. f ≡ fault) → Q fault → IfErr r Q
err_on (Ok x) Q fault is h = absurd is
err_on (Err f) Q fault is h = subst Q (sym is) h

pub not_ok : {X : Type 0} (r : Result X Fault) (P : Type 0) (fault : Fault) → IsErrAnd r (λ f. f ≡ fault) → OnOk r P
not_ok (Ok x) P fault is = absurd is
not_ok (Err f) P fault is = tt

pub nothing_of : {X : Type 0} (r : Result X Fault) (P : X → Type 0) → IsErr r → IfOk r P
nothing_of (Ok x) P is = absurd (false≢true is)
nothing_of (Err f) P is = tt

pub counted_on : {X : Type 0} (r : Result X Fault) (old mid new : ℕ) → mid ≡ old → OnOk r (new ≡ mid) → OnOk r (new ≡ old)
counted_on r old mid new same h = subst (λ (n : ℕ). OnOk r (new ≡ n)) same h

pub late_on : {X : Type 0} (r : Result X Fault) (old mid new : ℕ) → mid ≡ old → IfErr r (IsLate mid new) → IfErr r (IsLate old new)
late_on r old mid new same h = subst (λ (n : ℕ). IfErr r (IsLate n new)) same h

-- no call failed where the fault is not Device
abbrev pub IsUncounted : ℕ → ℕ → Fault → Type 0
IsUncounted old new fault = fault ≢ Device → new ≡ old

pub uncounted_on : {X : Type 0} (r : Result X Fault) (old mid new : ℕ) → mid ≡ old → IfErr r (IsUncounted mid new) → IfErr r (IsUncounted old new)
uncounted_on r old mid new same h = subst (λ (n : ℕ). IfErr r (IsUncounted n new)) same h

-- none failed at all
pub uncounted_by : {X : Type 0} (r : Result X Fault) (old new : ℕ) → new ≡ old → IfErr r (IsUncounted old new)
uncounted_by (Ok x) old new same = tt
uncounted_by (Err fault) old new same = λ other. same

pub counted_by : {X : Type 0} (r : Result X Fault) (old new : ℕ) → new ≡ old → OnOk r (new ≡ old)
counted_by (Ok x) old new same = same
counted_by (Err fault) old new same = tt

-- if only an allocation can fail, an error is late
pub late_by_memory : {X : Type 0} (r : Result X Fault) (old new : ℕ) → IfErr r (λ fault. fault ≡ NoMemory) → IfErr r (IsLate old new)
late_by_memory (Ok x) old new refused = tt
late_by_memory (Err fault) old new refused = inl refused

-- ---- calls that only read

module _ {D : Type 0} (view : D → View) (failed : D → ℕ) where
  -- no disk call failed, whatever is returned
  pub reads_without_failure : {X : Type 0} (a b : D) (r : Result X Fault) → Kept (view a) (view b) → OnlyRead (view a) (view b) → failed b ≡ failed a → OnlyReads view failed a b r
  reads_without_failure a b r kept same count = record {
    kept = kept;
    same = same;
    counted = counted_by r (failed a) (failed b) count;
    uncounted = uncounted_by r (failed a) (failed b) count;
  }

  -- nothing was called
  pub reads_nothing : {X : Type 0} (a : D) (r : Result X Fault) → OnlyReads view failed a a r
  reads_nothing a r = reads_without_failure a a r (kept_self (view a)) (λ _. same_self (view a)) refl

  -- the fault of a call is returned
  pub reads_with_fault : {X Y : Type 0} (a b : D) (r : Result X Fault) (fault : Fault) → IsErrAnd r (λ f. f ≡ fault) → OnlyReads {X = Y} view failed a b (Err fault) → OnlyReads view failed a b r
  reads_with_fault a b r fault is reads = record {
    kept = reads.kept;
    same = reads.same;
    counted = not_ok r (failed b ≡ failed a) fault is;
    uncounted = err_on r (IsUncounted (failed a) (failed b)) fault is reads.uncounted;
  }

  -- calls before this one only read, and none of them failed
  pub reads_then : {X : Type 0} (a b c : D) (r : Result X Fault) → Kept (view a) (view b) → OnlyRead (view a) (view b) → failed b ≡ failed a → OnlyReads view failed b c r → OnlyReads view failed a c r
  reads_then a b c r kept same count reads = record {
    kept = kept_then (view a) (view b) (view c) kept reads.kept;
    same = same_on (view a) (view b) (view c) kept same reads.same;
    counted = counted_on r (failed a) (failed b) (failed c) count reads.counted;
    uncounted = uncounted_on r (failed a) (failed b) (failed c) count reads.uncounted;
  }
