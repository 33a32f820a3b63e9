-- The effect of a planned clean on a disk.
use Rattle.std.specs.Prelude.{◌≡◌, ◌≢◌, ◌⊎◌, ℕ, List, Result, Ok, Err, MatchResult, IfOk, IfErr}
use Rattle.std.proofs.Common.{sym, ap, ◌∙◌, subst, inl, inr}
use Rattle.keys.specs.declared.fault.Fault.{Fault}
use Rattle.keys.specs.declared.fault.Fault.TheVariants.{Device}
use Rattle.keys.specs.declared.settings.Settings.{Settings}
use Rattle.mapping.specs.Tree.{Store}
use Rattle.frame_codec.specs.Frame.{Frame}
use Rattle.flush_log.specs.AfterFlush.{store_after}
use Rattle.flush_log.specs.CommitPlan.{CommitPlan, file_with, LeftOf}
use Rattle.flush_log.specs.Disk.{View, Same, LeavesOnly}
use Rattle.flush_log.specs.Ends.{ends_of}
use Rattle.flush_log.specs.Segments.{last_segment}
use Rattle.flush_log.specs.Slot.{Slot}
use Rattle.flush_log.proofs.SameLemmas.{left_after}
use Rattle.flush_log.proofs.ViewLemmas.{weaker}
use Rattle.recovery.specs.InStep.{IsInStep}
use Rattle.recovery.specs.StoreOfDisk.{store_of_disk}
use Rattle.recovery.proofs.ReadBytes.{same_then}
use Rattle.cleaner.specs.AfterClean.{after_clean}
use Rattle.cleaner.specs.Cleaned.{WouldClean, IsCleanFault, IsClean}
use Rattle.cleaner.specs.CleanText.{clean_frames}
use Rattle.cleaner.proofs.CleanCrash.{clean-hidden}
use Rattle.cleaner.proofs.PlanLemmas.{format_for, base_in, own_done}

module _ (s : Settings) (st : Store) (m : CommitPlan) (more : st.head ≢ last_segment s st.tail) where
  -- what a crash leaves: the old store, or everything that the clean writes
  abbrev CleanLeaves : List ℕ → List ℕ → Type 0
  CleanLeaves file c = (store_of_disk c ≡ store_of_disk file) ⊎ ((x : Store) × (after_clean s st file ≡ Ok (x, c)))

  -- the bytes with its frames and its slot
  abbrev after : (file : List ℕ) → IsClean (format_for s st) (ends_of st) file m → List ℕ
  after file p = file_with s (base_in (format_for s st) (ends_of st) file) (clean_frames st.head p.0) file

  pub plan-would : (file : List ℕ) → IsClean (format_for s st) (ends_of st) file m → WouldClean s st file
  plan-would file p = (store_after st.tree m.slot, after file p, own_done s file st m more p)

  abbrev left : List ℕ → Result (Store × List ℕ) Fault
  left bytes = Ok (store_after st.tree m.slot, bytes)

  -- the bytes that are written, of a disk on which nothing was written before
  done-as : (file seen : List ℕ) → (p : IsClean (format_for s st) (ends_of st) file m) → seen ≡ after file p → after_clean s st file ≡ Ok (store_after st.tree m.slot, seen)
  done-as file seen p wrote = own_done s file st m more p ∙ ap left (sym wrote)

  pub plan-written : (old mid : View) (seen : List ℕ) → (p : IsClean (format_for s st) (ends_of st) old.seen m) → Same old mid → seen ≡ file_with s (base_in (format_for s st) (ends_of st) old.seen) (clean_frames st.head p.0) mid.seen
      → after_clean s st old.seen ≡ Ok (store_after st.tree m.slot, seen)
  plan-written old mid seen p same wrote =
      done-as old.seen seen p (wrote ∙ ap (λ (f : List ℕ). file_with s (base_in (format_for s st) (ends_of st) old.seen) (clean_frames st.head p.0) f) same.seen)

  pub plan-leaves : (file c : List ℕ) → IsInStep s st file → (p : IsClean (format_for s st) (ends_of st) file m) → LeftOf s (base_in (format_for s st) (ends_of st) file) (clean_frames st.head p.0) file c → CleanLeaves file c
  plan-leaves file c step p (inl hid) = inl (clean-hidden s st (store_after st.tree m.slot) p.0 file (after file p) c step (own_done s file st m more p) p.1.read hid)
  plan-leaves file c step p (inr whole) = inr (store_after st.tree m.slot, done-as file c p whole)

  pub plan-crashed : (old mid new : View) → IsInStep s st old.seen → (p : IsClean (format_for s st) (ends_of st) old.seen m) → Same old mid
      → LeavesOnly mid new (LeftOf s (base_in (format_for s st) (ends_of st) old.seen) (clean_frames st.head p.0) mid.seen) → LeavesOnly old new (CleanLeaves old.seen)
  plan-crashed old mid new step p same run =
      let base : Slot = base_in (format_for s st) (ends_of st) old.seen in
      let text : List Frame = clean_frames st.head p.0 in
      weaker old new (LeftOf s base text old.seen) (CleanLeaves old.seen) (λ c h. plan-leaves old.seen c step p h)
      (left_after old mid new (LeftOf s base text old.seen) same (subst (λ (f : List ℕ). LeavesOnly mid new (LeftOf s base text f)) same.seen run))

-- ---- after a reading, which left the disk as it was

module _ (s : Settings) (st : Store) where
  pub fault-since : (r : Result Slot Fault) (Done : Slot → Type 0) (file : List ℕ) (old mid new : ℕ) → mid ≡ old → MatchResult r Done (IsCleanFault s st file mid new) → MatchResult r Done (IsCleanFault s st file old new)
  fault-since r Done file old mid new same h = subst (λ (n : ℕ). MatchResult r Done (IsCleanFault s st file n new)) same h

  pub written-since : (r : Result Slot Fault) (old mid new : View) → Same old mid → IfOk r (λ u. after_clean s st mid.seen ≡ Ok (store_after st.tree u, new.seen)) → IfOk r (λ u. after_clean s st old.seen ≡ Ok (store_after st.tree u, new.seen))
  written-since r old mid new same h = subst (λ (file : List ℕ). IfOk r (λ u. after_clean s st file ≡ Ok (store_after st.tree u, new.seen))) same.seen h

  -- what a crash leaves: the old store, or everything that a clean writes
  abbrev Leaves : List ℕ → List ℕ → Type 0
  Leaves file c = (store_of_disk c ≡ store_of_disk file) ⊎ ((x : Store) × (after_clean s st file ≡ Ok (x, c)))

  pub crash-since : (old mid new : View) → Same old mid → LeavesOnly mid new (Leaves mid.seen) → LeavesOnly old new (Leaves old.seen)
  crash-since old mid new same run = left_after old mid new (Leaves old.seen) same (subst (λ (file : List ℕ). LeavesOnly mid new (Leaves file)) same.seen run)

  pub unwritten-since : (r : Result Slot Fault) (old mid new : View) → Same old mid → IfErr r (λ fault. Same mid new ⊎ ((fault ≡ Device) × WouldClean s st mid.seen)) → IfErr r (λ fault. Same old new ⊎ ((fault ≡ Device) × WouldClean s st old.seen))
  unwritten-since (Ok u) old mid new same h = tt
  unwritten-since (Err fault) old mid new same (inl still) = inl (same_then old mid new same still)
  unwritten-since (Err fault) old mid new same (inr (device, would)) = inr (device, subst (λ (file : List ℕ). WouldClean s st file) same.seen would)
