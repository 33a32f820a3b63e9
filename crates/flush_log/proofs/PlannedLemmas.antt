-- Facts about a planned commit, and its effect.
use Rattle.std.specs.Prelude.{◌≡◌, ◌⊎◌, ℕ, suc, ◌+◌, ◌*◌, ◌<◌, ◌≤◌, Bool, List, Result, Ok, OnOk, None}
use Rattle.std.proofs.Common.{refl, sym, ap, ◌∙◌, arith, subst}
use Rattle.std.proofs.Math.Nat.{mul-le-mul_left}
use Rattle.keys.specs.Limits.{first_bad_field}
use Rattle.keys.specs.declared.settings.Settings.{Settings}
use Rattle.frame_codec.specs.Frame.{Frame}
use Rattle.flush_log.specs.Commit.{committed, IsUncommitted}
use Rattle.flush_log.specs.CommitPlan.{AreImages, next_slot, next_tail, CommitPlan, IsPlanned, file_with, LeftOf}
use Rattle.flush_log.specs.Disk.{View, Same, LeavesOnly}
use Rattle.flush_log.specs.Images.{FitSegments, frames_in}
use Rattle.flush_log.specs.Layout.{tail_after, spans, is_full_for_flush}
use Rattle.flush_log.specs.Slot.{Slot, format_of, is_open}
use Rattle.flush_log.specs.declared.disk.DiskFault.{DiskFault}
use Rattle.flush_log.proofs.AdmitLemmas.{Answer, IsAdmitted, admitted-is}
use Rattle.flush_log.proofs.FitLemmas.{are_sized}
use Rattle.flush_log.proofs.HideLemmas.{text-inside}
use Rattle.flush_log.proofs.ReachLemmas.{text-fits}
use Rattle.flush_log.proofs.SameLemmas.{left_after}
use Rattle.flush_log.proofs.TailLemmas.{room-for-flush}

-- the head of a log is no higher than its tail
pub head-low : (s : Settings) (head tail : ℕ) → first_bad_field s ≡ None → head * s.seg_size < tail → head ≤ tail
head-low s head tail good log =
    let size = (are_sized s good).least_size in
    let least : head * 1 ≤ head * s.seg_size = mul-le-mul_left head (omega (arith, size)) in
    omega (arith, least, log)

-- ---- the plan

module _ (s : Settings) (t : Slot) (text : List Frame) (good : first_bad_field s ≡ None) (log : t.head * s.seg_size < t.tail) where
  planned_of : (images : List (List (List ℕ))) (tail room : ℕ) → AreImages (format_of s t) text images → (let answer : Answer = Ok tail in answer ≡ next_tail s t text) → s.seg_size ≤ room
      → IsPlanned s t text (record { images = images; tail = t.tail; slot = record { sequence = t.sequence + 1; head = t.head; tail = tail; root = t.root; height = t.height; version = t.version }; room = room })
  planned_of images tail room are admits fits =
      let next : Slot = next_slot s t text in
      let full : Bool = is_full_for_flush s t.head (tail_after s t.tail text) in
      let is : IsAdmitted next full tail = admitted-is next full tail admits in
      let free = room-for-flush s t.head (tail_after s t.tail text) is.room in
      record {
        encoded = are;
        from = refl;
        slot = ap (λ (n : ℕ). (let u : Slot = record { sequence = n; head = t.head; tail = tail; root = t.root; height = t.height; version = t.version } in u)) (omega arith)
            ∙ ap (λ (n : ℕ). (let u : Slot = record { sequence = suc t.sequence; head = t.head; tail = n; root = t.root; height = t.height; version = t.version } in u)) is.tail;
        unspent = is.unspent;
        free = is.room;
        within = text-inside (format_of s t) good t.head t.tail text log are.within (omega (arith, free));
        room = fits;
      }

  -- by the slot in the form of the code
  pub planned-by : (u : Slot) (images : List (List (List ℕ))) (tail room : ℕ) → u ≡ t → AreImages (format_of s t) text images → (let answer : Answer = Ok tail in answer ≡ next_tail s t text) → s.seg_size ≤ room
      → IsPlanned s t text (record { images = images; tail = u.tail; slot = record { sequence = u.sequence + 1; head = u.head; tail = tail; root = u.root; height = u.height; version = u.version }; room = room })
  planned-by u images tail room same are admits fits =
      subst (λ (v : Slot). IsPlanned s t text (record { images = images; tail = v.tail; slot = record { sequence = v.sequence + 1; head = v.head; tail = tail; root = v.root; height = v.height; version = v.version }; room = room })) (sym same)
      (planned_of images tail room are admits fits)

-- ---- the consequences of a plan

module _ (s : Settings) (t : Slot) (text : List Frame) (p : CommitPlan) (is : IsPlanned s t text p) where
  pub planned-fits : first_bad_field s ≡ None → FitSegments s (frames_in p.images)
  planned-fits good = text-fits (format_of s t) good p.images text is.encoded.of is.encoded.within

-- ---- after a reading of the gate

pub gate-still : (open_as : Bool) (n : ℕ) (old mid : View) → Same old mid → open_as ≡ is_open n old.seen → open_as ≡ is_open n mid.seen
gate-still open_as n old mid same gate = subst (λ (f : List ℕ). open_as ≡ is_open n f) (sym same.seen) gate

-- what a crash leaves of a commit of this slot, on these bytes
abbrev Leaves : Settings → Slot → ℕ → List Frame → List ℕ → List ℕ → Type 0
Leaves s u tail text file c = IsUncommitted s u.sequence (spans s tail text) file c ⊎ (c ≡ committed s file (spans s tail text) u)

module _ (s : Settings) (t u : Slot) (tail : ℕ) (text : List Frame) (slot : u ≡ next_slot s t text) (from : tail ≡ t.tail) (old mid new : View) (same : Same old mid) where
  pub planned-left : LeavesOnly mid new (Leaves s u tail text mid.seen) → LeavesOnly old new (LeftOf s t text old.seen)
  planned-left run =
      let run1 = subst (λ (v : Slot). LeavesOnly mid new (Leaves s v tail text mid.seen)) slot run in
      let run2 = subst (λ (n : ℕ). LeavesOnly mid new (Leaves s (next_slot s t text) n text mid.seen)) from run1 in
      left_after old mid new (LeftOf s t text old.seen) same (subst (λ (f : List ℕ). LeavesOnly mid new (Leaves s (next_slot s t text) t.tail text f)) same.seen run2)

  pub planned-written : (r : Result (Unit {0}) DiskFault) → OnOk r (new.seen ≡ committed s mid.seen (spans s tail text) u) → OnOk r (new.seen ≡ file_with s t text old.seen)
  planned-written r wrote =
      let wrote1 = subst (λ (v : Slot). OnOk r (new.seen ≡ committed s mid.seen (spans s tail text) v)) slot wrote in
      let wrote2 = subst (λ (n : ℕ). OnOk r (new.seen ≡ committed s mid.seen (spans s n text) (next_slot s t text))) from wrote1 in
      subst (λ (f : List ℕ). OnOk r (new.seen ≡ file_with s t text f)) same.seen wrote2
