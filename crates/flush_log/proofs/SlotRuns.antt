-- What a crash may leave while a slot is written with its gate closed.
use Rattle.std.proofs.Common.{◌≡◌, ◌⊎◌, inl, inr, ⊎_elim, ℕ, zero, suc, ◌+◌, ◌*◌, ◌<◌, ◌≤◌, false, ◌==◌, List, [], ◌∷◌, length, get_or, take, drop, refl, sym, ap, subst, ◌∙◌, arith, eqb-true}
use Rattle.std.proofs.lemmas.Bool.{cases_Bool}
use Rattle.keys.specs.declared.settings.Settings.{Settings}
use Rattle.flush_log.specs.Overlay.{overlay, IsBeside, AgreeAt}
use Rattle.flush_log.specs.Disk.{View, Lawful, IsSynced, Torn, Leaves, LeavesOnly}
use Rattle.flush_log.specs.Slot.{Slot, slot_place, slot_body, slot_bytes, is_open}
use Rattle.flush_log.specs.Layout.{Span}
use Rattle.flush_log.specs.Commit.{AreWithin, LeavesGateClosed}
use Rattle.flush_log.proofs.OverlayLemmas.{overlay-beside, overlay-at, overlay-is, agree_then, agree_less}
use Rattle.flush_log.proofs.CommitLemmas.{slot_low}
use Rattle.flush_log.proofs.ViewLemmas.{leaves_only, only_then}

module _ (t : Slot) (file : List ℕ) (long : 512 ≤ length file) where
  abbrev place : ℕ
  place = slot_place t.sequence

  abbrev staged : List ℕ
  staged = overlay file (place + 1) (slot_body t)

  abbrev written : List ℕ
  written = overlay file place (slot_bytes t)

  body_fits : place + 1 + 63 ≤ length file
  body_fits = let low = slot_low t.sequence in omega (arith, low, long)

  staged_same : AgreeAt (IsBeside (place + 1) 63) file staged
  staged_same = overlay-beside file (place + 1) (slot_body t) body_fits

  gate_fits : place + 1 ≤ length staged
  gate_fits = let same = staged_same.long in let fits = body_fits in omega (arith, same, fits)

  -- beside the slot there is nothing of it
  of_body : (c d : List ℕ) → AgreeAt (IsBeside (place + 1) 63) c d → AgreeAt (IsBeside place 64) c d
  of_body c d same = agree_less (IsBeside (place + 1) 63) (IsBeside place 64) c d (λ i out. ⊎_elim (λ low. inl (omega (arith, low))) (λ high. inr (omega (arith, high))) out) same

  of_gate : (c d : List ℕ) → AgreeAt (IsBeside place 1) c d → AgreeAt (IsBeside place 64) c d
  of_gate c d same = agree_less (IsBeside place 1) (IsBeside place 64) c d (λ i out. ⊎_elim (λ low. inl low) (λ high. inr (omega (arith, high))) out) same

  -- the gate is closed while the bytes after it are written
  body_torn : is_open t.sequence file ≡ false → (c : List ℕ) → Torn (place + 1) 63 file c → LeavesGateClosed t.sequence file c
  body_torn shut c torn = (ap (λ (n : ℕ). n == 1) (torn.same place (inl (omega arith))) ∙ shut, of_body file c torn)

  -- the two writes make the slot
  opened : overlay staged place (1 ∷ []) ≡ written
  opened =
      overlay-is file (overlay staged place (1 ∷ [])) place (slot_bytes t) (let low = slot_low t.sequence in omega (arith, low, long))
      (agree_then (IsBeside place 64) file staged (overlay staged place (1 ∷ [])) (of_body file staged staged_same)
      (of_gate staged (overlay staged place (1 ∷ [])) (overlay-beside staged place (1 ∷ []) gate_fits)))
      inside
    where
      inside : (i : ℕ) → i < 64 → get_or (overlay staged place (1 ∷ [])) (place + i) 0 ≡ get_or (slot_bytes t) i 0
      inside zero few = overlay-at staged place (1 ∷ []) (place + 0) 0 gate_fits refl (omega arith)
      inside (suc i) few =
          (overlay-beside staged place (1 ∷ []) gate_fits).same (place + suc i) (inr (omega arith))
          ∙ overlay-at file (place + 1) (slot_body t) (place + suc i) i body_fits (omega arith) (omega arith)

  -- the contents while the gate is being opened
  gate_torn : (c : List ℕ) → Torn place 1 staged c → LeavesGateClosed t.sequence file c ⊎ (c ≡ written)
  gate_torn c torn = elim (cases_Bool (is_open t.sequence c)) [
    | inl stands ↦ inr (
        overlay-is staged c place (1 ∷ []) gate_fits torn (λ i few.
        let first : i ≡ 0 = omega arith in
        let here : place + i ≡ place = omega arith in
        ap (λ (k : ℕ). get_or c k 0) here ∙ eqb-true (get_or c place 0) 1 stands ∙ sym (ap (λ (k : ℕ). get_or (1 ∷ []) k 0) first))
        ∙ opened)
    | inr shut ↦ inl (shut, agree_then (IsBeside place 64) file staged c (of_body file staged staged_same) (of_gate staged c torn))
  ]

-- a disk that has room for all segments has room for the slots
pub slots_within : (s : Settings) (size : ℕ) → 512 + s.segments * s.seg_size ≤ size → 512 ≤ size
slots_within s size room = omega (arith, room)

pub has_slots : (v : View) → Lawful v → 512 ≤ v.size → 512 ≤ length v.seen
has_slots v law long = let whole = law.whole in omega (arith, whole, long)

pub all_within : (s : Settings) (spans : List Span) (v : View) → Lawful v → AreWithin s v.size spans → AreWithin s (length v.seen) spans
all_within s spans v law within = subst (λ (n : ℕ). AreWithin s n spans) (sym law.whole) within

-- the two writes of a slot: first the bytes after the gate, and then the gate
module _ (t : Slot) (gate : ℕ) (bytes : List ℕ) (at : gate ≡ slot_place t.sequence) (is : bytes ≡ slot_bytes t) where
  body_seen : (file mid : List ℕ) → mid ≡ overlay file (gate + 1) (take 63 (drop 1 bytes)) → mid ≡ overlay file (slot_place t.sequence + 1) (slot_body t)
  body_seen file mid wrote = wrote ∙ ap (λ (n : ℕ). overlay file (n + 1) (take 63 (drop 1 bytes))) at ∙ ap (λ (bs : List ℕ). overlay file (slot_place t.sequence + 1) (take 63 (drop 1 bs))) is

  pub slot_opened : (file mid : List ℕ) → 512 ≤ length file → mid ≡ overlay file (gate + 1) (take 63 (drop 1 bytes)) → overlay mid gate (take 1 bytes) ≡ overlay file (slot_place t.sequence) (slot_bytes t)
  slot_opened file mid long wrote =
      ap (λ (f : List ℕ). overlay f gate (take 1 bytes)) (body_seen file mid wrote)
      ∙ ap (λ (n : ℕ). overlay (overlay file (slot_place t.sequence + 1) (slot_body t)) n (take 1 bytes)) at
      ∙ ap (λ (bs : List ℕ). overlay (overlay file (slot_place t.sequence + 1) (slot_body t)) (slot_place t.sequence) (take 1 bs)) is
      ∙ opened t file long

  -- on a synced disk
  module _ (old : View) (is_synced : IsSynced old) (long : 512 ≤ length old.seen) (shut : is_open t.sequence old.seen ≡ false) where
    abbrev Left : List ℕ → Type 0
    Left c = LeavesGateClosed t.sequence old.seen c ⊎ (c ≡ overlay old.seen (slot_place t.sequence) (slot_bytes t))

    pub body_leaves : (mid : View) → Leaves old mid (Torn (gate + 1) (length (take 63 (drop 1 bytes)))) → LeavesOnly old mid Left
    body_leaves mid wrote =
        leaves_only old mid (Torn (slot_place t.sequence + 1) 63) Left
        (λ d c might torn. inl (body_torn t old.seen long shut c (subst (λ (f : List ℕ). Torn (slot_place t.sequence + 1) 63 f c) (is_synced.only d might) torn)))
        (subst (λ (n : ℕ). Leaves old mid (Torn (n + 1) 63)) at (subst (λ (bs : List ℕ). Leaves old mid (Torn (gate + 1) (length (take 63 (drop 1 bs))))) is wrote))

    pub slot_leaves : (mid new : View) → IsSynced mid → mid.seen ≡ overlay old.seen (gate + 1) (take 63 (drop 1 bytes)) → Leaves old mid (Torn (gate + 1) (length (take 63 (drop 1 bytes)))) → Leaves mid new (Torn gate (length (take 1 bytes))) → LeavesOnly old new Left
    slot_leaves mid new settled_mid wrote first second =
        only_then old mid new Left (body_leaves mid first)
        (leaves_only mid new (Torn (slot_place t.sequence) 1) Left
        (λ d c might torn. gate_torn t old.seen long c (subst (λ (f : List ℕ). Torn (slot_place t.sequence) 1 f c) (settled_mid.only d might ∙ body_seen old.seen mid.seen wrote) torn))
        (subst (λ (n : ℕ). Leaves mid new (Torn n 1)) at (subst (λ (bs : List ℕ). Leaves mid new (Torn gate (length (take 1 bs)))) is second)))
