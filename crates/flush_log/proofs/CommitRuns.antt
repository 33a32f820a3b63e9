-- The two halves of a commit on any disk, and their effects.
use Rattle.std.proofs.Common.{◌≡◌, ◌⊎◌, inl, inr, ⊎_elim, ℕ, suc, ◌+◌, ◌≤◌, Bool, true, false, ◌==◌, List, [], ◌∷◌, length, map, refl, sym, ap, subst, ◌∙◌, arith, eqb-true}
use Rattle.keys.specs.declared.settings.Settings.{Settings}
use Rattle.keys.specs.declared.version.Version.TheVariants.{One}
use Rattle.frame_codec.specs.Frame.{Frame, bytes_of}
use Rattle.flush_log.specs.Overlay.{overlay, IsBeside, AgreeAt}
use Rattle.flush_log.specs.Images.{AreOfText}
use Rattle.flush_log.specs.Layout.{Span, spans, with_spans}
use Rattle.flush_log.specs.Disk.{View, Lawful, IsSynced, Leaves, LeavesOnly}
use Rattle.flush_log.specs.Slot.{Slot, slot_place, slot_bytes, is_open}
use Rattle.flush_log.specs.Commit.{seen_after, AreWithin, close_gate, IsClosing, committed, LeavesGateClosed, IsBesideSpans, IsBesideSlot, IsUncommitted}
use Rattle.flush_log.proofs.OverlayLemmas.{overlay-beside, overlay-at, overlay-is, agree_same, agree_then, agree_less}
use Rattle.flush_log.proofs.CallLemmas.{seen_after-writes, writes}
use Rattle.flush_log.proofs.CommitLemmas.{slot_low, spans-beside, spans-over, before_from, mid_agree, mid_shut}
use Rattle.flush_log.proofs.ViewLemmas.{then, leaves_only, only_then, weaker, now_leaves}

-- a slot with this number, where only its number counts
abbrev numbered : ℕ → Slot
numbered n = record { sequence = n; head = 0; tail = 0; root = 0; height = 0; version = One }

-- the same bytes written over files that agree beside them
overlay_over : (a b : List ℕ) (at : ℕ) (bytes : List ℕ) → at + length bytes ≤ length a → AgreeAt (IsBeside at (length bytes)) a b → overlay b at bytes ≡ overlay a at bytes
overlay_over a b at bytes fits same =
    overlay-is a (overlay b at bytes) at bytes fits (agree_then (IsBeside at (length bytes)) a b (overlay b at bytes) same (overlay-beside b at bytes fits_b))
    (λ i few. overlay-at b at bytes (at + i) i fits_b refl few)
  where
    fits_b : at + length bytes ≤ length b
    fits_b = let long = same.long in omega (arith, long, fits)

-- ---- a commit that may have no images

-- no images are the encoding of no frames, for which nothing is written
pub no_spans : (s : Settings) (tail : ℕ) (images : List (List (List ℕ))) (text : List Frame) (file : List ℕ) → (length images == 0) ≡ true → AreOfText images text
    → file ≡ with_spans s file (spans s tail text)
no_spans s tail [] [] file none of = refl
no_spans s tail [] (f ∷ text) file none of = let long : 0 ≡ suc (length (map {B = List ℕ} (λ f. bytes_of f) text)) = ap length of in absurd (omega (arith, long))
no_spans s tail (image ∷ images) text file none of = let long = eqb-true (length (image ∷ images)) 0 none in absurd (omega (arith, long))

-- if there are images, there are frames
pub some_text : (images : List (List (List ℕ))) (size : ℕ) → (length images == 0) ≡ false → (images ≡ []) ⊎ (1 ≤ size) → 1 ≤ size
some_text [] size some either = absurd (cc)
some_text (image ∷ images) size some either = ⊎_elim (λ none. absurd (cc)) (λ text. text) either

-- ---- the first half: the gate is closed, the spans are written, and both are synced

module _ (s : Settings) (n : ℕ) (b : Bool) (spans : List Span) (old : View) (is_synced : IsSynced old) (long : 512 ≤ length old.seen) (fit : AreWithin s (length old.seen) spans) (was : b ≡ is_open n old.seen) where
  abbrev Before : List ℕ → Type 0
  Before = IsUncommitted s n spans old.seen

  from_closing : (d c e : List ℕ) → old.may_leave d → IsClosing b (slot_place n) d c → AgreeAt (IsBesideSpans s spans) c e → Before e
  from_closing d c e might closing same =
      before_from s old.seen spans (numbered n) long fit b (sym was) c e (subst (λ (f : List ℕ). IsClosing b (slot_place n) f c) (is_synced.only d might) closing) same

  pub closing_leaves : (v : View) → Leaves old v (IsClosing b (slot_place n)) → LeavesOnly old v Before
  closing_leaves v closed =
      leaves_only old v (IsClosing b (slot_place n)) Before (λ d c might closing. from_closing d c c might closing (agree_same (IsBesideSpans s spans) c)) closed

  abbrev Both : List ℕ → List ℕ → Type 0
  Both d e = (c : List ℕ) × IsClosing b (slot_place n) d c × AgreeAt (IsBesideSpans s spans) c e

  pub spans_leave : (mid new : View) → Lawful mid → Leaves old mid (IsClosing b (slot_place n)) → Leaves mid new (AgreeAt (IsBesideSpans s spans)) → LeavesOnly old new Before
  spans_leave mid new law closed wrote =
      leaves_only old new Both Before (λ d e might both. from_closing d both.0 e might both.1 both.2)
      (then old mid new (IsClosing b (slot_place n)) (AgreeAt (IsBesideSpans s spans)) Both law
      (λ d c e closing same. (c, closing, same)) (λ d c closing. (c, closing, agree_same (IsBesideSpans s spans) c)) closed wrote)

  pub prepare_leaves : (mid last new : View) → Lawful mid → Lawful last → Leaves old mid (IsClosing b (slot_place n)) → Leaves mid last (AgreeAt (IsBesideSpans s spans)) → Leaves last new (λ d c. c ≡ d) → LeavesOnly old new Before
  prepare_leaves mid last new law law_last closed wrote synced =
      let run = spans_leave mid last law closed wrote in
      only_then old last new Before run
      (leaves_only last new (λ d c. c ≡ d) Before (λ d c might is. subst Before (sym is) (now_leaves old last Before law_last run d might)) synced)

-- ---- the second half: the slot

module _ (s : Settings) (t : Slot) (b : Bool) (spans : List Span) (file : List ℕ) (long : 512 ≤ length file) (fit : AreWithin s (length file) spans) where
  abbrev place : ℕ
  place = slot_place t.sequence

  abbrev shut_file : List ℕ
  shut_file = seen_after (close_gate b place) file

  abbrev mid : List ℕ
  mid = with_spans s shut_file spans

  shut_beside : AgreeAt (IsBeside place 1) file shut_file
  shut_beside = of b
    where
      of : (x : Bool) → AgreeAt (IsBeside place 1) file (seen_after (close_gate x place) file)
      of true = overlay-beside file place (0 ∷ []) (let low = slot_low t.sequence in omega (arith, low, long))
      of false = agree_same (IsBeside place 1) file

  -- the slot makes the same of it as of the bytes with the spans alone
  pub slot_committed : overlay mid place (slot_bytes t) ≡ committed s file spans t
  slot_committed =
      let same = spans-over s (IsBeside place 1) spans file shut_file fit shut_beside in
      overlay_over (with_spans s file spans) mid place (slot_bytes t) (let low = slot_low t.sequence in let kept = spans_long in omega (arith, low, long, kept))
      (agree_less (IsBeside place 1) (IsBeside place 64) (with_spans s file spans) mid (λ i out. out_of i out) same)
    where
      spans_long : length (with_spans s file spans) ≡ length file
      spans_long = (spans-beside s spans file fit).long

      out_of : (i : ℕ) → IsBeside place 64 i → IsBeside place 1 i
      out_of i out = ⊎_elim (λ low. inl low) (λ high. inr (omega (arith, high))) out

  module _ (was : b ≡ is_open t.sequence file) where
    mid_is : seen_after (writes s spans) shut_file ≡ mid
    mid_is = seen_after-writes s spans shut_file

    pub mid_closed : is_open t.sequence mid ≡ false
    mid_closed = subst (λ (f : List ℕ). is_open t.sequence f ≡ false) mid_is (mid_shut s file spans t long fit b (sym was))

    pub half_left : (c : List ℕ) → LeavesGateClosed t.sequence mid c ⊎ (c ≡ overlay mid place (slot_bytes t)) → IsUncommitted s t.sequence spans file c ⊎ (c ≡ committed s file spans t)
    half_left c left = ⊎_elim
        (λ half. inl (inr (
          half.0,
          agree_then (IsBesideSlot s t.sequence spans) file mid c
              (subst (λ (f : List ℕ). AgreeAt (IsBesideSlot s t.sequence spans) file f) mid_is (mid_agree s file spans t long fit b (sym was)))
              (agree_less (IsBeside place 64) (IsBesideSlot s t.sequence spans) mid c (λ i out. out.0) half.1),
        )))
        (λ is. inr (is ∙ slot_committed)) left

  -- both halves
  module _ (old last : View) where
    abbrev Left : List ℕ → Type 0
    Left c = IsUncommitted s t.sequence spans file c ⊎ (c ≡ committed s file spans t)

    pub unfinished : LeavesOnly old last (IsUncommitted s t.sequence spans file) → LeavesOnly old last Left
    unfinished first = weaker old last (IsUncommitted s t.sequence spans file) Left (λ c before. inl before) first

    pub commit_leaves : (new : View) → b ≡ is_open t.sequence file → last.seen ≡ mid → LeavesOnly old last (IsUncommitted s t.sequence spans file)
        → LeavesOnly last new (λ c. LeavesGateClosed t.sequence last.seen c ⊎ (c ≡ overlay last.seen place (slot_bytes t))) → LeavesOnly old new Left
    commit_leaves new was seen first second =
        only_then old last new Left (unfinished first)
        (weaker last new (λ c. LeavesGateClosed t.sequence last.seen c ⊎ (c ≡ overlay last.seen place (slot_bytes t))) Left
        (λ c left. half_left was c (subst (λ (f : List ℕ). LeavesGateClosed t.sequence f c ⊎ (c ≡ overlay f place (slot_bytes t))) seen left)) second)
