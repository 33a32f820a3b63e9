-- What a crash leaves of a commit: the old state, or everything that was committed.
use Rattle.std.proofs.Common.{◌≡◌, ◌⊎◌, inl, inr, ⊎_elim, ℕ, zero, suc, ◌+◌, ◌%◌, ◌<◌, ◌≤◌, Bool, true, false, ◌==◌, List, [], ◌∷◌, ◌++◌, length, get_or, refl, sym, ap, subst, ◌∙◌, arith, eqb-true, mod-lt}
use Rattle.std.proofs.lemmas.Bool.{cases_eq, cases_lt, cases_Bool}
use Rattle.keys.specs.declared.settings.Settings.{Settings}
use Rattle.flush_log.specs.Overlay.{overlay, IsBeside, AgreeAt}
use Rattle.flush_log.specs.Layout.{Span, place_of_span, with_spans}
use Rattle.flush_log.specs.Disk.{Torn}
use Rattle.flush_log.specs.Slot.{Slot, slot_place, slot_body, slot_bytes, is_open}
use Rattle.flush_log.specs.Commit.{Call, seen_after, MayLeave, LeftDuring, AreWithin, close_gate, IsClosing, prepare, open_gate, commit_calls, committed, IsBesideSpans, IsBesideSlot, IsUncommitted}
use Rattle.flush_log.specs.Commit.Call.{Write, Sync}
use Rattle.flush_log.proofs.OverlayLemmas.{length-overlay, overlay-beside, overlay-at, overlay-is, agree_same, agree_then, agree_less, agree_over}
use Rattle.flush_log.proofs.CallLemmas.{During, seen_after-append, leave-append, during-append, after_all, writes, seen_after-writes, writes-during}

-- ---- places

-- the slots are in the first 256 bytes
pub slot_low : (n : ℕ) → slot_place n + 64 ≤ 256
slot_low n = let two : n % 2 < 2 = mod-lt n (omega arith) in omega arith

module _ (s : Settings) where
  -- spans are after the first 512 bytes
  pub span_high : (r : Span) → 512 ≤ place_of_span s r
  span_high r = omega arith

  pub low_beside : (spans : List Span) (i : ℕ) → i < 512 → IsBesideSpans s spans i
  low_beside [] i low = tt
  low_beside (r ∷ spans) i low = let high = span_high r in (inl (omega arith), low_beside spans i low)

  within_same : (a b : List ℕ) (spans : List Span) → length b ≡ length a → AreWithin s (length a) spans → AreWithin s (length b) spans
  within_same a b spans same fit = subst (λ (n : ℕ). AreWithin s n spans) (sym same) fit

  -- what is written is in the spans
  pub spans-beside : (spans : List Span) (file : List ℕ) → AreWithin s (length file) spans → AgreeAt (IsBesideSpans s spans) file (with_spans s file spans)
  spans-beside [] file fit = agree_same (IsBesideSpans s []) file
  spans-beside (r ∷ spans) file fit =
      let at : ℕ = place_of_span s r in
      let next : List ℕ = overlay file at r.bytes in
      let here = overlay-beside file at r.bytes fit.0 in
      let rest = spans-beside spans next (within_same file next spans here.long fit.1) in
      agree_then (IsBesideSpans s (r ∷ spans)) file next (with_spans s next spans)
      (agree_less (IsBeside at (length r.bytes)) (IsBesideSpans s (r ∷ spans)) file next (λ i out. out.0) here)
      (agree_less (IsBesideSpans s spans) (IsBesideSpans s (r ∷ spans)) next (with_spans s next spans) (λ i out. out.1) rest)

  -- spans written over files that agree
  pub spans-over : (Such : ℕ → Type 0) (spans : List Span) (a b : List ℕ) → AreWithin s (length a) spans → AgreeAt Such a b → AgreeAt Such (with_spans s a spans) (with_spans s b spans)
  spans-over Such [] a b fit ab = ab
  spans-over Such (r ∷ spans) a b fit ab =
      let at : ℕ = place_of_span s r in
      let next : List ℕ = overlay a at r.bytes in
      spans-over Such spans next (overlay b at r.bytes) (within_same a next spans (length-overlay a at r.bytes fit.0) fit.1) (agree_over Such a b at r.bytes fit.0 ab)

-- ---- the commit

module _ (s : Settings) (file : List ℕ) (spans : List Span) (t : Slot) (long : 512 ≤ length file) (fit : AreWithin s (length file) spans) where
  abbrev place : ℕ
  place = slot_place t.sequence

  abbrev Before : List ℕ → Type 0
  Before c = IsUncommitted s t.sequence spans file c

  place_low : place + 64 ≤ 256
  place_low = slot_low t.sequence

  gate_beside : IsBesideSpans s spans place
  gate_beside = let low = place_low in low_beside s spans place (omega arith)

  gate_fits : place + 1 ≤ length file
  gate_fits = let low = place_low in omega arith

  -- the gate is being closed, if it is to be
  abbrev Closing : Bool → List ℕ → Type 0
  Closing b c = IsClosing b place file c

  no_torn : (c : List ℕ) → c ≡ file → Torn place 1 file c
  no_torn c is = subst (λ (f : List ℕ). Torn place 1 file f) (sym is) (agree_same (IsBeside place 1) file)

  closing : (b : Bool) (c : List ℕ) → During (close_gate b place) file (λ d. d ≡ file) c → Closing b c
  closing false c (zero, h) = h
  closing false c (suc k, h) = h
  closing true c (zero, h) = no_torn c h
  closing true c (suc zero, (d, is, torn)) = subst (λ (f : List ℕ). Torn place 1 f c) is torn
  closing true c (suc (suc k), (d, is, torn)) = subst (λ (f : List ℕ). Torn place 1 f c) is torn

  -- a gate that is as open as before: nothing was torn
  untorn : (d : List ℕ) → Torn place 1 file d → get_or d place 0 ≡ get_or file place 0 → AgreeAt (IsBesideSpans s spans) file d
  untorn d torn gate = record { long = torn.long; same = λ i out. each i }
    where
      each : (i : ℕ) → get_or d i 0 ≡ get_or file i 0
      each i = elim (cases_eq i place) [
        | inl is ↦ ap (λ (k : ℕ). get_or d k 0) is ∙ gate ∙ ap (λ (k : ℕ). get_or file k 0) (sym is)
        | inr other ↦ elim (cases_lt i place) [ inl low ↦ torn.same i (inl low) | inr high ↦ torn.same i (inr (omega arith)) ]
      ]

  -- beside the slot there is nothing of its gate
  beside_gate : (i : ℕ) → IsBeside place 64 i → IsBeside place 1 i
  beside_gate i out = ⊎_elim (λ low. inl low) (λ high. inr (omega arith)) out

  slot_agree : (d c : List ℕ) → Torn place 1 file d → AgreeAt (IsBesideSpans s spans) d c → AgreeAt (IsBesideSlot s t.sequence spans) file c
  slot_agree d c torn same =
      agree_then (IsBesideSlot s t.sequence spans) file d c
      (agree_less (IsBeside place 1) (IsBesideSlot s t.sequence spans) file d (λ i out. beside_gate i out.0) torn)
      (agree_less (IsBesideSpans s spans) (IsBesideSlot s t.sequence spans) d c (λ i out. out.1) same)

  -- the spans are torn, over a gate that is being closed
  pub before_from : (b : Bool) → is_open t.sequence file ≡ b → (d c : List ℕ) → Closing b d → AgreeAt (IsBesideSpans s spans) d c → Before c
  before_from false was d c is same = inl (subst (λ (f : List ℕ). AgreeAt (IsBesideSpans s spans) f c) is same)
  before_from true was d c torn same = elim (cases_Bool (is_open t.sequence c)) [
    | inl stands ↦
        let now : get_or c place 0 ≡ 1 = eqb-true (get_or c place 0) 1 stands in
        let before : get_or file place 0 ≡ 1 = eqb-true (get_or file place 0) 1 was in
        let gate : get_or d place 0 ≡ get_or file place 0 = sym (same.same place gate_beside) ∙ now ∙ sym before in
        inl (agree_then (IsBesideSpans s spans) file d c (untorn d torn gate) same)
    | inr shut ↦ inr (shut, slot_agree d c torn same)
  ]

  -- ---- after the gate is closed and the spans are written

  module _ (b : Bool) (was : is_open t.sequence file ≡ b) where
    abbrev shut_file : List ℕ
    shut_file = seen_after (close_gate b place) file

    abbrev mid : List ℕ
    mid = seen_after (writes s spans) shut_file

    abbrev staged : List ℕ
    staged = overlay mid (place + 1) (slot_body t)

    shut_closing : Closing b shut_file
    shut_closing = of b
      where
        of : (x : Bool) → Closing x (seen_after (close_gate x place) file)
        of false = refl
        of true = overlay-beside file place (0 ∷ []) gate_fits

    shut_torn : Torn place 1 file shut_file
    shut_torn = of b shut_closing
      where
        of : (x : Bool) → Closing x shut_file → Torn place 1 file shut_file
        of false is = no_torn shut_file is
        of true torn = torn

    pub shut_fit : AreWithin s (length shut_file) spans
    shut_fit = within_same s file shut_file spans shut_torn.long fit

    mid_same : AgreeAt (IsBesideSpans s spans) shut_file mid
    mid_same =
        subst (λ (f : List ℕ). AgreeAt (IsBesideSpans s spans) shut_file f) (sym (seen_after-writes s spans shut_file))
        (spans-beside s spans shut_file shut_fit)

    pub mid_agree : AgreeAt (IsBesideSlot s t.sequence spans) file mid
    mid_agree = slot_agree shut_file mid shut_torn mid_same

    shut_gate : (get_or shut_file place 0 == 1) ≡ false
    shut_gate = of b was
      where
        of : (x : Bool) → is_open t.sequence file ≡ x → (get_or (seen_after (close_gate x place) file) place 0 == 1) ≡ false
        of false is = is
        of true is =
            let zero_place : place ≡ place + 0 = omega arith in
            ap (λ (n : ℕ). n == 1) (overlay-at file place (0 ∷ []) place 0 gate_fits zero_place (omega arith))

    pub mid_shut : is_open t.sequence mid ≡ false
    mid_shut = ap (λ (n : ℕ). n == 1) (mid_same.same place gate_beside) ∙ shut_gate

    -- the slot after its gate was changed alone
    half : (c : List ℕ) → AgreeAt (IsBeside (place + 1) 63) mid c → Before c
    half c same = inr (
      ap (λ (n : ℕ). n == 1) (same.same place (inl (omega arith))) ∙ mid_shut,
      agree_then (IsBesideSlot s t.sequence spans) file mid c mid_agree
          (agree_less (IsBeside (place + 1) 63) (IsBesideSlot s t.sequence spans) mid c (λ i out. ⊎_elim (λ low. inl (omega arith)) (λ high. inr (omega arith)) out.0) same),
    )

    body_fits : place + 1 + 63 ≤ length mid
    body_fits = let low = place_low in let same = mid_agree.long in omega arith

    staged_same : AgreeAt (IsBeside (place + 1) 63) mid staged
    staged_same = overlay-beside mid (place + 1) (slot_body t) body_fits

    staged_fits : place + 1 ≤ length staged
    staged_fits = let low = place_low in let same = mid_agree.long in let same2 = staged_same.long in omega arith

    -- while the gate is being opened
    gate_half : (c : List ℕ) → Torn place 1 staged c → Before c ⊎ (c ≡ overlay staged place (1 ∷ []))
    gate_half c torn = of (is_open t.sequence c) refl
      where
        of : (x : Bool) → is_open t.sequence c ≡ x → Before c ⊎ (c ≡ overlay staged place (1 ∷ []))
        of true open_now = inr (overlay-is staged c place (1 ∷ []) staged_fits torn (λ i few.
            let first : i ≡ 0 = omega arith in
            let here : place + i ≡ place = omega arith in
            ap (λ (k : ℕ). get_or c k 0) here ∙ eqb-true (get_or c place 0) 1 open_now ∙ sym (ap (λ (k : ℕ). get_or (1 ∷ []) k 0) first)))
        of false shut_now = inl (inr (
          shut_now,
          agree_then (IsBesideSlot s t.sequence spans) file staged c
              (agree_then (IsBesideSlot s t.sequence spans) file mid staged mid_agree
              (agree_less (IsBeside (place + 1) 63) (IsBesideSlot s t.sequence spans) mid staged (λ i out. ⊎_elim (λ low. inl (omega arith)) (λ high. inr (omega arith)) out.0) staged_same))
              (agree_less (IsBeside place 1) (IsBesideSlot s t.sequence spans) staged c (λ i out. beside_gate i out.0) torn),
        ))

    -- the bytes with the spans alone
    abbrev plain : List ℕ
    plain = with_spans s file spans

    plain_same : AgreeAt (IsBesideSpans s spans) file plain
    plain_same = spans-beside s spans file fit

    slot_fits : place + 64 ≤ length plain
    slot_fits = let low = place_low in let same = plain_same.long in omega arith

    -- with the gate closed first they differ in it alone
    mid_plain : AgreeAt (IsBeside place 1) plain mid
    mid_plain =
        subst (λ (f : List ℕ). AgreeAt (IsBeside place 1) plain f) (sym (seen_after-writes s spans shut_file))
        (spans-over s (IsBeside place 1) spans file shut_file fit shut_torn)

    done : overlay staged place (1 ∷ []) ≡ committed s file spans t
    done =
        overlay-is plain (overlay staged place (1 ∷ [])) place (slot_bytes t) slot_fits
        (agree_then (IsBeside place 64) plain mid (overlay staged place (1 ∷ []))
        (agree_less (IsBeside place 1) (IsBeside place 64) plain mid beside_gate mid_plain)
        (agree_then (IsBeside place 64) mid staged (overlay staged place (1 ∷ []))
        (agree_less (IsBeside (place + 1) 63) (IsBeside place 64) mid staged (λ i out. ⊎_elim (λ low. inl (omega arith)) (λ high. inr (omega arith)) out) staged_same)
        (agree_less (IsBeside place 1) (IsBeside place 64) staged (overlay staged place (1 ∷ [])) beside_gate (overlay-beside staged place (1 ∷ []) staged_fits))))
        inside
      where
        inside : (i : ℕ) → i < 64 → get_or (overlay staged place (1 ∷ [])) (place + i) 0 ≡ get_or (slot_bytes t) i 0
        inside zero few = overlay-at staged place (1 ∷ []) (place + 0) 0 staged_fits refl (omega arith)
        inside (suc i) few =
            (overlay-beside staged place (1 ∷ []) staged_fits).same (place + suc i) (inr (omega arith))
            ∙ overlay-at mid (place + 1) (slot_body t) (place + suc i) i body_fits (omega arith) (omega arith)

    -- ---- all calls

    abbrev following : List Call
    following = Sync ∷ Write (place + 1) (slot_body t) ∷ Sync ∷ []

    abbrev possible : List ℕ → Type 0
    possible = MayLeave (close_gate b place) file (λ d. d ≡ file)

    -- in the first three steps
    spans_before : (c : List ℕ) → During (writes s spans) shut_file possible c → Before c
    spans_before c h =
        let (d, is, same) = writes-during s spans shut_file possible c h in
        before_from b was d c (closing b d (after_all (close_gate b place) file (λ e. e ≡ file) d is)) same

    close_before : (c : List ℕ) → During (close_gate b place) file (λ d. d ≡ file) c → Before c
    close_before c h = before_from b was c c (closing b c h) (agree_same (IsBesideSpans s spans) c)

    mid_before : (c : List ℕ) → c ≡ mid → Before c
    mid_before c is = subst Before (sym is) (before_from b was shut_file mid shut_closing mid_same)

    staged_before : (c : List ℕ) → c ≡ staged → Before c
    staged_before c is = half c (subst (λ (f : List ℕ). AgreeAt (IsBeside (place + 1) 63) mid f) (sym is) staged_same)

    -- in steps 3 to 5
    after_before : (c : List ℕ) → During following mid (MayLeave (writes s spans) shut_file possible) c → Before c
    after_before c (zero, h) = spans_before c (after_all (writes s spans) shut_file possible c h)
    after_before c (suc zero, h) = mid_before c h
    after_before c (suc (suc zero), (d, is, torn)) = half c (subst (λ (f : List ℕ). AgreeAt (IsBeside (place + 1) 63) f c) is torn)
    after_before c (suc (suc (suc zero)), h) = staged_before c h
    after_before c (suc (suc (suc (suc k))), h) = staged_before c h

    abbrev first_calls : List Call
    first_calls = close_gate b place ++ (writes s spans ++ following)

    first_before : (c : List ℕ) → During first_calls file (λ d. d ≡ file) c → Before c
    first_before c h =
        ⊎_elim (close_before c)
        (λ later. ⊎_elim (spans_before c) (after_before c) (during-append (writes s spans) following shut_file possible c later))
        (during-append (close_gate b place) (writes s spans ++ following) file (λ d. d ≡ file) c h)

    first_seen : seen_after first_calls file ≡ staged
    first_seen = seen_after-append (close_gate b place) (writes s spans ++ following) file ∙ seen_after-append (writes s spans) following shut_file

    first_leave : (c : List ℕ) → MayLeave first_calls file (λ d. d ≡ file) c → c ≡ staged
    first_leave c h = leave-append (writes s spans) following shut_file possible c (leave-append (close_gate b place) (writes s spans ++ following) file (λ d. d ≡ file) c h)

    open_end : (seen c : List ℕ) → seen ≡ staged → c ≡ overlay seen place (1 ∷ []) → c ≡ committed s file spans t
    open_end seen c is h = h ∙ ap (λ (f : List ℕ). overlay f place (1 ∷ [])) is ∙ done

    -- in steps 6 and 7
    open_during : (seen : List ℕ) (might : List ℕ → Type 0) (c : List ℕ) → seen ≡ staged → ((d : List ℕ) → might d → d ≡ staged) → During (open_gate t) seen might c
        → Before c ⊎ (c ≡ committed s file spans t)
    open_during seen might c is only (zero, h) = inl (staged_before c (only c h))
    open_during seen might c is only (suc zero, (d, h, torn)) =
        ⊎_elim (λ before. inl before) (λ whole. inr (whole ∙ done)) (gate_half c (subst (λ (f : List ℕ). Torn place 1 f c) (only d h) torn))
    open_during seen might c is only (suc (suc zero), h) = inr (open_end seen c is h)
    open_during seen might c is only (suc (suc (suc k)), h) = inr (open_end seen c is h)

    all_during : (c : List ℕ) → During (first_calls ++ open_gate t) file (λ d. d ≡ file) c → Before c ⊎ (c ≡ committed s file spans t)
    all_during c h =
        ⊎_elim (λ first. inl (first_before c first)) (open_during (seen_after first_calls file) (MayLeave first_calls file (λ d. d ≡ file)) c first_seen first_leave)
        (during-append first_calls (open_gate t) file (λ d. d ≡ file) c h)

    all_seen : seen_after (first_calls ++ open_gate t) file ≡ committed s file spans t
    all_seen = seen_after-append first_calls (open_gate t) file ∙ open_end (seen_after first_calls file) _ first_seen refl

    all_leave : (c : List ℕ) → MayLeave (first_calls ++ open_gate t) file (λ d. d ≡ file) c → c ≡ committed s file spans t
    all_leave c h = open_end (seen_after first_calls file) c first_seen (leave-append first_calls (open_gate t) file (λ d. d ≡ file) c h)

  -- ---- the outcomes of a crash

  pub left-before : (c : List ℕ) → LeftDuring (prepare s file spans t) file c → Before c
  left-before c h = first_before (is_open t.sequence file) refl c h

  pub left-during : (c : List ℕ) → LeftDuring (commit_calls s file spans t) file c → Before c ⊎ (c ≡ committed s file spans t)
  left-during c h = all_during (is_open t.sequence file) refl c h

  pub seen-done : seen_after (commit_calls s file spans t) file ≡ committed s file spans t
  seen-done = all_seen (is_open t.sequence file) refl

  pub left-done : (c : List ℕ) → MayLeave (commit_calls s file spans t) file (λ d. d ≡ file) c → c ≡ committed s file spans t
  left-done c h = all_leave (is_open t.sequence file) refl c h
