-- A pass over frames that collects and writes them: the written bytes, and what a crash during the pass leaves.
use Rattle.std.proofs.Common.{◌≡◌, ℕ, ◌≤◌, IsTrue, Result, Ok, Err, OnOk, List, [], ◌∷◌, ◌++◌, length, refl, sym, ap, subst, ◌∙◌, arith, ◌⊎◌, inl, inr}
use Rattle.keys.specs.Bytes.{Bytes}
use Rattle.keys.specs.declared.settings.Settings.{Settings}
use Rattle.flush_log.specs.Commit.{IsBesideSpans}
use Rattle.flush_log.specs.Disk.{View, Lawful, Kept, Leaves}
use Rattle.flush_log.specs.Gathering.{left_by, open_after}
use Rattle.flush_log.specs.Images.{FitSegments}
use Rattle.flush_log.specs.Layout.{Span, place_of_span, with_spans}
use Rattle.flush_log.specs.Overlay.{overlay, IsBeside, AgreeAt}
use Rattle.flush_log.specs.Slot.{greatest}
use Rattle.flush_log.proofs.GatherLemmas.{left-append, open-append, open-rises}
use Rattle.flush_log.proofs.OverlayLemmas.{agree_same, agree_then, agree_less}
use Rattle.flush_log.proofs.ReachLemmas.{fits-following}
use Rattle.flush_log.proofs.ViewLemmas.{then}

-- a run by nothing
pub stays : (v : View) (step : Bytes → Bytes → Type 0) → Lawful v → ((d : Bytes) → step d d) → Leaves v v step
stays v step law same = record {
  time = record { later = omega arith; splits = λ t c le left. inl left; keeps = λ t c le left. keeps t c le left };
  crash = λ c left. (c, law.only_now c left, same c);
}
  where
    keeps : (t : ℕ) (c : Bytes) → t ≤ v.moment → v.left_since t c ⊎ v.left_since v.moment c → v.left_since t c
    keeps t c le (inl old) = old
    keeps t c le (inr now) = law.counts_now t c le (law.only_now c now)

-- a run by steps that are such as well
pub leaves_less : (old new : View) (r q : Bytes → Bytes → Type 0) → ((d e : Bytes) → r d e → q d e) → Leaves old new r → Leaves old new q
leaves_less old new r q so run = record { time = run.time; crash = λ c left. let from = run.crash c left in (from.0, from.1, so from.0 c from.2) }

-- a write of one span
pub leaves-span : (s : Settings) (r : Span) (at : ℕ) (old new : View) → at ≡ place_of_span s r → Leaves old new (AgreeAt (IsBeside at (length r.bytes))) → Leaves old new (AgreeAt (IsBesideSpans s (r ∷ [])))
leaves-span s r at old new is run =
    leaves_less old new (AgreeAt (IsBeside at (length r.bytes))) (AgreeAt (IsBesideSpans s (r ∷ [])))
    (λ d e h. agree_less (IsBeside at (length r.bytes)) (IsBesideSpans s (r ∷ [])) d e (λ i out. subst (λ (n : ℕ). IsBeside n (length r.bytes) i) (sym is) out.0) h) run

pub on_ok : {X E P Q : Type 0} (r : Result X E) → (P → Q) → OnOk r P → OnOk r Q
on_ok (Ok x) so h = so h
on_ok (Err e) so h = h

pub with-append : (s : Settings) (file : Bytes) (us vs : List Span) → with_spans s file (us ++ vs) ≡ with_spans s (with_spans s file us) vs
with-append s file [] vs = refl
with-append s file (u ∷ us) vs = with-append s (overlay file (place_of_span s u) u.bytes) us vs

pub beside-before : (s : Settings) (us vs : List Span) (place : ℕ) → IsBesideSpans s (us ++ vs) place → IsBesideSpans s us place
beside-before s [] vs place h = tt
beside-before s (u ∷ us) vs place h = (h.0, beside-before s us vs place h.1)

pub beside-following : (s : Settings) (us vs : List Span) (place : ℕ) → IsBesideSpans s (us ++ vs) place → IsBesideSpans s vs place
beside-following s [] vs place h = h
beside-following s (u ∷ us) vs place h = beside-following s us vs place h.1

module _ (s : Settings) (start : Span) (frames : List Bytes) (old : View) where
  abbrev pub Beside : List Span → Bytes → Bytes → Type 0
  Beside rs = AgreeAt (IsBesideSpans s rs)

  -- as far as the rest of the frames, with this span gathered
  pub record Going (now : View) (r : Span) (rest : List Bytes) : Type 0 where
    pub fits : FitSegments s rest
    pub room : (open_after s r rest).segment ≤ greatest
    pub same : open_after s r rest ≡ open_after s start frames
    pub kept : Kept old now
    pub beside : (place : ℕ) → IsBesideSpans s (left_by s start frames) place → IsBesideSpans s (left_by s r rest) place
    pub written : IsTrue old.is_honest → with_spans s now.seen (left_by s r rest) ≡ with_spans s old.seen (left_by s start frames)
    pub crash : IsTrue old.is_honest → Leaves old now (Beside (left_by s start frames))

  pub going-starts : (IsTrue old.is_honest → Lawful old) → FitSegments s frames → (open_after s start frames).segment ≤ greatest → Going old start frames
  going-starts law fits room = record {
    fits = fits;
    room = room;
    same = refl;
    kept = record { honest = refl; size = refl };
    beside = λ place h. h;
    written = λ honest. refl;
    crash = λ honest. stays old (Beside (left_by s start frames)) (law honest) (agree_same (IsBesideSpans s (left_by s start frames)));
  }

  -- there is a segment for the next frames
  pub going-room : (now : View) (r : Span) (us vs : List Bytes) → Going now r (us ++ vs) → (open_after s r us).segment ≤ greatest
  going-room now r us vs going =
      let rises = open-rises s (open_after s r us) vs in
      let all = going.room in
      let same = ap (λ (x : Span). x.segment) (open-append s r us vs) in
      omega (arith, rises, all, same)

  module _ (now new : View) (r : Span) (us vs : List Bytes) (law : IsTrue now.is_honest → Lawful now) (going : Going now r (us ++ vs)) (kept : Kept now new)
      (crash : IsTrue now.is_honest → Leaves now new (Beside (left_by s r us))) where
    still : IsTrue old.is_honest → IsTrue now.is_honest
    still honest = subst (λ b. IsTrue b) (sym going.kept.honest) honest

    beside_first : (place : ℕ) → IsBesideSpans s (left_by s start frames) place → IsBesideSpans s (left_by s r us) place
    beside_first place h =
        beside-before s (left_by s r us) (left_by s (open_after s r us) vs) place
        (subst (λ (rs : List Span). IsBesideSpans s rs place) (left-append s r us vs) (going.beside place h))

    beside_rest : (place : ℕ) → IsBesideSpans s (left_by s start frames) place → IsBesideSpans s (left_by s (open_after s r us) vs) place
    beside_rest place h =
        beside-following s (left_by s r us) (left_by s (open_after s r us) vs) place
        (subst (λ (rs : List Span). IsBesideSpans s rs place) (left-append s r us vs) (going.beside place h))

    pub going-kept : Kept old new
    going-kept = record { honest = kept.honest ∙ going.kept.honest; size = kept.size ∙ going.kept.size }

    -- these frames were written, or a call failed meanwhile
    pub going-leaves : IsTrue old.is_honest → Leaves old new (Beside (left_by s start frames))
    going-leaves honest =
        let all = left_by s start frames in
        then old now new (Beside all) (Beside all) (Beside all) (law (still honest))
        (λ d e f. agree_then (IsBesideSpans s all) d e f) (λ d e h. h) (going.crash honest)
        (leaves_less now new (Beside (left_by s r us)) (Beside all)
        (λ d e h. agree_less (IsBesideSpans s (left_by s r us)) (IsBesideSpans s all) d e beside_first h) (crash (still honest)))

    -- they were written
    pub going-on : (next : Span) → next ≡ open_after s r us → (IsTrue now.is_honest → new.seen ≡ with_spans s now.seen (left_by s r us)) → Going new next vs
    going-on next is wrote =
        let at_next : open_after s next vs ≡ open_after s r (us ++ vs) = ap (λ (x : Span). open_after s x vs) is ∙ sym (open-append s r us vs) in
        let left_next : left_by s next vs ≡ left_by s (open_after s r us) vs = ap (λ (x : Span). left_by s x vs) is in
        record {
          fits = fits-following s us vs going.fits;
          room = subst (λ (x : Span). x.segment ≤ greatest) (sym at_next) going.room;
          same = at_next ∙ going.same;
          kept = going-kept;
          beside = λ place h. subst (λ (rs : List Span). IsBesideSpans s rs place) (sym left_next) (beside_rest place h);
          written = λ honest.
              ap (λ (f : Bytes). with_spans s f (left_by s next vs)) (wrote (still honest))
              ∙ ap (with_spans s (with_spans s now.seen (left_by s r us))) left_next
              ∙ sym (with-append s now.seen (left_by s r us) (left_by s (open_after s r us) vs))
              ∙ ap (with_spans s now.seen) (sym (left-append s r us vs))
              ∙ going.written honest;
          crash = going-leaves;
        }

  -- what is still gathered is written after the last frame, or the last call failed
  abbrev pub all_spans : List Span
  all_spans = left_by s start frames ++ open_after s start frames ∷ []

  pub leaves-all : (new : View) → Leaves old new (Beside (left_by s start frames)) → Leaves old new (Beside all_spans)
  leaves-all new run =
      leaves_less old new (Beside (left_by s start frames)) (Beside all_spans)
      (λ d e h. agree_less (IsBesideSpans s (left_by s start frames)) (IsBesideSpans s all_spans) d e
      (λ place k. beside-before s (left_by s start frames) (open_after s start frames ∷ []) place k) h) run

  module _ (now new : View) (r : Span) (law : IsTrue now.is_honest → Lawful now) (going : Going now r []) where
    pub alive : IsTrue old.is_honest → IsTrue now.is_honest
    alive honest = subst (λ b. IsTrue b) (sym going.kept.honest) honest

    pub ends-written : IsTrue old.is_honest → (IsTrue now.is_honest → new.seen ≡ with_spans s now.seen (r ∷ [])) → new.seen ≡ with_spans s old.seen all_spans
    ends-written honest wrote =
        wrote (alive honest)
        ∙ ap (λ (x : Span). with_spans s now.seen (x ∷ [])) going.same
        ∙ ap (λ (f : Bytes). with_spans s f (open_after s start frames ∷ [])) (going.written honest)
        ∙ sym (with-append s old.seen (left_by s start frames) (open_after s start frames ∷ []))

    pub ends-leaves : IsTrue old.is_honest → (IsTrue now.is_honest → Leaves now new (Beside (r ∷ []))) → Leaves old new (Beside all_spans)
    ends-leaves honest wrote =
        let last = leaves_less now new (Beside (r ∷ [])) (Beside all_spans)
        (λ d e h. agree_less (IsBesideSpans s (r ∷ [])) (IsBesideSpans s all_spans) d e
        (λ place k. subst (λ (x : Span). IsBesideSpans s (x ∷ []) place) (sym going.same) (beside-following s (left_by s start frames) (open_after s start frames ∷ []) place k)) h)
        (wrote (alive honest)) in
        then old now new (Beside all_spans) (Beside all_spans) (Beside all_spans) (law (alive honest))
        (λ d e f. agree_then (IsBesideSpans s all_spans) d e f) (λ d e h. h) (leaves-all now (going.crash honest)) last
