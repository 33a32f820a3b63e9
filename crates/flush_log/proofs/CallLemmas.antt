-- What a crash may leave during a sequence of calls.
use Rattle.std.proofs.Common.{◌≡◌, ◌⊎◌, inl, inr, ⊎_elim, ℕ, zero, suc, List, [], ◌∷◌, ◌++◌, length, map, take, refl}
use Rattle.keys.specs.declared.settings.Settings.{Settings}
use Rattle.flush_log.specs.Overlay.{overlay, IsBeside, AgreeAt}
use Rattle.flush_log.specs.Layout.{Span, place_of_span, with_spans}
use Rattle.flush_log.specs.Disk.{Torn}
use Rattle.flush_log.specs.Commit.{Call, seen_after, MayLeave, IsBesideSpans}
use Rattle.flush_log.specs.Commit.Call.{Write, Sync}
use Rattle.flush_log.proofs.OverlayLemmas.{agree_same, agree_then, agree_less}

-- what a crash may leave after some of the calls
abbrev pub During : List Call → List ℕ → (List ℕ → Type 0) → List ℕ → Type 0
During calls seen might c = (k : ℕ) × MayLeave (take k calls) seen might c

-- the outcomes before a write, with any bytes where it wrote
abbrev pub TornFrom : (List ℕ → Type 0) → ℕ → List ℕ → List ℕ → Type 0
TornFrom might at bytes e = (d : List ℕ) × might d × Torn at (length bytes) d e

pub seen_after-append : (xs ys : List Call) (seen : List ℕ) → seen_after (xs ++ ys) seen ≡ seen_after ys (seen_after xs seen)
seen_after-append [] ys seen = refl
seen_after-append (Write at bytes ∷ xs) ys seen = seen_after-append xs ys (overlay seen at bytes)
seen_after-append (Sync ∷ xs) ys seen = seen_after-append xs ys seen

pub leave-append : (xs ys : List Call) (seen : List ℕ) (might : List ℕ → Type 0) (c : List ℕ) → MayLeave (xs ++ ys) seen might c → MayLeave ys (seen_after xs seen) (MayLeave xs seen might) c
leave-append [] ys seen might c h = h
leave-append (Write at bytes ∷ xs) ys seen might c h = leave-append xs ys (overlay seen at bytes) (TornFrom might at bytes) c h
leave-append (Sync ∷ xs) ys seen might c h = leave-append xs ys seen (λ e. e ≡ seen) c h

-- a crash comes during the first calls, or during those after them
pub during-append : (xs ys : List Call) (seen : List ℕ) (might : List ℕ → Type 0) (c : List ℕ) → During (xs ++ ys) seen might c
    → During xs seen might c ⊎ During ys (seen_after xs seen) (MayLeave xs seen might) c
during-append [] ys seen might c h = inr h
during-append (x ∷ xs) ys seen might c (zero, h) = inl (zero, h)
during-append (Write at bytes ∷ xs) ys seen might c (suc k, h) =
    ⊎_elim (λ first. inl (suc first.0, first.1)) (λ later. inr later) (during-append xs ys (overlay seen at bytes) (TornFrom might at bytes) c (k, h))
during-append (Sync ∷ xs) ys seen might c (suc k, h) =
    ⊎_elim (λ first. inl (suc first.0, first.1)) (λ later. inr later) (during-append xs ys seen (λ e. e ≡ seen) c (k, h))

-- after all of them is during them
pub after_all : (xs : List Call) (seen : List ℕ) (might : List ℕ → Type 0) (c : List ℕ) → MayLeave xs seen might c → During xs seen might c
after_all [] seen might c h = (0, h)
after_all (Write at bytes ∷ xs) seen might c h = let more = after_all xs (overlay seen at bytes) (TornFrom might at bytes) c h in (suc more.0, more.1)
after_all (Sync ∷ xs) seen might c h = let more = after_all xs seen (λ e. e ≡ seen) c h in (suc more.0, more.1)

-- ---- the writes of spans

module _ (s : Settings) where
  abbrev pub writes : List Span → List Call
  writes spans = map (λ r. Write (place_of_span s r) r.bytes) spans

  pub seen_after-writes : (spans : List Span) (seen : List ℕ) → seen_after (writes spans) seen ≡ with_spans s seen spans
  seen_after-writes [] seen = refl
  seen_after-writes (r ∷ spans) seen = seen_after-writes spans (overlay seen (place_of_span s r) r.bytes)

  -- something possible before, changed in the spans alone
  abbrev pub SpansTorn : List Span → (List ℕ → Type 0) → List ℕ → Type 0
  SpansTorn spans might c = (d : List ℕ) × might d × AgreeAt (IsBesideSpans s spans) d c

  one_more : (r : Span) (spans : List Span) (might : List ℕ → Type 0) (c : List ℕ) → SpansTorn spans (TornFrom might (place_of_span s r) r.bytes) c → SpansTorn (r ∷ spans) might c
  one_more r spans might c (e, (d, was, torn), same) = (
    d,
    was,
    agree_then (IsBesideSpans s (r ∷ spans)) d e c
        (agree_less (IsBeside (place_of_span s r) (length r.bytes)) (IsBesideSpans s (r ∷ spans)) d e (λ i out. out.0) torn)
        (agree_less (IsBesideSpans s spans) (IsBesideSpans s (r ∷ spans)) e c (λ i out. out.1) same),
  )

  pub writes-during : (spans : List Span) (seen : List ℕ) (might : List ℕ → Type 0) (c : List ℕ) → During (writes spans) seen might c → SpansTorn spans might c
  writes-during spans seen might c (zero, h) = (c, h, agree_same (IsBesideSpans s spans) c)
  writes-during [] seen might c (suc k, h) = (c, h, agree_same (IsBesideSpans s []) c)
  writes-during (r ∷ spans) seen might c (suc k, h) =
      one_more r spans might c (writes-during spans (overlay seen (place_of_span s r) r.bytes) (TornFrom might (place_of_span s r) r.bytes) c (k, h))
