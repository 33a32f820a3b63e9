-- Lemmas on what was printed where the output is handed on, and where a copy comes after it.
use Rattle.std.proofs.Common.{◌≡◌, ◌⊎◌, inl, inr, Bool, false, List, [], ◌∷◌, ◌++◌, Option, Some, None, Result, Ok, Err, refl, sym, ap, ◌∙◌, subst, append-nil}
use Rattle.std.specs.Io.KnownBytes.{Appends, Keeps}
use Rattle.std.proofs.KnownBytes.{Appends-nil}
use Rattle.std.specs.Prelude.{IfSome, IsOkUnless, OnOk, OnErr}
use Rattle.keys.specs.Bytes.{Bytes, Pairs}
use Rattle.keys.specs.Lists.{flat}
use Rattle.keys.specs.declared.fault.Fault.{Fault}
use Rattle.keys.specs.declared.fault.Fault.TheVariants.{NoMemory}
use Rattle.keys.specs.declared.settings.Settings.{Settings}
use Rattle.bwsh.specs.declared.session.SessionError.{SessionError}
use Rattle.bwsh.specs.declared.session.SessionError.TheVariants.{Device}
use Rattle.bwsh.specs.declared.session.SessionError.TheVariants as errors
use Rattle.bwsh.specs.Output.{BeginsWith, IsBegun}
use Rattle.bwsh.specs.Session.{CopiesTo, IsCopyEnd, IsCopyMade, IsEndAfter, Prints, PrintsCopied, PrintsOneText, device_line, end_copied}
use Rattle.bwsh.proofs.Prints.{Prints-asked, Prints-flushed, Prints-front, front-whole}

-- how a session ends
abbrev pub End : Type 0
End = Result (Unit {0}) SessionError

-- a beginning of the text of the lines, and of the line for a device, was appended
abbrev pub IsFront : Bool → Option Bytes → Option Bytes → List Bytes → Type 0
IsFront on old new lines =
    (front : Bytes) × (last : Bytes) × BeginsWith (flat lines) front × BeginsWith (device_line on) last × Appends old new (front ++ last)

-- ---- ends

-- what holds where all is done does where the output is handed on
pub OnOk-flushed : (done flushed : End) (P : Type 0) → (flushed ≡ done) ⊎ (flushed ≡ Err Device) → OnOk done P → OnOk flushed P
OnOk-flushed done flushed P (inl e) p = subst (λ (r : End). OnOk r P) (sym e) p
OnOk-flushed done flushed P (inr e) p = subst (λ (r : End). OnOk r P) (sym e) tt

-- all is done: that was the right end, and all was printed
pub Prints-done : (on : Bool) (old new : Option Bytes) (lines : List Bytes) (right : End) (done : Unit {0}) → Prints on old new lines right (Ok done) → (Ok done ≡ right) × Appends old new (flat lines)
Prints-done on old new lines right done (inl (e, a)) = (e, a)
Prints-done on old new lines right done (inr (inl (off, e, p))) = absurd (cc)
Prints-done on old new lines right done (inr (inr (e, p))) = absurd (cc)

-- another end than for memory or a device is the right one
pub Prints-right : (on : Bool) (old new : Option Bytes) (lines : List Bytes) (right end : End) → (end ≡ Err (errors.Fault NoMemory) → ⊥) → (end ≡ Err Device → ⊥) → Prints on old new lines right end → end ≡ right
Prints-right on old new lines right end no_memory no_device (inl (e, a)) = e
Prints-right on old new lines right end no_memory no_device (inr (inl (off, e, p))) = absurd (no_memory e)
Prints-right on old new lines right end no_memory no_device (inr (inr (e, p))) = absurd (no_device e)

-- nothing is printed, for a device
pub Prints-none : (on : Bool) (old : Option Bytes) (lines : List Bytes) (right : End) → Prints on old old lines right (Err Device)
Prints-none on old lines right = inr (inr (refl, ([], [], (flat lines, refl), (device_line on, refl), Appends-nil old)))

-- ---- a copy after what was printed

-- where no copy is refused the right end is the one without it
pub end_copied-none : (right : End) → end_copied None right ≡ right
end_copied-none (Ok done) = refl
end_copied-none (Err early) = refl

-- what was printed by a session that ended before a copy was begun
pub PrintsCopied-early : (copy : Option Settings) (m : Pairs Bytes) (on : Bool) (old new : Option Bytes) (lines : List Bytes) (right : End) (early : SessionError) → Prints on old new lines right (Err early)
    → PrintsCopied copy m on old new lines right (Err early)
PrintsCopied-early None m on old new lines right early p = p
PrintsCopied-early (Some settings) m on old new lines right early p =
    (tt, None, tt, subst (λ (r : End). Prints on old new lines r (Err early)) (sym (end_copied-none right)) p)

-- all is done, and the copy was made
pub PrintsCopied-made : (copy : Option Settings) (m : Pairs Bytes) (on : Bool) (old new : Option Bytes) (lines : List Bytes) (right : End) (done : Unit {0}) → PrintsCopied copy m on old new lines right (Ok done)
    → IfSome copy (λ settings. IsCopyMade settings m)
PrintsCopied-made None m on old new lines right done p = tt
PrintsCopied-made (Some settings) m on old new lines right done (made, refused, why, p) = made

-- all is done, and there is no copy for this reason
uncopied : (settings : Settings) (m : Pairs Bytes) (on : Bool) (old new : Option Bytes) (lines : List Bytes) (right : End) (done : Unit {0}) → Ok done ≡ right → Appends old new (flat lines)
    → (early : SessionError) → IsCopyEnd settings m early → PrintsCopied (Some settings) m on old new lines right (Err early)
uncopied settings m on old new lines right done is a early (inl (fault, e, why)) =
    (tt, Some fault, inr why, inl (ap (λ (x : SessionError). Err x) e ∙ ap (end_copied (Some fault)) is, a))
uncopied settings m on old new lines right done is a early (inr (inl e)) =
    (tt, Some NoMemory, inl refl, inl (ap (λ (x : SessionError). Err x) e ∙ ap (end_copied (Some NoMemory)) is, a))
uncopied settings m on old new lines right done is a early (inr (inr e)) = (
  tt,
  None,
  tt,
  inr (inr (
    ap (λ (x : SessionError). Err x) e,
    (flat lines, [], front-whole (flat lines), (device_line on, refl), subst (Appends old new) (sym (append-nil (flat lines))) a),
  )),
)

-- all is done, and then there is the copy, or there is none
PrintsCopied-after : (copy : Option Settings) (m : Pairs Bytes) (on : Bool) (old new : Option Bytes) (lines : List Bytes) (right : End) (done : Unit {0}) (end : End)
    → Prints on old new lines right (Ok done) → CopiesTo copy m end → PrintsCopied copy m on old new lines right end
PrintsCopied-after None m on old new lines right done end p e = subst (λ (r : End). Prints on old new lines right r) (sym e) p
PrintsCopied-after (Some settings) m on old new lines right done (Ok all) p made =
    (made, None, tt, subst (λ (r : End). Prints on old new lines r (Ok all)) (sym (end_copied-none right)) p)
PrintsCopied-after (Some settings) m on old new lines right done (Err early) p e =
    let (is, a) = Prints-done on old new lines right done p in uncopied settings m on old new lines right done is a early e

-- what a session leaves whose answers were handed on so: it ended early; or all is done, and then there is a copy of this map, or there is none
abbrev pub IsLeft : Option Settings → Pairs Bytes → End → End → Type 0
IsLeft copy held (Ok done) end = CopiesTo copy held end
IsLeft copy held (Err early) end = end ≡ Err early

pub PrintsCopied-left : (copy : Option Settings) (m held : Pairs Bytes) (on : Bool) (old new : Option Bytes) (lines : List Bytes) (right flushed end : End) → Prints on old new lines right flushed
    → OnOk flushed (held ≡ m) → IsLeft copy held flushed end → PrintsCopied copy m on old new lines right end
PrintsCopied-left copy m held on old new lines right (Ok done) end p same copies =
    PrintsCopied-after copy m on old new lines right done end p (subst (λ (map : Pairs Bytes). CopiesTo copy map end) same copies)
PrintsCopied-left copy m held on old new lines right (Err early) end p same e =
    subst (λ (r : End). PrintsCopied copy m on old new lines right r) (sym e) (PrintsCopied-early copy m on old new lines right early p)

-- nothing was appended first
pub PrintsCopied-begun : (copy : Option Settings) (m : Pairs Bytes) (on : Bool) (old mid new : Option Bytes) → Appends old mid [] → (lines : List Bytes) (right end : End)
    → PrintsCopied copy m on mid new lines right end → PrintsCopied copy m on old new lines right end
PrintsCopied-begun None m on old mid new none lines right end p = Prints-asked on old mid new none lines right end p
PrintsCopied-begun (Some settings) m on old mid new none lines right end (made, refused, why, p) = (made, refused, why, Prints-asked on old mid new none lines (end_copied refused right) end p)

-- the same is printed without the copy, and the end is that, or comes after all is done
pub PrintsCopied-plain : (copy : Option Settings) (m : Pairs Bytes) (on : Bool) (old new : Option Bytes) (lines : List Bytes) (right end : End) → PrintsCopied copy m on old new lines right end
    → (plain : End) × Prints on old new lines right plain × IsEndAfter plain end
PrintsCopied-plain None m on old new lines right end p = (end, p, inl refl)
PrintsCopied-plain (Some settings) m on old new lines right end (made, refused, why, inr p) = (end, inr p, inl refl)
PrintsCopied-plain (Some settings) m on old new lines right end (made, refused, why, inl (e, a)) = by right refused refl e
  where
    by : (r : End) (f : Option Fault) → r ≡ right → end ≡ end_copied f r → (plain : End) × Prints on old new lines right plain × IsEndAfter plain end
    by (Err early) f is e = (Err early, inl (is, a), inl e)
    by (Ok done) None is e = (Ok done, inl (is, a), inl e)
    by (Ok done) (Some fault) is e = (Ok done, inl (is, a), inr (refl, (fault, e)))

-- an end that no copy has
pub PrintsCopied-other : (copy : Option Settings) (m : Pairs Bytes) (on : Bool) (old new : Option Bytes) (lines : List Bytes) (right end : End)
    → ((fault : Fault) → end ≡ Err (errors.Fault fault) → ⊥) → PrintsCopied copy m on old new lines right end → Prints on old new lines right end
PrintsCopied-other copy m on old new lines right end other p = by (PrintsCopied-plain copy m on old new lines right end p)
  where
    by : (plain : End) × Prints on old new lines right plain × IsEndAfter plain end → Prints on old new lines right end
    by (plain, q, inl e) = subst (λ (r : End). Prints on old new lines right r) (sym e) q
    by (plain, q, inr (done, (fault, e))) = absurd (other fault e)

pub PrintsCopied-front : (copy : Option Settings) (m : Pairs Bytes) (on : Bool) (old new : Option Bytes) (lines : List Bytes) (right end : End) → PrintsCopied copy m on old new lines right end
    → IsFront on old new lines
PrintsCopied-front None m on old new lines right end p = Prints-front on old new lines right end p
PrintsCopied-front (Some settings) m on old new lines right end (made, refused, why, p) = Prints-front on old new lines (end_copied refused right) end p

-- ---- one text

-- a text is written, and handed on to the device
pub Prints-written : (old mid new : Option Bytes) (bytes : Bytes) (done end : End) → OnOk done (Appends old mid bytes) → OnErr done (IsBegun old mid bytes) → IsOkUnless done Device
    → Keeps mid new → (end ≡ done) ⊎ (end ≡ Err Device) → Prints false old new (bytes ∷ []) (Ok tt) end
Prints-written old mid new bytes done end ok err device kept ended = Prints-flushed false old mid new (bytes ∷ []) (Ok tt) done end (by done ok err device) kept ended
  where
    one : (xs : Bytes) → xs ≡ flat (xs ∷ [])
    one xs = sym (append-nil xs)

    by : (r : End) → OnOk r (Appends old mid bytes) → OnErr r (IsBegun old mid bytes) → IsOkUnless r Device → Prints false old mid (bytes ∷ []) (Ok tt) r
    by (Ok x) a p q = inl (refl, subst (Appends old mid) (one bytes) a)
    by (Err x) a (front, begins, b) q =
        inr (inr (
          ap (λ (e : SessionError). Err e) q,
          (front, [], subst (λ (xs : Bytes). BeginsWith xs front) (one bytes) begins, ([], refl), subst (Appends old mid) (sym (append-nil front)) b),
        ))

-- the same of one text that a clause doesn't name
pub PrintsOneText-written : (old mid new : Option Bytes) (bytes : Bytes) (done end : End) → OnOk done (Appends old mid bytes) → OnErr done (IsBegun old mid bytes) → IsOkUnless done Device
    → Keeps mid new → (end ≡ done) ⊎ (end ≡ Err Device) → PrintsOneText old new end
PrintsOneText-written old mid new bytes done end ok err device kept ended = inl (bytes, Prints-written old mid new bytes done end ok err device kept ended)
