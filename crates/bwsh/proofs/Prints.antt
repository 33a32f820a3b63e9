-- Lemmas on prefixes of lists, and on output.
use Rattle.std.proofs.Common.{◌≡◌, ◌⊎◌, inl, inr, ℕ, List, [], ◌++◌, map, Option, Result, Err, refl, sym, ap, ◌∙◌, subst, append_assoc, append-nil}
use Rattle.std.specs.List.{flat_map}
use Rattle.std.specs.Io.KnownBytes.{Appends, Keeps}
use Rattle.std.proofs.KnownBytes.{Appends-trans, Appends-kept}
use Rattle.std.proofs.lemmas.Grind.{flat_map-append}
use Rattle.std.proofs.lemmas.List.Folds.{flat_map-map}
use Rattle.std.specs.Prelude.{Bool}
use Rattle.keys.specs.Lists.{flat}
use Rattle.bwsh.specs.declared.session.SessionError.{SessionError}
use Rattle.bwsh.specs.declared.session.SessionError.TheVariants.{Device}
use Rattle.bwsh.specs.Output.{BeginsWith}
use Rattle.bwsh.specs.Session.{Prints, device_line}

-- ---- prefixes of lists

pub flat-append : (xss yss : List (List ℕ)) → flat (xss ++ yss) ≡ flat xss ++ flat yss
flat-append xss yss = flat_map-append (λ (xs : List ℕ). xs) xss yss

module _ {X : Type 0} where
  pub front-more : (first xs front : List X) → BeginsWith xs front → BeginsWith (first ++ xs) (first ++ front)
  front-more first xs front (rest, e) = (rest, ap (λ (l : List X). first ++ l) e ∙ sym (append_assoc first front rest))

  pub front-longer : (xs after_order front : List X) → BeginsWith xs front → BeginsWith (xs ++ after_order) front
  front-longer xs after_order front (rest, e) = (rest ++ after_order, ap (λ (l : List X). l ++ after_order) e ∙ append_assoc front rest after_order)

  pub front-whole : (xs : List X) → BeginsWith xs xs
  front-whole xs = ([], sym (append-nil xs))

  pub flat-map : (f : X → List ℕ) (xs : List X) → flat (map f xs) ≡ flat_map f xs
  flat-map f xs = flat_map-map (λ (ys : List ℕ). ys) f xs

pub front-flat : (lines front : List (List ℕ)) → BeginsWith lines front → BeginsWith (flat lines) (flat front)
front-flat lines front (rest, e) = (flat rest, ap flat e ∙ flat-append front rest)

-- ---- the output

-- whatever the end is, the output is a prefix of the lines' text, and after it a prefix of the line for a failed device
pub Prints-front : (on : Bool) (old new : Option (List ℕ)) (lines : List (List ℕ)) (right end : Result (Unit {0}) SessionError)
    → Prints on old new lines right end → (front : List ℕ) × (last : List ℕ) × BeginsWith (flat lines) front × BeginsWith (device_line on) last × Appends old new (front ++ last)
Prints-front on old new lines right end (inl (e, b)) =
    (flat lines, [], front-whole (flat lines), (device_line on, refl), subst (Appends old new) (sym (append-nil (flat lines))) b)
Prints-front on old new lines right end (inr (inl (off, e, (front, begins, b)))) =
    (flat front, [], front-flat lines front begins, (device_line on, refl), subst (Appends old new) (sym (append-nil (flat front))) b)
Prints-front on old new lines right end (inr (inr (e, all))) = all

pub Prints-kept : (on : Bool) (old mid new : Option (List ℕ)) (lines : List (List ℕ)) (right end : Result (Unit {0}) SessionError)
    → Prints on old mid lines right end → Keeps mid new → Prints on old new lines right end
Prints-kept on old mid new lines right end (inl (e, b)) k = inl (e, Appends-kept old mid new (flat lines) b k)
Prints-kept on old mid new lines right end (inr (inl (off, e, (front, begins, b)))) k =
    inr (inl (off, e, (front, begins, Appends-kept old mid new (flat front) b k)))
Prints-kept on old mid new lines right end (inr (inr (e, (front, last, begins, ends, b)))) k =
    inr (inr (e, (front, last, begins, ends, Appends-kept old mid new (front ++ last) b k)))

-- a device failed after that
pub Prints-device : (on : Bool) (old mid new : Option (List ℕ)) (lines : List (List ℕ)) (right end : Result (Unit {0}) SessionError)
    → Prints on old mid lines right end → Keeps mid new → Prints on old new lines right (Err Device)
Prints-device on old mid new lines right end p k =
    let (front, last, begins, ends, b) = Prints-front on old mid lines right end p in
    inr (inr (refl, (front, last, begins, ends, Appends-kept old mid new (front ++ last) b k)))

-- an output to which the empty text was appended first
module _ (on : Bool) (old mid new : Option (List ℕ)) (asked : Appends old mid []) where
  after_nothing : (bs : List ℕ) → Appends mid new bs → Appends old new bs
  after_nothing bs a = Appends-trans old mid new [] bs asked a

  pub Prints-asked : (lines : List (List ℕ)) (right end : Result (Unit {0}) SessionError) → Prints on mid new lines right end → Prints on old new lines right end
  Prints-asked lines right end (inl (e, a)) = inl (e, after_nothing (flat lines) a)
  Prints-asked lines right end (inr (inl (off, e, (front, begins, a)))) = inr (inl (off, e, (front, begins, after_nothing (flat front) a)))
  Prints-asked lines right end (inr (inr (e, (front, last, begins, ends, a)))) = inr (inr (e, (front, last, begins, ends, after_nothing (front ++ last) a)))

-- the output is flushed to the device, which may fail
pub Prints-flushed : (on : Bool) (old mid new : Option (List ℕ)) (lines : List (List ℕ)) (right done end : Result (Unit {0}) SessionError)
    → Prints on old mid lines right done → Keeps mid new → (end ≡ done) ⊎ (end ≡ Err Device) → Prints on old new lines right end
Prints-flushed on old mid new lines right done end p k (inl e) = rw e (Prints-kept on old mid new lines right done p k)
Prints-flushed on old mid new lines right done end p k (inr e) = rw e (Prints-device on old mid new lines right done p k)
