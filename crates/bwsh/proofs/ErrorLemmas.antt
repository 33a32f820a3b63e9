-- Lemmas on the message for an end, and on the words of the command line.
use Rattle.std.proofs.Common.{Bool, true, false, ◌≡◌, ◌⊎◌, inl, inr, ◌∙◌, refl, ℕ, List, [], ◌∷◌, ◌++◌, Option, Some, None, IfSome, Result, Ok, Err, IfOk, IfErr, sym, ap, subst, append-nil, append_assoc, arith}
use Rattle.std.specs.Prelude.{OnOk, OnErr, IsOk}
use Rattle.std.specs.List.{FoldsTo, concat}
use Rattle.std.specs.Fmt.{WritesText}
use Rattle.std.specs.Io.KnownBytes.{Appends}
use Rattle.bwsh.specs.declared.session.SessionError.{SessionError}
use Rattle.bwsh.specs.declared.session.SessionError.TheVariants.{Words, Bad, Device}
use Rattle.bwsh.specs.declared.session.SessionError.TheVariants as errors
use Rattle.std.proofs.KnownBytes.{Appends-trans}
use Rattle.bwsh.specs.Options.{Request, AsksFor, AsksForReports, AsksToExplain, reports}
use Rattle.bwsh.specs.Output.{IsBegun}
use Rattle.bwsh.specs.Session.{EndsReported, IsQuiet, IsReported, IsReportedWith, status_of_end}
use Rattle.bwsh.proofs.Prints.{front-longer, front-more, front-whole}

-- the status is 0 only if all is done
pub quiet_end : (end : Result (Unit {0}) SessionError) (status : ℕ) (P : Type 0) → status ≡ status_of_end end → IfOk end (λ _. P) → status ≡ 0 → P
quiet_end (Ok done) status P is p zero = p
quiet_end (Err (Words error)) status P is p zero = absurd (omega (arith, is, zero))
quiet_end (Err (Bad line why)) status P is p zero = absurd (omega (arith, is, zero))
quiet_end (Err (errors.Fault fault)) status P is p zero = absurd (omega (arith, is, zero))
quiet_end (Err Device) status P is p zero = absurd (omega (arith, is, zero))

-- ---- a line that is built before it is written

module _ {W : Type 0} (text : W → List ℕ) (Intact : W → Type 0) where
  -- a call appends these bytes
  abbrev pub Grows : W → List ℕ → W → Type 0
  Grows s bs t = Intact s → Intact t × (text t ≡ text s ++ bs)

  after_calls : (s : W) (parts : List (List ℕ)) (t : W) → FoldsTo Grows s parts t → Grows s (concat parts) t
  after_calls s [] t same intact = (subst Intact same intact, ap text (sym same) ∙ sym (append-nil (text s)))
  after_calls s (x ∷ parts) t calls intact =
      let first = calls.1 intact in
      let rest = after_calls calls.0 parts t calls.2 first.0 in
      (rest.0, rest.1 ∙ ap (λ (l : List ℕ). l ++ concat parts) first.1 ∙ append_assoc (text s) x (concat parts))

  -- the bytes written to an empty line are its contents
  pub line_made : {E : Type 0} (s t : W) (r : Result (Unit {0}) E) (o : Option (List ℕ)) (bytes : List ℕ) → text s ≡ [] → Intact s
      → OnOk r (WritesText Grows s o t) → IsOk r → bytes ≡ text t → IfSome o (λ bs. bytes ≡ bs)
  line_made s t (Ok x) None bytes empty intact wrote ok is = tt
  line_made s t (Ok x) (Some bs) bytes empty intact wrote ok is =
      let grown = subst (λ (l : List ℕ). Grows s l t) wrote.whole (after_calls s wrote.parts t wrote.calls) in
      is ∙ (grown intact).1 ∙ ap (λ (l : List ℕ). l ++ bs) empty
  line_made s t (Err e) o bytes empty intact wrote ok is = absurd (cc)

-- the bytes of the line are the text, if that is known
pub line_ok : (o : Option (List ℕ)) (bytes : List ℕ) (r : Result (Unit {0}) SessionError) (old new : Option (List ℕ)) → IfSome o (λ bs. bytes ≡ bs)
    → OnOk r (Appends old new bytes) → OnOk r (IfSome o (Appends old new))
line_ok o bytes (Err e) old new is a = tt
line_ok None bytes (Ok x) old new is a = tt
line_ok (Some bs) bytes (Ok x) old new is a = subst (Appends old new) is a

pub line_err : (o : Option (List ℕ)) (bytes : List ℕ) (r : Result (Unit {0}) SessionError) (old new : Option (List ℕ)) → IfSome o (λ bs. bytes ≡ bs)
    → OnErr r (IsBegun old new bytes) → OnErr r (IfSome o (IsBegun old new))
line_err o bytes (Ok x) old new is b = tt
line_err None bytes (Err e) old new is b = tt
line_err (Some bs) bytes (Err e) old new is b = subst (IsBegun old new) is b

-- ---- the words of the command line

-- the words can be parsed, and an end is reported for those after the name
pub request_at : {V Y : Type 0} (r : Result V Y) (all : V) (of : V → List (List ℕ)) (words : List (List ℕ)) (known old new err_old err_new : Option (List ℕ)) (unread untouched : Type 0) (status : ℕ)
    → r ≡ Ok all → words ≡ of all → EndsReported words known old new err_old err_new unread untouched status
    → IfOk r (λ v. EndsReported (of v) known old new err_old err_new unread untouched status)
request_at {V} {Y} r all of words known old new err_old err_new unread untouched status is same request =
    subst (λ (x : Result V Y). IfOk x (λ v. EndsReported (of v) known old new err_old err_new unread untouched status)) (sym is)
    (subst (λ (ws : List (List ℕ)). EndsReported ws known old new err_old err_new unread untouched status) same request)

-- the words can be parsed or cannot
pub of_either : {X Y : Type 0} (r : Result X Y) (P : X → Type 0) (Q : Y → Type 0) (A : Type 0) → ((x : X) → P x → A) → ((y : Y) → Q y → A) → IfOk r P → IfErr r Q → A
of_either (Ok x) P Q A f g p q = f x p
of_either (Err y) P Q A f g p q = g y q

-- ---- further reports

-- a prefix of a text is a prefix of any extension of it
pub begun_longer : (o : Option (List ℕ)) (old new : Option (List ℕ)) (more : List ℕ) → IfSome o (IsBegun old new) → IfSome o (λ text. IsBegun old new (text ++ more))
begun_longer None old new more b = tt
begun_longer (Some text) old new more (front, begins, a) = (front, front-longer text more front begins, a)

-- after all of the text, a part of the next text was written, or all of it
pub begun_with : {X : Type 0} (o : Option (List ℕ)) (old mid new : Option (List ℕ)) (more : List ℕ) (r : Result X SessionError) → IfSome o (Appends old mid) → OnOk r (Appends mid new more)
    → OnErr r (IsBegun mid new more) → IfSome o (λ text. IsBegun old new (text ++ more))
begun_with None old mid new more r a ok err = tt
begun_with (Some text) old mid new more (Ok x) a ok err = (text ++ more, front-whole (text ++ more), Appends-trans old mid new text more a ok)
begun_with (Some text) old mid new more (Err e) a ok (front, begins, b) = (text ++ front, front-more text more front begins, Appends-trans old mid new text front a b)

-- ---- the reports of a session

-- this holds for words that can be parsed
pub at_words : {V Y : Type 0} (r : Result V Y) (all : V) (of : V → List (List ℕ)) (words : List (List ℕ)) (P : List (List ℕ) → Type 0) → r ≡ Ok all → words ≡ of all → P words
    → IfOk r (λ v. P (of v))
at_words {V} {Y} r all of words P is same p =
    subst (λ (x : Result V Y). IfOk x (λ v. P (of v))) (sym is) (subst P same p)

pub both_ok : {X Y : Type 0} (r : Result X Y) (P Q : X → Type 0) → IfOk r P → IfOk r Q → IfOk r (λ x. P x × Q x)
both_ok (Ok x) P Q p q = (p, q)
both_ok (Err e) P Q p q = tt

-- there are further reports only if they are asked for
pub more_if_asked : (words : List (List ℕ)) (request : Request) (more : List ℕ) → AsksFor words request → (request.mode.explain ≡ false → more ≡ []) → AsksToExplain words ⊎ (more ≡ [])
more_if_asked words request more tells plain = by request.mode.explain refl where
  by : (b : Bool) → request.mode.explain ≡ b → AsksToExplain words ⊎ (more ≡ [])
  by true is = inl (request, tells, is)
  by false is = inr (plain is)

-- and reports during the run only if they are asked for
pub reports_if_asked : {E : Type 0} (words : List (List ℕ)) (request : Request) (old new : E) → AsksFor words request → (reports request.mode ≡ false → new ≡ old) → AsksForReports words ⊎ (new ≡ old)
reports_if_asked {E} words request old new tells quiet = by (reports request.mode) refl where
  by : (b : Bool) → reports request.mode ≡ b → AsksForReports words ⊎ (new ≡ old)
  by true is = inl (request, tells, is)
  by false is = inr (quiet is)

module _ {E : Type 0} (contents : E → Option (List ℕ)) (words : List (List ℕ)) (old mid new : E) (more : List ℕ) (quiet : AsksForReports words ⊎ (mid ≡ old)) (asked : AsksToExplain words ⊎ (more ≡ [])) where
  -- the end is reported after the reports of the run
  pub reported_after : (end : Result (Unit {0}) SessionError) → IfErr end (λ early. IsReportedWith more (Err early) (contents mid) (contents new))
      → AsksForReports words ⊎ IfErr end (λ early. IsReported words (Err early) (contents old) (contents new))
  reported_after end is = by quiet end is
    where
      by : AsksForReports words ⊎ (mid ≡ old) → (r : Result (Unit {0}) SessionError) → IfErr r (λ early. IsReportedWith more (Err early) (contents mid) (contents new))
          → AsksForReports words ⊎ IfErr r (λ early. IsReported words (Err early) (contents old) (contents new))
      by (inl loud) r p = inl loud
      by (inr same) (Ok done) p = inr tt
      by (inr same) (Err early) p = inr (more, asked, subst (λ (e : E). IsReportedWith more (Err early) (contents e) (contents new)) same p)

  -- and if all is done, nothing is reported except for a note
  pub quiet_after : (more ≡ [] → new ≡ mid) → (new ≡ mid) ⊎ IsBegun (contents mid) (contents new) more → IsQuiet contents words old new
  quiet_after nothing told = by quiet asked told
    where
      by : AsksForReports words ⊎ (mid ≡ old) → AsksToExplain words ⊎ (more ≡ []) → (new ≡ mid) ⊎ IsBegun (contents mid) (contents new) more → IsQuiet contents words old new
      by (inl loud) asks t = inr (inl loud)
      by (inr same) (inr none) t = inl (nothing none ∙ same)
      by (inr same) (inl asks) (inl e) = inl (e ∙ same)
      by (inr same) (inl asks) (inr begun) = inr (inr (asks, (more, subst (λ (e : E). IsBegun (contents e) (contents new) more) same begun)))
