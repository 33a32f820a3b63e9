-- Reading the bytes of one segment.
use Rattle.std.specs.Prelude.{◌≡◌, ℕ, zero, suc, ◌≤◌, Bool, true, false, nat_eq, if◌then◌else◌, List, [], ◌∷◌, ◌++◌, length, drop, replicate, Option, Some, None, Result, Ok, Err}
use Rattle.std.specs.List.{starts_with}
use Rattle.std.proofs.Common.{refl, sym, ap, ◌∙◌, arith, append_assoc, append-nil, length-append, subst}
use Rattle.std.proofs.lemmas.Bool.Decides.{Decides-eqb}
use Rattle.std.proofs.lemmas.Slice.Eq.{starts_is}
use Rattle.keys.specs.Limits.{first_bad_field}
use Rattle.keys.specs.declared.fault.Fault.TheVariants.{BadSegment}
use Rattle.keys.proofs.CellLemmas.{gave, nothing_read}
use Rattle.frame_codec.specs.declared.format.Format.{Format}
use Rattle.frame_codec.specs.Frame.{Frame, bytes_of, is_frame}
use Rattle.frame_codec.specs.Reading.{read_frame}
use Rattle.frame_codec.proofs.FrameLemmas.{in_limits, frame-back}
use Rattle.frame_codec.proofs.LongerLemmas.{frame-longer, nothing_at_all, nothing_at_zero}
use Rattle.flush_log.specs.Segments.{segment_header}
use Rattle.flush_log.specs.Reading.{Found, all_in, is_at_tail, is_padding, with_first, read_then, read_frames, in_segment, read_segment}

-- a mark of where frames end, which no frame begins with
abbrev pub IsEnd : (List ℕ → Bool) → Type 0
IsEnd is_end = (b : ℕ) (bs : List ℕ) → is_end (suc b ∷ bs) ≡ false

pub tail-ends : IsEnd is_at_tail
tail-ends b bs = refl

pub padding-ends : IsEnd is_padding
padding-ends b bs = refl

pub zeros-pad : (n : ℕ) → is_padding (replicate n 0) ≡ true
zeros-pad zero = refl
zeros-pad (suc n) = zeros-pad n

pub in_segment-ok : (n long : ℕ) (r : Result (List Frame) ℕ) (found : List Found) → in_segment n long r ≡ Ok found → (fs : List Frame) × (r ≡ Ok fs) × (found ≡ all_in n fs)
in_segment-ok n long (Ok fs) found h = (fs, refl, cc)
in_segment-ok n long (Err left) found h = absurd (cc)

-- the bytes begin with a header if and only if the test says so
pub header-there : (n : ℕ) (following : List ℕ) → starts_with nat_eq (segment_header n ++ following) (segment_header n) ≡ true
header-there n following = (starts_is Decides-eqb (segment_header n ++ following) (segment_header n) (starts_with nat_eq (segment_header n ++ following) (segment_header n)) refl).1 following refl

pub header-following : (n : ℕ) (bytes : List ℕ) → starts_with nat_eq bytes (segment_header n) ≡ true → bytes ≡ segment_header n ++ drop 16 bytes
header-following n bytes h = (starts_is Decides-eqb bytes (segment_header n) (starts_with nat_eq bytes (segment_header n)) refl).0 h

module _ (g : Format) where
  not_end : (is_end : List ℕ → Bool) → IsEnd is_end → (bs : List ℕ) (f : Frame) (rest : List ℕ) → read_frame g bs ≡ gave f rest → is_end bs ≡ false
  not_end is_end marks [] f rest h = absurd (nothing_read _ (sym (nothing_at_all g) ∙ h))
  not_end is_end marks (zero ∷ bs) f rest h = absurd (nothing_read _ (sym (nothing_at_zero g bs) ∙ h))
  not_end is_end marks (suc b ∷ bs) f rest h = marks b bs

  -- bytes that are these frames, up to an end
  abbrev pub Reads : (List ℕ → Bool) → List ℕ → List Frame → Type 0
  Reads is_end bs fs = (most : ℕ) → length fs ≤ most → read_frames g is_end most bs ≡ Ok fs

  pub reads-end : (is_end : List ℕ → Bool) (bs : List ℕ) → is_end bs ≡ true → Reads is_end bs []
  reads-end is_end bs h zero few = rw h refl
  reads-end is_end bs h (suc most) few = rw h refl

  pub reads-more : (is_end : List ℕ → Bool) → IsEnd is_end → (bs : List ℕ) (f : Frame) (rest : List ℕ) (fs : List Frame) → read_frame g bs ≡ gave f rest → Reads is_end rest fs → Reads is_end bs (f ∷ fs)
  reads-more is_end marks bs f rest fs h reads zero few = absurd (omega arith)
  reads-more is_end marks bs f rest fs h reads (suc most) few =
      rw (not_end is_end marks bs f rest h, h) (ap (λ (r : Result (List Frame) ℕ). with_first f r) (reads most (omega arith)))

  -- ---- what has been read goes on

  -- bytes that are these frames, with whatever frames and end after them
  abbrev pub GoesOn : List ℕ → List Frame → Type 0
  GoesOn bs fs = (is_end : List ℕ → Bool) → IsEnd is_end → (more : List ℕ) (gs : List Frame) → Reads is_end more gs → Reads is_end (bs ++ more) (fs ++ gs)

  pub with_first-ok : (f : Frame) (r : Result (List Frame) ℕ) (fs : List Frame) → with_first f r ≡ Ok fs → (gs : List Frame) × (r ≡ Ok gs) × (fs ≡ f ∷ gs)
  with_first-ok f (Ok gs) fs h = (gs, refl, cc)
  with_first-ok f (Err left) fs h = absurd (cc)

  nothing-ok : (fs : List Frame) → (let r : Result (List Frame) ℕ = Ok [] in r ≡ Ok fs) → [] ≡ fs
  nothing-ok fs h = cc

  abbrev Continues : ℕ → List ℕ → List Frame → Type 0
  Continues most bs fs = (length fs ≤ most) × GoesOn bs fs

  none-goes_on : (most : ℕ) (fs : List Frame) → (let r : Result (List Frame) ℕ = Ok [] in r ≡ Ok fs) → Continues most [] fs
  none-goes_on most fs h = subst (λ (xs : List Frame). Continues most [] xs) (nothing-ok fs h) (omega arith, λ is_end marks more gs reads. reads)

  one-goes_on : (most : ℕ) (bs : List ℕ) (fs : List Frame) (o : Option (Frame × List ℕ)) → read_frame g bs ≡ o
      → read_then (length bs) o (λ following. read_frames g is_at_tail most following) ≡ Ok fs
      → ((rest : List ℕ) (gs : List Frame) → read_frames g is_at_tail most rest ≡ Ok gs → Continues most rest gs) → Continues (suc most) bs fs
  one-goes_on most bs fs None is h further = absurd (cc)
  one-goes_on most bs fs (Some p) is h further =
      let (later, read, all) = with_first-ok p.0 (read_frames g is_at_tail most p.1) fs h in
      let (few, on) = further p.1 later read in
      subst (λ (xs : List Frame). Continues (suc most) bs xs) (sym all) (
        omega arith,
        λ is_end marks more gs reads.
            reads-more is_end marks (bs ++ more) p.0 (p.1 ++ more) (later ++ gs) (frame-longer g bs p.0 p.1 more is) (on is_end marks more gs reads),
      )

  -- bytes that were read up to the tail go on
  tail-goes_on : (most : ℕ) (bs : List ℕ) (fs : List Frame) → read_frames g is_at_tail most bs ≡ Ok fs → Continues most bs fs
  tail-goes_on zero [] fs h = none-goes_on zero fs h
  tail-goes_on (suc most) [] fs h = none-goes_on (suc most) fs h
  tail-goes_on zero (b ∷ bs) fs h = absurd (cc)
  tail-goes_on (suc most) (b ∷ bs) fs h = one-goes_on most (b ∷ bs) fs (read_frame g (b ∷ bs)) refl h (λ rest gs read. tail-goes_on most rest gs read)

  -- so do bytes with a frame more
  frame-goes_on : first_bad_field g.settings ≡ None → (bs : List ℕ) (fs : List Frame) (f : Frame) → is_frame g f ≡ true → GoesOn bs fs → GoesOn (bs ++ bytes_of f) (fs ++ f ∷ [])
  frame-goes_on good bs fs f within on is_end marks more gs reads =
      let read : read_frame g (bytes_of f ++ more) ≡ gave f more = frame-back g (in_limits g.settings good) f within more in
      let here : Reads is_end (bs ++ (bytes_of f ++ more)) (fs ++ f ∷ gs) = on is_end marks (bytes_of f ++ more) (f ∷ gs) (reads-more is_end marks (bytes_of f ++ more) f more gs read reads) in
      rw (append_assoc bs (bytes_of f) more, append_assoc fs (f ∷ []) gs) here

  -- ---- a whole segment

  -- bytes of segment n from its header on, which are these frames with whatever frames and end after them
  pub record Holds (n : ℕ) (bytes : List ℕ) (fs : List Frame) : Type 0 where
    pub following : List ℕ
    pub headed : bytes ≡ segment_header n ++ following
    pub few : length fs ≤ length bytes
    pub on : GoesOn following fs

  headed-read : (is_end : List ℕ → Bool) (n : ℕ) (following : List ℕ) → read_segment g is_end n (segment_header n ++ following)
      ≡ in_segment n (length (segment_header n ++ following)) (read_frames g is_end (length (segment_header n ++ following)) following)
  headed-read is_end n following =
      let bytes : List ℕ = segment_header n ++ following in
      ap (λ (b : Bool). if b then in_segment n (length bytes) (read_frames g is_end (length bytes) following) else Err (BadSegment n)) (header-there n following)

  -- a header alone
  pub header-holds : (n : ℕ) → Holds n (segment_header n) []
  header-holds n = record { following = []; headed = sym (append-nil (segment_header n)); few = omega arith; on = λ is_end marks more gs reads. reads }

  -- a frame more
  pub frame-holds : first_bad_field g.settings ≡ None → (n : ℕ) (bytes : List ℕ) (fs : List Frame) (f : Frame) → is_frame g f ≡ true → Holds n bytes fs → Holds n (bytes ++ bytes_of f) (fs ++ f ∷ [])
  frame-holds good n bytes fs f within h = record {
    following = h.following ++ bytes_of f;
    headed = ap (λ (bs : List ℕ). bs ++ bytes_of f) h.headed ∙ append_assoc (segment_header n) h.following (bytes_of f);
    few = let frames = length-append fs (f ∷ []) in let long = length-append bytes (bytes_of f) in let before = h.few in omega arith;
    on = frame-goes_on good h.following fs f within h.on;
  }

  -- with an end after them
  pub holds-read : (is_end : List ℕ → Bool) → IsEnd is_end → (n : ℕ) (bytes rest : List ℕ) (fs : List Frame) → Holds n bytes fs → is_end rest ≡ true → read_segment g is_end n (bytes ++ rest) ≡ Ok (all_in n fs)
  holds-read is_end marks n bytes rest fs h end =
      let all : Reads is_end (h.following ++ rest) fs = rw (sym (append-nil fs)) (h.on is_end marks rest [] (reads-end is_end rest end)) in
      let whole : List ℕ = segment_header n ++ (h.following ++ rest) in
      let same : bytes ++ rest ≡ segment_header n ++ (h.following ++ rest) = ap (λ (bs : List ℕ). bs ++ rest) h.headed ∙ append_assoc (segment_header n) h.following rest in
      let room : length fs ≤ length (segment_header n ++ (h.following ++ rest)) =
      (let joined = length-append bytes rest in let few = h.few in let long : length (bytes ++ rest) ≡ length (segment_header n ++ (h.following ++ rest)) = ap (λ (bs : List ℕ). length bs) same in omega (arith, joined, few, long)) in
      ap (λ (bs : List ℕ). read_segment g is_end n bs) same
      ∙ headed-read is_end n (h.following ++ rest)
      ∙ ap (λ (r : Result (List Frame) ℕ). in_segment n (length whole) r) (all (length whole) room)

  -- what was read up to the tail
  pub read-holds : (n : ℕ) (bytes : List ℕ) (found : List Found) → read_segment g is_at_tail n bytes ≡ Ok found → (fs : List Frame) × Holds n bytes fs × (found ≡ all_in n fs)
  read-holds n bytes found = of (starts_with nat_eq bytes (segment_header n)) refl
    where
      of : (b : Bool) → starts_with nat_eq bytes (segment_header n) ≡ b
          → (if b then in_segment n (length bytes) (read_frames g is_at_tail (length bytes) (drop 16 bytes)) else Err (BadSegment n)) ≡ Ok found
          → (fs : List Frame) × Holds n bytes fs × (found ≡ all_in n fs)
      of true starts h =
          let (fs, read, all) = in_segment-ok n (length bytes) (read_frames g is_at_tail (length bytes) (drop 16 bytes)) found h in
          let on = tail-goes_on (length bytes) (drop 16 bytes) fs read in
          (fs, record { following = drop 16 bytes; headed = header-following n bytes starts; few = on.0; on = on.1 }, all)
      of false starts h = absurd (cc)
