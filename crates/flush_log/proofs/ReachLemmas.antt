-- How far frames move the end of a log.
use Rattle.std.proofs.Common.{◌≡◌, ℕ, suc, ◌+◌, ◌*◌, ◌/◌, ◌%◌, ◌<◌, ◌≤◌, Bool, true, false, nat_le, nat_lt, if◌then◌else◌, List, [], ◌∷◌, ◌++◌, length, map, drop, Option, Some, None, refl, sym, ap, ◌∙◌, arith, leb-true, lt-ltb, ltb-true, ltb-false, le-ltb, add-one, zero, get_or, slice_get, subst}
use Rattle.std.proofs.lemmas.Nat.{div-add-mod', mod_below}
use Rattle.std.specs.List.{AllByRecursion}
use Rattle.keys.specs.Bytes.{Bytes}
use Rattle.keys.specs.Limits.{first_bad_field}
use Rattle.keys.specs.declared.settings.Settings.{Settings}
use Rattle.frame_codec.specs.declared.format.Format.{Format}
use Rattle.frame_codec.specs.Frame.{Frame, bytes_of, is_frame}
use Rattle.flush_log.specs.Images.{frames_in, AreOfText, FitSegments, Reached, from_tail, reached, after_frame, after_frames, IsReached, unless_spent}
use Rattle.flush_log.specs.Layout.{past_header, placed_from, end_of_frames, tail_after}
use Rattle.flush_log.specs.Slot.{greatest}
use Rattle.flush_log.proofs.FitLemmas.{frame_fits}
use Rattle.flush_log.proofs.LayoutLemmas.{past_header-within}

abbrev pub some_tail : ℕ → Option ℕ
some_tail t = Some t

module _ (s : Settings) where
  -- one more frame
  abbrev by_room : Reached → ℕ → Bool → Reached
  by_room r size b = if b then reached s r.segment (r.offset + size) else reached s (suc r.segment) (16 + size)

  pub record Rises (r q : Reached) : Type 0 where
    pub is : IsReached s q
    pub rises : r.tail ≤ q.tail

  of_room : (r : Reached) (size : ℕ) (b : Bool) → nat_le (r.offset + size) s.seg_size ≡ b → IsReached s r → 16 + size ≤ s.seg_size → Rises r (by_room r size b)
  of_room r size true h is fits =
      let room = leb-true (r.offset + size) s.seg_size h in
      let above = is.above in
      let below = is.below in
      record { is = record { within = room; above = omega arith; below = omega arith }; rises = omega arith }
  of_room r size false h is fits =
      let next : suc r.segment * s.seg_size ≡ r.segment * s.seg_size + s.seg_size = omega arith in
      let within = is.within in
      let below = is.below in
      record { is = record { within = fits; above = omega arith; below = omega arith }; rises = omega arith }

  pub frame-rises : (r : Reached) (size : ℕ) → IsReached s r → 16 + size ≤ s.seg_size → Rises r (after_frame s r size)
  frame-rises r size is fits = of_room r size (nat_le (r.offset + size) s.seg_size) refl is fits

  -- any more of them
  pub frames-rise : (r : Reached) (frames : List Bytes) → IsReached s r → FitSegments s frames → r.tail ≤ (after_frames s r frames).tail
  frames-rise r [] is fits = omega arith
  frames-rise r (bytes ∷ frames) is fits =
      let one = frame-rises r (length bytes) is fits.0 in
      let rest = frames-rise (after_frame s r (length bytes)) frames one.is fits.1 in
      let first = one.rises in
      omega (arith, rest, first)

  pub frames-are : (r : Reached) (frames : List Bytes) → IsReached s r → FitSegments s frames → IsReached s (after_frames s r frames)
  frames-are r [] is fits = is
  frames-are r (bytes ∷ frames) is fits = let one = frame-rises r (length bytes) is fits.0 in frames-are (after_frame s r (length bytes)) frames one.is fits.1

  pub frames-append : (r : Reached) (us vs : List Bytes) → after_frames s r (us ++ vs) ≡ after_frames s (after_frames s r us) vs
  frames-append r [] vs = refl
  frames-append r (u ∷ us) vs = frames-append (after_frame s r (length u)) us vs

  -- where new frames begin
  pub start-is : (tail : ℕ) → 16 ≤ s.seg_size → IsReached s (from_tail s tail)
  start-is tail room =
      let below = mod_below tail s.seg_size (omega arith) in
      let start = past_header-within s.seg_size (tail % s.seg_size) below room in
      let parts = div-add-mod' tail s.seg_size in
      record { within = start.1; above = omega arith; below = upto (tail % s.seg_size) (tail / s.seg_size * s.seg_size) tail parts }
    where
      upto : (at start tail : ℕ) → start + at ≡ tail → tail ≤ start + past_header at
      upto zero start tail is = omega arith
      upto (suc at) start tail is = omega arith

  -- the tail after new frames is reached frame by frame
  abbrev Ends : Reached → List Frame → Type 0
  Ends r text = (after_frames s r (map (λ f. bytes_of f) text)).tail ≡ end_of_frames s r.tail (placed_from s r.segment r.offset text)

  abbrev after_first : Reached → Frame → List Frame → Bool → ℕ
  after_first r f fs b =
      end_of_frames s r.tail
      (if b
      then record { segment = r.segment; offset = r.offset; frame = f } ∷ placed_from s r.segment (r.offset + length (bytes_of f)) fs
      else (record { segment = suc r.segment; offset = 16; frame = f } ∷ placed_from s (suc r.segment) (16 + length (bytes_of f)) fs))

  by_first : (r : Reached) (f : Frame) (fs : List Frame) (b : Bool) → Ends (by_room r (length (bytes_of f)) b) fs
      → (after_frames s (by_room r (length (bytes_of f)) b) (map (λ g. bytes_of g) fs)).tail ≡ after_first r f fs b
  by_first r f fs true later = later
  by_first r f fs false later = later

  pub tail_reached : (r : Reached) (text : List Frame) → Ends r text
  tail_reached r [] = refl
  tail_reached r (f ∷ fs) = by_first r f fs (nat_le (r.offset + length (bytes_of f)) s.seg_size) (tail_reached (after_frame s r (length (bytes_of f))) fs)

  -- ---- a walk over frames and images

  pub fits-following : (us vs : List Bytes) → FitSegments s (us ++ vs) → FitSegments s vs
  fits-following [] vs h = h
  fits-following (u ∷ us) vs h = fits-following us vs h.1

  pub fits-before : (us vs : List Bytes) → FitSegments s (us ++ vs) → FitSegments s us
  fits-before [] vs h = tt
  fits-before (u ∷ us) vs h = (h.0, fits-before us vs h.1)

  -- from a start over all frames, as far as the rest; none of the positions on the way is above the greatest
  pub record Walk (start : Reached) (frames : List Bytes) (r : Reached) (rest : List Bytes) : Type 0 where
    pub walked : after_frames s r rest ≡ after_frames s start frames
    pub is : IsReached s r
    pub fits : FitSegments s rest
    pub room : r.tail ≤ greatest

  pub walk-on : (start : Reached) (frames : List Bytes) (r q : Reached) (us vs : List Bytes) → Walk start frames r (us ++ vs) → q ≡ after_frames s r us → q.tail ≤ greatest → Walk start frames q vs
  walk-on start frames r q us vs w h room =
      let before = fits-before us vs w.fits in
      record {
        walked = ap (λ (x : Reached). after_frames s x vs) h ∙ sym (frames-append r us vs) ∙ w.walked;
        is = subst (λ (x : Reached). IsReached s x) (sym h) (frames-are r us w.is before);
        fits = fits-following us vs w.fits;
        room = room;
      }

  abbrev reported : Reached → Bool → Option Reached
  reported r b = if b then None else Some r

  -- one position is above the greatest, and so each later one
  pub walk-spent : (start : Reached) (frames : List Bytes) (r q : Reached) (us vs : List Bytes) → Walk start frames r (us ++ vs) → q ≡ after_frames s r us → greatest < q.tail → None ≡ unless_spent (after_frames s start frames)
  walk-spent start frames r q us vs w h over =
      let before = fits-before us vs w.fits in
      let is = subst (λ (x : Reached). IsReached s x) (sym h) (frames-are r us w.is before) in
      let rise = frames-rise q vs is (fits-following us vs w.fits) in
      let all : after_frames s q vs ≡ after_frames s start frames = ap (λ (x : Reached). after_frames s x vs) h ∙ sym (frames-append r us vs) ∙ w.walked in
      let same = ap (λ (x : Reached). x.tail) all in
      sym (ap (reported (after_frames s start frames)) (lt-ltb greatest (after_frames s start frames).tail (omega (arith, rise, same, over))))

  pub walk-end : (start : Reached) (frames : List Bytes) (r : Reached) (rest : List Bytes) → Walk start frames r rest → rest ≡ [] → Some r ≡ unless_spent (after_frames s start frames)
  walk-end start frames r rest w none =
      let same : r ≡ after_frames s start frames = ap (after_frames s r) (sym none) ∙ w.walked in
      sym (ap (reported r) (le-ltb greatest r.tail w.room)) ∙ ap unless_spent same

  -- what a walk over some of the frames finds
  pub reported_none : (q : Reached) → None ≡ unless_spent q → greatest < q.tail
  reported_none q = of (nat_lt greatest q.tail) refl
    where
      of : (b : Bool) → nat_lt greatest q.tail ≡ b → None ≡ reported q b → greatest < q.tail
      of true is h = ltb-true greatest q.tail is
      of false is h = absurd (cc)

  pub reported_some : (r q : Reached) → Some r ≡ unless_spent q → (r ≡ q) × (r.tail ≤ greatest)
  reported_some r q = of (nat_lt greatest q.tail) refl
    where
      of : (b : Bool) → nat_lt greatest q.tail ≡ b → Some r ≡ reported q b → (r ≡ q) × (r.tail ≤ greatest)
      of true is h = absurd (cc)
      of false is h =
          let same : r ≡ q = cc in
          let low = ltb-false greatest q.tail is in
          let tails = ap (λ (x : Reached). x.tail) same in
          (same, omega (arith, low, tails))

  -- ---- the tail after new frames

  abbrev pub tail_read : ℕ → Bool → Option ℕ
  tail_read t b = if b then None else Some t

  pub text_tail : (tail : ℕ) (frames : List Bytes) (text : List Frame) → frames ≡ map (λ f. bytes_of f) text → (after_frames s (from_tail s tail) frames).tail ≡ tail_after s tail text
  text_tail tail frames text h = ap (λ (bs : List Bytes). (after_frames s (from_tail s tail) bs).tail) h ∙ tail_reached (from_tail s tail) text

  pub text_spent : (q : Reached) (t : ℕ) → None ≡ unless_spent q → q.tail ≡ t → None ≡ tail_read t (nat_lt greatest t)
  text_spent q t h same = let over = reported_none q h in sym (ap (tail_read t) (lt-ltb greatest t (omega (arith, over, same))))

  pub text_ends : (r q : Reached) (t : ℕ) → Some r ≡ unless_spent q → q.tail ≡ t → Some r.tail ≡ tail_read t (nat_lt greatest t)
  text_ends r q t h same =
      let (is, low) = reported_some r q h in
      let tail : r.tail ≡ t = ap (λ (x : Reached). x.tail) is ∙ same in
      sym (ap (tail_read r.tail) (le-ltb greatest r.tail low)) ∙ ap (λ (n : ℕ). tail_read n (nat_lt greatest n)) tail

-- frames that a store may have fit into segments
pub text-fits : (g : Format) → first_bad_field g.settings ≡ None → (images : List (List Bytes)) (text : List Frame) → AreOfText images text → AllByRecursion (λ f. is_frame g f ≡ true) text → FitSegments g.settings (frames_in images)
text-fits g good images text of within = subst (FitSegments g.settings) (sym of) (each text within)
  where
    each : (fs : List Frame) → AllByRecursion (λ f. is_frame g f ≡ true) fs → FitSegments g.settings (map (λ f. bytes_of f) fs)
    each [] h = tt
    each (f ∷ fs) h = (frame_fits g f good h.0, each fs h.1)

-- ---- places of a list

pub front_item : {X : Type 0} (xs : List X) (at : ℕ) (x : X) → at < length xs → x ≡ get_or xs at x → drop at xs ≡ x ∷ drop (at + 1) xs
front_item {X = X} xs at x l h = rw add-one (of xs at l h)
  where
    of : (ys : List X) (i : ℕ) → i < length ys → x ≡ get_or ys i x → drop i ys ≡ x ∷ drop (suc i) ys
    of [] i l h = absurd (omega arith)
    of (y ∷ ys) zero l h = ap (λ (z : X). z ∷ ys) (sym h)
    of (y ∷ ys) (suc i) l h = let m : i < length ys = omega arith in of ys i m h

pub front : {X : Type 0} (xs : List X) (at : ℕ) (x : X) → slice_get xs at ≡ Some x → drop at xs ≡ x ∷ drop (at + 1) xs
front {X = X} xs at x h = rw add-one (of xs at h)
  where
    of : (ys : List X) (i : ℕ) → slice_get ys i ≡ Some x → drop i ys ≡ x ∷ drop (suc i) ys
    of [] i h = absurd (cc)
    of (y ∷ ys) zero h = let same : y ≡ x = cc in ap (λ (z : X). z ∷ ys) same
    of (y ∷ ys) (suc i) h = of ys i h
