-- Reading a segment: the frames found are encoded in it, and a reported fault is at its offset.
use Rattle.std.specs.Prelude.{◌≡◌, ◌⊎◌, ℕ, zero, suc, ◌+◌, ◌-◌, ◌*◌, ◌≤◌, ◌<◌, Bool, true, false, nat_eq, if◌then◌else◌, List, [], ◌∷◌, ◌++◌, length, flat_map, take, drop, replicate, Option, Some, None, Result, Ok, Err}
use Rattle.std.specs.List.{AllByRecursion, starts_with}
use Rattle.std.proofs.Common.{refl, sym, ap, ◌∙◌, arith, append_assoc, append-nil, length-append, subst, inl, inr}
use Rattle.keys.specs.Cells.{AreBytes}
use Rattle.keys.specs.Limits.{first_bad_field}
use Rattle.keys.specs.declared.fault.Fault.{Fault}
use Rattle.keys.specs.declared.fault.Fault.TheVariants.{BadSegment, BadFrame}
use Rattle.keys.proofs.CellLemmas.{bytes_after}
use Rattle.frame_codec.specs.declared.format.Format.{Format}
use Rattle.frame_codec.specs.Frame.{Frame, bytes_of, is_frame}
use Rattle.frame_codec.specs.Reading.{read_frame}
use Rattle.frame_codec.proofs.ReadLemmas.{frame-stands}
use Rattle.flush_log.specs.Reading.{Found, all_in, is_at_tail, is_padding, with_first, read_then, read_frames, in_segment, read_segment, followed_by, read_earlier, log_between}
use Rattle.flush_log.specs.Segments.{segment_header, segment_bytes, last_segment, bytes_in_use}
use Rattle.flush_log.specs.Standing.{AreFrames, IsBrokenAt, IsFirstFault}
use Rattle.flush_log.proofs.LayoutLemmas.{split-tail}
use Rattle.flush_log.proofs.ReadBackLemmas.{ok}
use Rattle.flush_log.proofs.SegmentLemmas.{header-following, header-holds, frame-holds, holds-read, Holds}

-- zeros up to the end
padding-zeros : (bs : List ℕ) → is_padding bs ≡ true → bs ≡ replicate (length bs) 0
padding-zeros [] h = refl
padding-zeros (zero ∷ bs) h = ap (λ (cs : List ℕ). 0 ∷ cs) (padding-zeros bs h)
padding-zeros (suc b ∷ bs) h = absurd (cc)

tail-empty : (bs : List ℕ) → is_at_tail bs ≡ true → bs ≡ []
tail-empty [] h = refl
tail-empty (b ∷ bs) h = absurd (cc)

module _ (g : Format) where
  -- frames and an end after them; or frames and neither a frame nor an end
  record AreSpelled (is_end : List ℕ → Bool) (bs : List ℕ) (fs : List Frame) : Type 0 where
    following : List ℕ
    within : AllByRecursion (λ f. is_frame g f ≡ true) fs
    encoded : bs ≡ flat_map bytes_of fs ++ following
    end : is_end following ≡ true

  record AreBroken (is_end : List ℕ → Bool) (bs : List ℕ) (left : ℕ) : Type 0 where
    before : List Frame
    following : List ℕ
    within : AllByRecursion (λ f. is_frame g f ≡ true) before
    encoded : bs ≡ flat_map bytes_of before ++ following
    long : left ≡ length following
    no_end : is_end following ≡ false
    no_frame : read_frame g following ≡ None

  abbrev Stand : (List ℕ → Bool) → List ℕ → Result (List Frame) ℕ → Type 0
  Stand is_end bs (Ok fs) = AreSpelled is_end bs fs
  Stand is_end bs (Err left) = AreBroken is_end bs left

  module _ (is_end : List ℕ → Bool) (none : is_end [] ≡ true) where
    stand-end : (bs : List ℕ) → is_end bs ≡ true → AreSpelled is_end bs []
    stand-end bs h = record { following = bs; within = tt; encoded = refl; end = h }

    stand-more : (bs : List ℕ) (f : Frame) (rest : List ℕ) (r : Result (List Frame) ℕ) → AreBytes bs → read_frame g bs ≡ Some (f, rest) → Stand is_end rest r → Stand is_end bs (with_first f r)
    stand-more bs f rest (Ok fs) bytes read later =
        let stands = frame-stands g bs f rest bytes read in
        record {
          following = later.following;
          within = (stands.within, later.within);
          encoded = stands.bytes ∙ ap (λ (cs : List ℕ). bytes_of f ++ cs) later.encoded ∙ sym (append_assoc (bytes_of f) (flat_map bytes_of fs) later.following);
          end = later.end;
        }
    stand-more bs f rest (Err left) bytes read later =
        let stands = frame-stands g bs f rest bytes read in
        record {
          before = f ∷ later.before;
          following = later.following;
          within = (stands.within, later.within);
          encoded = stands.bytes ∙ ap (λ (cs : List ℕ). bytes_of f ++ cs) later.encoded ∙ sym (append_assoc (bytes_of f) (flat_map bytes_of later.before) later.following);
          long = later.long;
          no_end = later.no_end;
          no_frame = later.no_frame;
        }

    stand-read : (most : ℕ) (bs : List ℕ) (o : Option (Frame × List ℕ)) → read_frame g bs ≡ o → is_end bs ≡ false → AreBytes bs → length bs ≤ suc most
        → ((rest : List ℕ) → AreBytes rest → length rest ≤ most → Stand is_end rest (read_frames g is_end most rest))
        → Stand is_end bs (read_then (length bs) o (λ following. read_frames g is_end most following))
    stand-read most bs None read end bytes long further =
        record { before = []; following = bs; within = tt; encoded = refl; long = refl; no_end = end; no_frame = read }
    stand-read most bs (Some p) read end bytes long further =
        let stands = frame-stands g bs p.0 p.1 bytes read in
        let joined = length-append (bytes_of p.0) p.1 in
        let same : length bs ≡ length (bytes_of p.0 ++ p.1) = ap (λ (cs : List ℕ). length cs) stands.bytes in
        stand-more bs p.0 p.1 (read_frames g is_end most p.1) bytes read (further p.1 (bytes_after (bytes_of p.0) p.1 (rw stands.bytes at bytes)) (omega arith))

    stand-step : (most : ℕ) (bs : List ℕ) (e : Bool) → is_end bs ≡ e → AreBytes bs → length bs ≤ suc most
        → ((rest : List ℕ) → AreBytes rest → length rest ≤ most → Stand is_end rest (read_frames g is_end most rest))
        → Stand is_end bs (if e then Ok [] else read_then (length bs) (read_frame g bs) (λ following. read_frames g is_end most following))
    stand-step most bs true h bytes long further = stand-end bs h
    stand-step most bs false h bytes long further = stand-read most bs (read_frame g bs) refl h bytes long further

    frames-stand : (most : ℕ) (bs : List ℕ) → AreBytes bs → length bs ≤ most → Stand is_end bs (read_frames g is_end most bs)
    frames-stand zero [] bytes long = rw none (stand-end [] none)
    frames-stand zero (b ∷ bs) bytes long = absurd (omega arith)
    frames-stand (suc most) bs bytes long = stand-step most bs (is_end bs) refl bytes long (λ rest are few. frames-stand most rest are few)

    -- ---- a segment

    -- what is found in segment n, after its header and up to the end
    record IsFound (n : ℕ) (bytes : List ℕ) (found : List Found) : Type 0 where
      frames : List Frame
      all : found ≡ all_in n frames
      stand : AreSpelled is_end (drop 16 bytes) frames
      headed : bytes ≡ segment_header n ++ drop 16 bytes

    found-of : (n : ℕ) (bytes : List ℕ) (found : List Found) (r : Result (List Frame) ℕ) → Stand is_end (drop 16 bytes) r → bytes ≡ segment_header n ++ drop 16 bytes
        → in_segment n (length bytes) r ≡ Ok found → IsFound n bytes found
    found-of n bytes found (Ok fs) stand headed h = record { frames = fs; all = cc; stand = stand; headed = headed }
    found-of n bytes found (Err left) stand headed h = absurd (cc)

    broken-of : (n : ℕ) (bytes : List ℕ) (m offset : ℕ) (r : Result (List Frame) ℕ) → Stand is_end (drop 16 bytes) r → bytes ≡ segment_header n ++ drop 16 bytes
        → in_segment n (length bytes) r ≡ Err (BadFrame m offset) → (m ≡ n) × IsBrokenAt g is_end n offset bytes
    broken-of n bytes m offset (Ok fs) stand headed h = absurd (cc)
    broken-of n bytes m offset (Err left) stand headed h =
        let whole : bytes ≡ segment_header n ++ (flat_map bytes_of stand.before ++ stand.following) = headed ∙ ap (λ (cs : List ℕ). segment_header n ++ cs) stand.encoded in
        let long : length bytes ≡ length (segment_header n ++ (flat_map bytes_of stand.before ++ stand.following)) = ap (λ (cs : List ℕ). length cs) whole in
        let joined = length-append (flat_map bytes_of stand.before) stand.following in
        let rest = stand.long in
        let at : offset ≡ length bytes - left = cc in (
          cc,
          record {
            before = stand.before;
            following = stand.following;
            within = stand.within;
            encoded = whole;
            place = omega (arith, at, long, joined, rest);
            no_end = stand.no_end;
            no_frame = stand.no_frame;
          },
        )

    after_header : (n : ℕ) (bytes : List ℕ) → AreBytes bytes → starts_with nat_eq bytes (segment_header n) ≡ true → Stand is_end (drop 16 bytes) (read_frames g is_end (length bytes) (drop 16 bytes))
    after_header n bytes are starts =
        let headed = header-following n bytes starts in
        let long : length bytes ≡ length (segment_header n ++ drop 16 bytes) = ap (λ (cs : List ℕ). length cs) headed in
        frames-stand (length bytes) (drop 16 bytes) (bytes_after (segment_header n) (drop 16 bytes) (rw headed at are)) (omega arith)

    segment-found : (n : ℕ) (bytes : List ℕ) (found : List Found) → AreBytes bytes → read_segment g is_end n bytes ≡ Ok found → IsFound n bytes found
    segment-found n bytes found are = of (starts_with nat_eq bytes (segment_header n)) refl
      where
        of : (b : Bool) → starts_with nat_eq bytes (segment_header n) ≡ b → (if b then in_segment n (length bytes) (read_frames g is_end (length bytes) (drop 16 bytes)) else Err (BadSegment n)) ≡ Ok found
            → IsFound n bytes found
        of true starts h = found-of n bytes found (read_frames g is_end (length bytes) (drop 16 bytes)) (after_header n bytes are starts) (header-following n bytes starts) h
        of false starts h = absurd (cc)

    -- and at the reported offset there is no frame
    pub segment-broken : (n : ℕ) (bytes : List ℕ) (m offset : ℕ) → AreBytes bytes → read_segment g is_end n bytes ≡ Err (BadFrame m offset) → (m ≡ n) × IsBrokenAt g is_end n offset bytes
    segment-broken n bytes m offset are = of (starts_with nat_eq bytes (segment_header n)) refl
      where
        of : (b : Bool) → starts_with nat_eq bytes (segment_header n) ≡ b → (if b then in_segment n (length bytes) (read_frames g is_end (length bytes) (drop 16 bytes)) else Err (BadSegment n)) ≡ Err (BadFrame m offset)
            → (m ≡ n) × IsBrokenAt g is_end n offset bytes
        of true starts h = broken-of n bytes m offset (read_frames g is_end (length bytes) (drop 16 bytes)) (after_header n bytes are starts) (header-following n bytes starts) h
        of false starts h = absurd (cc)

  no_header : (n long m : ℕ) (r : Result (List Frame) ℕ) → in_segment n long r ≡ Err (BadSegment m) → ⊥
  no_header n long m (Ok fs) h = cc
  no_header n long m (Err left) h = cc

  pub segment-headless : (is_end : List ℕ → Bool) (n : ℕ) (bytes : List ℕ) (m : ℕ) → read_segment g is_end n bytes ≡ Err (BadSegment m) → (m ≡ n) × (starts_with nat_eq bytes (segment_header n) ≡ false)
  segment-headless is_end n bytes m = of (starts_with nat_eq bytes (segment_header n)) refl
    where
      of : (b : Bool) → starts_with nat_eq bytes (segment_header n) ≡ b → (if b then in_segment n (length bytes) (read_frames g is_end (length bytes) (drop 16 bytes)) else Err (BadSegment n)) ≡ Err (BadSegment m)
          → (m ≡ n) × (starts_with nat_eq bytes (segment_header n) ≡ false)
      of true starts h = absurd (no_header n (length bytes) m (read_frames g is_end (length bytes) (drop 16 bytes)) h)
      of false starts h = (cc, starts)

  -- up to the padding, and up to the tail
  pub earlier-stands : (n : ℕ) (bytes : List ℕ) (found : List Found) → AreBytes bytes → read_segment g is_padding n bytes ≡ Ok found
      → (fs : List Frame) × (zeros : ℕ) × AreFrames g n fs zeros bytes × (found ≡ all_in n fs)
  earlier-stands n bytes found are h =
      let f = segment-found is_padding refl n bytes found are h in
      let stand = f.stand in
      let pad = padding-zeros stand.following stand.end in (
        f.frames,
        length stand.following,
        record { within = stand.within; encoded = f.headed ∙ ap (λ (cs : List ℕ). segment_header n ++ cs) (stand.encoded ∙ ap (λ (cs : List ℕ). flat_map bytes_of f.frames ++ cs) pad) },
        f.all,
      )

  pub last-stands : (n : ℕ) (bytes : List ℕ) (found : List Found) → AreBytes bytes → read_segment g is_at_tail n bytes ≡ Ok found
      → (fs : List Frame) × AreFrames g n fs 0 bytes × (found ≡ all_in n fs)
  last-stands n bytes found are h =
      let f = segment-found is_at_tail refl n bytes found are h in
      let stand = f.stand in
      let none = tail-empty stand.following stand.end in (
        f.frames,
        record { within = stand.within; encoded = f.headed ∙ ap (λ (cs : List ℕ). segment_header n ++ cs) (stand.encoded ∙ ap (λ (cs : List ℕ). flat_map bytes_of f.frames ++ cs) none) },
        f.all,
      )

  -- ---- and such bytes are read

  module _ (good : first_bad_field g.settings ≡ None) (n : ℕ) where
    frames-hold : (bytes : List ℕ) (here fs : List Frame) → AllByRecursion (λ f. is_frame g f ≡ true) fs → Holds g n bytes here → Holds g n (bytes ++ flat_map bytes_of fs) (here ++ fs)
    frames-hold bytes here [] within h = rw (append-nil bytes, append-nil here) h
    frames-hold bytes here (f ∷ fs) within h =
        rw (sym (append_assoc bytes (bytes_of f) (flat_map bytes_of fs)), sym (append_assoc here (f ∷ []) fs))
        (frames-hold (bytes ++ bytes_of f) (here ++ f ∷ []) fs within.1 (frame-holds g good n bytes here f within.0 h))

    pub frames-read : (is_end : List ℕ → Bool) → ((b : ℕ) (bs : List ℕ) → is_end (suc b ∷ bs) ≡ false) → (fs : List Frame) (zeros : ℕ) (bytes : List ℕ) → is_end (replicate zeros 0) ≡ true
        → AreFrames g n fs zeros bytes → read_segment g is_end n bytes ≡ Ok (all_in n fs)
    frames-read is_end marks fs zeros bytes end h =
        ap (λ (bs : List ℕ). read_segment g is_end n bs) (h.encoded ∙ sym (append_assoc (segment_header n) (flat_map bytes_of fs) (replicate zeros 0)))
        ∙ holds-read g is_end marks n (segment_header n ++ flat_map bytes_of fs) (replicate zeros 0) fs (frames-hold (segment_header n) [] fs h.within (header-holds g n)) end

-- ---- the first fault

followed-err : (x y : Result (List Found) Fault) (fault : Fault) → followed_by x y ≡ Err fault → (x ≡ Err fault) ⊎ ((before : List Found) × (x ≡ ok before) × (y ≡ Err fault))
followed-err (Ok before) (Ok more) fault h = absurd (cc)
followed-err (Ok before) (Err e) fault h = inr (before, refl, cc)
followed-err (Err e) y fault h = inl h

module _ (g : Format) (file : List ℕ) where
  -- in one of k segments from the head on
  abbrev EarlierFault : ℕ → ℕ → Fault → Type 0
  EarlierFault head k fault = (j : ℕ) × (before : List Found) × (j < k) × (read_earlier g file head j ≡ ok before) × (read_segment g is_padding (head + j) (segment_bytes g.settings file (head + j)) ≡ Err fault)

  earlier-fault : (head k : ℕ) (fault : Fault) → read_earlier g file head k ≡ Err fault → EarlierFault head k fault
  earlier-fault head zero fault h = absurd (cc)
  earlier-fault head (suc k) fault h =
      elim (followed-err (read_earlier g file head k) (read_segment g is_padding (head + k) (segment_bytes g.settings file (head + k))) fault h) [
        | inl first ↦ (let (j, before, less, old, here) = earlier-fault head k fault first in (j, before, omega (arith, less), old, here))
        | inr p ↦ (k, p.0, omega arith, p.1, p.2)
      ]

  pub first-fault : (head tail : ℕ) (fault : Fault) → 0 < g.settings.seg_size → head * g.settings.seg_size < tail → log_between g file head tail ≡ Err fault → (n : ℕ) × IsFirstFault g file head tail n fault
  first-fault head tail fault some less h =
      let split = split-tail g.settings head tail some less in
      let from = split.from in
      let k : ℕ = last_segment g.settings tail - head in
      elim (followed-err (read_earlier g file head k) (read_segment g is_at_tail (head + k) (take (bytes_in_use g.settings tail) (segment_bytes g.settings file (head + k)))) fault h) [
        | inl first ↦ (let (j, before, low, old, here) = earlier-fault head k fault first in
            let same : j ≡ head + j - head = omega arith in
            (head + j, record { before = before; from_head = omega arith; earlier = subst (λ (m : ℕ). read_earlier g file head m ≡ ok before) same old; here = inl (omega (arith, low, from), here) }))
        | inr p ↦
            (let same : last_segment g.settings tail - head ≡ head + (last_segment g.settings tail - head) - head = omega arith in
            (head + k, record { before = p.0; from_head = omega arith; earlier = subst (λ (m : ℕ). read_earlier g file head m ≡ ok p.0) same p.1; here = inr (omega (arith, from), p.2) }))
      ]
