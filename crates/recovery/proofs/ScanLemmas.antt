-- Reading a segment's frames one by one.
use Rattle.std.proofs.Common.{◌≡◌, ℕ, zero, suc, ◌+◌, ◌-◌, ◌<◌, ◌≤◌, ◌==◌, ◌&&◌, nat_eq, Bool, true, false, List, [], ◌∷◌, ◌++◌, length, length-append, take, drop, map, Option, Some, None, Result, Ok, Err, MatchOption, IfSome, refl, sym, ap, subst, ◌∙◌, arith}
use Rattle.std.specs.List.{list_all, starts_with}
use Rattle.std.proofs.lemmas.Bool.{ne_eqb}
use Rattle.std.proofs.lemmas.List.{length-drop, length-take-le, take_all, map-append}
use Rattle.keys.specs.Bytes.{Bytes}
use Rattle.keys.specs.declared.fault.Fault.{Fault}
use Rattle.keys.specs.declared.fault.Fault.TheVariants.{BadFrame}
use Rattle.frame_codec.specs.declared.format.Format.{Format}
use Rattle.frame_codec.specs.Frame.{Frame, bytes_of}
use Rattle.frame_codec.specs.Reading.{read_frame}
use Rattle.frame_codec.specs.Skimmed.{IsSkimmed, kind_of}
use Rattle.frame_codec.specs.declared.skim.FrameKind.{FrameKind}
use Rattle.frame_codec.specs.declared.skim.Skimmed.{Skimmed}
use Rattle.flush_log.specs.Reading.{Found, all_in, is_padding, with_first, read_frames, in_segment}
use Rattle.flush_log.specs.Segments.{segment_header}
use Rattle.recovery.specs.Scan.{HeldSegment, is_end_at, scanned, HeldFrame, said_of_frame, said_of, held_frame}
use Rattle.recovery.specs.declared.scan_segment.ScannedFrame.{ScannedFrame}

pub padding-zeros : (bytes : Bytes) → list_all (λ b. b == 0) bytes ≡ is_padding bytes
padding-zeros [] = refl
padding-zeros (zero ∷ bytes) = padding-zeros bytes
padding-zeros (suc b ∷ bytes) = ap (λ t. t && list_all (λ b. b == 0) bytes) (ne_eqb (suc b) 0 (λ e. cc))

-- the bytes after the first n
pub left-following : (n : ℕ) (bytes : Bytes) → take (length bytes - n) (drop n bytes) ≡ drop n bytes
left-following n bytes = ap (λ (k : ℕ). take k (drop n bytes)) (sym (length-drop n bytes)) ∙ take_all (length (drop n bytes)) (drop n bytes) (omega arith)

-- these frames before what is read
abbrev pub with_front : List Frame → Result (List Frame) ℕ → Result (List Frame) ℕ
with_front [] r = r
with_front (f ∷ fs) r = with_first f (with_front fs r)

pub front-more : (fs : List Frame) (f : Frame) (r : Result (List Frame) ℕ) → with_front (fs ++ f ∷ []) r ≡ with_front fs (with_first f r)
front-more [] f r = refl
front-more (g ∷ fs) f r = ap (λ t. with_first g t) (front-more fs f r)

abbrev all_read : List Frame → Result (List Frame) ℕ
all_read fs = Ok fs

abbrev none_at : ℕ → Result (List Frame) ℕ
none_at left = Err left

pub front-ok : (fs : List Frame) → with_front fs (all_read []) ≡ all_read fs
front-ok [] = refl
front-ok (f ∷ fs) = ap (λ t. with_first f t) (front-ok fs)

pub front-err : (fs : List Frame) (left : ℕ) → with_front fs (none_at left) ≡ none_at left
front-err [] left = refl
front-err (f ∷ fs) left = ap (λ t. with_first f t) (front-err fs left)

-- of a segment whose frames end so
module _ (s : Format) (is_end : Bytes → Bool) where
  -- the result of reading bytes, with the limit `long`, after these frames were read and while these bytes remain
  pub record AreRead (long : ℕ) (body : Bytes) (fs : List Frame) (rest : Bytes) : Type 0 where
    pub read : read_frames s is_end long body ≡ with_front fs (read_frames s is_end (long - length fs) rest)
    pub room : length fs + length rest ≤ long

  pub read-none : (long : ℕ) (body : Bytes) → length body ≤ long → AreRead long body [] body
  read-none long body fits =
      let all : long ≡ long - length {A = Frame} [] = omega arith in
      record { read = ap (λ (n : ℕ). read_frames s is_end n body) all; room = omega (arith, fits) }

  at_end : (most : ℕ) (rest : Bytes) → is_end rest ≡ true → read_frames s is_end most rest ≡ all_read []
  at_end zero rest e = rw e refl
  at_end (suc most) rest e = rw e refl

  broken : (most : ℕ) (rest : Bytes) → is_end rest ≡ false → read_frame s rest ≡ None → read_frames s is_end most rest ≡ none_at (length rest)
  broken zero rest e none = rw e refl
  broken (suc most) rest e none = rw e (rw none refl)

  pub goes_on : (most : ℕ) (rest following : Bytes) (f : Frame) → is_end rest ≡ false → read_frame s rest ≡ Some (f, following)
      → read_frames s is_end (suc most) rest ≡ with_first f (read_frames s is_end most following)
  goes_on most rest following f e some = rw e (rw some refl)

  -- at their end, all were read
  pub read-all : (long : ℕ) (body : Bytes) (fs : List Frame) (rest : Bytes) → AreRead long body fs rest → is_end rest ≡ true
      → read_frames s is_end long body ≡ all_read fs
  read-all long body fs rest h e = h.read ∙ ap (λ r. with_front fs r) (at_end (long - length fs) rest e) ∙ front-ok fs

  -- if there is neither a frame nor the end, this many bytes remain
  pub read-broken : (long : ℕ) (body : Bytes) (fs : List Frame) (rest : Bytes) → AreRead long body fs rest → is_end rest ≡ false → read_frame s rest ≡ None
      → read_frames s is_end long body ≡ none_at (length rest)
  read-broken long body fs rest h e none = h.read ∙ ap (λ r. with_front fs r) (broken (long - length fs) rest e none) ∙ front-err fs (length rest)

  -- and one frame more
  pub read-more : (long : ℕ) (body : Bytes) (fs : List Frame) (rest following : Bytes) (f : Frame) → AreRead long body fs rest → is_end rest ≡ false
      → read_frame s rest ≡ Some (f, following) → length following < length rest → AreRead long body (fs ++ f ∷ []) following
  read-more long body fs rest following f h e some less =
      let fewer = length-append fs (f ∷ []) in
      let left : long - length fs ≡ suc (long - length (fs ++ f ∷ [])) = omega (arith, h.room, less, fewer) in
      record {
        read = h.read ∙ ap (λ (n : ℕ). with_front fs (read_frames s is_end n rest)) left
            ∙ ap (λ r. with_front fs r) (goes_on (long - length (fs ++ f ∷ [])) rest following f e some)
            ∙ sym (front-more fs f (read_frames s is_end (long - length (fs ++ f ∷ [])) following));
        room = omega (arith, h.room, less, fewer);
      }

-- ---- one frame

module _ (s : Format) (rest : Bytes) where
  -- the result of code that skims a frame at the front of these bytes
  pub record IsDecidedOf (state : Option Skimmed) : Type 0 where
    pub found : MatchOption state (read_frame s rest ≡ None) (λ k. (f : Frame) × (read_frame s rest ≡ Some (f, drop k.size rest)) × IsSkimmed k f × (take k.size rest ≡ bytes_of f))
    pub within : IfSome state (λ k. k.size ≤ length rest)

  pub state-none : (state : Option Skimmed) → state ≡ None → IsDecidedOf state → read_frame s rest ≡ None
  state-none None e h = h.found
  state-none (Some k) e h = absurd (cc)

  -- the frame that was identified in this way
  pub record IsFrame (k : Skimmed) : Type 0 where
    pub frame : Frame
    pub read : read_frame s rest ≡ Some (frame, drop k.size rest)
    pub skimmed : IsSkimmed k frame
    pub bytes : take k.size rest ≡ bytes_of frame
    pub within : k.size ≤ length rest
    pub less : length (drop k.size rest) < length rest

  state_by : (k : Skimmed) → IsDecidedOf (Some k) → IsFrame k
  state_by k h =
      let (f, read, skimmed, bytes) = h.found in
      let fits = h.within in
      let long = ap length (sym bytes) in
      let part = length-take-le k.size rest fits in
      let left = length-drop k.size rest in
      record { frame = f; read = read; skimmed = skimmed; bytes = bytes; within = fits; less = omega (arith, long, part, left, fits) }

  pub state-some : (state : Option Skimmed) (k : Skimmed) → state ≡ Some k → IsDecidedOf state → IsFrame k
  state-some state k e h = state_by k (subst (λ (o : Option Skimmed). IsDecidedOf o) e h)

-- fewer bytes remain then
pub less-left : (s : Format) (rest : Bytes) (state : Skimmed) (size : ℕ) → size ≡ state.size → IsFrame s rest state → length (take (length rest - size) (drop size rest)) < length rest
less-left s rest state size same_size f =
    let same = ap (λ (bs : Bytes). length bs) (ap (λ (m : ℕ). take (length rest - m) (drop m rest)) same_size ∙ left-following state.size rest) in
    let less = f.less in
    omega (arith, same, less)

-- ---- the frames of a segment, as they are held

-- these bytes of segment n, with this kind of end, remain, and these items represent the frames before them
pub record IsUpto (s : Format) (is_end : Bytes → Bool) (long n : ℕ) (body : Bytes) (items : List ScannedFrame) (rest : Bytes) : Type 0 where
  pub frames : List Frame
  pub read : AreRead s is_end long body frames rest
  pub held : map (held_frame n) items ≡ map said_of_frame (all_in n frames)

abbrev held : ℕ → ℕ → FrameKind → Bytes → HeldFrame
held n pid kind bytes = record { segment = n; pid = pid; kind = kind; bytes = bytes }

held-same : (n p q : ℕ) (a b : FrameKind) (x y : Bytes) → p ≡ q → a ≡ b → x ≡ y → held n p a x ≡ held n q b y
held-same n p q a b x y pid kind bytes = ap (λ (m : ℕ). held n m a x) pid ∙ ap (λ (k : FrameKind). held n q k x) kind ∙ ap (λ (bs : Bytes). held n q b bs) bytes

module _ (s : Format) (is_end : Bytes → Bool) (long n : ℕ) (body : Bytes) where
  -- in terms of the code, if nothing was read
  pub upto-none : (items : List ScannedFrame) (bytes : Bytes) → items ≡ [] → body ≡ drop 16 bytes → length bytes ≤ long
      → IsUpto s is_end long n body items (take (length bytes - 16) (drop 16 bytes))
  upto-none items bytes none is fits =
      let less = length-drop 16 bytes in
      let first = read-none s is_end long (drop 16 bytes) (omega (arith, less, fits)) in
      record {
        frames = [];
        read = subst (λ (b : Bytes). AreRead s is_end long b [] (take (length bytes - 16) (drop 16 bytes))) (sym is) (subst (λ (rest : Bytes). AreRead s is_end long (drop 16 bytes) [] rest) (sym (left-following 16 bytes)) first);
        held = ap (λ (ks : List ScannedFrame). map (held_frame n) ks) none;
      }

  -- and one frame more
  pub upto-more : (items now : List ScannedFrame) (k : ScannedFrame) (state : Skimmed) (size : ℕ) (rest : Bytes) → now ≡ items ++ k ∷ [] → k.pid ≡ state.pid → k.kind ≡ state.kind → size ≡ state.size → k.bytes.now ≡ take size rest
      → IsUpto s is_end long n body items rest → is_end rest ≡ false → (f : IsFrame s rest state) → IsUpto s is_end long n body now (take (length rest - size) (drop size rest))
  upto-more items now k state size rest put pid kind same_size bytes h e f =
      let one : Found = record { segment = n; frame = f.frame } in
      let same : held_frame n k ≡ said_of_frame one = held-same n k.pid f.frame.pid k.kind (kind_of f.frame.content) k.bytes.now (bytes_of f.frame) (pid ∙ sym f.skimmed.0) (kind ∙ sym f.skimmed.1) (bytes ∙ ap (λ (m : ℕ). take m rest) same_size ∙ f.bytes) in
      record {
        frames = h.frames ++ f.frame ∷ [];
        read = subst (λ (following : Bytes). AreRead s is_end long body (h.frames ++ f.frame ∷ []) following) (sym (left-following state.size rest) ∙ ap (λ (m : ℕ). take (length rest - m) (drop m rest)) (sym same_size))
            (read-more s is_end long body h.frames rest (drop state.size rest) f.frame h.read e f.read f.less);
        held = ap (λ (ks : List ScannedFrame). map (held_frame n) ks) put ∙ map-append (held_frame n) items (k ∷ [])
            ∙ ap (λ (hs : List HeldFrame). hs ++ held_frame n k ∷ []) h.held ∙ ap (λ (x : HeldFrame). map said_of_frame (all_in n h.frames) ++ x ∷ []) same
            ∙ sym (map-append said_of_frame (all_in n h.frames) (one ∷ []))
            ∙ ap (λ (xs : List Found). map said_of_frame xs) (sym (map-append (λ (g : Frame). (let x : Found = record { segment = n; frame = g } in x)) h.frames (f.frame ∷ [])));
      }

-- of a segment
module _ (s : Format) (g : HeldSegment) (headed : starts_with nat_eq g.bytes (segment_header g.number) ≡ true) where
  abbrev read_by : Result (List Frame) ℕ → Result (List Found) Fault
  read_by r = in_segment g.number (length g.bytes) r

  past_header : scanned s g ≡ read_by (read_frames s (is_end_at g.end) (length g.bytes) (drop 16 g.bytes))
  past_header = rw headed refl

  pub segment-read : (fs : List Frame) (rest : Bytes) → AreRead s (is_end_at g.end) (length g.bytes) (drop 16 g.bytes) fs rest → is_end_at g.end rest ≡ true
      → scanned s g ≡ Ok (all_in g.number fs)
  segment-read fs rest h e = past_header ∙ ap (λ r. read_by r) (read-all s (is_end_at g.end) (length g.bytes) (drop 16 g.bytes) fs rest h e)

  pub segment-broken : (fs : List Frame) (rest : Bytes) → AreRead s (is_end_at g.end) (length g.bytes) (drop 16 g.bytes) fs rest → is_end_at g.end rest ≡ false
      → read_frame s rest ≡ None → scanned s g ≡ Err (BadFrame g.number (length g.bytes - length rest))
  segment-broken fs rest h e none = past_header ∙ ap (λ r. read_by r) (read-broken s (is_end_at g.end) (length g.bytes) (drop 16 g.bytes) fs rest h e none)

-- what a segment holds
abbrev all : List Found → Result (List Found) Fault
all found = Ok found

abbrev said : List HeldFrame → Result (List HeldFrame) Fault
said hs = Ok hs

pub frames-said : (s : Format) (g : HeldSegment) (fs : List Frame) (items : List ScannedFrame) → scanned s g ≡ all (all_in g.number fs) → map (held_frame g.number) items ≡ map said_of_frame (all_in g.number fs)
    → said_of (scanned s g) ≡ said (map (held_frame g.number) items)
frames-said s g fs items is same = ap said_of is ∙ ap said (sym same)
