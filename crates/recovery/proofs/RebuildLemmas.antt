-- Building a page from its frames, one after the other.
use Rattle.std.specs.Prelude.{◌≡◌, ℕ, ◌-◌, ◌<◌, ◌≤◌, ◌==◌, Bool, true, false, List, [], ◌∷◌, ◌++◌, map, fold, length, take, drop, Option, Some, None, Result, Ok, Err}
use Rattle.std.proofs.Common.{refl, sym, ap, ◌∙◌, arith, append_assoc}
use Rattle.std.proofs.lemmas.Bool.{ne_eqb}
use Rattle.std.proofs.lemmas.List.{map-append, length-drop}
use Rattle.keys.specs.Bytes.{Bytes}
use Rattle.index_page.specs.Page.{PageOfKind}
use Rattle.frame_codec.specs.declared.format.Format.{Format}
use Rattle.frame_codec.specs.Frame.{Content, Frame, bytes_of}
use Rattle.frame_codec.specs.Reading.{read_frame}
use Rattle.flush_log.specs.Reading.{is_at_tail, with_first, read_frames}
use Rattle.recovery.specs.PageByLog.{base_in, is_base, present_or_missing, continued, page_from_start, page_in, InLog}
use Rattle.recovery.specs.PageByLog.InLog.{Present, Broken}
use Rattle.recovery.specs.Rebuild.{all_or_none, page_of_frames}
use Rattle.recovery.proofs.BrokenLemmas.{broken-stays}
use Rattle.recovery.proofs.KeptLemmas.{some_bytes}
use Rattle.recovery.proofs.KeptPages.{none-page}
use Rattle.recovery.proofs.ScanLemmas.{left-following, with_front, front-err, AreRead, read-none, read-more, read-all, read-broken}
use Rattle.recovery.proofs.StateLemmas.{state-more}

abbrev said : List Frame → List Content
said fs = map (λ (f : Frame). f.content) fs

not_at_tail : (bs : Bytes) → 1 ≤ length bs → is_at_tail bs ≡ false
not_at_tail [] h = absurd (omega (arith, h))
not_at_tail (b ∷ bs) h = refl

-- if these frames were read from the bytes and these bytes remain, no continuation gives a page
none_read : (fs : List Frame) (r : Result (List Frame) ℕ) → ((gs : List Frame) → page_in (page_from_start (said (fs ++ gs))) ≡ None) → page_in (page_from_start (said (all_or_none (with_front fs r)))) ≡ None
none_read fs (Ok gs) none = ap (λ (x : Result (List Frame) ℕ). page_in (page_from_start (said (all_or_none x)))) (front fs) ∙ none gs
  where
    front : (hs : List Frame) → with_front hs (Ok gs) ≡ (let x : Result (List Frame) ℕ = Ok (hs ++ gs) in x)
    front [] = refl
    front (h ∷ hs) = ap (λ (x : Result (List Frame) ℕ). with_first h x) (front hs)
none_read fs (Err left) none = ap (λ (x : Result (List Frame) ℕ). page_in (page_from_start (said (all_or_none x)))) (front-err fs left)

module _ (s : Format) where
  -- a frame that was read at the front of bytes
  pub record IsReadAt (rest : Bytes) (f : Frame) (size : ℕ) : Type 0 where
    pub found : read_frame s rest ≡ Some (f, drop size rest)
    pub long : size ≡ length (bytes_of f)
    pub within : size ≤ length rest

  abbrev following : ℕ → Bytes → Bytes
  following size rest = take (length rest - size) (drop size rest)

  less_after : (rest : Bytes) (f : Frame) (size : ℕ) → IsReadAt rest f size → length (following size rest) < length rest
  less_after rest f size h =
      let some = some_bytes f in
      let long = ap (λ (bs : Bytes). length bs) (left-following size rest) in
      let left = length-drop size rest in
      let is = h.long in
      let fits = h.within in
      omega (arith, some, long, left, is, fits)

  -- a frame that was read at the front of bytes, with the bytes after it
  pub record IsFront (bytes : Bytes) (f : Frame) (rest : Bytes) : Type 0 where
    pub found : read_frame s bytes ≡ Some (f, rest)
    pub less : length rest < length bytes

  pub front_of : (bytes : Bytes) (f : Frame) (size : ℕ) → IsReadAt bytes f size → IsFront bytes f (following size bytes)
  front_of bytes f size at = record {
    found = at.found ∙ ap (λ (rest : Bytes). let read : Option (Frame × Bytes) = Some (f, rest) in read) (sym (left-following size bytes));
    less = less_after bytes f size at;
  }

  one_more : (long : ℕ) (body rest : Bytes) (fs : List Frame) (f : Frame) (next : Bytes) → AreRead s is_at_tail long body fs rest → is_at_tail rest ≡ false → IsFront rest f next
      → AreRead s is_at_tail long body (fs ++ f ∷ []) next
  one_more long body rest fs f next h more at = read-more s is_at_tail long body fs rest next f h more at.found at.less

  -- these bytes remain, and the frames before them form this page
  pub record IsDecidedUpto (bytes : Bytes) (p : PageOfKind) (rest : Bytes) : Type 0 where
    pub frames : List Frame
    pub read : AreRead s is_at_tail (length bytes) bytes frames rest
    pub state : page_from_start (said frames) ≡ Present p

  has_more : (bytes : Bytes) (f : Frame) (next : Bytes) → IsFront bytes f next → is_at_tail bytes ≡ false
  has_more bytes f next h = let less = h.less in not_at_tail bytes (omega (arith, less))

  -- the first frame is a base
  pub upto-first : (bytes : Bytes) (f : Frame) (next : Bytes) (p : PageOfKind) → IsFront bytes f next → base_in f.content ≡ Some p → IsDecidedUpto bytes p next
  upto-first bytes f next p h base = record {
    frames = f ∷ [];
    read = one_more (length bytes) bytes bytes [] f next (read-none s is_at_tail (length bytes) bytes (omega arith)) (has_more bytes f next h) h;
    state = ap present_or_missing base;
  }

  -- and the next one a run of that page
  pub upto-more : (bytes rest : Bytes) (p q : PageOfKind) (f : Frame) (next : Bytes) → IsDecidedUpto bytes p rest → IsFront rest f next → continued (Present p) f.content ≡ Present q → IsDecidedUpto bytes q next
  upto-more bytes rest p q f next h at run = record {
    frames = h.frames ++ f ∷ [];
    read = one_more (length bytes) bytes rest h.frames f next h.read (has_more rest f next at) at;
    state = ap page_from_start (map-append (λ (g : Frame). g.content) h.frames (f ∷ [])) ∙ state-more (said h.frames) (f.content ∷ []) p h.state ∙ run;
  }

  abbrev page_state : Result (List Frame) ℕ → Option PageOfKind
  page_state r = page_in (page_from_start (said (all_or_none r)))

  -- no byte remains: that is the page
  pub state-all : (bytes rest : Bytes) (p : PageOfKind) → IsDecidedUpto bytes p rest → is_at_tail rest ≡ true → Some p ≡ page_in (page_of_frames s bytes)
  state-all bytes rest p h e = sym (ap page_state (read-all s is_at_tail (length bytes) bytes h.frames rest h.read e) ∙ ap page_in h.state)

  -- the remaining bytes begin with no frame
  pub state-other : (bytes rest : Bytes) (p : PageOfKind) → IsDecidedUpto bytes p rest → is_at_tail rest ≡ false → read_frame s rest ≡ None → None ≡ page_in (page_of_frames s bytes)
  state-other bytes rest p h e none = sym (ap page_state (read-broken s is_at_tail (length bytes) bytes h.frames rest h.read e none))

  -- or with one that doesn't fit
  pub state-unfit : (bytes rest : Bytes) (p : PageOfKind) (f : Frame) (next : Bytes) → IsDecidedUpto bytes p rest → IsFront rest f next → continued (Present p) f.content ≡ Broken → None ≡ page_in (page_of_frames s bytes)
  state-unfit bytes rest p f next h at unfit =
      let fs = h.frames in
      let read = one_more (length bytes) bytes rest fs f next h.read (has_more rest f next at) at in
      let broken : (gs : List Frame) → page_in (page_from_start (said ((fs ++ f ∷ []) ++ gs))) ≡ None = λ gs.
      ap (λ (hs : List Frame). page_in (page_from_start (said hs))) (append_assoc fs (f ∷ []) gs)
      ∙ ap (λ (cs : List Content). page_in (page_from_start cs)) (map-append (λ (g : Frame). g.content) fs (f ∷ gs))
      ∙ ap page_in (state-more (said fs) (f.content ∷ said gs) p h.state ∙ ap (λ (t : InLog). fold continued t (said gs)) unfit ∙ broken-stays (said gs)) in
      sym (ap page_state read.read ∙ none_read (fs ++ f ∷ []) (read_frames s is_at_tail (length bytes - length (fs ++ f ∷ [])) next) broken)

  -- there is no frame at all
  pub state-none : (bytes : Bytes) → read_frame s bytes ≡ None → None ≡ page_in (page_of_frames s bytes)
  state-none bytes none = of (is_at_tail bytes) refl
    where
      start : AreRead s is_at_tail (length bytes) bytes [] bytes
      start = read-none s is_at_tail (length bytes) bytes (omega arith)

      of : (b : Bool) → is_at_tail bytes ≡ b → None ≡ page_in (page_of_frames s bytes)
      of true e = sym (ap page_state (read-all s is_at_tail (length bytes) bytes [] bytes start e))
      of false e = sym (ap page_state (read-broken s is_at_tail (length bytes) bytes [] bytes start e none))

  -- or the first is no base
  pub state-no_base : (bytes : Bytes) (f : Frame) (next : Bytes) → IsFront bytes f next → base_in f.content ≡ None → None ≡ page_in (page_of_frames s bytes)
  state-no_base bytes f next at none =
      let read = one_more (length bytes) bytes bytes [] f next (read-none s is_at_tail (length bytes) bytes (omega arith)) (has_more bytes f next at) at in
      let no_base : is_base f.content ≡ false = rw none refl in
      sym (ap page_state read.read ∙ none_read (f ∷ []) (read_frames s is_at_tail (length bytes - length (f ∷ [])) next) (λ gs. none-page f.content (said gs) no_base))

-- as the code tests it
pub tail_by : (rest : Bytes) (b : Bool) → (length rest == 0) ≡ b → is_at_tail rest ≡ b
tail_by [] b e = e
tail_by (x ∷ xs) b e = sym (ne_eqb (length (x ∷ xs)) 0 (λ h. omega (arith, h))) ∙ e
