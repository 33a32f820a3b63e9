-- Decoding a frame from its header and from its content, if the settings allow the content.
use Rattle.std.proofs.Common.{◌≡◌, ℕ, suc, ◌+◌, ◌-◌, ◌≤◌, Fits, w8, get_or, [], ◌∷◌, Bool, true, false, ◌==◌, if◌then◌else◌, List, length, drop, Option, Some, None, refl, sym, ap, ◌∙◌, arith, length-append, eq-eqb}
use Rattle.std.proofs.Math.Seq.{drop-append_seam}
use Rattle.std.proofs.lemmas.Bool.{eqb-true}
use Rattle.keys.specs.Cells.{AreBytes, read_on, read_as, read_where}
use Rattle.frame_codec.specs.declared.format.Format.{Format}
use Rattle.keys.proofs.CellLemmas.{gave, nothing_read, read_as-gave, read_where-gave, bytes_after}
use Rattle.frame_codec.specs.Frame.{Content, Frame, content_bytes, header, bytes_of, is_pid, is_allowed, is_frame}
use Rattle.frame_codec.specs.Reading.{read_content, read_after, read_frame}
use Rattle.frame_codec.proofs.EachLemmas.{not_true, fails_last}
use Rattle.frame_codec.proofs.ReadLemmas.{header-encoded, content-encoded, frame-stands}

-- bytes are bytes, place by place
pub bytes-fit : (bs : List ℕ) → ((i : ℕ) → Fits w8 (get_or bs i 0)) → AreBytes bs
bytes-fit [] h = tt
bytes-fit (b ∷ bs) h = let here : Fits w8 b = h 0 in (omega arith, bytes-fit bs (λ i. h (suc i)))

no_header : (g : Format) (o : Option (((ℕ × ℕ) × ℕ) × List ℕ)) → o ≡ None → read_where (is_frame g) (read_on o read_after) ≡ None
no_header g o h = ap (λ (o : Option (((ℕ × ℕ) × ℕ) × List ℕ)). read_where (is_frame g) (read_on o read_after)) h

pub header-none : (g : Format) (bs : List ℕ) → header.read bs ≡ None → read_frame g bs ≡ None
header-none g bs h = no_header g (header.read bs) h

module _ (g : Format) (bs : List ℕ) (kind len pid : ℕ) (body : List ℕ) (bytes : AreBytes bs) (head : header.read bs ≡ Some (((kind, len), pid), body)) where
  -- the frame with this content
  abbrev pub made : Content → Frame
  made c = record { pid = pid; content = c }

  -- whether the length is that of this content
  abbrev fits : Content → Bool
  fits c = len == 8 + length (content_bytes c)

  -- what the code reads after the header
  abbrev pub read_allowed : Option (Frame × List ℕ)
  read_allowed = read_as made (read_where (is_allowed g) (read_content kind body))

  whole : read_frame g bs ≡ read_where (is_frame g) (read_as made (read_where fits (read_content kind body)))
  whole = ap (λ (o : Option (((ℕ × ℕ) × ℕ) × List ℕ)). read_where (is_frame g) (read_on o read_after)) head

  refused : (o : Option (Content × List ℕ)) → read_as made (read_where (is_allowed g) o) ≡ None → read_where (is_frame g) (read_as made (read_where fits o)) ≡ None
  refused None h = refl
  refused (Some p) h = by (is_allowed g p.0) (fits p.0) refl h
    where
      by : (b f : Bool) → is_allowed g p.0 ≡ b → read_as made (if b then gave p.0 p.1 else None) ≡ None → read_where (is_frame g) (read_as made (if f then gave p.0 p.1 else None)) ≡ None
      by true f e k = absurd (nothing_read (made p.0, p.1) (sym k))
      by false false e k = refl
      by false true e k = rw (fails_last (is_pid pid) (is_allowed g p.0) e) refl

  pub content-none : read_allowed ≡ None → read_frame g bs ≡ None
  content-none h = whole ∙ refused (read_content kind body) h

  -- the content that was read
  pub record IsContent (f : Frame) (rest : List ℕ) : Type 0 where
    pub content : Content
    pub is : made content ≡ f
    pub read : read_content kind body ≡ Some (content, rest)
    pub allowed : is_allowed g content ≡ true
    pub long : length body ≡ length (content_bytes content) + length rest

  pub content-found : (f : Frame) (rest : List ℕ) → read_allowed ≡ Some (f, rest) → IsContent f rest
  content-found f rest h =
      let (c, found, is) = read_as-gave made (read_where (is_allowed g) (read_content kind body)) f rest h in
      let (read, allowed) = read_where-gave (is_allowed g) (read_content kind body) c rest found in
      let encoded = header-encoded bs ((kind, len), pid) body bytes head in
      let following : AreBytes body = bytes_after (header.encode ((kind, len), pid)) body (rw encoded at bytes) in
      let stands = (content-encoded kind body following c rest read).1 in
      record { content = c; is = is; read = read; allowed = allowed; long = ap length stands ∙ length-append (content_bytes c) rest }

  module _ (f : Frame) (rest : List ℕ) (found : IsContent f rest) where
    by_length : (b : Bool) → fits found.content ≡ b → read_frame g bs ≡ read_where (is_frame g) (read_as made (if b then gave found.content rest else None))
    by_length b e =
        whole
        ∙ ap (λ (o : Option (Content × List ℕ)). read_where (is_frame g) (read_as made (read_where fits o))) found.read
        ∙ ap (λ (b : Bool). read_where (is_frame g) (read_as made (if b then gave found.content rest else None))) e

    pub length-wrong : (len ≡ 8 + (length body - length rest) → ⊥) → read_frame g bs ≡ None
    length-wrong h =
        let long = found.long in
        by_length false (not_true (fits found.content) (λ e. let same = eqb-true len (8 + length (content_bytes found.content)) e in h (omega arith)))

    pub frame-read : len ≡ 8 + (length body - length rest) → is_pid pid ≡ true → read_frame g bs ≡ Some (f, rest)
    frame-read h word =
        let long = found.long in
        let fit : fits found.content ≡ true = eq-eqb len (8 + length (content_bytes found.content)) (omega arith) in
        by_length true fit ∙ rw (word, found.allowed) (ap (λ (h : Frame). gave h rest) found.is)

-- a frame that was read, by the number of remaining bytes
pub record IsReadOf (g : Format) (bs : List ℕ) (f : Frame) (n : ℕ) : Type 0 where
  pub found : read_frame g bs ≡ Some (f, drop n bs)
  pub size : n ≡ length (bytes_of f)
  pub within : n ≤ length bs

pub frame-left : (g : Format) (bs : List ℕ) (f : Frame) (rest : List ℕ) → AreBytes bs → read_frame g bs ≡ Some (f, rest) → IsReadOf g bs f (length bs - length rest)
frame-left g bs f rest bytes h =
    let stands = (frame-stands g bs f rest bytes h).bytes in
    let long : length bs ≡ length (bytes_of f) + length rest = ap length stands ∙ length-append (bytes_of f) rest in
    let size : length bs - length rest ≡ length (bytes_of f) = omega arith in
    let following : drop (length bs - length rest) bs ≡ rest = ap (λ (n : ℕ). drop n bs) size ∙ ap (drop (length (bytes_of f))) stands ∙ drop-append_seam (bytes_of f) rest in
    record { found = h ∙ ap (gave f) (sym following); size = size; within = omega arith }

-- the same from what the code knows when it returns
pub frame-answered : (g : Format) (bs : List ℕ) (kind len pid : ℕ) (body : List ℕ) (bytes : AreBytes bs) (head : header.read bs ≡ Some (((kind, len), pid), body))
    (f : Frame) (rest : List ℕ) → read_allowed g bs kind len pid body bytes head ≡ Some (f, rest) → len ≡ 8 + (length body - length rest) → is_pid pid ≡ true
    → IsReadOf g bs f (length bs - length rest) × (length rest ≤ length bs)
frame-answered g bs kind len pid body bytes head f rest h exact word =
    let found = content-found g bs kind len pid body bytes head f rest h in
    let read = frame-read g bs kind len pid body bytes head f rest found exact word in
    let stands = (frame-stands g bs f rest bytes read).bytes in
    let long : length bs ≡ length (bytes_of f) + length rest = ap length stands ∙ length-append (bytes_of f) rest in
    (frame-left g bs f rest bytes read, omega arith)
