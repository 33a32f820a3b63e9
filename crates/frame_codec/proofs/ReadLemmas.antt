-- A decoded frame is within the settings, and the bytes begin with its encoding.
use Rattle.std.proofs.Common.{◌≡◌, ℕ, ◌+◌, Bool, true, false, ◌==◌, if◌then◌else◌, List, ◌++◌, length, Option, Some, None, refl, sym, ap, ◌∙◌, append_assoc}
use Rattle.std.proofs.lemmas.Bool.{eqb-true}
use Rattle.keys.specs.Cells.{Codec, AreBytes, ReadsEncodings, read_as, read_where, number, counted, value_cell, pid_cell}
use Rattle.frame_codec.specs.declared.format.Format.{Format}
use Rattle.frame_codec.specs.declared.format.KeyEncoding.TheVariants.{Whole, PrefixCompressed}
use Rattle.keys.proofs.CellLemmas.{gave, same_reading, nothing_read, read_as-gave, read_where-gave, goes_on, number-encoded, counted-encoded, pid-encoded}
use Rattle.frame_codec.specs.Codecs.{both, flagged}
use Rattle.frame_codec.specs.Frame.{Content, Frame, full, delta, kind_of, content_bytes, header, bytes_of, is_frame}
use Rattle.frame_codec.specs.Frame.Content.{FullLeaf, DeltaLeaf, FullIndex, DeltaIndex, Free}
use Rattle.frame_codec.specs.Reading.{BeginsWithFrame, read_content, read_after, read_any, read_frame}
use Rattle.keys.specs.Limits.{first_bad_field}
use Rattle.frame_codec.proofs.FrameLemmas.{in_limits, frame-back}
use Rattle.frame_codec.proofs.BaseLemmas.{full-encoded}
use Rattle.frame_codec.proofs.CodecLemmas.{both-encoded, listed-encoded, flagged-encoded}

delta-encoded : {V : Type 0} (cell : Codec V) → ReadsEncodings cell → ReadsEncodings (delta cell)
delta-encoded cell sc =
    listed-encoded (both counted (flagged cell)) (both-encoded counted (flagged cell) counted-encoded (flagged-encoded cell sc))

pub header-encoded : ReadsEncodings header
header-encoded =
    both-encoded (both (number 1) (number 4)) pid_cell (both-encoded (number 1) (number 4) (number-encoded 1) (number-encoded 4)) pid-encoded

module _ (kind : ℕ) (bs : List ℕ) (bytes : AreBytes bs) (c : Content) (rest : List ℕ) where
  -- the content is of this kind, and the bytes begin with its encoding
  abbrev pub Stands : Type 0
  Stands = (kind ≡ kind_of c) × (bs ≡ content_bytes c ++ rest)

  -- the reader of one kind, or of the others
  either : (b : Bool) (this others : Option (Content × List ℕ)) → (b ≡ true → this ≡ gave c rest → Stands) → (others ≡ gave c rest → Stands)
      → (if b then this else others) ≡ gave c rest → Stands
  either true this others f g h = f refl h
  either false this others f g h = g h

  of_kind : {X : Type 0} (n : ℕ) (codec : Codec X) (content : X → Content) → ReadsEncodings codec
      → ((x : X) → kind_of (content x) ≡ n) → ((x : X) → content_bytes (content x) ≡ codec.encode x)
      → (kind == n) ≡ true → read_as content (codec.read bs) ≡ gave c rest → Stands
  of_kind n codec content sc is_n is_encoded same h =
      let (x, read, is) = read_as-gave content (codec.read bs) c rest h in (
        eqb-true kind n same ∙ sym (is_n x) ∙ ap kind_of is,
        sc bs x rest bytes read ∙ ap (λ (cs : List ℕ). cs ++ rest) (sym (is_encoded x)) ∙ ap (λ (d : Content). content_bytes d ++ rest) is,
      )

  free : (kind == 5) ≡ true → gave Free bs ≡ gave c rest → Stands
  free same h =
      let (is, left) = same_reading Free c bs rest h in
      (eqb-true kind 5 same ∙ ap kind_of is, left ∙ ap (λ (d : Content). content_bytes d ++ rest) is)

  pub content-encoded : read_content kind bs ≡ gave c rest → Stands
  content-encoded =
      either (kind == 1) _ _ (of_kind 1 (full Whole value_cell) (λ p. FullLeaf Whole p.0 p.1) (full-encoded value_cell Whole counted-encoded) (λ x. refl) (λ x. refl))
      (either (kind == 2) _ _ (of_kind 2 (delta value_cell) (λ run. DeltaLeaf run) (delta-encoded value_cell counted-encoded) (λ x. refl) (λ x. refl))
      (either (kind == 3) _ _ (of_kind 3 (full Whole pid_cell) (λ p. FullIndex Whole p.0 p.1) (full-encoded pid_cell Whole pid-encoded) (λ x. refl) (λ x. refl))
      (either (kind == 4) _ _ (of_kind 4 (delta pid_cell) (λ run. DeltaIndex run) (delta-encoded pid_cell pid-encoded) (λ x. refl) (λ x. refl))
      (either (kind == 5) _ _ free
      (either (kind == 6) _ _ (of_kind 6 (full PrefixCompressed value_cell) (λ p. FullLeaf PrefixCompressed p.0 p.1) (full-encoded value_cell PrefixCompressed counted-encoded) (λ x. refl) (λ x. refl))
      (either (kind == 7) _ _ (of_kind 7 (full PrefixCompressed pid_cell) (λ p. FullIndex PrefixCompressed p.0 p.1) (full-encoded pid_cell PrefixCompressed pid-encoded) (λ x. refl) (λ x. refl))
      (λ h. absurd (nothing_read _ h))))))))

any-encoded : (bs : List ℕ) (f : Frame) (rest : List ℕ) → AreBytes bs → read_any bs ≡ gave f rest → bs ≡ bytes_of f ++ rest
any-encoded bs f rest bytes h =
    let on = goes_on header header-encoded bs read_after f rest bytes h in
    let kind : ℕ = on.first.0.0 in
    let len : ℕ = on.first.0.1 in
    let pid : ℕ = on.first.1 in
    let fits : Content → Bool = λ c. len == 8 + length (content_bytes c) in
    let made : Content → Frame = λ c. record { pid = pid; content = c } in
    let (c, read, is) = read_as-gave made (read_where fits (read_content kind on.following)) f rest on.went in
    let (content, fit) = read_where-gave fits (read_content kind on.following) c rest read in
    let (same_kind, stands) = content-encoded kind on.following on.bytes c rest content in
    let long : len ≡ 8 + length (content_bytes c) = eqb-true len (8 + length (content_bytes c)) fit in
    on.encoded
    ∙ ap (λ (cs : List ℕ). header.encode ((kind, len), pid) ++ cs) stands
    ∙ ap (λ (k : ℕ). header.encode ((k, len), pid) ++ (content_bytes c ++ rest)) same_kind
    ∙ ap (λ (n : ℕ). header.encode ((kind_of c, n), pid) ++ (content_bytes c ++ rest)) long
    ∙ sym (append_assoc (header.encode ((kind_of c, 8 + length (content_bytes c)), pid)) (content_bytes c) rest)
    ∙ ap (λ (g : Frame). bytes_of g ++ rest) is

pub frame-stands : (g : Format) (bs : List ℕ) (f : Frame) (rest : List ℕ) → AreBytes bs → read_frame g bs ≡ Some (f, rest) → BeginsWithFrame g bs f rest
frame-stands g bs f rest bytes h =
    let (read, within) = read_where-gave (is_frame g) (read_any bs) f rest h in
    record { within = within; bytes = any-encoded bs f rest bytes read }

-- if nothing is decoded, the bytes do not begin with a frame
pub none-stands : (g : Format) (bs : List ℕ) (f : Frame) (rest : List ℕ) → first_bad_field g.settings ≡ None → read_frame g bs ≡ None → BeginsWithFrame g bs f rest → ⊥
none-stands g bs f rest good h stands = nothing_read _ (sym h ∙ ap (read_frame g) stands.bytes ∙ frame-back g (in_limits g.settings good) f stands.within rest)
