-- Byte row 9: three frames, the last one in the next segment, and their reading.
use Rattle.std.specs.Prelude.{◌≡◌, ℕ, List, [], ◌∷◌, ◌++◌, map, replicate, take, drop, codes, Some, Ok, Err}
use Rattle.std.proofs.Common.{refl}
use Rattle.keys.specs.declared.fault.Fault.TheVariants.{BadFrame}
use Rattle.keys.specs.declared.version.Version.TheVariants.{One}
use Rattle.keys.proofs.Literals.{S}
use Rattle.frame_codec.specs.Frame.{Frame}
use Rattle.frame_codec.specs.Frame.Content.{DeltaLeaf}
use Rattle.frame_codec.proofs.RowForms.{hex}
use Rattle.frame_codec.proofs.VersionLemmas.{in_version}
use Rattle.flush_log.specs.Overlay.{overlay}
use Rattle.flush_log.specs.Layout.{spans, with_spans, found_in_text}
use Rattle.flush_log.specs.Reading.{log_between}
use Rattle.flush_log.proofs.Literals.{frame, text_of_row_4}

-- the first span has zeros in the segment's last 12 bytes, the second one the next segment's header
abbrev leaves : List ℕ
leaves = hex "01 00000018 0000000000000000 0000 0002 0001 61 0001 31 0001 62 0001 32"
    ++ hex "01 0000001f 0000000000000001 0001 63 0003 0001 63 0001 33 0001 64 0001 34 0001 65 0001 35"

abbrev begun : List ℕ
begun = hex "42575347 00000000 0000000000000001" ++ hex "03 00000021 0000000000000002 0000 0002 0000 0000000000000000 0001 63 0000000000000001"

two_spans : spans S 179 text_of_row_4 ≡ record { segment = 0; offset = 179; bytes = leaves ++ replicate 12 0 } ∷ record { segment = 1; offset = 0; bytes = begun } ∷ []
two_spans = refl

-- segments 0 and 1 with those spans after a frame of 163 bytes, as the log of row 10 has them after others; what lies after
-- the tail is no zero
abbrev long : List Frame
long = frame 0 (DeltaLeaf (map (λ k. (k ∷ codes "123456789abcdef", Some (codes "0123456789abcdef"))) (codes "0123"))) ∷ []

abbrev file : List ℕ
file = with_spans S (with_spans S (replicate 1024 7) (spans S 0 long)) (spans S 179 text_of_row_4)

found : log_between (in_version S One) file 0 310 ≡ Ok (found_in_text S 0 long ++ found_in_text S 179 text_of_row_4)
found = refl

in_segments : found_in_text S 179 text_of_row_4 ≡ map (λ f. record { segment = 0; frame = f }) (take 2 text_of_row_4) ++ map (λ f. record { segment = 1; frame = f }) (drop 2 text_of_row_4)
in_segments = refl

-- a byte of the padding isn't 0: the fault is where the padding begins
padding_with_a_7 : log_between (in_version S One) (overlay file 767 (7 ∷ [])) 0 310 ≡ Err (BadFrame 0 244)
padding_with_a_7 = refl

-- zeros are no end in the last segment
zeros_before_the_tail : log_between (in_version S One) (overlay file 822 (0 ∷ 0 ∷ [])) 0 312 ≡ Err (BadFrame 1 54)
zeros_before_the_tail = refl

-- of two faults the first one is returned
first_of_two : log_between (in_version S One) (overlay (overlay file 783 (2 ∷ [])) 528 (9 ∷ [])) 0 310 ≡ Err (BadFrame 0 16)
first_of_two = refl
