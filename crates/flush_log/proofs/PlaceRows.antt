-- The places of the frames of the worked rows, and the tails after them.
use Rattle.std.specs.Prelude.{◌≡◌, ℕ, true, false, List, [], ◌∷◌, ◌++◌, flat_map, replicate, map, codes}
use Prim.Native.String.{String}
use Rattle.std.proofs.Common.{refl}
use Rattle.keys.proofs.Literals.{S}
use Rattle.frame_codec.specs.declared.format.KeyEncoding.TheVariants.{Whole}
use Rattle.frame_codec.specs.Frame.{Frame, bytes_of}
use Rattle.frame_codec.specs.Frame.Content.{FullLeaf, DeltaLeaf, FullIndex, DeltaIndex, Free}
use Rattle.flush_log.specs.Layout.{placed, tail_after, spans, is_full_for_flush, is_full_for_clean}
use Rattle.flush_log.specs.Segments.{segment_header, position}
use Rattle.flush_log.proofs.Literals.{pair, set, gone, frame, base_0, base_1, base_2, text_of_row_4, shared_text_of_row_4, ones, sixteen, run, base, three}

-- the positions of the frames of a commit, and the tail after them
abbrev laid : ℕ → List Frame → List ℕ × ℕ
laid tail text = (map (λ p. position S p.segment p.offset) (placed S tail text), tail_after S tail text)

-- the tails of commits that are written one after the other
abbrev tails : ℕ → List (List Frame) → List ℕ
tails tail [] = []
tails tail (text ∷ texts) = tail_after S tail text ∷ tails (tail_after S tail text) texts

row_1 : laid 33 [] ≡ ([], 33)
row_1 = refl

row_3 : laid 33 (frame 0 (DeltaLeaf (set "a" "1" ∷ [])) ∷ []) ≡ (33 ∷ [], 55)
row_3 = refl

-- row 4, and row 10 where the root doesn't fit after the second leaf
row_4 : laid 33 text_of_row_4 ≡ (33 ∷ 62 ∷ 98 ∷ [], 136)
row_4 = refl

row_10 : laid 179 text_of_row_4 ≡ (179 ∷ 208 ∷ 272 ∷ [], 310)
row_10 = refl

-- an upgrade after row 4: frames of 29, 35 and 38 bytes
row_4_upgraded : laid 136 shared_text_of_row_4 ≡ (136 ∷ 165 ∷ 200 ∷ [], 238)
row_4_upgraded = refl

-- five leaves, then three index pages
abbrev text_5 : List Frame
text_5 = frame 0 (FullLeaf Whole [] (ones "abc")) ∷ frame 1 (FullLeaf Whole (codes "d") (ones "def")) ∷ frame 2 (FullLeaf Whole (codes "g") (ones "ghij"))
    ∷ frame 3 (FullLeaf Whole (codes "k") (ones "klm")) ∷ frame 4 (FullLeaf Whole (codes "n") (ones "nopq"))
    ∷ frame 5 (FullIndex Whole [] (([], 0) ∷ (codes "d", 1) ∷ []))
    ∷ frame 6 (FullIndex Whole (codes "g") ((codes "g", 2) ∷ (codes "k", 3) ∷ (codes "n", 4) ∷ []))
    ∷ frame 7 (FullIndex Whole [] (([], 5) ∷ (codes "g", 6) ∷ [])) ∷ []

row_5 : laid 33 text_5 ≡ (33 ∷ 68 ∷ 104 ∷ 146 ∷ 182 ∷ 272 ∷ 310 ∷ 361 ∷ [], 399)
row_5 = refl

row_6 : laid 33 (frame 0 (DeltaLeaf (set "a" "1" ∷ set "b" "2" ∷ set "c" "3" ∷ set "d" "4" ∷ [])) ∷ []) ≡ (33 ∷ [], 76)
row_6 = refl

row_7 : laid 33 (frame 0 (FullLeaf Whole [] (pair "a" "3" ∷ [])) ∷ []) ≡ (33 ∷ [], 56)
row_7 = refl

row_9 : laid 136 (frame 0 (FullLeaf Whole [] []) ∷ frame 1 Free ∷ frame 2 Free ∷ []) ≡ (136 ∷ 153 ∷ 166 ∷ [], 179)
row_9 = refl

row_12 : tail_after S 33 (frame 0 (FullLeaf Whole [] base_0) ∷ frame 0 (DeltaLeaf (set "a" "9" ∷ [])) ∷ frame 1 (FullLeaf Whole (codes "c") base_1) ∷ frame 2 (FullIndex Whole [] base_2) ∷ []) ≡ 158
row_12 = refl

row_13 : laid 399 (frame 0 (FullLeaf Whole [] (ones "abc")) ∷ frame 1 Free ∷ frame 5 (DeltaIndex (gone "d" ∷ [])) ∷ []) ≡ (399 ∷ 434 ∷ 447 ∷ [], 466)
row_13 = refl

-- values of nine bytes, and then keys and values of sixteen: the second frame ends where its segment does
abbrev nine : String
nine = "012345678"

abbrev four_long : Frame
four_long = frame 0 (DeltaLeaf (set "0123456789abcdef" sixteen ∷ set "1123456789abcdef" sixteen ∷ set "2123456789abcdef" sixteen ∷ set "3123456789abcdef" sixteen ∷ []))

row_14 : laid 33 (frame 0 (DeltaLeaf (set "a" nine ∷ set "b" nine ∷ set "c" nine ∷ [])) ∷ []) ≡ (33 ∷ [], 93)
row_14 = refl

row_14_full : laid 93 (four_long ∷ []) ≡ (93 ∷ [], 256)
row_14_full = refl

row_14_ten : laid 33 (frame 0 (DeltaLeaf (set "a" nine ∷ set "b" nine ∷ set "c" "0123456789" ∷ [])) ∷ []) ≡ (33 ∷ [], 94)
row_14_ten = refl

row_14_over : laid 94 (four_long ∷ []) ≡ (272 ∷ [], 435)
row_14_over = refl

-- nothing more is written into a segment that is full: the next frame begins the next one
row_14_next : laid 256 (frame 1 Free ∷ []) ≡ (272 ∷ [], 285)
row_14_next = refl

-- every third flush writes the base, the others a run
row_15 : tails 33 (three ++ (three ++ (three ++ (three ++ (three ++ (run ∷ run ∷ []))))))
    ≡ 70 ∷ 107 ∷ 145 ∷ 182 ∷ 219 ∷ 310 ∷ 347 ∷ 384 ∷ 422 ∷ 459 ∷ 496 ∷ 566 ∷ 603 ∷ 640 ∷ 678 ∷ 715 ∷ 752 ∷ []
row_15 = refl

-- the seventeenth is the last before a clean, and the clean itself finds room
row_15_not_full : is_full_for_flush S 0 752 ≡ false
row_15_not_full = refl

row_15_full : is_full_for_flush S 0 (tail_after S 752 base) ≡ true
row_15_full = refl

row_15_clean : is_full_for_clean S 0 822 ≡ false
row_15_clean = refl

row_15_cleaned : laid 752 base ≡ (784 ∷ [], 822)
row_15_cleaned = refl

-- the rest of segment 2 becomes zeros, and the next flush begins segment 3
row_15_spans : spans S 752 base
    ≡ record { segment = 2; offset = 240; bytes = replicate 16 0 } ∷ record { segment = 3; offset = 0; bytes = segment_header 3 ++ flat_map bytes_of base } ∷ []
row_15_spans = refl

row_15_flushed : is_full_for_flush S 1 822 ≡ false
row_15_flushed = refl

-- the flushes of row 16, and what its clean appends
row_16 : tails 136 (run ∷ run ∷ (frame 0 (FullLeaf Whole [] (pair "a" sixteen ∷ pair "b" "2" ∷ [])) ∷ []) ∷ run ∷ []) ≡ 173 ∷ 210 ∷ 254 ∷ 309 ∷ []
row_16 = refl

row_16_clean : laid 309 (frame 0 (FullLeaf Whole [] (pair "a" sixteen ∷ pair "b" "2" ∷ [])) ∷ frame 0 (DeltaLeaf (set "a" sixteen ∷ [])) ∷ frame 1 (FullLeaf Whole (codes "c") base_1) ∷ frame 2 (FullIndex Whole [] base_2) ∷ [])
    ≡ (309 ∷ 353 ∷ 390 ∷ 426 ∷ [], 464)
row_16_clean = refl
