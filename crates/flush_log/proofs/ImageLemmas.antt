-- Encoded frames in one buffer.
use Rattle.std.proofs.Common.{◌≡◌, ℕ, zero, suc, ◌+◌, ◌-◌, ◌<◌, ◌≤◌, List, [], ◌∷◌, ◌++◌, length, take, drop, get_or, slice_get, slice_range, Some, refl, ap, ◌∙◌, arith, length-append}
use Rattle.std.proofs.lemmas.List.{length-drop, take_all, take-append-le, drop-append-le}
use native.Mathlib.Numerals.{unary_clauses}
use Rattle.keys.specs.Bytes.{Bytes}
use Rattle.delta_chain.specs.Packed.{AreEnds}
use Rattle.flush_log.specs.Images.{cut_at}

-- ---- where frames end

ends_upto : (from : ℕ) (ends : List ℕ) (last : ℕ) → AreEnds from ends last → from ≤ last
ends_upto from [] last h = omega (arith, h)
ends_upto from (end ∷ ends) last h = omega (arith, h.0, ends_upto end ends last h.1)

pub end_upto : (from : ℕ) (ends : List ℕ) (last at end : ℕ) → AreEnds from ends last → at < length ends → end ≡ get_or ends at end → end ≤ last
end_upto from [] last at end h l e = absurd (omega arith)
end_upto from (f ∷ ends) last zero end h l e = omega (arith, e, ends_upto f ends last h.1)
end_upto from (f ∷ ends) last (suc at) end h l e = let m : at < length ends = omega arith in end_upto f ends last at end h.1 m e

start_upto : (from : ℕ) (ends : List ℕ) (last at start end : ℕ) → AreEnds from ends last → at < length ends → start ≡ get_or (from ∷ ends) at start → end ≡ get_or ends at end → start ≤ end
start_upto from [] last at start end h l s e = absurd (omega arith)
start_upto from (f ∷ ends) last zero start end h l s e = omega (arith, s, e, h.0)
start_upto from (f ∷ ends) last (suc at) start end h l s e = let m : at < length ends = omega arith in start_upto f ends last at start end h.1 m s e

-- the place before another among ends, with the place from which they lead
start_before : (from : ℕ) (ends : List ℕ) (at start : ℕ) → (at ≡ 0 → ⊥) → start ≡ get_or ends (at - 1) start → start ≡ get_or (from ∷ ends) at start
start_before from ends zero start n h = absurd (n refl)
start_before from ends (suc at) start n h = simp unary_clauses at h

pub start_within : (ends : List ℕ) (last at start end : ℕ) → AreEnds 0 ends last → at < length ends → (at ≡ 0 → ⊥) → start ≡ get_or ends (at - 1) start → end ≡ get_or ends at end → start ≤ end
start_within ends last at start end h l n s e = start_upto 0 ends last at start end h l (start_before 0 ends at start n s) e

-- ---- the frames

pub length-cut : (from : ℕ) (bytes : Bytes) (ends : List ℕ) → length (cut_at from bytes ends) ≡ length ends
length-cut from bytes [] = refl
length-cut from bytes (end ∷ ends) = ap suc (length-cut end bytes ends)

frame_cut : (from : ℕ) (bytes : Bytes) (ends : List ℕ) (at start end : ℕ) → at < length ends → start ≡ get_or (from ∷ ends) at start → end ≡ get_or ends at end
    → slice_get (cut_at from bytes ends) at ≡ Some (slice_range bytes start end)
frame_cut from bytes [] at start end l s e = absurd (omega arith)
frame_cut from bytes (f ∷ ends) zero start end l s e = rw (s, e) refl
frame_cut from bytes (f ∷ ends) (suc at) start end l s e = let m : at < length ends = omega arith in frame_cut f bytes ends at start end m s e

pub frame_at_place : (bytes : Bytes) (ends : List ℕ) (at start end : ℕ) → at < length ends → (at ≡ 0 → ⊥) → start ≡ get_or ends (at - 1) start → end ≡ get_or ends at end
    → slice_get (cut_at 0 bytes ends) at ≡ Some (slice_range bytes start end)
frame_at_place bytes ends at start end l n s e = frame_cut 0 bytes ends at start end l (start_before 0 ends at start n s) e

pub first_frame_cut : (bytes : Bytes) (ends : List ℕ) (at end : ℕ) → at < length ends → at ≡ 0 → end ≡ get_or ends at end
    → slice_get (cut_at 0 bytes ends) at ≡ Some (slice_range bytes 0 end)
first_frame_cut bytes ends zero end l n e = frame_cut 0 bytes ends 0 0 end l refl e
first_frame_cut bytes ends (suc at) end l n e = absurd (omega (arith, n))

-- a place among the frames is one among the ends
pub place_of_frame : (bytes : Bytes) (ends : List ℕ) (at : ℕ) → at < length (cut_at 0 bytes ends) → at < length ends
place_of_frame bytes ends at h = let n = length-cut 0 bytes ends in omega (arith, h, n)

-- ---- one frame more

-- the ends lead on over more bytes
pub ends-push : (from : ℕ) (ends : List ℕ) (last next : ℕ) → AreEnds from ends last → last ≤ next → AreEnds from (ends ++ next ∷ []) next
ends-push from [] last next h l = (omega (arith, h), refl)
ends-push from (end ∷ ends) last next h l = (h.0, ends-push end ends last next h.1 l)

part_stays : (bytes more : Bytes) (from end : ℕ) → from ≤ end → end ≤ length bytes → slice_range (bytes ++ more) from end ≡ slice_range bytes from end
part_stays bytes more from end l m =
    let n : end - from ≤ length (drop from bytes) = rw (length-drop from bytes) (omega arith) in
    ap (λ (x : List ℕ). take (end - from) x) (drop-append-le from bytes more (omega arith)) ∙ take-append-le (end - from) (drop from bytes) more n

part_after : (bytes more : Bytes) (end : ℕ) → end ≡ length bytes + length more → slice_range (bytes ++ more) (length bytes) end ≡ more
part_after [] more end h = simp unary_clauses (take_all end more (omega (arith, h)))
part_after (b ∷ bytes) more zero h = absurd (omega (arith, h))
part_after (b ∷ bytes) more (suc end) h =
    let n : suc end - suc (length bytes) ≡ end - length bytes = omega arith in
    rw n (part_after bytes more end (omega (arith, h)))

cut_more : (from : ℕ) (bytes more : Bytes) (ends : List ℕ) (end : ℕ) → AreEnds from ends (length bytes) → end ≡ length bytes + length more
    → cut_at from (bytes ++ more) (ends ++ end ∷ []) ≡ cut_at from bytes ends ++ more ∷ []
cut_more from bytes more [] end h e =
    let part : slice_range (bytes ++ more) from end ≡ more = rw h (part_after bytes more end e) in
    ap (λ (x : List ℕ). x ∷ []) part
cut_more from bytes more (f ∷ ends) end h e =
    let upto = ends_upto f ends (length bytes) h.1 in
    ap (λ (x : List ℕ). x ∷ cut_at f (bytes ++ more) (ends ++ end ∷ [])) (part_stays bytes more from f h.0 upto)
    ∙ ap (λ (xs : List (List ℕ)). slice_range bytes from f ∷ xs) (cut_more f bytes more ends end h.1 e)

-- the bytes and the ends with a frame after them, as they are held then
pub record IsLonger (old : List Bytes) (bytes : Bytes) (ends : List ℕ) (frame : Bytes) : Type 0 where
  pub cut : AreEnds 0 ends (length bytes)
  pub shown : cut_at 0 bytes ends ≡ old ++ frame ∷ []

pub frame-push : (bytes now frame : Bytes) (ends later : List ℕ) (old : List Bytes) → AreEnds 0 ends (length bytes) → cut_at 0 bytes ends ≡ old
    → now ≡ bytes ++ frame → later ≡ ends ++ length now ∷ [] → IsLonger old now later frame
frame-push bytes now frame ends later old h shown e f =
    let size = length-append bytes frame in
    let more : length now ≡ length bytes + length frame = ap length e ∙ size in
    rw f (record {
      cut = ends-push 0 ends (length bytes) (length now) h (omega arith);
      shown = ap (λ (bs : List ℕ). cut_at 0 bs (ends ++ length now ∷ [])) e ∙ cut_more 0 bytes frame ends (length now) h more ∙ ap (λ (xs : List (List ℕ)). xs ++ frame ∷ []) shown;
    })
