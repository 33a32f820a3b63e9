-- Keys that are stored in one buffer.
use Rattle.std.specs.Prelude.{◌≡◌, ℕ, zero, suc, ◌-◌, ◌+◌, ◌<◌, ◌≤◌, List, [], ◌∷◌, ◌++◌, length, take, drop, slice_get, slice_range, get_or, true, Some}
use Rattle.std.proofs.Common.{refl, sym, ap, ◌∙◌, arith, length-append}
use Rattle.std.proofs.lemmas.List.{length-drop, take_all, take-append-le, drop-append-le}
use native.Mathlib.Numerals.{unary_clauses}
use Rattle.std.specs.List.Sorted.{IsStrictlySortedBy}
use Rattle.std.specs.Map.{keys_of, values_of}
use Rattle.delta_chain.specs.Building.{goes_last}
use Rattle.keys.specs.Words.{IsWordOf}
use Rattle.delta_chain.specs.Packed.{packed_from, ends_of, AreEnds, AreMarked, IsPacked}
use Rattle.delta_chain.specs.declared.base.KeyMark.{KeyMark}
use Rattle.delta_chain.proofs.Rising.{rising-push}

-- ---- where keys end

ends_upto : (from : ℕ) (ends : List ℕ) (last : ℕ) → AreEnds from ends last → from ≤ last
ends_upto from [] last h = omega (arith, h)
ends_upto from (end ∷ ends) last h = omega (arith, h.0, ends_upto end ends last h.1)

end_upto : (from : ℕ) (ends : List ℕ) (last at end : ℕ) → AreEnds from ends last → at < length ends → end ≡ get_or ends at end → end ≤ last
end_upto from [] last at end h l e = absurd (omega arith)
end_upto from (f ∷ ends) last zero end h l e = omega (arith, e, ends_upto f ends last h.1)
end_upto from (f ∷ ends) last (suc at) end h l e = let m : at < length ends = omega arith in end_upto f ends last at end h.1 m e

start_upto : (from : ℕ) (ends : List ℕ) (last at start end : ℕ) → AreEnds from ends last → at < length ends → start ≡ get_or (from ∷ ends) at start → end ≡ get_or ends at end → start ≤ end
start_upto from [] last at start end h l s e = absurd (omega arith)
start_upto from (f ∷ ends) last zero start end h l s e = omega (arith, s, e, h.0)
start_upto from (f ∷ ends) last (suc at) start end h l s e = let m : at < length ends = omega arith in start_upto f ends last at start end h.1 m s e

ends-push : (from : ℕ) (ends : List ℕ) (last next : ℕ) → AreEnds from ends last → last ≤ next → AreEnds from (ends ++ next ∷ []) next
ends-push from [] last next h l = (omega (arith, h), refl)
ends-push from (end ∷ ends) last next h l = (h.0, ends-push end ends last next h.1 l)

-- the end before a place is the start at that place
start_before : (from : ℕ) (ends : List ℕ) (at start : ℕ) → (at ≡ 0 → ⊥) → start ≡ get_or ends (at - 1) start → start ≡ get_or (from ∷ ends) at start
start_before from ends zero start n h = absurd (n refl)
start_before from ends (suc at) start n h = simp unary_clauses at h

-- ---- pieces of bytes

piece_stays : (bytes key : List ℕ) (from end : ℕ) → from ≤ end → end ≤ length bytes → slice_range (bytes ++ key) from end ≡ slice_range bytes from end
piece_stays bytes key from end l m =
    let n : end - from ≤ length (drop from bytes) = rw (length-drop from bytes) (omega arith) in
    ap (λ (x : List ℕ). take (end - from) x) (drop-append-le from bytes key (omega arith)) ∙ take-append-le (end - from) (drop from bytes) key n

piece_after : (bytes key : List ℕ) (end : ℕ) → end ≡ length bytes + length key → slice_range (bytes ++ key) (length bytes) end ≡ key
piece_after [] key end h = simp unary_clauses (take_all end key (omega (arith, h)))
piece_after (b ∷ bytes) key zero h = absurd (omega (arith, h))
piece_after (b ∷ bytes) key (suc end) h =
    let n : suc end - suc (length bytes) ≡ end - length bytes = omega arith in
    rw n (piece_after bytes key end (omega (arith, h)))

module _ {V : Type 0} where
  pub length-packed : (from : ℕ) (bytes ends : List ℕ) (cells : List V) → length cells ≡ length ends → length (packed_from from bytes ends cells) ≡ length cells
  length-packed from bytes [] [] h = refl
  length-packed from bytes [] (c ∷ cells) h = absurd (omega (arith, h))
  length-packed from bytes (e ∷ ends) [] h = refl
  length-packed from bytes (e ∷ ends) (c ∷ cells) h = ap suc (length-packed e bytes ends cells (omega (arith, h)))

  key_packed : (from : ℕ) (bytes ends : List ℕ) (cells : List V) (at start end : ℕ) → at < length (packed_from from bytes ends cells) → start ≡ get_or (from ∷ ends) at start → end ≡ get_or ends at end
      → slice_get (keys_of (packed_from from bytes ends cells)) at ≡ Some (slice_range bytes start end)
  key_packed from bytes [] cells at start end l s e = absurd (omega arith)
  key_packed from bytes (f ∷ ends) [] at start end l s e = absurd (omega arith)
  key_packed from bytes (f ∷ ends) (c ∷ cells) zero start end l s e = rw (s, e) refl
  key_packed from bytes (f ∷ ends) (c ∷ cells) (suc at) start end l s e =
      let m : at < length (packed_from f bytes ends cells) = omega arith in
      key_packed f bytes ends cells at start end m s e

  pub cell_packed : (from : ℕ) (bytes ends : List ℕ) (cells : List V) (at : ℕ) (cell : V) → at < length (packed_from from bytes ends cells) → cell ≡ get_or cells at cell
      → slice_get (values_of (packed_from from bytes ends cells)) at ≡ Some cell
  cell_packed from bytes [] cells at cell l h = absurd (omega arith)
  cell_packed from bytes (f ∷ ends) [] at cell l h = absurd (omega arith)
  cell_packed from bytes (f ∷ ends) (c ∷ cells) zero cell l h = ap Some (sym h)
  cell_packed from bytes (f ∷ ends) (c ∷ cells) (suc at) cell l h =
      let m : at < length (packed_from f bytes ends cells) = omega arith in
      cell_packed f bytes ends cells at cell m h

  -- a place among the entries is one among the ends and among the cells
  pub packed_within : (bytes ends : List ℕ) (cells : List V) (at : ℕ) → IsPacked bytes ends cells → at < length (packed_from 0 bytes ends cells) → (at < length ends) × (at < length cells)
  packed_within bytes ends cells at h l =
      let n = length-packed 0 bytes ends cells h.count in
      (omega (arith, l, n, h.count), omega (arith, l, n))

  pub end_within : (bytes ends : List ℕ) (cells : List V) (at end : ℕ) → IsPacked bytes ends cells → at < length (packed_from 0 bytes ends cells) → end ≡ get_or ends at end → end ≤ length bytes
  end_within bytes ends cells at end h l e = end_upto 0 ends (length bytes) at end h.cut (packed_within bytes ends cells at h l).0 e

  pub start_within : (bytes ends : List ℕ) (cells : List V) (at start end : ℕ) → IsPacked bytes ends cells → at < length (packed_from 0 bytes ends cells) → (at ≡ 0 → ⊥) → start ≡ get_or ends (at - 1) start → end ≡ get_or ends at end → start ≤ end
  start_within bytes ends cells at start end h l n s e =
      start_upto 0 ends (length bytes) at start end h.cut (packed_within bytes ends cells at h l).0 (start_before 0 ends at start n s) e

  -- the key at a place, and the first one
  pub key_at_place : (bytes ends : List ℕ) (cells : List V) (at start end : ℕ) → at < length (packed_from 0 bytes ends cells) → (at ≡ 0 → ⊥) → start ≡ get_or ends (at - 1) start → end ≡ get_or ends at end
      → slice_get (keys_of (packed_from 0 bytes ends cells)) at ≡ Some (slice_range bytes start end)
  key_at_place bytes ends cells at start end l n s e = key_packed 0 bytes ends cells at start end l (start_before 0 ends at start n s) e

  pub first_key : (bytes ends : List ℕ) (cells : List V) (at end : ℕ) → at < length (packed_from 0 bytes ends cells) → at ≡ 0 → end ≡ get_or ends at end
      → slice_get (keys_of (packed_from 0 bytes ends cells)) at ≡ Some (slice_range bytes 0 end)
  first_key bytes ends cells zero end l n e = key_packed 0 bytes ends cells 0 0 end l refl e
  first_key bytes ends cells (suc at) end l n e = absurd (omega (arith, n))

  -- ---- one entry more

  packed_more : (from : ℕ) (bytes ends : List ℕ) (cells : List V) (key : List ℕ) (cell : V) (end : ℕ) → AreEnds from ends (length bytes) → length cells ≡ length ends → end ≡ length bytes + length key
      → packed_from from (bytes ++ key) (ends ++ end ∷ []) (cells ++ cell ∷ []) ≡ packed_from from bytes ends cells ++ (key, cell) ∷ []
  packed_more from bytes [] [] key cell end h n e =
      let s : slice_range (bytes ++ key) from end ≡ key = rw h (piece_after bytes key end e) in
      ap (λ (k : List ℕ). (k, cell) ∷ []) s
  packed_more from bytes [] (c ∷ cells) key cell end h n e = absurd (omega (arith, n))
  packed_more from bytes (f ∷ ends) [] key cell end h n e = absurd (omega (arith, n))
  packed_more from bytes (f ∷ ends) (c ∷ cells) key cell end h n e =
      let upto = ends_upto f ends (length bytes) h.1 in
      let rest = packed_more f bytes ends cells key cell end h.1 (omega (arith, n)) e in
      ap (λ (k : List ℕ). (k, c) ∷ packed_from f (bytes ++ key) (ends ++ end ∷ []) (cells ++ cell ∷ [])) (piece_stays bytes key from f h.0 upto)
      ∙ ap (λ (es : List (List ℕ × V)). (slice_range bytes from f, c) ∷ es) rest

  pub packed-push : (bytes ends : List ℕ) (cells : List V) (key : List ℕ) (cell : V) (end : ℕ) → IsPacked bytes ends cells → end ≡ length (bytes ++ key)
      → packed_from 0 (bytes ++ key) (ends ++ end ∷ []) (cells ++ cell ∷ []) ≡ packed_from 0 bytes ends cells ++ (key, cell) ∷ []
  packed-push bytes ends cells key cell end h e =
      packed_more 0 bytes ends cells key cell end h.cut h.count (omega (arith, e, length-append bytes key))

  pub IsPacked-push : (bytes ends : List ℕ) (cells : List V) (key : List ℕ) (cell : V) (end : ℕ) → IsPacked bytes ends cells → goes_last key (packed_from 0 bytes ends cells) ≡ true → end ≡ length (bytes ++ key)
      → IsPacked (bytes ++ key) (ends ++ end ∷ []) (cells ++ cell ∷ [])
  IsPacked-push bytes ends cells key cell end h t e = record {
    count = omega (arith, h.count, length-append cells (cell ∷ []), length-append ends (end ∷ []));
    cut = rw (← e) (ends-push 0 ends (length bytes) end h.cut (omega (arith, e, length-append bytes key)));
    rising = rw (packed-push bytes ends cells key cell end h e) (rising-push (packed_from 0 bytes ends cells) key cell h.rising t);
  }

  pub IsPacked-empty : IsPacked {V = V} [] [] []
  unfolding IsStrictlySortedBy
  IsPacked-empty = record { count = refl; cut = refl; rising = tt }

-- ---- marks

pub length-ends_of : (marks : List KeyMark) → length (ends_of marks) ≡ length marks
length-ends_of [] = refl
length-ends_of (m ∷ marks) = ap suc (length-ends_of marks)

-- the end at a place
pub end_there : (marks : List KeyMark) (at : ℕ) (m : KeyMark) → m ≡ get_or marks at m → m.end ≡ get_or (ends_of marks) at m.end
end_there [] at m h = refl
end_there (n ∷ marks) zero m h = ap (λ (k : KeyMark). k.end) h
end_there (n ∷ marks) (suc at) m h = end_there marks at m h

-- the first word of the key at a place
pub marked_there : (keys : List (List ℕ)) (marks : List KeyMark) (at : ℕ) (k : List ℕ) (m : KeyMark) → AreMarked keys marks → slice_get keys at ≡ Some k → m ≡ get_or marks at m → IsWordOf m.word k
marked_there [] marks at k m a h i = absurd (cc)
marked_there (j ∷ keys) [] at k m a h i = absurd a
marked_there (j ∷ keys) (n ∷ marks) zero k m a h i =
    let s : j ≡ k = cc in
    rw (i, ← s) a.0
marked_there (j ∷ keys) (n ∷ marks) (suc at) k m a h i = marked_there keys marks at k m a.1 h i

pub AreMarked-push : (keys : List (List ℕ)) (marks : List KeyMark) (k : List ℕ) (m : KeyMark) → AreMarked keys marks → IsWordOf m.word k → AreMarked (keys ++ k ∷ []) (marks ++ m ∷ [])
AreMarked-push [] [] k m a w = (w, tt)
AreMarked-push [] (n ∷ marks) k m a w = absurd a
AreMarked-push (j ∷ keys) [] k m a w = absurd a
AreMarked-push (j ∷ keys) (n ∷ marks) k m a w = (a.0, AreMarked-push keys marks k m a.1 w)

pub ends_of-push : (marks : List KeyMark) (m : KeyMark) → ends_of (marks ++ m ∷ []) ≡ ends_of marks ++ m.end ∷ []
ends_of-push [] m = refl
ends_of-push (n ∷ marks) m = ap (λ (es : List ℕ). n.end ∷ es) (ends_of-push marks m)

pub keys_of-push : {V : Type 0} (es : List (List ℕ × V)) (k : List ℕ) (v : V) → keys_of (es ++ (k, v) ∷ []) ≡ keys_of es ++ k ∷ []
keys_of-push [] k v = refl
keys_of-push (e ∷ es) k v = ap (λ (ks : List (List ℕ)). e.0 ∷ ks) (keys_of-push es k v)
