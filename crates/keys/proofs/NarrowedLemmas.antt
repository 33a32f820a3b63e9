-- Lemmas on scans with a closer upper bound, for the proofs of this crate and of those above it.
use Rattle.std.specs.Prelude.{◌≡◌, ℕ, zero, suc, ◌≤◌, Bool, true, false, not, cond, List, [], ◌∷◌, ◌++◌, length, take, drop, slice_get, Option, Some, None}
use Rattle.std.proofs.Common.{refl, sym, ap, ◌∙◌, arith, Less}
use Rattle.std.specs.List.Sorted.{IsStrictlySortedBy}
use Rattle.std.specs.Map.{keys_of}
use Rattle.std.specs.Option.{option_map}
use Rattle.keys.specs.CommandKey.{key_of, is_ranged, is_scan, is_wipe}
use Rattle.keys.specs.Order.{order, IsRising}
use Rattle.keys.specs.Range.{is_below, is_before, in_range, rows}
use Rattle.keys.specs.Step.{reply_to, map_after, replies_to, map_after_all}
use Rattle.keys.specs.Narrowed.{with_end, first_end, with_ends, MayEndAt, MayEndAtAll}
use Rattle.keys.specs.declared.command.Command.{Command}
use Rattle.keys.specs.declared.command.Command.TheVariants.{Scan}
use Rattle.keys.specs.declared.command.Reply.{Reply}
use Rattle.keys.specs.declared.command.Reply.TheVariants.{Rows}
use Rattle.keys.proofs.Basics.{less_by, and_false}
use Rattle.keys.proofs.MapLemmas.{total, IsBelowAll}
use Rattle.keys.proofs.RunLemmas.{rising-map_after}

below_through : (i j k : List ℕ) → is_below i j ≡ true → is_below j k ≡ true → is_below i k ≡ true
below_through i j k h l = rw (total.trans i j k (less_by (order i j) h) (less_by (order j k) l)) refl

-- what is below an end before the bound is before the bound
pub before_through : (hi : Option (List ℕ)) (k end : List ℕ) → is_before hi end ≡ true → is_below k end ≡ true → is_before hi k ≡ true
before_through None k end h l = refl
before_through (Some hi) k end h l = below_through k end hi l h

not_after_by : (b : Bool) (j k end : List ℕ) → is_below k end ≡ b → is_below j end ≡ false → order j k ≡ Less → b ≡ false
not_after_by true j k end e h l = absurd (let t : is_below j end ≡ true = below_through j k end (rw l refl) e in cc)
not_after_by false j k end e h l = refl

-- ---- rows

module _ {V : Type 0} (lo : List ℕ) (hi : Option (List ℕ)) (end : List ℕ) (before : is_before hi end ≡ true) where
  -- no pair lies before the end, from one on that doesn't
  none_from : (j : List ℕ) (es : List (List ℕ × V)) → is_below j end ≡ false → IsBelowAll j (keys_of es) → in_range lo (Some end) es ≡ []
  none_from j [] h a = refl
  none_from j (e ∷ es) h a =
      ap (λ (b : Bool). cond b (e ∷ in_range lo (Some end) es) (in_range lo (Some end) es)) (and_false (not (is_below e.0 lo)) (is_below e.0 end) (not_after_by (is_below e.0 end) j e.0 end refl h a.0))
      ∙ none_from j es h a.1

  pub record Begins (es : List (List ℕ × V)) : Type 0 where
    pub rest : List (List ℕ × V)
    pub parts : in_range lo hi es ≡ in_range lo (Some end) es ++ rest

  begins_by : (b c : Bool) (e : List ℕ × V) (es : List (List ℕ × V)) → is_below e.0 lo ≡ b → is_below e.0 end ≡ c → IsBelowAll e.0 (keys_of es) → Begins es → Begins (e ∷ es)
  begins_by true c e es p q a r = record { rest = r.rest; parts = rw p r.parts }
  begins_by false true e es p q a r =
      let there : is_before hi e.0 ≡ true = before_through hi e.0 end before q in
      record { rest = r.rest; parts = rw (p, q, there) (ap (λ (xs : List (List ℕ × V)). e ∷ xs) r.parts) }
  begins_by false false e es p q a r =
      let none : in_range lo (Some end) es ≡ [] = none_from e.0 es q a in
      record { rest = in_range lo hi (e ∷ es); parts = rw (p, q, none) refl }

  -- in a rising list, the pairs before an end are a prefix of it
  pub begins : (es : List (List ℕ × V)) → IsRising es → Begins es
  unfolding IsStrictlySortedBy
  begins [] r = record { rest = []; parts = refl }
  begins (e ∷ es) r = begins_by (is_below e.0 lo) (is_below e.0 end) e es refl refl r.0 (begins es r.1)

  first_of_front : (n : ℕ) (xs ys : List (List ℕ × V)) → n ≤ length xs → take n (xs ++ ys) ≡ take n xs
  first_of_front zero xs ys h = refl
  first_of_front (suc n) [] ys h = absurd (omega arith)
  first_of_front (suc n) (x ∷ xs) ys h = ap (λ (zs : List (List ℕ × V)). x ∷ zs) (first_of_front n xs ys (omega arith))

  -- if there are enough of them, there are no other rows
  pub same_rows : (limit : ℕ) (es : List (List ℕ × V)) → IsRising es → limit ≤ length (in_range lo (Some end) es) → rows lo (Some end) limit es ≡ rows lo hi limit es
  same_rows limit es r h =
      let b = begins es r in
      sym (ap (λ (xs : List (List ℕ × V)). take limit xs) b.parts ∙ first_of_front limit (in_range lo (Some end) es) b.rest h)

-- ---- one command

abbrev answered : (A : Type 0) → List (List ℕ × List ℕ) → Reply A
answered A xs = Rows xs

drop-one : (ends : List (Option (List ℕ))) (place : ℕ) → first_end (drop place (drop 1 ends)) ≡ first_end (drop (suc place) ends)
drop-one [] zero = refl
drop-one [] (suc place) = refl
drop-one (end ∷ ends) place = refl

module _ {A : Type 0} where
  pub key-with_end : (end : Option (List ℕ)) (c : Command A) → key_of (with_end end c) ≡ key_of c
  key-with_end None c = refl
  key-with_end (Some end) (Scan lo hi limit) = refl
  key-with_end (Some end) _ = refl

  pub scan-with_end : (end : Option (List ℕ)) (c : Command A) → is_scan (with_end end c) ≡ is_scan c
  scan-with_end None c = refl
  scan-with_end (Some end) (Scan lo hi limit) = refl
  scan-with_end (Some end) _ = refl

  pub wipe-with_end : (end : Option (List ℕ)) (c : Command A) → is_wipe (with_end end c) ≡ is_wipe c
  wipe-with_end None c = refl
  wipe-with_end (Some end) (Scan lo hi limit) = refl
  wipe-with_end (Some end) _ = refl

  pub ranged-with_end : (end : Option (List ℕ)) (c : Command A) → is_ranged (with_end end c) ≡ is_ranged c
  ranged-with_end None c = refl
  ranged-with_end (Some end) (Scan lo hi limit) = refl
  ranged-with_end (Some end) _ = refl

  pub map-with_end : (m : List (List ℕ × List ℕ)) (end : Option (List ℕ)) (c : Command A) → map_after m (with_end end c) ≡ map_after m c
  map-with_end m None c = refl
  map-with_end m (Some end) (Scan lo hi limit) = refl
  map-with_end m (Some end) _ = refl

  pub reply-with_end : (keys : List (List ℕ)) (m : List (List ℕ × List ℕ)) (end : Option (List ℕ)) (c : Command A) → IsRising m → MayEndAt keys m c end → reply_to m (with_end end c) ≡ reply_to m c
  reply-with_end keys m None c r h = refl
  reply-with_end keys m (Some end) (Scan lo hi limit) r h = ap (answered A) (same_rows lo hi end h.before limit m r h.rows)
  reply-with_end keys m (Some end) _ r h = refl

  -- ---- a batch

  pub no_ends : (keys : List (List ℕ)) (m : List (List ℕ × List ℕ)) (cs : List (Command A)) → MayEndAtAll keys m cs []
  no_ends keys m [] = tt
  no_ends keys m (c ∷ cs) = (tt, no_ends keys (map_after m c) cs)

  pub length-with_ends : (cs : List (Command A)) (ends : List (Option (List ℕ))) → length (with_ends cs ends) ≡ length cs
  length-with_ends [] ends = refl
  length-with_ends (c ∷ cs) ends = ap suc (length-with_ends cs (drop 1 ends))

  -- the command at a place has the end at that place
  pub get-with_ends : (cs : List (Command A)) (ends : List (Option (List ℕ))) (place : ℕ) → slice_get (with_ends cs ends) place ≡ option_map (with_end (first_end (drop place ends))) (slice_get cs place)
  get-with_ends [] ends place = refl
  get-with_ends (c ∷ cs) ends zero = refl
  get-with_ends (c ∷ cs) ends (suc place) =
      get-with_ends cs (drop 1 ends) place ∙ ap (λ (end : Option (List ℕ)). option_map (with_end end) (slice_get cs place)) (drop-one ends place)

  pub map_all-with_ends : (m : List (List ℕ × List ℕ)) (cs : List (Command A)) (ends : List (Option (List ℕ))) → map_after_all m (with_ends cs ends) ≡ map_after_all m cs
  map_all-with_ends m [] ends = refl
  map_all-with_ends m (c ∷ cs) ends =
      ap (λ (x : List (List ℕ × List ℕ)). map_after_all x (with_ends cs (drop 1 ends))) (map-with_end m (first_end ends) c) ∙ map_all-with_ends (map_after m c) cs (drop 1 ends)

  pub replies-with_ends : (keys : List (List ℕ)) (m : List (List ℕ × List ℕ)) (cs : List (Command A)) (ends : List (Option (List ℕ))) → IsRising m → MayEndAtAll keys m cs ends → replies_to m (with_ends cs ends) ≡ replies_to m cs
  replies-with_ends keys m [] ends r h = refl
  replies-with_ends keys m (c ∷ cs) ends r h =
      ap (λ (a : Reply A). a ∷ replies_to (map_after m (with_end (first_end ends) c)) (with_ends cs (drop 1 ends))) (reply-with_end keys m (first_end ends) c r h.0)
      ∙ ap (λ (x : List (List ℕ × List ℕ)). reply_to m c ∷ replies_to x (with_ends cs (drop 1 ends))) (map-with_end m (first_end ends) c)
      ∙ ap (λ (rest : List (Reply A)). reply_to m c ∷ rest) (replies-with_ends keys (map_after m c) cs (drop 1 ends) (rising-map_after m c r) h.1)
