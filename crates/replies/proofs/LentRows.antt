-- The rows and the keys of a range, found by a walk over a map from a key on: for the proofs of this crate.
use Rattle.std.specs.Prelude.{◌≡◌, ℕ, zero, suc, ◌+◌, ◌-◌, ◌<◌, ◌≤◌, Bool, true, false, not, cond, ◌&&◌, List, [], ◌∷◌, ◌++◌, length, take, Option, Some, None}
use Rattle.std.proofs.Common.{refl, sym, ap, ◌∙◌, arith, append_assoc, append-nil, length-append, Less, Equal, Greater, Ordering}
use Rattle.std.specs.List.{AllByRecursion, filter}
use Rattle.std.specs.List.Sorted.{IsStrictlySortedBy}
use Rattle.std.specs.Map.{keys_of}
use Rattle.std.specs.Ordering.{is_lt, is_le}
use Rattle.keys.specs.Order.{order, IsRising}
use Rattle.keys.specs.Range.{is_below, is_before, is_within, in_range, rows}
use Rattle.keys.proofs.MapLemmas.{total, flipped_less, flipped_greater}
use Rattle.keys.proofs.RangeLemmas.{rising-filtered}

-- the rows that these pairs give: those below the end, as many as the limit at most
abbrev pub rows_before : {V : Type 0} → Option (List ℕ) → ℕ → List (List ℕ × V) → List (List ℕ × V)
rows_before end limit es = take limit (filter (λ e. is_before end e.0) es)

-- the keys of those below the end
abbrev pub keys_before : {V : Type 0} → Option (List ℕ) → List (List ℕ × V) → List (List ℕ)
keys_before end es = keys_of (filter (λ e. is_before end e.0) es)

with_true : (b : Bool) → (b && true) ≡ b
with_true true = refl
with_true false = refl

not_before : (end : Option (List ℕ)) (k j : List ℕ) → order k j ≡ Less → is_before end k ≡ false → is_before end j ≡ false
not_before None k j l h = absurd (cc)
not_before (Some end) k j l h = by (order j end) refl
  where
    by : (o : Ordering) → order j end ≡ o → is_lt o ≡ false
    by Less e = absurd (let below : is_before (Some end) k ≡ true = rw (total.trans k j end l e) refl in cc)
    by Equal e = refl
    by Greater e = refl

part_by : (o : Ordering) (low k : List ℕ) → order low k ≡ o → (is_le o && not false) ≡ is_within low None k
part_by Less low k h = rw (flipped_less low k h) refl
part_by Equal low k h = rw (total.antisymm k low, h) refl
part_by Greater low k h = rw (flipped_greater low k h) refl

module _ {V : Type 0} where
  -- the part of a map from a key on, as a range of the map
  pub part_from : (low : List ℕ) (es : List (List ℕ × V)) → filter (λ e. is_le (order low e.0) && not false) es ≡ in_range low None es
  part_from low [] = refl
  part_from low (e ∷ es) =
      ap (λ (b : Bool). cond b (e ∷ filter (λ f. is_le (order low f.0) && not false) es) (filter (λ f. is_le (order low f.0) && not false) es)) (part_by (order low e.0) low e.0 refl)
      ∙ ap (λ (fs : List (List ℕ × V)). cond (is_within low None e.0) (e ∷ fs) fs) (part_from low es)

  -- what lies below an end
  before-in_range : (low : List ℕ) (end : Option (List ℕ)) (es : List (List ℕ × V)) → filter (λ e. is_before end e.0) (in_range low None es) ≡ in_range low end es
  before-in_range low end [] = refl
  before-in_range low end (e ∷ es) = by (not (is_below e.0 low)) (is_before end e.0) refl (before-in_range low end es)
    where
      by : (a b : Bool) → is_before end e.0 ≡ b → filter (λ d. is_before end d.0) (in_range low None es) ≡ in_range low end es
          → filter (λ d. is_before end d.0) (cond (a && true) (e ∷ in_range low None es) (in_range low None es)) ≡ cond (a && is_before end e.0) (e ∷ in_range low end es) (in_range low end es)
      by true b h ih = ap (λ (ds : List (List ℕ × V)). cond (is_before end e.0) (e ∷ ds) ds) ih
      by false b h ih = ih

  none_kept : (end : Option (List ℕ)) (k : List ℕ) (es : List (List ℕ × V)) → is_before end k ≡ false → AllByRecursion (λ j. order k j ≡ Less) (keys_of es) → filter (λ e. is_before end e.0) es ≡ []
  none_kept end k [] h a = refl
  none_kept end k (e ∷ es) h a = rw (not_before end k e.0 a.0 h) (none_kept end k es h a.1)

  none_after : (end : Option (List ℕ)) (k : List ℕ) (v : V) (rest : List (List ℕ × V)) → IsRising ((k, v) ∷ rest) → is_before end k ≡ false → filter (λ e. is_before end e.0) ((k, v) ∷ rest) ≡ []
  unfolding IsStrictlySortedBy
  none_after end k v rest r h = rw h (none_kept end k rest h r.0)

  taken_none : (n : ℕ) → take {A = List ℕ × V} n [] ≡ []
  taken_none zero = refl
  taken_none (suc n) = refl

  -- ---- the rows

  pub rows-start : (low : List ℕ) (end : Option (List ℕ)) (limit : ℕ) (m : List (List ℕ × V)) → rows_before end (limit - 0) (in_range low None m) ≡ rows low end limit m
  rows-start low end limit m =
      let whole : limit - 0 ≡ limit = omega arith in
      ap (λ (n : ℕ). rows_before end n (in_range low None m)) whole ∙ ap (λ (es : List (List ℕ × V)). take limit es) (before-in_range low end m)

  pub row-added : (end : Option (List ℕ)) (limit : ℕ) (out all : List (List ℕ × V)) (k : List ℕ) (v : V) (rest : List (List ℕ × V)) → length out < limit → is_before end k ≡ true
      → out ++ rows_before end (limit - length out) ((k, v) ∷ rest) ≡ all → (out ++ (k, v) ∷ []) ++ rows_before end (limit - length (out ++ (k, v) ∷ [])) rest ≡ all
  row-added end limit out all k v rest few before h =
      let longer : length (out ++ (k, v) ∷ []) ≡ length out + 1 = length-append out ((k, v) ∷ []) in
      let one_more : limit - length out ≡ suc (limit - length (out ++ (k, v) ∷ [])) = omega arith in
      let whole : out ++ (k, v) ∷ rows_before end (limit - length (out ++ (k, v) ∷ [])) rest ≡ all = rw (before, one_more) at h in
      append_assoc out ((k, v) ∷ []) (rows_before end (limit - length (out ++ (k, v) ∷ [])) rest) ∙ whole

  pub rows-full : (end : Option (List ℕ)) (limit : ℕ) (out all rest : List (List ℕ × V)) → limit ≤ length out → out ++ rows_before end (limit - length out) rest ≡ all → out ≡ all
  rows-full end limit out all rest full h =
      let none : limit - length out ≡ 0 = omega arith in
      let whole : out ++ [] ≡ all = rw none at h in
      sym (append-nil out) ∙ whole

  pub rows-none : (end : Option (List ℕ)) (n : ℕ) (out all rest : List (List ℕ × V)) → rest ≡ [] → out ++ rows_before end n rest ≡ all → out ≡ all
  rows-none end n out all rest e h =
      let whole : out ++ take n [] ≡ all = rw e at h in
      sym (append-nil out) ∙ ap (λ (es : List (List ℕ × V)). out ++ es) (sym (taken_none n)) ∙ whole

  pub rows-past : (end : Option (List ℕ)) (n : ℕ) (out all : List (List ℕ × V)) (k : List ℕ) (v : V) (rest : List (List ℕ × V)) → IsRising ((k, v) ∷ rest) → is_before end k ≡ false
      → out ++ rows_before end n ((k, v) ∷ rest) ≡ all → out ≡ all
  rows-past end n out all k v rest r h t =
      sym (append-nil out) ∙ ap (λ (es : List (List ℕ × V)). out ++ es) (sym (ap (λ (es : List (List ℕ × V)). take n es) (none_after end k v rest r h) ∙ taken_none n)) ∙ t

  -- ---- the keys

  pub keys-start : (low : List ℕ) (end : Option (List ℕ)) (m : List (List ℕ × V)) → keys_before end (in_range low None m) ≡ keys_of (in_range low end m)
  keys-start low end m = ap (λ (es : List (List ℕ × V)). keys_of es) (before-in_range low end m)

  pub key-added : (end : Option (List ℕ)) (out all : List (List ℕ)) (k : List ℕ) (v : V) (rest : List (List ℕ × V)) → is_before end k ≡ true → out ++ keys_before end ((k, v) ∷ rest) ≡ all → (out ++ k ∷ []) ++ keys_before end rest ≡ all
  key-added end out all k v rest before h =
      let whole : out ++ k ∷ keys_before end rest ≡ all = rw before at h in
      append_assoc out (k ∷ []) (keys_before end rest) ∙ whole

  pub keys-none : (end : Option (List ℕ)) (out all : List (List ℕ)) (rest : List (List ℕ × V)) → rest ≡ [] → out ++ keys_before end rest ≡ all → out ≡ all
  keys-none end out all rest e h =
      let whole : out ++ [] ≡ all = rw e at h in
      sym (append-nil out) ∙ whole

  pub keys-past : (end : Option (List ℕ)) (out all : List (List ℕ)) (k : List ℕ) (v : V) (rest : List (List ℕ × V)) → IsRising ((k, v) ∷ rest) → is_before end k ≡ false → out ++ keys_before end ((k, v) ∷ rest) ≡ all → out ≡ all
  keys-past end out all k v rest r h t = sym (append-nil out) ∙ ap (λ (es : List (List ℕ × V)). out ++ keys_of es) (sym (none_after end k v rest r h)) ∙ t

  -- ---- the walk from a key on

  -- the rows that the part of a map from a key on gives
  pub rows-from : (low : List ℕ) (end : Option (List ℕ)) (limit : ℕ) (m : List (List ℕ × V)) → rows_before end (limit - 0) (filter (λ e. is_le (order low e.0) && not false) m) ≡ rows low end limit m
  rows-from low end limit m = ap (λ (es : List (List ℕ × V)). rows_before end (limit - 0) es) (part_from low m) ∙ rows-start low end limit m

  pub keys-from : (low : List ℕ) (end : Option (List ℕ)) (m : List (List ℕ × V)) → keys_before end (filter (λ e. is_le (order low e.0) && not false) m) ≡ keys_of (in_range low end m)
  keys-from low end m = ap (λ (es : List (List ℕ × V)). keys_before end es) (part_from low m) ∙ keys-start low end m

  pub rising-from : (low : List ℕ) (m : List (List ℕ × V)) → IsRising m → IsRising (filter (λ e. is_le (order low e.0) && not false) m)
  rising-from low m r = rising-filtered (λ e. is_le (order low e.0) && not false) m r
