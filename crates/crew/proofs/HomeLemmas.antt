-- Pieces in their places are all jobs.
use Rattle.std.specs.Prelude.{◌≡◌, ℕ, ◌+◌, ◌≤◌, List, [], ◌++◌, map, length}
use Rattle.std.proofs.Common.{sym, ap, ◌∙◌, arith, append_assoc, append-nil, length-append}
use Rattle.std.proofs.lemmas.List.{length-map, map-append}

module _ {J D H : Type 0} (held : J → H) (origin : D → H) (jobs undone back : List J) (dones : List D) (rest all : List H)
    (undo : map held undone ≡ map held jobs ++ map origin dones) (was : map held jobs ++ (map origin dones ++ (map held back ++ rest)) ≡ all) where
  -- the outputs are undone, and the returned jobs follow
  pub taken_back : map held (undone ++ back) ++ ([] ++ rest) ≡ all
  taken_back =
      ap (λ xs. xs ++ rest) (map-append held undone back ∙ ap (λ xs. xs ++ map held back) undo) ∙ append_assoc (map held jobs ++ map origin dones) (map held back) rest
      ∙ append_assoc (map held jobs) (map origin dones) (map held back ++ rest) ∙ was

  -- there is room for all
  pub fits : (room : ℕ) → length all ≤ room → length undone + length back ≤ room
  fits room le =
      let a = ap length was in let b = ap length undo in
      omega (
        arith,
        length-append (map held jobs) (map origin dones ++ (map held back ++ rest)),
        length-append (map origin dones) (map held back ++ rest),
        length-append (map held back) rest,
        length-append (map held jobs) (map origin dones),
        length-map undone held,
        length-map jobs held,
        length-map back held,
        length-map dones origin,
      )

-- the outputs are retained, and the outputs of a piece follow
module _ {J D H : Type 0} (held : J → H) (origin : D → H) (jobs : List J) (dones made : List D) (rest all : List H)
    (was : map held jobs ++ (map origin dones ++ (map origin made ++ rest)) ≡ all) where
  pub kept_made : map held jobs ++ (map origin (dones ++ made) ++ rest) ≡ all
  kept_made =
      ap (λ xs. map held jobs ++ xs) (ap (λ xs. xs ++ rest) (map-append origin dones made) ∙ append_assoc (map origin dones) (map origin made) rest) ∙ was

  pub fits_made : (room : ℕ) → length all ≤ room → length dones + length made ≤ room
  fits_made room le =
      let a = ap length was in
      omega (
        arith,
        length-append (map held jobs) (map origin dones ++ (map origin made ++ rest)),
        length-append (map origin dones) (map origin made ++ rest),
        length-append (map origin made) rest,
        length-map dones origin,
        length-map made origin,
      )

pub made_of_both : {D H O : Type 0} (origin : D → H) (outcome : D → O) (made_of : H → O) (dones made : List D)
    → map outcome dones ≡ map made_of (map origin dones) → map outcome made ≡ map made_of (map origin made) → map outcome (dones ++ made) ≡ map made_of (map origin (dones ++ made))
made_of_both origin outcome made_of dones made one other =
    map-append outcome dones made ∙ ap (λ xs. xs ++ map outcome made) one ∙ ap (λ xs. map made_of (map origin dones) ++ xs) other
    ∙ sym (map-append made_of (map origin dones) (map origin made)) ∙ ap (map made_of) (sym (map-append origin dones made))

-- if no piece remains
module _ {J D H : Type 0} (held : J → H) (origin : D → H) (jobs : List J) (dones : List D) (all : List H) (was : map held jobs ++ (map origin dones ++ []) ≡ all) where
  pub all_come_back : (undone : List J) → map held undone ≡ map held jobs ++ map origin dones → map held undone ≡ all
  all_come_back undone undo = undo ∙ ap (λ xs. map held jobs ++ xs) (sym (append-nil (map origin dones))) ∙ was

  pub all_are_made : jobs ≡ [] → map origin dones ≡ all
  all_are_made none = sym (append-nil (map origin dones)) ∙ ap (λ js. map held js ++ (map origin dones ++ [])) (sym none) ∙ was

  pub all_fit : (room : ℕ) → length all ≤ room → length jobs + length dones ≤ room
  all_fit room le =
      let a = ap length was in
      omega (arith, length-append (map held jobs) (map origin dones ++ []), length-append (map origin dones) [], length-map jobs held, length-map dones origin)
