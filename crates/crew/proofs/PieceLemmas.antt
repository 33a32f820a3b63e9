-- Jobs that are split into pieces, from the end.
use Rattle.std.specs.Prelude.{◌≡◌, ℕ, ◌-◌, ◌*◌, ◌/◌, ◌<◌, ◌≤◌, List, [], ◌∷◌, ◌++◌, take, drop, reverse, Vec}
use Rattle.std.specs.declared.alloc.Global.{Global}
use Rattle.std.proofs.Common.{sym, ap, ◌∙◌, arith, append_assoc, take-append-drop, div-lt_iff_lt-mul}
use Rattle.std.proofs.Math.Nat.{mul-le-mul_right}
use Rattle.std.proofs.lemmas.List.{reverse-append}
use Rattle.crew.specs.Pieces.{jobs_of}

-- the jobs from a place on go into a piece, before the pieces so far
pub cut_off : {J : Type 0} (jobs all : List J) (pieces : List (Vec J Global)) (piece : Vec J Global) (at : ℕ) → piece.items ≡ drop at jobs
    → jobs ++ jobs_of (reverse pieces) ≡ all → take at jobs ++ jobs_of (reverse (pieces ++ piece ∷ [])) ≡ all
cut_off jobs all pieces piece at tail was =
    ap (λ ps. take at jobs ++ jobs_of ps) (reverse-append pieces (piece ∷ []))
    ∙ ap (λ xs. take at jobs ++ (xs ++ jobs_of (reverse pieces))) tail
    ∙ sym (append_assoc (take at jobs) (drop at jobs) (jobs_of (reverse pieces)))
    ∙ ap (λ xs. xs ++ jobs_of (reverse pieces)) (take-append-drop at jobs) ∙ was

-- the remaining jobs need one piece less
pub one_less : (jobs grain rest : ℕ) → 0 < grain → 0 < jobs → jobs ≤ rest * grain → (0 < rest) × ((jobs - 1) / grain * grain ≤ (rest - 1) * grain)
one_less jobs grain rest some more le =
    let less : (jobs - 1) / grain < rest = (div-lt_iff_lt-mul some).1 (omega arith) in
    (omega arith, mul-le-mul_right grain (omega arith))
