-- All pieces on the board, by the numbers of their jobs.
use Rattle.std.specs.Prelude.{◌≡◌, ℕ, ◌+◌, ◌-◌, ◌<◌, List, [], ◌∷◌, ◌++◌, map, length, get_or, drop, replicate, Vec}
use Rattle.std.proofs.Common.{refl, sym, ap, ◌∙◌, arith, append_assoc}
use Rattle.std.proofs.lemmas.List.{map_push, at_drop_more, length-map}
use Rattle.std.specs.declared.alloc.Global.{Global}
use Rattle.std.specs.declared.ops.Range.{Range}
use Rattle.crew.specs.Marks.{forgotten, jobs_in}
use Rattle.crew.specs.Round.{numbered, numbered_pieces}

forgotten_all : {J : Type 0} (jobs : List J) → replicate (length jobs) tt ≡ forgotten jobs
forgotten_all [] = refl
forgotten_all (j ∷ js) = ap (λ rest. tt ∷ rest) (forgotten_all js)

-- a range of as many numbers as there are jobs
jobs_of : {J : Type 0} (first len : ℕ) (jobs : List J) → len ≡ length jobs → jobs_in (record { start = first; end = first + len }) ≡ numbered first (forgotten jobs)
jobs_of first len jobs e =
    let count : (first + len) - first ≡ length jobs = omega arith in
    ap (λ n. numbered first (replicate n tt)) count ∙ ap (λ all. numbered first all) (forgotten_all jobs)

-- one more piece lies on the board
pub board_more : {J : Type 0} (board : List (Range ℕ)) (first len i : ℕ) (pieces : List (Vec J Global)) (piece : Vec J Global) → i < length pieces → piece ≡ get_or pieces i piece
    → len ≡ length piece.items
    → map jobs_in (board ++ record { start = first; end = first + len } ∷ []) ++ numbered_pieces (first + len) (map (λ piece. forgotten piece.items) (drop (i + 1) pieces))
    ≡ map jobs_in board ++ numbered_pieces first (map (λ piece. forgotten piece.items) (drop i pieces))
board_more board first len i pieces piece there is e =
    let following = map (λ piece. forgotten piece.items) (drop (i + 1) pieces) in
    let next : numbered_pieces first (map (λ piece. forgotten piece.items) (drop i pieces)) ≡ numbered first (forgotten piece.items) ∷ numbered_pieces (first + len) following =
    at_drop_more (λ pieces. numbered_pieces first (map (λ piece. forgotten piece.items) pieces)) pieces i piece there
    ∙ ap (λ piece. numbered first (forgotten piece.items) ∷ numbered_pieces (first + length (forgotten piece.items)) following) (sym is)
    ∙ ap (λ n. numbered first (forgotten piece.items) ∷ numbered_pieces (first + n) following) (length-map piece.items _ ∙ sym e) in
    ap (λ all. all ++ numbered_pieces (first + len) following) (map_push jobs_in board (record { start = first; end = first + len }))
    ∙ append_assoc (map jobs_in board) (jobs_in (record { start = first; end = first + len }) ∷ []) (numbered_pieces (first + len) following)
    ∙ ap (λ jobs. map jobs_in board ++ jobs ∷ numbered_pieces (first + len) following) (jobs_of first len piece.items e)
    ∙ ap (λ rest. map jobs_in board ++ rest) (sym next)
