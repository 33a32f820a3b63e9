-- The results of the workers fill all places.
use Rattle.std.specs.Prelude.{◌≡◌, ◌≢◌, ◌⊎◌, ℕ, zero, suc, ◌+◌, ◌<◌, ◌≤◌, Bool, true, false, List, [], ◌∷◌, ◌++◌, map, length, take, drop, set, replicate, reverse, slice_get, if◌then◌else◌, ◌==◌, nat_lt, Vec, Option, Some, None, Result, Ok, Err, IfOk, IfErr}
use Rattle.std.proofs.Common.{refl, sym, ap, subst, ◌∙◌, arith, inl, inr, ⊎_elim, length-set, length-drop}
use Rattle.std.proofs.lemmas.List.{length-map, map-append, length-replicate, reverse-append}
use Rattle.std.proofs.lemmas.Option.{same_Some}
use Rattle.std.proofs.lemmas.Bool.Decides.{nat_tests}
use Rattle.std.specs.List.{All, AllByRecursion, flat_map}
use Rattle.std.specs.declared.alloc.Global.{Global}
use Rattle.claim_board.specs.Counting.{times}
use Rattle.claim_board.specs.Passes.{pieces_of, drawn_by, drawn_by_all, IsPassOf, IsNewPassOf, Closes}
use Rattle.claim_board.specs.declared.draw.Board.{Board}
use Rattle.claim_board.specs.declared.draw.Pass.{Pass}
use Rattle.crew.specs.declared.Work as Work
use Rattle.crew.specs.declared.home.PieceResult.{PieceResult}
use Rattle.crew.specs.declared.drawn.WorkerState.{WorkerState}
use Rattle.crew.specs.Home.{placed, undrawn, origins, IsMade, home_origins, IsMadeHome, IsWorkedOf}
use Rattle.crew.specs.Drawn.{held_in, AreAccepted, IsHandOf}
use Rattle.crew.specs.Pieces.{jobs_of}

-- ---- lists

pub all_append : {X : Type 0} (P : X → Type 0) (xs ys : List X) → AllByRecursion P xs → AllByRecursion P ys → AllByRecursion P (xs ++ ys)
all_append P [] ys a b = b
all_append P (x ∷ xs) ys a b = (a.0, all_append P xs ys a.1 b)

all_set : {X : Type 0} (P : X → Type 0) (xs : List X) (i : ℕ) (x : X) → AllByRecursion P xs → P x → AllByRecursion P (set xs i x)
all_set P [] i x a b = a
all_set P (y ∷ ys) zero x a b = (b, a.1)
all_set P (y ∷ ys) (suc i) x a b = (a.0, all_set P ys i x a.1 b)

all_replicate : {X : Type 0} (P : X → Type 0) (n : ℕ) (x : X) → P x → AllByRecursion P (replicate n x)
all_replicate P zero x h = tt
all_replicate P (suc n) x h = (h, all_replicate P n x h)

pub all_at : {X : Type 0} (P : X → Type 0) (xs : List X) (i : ℕ) (x : X) → AllByRecursion P xs → slice_get xs i ≡ Some x → P x
all_at P [] i x a e = absurd (cc)
all_at P (y ∷ ys) zero x a e = subst P (same_Some y x e) a.0
all_at P (y ∷ ys) (suc i) x a e = all_at P ys i x a.1 e

pub get_map : {X Y : Type 0} (f : X → Y) (xs : List X) (n : ℕ) (x : X) → slice_get xs n ≡ Some x → slice_get (map f xs) n ≡ Some (f x)
get_map f [] n x e = absurd (cc)
get_map f (y ∷ ys) zero x e = ap (λ z. Some (f z)) (same_Some y x e)
get_map f (y ∷ ys) (suc n) x e = get_map f ys n x e

within : {X : Type 0} (xs : List X) (n : ℕ) (x : X) → slice_get xs n ≡ Some x → n < length xs
within [] n x e = absurd (cc)
within (y ∷ ys) zero x e = omega arith
within (y ∷ ys) (suc n) x e = let h = within ys n x e in omega arith

set_here : {X Y : Type 0} (f : X → Y) (xs : List X) (n : ℕ) (x : X) → n < length xs → slice_get (map f (set xs n x)) n ≡ Some (f x)
set_here f [] n x h = let no : ⊥ = omega arith in absurd no
set_here f (y ∷ ys) zero x h = refl
set_here f (y ∷ ys) (suc n) x h = set_here f ys n x (omega arith)

set_else : {X Y : Type 0} (f : X → Y) (xs : List X) (i n : ℕ) (x : X) → (i == n) ≡ false → slice_get (map f (set xs i x)) n ≡ slice_get (map f xs) n
set_else f [] i n x h = refl
set_else f (y ∷ ys) zero zero x h = absurd (cc)
set_else f (y ∷ ys) zero (suc n) x h = refl
set_else f (y ∷ ys) (suc i) zero x h = refl
set_else f (y ∷ ys) (suc i) (suc n) x h = set_else f ys i n x (grind (arith, nat_tests))

same_lists : {X : Type 0} (xs ys : List X) → length xs ≡ length ys → ((n : ℕ) → n < length xs → slice_get xs n ≡ slice_get ys n) → xs ≡ ys
same_lists [] [] e same = refl
same_lists [] (y ∷ ys) e same = let no : ⊥ = omega arith in absurd no
same_lists (x ∷ xs) [] e same = let no : ⊥ = omega arith in absurd no
same_lists (x ∷ xs) (y ∷ ys) e same =
    let first : x ≡ y = same_Some x y (same zero (omega arith)) in
    let rest : xs ≡ ys = same_lists xs ys (omega arith) (λ n h. same (suc n) (omega arith)) in
    rw (first, rest) refl

get_drop : {X : Type 0} (xs : List X) (k n : ℕ) → slice_get (drop k xs) n ≡ slice_get xs (k + n)
get_drop xs zero n = ap (slice_get xs) (let e : n ≡ zero + n = omega arith in e)
get_drop [] (suc k) n = refl
get_drop (x ∷ xs) (suc k) n = get_drop xs k n ∙ ap (slice_get (x ∷ xs)) (let e : suc (k + n) ≡ suc k + n = omega arith in e)

times_append : (x : ℕ) (xs ys : List ℕ) → times x (xs ++ ys) ≡ times x xs + times x ys
times_append x [] ys = omega arith
times_append x (y ∷ xs) ys = let h = times_append x xs ys in omega arith

pub all_reverse : {X : Type 0} (P : X → Type 0) (xs : List X) → AllByRecursion P xs → AllByRecursion P (reverse xs)
all_reverse P [] a = tt
all_reverse P (x ∷ xs) a = subst (AllByRecursion P) (sym (reverse-append (x ∷ []) xs)) (all_append P (reverse xs) (x ∷ []) (all_reverse P xs a.1) (a.0, tt))

pub by_recursion : {X : Type 0} (P : X → Type 0) (xs : List X) → All P xs → AllByRecursion P xs
by_recursion P [] a = tt
by_recursion P (x ∷ xs) a = (a zero x (omega arith), by_recursion P xs (λ k d h. a (suc k) d (omega arith)))

by_step : {X : Type 0} (P : X → Type 0) (x : X) (xs : List X) → P x → All P xs → All P (x ∷ xs)
by_step P x xs first rest zero d h = first
by_step P x xs first rest (suc k) d h = rest k d (omega arith)

pub by_index : {X : Type 0} (P : X → Type 0) (xs : List X) → AllByRecursion P xs → All P xs
by_index P [] a = λ k d h. let no : ⊥ = omega arith in absurd no
by_index P (x ∷ xs) a = by_step P x xs a.0 (by_index P xs a.1)

pub all_map : {X Y : Type 0} (f : X → Y) (P : Y → Type 0) (Q : X → Type 0) → ((x : X) → Q x → P (f x)) → (xs : List X) → AllByRecursion Q xs → AllByRecursion P (map f xs)
all_map f P Q h [] a = tt
all_map f P Q h (x ∷ xs) a = (h x a.0, all_map f P Q h xs a.1)

pub all_split : {X : Type 0} (P : X → Type 0) (xs ys : List X) → AllByRecursion P (xs ++ ys) → AllByRecursion P xs × AllByRecursion P ys
all_split P [] ys a = (tt, a)
all_split P (x ∷ xs) ys a = let h = all_split P xs ys a.1 in ((a.0, h.0), h.1)

flat_of : {X Y : Type 0} (f : X → List Y) (xs : List X) → flat_map f xs ≡ flat_map (λ ys. ys) (map f xs)
flat_of f [] = refl
flat_of f (x ∷ xs) = ap (λ ys. f x ++ ys) (flat_of f xs)

-- a list that is passed on as a slice, which keeps its length
pub taken : {X : Type 0} (n : ℕ) (new old : List X) → length new ≡ n → take n (new ++ drop (length new) old) ≡ new
taken n new old e = ap (λ k. take k (new ++ drop (length new) old)) (sym e) ∙ take_front new (drop (length new) old)
  where
    take_front : {X : Type 0} (xs ys : List X) → take (length xs) (xs ++ ys) ≡ xs
    take_front [] ys = refl
    take_front (x ∷ xs) ys = ap (λ zs. x ∷ zs) (take_front xs ys)

-- ---- places

pub length-placed : {J D : Type 0} (homes : List (Option (Result (Vec D Global) (Vec J Global)))) (xs : List (PieceResult J D)) → length (placed homes xs) ≡ length homes
length-placed homes [] = refl
length-placed homes (x ∷ xs) = length-placed (set homes x.number (Some x.made)) xs ∙ length-set homes x.number (Some x.made)

pub placed_append : {J D : Type 0} (homes : List (Option (Result (Vec D Global) (Vec J Global)))) (xs ys : List (PieceResult J D)) → placed (placed homes xs) ys ≡ placed homes (xs ++ ys)
placed_append homes [] ys = refl
placed_append homes (x ∷ xs) ys = placed_append (set homes x.number (Some x.made)) xs ys

module _ {W J D : Type 0} (g : Work.Ghosts W J D) where
  -- each of these fits its place
  Fits : List (List g.Held) → PieceResult J D → Type 0
  Fits ts x = slice_get ts x.number ≡ Some (origins g x.made)

  placed_made : (w : W) (homes : List (Option (Result (Vec D Global) (Vec J Global)))) (xs : List (PieceResult J D)) → AllByRecursion (IsMadeHome g w) homes
      → AllByRecursion (λ x. IsMade g w x.made) xs → AllByRecursion (IsMadeHome g w) (placed homes xs)
  placed_made w homes [] a b = a
  placed_made w homes (x ∷ xs) a b = placed_made w (set homes x.number (Some x.made)) xs (all_set (IsMadeHome g w) homes x.number (Some x.made) a b.0) b.1

  -- the place n is among the numbers, or it is filled already
  Filled : List (List g.Held) → List (PieceResult J D) → List (Option (Result (Vec D Global) (Vec J Global))) → ℕ → Type 0
  Filled ts xs homes n = (0 < times n (map (λ x. x.number) xs)) ⊎ (slice_get (map (home_origins g) homes) n ≡ slice_get ts n)

  filled_next : (ts : List (List g.Held)) (x : PieceResult J D) (xs : List (PieceResult J D)) (homes : List (Option (Result (Vec D Global) (Vec J Global)))) (n : ℕ) (b : Bool) → (x.number == n) ≡ b
      → length homes ≡ length ts → slice_get ts x.number ≡ Some (origins g x.made)
      → (0 < (if b then 1 else 0) + times n (map (λ y. y.number) xs)) ⊎ (slice_get (map (home_origins g) homes) n ≡ slice_get ts n)
      → (0 < times n (map (λ y. y.number) xs)) ⊎ (slice_get (map (home_origins g) (set homes x.number (Some x.made))) n ≡ slice_get ts n)
  filled_next ts x xs homes n true e len fits filled =
      let here : x.number ≡ n = grind (arith, nat_tests) in
      let inside = within ts x.number _ fits in
      inr (subst (λ k. slice_get (map (home_origins g) (set homes x.number (Some x.made))) k ≡ slice_get ts k) here
      (set_here (home_origins g) homes x.number (Some x.made) (omega arith) ∙ sym fits))
  filled_next ts x xs homes n false e len fits (inl more) = inl (omega arith)
  filled_next ts x xs homes n false e len fits (inr same) = inr (set_else (home_origins g) homes x.number n (Some x.made) e ∙ same)

  placed_right : (ts : List (List g.Held)) (xs : List (PieceResult J D)) (homes : List (Option (Result (Vec D Global) (Vec J Global)))) → length homes ≡ length ts
      → AllByRecursion (λ x. slice_get ts x.number ≡ Some (origins g x.made)) xs
      → ((n : ℕ) → n < length ts → (0 < times n (map (λ x. x.number) xs)) ⊎ (slice_get (map (home_origins g) homes) n ≡ slice_get ts n))
      → map (home_origins g) (placed homes xs) ≡ ts
  placed_right ts [] homes len fits filled =
      same_lists (map (home_origins g) homes) ts (length-map homes (home_origins g) ∙ len)
      (λ n h. ⊎_elim (λ no. let never : ⊥ = omega arith in absurd never) (λ same. same) (filled n (omega (arith, length-map homes (home_origins g)))))
  placed_right ts (x ∷ xs) homes len fits filled =
      placed_right ts xs (set homes x.number (Some x.made)) (length-set homes x.number (Some x.made) ∙ len) fits.1
      (λ n h. filled_next ts x xs homes n (x.number == n) refl len fits.0 (filled n h))

  -- ---- unclaimed pieces

  left_fits : (pieces left : List (Vec J Global)) (from : ℕ) → ((n : ℕ) → slice_get left n ≡ slice_get pieces (from + n))
      → AllByRecursion (λ x. slice_get (map (held_in g) pieces) x.number ≡ Some (origins g x.made)) (undrawn {D = D} from left)
  left_fits pieces [] from same = tt
  left_fits pieces (piece ∷ left) from same = (
    get_map (held_in g) pieces from piece (ap (slice_get pieces) (let e : from ≡ from + zero = omega arith in e) ∙ sym (same zero)),
    left_fits pieces left (from + 1) (λ n. same (suc n) ∙ ap (slice_get pieces) (let e : from + suc n ≡ from + 1 + n = omega arith in e)),
  )

  left_made : (w : W) (left : List (Vec J Global)) (from : ℕ) → AllByRecursion (λ x. IsMade g w x.made) (undrawn {D = D} from left)
  left_made w [] from = tt
  left_made w (piece ∷ left) from = (tt, left_made w left (from + 1))

  left_counts : (left : List (Vec J Global)) (from n : ℕ) → from ≤ n → n < from + length left → 0 < times n (map (λ x. x.number) (undrawn {D = D} from left))
  left_counts [] from n a b = let no : ⊥ = omega arith in absurd no
  left_counts (piece ∷ left) from n a b = left_or from n (from == n) refl (λ h. left_counts left (from + 1) n h (omega arith)) a
    where
      left_or : (from n : ℕ) (t : Bool) → (from == n) ≡ t → (from + 1 ≤ n → 0 < times n (map (λ x. x.number) (undrawn {D = D} (from + 1) left))) → from ≤ n
          → 0 < (if t then 1 else 0) + times n (map (λ x. x.number) (undrawn {D = D} (from + 1) left))
      left_or from n true e later a = omega arith
      left_or from n false e later a = let apart : from ≢ n = grind (arith, nat_tests) in let h = later (omega arith) in omega arith

  -- ---- the states of the workers

  hands_worked : (w : W) (board : Board (Vec J Global)) (hands : List (WorkerState J D)) → AllByRecursion (IsHandOf g w board) hands
      → AllByRecursion (IsWorkedOf g w (pieces_of board)) (flat_map (λ hand. hand.worked.items) hands)
  hands_worked w board [] a = tt
  hands_worked w board (hand ∷ hands) a = all_append (IsWorkedOf g w (pieces_of board)) hand.worked.items _ a.0.worked (hands_worked w board hands a.1)

  hands_numbers : (w : W) (board : Board (Vec J Global)) (hands : List (WorkerState J D)) → AllByRecursion (IsHandOf g w board) hands
      → map (λ x. x.number) (flat_map (λ hand. hand.worked.items) hands) ≡ drawn_by_all (map (λ hand. hand.pass) hands)
  hands_numbers w board [] a = refl
  hands_numbers w board (hand ∷ hands) a =
      map-append (λ x. x.number) hand.worked.items (flat_map (λ hand. hand.worked.items) hands)
      ∙ ap (λ xs. xs ++ map (λ x. x.number) (flat_map (λ hand. hand.worked.items) hands)) a.0.numbers
      ∙ ap (λ xs. drawn_by hand.pass ++ xs) (hands_numbers w board hands a.1)

  splits : (w : W) (pieces : List (Vec J Global)) (xs : List (PieceResult J D)) → AllByRecursion (IsWorkedOf g w pieces) xs
      → AllByRecursion (λ x. slice_get (map (held_in g) pieces) x.number ≡ Some (origins g x.made)) xs × AllByRecursion (λ x. IsMade g w x.made) xs
  splits w pieces [] a = (tt, tt)
  splits w pieces (x ∷ xs) a = let h = splits w pieces xs a.1 in ((a.0.0, h.0), (a.0.1, h.1))

  -- ---- the jobs of a claimed piece are done

  -- what becomes of a piece is that
  pub is_worked : (w : W) (pieces : List (Vec J Global)) (number : ℕ) (piece : Vec J Global) (made : Result (Vec D Global) (Vec J Global)) → slice_get pieces number ≡ Some piece
      → IfOk made (λ dones. map g.outcome dones.items ≡ map (g.made w) (map g.held piece.items)) → IfOk made (λ dones. map g.origin dones.items ≡ map g.held piece.items)
      → IfErr made (λ again. map g.held again.items ≡ map g.held piece.items) → IsWorkedOf g w pieces (record { number = number; made = made })
  is_worked w pieces number piece (Ok dones) at makes origin back =
      (get_map (held_in g) pieces number piece at ∙ ap Some (sym origin), makes ∙ ap (map (g.made w)) (sym origin))
  is_worked w pieces number piece (Err again) at makes origin back = (get_map (held_in g) pieces number piece at ∙ ap Some (sym back), tt)

  -- ---- states that are handed out to the workers

  hand_of : (w : W) (board : Board (Vec J Global)) (hands : List (WorkerState J D)) (passes : List (Pass (Vec J Global))) → map (λ hand. hand.pass) hands ≡ passes
      → AllByRecursion (λ hand. hand.worked.items ≡ []) hands → AllByRecursion (IsNewPassOf board) passes → AllByRecursion (IsHandOf g w board) hands
  hand_of w board [] passes e none new = tt
  hand_of w board (hand ∷ hands) passes e none new =
      let is = subst (AllByRecursion (IsNewPassOf board)) (sym e) new in (
        record {
          pass = is.0.0;
          numbers = ap (map (λ x. x.number)) none.0 ∙ sym is.0.1;
          worked = subst (AllByRecursion (IsWorkedOf g w (pieces_of board))) (sym none.0) tt;
        },
        hand_of w board hands (map (λ hand. hand.pass) hands) refl none.1 is.1,
      )

  pub dealt : (w : W) (board : Board (Vec J Global)) (hands : List (WorkerState J D)) (passes : List (Pass (Vec J Global))) → map (λ hand. hand.pass) hands ≡ reverse passes
      → AllByRecursion (λ hand. hand.worked.items ≡ []) hands → All (IsNewPassOf board) passes → AllByRecursion (IsHandOf g w board) hands
  dealt w board hands passes e none new = hand_of w board hands (reverse passes) e none (all_reverse (IsNewPassOf board) passes (by_recursion (IsNewPassOf board) passes new))

  -- their passes are those of the board
  pub passes_of : (w : W) (board : Board (Vec J Global)) (hands : List (WorkerState J D)) (passes : List (Pass (Vec J Global))) → passes ≡ map (λ hand. hand.pass) hands
      → AllByRecursion (IsHandOf g w board) hands → All (IsPassOf board) passes
  passes_of w board hands passes e are =
      subst (All (IsPassOf board)) (sym e)
      (by_index (IsPassOf board) (map (λ hand. hand.pass) hands) (all_map (λ hand. hand.pass) (IsPassOf board) (IsHandOf g w board) (λ hand is. is.pass) hands are))

  -- ---- jobs and pieces

  pub pieces_accepted : (w : W) (pieces : List (Vec J Global)) → AllByRecursion (λ job. g.accepts w (g.held job)) (jobs_of pieces) → AreAccepted g w pieces
  pieces_accepted w [] a = tt
  pieces_accepted w (piece ∷ pieces) a =
      let h = all_split (λ job. g.accepts w (g.held job)) piece.items (jobs_of pieces) a in
      (by_index (λ job. g.accepts w (g.held job)) piece.items h.0, pieces_accepted w pieces h.1)

  held_in_all : (pieces : List (Vec J Global)) → flat_map (λ hs. hs) (map (held_in g) pieces) ≡ map g.held (jobs_of pieces)
  held_in_all [] = refl
  held_in_all (piece ∷ pieces) = ap (λ hs. map g.held piece.items ++ hs) (held_in_all pieces) ∙ sym (map-append g.held piece.items (jobs_of pieces))

  -- all collected results are of all jobs
  pub homes_held : (homes : List (Option (Result (Vec D Global) (Vec J Global)))) (pieces : List (Vec J Global)) (jobs : List J) → map (home_origins g) homes ≡ map (held_in g) pieces
      → jobs_of pieces ≡ jobs → flat_map (home_origins g) homes ≡ map g.held jobs
  homes_held homes pieces jobs same e =
      flat_of (home_origins g) homes ∙ ap (flat_map (λ hs. hs)) same ∙ held_in_all pieces ∙ ap (map g.held) e

  -- ---- all places are filled

  module _ (w : W) (board : Board (Vec J Global)) (hands : List (WorkerState J D)) (left : List (Vec J Global)) (are : AllByRecursion (IsHandOf g w board) hands)
      (closes : Closes (pieces_of board) (map (λ hand. hand.pass) hands) left) where
    pub left_length : length (drawn_by_all (map (λ hand. hand.pass) hands)) + length left ≡ length (pieces_of board)
    left_length =
        let n = closes.within in let e = ap length closes.left_are in
        omega (arith, length-drop (length (drawn_by_all (map (λ hand. hand.pass) hands))) (pieces_of board))

    following : (n : ℕ) → slice_get left n ≡ slice_get (pieces_of board) (length (drawn_by_all (map (λ hand. hand.pass) hands)) + n)
    following n = ap (λ xs. slice_get xs n) closes.left_are ∙ get_drop (pieces_of board) (length (drawn_by_all (map (λ hand. hand.pass) hands))) n

    -- each number is one of them
    drawn_or_left : (n : ℕ) (b : Bool) → nat_lt n (length (drawn_by_all (map (λ hand. hand.pass) hands))) ≡ b → n < length (pieces_of board)
        → times n (drawn_by_all (map (λ hand. hand.pass) hands)) ≡ (if b then 1 else 0)
        → 0 < times n (drawn_by_all (map (λ hand. hand.pass) hands)) + times n (map (λ x. x.number) (undrawn {D = D} (length (drawn_by_all (map (λ hand. hand.pass) hands))) left))
    drawn_or_left n true e h once = omega arith
    drawn_or_left n false e h once =
        let past : length (drawn_by_all (map (λ hand. hand.pass) hands)) ≤ n = grind (arith, nat_tests) in
        let all = left_length in
        let here = left_counts left (length (drawn_by_all (map (λ hand. hand.pass) hands))) n past (omega arith) in omega arith

    is_among : (n : ℕ) → n < length (pieces_of board)
        → 0 < times n (map (λ x. x.number) (flat_map (λ hand. hand.worked.items) hands ++ undrawn (length (drawn_by_all (map (λ hand. hand.pass) hands))) left))
    is_among n h =
        let drawn = drawn_by_all (map (λ hand. hand.pass) hands) in
        let either = drawn_or_left n (nat_lt n (length drawn)) refl h (closes.once n) in
        let ns = map-append (λ x. x.number) (flat_map (λ hand. hand.worked.items) hands) (undrawn (length drawn) left) in
        let counts : times n (map (λ x. x.number) (flat_map (λ hand. hand.worked.items) hands ++ undrawn (length drawn) left))
        ≡ times n drawn + times n (map (λ x. x.number) (undrawn {D = D} (length drawn) left))
        = ap (times n) ns ∙ ap (λ xs. times n (xs ++ map (λ x. x.number) (undrawn {D = D} (length drawn) left))) (hands_numbers w board hands are)
        ∙ times_append n drawn (map (λ x. x.number) (undrawn {D = D} (length drawn) left)) in
        rw counts either

    -- what is placed, from empty places on
    pub all_home : map (home_origins g) (placed (placed (replicate (length (pieces_of board)) None) (flat_map (λ hand. hand.worked.items) hands))
        (undrawn (length (drawn_by_all (map (λ hand. hand.pass) hands))) left)) ≡ map (held_in g) (pieces_of board)
    all_home =
        let from = length (drawn_by_all (map (λ hand. hand.pass) hands)) in
        let none = replicate (length (pieces_of board)) None in
        let worked = flat_map (λ hand. hand.worked.items) hands in
        let len : length none ≡ length (map (held_in g) (pieces_of board)) = length-replicate (length (pieces_of board)) None ∙ sym (length-map (pieces_of board) (held_in g)) in
        ap (map (home_origins g)) (placed_append none worked (undrawn from left))
        ∙ placed_right (map (held_in g) (pieces_of board)) (worked ++ undrawn from left) none len
        (all_append (λ x. slice_get (map (held_in g) (pieces_of board)) x.number ≡ Some (origins g x.made)) worked (undrawn from left)
        (splits w (pieces_of board) worked (hands_worked w board hands are)).0 (left_fits (pieces_of board) left from following))
        (λ n h. inl (is_among n (omega (arith, length-map (pieces_of board) (held_in g)))))

    pub all_made : AllByRecursion (IsMadeHome g w) (placed (placed (replicate (length (pieces_of board)) None) (flat_map (λ hand. hand.worked.items) hands))
        (undrawn (length (drawn_by_all (map (λ hand. hand.pass) hands))) left))
    all_made =
        let from = length (drawn_by_all (map (λ hand. hand.pass) hands)) in
        let none = replicate (length (pieces_of board)) None in
        let worked = flat_map (λ hand. hand.worked.items) hands in
        placed_made w (placed none worked) (undrawn from left)
        (placed_made w none worked (all_replicate (IsMadeHome g w) (length (pieces_of board)) None tt) (splits w (pieces_of board) worked (hands_worked w board hands are)).1)
        (left_made w left from)
