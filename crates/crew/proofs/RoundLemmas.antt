-- The collected results of a round are the outputs of its jobs, whatever its events were.
use Rattle.std.specs.Prelude.{◌≡◌, ℕ, zero, suc, ◌+◌, Bool, true, false, List, [], ◌∷◌, ◌++◌, map, length, set, replicate, eqb, if◌then◌else◌, slice_get, Option, Some, None, Result, Ok, Err, IfOk, IfErr, Vec}
use Rattle.std.proofs.Common.{refl, sym, ap, subst, ◌∙◌, arith, append_assoc, length-append}
use Rattle.std.proofs.lemmas.Option.{same_Some}
use Rattle.std.specs.declared.alloc.Global.{Global}
use Rattle.std.specs.List.{AllByRecursion, range_with_len}
use Rattle.crew.specs.declared.machine.Event.{Event}
use Rattle.crew.specs.declared.machine.Event.TheVariants.{Draw, Work, Back, Home}
use Rattle.crew.specs.Round.{Fate, WorkerState, State, joined, numbered, numbered_pieces, fate_of, draw_by, work_by, home_by, event_of, worker_of, after_event, after_events, begun, round, AreHome}
use Rattle.crew.specs.Round.Fate.{Made, Kept}

-- ---- lists

all_append : {X : Type 0} (P : X → Type 0) (xs ys : List X) → AllByRecursion P xs → AllByRecursion P ys → AllByRecursion P (xs ++ ys)
all_append P [] ys a b = b
all_append P (x ∷ xs) ys a b = (a.0, all_append P xs ys a.1 b)

all_set : {X : Type 0} (P : X → Type 0) (xs : List X) (i : ℕ) (x : X) → AllByRecursion P xs → P x → AllByRecursion P (set xs i x)
all_set P [] i x a b = a
all_set P (y ∷ ys) zero x a b = (b, a.1)
all_set P (y ∷ ys) (suc i) x a b = (a.0, all_set P ys i x a.1 b)

all_at : {X : Type 0} (P : X → Type 0) (xs : List X) (i : ℕ) (x : X) → AllByRecursion P xs → slice_get xs i ≡ Some x → P x
all_at P [] i x a e = absurd (cc)
all_at P (y ∷ ys) zero x a e = subst P (same_Some y x e) a.0
all_at P (y ∷ ys) (suc i) x a e = all_at P ys i x a.1 e

all_replicate : {X : Type 0} (P : X → Type 0) (n : ℕ) (x : X) → P x → AllByRecursion P (replicate n x)
all_replicate P zero x h = tt
all_replicate P (suc n) x h = (h, all_replicate P n x h)

get_after : {X : Type 0} (xs : List X) (y : X) (ys : List X) → slice_get (xs ++ y ∷ ys) (length xs) ≡ Some y
get_after [] y ys = refl
get_after (x ∷ xs) y ys = get_after xs y ys

module _ {J D : Type 0} (made : J → D) (jobs : List J) where
  -- the number is that of the job
  abbrev pub IsJob : ℕ × J → Type 0
  IsJob x = slice_get jobs x.0 ≡ Some x.1

  -- it is the output of the job with the number, or that job
  abbrev pub IsFate : ℕ → Fate J D → Type 0
  IsFate n (Made d) = (j : J) × (slice_get jobs n ≡ Some j) × (d ≡ made j)
  IsFate n (Kept j) = slice_get jobs n ≡ Some j

  abbrev pub IsHand : WorkerState J D → Type 0
  IsHand h = AllByRecursion IsJob h.unworked × AllByRecursion (λ x. IsFate x.0 x.1) h.worked

  pub record IsTrue (s : State J D) : Type 0 where
    pub board : AllByRecursion (λ piece. AllByRecursion IsJob piece) s.board
    pub hands : AllByRecursion IsHand s.hands
    pub home : AllByRecursion (λ x. IsFate x.0 x.1) s.home

  -- ---- at the beginning

  numbered_true : (before piece following : List J) → jobs ≡ before ++ (piece ++ following) → AllByRecursion IsJob (numbered (length before) piece)
  numbered_true before [] following e = tt
  numbered_true before (j ∷ js) following e =
      let n : length (before ++ j ∷ []) ≡ length before + 1 = length-append before (j ∷ []) in (
        ap (λ all. slice_get all (length before)) e ∙ get_after before j (js ++ following),
        subst (λ k. AllByRecursion IsJob (numbered k js)) n
            (numbered_true (before ++ j ∷ []) js following (e ∙ sym (append_assoc before (j ∷ []) (js ++ following)))),
      )

  pieces_true : (before : List J) (pieces : List (List J)) → jobs ≡ before ++ joined pieces → AllByRecursion (λ piece. AllByRecursion IsJob piece) (numbered_pieces (length before) pieces)
  pieces_true before [] e = tt
  pieces_true before (piece ∷ pieces) e = (
    numbered_true before piece (joined pieces) e,
    subst (λ k. AllByRecursion (λ p. AllByRecursion IsJob p) (numbered_pieces k pieces)) (length-append before piece)
        (pieces_true (before ++ piece) pieces (e ∙ sym (append_assoc before piece (joined pieces)))),
  )

  begun_true : (pieces : List (List J)) (workers : ℕ) → jobs ≡ joined pieces → IsTrue (begun pieces workers)
  begun_true pieces workers e = record { board = pieces_true [] pieces e; hands = all_replicate IsHand workers _ (tt, tt); home = tt }

  -- ---- after an event

  draw_true : (s : State J D) (w : ℕ) (unworked : List (ℕ × J)) (worked : List (ℕ × Fate J D)) (board : List (List (ℕ × J))) → IsTrue s → s.board ≡ board
      → AllByRecursion (λ x. IsFate x.0 x.1) worked → IsTrue (draw_by s w unworked worked board)
  draw_true s w [] worked [] t e f = t
  draw_true s w [] worked (piece ∷ rest) t e f =
      let b = subst (AllByRecursion (λ piece. AllByRecursion IsJob piece)) e t.board in
      record { board = b.1; hands = all_set IsHand s.hands w _ t.hands (b.0, f); home = t.home }
  draw_true s w (job ∷ js) worked board t e f = t

  work_true : (s : State J D) (w : ℕ) (unworked : List (ℕ × J)) (worked : List (ℕ × Fate J D)) (fate : J → Fate J D)
      → ((n : ℕ) (j : J) → slice_get jobs n ≡ Some j → IsFate n (fate j)) → IsTrue s → AllByRecursion IsJob unworked
      → AllByRecursion (λ x. IsFate x.0 x.1) worked → IsTrue (work_by s w unworked worked fate)
  work_true s w [] worked fate is t u f = t
  work_true s w (job ∷ js) worked fate is t u f =
      record {
        board = t.board;
        hands = all_set IsHand s.hands w _ t.hands (u.1, all_append (λ x. IsFate x.0 x.1) worked _ f (is job.0 job.1 u.0, tt));
        home = t.home;
      }

  home_true : (s : State J D) (w : ℕ) (unworked : List (ℕ × J)) (worked : List (ℕ × Fate J D)) (board : List (List (ℕ × J))) → IsTrue s
      → AllByRecursion (λ x. IsFate x.0 x.1) worked → IsTrue (home_by s w unworked worked board)
  home_true s w [] worked [] t f =
      record { board = tt; hands = all_set IsHand s.hands w _ t.hands (tt, tt); home = all_append (λ x. IsFate x.0 x.1) s.home worked t.home f }
  home_true s w [] worked (piece ∷ rest) t f = t
  home_true s w (job ∷ js) worked board t f = t

  event_true : (s : State J D) (hand : Option (WorkerState J D)) (event : Event) → slice_get s.hands (worker_of event) ≡ hand → IsTrue s → IsTrue (event_of made s hand event)
  event_true s None event e t = t
  event_true s (Some hand) (Draw w) e t = let h = all_at IsHand s.hands w hand t.hands e in draw_true s w hand.unworked hand.worked s.board t refl h.1
  event_true s (Some hand) (Work w) e t =
      let h = all_at IsHand s.hands w hand t.hands e in
      work_true s w hand.unworked hand.worked (λ j. Made (made j)) (λ n j at. (j, at, refl)) t h.0 h.1
  event_true s (Some hand) (Back w) e t = let h = all_at IsHand s.hands w hand t.hands e in work_true s w hand.unworked hand.worked Kept (λ n j at. at) t h.0 h.1
  event_true s (Some hand) (Home w) e t = let h = all_at IsHand s.hands w hand t.hands e in home_true s w hand.unworked hand.worked s.board t h.1

  pub events_true : (s : State J D) (events : List Event) → IsTrue s → IsTrue (after_events made s events)
  events_true s [] t = t
  events_true s (event ∷ events) t = events_true (after_event made s event) events (event_true s (slice_get s.hands (worker_of event)) event refl t)

  pub round_true : (pieces : List (List J)) (workers : ℕ) (events : List Event) → jobs ≡ joined pieces → IsTrue (round made pieces workers events)
  round_true pieces workers events e = events_true (begun pieces workers) events (begun_true pieces workers e)

  -- ---- collected results

  fate_cases : (n m : ℕ) (f g : Fate J D) (rest : List (ℕ × Fate J D)) (b : Bool) → eqb m n ≡ b → IsFate m f → AllByRecursion (λ x. IsFate x.0 x.1) rest
      → (AllByRecursion (λ x. IsFate x.0 x.1) rest → fate_of n rest ≡ Some g → IsFate n g)
      → (if b then Some f else fate_of n rest) ≡ Some g → IsFate n g
  fate_cases n m f g rest true b is all later e = let same : m ≡ n = grind (arith, b) in subst (λ k. IsFate k g) same (subst (IsFate m) (same_Some f g e) is)
  fate_cases n m f g rest false b is all later e = later all e

  fate_true : (n : ℕ) (noted : List (ℕ × Fate J D)) (g : Fate J D) → AllByRecursion (λ x. IsFate x.0 x.1) noted → fate_of n noted ≡ Some g → IsFate n g
  fate_true n [] g all e = absurd (cc)
  fate_true n (x ∷ rest) g all e = fate_cases n x.0 x.1 g rest (eqb x.0 n) refl all.0 all.1 (λ a h. fate_true n rest g a h) e

  made_in_turn : (home : List (ℕ × Fate J D)) (before rest : List J) (ds : List D) → AllByRecursion (λ x. IsFate x.0 x.1) home → jobs ≡ before ++ rest
      → map (λ n. fate_of n home) (range_with_len (length before) (length rest)) ≡ map (λ d. Some (Made d)) ds → ds ≡ map made rest
  made_in_turn home before [] [] all e same = refl
  made_in_turn home before [] (d ∷ ds) all e same = absurd (cc)
  made_in_turn home before (j ∷ js) [] all e same = absurd (cc)
  made_in_turn home before (j ∷ js) (d ∷ ds) all e same =
      let here : fate_of (length before) home ≡ Some (Made d) = cc in
      let later : map (λ n. fate_of n home) (range_with_len (length before + 1) (length js)) ≡ map (λ d. Some (Made d)) ds = cc in
      let is = fate_true (length before) home (Made d) all here in
      let at : slice_get jobs (length before) ≡ Some j = ap (λ all. slice_get all (length before)) e ∙ get_after before j js in
      let first : d ≡ made j = is.2 ∙ ap made (same_Some is.0 j (sym is.1 ∙ at)) in
      let n : length (before ++ j ∷ []) ≡ length before + 1 = length-append before (j ∷ []) in
      let rest : ds ≡ map made js = made_in_turn home (before ++ j ∷ []) js ds all (e ∙ sym (append_assoc before (j ∷ []) js))
      (subst (λ k. map (λ n. fate_of n home) (range_with_len k (length js)) ≡ map (λ d. Some (Made d)) ds) (sym n) later) in
      rw (first, rest) refl

-- these are the outputs of the jobs
pub home_is_made : {J D : Type 0} (made : J → D) (jobs : List J) (pieces : List (List J)) (workers : ℕ) (events : List Event) (ds : List D) → joined pieces ≡ jobs
    → AreHome (round made pieces workers events) (length jobs) ds → ds ≡ map made jobs
home_is_made made jobs pieces workers events ds e home =
    made_in_turn made jobs (round made pieces workers events).home [] jobs ds (round_true made jobs pieces workers events (sym e)).home refl home

-- what an Ok has is what these are
pub ok_is : {X D E : Type 0} (outcome : X → D) (result : Result (Vec X Global) E) (xs ds : List D) → IfOk result (λ v. map outcome v.items ≡ xs) → ds ≡ xs
    → IfOk result (λ v. map outcome v.items ≡ ds)
ok_is outcome (Ok v) xs ds h e = h ∙ sym e
ok_is outcome (Err x) xs ds h e = tt

-- and what an Err has
pub err_is : {X Y D : Type 0} (held : X → D) (result : Result (Vec Y Global) (Vec X Global)) (xs ds : List D) → IfErr result (λ v. map held v.items ≡ xs) → ds ≡ xs
    → IfErr result (λ v. map held v.items ≡ ds)
err_is held (Ok v) xs ds h e = tt
err_is held (Err x) xs ds h e = h ∙ sym e
