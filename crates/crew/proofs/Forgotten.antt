-- The places of a round's jobs depend neither on the jobs nor on their outputs: a round without the jobs' contents takes the same course.
use Rattle.std.specs.Prelude.{◌≡◌, ℕ, zero, suc, ◌+◌, Bool, true, false, List, [], ◌∷◌, ◌++◌, map, length, set, replicate, eqb, if◌then◌else◌, slice_get, Option, Some, None, option_map}
use Rattle.std.proofs.Common.{refl, sym, ap, ◌∙◌}
use Rattle.std.proofs.lemmas.List.{map-set, map_push, map-append, length-map}
use Rattle.std.proofs.lemmas.Option.{slice_get-map}
use Rattle.crew.specs.declared.machine.Event.{Event}
use Rattle.crew.specs.declared.machine.Event.TheVariants.{Draw, Work, Back, Home}
use Rattle.crew.specs.Round.{Fate, WorkerState, State, numbered, numbered_pieces, fate_of, draw_by, work_by, home_by, event_of, worker_of, after_event, after_events, begun, round}
use Rattle.crew.specs.Round.Fate.{Made, Kept}
use Rattle.crew.specs.Marks.{mark_of, mark_at, forgotten}

-- these jobs with their numbers, forgotten
abbrev forget_jobs : {J : Type 0} → List (ℕ × J) → List (ℕ × Unit {0})
forget_jobs jobs = map (λ x. (x.0, tt)) jobs

forget_numbered : {J : Type 0} (n : ℕ) (jobs : List J) → forget_jobs (numbered n jobs) ≡ numbered n (forgotten jobs)
forget_numbered n [] = refl
forget_numbered n (j ∷ js) = ap (λ rest. (n, tt) ∷ rest) (forget_numbered (n + 1) js)

forget_pieces : {J : Type 0} (n : ℕ) (pieces : List (List J)) → map forget_jobs (numbered_pieces n pieces) ≡ numbered_pieces n (map forgotten pieces)
forget_pieces n [] = refl
forget_pieces n (piece ∷ pieces) =
    ap (λ rest. forget_jobs (numbered n piece) ∷ rest) (forget_pieces (n + length piece) pieces)
    ∙ ap (λ first. first ∷ numbered_pieces (n + length piece) (map forgotten pieces)) (forget_numbered n piece)
    ∙ ap (λ k. numbered n (forgotten piece) ∷ numbered_pieces (n + k) (map forgotten pieces)) (sym (length-map piece (λ j. tt {0})))

module _ {J D : Type 0} where
  -- jobs and results without their contents
  abbrev forget_fate : Fate J D → Fate (Unit {0}) (Unit {0})
  forget_fate (Made d) = Made tt
  forget_fate (Kept j) = Kept tt

  abbrev forget_fates : List (ℕ × Fate J D) → List (ℕ × Fate (Unit {0}) (Unit {0}))
  forget_fates noted = map (λ x. (x.0, forget_fate x.1)) noted

  abbrev forget_hand : WorkerState J D → WorkerState (Unit {0}) (Unit {0})
  forget_hand hand = record { unworked = forget_jobs hand.unworked; worked = forget_fates hand.worked }

  abbrev forget : State J D → State (Unit {0}) (Unit {0})
  forget s = record { board = map forget_jobs s.board; hands = map forget_hand s.hands; home = forget_fates s.home }

forget_hands : (J D : Type 0) (workers : ℕ) → map (forget_hand {J = J} {D = D}) (replicate workers (record { unworked = []; worked = [] })) ≡ replicate workers (record { unworked = []; worked = [] })
forget_hands J D zero = refl
forget_hands J D (suc n) = ap (λ rest. record { unworked = []; worked = [] } ∷ rest) (forget_hands J D n)

module _ {J D : Type 0} where
  -- ---- an event

  forget_draw : (s : State J D) (w : ℕ) (unworked : List (ℕ × J)) (worked : List (ℕ × Fate J D)) (board : List (List (ℕ × J)))
      → forget (draw_by s w unworked worked board) ≡ draw_by (forget s) w (forget_jobs unworked) (forget_fates worked) (map forget_jobs board)
  forget_draw s w [] worked [] = refl
  forget_draw s w [] worked (piece ∷ rest) =
      ap (λ hands. record { board = map forget_jobs rest; hands = hands; home = forget_fates s.home }) (map-set forget_hand s.hands w (record { unworked = piece; worked = worked }))
  forget_draw s w (job ∷ jobs) worked board = refl

  forget_work : (s : State J D) (w : ℕ) (unworked : List (ℕ × J)) (worked : List (ℕ × Fate J D)) (fate : J → Fate J D) (fate' : Unit {0} → Fate (Unit {0}) (Unit {0}))
      → ((j : J) → forget_fate (fate j) ≡ fate' tt)
      → forget (work_by s w unworked worked fate) ≡ work_by (forget s) w (forget_jobs unworked) (forget_fates worked) fate'
  forget_work s w [] worked fate fate' same = refl
  forget_work s w (job ∷ jobs) worked fate fate' same =
      let noted : forget_fates (worked ++ (job.0, fate job.1) ∷ []) ≡ forget_fates worked ++ (job.0, fate' tt) ∷ [] =
      map_push (λ x. (x.0, forget_fate x.1)) worked (job.0, fate job.1) ∙ ap (λ f. forget_fates worked ++ (job.0, f) ∷ []) (same job.1) in
      ap (λ hands. record { board = map forget_jobs s.board; hands = hands; home = forget_fates s.home })
      (map-set forget_hand s.hands w (record { unworked = jobs; worked = worked ++ (job.0, fate job.1) ∷ [] })
      ∙ ap (λ noted. set (map forget_hand s.hands) w (record { unworked = forget_jobs jobs; worked = noted })) noted)

  forget_home : (s : State J D) (w : ℕ) (unworked : List (ℕ × J)) (worked : List (ℕ × Fate J D)) (board : List (List (ℕ × J)))
      → forget (home_by s w unworked worked board) ≡ home_by (forget s) w (forget_jobs unworked) (forget_fates worked) (map forget_jobs board)
  forget_home s w [] worked [] =
      ap (λ hands. record { board = []; hands = hands; home = forget_fates (s.home ++ worked) }) (map-set forget_hand s.hands w (record { unworked = []; worked = [] }))
      ∙ ap (λ home. record { board = []; hands = set (map forget_hand s.hands) w (record { unworked = []; worked = [] }); home = home })
      (map-append (λ x. (x.0, forget_fate x.1)) s.home worked)
  forget_home s w [] worked (piece ∷ rest) = refl
  forget_home s w (job ∷ jobs) worked board = refl

  forget_event : (made : J → D) (s : State J D) (hand : Option (WorkerState J D)) (event : Event) → forget (event_of made s hand event) ≡ event_of (λ u. u) (forget s) (option_map forget_hand hand) event
  forget_event made s None event = refl
  forget_event made s (Some hand) (Draw w) = forget_draw s w hand.unworked hand.worked s.board
  forget_event made s (Some hand) (Work w) = forget_work s w hand.unworked hand.worked (λ j. Made (made j)) Made (λ j. refl)
  forget_event made s (Some hand) (Back w) = forget_work s w hand.unworked hand.worked Kept Kept (λ j. refl)
  forget_event made s (Some hand) (Home w) = forget_home s w hand.unworked hand.worked s.board

  forget_events : (made : J → D) (s : State J D) (events : List Event) → forget (after_events made s events) ≡ after_events (λ u. u) (forget s) events
  forget_events made s [] = refl
  forget_events made s (event ∷ events) =
      let one : forget (after_event made s event) ≡ after_event (λ u. u) (forget s) event =
      forget_event made s (slice_get s.hands (worker_of event)) event
      ∙ ap (λ hand. event_of (λ u. u) (forget s) hand event) (sym (slice_get-map forget_hand s.hands (worker_of event))) in
      forget_events made (after_event made s event) events ∙ ap (λ s. after_events (λ u. u) s events) one

  -- ---- the beginning

  forget_round : (made : J → D) (pieces : List (List J)) (workers : ℕ) (events : List Event)
      → forget (round made pieces workers events) ≡ round (λ u. u) (map forgotten pieces) workers events
  forget_round made pieces workers events =
      forget_events made (begun pieces workers) events
      ∙ ap (λ board. after_events (λ u. u) (record { board = board; hands = map (forget_hand {J = J} {D = D}) (replicate workers (record { unworked = []; worked = [] })); home = [] }) events) (forget_pieces 0 pieces)
      ∙ ap (λ hands. after_events (λ u. u) (record { board = numbered_pieces 0 (map forgotten pieces); hands = hands; home = [] }) events) (forget_hands J D workers)

  -- ---- marks

  same_mark : (fate : Fate J D) → mark_of fate ≡ mark_of (forget_fate fate)
  same_mark (Made d) = refl
  same_mark (Kept j) = refl

  same_mark_if : (b : Bool) (n : ℕ) (fate : Fate J D) (rest : List (ℕ × Fate J D)) → option_map mark_of (fate_of n rest) ≡ option_map mark_of (fate_of n (forget_fates rest))
      → option_map mark_of (if b then Some fate else fate_of n rest) ≡ option_map mark_of (if b then Some (forget_fate fate) else fate_of n (forget_fates rest))
  same_mark_if true n fate rest later = ap Some (same_mark fate)
  same_mark_if false n fate rest later = later

  same_marks : (n : ℕ) (noted : List (ℕ × Fate J D)) → option_map mark_of (fate_of n noted) ≡ option_map mark_of (fate_of n (forget_fates noted))
  same_marks n [] = refl
  same_marks n (x ∷ rest) = same_mark_if (eqb x.0 n) n x.1 rest (same_marks n rest)

  -- the marks of a round are those of the round whose jobs are forgotten
  pub forgotten_marks : (made : J → D) (pieces : List (List J)) (workers : ℕ) (events : List Event) (job : ℕ)
      → mark_at (round made pieces workers events) job ≡ mark_at (round (λ u. u) (map forgotten pieces) workers events) job
  forgotten_marks made pieces workers events job =
      same_marks job (round made pieces workers events).home ∙ ap (λ s. mark_at s job) (forget_round made pieces workers events)

-- the marks of a round are the same whatever is made of a job
pub same_marks_for_all : {J D : Type 0} (made : J → D) (pieces : List (List J)) (workers : ℕ) (events : List Event) (job : ℕ)
    → mark_at (round made pieces workers events) job ≡ mark_at (round (λ (j : J). j) pieces workers events) job
same_marks_for_all made pieces workers events job =
    forgotten_marks made pieces workers events job ∙ sym (forgotten_marks (λ j. j) pieces workers events job)
