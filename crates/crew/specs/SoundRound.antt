-- The invariant of a round of work after any events.
use Rattle.std.specs.Prelude.{◌≡◌, ℕ, ◌<◌, ◌==◌, nat_lt, if◌then◌else◌, List, ◌++◌, map, length, Some, slice_get}
use Rattle.std.specs.List.{All, count_by, flat_map}
use Rattle.crew.specs.Round.{Fate, WorkerState, State, fate_of, AreHome}
use Rattle.crew.specs.Round.Fate.{Made, Kept}

-- the numbers of these jobs or results
abbrev pub numbers : {X : Type 0} → List (ℕ × X) → List ℕ
numbers xs = map (λ x. x.0) xs

module _ {J D : Type 0} where
  -- the numbers on the board, with the workers (of remaining jobs and of results), and collected, all together
  abbrev pub numbers_anywhere : State J D → List ℕ
  numbers_anywhere s =
      (flat_map numbers s.board ++ flat_map (λ (hand : WorkerState J D). numbers hand.unworked ++ numbers hand.worked) s.hands) ++ numbers s.home

  -- the result is the output of the job with this number, or that job unchanged
  abbrev pub IsFateOf : (J → D) → List J → ℕ → Fate J D → Type 0
  IsFateOf made jobs n (Made d) = (j : J) × (slice_get jobs n ≡ Some j) × (d ≡ made j)
  IsFateOf made jobs n (Kept j) = slice_get jobs n ≡ Some j

  -- the job with this number is collected with an output
  abbrev pub IsMadeAtHome : State J D → ℕ → Type 0
  IsMadeAtHome s n = (d : D) × (fate_of n s.home ≡ Some (Made d))

  -- the invariant of a round of these jobs
  pub record IsSoundRound (made : J → D) (jobs : List J) (s : State J D) : Type 0 where
    -- each job is at one place: the number of each job occurs exactly once in total, and no other number occurs
    pub one_place : (n : ℕ) → count_by (λ m. m == n) (numbers_anywhere s) ≡ (if nat_lt n (length jobs) then 1 else 0)
    -- each collected result is the output of the job with its number, or is that job
    pub true_home : All (λ x. IsFateOf made jobs x.0 x.1) s.home
    -- if all jobs are collected with outputs, these, in the order of the jobs, are the work's outputs
    pub all_made : ((n : ℕ) → n < length jobs → IsMadeAtHome s n) → AreHome s (length jobs) (map made jobs)
