-- What the table of marks says about a round.
use Rattle.std.specs.Prelude.{◌≡◌, ℕ, ◌<◌, ◌≤◌, List, map, length, get_or, drop, Option, None, Vec}
use Rattle.std.proofs.Common.{sym, ap, ◌∙◌, arith, inl, inr}
use Rattle.std.proofs.lemmas.Bool.{cases_lt}
use Rattle.std.proofs.lemmas.List.{get_or_past, at_drop_all}
use Rattle.std.proofs.lemmas.Simd.{map-map}
use Rattle.std.specs.declared.alloc.Global.{Global}
use Rattle.crew.specs.declared.machine.Event.{Event}
use Rattle.crew.specs.declared.machine.Mark.{Mark}
use Rattle.crew.specs.declared.progress.Progress.{Progress}
use Rattle.crew.specs.Marks.{forgotten, mark_at, state_by}
use Rattle.crew.specs.Round.{joined, begun, after_events, round}
use Rattle.crew.proofs.Forgotten.{forgotten_marks}
use Rattle.crew.proofs.SoundLemmas.{none_past}

-- if each job below their number has its mark in the table, the table has the mark of each collected result
pub all_met : {J : Type 0} (pieces : List (Vec J Global)) (workers : ℕ) (events : List Event) (i jobs : ℕ) (p : Progress) (marks : List (Option Mark))
    → jobs ≡ length (joined (map (λ piece. piece.items) pieces)) → length marks ≡ jobs → ((job : ℕ) → job < jobs → get_or marks job None ≡ mark_at (state_by p) job)
    → length events ≤ i → after_events (λ u. u) (state_by p) (drop i events) ≡ after_events (λ u. u) (begun (map (λ piece. forgotten piece.items) pieces) workers) events
    → (job : ℕ) → get_or marks job None ≡ mark_at (round (λ (j : J). j) (map (λ piece. piece.items) pieces) workers events) job
all_met {J} pieces workers events i jobs p marks count long here over so_far job =
    let pieces' : List (List J) = map (λ piece. piece.items) pieces in
    let ended : state_by p ≡ round (λ u. u) (map forgotten pieces') workers events =
    sym (at_drop_all (after_events (λ u. u) (state_by p)) events i over) ∙ so_far ∙ ap (λ all. after_events (λ u. u) (begun all workers) events) (sym (map-map forgotten (λ piece. piece.items) pieces)) in
    elim (cases_lt job jobs) [
      | inl below ↦ here job below ∙ ap (λ s. mark_at s job) ended ∙ sym (forgotten_marks (λ (j : J). j) pieces' workers events job)
      | inr past ↦ get_or_past marks job None (omega arith) ∙ sym (none_past (λ (j : J). j) pieces' workers events job (omega arith))
    ]
