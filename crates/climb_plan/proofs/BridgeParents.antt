-- Parents in the table, after the runs of their terms, are those of the plan.
use Rattle.std.specs.Prelude.{◌≡◌, ◌≢◌, ℕ, pred, List, [], ◌∷◌, map, length, Option, Some}
use Rattle.std.proofs.Common.{refl, sym, ap, ◌∙◌, subst, arith}
use Rattle.std.specs.List.{AllByRecursion}
use Rattle.keys.specs.declared.settings.Settings.{Settings}
use Rattle.index_page.specs.Page.{PageOfKind}
use Rattle.index_page.specs.Page.PageOfKind.{Index}
use Rattle.mapping.specs.Levels.{Placed, pids}
use Rattle.mapping.specs.Proper.{Distinct}
use Rattle.mapping.specs.Table.{Mapping, at_home, page_of}
use Rattle.page_runs.specs.TermWork.{TermHeld, index_made}
use Rattle.page_runs.specs.Updated.{Updated, updated}
use Rattle.split_plan.specs.UpdatedLevel.{updated_parents}
use Rattle.climb_plan.specs.Changing.{AreHome}
use Rattle.climb_plan.proofs.ParentRuns.AreRunsOf.{termed, untermed}
use Rattle.climb_plan.specs.Installing.{page_or_none, parent_held, IsIndexAt, AreParentsHome}
use Rattle.climb_plan.proofs.TermRuns.{all_termed}
use Rattle.climb_plan.proofs.ParentRuns.{AreRunsOf, runs_by_parent}

-- ---- each parent with its run

-- the parents are those that get a run
pub term_parents : (ns : List ℕ) (runs : List (List (List ℕ × Option ℕ))) → length runs ≡ length ns → map (λ e. e.0) (runs_by_parent ns runs) ≡ ns
term_parents [] runs e = refl
term_parents (n ∷ ns) [] e = absurd (omega arith)
term_parents (n ∷ ns) (run ∷ runs) e = ap (λ (ms : List ℕ). n ∷ ms) (term_parents ns runs (ap pred e))

module _ (t : Mapping PageOfKind) where
  page_there : (q : Placed ℕ) (run : List (List ℕ × Option ℕ)) → page_of t q.pid ≡ Some (Index q.page) → (let h : TermHeld = record { page = Index q.page; pid = q.pid; terms = run } in parent_held t (q.pid, run) ≡ h)
  page_there q run e = ap (λ (o : Option PageOfKind). (let h : TermHeld = record { page = page_or_none o; pid = q.pid; terms = run } in h)) e

  -- the results are those of the plan
  pub termed_made : (s : Settings) (qs : List (Placed ℕ)) (runs : List (List (List ℕ × Option ℕ))) → AreHome Index t qs → length runs ≡ length qs → map (λ e. index_made s (parent_held t e)) (runs_by_parent (pids qs) runs) ≡ updated_parents s qs runs
  termed_made s [] runs h e = refl
  termed_made s (q ∷ qs) [] h e = absurd (omega arith)
  termed_made s (q ∷ qs) (run ∷ runs) h e =
      ap (λ (x : TermHeld). index_made s x ∷ map (λ e. index_made s (parent_held t e)) (runs_by_parent (pids qs) runs)) (page_there q run (ap at_home h.0))
      ∙ ap (λ (ws : List (Updated ℕ)). updated s q run ∷ ws) (termed_made s qs runs h.1 (ap pred e))

  -- and their inputs are the original pages
  pub termed_held : (qs : List (Placed ℕ)) (runs : List (List (List ℕ × Option ℕ))) → AreHome Index t qs → length runs ≡ length qs → map {B = ℕ × PageOfKind} (λ x. (x.pid, x.page)) (map (parent_held t) (runs_by_parent (pids qs) runs)) ≡ map {B = ℕ × PageOfKind} (λ q. (q.pid, Index q.page)) qs
  termed_held [] runs h e = refl
  termed_held (q ∷ qs) [] h e = absurd (omega arith)
  termed_held (q ∷ qs) (run ∷ runs) h e =
      let pair : TermHeld → ℕ × PageOfKind = λ x. (x.pid, x.page) in
      ap (λ (x : TermHeld). pair x ∷ map pair (map (parent_held t) (runs_by_parent (pids qs) runs))) (page_there q run (ap at_home h.0))
      ∙ ap (λ (es : List (ℕ × PageOfKind)). (q.pid, Index q.page) ∷ es) (termed_held qs runs h.1 (ap pred e))

  index_at_home : (qs : List (Placed ℕ)) → AreHome Index t qs → AllByRecursion (λ n. IsIndexAt (page_of t n)) (pids qs)
  index_at_home [] h = tt
  index_at_home (q ∷ qs) h = (subst IsIndexAt (sym (ap at_home h.0)) tt, index_at_home qs h.1)

-- ---- some of the parents

other_pids : (n : ℕ) (ps : List (Placed ℕ)) → AllByRecursion (λ m. m ≢ n) (pids ps) → AllByRecursion (λ p. p.pid ≢ n) ps
other_pids n [] d = tt
other_pids n (p ∷ ps) d = (d.0, other_pids n ps d.1)

their_pids : (n : ℕ) (ps : List (Placed ℕ)) → AllByRecursion (λ p. p.pid ≢ n) ps → AllByRecursion (λ m. m ≢ n) (pids ps)
their_pids n [] d = tt
their_pids n (p ∷ ps) d = (d.0, their_pids n ps d.1)

distinct_termed : {ps qs : List (Placed ℕ)} {all rs : List (List (List ℕ × Option ℕ))} → AreRunsOf ps all qs rs → Distinct (pids ps) → Distinct (pids qs)
distinct_termed (AreRunsOf.none) d = tt
distinct_termed (termed {ps = ps} {qs = qs} p run r) d = (their_pids p.pid qs (all_termed (λ q. q.pid ≢ p.pid) r (other_pids p.pid ps d.0)), distinct_termed r d.1)
distinct_termed (untermed p r) d = distinct_termed r d.1

-- parents that get a run can be checked out, if all parents of the level are in the table
pub parents_can_be_taken : {ps qs : List (Placed ℕ)} {all rs : List (List (List ℕ × Option ℕ))} (t : Mapping PageOfKind) → AreRunsOf ps all qs rs → Distinct (pids ps) → AreHome Index t qs → AreParentsHome t (pids qs)
parents_can_be_taken {ps} {qs} t r d h = (index_at_home t qs h, distinct_termed r d)
