use Rattle.std.proofs.Common.{◌≡◌, ℕ, List, Option, refl}
use Rattle.delta_chain.specs.Layers.{Layers}
use Rattle.page_runs.specs.AfterRun.{in_front}
use Rattle.page_runs.specs.Outcome.{popped, newest}
use Rattle.page_runs.proofs.page_after.WayBack.undo.Goals as goal

module _ {V : Type 0} where
  -- what the page with a run in front is made of
  page_of : (front p : Layers V) (run : List (List ℕ × Option V)) → front ≡ in_front p run → p ≡ popped front
  page_of front p run e = rw e refl

  run_of : (front p : Layers V) (run : List (List ℕ × Option V)) → front ≡ in_front p run → run ≡ newest front.runs
  run_of front p run e = rw e refl

pub popped-requires : goal.popped-requires
popped-requires g c = rw c.in-InFront.is at c.requires

pub popped-requires-in-Replaced : goal.popped-requires-in-Replaced
popped-requires-in-Replaced g c = let can = rw c.in-Replaced.is at c.requires in rw (c.put_back.ensures, c.into_base.ensures) can.1

pub returns-in-Same-clause-page : goal.returns-in-Same-clause-page
returns-in-Same-clause-page g c = rw c.in-Same.is refl

pub returns-in-Same-clause-run : goal.returns-in-Same-clause-run
returns-in-Same-clause-run g c = rw c.in-Same.is refl

pub returns-in-InFront-clause-page : goal.returns-in-InFront-clause-page
returns-in-InFront-clause-page g c = rw c.in-InFront.is (page_of _ _ _ c.popped.ensures)

pub returns-in-InFront-clause-run : goal.returns-in-InFront-clause-run
returns-in-InFront-clause-run g c = rw c.in-InFront.is (run_of _ _ _ c.popped.ensures)

pub returns-in-Replaced-clause-page : goal.returns-in-Replaced-clause-page
returns-in-Replaced-clause-page g c = rw (c.in-Replaced.is, ← c.into_base.ensures, ← c.put_back.ensures) (page_of _ _ _ c.popped-in-Replaced.ensures)

pub returns-in-Replaced-clause-run : goal.returns-in-Replaced-clause-run
returns-in-Replaced-clause-run g c = rw (c.in-Replaced.is, ← c.into_base.ensures, ← c.put_back.ensures) (run_of _ _ _ c.popped-in-Replaced.ensures)
