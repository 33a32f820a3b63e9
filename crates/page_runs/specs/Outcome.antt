-- Undoing a run on a page: the page before the run, the run, and the outcome.
use Rattle.std.specs.Prelude.{◌≡◌, ◌<◌, ⊤, Bool, true, false, List, [], ◌∷◌, drop, length}
use Rattle.consolidate.specs.PutBack.{put_back}
use Rattle.keys.specs.Bytes.{Changes}
use Rattle.delta_chain.specs.Layers.{Layers}
use Rattle.page_runs.specs.declared.class.Class.{Class}
use Rattle.page_runs.specs.declared.class.Class.TheVariants.{Same as SameClass, Changed}
use Rattle.page_runs.specs.declared.page_after.WayBack.{WayBack}
use Rattle.page_runs.specs.declared.page_after.WayBack.TheVariants.{Same, InFront, Replaced}

-- the page without its newest run
abbrev pub popped : {V : Type 0} → Layers V → Layers V
popped p = record { runs = drop 1 p.runs; base = p.base }

-- the newest of these runs, or the empty run if there is none
abbrev pub newest : {V : Type 0} → List (Changes V) → Changes V
newest [] = []
newest (run ∷ runs) = run

-- the page before the run, from the page now and what undoes the run
abbrev pub page_before : {V : Type 0} → Layers V → WayBack V → Layers V
page_before p (Same run) = p
page_before p InFront = popped p
page_before p (Replaced class emptied) = popped (put_back emptied p.base)

-- the run
abbrev pub run_before : {V : Type 0} → Layers V → WayBack V → Changes V
run_before p (Same run) = run
run_before p InFront = newest p.runs
run_before p (Replaced class emptied) = newest (put_back emptied p.base).runs

-- there is a run to remove, if one must be removed, and a replaced page has no runs
abbrev pub CanUndo : {V : Type 0} → Layers V → WayBack V → Type 0
CanUndo p (Same run) = ⊤
CanUndo p InFront = 0 < length p.runs
CanUndo p (Replaced class emptied) = (p.runs ≡ []) × (0 < length (put_back emptied p.base).runs)

-- the class of the page after the run
abbrev pub class_now : {V : Type 0} → WayBack V → Class
class_now (Same run) = SameClass
class_now InFront = Changed
class_now (Replaced class emptied) = class

-- whether it was replaced
abbrev pub is_replaced_now : {V : Type 0} → WayBack V → Bool
is_replaced_now (Same run) = false
is_replaced_now InFront = false
is_replaced_now (Replaced class emptied) = true
