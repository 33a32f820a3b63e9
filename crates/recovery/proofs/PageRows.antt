-- The page that the log determines, for short lists of contents.
use Rattle.std.specs.Prelude.{◌≡◌, [], ◌∷◌, Some, None, codes}
use Rattle.std.proofs.Common.{refl}
use Rattle.index_page.specs.Page.PageOfKind.{Leaf, Index}
use Rattle.frame_codec.specs.declared.format.KeyEncoding.TheVariants.{Whole}
use Rattle.frame_codec.specs.Frame.{Content}
use Rattle.frame_codec.specs.Frame.Content.{FullLeaf, DeltaLeaf, FullIndex, DeltaIndex, Free}
use Rattle.flush_log.proofs.Literals.{pair, set, frame}
use Rattle.recovery.specs.LogPages.{pids_of, broken_in}
use Rattle.recovery.specs.PageByLog.{page_by_log}
use Rattle.recovery.specs.PageByLog.InLog.{Missing, Present, Broken}

abbrev base : Content
base = FullLeaf Whole [] (pair "a" "1" ∷ [])

abbrev run : Content
run = DeltaLeaf (set "a" "2" ∷ [])

abbrev newer_run : Content
newer_run = DeltaLeaf (set "a" "3" ∷ [])

abbrev other_run : Content
other_run = DeltaIndex ((codes "a", None) ∷ [])

-- the newest run is the last one in the log, and the first one in the page
runs_after_a_base : page_by_log (base ∷ run ∷ newer_run ∷ [])
    ≡ Present (Leaf (record { low = []; layers = record { runs = (set "a" "3" ∷ []) ∷ (set "a" "2" ∷ []) ∷ []; base = pair "a" "1" ∷ [] } }))
runs_after_a_base = refl

-- runs from before the last base don't count, whatever their kind; nor do a free frame and earlier frames
last_base_alone : page_by_log (base ∷ run ∷ other_run ∷ base ∷ []) ≡ Present (Leaf (record { low = []; layers = record { runs = []; base = pair "a" "1" ∷ [] } }))
last_base_alone = refl

free_run_base : page_by_log (Free ∷ run ∷ FullIndex Whole [] [] ∷ []) ≡ Present (Index (record { low = []; layers = record { runs = []; base = [] } }))
free_run_base = refl

-- no page and no finding
free_at_the_end : page_by_log (base ∷ other_run ∷ Free ∷ []) ≡ Missing
free_at_the_end = refl

runs_alone : page_by_log (run ∷ other_run ∷ []) ≡ Missing
runs_alone = refl

nothing : page_by_log [] ≡ Missing
nothing = refl

-- finding 1: a run after the last free frame, or one of the other kind after the last base
run_after_free : page_by_log (base ∷ Free ∷ run ∷ []) ≡ Broken
run_after_free = refl

other_kind : page_by_log (base ∷ run ∷ other_run ∷ run ∷ []) ≡ Broken
other_kind = refl

-- of two pids that have it, the least is found
least_pid : broken_in (frame 7 Free ∷ frame 3 base ∷ frame 7 run ∷ frame 3 other_run ∷ frame 1 run ∷ []) ≡ Some (record { rule = 1; pid = 3 })
least_pid = refl

each_pid_once : pids_of (frame 7 Free ∷ frame 3 base ∷ frame 7 run ∷ frame 1 run ∷ []) ≡ 1 ∷ 3 ∷ 7 ∷ []
each_pid_once = refl
