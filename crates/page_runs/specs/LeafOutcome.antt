-- Undoing a run on a leaf in memory.
use Rattle.std.specs.Prelude.{◌<◌, ◌≤◌, ⊤, Bool, true, false, length}
use Rattle.keys.specs.Bytes.{Bytes}
use Rattle.delta_chain.specs.Lazy.{Lazy}
use Rattle.page_runs.specs.Outcome.{popped, page_before, CanUndo, class_now, is_replaced_now}
use Rattle.page_runs.specs.declared.class.Class.{Class}
use Rattle.page_runs.specs.declared.class.Class.TheVariants.{Same as SameClass, Changed}
use Rattle.page_runs.specs.declared.leaf_after.LeafWayBack.{LeafWayBack}
use Rattle.page_runs.specs.declared.leaf_after.LeafWayBack.TheVariants.{Same, InFront, AllMerged, Replaced}

-- the leaf without its newest run, with the same number of runs counted as merged
abbrev pub without_newest : {V : Type 0} → Lazy V → Lazy V
without_newest c = record { chain = popped c.chain; merged_runs = c.merged_runs }

-- the leaf before the run, from the leaf now and what undoes the run
abbrev pub leaf_before : Lazy Bytes → LeafWayBack → Lazy Bytes
leaf_before c Same = c
leaf_before c InFront = without_newest c
leaf_before c (AllMerged class merged_runs) = record { chain = popped c.chain; merged_runs = merged_runs }
leaf_before c (Replaced way_back merged_runs) = record { chain = page_before c.chain way_back.value; merged_runs = merged_runs }

-- there is a run to remove, if one must be removed, and no more runs counted as merged than there were
abbrev pub CanUndoLeaf : Lazy Bytes → LeafWayBack → Type 0
CanUndoLeaf c Same = ⊤
CanUndoLeaf c InFront = c.merged_runs < length c.chain.runs
CanUndoLeaf c (AllMerged class merged_runs) = merged_runs < length c.chain.runs
CanUndoLeaf c (Replaced way_back merged_runs) = CanUndo c.chain way_back.value × (merged_runs ≤ length (page_before c.chain way_back.value).runs)

-- the class of the leaf after the run
abbrev pub leaf_class_now : LeafWayBack → Class
leaf_class_now Same = SameClass
leaf_class_now InFront = Changed
leaf_class_now (AllMerged class merged_runs) = class
leaf_class_now (Replaced way_back merged_runs) = class_now way_back.value

-- whether it is a base without runs
abbrev pub is_leaf_replaced_now : LeafWayBack → Bool
is_leaf_replaced_now Same = false
is_leaf_replaced_now InFront = false
is_leaf_replaced_now (AllMerged class merged_runs) = true
is_leaf_replaced_now (Replaced way_back merged_runs) = is_replaced_now way_back.value
