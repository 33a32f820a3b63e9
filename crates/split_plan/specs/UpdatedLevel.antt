-- The pages of a level after runs.
use Rattle.std.specs.Prelude.{not, List, [], ◌∷◌, map}
use Rattle.std.specs.List.{filter}
use Rattle.keys.specs.Bytes.{Bytes, Pairs, Changes}
use Rattle.keys.specs.declared.settings.Settings.{Settings}
use Rattle.index_page.specs.Range.{is_below}
use Rattle.mapping.specs.Levels.{Placed}
use Rattle.page_runs.specs.Updated.{Updated, updated}

-- the changes of a run to keys below k, and the others
abbrev pub part_below : {X : Type 0} → Bytes → Pairs X → Pairs X
part_below k run = filter (λ c. is_below c.0 k) run

abbrev pub part_from : {X : Type 0} → Bytes → Pairs X → Pairs X
part_from k run = filter (λ c. not (is_below c.0 k)) run

-- the pages of a level, each after its part of a run: the changes below the next page's low key, and for each page except the first those not below
-- its own
abbrev pub updated_leaves : {V : Type 0} → Settings → Changes V → List (Placed V) → List (Updated V)
updated_leaves s run [] = []
updated_leaves s run (p ∷ []) = updated s p run ∷ []
updated_leaves s run (p ∷ q ∷ ps) = updated s p (part_below q.page.low run) ∷ updated_leaves s (part_from q.page.low run) (q ∷ ps)

-- the pages of a level, each after a run of its own
abbrev pub updated_parents : {V : Type 0} → Settings → List (Placed V) → List (Changes V) → List (Updated V)
updated_parents s [] runs = []
updated_parents s (p ∷ ps) [] = updated s p [] ∷ updated_parents s ps []
updated_parents s (p ∷ ps) (run ∷ runs) = updated s p run ∷ updated_parents s ps runs

-- the pages
abbrev pub placed_of : {V : Type 0} → List (Updated V) → List (Placed V)
placed_of ws = map (λ w. w.placed) ws
