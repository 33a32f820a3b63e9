-- The pages that replace the groups of a level's pages.
use Rattle.std.specs.Prelude.{◌≡◌, ℕ, suc, ◌+◌, ◌⊎◌, Bool, true, false, ◌||◌, List, [], ◌∷◌, map, flat_map, drop, length, if◌then◌else◌}
use Rattle.std.specs.List.{filter, Any}
use Rattle.keys.specs.Bytes.{Bytes, Pairs}
use Rattle.keys.specs.declared.settings.Settings.{Settings}
use Rattle.index_page.specs.Page.{bare, first_key}
use Rattle.mapping.specs.Levels.{Placed, joined}
use Rattle.mapping.specs.FreshPids.{unused}
use Rattle.split_plan.specs.Cut.{cut}
use Rattle.split_plan.specs.Groups.{groups}
use Rattle.page_runs.specs.Updated.{Updated, is_thin, is_fat}
use Rattle.split_plan.specs.UpdatedLevel.{placed_of}

-- a group: its members after their runs, and the pages that replace them
pub record Change (V : Type 0) : Type 0 where
  pub members : List (Updated V)
  pub pages : List (Placed V)

-- a page under a pid
abbrev pub placed_bare : {V : Type 0} → ℕ → Bytes → Pairs V → Placed V
placed_bare pid low base = record { pid = pid; page = bare low base }

-- new pages, each with its first key as its low key, given that i fresh pids are already allocated
abbrev pub fresh_pages : {V : Type 0} → List ℕ → ℕ → List (Pairs V) → List (Placed V)
fresh_pages used i [] = []
fresh_pages used i (b ∷ bs) = placed_bare (unused used i) (first_key b) b ∷ fresh_pages used (suc i) bs

-- the first page has the first member's pid and low key, the others are new pages
abbrev pub replacements : {V : Type 0} → List ℕ → ℕ → Placed V → List (Pairs V) → List (Placed V)
replacements used i first [] = []
replacements used i first (b ∷ bs) = placed_bare first.pid first.page.low b ∷ fresh_pages used i bs

-- a group of two or more members is rewritten, and so is a single fat member
abbrev pub is_rewritten : {V : Type 0} → List (Updated V) → Bool
is_rewritten [] = false
is_rewritten (w ∷ []) = is_fat w
is_rewritten (w ∷ v ∷ ws) = true

-- the pages that replace a group: its members' entries joined and split, or else its members
abbrev pub remade : {V : Type 0} → Settings → List ℕ → ℕ → List (Updated V) → List (Placed V)
remade s used i [] = []
remade s used i (w ∷ ws) =
    if is_rewritten (w ∷ ws) then replacements used i w.placed (cut s.fan (joined (placed_of (w ∷ ws)))) else placed_of (w ∷ ws)

-- the freed pages, and the new ones
abbrev pub freed_by : {V : Type 0} → Change V → List (Placed V)
freed_by c = drop 1 (placed_of c.members)

abbrev pub fresh : {V : Type 0} → Change V → List (Placed V)
fresh c = drop 1 c.pages

-- the changes of groups, from left to right, given that i fresh pids are already allocated
abbrev pub changes : {V : Type 0} → Settings → List ℕ → ℕ → List (List (Updated V)) → List (Change V)
changes s used i [] = []
changes s used i (g ∷ gs) =
    let c : Change _ = record { members = g; pages = remade s used i g } in
    c ∷ changes s used (i + length (fresh c)) gs

-- for the groups of one parent: all pages after the changes, and the new ones among them
abbrev pub new_of : {V : Type 0} → List (Change V) → List (Placed V)
new_of cs = flat_map (λ c. c.pages) cs

abbrev pub fresh_of : {V : Type 0} → List (Change V) → List (Placed V)
fresh_of cs = flat_map fresh cs

-- the changes of the children of each parent, from left to right, given that i fresh pids are already allocated
abbrev pub family_changes : {V : Type 0} → Settings → List ℕ → ℕ → List (List (Updated V)) → List (List (Change V))
family_changes s used i [] = []
family_changes s used i (f ∷ fs) =
    let cs : List (Change _) = changes s used i (groups is_thin f) in
    cs ∷ family_changes s used (i + length (fresh_of cs)) fs

-- the same for all parents of a level
abbrev pub all_new : {V : Type 0} → List (List (Change V)) → List (Placed V)
all_new css = flat_map new_of css

abbrev pub all_fresh : {V : Type 0} → List (List (Change V)) → List (Placed V)
all_fresh css = flat_map fresh_of css

-- the pids whose log state becomes outdated, because the page was replaced, rewritten or freed
abbrev pub outdated : {V : Type 0} → Change V → List ℕ
outdated c = map (λ w. w.placed.pid) (filter (λ w. w.replaced || is_rewritten c.members) c.members)

-- the same for all parents of a level
abbrev pub all_outdated : {V : Type 0} → List (List (Change V)) → List ℕ
all_outdated css = flat_map (λ cs. flat_map outdated cs) css

-- the pid is that of a replaced member of the group, or of any member if the group is rewritten
abbrev pub IsOutdatedIn : {V : Type 0} → List (Updated V) → ℕ → Type 0
IsOutdatedIn g pid = Any (λ w. (w.placed.pid ≡ pid) × ((w.replaced ≡ true) ⊎ (is_rewritten g ≡ true))) g
