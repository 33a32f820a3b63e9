-- Proper trees. This is the proposition; the test is `finding`.
use Rattle.std.specs.Prelude.{◌≡◌, ◌≢◌, ℕ, ◌<◌, ◌≤◌, true, ⊤, List, [], ◌∷◌, length, Option, Some, None}
use Rattle.std.specs.List.{AllByRecursion}
use Rattle.std.specs.Map.{keys_of}
use Rattle.keys.specs.Bytes.{Bytes}
use Rattle.keys.specs.declared.settings.Settings.{Settings}
use Rattle.index_page.specs.Page.{PageOfKind}
use Rattle.index_page.specs.Page.PageOfKind.{Leaf, Index}
use Rattle.index_page.specs.Range.{IsBefore}
use Rattle.index_page.specs.Rules.{KeepsRange, Fits, IsHeaded, IsShortValue, IsAnyPid}
use Rattle.mapping.specs.Tree.{Logged, Tree, page_at}
use Rattle.mapping.specs.Tree.Logged.{No, Old, Upto}
use Rattle.mapping.specs.Levels.{Placed, Levels, joined, names, all_pids, levels_of}
use Rattle.mapping.specs.FreshPids.{is_among}

-- ---- ranges

-- the low key of the first of the pages, or the end if there is no page
abbrev pub next_low : {V : Type 0} → List (Placed V) → Option Bytes → Option Bytes
next_low [] end = end
next_low (p ∷ ps) end = Some p.page.low

-- each page's keys are at or above its low key, and below the next page's low key, which is greater
pub record IsTile {V : Type 0} (end : Option Bytes) (p : Placed V) : Type 0 where
  pub keys : KeepsRange p.page.low end p.page
  pub low : IsBefore end p.page.low

abbrev pub Tiled : {V : Type 0} → List (Placed V) → Option Bytes → Type 0
Tiled [] end = ⊤
Tiled (p ∷ ps) end = IsTile (next_low ps end) p × Tiled ps end

-- ---- levels

-- a level of parents: their concatenated entries are the low keys and pids of the pages below; each parent has a child, and its first child is at its
-- own low key
pub record IsParentOf {V : Type 0} (level : List (Placed V)) (up : List (Placed ℕ)) : Type 0 where
  pub linked : joined up ≡ names level
  pub headed : AllByRecursion (λ p. IsHeaded 1 p.page) up
  pub tiled : Tiled up None

-- each level consists of the parents of the one below it, and the last level is one page
abbrev pub Stacked : {V : Type 0} → List (Placed V) → List (List (Placed ℕ)) → Type 0
Stacked level [] = length level ≡ 1
Stacked level (up ∷ ups) = IsParentOf level up × Stacked up ups

-- the pages of the highest level have at least two children
abbrev pub IsBranchedTop : List (List (Placed ℕ)) → Type 0
IsBranchedTop [] = ⊤
IsBranchedTop (up ∷ []) = AllByRecursion (λ p. IsHeaded 2 p.page) up
IsBranchedTop (up ∷ next ∷ ups) = IsBranchedTop (next ∷ ups)

-- no number occurs twice
abbrev pub Distinct : List ℕ → Type 0
Distinct [] = ⊤
Distinct (n ∷ ns) = AllByRecursion (λ m. m ≢ n) ns × Distinct ns

-- the leaves tile all keys, the levels above describe those below, under one root with two children or more; no pid occurs twice
pub record AreLevels (l : Levels) : Type 0 where
  pub first : next_low l.level None ≡ Some []
  pub tiled : Tiled l.level None
  pub stacked : Stacked l.level l.above
  pub top : IsBranchedTop l.above
  pub distinct : Distinct (all_pids l.level l.above)

-- each page is within the settings
pub record AllFit (s : Settings) (l : Levels) : Type 0 where
  pub leaves : AllByRecursion (λ p. Fits s (IsShortValue s) p.page) l.level
  pub above : AllByRecursion (AllByRecursion (λ p. Fits s IsAnyPid p.page)) l.above

-- ---- the table

-- each is below all later ones
abbrev pub AreRisingPids : List ℕ → Type 0
AreRisingPids [] = ⊤
AreRisingPids (n ∷ ns) = AllByRecursion (λ m. n < m) ns × AreRisingPids ns

-- the table has the leaves, and the index pages
abbrev pub HasLeaves : List (ℕ × PageOfKind) → List (Placed Bytes) → Type 0
HasLeaves ps level = AllByRecursion (λ p. page_at ps p.pid ≡ Some (Leaf p.page)) level

abbrev pub HasIndexPages : List (ℕ × PageOfKind) → List (Placed ℕ) → Type 0
HasIndexPages ps up = AllByRecursion (λ p. page_at ps p.pid ≡ Some (Index p.page)) up

-- the table has the pages of the levels under their pids, and no other page
pub record HoldsLevels (ps : List (ℕ × PageOfKind)) (l : Levels) : Type 0 where
  pub leaves : HasLeaves ps l.level
  pub above : AllByRecursion (HasIndexPages ps) l.above
  pub no_other : AllByRecursion (λ pid. is_among pid (all_pids l.level l.above) ≡ true) (keys_of ps)

-- a tree's table holds the levels that are found from its root
abbrev pub HoldsItsLevels : Tree → Type 0
HoldsItsLevels t = HoldsLevels t.pages (levels_of t)

-- what holds for any store: the table's pids rise, and there is a level
pub record IsTree (t : Tree) : Type 0 where
  pub rising : AreRisingPids (keys_of t.pages)
  pub some : 0 < t.height

-- ---- log states

-- the page has at least k runs
abbrev pub HasRuns : ℕ → PageOfKind → Type 0
HasRuns k (Leaf p) = k ≤ length p.layers.runs
HasRuns k (Index p) = k ≤ length p.layers.runs

-- what is listed of a pid with this page is true: `No` is never listed, and `Upto k` only if there is a page with at least k runs
abbrev pub IsTrueOf : Option PageOfKind → Logged → Type 0
IsTrueOf p No = ⊥
IsTrueOf p Old = ⊤
IsTrueOf None (Upto k) = ⊥
IsTrueOf (Some p) (Upto k) = HasRuns k p

-- each log state is listed once, by rising pid, and is true of the page
pub record AreLogsTrue (t : Tree) : Type 0 where
  pub rising : AreRisingPids (keys_of t.logged)
  pub each : AllByRecursion (λ l. IsTrueOf (page_at t.pages l.0) l.1) t.logged

-- ---- everything together

-- a proper tree
pub record IsProper (s : Settings) (t : Tree) : Type 0 where
  pub tree : IsTree t
  pub held : HoldsLevels t.pages (levels_of t)
  pub levels : AreLevels (levels_of t)
  pub fit : AllFit s (levels_of t)
