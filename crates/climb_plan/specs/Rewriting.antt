-- Which groups of a level are rewritten, and their new pages, for pages of either kind, in the code's form.
use Rattle.std.specs.Prelude.{◌≡◌, ℕ, ◌+◌, ◌-◌, ◌<◌, ◌≤◌, ⊤, Bool, false, true, List, [], ◌∷◌, ◌++◌, map, flat_map, take, drop, length, Some, None, Vec}
use Rattle.std.specs.List.{filter, AllByRecursion, range_with_len}
use Rattle.keys.specs.Bytes.{Bytes, Changes, Separators}
use Rattle.keys.specs.Lists.{flat}
use Rattle.keys.specs.Order.{IsRising}
use Rattle.keys.specs.declared.settings.Settings.{Settings}
use Rattle.delta_chain.specs.Layers.{with_run}
use Rattle.index_page.specs.InMemory.{page_shown}
use Rattle.index_page.specs.Page.{PageOfKind, low_of}
use Rattle.index_page.specs.Page.PageOfKind.{Index}
use Rattle.index_page.specs.Children.{children, is_place_for}
use Rattle.index_page.specs.Range.{AreBelow, AreFrom}
use Rattle.index_page.specs.Rules.{IsHeaded, is_same_key}
use Rattle.mapping.specs.Levels.{Placed, entries, joined, names, top_pid}
use Rattle.mapping.specs.FreshPids.{unused}
use Rattle.mapping.specs.Proper.{next_low, Tiled, Stacked}
use Rattle.mapping.specs.Table.{Mapping, page_of}
use Rattle.mapping.specs.TreeInMemory.{TreeInMemory}
use Rattle.page_runs.specs.declared.class.Class.TheVariants.{Same}
use Rattle.page_runs.specs.Updated.{is_thin_class, is_fat_class}
use Rattle.split_plan.specs.Groups.{groups}
use Rattle.split_plan.specs.Pieces.{group_made, CanJoin}
use Rattle.split_plan.specs.Terms.{absent, present}
use Rattle.climb_plan.specs.Changing.{SeenPage, needs_restructuring}
use Rattle.climb_plan.specs.declared.seen.Seen.{Seen}

-- ---- views of pages

-- the page in a view
abbrev pub seen_now : Seen → SeenPage
seen_now x = record { pid = x.pid; page = page_shown x.page.now; class = x.class; replaced = x.replaced }

abbrev pub all_seen : List Seen → List SeenPage
all_seen xs = map seen_now xs

-- the same for groups of pages
abbrev pub groups_seen : {A : Type 0} → List (Vec Seen A) → List (List SeenPage)
groups_seen gs = map (λ g. all_seen g.items) gs

-- the page's entry in its parent
abbrev pub seen_name : SeenPage → Bytes × ℕ
seen_name x = (low_of x.page, x.pid)

abbrev pub is_thin_seen : SeenPage → Bool
is_thin_seen x = is_thin_class x.class

-- a group of two or more members is rewritten, and so is a single fat member
abbrev pub is_rewritten_seen : List SeenPage → Bool
is_rewritten_seen [] = false
is_rewritten_seen (x ∷ []) = is_fat_class x.class
is_rewritten_seen (x ∷ y ∷ xs) = true

-- the pages of a level that got a run, in order; each other page is in the table
pub data AreSeenIn (t : Mapping PageOfKind) : List SeenPage → List SeenPage → Type 0 where
  none : AreSeenIn t [] []
  updated : {xs all : List SeenPage} → (x : SeenPage) → AreSeenIn t xs all → AreSeenIn t (x ∷ xs) (x ∷ all)
  at_home : {xs all : List SeenPage} → (x : SeenPage) → x.class ≡ Same → x.replaced ≡ false → page_of t x.pid ≡ Some x.page → AreSeenIn t xs all → AreSeenIn t xs (x ∷ all)

-- ---- groups

-- those groups of one parent's children that are rewritten
abbrev pub rewritten_groups : List SeenPage → List (List SeenPage)
rewritten_groups f = filter is_rewritten_seen (groups is_thin_seen f)

-- a parent with such groups
pub record Rewriting : Type 0 where
  pub parent : ℕ
  pub groups : List (List SeenPage)

-- the list with this parent in front, unless it has no such groups
abbrev pub with_rewriting : ℕ → List (List SeenPage) → List Rewriting → List Rewriting
with_rewriting pid [] rs = rs
with_rewriting pid (g ∷ gs) rs = record { parent = pid; groups = g ∷ gs } ∷ rs

-- the parents of a level that have such groups, from left to right
abbrev pub rewriting_families : List (Placed ℕ) → List SeenPage → List Rewriting
rewriting_families [] all = []
rewriting_families (p ∷ ps) all = with_rewriting p.pid (rewritten_groups (take (length (entries p)) all)) (rewriting_families ps (drop (length (entries p)) all))

-- each such parent with the number of its groups that are rewritten, and all these groups
abbrev pub rewriting_counts : List Rewriting → List (ℕ × ℕ)
rewriting_counts rs = map (λ r. (r.parent, length r.groups)) rs

abbrev pub groups_of : List Rewriting → List (List SeenPage)
groups_of rs = flat_map (λ r. r.groups) rs

-- ---- the levels above

-- the levels from these parents up, as a tree in memory has them, where the parents are `depth` levels below the root
pub record AreParents (t : TreeInMemory) (depth : ℕ) (ps : List (Placed ℕ)) (ups : List (List (Placed ℕ))) : Type 0 where
  pub home : AllByRecursion (AllByRecursion (λ p. page_of t.table p.pid ≡ Some (Index p.page))) (ps ∷ ups)
  pub headed : AllByRecursion (λ p. IsHeaded 1 p.page) ps
  pub tiled : Tiled ps None
  pub first : next_low ps None ≡ Some []
  pub stacked : Stacked ps ups
  pub root : t.root ≡ top_pid ps ups
  pub far : depth ≡ length ups

-- a level of pages under these parents, and those pages that got a run
pub record IsLevelSeen (t : TreeInMemory) (depth : ℕ) (xs all : List SeenPage) (ps : List (Placed ℕ)) (ups : List (List (Placed ℕ))) : Type 0 where
  pub seen : AreSeenIn t.table xs all
  pub linked : joined ps ≡ map seen_name all
  pub parents : AreParents t depth ps ups

-- there is such a level
abbrev pub SomeLevelSeen : TreeInMemory → ℕ → List SeenPage → Type 0
SomeLevelSeen t depth xs =
    (all : List SeenPage) × (ps : List (Placed ℕ)) × (ups : List (List (Placed ℕ))) × IsLevelSeen t depth xs all ps ups

-- a property of its pages and their parents
abbrev pub OfLevelSeen : TreeInMemory → ℕ → List SeenPage → (List SeenPage → List (Placed ℕ) → Type 0) → Type 0
OfLevelSeen t depth xs P =
    (all : List SeenPage) (ps : List (Placed ℕ)) (ups : List (List (Placed ℕ))) → IsLevelSeen t depth xs all ps ups → P all ps

-- ---- the search for families

-- the page is neither thin nor fat
abbrev pub IsQuiet : SeenPage → Type 0
IsQuiet x = needs_restructuring x.class ≡ false

-- the low keys of pages
abbrev pub lows : List SeenPage → List Bytes
lows xs = map (λ x. low_of x.page) xs

-- the first of these pages that is thin or fat, with those before it and those after it
pub record IsFirstCall (xs quiet : List SeenPage) (x : SeenPage) (more : List SeenPage) : Type 0 where
  pub parted : xs ≡ quiet ++ x ∷ more
  pub none_earlier : AllByRecursion IsQuiet quiet
  pub call : needs_restructuring x.class ≡ true

-- the key is the low key of the first page that is thin or fat
abbrev pub HasFirstCall : List SeenPage → Bytes → Type 0
HasFirstCall xs low = (quiet : List SeenPage) × (x : SeenPage) × (more : List SeenPage) × IsFirstCall xs quiet x more × (low ≡ low_of x.page)

-- the pids of those pages of a level whose range contains the key
abbrev pub pids_for : List (Placed ℕ) → Bytes → List ℕ
pids_for ps k = map (λ at. at.pid) (filter (is_place_for k) (children (names ps) None))

-- pages whose low keys are below a key, and pages whose low keys are not
pub record AreParted (k : Bytes) (xs before from : List SeenPage) : Type 0 where
  pub joined : xs ≡ before ++ from
  pub below : AreBelow k (lows before)
  pub others : AreFrom k (lows from)

-- whether the first of these pages has this low key
abbrev pub begins_at : Bytes → List SeenPage → Bool
begins_at low [] = false
begins_at low (x ∷ xs) = is_same_key (low_of x.page) low

-- the first of the remaining pages of a level, where these pages got a run
pub record IsNextChild (t : Mapping PageOfKind) (xs : List SeenPage) (low : Bytes) (pid : ℕ) (x : SeenPage) (later : List SeenPage) : Type 0 where
  pub seen : AreSeenIn t xs (x ∷ later)
  pub same_low : low ≡ low_of x.page
  pub same_pid : pid ≡ x.pid
  pub rising : IsRising (map seen_name (x ∷ later))

-- a parent with its children and the later pages of the level; and the pages that got a run, split into those before its children and the others
pub record FamilySeen : Type 0 where
  pub parent : Placed ℕ
  pub before : List SeenPage
  pub from : List SeenPage
  pub children : List SeenPage
  pub later : List SeenPage

-- it is a family of this level
pub record IsFamilyOf (t : Mapping PageOfKind) (xs : List SeenPage) (f : FamilySeen) : Type 0 where
  pub home : page_of t f.parent.pid ≡ Some (Index f.parent.page)
  pub parted : AreParted f.parent.page.low xs f.before f.from
  pub seen : AreSeenIn t f.from (f.children ++ f.later)
  pub linked : entries f.parent ≡ map seen_name f.children
  pub rising : IsRising (map seen_name (f.children ++ f.later))

-- there is such a family of this parent
abbrev pub SomeFamily : Mapping PageOfKind → List SeenPage → ℕ → Type 0
SomeFamily t xs pid = (f : FamilySeen) × (pid ≡ f.parent.pid) × IsFamilyOf t xs f

-- a property of the family of this parent
abbrev pub OfFamily : Mapping PageOfKind → List SeenPage → ℕ → (FamilySeen → Type 0) → Type 0
OfFamily t xs pid P = (f : FamilySeen) → pid ≡ f.parent.pid → IsFamilyOf t xs f → P f

-- ---- new pages of groups

-- a rewritten group: its members' pids, its new pages, and the pids of all new pages but the first
pub record Remade : Type 0 where
  pub members : List ℕ
  pub pieces : List PageOfKind
  pub fresh : List ℕ

-- a group after the split; its new pages have no pids yet
abbrev pub cut_group : Settings → List SeenPage → Remade
cut_group s g = record { members = map (λ x. x.pid) g; pieces = group_made s (map (λ x. x.page) g); fresh = [] }

-- each group with its new pages
abbrev pub joined_groups : List (List SeenPage) → List (List PageOfKind) → List Remade
joined_groups [] made = []
joined_groups (g ∷ gs) [] = []
joined_groups (g ∷ gs) (pages ∷ made) = record { members = map (λ x. x.pid) g; pieces = pages; fresh = [] } ∷ joined_groups gs made

-- groups that can be split
abbrev pub CanBeCut : List (List SeenPage) → Type 0
CanBeCut gs = AllByRecursion (λ g. CanJoin (map (λ x. x.page) g)) gs

-- lists of entries in the code's form
abbrev pub all_names : {A : Type 0} → List (Vec (Bytes × ℕ) A) → List Separators
all_names lists = map (λ names. names.items) lists

-- the parents' entries of the freed members
abbrev pub freed_names : List SeenPage → Separators
freed_names g = map seen_name (drop 1 g)

-- each group has a page
abbrev pub HaveSome : List Remade → Type 0
HaveSome rs = AllByRecursion (λ r. 0 < length r.pieces) rs

-- the pids for the new pages, from left to right, given that i pids are already allocated
abbrev pub with_numbers : List ℕ → ℕ → List Remade → List Remade
with_numbers used i [] = []
with_numbers used i (r ∷ rs) =
    let n : ℕ = length r.pieces - 1 in
    record { members = r.members; pieces = r.pieces; fresh = map (unused used) (range_with_len i n) } ∷ with_numbers used (i + n) rs

-- the number of these pids
abbrev pub numbers : List Remade → ℕ
numbers [] = 0
numbers (r ∷ rs) = (length r.pieces - 1) + numbers rs

-- the entries of pages with these pids
abbrev pub named_pages : List PageOfKind → List ℕ → Separators
named_pages [] pids = []
named_pages (p ∷ ps) [] = []
named_pages (p ∷ ps) (pid ∷ pids) = (low_of p, pid) ∷ named_pages ps pids

-- the entries of a group's new pages
abbrev pub fresh_names : Remade → Separators
fresh_names r = named_pages (drop 1 r.pieces) r.fresh

-- the entries of all pages of a group, the first one under the first member's pid
abbrev pub group_names : Remade → Separators
group_names r = named_pages r.pieces (take 1 r.members ++ r.fresh)

-- the entries of the pages of the highest level: those of this group's pages, or of the unchanged root if there is no group
abbrev pub top_names : ℕ → List Remade → Separators
top_names root [] = ([], root) ∷ []
top_names root (r ∷ rs) = group_names r

-- the run of a parent's terms, from the freed entries of its groups and the entries of the new pages
abbrev pub terms_of : List Separators → List Remade → Changes ℕ
terms_of fs rs = with_run (absent (flat fs)) (present (flat_map fresh_names rs))

-- each parent, given with the number of its groups, with the run of its terms
abbrev pub terms_by_parent : List (ℕ × ℕ) → List Separators → List Remade → List (ℕ × Changes ℕ)
terms_by_parent [] fs rs = []
terms_by_parent (c ∷ cs) fs rs = (c.0, terms_of (take c.1 fs) (take c.1 rs)) ∷ terms_by_parent cs (drop c.1 fs) (drop c.1 rs)

-- the parents that get terms
abbrev pub term_parents : List (ℕ × ℕ) → List Separators → List Remade → List ℕ
term_parents cs fs rs = map (λ t. t.0) (terms_by_parent cs fs rs)

-- there are as many groups as the parents' numbers say, and terms can be made of their entries, because these rise
abbrev pub CanTakeTerms : List (ℕ × ℕ) → List Separators → List Remade → Type 0
CanTakeTerms [] fs rs = ⊤
CanTakeTerms (c ∷ cs) fs rs =
    (c.1 ≤ length fs) × (c.1 ≤ length rs) × IsRising (flat (take c.1 fs)) × IsRising (flat_map fresh_names (take c.1 rs))
    × CanTakeTerms cs (drop c.1 fs) (drop c.1 rs)
