-- The violations of a tree's structure: the least finding, by the walk from its root.
use Rattle.std.specs.Prelude.{ℕ, zero, suc, pred, Bool, not, List, [], ◌∷◌, ◌++◌, map, flat_map, Option, Some, None, if◌then◌else◌}
use Rattle.keys.specs.Bytes.{Bytes}
pub use Rattle.keys.specs.Finding.{Finding}
use Rattle.keys.specs.declared.settings.Settings.{Settings}
use Rattle.index_page.specs.Page.{Page, PageOfKind, entries}
use Rattle.index_page.specs.Page.PageOfKind.{Leaf, Index}
use Rattle.index_page.specs.Children.{Place, children}
use Rattle.index_page.specs.Rules.{keeps_range, fits_sizes, fits_depth, is_headed, is_same_key, is_short_value, is_any_pid}
use Rattle.mapping.specs.Tree.{Tree, page_at}
use Rattle.mapping.specs.FreshPids.{is_among}

-- rules 4 to 7, each with its number, for a page of either kind: its low key is the place's; its keys rise and lie in its range; its sizes; its depth
abbrev pub common_rules : {V : Type 0} → Settings → (V → Bool) → Place → Page V → List (ℕ × Bool)
common_rules s is_short at p =
    (4, is_same_key p.low at.low) ∷ (5, keeps_range at.low at.end p) ∷ (6, fits_sizes s is_short p) ∷ (7, fits_depth s p) ∷ []

-- rule 8 of an index page: its first child is at its low key, and it has at least `least` children
abbrev pub child_rule : ℕ → Page ℕ → ℕ × Bool
child_rule least p = (8, is_headed least p)

-- rule 9: the walk has not visited the pid before
abbrev pub pid_rule : List ℕ → Place → ℕ × Bool
pid_rule met at = (9, not (is_among at.pid met))

-- the first rule that fails
abbrev pub first_broken : List (ℕ × Bool) → Option ℕ
first_broken [] = None
first_broken (r ∷ rs) = if r.1 then first_broken rs else Some r.0

-- the least rule that fails at a place on the lowest level; 2: there is no such page; 3: it is an index page
abbrev pub broken_leaf : Settings → List ℕ → Place → Option PageOfKind → Option ℕ
broken_leaf s met at None = Some 2
broken_leaf s met at (Some (Index p)) = Some 3
broken_leaf s met at (Some (Leaf p)) = first_broken (common_rules s (is_short_value s) at p ++ pid_rule met at ∷ [])

-- the least rule that fails at a place above; 2: there is no such page; 3: it is a leaf
abbrev pub broken_index : Settings → ℕ → List ℕ → Place → Option PageOfKind → Option ℕ
broken_index s least met at None = Some 2
broken_index s least met at (Some (Leaf p)) = Some 3
broken_index s least met at (Some (Index p)) = first_broken (common_rules s is_any_pid at p ++ child_rule least p ∷ pid_rule met at ∷ [])

-- the first of two findings
abbrev pub or_else : Option Finding → Option Finding → Option Finding
or_else None later = later
or_else (Some f) later = Some f

abbrev pub found_at : Place → Option ℕ → Option Finding
found_at at None = None
found_at at (Some rule) = Some (record { rule = rule; pid = at.pid })

-- the first finding of a level, from left to right, by the test for its places, where these pids have been visited
abbrev pub on_level : (List ℕ → Place → Option ℕ) → List ℕ → List Place → Option Finding
on_level broken met [] = None
on_level broken met (at ∷ ats) = or_else (found_at at (broken met at)) (on_level broken (at.pid ∷ met) ats)

-- rule 10: the first listed page that the walk has not visited; it has the least such pid, because the pids of a table rise
abbrev pub unmet : List ℕ → List (ℕ × PageOfKind) → Option Finding
unmet met [] = None
unmet met (p ∷ ps) = if is_among p.0 met then unmet met ps else Some (record { rule = 10; pid = p.0 })

-- the places of a page's children
abbrev pub children_of_page : Option Bytes → Option PageOfKind → List Place
children_of_page end (Some (Index p)) = children (entries p) end
children_of_page end _ = []

abbrev pub children_at : List (ℕ × PageOfKind) → Place → List Place
children_at ps at = children_of_page at.end (page_at ps at.pid)

abbrev pub all_met : List ℕ → List Place → List ℕ
all_met met ats = map (λ at. at.pid) ats ++ met

-- the first finding from these places down, with n levels of index pages, whose pages must have at least `least` children
abbrev pub finding_below : Settings → List (ℕ × PageOfKind) → ℕ → ℕ → List ℕ → List Place → Option Finding
finding_below s ps zero least met ats =
    or_else (on_level (λ m at. broken_leaf s m at (page_at ps at.pid)) met ats) (unmet (all_met met ats) ps)
finding_below s ps (suc n) least met ats =
    or_else (on_level (λ m at. broken_index s least m at (page_at ps at.pid)) met ats)
    (finding_below s ps n 1 (all_met met ats) (flat_map (children_at ps) ats))

-- the place of the root: all keys
abbrev pub root_place : Tree → Place
root_place t = record { pid = t.root; low = []; end = None }

-- the least finding: level by level from the root, within a level from left to right, at a page by the least rule; last, rule 10 by the least pid
abbrev pub finding : Settings → Tree → Option Finding
finding s t = finding_below s t.pages (pred t.height) 2 [] (root_place t ∷ [])
