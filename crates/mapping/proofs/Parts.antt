-- A proper tree, level by level: properties of each level under those above it.
use Rattle.std.specs.Prelude.{◌≡◌, ℕ, ◌≤◌, true, ◌↔◌, ⊤, List, [], ◌∷◌, flat_map, length, Some, None}
use Rattle.std.proofs.Common.{sym, ap, ◌∙◌, arith}
use Rattle.std.specs.List.{AllByRecursion}
use Rattle.std.specs.Map.{keys_of}
use Rattle.std.proofs.lemmas.List.{length-map}
use Rattle.keys.specs.declared.settings.Settings.{Settings}
use Rattle.index_page.specs.Page.{Page, PageOfKind}
use Rattle.index_page.specs.Page.PageOfKind.{Leaf, Index}
use Rattle.index_page.specs.Rules.{Fits, IsHeaded, IsAnyPid}
use Rattle.index_page.proofs.RuleLemmas.{all_both}
use Rattle.mapping.specs.Tree.{Tree, page_at}
use Rattle.mapping.specs.Levels.{Placed, Levels, joined, name, names, pids, all_pids, levels_of}
use Rattle.mapping.specs.FreshPids.{is_among}
use Rattle.mapping.specs.Proper.{next_low, IsParentOf, Stacked, IsBranchedTop, Distinct, HasIndexPages, IsTree, IsProper}
use Rattle.mapping.proofs.MetPids.{distinct_last}
use Rattle.mapping.proofs.TileLemmas.{Separators, next_names}
use Rattle.index_page.proofs.ChildLemmas.{next_key}
use Rattle.mapping.proofs.Joined.{AreHeaded, next_joined}
use Rattle.mapping.proofs.Level.{IsLevel, IsGoodLeaf, IsGoodIndex}

-- the entries are those of the level above, and one where there is no level above
abbrev pub AreNamed : Separators → List (List (Placed ℕ)) → Type 0
AreNamed ns [] = length ns ≡ 1
AreNamed ns (up ∷ ups) = joined up ≡ ns

-- how many children a page has at least, by the levels above it
abbrev pub least_under : List (List (Placed ℕ)) → ℕ
least_under [] = 2
least_under (up ∷ ups) = 1

-- facts about a level under those above it
pub record IsLevelUnder {V : Type 0} (Has : Placed V → Type 0) (Good : Page V → Type 0) (here : List (Placed V)) (above : List (List (Placed ℕ))) : Type 0 where
  pub named : AreNamed (names here) above
  pub first : next_low here None ≡ Some []
  pub level : IsLevel Has Good None (flat_map pids above) here

-- the table has the leaf, and the index page
abbrev pub HasLeaf : List (ℕ × PageOfKind) → Placed (List ℕ) → Type 0
HasLeaf ps p = page_at ps p.pid ≡ Some (Leaf p.page)

abbrev pub HasIndex : List (ℕ × PageOfKind) → Placed ℕ → Type 0
HasIndex ps p = page_at ps p.pid ≡ Some (Index p.page)

abbrev pub AreLeaves : Settings → List (ℕ × PageOfKind) → List (Placed (List ℕ)) → List (List (Placed ℕ)) → Type 0
AreLeaves s ps here above = IsLevelUnder (HasLeaf ps) (IsGoodLeaf s) here above

-- facts about each level of index pages
abbrev pub AreAbove : Settings → List (ℕ × PageOfKind) → List (List (Placed ℕ)) → Type 0
AreAbove s ps [] = ⊤
AreAbove s ps (up ∷ ups) = IsLevelUnder (HasIndex ps) (IsGoodIndex s (least_under ups)) up ups × AreAbove s ps ups

-- facts about all levels
pub record AreParts (s : Settings) (ps : List (ℕ × PageOfKind)) (l : Levels) : Type 0 where
  pub leaves : AreLeaves s ps l.level l.above
  pub above : AreAbove s ps l.above
  pub no_other : AllByRecursion (λ pid. is_among pid (all_pids l.level l.above) ≡ true) (keys_of ps)

-- ---- from a proper tree

-- the pages of the highest level have two children, and those of others one
headed_least : (up : List (Placed ℕ)) (ups : List (List (Placed ℕ))) → AreHeaded 1 up → IsBranchedTop (up ∷ ups) → AreHeaded (least_under ups) up
headed_least up [] h b = b
headed_least up (v ∷ vs) h b = h

branched_above : (up : List (Placed ℕ)) (ups : List (List (Placed ℕ))) → IsBranchedTop (up ∷ ups) → IsBranchedTop ups
branched_above up [] b = tt
branched_above up (v ∷ vs) b = b

-- good index pages are those that fit and have their children
good_is_both : (s : Settings) (least : ℕ) (up : List (Placed ℕ)) → AllByRecursion (λ p. IsGoodIndex s least p.page) up ↔ (AllByRecursion (λ p. Fits s IsAnyPid p.page) up × AreHeaded least up)
good_is_both s least up = all_both (λ p. Fits s IsAnyPid p.page) (λ p. IsHeaded least p.page) up

-- a level's pages are those of the entries of the level above it
named_by_stack : {V : Type 0} → (here : List (Placed V)) (above : List (List (Placed ℕ))) → Stacked here above → AreNamed (names here) above
named_by_stack here [] k = length-map here name ∙ k
named_by_stack here (up ∷ ups) k = (k.0).linked

-- the first page above a level whose first low key is the empty key has that low key
first_above : {V : Type 0} → (here : List (Placed V)) (up : List (Placed ℕ)) → IsParentOf here up → next_low here None ≡ Some [] → next_low up None ≡ Some []
first_above here up k f =
    sym (next_joined up None k.headed) ∙ ap (λ (x : Separators). next_key x None) k.linked ∙ next_names here None ∙ f

-- the levels of a proper tree above one of its levels
above_parts : {V : Type 0} → (s : Settings) (ps : List (ℕ × PageOfKind)) (here : List (Placed V)) (above : List (List (Placed ℕ)))
    → next_low here None ≡ Some [] → Stacked here above → IsBranchedTop above → AllByRecursion (HasIndexPages ps) above
    → AllByRecursion (AllByRecursion (λ p. Fits s IsAnyPid p.page)) above → Distinct (flat_map pids above) → AreAbove s ps above
above_parts s ps here [] f k b h t d = tt
above_parts s ps here (up ∷ ups) f k b h t d =
    let first : next_low up None ≡ Some [] = first_above here up k.0 f in
    let good = (good_is_both s (least_under ups) up).1 (t.0, headed_least up ups (k.0).headed b) in (
      record {
        named = named_by_stack up ups k.1;
        first = first;
        level = record { has = h.0; tiled = (k.0).tiled; good = good; distinct = d };
      },
      above_parts s ps up ups first k.1 (branched_above up ups b) h.1 t.1 (distinct_last (pids up) (flat_map pids ups) d),
    )

pub parts_of_proper : (s : Settings) (t : Tree) → IsProper s t → AreParts s t.pages (levels_of t)
parts_of_proper s t k =
    let l : Levels = levels_of t in
    let distinct_above : Distinct (flat_map pids l.above) = distinct_last (pids l.level) (flat_map pids l.above) k.levels.distinct in
    record {
      leaves = record {
        named = named_by_stack l.level l.above k.levels.stacked;
        first = k.levels.first;
        level = record { has = k.held.leaves; tiled = k.levels.tiled; good = k.fit.leaves; distinct = k.levels.distinct };
      };
      above = above_parts s t.pages l.level l.above k.levels.first k.levels.stacked k.levels.top k.held.above k.fit.above distinct_above;
      no_other = k.held.no_other;
    }

-- ---- to a proper tree

one_least : (least : ℕ) (up : List (Placed ℕ)) → 1 ≤ least → AreHeaded least up → AreHeaded 1 up
one_least least [] l h = tt
one_least least (p ∷ ps) l h = (record { some = let n = (h.0).some in omega arith; first = (h.0).first }, one_least least ps l h.1)

least_some : (ups : List (List (Placed ℕ))) → 1 ≤ least_under ups
least_some [] = omega arith
least_some (up ∷ ups) = omega arith

-- each page of a level of index pages has a child
pub headed_under : (s : Settings) (ups : List (List (Placed ℕ))) (up : List (Placed ℕ)) → AllByRecursion (λ p. IsGoodIndex s (least_under ups) p.page) up → AreHeaded 1 up
headed_under s ups up g = one_least (least_under ups) up (least_some ups) ((good_is_both s (least_under ups) up).0 g).1

-- the parts of `AreLevels`, `HoldsLevels` and `AllFit` that speak of all levels
stack_of_parts : {V : Type 0} → (s : Settings) (ps : List (ℕ × PageOfKind)) (here : List (Placed V)) (above : List (List (Placed ℕ)))
    → AreNamed (names here) above → AreAbove s ps above → Stacked here above
stack_of_parts s ps here [] n a = sym (length-map here name) ∙ n
stack_of_parts s ps here (up ∷ ups) n a =
    (record { linked = n; headed = headed_under s ups up (a.0).level.good; tiled = (a.0).level.tiled }, stack_of_parts s ps up ups (a.0).named a.1)

top_of_parts : (s : Settings) (ps : List (ℕ × PageOfKind)) (above : List (List (Placed ℕ))) → AreAbove s ps above → IsBranchedTop above
top_of_parts s ps [] a = tt
top_of_parts s ps (up ∷ []) a = ((good_is_both s 2 up).0 (a.0).level.good).1
top_of_parts s ps (up ∷ v ∷ vs) a = top_of_parts s ps (v ∷ vs) a.1

held_of_parts : (s : Settings) (ps : List (ℕ × PageOfKind)) (above : List (List (Placed ℕ))) → AreAbove s ps above → AllByRecursion (HasIndexPages ps) above
held_of_parts s ps [] a = tt
held_of_parts s ps (up ∷ ups) a = ((a.0).level.has, held_of_parts s ps ups a.1)

fit_of_parts : (s : Settings) (ps : List (ℕ × PageOfKind)) (above : List (List (Placed ℕ))) → AreAbove s ps above → AllByRecursion (AllByRecursion (λ p. Fits s IsAnyPid p.page)) above
fit_of_parts s ps [] a = tt
fit_of_parts s ps (up ∷ ups) a = (((good_is_both s (least_under ups) up).0 (a.0).level.good).0, fit_of_parts s ps ups a.1)

pub proper_of_parts : (s : Settings) (t : Tree) → IsTree t → AreParts s t.pages (levels_of t) → IsProper s t
proper_of_parts s t k a =
    let l : Levels = levels_of t in
    record {
      tree = k;
      held = record { leaves = a.leaves.level.has; above = held_of_parts s t.pages l.above a.above; no_other = a.no_other };
      levels = record {
        first = a.leaves.first;
        tiled = a.leaves.level.tiled;
        stacked = stack_of_parts s t.pages l.level l.above a.leaves.named a.above;
        top = top_of_parts s t.pages l.above a.above;
        distinct = a.leaves.level.distinct;
      };
      fit = record { leaves = a.leaves.level.good; above = fit_of_parts s t.pages l.above a.above };
    }
