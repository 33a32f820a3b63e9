-- The walk that looks for findings and the walk that gathers the levels go over the same pages, so that nothing is
-- found if and only if each level is in order.
use Rattle.std.specs.Prelude.{◌≡◌, ℕ, zero, suc, pred, true, cond, Bool, false, ◌↔◌, List, [], ◌∷◌, ◌++◌, map, flat_map, length, Option, Some, None}
use Rattle.std.proofs.Common.{refl, sym, ap, ◌∙◌, arith, subst}
use Rattle.std.specs.List.{AllByRecursion}
use Rattle.std.specs.Map.{keys_of, values_of}
use Rattle.keys.specs.declared.settings.Settings.{Settings}
use Rattle.index_page.specs.Page.{Page, PageOfKind}
use Rattle.mapping.specs.Tree.{Tree, page_at}
use Rattle.mapping.specs.Levels.{Placed, joined, names, pids, leaf_at, index_at, as_leaf, as_index, levels_below}
use Rattle.mapping.specs.FreshPids.{is_among}
use Rattle.index_page.specs.Children.{Place, children}
use Rattle.mapping.specs.Finding.{Finding, broken_leaf, broken_index, or_else, on_level, unmet, children_at, all_met, finding_below, finding}
use Rattle.mapping.specs.Proper.{next_low, Distinct, IsTree, IsProper}
use Rattle.mapping.proofs.TileLemmas.{Separators, next_names}
use Rattle.index_page.proofs.ChildLemmas.{next_key, pids-children}
use Rattle.mapping.proofs.Joined.{AreSpaced, AreHeaded, next_joined, spaced_joined, places_below}
use Rattle.mapping.proofs.Level.{IsTestOf, IsGoodLeaf, IsGoodIndex, leaf_at_place, index_at_place, level_of_none, none_of_level, placed}
use Rattle.mapping.proofs.Parts.{AreNamed, least_under, IsLevelUnder, HasLeaf, HasIndex, AreAbove, AreParts, headed_under, parts_of_proper, proper_of_parts}

-- ---- what is found of the table

or_else_none : (o later : Option Finding) → (or_else o later ≡ None) ↔ ((o ≡ None) × (later ≡ None))
or_else_none None later = (λ h. (refl, h), λ h. h.1)
or_else_none (Some f) later = (λ h. absurd (cc), λ h. absurd (let z = h.0 in cc))

unmet_by : (b : Bool) (f : Finding) (later : Option Finding) → (cond b later (Some f) ≡ None) ↔ ((b ≡ true) × (later ≡ None))
unmet_by true f later = (λ h. (refl, h), λ h. h.1)
unmet_by false f later = (λ h. absurd (cc), λ h. absurd (let z = h.0 in cc))

-- no page is unvisited if and only if each has been visited
unmet_none : (met : List ℕ) (ps : List (ℕ × PageOfKind)) → (unmet met ps ≡ None) ↔ AllByRecursion (λ pid. is_among pid met ≡ true) (keys_of ps)
unmet_none met [] = (λ h. tt, λ a. refl)
unmet_none met (p ∷ ps) =
    let step = unmet_by (is_among p.0 met) (record { rule = 10; pid = p.0 }) (unmet met ps) in
    let rest = unmet_none met ps in
    (λ h. let a = step.0 h in (a.0, rest.0 a.1), λ a. step.1 (a.0, rest.1 a.1))

module _ {V : Type 0} (look : ℕ → Page V) where
  pids_at : (ns : List ℕ) → pids (map (placed look) ns) ≡ ns
  pids_at [] = refl
  pids_at (n ∷ ns) = ap (λ (x : List ℕ). n ∷ x) (pids_at ns)

  -- after a level, its pages' pids have been visited, and those visited before
  met_after : (ns : Separators) (met : List ℕ) → all_met met (children ns None) ≡ pids (map (placed look) (values_of ns)) ++ met
  met_after ns met = ap (λ (x : List ℕ). x ++ met) (pids-children ns None ∙ sym (pids_at (values_of ns)))

  -- the root's separator, by its low key
  one_name : (ns : Separators) → length ns ≡ 1 → next_key ns None ≡ Some [] → next_low (map (placed look) (values_of ns)) None ≡ Some [] → names (map (placed look) (values_of ns)) ≡ ns
  one_name [] l f g = refl
  one_name (e ∷ []) l f g =
      let low : (look e.1).low ≡ e.0 = cc in
      let pair : List ℕ → List ℕ × ℕ = λ k. (k, e.1) in
      ap (λ (k : List ℕ). pair k ∷ []) low
  one_name (e ∷ d ∷ ns) l f g = absurd (omega arith)

  -- a level's pages have the entries of the level above, by the facts about the level
  same_names : (ns : Separators) (above : List (List (Placed ℕ))) → AreNamed ns above → next_key ns None ≡ Some []
      → (let here : List (Placed V) = map (placed look) (values_of ns) in AreNamed (names here) above → next_low here None ≡ Some [] → names here ≡ ns)
  same_names ns [] m f n g = one_name ns m f g
  same_names ns (up ∷ ups) m f n g = sym n ∙ m

-- if a level's pages are those of entries that begin at the empty key, they begin there too
first_of_named : {V : Type 0} → (here : List (Placed V)) (ns : Separators) → names here ≡ ns → next_key ns None ≡ Some [] → next_low here None ≡ Some []
first_of_named here ns e f = sym (next_names here None) ∙ ap (λ (x : Separators). next_key x None) e ∙ f

module _ (s : Settings) (ps : List (ℕ × PageOfKind)) where
  -- ---- the level of some entries

  abbrev leaf_under : ℕ → Page (List ℕ)
  leaf_under pid = as_leaf (page_at ps pid)

  abbrev index_under : ℕ → Page ℕ
  index_under pid = as_index (page_at ps pid)

  abbrev leaves_at : Separators → List (Placed (List ℕ))
  leaves_at ns = map (leaf_at ps) (values_of ns)

  abbrev indexes_at : Separators → List (Placed ℕ)
  indexes_at ns = map (index_at ps) (values_of ns)

  abbrev test_leaf : List ℕ → Place → Option ℕ
  test_leaf met at = broken_leaf s met at (page_at ps at.pid)

  abbrev test_index : ℕ → List ℕ → Place → Option ℕ
  test_index least met at = broken_index s least met at (page_at ps at.pid)

  leaf_tests : IsTestOf (HasLeaf ps) (IsGoodLeaf s) leaf_under test_leaf
  leaf_tests met at = leaf_at_place s met at (page_at ps at.pid)

  index_tests : (least : ℕ) → IsTestOf (HasIndex ps) (IsGoodIndex s least) index_under (test_index least)
  index_tests least met at = index_at_place s least met at (page_at ps at.pid)

  -- what a walk finds below a level of index pages, said of that level's pages
  abbrev later : ℕ → Separators → List ℕ → Option Finding
  later n ns met = finding_below s ps n 1 (all_met met (children ns None)) (flat_map (children_at ps) (children ns None))

  found_later : (n : ℕ) (ns : Separators) (met : List ℕ) → names (indexes_at ns) ≡ ns → AllByRecursion (HasIndex ps) (indexes_at ns) → AreHeaded 1 (indexes_at ns)
      → later n ns met ≡ finding_below s ps n 1 (pids (indexes_at ns) ++ met) (children (joined (indexes_at ns)) None)
  found_later n ns met e h d =
      let here : List (Placed ℕ) = indexes_at ns in
      let places : flat_map (children_at ps) (children ns None) ≡ children (joined here) None =
      ap (λ (x : Separators). flat_map (children_at ps) (children x None)) (sym e) ∙ places_below ps here None h d in
      ap (λ (x : List ℕ). finding_below s ps n 1 x (flat_map (children_at ps) (children ns None))) (met_after index_under ns met)
      ∙ ap (λ (x : List Place). finding_below s ps n 1 (pids here ++ met) x) places

  -- ---- down the levels

  -- if there is no finding, each level is in order
  parts_of_none : (n : ℕ) (ns : Separators) (above : List (List (Placed ℕ))) → AreNamed ns above → next_key ns None ≡ Some [] → AreSpaced ns None → Distinct (flat_map pids above)
      → AreAbove s ps above → finding_below s ps n (least_under above) (flat_map pids above) (children ns None) ≡ None → AreParts s ps (levels_below ps n (values_of ns) above)
  parts_of_none zero ns above m f r d a h =
      let met : List ℕ = flat_map pids above in
      let here : List (Placed (List ℕ)) = leaves_at ns in
      let both = (or_else_none (on_level test_leaf met (children ns None)) (unmet (all_met met (children ns None)) ps)).0 h in
      let own = level_of_none (HasLeaf ps) (IsGoodLeaf s) leaf_under test_leaf leaf_tests ns None met r d both.0 in
      let none : unmet (pids here ++ met) ps ≡ None = ap (λ (x : List ℕ). unmet x ps) (sym (met_after leaf_under ns met)) ∙ both.1 in
      record {
        leaves = record {
          named = subst (λ (x : Separators). AreNamed x above) (sym own.0) m;
          first = first_of_named here ns own.0 f;
          level = own.1;
        };
        above = a;
        no_other = (unmet_none (pids here ++ met) ps).0 none;
      }
  parts_of_none (suc n) ns above m f r d a h =
      let met : List ℕ = flat_map pids above in
      let here : List (Placed ℕ) = indexes_at ns in
      let least : ℕ = least_under above in
      let both = (or_else_none (on_level (test_index least) met (children ns None)) (later n ns met)).0 h in
      let own = level_of_none (HasIndex ps) (IsGoodIndex s least) index_under (test_index least) (index_tests least) ns None met r d both.0 in
      let headed : AreHeaded 1 here = headed_under s above here own.1.good in
      let first : next_low here None ≡ Some [] = first_of_named here ns own.0 f in
      let level : IsLevelUnder (HasIndex ps) (IsGoodIndex s least) here above = record {
        named = subst (λ (x : Separators). AreNamed x above) (sym own.0) m;
        first = first;
        level = own.1;
      } in
      parts_of_none n (joined here) (here ∷ above) refl (next_joined here None headed ∙ first) (spaced_joined here None headed own.1.tiled) own.1.distinct (level, a)
      (sym (found_later n ns met own.0 own.1.has headed) ∙ both.1)

  -- what is known of all levels is known of those nearest to the root
  above_here : (n : ℕ) (level : List ℕ) (above : List (List (Placed ℕ))) → AreAbove s ps (levels_below ps n level above).above → AreAbove s ps above
  above_here zero level above a = a
  above_here (suc n) level above a =
      let here : List (Placed ℕ) = map (index_at ps) level in
      (above_here n (values_of (joined here)) (here ∷ above) a).1

  -- if each level is in order, there is no finding
  none_of_parts : (n : ℕ) (ns : Separators) (above : List (List (Placed ℕ))) → AreNamed ns above → next_key ns None ≡ Some [] → AreParts s ps (levels_below ps n (values_of ns) above)
      → finding_below s ps n (least_under above) (flat_map pids above) (children ns None) ≡ None
  none_of_parts zero ns above m f a =
      let met : List ℕ = flat_map pids above in
      let e = same_names leaf_under ns above m f a.leaves.named a.leaves.first in
      let none : unmet (all_met met (children ns None)) ps ≡ None =
      ap (λ (x : List ℕ). unmet x ps) (met_after leaf_under ns met) ∙ (unmet_none (pids (leaves_at ns) ++ met) ps).1 a.no_other in
      (or_else_none (on_level test_leaf met (children ns None)) (unmet (all_met met (children ns None)) ps)).1
      (none_of_level (HasLeaf ps) (IsGoodLeaf s) leaf_under test_leaf leaf_tests ns None met e a.leaves.level, none)
  none_of_parts (suc n) ns above m f a =
      let met : List ℕ = flat_map pids above in
      let here : List (Placed ℕ) = indexes_at ns in
      let least : ℕ = least_under above in
      let own = (above_here n (values_of (joined here)) (here ∷ above) a.above).0 in
      let e = same_names index_under ns above m f own.named own.first in
      let headed : AreHeaded 1 here = headed_under s above here own.level.good in
      let rest = none_of_parts n (joined here) (here ∷ above) refl (next_joined here None headed ∙ own.first) a in
      (or_else_none (on_level (test_index least) met (children ns None)) (later n ns met)).1
      (none_of_level (HasIndex ps) (IsGoodIndex s least) index_under (test_index least) (index_tests least) ns None met e own.level, found_later n ns met e own.level.has headed ∙ rest)

-- ---- from the root

-- nothing is found in a tree exactly if it is proper
pub nothing_found : (s : Settings) (t : Tree) → IsTree t → (finding s t ≡ None) ↔ IsProper s t
nothing_found s t k =
    let root : Separators = ([], t.root) ∷ [] in (
      λ h. proper_of_parts s t k (parts_of_none s t.pages (pred t.height) root [] refl refl (tt, tt) tt tt h),
      λ p. none_of_parts s t.pages (pred t.height) root [] refl refl (parts_of_proper s t p),
    )
