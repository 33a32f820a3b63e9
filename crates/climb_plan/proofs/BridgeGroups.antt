-- The groups of a level that are rewritten, in the code's form, can be split.
use Rattle.std.specs.Prelude.{◌≡◌, ℕ, Bool, true, false, cond, List, [], ◌∷◌, ◌++◌, map, Option}
use Rattle.std.proofs.Common.{refl, sym, ap, ◌∙◌, subst, append-nil}
use Rattle.std.specs.List.{filter, AllByRecursion}
use Rattle.std.proofs.lemmas.Grind.{flat_map-append}
use Rattle.keys.specs.Lists.{flat}
use Rattle.keys.specs.Order.{IsRising}
use Rattle.index_page.specs.Page.{Page, PageOfKind}
use Rattle.mapping.specs.Levels.{Placed, joined, names}
use Rattle.mapping.specs.Proper.{next_low, Tiled}
use Rattle.mapping.proofs.TileLemmas.{rising-joined}
use Rattle.page_runs.specs.Updated.{Updated, is_thin}
use Rattle.split_plan.specs.Change.{is_rewritten}
use Rattle.split_plan.proofs.ChangeLemmas.{tiled_placed_apart}
use Rattle.split_plan.specs.Groups.{groups}
use Rattle.split_plan.proofs.GroupLemmas.{groups-joined}
use Rattle.split_plan.specs.Pieces.{joined_pages, CanJoin}
use Rattle.split_plan.specs.UpdatedLevel.{placed_of}
use Rattle.climb_plan.specs.Changing.{SeenPage, page_seen, changing_families, changing_groups}
use Rattle.climb_plan.specs.Climb.{families}
use Rattle.climb_plan.specs.Level.{IsKind}
use Rattle.climb_plan.specs.Rewriting.{rewriting_families, groups_of, CanBeCut}
use Rattle.climb_plan.proofs.BridgePieces.{AreRewritten, pages_of_group, pages-page_seen, joined-bare_pages}
use Rattle.climb_plan.proofs.BridgeSeen.{shown_groups, groups-page_seen}
use Rattle.climb_plan.proofs.ChangingGroups.{all_groups, groups-changing_families}
use Rattle.climb_plan.proofs.Families.{families-joined}

-- ---- groups that pass a test

module _ {X : Type 0} (test : X → Bool) (P : X → Type 0) where
  passing_by : (b : Bool) (x : X) (xs : List X) → test x ≡ b → P x → AllByRecursion (λ y. (test y ≡ true) × P y) xs → AllByRecursion (λ y. (test y ≡ true) × P y) (cond b (x ∷ xs) xs)
  passing_by true x xs e p h = ((e, p), h)
  passing_by false x xs e p h = h

  -- the selected elements pass the test, and what holds for all elements holds for them
  pub all_passing : (xs : List X) → AllByRecursion P xs → AllByRecursion (λ y. (test y ≡ true) × P y) (filter test xs)
  all_passing [] h = tt
  all_passing (x ∷ xs) h = passing_by (test x) x (filter test xs) refl h.0 (all_passing xs h.1)

-- ---- the groups of a level

module _ {V : Type 0} where
  -- the entries of a group's members, joined, rise
  pub record IsInOrder (g : List (Updated V)) : Type 0 where
    pub rising : IsRising (joined (placed_of g))

  groups_in_order : (gs : List (List (Updated V))) (end : Option (List ℕ)) → Tiled (placed_of (flat gs)) end → AllByRecursion IsInOrder gs
  groups_in_order [] end h = tt
  groups_in_order (g ∷ gs) end h =
      let a = tiled_placed_apart g (flat gs) end h in
      (record { rising = rising-joined (placed_of g) (next_low (placed_of (flat gs)) end) a.0 }, groups_in_order gs end a.1)

  -- groups that are rewritten, whose entries rise
  abbrev pub AreInOrder : List (List (Updated V)) → Type 0
  AreInOrder gs = AllByRecursion (λ g. (is_rewritten g ≡ true) × IsInOrder g) gs

  -- of groups of tiled pages, those that are rewritten
  pub rewritten_in_order : (gs : List (List (Updated V))) (end : Option (List ℕ)) → Tiled (placed_of (flat gs)) end → AreInOrder (filter is_rewritten gs)
  rewritten_in_order gs end h = all_passing is_rewritten IsInOrder gs (groups_in_order gs end h)

  first_by : (b : Bool) (g : List (Updated V)) (gs : List (List (Updated V))) → is_rewritten g ≡ b → AreRewritten gs → AreRewritten (cond b (g ∷ gs) gs)
  first_by true g gs e h = (e, h)
  first_by false g gs e h = h

  pub all_rewritten : (gs : List (List (Updated V))) → AreRewritten (filter is_rewritten gs)
  all_rewritten [] = tt
  all_rewritten (g ∷ gs) = first_by (is_rewritten g) g (filter is_rewritten gs) refl (all_rewritten gs)

  -- the groups of all families are the whole level
  groups_joined_again : (fs : List (List (Updated V))) → flat (all_groups fs) ≡ flat fs
  groups_joined_again [] = refl
  groups_joined_again (f ∷ fs) =
      flat_map-append (λ (g : List (Updated V)). g) (groups is_thin f) (all_groups fs) ∙ ap (λ (ws : List (Updated V)). ws ++ flat (all_groups fs)) (groups-joined is_thin f) ∙ ap (λ (ws : List (Updated V)). f ++ ws) (groups_joined_again fs)

  -- of a level of tiled pages, each group that is rewritten has entries that rise
  pub changing_in_order : (ps : List (Placed ℕ)) (ws : List (Updated V)) (end : Option (List ℕ)) → Tiled (placed_of ws) end → joined ps ≡ names (placed_of ws) → AreInOrder (changing_groups (changing_families ps ws))
  changing_in_order ps ws end h l =
      let gs : List (List (Updated V)) = all_groups (families ps ws) in
      let whole : flat gs ≡ ws = groups_joined_again (families ps ws) ∙ families-joined ps ws l in
      let tiled : Tiled (placed_of (flat gs)) end = subst (λ (vs : List (Updated V)). Tiled (placed_of vs) end) (sym whole) h in
      subst (λ (hs : List (List (Updated V))). AreInOrder hs) (sym (groups-changing_families ps ws)) (rewritten_in_order gs end tiled)

  -- each of them is rewritten
  pub changing_rewritten : (ps : List (Placed ℕ)) (ws : List (Updated V)) → AreRewritten (changing_groups (changing_families ps ws))
  changing_rewritten ps ws = subst (λ (hs : List (List (Updated V))). AreRewritten hs) (sym (groups-changing_families ps ws)) (all_rewritten (all_groups (families ps ws)))

  -- the same for the highest level, whose pages are one group
  pub top_in_order : (ws : List (Updated V)) (end : Option (List ℕ)) → Tiled (placed_of ws) end → AreInOrder (filter is_rewritten (ws ∷ []))
  top_in_order ws end h = rewritten_in_order (ws ∷ []) end (subst (λ (vs : List (Updated V)). Tiled (placed_of vs) end) (sym (append-nil ws)) h)

-- ---- the groups can be cut

module _ {V : Type 0} (of : Page V → PageOfKind) where
  module _ (kind : IsKind of) where
    pub cut_one : (g : List (Updated V)) → is_rewritten g ≡ true → IsInOrder g → CanJoin (map (λ x. x.page) (map (page_seen of) g))
    cut_one [] e h = absurd (cc)
    cut_one (w ∷ ws) e h =
        let rising : IsRising (joined_pages (pages_of_group (w ∷ ws))) = subst (λ (es : List (List ℕ × V)). IsRising es) (sym (joined-bare_pages (placed_of (w ∷ ws)))) h.rising in
        subst (λ (ms : List PageOfKind). CanJoin ms) (sym (pages-page_seen of (w ∷ ws))) (kind.join w.placed.page (pages_of_group ws) rising)

    pub cut_each : (gs : List (List (Updated V))) → AreInOrder gs → CanBeCut (shown_groups of gs)
    cut_each [] h = tt
    cut_each (g ∷ gs) h = (cut_one g h.0.0 h.0.1, cut_each gs h.1)

    -- the groups that are rewritten can be cut
    pub can_be_cut : (ps : List (Placed ℕ)) (ws : List (Updated V)) (end : Option (List ℕ)) → Tiled (placed_of ws) end → joined ps ≡ names (placed_of ws) → CanBeCut (groups_of (rewriting_families ps (map (page_seen of) ws)))
    can_be_cut ps ws end h l =
        subst (λ (gs : List (List SeenPage)). CanBeCut gs) (sym (groups-page_seen of ps ws)) (cut_each (changing_groups (changing_families ps ws)) (changing_in_order ps ws end h l))
