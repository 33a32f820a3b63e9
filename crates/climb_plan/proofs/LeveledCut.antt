-- The groups of a level that are rewritten, after the split: those in the code are those of the plan.
use Rattle.std.specs.Prelude.{◌≡◌, ℕ, List, ◌∷◌, map, length, None}
use Rattle.std.proofs.Common.{sym, ap, ◌∙◌, subst}
use Rattle.keys.specs.declared.settings.Settings.{Settings}
use Rattle.index_page.specs.Page.{Page, PageOfKind}
use Rattle.mapping.specs.Levels.{Placed}
use Rattle.mapping.specs.TreeInMemory.{TreeInMemory}
use Rattle.page_runs.specs.Updated.{Updated}
use Rattle.climb_plan.specs.Changing.{SeenPage, page_seen, changing_families, changing_groups}
use Rattle.climb_plan.specs.Level.{IsKind, IsLevel, IsCut}
use Rattle.climb_plan.specs.Rewriting.{rewriting_families, rewriting_counts, groups_of, IsLevelSeen, Remade, cut_group, freed_names, CanBeCut}
use Rattle.climb_plan.proofs.BridgeGroups.{can_be_cut}
use Rattle.climb_plan.proofs.BridgeSeen.{rewriting_counts-page_seen, groups-page_seen, shown_groups, level_seen}
use Rattle.climb_plan.proofs.LevelParts.{level_of}

module _ {V : Type 0} (of : Page V → PageOfKind) (kind : IsKind of) (t : TreeInMemory) (xs ys : List SeenPage) (depth : ℕ) (same : ys ≡ xs) where
  -- the level in the form of the code
  pub level_in_sight : (ws : List (Updated V)) (ps : List (Placed ℕ)) (ups : List (List (Placed ℕ))) (used : List ℕ) (i : ℕ) → IsLevel of t xs (level_of ws (ps ∷ ups) used i) → depth ≡ length ups → IsLevelSeen t depth ys (map (page_seen of) ws) ps ups
  level_in_sight ws ps ups used i h e =
      subst (λ (zs : List SeenPage). IsLevelSeen t depth zs (map (page_seen of) ws) ps ups) (sym same) (subst (λ (n : ℕ). IsLevelSeen t n xs (map (page_seen of) ws) ps ups) (sym e) (level_seen of kind t xs ws ps ups used i h))

  -- its groups that are rewritten can be cut
  pub cut_in_sight : (gs : List (List SeenPage)) (ws : List (Updated V)) (ps : List (Placed ℕ)) (ups : List (List (Placed ℕ))) (used : List ℕ) (i : ℕ) → IsLevel of t xs (level_of ws (ps ∷ ups) used i) → depth ≡ length ups
      → ((all : List SeenPage) (qs : List (Placed ℕ)) (vps : List (List (Placed ℕ))) → IsLevelSeen t depth ys all qs vps → gs ≡ groups_of (rewriting_families qs all)) → CanBeCut gs
  cut_in_sight gs ws ps ups used i h e given =
      subst CanBeCut (sym (given (map (page_seen of) ws) ps ups (level_in_sight ws ps ups used i h e))) (can_be_cut of kind ps ws None h.tiled h.stacked.0.linked)

  -- their new pages
  pub all_cut : (s : Settings) (counts : List (ℕ × ℕ)) (gs : List (List SeenPage)) (freed : List (List (List ℕ × ℕ))) (made : List Remade)
      → ((all : List SeenPage) (qs : List (Placed ℕ)) (vps : List (List (Placed ℕ))) → IsLevelSeen t depth ys all qs vps → counts ≡ rewriting_counts (rewriting_families qs all))
      → ((all : List SeenPage) (qs : List (Placed ℕ)) (vps : List (List (Placed ℕ))) → IsLevelSeen t depth ys all qs vps → gs ≡ groups_of (rewriting_families qs all))
      → freed ≡ map freed_names gs → made ≡ map (cut_group s) gs
      → (ws : List (Updated V)) (ps : List (Placed ℕ)) (ups : List (List (Placed ℕ))) (used : List ℕ) (i : ℕ) → IsLevel of t xs (level_of ws (ps ∷ ups) used i) → depth ≡ length ups → IsCut s of (level_of ws ups used i) ps counts freed made
  all_cut s counts gs freed made given_counts given_groups names pieces ws ps ups used i h e =
      let seen = level_in_sight ws ps ups used i h e in
      let same_groups : gs ≡ shown_groups of (changing_groups (changing_families ps ws)) = given_groups (map (page_seen of) ws) ps ups seen ∙ groups-page_seen of ps ws in
      record {
        counts = given_counts (map (page_seen of) ws) ps ups seen ∙ rewriting_counts-page_seen of ps ws;
        names = names ∙ ap (λ (hs : List (List SeenPage)). map freed_names hs) same_groups;
        pieces = pieces ∙ ap (λ (hs : List (List SeenPage)). map (cut_group s) hs) same_groups;
      }
