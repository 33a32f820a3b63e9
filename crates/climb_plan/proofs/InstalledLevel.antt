-- A level, or the highest one, after the new pages of its rewritten groups were installed.
use Rattle.std.specs.Prelude.{◌≡◌, ℕ, true, false, List, [], ◌∷◌, None}
use Rattle.std.proofs.Common.{refl, sym, ap, ◌∙◌, subst, append-nil}
use Rattle.std.specs.List.{filter}
use Rattle.keys.specs.Lists.{flat}
use Rattle.keys.specs.declared.settings.Settings.{Settings}
use Rattle.index_page.specs.Page.{Page, PageOfKind}
use Rattle.mapping.specs.Levels.{Placed, pids}
use Rattle.mapping.specs.FreshPids.{is_among}
use Rattle.mapping.specs.Table.{Mapping, place_of}
use Rattle.mapping.specs.Proper.{Distinct}
use Rattle.page_runs.specs.Updated.{Updated}
use Rattle.split_plan.specs.UpdatedLevel.{placed_of}
use Rattle.split_plan.specs.Change.{Change, is_rewritten, changes, family_changes, new_of, fresh_of, all_new}
use Rattle.climb_plan.specs.Climb.{families}
use Rattle.climb_plan.specs.Changing.{changing_families, changing_groups, AreHome}
use Rattle.climb_plan.proofs.ChangingGroups.{flat_map-flat, all_groups, flat-family_changes, groups-changing_families}
use Rattle.climb_plan.proofs.ChangingOutdated.{all_groups-joined}
use Rattle.climb_plan.proofs.InstalledPages.{AreFreshFor, installed-groups, freed-groups, other-groups}
use Rattle.climb_plan.proofs.Installed.{updated_pids, IsInstalled}

module _ {V : Type 0} where
  -- ---- a level

  -- in the table after, the pages that are made of a level are in it, removed pages have no place, and all but the
  -- level and the fresh pages stayed
  pub record HasLevel (of : Page V → PageOfKind) (before after : Mapping PageOfKind) (ws : List (Updated V)) (new fresh : List (Placed V)) : Type 0 where
    pub home : AreHome of after new
    pub freed : (n : ℕ) → is_among n (updated_pids ws) ≡ true → is_among n (pids new) ≡ false → place_of after n ≡ None
    pub others : (n : ℕ) → is_among n (updated_pids ws) ≡ false → is_among n (pids fresh) ≡ false → place_of after n ≡ place_of before n

  has_level_by : (s : Settings) (used : List ℕ) (i : ℕ) (of : Page V → PageOfKind) (before after : Mapping PageOfKind) (gs rs : List (List (Updated V))) (ws : List (Updated V)) (new : List (Placed V))
      → rs ≡ filter is_rewritten gs → flat gs ≡ ws → new ≡ new_of (changes s used i gs)
      → AreHome of before (placed_of ws) → Distinct (updated_pids ws) → AreFreshFor ws (fresh_of (changes s used i rs)) → IsInstalled of before after (changes s used i rs)
      → HasLevel of before after ws new (fresh_of (changes s used i rs))
  has_level_by s used i of before after gs rs ws new e f g h d k t =
      let home : AreHome of before (placed_of (flat gs)) = subst (λ (vs : List (Updated V)). AreHome of before (placed_of vs)) (sym f) h in
      let distinct : Distinct (updated_pids (flat gs)) = subst (λ (vs : List (Updated V)). Distinct (updated_pids vs)) (sym f) d in
      let fresh : AreFreshFor (flat gs) (fresh_of (changes s used i rs)) = subst (λ (vs : List (Updated V)). AreFreshFor vs (fresh_of (changes s used i rs))) (sym f) k in
      let fresh_too : AreFreshFor (flat gs) (fresh_of (changes s used i (filter is_rewritten gs))) = subst (λ (hs : List (List (Updated V))). AreFreshFor (flat gs) (fresh_of (changes s used i hs))) e fresh in
      let installed : IsInstalled of before after (changes s used i (filter is_rewritten gs)) = subst (λ (hs : List (List (Updated V))). IsInstalled of before after (changes s used i hs)) e t in
      let members = λ (n : ℕ). ap (λ (vs : List (Updated V)). is_among n (updated_pids vs)) f in
      record {
        home = subst (λ (ps : List (Placed V)). AreHome of after ps) (sym g) (installed-groups s used i of before after gs home distinct fresh_too installed);
        freed = λ n a b. freed-groups s used i of before after gs n installed (members n ∙ a) (ap (λ (ps : List (Placed V)). is_among n (pids ps)) (sym g) ∙ b);
        others = λ n a b. other-groups s used i of before after gs n installed (members n ∙ a) (ap (λ (hs : List (List (Updated V))). is_among n (pids (fresh_of (changes s used i hs)))) (sym e) ∙ b);
      }

  -- a level under parents
  pub installed-level : (s : Settings) (used : List ℕ) (i : ℕ) (of : Page V → PageOfKind) (before after : Mapping PageOfKind) (ps : List (Placed ℕ)) (ws : List (Updated V)) → flat (families ps ws) ≡ ws
      → AreHome of before (placed_of ws) → Distinct (updated_pids ws) → AreFreshFor ws (fresh_of (changes s used i (changing_groups (changing_families ps ws)))) → IsInstalled of before after (changes s used i (changing_groups (changing_families ps ws)))
      → HasLevel of before after ws (all_new (family_changes s used i (families ps ws))) (fresh_of (changes s used i (changing_groups (changing_families ps ws))))
  installed-level s used i of before after ps ws e =
      let fs : List (List (Updated V)) = families ps ws in
      let css : List (List (Change V)) = family_changes s used i fs in
      let new : all_new css ≡ new_of (changes s used i (all_groups fs)) = flat_map-flat (λ (c : Change V). c.pages) css ∙ ap (λ (cs : List (Change V)). new_of cs) (flat-family_changes s used i fs) in
      has_level_by s used i of before after (all_groups fs) (changing_groups (changing_families ps ws)) ws (all_new css) (groups-changing_families ps ws) (all_groups-joined fs ∙ e) new

  -- the highest level
  pub installed-top : (s : Settings) (used : List ℕ) (i : ℕ) (of : Page V → PageOfKind) (before after : Mapping PageOfKind) (ws : List (Updated V))
      → AreHome of before (placed_of ws) → Distinct (updated_pids ws) → AreFreshFor ws (fresh_of (changes s used i (filter is_rewritten (ws ∷ [])))) → IsInstalled of before after (changes s used i (filter is_rewritten (ws ∷ [])))
      → HasLevel of before after ws (all_new (changes s used i (ws ∷ []) ∷ [])) (fresh_of (changes s used i (filter is_rewritten (ws ∷ []))))
  installed-top s used i of before after ws =
      has_level_by s used i of before after (ws ∷ []) (filter is_rewritten (ws ∷ [])) ws (all_new (changes s used i (ws ∷ []) ∷ [])) refl (append-nil ws) (append-nil (new_of (changes s used i (ws ∷ []))))
