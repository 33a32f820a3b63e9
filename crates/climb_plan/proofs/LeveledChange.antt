-- A level after its changes: groups with their pids, and parents after their terms.
use Rattle.std.specs.Prelude.{◌≡◌, ℕ, ◌<◌, List, [], ◌∷◌, ◌++◌, map, flat_map, take, length, Option, None}
use Rattle.std.proofs.Common.{refl, sym, ap, ◌∙◌, subst}
use Rattle.keys.specs.declared.settings.Settings.{Settings}
use Rattle.index_page.specs.Page.{Page, PageOfKind}
use Rattle.index_page.specs.Page.PageOfKind.{Index}
use Rattle.mapping.specs.Levels.{Placed}
use Rattle.mapping.specs.Proper.{AreRisingPids}
use Rattle.mapping.specs.Table.{Mapping, pids_in_use, with_rooms, fresh_pids, freed_all}
use Rattle.mapping.specs.TreeInMemory.{TreeInMemory}
use Rattle.page_runs.specs.TermWork.{TermHeld, IndexUpdate, index_made}
use Rattle.page_runs.specs.Updated.{Updated}
use Rattle.split_plan.specs.Change.{changes}
use Rattle.split_plan.specs.Terms.{terms}
use Rattle.split_plan.specs.UpdatedLevel.{updated_parents}
use Rattle.climb_plan.specs.Changing.{SeenPage, page_seen, changing_families, parents_of, changing_groups, changing_changes}
use Rattle.climb_plan.specs.Climb.{LevelPlan}
use Rattle.climb_plan.specs.Installing.{all_taken, parent_held, AreAway, AreParentsHome}
use Rattle.climb_plan.specs.Level.{IsKind, parent_pids, group_counts, IsLevel, IsCut, IsChanged}
use Rattle.climb_plan.specs.Rewriting.{Remade, HaveSome, with_numbers, numbers, terms_by_parent, CanTakeTerms}
use Rattle.climb_plan.proofs.BridgeDrawn.{drawn_places}
use Rattle.climb_plan.proofs.BridgeGroups.{changing_rewritten}
use Rattle.climb_plan.proofs.BridgeNext.{new_here, can_be_taken, termed_here, taken_here, made_here, held_here}
use Rattle.climb_plan.proofs.BridgePieces.{with_numbers-page_seen, numbers-page_seen, some-page_seen}
use Rattle.climb_plan.proofs.BridgeTermRuns.{freed_in, made_in, termed-page_seen, can_be_termed}
use Rattle.climb_plan.proofs.LeveledDrawn.{drawn_away, drawn_back, AreGiven, numbers_given, all_given}
use Rattle.climb_plan.proofs.LevelParts.{level_of}

-- two functions applied to a list, one after the other, if the result of the first is known
through : {A B C : Type 0} (f : B → C) (g : A → B) (xs : List A) (ys : List B) → map g xs ≡ ys → map (λ x. f (g x)) xs ≡ map f ys
through f g xs ys e = each f g xs ∙ ap (map f) e
  where
    each : {A B C : Type 0} (f : B → C) (g : A → B) (xs : List A) → map (λ x. f (g x)) xs ≡ map f (map g xs)
    each f g [] = refl
    each f g (x ∷ xs) = ap (λ zs. f (g x) ∷ zs) (each f g xs)

-- the tree with another table
abbrev pub with_table : TreeInMemory → Mapping PageOfKind → TreeInMemory
with_table t u = record { table = u; root = t.root; height = t.height }

-- the tree after the pids of groups were allocated
abbrev pub numbers_drawn : TreeInMemory → List Remade → TreeInMemory
numbers_drawn t rs = with_table t (with_rooms t.table (fresh_pids (pids_in_use t.table) (numbers rs)))

module _ {V : Type 0} (s : Settings) (of : Page V → PageOfKind) (kind : IsKind of) (z : 0 < s.fan) (t : TreeInMemory) (xs : List SeenPage) (ws : List (Updated V)) (ps : List (Placed ℕ)) (ups : List (List (Placed ℕ))) (used : List ℕ) (i : ℕ)
    (h : IsLevel of t xs (level_of ws (ps ∷ ups) used i)) (counts : List (ℕ × ℕ)) (freed : List (List (List ℕ × ℕ))) (groups : List Remade) (cut : IsCut s of (level_of ws ups used i) ps counts freed groups) where
  abbrev rewritten_here : List (List (Updated V))
  rewritten_here = changing_groups (changing_families ps ws)

  -- each group has a piece
  pub some_piece : HaveSome groups
  some_piece = subst HaveSome (sym cut.pieces) (some-page_seen of kind s rewritten_here (changing_rewritten ps ws))

  -- as many pids are allocated as there are new pages
  count : numbers groups ≡ new_here s of t xs ws ps ups used i
  count = ap numbers cut.pieces ∙ numbers-page_seen of kind s used i rewritten_here (changing_rewritten ps ws)

  module _ (given : List Remade) (numbered_so : given ≡ with_numbers used i groups) where
    -- with their pids, the groups are those of the plan
    pub remade_here : given ≡ made_in of (changes s used i rewritten_here)
    remade_here = numbered_so ∙ ap (with_numbers used i) cut.pieces ∙ with_numbers-page_seen of kind s used i rewritten_here (changing_rewritten ps ws)

    termed_so : terms_by_parent counts freed given ≡ termed_here s of t xs ws ps ups used i z h
    termed_so =
        ap (λ (cs : List (ℕ × ℕ)). terms_by_parent cs freed given) cut.counts
        ∙ ap (λ (fs : List (List (List ℕ × ℕ))). terms_by_parent (group_counts (changing_families ps ws)) fs given) cut.names
        ∙ ap (λ (rs : List Remade). terms_by_parent (group_counts (changing_families ps ws)) (freed_in of rewritten_here) rs) remade_here
        ∙ termed-page_seen of kind s used i (changing_families ps ws)

    -- the parents can get their runs
    pub can_tell : CanTakeTerms counts freed given
    can_tell =
        subst (λ (cs : List (ℕ × ℕ)). CanTakeTerms cs freed given) (sym cut.counts)
        (subst (λ (fs : List (List (List ℕ × ℕ))). CanTakeTerms (group_counts (changing_families ps ws)) fs given) (sym cut.names)
        (subst (λ (rs : List Remade). CanTakeTerms (group_counts (changing_families ps ws)) (freed_in of rewritten_here) rs) (sym remade_here) (can_be_termed of kind s used i ps ws None z h.tiled h.stacked.0.linked)))

    abbrev drawn_here : TreeInMemory
    drawn_here = with_table t (with_rooms t.table (fresh_pids (pids_in_use t.table) (new_here s of t xs ws ps ups used i)))

    module _ (u : TreeInMemory) (drawn : u ≡ numbers_drawn t groups) where
      same_tree : u ≡ drawn_here
      same_tree = drawn ∙ ap (λ (n : ℕ). with_table t (with_rooms t.table (fresh_pids (pids_in_use t.table) n))) count

      -- and taken
      pub parents_home : AreParentsHome u.table (map (λ e. e.0) (terms_by_parent counts freed given))
      parents_home =
          subst (λ (es : List (ℕ × List (List ℕ × Option ℕ))). AreParentsHome u.table (map (λ e. e.0) es)) (sym termed_so)
          (subst (λ (ns : List ℕ). AreParentsHome u.table ns) (sym (taken_here s of t xs ws ps ups used i z h))
          (subst (λ (v : TreeInMemory). AreParentsHome v.table (parent_pids (changing_families ps ws))) (sym same_tree) (can_be_taken s of t xs ws ps ups used i z h)))

      pub still_rising : AreRisingPids (pids_in_use u.table)
      still_rising = subst (λ (v : TreeInMemory). AreRisingPids (pids_in_use v.table)) (sym same_tree) (drawn_places (new_here s of t xs ws ps ups used i) t.table h.rising).rising

      -- the result for the level
      pub all_changed : (after : TreeInMemory) (parents : List IndexUpdate) → map (λ d. d.made) parents ≡ map (λ e. index_made s (parent_held u.table e)) (terms_by_parent counts freed given)
          → map (λ d. d.held) parents ≡ map (parent_held u.table) (terms_by_parent counts freed given) → after ≡ with_table u (all_taken u.table (map (λ e. e.0) (terms_by_parent counts freed given)))
          → IsChanged s of t after (level_of ws ups used i) ps given parents
      all_changed after parents made held taken =
          let pair : TermHeld → ℕ × PageOfKind = λ x. (x.pid, x.page) in
          let made_so : map (λ d. d.made) parents ≡ updated_parents s (parents_of (changing_families ps ws)) (map terms (changing_changes s used i (changing_families ps ws))) =
          made ∙ ap (λ (es : List (ℕ × List (List ℕ × Option ℕ))). map (λ e. index_made s (parent_held u.table e)) es) termed_so
          ∙ ap (λ (v : TreeInMemory). map (λ e. index_made s (parent_held v.table e)) (termed_here s of t xs ws ps ups used i z h)) same_tree
          ∙ made_here s of t xs ws ps ups used i z h in
          let held_so : map (λ d. d.held) parents ≡ map (parent_held drawn_here.table) (termed_here s of t xs ws ps ups used i z h) =
          held ∙ ap (λ (es : List (ℕ × List (List ℕ × Option ℕ))). map (parent_held u.table) es) termed_so
          ∙ ap (λ (v : TreeInMemory). map (parent_held v.table) (termed_here s of t xs ws ps ups used i z h)) same_tree in
          record {
            groups = remade_here;
            made = through (page_seen Index) (λ d. d.made) parents _ made_so;
            held = through pair (λ d. d.held) parents _ held_so ∙ held_here s of t xs ws ps ups used i z h;
            tree =
                taken ∙ ap (λ (es : List (ℕ × List (List ℕ × Option ℕ))). with_table u (all_taken u.table (map (λ e. e.0) es))) termed_so
                ∙ ap (λ (ns : List ℕ). with_table u (all_taken u.table ns)) (taken_here s of t xs ws ps ups used i z h)
                ∙ ap (λ (v : TreeInMemory). with_table v (all_taken v.table (parent_pids (changing_families ps ws)))) same_tree;
          }

-- ---- a level whose pids were allocated

-- its properties then: its parents can get their runs and be checked out, and the result is the level that the plan makes of it
pub record IsDrawn {V : Type 0} (s : Settings) (of : Page V → PageOfKind) (t u : TreeInMemory) (l : LevelPlan V) (ps : List (Placed ℕ)) (counts : List (ℕ × ℕ)) (freed : List (List (List ℕ × ℕ))) (given : List Remade) : Type 0 where
  pub rising : AreRisingPids (pids_in_use u.table)
  pub names : CanTakeTerms counts freed given
  pub home : AreParentsHome u.table (map (λ e. e.0) (terms_by_parent counts freed given))
  pub changed : (after : TreeInMemory) (parents : List IndexUpdate) → map (λ d. d.made) parents ≡ map (λ e. index_made s (parent_held u.table e)) (terms_by_parent counts freed given)
      → map (λ d. d.held) parents ≡ map (parent_held u.table) (terms_by_parent counts freed given) → after ≡ with_table u (all_taken u.table (map (λ e. e.0) (terms_by_parent counts freed given)))
      → IsChanged s of t after l ps given parents

pub level_drawn : {V : Type 0} (s : Settings) (of : Page V → PageOfKind) (kind : IsKind of) (z : 0 < s.fan) (t u : TreeInMemory) (xs : List SeenPage) (ws : List (Updated V)) (ps : List (Placed ℕ)) (ups : List (List (Placed ℕ))) (used : List ℕ) (i : ℕ)
    → IsLevel of t xs (level_of ws (ps ∷ ups) used i) → (counts seen_counts : List (ℕ × ℕ)) (freed : List (List (List ℕ × ℕ))) (groups old new rest given : List Remade) (n : ℕ) → IsCut s of (level_of ws ups used i) ps counts freed groups → seen_counts ≡ counts → old ≡ groups
    → AreGiven t.table old new → length old ≡ n → given ≡ take n (new ++ rest) → u ≡ numbers_drawn t old → IsDrawn s of t u (level_of ws ups used i) ps seen_counts freed given
level_drawn s of kind z t u xs ws ps ups used i h counts seen_counts freed groups old new rest given n cut same_counts same_groups numbers_so len whole drawn =
    let seen : IsCut s of (level_of ws ups used i) ps seen_counts freed old = record { counts = same_counts ∙ cut.counts; names = cut.names; pieces = same_groups ∙ cut.pieces } in
    let so : given ≡ with_numbers used i old = whole ∙ all_given t.table old new rest n numbers_so len ∙ numbers_so used i h.drawn in
    record {
      rising = still_rising s of kind z t xs ws ps ups used i h seen_counts freed old seen given so u drawn;
      names = can_tell s of kind z t xs ws ps ups used i h seen_counts freed old seen given so;
      home = parents_home s of kind z t xs ws ps ups used i h seen_counts freed old seen given so u drawn;
      changed = all_changed s of kind z t xs ws ps ups used i h seen_counts freed old seen given so u drawn;
    }

-- ---- undoing

-- the places of allocated pids are empty, and freeing these pids restores the tree
pub record CanGiveBack (t u : TreeInMemory) (given : List Remade) : Type 0 where
  pub away : AreAway u.table (flat_map (λ r. r.fresh) given)
  pub back : with_table u (freed_all u.table (flat_map (λ r. r.fresh) given)) ≡ t

pub can_give_back : {V : Type 0} (of : Page V → PageOfKind) (t u v : TreeInMemory) (xs : List SeenPage) (ws : List (Updated V)) (ups : List (List (Placed ℕ))) (used : List ℕ) (i : ℕ) → IsLevel of t xs (level_of ws ups used i)
    → (old new rest given : List Remade) (n : ℕ) → AreGiven t.table old new → length old ≡ n → given ≡ take n (new ++ rest) → u ≡ numbers_drawn t old → v ≡ u → CanGiveBack t v given
can_give_back of t u v xs ws ups used i h old new rest given n numbers_so len whole drawn same =
    let fresh : flat_map (λ r. r.fresh) given ≡ fresh_pids (pids_in_use t.table) (numbers old) =
    ap (λ (rs : List Remade). flat_map (λ r. r.fresh) rs) (whole ∙ all_given t.table old new rest n numbers_so len) ∙ numbers_given t.table old new numbers_so in
    let there : CanGiveBack t (numbers_drawn t old) given = record {
      away = subst (λ (ns : List ℕ). AreAway (numbers_drawn t old).table ns) (sym fresh) (drawn_away t.table h.rising (numbers old));
      back =
          ap (λ (ns : List ℕ). with_table t (freed_all (numbers_drawn t old).table ns)) fresh
          ∙ ap (λ (w : Mapping PageOfKind). with_table t w) (drawn_back t.table h.rising (numbers old) h.logs);
    } in
    subst (λ (w : TreeInMemory). CanGiveBack t w given) (sym (same ∙ drawn)) there
