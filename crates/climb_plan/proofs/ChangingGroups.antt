-- Lemmas on the groups of a level that are rewritten: only they have freed and fresh pages.
use Rattle.std.specs.Prelude.{◌≡◌, ℕ, ◌+◌, Bool, true, false, cond, List, [], ◌∷◌, ◌++◌, flat_map, take, drop, length}
use Rattle.std.proofs.Common.{refl, sym, ap, ◌∙◌, subst, arith, append-nil, length-append}
use Rattle.std.specs.List.{filter}
use Rattle.std.proofs.lemmas.Grind.{flat_map-append}
use Rattle.keys.specs.Lists.{flat}
use Rattle.keys.specs.declared.settings.Settings.{Settings}
use Rattle.mapping.specs.Levels.{Placed, entries}
use Rattle.page_runs.specs.Updated.{Updated, is_thin}
use Rattle.split_plan.specs.Groups.{groups}
use Rattle.split_plan.specs.UpdatedLevel.{placed_of}
use Rattle.split_plan.specs.Change.{Change, is_rewritten, remade, fresh, freed_by, changes, family_changes, fresh_of, all_fresh}
use Rattle.split_plan.specs.Terms.{freed_of, terms}
use Rattle.split_plan.proofs.ChangeLemmas.{remade_by}
use Rattle.climb_plan.specs.Climb.{families}
use Rattle.climb_plan.specs.Changing.{Changing, groups_to_rewrite, with_changing, changing_families, changing_groups, changing_changes, all_freed}

-- ---- families in which no page needs restructuring

module _ {V : Type 0} where
  -- ---- groups that are not rewritten

  -- what becomes of a group that isn't rewritten
  pub record IsIdle (s : Settings) (used : List ℕ) (i : ℕ) (g : List (Updated V)) : Type 0 where
    pub new : remade s used i g ≡ placed_of g
    pub fresh : drop 1 (remade s used i g) ≡ []
    pub freed : drop 1 (placed_of g) ≡ []

  pub idle_group : (s : Settings) (used : List ℕ) (i : ℕ) (g : List (Updated V)) → is_rewritten g ≡ false → IsIdle s used i g
  idle_group s used i [] e = record { new = refl; fresh = refl; freed = refl }
  idle_group s used i (w ∷ []) e =
      let same : remade s used i (w ∷ []) ≡ placed_of (w ∷ []) = ap (λ (b : Bool). remade_by b s used i w []) e in
      record { new = same; fresh = ap (λ (ps : List (Placed V)). drop 1 ps) same; freed = refl }
  idle_group s used i (w ∷ v ∷ ws) e = absurd (cc)

  -- changes by which the same pages come, and the same ones go
  pub record AreAlike (cs ds : List (Change V)) : Type 0 where
    pub fresh : fresh_of cs ≡ fresh_of ds
    pub freed : freed_of cs ≡ freed_of ds

  alike_by : (b : Bool) (s : Settings) (used : List ℕ) (i : ℕ) (g : List (Updated V)) (gs : List (List (Updated V))) → is_rewritten g ≡ b → ((j : ℕ) → AreAlike (changes s used j gs) (changes s used j (filter is_rewritten gs)))
      → AreAlike (changes s used i (g ∷ gs)) (changes s used i (cond b (g ∷ filter is_rewritten gs) (filter is_rewritten gs)))
  alike_by true s used i g gs e ih =
      let here : List (Placed V) = drop 1 (remade s used i g) in
      let rest = ih (i + length here) in
      record { fresh = ap (λ (ps : List (Placed V)). here ++ ps) rest.fresh; freed = ap (λ (ps : List (Placed V)). drop 1 (placed_of g) ++ ps) rest.freed }
  alike_by false s used i g gs e ih =
      let idle = idle_group s used i g e in
      let later : ℕ → List (Change V) = λ j. changes s used j gs in
      let none : i + 0 ≡ i = omega arith in
      let count : i + length (drop 1 (remade s used i g)) ≡ i = ap (λ (ps : List (Placed V)). i + length ps) idle.fresh ∙ none in
      let rest = ih i in
      record {
        fresh = ap (λ (ps : List (Placed V)). ps ++ fresh_of (later (i + length (drop 1 (remade s used i g))))) idle.fresh ∙ ap (λ (j : ℕ). fresh_of (later j)) count ∙ rest.fresh;
        freed = ap (λ (ps : List (Placed V)). ps ++ freed_of (later (i + length (drop 1 (remade s used i g))))) idle.freed ∙ ap (λ (j : ℕ). freed_of (later j)) count ∙ rest.freed;
      }

  -- the groups that are not rewritten are single pages that stay as they are: nothing comes or goes with them
  pub alike_rewritten : (s : Settings) (used : List ℕ) (i : ℕ) (gs : List (List (Updated V))) → AreAlike (changes s used i gs) (changes s used i (filter is_rewritten gs))
  alike_rewritten s used i [] = record { fresh = refl; freed = refl }
  alike_rewritten s used i (g ∷ gs) = alike_by (is_rewritten g) s used i g gs refl (λ j. alike_rewritten s used j gs)

  -- so the parent gets the same run
  pub alike_terms : (cs ds : List (Change V)) → AreAlike cs ds → terms cs ≡ terms ds
  alike_terms cs ds a = rw (a.fresh, a.freed) refl

-- ---- all groups of a level as one list

module _ {X A : Type 0} where
  -- mapping lists of lists equals mapping their concatenation
  pub flat_map-flat : (f : X → List A) (xss : List (List X)) → flat_map (λ xs. flat_map f xs) xss ≡ flat_map f (flat xss)
  flat_map-flat f [] = refl
  flat_map-flat f (xs ∷ xss) = ap (λ (rest : List A). flat_map f xs ++ rest) (flat_map-flat f xss) ∙ sym (flat_map-append f xs (flat xss))

module _ {X : Type 0} (test : X → Bool) where
  joined_by : (b : Bool) (x : X) (xs ys : List X) → filter test (xs ++ ys) ≡ filter test xs ++ filter test ys → cond b (x ∷ filter test (xs ++ ys)) (filter test (xs ++ ys)) ≡ cond b (x ∷ filter test xs) (filter test xs) ++ filter test ys
  joined_by true x xs ys e = ap (λ (zs : List X). x ∷ zs) e
  joined_by false x xs ys e = e

  pub filter-joined : (xs ys : List X) → filter test (xs ++ ys) ≡ filter test xs ++ filter test ys
  filter-joined [] ys = refl
  filter-joined (x ∷ xs) ys = joined_by (test x) x xs ys (filter-joined xs ys)

module _ {V : Type 0} where
  -- the groups of all families
  abbrev pub all_groups : List (List (Updated V)) → List (List (Updated V))
  all_groups fs = flat_map (λ f. groups is_thin f) fs

  changes-append : (s : Settings) (used : List ℕ) (i : ℕ) (gs hs : List (List (Updated V))) → changes s used i (gs ++ hs) ≡ changes s used i gs ++ changes s used (i + length (fresh_of (changes s used i gs))) hs
  changes-append s used i [] hs = let e : i ≡ i + 0 = omega arith in ap (λ (j : ℕ). changes s used j hs) e
  changes-append s used i (g ∷ gs) hs =
      let here : List (Placed V) = drop 1 (remade s used i g) in
      let c : Change V = record { members = g; pages = remade s used i g } in
      let j : ℕ = i + length here in
      let later : List (Change V) = changes s used j gs in
      let e : j + length (fresh_of later) ≡ i + length (here ++ fresh_of later) = omega (arith, length-append here (fresh_of later)) in
      ap (λ (cs : List (Change V)). c ∷ cs) (changes-append s used j gs hs) ∙ ap (λ (k : ℕ). c ∷ (later ++ changes s used k hs)) e

  -- the new pages of families, as one list
  pub flat-family_changes : (s : Settings) (used : List ℕ) (i : ℕ) (fs : List (List (Updated V))) → flat (family_changes s used i fs) ≡ changes s used i (all_groups fs)
  flat-family_changes s used i [] = refl
  flat-family_changes s used i (f ∷ fs) =
      let cs : List (Change V) = changes s used i (groups is_thin f) in
      ap (λ (ds : List (Change V)). cs ++ ds) (flat-family_changes s used (i + length (fresh_of cs)) fs) ∙ sym (changes-append s used i (groups is_thin f) (all_groups fs))

  -- and the new pages of the groups of those families that change
  pub flat-changing_changes : (s : Settings) (used : List ℕ) (i : ℕ) (chs : List (Changing V)) → flat (changing_changes s used i chs) ≡ changes s used i (changing_groups chs)
  flat-changing_changes s used i [] = refl
  flat-changing_changes s used i (c ∷ chs) =
      let cs : List (Change V) = changes s used i c.groups in
      ap (λ (ds : List (Change V)). cs ++ ds) (flat-changing_changes s used (i + length (fresh_of cs)) chs) ∙ sym (changes-append s used i c.groups (changing_groups chs))

  pub fresh-changing_changes : (s : Settings) (used : List ℕ) (i : ℕ) (chs : List (Changing V)) → all_fresh (changing_changes s used i chs) ≡ fresh_of (changes s used i (changing_groups chs))
  fresh-changing_changes s used i chs = flat_map-flat fresh (changing_changes s used i chs) ∙ ap (λ (cs : List (Change V)). fresh_of cs) (flat-changing_changes s used i chs)

  -- those that change have the groups that are rewritten
  joined-with_changing : (gs : List (List (Updated V))) (p : Placed ℕ) (chs : List (Changing V)) → (let c : Changing V = record { parent = p; groups = gs } in changing_groups (with_changing gs c chs) ≡ gs ++ changing_groups chs)
  joined-with_changing [] p chs = refl
  joined-with_changing (g ∷ gs) p chs = refl

  pub groups-changing_families : (ps : List (Placed ℕ)) (ws : List (Updated V)) → changing_groups (changing_families ps ws) ≡ filter is_rewritten (all_groups (families ps ws))
  groups-changing_families [] ws = refl
  groups-changing_families (p ∷ ps) ws =
      let f : List (Updated V) = take (length (entries p)) ws in
      let more : List (Updated V) = drop (length (entries p)) ws in
      joined-with_changing (groups_to_rewrite f) p (changing_families ps more)
      ∙ ap (λ (gs : List (List (Updated V))). groups_to_rewrite f ++ gs) (groups-changing_families ps more)
      ∙ sym (filter-joined is_rewritten (groups is_thin f) (all_groups (families ps more)))

  -- ---- new and removed pages of a level

  -- of lists of changes: the same pages come, and the same ones go
  pub record AreAllAlike (css dss : List (List (Change V))) : Type 0 where
    pub fresh : all_fresh css ≡ all_fresh dss
    pub freed : all_freed css ≡ all_freed dss

  alike_flat : (css dss : List (List (Change V))) → AreAlike (flat css) (flat dss) → AreAllAlike css dss
  alike_flat css dss a = record {
    fresh = flat_map-flat fresh css ∙ a.fresh ∙ sym (flat_map-flat fresh dss);
    freed = flat_map-flat freed_by css ∙ a.freed ∙ sym (flat_map-flat freed_by dss);
  }

  pub alike_level : (s : Settings) (used : List ℕ) (i : ℕ) (ps : List (Placed ℕ)) (ws : List (Updated V)) → AreAllAlike (family_changes s used i (families ps ws)) (changing_changes s used i (changing_families ps ws))
  alike_level s used i ps ws =
      let gs : List (List (Updated V)) = all_groups (families ps ws) in
      let css : List (List (Change V)) = family_changes s used i (families ps ws) in
      let dss : List (List (Change V)) = changing_changes s used i (changing_families ps ws) in
      let d : flat dss ≡ changes s used i (filter is_rewritten gs) = flat-changing_changes s used i (changing_families ps ws) ∙ ap (λ (hs : List (List (Updated V))). changes s used i hs) (groups-changing_families ps ws) in
      let a : AreAlike (flat css) (flat dss) =
      subst (λ (cs : List (Change V)). AreAlike cs (flat dss)) (sym (flat-family_changes s used i (families ps ws))) (subst (λ (ds : List (Change V)). AreAlike (changes s used i gs) ds) (sym d) (alike_rewritten s used i gs)) in
      alike_flat css dss a

  -- as one list
  pub fresh_on_top : (s : Settings) (used : List ℕ) (i : ℕ) (ws : List (Updated V)) → all_fresh (changes s used i (ws ∷ []) ∷ []) ≡ fresh_of (changes s used i (filter is_rewritten (ws ∷ [])))
  fresh_on_top s used i ws = append-nil (fresh_of (changes s used i (ws ∷ []))) ∙ (alike_rewritten s used i (ws ∷ [])).fresh

  -- of a level under parents, as one list
  pub fresh_on_level : (s : Settings) (used : List ℕ) (i : ℕ) (ps : List (Placed ℕ)) (ws : List (Updated V)) → all_fresh (family_changes s used i (families ps ws)) ≡ fresh_of (changes s used i (changing_groups (changing_families ps ws)))
  fresh_on_level s used i ps ws = (alike_level s used i ps ws).fresh ∙ fresh-changing_changes s used i (changing_families ps ws)
