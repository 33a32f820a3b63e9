-- Groups that are split: their borrowed members, and the new pages, for the proofs of the code that splits.
use Rattle.std.specs.Prelude.{◌≡◌, ℕ, zero, suc, ◌<◌, List, [], ◌∷◌, map, length, get_or}
use Rattle.std.proofs.Common.{refl, sym, ap, ◌∙◌, arith, subst}
use Rattle.std.specs.List.{AllByRecursion}
use Rattle.keys.specs.declared.settings.Settings.{Settings}
use Rattle.index_page.specs.Page.{PageOfKind}
use Rattle.split_plan.specs.Pieces.{group_made, CanJoin}
use Rattle.climb_plan.specs.Changing.{SeenPage}
use Rattle.climb_plan.specs.Rewriting.{Remade, joined_groups, cut_group, CanBeCut}

-- the members' pages
abbrev members_of : List SeenPage → List PageOfKind
members_of g = map (λ x. x.page) g

-- groups with their new pages are groups after the split
joined_cut : (s : Settings) (gs : List (List SeenPage)) → joined_groups gs (map (group_made s) (map members_of gs)) ≡ map (cut_group s) gs
joined_cut s [] = refl
joined_cut s (g ∷ gs) = ap (λ (rs : List Remade). cut_group s g ∷ rs) (joined_cut s gs)

can_join_members : (gs : List (List SeenPage)) → CanBeCut gs → AllByRecursion CanJoin (map members_of gs)
can_join_members [] c = tt
can_join_members (g ∷ gs) c = (c.0, can_join_members gs c.1)

module _ {G J : Type 0} (seen : G → List SeenPage) (held : J → List PageOfKind) (groups : List G) (jobs : List J) (e : map held jobs ≡ map (λ g. members_of (seen g)) groups) where
  each_by : (gs : List G) → map (λ g. members_of (seen g)) gs ≡ map members_of (map seen gs)
  each_by [] = refl
  each_by (g ∷ gs) = ap (λ (ms : List (List PageOfKind)). members_of (seen g) ∷ ms) (each_by gs)

  joins_at : (js : List J) → AllByRecursion CanJoin (map held js) → (k : ℕ) (d : J) → k < length js → CanJoin (held (get_or js k d))
  joins_at [] a k d l = absurd (omega arith)
  joins_at (j ∷ js) a zero d l = a.0
  joins_at (j ∷ js) a (suc k) d l = joins_at js a.1 k d (omega arith)

  -- each job is a valid input
  pub each_joins : CanBeCut (map seen groups) → (k : ℕ) (d : J) → k < length jobs → CanJoin (held (get_or jobs k d))
  each_joins c k d l = joins_at jobs (subst (λ (ms : List (List PageOfKind)). AllByRecursion CanJoin ms) (sym (e ∙ each_by groups)) (can_join_members (map seen groups) c)) k d l

  -- the outputs of the jobs are the new pages of the groups
  pub made_is_cut : (s : Settings) (made : List (List PageOfKind)) → made ≡ map (group_made s) (map held jobs) → joined_groups (map seen groups) made ≡ map (cut_group s) (map seen groups)
  made_is_cut s made h =
      ap (joined_groups (map seen groups)) (h ∙ ap (λ (ms : List (List PageOfKind)). map (group_made s) ms) (e ∙ each_by groups))
      ∙ joined_cut s (map seen groups)
