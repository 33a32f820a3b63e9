-- Lemmas on the code's walk over the families of a level, for the proofs of this crate.
use Rattle.std.specs.Prelude.{◌≡◌, ℕ, zero, suc, ◌+◌, ◌<◌, List, [], ◌∷◌, ◌++◌, drop}
use Rattle.std.proofs.Common.{sym, ap, ◌∙◌, subst, arith}
use Rattle.mapping.specs.Levels.{Placed}
use Rattle.mapping.specs.TreeInMemory.{TreeInMemory}
use Rattle.climb_plan.specs.Changing.{SeenPage}
use Rattle.climb_plan.specs.Rewriting.{all_seen, AreSeenIn, rewritten_groups, with_rewriting, rewriting_counts, IsLevelSeen, HasFirstCall, pids_for, SomeFamily, OfFamily}
use Rattle.climb_plan.specs.declared.seen.Seen.{Seen}
use Rattle.climb_plan.proofs.LevelParts.{family_of}
use Rattle.climb_plan.proofs.RewritingGroups.{drop_further}
use Rattle.climb_plan.proofs.RewritingLevel as walk
use Rattle.climb_plan.proofs.RewritingLevel.{IsLeft}

module _ (t : TreeInMemory) (depth : ℕ) (all_xs all : List SeenPage) (ps : List (Placed ℕ)) (ups : List (List (Placed ℕ))) (h : IsLevelSeen t depth all_xs all ps ups) where
  module _ (seen left again : List Seen) (done : ℕ) (parents : List (ℕ × ℕ)) (made : List (List SeenPage)) (low : List ℕ) (e : left ≡ drop done seen) (a : again ≡ drop done seen)
      (s : IsLeft t.table (all_seen (drop done seen)) all ps parents made) (f : HasFirstCall (all_seen left) low) (pid : ℕ) (r : pids_for ps low ≡ pid ∷ []) where
    abbrev Left : Type 0
    Left = IsLeft t.table (all_seen again) all ps parents made

    here : Left
    here = subst (λ (xs : List Seen). IsLeft t.table (all_seen xs) all ps parents made) (sym a) s

    first : HasFirstCall (all_seen again) low
    first = subst (λ (xs : List Seen). HasFirstCall (all_seen xs) low) (e ∙ sym a) f

    -- the family that is added
    pub next_family : SomeFamily t.table (all_seen again) pid
    next_family =
        let c = walk.found t depth all_xs all ps ups h (all_seen again) parents made low here first in
        (family_of c.parent c.before (c.own ++ c.after) c.children c.later, walk.is_parent t depth all_xs all ps ups h (all_seen again) parents made low here first pid r, walk.family t depth all_xs all ps ups h (all_seen again) parents made low here first)

    -- it ends after some page
    pub some_after : (following : ℕ) → OfFamily t.table (all_seen again) pid (λ k. AreSeenIn t.table (all_seen (drop following again)) k.later) → 0 < following
    unfolding next_family
    some_after zero k =
        let n = next_family in
        absurd (walk.has_gone t depth all_xs all ps ups h (all_seen again) parents made low here first (k n.0 n.1 n.2))
    some_after (suc n) k = omega arith

    pub undrawn : (following : ℕ) (more : List (ℕ × ℕ)) (most : List (List SeenPage)) → OfFamily t.table (all_seen again) pid (λ k. AreSeenIn t.table (all_seen (drop following again)) k.later)
        → OfFamily t.table (all_seen again) pid (λ k. more ≡ parents ++ rewriting_counts (with_rewriting k.parent.pid (rewritten_groups k.children) [])) → OfFamily t.table (all_seen again) pid (λ k. most ≡ made ++ rewritten_groups k.children) → IsLeft t.table (all_seen (drop (done + following) seen)) all ps more most
    unfolding next_family
    undrawn following more most k m g =
        let n = next_family in
        let there : drop following again ≡ drop (done + following) seen = ap (λ (xs : List Seen). drop following xs) a ∙ drop_further seen done following in
        subst (λ (xs : List Seen). IsLeft t.table (all_seen xs) all ps more most) there
        (walk.at_next t depth all_xs all ps ups h (all_seen again) parents made low here first (all_seen (drop following again)) more most (k n.0 n.1 n.2) (m n.0 n.1 n.2) (g n.0 n.1 n.2))
