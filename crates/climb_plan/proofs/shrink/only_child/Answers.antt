-- Proof for only_child of shrink.rt.
use Rattle.std.proofs.Common.{[], ◌∷◌, ap, ◌∙◌, List, ℕ}
use Rattle.mapping.specs.Table.{page_of}
use Rattle.climb_plan.proofs.OnlyChild.{walk_tells}
use Rattle.climb_plan.proofs.shrink.only_child.Goals as goal

pub returns-in-None-next : goal.returns-in-None-next
returns-in-None-next c =
    walk_tells (page_of c.args.tree.now.table c.args.tree.now.root) c.in_ok-page.page.now c.children-children.result ((c.in-Some.child.0.now, c.in-Some.child.1) ∷ []) (c.in_ok-page.ensures.home ∙ ap (λ (n : ℕ). page_of c.args.tree.now.table n) c.root.ensures) c.requires c.children-children.ensures
    (c.in-Some.ensures.steps ∙ ap (λ (es : List (List ℕ × ℕ)). (c.in-Some.child.0.now, c.in-Some.child.1) ∷ es) c.in-None-next.ensures.steps.0)
