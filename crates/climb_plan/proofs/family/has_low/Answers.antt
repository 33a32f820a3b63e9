use Rattle.std.proofs.Common.{sym, ap, ◌∙◌, Ordering, List, ℕ}
use Rattle.std.specs.Ordering.{is_eq}
use Rattle.index_page.specs.Rules.{is_same_key}
use Rattle.climb_plan.proofs.RewritingSeen.{begins_read}
use Rattle.climb_plan.proofs.family.has_low.Goals as goal

pub returns-in-Some : goal.returns-in-Some
returns-in-Some c =
    c.is_eq.ensures
    ∙ ap (λ (o : Ordering). is_eq o) c.compare.ensures
    ∙ ap (λ (k : List ℕ). is_same_key k c.args.low.now) c.low.ensures
    ∙ sym (begins_read c.args.low.now c.args.seen.now c.args.at c.in-Some.page.now c.in-Some.ensures.lookup.3.0 c.in-Some.ensures.lookup.1)
