use Rattle.std.proofs.Common.{sym, ap, ◌∙◌, ◌≡◌, drop, true}
use Rattle.index_page.specs.InMemory.{page_shown}
use Rattle.climb_plan.specs.Rewriting.{seen_now, all_seen, begins_at}
use Rattle.climb_plan.specs.declared.seen.Seen.{Seen}
use Rattle.climb_plan.proofs.RewritingSeen.{some_page, home_next, updated_next, begins_within}
use Rattle.climb_plan.proofs.family.next_child.Goals as goal

pub page_at_home-requires : goal.page_at_home-requires
page_at_home-requires c =
    let n = c.requires.child in
    some_page c.args.tree.now.table c.args.low.now c.args.pid n.0 n.1 (all_seen (drop c.args.next.now c.args.seen.now)) n.2 (sym c.has_low.ensures ∙ c.if-not-has_low.true)

pub returns-then-not-has_low-clause-child : goal.returns-then-not-has_low-clause-child
returns-then-not-has_low-clause-child c =
    λ x later n. home_next c.args.tree.now.table c.args.low.now c.args.pid x later (all_seen (drop c.args.next.now c.args.seen.now)) (page_shown c.page_at_home.result.page.now) (seen_now c.page_at_home.result) n (sym c.has_low.ensures ∙ c.if-not-has_low.true) c.page_at_home.ensures.page c.page_at_home.ensures.rest

pub returns-clause-child : goal.returns-clause-child
returns-clause-child c =
    λ x later n.
    let b : begins_at c.args.low.now (all_seen (drop c.args.next.now c.args.seen.now)) ≡ true = sym c.has_low.ensures ∙ c.if-not-has_low.false in
    let r = updated_next c.args.tree.now.table c.args.low.now c.args.pid x later c.args.seen.now c.args.next.now c.index-seen-next.result n b (begins_within c.args.low.now c.args.seen.now c.args.next.now b) c.index-seen-next.is in
    (ap (λ (y : Seen). seen_now y) c.again-child.ensures ∙ r.0, r.1)
