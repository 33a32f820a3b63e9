use Rattle.std.proofs.Common.{◌≡◌, ap, ◌∙◌}
use Rattle.delta_chain.specs.Layers.{with_run, entries_of}
use Rattle.delta_chain.proofs.Overlays.{entries-joined_changes}
use Rattle.scan.specs.Edge.{beyond, is_under}
use Rattle.scan.proofs.leaf.LeafWalk.new.Goals as goal

pub returns-in-Some : goal.returns-in-Some
returns-in-Some g c =
    let page = c.args.chain.now in
    let all : with_run c.base.result.now c.in-Some.changes ≡ entries_of page =
    ap (λ es. with_run es c.in-Some.changes) c.base.ensures ∙ ap (λ cs. with_run page.base cs) c.in-Some.ensures ∙ entries-joined_changes page.runs page.base c.depth-in_order.ensures.rising in
    c.new.ensures ∙ ap (beyond g.W.Towards.direction (is_under c.args.edge.now)) all
