use Rattle.std.proofs.Common.{rules, List, ap, subst, sym, ◌∙◌}
use Rattle.rayon.proofs.ListFacts.{IfOk-then}
use Rattle.mapping.specs.TreeInMemory.{tree_of}
use Rattle.routing.specs.Keyed.{places_of}
use Rattle.routing.specs.Shares.{Lent, lent_shares, root_shares, AreKeyedShares}
use Rattle.routing.proofs.DescentLemmas.{same_pred}
use Rattle.routing.proofs.DownLemmas.{from_root}
use Rattle.routing.proofs.RunsOfShares.{runs_of_shares}
use Rattle.routing.proofs.descent.route_sorted.Goals as goal

pub runs_below-requires-clause-ready : goal.runs_below-requires-clause-ready
runs_below-requires-clause-ready g c κs within =
    let t = tree_of c.args.tree.now in
    let ps = places_of c.args.keyed.now in
    let root = ap (λ (ss : List Lent). lent_shares ss) c.deref.ensures.value ∙ c.in_ok-shares.ensures.shares ∙ ap (λ pid. root_shares pid ps) c.root.ensures in
    (from_root t c.requires.held c.requires.levels c.args.batch.now ps c.requires.sorted.in_order c.saturating_sub-levels.result (lent_shares c.deref.result.now) (same_pred c.saturating_sub-levels.result c.args.tree.now.height (search rules)) root).0

pub runs_below-requires-clause-keys : goal.runs_below-requires-clause-keys
runs_below-requires-clause-keys g c κs within =
    subst (λ (ss : List Lent). AreKeyedShares c.args.batch.now ss) (sym c.deref.ensures.value) (c.in_ok-shares.ensures.keys c.args.batch.now c.requires.keys)

pub returns : goal.returns
returns g c =
    let t = tree_of c.args.tree.now in
    let cs = c.args.batch.now in
    let ps = places_of c.args.keyed.now in
    let root = ap (λ (ss : List Lent). lent_shares ss) c.deref.ensures.value ∙ c.in_ok-shares.ensures.shares ∙ ap (λ pid. root_shares pid ps) c.root.ensures in
    let leaves = (from_root t c.requires.held c.requires.levels cs ps c.requires.sorted.in_order c.saturating_sub-levels.result (lent_shares c.deref.result.now) (same_pred c.saturating_sub-levels.result c.args.tree.now.height (search rules)) root).1 in
    IfOk-then c.runs_below.result _ _ c.runs_below.ensures (λ runs h. runs_of_shares cs ps c.requires.sorted leaves runs.items h)
