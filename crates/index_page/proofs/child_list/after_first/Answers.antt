use Rattle.std.proofs.Common.{◌≡◌, [], ℕ, List, subst, arith, MatchOption}
use Rattle.std.specs.Option.{option_copied}
use Rattle.index_page.specs.NextChild.{PassesOne}
use Rattle.index_page.proofs.WithinLemmas.{within-passes, within-first}
use Rattle.index_page.proofs.child_list.after_first.Goals as goal

pub returns-then-count-eq0 : goal.returns-then-count-eq0
returns-then-count-eq0 g c =
    let hi = option_copied c.args.hi in
    let es = c.args.list.now in
    let known = c.count_up_to-count.ensures in
    subst (λ (left : List (List ℕ × ℕ)). MatchOption c.after_next.result (left ≡ []) (PassesOne hi es left)) (within-first c.args.lo.now hi es _ known.rising c.if-count-eq0.true known.count) c.after_next.ensures

pub returns : goal.returns
returns g c =
    let known = c.count_up_to-count.ensures in
    within-passes c.args.lo.now (option_copied c.args.hi) c.args.list.now _ known.rising (omega (arith, c.if-count-eq0.false)) known.count
