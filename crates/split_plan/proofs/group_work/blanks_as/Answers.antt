use Rattle.std.proofs.Common.{◌∙◌, sym, ap}
use Rattle.delta_chain.specs.Lent.{pairs_lent}
use Rattle.index_page.specs.InMemory.{page_shown}
use Rattle.split_plan.proofs.LentPieces.{remade_is}
use Rattle.split_plan.proofs.group_work.blanks_as.Goals as goal

pub returns : goal.returns
returns g c =
    let low = c.low.ensures ∙ sym (g.met.V.Kind.keeps_low (page_shown c.in-Some.first.now.now)) in
    let joined = ap pairs_lent c.deref.ensures.value ∙ c.in_ok-entries.ensures in
    let all = remade_is g.V.Kind.taken c.args.settings.now c.args.members.now c.in-Some.first.now c.low.result.now (pairs_lent c.deref.result.now) c.in-Some.ensures.value low joined in
    rw (sym all) c.cut_pages.ensures
