use Rattle.std.proofs.Common.{◌≡◌, ◌∙◌, ap, map}
use Rattle.delta_chain.specs.Lent.{pairs_lent}
use Rattle.index_page.specs.InMemory.{page_shown}
use Rattle.index_page.specs.Page.{bare, first_key}
use Rattle.index_page.specs.Page.PageOfKind.{Index}
use Rattle.split_plan.specs.Cut.{cut}
use Rattle.split_plan.specs.Pieces.{pages_from}
use Rattle.split_plan.proofs.LentPieces.{all_done, pages_named}
use Rattle.split_plan.proofs.NewPagesLemmas.{from_ok, index_shown}
use Rattle.split_plan.proofs.group_work.index_pages.Goals as goal

pub returns : goal.returns
returns c =
    let names = c.args.names.now in
    let fan = c.args.settings.now.fan in
    let all : pairs_lent c.loop-name.entries.items ≡ names = all_done names _ c.loop-name.name-index c.loop-name-test.false c.loop-name.invariant.made in
    let same : pairs_lent c.deref-2.result.now ≡ names = ap pairs_lent c.deref-2.ensures.value ∙ all in
    let low : c.first_key.result.now ≡ first_key names = c.first_key.ensures ∙ ap first_key (ap pairs_lent c.deref.ensures.value ∙ all) in
    let made = rw same at c.cut_pages.ensures in
    from_ok c.cut_pages.result _ (λ pages. map (λ page. page_shown page.value) pages.items ≡ map (λ b. Index (bare (first_key b) b)) (cut fan names))
    (λ pages h. index_shown pages.items (pages_from c.first_key.result.now (cut fan names)) h ∙ pages_named Index c.first_key.result.now fan names c.requires.fan low) made
