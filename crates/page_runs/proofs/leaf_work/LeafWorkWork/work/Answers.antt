use Rattle.std.proofs.Common.{◌≡◌, sym, ap, ◌∙◌}
use Rattle.index_page.specs.InMemory.{InMemory, page_shown, lazy_of}
use Rattle.index_page.specs.InMemory.InMemory.{LeafInMemory}
use Rattle.index_page.specs.Page.{low_of}
use Rattle.page_runs.proofs.LeafMade.{made_in_place}
use Rattle.page_runs.proofs.leaf_work.LeafWorkWork.work.Goals as goal

pub returns-in-Ok-put_leaf_run-clause-made : goal.returns-in-Ok-put_leaf_run-clause-made
returns-in-Ok-put_leaf_run-clause-made c =
    let new = c.put_leaf_run.new.page in
    let same : c.as_mut.result.now ≡ c.deref.result.now = c.as_mut.ensures.value ∙ sym c.deref.ensures in
    made_in_place c.args.self.now.settings c.args.self.now.commands.now c.args.job.page_run (low_of (page_shown c.deref.result.now)) c.in-Some.leaf.now c.as_mut.result.now new c.in-Ok-put_leaf_run.way_back
    c.args.job.page c.whole.result.now c.in-Ok.run' c.in-Ok.pieces
    (ap (λ (m : InMemory). page_shown m) c.as_mut.ensures.value ∙ c.into_memory-page.ensures) (same ∙ c.in-Some.ensures) c.whole.ensures c.in-Ok.ensures.run c.in-Ok.ensures.pieces
    (c.in-Ok-put_leaf_run.ensures.low ∙ ap (λ (m : InMemory). LeafInMemory (low_of (page_shown m)) (lazy_of new)) same)
    c.in-Ok-put_leaf_run.ensures.page c.in-Ok-put_leaf_run.ensures.class c.in-Ok-put_leaf_run.ensures.replaced
