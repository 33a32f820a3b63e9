use Rattle.std.proofs.Common.{◌∙◌, ap}
use Rattle.std.specs.Map.{keys_of}
use Rattle.index_page.specs.InMemory.{page_shown}
use Rattle.index_page.specs.Page.{low_of}
use Rattle.split_plan.proofs.MovingLemmas.{is_leaf_by, low_by, runs_by, keys_by, leaf_shown}
use Rattle.split_plan.proofs.moving.fill.Goals as goal

pub take_leaf-requires : goal.take_leaf-requires
take_leaf-requires c = is_leaf_by c.args.page.now c.requires.0 _ _ c.requires.3

pub into_base-blank-requires : goal.into_base-blank-requires
into_base-blank-requires c =
    ap (λ x. x.runs) c.into_chain.ensures ∙ runs_by c.args.page.now (low_of (page_shown c.args.page.now)) c.requires.0 c.take_leaf.result _ _ c.take_leaf.ensures.values c.requires.3

pub filled-base-requires : goal.filled-base-requires
filled-base-requires c =
    let keys = ap keys_of c.into_base-blank.ensures ∙ ap (λ x. keys_of x.base) c.into_chain.ensures ∙ keys_by c.args.page.now (low_of (page_shown c.args.page.now)) c.requires.0 c.take_leaf.result _ _ c.take_leaf.ensures.values c.requires.3 in
    (c.requires.1, c.requires.2, keys, c.requires.4)

pub returns : goal.returns
returns c = λ low base es f h.
    let old = low_of (page_shown c.args.page.now) in
    let keys = ap keys_of c.into_base-blank.ensures ∙ ap (λ x. keys_of x.base) c.into_chain.ensures ∙ keys_by c.args.page.now old low c.take_leaf.result _ _ c.take_leaf.ensures.values f in
    let is = c.filled-base.ensures base es keys h in
    let same = c.take_leaf.ensures.low ∙ low_by c.args.page.now old low c.take_leaf.result _ _ c.take_leaf.ensures.values f in
    (leaf_shown c.put_leaf.new.self (low_of (page_shown c.take_leaf.new.self)) low c.of.result c.of_base.result c.filled-base.result base c.put_leaf.ensures c.of.ensures c.of_base.ensures same is.0, is.1)
