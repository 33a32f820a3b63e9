use Rattle.std.proofs.Common.{rules, ◌∙◌, ◌++◌, map, ap, length, refl}
use Rattle.std.proofs.lemmas.List.{take_all}
use Rattle.std.proofs.lemmas.Option.{slice_get_read}
use Rattle.delta_chain.specs.Layers.{entries_of, holds}
use Rattle.engine.specs.GroupReads.{piece_of}
use Rattle.engine.proofs.GroupLemmas.{all_found, get_answer, one_found, place_within}
use Rattle.engine.proofs.group_reads.search_leaf.Goals as goal

pub offset_bounds-commands-place : goal.offset_bounds-commands-place
offset_bounds-commands-place c = let within = place_within c.args.commands.now _ c.places-place-items.result.now c.loop-place.place-index c.requires.places c.places-place-items.ensures.same c.loop-place-test.true in search rules

pub bounds-commands-place : goal.bounds-commands-place
bounds-commands-place c = place_within c.args.commands.now _ c.places-place-items.result.now c.loop-place.place-index c.requires.places c.places-place-items.ensures.same c.loop-place-test.true

pub loop-place-preserved : goal.loop-place-preserved
loop-place-preserved c =
    let cs = c.args.commands.now in
    let page = c.args.leaf.now.chain.now in
    let places = c.places-place-items.result.now in
    let i = c.loop-place.place-index in
    let within = place_within cs _ places i c.requires.places c.places-place-items.ensures.same c.loop-place-test.true in
    one_found cs page c.index-commands-place.result _ c.args.found.now.items c.loop-place.found.items c.push.new.self.items places i c.depth-in_order.ensures.rising c.loop-place-test.true
    (slice_get_read cs (length cs) _ c.index-commands-place.result refl within c.index-commands-place.is) refl (c.get-value.ensures ∙ ap (holds page) (c.as_bytes.ensures ∙ c.key.ensures)) c.in_ok-push.ensures.items c.loop-place.invariant

pub returns : goal.returns
returns c place =
    let cs = c.args.commands.now in
    let page = c.args.leaf.now.chain.now in
    let places = c.places-place-items.result.now in
    let before = c.args.found.now.items in
    all_found cs c.args.leaf.now.page_run.now page before c.loop-place.found.items places place c.requires.gets c.requires.places c.places-place-items.ensures.same
    (c.loop-place.invariant ∙ ap (λ ps. map piece_of before ++ map (get_answer cs (entries_of page)) ps) (take_all c.loop-place.place-index places c.loop-place-test.false))
