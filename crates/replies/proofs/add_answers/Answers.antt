use Rattle.std.proofs.Common.{◌∙◌, ap, length}
use Rattle.std.specs.Option.{option_to_list}
use Rattle.replies.proofs.Placing.{first_within, others_within, rowless_within, with_pieces-all, count-two, length-with_pieces}
use Rattle.replies.proofs.add_answers.Goals as goal

pub add_first-requires-clause-within : goal.add_first-requires-clause-within
add_first-requires-clause-within c =
    let parts = c.into_parts-first.result in
    first_within c.args.commands.now c.args.pieces (option_to_list parts.0) parts.1.items parts.2.items c.into_parts-first.ensures c.requires.within

pub add_all-requires-clause-within : goal.add_all-requires-clause-within
add_all-requires-clause-within c =
    let parts = c.into_parts-first.result in
    others_within c.args.commands.now c.args.pieces (option_to_list parts.0) parts.1.items parts.2.items c.into_parts-first.ensures c.requires.within

pub add_all-requires-clause-count : goal.add_all-requires-clause-count
add_all-requires-clause-count c = ap length c.in_ok-add_first.ensures ∙ length-with_pieces c.args.commands.now (option_to_list c.into_parts-first.result.0) c.args.replies.now ∙ c.requires.count

pub add_empty_scans-requires-clause-within : goal.add_empty_scans-requires-clause-within
add_empty_scans-requires-clause-within c =
    let parts = c.into_parts-first.result in
    rowless_within c.args.commands.now c.args.pieces (option_to_list parts.0) parts.1.items parts.2.items c.into_parts-first.ensures c.requires.within

pub add_empty_scans-requires-clause-count : goal.add_empty_scans-requires-clause-count
add_empty_scans-requires-clause-count c =
    let parts = c.into_parts-first.result in
    count-two c.args.commands.now c.args.pieces (option_to_list parts.0) parts.1.items parts.2.items c.into_parts-first.ensures c.args.replies.now _ _ c.in_ok-add_first.ensures c.in_ok-add_all.ensures ∙ c.requires.count

pub returns : goal.returns
returns c =
    let parts = c.into_parts-first.result in
    with_pieces-all c.args.commands.now c.args.pieces (option_to_list parts.0) parts.1.items parts.2.items c.into_parts-first.ensures c.args.replies.now _ _ _ c.in_ok-add_first.ensures c.in_ok-add_all.ensures c.add_empty_scans.ensures
