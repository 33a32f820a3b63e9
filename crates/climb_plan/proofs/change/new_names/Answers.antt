use Rattle.std.proofs.Common.{◌≡◌, ◌∙◌, ◌++◌, ap, drop}
use Rattle.climb_plan.specs.Rewriting.{Remade, fresh_names, named_pages}
use Rattle.climb_plan.proofs.ChangedNames.{named_blank}
use Rattle.climb_plan.proofs.Copying.{joined_more, joined_all}
use Rattle.climb_plan.proofs.change.new_names.Goals as goal

pub loop-group-preserved : goal.loop-group-preserved
loop-group-preserved c =
    let r = c.group-item.result in
    let fresh : c.deref.result.now ≡ r.fresh = c.deref.ensures.value ∙ ap (λ (r : Remade). r.fresh) c.group.view_is in
    let named = named_blank c.new_pieces.result.now (drop 1 r.pieces) c.deref.result.now c.new_pieces.ensures ∙ ap (named_pages (drop 1 r.pieces)) fresh in
    joined_more fresh_names c.loop-group.names.items c.push_names.new.names.items _ c.args.all.now c.loop-group.group-index r c.loop-group-test.true c.group-item.is
    (c.in_ok-push_names.ensures ∙ ap (λ ns. c.loop-group.names.items ++ ns) named) c.loop-group.invariant

pub returns : goal.returns
returns c = joined_all fresh_names c.loop-group.names.items _ c.args.all.now c.loop-group.group-index c.loop-group-test.false c.loop-group.invariant
