use Rattle.std.proofs.Common.{◌≡◌, ◌+◌, drop, arith, sym, ap, ◌∙◌}
use Rattle.std.specs.Option.{option_copied}
use Rattle.index_page.proofs.ChildLemmas.{next_key}
use Rattle.verify.proofs.LevelLemmas.{next_there, no_next, push_place}
use Rattle.verify.proofs.level.push_places.Goals as goal
use Rattle.verify.proofs.level.push_places.Goals.{then-at-count, else-at-count}

pub loop-at-preserved : goal.loop-at-preserved
loop-at-preserved c =
    let es = c.args.entries.now in
    let end = option_copied c.args.end in
    let next : next_key (drop (c.loop-at.at + 1) es) end ≡ option_copied c.if-at-count.next = elim c.if-at-count.branch [
      | then-at-count w ↦ next_there es (c.loop-at.at + 1) end w.key.result.now w.key.ensures ∙ sym (ap option_copied w.next-is)
      | else-at-count w ↦ no_next es (c.loop-at.at + 1) end (omega arith) ∙ sym (ap option_copied w.next-is)
    ] in
    rw c.in_ok-push.ensures.items (push_place c.loop-at.below.items es c.loop-at.at c.key-in-loop-at.result.now c.cell.result.now end (option_copied c.if-at-count.next) _ c.key-in-loop-at.ensures c.cell.ensures next c.loop-at.invariant)
