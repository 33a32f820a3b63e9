use Rattle.std.proofs.Common.{◌+◌, ◌-◌, ◌∙◌, ap, sym, take, arith}
use Rattle.std.proofs.lemmas.List.{length-drop}
use Rattle.engine.proofs.GroupLemmas.{next_group}
use Rattle.engine.proofs.reads.group_starts.Goals as goal

pub loop-start-preserved : goal.loop-start-preserved
loop-start-preserved c =
    let start = c.loop-start.start in
    let left = c.args.count - start in
    let next = c.min-start.ensures in
    record {
      groups = λ rs e. next_group rs c.loop-start.starts.items c.push.new.self.items start left (sym (length-drop start rs ∙ ap (λ n. n - start) e)) c.in_ok-push.ensures.items (c.loop-start.invariant.groups rs e)
          ∙ ap (λ n. take (start + n) rs) (sym next);
      within = omega (arith, next, c.loop-start-test.true);
    }
