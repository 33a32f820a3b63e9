use Rattle.std.proofs.Common.{◌≡◌, ℕ, ◌+◌, ◌-◌, ◌∙◌, ◌++◌, [], ◌∷◌, List, length, sym, ap, arith, append-nil}
use Rattle.climb_plan.specs.Rewriting.{all_seen, groups_seen, rewritten_groups}
use Rattle.climb_plan.proofs.RewritingGroups.{count_added, some_added, none_added}
use Rattle.climb_plan.proofs.family.add_family.Goals as goal
use Rattle.climb_plan.proofs.family.add_family.Goals.{then-count-gt0+in_ok-push, else-count-gt0}

pub returns-clause-parents : goal.returns-clause-parents
returns-clause-parents c = λ f e k.
    let gs = rewritten_groups f.children in
    let parents : List (ℕ × ℕ) = c.args.rewrites.now.parents.items in
    let own = ap rewritten_groups (ap all_seen c.deref.ensures.value ∙ c.in_ok-children.ensures.children f e k) in
    let more : length c.add_groups.new.rewritten.items ≡ length c.args.rewrites.now.groups.items + length gs =
    count_added c.args.rewrites.now.groups.items c.add_groups.new.rewritten.items gs (c.in_ok-add_groups.ensures ∙ ap (λ hs. groups_seen c.args.rewrites.now.groups.items ++ hs) own) in
    let new = c.add_groups.new.rewritten.ok in
    let old = c.args.rewrites.now.groups.ok in
    let n : ℕ = c.len.result - c.len-before.result in
    let count : n ≡ length gs = omega (arith, c.len.ensures, c.len-before.ensures) in
    elim c.if-count-gt0.branch [
      | then-count-gt0+in_ok-push w ↦
          let some = some_added f.parent.pid n gs count w.if-count-gt0.true in
          let one : ℕ → List (ℕ × ℕ) = λ pid. (pid, n) ∷ [] in
          rw w.rewrites-is (w.in_ok-push.ensures.items ∙ ap (λ (cs : List (ℕ × ℕ)). parents ++ cs) (ap one e ∙ sym some))
      | else-count-gt0 w ↦
          let none = none_added f.parent.pid n gs count (λ l. let h = w.if-count-gt0.false in omega arith) in
          rw w.rewrites-is (sym (append-nil parents) ∙ ap (λ (cs : List (ℕ × ℕ)). parents ++ cs) (sym none))
    ]
