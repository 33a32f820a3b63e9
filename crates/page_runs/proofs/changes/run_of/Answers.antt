use Rattle.std.proofs.Common.{List, ℕ, Option, ◌∷◌, ◌++◌}
use Rattle.std.proofs.lemmas.Map.Iter.{rest_more}
use Rattle.keys.specs.Order.{IsRising}
use Rattle.delta_chain.proofs.Rising.{goes_last-rising}
use Rattle.page_runs.proofs.changes.run_of.Goals as goal

-- The changes rise, so the next one goes after those in the run.
pub push_next-requires : goal.push_next-requires
push_next-requires c =
    let run : List (List ℕ × Option (List ℕ)) = c.loop-key.run in
    let first = rest_more (λ (p : List ℕ × Option (List ℕ)). p) c.loop-key.key-iterator c.next.new.self c.next.result (c.in-Some.key, c.in-Some.change) c.in-Some.is c.next.ensures.steps in
    let rising : IsRising (run ++ (c.in-Some.key, c.in-Some.change) ∷ c.next.new.self) = rw (← first) (rw (c.loop-key.invariant, c.into_iter-key-iterator.ensures.into_iter_gives.0) c.len.ensures.ordered) in
    goes_last-rising run c.in-Some.key c.in-Some.change c.next.new.self rising
