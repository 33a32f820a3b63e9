use Rattle.std.proofs.Common.{◌≡◌, ◌≤◌, ℕ, min, arith, refl}
use Rattle.delta_chain.proofs.chain.Chain.of_base.Goals as goal

exact : (n count top : ℕ) → n ≡ count → min count top ≤ n
exact n count top e = omega (arith, e)

pub invariant_of-result : goal.invariant_of-result
invariant_of-result g c =
    rw (c.new-runs.ensures.items, c.new-locators.ensures.items) (
      record {
        rising = c.len-count.ensures.rising;
        entries = omega (arith, c.len-count.ensures.count);
        no_more = exact c.len-count.result _ _ c.len-count.ensures.count;
      },
      record { count = omega arith; places = tt },
      record { all = tt; keys = refl },
    )
