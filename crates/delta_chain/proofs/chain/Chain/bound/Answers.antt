use Rattle.std.proofs.Common.{◌≡◌, ◌≤◌, ℕ, min, max, arith}
use Rattle.delta_chain.proofs.chain.Chain.bound.Goals as goal

at_least : (n a b limit : ℕ) → n ≡ max a b → a ≤ limit → b ≤ limit → n ≤ limit
at_least n a b limit e h i = omega arith

at_most : (n a b limit : ℕ) → n ≡ min a b → limit ≤ a → limit ≤ b → limit ≤ n
at_most n a b limit e h i = omega arith

pub invariant_of-self : goal.invariant_of-self
invariant_of-self g c =
    let fewest = rw (← c.self.view_is) at c.requires.fewest in
    let most = rw (← c.self.view_is) at c.requires.most in (
      record {
        rising = c.self.invariant.0.rising;
        entries = at_least c.max.result c.self.inside.entries.fewest c.args.known.fewest _ c.max.ensures c.self.invariant.0.entries fewest;
        no_more = at_most c.min.result c.self.inside.entries.most c.args.known.most _ c.min.ensures c.self.invariant.0.no_more most;
      },
      c.self.invariant.1,
      c.self.invariant.2,
    )
