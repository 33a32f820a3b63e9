use Rattle.std.specs.Prelude.{◌≡◌, ℕ, Bool, true, false, ◌&&◌, List, []}
use Rattle.std.proofs.Common.{refl, sym, subst, ◌∙◌, arith}
use Rattle.std.specs.Option.{option_copied}
use Rattle.keys.specs.Range.{is_before, is_below}
use Rattle.delta_chain.specs.Lazy.{seen}
use Rattle.mapping.specs.Levels.{levels_of}
use Rattle.mapping.specs.TreeInMemory.{tree_of}
use Rattle.scan.specs.Path.{leaf_with}
use Rattle.scan.specs.Deletions.{IsTakenBelow}
use Rattle.scan.proofs.RowLemmas.{root_is_there}
use Rattle.scan.proofs.Enough.{later_low}
use Rattle.scan.proofs.Counting.{not_both_below}
use Rattle.scan.proofs.LazyLemmas.{late_part}
use Rattle.scan.proofs.EndLemmas.{passing_first, passing_on, certain_on, enough_on}
use Rattle.scan.proofs.ends.end_of_scan.Goals as goal

both_true : (a b : Bool) → (a && b) ≡ true → (a ≡ true) × (b ≡ true)
both_true true b h = (refl, h)
both_true false b h = absurd (cc)

pub new-leaves-requires : goal.new-leaves-requires
new-leaves-requires c = (omega arith, (c.requires.home, (c.requires.height, root_is_there c.args.tree.now c.requires.held c.requires.levels)))

pub loop-next-init : goal.loop-next-init
loop-next-init c = record {
  passing = passing_first c.args.tree.now c.requires.held c.requires.levels c.args.lo.now _ _ c.new-leaves.ensures;
  before = λ gone is. subst (λ (k : List ℕ). IsTakenBelow gone k c.below-before.result) c.later.ensures (c.below-before.ensures gone is);
  certain = λ gone is. record { each = λ n lack. omega arith };
}

pub returns-then-certain-limit : goal.returns-then-certain-limit
returns-then-certain-limit c = λ gone m is.
    let sum = c.saturating_add-certain.ensures in
    let many = c.if-certain-limit.true in
    let inside = both_true (is_before (option_copied c.args.hi) c.in-Some.next.0.now) (is_below c.args.lo.now c.in-Some.next.0.now) (sym c.is_inside.ensures ∙ c.if-not-is_inside.false) in
    let above = inside.1 in
    enough_on gone (levels_of (tree_of c.args.tree.now)).level c.args.lo.now (leaf_with c.loop-next.leaf.0.now (seen c.loop-next.leaf.1.now)) (leaf_with c.in-Some.next.0.now (seen c.in-Some.next.1.now)) c.loop-next.leaves c.next.new.self
    c.loop-next.invariant.passing c.in-Some.ensures (option_copied c.args.hi) c.args.limit c.loop-next.certain c.certain_pairs-more.result c.saturating_add-certain.result c.requires.levels.tiled (c.loop-next.invariant.certain gone is)
    (λ a b lack below part. c.certain_pairs-more.ensures gone c.in-Some.next.0.now a b (c.loop-next.invariant.before gone is) (c.below-here.ensures gone is) lack below above (late_part c.loop-next.leaf.1.now c.whole.result.now _ c.whole.ensures part))
    (omega (arith, sum)) above inside.0 (omega (arith, many)) m

pub loop-next-preserved : goal.loop-next-preserved
loop-next-preserved c =
    let sum = c.saturating_add-certain.ensures in
    let inside = both_true (is_before (option_copied c.args.hi) c.in-Some.next.0.now) (is_below c.args.lo.now c.in-Some.next.0.now) (sym c.is_inside.ensures ∙ c.if-not-is_inside.false) in
    let above = inside.1 in
    record {
      passing =
          passing_on ([], []) (levels_of (tree_of c.args.tree.now)).level c.args.lo.now (leaf_with c.loop-next.leaf.0.now (seen c.loop-next.leaf.1.now)) (leaf_with c.in-Some.next.0.now (seen c.in-Some.next.1.now)) c.loop-next.leaves c.next.new.self
          c.loop-next.invariant.passing c.in-Some.ensures;
      before = λ gone is.
          subst (λ (k : List ℕ). IsTakenBelow gone k c.below-here.result) (sym (later_low c.in-Some.next.0.now c.args.lo.now (not_both_below c.args.lo.now c.in-Some.next.0.now above))) (c.below-here.ensures gone is);
      certain = λ gone is.
          certain_on gone (levels_of (tree_of c.args.tree.now)).level c.args.lo.now (leaf_with c.loop-next.leaf.0.now (seen c.loop-next.leaf.1.now)) (leaf_with c.in-Some.next.0.now (seen c.in-Some.next.1.now)) c.loop-next.leaves c.next.new.self
          c.loop-next.invariant.passing c.in-Some.ensures c.loop-next.certain c.certain_pairs-more.result c.saturating_add-certain.result c.requires.levels.tiled (c.loop-next.invariant.certain gone is)
          (λ a b lack below part. c.certain_pairs-more.ensures gone c.in-Some.next.0.now a b (c.loop-next.invariant.before gone is) (c.below-here.ensures gone is) lack below above (late_part c.loop-next.leaf.1.now c.whole.result.now _ c.whole.ensures part)) (omega (arith, sum));
    }
