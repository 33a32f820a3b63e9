use Rattle.std.specs.Prelude.{◌≡◌, ◌≤◌, ◌-◌, ◌^◌, ℕ, true, false, List}
use Rattle.std.proofs.Common.{refl, sym, subst, ap, ◌∙◌, arith, Ordering}
use Rattle.std.specs.Ordering.{is_lt}
use Rattle.keys.specs.Range.{is_below}
use Rattle.delta_chain.specs.Layers.{entries_of}
use Rattle.scan.specs.Deletions.{IsTakenBelow}
use Rattle.scan.proofs.Enough.{none_certain, some_certain, after_certain, later_lo, later_low}
use Rattle.scan.proofs.ends.certain_pairs.Goals as goal

pub returns-in_default : goal.returns-in_default
returns-in_default c = λ gone end m n before here lack below above part. none_certain (is_below c.args.low.now c.args.lo.now) c.args.lo.now c.args.low.now end n refl below

pub returns-then-is_lt : goal.returns-then-is_lt
returns-then-is_lt c = λ gone end m n before here lack below above part.
    let under : is_below c.args.low.now c.args.lo.now ≡ true = sym (ap (λ (o : Ordering). is_lt o) c.compare.ensures) ∙ sym c.if-is_lt.ensures in
    let share = c.in-Some.ensures gone c.args.lo.now end above (subst (λ (k : List ℕ). IsTakenBelow gone k c.args.before.now) (later_lo c.args.low.now c.args.lo.now under) before) here in
    let most : c.fewest_entries-fewest.result ≤ 2 ^ 64 - 1 = omega (arith, c.fewest_entries-fewest.type_inv) in
    let left : c.saturating_sub-then-is_lt.result ≡ (c.fewest_entries-fewest.result - c.named_below.result) - c.in-Some.most = c.saturating_sub-then-is_lt.ensures ∙ ap (λ (x : ℕ). x - c.in-Some.most) c.saturating_sub.ensures in
    after_certain c.args.lo.now c.args.low.now end gone m n c.args.chain.now c.fewest_entries-fewest.result (2 ^ 64 - 1) c.named_below.result c.in-Some.most c.saturating_sub-then-is_lt.result
    under share.0 lack part c.fewest_entries-fewest.ensures most c.named_below.ensures share.1 left

pub returns-else-is_lt : goal.returns-else-is_lt
returns-else-is_lt c = λ gone end m n before here lack below above part.
    let from : is_below c.args.low.now c.args.lo.now ≡ false = sym (ap (λ (o : Ordering). is_lt o) c.compare.ensures) ∙ sym c.if-is_lt.ensures in
    let share = c.in-Some.ensures gone c.args.low.now end below (subst (λ (k : List ℕ). IsTakenBelow gone k c.args.before.now) (later_low c.args.low.now c.args.lo.now from) before) here in
    some_certain c.args.lo.now c.args.low.now end gone m n (entries_of c.args.chain.now) c.fewest_entries-fewest.result c.in-Some.most c.saturating_sub-else-is_lt.result
    from below share.0 lack part c.fewest_entries-fewest.ensures share.1 c.saturating_sub-else-is_lt.ensures
