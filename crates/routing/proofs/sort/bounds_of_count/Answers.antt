use Rattle.std.proofs.Common.{◌≡◌, ◌≤◌, length, arith, ap, ◌∙◌}
use Rattle.std.proofs.lemmas.List.{drop_all}
use Rattle.routing.specs.Keyed.{Keyed, has_key_below}
use Rattle.routing.proofs.SliceLemmas.{pass_upto, none_from}
use Rattle.routing.proofs.sort.bounds_of_count.Goals as goal
use Rattle.routing.proofs.sort.bounds_of_count.Goals.{then-loop-high-test+else-has_key_below, else-loop-high-test}

pub loop-high-preserved : goal.loop-high-preserved
loop-high-preserved c =
    let es = c.args.keyed.now in
    record {
      order = omega arith;
      most = omega arith;
      below = pass_upto (has_key_below c.args.key.now) es c.loop-high.high _ c.has_key_below.result c.requires c.loop-high-test.true (c.has_key_below.ensures ∙ ap (λ (e : Keyed). has_key_below c.args.key.now e) c.index-keyed-high.is) c.if-has_key_below.true;
    }

pub returns-clause-others : goal.returns-clause-others
returns-clause-others c =
    let es = c.args.keyed.now in
    elim c.loop-high-test.branch [
      | then-loop-high-test+else-has_key_below w ↦ (
          let more = w.loop-high-test.true in
          let same : c.min.result ≡ c.loop-high.high = omega arith in
          rw same (none_from (has_key_below c.args.key.now) es c.loop-high.high _ w.has_key_below.result c.requires more (w.has_key_below.ensures ∙ ap (λ (e : Keyed). has_key_below c.args.key.now e) w.index-keyed-high.is) w.if-has_key_below.false)
          )
      | else-loop-high-test w ↦ (
          let none = w.loop-high-test.false in
          let all : length es ≤ c.min.result = omega arith in
          rw (drop_all c.min.result es all) tt
          )
    ]
