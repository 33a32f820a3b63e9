use Rattle.std.proofs.Common.{◌+◌, refl, ap, ◌∙◌, arith}
use Rattle.std.proofs.lemmas.List.{take_rest}
use Rattle.routing.specs.Shares.{Lent}
use Rattle.routing.proofs.ShareLemmas.{rest_keyed, rest_points, hand_step, keys_step, all_handed}
use Rattle.routing.proofs.descent.hand_down_points.Goals as goal

pub first_child-pid-requires-clause-ready : goal.first_child-pid-requires-clause-ready
first_child-pid-requires-clause-ready c = (c.requires.0, rest_keyed c.requires.0 c.args.page.now c.args.keyed.now _ c.loop-start.start (take_rest c.args.keyed.now c.loop-start.start) c.requires.1)

pub loop-start-preserved : goal.loop-start-preserved
loop-start-preserved c =
    let page = c.args.page.now in
    let es = c.args.keyed.now in
    let start = c.loop-start.start in
    let n = c.first_child-pid.result.1 in
    let rest = take_rest es start in
    let old = c.loop-start.below.items in
    let new = c.push.new.self.items in
    let made = c.new-in-loop-start.ensures in
    record {
      most = omega arith;
      shares = λ cs z h. hand_step cs page es _ start n (start + n) c.first_child-pid.result.0 old new _ _ rest refl (ap (λ (s : Lent). s.pid) made) (ap (λ (s : Lent). s.keyed) made) (ap (λ (s : Lent). s.reaching) made ∙ c.new.ensures.items) c.in_ok-push.ensures.items (c.first_child-pid.ensures.first cs (rest_points cs es _ start rest z) (rest_keyed cs page es _ start rest h)) (c.loop-start.invariant.shares cs z h);
      keys = λ cs k a. keys_step cs es start (start + n) old new _ (ap (λ (s : Lent). s.keyed) made) c.in_ok-push.ensures.items k (c.loop-start.invariant.keys cs k a);
    }

pub returns-clause-shares : goal.returns-clause-shares
returns-clause-shares c = λ cs z h. all_handed cs c.args.page.now c.args.keyed.now c.loop-start.start c.loop-start.below.items _ c.loop-start-test.false (c.loop-start.invariant.shares cs z h)
