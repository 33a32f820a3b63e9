use Rattle.std.proofs.Common.{rules, ◌≡◌, ◌<◌, ◌≤◌, ◌∷◌, length, ap, arith}
use Rattle.frame_codec.specs.Sized.{IsSized}
use Rattle.flush_log.proofs.WrittenLemmas.{all_older, on_ok-newest}
use Rattle.flush_log.proofs.image_work.+push_runs.Goals as goal

pub push_runs-requires : goal.push_runs-requires
push_runs-requires g t c κs within =
    let is : c.args.lists.now.runs ≡ c.in-Some.run'.now ∷ c.in-Some.below.runs = ap (λ l. l.runs) c.in-Some.ensures in
    let count = ap length is in
    let few : c.args.kept ≤ length c.in-Some.below.runs = omega (arith, count) in
    let falls : length c.in-Some.below.runs < t = omega (arith, count, c.decreases) in
    (falls, (search rules, (search rules, (omega (arith, count, c.requires.few), (all_older g.V.Kind.delta c.args.kept c.in-Some.run'.now c.args.lists.now.runs c.in-Some.below.runs is few IsSized c.requires.sized).0))))

pub push_delta-requires : goal.push_delta-requires
push_delta-requires g t c =
    let is : c.args.lists.now.runs ≡ c.in-Some.run'.now ∷ c.in-Some.below.runs = ap (λ l. l.runs) c.in-Some.ensures in
    let count = ap length is in
    let few : c.args.kept ≤ length c.in-Some.below.runs = omega (arith, count) in
    (all_older g.V.Kind.delta c.args.kept c.in-Some.run'.now c.args.lists.now.runs c.in-Some.below.runs is few IsSized c.requires.sized).1

pub returns-in_ok-push_runs-in-Some : goal.returns-in_ok-push_runs-in-Some
returns-in_ok-push_runs-in-Some g t c =
    let is : c.args.lists.now.runs ≡ c.in-Some.run'.now ∷ c.in-Some.below.runs = ap (λ l. l.runs) c.in-Some.ensures in
    let count = ap length is in
    let few : c.args.kept ≤ length c.in-Some.below.runs = omega (arith, count) in
    on_ok-newest g.V.Kind.delta c.args.kept c.in-Some.run'.now c.args.lists.now.runs c.in-Some.below.runs is few c.args.pid c.args.image.now c.push_runs.new.image c.push_delta.new.self c.push_delta.result
    c.in_ok-push_runs-in-Some.ensures c.push_delta.ensures.ok c.push_delta.ensures.words
