use Rattle.std.proofs.Common.{map, reverse, refl}
use Rattle.flush_log.proofs.WrittenLemmas.{written-first}
use Rattle.flush_log.proofs.image_work.whole_image.Goals as goal

pub returns : goal.returns
returns g c =
    written-first c.args.pid (g.V.Kind.full c.args.encoding c.args.low.now c.args.base.now) (g.V.Kind.full c.args.encoding c.args.low.now c.args.base.now) (map g.V.Kind.delta (reverse c.args.lists.now.runs))
    c.in_ok-image.image c.push_full.new.self c.push_runs.new.image c.in_ok-image.ensures refl
    c.in_ok-push_full.ensures.ok c.in_ok-push_full.ensures.words c.in_ok-push_runs.ensures
