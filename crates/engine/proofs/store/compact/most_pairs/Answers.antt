use Rattle.std.proofs.Common.{ℕ, ◌*◌, ap, arith}
use Rattle.engine.proofs.RoomLemmas.{few-pairs}
use Rattle.engine.proofs.store.compact.most_pairs.Goals as goal

pub returns : goal.returns
returns c n few =
    let beyond = c.saturating_sub-beyond.ensures in
    let entries = c.saturating_mul-entries.ensures in
    let same = ap (λ (f : ℕ). c.saturating_sub-beyond.result * f) c.from-2.ensures in
    few-pairs n c.args.pages c.args.height c.args.fan c.saturating_sub-beyond.result c.saturating_mul-entries.result (omega (arith, beyond)) (omega (arith, entries, same)) few
