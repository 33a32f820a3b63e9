use Rattle.std.proofs.Common.{sym, subst, ◌≤◌, ℕ}
use Rattle.recovery.proofs.ReadLog.{in_use, is_last}
use Rattle.recovery.proofs.log_reading.bytes_in_use.Goals as goal

pub returns-clause-same : goal.returns-clause-same
returns-clause-same c = in_use c.args.format.now.settings c.args.ends.now.tail c.last_segment-last.result c.from.result c.last_segment-last.ensures c.from.ensures

pub returns-clause-within : goal.returns-clause-within
returns-clause-within c =
    let used = (is_last c.args.format.now.settings c.args.ends.now c.requires.checked c.requires.ends).used in
    subst (λ (n : ℕ). n ≤ c.args.format.now.settings.seg_size) (sym (returns-clause-same c)) used
