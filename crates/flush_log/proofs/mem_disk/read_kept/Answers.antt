use Rattle.std.proofs.Common.{◌≡◌, ℕ, ◌+◌, ◌-◌, List, ◌++◌, length, take, drop, replicate, ap, ◌∙◌, arith}
use Rattle.flush_log.proofs.RecordLemmas.{zeros-read}
use Rattle.flush_log.proofs.mem_disk.read_kept.Goals as goal

pub returns : goal.returns
returns c =
    let from = c.min-from.result in
    let here = c.min-here.result in
    let long : (from + here) - from ≡ here = omega arith in
    let zeros = replicate (length c.args.buf.now) 0 in
    ap (λ (xs : List ℕ). c.copy_from_slice.new.self ++ drop here xs) (c.fill.ensures.after (λ y h. h))
    ∙ ap (λ (xs : List ℕ). xs ++ drop here zeros) c.copy_from_slice.ensures.after
    ∙ ap (λ (k : ℕ). take k (drop from c.args.kept.now) ++ drop here zeros) long
    ∙ zeros-read c.args.len c.args.kept.now c.args.at (length c.args.buf.now) from here c.requires.short c.requires.within c.min-from.ensures c.min-here.ensures
