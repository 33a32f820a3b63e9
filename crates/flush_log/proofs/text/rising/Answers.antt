use Rattle.std.proofs.Common.{eqb}
use Rattle.std.proofs.lemmas.List.Filters.{dedup_is}
use Rattle.flush_log.proofs.DueLemmas.{once-rising, once-all}
use Rattle.flush_log.proofs.text.rising.Goals as goal

pub returns-clause-rising : goal.returns-clause-rising
returns-clause-rising c =
    let sorted = c.sort_unstable.new.self.items in
    let once = c.dedup.new.self.items in
    once-rising c.extend_from_slice.new.self.items sorted once c.sort_unstable.ensures.permutation c.sort_unstable.ensures.sorted (dedup_is eqb sorted once c.dedup.ensures.filtered)

pub returns-clause-all : goal.returns-clause-all
returns-clause-all c =
    let sorted = c.sort_unstable.new.self.items in
    let once = c.dedup.new.self.items in
    let items = c.in_ok-extend_from_slice.ensures.items in
    let none = c.new-rising.ensures.items in
    let all = once-all c.extend_from_slice.new.self.items sorted once c.sort_unstable.ensures.permutation c.sort_unstable.ensures.sorted (dedup_is eqb sorted once c.dedup.ensures.filtered) in
    rw (items, none) at all
