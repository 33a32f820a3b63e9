use Rattle.std.proofs.Common.{ap, sym, rules, ◌≡◌, Some, true}
use Rattle.std.specs.Option.{option_copied}
use Rattle.keys.specs.Range.{is_below}
use Rattle.scan.proofs.TakenLemmas.{wiped_above_lent, wiped_between_lent}
use Rattle.scan.proofs.taken.Deletions.note_range.Goals as goal

pub returns-in-None-clause-wiped : goal.returns-in-None-clause-wiped
returns-in-None-clause-wiped c = λ ranges w k i s.
    wiped_above_lent ranges c.args.lo.now c.as_bytes.result.now (option_copied c.args.hi) c.args.self.now c.self.inside.deleted c.self.inside.wiped_from c.self.inside.wiped_to c.note.new.self
    (sym c.self.view_is) c.as_bytes.ensures (ap option_copied c.in-None.is) c.note.ensures.came w k s

pub returns-then-is_before-clause-wiped : goal.returns-then-is_before-clause-wiped
returns-then-is_before-clause-wiped c = λ ranges w k i s.
    let end : option_copied c.args.hi ≡ Some c.in-Some.hi.now = search rules in
    let below : is_below c.args.lo.now c.in-Some.hi.now ≡ true = search rules in
    wiped_between_lent ranges c.args.lo.now c.as_bytes-then-is_before.result.now c.in-Some.hi.now c.as_bytes-then-is_before-2.result.now (option_copied c.args.hi) c.args.self.now c.self.inside.deleted c.self.inside.wiped_from c.self.inside.wiped_to
    c.note-then-is_before.new.self c.note-then-is_before-2.new.self (sym c.self.view_is) c.as_bytes-then-is_before.ensures c.as_bytes-then-is_before-2.ensures end below c.note-then-is_before.ensures.came c.note-then-is_before-2.ensures.came w k i s
