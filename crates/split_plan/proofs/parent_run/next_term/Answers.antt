use Rattle.std.proofs.Common.{arith}
use Rattle.split_plan.proofs.TermMerge.{freed_first, fresh_first, fresh_replaces, front_is, rising_left, some_freed, some_fresh, none_left}
use Rattle.split_plan.proofs.parent_run.next_term.Goals as goal

-- ---- nothing is taken out: this is impossible, because the order says that a list is not empty

pub returns-in_err-member-in-Less : goal.returns-in_err-member-in-Less
returns-in_err-member-in-Less c = absurd (some_freed c.args.freed.now.items c.args.fresh.now.items (omega (arith, c.in_err-member-in-Less.ensures.cases.0)) c.in-Less.ensures)

pub returns-in_err-both-in-Equal : goal.returns-in_err-both-in-Equal
returns-in_err-both-in-Equal c = absurd (some_fresh c.args.freed.now.items c.args.fresh.now.items (omega (arith, c.in_err-both-in-Equal.ensures.cases.0)) c.in-Equal.ensures)

pub returns-in_err-piece-in-Greater-clause-freed : goal.returns-in_err-piece-in-Greater-clause-freed
returns-in_err-piece-in-Greater-clause-freed c = c.requires.freed

pub returns-in_err-piece-in-Greater-clause-fresh : goal.returns-in_err-piece-in-Greater-clause-fresh
returns-in_err-piece-in-Greater-clause-fresh c = rw c.pop_front-in-Greater.ensures.rest (rising_left c.args.fresh.now.items c.requires.fresh)

pub returns-in_err-piece-in-Greater-clause-terms : goal.returns-in_err-piece-in-Greater-clause-terms
returns-in_err-piece-in-Greater-clause-terms c =
    rw c.from_residual-in_err-piece-in-Greater.ensures (none_left c.args.freed.now.items c.args.fresh.now.items (omega (arith, c.in_err-piece-in-Greater.ensures.cases.0)) c.in-Greater.ensures)

pub returns-in_err-piece-in-Greater-clause-fewer : goal.returns-in_err-piece-in-Greater-clause-fewer
returns-in_err-piece-in-Greater-clause-fewer c = rw c.from_residual-in_err-piece-in-Greater.ensures tt

-- ---- a term is taken out

pub returns-in_ok-member-in-Less-clause-freed : goal.returns-in_ok-member-in-Less-clause-freed
returns-in_ok-member-in-Less-clause-freed c = rw c.pop_front.ensures.rest (rising_left c.args.freed.now.items c.requires.freed)

pub returns-in_ok-member-in-Less-clause-terms : goal.returns-in_ok-member-in-Less-clause-terms
returns-in_ok-member-in-Less-clause-terms c =
    freed_first c.args.freed.now.items c.args.fresh.now.items c.pop_front.new.self.items (c.member.inside.low, c.member.inside.pid) c.requires.fresh
    (front_is c.args.freed.now.items c.pop_front.new.self.items _ _ c.member.view_is c.in_ok-member-in-Less.ensures.items) c.in-Less.ensures

pub returns-in_ok-both-in-Equal-clause-freed : goal.returns-in_ok-both-in-Equal-clause-freed
returns-in_ok-both-in-Equal-clause-freed c = rw c.pop_front-replaced.ensures.rest (rising_left c.args.freed.now.items c.requires.freed)

pub returns-in_ok-both-in-Equal-clause-fresh : goal.returns-in_ok-both-in-Equal-clause-fresh
returns-in_ok-both-in-Equal-clause-fresh c = rw c.pop_front-in-Equal.ensures.rest (rising_left c.args.fresh.now.items c.requires.fresh)

pub returns-in_ok-both-in-Equal-clause-terms : goal.returns-in_ok-both-in-Equal-clause-terms
returns-in_ok-both-in-Equal-clause-terms c =
    rw c.pop_front-replaced.ensures.rest
    (fresh_replaces c.args.freed.now.items c.args.fresh.now.items c.pop_front-in-Equal.new.self.items (c.both.inside.low, c.both.inside.pid) c.requires.fresh
    (front_is c.args.fresh.now.items c.pop_front-in-Equal.new.self.items _ _ c.both.view_is c.in_ok-both-in-Equal.ensures.items) c.in-Equal.ensures)

pub returns-in_ok-piece-in-Greater-clause-fresh : goal.returns-in_ok-piece-in-Greater-clause-fresh
returns-in_ok-piece-in-Greater-clause-fresh c = rw c.pop_front-in-Greater.ensures.rest (rising_left c.args.fresh.now.items c.requires.fresh)

pub returns-in_ok-piece-in-Greater-clause-terms : goal.returns-in_ok-piece-in-Greater-clause-terms
returns-in_ok-piece-in-Greater-clause-terms c =
    fresh_first c.args.freed.now.items c.args.fresh.now.items c.pop_front-in-Greater.new.self.items (c.piece.inside.low, c.piece.inside.pid) c.requires.fresh
    (front_is c.args.fresh.now.items c.pop_front-in-Greater.new.self.items _ _ c.piece.view_is c.in_ok-piece-in-Greater.ensures.items) c.in-Greater.ensures

pub returns-in_ok-member-in-Less-clause-fresh : goal.returns-in_ok-member-in-Less-clause-fresh
returns-in_ok-member-in-Less-clause-fresh c = c.requires.fresh

pub returns-in_ok-member-in-Less-clause-fewer : goal.returns-in_ok-member-in-Less-clause-fewer
returns-in_ok-member-in-Less-clause-fewer c = omega (arith, c.in_ok-member-in-Less.ensures.cases)

pub returns-in_ok-both-in-Equal-clause-fewer : goal.returns-in_ok-both-in-Equal-clause-fewer
returns-in_ok-both-in-Equal-clause-fewer c = omega (arith, c.pop_front-replaced.ensures.len, c.in_ok-both-in-Equal.ensures.cases)

pub returns-in_ok-piece-in-Greater-clause-freed : goal.returns-in_ok-piece-in-Greater-clause-freed
returns-in_ok-piece-in-Greater-clause-freed c = c.requires.freed

pub returns-in_ok-piece-in-Greater-clause-fewer : goal.returns-in_ok-piece-in-Greater-clause-fewer
returns-in_ok-piece-in-Greater-clause-fewer c = omega (arith, c.in_ok-piece-in-Greater.ensures.cases)
