use Rattle.std.proofs.Common.{suc, ◌≡◌, ◌+◌, ◌-◌, arith}
use Rattle.mapping.specs.Table.{page_of}
use Rattle.mapping.proofs.DescentLemmas.{not_missing, has_child, step_down, begun, ended}
use Rattle.mapping.proofs.tree.Tree.descend.Goals as goal

pub loop-level-init : goal.loop-level-init
loop-level-init g c = begun (page_of c.args.self.now.table) c.args.key.now c.args.depth c.args.self.now.root (c.args.depth - 0) c.root-pid.result (omega arith) c.root-pid.ensures c.requires

pub child_for-pid-requires : goal.child_for-pid-requires
child_for-pid-requires g c =
    let i = c.loop-level._level in
    let left : suc (c.args.depth - (i + 1)) ≡ c.args.depth - i = omega arith in
    has_child (page_of c.args.self.now.table) c.args.key.now (c.args.depth - i) (c.args.depth - (i + 1)) c.loop-level.pid c.in-Some.page.now left c.loop-level.invariant.way c.in-Some.ensures.home

pub unreachable-requires : goal.unreachable-requires
unreachable-requires g c =
    let i = c.loop-level._level in
    let left : suc (c.args.depth - (i + 1)) ≡ c.args.depth - i = omega arith in
    not_missing (page_of c.args.self.now.table) c.args.key.now (c.args.depth - i) (c.args.depth - (i + 1)) c.loop-level.pid left c.loop-level.invariant.way c.in-None.ensures.home

pub loop-level-preserved : goal.loop-level-preserved
loop-level-preserved g c =
    let i = c.loop-level._level in
    let left : suc (c.args.depth - (i + 1)) ≡ c.args.depth - i = omega arith in
    step_down (page_of c.args.self.now.table) c.args.key.now c.args.depth c.args.self.now.root (c.args.depth - i) (c.args.depth - (i + 1)) c.loop-level.pid c.child_for-pid.result c.in-Some.page.now left c.loop-level.invariant c.in-Some.ensures.home c.child_for-pid.ensures

pub returns : goal.returns
returns g c =
    let left : c.args.depth - c.loop-level._level ≡ 0 = omega arith in
    ended (page_of c.args.self.now.table) c.args.key.now c.args.depth c.args.self.now.root (c.args.depth - c.loop-level._level) c.loop-level.pid left c.loop-level.invariant
