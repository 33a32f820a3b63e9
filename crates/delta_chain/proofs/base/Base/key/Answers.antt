use Rattle.std.proofs.Common.{◌-◌, arith, rules}
use Rattle.delta_chain.specs.Packed.{ends_of}
use Rattle.delta_chain.proofs.Packing.{packed_within, end_within, start_within, key_at_place, first_key, length-ends_of, end_there}
use Rattle.delta_chain.proofs.base.Base.key.Goals as goal

pub index-requires : goal.index-requires
index-requires g c =
    let within = packed_within c.self.inside.bytes.items (ends_of c.self.inside.marks.items) c.self.inside.cells.items c.args.at c.self.invariant.0 (rw c.self.view_is c.requires) in
    omega (arith, within.0, length-ends_of c.self.inside.marks.items, c.self.inside.marks.ok)

pub index-requires-else-at-eq0 : goal.index-requires-else-at-eq0
index-requires-else-at-eq0 g c =
    let within = packed_within c.self.inside.bytes.items (ends_of c.self.inside.marks.items) c.self.inside.cells.items c.args.at c.self.invariant.0 (rw c.self.view_is c.requires) in
    omega (arith, within.0, length-ends_of c.self.inside.marks.items, c.self.inside.marks.ok)

pub slice_bounds-result-end : goal.slice_bounds-result-end
slice_bounds-result-end g c =
    let upto = end_within c.self.inside.bytes.items (ends_of c.self.inside.marks.items) c.self.inside.cells.items c.args.at c.index.result.now.end c.self.invariant.0 (rw c.self.view_is c.requires) (end_there c.self.inside.marks.items c.args.at c.index.result.now c.index.ensures) in
    search rules

pub slice_bounds-result-count-else-at-eq0 : goal.slice_bounds-result-count-else-at-eq0
slice_bounds-result-count-else-at-eq0 g c =
    start_within c.self.inside.bytes.items (ends_of c.self.inside.marks.items) c.self.inside.cells.items c.args.at c.index-else-at-eq0.result.now.end c.index.result.now.end c.self.invariant.0 (rw c.self.view_is c.requires) c.if-at-eq0.false (end_there c.self.inside.marks.items (c.args.at - 1) c.index-else-at-eq0.result.now c.index-else-at-eq0.ensures) (end_there c.self.inside.marks.items c.args.at c.index.result.now c.index.ensures)

pub slice_bounds-result-start-else-at-eq0 : goal.slice_bounds-result-start-else-at-eq0
slice_bounds-result-start-else-at-eq0 g c =
    let upto = end_within c.self.inside.bytes.items (ends_of c.self.inside.marks.items) c.self.inside.cells.items c.args.at c.index.result.now.end c.self.invariant.0 (rw c.self.view_is c.requires) (end_there c.self.inside.marks.items c.args.at c.index.result.now c.index.ensures) in
    let rises = start_within c.self.inside.bytes.items (ends_of c.self.inside.marks.items) c.self.inside.cells.items c.args.at c.index-else-at-eq0.result.now.end c.index.result.now.end c.self.invariant.0 (rw c.self.view_is c.requires) c.if-at-eq0.false (end_there c.self.inside.marks.items (c.args.at - 1) c.index-else-at-eq0.result.now c.index-else-at-eq0.ensures) (end_there c.self.inside.marks.items c.args.at c.index.result.now c.index.ensures) in
    search rules

pub slice_bounds-result-end-else-at-eq0 : goal.slice_bounds-result-end-else-at-eq0
slice_bounds-result-end-else-at-eq0 g c =
    let upto = end_within c.self.inside.bytes.items (ends_of c.self.inside.marks.items) c.self.inside.cells.items c.args.at c.index.result.now.end c.self.invariant.0 (rw c.self.view_is c.requires) (end_there c.self.inside.marks.items c.args.at c.index.result.now c.index.ensures) in
    let rises = start_within c.self.inside.bytes.items (ends_of c.self.inside.marks.items) c.self.inside.cells.items c.args.at c.index-else-at-eq0.result.now.end c.index.result.now.end c.self.invariant.0 (rw c.self.view_is c.requires) c.if-at-eq0.false (end_there c.self.inside.marks.items (c.args.at - 1) c.index-else-at-eq0.result.now c.index-else-at-eq0.ensures) (end_there c.self.inside.marks.items c.args.at c.index.result.now c.index.ensures) in
    search rules

pub returns-then-at-eq0 : goal.returns-then-at-eq0
returns-then-at-eq0 g c =
    rw (← c.self.view_is, c.deref.ensures.value) (first_key c.self.inside.bytes.items (ends_of c.self.inside.marks.items) c.self.inside.cells.items c.args.at c.index.result.now.end (rw c.self.view_is c.requires) c.if-at-eq0.true (end_there c.self.inside.marks.items c.args.at c.index.result.now c.index.ensures))

pub returns-else-at-eq0 : goal.returns-else-at-eq0
returns-else-at-eq0 g c =
    rw (← c.self.view_is, c.deref-else-at-eq0.ensures.value) (key_at_place c.self.inside.bytes.items (ends_of c.self.inside.marks.items) c.self.inside.cells.items c.args.at c.index-else-at-eq0.result.now.end c.index.result.now.end (rw c.self.view_is c.requires) c.if-at-eq0.false (end_there c.self.inside.marks.items (c.args.at - 1) c.index-else-at-eq0.result.now c.index-else-at-eq0.ensures) (end_there c.self.inside.marks.items c.args.at c.index.result.now c.index.ensures))
