use Rattle.std.proofs.Common.{arith, rules, length}
use Rattle.flush_log.proofs.ImageLemmas.{place_of_frame, end_upto, start_within, frame_at_place, first_frame_cut}
use Rattle.flush_log.proofs.image.Image.frame.Goals as goal

pub index-end-requires : goal.index-end-requires
index-end-requires c =
    let within = place_of_frame c.self.inside.bytes.items c.self.inside.ends.items c.args.at (rw c.self.view_is c.requires) in
    omega (arith, within, c.self.inside.ends.ok)

pub index-requires : goal.index-requires
index-requires c =
    let within = place_of_frame c.self.inside.bytes.items c.self.inside.ends.items c.args.at (rw c.self.view_is c.requires) in
    omega (arith, within, c.self.inside.ends.ok)

pub slice_bounds-result-end : goal.slice_bounds-result-end
slice_bounds-result-end c =
    let within = place_of_frame c.self.inside.bytes.items c.self.inside.ends.items c.args.at (rw c.self.view_is c.requires) in
    let upto = end_upto 0 c.self.inside.ends.items (length c.self.inside.bytes.items) c.args.at c.index-end.result.now c.self.invariant within c.index-end.ensures in
    search rules

pub slice_bounds-result-count-else-at-eq0 : goal.slice_bounds-result-count-else-at-eq0
slice_bounds-result-count-else-at-eq0 c =
    let within = place_of_frame c.self.inside.bytes.items c.self.inside.ends.items c.args.at (rw c.self.view_is c.requires) in
    start_within c.self.inside.ends.items (length c.self.inside.bytes.items) c.args.at c.index.result.now c.index-end.result.now c.self.invariant within c.if-at-eq0.false c.index.ensures c.index-end.ensures

pub slice_bounds-result-start-else-at-eq0 : goal.slice_bounds-result-start-else-at-eq0
slice_bounds-result-start-else-at-eq0 c =
    let within = place_of_frame c.self.inside.bytes.items c.self.inside.ends.items c.args.at (rw c.self.view_is c.requires) in
    let upto = end_upto 0 c.self.inside.ends.items (length c.self.inside.bytes.items) c.args.at c.index-end.result.now c.self.invariant within c.index-end.ensures in
    let rises = start_within c.self.inside.ends.items (length c.self.inside.bytes.items) c.args.at c.index.result.now c.index-end.result.now c.self.invariant within c.if-at-eq0.false c.index.ensures c.index-end.ensures in
    search rules

pub slice_bounds-result-end-else-at-eq0 : goal.slice_bounds-result-end-else-at-eq0
slice_bounds-result-end-else-at-eq0 c =
    let within = place_of_frame c.self.inside.bytes.items c.self.inside.ends.items c.args.at (rw c.self.view_is c.requires) in
    let upto = end_upto 0 c.self.inside.ends.items (length c.self.inside.bytes.items) c.args.at c.index-end.result.now c.self.invariant within c.index-end.ensures in
    let rises = start_within c.self.inside.ends.items (length c.self.inside.bytes.items) c.args.at c.index.result.now c.index-end.result.now c.self.invariant within c.if-at-eq0.false c.index.ensures c.index-end.ensures in
    search rules

pub returns-then-at-eq0 : goal.returns-then-at-eq0
returns-then-at-eq0 c =
    let within = place_of_frame c.self.inside.bytes.items c.self.inside.ends.items c.args.at (rw c.self.view_is c.requires) in
    rw (← c.self.view_is, c.deref.ensures.value) (first_frame_cut c.self.inside.bytes.items c.self.inside.ends.items c.args.at c.index-end.result.now within c.if-at-eq0.true c.index-end.ensures)

pub returns-else-at-eq0 : goal.returns-else-at-eq0
returns-else-at-eq0 c =
    let within = place_of_frame c.self.inside.bytes.items c.self.inside.ends.items c.args.at (rw c.self.view_is c.requires) in
    rw (← c.self.view_is, c.deref-else-at-eq0.ensures.value) (frame_at_place c.self.inside.bytes.items c.self.inside.ends.items c.args.at c.index.result.now c.index-end.result.now within c.if-at-eq0.false c.index.ensures c.index-end.ensures)
