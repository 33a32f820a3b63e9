use Rattle.std.proofs.Common.{[], ◌<◌, length, slice_index_or, arith, sym}
use Rattle.std.specs.Map.{keys_of}
use Rattle.delta_chain.proofs.Setting.{some_key, below_through, above_onward, value_at-missing, key_there}
use Rattle.delta_chain.proofs.base.Base.place_near.Goals as goal

pub loop-low-preserved-in-Less : goal.loop-low-preserved-in-Less
loop-low-preserved-in-Less g c =
    let es = c.args.self.now in
    let middle = c.next_place-middle.result in
    let l : middle < length es = omega arith in
    record {
      ordered = omega arith;
      within = c.loop-low.invariant.within;
      below = below_through es middle c.args.key.now (slice_index_or (keys_of es) middle []) c.len-high.ensures.rising (some_key es middle l) (sym (c.in-Less.ensures (slice_index_or (keys_of es) middle []) (some_key es middle l)));
      above = c.loop-low.invariant.above;
    }

pub returns-in-Equal-clause-place : goal.returns-in-Equal-clause-place
returns-in-Equal-clause-place g c =
    let es = c.args.self.now in
    let middle = c.next_place-middle.result in
    let l : middle < length es = omega arith in
    key_there es middle c.args.key.now (slice_index_or (keys_of es) middle []) (some_key es middle l) (sym (c.in-Equal.ensures (slice_index_or (keys_of es) middle []) (some_key es middle l)))

pub loop-low-preserved : goal.loop-low-preserved
loop-low-preserved g c =
    let es = c.args.self.now in
    let middle = c.next_place-middle.result in
    let l : middle < length es = omega arith in
    record {
      ordered = omega arith;
      within = omega arith;
      below = c.loop-low.invariant.below;
      above = above_onward es middle c.args.key.now (slice_index_or (keys_of es) middle []) c.len-high.ensures.rising (some_key es middle l) (sym (c.in-Greater.ensures (slice_index_or (keys_of es) middle []) (some_key es middle l)));
    }

pub returns-clause-place : goal.returns-clause-place
returns-clause-place g c =
    value_at-missing c.args.self.now c.loop-low.low c.args.key.now c.loop-low.invariant.below
    (λ m d f l. c.loop-low.invariant.above m d (omega arith) l)
