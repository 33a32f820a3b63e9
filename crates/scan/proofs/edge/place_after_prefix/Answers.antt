use Rattle.std.proofs.Common.{◌≤◌, sym, arith}
use Rattle.page_search.proofs.PlaceLemmas.{count_below-le-length}
use Rattle.scan.proofs.EdgeLemmas.{below_first, up_to_begun, past_prefix, split_count, is_up_to_prefix, none_past}
use Rattle.scan.proofs.edge.place_after_prefix.Goals as goal

pub loop-low-init : goal.loop-low-init
loop-low-init g c =
    let most = count_below-le-length c.args.prefix.now (g.L.KeyList.keys c.args.list.now) in
    let first = c.place_from-low.ensures.place in
    let count = c.len-high.ensures.count in
    record {
      order = omega (arith, most, first, count);
      within = omega (arith, count);
      from = omega (arith, first);
      begin = λ m j l q. below_first c.args.prefix.now (g.L.KeyList.keys c.args.list.now) c.place_from-low.ensures.rising m j (omega (arith, first, l)) q;
      end = λ m j l q. none_past (g.L.KeyList.keys c.args.list.now) m j (omega (arith, count, l)) q;
    }

pub loop-low-preserved-then-starts_with : goal.loop-low-preserved-then-starts_with
loop-low-preserved-then-starts_with g c =
    let i = c.loop-low.invariant in
    let t = c.loop-low-test.true in
    record {
      order = omega (arith, i.order, t);
      within = i.within;
      from = omega (arith, i.from);
      begin = up_to_begun c.args.prefix.now (g.L.KeyList.keys c.args.list.now) c.place_from-low.ensures.rising _ c.key.result.now c.key.ensures (sym c.if-starts_with.ensures.value);
      end = i.end;
    }

pub loop-low-preserved : goal.loop-low-preserved
loop-low-preserved g c =
    let i = c.loop-low.invariant in
    let t = c.loop-low-test.true in
    record {
      order = omega arith;
      within = omega (arith, i.within, i.order, t);
      from = i.from;
      begin = i.begin;
      end = past_prefix c.args.prefix.now (g.L.KeyList.keys c.args.list.now) c.place_from-low.ensures.rising _ c.key.result.now c.key.ensures (sym c.if-starts_with.ensures.value) (omega (arith, i.from));
    }

pub returns : goal.returns
returns g c =
    let i = c.loop-low.invariant in
    let met : c.loop-low.high ≤ c.loop-low.low = omega (arith, c.loop-low-test.false) in
    split_count (is_up_to_prefix c.args.prefix.now) (g.L.KeyList.keys c.args.list.now) c.loop-low.low (omega (arith, i.within, i.order)) i.begin
    (λ m j l q. i.end m j (omega (arith, met, l)) q)
