use Rattle.std.proofs.Common.{◌≡◌, ◌∙◌, ap, sym, arith, map, length, slice_range, ◌*◌, ◌/◌, ◌+◌}
use Rattle.delta_chain.specs.Lent.{pairs_lent}
use Rattle.delta_chain.proofs.Lending.{length-pairs_lent}
use Rattle.split_plan.specs.Cut.{cut}
use Rattle.split_plan.specs.Frames.{frame_in, frame_of}
use Rattle.split_plan.specs.Pieces.{pages_from}
use Rattle.split_plan.proofs.LentPieces.{pairs_lent-slice, piece_is, rising_slice, cut_begins, cut_step, cut_ends}
use Rattle.split_plan.proofs.NewPagesLemmas.{map_twice, mapped_push}
use Rattle.split_plan.proofs.cutting.cut_pages.Goals as goal

pub loop-at-init : goal.loop-at-init
loop-at-init g c = record {
  made = cut_begins (λ p. frame_of (g.V.Kind.made p)) c.args.low.now c.args.fan (pairs_lent c.args.entries.now) c.piece_count-count.result _ (ap (map (λ b. frame_in b.value)) c.in_ok-pages.ensures.items) (rw (length-pairs_lent c.args.entries.now) c.piece_count-count.ensures);
  count = c.in_ok-pages.ensures.len;
  room = c.in_ok-pages.ensures.exact;
}

pub blank_page-requires : goal.blank_page-requires
blank_page-requires g c = rw (pairs_lent-slice c.args.entries.now c.begin.result c.begin-in-loop-at.result) (rising_slice (pairs_lent c.args.entries.now) c.begin.result c.begin-in-loop-at.result c.requires.rising)

pub loop-at-preserved : goal.loop-at-preserved
loop-at-preserved g c =
    let es = pairs_lent c.args.entries.now in
    let piece = slice_range c.args.entries.now c.begin.result c.begin-in-loop-at.result in
    let b = pairs_lent piece in
    let is : b ≡ slice_range es (c.loop-at.at * length es / c.piece_count-count.result) ((c.loop-at.at + 1) * length es / c.piece_count-count.result) =
    piece_is c.args.entries.now c.begin.result c.begin-in-loop-at.result c.loop-at.at c.piece_count-count.result c.begin.ensures.place c.begin-in-loop-at.ensures.place in
    let pushed = ap (map (λ b. frame_in b.value)) c.push_reserved.ensures.items ∙ mapped_push (λ b. frame_in b.value) c.loop-at.pages.items _ _ c.in_ok-blank_page.ensures in
    record {
      made = rw pushed (cut_step (λ p. frame_of (g.V.Kind.made p)) c.args.low.now es c.piece_count-count.result c.loop-at.at (map (λ b. frame_in b.value) c.loop-at.pages.items) _ b c.low_at.result.now c.loop-at-test.true is c.low_at.ensures c.loop-at.invariant.made);
      count = omega (arith, c.push_reserved.ensures.len);
      room = rw c.push_reserved.ensures.capacity c.loop-at.invariant.room;
    }

pub returns : goal.returns
returns g c =
    let es = pairs_lent c.args.entries.now in
    cut_ends (λ p. frame_of (g.V.Kind.made p)) c.args.low.now es c.piece_count-count.result c.loop-at.at (map (λ b. frame_in b.value) c.loop-at.pages.items) _ c.loop-at-test.false c.loop-at.invariant.made
    ∙ sym (map_twice frame_of g.V.Kind.made (pages_from c.args.low.now (cut c.args.fan es)))
