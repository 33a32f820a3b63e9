use Rattle.std.proofs.Common.{rules, ◌≡◌, ◌-◌, ◌*◌, ◌/◌, ◌<◌, ◌++◌, [], ◌∷◌, length, take, drop, reverse, vec_capacity, ap, ◌∙◌, append-nil, arith}
use Rattle.crew.specs.Pieces.{jobs_of}
use Rattle.crew.proofs.PieceLemmas.{cut_off, one_less}
use Rattle.crew.proofs.pieces.cut.Goals as goal

pub loop-jobs-init : goal.loop-jobs-init
loop-jobs-init g c = record {
  jobs = rw c.in_ok-pieces.ensures.items (append-nil c.args.jobs.now.items);
  room = (vec_capacity c.in_ok-pieces.pieces, search rules, search rules);
  exact = search rules;
  same = omega arith;
}

pub returns-in-Err-clause-kept : goal.returns-in-Err-clause-kept
returns-in-Err-clause-kept g c =
    let kept : c.split_off.new.self.items ≡ c.loop-jobs.jobs.items = search rules in
    c.put_together.ensures.jobs ∙ ap (λ xs. xs ++ jobs_of c.reverse.new.self.items) kept ∙ ap (λ ps. c.loop-jobs.jobs.items ++ jobs_of ps) c.reverse.ensures.items
    ∙ c.loop-jobs.invariant.jobs

pub loop-jobs-preserved : goal.loop-jobs-preserved
loop-jobs-preserved g c =
    let jobs = c.loop-jobs.jobs.items in let pieces = c.loop-jobs.pieces.items in
    let at = (length jobs - 1) / c.args.grain * c.args.grain in
    let some : 0 < length jobs = search rules in
    let room = c.loop-jobs.invariant.room in
    let less = one_less (length jobs) c.args.grain room.0 c.requires.grain some room.2 in
    let front : c.split_off.new.self.items ≡ take at jobs = search rules in
    let tail : c.in-Ok.piece.items ≡ drop at jobs = search rules in
    let pushed : c.push_reserved.new.self.items ≡ pieces ++ c.in-Ok.piece ∷ [] = search rules in
    let length_is : length c.split_off.new.self.items ≡ at = search rules in
    record {
      jobs = ap (λ xs. xs ++ jobs_of (reverse c.push_reserved.new.self.items)) front ∙ ap (λ ps. take at jobs ++ jobs_of (reverse ps)) pushed
          ∙ cut_off jobs c.args.jobs.now.items pieces c.in-Ok.piece at tail c.loop-jobs.invariant.jobs;
      room = (room.0 - 1, search rules, rw length_is less.1);
      exact = search rules;
      same = search rules;
    }

pub returns-clause-few : goal.returns-clause-few
returns-clause-few g c =
    let r = c.loop-jobs.invariant.room in let e = c.loop-jobs.invariant.exact in
    let n : length c.reverse-2.new.self.items ≡ length c.loop-jobs.pieces.items = search rules in
    omega arith
