use Rattle.std.proofs.Common.{◌≡◌, refl, ◌∙◌, ap, arith, add-one}
use Rattle.std.specs.Prelude.{ℕ, List, slice_get, Option, Some, unwrap_or, Result, Ok, Err, IfOk}
use Rattle.std.specs.Map.{keys_of, values_of}
use Rattle.delta_chain.specs.Layers.{holds, entries_of}
use Rattle.consolidate.specs.PutBack.{put_back}
use Rattle.consolidate.proofs.Moving.{length-keys, one_more, all_same, found, back_one_more, all_back, holds_from, put_back-copies}
use Rattle.delta_chain.proofs.Exchanging.{keys-exchanged_at, rising-exchanged}
use Rattle.consolidate.proofs.take_base.Goals as goal

-- what follows from a fact on what is in an `Ok`
from_ok : {T E : Type 0} (r : Result T E) (P Q : T → Type 0) → ((x : T) → P x → Q x) → IfOk r P → IfOk r Q
from_ok (Ok x) P Q f h = f x h
from_ok (Err e) P Q f h = tt

pub returns-then-depth-gt-FEW_RUNS-clause-base : goal.returns-then-depth-gt-FEW_RUNS-clause-base
returns-then-depth-gt-FEW_RUNS-clause-base g c = c.consolidate.ensures

pub returns-then-depth-gt-FEW_RUNS-clause-back : goal.returns-then-depth-gt-FEW_RUNS-clause-back
returns-then-depth-gt-FEW_RUNS-clause-back g c =
    from_ok c.consolidate.result _ (λ base. put_back c.args.chain.now base ≡ c.args.chain.now)
    (λ base h. ap (λ (es : List (List ℕ × _)). put_back c.args.chain.now es) h ∙ put_back-copies c.args.chain.now c.depth.ensures.rising) c.consolidate.ensures

pub loop-at-init : goal.loop-at-init
loop-at-init g c =
    let first = rw c.in_ok-pairs.ensures.entries at c.in_ok-base.ensures in
    record {
      keys = first;
      moved = refl;
      back = refl;
      order = c.depth.ensures.rising;
      rest = λ m q l h. refl;
    }

pub key_ref-requires : goal.key_ref-requires
key_ref-requires g c =
    let first = rw c.in_ok-pairs.ensures.entries at c.in_ok-base.ensures in
    let made = length-keys c.in_ok-base.base (entries_of c.args.chain.now) first in
    let now = length-keys c.loop-at.base (entries_of c.args.chain.now) c.loop-at.invariant.keys in
    omega (arith, made, now, c.len-at-end.ensures.count, c.loop-at-test.true)

pub exchange-blank-requires : goal.exchange-blank-requires
exchange-blank-requires g c =
    let first = rw c.in_ok-pairs.ensures.entries at c.in_ok-base.ensures in
    let made = length-keys c.in_ok-base.base (entries_of c.args.chain.now) first in
    let now = length-keys c.loop-at.base (entries_of c.args.chain.now) c.loop-at.invariant.keys in
    omega (arith, made, now, c.len-at-end.ensures.count, c.loop-at-test.true)

pub loop-at-preserved : goal.loop-at-preserved
loop-at-preserved g c =
    let was = c.args.chain.now in
    let key : slice_get (keys_of (entries_of was)) c.loop-at.at ≡ Some c.key_ref.result = rw (← c.loop-at.invariant.keys) c.key_ref.ensures in
    let cell = found was c.loop-at.chain c.loop-at.at c.key_ref.result c.depth.ensures.rising c.loop-at.invariant.rest key in
    let moved : c.swap_cell.new.cell ≡ cell.0 = c.swap_cell.ensures.cell ∙ ap (λ (o : Option _). unwrap_or o c.blank-cell.result) cell.2 in
    let value : slice_get (values_of (entries_of was)) c.loop-at.at ≡ Some c.swap_cell.new.cell = rw moved cell.1 in
    let held : holds c.loop-at.chain c.key_ref.result ≡ Some c.swap_cell.new.cell = rw moved cell.2 in
    record {
      keys = rw c.exchange-blank.ensures.new (keys-exchanged_at c.loop-at.base c.loop-at.at c.swap_cell.new.cell ∙ c.loop-at.invariant.keys);
      moved = rw (c.exchange-blank.ensures.new, add-one) (one_more c.loop-at.base (entries_of was) c.loop-at.at c.key_ref.result c.swap_cell.new.cell c.loop-at.invariant.keys key value c.loop-at.invariant.moved);
      back = rw (c.swap_cell.ensures.page, add-one) (back_one_more was c.loop-at.chain c.loop-at.at c.key_ref.result c.blank-cell.result c.swap_cell.new.cell c.loop-at.invariant.order key value held c.loop-at.invariant.back);
      order = rw c.swap_cell.ensures.page (rising-exchanged c.loop-at.chain c.key_ref.result c.blank-cell.result c.loop-at.invariant.order);
      rest = λ m q l h. rw c.swap_cell.ensures.page (holds_from was c.loop-at.chain c.loop-at.at c.key_ref.result c.blank-cell.result c.depth.ensures.rising c.loop-at.invariant.order key c.loop-at.invariant.rest m q (omega arith) h);
    }

pub returns-clause-base : goal.returns-clause-base
returns-clause-base g c =
    let first = rw c.in_ok-pairs.ensures.entries at c.in_ok-base.ensures in
    let made = length-keys c.in_ok-base.base (entries_of c.args.chain.now) first in
    let now = length-keys c.loop-at.base (entries_of c.args.chain.now) c.loop-at.invariant.keys in
    all_same c.loop-at.base (entries_of c.args.chain.now) c.loop-at.at c.loop-at.invariant.keys (omega (arith, made, now, c.len-at-end.ensures.count, c.loop-at-test.false)) c.loop-at.invariant.moved

pub returns-clause-back : goal.returns-clause-back
returns-clause-back g c =
    let first = rw c.in_ok-pairs.ensures.entries at c.in_ok-base.ensures in
    let made = length-keys c.in_ok-base.base (entries_of c.args.chain.now) first in
    let now = length-keys c.loop-at.base (entries_of c.args.chain.now) c.loop-at.invariant.keys in
    all_back c.args.chain.now c.loop-at.chain c.loop-at.base c.loop-at.at c.loop-at.invariant.keys (omega (arith, made, now, c.len-at-end.ensures.count, c.loop-at-test.false)) c.loop-at.invariant.moved c.loop-at.invariant.back
