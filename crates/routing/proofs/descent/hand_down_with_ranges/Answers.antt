use Rattle.std.proofs.Common.{◌+◌, ◌++◌, ◌-◌, List, ℕ, length, take, drop, refl, sym, ap, ◌∙◌, arith}
use Rattle.std.specs.List.{filter, slice_range}
use Rattle.std.proofs.lemmas.List.{take_rest}
use Rattle.routing.specs.Keyed.{Keyed, places_of}
use Rattle.routing.specs.SortedPlaces.{reaches_at}
use Rattle.routing.specs.Shares.{Lent, lent_shares, next_key}
use Rattle.routing.proofs.ShareLemmas.{can_keyed, rest_keyed, parted_keyed, keys_step, keys_pushed}
use Rattle.routing.proofs.WalkLemmas.{walk_begins, walking, child_for_next, scan_step, scan_on, scan_last, all_walked}
use Rattle.routing.proofs.descent.hand_down_with_ranges.Goals as goal

pub loop-key-init : goal.loop-key-init
loop-key-init c =
    let begins = walk_begins c.args.batch.now c.args.page.now _ c.low-low.result.now c.in_ok-reaching.reaching.items (places_of c.keyed-keyed.result.now) c.requires.share c.low-low.ensures c.in_ok-reaching.ensures (ap (λ (es : List Keyed). places_of es) c.keyed-keyed.ensures) in
    record {
      most = omega arith;
      at = begins.0;
      shares = ap (λ ss. lent_shares c.args.below.now.items ++ ss) begins.1;
      keys = λ a. a;
    }

pub child_with_end-pid-requires : goal.child_with_end-pid-requires
child_with_end-pid-requires c =
    let cs = c.args.batch.now in
    let page = c.args.page.now in
    let es = c.keyed-keyed.result.now in
    let start = c.loop-key.start in
    let low = c.loop-key.low.now in
    let rs = c.loop-key.reaching.items in
    let can = can_keyed cs page c.args.share.now es c.keyed-keyed.ensures c.requires.share c.requires.keys in
    let key = ap (λ (xs : List ℕ). next_key low xs (take (length es - start) (drop start es))) (sym c.deref.ensures.value) ∙ sym c.in-Some.ensures in
    child_for_next cs page low c.in-Some.key.now rs _ (walking cs page low c.in-Some.key.now rs es _ start (take_rest es start) can c.loop-key.invariant.at key)

pub count_below-requires : goal.count_below-requires
count_below-requires c =
    let cs = c.args.batch.now in
    let page = c.args.page.now in
    let es = c.keyed-keyed.result.now in
    let start = c.loop-key.start in
    let can = can_keyed cs page c.args.share.now es c.keyed-keyed.ensures c.requires.share c.requires.keys in
    parted_keyed cs page _ c.in-Some-end.end.now (rest_keyed cs page es _ start (take_rest es start) can)

pub loop-key-smaller : goal.loop-key-smaller
loop-key-smaller c =
    let cs = c.args.batch.now in
    let page = c.args.page.now in
    let es = c.keyed-keyed.result.now in
    let start = c.loop-key.start in
    let n = c.count_below.result in
    let low = c.loop-key.low.now in
    let rs = c.loop-key.reaching.items in
    let k = c.in-Some.key.now in
    let end = c.in-Some-end.end.now in
    let can = can_keyed cs page c.args.share.now es c.keyed-keyed.ensures c.requires.share c.requires.keys in
    let key = ap (λ (xs : List ℕ). next_key low xs (take (length es - start) (drop start es))) (sym c.deref.ensures.value) ∙ sym c.in-Some.ensures in
    let w = walking cs page low k rs es _ start (take_rest es start) can c.loop-key.invariant.at key in
    let onward = c.in_ok-onward-in-Some-end.ensures ∙ ap (λ (xs : List ℕ). filter (reaches_at cs end) (xs ++ places_of (slice_range es start (start + n)))) c.deref-in-Some-end.ensures.value in
    (scan_on cs page low k end rs c.in_ok-onward-in-Some-end.onward.items es _ start n (start + n) c.child_with_end-pid.result.0 (take_rest es start) refl w (rw c.in-Some-end.is at c.child_with_end-pid.ensures.child)
    (record { before = c.count_below.ensures.below; following = c.count_below.ensures.others }) onward).1

pub loop-key-preserved : goal.loop-key-preserved
loop-key-preserved c =
    let cs = c.args.batch.now in
    let page = c.args.page.now in
    let es = c.keyed-keyed.result.now in
    let start = c.loop-key.start in
    let n = c.count_below.result in
    let low = c.loop-key.low.now in
    let rs = c.loop-key.reaching.items in
    let k = c.in-Some.key.now in
    let end = c.in-Some-end.end.now in
    let pid = c.child_with_end-pid.result.0 in
    let old = c.loop-key.below.items in
    let new = c.push.new.self.items in
    let on = c.in_ok-onward-in-Some-end.onward.items in
    let made = c.new.ensures in
    let rest = take_rest es start in
    let can = can_keyed cs page c.args.share.now es c.keyed-keyed.ensures c.requires.share c.requires.keys in
    let key = ap (λ (xs : List ℕ). next_key low xs (take (length es - start) (drop start es))) (sym c.deref.ensures.value) ∙ sym c.in-Some.ensures in
    let w = walking cs page low k rs es _ start rest can c.loop-key.invariant.at key in
    let onward = c.in_ok-onward-in-Some-end.ensures ∙ ap (λ (xs : List ℕ). filter (reaches_at cs end) (xs ++ places_of (slice_range es start (start + n)))) c.deref-in-Some-end.ensures.value in
    let child = rw c.in-Some-end.is at c.child_with_end-pid.ensures.child in
    record {
      most = omega arith;
      at = (scan_on cs page low k end rs on es _ start n (start + n) pid rest refl w child (record { before = c.count_below.ensures.below; following = c.count_below.ensures.others }) onward).0;
      shares = scan_step cs page low k end rs on es _ start n (start + n) pid old new _ _ rest refl w child (record { before = c.count_below.ensures.below; following = c.count_below.ensures.others })
          (ap (λ (s : Lent). s.pid) made) (ap (λ (s : Lent). s.keyed) made) (ap (λ (s : Lent). s.reaching) made ∙ c.in_ok-kept-in-Some-end.ensures) c.in_ok-push-in-Some-end.ensures.items onward c.loop-key.invariant.shares;
      keys = λ a. keys_step cs es start (start + n) old new _ (ap (λ (s : Lent). s.keyed) made) c.in_ok-push-in-Some-end.ensures.items can.keys (c.loop-key.invariant.keys a);
    }

pub returns-in-None-clause-shares : goal.returns-in-None-clause-shares
returns-in-None-clause-shares c =
    let cs = c.args.batch.now in
    let page = c.args.page.now in
    let es = c.keyed-keyed.result.now in
    let start = c.loop-key.start in
    let low = c.loop-key.low.now in
    let rs = c.loop-key.reaching.items in
    let k = c.in-Some.key.now in
    let made = c.new-in-None.ensures in
    let rest = take_rest es start in
    let can = can_keyed cs page c.args.share.now es c.keyed-keyed.ensures c.requires.share c.requires.keys in
    let key = ap (λ (xs : List ℕ). next_key low xs (take (length es - start) (drop start es))) (sym c.deref.ensures.value) ∙ sym c.in-Some.ensures in
    let w = walking cs page low k rs es _ start rest can c.loop-key.invariant.at key in
    scan_last cs page low k rs es _ start c.child_with_end-pid.result.0 c.loop-key.below.items c.push-in-None.new.self.items _ _ rest w (rw c.in-None.is at c.child_with_end-pid.ensures.child)
    (ap (λ (s : Lent). s.pid) made) (ap (λ (s : Lent). s.keyed) made) (ap (λ (s : Lent). s.reaching) made ∙ c.in_ok-kept-in-None.ensures) c.in_ok-push-in-None.ensures.items c.loop-key.invariant.shares

pub returns-in-None-clause-keys : goal.returns-in-None-clause-keys
returns-in-None-clause-keys c =
    let cs = c.args.batch.now in
    let page = c.args.page.now in
    let es = c.keyed-keyed.result.now in
    let start = c.loop-key.start in
    let can = can_keyed cs page c.args.share.now es c.keyed-keyed.ensures c.requires.share c.requires.keys in
    λ a. keys_pushed cs c.loop-key.below.items c.push-in-None.new.self.items _ _ (ap (λ (s : Lent). s.keyed) c.new-in-None.ensures) c.in_ok-push-in-None.ensures.items (rest_keyed cs page es _ start (take_rest es start) can).keys (c.loop-key.invariant.keys a)

pub returns-clause-shares : goal.returns-clause-shares
returns-clause-shares c =
    let es = c.keyed-keyed.result.now in
    let start = c.loop-key.start in
    let low = c.loop-key.low.now in
    let none = ap (λ (xs : List ℕ). next_key low xs (take (length es - start) (drop start es))) (sym c.deref.ensures.value) ∙ sym c.in_default.ensures in
    all_walked c.args.batch.now low c.loop-key.reaching.items es _ start _ c.loop-key.below.items _ (take_rest es start) none c.loop-key.invariant.shares
