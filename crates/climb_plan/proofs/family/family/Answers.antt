use Rattle.std.proofs.Common.{refl, ◌≡◌, ◌<◌, ◌∙◌, List, length, slice_get, sym, ap, arith}
use Rattle.std.specs.Map.{keys_of, values_of}
use Rattle.mapping.specs.Levels.{entries}
use Rattle.climb_plan.specs.Rewriting.{seen_now, all_seen}
use Rattle.climb_plan.proofs.RewritingFamily.{Separators, parent_at_home, parent_is_index, parted_by, before_within, at_start, same_entries, child_at, one_more, all_children}
use Rattle.climb_plan.specs.declared.seen.Seen.{Seen}
use Rattle.climb_plan.proofs.RewritingSeen.{all_seen-push}
use Rattle.climb_plan.proofs.family.family.Goals as goal

pub unreachable-requires : goal.unreachable-requires
unreachable-requires c =
    let h = c.requires in
    parent_at_home c.args.tree.now.table c.args.seen.now c.args.parent h.0.parent h.0.before h.0.from h.0.children h.0.later h.1 h.2 c.in_default.ensures.home

pub unreachable-requires-in_default-as_index : goal.unreachable-requires-in_default-as_index
unreachable-requires-in_default-as_index c =
    let h = c.requires in
    parent_is_index c.args.tree.now.table c.args.seen.now c.args.parent h.0.parent h.0.before h.0.from h.0.children h.0.later h.1 h.2 c.in-Some.page.now c.in-Some.ensures.home c.in_default-as_index.ensures

pub count_below-next-requires : goal.count_below-next-requires
count_below-next-requires c =
    let h = c.requires in
    (h.0.before, h.0.from, parted_by c.args.tree.now.table c.args.seen.now c.args.parent h.0.parent h.0.before h.0.from h.0.children h.0.later h.1 h.2 c.in-Some.page.now c.low.result.now c.in-Some.ensures.home c.low.ensures)

pub loop-at-init : goal.loop-at-init
loop-at-init c =
    let h = c.requires in
    let parted = parted_by c.args.tree.now.table c.args.seen.now c.args.parent h.0.parent h.0.before h.0.from h.0.children h.0.later h.1 h.2 c.in-Some.page.now c.low.result.now c.in-Some.ensures.home c.low.ensures in
    let within = before_within c.args.tree.now.table c.args.seen.now c.args.parent h.0.parent h.0.before h.0.from h.0.children h.0.later h.1 h.2 in
    let next : c.count_below-next.result ≡ length h.0.before = c.count_below-next.ensures h.0.before h.0.from parted in
    record {
      most = omega arith;
      count = omega (arith, c.in_ok-children.ensures.len);
      room = omega (arith, c.in_ok-children.ensures.capacity, c.len.ensures, c.len-at-end.ensures);
      made =
          λ k e f. at_start c.args.tree.now.table c.args.seen.now c.args.parent k.parent k.before k.from k.children k.later e f (entries k.parent) c.count_below-next.result (all_seen c.in_ok-children.children.items) refl
          (c.count_below-next.ensures k.before k.from (parted_by c.args.tree.now.table c.args.seen.now c.args.parent k.parent k.before k.from k.children k.later e f c.in-Some.page.now c.low.result.now c.in-Some.ensures.home c.low.ensures))
          (ap (λ (xs : List Seen). all_seen xs) c.in_ok-children.ensures.items);
    }

pub next_child-child-requires-clause-within : goal.next_child-child-requires-clause-within
next_child-child-requires-clause-within c = c.loop-at.invariant.most

pub next_child-child-requires-clause-child : goal.next_child-child-requires-clause-child
next_child-child-requires-clause-child c =
    let h = c.requires in
    let same : c.in_ok-entries.entries ≡ entries h.0.parent =
    same_entries c.args.tree.now.table c.args.seen.now c.args.parent h.0.parent h.0.before h.0.from h.0.children h.0.later h.1 h.2 c.in-Some.page.now _ c.in_ok-entries.entries c.in-Some.ensures.home c.in-Some-as_index.ensures c.in_ok-entries.ensures.entries in
    let count : length c.in_ok-entries.entries ≡ length (entries h.0.parent) = ap (λ (es : Separators). length es) same in
    let within : c.loop-at.at < length (entries h.0.parent) = omega (arith, c.len-at-end.ensures) in
    let r = child_at c.args.tree.now.table c.args.seen.now (entries h.0.parent) h.0.children h.0.later c.loop-at.next c.loop-at.at (all_seen c.loop-at.children.items) c.key.result.now c.cell.result.now (c.loop-at.invariant.made h.0 h.1 h.2) within
    (ap (λ (es : Separators). slice_get (keys_of es) c.loop-at.at) (sym same) ∙ c.key.ensures) (ap (λ (es : Separators). slice_get (values_of es) c.loop-at.at) (sym same) ∙ c.cell.ensures) in
    (r.0, _, r.1.next_child)

pub push_reserved-requires : goal.push_reserved-requires
push_reserved-requires c = omega arith

pub loop-at-preserved : goal.loop-at-preserved
loop-at-preserved c = record {
  most = c.next_child-child.ensures.within;
  count = omega (arith, c.push_reserved.ensures.len);
  room = omega (arith, c.push_reserved.ensures.capacity, c.loop-at.invariant.room);
  made =
      λ k e f.
      let same : c.in_ok-entries.entries ≡ entries k.parent =
      same_entries c.args.tree.now.table c.args.seen.now c.args.parent k.parent k.before k.from k.children k.later e f c.in-Some.page.now _ c.in_ok-entries.entries c.in-Some.ensures.home c.in-Some-as_index.ensures c.in_ok-entries.ensures.entries in
      let count : length c.in_ok-entries.entries ≡ length (entries k.parent) = ap (λ (es : Separators). length es) same in
      let within : c.loop-at.at < length (entries k.parent) = omega (arith, c.len-at-end.ensures) in
      let so_far = c.loop-at.invariant.made k e f in
      let r = child_at c.args.tree.now.table c.args.seen.now (entries k.parent) k.children k.later c.loop-at.next c.loop-at.at (all_seen c.loop-at.children.items) c.key.result.now c.cell.result.now so_far within
      (ap (λ (es : Separators). slice_get (keys_of es) c.loop-at.at) (sym same) ∙ c.key.ensures) (ap (λ (es : Separators). slice_get (values_of es) c.loop-at.at) (sym same) ∙ c.cell.ensures) in
      one_more c.args.tree.now.table c.args.seen.now (entries k.parent) k.children k.later c.loop-at.next c.next_child-child.new.next c.loop-at.at (all_seen c.loop-at.children.items) (all_seen c.push_reserved.new.self.items) c.key.result.now c.cell.result.now r.0 (seen_now c.next_child-child.result) so_far within r.1
      (all_seen-push c.loop-at.children.items c.push_reserved.new.self.items c.next_child-child.result c.push_reserved.ensures.items) (c.next_child-child.ensures.child r.0 _ r.1.next_child);
}

pub returns-clause-most : goal.returns-clause-most
returns-clause-most c = c.loop-at.invariant.most

pub returns-clause-children : goal.returns-clause-children
returns-clause-children c =
    λ k e f.
    let same : c.in_ok-entries.entries ≡ entries k.parent =
    same_entries c.args.tree.now.table c.args.seen.now c.args.parent k.parent k.before k.from k.children k.later e f c.in-Some.page.now _ c.in_ok-entries.entries c.in-Some.ensures.home c.in-Some-as_index.ensures c.in_ok-entries.ensures.entries in
    let count : length c.in_ok-entries.entries ≡ length (entries k.parent) = ap (λ (es : Separators). length es) same in
    let last : c.loop-at.at ≡ length (entries k.parent) = omega (arith, c.len-at-end.ensures) in
    (all_children c.args.tree.now.table c.args.seen.now (entries k.parent) k.children k.later c.loop-at.next c.loop-at.at (all_seen c.loop-at.children.items) (c.loop-at.invariant.made k e f) last).0

pub returns-clause-later : goal.returns-clause-later
returns-clause-later c =
    λ k e f.
    let same : c.in_ok-entries.entries ≡ entries k.parent =
    same_entries c.args.tree.now.table c.args.seen.now c.args.parent k.parent k.before k.from k.children k.later e f c.in-Some.page.now _ c.in_ok-entries.entries c.in-Some.ensures.home c.in-Some-as_index.ensures c.in_ok-entries.ensures.entries in
    let count : length c.in_ok-entries.entries ≡ length (entries k.parent) = ap (λ (es : Separators). length es) same in
    let last : c.loop-at.at ≡ length (entries k.parent) = omega (arith, c.len-at-end.ensures) in
    (all_children c.args.tree.now.table c.args.seen.now (entries k.parent) k.children k.later c.loop-at.next c.loop-at.at (all_seen c.loop-at.children.items) (c.loop-at.invariant.made k e f) last).1
