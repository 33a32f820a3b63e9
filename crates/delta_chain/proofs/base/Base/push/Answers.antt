use Rattle.std.proofs.Common.{◌≡◌, ◌++◌, ◌∙◌, length, ap}
use Rattle.std.specs.Map.{keys_of}
use Rattle.delta_chain.specs.Packed.{packed_from, ends_of}
use Rattle.delta_chain.specs.declared.base.KeyMark.{KeyMark}
use Rattle.delta_chain.proofs.Packing.{packed-push, IsPacked-push, ends_of-push, AreMarked-push, keys_of-push}
use Rattle.delta_chain.proofs.base.Base.push.Goals as goal

pub invariant_of-self-2 : goal.invariant_of-self-2
invariant_of-self-2 g c =
    let bytes = c.self.inside.bytes.items in
    let marks = c.self.inside.marks.items in
    let cells = c.self.inside.cells.items in
    let key = c.args.key.now in
    let mark : KeyMark = record { word = c.word-word.result; end = c.len-end.result } in
    let end : c.len-end.result ≡ length (bytes ++ key) = c.len-end.ensures ∙ c.extend_from_slice.new.self.ok.0 ∙ ap length c.in_ok-extend_from_slice.ensures.items in
    let ends = ends_of-push marks mark in
    rw (c.in_ok-extend_from_slice.ensures.items, c.push_reserved.ensures.items, c.push_reserved-2.ensures.items, c.in_ok-reserve.ensures.items, c.in_ok-reserve-2.ensures.items, ends, packed-push bytes (ends_of marks) cells key c.args.cell c.len-end.result c.self.invariant.0 end, keys_of-push (packed_from 0 bytes (ends_of marks) cells) key c.args.cell) (
      IsPacked-push bytes (ends_of marks) cells key c.args.cell c.len-end.result c.self.invariant.0 (rw c.self.view_is c.requires) end,
      AreMarked-push (keys_of (packed_from 0 bytes (ends_of marks) cells)) marks key mark c.self.invariant.1 (rw c.new.ensures at c.word-word.ensures.word, rw c.new.ensures at c.word-word.ensures.bytes),
    )

pub returns-clause-ok : goal.returns-clause-ok
returns-clause-ok g c =
    let marks = c.self.inside.marks.items in
    let end : c.len-end.result ≡ length (c.self.inside.bytes.items ++ c.args.key.now) = c.len-end.ensures ∙ c.extend_from_slice.new.self.ok.0 ∙ ap length c.in_ok-extend_from_slice.ensures.items in
    rw (c.in_ok-extend_from_slice.ensures.items, c.push_reserved.ensures.items, c.push_reserved-2.ensures.items, c.in_ok-reserve.ensures.items, c.in_ok-reserve-2.ensures.items, ends_of-push marks (record { word = c.word-word.result; end = c.len-end.result }), ← c.self.view_is)
    (packed-push c.self.inside.bytes.items (ends_of marks) c.self.inside.cells.items c.args.key.now c.args.cell c.len-end.result c.self.invariant.0 end)
