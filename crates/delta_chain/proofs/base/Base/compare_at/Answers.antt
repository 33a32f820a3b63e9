use Rattle.std.proofs.Common.{arith}
use Rattle.std.specs.Map.{keys_of}
use Rattle.keys.proofs.WordLemmas.{less_by_words, greater_by_words}
use Rattle.delta_chain.specs.Packed.{packed_from, ends_of}
use Rattle.delta_chain.proofs.Packing.{packed_within, length-ends_of, marked_there}
use Rattle.delta_chain.proofs.base.Base.compare_at.Goals as goal

pub index-requires : goal.index-requires
index-requires g c =
    let within = packed_within c.self.inside.bytes.items (ends_of c.self.inside.marks.items) c.self.inside.cells.items c.args.at c.self.invariant.0 (rw c.self.view_is c.requires) in
    omega (arith, within.0, length-ends_of c.self.inside.marks.items, c.self.inside.marks.ok)

pub returns-then-word : goal.returns-then-word
returns-then-word g c k h =
    let keys = keys_of (packed_from 0 c.self.inside.bytes.items (ends_of c.self.inside.marks.items) c.self.inside.cells.items) in
    let marked = marked_there keys c.self.inside.marks.items c.args.at k c.index.result.now c.self.invariant.1 (rw c.self.view_is h) c.index.ensures in
    less_by_words c.index.result.now.word c.word.result k c.args.key.now marked (c.word.ensures.word, c.word.ensures.bytes) c.if-word.true

pub returns-then-word-2 : goal.returns-then-word-2
returns-then-word-2 g c k h =
    let keys = keys_of (packed_from 0 c.self.inside.bytes.items (ends_of c.self.inside.marks.items) c.self.inside.cells.items) in
    let marked = marked_there keys c.self.inside.marks.items c.args.at k c.index.result.now c.self.invariant.1 (rw c.self.view_is h) c.index.ensures in
    greater_by_words c.index.result.now.word c.word-2.result k c.args.key.now marked (c.word-2.ensures.word, c.word-2.ensures.bytes) c.if-word-2.true
