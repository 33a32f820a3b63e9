use Rattle.std.proofs.Common.{◌∙◌, ◌++◌, ap, None}
use Rattle.keys.specs.Bytes.{Bytes, Pairs}
use Rattle.mapping.specs.Levels.{levels_of, contents}
use Rattle.mapping.specs.TreeInMemory.{tree_of}
use Rattle.mapping.proofs.TileLemmas.{rising-joined}
use Rattle.engine.proofs.CompactedLemmas.{all_begin}
use Rattle.engine.proofs.CopyLemmas.{next_put}
use Rattle.engine.proofs.execute.map_of.Goals as goal

pub loop-key-init : goal.loop-key-init
loop-key-init c =
    rw (c.new-map.ensures, c.into_iter-key-iterator.ensures.into_iter_gives, c.with_prefix-key-items.ensures) (all_begin (contents (tree_of c.args.tree.now)))

pub loop-key-preserved : goal.loop-key-preserved
loop-key-preserved c =
    let next = c.in-Some.ensures.steps in
    let rising = rising-joined (levels_of (tree_of c.args.tree.now)).level None c.requires.levels.tiled in
    ap (λ (m : Pairs Bytes). m ++ c.next.new.self) c.in_ok-_there.ensures.map
    ∙ next_put (contents (tree_of c.args.tree.now)) c.loop-key.map c.next.new.self c.in-Some.key.now c.in-Some.value.now rising (rw next at c.loop-key.invariant)
