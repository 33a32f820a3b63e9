use Rattle.std.proofs.Common.{rules, ◌≡◌, ◌∙◌, ap}
use Rattle.keys.specs.Bytes.{Bytes, Pairs}
use Rattle.mapping.specs.Levels.{contents}
use Rattle.mapping.specs.TreeInMemory.{tree_of}
use Rattle.engine.specs.Copies.{puts_of}
use Rattle.engine.proofs.CompactedLemmas.{all_begin}
use Rattle.engine.proofs.store.compact.all_puts.Goals as goal

pub returns : goal.returns
returns c =
    let made : c.puts_of.new.puts.items ≡ puts_of c.with_prefix.result = search rules in
    made ∙ ap (λ (m : Pairs Bytes). puts_of m) (c.with_prefix.ensures ∙ all_begin (contents (tree_of c.args.tree.now)))
