use Rattle.std.proofs.Common.{◌≡◌, ◌∙◌, length, rules}
use Rattle.mapping.specs.Levels.{contents}
use Rattle.mapping.specs.TreeInMemory.{tree_of}
use Rattle.scan.proofs.RangeLemmas.{between_prefix, between_all}
use Rattle.scan.proofs.range.Range.with_prefix.Goals as goal

pub returns-then-is_empty : goal.returns-then-is_empty
returns-then-is_empty c =
    let none : 0 ≡ length c.args.prefix.now = search (rules, c.if-is_empty.ensures) in
    c.new.ensures ∙ between_all c.args.prefix.now (contents (tree_of c.args.tree.now)) none

pub returns : goal.returns
returns c = c.new-2.ensures ∙ between_prefix c.args.prefix.now (contents (tree_of c.args.tree.now))
