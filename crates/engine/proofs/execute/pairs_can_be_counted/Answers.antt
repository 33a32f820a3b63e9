use Rattle.std.proofs.Common.{◌≤◌, ◌-◌, ◌^◌, length, arith}
use Rattle.mapping.specs.TreeInMemory.{tree_of}
use Rattle.engine.proofs.ContentsFit.{contents_fit}
use Rattle.engine.proofs.execute.pairs_can_be_counted.Goals as goal

pub returns : goal.returns
returns c =
    let pages : length (tree_of c.args.tree.now).pages ≤ 2 ^ 64 - 1 = omega (arith, c.most_pages-pages.ensures, c.most_pages-pages.type_inv) in
    let commands : length c.args.commands.now ≤ 2 ^ 64 - 1 = omega (arith, c.count_of-count.ensures, c.count_of-count.type_inv) in
    contents_fit c.args.settings.now (tree_of c.args.tree.now) (length c.args.commands.now) c.requires.sound pages commands
