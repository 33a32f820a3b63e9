use Rattle.std.proofs.Common.{ap, ◌∙◌, ℕ, List, Bor}
use Rattle.std.specs.Option.{option_copied}
use Rattle.mapping.specs.Levels.{contents}
use Rattle.mapping.specs.TreeInMemory.{tree_of}
use Rattle.engine.proofs.CopyLemmas.{rows_from_least, rows_from_next}
use Rattle.engine.proofs.store.copy.rows_after.Goals as goal

pub returns-in-None : goal.returns-in-None
returns-in-None c = λ some left whole last.
    c.new.ensures ∙ rows_from_least (contents (tree_of c.args.tree.now)) some left 4096 c.requires.rising whole (last ∙ ap option_copied c.in-None.is)

pub returns-in-Some : goal.returns-in-Some
returns-in-Some c = λ some left whole last.
    rows_from_next (contents (tree_of c.args.tree.now)) some left 4096 c.requires.rising whole (λ (item : Bor (List ℕ) × Bor (List ℕ)). (item.0.now, item.1.now))
    c.next-itself.result c.new-rows.result c.next-itself.new.self c.in-Some.key.now c.next-itself.ensures.steps c.new-rows.ensures (last ∙ ap option_copied c.in-Some.is)
