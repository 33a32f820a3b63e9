use Rattle.std.proofs.Common.{sym, ap, ◌∙◌, length}
use Rattle.keys.specs.Bytes.{Bytes}
use Rattle.delta_chain.specs.Lazy.{Lazy}
use Rattle.delta_chain.specs.Layers.{entries_of, with_run}
use Rattle.page_runs.specs.AfterRun.{class_of_size}
use Rattle.page_runs.proofs.LeafAfter.{values_of_leaf}
use Rattle.page_runs.proofs.leaf_after.replace_page.Goals as goal

pub returns-in-Ok-clause-class : goal.returns-in-Ok-clause-class
returns-in-Ok-clause-class c =
    c.in-Ok.ensures.class
    ∙ ap (λ (l : Lazy Bytes). class_of_size c.args.settings.now (length (with_run (entries_of l.chain) c.args.run)))
    (sym (values_of_leaf c.args.page.now _ c.take_leaf-chain.result c.take_leaf-chain.ensures.values))
