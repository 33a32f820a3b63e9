use Rattle.std.proofs.Common.{ap, ◌∙◌, length}
use Rattle.keys.specs.Bytes.{Bytes}
use Rattle.delta_chain.specs.Layers.{Layers, entries_of}
use Rattle.page_runs.specs.AfterRun.{class_of_size}
use Rattle.page_runs.specs.Outcome.{class_now}
use Rattle.page_runs.specs.declared.page_after.WayBack.{WayBack}
use Rattle.page_runs.proofs.leaf_after.merge.Goals as goal

pub returns-in-Ok-new-clause-class : goal.returns-in-Ok-new-clause-class
returns-in-Ok-new-clause-class c =
    ap (λ (w : WayBack Bytes). class_now w) c.in-Ok-new.ensures.ok
    ∙ c.in-Ok.ensures.class ∙ ap (λ (p : Layers _). class_of_size c.args.settings.now (length (entries_of p))) c.into_chain.ensures
