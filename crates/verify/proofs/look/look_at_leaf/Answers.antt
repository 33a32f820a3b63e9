use Rattle.std.proofs.Common.{length, sym, ap, ◌∙◌}
use Rattle.delta_chain.specs.Lazy.{seen}
use Rattle.delta_chain.specs.Layers.{entries_of}
use Rattle.delta_chain.proofs.LazyLemmas.{entries-seen}
use Rattle.verify.proofs.PageLemmas.{sound_leaf}
use Rattle.verify.proofs.look.look_at_leaf.Goals as goal

pub returns : goal.returns
returns c =
    let count = c.len.ensures ∙ ap length (c.in_ok-pairs.ensures.entries ∙ ap entries_of c.whole.ensures ∙ sym (entries-seen c.args.chain.now)) in
    sound_leaf c.args.settings.now c.args.at.now (record { low = c.args.low.now; layers = seen c.args.chain.now }) c.len.result (length (entries_of (seen c.args.chain.now)))
    (sym c.in_default.is ∙ c.in_ok-broken.ensures) count
