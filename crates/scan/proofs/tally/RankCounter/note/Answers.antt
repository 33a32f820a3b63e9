use Rattle.std.specs.Prelude.{◌≡◌, ℕ, List, length}
use Rattle.std.proofs.Common.{sym, ap, ◌∙◌}
use Rattle.std.proofs.lemmas.List.{with_items_is}
use Rattle.scan.proofs.Counting.{tally_with}
use Rattle.scan.proofs.tally.RankCounter.note.Goals as goal

pub returns-clause-came : goal.returns-clause-came
returns-clause-came c = λ came is known small.
    let long : length c.add_at.new.levels ≡ c.self.inside.levels.len = c.add_at.ensures.length ∙ ap (λ (x : List (List ℕ)). length x) c.deref_mut.ensures.value ∙ sym c.self.inside.levels.ok.0 in
    tally_with came c.args.self.now c.self.inside.keys.items c.deref.result.now c.self.inside.levels.items c.deref_mut.result.now c.add_at.new.levels _ c.args.key.now c.new.result c.place_below-place.result
    (sym c.self.view_is) c.deref.ensures.value c.deref_mut.ensures.value c.new.ensures c.place_below-place.ensures c.add_at.ensures.counted c.add_at.ensures.wide (with_items_is c.self.inside.levels c.add_at.new.levels long) is known small
