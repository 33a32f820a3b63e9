use Rattle.std.proofs.Common.{◌∙◌, ap, sym, ◌++◌, append-nil}
use Rattle.std.proofs.lemmas.Slice.Zip.{either_empty_from_Zip}
use Rattle.index_page.specs.InMemory.{page_shown}
use Rattle.climb_plan.proofs.ChangedNames.{named_none}
use Rattle.climb_plan.proofs.change.push_names.Goals as goal

pub returns : goal.returns
returns c =
    let none = named_none (λ page. page_shown page.value) _ _ (either_empty_from_Zip c.loop-page.page-iterator c.next.new.self _ c.in-None.is c.next.ensures.steps) in
    sym (append-nil _) ∙ ap (λ x. c.loop-page.names.items ++ x) (sym none) ∙ c.loop-page.invariant
