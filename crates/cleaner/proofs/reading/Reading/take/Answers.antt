use Rattle.std.proofs.Common.{sym, ap, ◌∙◌}
use Rattle.cleaner.specs.Chosen.{held}
use Rattle.cleaner.specs.PagesRead.{PagesRead, pages_at}
use Rattle.cleaner.proofs.ReadingLemmas.{pages-held, differ}
use Rattle.cleaner.proofs.reading.Reading.take.Goals as goal

pub returns-clause-taken : goal.returns-clause-taken
returns-clause-taken c = ap held c.remove.ensures.value ∙ sym (pages-held c.self.inside.pages c.args.segment) ∙ ap (λ (r : PagesRead). pages_at c.args.segment r) c.self.view_is

pub returns-clause-rest : goal.returns-clause-rest
returns-clause-rest c n other =
    pages-held c.remove.new.self n ∙ ap held (c.remove.ensures.updates.2 n (differ c.args.segment n other)) ∙ sym (pages-held c.self.inside.pages n) ∙ ap (λ (r : PagesRead). pages_at n r) c.self.view_is
