use Rattle.std.specs.Vec.Iter.{into_iter_items}
use Rattle.cleaner.proofs.ChooseLemmas.{AreChosen}
use Rattle.cleaner.proofs.choose.images_in.Given as goal

-- the remaining pages, and the images of those before them
abbrev pub invariant-loop-page : goal.invariant-loop-page
invariant-loop-page l = AreChosen l.format l.images.items (into_iter_items l.page-iterator) l.fn.pages.items
