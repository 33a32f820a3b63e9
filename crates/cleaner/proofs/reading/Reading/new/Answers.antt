use Rattle.std.proofs.Common.{ℕ, List, flat_map, refl, inr, sym, ap, ◌∙◌}
use Rattle.recovery.specs.declared.gather.Wanted.TheVariants.{Before}
use Rattle.cleaner.specs.Chosen.{image_in}
use Rattle.cleaner.proofs.ChooseLemmas.{kept-text}
use Rattle.cleaner.proofs.LiveLemmas.{kept-live}
use Rattle.cleaner.proofs.ReadingLemmas.{pages-held}
use Rattle.cleaner.proofs.reading.Reading.new.Goals as goal

pub returns-in-Some : goal.returns-in-Some
returns-in-Some c g found good live = inr (c.in-Some.finding, sym (c.in-Some.ensures (Before c.args.limit) found live.live), refl)

pub returns : goal.returns
returns c g found good live =
    let pages = c.in_ok-pages in (
      sym (c.in_default.ensures (Before c.args.limit) found live.live),
      refl,
      c.live_bytes-live.ensures ∙ kept-live (Before c.args.limit) c.args.pages found pages.ensures.ordered live.live,
      λ n from below. ap (λ (ps : List (List ℕ)). flat_map (image_in g) ps) (pages-held pages.pages n ∙ pages.ensures.pages n) ∙ kept-text g c.args.limit n c.args.pages found good below pages.ensures.ordered live,
    )
