use Rattle.std.proofs.Common.{take}
use Rattle.frame_codec.specs.declared.format.KeyEncoding.TheVariants.{PrefixCompressed}
use Rattle.frame_codec.proofs.SkimLemmas.{IsPassedUpTo, last_of}
use Rattle.frame_codec.proofs.skim.skim_shared.Given as goal

-- the entries before this place were skipped, and the next entry is encoded after this key
abbrev pub invariant-loop-at : goal.invariant-loop-at
invariant-loop-at g l =
    IsPassedUpTo l.settings (g.C.FrameItem.is_short l.settings) PrefixCompressed g.C.FrameItem.codec (take 510 l.low) l.count l.initial.rest
    l.at (last_of l.at l.last) l.last l.rest
