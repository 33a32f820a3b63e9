use Rattle.std.proofs.Common.{◌≡◌, take}
use Rattle.frame_codec.specs.declared.format.KeyEncoding.TheVariants.{PrefixCompressed}
use Rattle.frame_codec.proofs.EachLemmas.{IsReadUpTo, last_key}
use Rattle.frame_codec.proofs.read.read_shared.Given as goal

-- the builder has the entries before this place, and the next entry is encoded after this key
abbrev pub invariant-loop-at : goal.invariant-loop-at
invariant-loop-at g l =
    IsReadUpTo l.settings (g.V.FrameItem.is_short l.settings) PrefixCompressed g.V.FrameItem.codec (take 510 l.low) l.count l.initial.rest l._at l.builder l.rest
    × (last_key (take 510 l.low) l.builder ≡ l.last)
