use Rattle.std.specs.Prelude.{[]}
use Rattle.frame_codec.specs.declared.format.KeyEncoding.TheVariants.{Whole}
use Rattle.frame_codec.proofs.EachLemmas.{IsReadUpTo}
use Rattle.frame_codec.proofs.read.read_whole.Given as goal

-- the builder has the entries before this place
abbrev pub invariant-loop-at : goal.invariant-loop-at
invariant-loop-at g l = IsReadUpTo l.settings (g.V.FrameItem.is_short l.settings) Whole g.V.FrameItem.codec [] l.count l.initial.rest l._at l.builder l.rest
