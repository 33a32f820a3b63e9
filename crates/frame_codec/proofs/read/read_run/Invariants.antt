use Rattle.std.specs.Prelude.{[]}
use Rattle.index_page.specs.Rules.{of_cell}
use Rattle.frame_codec.specs.declared.format.KeyEncoding.TheVariants.{Whole}
use Rattle.frame_codec.specs.Codecs.{flagged}
use Rattle.frame_codec.proofs.EachLemmas.{IsReadUpTo}
use Rattle.frame_codec.proofs.read.read_run.Given as goal

-- the run has the changes before this place
abbrev pub invariant-loop-at : goal.invariant-loop-at
invariant-loop-at g l = IsReadUpTo l.settings (of_cell (g.V.FrameItem.is_short l.settings)) Whole (flagged g.V.FrameItem.codec) [] l.count l.initial.rest l._at l.run l.rest
