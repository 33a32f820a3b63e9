use Rattle.std.proofs.Common.{◌≡◌, [], drop}
use Rattle.std.specs.List.{list_all}
use Rattle.index_page.specs.Rules.{of_cell}
use Rattle.frame_codec.specs.Codecs.{flagged}
use Rattle.frame_codec.specs.declared.format.KeyEncoding.TheVariants.{Whole}
use Rattle.frame_codec.proofs.WriteLemmas.{IsUpTo}
use Rattle.frame_codec.proofs.write.append_changes.Given as goal

-- the changes before this place were appended, and each of their cells is valid
abbrev pub invariant-loop-at : goal.invariant-loop-at
invariant-loop-at g l =
    IsUpTo Whole (flagged g.V.FrameItem.codec) [] l.run [] l.at l.initial.out l.out
    × (list_all (λ e. of_cell g.V.FrameCell.is_word e.1) (drop l.at l.run) ≡ list_all (λ e. of_cell g.V.FrameCell.is_word e.1) l.run)
