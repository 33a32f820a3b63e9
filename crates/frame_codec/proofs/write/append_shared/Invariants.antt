use Rattle.std.proofs.Common.{◌≡◌, drop}
use Rattle.std.specs.List.{list_all}
use Rattle.frame_codec.specs.declared.format.KeyEncoding.TheVariants.{PrefixCompressed}
use Rattle.frame_codec.proofs.WriteLemmas.{IsUpTo}
use Rattle.frame_codec.proofs.write.append_shared.Given as goal

-- the entries before this place were appended, and each of their cells is valid
abbrev pub invariant-loop-at : goal.invariant-loop-at
invariant-loop-at g l =
    IsUpTo PrefixCompressed g.V.FrameItem.codec l.low l.base l.before l.at l.initial.out l.out
    × (list_all (λ e. g.V.FrameCell.is_word e.1) (drop l.at l.base) ≡ list_all (λ e. g.V.FrameCell.is_word e.1) l.base)
