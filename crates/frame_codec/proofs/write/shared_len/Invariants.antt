use Rattle.std.proofs.Common.{◌≡◌, ◌+◌, length}
use Rattle.frame_codec.specs.declared.format.KeyEncoding.TheVariants.{PrefixCompressed}
use Rattle.frame_codec.proofs.WriteLemmas.{encoded_from}
use Rattle.frame_codec.proofs.write.shared_len.Given as goal

-- the size of the entries from this place on is added
abbrev pub invariant-loop-at : goal.invariant-loop-at
invariant-loop-at g l =
    l.len + length (encoded_from PrefixCompressed g.V.FrameItem.codec l.low l.base l.before l.at) ≡ length (encoded_from PrefixCompressed g.V.FrameItem.codec l.low l.base l.low 0)
