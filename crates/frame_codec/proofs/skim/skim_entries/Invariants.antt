use Rattle.std.specs.Prelude.{[]}
use Rattle.std.specs.Option.{option_copied}
use Rattle.keys.specs.Bytes.{Bytes}
use Rattle.frame_codec.specs.declared.format.KeyEncoding.TheVariants.{Whole}
use Rattle.frame_codec.proofs.SkimLemmas.{IsPassedUpTo}
use Rattle.frame_codec.proofs.skim.skim_entries.Given as goal

-- the entries before this place were passed over, up to this key
abbrev pub invariant-loop-at : goal.invariant-loop-at
invariant-loop-at g l =
    (key : Bytes) × IsPassedUpTo l.settings (g.C.FrameItem.is_short l.settings) Whole g.C.FrameItem.codec [] l.count l.initial.rest l._at (option_copied l.last) key l.rest
