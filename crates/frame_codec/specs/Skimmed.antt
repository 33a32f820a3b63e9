-- A frame that was identified without decoding its content.
use Rattle.std.specs.Prelude.{◌≡◌, Bool, true, Option, Some, None}
use Rattle.std.specs.Ordering.{is_lt}
use Rattle.keys.specs.Bytes.{Bytes}
use Rattle.keys.specs.Order.{order}
use Rattle.frame_codec.specs.declared.skim.FrameKind.{FrameKind}
use Rattle.frame_codec.specs.declared.skim.FrameKind.TheVariants as kinds
use Rattle.frame_codec.specs.declared.skim.Skimmed.{Skimmed}
use Rattle.frame_codec.specs.Frame.{Content, Frame}
use Rattle.frame_codec.specs.Frame.Content.{FullLeaf, DeltaLeaf, FullIndex, DeltaIndex, Free}

-- the kind of a frame with this content
abbrev pub kind_of : Content → FrameKind
kind_of (FullLeaf encoding low base) = kinds.FullLeaf
kind_of (DeltaLeaf run) = kinds.DeltaLeaf
kind_of (FullIndex encoding low base) = kinds.FullIndex
kind_of (DeltaIndex run) = kinds.DeltaIndex
kind_of Free = kinds.Free

-- the identified frame is this one
abbrev pub IsSkimmed : Skimmed → Frame → Type 0
IsSkimmed k f = (f.pid ≡ k.pid) × (kind_of f.content ≡ k.kind)

-- whether a key is above the last one, if there is one
abbrev pub is_above : Option Bytes → Bytes → Bool
is_above None key = true
is_above (Some last) key = is_lt (order last key)
