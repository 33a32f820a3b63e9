-- The definitions' frame for the code's frame, and the results of the code that decodes frames.
use Rattle.frame_codec.specs.declared.frame.Frame as code
use Rattle.frame_codec.specs.declared.frame.Frame.TheVariants as kinds
use Rattle.frame_codec.specs.Frame.{Frame}
use Rattle.frame_codec.specs.Frame.Content.{FullLeaf, DeltaLeaf, FullIndex, DeltaIndex, Free}

abbrev pub frame_of : code.Frame → Frame
frame_of (kinds.FullLeaf pid encoding low base) = record { pid = pid; content = FullLeaf encoding low base }
frame_of (kinds.DeltaLeaf pid run) = record { pid = pid; content = DeltaLeaf run }
frame_of (kinds.FullIndex pid encoding low base) = record { pid = pid; content = FullIndex encoding low base }
frame_of (kinds.DeltaIndex pid run) = record { pid = pid; content = DeltaIndex run }
frame_of (kinds.Free pid) = record { pid = pid; content = Free }
