-- The frames of a clean: those of the pages that live in the head segment, as they are in the log, in the order of their pids.
use Rattle.std.specs.Prelude.{ℕ, ◌&&◌, nat_eq, if◌then◌else◌, List, [], ◌∷◌, flat_map}
use Rattle.frame_codec.specs.Frame.{Frame}
use Rattle.flush_log.specs.Reading.{Found}
use Rattle.recovery.specs.LogPages.{pids_of}
use Rattle.recovery.specs.Gathered.{live_frames}
use Rattle.recovery.specs.PageByLog.{is_base}
use Rattle.recovery.specs.StoreOfDisk.{frames_in}

-- the live frames of a page that are copied: all of them, if the first one is a base in the head segment
abbrev pub carried : ℕ → List Found → List Frame
carried head [] = []
carried head (f ∷ fs) = if nat_eq f.segment head && is_base f.frame.content then frames_in (f ∷ fs) else []

-- the frames of a clean, from the frames between head and tail
abbrev pub clean_frames : ℕ → List Found → List Frame
clean_frames head found = flat_map (λ pid. carried head (live_frames pid found)) (pids_of (frames_in found))
