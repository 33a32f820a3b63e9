-- How many bytes of a log are live: those of the frames that determine its pages.
use Rattle.std.specs.Prelude.{ℕ, ◌-◌, ◌^◌, min, sum_by, List, Option, Some, None, Result, Ok, Err}
use Rattle.keys.specs.Bytes.{Bytes}
use Rattle.keys.specs.declared.fault.Fault.{Fault}
use Rattle.mapping.specs.Finding.{Finding}
use Rattle.frame_codec.specs.declared.format.Format.{Format}
use Rattle.flush_log.specs.Reading.{Found, log_between}
use Rattle.flush_log.specs.declared.slot.LogEnds.{LogEnds}
use Rattle.recovery.specs.Gathered.{live_frames, live_size}
use Rattle.recovery.specs.LogPages.{pids_of, broken_in}
use Rattle.recovery.specs.StoreOfDisk.{frames_in}

-- the live bytes of the pages under these pids, for each page capped at the greatest 64-bit number
abbrev pub live_under : List Found → List ℕ → ℕ
live_under found pids = sum_by (λ pid. live_size (live_frames pid found)) pids

-- the live bytes of all pages, capped at the greatest 64-bit number
abbrev pub live_bytes : List Found → ℕ
live_bytes found = min (live_under found (pids_of (frames_in found))) (2 ^ 64 - 1)

-- this number, unless frames do not fit together
abbrev pub if_sound : Option Finding → ℕ → Option ℕ
if_sound None n = Some n
if_sound (Some f) n = None

-- the live bytes of the frames found, if they fit together
abbrev pub live_found : Result (List Found) Fault → Option ℕ
live_found (Ok found) = if_sound (broken_in (frames_in found)) (live_bytes found)
live_found (Err fault) = None

-- the live bytes of the log with these ends in these bytes, if there is no fault
abbrev pub live_in : Format → LogEnds → Bytes → Option ℕ
live_in g e file = live_found (log_between g file e.head e.tail)
