-- What one reading of a log retains for the cleans of its first segments.
use Rattle.std.specs.Prelude.{◌≡◌, ℕ, ◌<◌, ◌≤◌, nat_eq, List, [], map, flat_map, Option, Some, None}
use Rattle.std.specs.Map.{lookup}
use Rattle.keys.specs.Bytes.{Bytes}
use Rattle.frame_codec.specs.Frame.{bytes_of}
use Rattle.frame_codec.specs.declared.format.Format.{Format}
use Rattle.flush_log.specs.Disk.{View}
use Rattle.flush_log.specs.Reading.{Found}
use Rattle.flush_log.specs.Segments.{last_segment}
use Rattle.flush_log.specs.declared.slot.LogEnds.{LogEnds}
use Rattle.recovery.specs.Recovered.{IsReadOf}
use Rattle.cleaner.specs.Chosen.{image_in}
use Rattle.cleaner.specs.Cleaned.{IsRead}
use Rattle.cleaner.specs.CleanText.{clean_frames}

-- a reading: the limit below which segments can be cleaned with it, the number of live bytes in the log when it was read, and for each of these
-- segments in which pages live, the encoded frames of each such page
pub record PagesRead : Type 0 where
  pub limit : ℕ
  pub live : ℕ
  pub pages : List (ℕ × List Bytes)

abbrev pub or_none : Option (List Bytes) → List Bytes
or_none None = []
or_none (Some pages) = pages

-- the pages that live in this segment
abbrev pub pages_at : ℕ → PagesRead → List Bytes
pages_at n r = or_none (lookup (nat_eq n) r.pages)

-- for each segment from this one up to the limit, the retained frames are those that a clean of that segment copies
abbrev pub HasTexts : Format → ℕ → List Found → PagesRead → Type 0
HasTexts g from found r = (n : ℕ) → from ≤ n → n < r.limit → flat_map (image_in g) (pages_at n r) ≡ map bytes_of (clean_frames n found)

-- a reading of the log with these ends in these bytes, or an equivalent one: the log has no fault, the last segment is at or beyond the limit, and
-- the reading has the frames that the cleans of the segments below the limit copy
pub record IsReading (g : Format) (e : LogEnds) (file : Bytes) (r : PagesRead) : Type 0 where
  pub found : List Found
  pub read : IsRead g e file found
  pub within : r.limit ≤ last_segment g.settings e.tail
  pub texts : HasTexts g e.head found r

-- the same for bytes that a reading of the disk may find: on an honest disk, its contents
abbrev pub IsReadingOf : View → Format → LogEnds → PagesRead → Type 0
IsReadingOf v g e r = (file : Bytes) × IsReadOf v file × IsReading g e file r
