-- Where a log begins and ends, and its number of commits.
use Rattle.std.specs.Prelude.{◌+◌, ◌*◌, ◌<◌, ◌≤◌}
use Rattle.keys.specs.Sizes.{segment_header_size}
use Rattle.keys.specs.declared.settings.Settings.{Settings}
use Rattle.mapping.specs.Tree.{Store}
use Rattle.flush_log.specs.Segments.{last_segment}
use Rattle.flush_log.specs.Slot.{Slot, greatest}
use Rattle.flush_log.specs.declared.slot.LogEnds.{LogEnds}

-- those of a slot
abbrev pub ends_in : Slot → LogEnds
ends_in t = record { sequence = t.sequence; head = t.head; tail = t.tail }

-- those of a store
abbrev pub ends_of : Store → LogEnds
ends_of st = record { sequence = st.sequence; head = st.head; tail = st.tail }

-- a log of a store with these settings may have these ends: the tail is after the header of the head segment, and in one of the `segments` segments
-- from the head on
pub record AreEnds (s : Settings) (e : LogEnds) : Type 0 where
  pub number : e.sequence ≤ greatest
  pub after : e.head * s.seg_size + segment_header_size < e.tail
  pub tail : e.tail ≤ greatest
  pub last : last_segment s e.tail < e.head + s.segments
