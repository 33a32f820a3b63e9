-- The contents of a segment, described by its bytes: what a reading must find.
use Rattle.std.specs.Prelude.{◌≡◌, ◌⊎◌, ℕ, ◌+◌, ◌-◌, ◌<◌, ◌≤◌, Bool, true, false, List, ◌++◌, length, flat_map, replicate, take, None, Ok, Err}
use Rattle.std.specs.List.{AllByRecursion}
use Rattle.keys.specs.Bytes.{Bytes}
use Rattle.keys.specs.Sizes.{segment_header_size}
use Rattle.keys.specs.declared.fault.Fault.{Fault}
use Rattle.frame_codec.specs.declared.format.Format.{Format}
use Rattle.frame_codec.specs.Frame.{Frame, bytes_of, is_frame}
use Rattle.frame_codec.specs.Reading.{read_frame}
use Rattle.flush_log.specs.Reading.{Found, is_at_tail, is_padding, read_segment, read_earlier}
use Rattle.flush_log.specs.Segments.{segment_header, segment_bytes, last_segment, bytes_in_use}

-- the bytes are the header of segment n, these frames and `zeros` zeros
pub record AreFrames (g : Format) (n : ℕ) (fs : List Frame) (zeros : ℕ) (bytes : Bytes) : Type 0 where
  pub within : AllByRecursion (λ f. is_frame g f ≡ true) fs
  pub encoded : bytes ≡ segment_header n ++ (flat_map bytes_of fs ++ replicate zeros 0)

-- the bytes are that header, some frames up to an offset, and then neither a frame nor the end
pub record IsBrokenAt (g : Format) (is_end : Bytes → Bool) (n offset : ℕ) (bytes : Bytes) : Type 0 where
  pub before : List Frame
  pub following : Bytes
  pub within : AllByRecursion (λ f. is_frame g f ≡ true) before
  pub encoded : bytes ≡ segment_header n ++ (flat_map bytes_of before ++ following)
  pub place : offset ≡ segment_header_size + length (flat_map bytes_of before)
  pub no_end : is_end following ≡ false
  pub no_frame : read_frame g following ≡ None

-- the segments from the head up to n contain these frames, and segment n has the fault; it is the last segment, which is read up to the tail, or
-- another segment follows it
pub record IsFirstFault (g : Format) (file : Bytes) (head tail n : ℕ) (fault : Fault) : Type 0 where
  pub before : List Found
  pub from_head : head ≤ n
  pub earlier : read_earlier g file head (n - head) ≡ Ok before
  pub here : ((n < last_segment g.settings tail) × (read_segment g is_padding n (segment_bytes g.settings file n) ≡ Err fault))
      ⊎ ((n ≡ last_segment g.settings tail) × (read_segment g is_at_tail n (take (bytes_in_use g.settings tail) (segment_bytes g.settings file n)) ≡ Err fault))
