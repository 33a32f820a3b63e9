-- Which settings a store may have.
use Rattle.std.specs.Prelude.{ℕ, ◌+◌, ◌*◌, max, Bool, ◌&&◌, nat_le, if◌then◌else◌, List, [], ◌∷◌, Option, Some, None, codes}
use Rattle.keys.specs.Bytes.{Bytes}
use Rattle.keys.specs.Sizes.{length_size, pid_size, segment_header_size, full_header_size, change_header_size}
use Rattle.keys.specs.declared.settings.Settings.{Settings}
use Rattle.keys.specs.declared.settings.Field.{Field}
use Rattle.keys.specs.declared.settings.Field.TheVariants.{Fan, Chain, MaxKey, MaxValue, SegSize, Segments}

-- whether a number is from least to greatest
abbrev pub is_in_limits : ℕ → ℕ → ℕ → Bool
is_in_limits least greatest n = nat_le least n && nat_le n greatest

-- the greatest size in bytes of an encoded change, with its key and its cell: a value or a page id
abbrev pub longest_change : Settings → ℕ
longest_change s = change_header_size + s.max_key + max (length_size + s.max_value) pid_size

-- the size in bytes of a segment's header and the longest frame: a low key, and `fan` entries, each as long as the longest change
abbrev pub longest_frame : Settings → ℕ
longest_frame s = segment_header_size + full_header_size + s.max_key + s.fan * longest_change s

-- each field with its test, in the order in which the tests are made; the last one checks that a segment can hold the longest frame
abbrev pub field_tests : Settings → List (Field × Bool)
field_tests s =
    (Fan, is_in_limits 4 64 s.fan)
    ∷ (Chain, is_in_limits 1 16 s.chain)
    ∷ (MaxKey, is_in_limits 1 255 s.max_key)
    ∷ (MaxValue, is_in_limits 0 1024 s.max_value)
    ∷ (SegSize, is_in_limits 256 1048576 s.seg_size)
    ∷ (Segments, is_in_limits 3 65536 s.segments)
    ∷ (SegSize, nat_le (longest_frame s) s.seg_size)
    ∷ []

-- the first field whose test fails
abbrev pub first_failed : List (Field × Bool) → Option Field
first_failed [] = None
first_failed (t ∷ ts) = if t.1 then first_failed ts else Some t.0

-- the first field that is out of range, or the segment's size if only the longest frame does not fit
abbrev pub first_bad_field : Settings → Option Field
first_bad_field s = first_failed (field_tests s)

-- the name of a field
abbrev pub field_name : Field → Bytes
field_name Fan = codes "fan"
field_name Chain = codes "chain"
field_name MaxKey = codes "max_key"
field_name MaxValue = codes "max_value"
field_name SegSize = codes "seg_size"
field_name Segments = codes "segments"
