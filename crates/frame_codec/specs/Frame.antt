-- A frame of the log: what it records about a page, its encoding in bytes, and which frames a log with given settings and of a given version may
-- contain. A new kind needs a new case in each definition on `Content` and a new line in `read_content`.
use Rattle.std.specs.Prelude.{ℕ, ◌+◌, ◌^◌, Bool, true, false, ◌&&◌, nat_le, nat_lt, [], ◌++◌, length, flat_map, Option}
use Rattle.std.specs.List.{list_all}
use Rattle.std.specs.Map.{keys_of}
use Rattle.keys.specs.Bytes.{Bytes, Pairs, Changes, Separators}
use Rattle.keys.specs.Cells.{Codec, read_on, number, counted, value_cell, pid_cell}
use Rattle.keys.specs.Sizes.{pid_size}
use Rattle.keys.specs.declared.settings.Settings.{Settings}
use Rattle.index_page.specs.Rules.{do_rise, is_short_value, of_cell}
use Rattle.frame_codec.specs.declared.format.Format.{Format}
use Rattle.frame_codec.specs.declared.format.KeyEncoding.{KeyEncoding}
use Rattle.frame_codec.specs.declared.format.KeyEncoding.TheVariants.{Whole, PrefixCompressed}
use Rattle.keys.specs.declared.version.Version.{Version}
use Rattle.keys.specs.declared.version.Version.TheVariants.{One, Two}
use Rattle.frame_codec.specs.Codecs.{both, both_by, read_each, listed, flagged, sharing, encode_in_turn, read_in_turn}

-- a full image of a page, with its low key, its base and the encoding of the base's keys; or a run; or that the page was freed
pub data Content : Type 0 where
  FullLeaf : KeyEncoding → Bytes → Pairs Bytes → Content
  DeltaLeaf : Changes Bytes → Content
  FullIndex : KeyEncoding → Bytes → Separators → Content
  DeltaIndex : Changes ℕ → Content
  Free : Content

-- a frame: the pid of its page, and what it records about the page
pub record Frame : Type 0 where
  pub pid : ℕ
  pub content : Content

-- ---- bytes

-- the encoded entries of a base under its low key: for each its key and its cell
abbrev pub encode_base : {V : Type 0} → KeyEncoding → Codec V → Bytes → Pairs V → Bytes
encode_base Whole cell low es = flat_map (both counted cell).encode es
encode_base PrefixCompressed cell low es = encode_in_turn (λ before. both (sharing before) cell) low es

-- the decoder of n entries
abbrev pub read_base : {V : Type 0} → KeyEncoding → Codec V → Bytes → ℕ → Bytes → Option (Pairs V × Bytes)
read_base Whole cell low = read_each (both counted cell)
read_base PrefixCompressed cell low = read_in_turn (λ before. both (sharing before) cell) low

-- a base: the number of its entries, and then the entries
abbrev pub based : {V : Type 0} → KeyEncoding → Codec V → Bytes → Codec (Pairs V)
based encoding cell low = record {
  encode = λ es. (number 2).encode (length es) ++ encode_base encoding cell low es;
  read = λ bs. read_on ((number 2).read bs) (read_base encoding cell low);
}

-- a low key and a base under it
abbrev pub full : {V : Type 0} → KeyEncoding → Codec V → Codec (Bytes × Pairs V)
full encoding cell = both_by counted (based encoding cell)

-- a run: keys, each with a cell or its absence
abbrev pub delta : {V : Type 0} → Codec V → Codec (Changes V)
delta cell = listed (both counted (flagged cell))

-- the kind number of a full image, for a leaf and for an index page
abbrev pub leaf_kind : KeyEncoding → ℕ
leaf_kind Whole = 1
leaf_kind PrefixCompressed = 6

abbrev pub index_kind : KeyEncoding → ℕ
index_kind Whole = 3
index_kind PrefixCompressed = 7

-- the kind number of a content
abbrev pub kind_of : Content → ℕ
kind_of (FullLeaf encoding low base) = leaf_kind encoding
kind_of (DeltaLeaf run) = 2
kind_of (FullIndex encoding low base) = index_kind encoding
kind_of (DeltaIndex run) = 4
kind_of Free = 5

-- the bytes after the pid
abbrev pub content_bytes : Content → Bytes
content_bytes (FullLeaf encoding low base) = (full encoding value_cell).encode (low, base)
content_bytes (DeltaLeaf run) = (delta value_cell).encode run
content_bytes (FullIndex encoding low base) = (full encoding pid_cell).encode (low, base)
content_bytes (DeltaIndex run) = (delta pid_cell).encode run
content_bytes Free = []

-- the header of every frame: its kind, the number of bytes after the length field, and the pid
abbrev pub header : Codec ((ℕ × ℕ) × ℕ)
header = both (both (number 1) (number 4)) pid_cell

-- the bytes of the frame
abbrev pub bytes_of : Frame → Bytes
bytes_of f = header.encode ((kind_of f.content, pid_size + length (content_bytes f.content)), f.pid) ++ content_bytes f.content

-- ---- limits by settings

-- a pid is a number of 64 bits
abbrev pub is_pid : ℕ → Bool
is_pid p = nat_lt p (2 ^ 64)

-- a key is no longer than the settings allow
abbrev pub is_key : Settings → Bytes → Bool
is_key s k = nat_le (length k) s.max_key

-- there are at most `fan` entries, their keys rise, and each key and what follows it are within the settings
abbrev pub are_entries : {X : Type 0} → Settings → (X → Bool) → Pairs X → Bool
are_entries s is_short es = nat_le (length es) s.fan && do_rise (keys_of es) && list_all (λ e. is_key s e.0 && is_short e.1) es

-- a base with its low key
abbrev pub is_full : {V : Type 0} → Settings → (V → Bool) → Bytes → Pairs V → Bool
is_full s is_short low base = is_key s low && are_entries s is_short base

-- a run, which has at least one change
abbrev pub is_run : {V : Type 0} → Settings → (V → Bool) → Changes V → Bool
is_run s is_short run = nat_lt 0 (length run) && are_entries s (of_cell is_short) run

-- the limits of a content, by its kind
abbrev pub is_content : Settings → Content → Bool
is_content s (FullLeaf encoding low base) = is_full s (is_short_value s) low base
is_content s (DeltaLeaf run) = is_run s (is_short_value s) run
is_content s (FullIndex encoding low base) = is_full s is_pid low base
is_content s (DeltaIndex run) = is_run s is_pid run
is_content s Free = true

-- ---- limits by version

-- a log of this version may contain keys with this encoding
abbrev pub is_known : Version → KeyEncoding → Bool
is_known One Whole = true
is_known One PrefixCompressed = false
is_known Two encoding = true

-- the version knows the key encoding of the content
abbrev pub is_readable : Version → Content → Bool
is_readable version (FullLeaf encoding low base) = is_known version encoding
is_readable version (DeltaLeaf run) = true
is_readable version (FullIndex encoding low base) = is_known version encoding
is_readable version (DeltaIndex run) = true
is_readable version Free = true

-- ---- limits by format

-- a log of this format may contain the content
abbrev pub is_allowed : Format → Content → Bool
is_allowed format c = is_readable format.version c && is_content format.settings c

-- a log of this format may contain the frame
abbrev pub is_frame : Format → Frame → Bool
is_frame format f = is_pid f.pid && is_allowed format f.content
