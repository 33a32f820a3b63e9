-- What is known about a page without reading it: the sizes are within the settings, but page ids may exceed 64 bits, which a decoder excludes.
use Rattle.std.specs.Prelude.{◌≡◌, ℕ, ◌+◌, Bool, true, ◌++◌, length, None}
use Rattle.keys.specs.Bytes.{Bytes}
use Rattle.keys.specs.Limits.{first_bad_field}
use Rattle.keys.specs.Sizes.{pid_size}
use Rattle.keys.specs.declared.settings.Settings.{Settings}
use Rattle.index_page.specs.Rules.{is_short_value, is_any_pid}
use Rattle.frame_codec.specs.declared.format.Format.{Format}
use Rattle.frame_codec.specs.Frame.{Content, Frame, header, is_full, is_run, is_readable, is_frame}
use Rattle.frame_codec.specs.Frame.Content.{FullLeaf, DeltaLeaf, FullIndex, DeltaIndex, Free}

-- the limits of a content, without those of its page ids
abbrev pub has_sizes : Settings → Content → Bool
has_sizes s (FullLeaf encoding low base) = is_full s (is_short_value s) low base
has_sizes s (DeltaLeaf run) = is_run s (is_short_value s) run
has_sizes s (FullIndex encoding low base) = is_full s is_any_pid low base
has_sizes s (DeltaIndex run) = is_run s is_any_pid run
has_sizes s Free = true

-- the sizes allow some store to have a page with this content
abbrev pub IsSized : Content → Type 0
IsSized c = (s : Settings) × (first_bad_field s ≡ None) × (has_sizes s c ≡ true)

-- all page ids have 64 bits: a log may contain the frame if its version knows the key encoding and the sizes are within the store's settings
abbrev pub FitsU64 : Frame → Type 0
FitsU64 f = (g : Format) → is_readable g.version f.content ≡ true → has_sizes g.settings f.content ≡ true → is_frame g f ≡ true

-- a frame of this kind and pid, with these bytes after the pid
abbrev pub framed : ℕ → ℕ → Bytes → Bytes
framed kind pid bytes = header.encode ((kind, pid_size + length bytes), pid) ++ bytes
