-- The frame that bytes begin with: as a fact, and as a decoder.
use Rattle.std.specs.Prelude.{◌≡◌, ℕ, ◌+◌, true, ◌==◌, if◌then◌else◌, ◌++◌, length, Option, Some, None}
use Rattle.keys.specs.Bytes.{Bytes}
use Rattle.keys.specs.Cells.{read_on, read_as, read_where, value_cell, pid_cell}
use Rattle.keys.specs.Sizes.{pid_size}
use Rattle.frame_codec.specs.declared.format.Format.{Format}
use Rattle.frame_codec.specs.declared.format.KeyEncoding.TheVariants.{Whole, PrefixCompressed}
use Rattle.frame_codec.specs.Frame.{Content, Frame, full, delta, content_bytes, header, bytes_of, is_frame}
use Rattle.frame_codec.specs.Frame.Content.{FullLeaf, DeltaLeaf, FullIndex, DeltaIndex, Free}

-- the bytes are this frame, which a log of this format may contain, followed by the rest
pub record BeginsWithFrame (format : Format) (bs : Bytes) (f : Frame) (rest : Bytes) : Type 0 where
  pub within : is_frame format f ≡ true
  pub bytes : bs ≡ bytes_of f ++ rest

-- decodes the content of a frame of this kind
abbrev pub read_content : ℕ → Bytes → Option (Content × Bytes)
read_content kind bs =
    if kind == 1 then read_as (λ p. FullLeaf Whole p.0 p.1) ((full Whole value_cell).read bs) else
    (if kind == 2 then read_as (λ run. DeltaLeaf run) ((delta value_cell).read bs) else
    (if kind == 3 then read_as (λ p. FullIndex Whole p.0 p.1) ((full Whole pid_cell).read bs) else
    (if kind == 4 then read_as (λ run. DeltaIndex run) ((delta pid_cell).read bs) else
    (if kind == 5 then Some (Free, bs) else
    (if kind == 6 then read_as (λ p. FullLeaf PrefixCompressed p.0 p.1) ((full PrefixCompressed value_cell).read bs) else
    (if kind == 7 then read_as (λ p. FullIndex PrefixCompressed p.0 p.1) ((full PrefixCompressed pid_cell).read bs) else None))))))

-- decodes the frame with this header, if its content has exactly the length in the header
abbrev pub read_after : (ℕ × ℕ) × ℕ → Bytes → Option (Frame × Bytes)
read_after h bs =
    read_as (λ c. record { pid = h.1; content = c })
    (read_where (λ c. h.0.1 == pid_size + length (content_bytes c)) (read_content h.0.0 bs))

-- decodes the frame that the bytes begin with, for any format
abbrev pub read_any : Bytes → Option (Frame × Bytes)
read_any bs = read_on (header.read bs) read_after

-- the frame of this format that the bytes begin with, and the bytes after it
abbrev pub read_frame : Format → Bytes → Option (Frame × Bytes)
read_frame format bs = read_where (is_frame format) (read_any bs)
