-- The size of a frame in bytes.
use Rattle.std.specs.Prelude.{ℕ, ◌+◌, [], ◌∷◌, length, drop, Option, Some, None, sum_by}
use Rattle.keys.specs.Bytes.{Bytes, Pairs}
use Rattle.keys.specs.Sizes.{length_size, pid_size, frame_header_size, full_header_size, delta_header_size, pair_header_size, child_header_size, change_header_size}
use Rattle.frame_codec.specs.declared.format.KeyEncoding.{KeyEncoding}
use Rattle.frame_codec.specs.declared.format.KeyEncoding.TheVariants.{Whole, PrefixCompressed}
use Rattle.frame_codec.specs.Codecs.{common}
use Rattle.frame_codec.specs.Frame.{Content}
use Rattle.frame_codec.specs.Frame.Content.{FullLeaf, DeltaLeaf, FullIndex, DeltaIndex, Free}

-- the size of a cell, or zero if it is absent
abbrev pub where_present : {V : Type 0} → (V → ℕ) → Option V → ℕ
where_present size None = 0
where_present size (Some v) = size v

-- entries, each with that part of its key which the key before it doesn't share
abbrev pub rests : {V : Type 0} → Bytes → Pairs V → Pairs V
rests before [] = []
rests before (e ∷ es) = (drop (common before e.0) e.0, e.1) ∷ rests e.0 es

-- entries, each with the part of its key that is stored
abbrev pub encoded : {V : Type 0} → KeyEncoding → Bytes → Pairs V → Pairs V
encoded Whole low es = es
encoded PrefixCompressed low es = rests low es

-- the size of a frame with this content, including its header
abbrev pub size_of : Content → ℕ
size_of (FullLeaf encoding low base) =
    full_header_size + length low + sum_by (λ e. pair_header_size + length e.0 + length e.1) (encoded encoding low base)
size_of (DeltaLeaf run) = delta_header_size + sum_by (λ e. change_header_size + length e.0 + where_present (λ v. length_size + length v) e.1) run
size_of (FullIndex encoding low base) =
    full_header_size + length low + sum_by (λ e. child_header_size + length e.0) (encoded encoding low base)
size_of (DeltaIndex run) = delta_header_size + sum_by (λ e. change_header_size + length e.0 + where_present (λ p. pid_size) e.1) run
size_of Free = frame_header_size
