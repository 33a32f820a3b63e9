-- What a reading of a log retains of its pages.
use Rattle.std.specs.Prelude.{ℕ, nat_eq, if◌then◌else◌, List, [], ◌∷◌, map, flat_map, Vec, Option, Some, None}
use Rattle.keys.specs.Bytes.{Bytes}
use Rattle.frame_codec.specs.Frame.{bytes_of}
use Rattle.frame_codec.specs.declared.format.Format.{Format}
use Rattle.recovery.specs.Rebuild.{frames_of_bytes}
use Rattle.recovery.specs.declared.gather.Kept.{Kept}

-- the encodings of the frames in these bytes
abbrev pub image_in : Format → Bytes → List Bytes
image_in g bytes = map bytes_of (frames_of_bytes g bytes)

-- the frames of a page, if it has some
abbrev pub some_frames : Bytes → List Bytes
some_frames [] = []
some_frames (b ∷ bytes) = (b ∷ bytes) ∷ []

-- the retained frames of a page, if it lives in this segment
abbrev pub page_in : ℕ → Kept → List Bytes
page_in n k = if nat_eq n k.segment then some_frames k.frames.items else []

-- for each page that lives in this segment its retained frames, in the order of these pages
abbrev pub pages_in : ℕ → List (ℕ × Kept) → List Bytes
pages_in n es = flat_map (λ e. page_in n e.1) es

-- the same in the code's form
abbrev pub held : {A B : Type 0} → Option (Vec (Vec ℕ A) B) → List Bytes
held None = []
held (Some pages) = map (λ p. p.items) pages.items

-- the entries of a map in the code's form
abbrev pub entries_held : {A B : Type 0} → List (ℕ × Vec (Vec ℕ A) B) → List (ℕ × List Bytes)
entries_held es = map (λ e. (e.0, map (λ p. p.items) e.1.items)) es
