-- How the rows of bytes are written down: bytes by their hexadecimal digits, keys and values by their letters.
use Rattle.std.specs.Prelude.{◌≡◌, ℕ, ◌+◌, ◌*◌, ◌==◌, not, List, [], ◌∷◌, ◌++◌, Some, None, codes}
use Prim.Native.String.{String}
use Rattle.std.specs.List.{filter}
use Rattle.std.specs.Char.{digit_value}
use Rattle.keys.proofs.Literals.{S}
use Rattle.frame_codec.specs.declared.format.Format.{Format}
use Rattle.keys.specs.declared.version.Version.TheVariants.{One, Two}
use Rattle.frame_codec.specs.Frame.{Frame, bytes_of}
use Rattle.frame_codec.specs.Reading.{read_frame}

-- the bytes that digits denote, two digits each
abbrev by_two : List ℕ → List ℕ
by_two [] = []
by_two (c ∷ []) = []
by_two (c ∷ d ∷ ds) = (16 * digit_value c + digit_value d) ∷ by_two ds

-- the same of a text, whose spaces are passed over
abbrev pub hex : String → List ℕ
hex text = by_two (filter (λ c. not (c == 32)) (codes text))

-- the two formats that a store with these settings may have
abbrev pub one : Format
one = record { settings = S; version = One }

abbrev pub two : Format
two = record { settings = S; version = Two }

-- the frame's bytes are these, and it is read from them in each version, also with more after them
abbrev pub IsSpelled : Frame → String → Type 0
IsSpelled f text =
    (bytes_of f ≡ hex text)
    × (read_frame one (hex text ++ 7 ∷ 8 ∷ []) ≡ Some (f, 7 ∷ 8 ∷ []))
    × (read_frame two (hex text ++ 7 ∷ 8 ∷ []) ≡ Some (f, 7 ∷ 8 ∷ []))

-- the frame's bytes are these, and it is read from them in version 2, and not in version 1
abbrev pub IsShared : Frame → String → Type 0
IsShared f text =
    (bytes_of f ≡ hex text)
    × (read_frame one (hex text ++ 7 ∷ 8 ∷ []) ≡ None)
    × (read_frame two (hex text ++ 7 ∷ 8 ∷ []) ≡ Some (f, 7 ∷ 8 ∷ []))

-- the bytes begin with no frame, in neither version
abbrev pub IsRefused : String → Type 0
IsRefused text = (read_frame one (hex text) ≡ None) × (read_frame two (hex text) ≡ None)
