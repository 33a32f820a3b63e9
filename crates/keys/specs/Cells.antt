-- How numbers, keys, values and page ids are encoded in bytes, and how they are decoded.
use Rattle.std.specs.Prelude.{◌≡◌, ℕ, zero, suc, ◌+◌, ◌*◌, ◌^◌, ◌<◌, Bool, nat_le, if◌then◌else◌, [], ◌∷◌, ◌++◌, length, take, drop, Option, Some, None}
use Rattle.std.specs.Int.{bytes_high_first}
use Rattle.std.specs.List.{AllByRecursion}
use Rattle.keys.specs.Bytes.{Bytes}

-- an encoding, and its decoder: the decoded value and the bytes after it, or None if the bytes do not begin with an encoded value
pub record Codec (X : Type 0) : Type 0 where
  pub encode : X → Bytes
  pub read : Bytes → Option (X × Bytes)

-- each element is a byte
abbrev pub AreBytes : Bytes → Type 0
AreBytes bs = AllByRecursion (λ b. b < 256) bs

-- ---- requirements on a codec

-- x is decoded from its encoding, whatever follows it
abbrev pub IsReadBack : {X : Type 0} → Codec X → X → Type 0
IsReadBack c x = (rest : Bytes) → c.read (c.encode x ++ rest) ≡ Some (x, rest)

-- if a value is decoded from bytes, the bytes begin with that value's encoding
abbrev pub ReadsEncodings : {X : Type 0} → Codec X → Type 0
ReadsEncodings {X = X} c = (bs : Bytes) (x : X) (rest : Bytes) → AreBytes bs → c.read bs ≡ Some (x, rest) → bs ≡ c.encode x ++ rest

-- ---- combinators for decoders

-- passes the decoded value and the remaining bytes to the next decoder, or fails if there is no value
abbrev pub read_on : {X Y : Type 0} → Option (X × Bytes) → (X → Bytes → Option (Y × Bytes)) → Option (Y × Bytes)
read_on None next = None
read_on (Some p) next = next p.0 p.1

-- maps the decoded value by f
abbrev pub read_as : {X Y : Type 0} → (X → Y) → Option (X × Bytes) → Option (Y × Bytes)
read_as f o = read_on o (λ x rest. Some (f x, rest))

-- fails unless the decoded value passes the test
abbrev pub read_where : {X : Type 0} → (X → Bool) → Option (X × Bytes) → Option (X × Bytes)
read_where test o = read_on o (λ x rest. if test x then Some (x, rest) else None)

-- ---- numbers

-- decodes a big-endian number of w bytes
abbrev pub read_number : ℕ → Bytes → Option (ℕ × Bytes)
read_number zero bs = Some (0, bs)
read_number (suc w) [] = None
read_number (suc w) (b ∷ bs) = read_as (λ n. b * 256 ^ w + n) (read_number w bs)

-- the codec of big-endian numbers of w bytes
abbrev pub number : ℕ → Codec ℕ
number w = record { encode = bytes_high_first w; read = read_number w }

-- ---- keys and cells

-- decodes n bytes as they are
abbrev pub read_bytes : ℕ → Bytes → Option (Bytes × Bytes)
read_bytes n bs = if nat_le n (length bs) then Some (take n bs, drop n bs) else None

-- byte strings with their length in two bytes before them; keys are encoded in this way
abbrev pub counted : Codec Bytes
counted = record { encode = λ bs. (number 2).encode (length bs) ++ bs; read = λ bs. read_on ((number 2).read bs) read_bytes }

-- a value
abbrev pub value_cell : Codec Bytes
value_cell = counted

-- a page id, in eight bytes
abbrev pub pid_cell : Codec ℕ
pid_cell = number 8
