-- Codecs that are composed of others.
use Rattle.std.specs.Prelude.{ℕ, zero, suc, nat_eq, ◌==◌, List, [], ◌∷◌, ◌++◌, length, take, drop, flat_map, Option, Some, None}
use Rattle.std.specs.List.{common_prefix_len}
use Rattle.keys.specs.Bytes.{Bytes, Pairs}
use Rattle.keys.specs.Cells.{Codec, read_on, read_as, read_where, number, read_bytes}

-- a pair of values, one after the other
abbrev pub both : {X Y : Type 0} → Codec X → Codec Y → Codec (X × Y)
both c d = record {
  encode = λ p. c.encode p.0 ++ d.encode p.1;
  read = λ bs. read_on (c.read bs) (λ x rest. read_as (λ y. (x, y)) (d.read rest));
}

-- a pair of values, where the first one determines the encoding of the second
abbrev pub both_by : {X Y : Type 0} → Codec X → (X → Codec Y) → Codec (X × Y)
both_by c d = record {
  encode = λ p. c.encode p.0 ++ (d p.0).encode p.1;
  read = λ bs. read_on (c.read bs) (λ x rest. read_as (λ y. (x, y)) ((d x).read rest));
}

-- n values, one after the other
abbrev pub read_each : {X : Type 0} → Codec X → ℕ → Bytes → Option (List X × Bytes)
read_each c zero bs = Some ([], bs)
read_each c (suc n) bs = read_on (c.read bs) (λ x rest. read_as (λ xs. x ∷ xs) (read_each c n rest))

-- a list: its length, in two bytes, and then its elements
abbrev pub listed : {X : Type 0} → Codec X → Codec (List X)
listed c = record {
  encode = λ xs. (number 2).encode (length xs) ++ flat_map c.encode xs;
  read = λ bs. read_on ((number 2).read bs) (read_each c);
}

-- a cell or its absence: the flag 1, of one byte, and the cell; or the flag 0
abbrev pub encode_flag : {V : Type 0} → Codec V → Option V → Bytes
encode_flag c None = 0 ∷ []
encode_flag c (Some v) = 1 ∷ c.encode v

-- its decoder; there is no other flag
abbrev pub read_flag : {V : Type 0} → Codec V → Bytes → Option (Option V × Bytes)
read_flag c [] = None
read_flag c (zero ∷ bs) = Some (None, bs)
read_flag c (suc zero ∷ bs) = read_as (λ v. Some v) (c.read bs)
read_flag c (suc (suc n) ∷ bs) = None

-- a cell that may be absent
abbrev pub flagged : {V : Type 0} → Codec V → Codec (Option V)
flagged c = record { encode = encode_flag c; read = read_flag c }

-- ---- prefix-compressed keys

-- bytes with their length, in one byte, before them
abbrev pub counted_short : Codec Bytes
counted_short = record { encode = λ bs. (number 1).encode (length bs) ++ bs; read = λ bs. read_on ((number 1).read bs) read_bytes }

-- the length of the longest common prefix of two keys
abbrev pub common : Bytes → Bytes → ℕ
common = common_prefix_len nat_eq

-- the length of the prefix that a key shares with the key before it, in one byte, and the rest of the key
abbrev pub shared_and_rest : Codec (ℕ × Bytes)
shared_and_rest = both (number 1) counted_short

-- a key from the key before it, the length of the shared prefix and the rest
abbrev pub rejoined : Bytes → ℕ × Bytes → Bytes
rejoined before p = take p.0 before ++ p.1

-- a key, given the key before it: its encoding uses the longest common prefix, and no shorter prefix is decoded
abbrev pub sharing : Bytes → Codec Bytes
sharing before = record {
  encode = λ k. shared_and_rest.encode (common before k, drop (common before k) k);
  read = λ bs. read_as (rejoined before) (read_where (λ p. common before (rejoined before p) == p.0) (shared_and_rest.read bs));
}

-- entries, each encoded after the key before it, and the first one after the given key
abbrev pub encode_in_turn : {V : Type 0} → (Bytes → Codec (Bytes × V)) → Bytes → Pairs V → Bytes
encode_in_turn entry before [] = []
encode_in_turn entry before (e ∷ es) = (entry before).encode e ++ encode_in_turn entry e.0 es

-- the decoder of n such entries
abbrev pub read_in_turn : {V : Type 0} → (Bytes → Codec (Bytes × V)) → Bytes → ℕ → Bytes → Option (Pairs V × Bytes)
read_in_turn entry before zero bs = Some ([], bs)
read_in_turn entry before (suc n) bs = read_on ((entry before).read bs) (λ e rest. read_as (λ es. e ∷ es) (read_in_turn entry e.0 n rest))
