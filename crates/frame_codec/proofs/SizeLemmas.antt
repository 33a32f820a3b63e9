-- The size of a frame in bytes.
use Rattle.std.proofs.Common.{◌≡◌, ℕ, ◌+◌, ◌≤◌, List, [], ◌∷◌, length, drop, flat_map, Option, Some, None, refl, arith, length-append}
use Rattle.std.specs.List.{sum_by}
use Rattle.std.proofs.lemmas.List.Sums.{sum_by-cons}
use Rattle.keys.specs.Cells.{Codec, counted, value_cell, pid_cell}
use Rattle.keys.specs.Sizes.{length_size, pid_size, frame_header_size, pair_header_size, child_header_size, change_header_size}
use Rattle.keys.proofs.CellLemmas.{length-counted}
use Rattle.frame_codec.specs.declared.format.KeyEncoding.{KeyEncoding}
use Rattle.frame_codec.specs.declared.format.KeyEncoding.TheVariants.{Whole, PrefixCompressed}
use Rattle.frame_codec.specs.Codecs.{both, encode_flag, flagged, common, sharing}
use Rattle.frame_codec.specs.Frame.{Content, Frame, encode_base, based, full, content_bytes, bytes_of}
use Rattle.frame_codec.specs.Frame.Content.{FullLeaf, DeltaLeaf, FullIndex, DeltaIndex, Free}
use Rattle.frame_codec.specs.Sizes.{where_present, rests, encoded, size_of}
use Rattle.frame_codec.proofs.BaseLemmas.{base-shorter}
use Rattle.frame_codec.proofs.ShareLemmas.{sharing-size}

each-size : {X : Type 0} (c : Codec X) (size : X → ℕ) → ((x : X) → length (c.encode x) ≡ size x) → (xs : List X) → length (flat_map c.encode xs) ≡ sum_by size xs
each-size c size h [] = refl
each-size c size h (x ∷ xs) =
    let one = h x in
    let rest = each-size c size h xs in
    let joined = length-append (c.encode x) (flat_map c.encode xs) in
    let sum = sum_by-cons size x xs in
    omega arith

-- the size of a base, by the stored part of each key
module _ {V : Type 0} (cell : Codec V) (size : List ℕ × V → ℕ) (is : (e : List ℕ × V) → length ((both counted cell).encode e) ≡ size e) where
  shared-size : (before : List ℕ) (es : List (List ℕ × V)) → length (encode_base PrefixCompressed cell before es) ≡ sum_by size (rests before es)
  shared-size before [] = refl
  shared-size before (e ∷ es) =
      let left : List ℕ × V = (drop (common before e.0) e.0, e.1) in
      let rest = shared-size e.0 es in
      let one = is left in
      let long = length-counted left.0 in
      let entry = length-append (counted.encode left.0) (cell.encode e.1) in
      let key = sharing-size before e.0 in
      let this = length-append ((sharing before).encode e.0) (cell.encode e.1) in
      let joined = length-append ((both (sharing before) cell).encode e) (encode_base PrefixCompressed cell e.0 es) in
      let sum = sum_by-cons size left (rests e.0 es) in
      omega arith

  base-size : (encoding : KeyEncoding) (low : List ℕ) (es : List (List ℕ × V)) → length (encode_base encoding cell low es) ≡ sum_by size (encoded encoding low es)
  base-size Whole low es = each-size (both counted cell) size is es
  base-size PrefixCompressed low es = shared-size low es

  full-size : (encoding : KeyEncoding) (low : List ℕ) (es : List (List ℕ × V)) → length ((full encoding cell).encode (low, es)) ≡ 4 + length low + sum_by size (encoded encoding low es)
  full-size encoding low es =
      let entries = base-size encoding low es in
      let key = length-counted low in
      let joined = length-append (counted.encode low) ((based encoding cell low).encode es) in
      omega arith

value-entry : (e : List ℕ × List ℕ) → length ((both counted value_cell).encode e) ≡ pair_header_size + length e.0 + length e.1
value-entry e = let joined = length-append (counted.encode e.0) (value_cell.encode e.1) in omega arith

pid-entry : (e : List ℕ × ℕ) → length ((both counted pid_cell).encode e) ≡ child_header_size + length e.0
pid-entry e = let joined = length-append (counted.encode e.0) (pid_cell.encode e.1) in omega arith

module _ {V : Type 0} (cell : Codec V) (size : V → ℕ) (is : (v : V) → length (cell.encode v) ≡ size v) where
  flag-size : (o : Option V) → length (encode_flag cell o) ≡ 1 + where_present size o
  flag-size None = refl
  flag-size (Some v) = let one = is v in omega arith

  change-size : (e : List ℕ × Option V) → length ((both counted (flagged cell)).encode e) ≡ change_header_size + length e.0 + where_present size e.1
  change-size e =
      let joined = length-append (counted.encode e.0) (encode_flag cell e.1) in
      let flag = flag-size e.1 in
      omega arith

content-size : (c : Content) → frame_header_size + length (content_bytes c) ≡ size_of c
content-size (FullLeaf encoding low base) =
    let all = full-size value_cell (λ e. pair_header_size + length e.0 + length e.1) value-entry encoding low base in
    omega arith
content-size (DeltaLeaf run) =
    let changes = each-size (both counted (flagged value_cell)) (λ e. change_header_size + length e.0 + where_present (λ v. length_size + length v) e.1) (change-size value_cell (λ v. length_size + length v) (λ v. omega arith)) run in
    omega arith
content-size (FullIndex encoding low base) =
    let all = full-size pid_cell (λ e. child_header_size + length e.0) pid-entry encoding low base in
    omega arith
content-size (DeltaIndex run) =
    let changes = each-size (both counted (flagged pid_cell)) (λ e. change_header_size + length e.0 + where_present (λ p. pid_size) e.1) (change-size pid_cell (λ p. pid_size) (λ v. refl)) run in
    omega arith
content-size Free = refl

pub frame-size : (f : Frame) → length (bytes_of f) ≡ size_of f.content
frame-size f = let content = content-size f.content in omega arith

-- a base whose keys are prefix-compressed takes no more than one whose keys are whole
pub leaf-shorter : (encoding : KeyEncoding) (low : List ℕ) (base : List (List ℕ × List ℕ)) → size_of (FullLeaf encoding low base) ≤ size_of (FullLeaf Whole low base)
leaf-shorter encoding low base =
    let all = base-size value_cell (λ e. pair_header_size + length e.0 + length e.1) value-entry encoding low base in
    let whole = base-size value_cell (λ e. pair_header_size + length e.0 + length e.1) value-entry Whole low base in
    let most = base-shorter value_cell encoding low base in
    omega arith

pub index-shorter : (encoding : KeyEncoding) (low : List ℕ) (base : List (List ℕ × ℕ)) → size_of (FullIndex encoding low base) ≤ size_of (FullIndex Whole low base)
index-shorter encoding low base =
    let all = base-size pid_cell (λ e. child_header_size + length e.0) pid-entry encoding low base in
    let whole = base-size pid_cell (λ e. child_header_size + length e.0) pid-entry Whole low base in
    let most = base-shorter pid_cell encoding low base in
    omega arith
