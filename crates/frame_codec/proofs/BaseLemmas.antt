-- A base is decoded from its encoding, and a decoded base is encoded in the bytes, for both key encodings.
use Rattle.std.proofs.Common.{◌≡◌, ℕ, zero, suc, ◌<◌, ◌≤◌, List, [], ◌∷◌, ◌++◌, length, take, Option, Some, refl, sym, ap, ◌∙◌, arith, append_assoc, length-append}
use Rattle.std.specs.List.{AllByRecursion}
use Rattle.std.proofs.lemmas.List.{length-drop}
use Rattle.keys.specs.Cells.{Codec, AreBytes, IsReadBack, ReadsEncodings, read_on, read_as, number, counted}
use Rattle.keys.proofs.CellLemmas.{gave, same_reading, read_as-gave, goes_on, number-back, number-encoded, counted-back, counted-encoded, length-counted}
use Rattle.frame_codec.specs.declared.format.KeyEncoding.{KeyEncoding}
use Rattle.frame_codec.specs.declared.format.KeyEncoding.TheVariants.{Whole, PrefixCompressed}
use Rattle.frame_codec.specs.Codecs.{both, common, sharing, encode_in_turn, read_in_turn}
use Rattle.frame_codec.specs.Frame.{encode_base, read_base, based, full}
use Rattle.frame_codec.proofs.CodecLemmas.{both-back, both-encoded, both_by-encoded, each-back, each-encoded}
use Rattle.frame_codec.proofs.ShareLemmas.{sharing-back, sharing-encoded, sharing-size, sharing-taken}

-- ---- entries in turn

turn-back : {V : Type 0} (entry : List ℕ → Codec (List ℕ × V)) (es : List (List ℕ × V)) → AllByRecursion (λ e. (before : List ℕ) → IsReadBack (entry before) e) es
    → (before rest : List ℕ) → read_in_turn entry before (length es) (encode_in_turn entry before es ++ rest) ≡ gave es rest
turn-back entry [] back before rest = refl
turn-back entry (e ∷ es) back before rest =
    rw (append_assoc ((entry before).encode e) (encode_in_turn entry e.0 es) rest, back.0 before (encode_in_turn entry e.0 es ++ rest), turn-back entry es back.1 e.0 rest) refl

turn-encoded : {V : Type 0} (entry : List ℕ → Codec (List ℕ × V)) → ((before : List ℕ) → ReadsEncodings (entry before))
    → (n : ℕ) (before bs : List ℕ) (es : List (List ℕ × V)) (rest : List ℕ) → AreBytes bs
    → read_in_turn entry before n bs ≡ Some (es, rest) → (length es ≡ n) × (bs ≡ encode_in_turn entry before es ++ rest)
turn-encoded {V = V} entry se zero before bs es rest bytes h =
    let (none, same) = same_reading [] es bs rest h in
    (ap (λ (ds : List (List ℕ × V)). length ds) (sym none), same ∙ ap (λ (ds : List (List ℕ × V)). encode_in_turn entry before ds ++ rest) none)
turn-encoded {V = V} entry se (suc n) before bs es rest bytes h =
    let next : List ℕ × V → List ℕ → Option (List (List ℕ × V) × List ℕ) = λ e following. read_as (λ ds. e ∷ ds) (read_in_turn entry e.0 n following) in
    let on = goes_on (entry before) (se before) bs next es rest bytes h in
    let (ds, read, is) = read_as-gave (λ ds. on.first ∷ ds) (read_in_turn entry on.first.0 n on.following) es rest on.went in
    let (long, stands) = turn-encoded entry se n on.first.0 on.following ds rest on.bytes read in (
      ap (λ (cs : List (List ℕ × V)). length cs) (sym is) ∙ ap suc long,
      on.encoded
          ∙ ap (λ (cs : List ℕ). (entry before).encode on.first ++ cs) stands
          ∙ sym (append_assoc ((entry before).encode on.first) (encode_in_turn entry on.first.0 ds) rest)
          ∙ ap (λ (cs : List (List ℕ × V)). encode_in_turn entry before cs ++ rest) is,
    )

-- ---- a base

-- the entries can be written, and their cells are read back
abbrev pub AreReadBack : {V : Type 0} → Codec V → List (List ℕ × V) → Type 0
AreReadBack cell es = AllByRecursion (λ e. (length e.0 < 256) × IsReadBack cell e.1) es

module _ {V : Type 0} (cell : Codec V) where
  whole-back : (es : List (List ℕ × V)) → AreReadBack cell es → AllByRecursion (IsReadBack (both counted cell)) es
  whole-back [] h = tt
  whole-back (e ∷ es) h =
      let short = h.0.0 in (both-back counted cell e (counted-back e.0 (omega arith)) h.0.1, whole-back es h.1)

  shared-back : (es : List (List ℕ × V)) → AreReadBack cell es → AllByRecursion (λ e. (before : List ℕ) → IsReadBack (both (sharing before) cell) e) es
  shared-back [] h = tt
  shared-back (e ∷ es) h = (λ before. both-back (sharing before) cell e (sharing-back before e.0 h.0.0) h.0.1, shared-back es h.1)

  entries-back : (encoding : KeyEncoding) (low : List ℕ) (es : List (List ℕ × V)) → AreReadBack cell es → (rest : List ℕ)
      → read_base encoding cell low (length es) (encode_base encoding cell low es ++ rest) ≡ gave es rest
  entries-back Whole low es h rest = each-back (both counted cell) es (whole-back es h) rest
  entries-back PrefixCompressed low es h rest = turn-back (λ before. both (sharing before) cell) es (shared-back es h) low rest

  pub base-back : (encoding : KeyEncoding) (low : List ℕ) (es : List (List ℕ × V)) → length es < 65536 → AreReadBack cell es → IsReadBack (based encoding cell low) es
  base-back encoding low es few h rest =
      ap (based encoding cell low).read (append_assoc ((number 2).encode (length es)) (encode_base encoding cell low es) rest)
      ∙ ap (λ o. read_on o (read_base encoding cell low)) (number-back 2 (length es) few (encode_base encoding cell low es ++ rest))
      ∙ entries-back encoding low es h rest

  entries-encoded : (encoding : KeyEncoding) (low : List ℕ) → ReadsEncodings cell → (n : ℕ) (bs : List ℕ) (es : List (List ℕ × V)) (rest : List ℕ) → AreBytes bs
      → read_base encoding cell low n bs ≡ Some (es, rest) → (length es ≡ n) × (bs ≡ encode_base encoding cell low es ++ rest)
  entries-encoded Whole low sc = each-encoded (both counted cell) (both-encoded counted cell counted-encoded sc)
  entries-encoded PrefixCompressed low sc = λ n. turn-encoded (λ before. both (sharing before) cell) (λ before. both-encoded (sharing before) cell (sharing-encoded before) sc) n low

  pub base-encoded : (encoding : KeyEncoding) (low : List ℕ) → ReadsEncodings cell → ReadsEncodings (based encoding cell low)
  base-encoded encoding low sc bs es rest bytes h =
      let on = goes_on (number 2) (number-encoded 2) bs (read_base encoding cell low) es rest bytes h in
      let (long, stands) = entries-encoded encoding low sc on.first on.following es rest on.bytes on.went in
      on.encoded
      ∙ ap (λ (cs : List ℕ). (number 2).encode on.first ++ cs) stands
      ∙ ap (λ (n : ℕ). (number 2).encode n ++ (encode_base encoding cell low es ++ rest)) (sym long)
      ∙ sym (append_assoc ((number 2).encode (length es)) (encode_base encoding cell low es) rest)

  pub full-encoded : (encoding : KeyEncoding) → ReadsEncodings cell → ReadsEncodings (full encoding cell)
  full-encoded encoding sc = both_by-encoded counted (based encoding cell) counted-encoded (λ low. base-encoded encoding low sc)

  -- ---- how long it is

  shared_shorter : (low : List ℕ) (es : List (List ℕ × V)) → length (encode_base PrefixCompressed cell low es) ≤ length (encode_base Whole cell low es)
  shared_shorter low [] = omega arith
  shared_shorter low (e ∷ es) =
      let rest = shared_shorter e.0 es in
      let size = sharing-size low e.0 in
      let left = length-drop (common low e.0) e.0 in
      let counts = length-counted e.0 in
      let this = length-append ((sharing low).encode e.0) (cell.encode e.1) in
      let other = length-append (counted.encode e.0) (cell.encode e.1) in
      let those = length-append ((both (sharing low) cell).encode e) (encode_base PrefixCompressed cell e.0 es) in
      let others = length-append ((both counted cell).encode e) (encode_base Whole cell e.0 es) in
      omega arith

  -- prefix-compressed keys take no more than whole ones
  pub base-shorter : (encoding : KeyEncoding) (low : List ℕ) (es : List (List ℕ × V)) → length (encode_base encoding cell low es) ≤ length (encode_base Whole cell low es)
  base-shorter Whole low es = omega arith
  base-shorter PrefixCompressed low es = shared_shorter low es

  -- ---- of the low key only the first bytes matter

  pub base-taken : (n : ℕ) (low : List ℕ) (count : ℕ) (bs : List ℕ) → 256 ≤ n → AreBytes bs → read_base PrefixCompressed cell (take n low) count bs ≡ read_base PrefixCompressed cell low count bs
  base-taken n low zero bs most bytes = refl
  base-taken n low (suc count) bs most bytes =
      ap (λ (o : Option (List ℕ × List ℕ)). read_on (read_on o (λ k rest. read_as (λ (v : V). (k, v)) (cell.read rest)))
      (λ (e : List ℕ × V) rest. read_as (λ es. e ∷ es) (read_base PrefixCompressed cell e.0 count rest)))
      (sharing-taken n low bs most bytes)
