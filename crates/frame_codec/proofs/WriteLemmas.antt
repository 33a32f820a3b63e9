-- Entries that are encoded one after the other, by place.
use Rattle.std.proofs.Common.{◌≡◌, ℕ, zero, suc, ◌+◌, ◌-◌, ◌<◌, ◌≤◌, Bool, true, ◌&&◌, List, [], ◌∷◌, ◌++◌, length, drop, flat_map, slice_get, Option, Some, Vec, refl, sym, ap, subst, ◌∙◌, arith, add-one, append_assoc, length-append}
use Rattle.std.proofs.lemmas.List.{append-nil, drop_all, length-drop}
use Rattle.std.proofs.Math.Nat.{mod-eq_of_lt}
use Rattle.std.specs.List.{list_all}
use Rattle.std.specs.Map.{keys_of, values_of}
use Rattle.keys.specs.Cells.{Codec, number, counted}
use Rattle.keys.specs.Sizes.{pid_size}
use Rattle.keys.proofs.CellLemmas.{length-counted}
use Rattle.delta_chain.proofs.Places.{drop_pair}
use Rattle.frame_codec.specs.Appended.{HasRoomFor, IsAppended, IsCount, IsShortCount, AreEncodable}
use Rattle.frame_codec.specs.declared.format.KeyEncoding.{KeyEncoding}
use Rattle.frame_codec.specs.declared.format.KeyEncoding.TheVariants.{Whole, PrefixCompressed}
use Rattle.frame_codec.specs.Codecs.{both, flagged, common, sharing}
use Rattle.frame_codec.specs.Frame.{encode_base, based, full, delta, header}
use Rattle.frame_codec.specs.Sized.{framed}
use Rattle.frame_codec.proofs.EachLemmas.{keyed}
use Rattle.frame_codec.proofs.ShareLemmas.{common-le}

-- ---- bytes after bytes

module _ {Z : Type 0} where
  pub appended-none : (out : Vec ℕ Z) → IsAppended out out []
  appended-none out = record { items = sym (append-nil out.items); len = omega arith; room = omega arith }

  pub appended-on : (old mid new : Vec ℕ Z) (xs ys : List ℕ) → IsAppended old mid xs → IsAppended mid new ys → IsAppended old new (xs ++ ys)
  appended-on old mid new xs ys a b =
      let joined = length-append xs ys in
      let first = a.len in
      let second = b.len in
      let room = a.room in
      let more = b.room in
      record {
        items = b.items ∙ ap (λ (zs : List ℕ). zs ++ ys) a.items ∙ append_assoc old.items xs ys;
        len = omega arith;
        room = omega arith;
      }

-- the rest is still to come; the part before it was appended to the old bytes
pub record IsPartOf {Z : Type 0} (whole left : List ℕ) (old now : Vec ℕ Z) : Type 0 where
  pub done : List ℕ
  pub appended : IsAppended old now done
  pub all : done ++ left ≡ whole

module _ {Z : Type 0} (whole : List ℕ) where
  pub part-none : (out : Vec ℕ Z) → IsPartOf whole whole out out
  part-none out = record { done = []; appended = appended-none out; all = refl }

  pub part-room : (left : List ℕ) (old now : Vec ℕ Z) → HasRoomFor old (length whole) → IsPartOf whole left old now → HasRoomFor now (length left)
  part-room left old now room part =
      let all : length (part.done ++ left) ≡ length whole = ap length part.all in
      let joined = length-append part.done left in
      let len = part.appended.len in
      let more = part.appended.room in
      omega arith

  pub part-next : (left this rest : List ℕ) (old now new : Vec ℕ Z) → left ≡ this ++ rest → IsPartOf whole left old now → IsAppended now new this → IsPartOf whole rest old new
  part-next left this rest old now new parts part more = record {
    done = part.done ++ this;
    appended = appended-on old now new part.done this part.appended more;
    all = append_assoc part.done this rest ∙ ap (λ (zs : List ℕ). part.done ++ zs) (sym parts) ∙ part.all;
  }

  pub part-done : (left : List ℕ) (old now : Vec ℕ Z) → left ≡ [] → IsPartOf whole left old now → IsAppended old now whole
  part-done left old now none part =
      let same : part.done ≡ whole = sym (append-nil part.done) ∙ ap (λ (zs : List ℕ). part.done ++ zs) (sym none) ∙ part.all in
      rw same at part.appended

-- ---- the entry at a place

module _ {X : Type 0} where
  pub encodable-at : (cell : Codec X) (es : List (List ℕ × X)) (at : ℕ) (k : List ℕ) (v : X) → AreEncodable cell es
      → slice_get (keys_of es) at ≡ Some k → slice_get (values_of es) at ≡ Some v → IsShortCount (length k) × IsCount (length (cell.encode v))
  encodable-at cell [] at k v h i j = absurd (cc)
  encodable-at cell (e ∷ es) zero k v h i j =
      let s : e.0 ≡ k = cc in
      let t : e.1 ≡ v = cc in
      rw (← s, ← t) h.0
  encodable-at cell (e ∷ es) (suc at) k v h i j = encodable-at cell es at k v h.1 i j

  pub tested-next : (test : List ℕ × X → Bool) (es : List (List ℕ × X)) (at : ℕ) (k : List ℕ) (v : X)
      → slice_get (keys_of es) at ≡ Some k → slice_get (values_of es) at ≡ Some v → test (k, v) ≡ true
      → list_all test (drop at es) ≡ list_all test es → list_all test (drop (at + 1) es) ≡ list_all test es
  tested-next test es at k v i j t h =
      let passed : list_all test (drop at es) ≡ (test (k, v) && list_all test (drop (suc at) es)) = ap (list_all test) (drop_pair es at k v i j) in
      rw add-one (sym (passed ∙ ap (λ (b : Bool). b && list_all test (drop (suc at) es)) t) ∙ h)

  pub tested-done : (test : List ℕ × X → Bool) (es : List (List ℕ × X)) (at : ℕ) → length es ≤ at
      → list_all test (drop at es) ≡ list_all test es → list_all test es ≡ true
  tested-done test es at l h = sym h ∙ ap (list_all test) (drop_all at es l)

base-following : {X : Type 0} (encoding : KeyEncoding) (cell : Codec X) (before k : List ℕ) (v : X) (es : List (List ℕ × X))
    → encode_base encoding cell before ((k, v) ∷ es) ≡ ((keyed encoding before).encode k ++ cell.encode v) ++ encode_base encoding cell k es
base-following Whole cell before k v es = refl
base-following PrefixCompressed cell before k v es = refl

base-at_end : {X : Type 0} (encoding : KeyEncoding) (cell : Codec X) (before : List ℕ) → encode_base encoding cell before [] ≡ []
base-at_end Whole cell before = refl
base-at_end PrefixCompressed cell before = refl

module _ {X : Type 0} (encoding : KeyEncoding) (cell : Codec X) (low : List ℕ) (es : List (List ℕ × X)) where
  -- the encoded entries from a place on, the first one after the key before it
  abbrev pub encoded_from : List ℕ → ℕ → List ℕ
  encoded_from before at = encode_base encoding cell before (drop at es)

  encoded-following : (before : List ℕ) (at : ℕ) (k : List ℕ) (v : X) → slice_get (keys_of es) at ≡ Some k → slice_get (values_of es) at ≡ Some v
      → encoded_from before at ≡ ((keyed encoding before).encode k ++ cell.encode v) ++ encoded_from k (at + 1)
  encoded-following before at k v i j = rw add-one (ap (encode_base encoding cell before) (drop_pair es at k v i j) ∙ base-following encoding cell before k v (drop (suc at) es))

  pub length-following : (before : List ℕ) (at : ℕ) (k : List ℕ) (v : X) → slice_get (keys_of es) at ≡ Some k → slice_get (values_of es) at ≡ Some v
      → length (encoded_from before at) ≡ length ((keyed encoding before).encode k) + length (cell.encode v) + length (encoded_from k (at + 1))
  length-following before at k v i j =
      let all : length (encoded_from before at) ≡ length (((keyed encoding before).encode k ++ cell.encode v) ++ encoded_from k (at + 1)) = ap length (encoded-following before at k v i j) in
      let outer = length-append ((keyed encoding before).encode k ++ cell.encode v) (encoded_from k (at + 1)) in
      let inner = length-append ((keyed encoding before).encode k) (cell.encode v) in
      omega arith

  pub encoded-at_end : (before : List ℕ) (at : ℕ) → length es ≤ at → encoded_from before at ≡ []
  encoded-at_end before at l = ap (encode_base encoding cell before) (drop_all at es l) ∙ base-at_end encoding cell before

  -- the entries before this place were appended to the old bytes, and the next entry is encoded after this key
  abbrev pub IsUpTo : {Z : Type 0} → List ℕ → ℕ → Vec ℕ Z → Vec ℕ Z → Type 0
  IsUpTo before at old now = IsPartOf (encoded_from low 0) (encoded_from before at) old now

  module _ {Z : Type 0} where
    pub upto-none : (out : Vec ℕ Z) → IsUpTo low 0 out out
    upto-none out = part-none (encoded_from low 0) out

    module _ (before : List ℕ) (at : ℕ) (old now : Vec ℕ Z) (up : IsUpTo before at old now) where
      pub upto-room : (k : List ℕ) (v : X) → HasRoomFor old (length (encoded_from low 0))
          → slice_get (keys_of es) at ≡ Some k → slice_get (values_of es) at ≡ Some v → HasRoomFor now (length ((keyed encoding before).encode k) + length (cell.encode v))
      upto-room k v room i j =
          let left = part-room (encoded_from low 0) (encoded_from before at) old now room up in
          let following = length-following before at k v i j in
          omega arith

      pub upto-next : (mid new : Vec ℕ Z) (k : List ℕ) (v : X) → slice_get (keys_of es) at ≡ Some k → slice_get (values_of es) at ≡ Some v
          → IsAppended now mid ((keyed encoding before).encode k) → IsAppended mid new (cell.encode v) → IsUpTo k (at + 1) old new
      upto-next mid new k v i j key value =
          part-next (encoded_from low 0) (encoded_from before at) ((keyed encoding before).encode k ++ cell.encode v) (encoded_from k (at + 1)) old now new (encoded-following before at k v i j) up
          (appended-on now mid new ((keyed encoding before).encode k) (cell.encode v) key value)

      pub upto-done : length es ≤ at → IsAppended old now (encode_base encoding cell low es)
      upto-done l = part-done (encoded_from low 0) (encoded_from before at) old now (encoded-at_end before at l) up

-- a byte is encoded as itself
byte_encoded : (n : ℕ) → n < 256 → (number 1).encode n ≡ n ∷ []
byte_encoded n h = ap (λ (m : ℕ). m ∷ []) (mod-eq_of_lt h)

-- what is shared, how long the rest is, and the rest
pub sharing-appended : {Z : Type 0} (before k : List ℕ) (old one two new : Vec ℕ Z) (shared count : ℕ) (rest : List ℕ) → length k < 256
    → shared ≡ common before k → rest ≡ drop shared k → count ≡ length rest
    → IsAppended old one (shared ∷ []) → IsAppended one two (count ∷ []) → IsAppended two new rest → IsAppended old new ((sharing before).encode k)
sharing-appended before k old one two new shared count rest few e r c first second third =
    let within = (common-le before k).1 in
    let left : length (drop (common before k) k) ≡ length k - common before k = length-drop (common before k) k in
    let ends : rest ≡ drop (common before k) k = r ∙ ap (λ (n : ℕ). drop n k) e in
    let long : count ≡ length (drop (common before k) k) = c ∙ ap length ends in
    let of_shared : shared ∷ [] ≡ (number 1).encode (common before k) = ap (λ (n : ℕ). n ∷ []) e ∙ sym (byte_encoded (common before k) (omega arith)) in
    let of_count : count ∷ [] ≡ (number 1).encode (length (drop (common before k) k)) = ap (λ (n : ℕ). n ∷ []) long ∙ sym (byte_encoded (length (drop (common before k) k)) (omega arith)) in
    let all = appended-on old one new (shared ∷ []) ((count ∷ []) ++ rest) first (appended-on one two new (count ∷ []) rest second third) in
    let n : ℕ = common before k in
    let left_of : List ℕ = drop n k in
    let same : shared ∷ count ∷ rest ≡ (sharing before).encode k =
    ap (λ (cs : List ℕ). cs ++ (count ∷ rest)) of_shared
    ∙ ap (λ (cs : List ℕ). (number 1).encode n ++ (cs ++ rest)) of_count
    ∙ ap (λ (cs : List ℕ). (number 1).encode n ++ ((number 1).encode (length left_of) ++ cs)) ends in
    subst (λ (cs : List ℕ). IsAppended old new cs) same all

-- ---- frames

-- the bytes after the pid were appended to those before it
pub framed-whole : {Z : Type 0} (old mid new : Vec ℕ Z) (kind pid n : ℕ) (bytes : List ℕ) → n ≡ length bytes
    → IsAppended old mid (header.encode ((kind, pid_size + n), pid)) → IsAppended mid new bytes → new.items ≡ old.items ++ framed kind pid bytes
framed-whole old mid new kind pid n bytes e head following =
    (appended-on old mid new (header.encode ((kind, pid_size + n), pid)) bytes head following).items
    ∙ ap (λ (m : ℕ). old.items ++ (header.encode ((kind, pid_size + m), pid) ++ bytes)) e

module _ {Z : Type 0} {V : Type 0} (cell : Codec V) (kind pid n m : ℕ) (old mid b new : Vec ℕ Z) where
  counts : {X : Type 0} (a : Vec ℕ Z) (es : List X) → m ≡ length es → IsAppended a b ((number 2).encode m) → IsAppended a b ((number 2).encode (length es))
  counts a es e h = subst (λ k. IsAppended a b ((number 2).encode k)) e h

  pub full-framed : (encoding : KeyEncoding) (a : Vec ℕ Z) (low : List ℕ) (base : List (List ℕ × V)) → n ≡ 4 + length low + length (encode_base encoding cell low base) → m ≡ length base
      → IsAppended old mid (header.encode ((kind, pid_size + n), pid)) → IsAppended mid a (counted.encode low) → IsAppended a b ((number 2).encode m)
      → IsAppended b new (encode_base encoding cell low base) → new.items ≡ old.items ++ framed kind pid ((full encoding cell).encode (low, base))
  full-framed encoding a low base e f head key count entries =
      let all : IsAppended a new ((based encoding cell low).encode base) =
      appended-on a b new ((number 2).encode (length base)) (encode_base encoding cell low base) (counts a base f count) entries in
      let following : IsAppended mid new ((full encoding cell).encode (low, base)) = appended-on mid a new (counted.encode low) ((based encoding cell low).encode base) key all in
      let joined = length-append (counted.encode low) ((based encoding cell low).encode base) in
      let long = length-counted low in
      framed-whole old mid new kind pid n ((full encoding cell).encode (low, base)) (omega arith) head following

  pub delta-framed : (run : List (List ℕ × Option V)) → n ≡ 2 + length (flat_map (both counted (flagged cell)).encode run) → m ≡ length run
      → IsAppended old mid (header.encode ((kind, pid_size + n), pid)) → IsAppended mid b ((number 2).encode m)
      → IsAppended b new (flat_map (both counted (flagged cell)).encode run) → new.items ≡ old.items ++ framed kind pid ((delta cell).encode run)
  delta-framed run e f head count changes =
      let following : IsAppended mid new ((delta cell).encode run) =
      appended-on mid b new ((number 2).encode (length run)) (flat_map (both counted (flagged cell)).encode run) (counts mid run f count) changes in
      framed-whole old mid new kind pid n ((delta cell).encode run) (omega arith) head following
