-- A composed codec decodes what it encodes, and encodes what it decodes, if its parts do.
use Rattle.std.proofs.Common.{◌≡◌, ℕ, zero, suc, ◌<◌, List, [], ◌∷◌, ◌++◌, length, flat_map, Option, Some, None, refl, sym, ap, ◌∙◌, append_assoc}
use Rattle.std.specs.List.{AllByRecursion}
use Rattle.keys.specs.Cells.{Codec, AreBytes, IsReadBack, ReadsEncodings, read_on, read_as, number}
use Rattle.keys.proofs.CellLemmas.{gave, same_reading, nothing_read, read_as-gave, goes_on, number-back, number-encoded}
use Rattle.frame_codec.specs.Codecs.{both, both_by, read_each, listed, encode_flag, flagged}

-- ---- encoded values are decoded

pub both_by-back : {X Y : Type 0} (c : Codec X) (d : X → Codec Y) (p : X × Y) → IsReadBack c p.0 → IsReadBack (d p.0) p.1 → IsReadBack (both_by c d) p
both_by-back c d p bc bd rest = rw (append_assoc (c.encode p.0) ((d p.0).encode p.1) rest, bc ((d p.0).encode p.1 ++ rest), bd rest) refl

pub both-back : {X Y : Type 0} (c : Codec X) (d : Codec Y) (p : X × Y) → IsReadBack c p.0 → IsReadBack d p.1 → IsReadBack (both c d) p
both-back c d p bc bd rest = both_by-back c (λ x. d) p bc bd rest

pub each-back : {X : Type 0} (c : Codec X) (xs : List X) → AllByRecursion (IsReadBack c) xs → (rest : List ℕ) → read_each c (length xs) (flat_map c.encode xs ++ rest) ≡ gave xs rest
each-back c [] back rest = refl
each-back c (x ∷ xs) back rest =
    rw (append_assoc (c.encode x) (flat_map c.encode xs) rest, back.0 (flat_map c.encode xs ++ rest), each-back c xs back.1 rest) refl

pub listed-back : {X : Type 0} (c : Codec X) (xs : List X) → length xs < 65536 → AllByRecursion (IsReadBack c) xs → IsReadBack (listed c) xs
listed-back c xs few back rest =
    ap (listed c).read (append_assoc ((number 2).encode (length xs)) (flat_map c.encode xs) rest)
    ∙ ap (λ o. read_on o (read_each c)) (number-back 2 (length xs) few (flat_map c.encode xs ++ rest))
    ∙ each-back c xs back rest

pub flagged-back : {V : Type 0} (c : Codec V) (v : V) → IsReadBack c v → IsReadBack (flagged c) (Some v)
flagged-back c v back rest = ap (read_as (λ w. Some w)) (back rest)

pub absent-back : {V : Type 0} (c : Codec V) → IsReadBack (flagged c) None
absent-back c rest = refl

-- ---- decoded values are encoded in the bytes

pub both_by-encoded : {X Y : Type 0} (c : Codec X) (d : X → Codec Y) → ReadsEncodings c → ((x : X) → ReadsEncodings (d x)) → ReadsEncodings (both_by c d)
both_by-encoded {X = X} {Y = Y} c d sc sd bs p rest bytes h =
    let next : X → List ℕ → Option ((X × Y) × List ℕ) = λ x following. read_as (λ (y : Y). (x, y)) ((d x).read following) in
    let on = goes_on c sc bs next p rest bytes h in
    let (y, read, is) = read_as-gave (λ (y : Y). (on.first, y)) ((d on.first).read on.following) p rest on.went in
    on.encoded
    ∙ ap (λ (cs : List ℕ). c.encode on.first ++ cs) (sd on.first on.following y rest on.bytes read)
    ∙ sym (append_assoc (c.encode on.first) ((d on.first).encode y) rest)
    ∙ ap (λ (q : X × Y). (both_by c d).encode q ++ rest) is

pub both-encoded : {X Y : Type 0} (c : Codec X) (d : Codec Y) → ReadsEncodings c → ReadsEncodings d → ReadsEncodings (both c d)
both-encoded c d sc sd = both_by-encoded c (λ x. d) sc (λ x. sd)

pub each-encoded : {X : Type 0} (c : Codec X) → ReadsEncodings c → (n : ℕ) (bs : List ℕ) (xs : List X) (rest : List ℕ) → AreBytes bs
    → read_each c n bs ≡ Some (xs, rest) → (length xs ≡ n) × (bs ≡ flat_map c.encode xs ++ rest)
each-encoded {X = X} c sc zero bs xs rest bytes h =
    let (none, same) = same_reading [] xs bs rest h in
    (ap (λ (ys : List X). length ys) (sym none), same ∙ ap (λ (ys : List X). flat_map c.encode ys ++ rest) none)
each-encoded {X = X} c sc (suc n) bs xs rest bytes h =
    let next : X → List ℕ → Option (List X × List ℕ) = λ x following. read_as (λ ys. x ∷ ys) (read_each c n following) in
    let on = goes_on c sc bs next xs rest bytes h in
    let (ys, read, is) = read_as-gave (λ ys. on.first ∷ ys) (read_each c n on.following) xs rest on.went in
    let (long, stands) = each-encoded c sc n on.following ys rest on.bytes read in (
      ap (λ (zs : List X). length zs) (sym is) ∙ ap suc long,
      on.encoded
          ∙ ap (λ (cs : List ℕ). c.encode on.first ++ cs) stands
          ∙ sym (append_assoc (c.encode on.first) (flat_map c.encode ys) rest)
          ∙ ap (λ (zs : List X). flat_map c.encode zs ++ rest) is,
    )

pub listed-encoded : {X : Type 0} (c : Codec X) → ReadsEncodings c → ReadsEncodings (listed c)
listed-encoded c sc bs xs rest bytes h =
    let on = goes_on (number 2) (number-encoded 2) bs (read_each c) xs rest bytes h in
    let (long, stands) = each-encoded c sc on.first on.following xs rest on.bytes on.went in
    on.encoded
    ∙ ap (λ (cs : List ℕ). (number 2).encode on.first ++ cs) stands
    ∙ ap (λ (n : ℕ). (number 2).encode n ++ (flat_map c.encode xs ++ rest)) (sym long)
    ∙ sym (append_assoc ((number 2).encode (length xs)) (flat_map c.encode xs) rest)

pub flagged-encoded : {V : Type 0} (c : Codec V) → ReadsEncodings c → ReadsEncodings (flagged c)
flagged-encoded c sc [] v rest bytes h = absurd (nothing_read _ h)
flagged-encoded {V = V} c sc (zero ∷ bs) v rest bytes h =
    let (none, same) = same_reading None v bs rest h in
    ap (λ (cs : List ℕ). 0 ∷ cs) same ∙ ap (λ (w : Option V). encode_flag c w ++ rest) none
flagged-encoded {V = V} c sc (suc zero ∷ bs) v rest bytes h =
    let (w, read, is) = read_as-gave (λ (w : V). Some w) (c.read bs) v rest h in
    ap (λ (cs : List ℕ). 1 ∷ cs) (sc bs w rest bytes.1 read) ∙ ap (λ (u : Option V). encode_flag c u ++ rest) is
flagged-encoded c sc (suc (suc n) ∷ bs) v rest bytes h = absurd (nothing_read _ h)
