-- A value that is decoded from bytes is also decoded from longer bytes: a decoder reads no byte after the value. And nothing is decoded from bytes
-- that begin with 0.
use Rattle.std.proofs.Common.{◌≡◌, ℕ, zero, suc, ◌+◌, ◌*◌, ◌^◌, ◌≤◌, Bool, true, false, ◌==◌, nat_le, if◌then◌else◌, List, [], ◌∷◌, ◌++◌, length, take, drop, Option, Some, None, refl, ap, ◌∙◌, arith, length-append, le-leb, leb-true}
use Rattle.std.proofs.lemmas.List.{take-append-le, drop-append-le}
use Rattle.keys.specs.Cells.{Codec, read_on, read_as, read_where, read_number, number, read_bytes, counted, value_cell, pid_cell}
use Rattle.frame_codec.specs.declared.format.Format.{Format}
use Rattle.frame_codec.specs.declared.format.KeyEncoding.{KeyEncoding}
use Rattle.frame_codec.specs.declared.format.KeyEncoding.TheVariants.{Whole, PrefixCompressed}
use Rattle.keys.proofs.CellLemmas.{gave, same_reading, nothing_read}
use Rattle.frame_codec.specs.Codecs.{both, both_by, read_each, listed, flagged, counted_short, shared_and_rest, common, rejoined, sharing, read_in_turn}
use Rattle.frame_codec.specs.Frame.{read_base, based, full, delta, content_bytes, header, is_frame}
use Rattle.frame_codec.specs.Frame.Content.{FullLeaf, DeltaLeaf, FullIndex, DeltaIndex, Free}
use Rattle.frame_codec.specs.Reading.{read_content, read_after, read_any, read_frame}

-- a reader that reads the same where more bytes follow
abbrev pub IsLocal : {X : Type 0} → (List ℕ → Option (X × List ℕ)) → Type 0
IsLocal {X = X} read = (bs : List ℕ) (x : X) (rest more : List ℕ) → read bs ≡ gave x rest → read (bs ++ more) ≡ gave x (rest ++ more)

-- ---- steps of a reader

on-local : {X Y : Type 0} (read : List ℕ → Option (X × List ℕ)) (next : X → List ℕ → Option (Y × List ℕ)) → IsLocal read → ((x : X) → IsLocal (next x)) → IsLocal (λ bs. read_on (read bs) next)
on-local {X = X} {Y = Y} read next local then_local bs y rest more = of (read bs) refl
  where
    of : (o : Option (X × List ℕ)) → read bs ≡ o → read_on o next ≡ gave y rest → read_on (read (bs ++ more)) next ≡ gave y (rest ++ more)
    of None is h = absurd (nothing_read _ h)
    of (Some p) is h =
        ap (λ (o : Option (X × List ℕ)). read_on o next) (local bs p.0 p.1 more is) ∙ then_local p.0 p.1 y rest more h

done-local : {X : Type 0} (x : X) → IsLocal (λ bs. gave x bs)
done-local {X = X} x bs y rest more h = let e = same_reading x y bs rest h in ap (λ (z : X). gave z (bs ++ more)) e.0 ∙ ap (λ (u : List ℕ). gave y (u ++ more)) e.1

none-local : {X : Type 0} → IsLocal {X = X} (λ bs. None)
none-local bs y rest more h = absurd (nothing_read _ h)

if-local : {X : Type 0} (b : Bool) (this other : List ℕ → Option (X × List ℕ)) → IsLocal this → IsLocal other → IsLocal (λ bs. if b then this bs else other bs)
if-local true this other t o = t
if-local false this other t o = o

as-local : {X Y : Type 0} (f : X → Y) (read : List ℕ → Option (X × List ℕ)) → IsLocal read → IsLocal (λ bs. read_as f (read bs))
as-local f read local = on-local read (λ x rest. gave (f x) rest) local (λ x. done-local (f x))

where-local : {X : Type 0} (test : X → Bool) (read : List ℕ → Option (X × List ℕ)) → IsLocal read → IsLocal (λ bs. read_where test (read bs))
where-local test read local =
    on-local read (λ x rest. if test x then gave x rest else None) local (λ x. if-local (test x) (λ rest. gave x rest) (λ rest. None) (done-local x) none-local)

-- ---- codecs

number-local : (w : ℕ) → IsLocal (read_number w)
number-local zero bs n rest more h = done-local 0 bs n rest more h
number-local (suc w) [] n rest more h = absurd (nothing_read _ h)
number-local (suc w) (b ∷ bs) n rest more h = as-local (λ n. b * 256 ^ w + n) (read_number w) (number-local w) bs n rest more h

both_by-local : {X Y : Type 0} (c : Codec X) (d : X → Codec Y) → IsLocal c.read → ((x : X) → IsLocal (d x).read) → IsLocal (both_by c d).read
both_by-local c d lc ld = on-local c.read (λ x rest. read_as (λ y. (x, y)) ((d x).read rest)) lc (λ x. as-local (λ y. (x, y)) (d x).read (ld x))

both-local : {X Y : Type 0} (c : Codec X) (d : Codec Y) → IsLocal c.read → IsLocal d.read → IsLocal (both c d).read
both-local c d lc ld = both_by-local c (λ x. d) lc (λ x. ld)

each-local : {X : Type 0} (c : Codec X) → IsLocal c.read → (n : ℕ) → IsLocal (read_each c n)
each-local c lc zero = done-local []
each-local c lc (suc n) = on-local c.read (λ x rest. read_as (λ xs. x ∷ xs) (read_each c n rest)) lc (λ x. as-local (λ xs. x ∷ xs) (read_each c n) (each-local c lc n))

listed-local : {X : Type 0} (c : Codec X) → IsLocal c.read → IsLocal (listed c).read
listed-local c lc = on-local (number 2).read (read_each c) (number-local 2) (each-local c lc)

bytes-local : (n : ℕ) → IsLocal (read_bytes n)
bytes-local n bs xs rest more = of (nat_le n (length bs)) refl
  where
    of : (b : Bool) → nat_le n (length bs) ≡ b → (if b then gave (take n bs) (drop n bs) else None) ≡ gave xs rest → read_bytes n (bs ++ more) ≡ gave xs (rest ++ more)
    of true fits h =
        let few : n ≤ length bs = leb-true n (length bs) fits in
        let long = length-append bs more in
        let still : nat_le n (length (bs ++ more)) ≡ true = le-leb _ _ (omega arith) in
        rw (still, take-append-le n bs more few, drop-append-le n bs more few) (done-local (take n bs) (drop n bs) xs rest more h)
    of false fits h = absurd (nothing_read _ h)

counted-local : IsLocal counted.read
counted-local = on-local (number 2).read read_bytes (number-local 2) bytes-local

flagged-local : {V : Type 0} (c : Codec V) → IsLocal c.read → IsLocal (flagged c).read
flagged-local c lc [] v rest more h = absurd (nothing_read _ h)
flagged-local c lc (zero ∷ bs) v rest more h = done-local None bs v rest more h
flagged-local c lc (suc zero ∷ bs) v rest more h = as-local (λ v. Some v) c.read lc bs v rest more h
flagged-local c lc (suc (suc n) ∷ bs) v rest more h = absurd (nothing_read _ h)

-- ---- prefix-compressed keys

counted_short-local : IsLocal counted_short.read
counted_short-local = on-local (number 1).read read_bytes (number-local 1) bytes-local

sharing-local : (before : List ℕ) → IsLocal (sharing before).read
sharing-local before =
    as-local (rejoined before) (λ bs. read_where (λ p. common before (rejoined before p) == p.0) (shared_and_rest.read bs))
    (where-local (λ p. common before (rejoined before p) == p.0) shared_and_rest.read (both-local (number 1) counted_short (number-local 1) counted_short-local))

turn-local : {V : Type 0} (entry : List ℕ → Codec (List ℕ × V)) → ((before : List ℕ) → IsLocal (entry before).read) → (n : ℕ) (before : List ℕ) → IsLocal (read_in_turn entry before n)
turn-local entry le zero before = done-local []
turn-local entry le (suc n) before =
    on-local (entry before).read (λ e rest. read_as (λ es. e ∷ es) (read_in_turn entry e.0 n rest)) (le before)
    (λ e. as-local (λ es. e ∷ es) (read_in_turn entry e.0 n) (turn-local entry le n e.0))

-- ---- frames

base-local : {V : Type 0} (encoding : KeyEncoding) (cell : Codec V) (low : List ℕ) → IsLocal cell.read → (n : ℕ) → IsLocal (read_base encoding cell low n)
base-local Whole cell low lc = each-local (both counted cell) (both-local counted cell counted-local lc)
base-local PrefixCompressed cell low lc = λ n. turn-local (λ before. both (sharing before) cell) (λ before. both-local (sharing before) cell (sharing-local before) lc) n low

full-local : {V : Type 0} (encoding : KeyEncoding) (cell : Codec V) → IsLocal cell.read → IsLocal (full encoding cell).read
full-local encoding cell lc =
    both_by-local counted (based encoding cell) counted-local (λ low. on-local (number 2).read (read_base encoding cell low) (number-local 2) (base-local encoding cell low lc))

delta-local : {V : Type 0} (cell : Codec V) → IsLocal cell.read → IsLocal (delta cell).read
delta-local cell lc = listed-local (both counted (flagged cell)) (both-local counted (flagged cell) counted-local (flagged-local cell lc))

content-local : (kind : ℕ) → IsLocal (read_content kind)
content-local kind =
    if-local (kind == 1) _ _ (as-local (λ p. FullLeaf Whole p.0 p.1) (full Whole value_cell).read (full-local Whole value_cell counted-local))
    (if-local (kind == 2) _ _ (as-local (λ run. DeltaLeaf run) (delta value_cell).read (delta-local value_cell counted-local))
    (if-local (kind == 3) _ _ (as-local (λ p. FullIndex Whole p.0 p.1) (full Whole pid_cell).read (full-local Whole pid_cell (number-local 8)))
    (if-local (kind == 4) _ _ (as-local (λ run. DeltaIndex run) (delta pid_cell).read (delta-local pid_cell (number-local 8)))
    (if-local (kind == 5) _ _ (done-local Free)
    (if-local (kind == 6) _ _ (as-local (λ p. FullLeaf PrefixCompressed p.0 p.1) (full PrefixCompressed value_cell).read (full-local PrefixCompressed value_cell counted-local))
    (if-local (kind == 7) _ _ (as-local (λ p. FullIndex PrefixCompressed p.0 p.1) (full PrefixCompressed pid_cell).read (full-local PrefixCompressed pid_cell (number-local 8))) none-local))))))

header-local : IsLocal header.read
header-local = both-local (both (number 1) (number 4)) pid_cell (both-local (number 1) (number 4) (number-local 1) (number-local 4)) (number-local 8)

following-local : (h : (ℕ × ℕ) × ℕ) → IsLocal (read_after h)
following-local h =
    as-local (λ c. record { pid = h.1; content = c }) (λ bs. read_where (λ c. h.0.1 == 8 + length (content_bytes c)) (read_content h.0.0 bs))
    (where-local (λ c. h.0.1 == 8 + length (content_bytes c)) (read_content h.0.0) (content-local h.0.0))

pub frame-longer : (g : Format) → IsLocal (read_frame g)
frame-longer g = where-local (is_frame g) read_any (on-local header.read read_after header-local following-local)

-- ---- no frame begins with a byte 0

pub nothing_at_all : (g : Format) → read_frame g [] ≡ None
nothing_at_all g = refl

zero_and_length : (g : Format) (n : ℕ) (o : Option (ℕ × List ℕ)) → read_where (is_frame g) (read_on (read_as (λ pid. ((0, n), pid)) o) read_after) ≡ None
zero_and_length g n None = refl
zero_and_length g n (Some p) = refl

zero_kind : (g : Format) (o : Option (ℕ × List ℕ)) →
    read_where (is_frame g) (read_on (read_on (read_as (λ n. (0, n)) o) (λ h rest. read_as (λ pid. (h, pid)) (read_number 8 rest))) read_after) ≡ None
zero_kind g None = refl
zero_kind g (Some p) = zero_and_length g p.0 (read_number 8 p.1)

pub nothing_at_zero : (g : Format) (bs : List ℕ) → read_frame g (0 ∷ bs) ≡ None
nothing_at_zero g bs = zero_kind g (read_number 4 bs)
