-- Lemmas on output through a buffer.
use Rattle.std.proofs.Common.{◌≡◌, ◌<◌, ◌≤◌, ◌+◌, ◌-◌, ℕ, zero, suc, length, take, drop, get_or, arith, inl, inr, List, [], ◌∷◌, ◌++◌, Option, Result, Ok, Err, refl, sym, ap, ◌∙◌, subst, append_assoc, append-nil}
use Rattle.std.specs.Prelude.{codes, OnOk, OnErr, IsOkUnless}
use Rattle.std.specs.Fmt.{decimal}
use Rattle.std.specs.List.{flat_map}
use Rattle.std.specs.Io.KnownBytes.{Appends}
use Rattle.std.proofs.KnownBytes.{Appends-nil, Appends-trans}
use Rattle.std.proofs.Math.Nat.{min-le_left}
use Rattle.std.proofs.lemmas.List.{drop_more, length-take, take_all}
use Rattle.keys.specs.Lists.{flat}
use Rattle.bwsh.specs.declared.output.Buffer.{Buffer}
use Rattle.bwsh.specs.declared.session.SessionError.{SessionError}
use Rattle.bwsh.specs.declared.session.SessionError.TheVariants.{Device}
use Rattle.bwsh.specs.Output.{Adds, BeginsWith, IsBegun, Puts, Writes}
use Rattle.bwsh.specs.Shown.{shown_row, shown_rows}
use Rattle.bwsh.proofs.Prints.{flat-append, front-longer, front-more}

-- ---- bytes that are added to a text, a prefix of which may have been written

pub Adds-none : (a : Option (List ℕ)) (held : List ℕ) → Adds a held a held []
Adds-none a held = ([], Appends-nil a, append-nil held)

pub IsBegun-longer : (a b : Option (List ℕ)) (text more : List ℕ) → IsBegun a b text → IsBegun a b (text ++ more)
IsBegun-longer a b text more (front, begins, appended) = (front, front-longer text more front begins, appended)

module _ (a b : Option (List ℕ)) (held mid xs : List ℕ) (first : Adds a held b mid xs) where
  -- the old contents followed by both texts are the written bytes followed by the rest
  moved : (ys : List ℕ) → held ++ (xs ++ ys) ≡ first.0 ++ (mid ++ ys)
  moved ys = sym (append_assoc held xs ys) ∙ ap (λ (l : List ℕ). l ++ ys) first.2 ∙ append_assoc first.0 mid ys

  pub Adds-then : (c : Option (List ℕ)) (left ys : List ℕ) → Adds b mid c left ys → Adds a held c left (xs ++ ys)
  Adds-then c left ys (front, appended, is) = (
    first.0 ++ front,
    Appends-trans a b c first.0 front first.1 appended,
    moved ys ∙ ap (λ (l : List ℕ). first.0 ++ l) is ∙ sym (append_assoc first.0 front left),
  )

  pub IsBegun-then : (c : Option (List ℕ)) (ys : List ℕ) → IsBegun b c (mid ++ ys) → IsBegun a c (held ++ (xs ++ ys))
  IsBegun-then c ys (front, begins, appended) = (
    first.0 ++ front,
    subst (λ (l : List ℕ). BeginsWith l (first.0 ++ front)) (sym (moved ys)) (front-more first.0 (mid ++ ys) front begins),
    Appends-trans a b c first.0 front first.1 appended,
  )

-- ---- a loop that adds

-- these are the remaining bytes of all
pub record AreAdded (a : Option (List ℕ)) (held : List ℕ) (b : Option (List ℕ)) (mid whole rest : List ℕ) : Type 0 where
  pub done : List ℕ
  pub added : Adds a held b mid done
  pub all : done ++ rest ≡ whole

pub added-first : (a : Option (List ℕ)) (held whole : List ℕ) → AreAdded a held a held whole whole
added-first a held whole = record { done = []; added = Adds-none a held; all = refl }

module _ (a b : Option (List ℕ)) (held mid whole rest : List ℕ) (so_far : AreAdded a held b mid whole rest) where
  pub added-last : rest ≡ [] → Adds a held b mid whole
  added-last none = subst (Adds a held b mid) (sym (append-nil so_far.done) ∙ ap (λ (l : List ℕ). so_far.done ++ l) (sym none) ∙ so_far.all) so_far.added

  module _ (one last : List ℕ) (is : rest ≡ one ++ last) (c : Option (List ℕ)) where
    split : so_far.done ++ (one ++ last) ≡ whole
    split = ap (λ (l : List ℕ). so_far.done ++ l) (sym is) ∙ so_far.all

    pub added-next : (left : List ℕ) → Adds b mid c left one → AreAdded a held c left whole last
    added-next left more = record {
      done = so_far.done ++ one;
      added = Adds-then a b held mid so_far.done so_far.added c left one more;
      all = append_assoc so_far.done one last ∙ split;
    }

    pub added-cut : IsBegun b c (mid ++ one) → IsBegun a c (held ++ whole)
    added-cut begun =
        subst (λ (l : List ℕ). IsBegun a c (held ++ l)) split
        (IsBegun-then a b held mid so_far.done so_far.added c (one ++ last)
        (subst (IsBegun b c) (append_assoc mid one last) (IsBegun-longer b c (mid ++ one) last begun)))

-- the bytes of the elements from this place on
pub bytes_left : {X : Type 0} (f : X → List ℕ) (xs : List X) (i : ℕ) (x : X) → i < length xs → x ≡ get_or xs i x → flat_map f (drop i xs) ≡ f x ++ flat_map f (drop (i + 1) xs)
bytes_left f xs i x h is = ap (flat_map f) (drop_more xs i x h ∙ ap (λ (y : _). y ∷ drop (i + 1) xs) (sym is))

-- ---- a buffer

module _ {O : Type 0} (contents : O → Option (List ℕ)) where
  -- two texts are added in sequence
  pub Puts-then : (old : Buffer) (out : O) (mid : Buffer) (between : O) (now : Buffer) (last : O) (xs ys : List ℕ) (done : Unit {0}) (r : Result (Unit {0}) SessionError)
      → Puts contents old out mid between xs (Ok done) → Puts contents mid between now last ys r → Puts contents old out now last (xs ++ ys) r
  Puts-then old out mid between now last xs ys done (Ok x) p q =
      Adds-then (contents out) (contents between) old.text.items mid.text.items xs p (contents last) now.text.items ys q
  Puts-then old out mid between now last xs ys done (Err e) p (e_is, q) =
      (e_is, IsBegun-then (contents out) (contents between) old.text.items mid.text.items xs p (contents last) ys q)

  -- the output failed while the first was added
  pub Puts-cut : (old : Buffer) (out : O) (now : Buffer) (last : O) (xs ys : List ℕ) (early : SessionError)
      → Puts contents old out now last xs (Err early) → Puts contents old out now last (xs ++ ys) (Err early)
  Puts-cut old out now last xs ys early (e_is, q) =
      (e_is, subst (IsBegun (contents out) (contents last)) (append_assoc old.text.items xs ys) (IsBegun-longer (contents out) (contents last) (old.text.items ++ xs) ys q))

  -- whatever its end was
  pub Puts-early : (old : Buffer) (out : O) (now : Buffer) (last : O) (xs ys : List ℕ) (early : SessionError) (r : Result (Unit {0}) SessionError)
      → (y : SessionError) × (r ≡ Err y) × (y ≡ early) → Puts contents old out now last xs (Err early) → Puts contents old out now last (xs ++ ys) r
  Puts-early old out now last xs ys early r (y, is, same) p =
      subst (λ (x : Result (Unit {0}) SessionError). Puts contents old out now last (xs ++ ys) x) (sym (is ∙ ap (λ (x : SessionError). Err x) same)) (Puts-cut old out now last xs ys early p)

  -- it began with the same text
  pub Puts-from : (first old : Buffer) (out : O) (now : Buffer) (last : O) (xs : List ℕ) (r : Result (Unit {0}) SessionError) → old.text.items ≡ first.text.items
      → Puts contents old out now last xs r → Puts contents first out now last xs r
  Puts-from first old out now last xs (Ok x) same (front, appended, is) = (front, appended, ap (λ (l : List ℕ). l ++ xs) (sym same) ∙ is)
  Puts-from first old out now last xs (Err e) same (e_is, q) = (e_is, subst (IsBegun (contents out) (contents last)) (ap (λ (l : List ℕ). l ++ xs) same) q)

  -- bytes that are written after an empty text
  pub Puts-written : (old : Buffer) (out last : O) (xs : List ℕ) (r : Result (Unit {0}) SessionError) → old.text.items ≡ []
      → OnOk r (Appends (contents out) (contents last) xs) → OnErr r (IsBegun (contents out) (contents last) xs) → IsOkUnless r Device → Puts contents old out old last xs r
  Puts-written old out last xs (Ok x) none a b d =
      (xs, a, ap (λ (l : List ℕ). l ++ xs) none ∙ sym (append-nil xs) ∙ ap (λ (l : List ℕ). xs ++ l) (sym none))
  Puts-written old out last xs (Err e) none a b d = (d, subst (IsBegun (contents out) (contents last)) (ap (λ (l : List ℕ). l ++ xs) (sym none)) b)

  -- a loop that adds ended early
  pub Puts-stopped : (first : Buffer) (before : O) (old : Buffer) (out : O) (now : Buffer) (last : O) (whole rest one more : List ℕ) (early : SessionError) (r : Result (Unit {0}) SessionError)
      → AreAdded (contents before) first.text.items (contents out) old.text.items whole rest → rest ≡ one ++ more → (y : SessionError) × (r ≡ Err y) × (y ≡ early)
      → Puts contents old out now last one (Err early) → Puts contents first before now last whole r
  Puts-stopped first before old out now last whole rest one more early r so_far split (y, is, same) (e_is, q) =
      subst (λ (x : Result (Unit {0}) SessionError). Puts contents first before now last whole x) (sym (is ∙ ap (λ (x : SessionError). Err x) same))
      (e_is, added-cut (contents before) (contents out) first.text.items old.text.items whole rest so_far one more split (contents last) q)

  pub Puts-as : (old : Buffer) (out : O) (now : Buffer) (last : O) (xs ys : List ℕ) (r : Result (Unit {0}) SessionError)
      → xs ≡ ys → Puts contents old out now last xs r → Puts contents old out now last ys r
  Puts-as old out now last xs ys r same p = subst (λ (l : List ℕ). Puts contents old out now last l r) same p

-- ---- output that is written at once

-- a single text
pub Writes-one : (old new : Option (List ℕ)) (text bytes : List ℕ) (r : Result (Unit {0}) SessionError) → bytes ≡ text
    → OnOk r (Appends old new bytes) → OnErr r (IsBegun old new bytes) → IsOkUnless r Device → Writes old new (text ∷ []) r
Writes-one old new text bytes (Ok x) is a b d = inl (refl, subst (Appends old new) (is ∙ sym (append-nil text)) a)
Writes-one old new text bytes (Err e) is a b d =
    inr (ap (λ (x : SessionError). Err x) d, subst (IsBegun old new) (is ∙ sym (append-nil text)) b)

-- lines after others
pub Writes-then : (old mid new : Option (List ℕ)) (first lines : List (List ℕ)) (r : Result (Unit {0}) SessionError) → Appends old mid (flat first)
    → Writes mid new lines r → Writes old new (first ++ lines) r
Writes-then old mid new first lines r a (inl (e, b)) =
    inl (e, subst (Appends old new) (sym (flat-append first lines)) (Appends-trans old mid new (flat first) (flat lines) a b))
Writes-then old mid new first lines r a (inr (e, (front, begins, b))) =
    inr (e, (flat first ++ front, subst (λ (l : List ℕ). BeginsWith l (flat first ++ front)) (sym (flat-append first lines)) (front-more (flat first) (flat lines) front begins), Appends-trans old mid new (flat first) front a b))

pub Writes-all : (old new : Option (List ℕ)) (lines : List (List ℕ)) (done : Unit {0}) → Writes old new lines (Ok done) → Appends old new (flat lines)
Writes-all old new lines done (inl (e, a)) = a
Writes-all old new lines done (inr (e, b)) = absurd (cc)

-- the output failed before the last of them
pub Writes-early : (old new : Option (List ℕ)) (lines rest : List (List ℕ)) (early : SessionError) → Writes old new lines (Err early) → Writes old new (lines ++ rest) (Err early)
Writes-early old new lines rest early (inl (e, a)) = absurd (cc)
Writes-early old new lines rest early (inr (e, b)) = inr (e, subst (IsBegun old new) (sym (flat-append lines rest)) (IsBegun-longer old new (flat lines) (flat rest) b))

-- ---- output through a buffer that was empty

module _ {O : Type 0} (contents : O → Option (List ℕ)) (old : Option (List ℕ)) (held : List ℕ) (none : held ≡ []) (lines : List (List ℕ)) where
  -- all was added, and the text is written
  pub Writes-out : (mid : Buffer) (between : O) (now : Buffer) (last : O) (whole : List ℕ) (r : Result (Unit {0}) SessionError) → Adds old held (contents between) mid.text.items whole
      → whole ≡ flat lines → Puts contents mid between now last [] r → OnOk r (now.text.items ≡ []) → Writes old (contents last) lines r
  Writes-out mid between now last whole (Ok x) put is (front, appended, moved) left =
      let (first, before, e) = Adds-then old (contents between) held mid.text.items whole put (contents last) now.text.items [] (front, appended, moved) in
      let same : first ≡ flat lines = sym (append-nil first) ∙ ap (λ (l : List ℕ). first ++ l) (sym left) ∙ sym e ∙ ap (λ (l : List ℕ). held ++ l) (append-nil whole) ∙ ap (λ (l : List ℕ). l ++ whole) none ∙ is in
      inl (refl, subst (Appends old (contents last)) same before)
  Writes-out mid between now last whole (Err e) put is (e_is, begun) left =
      let all = IsBegun-then old (contents between) held mid.text.items whole put (contents last) [] begun in
      inr (ap (λ (x : SessionError). Err x) e_is, subst (IsBegun old (contents last)) (ap (λ (l : List ℕ). held ++ l) (append-nil whole) ∙ ap (λ (l : List ℕ). l ++ whole) none ∙ is) all)

  -- the output failed before
  pub Writes-cut : (new : Option (List ℕ)) (whole : List ℕ) (early : SessionError) → early ≡ Device → IsBegun old new (held ++ whole) → whole ≡ flat lines → Writes old new lines (Err early)
  Writes-cut new whole early e begun is = inr (ap (λ (x : SessionError). Err x) e, subst (IsBegun old new) (ap (λ (l : List ℕ). l ++ whole) none ∙ is) begun)

  -- the output failed in a loop that adds
  pub Writes-stopped : (mid : Buffer) (between : O) (now : Buffer) (last : O) (whole rest one more : List ℕ) (early : SessionError) (r : Result (Unit {0}) SessionError)
      → AreAdded old held (contents between) mid.text.items whole rest → rest ≡ one ++ more → whole ≡ flat lines → (y : SessionError) × (r ≡ Err y) × (y ≡ early)
      → Puts contents mid between now last one (Err early) → Writes old (contents last) lines r
  Writes-stopped mid between now last whole rest one more early r so_far split is (y, e, same) (e_is, q) =
      let begun = added-cut old (contents between) held mid.text.items whole rest so_far one more split (contents last) q in
      subst (λ (x : Result (Unit {0}) SessionError). Writes old (contents last) lines x) (sym (e ∙ ap (λ (x : SessionError). Err x) same)) (Writes-cut (contents last) whole early e_is begun is)

-- ---- text that is added first, and then written

module _ {O : Type 0} (contents : O → Option (List ℕ)) where
  -- it failed while the first text was added
  pub Writes-put : (first : Buffer) (out : O) (now : Buffer) (last : O) (xs : List ℕ) (lines : List (List ℕ)) (early : SessionError) (r : Result (Unit {0}) SessionError) → first.text.items ≡ [] → xs ≡ flat lines
      → (y : SessionError) × (r ≡ Err y) × (y ≡ early) → Puts contents first out now last xs (Err early) → Writes (contents out) (contents last) lines r
  Writes-put first out now last xs lines early r none is (y, e, same) (e_is, begun) =
      subst (λ (x : Result (Unit {0}) SessionError). Writes (contents out) (contents last) lines x) (sym (e ∙ ap (λ (x : SessionError). Err x) same))
      (Writes-cut contents (contents out) first.text.items none lines (contents last) xs early e_is begun is)

  -- all was added, and is written
  pub Writes-put_out : (first : Buffer) (out : O) (mid : Buffer) (between : O) (now : Buffer) (last : O) (xs : List ℕ) (lines : List (List ℕ)) (done : Unit {0}) (r : Result (Unit {0}) SessionError) → first.text.items ≡ []
      → xs ≡ flat lines → Puts contents first out mid between xs (Ok done) → Puts contents mid between now last [] r → OnOk r (now.text.items ≡ []) → Writes (contents out) (contents last) lines r
  Writes-put_out first out mid between now last xs lines done r none is put written left =
      Writes-out contents (contents out) first.text.items none lines mid between now last xs r put is written left

-- ---- lines

-- a row, concatenated from the left and from the right
pub row_joined : (key value : List ℕ) → key ++ (32 ∷ (value ++ 10 ∷ [])) ≡ key ++ 32 ∷ value ++ 10 ∷ []
row_joined key value = sym (append_assoc key (32 ∷ value) (10 ∷ []))

-- a line, and the text that follows it
pub rows_joined : (word number rest : List ℕ) → (word ++ number ++ 10 ∷ []) ++ rest ≡ word ++ number ++ 10 ∷ rest
rows_joined word number rest = append_assoc (word ++ number) (10 ∷ []) rest

-- texts, each after a word, and an end: three and then three or four, each part concatenated from the right, equal all of them concatenated from the
-- left
pub six_joined : (a s b h c t d i e g f p end : List ℕ)
    → (a ++ (s ++ (b ++ (h ++ (c ++ t))))) ++ (d ++ (i ++ (e ++ (g ++ (f ++ (p ++ end)))))) ≡ a ++ s ++ b ++ h ++ c ++ t ++ d ++ i ++ e ++ g ++ f ++ p ++ end
six_joined a s b h c t d i e g f p end = simp append_assoc

pub seven_joined : (a s b h c t d i e g f p j q end : List ℕ)
    → (a ++ (s ++ (b ++ (h ++ (c ++ t))))) ++ (d ++ (i ++ (e ++ (g ++ (f ++ (p ++ (j ++ (q ++ end)))))))) ≡ a ++ s ++ b ++ h ++ c ++ t ++ d ++ i ++ e ++ g ++ f ++ p ++ j ++ q ++ end
seven_joined a s b h c t d i e g f p j q end = simp append_assoc

-- rows, after their number
pub rows_shown : (rows : List (List ℕ × List ℕ)) (count : ℕ) → count ≡ length rows → (codes "rows " ++ decimal count ++ 10 ∷ []) ++ flat_map shown_row rows ≡ flat (shown_rows rows ∷ [])
rows_shown rows count is =
    ap (λ (n : ℕ). (codes "rows " ++ decimal n ++ 10 ∷ []) ++ flat_map shown_row rows) is ∙ rows_joined (codes "rows ") (decimal (length rows)) (flat_map shown_row rows) ∙ sym (append-nil (shown_rows rows))

-- one more of the first rows
pub take_one : {X : Type 0} (left : ℕ) (x : X) (xs : List X) → (left ≡ 0 → ⊥) → take left (x ∷ xs) ≡ x ∷ take (left - 1) xs
take_one zero x xs some = absurd (some refl)
take_one (suc k) x xs some = let e : suc k - 1 ≡ k = omega arith in rw e refl

pub take_short : {X : Type 0} (n : ℕ) (xs : List X) → length (take n xs) ≤ n
take_short n xs = omega (arith, length-take n xs, min-le_left n (length xs))

pub take_none : {X : Type 0} (n : ℕ) (xs : List X) → xs ≡ [] → take n xs ≡ []
take_none n xs none = take_all n xs (rw none (omega arith)) ∙ none
