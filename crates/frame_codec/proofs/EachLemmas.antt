-- Entries that are decoded one after the other: the progress of the decoder, and the final result.
use Rattle.std.proofs.Common.{◌≡◌, ℕ, zero, suc, ◌+◌, ◌<◌, ◌≤◌, Bool, true, false, ◌&&◌, nat_le, nat_lt, if◌then◌else◌, List, [], ◌∷◌, ◌++◌, length, Option, Some, None, refl, sym, ap, ◌∙◌, arith, append_assoc, length-append, le-leb, leb-true}
use Rattle.std.proofs.lemmas.List.{append-nil}
use Rattle.std.proofs.lemmas.Bool.{and_parts, lt-ltb}
use Rattle.std.specs.Cmp.Derive.{both_true}
use Rattle.std.specs.List.{list_all}
use Rattle.std.specs.Map.{keys_of}
use Rattle.keys.specs.Cells.{Codec, read_on, read_as, read_where, read_number, counted}
use Rattle.keys.specs.Order.{IsRising}
use Rattle.keys.specs.declared.settings.Settings.{Settings}
use Rattle.keys.proofs.CellLemmas.{gave, nothing_read, same_reading, read_as-gave, read_where-gave}
use Rattle.delta_chain.specs.Building.{goes_last}
use Rattle.delta_chain.proofs.Rising.{goes_last-rising}
use Rattle.index_page.specs.Rules.{do_rise, of_cell}
use Rattle.frame_codec.specs.declared.format.KeyEncoding.{KeyEncoding}
use Rattle.frame_codec.specs.declared.format.KeyEncoding.TheVariants.{Whole, PrefixCompressed}
use Rattle.frame_codec.specs.Codecs.{both, read_each, flagged, sharing}
use Rattle.frame_codec.specs.Frame.{read_base, delta, is_key, are_entries, is_run}
use Rattle.frame_codec.proofs.WithinLemmas.{decides-rising}

-- the entries that were decoded, with those that are decoded from the rest, if all together pass the test
abbrev pub joined_with : {X : Type 0} → (List X → Bool) → List X → Option (List X × List ℕ) → Option (List X × List ℕ)
joined_with ok built o = read_where ok (read_as (λ xs. built ++ xs) o)

module _ {X : Type 0} (ok : List X → Bool) where
  joined-start : (o : Option (List X × List ℕ)) → joined_with ok [] o ≡ read_where ok o
  joined-start None = refl
  joined-start (Some p) = refl

  joined-one : (built : List X) (x : X) (o : Option (List X × List ℕ)) → joined_with ok built (read_as (λ xs. x ∷ xs) o) ≡ joined_with ok (built ++ x ∷ []) o
  joined-one built x None = refl
  joined-one built x (Some p) = ap (λ (xs : List X). if ok xs then gave xs p.1 else None) (sym (append_assoc built (x ∷ []) p.0))

  joined-bad : (built : List X) (x : X) (o : Option (List X × List ℕ)) → ((xs : List X) → ok (built ++ x ∷ xs) ≡ false) → joined_with ok built (read_as (λ xs. x ∷ xs) o) ≡ None
  joined-bad built x None h = refl
  joined-bad built x (Some p) h = rw (h p.0) refl

  -- if the next one, and those after it, are read of these bytes
  module _ (built : List X) (here : Option (X × List ℕ)) (more : X → List ℕ → Option (List X × List ℕ)) where
    abbrev all_of : Option (X × List ℕ) → Option (List X × List ℕ)
    all_of o = read_on o (λ x rest. read_as (λ xs. x ∷ xs) (more x rest))

    joined-next : (x : X) (following : List ℕ) → here ≡ gave x following → joined_with ok built (all_of here) ≡ joined_with ok (built ++ x ∷ []) (more x following)
    joined-next x following h = ap (λ (o : Option (X × List ℕ)). joined_with ok built (all_of o)) h ∙ joined-one built x (more x following)

    joined-refused : (x : X) (following : List ℕ) → here ≡ gave x following → ((xs : List X) → ok (built ++ x ∷ xs) ≡ false) → joined_with ok built (all_of here) ≡ None
    joined-refused x following h bad = ap (λ (o : Option (X × List ℕ)). joined_with ok built (all_of o)) h ∙ joined-bad built x (more x following) bad

    joined-unread : here ≡ None → joined_with ok built (all_of here) ≡ None
    joined-unread h = ap (λ (o : Option (X × List ℕ)). joined_with ok built (all_of o)) h

    -- if no item is decoded, or one that is not allowed there, the whole list is not decoded
    joined-ends : (test : X → Bool) → ((x : X) (xs : List X) → test x ≡ false → ok (built ++ x ∷ xs) ≡ false)
        → read_where test here ≡ None → joined_with ok built (all_of here) ≡ None
    joined-ends test bad = of here refl
      where
        failed : (b : Bool) (x : X) (rest : List ℕ) → here ≡ gave x rest → test x ≡ b → (if b then gave x rest else None) ≡ None → joined_with ok built (all_of here) ≡ None
        failed true x rest is e k = absurd (nothing_read (x, rest) (sym k))
        failed false x rest is e k = joined-refused x rest is (λ xs. bad x xs e)

        of : (o : Option (X × List ℕ)) → here ≡ o → read_where test o ≡ None → joined_with ok built (all_of here) ≡ None
        of None is k = joined-unread is
        of (Some p) is k = failed (test p.0) p.0 p.1 is refl k

-- ---- the entries of a base, or of a run

-- a key, by the one before it
abbrev pub keyed : KeyEncoding → List ℕ → Codec (List ℕ)
keyed Whole before = counted
keyed PrefixCompressed before = sharing before

-- an entry, by the key before it
abbrev pub next_entry : {X : Type 0} → KeyEncoding → Codec X → List ℕ → Codec (List ℕ × X)
next_entry encoding cell before = both (keyed encoding before) cell

module _ {X : Type 0} (encoding : KeyEncoding) (cell : Codec X) where
  base-none : (before : List ℕ) (bs : List ℕ) → read_base encoding cell before 0 bs ≡ gave [] bs
  base-none before bs = of encoding
    where
      of : (encoding : KeyEncoding) → read_base encoding cell before 0 bs ≡ gave [] bs
      of Whole = refl
      of PrefixCompressed = refl

  base-more : (before : List ℕ) (n : ℕ) (bs : List ℕ) → read_base encoding cell before (suc n) bs
      ≡ read_on ((next_entry encoding cell before).read bs) (λ e rest. read_as (λ es. e ∷ es) (read_base encoding cell e.0 n rest))
  base-more before n bs = of encoding
    where
      of : (encoding : KeyEncoding) → read_base encoding cell before (suc n) bs
          ≡ read_on ((next_entry encoding cell before).read bs) (λ e rest. read_as (λ es. e ∷ es) (read_base encoding cell e.0 n rest))
      of Whole = refl
      of PrefixCompressed = refl

  -- as many are read as were asked for
  more_long : (n : ℕ) → ((before : List ℕ) (bs : List ℕ) (es : List (List ℕ × X)) (rest : List ℕ) → read_base encoding cell before n bs ≡ gave es rest → length es ≡ n)
      → (o : Option ((List ℕ × X) × List ℕ)) (es : List (List ℕ × X)) (rest : List ℕ)
      → read_on o (λ e following. read_as (λ ds. e ∷ ds) (read_base encoding cell e.0 n following)) ≡ gave es rest → length es ≡ suc n
  more_long n fewer None es rest h = absurd (nothing_read _ h)
  more_long n fewer (Some p) es rest h =
      let (ds, read, is) = read_as-gave (λ ds. p.0 ∷ ds) (read_base encoding cell p.0.0 n p.1) es rest h in
      ap length (sym is) ∙ ap suc (fewer p.0.0 p.1 ds rest read)

  pub base-long : (n : ℕ) (before : List ℕ) (bs : List ℕ) (es : List (List ℕ × X)) (rest : List ℕ) → read_base encoding cell before n bs ≡ gave es rest → length es ≡ n
  base-long zero before bs es rest h = let e = (same_reading [] es bs rest (sym (base-none before bs) ∙ h)).0 in ap length (sym e)
  base-long (suc n) before bs es rest h = more_long n (base-long n) ((next_entry encoding cell before).read bs) es rest (sym (base-more before n bs) ∙ h)

-- two things that were read, one after the other
pub both-passed : {X Y : Type 0} (a : X → Bool) (b : Y → Bool) (c : Codec X) (d : Codec Y) (bs : List ℕ) (x : X) (following : List ℕ) (y : Y) (rest : List ℕ)
    → read_where a (c.read bs) ≡ Some (x, following) → read_where b (d.read following) ≡ Some (y, rest) → read_where (λ (p : X × Y). a p.0 && b p.1) ((both c d).read bs) ≡ Some ((x, y), rest)
both-passed {X = X} {Y = Y} a b c d bs x following y rest h k =
    let (first, passed) = read_where-gave a (c.read bs) x following h in
    let (second, passed_too) = read_where-gave b (d.read following) y rest k in
    let test : X × Y → Bool = λ p. a p.0 && b p.1 in
    ap (λ (o : Option (X × List ℕ)). read_where test (read_on o (λ v more. read_as (λ (w : Y). (v, w)) (d.read more)))) first
    ∙ ap (λ (o : Option (Y × List ℕ)). read_where test (read_as (λ (w : Y). (x, w)) o)) second
    ∙ rw (passed, passed_too) refl

-- what passes two tests passes the first
where_first : {X : Type 0} (a b : X → Bool) (o : Option (X × List ℕ)) (x : X) (rest : List ℕ) → read_where (λ y. a y && b y) o ≡ Some (x, rest) → read_where a o ≡ Some (x, rest)
where_first a b o x rest h =
    let (is, both) = read_where-gave (λ y. a y && b y) o x rest h in
    let (first, second) = and_parts (a x) (b x) both in
    ap (read_where a) is ∙ rw first refl

-- ---- entries

pub not_true : (b : Bool) → (b ≡ true → ⊥) → b ≡ false
not_true true h = absurd (h refl)
not_true false h = refl

pub fails_last : (a b : Bool) → b ≡ false → (a && b) ≡ false
fails_last true b h = h
fails_last false b h = refl

fails_first : (a b : Bool) → a ≡ false → (a && b) ≡ false
fails_first true b h = absurd (cc)
fails_first false b h = refl

all-fails : {X : Type 0} (test : X → Bool) (built : List X) (x : X) (xs : List X) → test x ≡ false → list_all test (built ++ x ∷ xs) ≡ false
all-fails test [] x xs h = fails_first (test x) (list_all test xs) h
all-fails test (y ∷ ys) x xs h = fails_last (test y) (list_all test (ys ++ x ∷ xs)) (all-fails test ys x xs h)

all-push : {X : Type 0} (test : X → Bool) (built : List X) (x : X) → list_all test built ≡ true → test x ≡ true → list_all test (built ++ x ∷ []) ≡ true
all-push test [] x h t = both_true t refl
all-push test (y ∷ ys) x h t = let (one, rest) = and_parts _ _ h in both_true one (all-push test ys x rest t)

-- the key of the last entry, or this where there is none
abbrev pub last_key : {X : Type 0} → List ℕ → List (List ℕ × X) → List ℕ
last_key low [] = low
last_key low (e ∷ es) = last_key e.0 es

pub last_key-push : {X : Type 0} (low : List ℕ) (es : List (List ℕ × X)) (k : List ℕ) (v : X) → last_key low (es ++ (k, v) ∷ []) ≡ k
last_key-push low [] k v = refl
last_key-push low (e ∷ es) k v = last_key-push e.0 es k v

module _ {X : Type 0} (s : Settings) (short : X → Bool) (encoding : KeyEncoding) (cell : Codec X) where
  -- whether an entry is within the settings
  abbrev pub is_entry : List ℕ × X → Bool
  is_entry e = is_key s e.0 && short e.1

  bad_entry : (built : List (List ℕ × X)) (e : List ℕ × X) (es : List (List ℕ × X)) → is_entry e ≡ false → are_entries s short (built ++ e ∷ es) ≡ false
  bad_entry built e es h =
      fails_last (nat_le (length (built ++ e ∷ es)) s.fan && do_rise (keys_of (built ++ e ∷ es))) (list_all is_entry (built ++ e ∷ es)) (all-fails is_entry built e es h)

  bad_order : (built : List (List ℕ × X)) (k : List ℕ) (v : X) (es : List (List ℕ × X)) → goes_last k built ≡ false → are_entries s short (built ++ (k, v) ∷ es) ≡ false
  bad_order built k v es h =
      let all : List (List ℕ × X) = built ++ (k, v) ∷ es in
      let falls : do_rise (keys_of all) ≡ false =
      not_true (do_rise (keys_of all)) (λ rise. let last = goes_last-rising built k v es ((decides-rising all).0 rise) in absurd (let wrong = sym h ∙ last in cc)) in
      fails_first (nat_le (length all) s.fan && do_rise (keys_of all)) (list_all is_entry all) (fails_last (nat_le (length all) s.fan) (do_rise (keys_of all)) falls)

  bad_next : (built : List (List ℕ × X)) (e : List ℕ × X) (es : List (List ℕ × X)) → (is_entry e && goes_last e.0 built) ≡ false → are_entries s short (built ++ e ∷ es) ≡ false
  bad_next built e es h = of (is_entry e) (goes_last e.0 built) refl refl h
    where
      of : (a b : Bool) → is_entry e ≡ a → goes_last e.0 built ≡ b → (a && b) ≡ false → are_entries s short (built ++ e ∷ es) ≡ false
      of false b entry last h = bad_entry built e es entry
      of true false entry last h = bad_order built e.0 e.1 es last
      of true true entry last h = absurd (cc)

  module _ (low : List ℕ) (count : ℕ) (start : List ℕ) where
    -- what is read of all, if as many are read from these bytes
    abbrev pub read_entries : Option (List (List ℕ × X) × List ℕ)
    read_entries = read_where (are_entries s short) (read_base encoding cell low count start)

    -- the first `at` entries are decoded and within the settings; the rest is encoded in these bytes
    pub record IsReadUpTo (at : ℕ) (built : List (List ℕ × X)) (now : List ℕ) : Type 0 where
      pub left : ℕ
      pub all : at + left ≡ count
      pub whole : read_entries ≡ joined_with (are_entries s short) built (read_base encoding cell (last_key low built) left now)
      pub tested : list_all is_entry built ≡ true
      pub long : length built ≡ at

    pub read-none : IsReadUpTo 0 [] start
    read-none = record {
      left = count;
      all = omega arith;
      whole = sym (joined-start (are_entries s short) (read_base encoding cell low count start));
      tested = refl;
      long = refl;
    }

    module _ (at : ℕ) (built : List (List ℕ × X)) (now : List ℕ) (up : IsReadUpTo at built now) where
      -- the key before the next one
      abbrev before : List ℕ
      before = last_key low built

      -- there is one more to read
      one_left : at < count → (n : ℕ) × (up.left ≡ suc n)
      one_left more = of up.left up.all
        where
          of : (left : ℕ) → at + left ≡ count → (n : ℕ) × (left ≡ suc n)
          of zero e = absurd (omega arith)
          of (suc n) e = (n, refl)

      abbrev whole_of : ℕ → Option (List (List ℕ × X) × List ℕ)
      whole_of n = joined_with (are_entries s short) built (read_base encoding cell before n now)

      -- what is read where the next one is
      abbrev next_read : Option ((List ℕ × X) × List ℕ)
      next_read = (next_entry encoding cell before).read now

      -- and after an entry
      abbrev read_after : ℕ → List ℕ × X → List ℕ → Option (List (List ℕ × X) × List ℕ)
      read_after n e rest = read_base encoding cell e.0 n rest

      next_is : (n : ℕ) → up.left ≡ suc n → read_entries ≡ joined_with (are_entries s short) built (all_of (are_entries s short) built next_read (read_after n) next_read)
      next_is n is = up.whole ∙ ap whole_of is ∙ ap (joined_with (are_entries s short) built) (base-more encoding cell before n now)

      pub read-next : (k : List ℕ) (v : X) (following : List ℕ) → at < count → read_where is_entry next_read ≡ Some ((k, v), following)
          → IsReadUpTo (at + 1) (built ++ (k, v) ∷ []) following
      read-next k v following more h =
          let (n, is) = one_left more in
          let (read, passed) = read_where-gave is_entry next_read (k, v) following h in
          let joined = length-append built ((k, v) ∷ []) in
          let long = up.long in
          let all = up.all in
          record {
            left = n;
            all = omega arith;
            whole =
                next_is n is
                ∙ joined-next (are_entries s short) built next_read (read_after n) (k, v) following read
                ∙ ap (λ (j : List ℕ). joined_with (are_entries s short) (built ++ (k, v) ∷ []) (read_base encoding cell j n following)) (sym (last_key-push low built k v));
            tested = all-push is_entry built (k, v) up.tested passed;
            long = omega arith;
          }

      pub read-ends : at < count → read_where is_entry next_read ≡ None → read_entries ≡ None
      read-ends more h =
          let (n, is) = one_left more in
          next_is n is ∙ joined-ends (are_entries s short) built next_read (read_after n) is_entry (λ e es. bad_entry built e es) h

      pub read-falls : (k : List ℕ) (v : X) (following : List ℕ) → at < count → read_where is_entry next_read ≡ Some ((k, v), following)
          → goes_last k built ≡ false → read_entries ≡ None
      read-falls k v following more h falls =
          let (n, is) = one_left more in
          let (read, passed) = read_where-gave is_entry next_read (k, v) following h in
          next_is n is ∙ joined-refused (are_entries s short) built next_read (read_after n) (k, v) following read (λ es. bad_order built k v es falls)

      -- the same of a run, which tests that each goes last
      abbrev goes_next : List ℕ × X → Bool
      goes_next e = is_entry e && goes_last e.0 built

      pub read-next-last : (k : List ℕ) (v : X) (following : List ℕ) → at < count → read_where goes_next next_read ≡ Some ((k, v), following)
          → IsReadUpTo (at + 1) (built ++ (k, v) ∷ []) following
      read-next-last k v following more h = read-next k v following more (where_first is_entry (λ e. goes_last e.0 built) next_read (k, v) following h)

      pub read-halts : at < count → read_where goes_next next_read ≡ None → read_entries ≡ None
      read-halts more h =
          let (n, is) = one_left more in
          next_is n is ∙ joined-ends (are_entries s short) built next_read (read_after n) goes_next (λ e es. bad_next built e es) h

      pub read-done : count ≤ at → count ≤ s.fan → IsRising built → read_entries ≡ Some (built, now)
      read-done done few rising =
          let long = up.long in
          let all = up.all in
          let none : up.left ≡ 0 = omega arith in
          let at_most : length built ≤ s.fan = omega arith in
          let passed : are_entries s short built ≡ true =
          both_true (both_true (le-leb (length built) s.fan at_most) ((decides-rising built).1 rising)) up.tested in
          up.whole ∙ ap whole_of none ∙ rw (base-none encoding cell before now, append-nil built, passed) refl

    pub read-many : s.fan < count → read_entries ≡ None
    read-many many = of (read_base encoding cell low count start) refl
      where
        of : (o : Option (List (List ℕ × X) × List ℕ)) → read_base encoding cell low count start ≡ o → read_where (are_entries s short) o ≡ None
        of None is = refl
        of (Some p) is =
            let long = base-long encoding cell count low start p.0 p.1 is in
            let over : nat_le (length p.0) s.fan ≡ false = not_true (nat_le (length p.0) s.fan) (λ h. let few = leb-true (length p.0) s.fan h in absurd (omega arith)) in
            let failed : are_entries s short p.0 ≡ false =
            fails_first (nat_le (length p.0) s.fan && do_rise (keys_of p.0)) (list_all is_entry p.0) (fails_first (nat_le (length p.0) s.fan) (do_rise (keys_of p.0)) over) in
            rw failed refl

-- a run, where its count was read and there are some
pub read-run : {V : Type 0} (s : Settings) (short : V → Bool) (cell : Codec V) (bs : List ℕ) (count : ℕ) (rest : List ℕ) → read_number 2 bs ≡ gave count rest → (count ≡ 0 → ⊥)
    → read_where (is_run s short) ((delta cell).read bs) ≡ read_entries s (of_cell short) Whole (flagged cell) [] count rest
read-run {V = V} s short cell bs count rest h some =
    ap (λ (o : Option (ℕ × List ℕ)). read_where (is_run s short) (read_on o (read_each (both counted (flagged cell))))) h ∙ of (read_each (both counted (flagged cell)) count rest) refl
  where
    of : (o : Option (List (List ℕ × Option V) × List ℕ)) → read_each (both counted (flagged cell)) count rest ≡ o
        → read_where (is_run s short) o ≡ read_where (are_entries s (of_cell short)) o
    of None is = refl
    of (Some p) is =
        let long = base-long Whole (flagged cell) count [] rest p.0 p.1 is in
        let passed : nat_lt 0 (length p.0) ≡ true = lt-ltb 0 (length p.0) (omega (arith, some)) in
        rw passed refl
