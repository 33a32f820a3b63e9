-- Skipping without decoding: entries one after the other, a base or a run of them, a content, and a frame.
use Rattle.std.proofs.Common.{◌≡◌, ℕ, zero, suc, ◌+◌, ◌<◌, ◌-◌, ◌≤◌, Bool, true, false, ◌&&◌, if◌then◌else◌, List, [], ◌∷◌, ◌++◌, length, take, drop, Option, Some, None, refl, sym, ap, ◌∙◌, arith, add-one, length-append}
use Rattle.std.specs.Prelude.{MatchOption}
use Rattle.std.specs.Borrow.{Bor}
use Rattle.std.proofs.Math.Seq.{take-append_seam}
use Rattle.keys.specs.Cells.{Codec, AreBytes, read_on, read_as, read_where, read_number, counted}
use Rattle.std.specs.Ordering.{is_lt}
use Rattle.keys.specs.Order.{order, IsRising}
use Rattle.keys.specs.declared.settings.Settings.{Settings}
use Rattle.keys.proofs.CellLemmas.{gave, nothing_read, read_where-gave}
use Rattle.delta_chain.specs.Building.{goes_last}
use Rattle.delta_chain.proofs.Rising.{rising-push}
use Rattle.frame_codec.specs.declared.format.Format.{Format}
use Rattle.frame_codec.specs.declared.format.KeyEncoding.{KeyEncoding}
use Rattle.frame_codec.specs.declared.format.KeyEncoding.TheVariants.{PrefixCompressed}
use Rattle.frame_codec.specs.Frame.{Content, Frame, read_base, full, header, bytes_of, is_pid, is_key, are_entries, is_full, is_allowed}
use Rattle.frame_codec.specs.Reading.{read_content, read_frame}
use Rattle.frame_codec.specs.Skimmed.{kind_of, is_above}
use Rattle.frame_codec.specs.declared.skim.FrameKind.{FrameKind}
use Rattle.frame_codec.proofs.BaseLemmas.{base-taken}
use Rattle.frame_codec.proofs.EachLemmas.{IsReadUpTo, next_entry, last_key, last_key-push, read_entries, read-none, read-next, read-ends, read-falls, read-done, read-many}
use Rattle.frame_codec.proofs.FoundLemmas.{IsReadOf, IsContent, read_allowed, content-found, content-none, frame-answered}
use Rattle.frame_codec.proofs.ReadLemmas.{header-encoded, frame-stands}
use Rattle.frame_codec.proofs.WithinLemmas.{decides-rising}

-- ---- entries

not_false : (b : Bool) → (b ≡ false → ⊥) → b ≡ true
not_false true h = refl
not_false false h = absurd (h refl)

-- after an entry goes what is above its key
last-pushed : {X : Type 0} (built : List (List ℕ × X)) (j : List ℕ) (v : X) (k : List ℕ) → goes_last k (built ++ (j, v) ∷ []) ≡ is_above (Some j) k
last-pushed [] j v k = refl
last-pushed (e ∷ []) j v k = refl
last-pushed (e ∷ f ∷ es) j v k = last-pushed (f ∷ es) j v k

module _ {X : Type 0} (s : Settings) (short : X → Bool) (encoding : KeyEncoding) (cell : Codec X) (low : List ℕ) (count : ℕ) (start : List ℕ) where
  -- the next entry, if it is within the settings
  abbrev pub next_within : List ℕ → List ℕ → Option ((List ℕ × X) × List ℕ)
  next_within before now = read_where (λ (e : List ℕ × X). is_key s e.0 && short e.1) ((next_entry encoding cell before).read now)

  -- the first `at` entries were skipped, the last with this key; they are within the settings, their keys rise, and the next entry is encoded after
  -- that key
  pub record IsPassedUpTo (at : ℕ) (last : Option (List ℕ)) (key : List ℕ) (now : List ℕ) : Type 0 where
    pub built : List (List ℕ × X)
    pub upto : IsReadUpTo s short encoding cell low count start at built now
    pub rising : IsRising built
    pub above : (k : List ℕ) → goes_last k built ≡ is_above last k
    pub before : last_key low built ≡ key

  pub passed-none : IsPassedUpTo 0 None low start
  passed-none = record {
    built = [];
    upto = read-none s short encoding cell low count start;
    rising = (decides-rising {X = X} []).0 refl;
    above = λ k. refl;
    before = refl;
  }

  module _ (at : ℕ) (last : Option (List ℕ)) (key : List ℕ) (now : List ℕ) (up : IsPassedUpTo at last key now) where
    here : (o : Option ((List ℕ × X) × List ℕ)) → next_within key now ≡ o → next_within (last_key low up.built) now ≡ o
    here o h = rw up.before h

    pub passed-ends : at < count → next_within key now ≡ None → read_entries s short encoding cell low count start ≡ None
    passed-ends more h = read-ends s short encoding cell low count start at up.built now up.upto more (here None h)

    module _ (k : List ℕ) (v : X) (following : List ℕ) (more : at < count) (read : next_within key now ≡ Some ((k, v), following)) where
      pub passed-next : (next : Option (List ℕ)) → next ≡ Some k → is_above last k ≡ true → IsPassedUpTo (at + 1) next k following
      passed-next next same above = record {
        built = up.built ++ (k, v) ∷ [];
        upto = read-next s short encoding cell low count start at up.built now up.upto k v following more (here (Some ((k, v), following)) read);
        rising = rising-push up.built k v up.rising (up.above k ∙ above);
        above = λ j. last-pushed up.built k v j ∙ ap (λ (l : Option (List ℕ)). is_above l j) (sym same);
        before = last_key-push low up.built k v;
      }

      pub passed-falls : is_above last k ≡ false → read_entries s short encoding cell low count start ≡ None
      passed-falls falls =
          read-falls s short encoding cell low count start at up.built now up.upto k v following more (here (Some ((k, v), following)) read) (up.above k ∙ falls)

    pub passed-done : count ≤ at → count ≤ s.fan → (es : List (List ℕ × X)) × (read_entries s short encoding cell low count start ≡ Some (es, now))
    passed-done done few = (up.built, read-done s short encoding cell low count start at up.built now up.upto done few up.rising)

  module _ (es : List (List ℕ × X)) (end : List ℕ) (whole : read_entries s short encoding cell low count start ≡ Some (es, end)) where
    -- if all are read, there are no more than fan of them
    pub whole-few : count ≤ s.fan
    whole-few =
        let few : s.fan < count → ⊥ = λ many. nothing_read (es, end) (sym (read-many s short encoding cell low count start many) ∙ whole) in
        omega (arith, few)

    -- and each goes after those that were read before it
    pub whole-rises : (at : ℕ) (built : List (List ℕ × X)) (now : List ℕ) → IsReadUpTo s short encoding cell low count start at built now → (k : List ℕ) (v : X) (following : List ℕ)
        → at < count → next_within (last_key low built) now ≡ Some ((k, v), following) → goes_last k built ≡ true
    whole-rises at built now up k v following more h =
        not_false (goes_last k built) (λ falls. nothing_read (es, end) (sym (read-falls s short encoding cell low count start at built now up k v following more h falls) ∙ whole))

-- ---- entries whose keys are prefix-compressed

-- the key before the entry at this place, if there is one
abbrev pub last_of : ℕ → List ℕ → Option (List ℕ)
last_of zero key = None
last_of (suc at) key = Some key

pub last_of-next : (at : ℕ) (key : List ℕ) → last_of (at + 1) key ≡ Some key
last_of-next at key = rw add-one refl

-- a key is above the key before it, if there is one, if it is above the key after which it is encoded
module _ (at : ℕ) (key k : List ℕ) (rises : Bool) (is : rises ≡ is_lt (order key k)) where
  pub last_of-above : (0 < at → rises ≡ true) → is_above (last_of at key) k ≡ true
  last_of-above = of at
    where
      of : (at : ℕ) → (0 < at → rises ≡ true) → is_above (last_of at key) k ≡ true
      of zero h = refl
      of (suc n) h = sym is ∙ h (omega arith)

  pub last_of-falls : 0 < at → rises ≡ false → is_above (last_of at key) k ≡ false
  last_of-falls = of at
    where
      of : (at : ℕ) → 0 < at → rises ≡ false → is_above (last_of at key) k ≡ false
      of zero some falls = absurd (omega arith)
      of (suc n) some falls = sym is ∙ falls

-- of the low key only the first bytes matter
pub shared-taken : {X : Type 0} (s : Settings) (short : X → Bool) (cell : Codec X) (low : List ℕ) (count : ℕ) (start : List ℕ) → AreBytes start
    → read_entries s short PrefixCompressed cell (take 510 low) count start ≡ read_entries s short PrefixCompressed cell low count start
shared-taken s short cell low count start bytes = ap (read_where (are_entries s short)) (base-taken cell 510 low count start (omega arith) bytes)

-- ---- a base under its low key

module _ {V : Type 0} (s : Settings) (short : V → Bool) (encoding : KeyEncoding) (cell : Codec V) (bs low following : List ℕ) (count : ℕ) (rest : List ℕ)
    (key : read_where (is_key s) (counted.read bs) ≡ Some (low, following)) (counts : read_number 2 following ≡ Some (count, rest)) where
  -- what is read of a low key and a base
  abbrev pub read_full : Option ((List ℕ × List (List ℕ × V)) × List ℕ)
  read_full = read_where (λ p. is_full s short p.0 p.1) ((full encoding cell).read bs)

  abbrev of_entries : Option (List (List ℕ × V) × List ℕ) → Option ((List ℕ × List (List ℕ × V)) × List ℕ)
  of_entries o = read_where (λ p. is_full s short p.0 p.1) (read_as (λ es. (low, es)) o)

  -- after the low key and the count are read
  full-of_entries : read_full ≡ of_entries (read_base encoding cell low count rest)
  full-of_entries =
      ap (λ (o : Option (List ℕ × List ℕ)). read_where (λ p. is_full s short p.0 p.1) (read_on o (λ x more. read_as (λ es. (x, es)) (read_on (read_number 2 more) (read_base encoding cell x)))))
      (read_where-gave (is_key s) (counted.read bs) low following key).0
      ∙ ap (λ (o : Option (ℕ × List ℕ)). of_entries (read_on o (read_base encoding cell low))) counts

  key_passes : is_key s low ≡ true
  key_passes = (read_where-gave (is_key s) (counted.read bs) low following key).1

  pub full-none : read_entries s short encoding cell low count rest ≡ None → read_full ≡ None
  full-none h = full-of_entries ∙ of (read_base encoding cell low count rest) h
    where
      of : (o : Option (List (List ℕ × V) × List ℕ)) → read_where (are_entries s short) o ≡ None → of_entries o ≡ None
      of None k = refl
      of (Some p) k = rw key_passes (by (are_entries s short p.0) k)
        where
          by : (b : Bool) → (if b then gave p.0 p.1 else None) ≡ None → (if b then gave {X = List ℕ × List (List ℕ × V)} (low, p.0) p.1 else None) ≡ None
          by true e = absurd (nothing_read (p.0, p.1) (sym e))
          by false e = refl

  pub full-passed : (es : List (List ℕ × V)) (end : List ℕ) → read_entries s short encoding cell low count rest ≡ Some (es, end) → read_full ≡ Some ((low, es), end)
  full-passed es end h =
      let (read, passed) = read_where-gave (are_entries s short) (read_base encoding cell low count rest) es end h in
      full-of_entries ∙ ap of_entries read ∙ rw (key_passes, passed) refl

-- ---- a content, and a frame

-- what was read, and is within the settings as a part of its content
made-passed : {Y Z : Type 0} (make : Y → Z) (test : Z → Bool) (o : Option (Y × List ℕ)) (y : Y) (rest : List ℕ)
    → read_where (λ y. test (make y)) o ≡ Some (y, rest) → read_where test (read_as make o) ≡ Some (make y, rest)
made-passed {Y = Y} make test o y rest h =
    let (read, passed) = read_where-gave (λ (y : Y). test (make y)) o y rest h in
    ap (λ (o : Option (Y × List ℕ)). read_where test (read_as make o)) read ∙ rw passed refl

made-none : {Y Z : Type 0} (make : Y → Z) (test : Z → Bool) (o : Option (Y × List ℕ)) → read_where (λ y. test (make y)) o ≡ None → read_where test (read_as make o) ≡ None
made-none make test None h = refl
made-none {Z = Z} make test (Some p) h = by (test (make p.0)) h
  where
    by : (b : Bool) → (if b then gave p.0 p.1 else None) ≡ None → (if b then gave {X = Z} (make p.0) p.1 else None) ≡ None
    by true e = absurd (nothing_read (p.0, p.1) (sym e))
    by false e = refl

-- a content that was skipped has this kind, if what was skipped made it
pub made-kind : {Y : Type 0} (g : Format) (make : Y → Content) (kind : FrameKind) → ((y : Y) → kind_of (make y) ≡ kind) → (o : Option (Y × List ℕ))
    → (rest : Option (Bor (List ℕ))) (result : Option (FrameKind × Bor (List ℕ)))
    → MatchOption rest (read_where (λ y. is_allowed g (make y)) o ≡ None) (λ r. (y : Y) × (read_where (λ y. is_allowed g (make y)) o ≡ Some (y, r.now)))
    → MatchOption rest (result ≡ None) (λ r. result ≡ Some (kind, r))
    → MatchOption result (read_where (is_allowed g) (read_as make o) ≡ None) (λ p. (content : Content) × (read_where (is_allowed g) (read_as make o) ≡ Some (content, p.1.now)) × (kind_of content ≡ p.0))
made-kind g make kind same o None result none is = rw is (made-none make (is_allowed g) o none)
made-kind g make kind same o (Some r) result (y, read) is = rw is (make y, made-passed make (is_allowed g) o y r.now read, same y)

-- the frame of this page with this content
abbrev pub with_content : ℕ → Content → Frame
with_content pid c = record { pid = pid; content = c }

module _ (g : Format) (bs : List ℕ) (number len pid : ℕ) (body : List ℕ) (bytes : AreBytes bs) (head : header.read bs ≡ Some (((number, len), pid), body)) where
  -- there are no fewer bytes in all than after the header
  pub body-within : length body ≤ length bs
  body-within =
      let long = ap length (header-encoded bs ((number, len), pid) body bytes head) ∙ length-append (header.encode ((number, len), pid)) body in
      omega arith

  -- no content within the settings
  pub skim-none : read_where (is_allowed g) (read_content number body) ≡ None → read_frame g bs ≡ None
  skim-none h = content-none g bs number len pid body bytes head (ap (read_as (with_content pid)) h)

  module _ (c : Content) (rest : List ℕ) (is : read_where (is_allowed g) (read_content number body) ≡ Some (c, rest)) where
    allowed : read_allowed g bs number len pid body bytes head ≡ Some (with_content pid c, rest)
    allowed = ap (read_as (with_content pid)) is

    pub skim-found : IsContent g bs number len pid body bytes head (with_content pid c) rest
    skim-found = content-found g bs number len pid body bytes head (with_content pid c) rest allowed

    pub skim-reported : (size : ℕ) → (len ≡ 8 + (length body - length rest)) × (size ≡ length bs - length rest) → is_pid pid ≡ true → IsReadOf g bs (with_content pid c) size
    skim-reported size exact word = rw exact.1 (frame-answered g bs number len pid body bytes head (with_content pid c) rest allowed exact.0 word).0

-- the bytes begin with the encoding of a decoded frame
pub frame-taken : (g : Format) (bs : List ℕ) (f : Frame) (n : ℕ) → AreBytes bs → IsReadOf g bs f n → take n bs ≡ bytes_of f
frame-taken g bs f n bytes read =
    ap (take n) (frame-stands g bs f (drop n bs) bytes read.found).bytes
    ∙ ap (λ (m : ℕ). take m (bytes_of f ++ drop n bs)) read.size
    ∙ take-append_seam (bytes_of f) (drop n bs)
