-- A frame within settings is decoded from its encoding.
use Rattle.std.proofs.Common.{◌≡◌, ℕ, ◌+◌, ◌*◌, ◌^◌, ◌<◌, ◌≤◌, Bool, true, ◌&&◌, ◌==◌, List, [], ◌∷◌, ◌++◌, length, flat_map, Option, Some, None, refl, sym, ap, ◌∙◌, arith, append_assoc, length-append, leb-true}
use Rattle.std.specs.List.{AllByRecursion, list_all}
use Rattle.std.proofs.lemmas.Bool.{and_parts, ltb-true, eq-eqb}
use Rattle.keys.specs.Cells.{Codec, IsReadBack, read_on, read_as, read_where, number, counted, value_cell, pid_cell}
use Rattle.keys.specs.Limits.{first_bad_field}
use Rattle.keys.specs.declared.settings.Settings.{Settings}
use Rattle.keys.proofs.LimitLemmas.{checked}
use Rattle.keys.proofs.CellLemmas.{gave, same_reading, number-back, counted-back, length-counted, pid-back}
use Rattle.index_page.specs.Rules.{is_short_value, of_cell}
use Rattle.frame_codec.specs.declared.format.Format.{Format}
use Rattle.frame_codec.specs.declared.format.KeyEncoding.{KeyEncoding}
use Rattle.frame_codec.specs.declared.format.KeyEncoding.TheVariants.{Whole, PrefixCompressed}
use Rattle.frame_codec.specs.Codecs.{both, listed, encode_flag, flagged}
use Rattle.frame_codec.specs.Frame.{Content, Frame, based, full, delta, kind_of, content_bytes, header, bytes_of, is_pid, is_key, are_entries, is_full, is_run, is_content, is_readable, is_allowed, is_frame}
use Rattle.frame_codec.specs.Frame.Content.{FullLeaf, DeltaLeaf, FullIndex, DeltaIndex, Free}
use Rattle.frame_codec.specs.Reading.{read_content, read_after, read_any, read_frame}
use Rattle.frame_codec.proofs.BaseLemmas.{base-back, base-shorter}
use Rattle.frame_codec.proofs.CodecLemmas.{both-back, both_by-back, listed-back, flagged-back, absent-back}

-- ---- settings that pass their check

-- the greatest settings that a frame's length depends on
pub record AreInLimits (s : Settings) : Type 0 where
  pub fan : s.fan ≤ 64
  pub max_key : s.max_key ≤ 255
  pub max_value : s.max_value ≤ 1024

pub in_limits : (s : Settings) → first_bad_field s ≡ None → AreInLimits s
in_limits s h = let all = checked s h in record { fan = all.fan; max_key = all.max_key; max_value = all.max_value }

-- ---- cells, entries, contents

-- a cell that passes the test is decoded again, and its encoding is no longer than this
pub record Serves {V : Type 0} (most : ℕ) (test : V → Bool) (cell : Codec V) : Type 0 where
  pub back : (v : V) → test v ≡ true → IsReadBack cell v
  pub short : (v : V) → test v ≡ true → length (cell.encode v) ≤ most

all_short : {X : Type 0} (c : Codec X) (xs : List X) → AllByRecursion (λ x. length (c.encode x) ≤ 1284) xs → length (flat_map c.encode xs) ≤ length xs * 1284
all_short c [] h = omega arith
all_short c (x ∷ xs) h =
    let one : length (c.encode x) ≤ 1284 = h.0 in
    let rest = all_short c xs h.1 in
    let joined = length-append (c.encode x) (flat_map c.encode xs) in
    omega arith

pub pid-is : (p : ℕ) → is_pid p ≡ true → p < 2 ^ 64
pid-is p h = ltb-true p (2 ^ 64) h

pid-serves : Serves 1026 is_pid pid_cell
pid-serves = record { back = λ p h. pid-back p (pid-is p h); short = λ p h. omega arith }

module _ {V : Type 0} (test : V → Bool) (cell : Codec V) (serves : Serves 1026 test cell) where
  flag-back : (o : Option V) → of_cell test o ≡ true → IsReadBack (flagged cell) o
  flag-back None h = absent-back cell
  flag-back (Some v) h = flagged-back cell v (serves.back v h)

  flag-short : (o : Option V) → of_cell test o ≡ true → length (encode_flag cell o) ≤ 1027
  flag-short None h = omega arith
  flag-short (Some v) h = let one = serves.short v h in omega arith

  flag-serves : Serves 1027 (of_cell test) (flagged cell)
  flag-serves = record { back = flag-back; short = flag-short }

module _ (s : Settings) (limits : AreInLimits s) where
  short_key : (k : List ℕ) → is_key s k ≡ true → length k ≤ 255
  short_key k h = let most = limits.max_key in let long = leb-true (length k) s.max_key h in omega arith

  short_value : (v : List ℕ) → is_short_value s v ≡ true → length v ≤ 1024
  short_value v h = let most = limits.max_value in let long = leb-true (length v) s.max_value h in omega arith

  value-serves : Serves 1026 (is_short_value s) value_cell
  value-serves = record {
    back = λ v h. let short = short_value v h in counted-back v (omega arith);
    short = λ v h. let short = short_value v h in let long = length-counted v in omega arith;
  }

  low-back : (low : List ℕ) → is_key s low ≡ true → IsReadBack counted low
  low-back low h = let short = short_key low h in counted-back low (omega arith)

  module _ {V : Type 0} (most : ℕ) (few : most ≤ 1027) (test : V → Bool) (cell : Codec V) (serves : Serves most test cell) where
    entry-back : (e : List ℕ × V) → (is_key s e.0 && test e.1) ≡ true → IsReadBack (both counted cell) e
    entry-back e h =
        let (key, value) = and_parts (is_key s e.0) (test e.1) h in
        both-back counted cell e (low-back e.0 key) (serves.back e.1 value)

    entry-short : (e : List ℕ × V) → (is_key s e.0 && test e.1) ≡ true → length ((both counted cell).encode e) ≤ 1284
    entry-short e h =
        let (key, value) = and_parts (is_key s e.0) (test e.1) h in
        let short = short_key e.0 key in
        let cell_short = serves.short e.1 value in
        let key_long = length-counted e.0 in
        let joined = length-append (counted.encode e.0) (cell.encode e.1) in
        omega arith

    few_entries : (es : List (List ℕ × V)) → are_entries s test es ≡ true → length es ≤ 64
    few_entries es h =
        let long = leb-true (length es) s.fan (and_parts _ _ (and_parts _ _ h).0).0 in
        let most = limits.fan in omega arith

    each_is : (P : List ℕ × V → Type 0) → ((e : List ℕ × V) → (is_key s e.0 && test e.1) ≡ true → P e)
        → (es : List (List ℕ × V)) → are_entries s test es ≡ true → AllByRecursion P es
    each_is P f es h = all_are es (and_parts _ _ h).1
      where
        all_are : (es : List (List ℕ × V)) → list_all (λ e. is_key s e.0 && test e.1) es ≡ true → AllByRecursion P es
        all_are [] h = tt
        all_are (e ∷ es) h = let (one, rest) = and_parts _ _ h in (f e one, all_are es rest)

    pub entries-back : (es : List (List ℕ × V)) → are_entries s test es ≡ true → IsReadBack (listed (both counted cell)) es
    entries-back es h =
        let few = few_entries es h in
        listed-back (both counted cell) es (omega arith) (each_is (IsReadBack (both counted cell)) entry-back es h)

    pub entries-short : (es : List (List ℕ × V)) → are_entries s test es ≡ true → length ((listed (both counted cell)).encode es) ≤ 90000
    entries-short es h =
        let few = few_entries es h in
        let all = all_short (both counted cell) es (each_is (λ e. length ((both counted cell).encode e) ≤ 1284) entry-short es h) in
        omega arith

  module _ {V : Type 0} (test : V → Bool) (cell : Codec V) (serves : Serves 1026 test cell) where
    base_entry : (e : List ℕ × V) → (is_key s e.0 && test e.1) ≡ true → (length e.0 < 256) × IsReadBack cell e.1
    base_entry e h =
        let (key, value) = and_parts (is_key s e.0) (test e.1) h in
        let short = short_key e.0 key in
        (omega arith, serves.back e.1 value)

    full-back : (encoding : KeyEncoding) (low : List ℕ) (base : List (List ℕ × V)) → is_full s test low base ≡ true → IsReadBack (full encoding cell) (low, base)
    full-back encoding low base h =
        let (key, entries) = and_parts (is_key s low) (are_entries s test base) h in
        let few = few_entries 1026 (omega arith) test cell serves base entries in
        let each = each_is 1026 (omega arith) test cell serves (λ e. (length e.0 < 256) × IsReadBack cell e.1) base_entry base entries in
        both_by-back counted (based encoding cell) (low, base) (low-back low key) (base-back cell encoding low base (omega arith) each)

    full-short : (encoding : KeyEncoding) (low : List ℕ) (base : List (List ℕ × V)) → is_full s test low base ≡ true → length ((full encoding cell).encode (low, base)) ≤ 91000
    full-short encoding low base h =
        let (key, entries) = and_parts (is_key s low) (are_entries s test base) h in
        let short = short_key low key in
        let long = length-counted low in
        let rest = entries-short 1026 (omega arith) test cell serves base entries in
        let most = base-shorter cell encoding low base in
        let joined = length-append (counted.encode low) ((based encoding cell low).encode base) in
        omega arith

    run-back : (run : List (List ℕ × Option V)) → is_run s test run ≡ true → IsReadBack (delta cell) run
    run-back run h = entries-back 1027 (omega arith) (of_cell test) (flagged cell) (flag-serves test cell serves) run (and_parts _ _ h).1

    run-short : (run : List (List ℕ × Option V)) → is_run s test run ≡ true → length ((delta cell).encode run) ≤ 90000
    run-short run h = entries-short 1027 (omega arith) (of_cell test) (flagged cell) (flag-serves test cell serves) run (and_parts _ _ h).1

  content-back : (c : Content) → is_content s c ≡ true → (rest : List ℕ) → read_content (kind_of c) (content_bytes c ++ rest) ≡ gave c rest
  content-back (FullLeaf Whole low base) h rest = ap (read_as (λ p. FullLeaf Whole p.0 p.1)) (full-back (is_short_value s) value_cell value-serves Whole low base h rest)
  content-back (FullLeaf PrefixCompressed low base) h rest = ap (read_as (λ p. FullLeaf PrefixCompressed p.0 p.1)) (full-back (is_short_value s) value_cell value-serves PrefixCompressed low base h rest)
  content-back (DeltaLeaf run) h rest = ap (read_as (λ r. DeltaLeaf r)) (run-back (is_short_value s) value_cell value-serves run h rest)
  content-back (FullIndex Whole low base) h rest = ap (read_as (λ p. FullIndex Whole p.0 p.1)) (full-back is_pid pid_cell pid-serves Whole low base h rest)
  content-back (FullIndex PrefixCompressed low base) h rest = ap (read_as (λ p. FullIndex PrefixCompressed p.0 p.1)) (full-back is_pid pid_cell pid-serves PrefixCompressed low base h rest)
  content-back (DeltaIndex run) h rest = ap (read_as (λ r. DeltaIndex r)) (run-back is_pid pid_cell pid-serves run h rest)
  content-back Free h rest = refl

  pub content-short : (c : Content) → is_content s c ≡ true → length (content_bytes c) ≤ 91000
  content-short (FullLeaf encoding low base) h = full-short (is_short_value s) value_cell value-serves encoding low base h
  content-short (DeltaLeaf run) h = let short = run-short (is_short_value s) value_cell value-serves run h in omega arith
  content-short (FullIndex encoding low base) h = full-short is_pid pid_cell pid-serves encoding low base h
  content-short (DeltaIndex run) h = let short = run-short is_pid pid_cell pid-serves run h in omega arith
  content-short Free h = omega arith

-- ---- frames

small_kind : (c : Content) → kind_of c < 256
small_kind (FullLeaf Whole low base) = omega arith
small_kind (FullLeaf PrefixCompressed low base) = omega arith
small_kind (DeltaLeaf run) = omega arith
small_kind (FullIndex Whole low base) = omega arith
small_kind (FullIndex PrefixCompressed low base) = omega arith
small_kind (DeltaIndex run) = omega arith
small_kind Free = omega arith

header-back : (kind len pid : ℕ) → kind < 256 → len < 4294967296 → pid < 2 ^ 64 → IsReadBack header ((kind, len), pid)
header-back kind len pid k l p =
    both-back (both (number 1) (number 4)) pid_cell ((kind, len), pid) (both-back (number 1) (number 4) (kind, len) (number-back 1 kind k) (number-back 4 len l)) (pid-back pid p)

module _ (g : Format) (limits : AreInLimits g.settings) where
  pub any-back : (f : Frame) → is_frame g f ≡ true → (rest : List ℕ) → read_any (bytes_of f ++ rest) ≡ gave f rest
  any-back f h rest =
      let (pid, allowed) = and_parts (is_pid f.pid) (is_allowed g f.content) h in
      let (readable, content) = and_parts (is_readable g.version f.content) (is_content g.settings f.content) allowed in
      let c = f.content in
      let n = 8 + length (content_bytes c) in
      let short = content-short g.settings limits c content in
      ap read_any (append_assoc (header.encode ((kind_of c, n), f.pid)) (content_bytes c) rest)
      ∙ ap (λ o. read_on o read_after) (header-back (kind_of c) n f.pid (small_kind c) (omega arith) (pid-is f.pid pid) (content_bytes c ++ rest))
      ∙ ap (λ o. read_as (λ d. record { pid = f.pid; content = d }) (read_where (λ d. n == 8 + length (content_bytes d)) o)) (content-back g.settings limits c content rest)
      ∙ rw (eq-eqb n n refl) refl

  pub frame-back : (f : Frame) → is_frame g f ≡ true → (rest : List ℕ) → read_frame g (bytes_of f ++ rest) ≡ gave f rest
  frame-back f h rest = rw (any-back f h rest) (rw h refl)

-- no frame's bytes begin another's
pub same_frame : (g : Format) (e f : Frame) (u v : List ℕ) → first_bad_field g.settings ≡ None → is_frame g e ≡ true → is_frame g f ≡ true
    → bytes_of e ++ u ≡ bytes_of f ++ v → (e ≡ f) × (u ≡ v)
same_frame g e f u v good he hf same =
    let limits = in_limits g.settings good in
    same_reading e f u v (sym (frame-back g limits e he u) ∙ ap (read_frame g) same ∙ frame-back g limits f hf v)
