-- Consequences of the sizes of a content: the length of its encoding, and that it is a frame's content if its cells are valid.
use Rattle.std.proofs.Common.{◌≡◌, ℕ, ◌*◌, ◌^◌, ◌<◌, ◌≤◌, Bool, true, ◌&&◌, List, [], ◌∷◌, length, flat_map, Option, Some, None, refl, arith, length-append, leb-true}
use Rattle.std.proofs.lemmas.Bool.{and_parts}
use Rattle.std.specs.Cmp.Derive.{both_true}
use Rattle.std.specs.List.{list_all}
use Rattle.keys.specs.Cells.{Codec, counted, value_cell, pid_cell}
use Rattle.keys.specs.Limits.{first_bad_field}
use Rattle.keys.specs.declared.settings.Settings.{Settings}
use Rattle.keys.proofs.CellLemmas.{length-counted}
use Rattle.index_page.specs.Rules.{is_short_value, is_any_pid, of_cell}
use Rattle.frame_codec.specs.Appended.{AreEncodable}
use Rattle.frame_codec.specs.Codecs.{both, encode_flag, flagged}
use Rattle.frame_codec.specs.declared.format.Format.{Format}
use Rattle.frame_codec.specs.declared.format.KeyEncoding.{KeyEncoding}
use Rattle.frame_codec.specs.Frame.{Content, Frame, based, full, delta, is_pid, is_key, are_entries, is_full, is_run, is_content, is_readable, is_allowed, is_frame}
use Rattle.frame_codec.specs.Frame.Content.{FullLeaf, DeltaLeaf, FullIndex, DeltaIndex, Free}
use Rattle.frame_codec.specs.Sized.{has_sizes, IsSized, FitsU64}
use Rattle.frame_codec.proofs.BaseLemmas.{base-shorter}
use Rattle.frame_codec.proofs.FrameLemmas.{AreInLimits, in_limits}

-- ---- lengths

-- no encoding of a cell that passes the test is longer than this
abbrev pub IsShortest : {V : Type 0} → ℕ → Codec V → (V → Bool) → Type 0
IsShortest {V = V} most cell has = (v : V) → has v ≡ true → length (cell.encode v) ≤ most

-- the conditions under which entries within limits can be encoded
pub record AreShort {X : Type 0} (cell : Codec X) (es : List (List ℕ × X)) : Type 0 where
  pub count : length es ≤ 64
  pub small : AreEncodable cell es
  pub few : length (flat_map (both counted cell).encode es) ≤ 90000

module _ (s : Settings) (limits : AreInLimits s) where
  short_key : (k : List ℕ) → is_key s k ≡ true → length k ≤ 255
  short_key k h = let most = limits.max_key in let long = leb-true (length k) s.max_key h in omega arith

  module _ {X : Type 0} (cell : Codec X) (has : X → Bool) (short : IsShortest 1027 cell has) where
    each_short : (es : List (List ℕ × X)) → list_all (λ e. is_key s e.0 && has e.1) es ≡ true → AreEncodable cell es × (length (flat_map (both counted cell).encode es) ≤ length es * 1284)
    each_short [] h = (tt, omega arith)
    each_short (e ∷ es) h =
        let (one, rest) = and_parts _ _ h in
        let (key, value) = and_parts (is_key s e.0) (has e.1) one in
        let of_key = short_key e.0 key in
        let of_value = short e.1 value in
        let key_long = length-counted e.0 in
        let inner = length-append (counted.encode e.0) (cell.encode e.1) in
        let outer = length-append ((both counted cell).encode e) (flat_map (both counted cell).encode es) in
        let (small, few) = each_short es rest in
        (((omega arith, omega arith), small), omega arith)

    entries_short : (es : List (List ℕ × X)) → are_entries s has es ≡ true → AreShort cell es
    entries_short es h =
        let (sized, each) = and_parts _ _ h in
        let count = leb-true (length es) s.fan (and_parts _ _ sized).0 in
        let most = limits.fan in
        let (small, few) = each_short es each in
        record { count = omega arith; small = small; few = omega arith }

  module _ {V : Type 0} (cell : Codec V) (has : V → Bool) (short : IsShortest 1026 cell has) where
    pub full-short : (low : List ℕ) (base : List (List ℕ × V)) → is_full s has low base ≡ true → (length low ≤ 255) × AreShort cell base
    full-short low base h =
        let (key, entries) = and_parts (is_key s low) (are_entries s has base) h in
        (short_key low key, entries_short cell has (λ v k. let one = short v k in omega arith) base entries)

    flag_short : (o : Option V) → of_cell has o ≡ true → length (encode_flag cell o) ≤ 1027
    flag_short None h = omega arith
    flag_short (Some v) h = let one = short v h in omega arith

    pub run-short : (run : List (List ℕ × Option V)) → is_run s has run ≡ true → AreShort (flagged cell) run
    run-short run h = entries_short (flagged cell) (of_cell has) flag_short run (and_parts _ _ h).1

  value_short : IsShortest 1026 value_cell (is_short_value s)
  value_short v h = let most = limits.max_value in let long = leb-true (length v) s.max_value h in let counted = length-counted v in omega arith

pub pid_short : IsShortest 1026 pid_cell is_any_pid
pid_short p h = omega arith

-- the same of a content of each kind
pub leaf-short : (encoding : KeyEncoding) (low : List ℕ) (base : List (List ℕ × List ℕ)) → IsSized (FullLeaf encoding low base) → (length low ≤ 255) × AreShort value_cell base
leaf-short encoding low base (s, good, h) = let limits = in_limits s good in full-short s limits value_cell (is_short_value s) (value_short s limits) low base h

pub leaf_run-short : (run : List (List ℕ × Option (List ℕ))) → IsSized (DeltaLeaf run) → AreShort (flagged value_cell) run
leaf_run-short run (s, good, h) = let limits = in_limits s good in run-short s limits value_cell (is_short_value s) (value_short s limits) run h

pub index-short : (encoding : KeyEncoding) (low : List ℕ) (base : List (List ℕ × ℕ)) → IsSized (FullIndex encoding low base) → (length low ≤ 255) × AreShort pid_cell base
index-short encoding low base (s, good, h) = full-short s (in_limits s good) pid_cell is_any_pid pid_short low base h

pub index_run-short : (run : List (List ℕ × Option ℕ)) → IsSized (DeltaIndex run) → AreShort (flagged pid_cell) run
index_run-short run (s, good, h) = run-short s (in_limits s good) pid_cell is_any_pid pid_short run h

pub full-few : {V : Type 0} (encoding : KeyEncoding) (cell : Codec V) (low : List ℕ) (base : List (List ℕ × V)) → length low ≤ 255 → AreShort cell base → length ((full encoding cell).encode (low, base)) < 2 ^ 31
full-few encoding cell low base key entries =
    let long = length-counted low in
    let joined = length-append (counted.encode low) ((based encoding cell low).encode base) in
    let most = base-shorter cell encoding low base in
    let few = entries.few in
    omega arith

pub delta-few : {V : Type 0} (cell : Codec V) (run : List (List ℕ × Option V)) → AreShort (flagged cell) run → length ((delta cell).encode run) < 2 ^ 31
delta-few cell run changes = let few = changes.few in omega arith

-- ---- page ids of 64 bits

are_words : (s : Settings) (X : Type 0) (has word short : X → Bool) → ((v : X) → has v ≡ true → word v ≡ true → short v ≡ true)
    → (es : List (List ℕ × X)) → list_all (λ e. is_key s e.0 && has e.1) es ≡ true → list_all (λ e. word e.1) es ≡ true → list_all (λ e. is_key s e.0 && short e.1) es ≡ true
are_words s X has word short by [] h w = refl
are_words s X has word short by (e ∷ es) h w =
    let (one, rest) = and_parts _ _ h in
    let (key, value) = and_parts (is_key s e.0) (has e.1) one in
    let (here, words) = and_parts (word e.1) (list_all (λ e. word e.1) es) w in
    both_true (both_true key (by e.1 value here)) (are_words s X has word short by es rest words)

word_entries : (s : Settings) (X : Type 0) (has word short : X → Bool) → ((v : X) → has v ≡ true → word v ≡ true → short v ≡ true)
    → (es : List (List ℕ × X)) → are_entries s has es ≡ true → list_all (λ e. word e.1) es ≡ true → are_entries s short es ≡ true
word_entries s X has word short by es h w =
    let (sized, each) = and_parts _ _ h in both_true sized (are_words s X has word short by es each w)

any_cell : (o : Option ℕ) → of_cell is_any_pid o ≡ true → of_cell is_pid o ≡ true → of_cell is_pid o ≡ true
any_cell o h w = w

pub leaf-words : (pid : ℕ) (encoding : KeyEncoding) (low : List ℕ) (base : List (List ℕ × List ℕ)) → is_pid pid ≡ true → FitsU64 (record { pid = pid; content = FullLeaf encoding low base })
leaf-words pid encoding low base p g r h = both_true p (both_true r h)

pub leaf_run-words : (pid : ℕ) (run : List (List ℕ × Option (List ℕ))) → is_pid pid ≡ true → FitsU64 (record { pid = pid; content = DeltaLeaf run })
leaf_run-words pid run p g r h = both_true p (both_true r h)

pub index-words : (pid : ℕ) (encoding : KeyEncoding) (low : List ℕ) (base : List (List ℕ × ℕ)) → is_pid pid ≡ true → list_all (λ e. is_pid e.1) base ≡ true → FitsU64 (record { pid = pid; content = FullIndex encoding low base })
index-words pid encoding low base p w g r h =
    let s = g.settings in
    let (key, entries) = and_parts (is_key s low) (are_entries s is_any_pid base) h in
    both_true p (both_true r (both_true key (word_entries s ℕ is_any_pid is_pid is_pid (λ v k l. l) base entries w)))

pub index_run-words : (pid : ℕ) (run : List (List ℕ × Option ℕ)) → is_pid pid ≡ true → list_all (λ e. of_cell is_pid e.1) run ≡ true → FitsU64 (record { pid = pid; content = DeltaIndex run })
index_run-words pid run p w g r h =
    let (some, entries) = and_parts _ _ h in
    both_true p (both_true r (both_true some (word_entries g.settings (Option ℕ) (of_cell is_any_pid) (of_cell is_pid) (of_cell is_pid) any_cell run entries w)))

-- ---- the sizes of a frame

any_pids : (s : Settings) (es : List (List ℕ × ℕ)) → list_all (λ e. is_key s e.0 && is_pid e.1) es ≡ true → list_all (λ e. is_key s e.0 && is_any_pid e.1) es ≡ true
any_pids s [] h = refl
any_pids s (e ∷ es) h =
    let (one, rest) = and_parts _ _ h in
    both_true (both_true (and_parts (is_key s e.0) (is_pid e.1) one).0 refl) (any_pids s es rest)

any_changes : (s : Settings) (es : List (List ℕ × Option ℕ)) → list_all (λ e. is_key s e.0 && of_cell is_pid e.1) es ≡ true → list_all (λ e. is_key s e.0 && of_cell is_any_pid e.1) es ≡ true
any_changes s [] h = refl
any_changes s ((k, None) ∷ es) h =
    let (one, rest) = and_parts _ _ h in both_true one (any_changes s es rest)
any_changes s ((k, Some p) ∷ es) h =
    let (one, rest) = and_parts _ _ h in
    both_true (both_true (and_parts (is_key s k) (is_pid p) one).0 refl) (any_changes s es rest)

sizes-content : (s : Settings) (c : Content) → is_content s c ≡ true → has_sizes s c ≡ true
sizes-content s (FullLeaf encoding low base) h = h
sizes-content s (DeltaLeaf run) h = h
sizes-content s (FullIndex encoding low base) h =
    let (key, entries) = and_parts (is_key s low) (are_entries s is_pid base) h in
    let (sized, each) = and_parts _ _ entries in
    both_true key (both_true sized (any_pids s base each))
sizes-content s (DeltaIndex run) h =
    let (some, entries) = and_parts _ _ h in
    let (sized, each) = and_parts _ _ entries in
    both_true some (both_true sized (any_changes s run each))
sizes-content s Free h = refl

pub sized-frame : (f : Frame) → ((g : Format) × (first_bad_field g.settings ≡ None) × (is_frame g f ≡ true)) → IsSized f.content
sized-frame f (g, good, h) =
    let allowed = (and_parts (is_pid f.pid) (is_allowed g f.content) h).1 in
    (g.settings, good, sizes-content g.settings f.content (and_parts (is_readable g.version f.content) (is_content g.settings f.content) allowed).1)
