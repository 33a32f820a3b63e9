-- Consequences of valid settings for segments; a frame within the settings fits into a segment, after its header.
use Rattle.std.specs.Prelude.{◌≡◌, ℕ, ◌+◌, ◌*◌, ◌≤◌, max, Bool, true, ◌&&◌, nat_lt, List, [], ◌∷◌, length, Option, Some, None}
use Rattle.std.specs.List.{list_all, sum_by}
use Rattle.std.proofs.Common.{arith, leb-true}
use Rattle.std.proofs.Math.Nat.{le-max_left, le-max_right, mul-le-mul_right}
use Rattle.std.proofs.lemmas.Bool.{and_parts}
use Rattle.std.proofs.lemmas.List.Sums.{sum_by-cons}
use Rattle.keys.specs.Limits.{longest_change, longest_frame, first_bad_field}
use Rattle.keys.specs.Sizes.{length_size, pid_size, segment_header_size, full_header_size, pair_header_size, child_header_size, change_header_size}
use Rattle.keys.specs.declared.settings.Settings.{Settings}
use Rattle.keys.proofs.LimitLemmas.{checked}
use Rattle.index_page.specs.Rules.{is_short_value, of_cell}
use Rattle.frame_codec.specs.declared.format.Format.{Format}
use Rattle.frame_codec.specs.declared.format.KeyEncoding.TheVariants.{Whole}
use Rattle.frame_codec.specs.Frame.{Content, Frame, bytes_of, is_pid, is_key, are_entries, is_content, is_readable, is_allowed, is_frame}
use Rattle.frame_codec.specs.Frame.Content.{FullLeaf, DeltaLeaf, FullIndex, DeltaIndex, Free}
use Rattle.frame_codec.specs.Sizes.{where_present, size_of}
use Rattle.frame_codec.proofs.SizeLemmas.{frame-size, leaf-shorter, index-shorter}

-- ---- settings

-- what is asked of the sizes that the log depends on
pub record AreSized (s : Settings) : Type 0 where
  pub least_size : 256 ≤ s.seg_size
  pub most_size : s.seg_size ≤ 1048576
  pub least_count : 3 ≤ s.segments
  pub most_count : s.segments ≤ 65536
  pub longest : longest_frame s ≤ s.seg_size

pub are_sized : (s : Settings) → first_bad_field s ≡ None → AreSized s
are_sized s h =
    let all = checked s h in
    record { least_size = all.seg_size.0; most_size = all.seg_size.1; least_count = all.segments.0; most_count = all.segments.1; longest = all.longest }

-- ---- frames

module _ {X : Type 0} (s : Settings) (is_short : X → Bool) (size : List ℕ × X → ℕ) (most : ℕ) (bound : (e : List ℕ × X) → length e.0 ≤ s.max_key → is_short e.1 ≡ true → size e ≤ most) where
  sum_bound : (es : List (List ℕ × X)) → list_all (λ e. is_key s e.0 && is_short e.1) es ≡ true → sum_by size es ≤ length es * most
  sum_bound [] h = omega arith
  sum_bound (e ∷ es) h =
      let (one, rest) = and_parts _ _ h in
      let (key, short) = and_parts (is_key s e.0) (is_short e.1) one in
      let here = bound e (leb-true (length e.0) s.max_key key) short in
      let there = sum_bound es rest in
      let sum = sum_by-cons size e es in
      omega arith

  entries_bound : (es : List (List ℕ × X)) → are_entries s is_short es ≡ true → sum_by size es ≤ s.fan * most
  entries_bound es h =
      let (sized, each) = and_parts _ _ h in
      let few : length es ≤ s.fan = leb-true (length es) s.fan (and_parts _ _ sized).0 in
      let sum = sum_bound es each in
      let all : length es * most ≤ s.fan * most = mul-le-mul_right most few in
      omega arith

module _ (s : Settings) where
  short_value : (v : List ℕ) → is_short_value s v ≡ true → length_size + length v ≤ max (length_size + s.max_value) pid_size
  short_value v h = let short = leb-true (length v) s.max_value h in let most = le-max_left (length_size + s.max_value) pid_size in omega arith

  flagged_value : (o : Option (List ℕ)) → of_cell (is_short_value s) o ≡ true → where_present (λ v. length_size + length v) o ≤ max (length_size + s.max_value) pid_size
  flagged_value None h = omega arith
  flagged_value (Some v) h = short_value v h

  flagged_pid : (o : Option ℕ) → where_present (λ p. pid_size) o ≤ max (length_size + s.max_value) pid_size
  flagged_pid None = omega arith
  flagged_pid (Some p) = le-max_right (length_size + s.max_value) pid_size

  content_bound : (c : Content) → is_content s c ≡ true → size_of c ≤ full_header_size + s.max_key + s.fan * longest_change s
  content_bound (FullLeaf encoding low base) h =
      let (key, entries) = and_parts _ _ h in
      let low_short = leb-true (length low) s.max_key key in
      let sum = entries_bound s (is_short_value s) (λ e. pair_header_size + length e.0 + length e.1) (longest_change s) (λ e k v. let short = short_value e.1 v in omega arith) base entries in
      let whole : size_of (FullLeaf Whole low base) ≤ full_header_size + s.max_key + s.fan * longest_change s = omega arith in
      let shorter = leaf-shorter encoding low base in
      omega (arith, whole, shorter)
  content_bound (DeltaLeaf run) h =
      let (some, changes) = and_parts (nat_lt 0 (length run)) (are_entries s (of_cell (is_short_value s)) run) h in
      let sum = entries_bound s (of_cell (is_short_value s)) (λ e. change_header_size + length e.0 + where_present (λ v. length_size + length v) e.1) (longest_change s) (λ e k v. let short = flagged_value e.1 v in omega arith) run changes in
      omega arith
  content_bound (FullIndex encoding low base) h =
      let (key, entries) = and_parts _ _ h in
      let low_short = leb-true (length low) s.max_key key in
      let most = le-max_right (length_size + s.max_value) pid_size in
      let sum = entries_bound s is_pid (λ e. child_header_size + length e.0) (longest_change s) (λ e k v. omega arith) base entries in
      let whole : size_of (FullIndex Whole low base) ≤ full_header_size + s.max_key + s.fan * longest_change s = omega arith in
      let shorter = index-shorter encoding low base in
      omega (arith, whole, shorter)
  content_bound (DeltaIndex run) h =
      let (some, changes) = and_parts (nat_lt 0 (length run)) (are_entries s (of_cell is_pid) run) h in
      let sum = entries_bound s (of_cell is_pid) (λ e. change_header_size + length e.0 + where_present (λ p. pid_size) e.1) (longest_change s) (λ e k v. let short = flagged_pid e.1 in omega arith) run changes in
      omega arith
  content_bound Free h = omega arith

pub frame_fits : (g : Format) (f : Frame) → first_bad_field g.settings ≡ None → is_frame g f ≡ true → segment_header_size + length (bytes_of f) ≤ g.settings.seg_size
frame_fits g f good within =
    let s : Settings = g.settings in
    let sized = (are_sized s good).longest in
    let size = frame-size f in
    let (known, sized_content) = and_parts (is_readable g.version f.content) (is_content s f.content) (and_parts (is_pid f.pid) (is_allowed g f.content) within).1 in
    let bound = content_bound s f.content sized_content in
    omega arith
