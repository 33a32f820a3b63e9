-- Consequences of valid settings for each field.
use Rattle.std.proofs.Common.{◌≡◌, ℕ, ◌≤◌, Bool, true, false, if◌then◌else◌, nat_le, Some, None, refl, leb-true}
use Rattle.std.proofs.lemmas.Bool.{and_parts}
use Rattle.keys.specs.Limits.{is_in_limits, longest_frame, first_bad_field}
use Rattle.keys.specs.declared.settings.Settings.{Settings}
use Rattle.keys.specs.declared.settings.Field.TheVariants.{Fan, Chain, MaxKey, MaxValue, SegSize, Segments}

pub within : (least most n : ℕ) → is_in_limits least most n ≡ true → (least ≤ n) × (n ≤ most)
within least most n h =
    let (low, high) = and_parts (nat_le least n) (nat_le n most) h in
    (leb-true least n low, leb-true n most high)

pub record AreChecked (s : Settings) : Type 0 where
  pub fan : s.fan ≤ 64
  pub chain : s.chain ≤ 16
  pub max_key : s.max_key ≤ 255
  pub max_value : s.max_value ≤ 1024
  pub seg_size : (256 ≤ s.seg_size) × (s.seg_size ≤ 1048576)
  pub segments : (3 ≤ s.segments) × (s.segments ≤ 65536)
  pub longest : longest_frame s ≤ s.seg_size

all_true : (fan chain key value size count long : Bool) →
    (if fan then (if chain then (if key then (if value then (if size then (if count then (if long then None else Some SegSize) else Some Segments) else Some SegSize) else Some MaxValue) else Some MaxKey) else Some Chain) else Some Fan) ≡ None →
    (fan ≡ true) × (chain ≡ true) × (key ≡ true) × (value ≡ true) × (size ≡ true) × (count ≡ true) × (long ≡ true)
all_true true true true true true true true h = (refl, refl, refl, refl, refl, refl, refl)
all_true true true true true true true false h = absurd (cc)
all_true true true true true true false long h = absurd (cc)
all_true true true true true false count long h = absurd (cc)
all_true true true true false size count long h = absurd (cc)
all_true true true false value size count long h = absurd (cc)
all_true true false key value size count long h = absurd (cc)
all_true false chain key value size count long h = absurd (cc)

pub checked : (s : Settings) → first_bad_field s ≡ None → AreChecked s
checked s h =
    let (fan, chain, key, value, size, count, long) =
    all_true (is_in_limits 4 64 s.fan) (is_in_limits 1 16 s.chain) (is_in_limits 1 255 s.max_key) (is_in_limits 0 1024 s.max_value) (is_in_limits 256 1048576 s.seg_size)
    (is_in_limits 3 65536 s.segments) (nat_le (longest_frame s) s.seg_size) h in
    record {
      fan = (within 4 64 s.fan fan).1;
      chain = (within 1 16 s.chain chain).1;
      max_key = (within 1 255 s.max_key key).1;
      max_value = (within 0 1024 s.max_value value).1;
      seg_size = within 256 1048576 s.seg_size size;
      segments = within 3 65536 s.segments count;
      longest = leb-true (longest_frame s) s.seg_size long;
    }
