-- The settings block is decoded again, and decoded settings are encoded in the bytes.
use Rattle.std.proofs.Common.{◌≡◌, ℕ, ◌+◌, ◌*◌, ◌≤◌, Bool, true, false, ◌&&◌, if◌then◌else◌, nat_le, is_none, List, ◌++◌, length, take, replicate, Option, Some, None, Result, Ok, Err, refl, sym, ap, ◌∙◌, subst, arith, bytes_eq, le-leb, leb-true}
use Rattle.std.proofs.lemmas.Bool.{and_parts, and_from}
use Rattle.std.proofs.lemmas.Slice.Eq.{bytes_eq-Decides}
use Rattle.keys.specs.Cells.{number}
use Rattle.keys.specs.Limits.{first_bad_field}
use Rattle.keys.specs.declared.settings.Settings.{Settings}
use Rattle.keys.specs.declared.settings.Field.{Field}
use Rattle.keys.specs.declared.fault.Fault.{Fault}
use Rattle.keys.specs.declared.fault.Fault.TheVariants.{NotAStore}
use Rattle.keys.proofs.CellLemmas.{number-back}
use Rattle.flush_log.specs.SettingsBlock.{number_or_0, settings_block, settings_in, read_settings, where_it_has_room, store_settings}
use Rattle.keys.proofs.LimitLemmas.{AreChecked, checked}

-- a record of the same fields
same_settings : (s t : Settings) → s.fan ≡ t.fan → s.chain ≡ t.chain → s.max_key ≡ t.max_key → s.max_value ≡ t.max_value → s.seg_size ≡ t.seg_size → s.segments ≡ t.segments → s ≡ t
same_settings s t a b c d e f =
    let made : ℕ → ℕ → ℕ → ℕ → ℕ → ℕ → Settings = λ fan chain max_key max_value seg_size segments. record { fan = fan; chain = chain; max_key = max_key; max_value = max_value; seg_size = seg_size; segments = segments } in
    ap (λ x. made x s.chain s.max_key s.max_value s.seg_size s.segments) a
    ∙ ap (λ x. made t.fan x s.max_key s.max_value s.seg_size s.segments) b
    ∙ ap (λ x. made t.fan t.chain x s.max_value s.seg_size s.segments) c
    ∙ ap (λ x. made t.fan t.chain t.max_key x s.seg_size s.segments) d
    ∙ ap (λ x. made t.fan t.chain t.max_key t.max_value x s.segments) e
    ∙ ap (λ x. made t.fan t.chain t.max_key t.max_value t.seg_size x) f

module _ (s : Settings) where
  -- the bytes after each number of the block
  abbrev after_segments : List ℕ
  after_segments = replicate 40 0

  abbrev after_seg_size : List ℕ
  after_seg_size = (number 4).encode s.segments ++ after_segments

  abbrev after_max_value : List ℕ
  after_max_value = (number 4).encode s.seg_size ++ after_seg_size

  abbrev after_max_key : List ℕ
  after_max_key = (number 2).encode s.max_value ++ after_max_value

  abbrev after_chain : List ℕ
  after_chain = (number 2).encode s.max_key ++ after_max_key

  abbrev after_fan : List ℕ
  after_fan = (number 2).encode s.chain ++ after_chain

  block_in : AreChecked s → settings_in (settings_block s) ≡ s
  block_in c =
      same_settings (settings_in (settings_block s)) s
      (ap number_or_0 (number-back 2 s.fan (let h = c.fan in omega arith) after_fan))
      (ap number_or_0 (number-back 2 s.chain (let h = c.chain in omega arith) after_chain))
      (ap number_or_0 (number-back 2 s.max_key (let h = c.max_key in omega arith) after_max_key))
      (ap number_or_0 (number-back 2 s.max_value (let h = c.max_value in omega arith) after_max_value))
      (ap number_or_0 (number-back 4 s.seg_size (let h = c.seg_size in omega (arith, h.1)) after_seg_size))
      (ap number_or_0 (number-back 4 s.segments (let h = c.segments in omega (arith, h.1)) after_segments))

  pub settings-back : first_bad_field s ≡ None → read_settings (settings_block s) ≡ Some s
  settings-back good =
      ap (λ (t : Settings). if bytes_eq (settings_block t) (settings_block s) && is_none (first_bad_field t) then Some t else None) (block_in (checked s good))
      ∙ ap (λ (b : Bool). if b then Some s else None)
      (and_from _ _ ((bytes_eq-Decides (settings_block s) (settings_block s)).1 refl) (ap (λ (o : Option Field). is_none o) good))

-- a choice that came out
chosen : (b : Bool) (x s : Settings) → (if b then Some x else None) ≡ Some s → (b ≡ true) × (x ≡ s)
chosen true x s h = (refl, cc)
chosen false x s h = absurd (cc)

none_is : (o : Option Field) → is_none o ≡ true → o ≡ None
none_is None h = refl
none_is (Some f) h = absurd (cc)

-- decoded settings are encoded in the bytes, and are valid
pub settings-stand : (bytes : List ℕ) (s : Settings) → read_settings bytes ≡ Some s → (bytes ≡ settings_block s) × (first_bad_field s ≡ None)
settings-stand bytes s h =
    let (passed, is) = chosen _ (settings_in bytes) s h in
    let (same, good) = and_parts (bytes_eq (settings_block (settings_in bytes)) bytes) (is_none (first_bad_field (settings_in bytes))) passed in (
      sym ((bytes_eq-Decides (settings_block (settings_in bytes)) bytes).0 same) ∙ ap settings_block is,
      ap (λ (t : Settings). first_bad_field t) (sym is) ∙ none_is (first_bad_field (settings_in bytes)) good,
    )

-- ---- of a disk

has_room : (disk : List ℕ) (o : Option Settings) (s : Settings) → where_it_has_room disk o ≡ Ok s → (o ≡ Some s) × (512 + s.segments * s.seg_size ≤ length disk)
has_room disk None s h = absurd (cc)
has_room disk (Some t) s h = of (nat_le (512 + t.segments * t.seg_size) (length disk)) refl h
  where
    of : (b : Bool) → nat_le (512 + t.segments * t.seg_size) (length disk) ≡ b → (let kept : Result Settings Fault = if b then Ok t else Err NotAStore in kept ≡ Ok s) → (Some t ≡ Some s) × (512 + s.segments * s.seg_size ≤ length disk)
    of true fits h =
        let is : t ≡ s = cc in
        let long = leb-true (512 + t.segments * t.seg_size) (length disk) fits in
        (ap (λ (x : Settings). Some x) is, subst (λ (x : Settings). 512 + x.segments * x.seg_size ≤ length disk) is long)
    of false fits h = absurd (cc)

pub store_settings-are : (disk : List ℕ) (s : Settings) → store_settings disk ≡ Ok s → (take 64 disk ≡ settings_block s) × (first_bad_field s ≡ None) × (512 + s.segments * s.seg_size ≤ length disk)
store_settings-are disk s h =
    let (read, room) = has_room disk (read_settings (take 64 disk)) s h in
    let (bytes, good) = settings-stand (take 64 disk) s read in
    (bytes, good, room)

pub store_settings-of : (disk : List ℕ) (s : Settings) → take 64 disk ≡ settings_block s → first_bad_field s ≡ None → 512 + s.segments * s.seg_size ≤ length disk → store_settings disk ≡ Ok s
store_settings-of disk s bytes good room =
    ap (λ (bs : List ℕ). where_it_has_room disk (read_settings bs)) bytes
    ∙ ap (λ (o : Option Settings). where_it_has_room disk o) (settings-back s good)
    ∙ ap (λ (b : Bool). let kept : Result Settings Fault = if b then Ok s else Err NotAStore in kept) (le-leb _ _ room)
