-- Reading a disk with a new store.
use Rattle.std.proofs.Common.{◌≡◌, ℕ, ◌+◌, ◌-◌, ◌*◌, ◌≤◌, true, List, [], ◌∷◌, ◌++◌, length, take, drop, None, Ok, refl, ap, ap₂, ◌∙◌, arith, le-leb}
use Rattle.std.proofs.Math.Nat.{mul-le-mul, zero-mod}
use Rattle.std.proofs.lemmas.Bool.{and_from}
use Rattle.std.proofs.lemmas.List.{take-take}
use Rattle.keys.specs.Limits.{first_bad_field}
use Rattle.keys.specs.declared.settings.Settings.{Settings}
use Rattle.frame_codec.specs.declared.format.Format.{Format}
use Rattle.frame_codec.specs.Frame.{bytes_of, is_frame}
use Rattle.flush_log.specs.Segments.{segment_header, place_of_segment, segment_bytes, last_segment, bytes_in_use}
use Rattle.flush_log.specs.Reading.{is_at_tail, read_segment, followed_by, read_earlier, read_log, log_between}
use Rattle.flush_log.specs.SettingsBlock.{store_settings}
use Rattle.flush_log.specs.Slot.{format_of, is_slot, read_slot, newer, store_slot}
use Rattle.flush_log.specs.NewStore.{first_frame, first_tail, first_slot, new_bytes, disk_of_new}
use Rattle.flush_log.proofs.FitLemmas.{are_sized}
use Rattle.flush_log.proofs.LayoutLemmas.{last-is}
use Rattle.flush_log.proofs.OverlayLemmas.{length-overlay}
use Rattle.flush_log.proofs.SettingsLemmas.{store_settings-of}
use Rattle.flush_log.proofs.SlotLemmas.{is-slot, said, closed, slot-back}
use Rattle.flush_log.proofs.SegmentLemmas.{tail-ends, header-holds, frame-holds, holds-read}
use Rattle.flush_log.proofs.NextSlotLemmas.{EndsIn, tail_good}

module _ (s : Settings) (disk : List ℕ) (good : first_bad_field s ≡ None) (room : 512 + s.segments * s.seg_size ≤ length disk) where
  abbrev new : List ℕ
  new = disk_of_new s disk

  -- its first bytes are there, with room for them
  new_fits : 0 + length (new_bytes s) ≤ length disk
  new_fits =
      let sized = are_sized s good in
      let least = mul-le-mul sized.least_count sized.least_size in
      let long : length (new_bytes s) ≡ 545 = refl in
      omega (arith, least, long)

  pub new_length : length new ≡ length disk
  new_length = length-overlay disk 0 (new_bytes s) new_fits

  pub new_settings : store_settings new ≡ Ok s
  new_settings = store_settings-of new s refl good (let same = new_length in omega arith)

  -- ---- the slot

  first_ends : EndsIn s first_tail 0 first_tail
  first_ends = let sized = are_sized s good in let least = sized.least_size in record { is = omega arith; low = omega arith; high = omega arith }

  first_last : last_segment s first_tail ≡ 0
  first_last =
      let least = (are_sized s good).least_size in
      let is : first_tail ≡ 0 * s.seg_size + first_tail = omega arith in
      ap (last_segment s) is ∙ last-is s 0 first_tail (omega arith) (omega arith)

  pub first_good : is_slot s 1 first_slot ≡ true
  first_good =
      let sized = are_sized s good in
      let size = sized.least_size in
      let count = sized.least_count in
      let last = first_last in
      is-slot s 1 first_slot (record {
        sequence = (omega arith, omega arith);
        own = refl;
        following = omega arith;
        tail = omega arith;
        ends = tail_good s first_tail 0 first_tail (omega arith) first_ends;
        last = omega arith;
        root = omega arith;
        height = (omega arith, omega arith);
      })

  pub new_slot : store_slot s new ≡ Ok first_slot
  new_slot =
      let size = (are_sized s good).least_size in
      let open_one : read_slot s 1 new ≡ said first_slot = slot-back s 1 first_slot new (omega arith) first_good refl in
      ap₂ newer (closed s 0 new refl) open_one

  -- ---- the log

  -- by what it is read
  abbrev g : Format
  g = format_of s first_slot

  first_within : is_frame g first_frame ≡ true
  first_within = and_from _ _ refl (and_from _ _ refl (and_from _ _ (le-leb 0 s.max_key (omega arith)) (and_from _ _ (and_from _ _ (le-leb 0 s.fan (omega arith)) refl) refl)))

  first_read : read_segment g is_at_tail 0 (segment_header 0 ++ bytes_of first_frame) ≡ Ok (record { segment = 0; frame = first_frame } ∷ [])
  first_read = holds-read g is_at_tail tail-ends 0 (segment_header 0 ++ bytes_of first_frame) [] (first_frame ∷ []) (frame-holds g good 0 (segment_header 0) [] first_frame first_within (header-holds g 0)) refl

  first_bytes : take first_tail (segment_bytes s new 0) ≡ segment_header 0 ++ bytes_of first_frame
  first_bytes =
      let size = (are_sized s good).least_size in
      let first : place_of_segment s 0 ≡ 512 + 0 * s.seg_size = ap (λ (m : ℕ). 512 + m * s.seg_size) (zero-mod s.segments) in
      let place : place_of_segment s 0 ≡ 512 = omega (arith, first) in
      take-take first_tail s.seg_size (drop (place_of_segment s 0) new) (omega arith) ∙ ap (λ (p : ℕ). take first_tail (drop p new)) place

  pub new_log : log_between g new 0 first_tail ≡ Ok (record { segment = 0; frame = first_frame } ∷ [])
  new_log =
      let all : first_tail - 0 * s.seg_size ≡ first_tail = omega arith in
      let used : bytes_in_use s first_tail ≡ first_tail = ap (λ (q : ℕ). first_tail - q * s.seg_size) first_last ∙ all in
      ap₂ (λ (q : ℕ) (u : ℕ). read_log g new 0 (q - 0) u) first_last used
      ∙ ap (λ (bs : List ℕ). followed_by (read_earlier g new 0 0) (read_segment g is_at_tail 0 bs)) first_bytes
      ∙ ap (followed_by (read_earlier g new 0 0)) first_read
