-- Reading a disk during a commit, and after it.
use Rattle.std.proofs.Common.{◌≡◌, ◌⊎◌, inl, inr, ⊎_elim, ℕ, suc, ◌+◌, ◌-◌, ◌*◌, ◌%◌, ◌<◌, ◌≤◌, Bool, true, ◌==◌, if◌then◌else◌, nat_le, List, ◌++◌, length, take, drop, Option, Some, None, Result, Ok, Err, sym, ap, ap₂, subst, ◌∙◌, arith}
use Rattle.std.proofs.lemmas.Bool.{cases_eq}
use Rattle.keys.specs.declared.settings.Settings.{Settings}
use Rattle.keys.specs.declared.fault.Fault.{Fault}
use Rattle.keys.specs.declared.fault.Fault.TheVariants.{NotAStore}
use Rattle.flush_log.specs.Overlay.{IsBeside, AgreeAt}
use Rattle.frame_codec.specs.declared.format.Format.{Format}
use Rattle.frame_codec.specs.Frame.{Frame}
use Rattle.index_page.proofs.ListLemmas.{all_weaker}
use Rattle.flush_log.specs.Segments.{place_of_segment, HasSegments, IsInLog, segment_bytes, last_segment, bytes_in_use}
use Rattle.flush_log.specs.Reading.{Found, log, log_between}
use Rattle.flush_log.specs.Layout.{Span, tail_after, found_in_text, spans, place_of_span, with_spans}
use Rattle.flush_log.specs.SettingsBlock.{read_settings, where_it_has_room, store_settings}
use Rattle.flush_log.specs.Slot.{Slot, slot_place, slot_bytes, format_of, is_slot, is_open, read_open, read_slot, newer, store_slot}
use Rattle.flush_log.specs.Commit.{LeftDuring, AreWithin, commit_calls, committed, HasRoom, IsBesideSpans, IsBesideSlot, IsUncommitted}
use Rattle.flush_log.proofs.OverlayLemmas.{overlay-beside, overlay-part, agree_then, agree_less, part_same}
use Rattle.flush_log.proofs.SlotLemmas.{IsSlot, Said, said, bytes_of_slot, closed, slot-back, slot-stands, slot-is, store_slot-read, store_slot-alone, store_slot-next}
use Rattle.flush_log.proofs.PlaceLemmas.{place-within}
use Rattle.flush_log.proofs.ReadBackLemmas.{log-same, text-back}
use Rattle.flush_log.proofs.HideLemmas.{in-segments, hidden, text-beside, text-inside}
use Rattle.flush_log.proofs.FitLemmas.{are_sized}
use Rattle.flush_log.proofs.CommitLemmas.{left-during, slot_low, low_beside, spans-beside}

-- ---- what agrees

same_room : (disk other : List ℕ) (o p : Option Settings) → length other ≡ length disk → o ≡ p → where_it_has_room other o ≡ where_it_has_room disk p
same_room disk other o None long same = ap (where_it_has_room other) same
same_room disk other o (Some s) long same =
    ap (where_it_has_room other) same
    ∙ ap (λ (n : ℕ). let kept : Result Settings Fault = if nat_le (512 + s.segments * s.seg_size) n then Ok s else Err NotAStore in kept) long

module _ (Such : ℕ → Type 0) (file c : List ℕ) (agree : AgreeAt Such file c) where
  pub settings_same : 64 ≤ length file → ((i : ℕ) → i < 64 → Such i) → store_settings c ≡ store_settings file
  settings_same long are =
      let part : take 64 (drop 0 c) ≡ take 64 (drop 0 file) = part_same Such file c 0 64 (omega arith) (λ i low high. are i (omega arith)) agree in
      same_room file c (read_settings (take 64 c)) (read_settings (take 64 file)) agree.long (ap read_settings part)

  pub slot_same : (s : Settings) (n : ℕ) → slot_place n + 64 ≤ length file → ((i : ℕ) → slot_place n ≤ i → i < slot_place n + 64 → Such i) → read_slot s n c ≡ read_slot s n file
  slot_same s n long are =
      let gate : is_open n c ≡ is_open n file = ap (λ (b : ℕ). b == 1) (agree.same (slot_place n) (are (slot_place n) (omega arith) (omega arith))) in
      let bytes : bytes_of_slot n c ≡ bytes_of_slot n file = part_same Such file c (slot_place n) 64 long are agree in
      let choice : Bool → List ℕ → Said = λ b bs. if b then read_open s n bs else Ok None in
      ap₂ choice gate bytes

-- the slots of a number and of the next one lie apart
apart : (n i : ℕ) → slot_place n ≤ i → i < slot_place n + 64 → IsBeside (slot_place (suc n)) 64 i
apart n i low high = elim (cases_eq (n % 2) 0) [ inl even ↦ inl (omega arith) | inr odd ↦ inr (omega arith) ]

-- ---- before

module _ (s : Settings) (n : ℕ) (spans : List Span) (file c : List ℕ) (long : 512 ≤ length file) where
  -- all but the slot and the spans is unchanged
  pub all_but : IsUncommitted s n spans file c → AgreeAt (IsBesideSlot s n spans) file c
  all_but (inl same) = agree_less (IsBesideSpans s spans) (IsBesideSlot s n spans) file c (λ i out. out.1) same
  all_but (inr (shut, same)) = same

  pub before-settings : IsUncommitted s n spans file c → store_settings c ≡ store_settings file
  before-settings before =
      settings_same (IsBesideSlot s n spans) file c (all_but before) (omega arith) (λ i low. (inl (omega arith), low_beside s spans i (omega arith)))

  slot_as_before : (m : ℕ) → AgreeAt (IsBesideSpans s spans) file c → read_slot s m c ≡ read_slot s m file
  slot_as_before m same =
      let low = slot_low m in
      slot_same (IsBesideSpans s spans) file c same s m (omega arith) (λ i from to. low_beside s spans i (omega arith))

pub before-slot : (s : Settings) (t : Slot) (spans : List Span) (file c : List ℕ) → 512 ≤ length file → store_slot s file ≡ Ok t → IsUncommitted s (suc t.sequence) spans file c → store_slot s c ≡ Ok t
before-slot s t spans file c long is (inl same) =
    ap₂ newer (slot_as_before s t.sequence spans file c long 0 same) (slot_as_before s t.sequence spans file c long 1 same) ∙ is
before-slot s t spans file c long is (inr (shut, same)) =
    let low = slot_low t.sequence in
    let kept : read_slot s t.sequence c ≡ read_slot s t.sequence file =
    slot_same (IsBesideSlot s (suc t.sequence) spans) file c same s t.sequence (omega arith)
    (λ i from to. (apart t.sequence i from to, low_beside s spans i (omega arith))) in
    store_slot-alone s c t (kept ∙ store_slot-read s file t is) (closed s (suc t.sequence) c shut)

-- ---- afterwards

module _ (s : Settings) (file : List ℕ) (spans : List Span) (u : Slot) (long : 512 ≤ length file) (fit : AreWithin s (length file) spans) where
  abbrev after : List ℕ
  after = committed s file spans u

  slot_fits : slot_place u.sequence + 64 ≤ length (with_spans s file spans)
  slot_fits = let low = slot_low u.sequence in let same = (spans-beside s spans file fit).long in omega arith

  written_beside : AgreeAt (IsBeside (slot_place u.sequence) 64) (with_spans s file spans) after
  written_beside = overlay-beside (with_spans s file spans) (slot_place u.sequence) (slot_bytes u) slot_fits

  after_but : AgreeAt (IsBesideSlot s u.sequence spans) file after
  after_but =
      agree_then (IsBesideSlot s u.sequence spans) file (with_spans s file spans) after
      (agree_less (IsBesideSpans s spans) (IsBesideSlot s u.sequence spans) file (with_spans s file spans) (λ i out. out.1) (spans-beside s spans file fit))
      (agree_less (IsBeside (slot_place u.sequence) 64) (IsBesideSlot s u.sequence spans) (with_spans s file spans) after (λ i out. out.0) written_beside)

  pub after-length : length after ≡ length file
  after-length = after_but.long

  pub after-settings : store_settings after ≡ store_settings file
  after-settings =
      settings_same (IsBesideSlot s u.sequence spans) file after after_but (omega arith) (λ i low. (inl (omega arith), low_beside s spans i (omega arith)))

  pub after-slot : (t : Slot) → 0 < s.seg_size → store_slot s file ≡ Ok t → u.sequence ≡ suc t.sequence → is_slot s u.sequence u ≡ true → store_slot s after ≡ Ok u
  after-slot t some is next good =
      let low = slot_low t.sequence in
      let kept : read_slot s t.sequence after ≡ read_slot s t.sequence file =
      slot_same (IsBesideSlot s u.sequence spans) file after after_but s t.sequence (omega arith)
      (λ i from to. (subst (λ (n : ℕ). IsBeside (slot_place n) 64 i) (sym next) (apart t.sequence i from to), low_beside s spans i (omega arith))) in
      let new : read_slot s u.sequence after ≡ said u =
      slot-back s u.sequence u after some good (overlay-part (with_spans s file spans) (slot_place u.sequence) (slot_bytes u) slot_fits) in
      store_slot-next s after t u (kept ∙ store_slot-read s file t is) (ap (λ (n : ℕ). read_slot s n after) (sym next) ∙ new) (omega arith)

  -- after the first 512 bytes, only the spans changed
  pub after-following : AgreeAt (λ i. 512 ≤ i) (with_spans s file spans) after
  after-following =
      let low = slot_low u.sequence in
      agree_less (IsBeside (slot_place u.sequence) 64) (λ i. 512 ≤ i) (with_spans s file spans) after (λ i high. inr (omega arith)) written_beside

-- the log is in those places only
pub log-following : (g : Format) (file other : List ℕ) → 0 < g.settings.segments → HasSegments g.settings file → AgreeAt (λ i. 512 ≤ i) file other → (head tail : ℕ) → log_between g other head tail ≡ log_between g file head tail
log-following g file other some whole same head tail =
    log-same g file other head (last_segment g.settings tail - head) (bytes_in_use g.settings tail) (λ m h. bytes (head + m))
    (ap (λ (bs : List ℕ). take (bytes_in_use g.settings tail) bs) (bytes (head + (last_segment g.settings tail - head))))
  where
    bytes : (n : ℕ) → segment_bytes g.settings other n ≡ segment_bytes g.settings file n
    bytes n =
        let room = place-within g.settings n some in
        part_same (λ i. 512 ≤ i) file other (place_of_segment g.settings n) g.settings.seg_size (omega arith) (λ i low high. omega arith) same

pub after-log : (g : Format) (file : List ℕ) (spans : List Span) (u : Slot) → HasSegments g.settings file → AreWithin g.settings (length file) spans → 0 < g.settings.segments → (head tail : ℕ)
    → log_between g (committed g.settings file spans u) head tail ≡ log_between g (with_spans g.settings file spans) head tail
after-log g file spans u whole fit some head tail =
    let long = (spans-beside g.settings spans file fit).long in
    log-following g (with_spans g.settings file spans) (committed g.settings file spans u) some (omega (arith, whole, long)) (after-following g.settings file spans u (omega (arith, whole)) fit) head tail

-- ---- the commit of some frames

pub within_more : (s : Settings) (m n : ℕ) (rs : List Span) → m ≤ n → AreWithin s m rs → AreWithin s n rs
within_more s m n rs more fit = all_weaker (λ r. place_of_span s r + length r.bytes ≤ m) (λ r. place_of_span s r + length r.bytes ≤ n) (λ r h. omega arith) rs fit

module _ (g : Format) (file : List ℕ) (t : Slot) (text : List Frame) (h : HasRoom g file t text) where
  -- the contents of the slot are well formed
  pub slot_good : IsSlot g.settings t.sequence t
  slot_good = slot-is g.settings t.sequence t (slot-stands g.settings t.sequence t file (store_slot-read g.settings file t h.slot)).good

  pub text-fits : AreWithin g.settings (length file) (spans g.settings t.tail text)
  text-fits =
      let following = slot_good.following in
      within_more g.settings (512 + g.settings.segments * g.settings.seg_size) (length file) (spans g.settings t.tail text) h.whole (text-inside g h.good t.head t.tail text (omega arith) h.within h.free)

  -- the log is unchanged
  pub before-log : (c : List ℕ) → IsUncommitted g.settings (suc t.sequence) (spans g.settings t.tail text) file c → log g.settings c t ≡ log g.settings file t
  before-log c before =
      let following = slot_good.following in
      let sized = are_sized g.settings h.good in
      let size = sized.least_size in
      let count = sized.least_count in
      let low = slot_low (suc t.sequence) in
      hidden (format_of g.settings t) file c t.head t.tail (omega arith) (omega arith) h.whole (omega arith)
      (agree_less (IsBesideSlot g.settings (suc t.sequence) (spans g.settings t.tail text)) (IsInLog g.settings t.head t.tail) file c
      (λ i in_log. (inr (let high = (in-segments g.settings t.head t.tail i (omega arith) in_log).0 in omega arith), text-beside g h.good t.head t.tail text (omega arith) h.within h.free i in_log))
      (all_but g.settings (suc t.sequence) (spans g.settings t.tail text) file c (let all = h.whole in omega arith) before))

  -- the new frames are read after the old ones
  pub after-text : (u : Slot) (found : List Found) → log_between g file t.head t.tail ≡ Ok found → log_between g (committed g.settings file (spans g.settings t.tail text) u) t.head (tail_after g.settings t.tail text) ≡ Ok (found ++ found_in_text g.settings t.tail text)
  after-text u found read =
      let following = slot_good.following in
      let count = (are_sized g.settings h.good).least_count in
      after-log g file (spans g.settings t.tail text) u h.whole text-fits (omega arith) t.head (tail_after g.settings t.tail text)
      ∙ text-back g h.good file t.head t.tail found text h.whole h.within (omega arith) read h.free

  -- a crash at any moment of its commit leaves the store's settings, slot and log, or all that was committed
  pub text-crash : (u : Slot) → u.sequence ≡ suc t.sequence → (c : List ℕ) → LeftDuring (commit_calls g.settings file (spans g.settings t.tail text) u) file c →
      ((store_settings c ≡ store_settings file) × (store_slot g.settings c ≡ Ok t) × (log g.settings c t ≡ log g.settings file t)) ⊎ (c ≡ committed g.settings file (spans g.settings t.tail text) u)
  text-crash u next c left =
      let long : 512 ≤ length file = let all = h.whole in omega arith in
      ⊎_elim
      (λ before.
      let hid : IsUncommitted g.settings (suc t.sequence) (spans g.settings t.tail text) file c = subst (λ (n : ℕ). IsUncommitted g.settings n (spans g.settings t.tail text) file c) next before in
      inl (before-settings g.settings (suc t.sequence) (spans g.settings t.tail text) file c long hid, before-slot g.settings t (spans g.settings t.tail text) file c long h.slot hid, before-log c hid))
      (λ whole. inr whole)
      (left-during g.settings file (spans g.settings t.tail text) u long text-fits c left)
