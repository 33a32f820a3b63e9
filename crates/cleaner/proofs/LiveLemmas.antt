-- The number of live bytes of a log, from the sizes that are retained of its pages.
use Rattle.std.specs.Prelude.{◌≡◌, ◌⊎◌, ℕ, ◌+◌, ◌-◌, ◌^◌, ◌≤◌, min, sum_by, List, [], ◌∷◌, Option, Some, None, Result, Ok, Err, MatchResult}
use Rattle.std.proofs.Common.{refl, sym, ap, ◌∙◌, inl, inr, arith}
use Rattle.std.specs.List.Sorted.{IsStrictlySortedBy}
use Rattle.std.specs.Map.{keys_of}
use Rattle.std.specs.Ordering.{nat_cmp}
use Rattle.std.proofs.lemmas.List.Sums.{sum_by-cons}
use Rattle.keys.specs.declared.fault.Fault.{Fault}
use Rattle.keys.specs.declared.fault.Fault.TheVariants.{NoMemory, BadStructure, NothingToClean}
use Rattle.mapping.specs.Finding.{Finding}
use Rattle.mapping.specs.Proper.{AreRisingPids}
use Rattle.frame_codec.specs.declared.format.Format.{Format}
use Rattle.flush_log.specs.Reading.{Found, log_between}
use Rattle.flush_log.specs.declared.slot.LogEnds.{LogEnds}
use Rattle.recovery.specs.Gathered.{live_frames, live_size, AreLive}
use Rattle.recovery.specs.LogPages.{broken_in}
use Rattle.recovery.specs.Recovered.{IsLate}
use Rattle.recovery.specs.StoreOfDisk.{frames_in}
use Rattle.recovery.specs.declared.gather.Gathering.{Gathering}
use Rattle.recovery.specs.declared.gather.Kept.{Kept}
use Rattle.recovery.specs.declared.gather.Wanted.{Wanted}
use Rattle.recovery.proofs.KeptPages.{KeepEach, first_is, later_are, in-order}
use Rattle.cleaner.specs.Live.{live_under, live_bytes, if_sound, live_found, live_in}
use Rattle.cleaner.specs.PagesRead.{PagesRead}

-- the sizes of the retained frames of these pages
abbrev pub sizes : List (ℕ × Kept) → ℕ
sizes es = sum_by (λ (e : ℕ × Kept). e.1.size) es

-- one page more
pub next-live : (live now : ℕ) (left rest every : List (ℕ × Kept)) (e : ℕ × Kept) → left ≡ e ∷ rest → min (live + sizes left) (2 ^ 64 - 1) ≡ min (sizes every) (2 ^ 64 - 1) → now ≡ min (live + e.1.size) (2 ^ 64 - 1)
    → min (now + sizes rest) (2 ^ 64 - 1) ≡ min (sizes every) (2 ^ 64 - 1)
next-live live now left rest every e is same next =
    let first = ap sizes is ∙ sum_by-cons (λ (e : ℕ × Kept). e.1.size) e rest in
    omega (arith, first, same, next)

-- all of them
pub all-live : (live : ℕ) (left every : List (ℕ × Kept)) → left ≡ [] → live ≤ 2 ^ 64 - 1 → min (live + sizes left) (2 ^ 64 - 1) ≡ min (sizes every) (2 ^ 64 - 1) → live ≡ min (sizes every) (2 ^ 64 - 1)
all-live live left every none fits same =
    let nothing : sizes left ≡ 0 = ap sizes none in
    omega (arith, nothing, fits, same)

-- the retained size of each page is that of its live frames
live-each : (w : Wanted) (found : List Found) (es : List (ℕ × Kept)) → AreRisingPids (keys_of es) → KeepEach w found es → sizes es ≡ live_under found (keys_of es)
live-each w found [] r h = refl
live-each w found ((k, v) ∷ es) r h =
    let here = (first_is w found k v es h).size in
    let later = live-each w found es r.1 (later_are w found k v es r h) in
    let first = sum_by-cons (λ (e : ℕ × Kept). e.1.size) (k, v) es in
    let second = sum_by-cons (λ pid. live_size (live_frames pid found)) k (keys_of es) in
    omega (arith, here, later, first, second)

pub kept-live : (w : Wanted) (g : Gathering) (found : List Found) → IsStrictlySortedBy nat_cmp (keys_of g.by_pid.entries) → AreLive w g found → min (sizes g.by_pid.entries) (2 ^ 64 - 1) ≡ live_bytes found
kept-live w g found sorted live =
    let order = in-order w g.by_pid found sorted live.kept in
    ap (λ (n : ℕ). min n (2 ^ 64 - 1)) (live-each w found g.by_pid.entries order.rise order.each ∙ ap (λ (ns : List ℕ). live_under found ns) order.all)

-- ---- a reading, and why it fails

module _ (g : Format) (e : LogEnds) (now : List ℕ) (found : List Found) (read : log_between g now e.head e.tail ≡ Ok found) (old new : ℕ) where
  pub new-live : (limit : ℕ) (Such : PagesRead → Type 0) (r : Result PagesRead Fault)
      → MatchResult r (λ r. (broken_in (frames_in found) ≡ None) × (r.limit ≡ limit) × (r.live ≡ live_bytes found) × Such r) (λ fault. (fault ≡ NoMemory) ⊎ ((f : Finding) × (broken_in (frames_in found) ≡ Some f) × (fault ≡ BadStructure f)))
      → MatchResult r (λ r. live_in g e now ≡ Some r.live) (λ fault. (fault ≡ NothingToClean) ⊎ IsLate old new fault ⊎ (live_in g e now ≡ None))
  new-live limit Such (Ok r) (sound, upto, same, rest) =
      ap live_found read ∙ ap (λ (o : Option Finding). if_sound o (live_bytes found)) sound ∙ ap (λ (n : ℕ). (let o : Option ℕ = Some n in o)) (sym same)
  new-live limit Such (Err fault) (inl memory) = inr (inl (inl memory))
  new-live limit Such (Err fault) (inr (f, broken, bad)) = inr (inr (ap live_found read ∙ ap (λ (o : Option Finding). if_sound o (live_bytes found)) broken))

-- a log with a fault has none
pub no-live : (g : Format) (e : LogEnds) (now : List ℕ) (fault : Fault) → log_between g now e.head e.tail ≡ Err fault → live_in g e now ≡ None
no-live g e now fault wrong = ap live_found wrong
