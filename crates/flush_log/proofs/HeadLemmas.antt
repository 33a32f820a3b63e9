-- The log from the next segment on: the frames found, without those of the head segment.
use Rattle.std.specs.Prelude.{◌≡◌, ℕ, zero, suc, ◌+◌, ◌-◌, ◌*◌, ◌/◌, ◌%◌, ◌≤◌, ◌<◌, Bool, true, false, not, nat_eq, List, [], ◌∷◌, ◌++◌, length, if◌then◌else◌, map, take, drop, Result, Ok, Err}
use Rattle.std.specs.List.{AllByRecursion, filter, starts_with}
use Rattle.std.proofs.Common.{refl, sym, ap, ◌∙◌, arith, subst, append_assoc, append-nil}
use Rattle.std.proofs.lemmas.Bool.{eq-eqb, ne_eqb}
use Rattle.std.proofs.lemmas.List.Elements.{filter-append}
use Rattle.keys.specs.declared.settings.Settings.{Settings}
use Rattle.keys.specs.declared.fault.Fault.{Fault}
use Rattle.keys.specs.declared.fault.Fault.TheVariants.{BadSegment}
use Rattle.frame_codec.specs.declared.format.Format.{Format}
use Rattle.frame_codec.specs.Frame.{Frame}
use Rattle.flush_log.specs.Reading.{Found, all_in, is_at_tail, is_padding, in_segment, read_frames, read_segment, followed_by, read_earlier, read_log, log_between}
use Rattle.flush_log.specs.Segments.{segment_header, segment_bytes, last_segment, bytes_in_use}
use Rattle.index_page.proofs.ListLemmas.{all_weaker}
use Rattle.flush_log.specs.Layout.{placed_from, past_header, found_in_text}
use Rattle.flush_log.proofs.LayoutLemmas.{found_at, by_places, split-tail, Start, starts}
use Rattle.flush_log.proofs.LayoutLemmas.Start.{Inside, Following}
use Rattle.flush_log.proofs.SegmentLemmas.{in_segment-ok}
use Rattle.flush_log.proofs.ReadBackLemmas.{ok, followed_by-ok}

-- ---- what is read in parts

followed_by-assoc : (x y z : Result (List Found) Fault) → followed_by (followed_by x y) z ≡ followed_by x (followed_by y z)
followed_by-assoc (Ok a) (Ok b) (Ok c) = ap ok (append_assoc a b c)
followed_by-assoc (Ok a) (Ok b) (Err fault) = refl
followed_by-assoc (Ok a) (Err fault) z = refl
followed_by-assoc (Err fault) y z = refl

none-followed : (x : Result (List Found) Fault) → followed_by (ok []) x ≡ x
none-followed (Ok a) = refl
none-followed (Err fault) = refl

followed-none : (x : Result (List Found) Fault) → followed_by x (ok []) ≡ x
followed-none (Ok a) = ap ok (append-nil a)
followed-none (Err fault) = refl

-- ---- the segments of what was found

abbrev AreIn : ℕ → ℕ → List Found → Type 0
AreIn low high found = AllByRecursion (λ f. (low ≤ f.segment) × (f.segment ≤ high)) found

are-joined : (low high : ℕ) (a b : List Found) → AreIn low high a → AreIn low high b → AreIn low high (a ++ b)
are-joined low high [] b ha hb = hb
are-joined low high (f ∷ a) b ha hb = (ha.0, are-joined low high a b ha.1 hb)

are-wider : (low high lower higher : ℕ) (a : List Found) → lower ≤ low → high ≤ higher → AreIn low high a → AreIn lower higher a
are-wider low high lower higher [] l h ha = tt
are-wider low high lower higher (f ∷ a) l h ha = (let one = ha.0 in (omega (arith, one), omega (arith, one)), are-wider low high lower higher a l h ha.1)

all-in : (n : ℕ) (fs : List Frame) → AreIn n n (all_in n fs)
all-in n [] = tt
all-in n (f ∷ fs) = ((omega arith, omega arith), all-in n fs)

-- the frames found in segment n are there
segment-ok : (g : Format) (is_end : List ℕ → Bool) (n : ℕ) (bytes : List ℕ) (found : List Found) → read_segment g is_end n bytes ≡ ok found → (fs : List Frame) × (found ≡ all_in n fs)
segment-ok g is_end n bytes found = of (starts_with nat_eq bytes (segment_header n))
  where
    of : (b : Bool) → (if b then in_segment n (length bytes) (read_frames g is_end (length bytes) (drop 16 bytes)) else Err (BadSegment n)) ≡ ok found → (fs : List Frame) × (found ≡ all_in n fs)
    of true h = let (fs, read, all) = in_segment-ok n (length bytes) (read_frames g is_end (length bytes) (drop 16 bytes)) found h in (fs, all)
    of false h = absurd (cc)

module _ (g : Format) (file : List ℕ) where
  earlier-first : (head k : ℕ) → read_earlier g file head (suc k) ≡ followed_by (read_segment g is_padding head (segment_bytes g.settings file head)) (read_earlier g file (suc head) k)
  earlier-first head zero =
      let same : head + 0 ≡ head = omega arith in
      none-followed (read_segment g is_padding (head + 0) (segment_bytes g.settings file (head + 0)))
      ∙ ap (λ (n : ℕ). read_segment g is_padding n (segment_bytes g.settings file n)) same
      ∙ sym (followed-none (read_segment g is_padding head (segment_bytes g.settings file head)))
  earlier-first head (suc k) =
      let same : head + suc k ≡ suc head + k = omega arith in
      let first : Result (List Found) Fault = read_segment g is_padding head (segment_bytes g.settings file head) in
      ap (λ (x : Result (List Found) Fault). followed_by x (read_segment g is_padding (head + suc k) (segment_bytes g.settings file (head + suc k)))) (earlier-first head k)
      ∙ followed_by-assoc first (read_earlier g file (suc head) k) (read_segment g is_padding (head + suc k) (segment_bytes g.settings file (head + suc k)))
      ∙ ap (λ (n : ℕ). followed_by first (followed_by (read_earlier g file (suc head) k) (read_segment g is_padding n (segment_bytes g.settings file n)))) same

  log-first : (head k used : ℕ) → read_log g file head (suc k) used ≡ followed_by (read_segment g is_padding head (segment_bytes g.settings file head)) (read_log g file (suc head) k used)
  log-first head k used =
      let same : head + suc k ≡ suc head + k = omega arith in
      let first : Result (List Found) Fault = read_segment g is_padding head (segment_bytes g.settings file head) in
      ap (λ (x : Result (List Found) Fault). followed_by x (read_segment g is_at_tail (head + suc k) (take used (segment_bytes g.settings file (head + suc k))))) (earlier-first head k)
      ∙ followed_by-assoc first (read_earlier g file (suc head) k) (read_segment g is_at_tail (head + suc k) (take used (segment_bytes g.settings file (head + suc k))))
      ∙ ap (λ (n : ℕ). followed_by first (followed_by (read_earlier g file (suc head) k) (read_segment g is_at_tail n (take used (segment_bytes g.settings file n))))) same

  segment-in : (is_end : List ℕ → Bool) (n : ℕ) (bytes : List ℕ) (found : List Found) → read_segment g is_end n bytes ≡ ok found → AreIn n n found
  segment-in is_end n bytes found h = let (fs, all) = segment-ok g is_end n bytes found h in subst (λ (xs : List Found). AreIn n n xs) (sym all) (all-in n fs)

  earlier-in : (head k : ℕ) (found : List Found) → read_earlier g file head k ≡ ok found → AreIn head (head + k) found
  earlier-in head zero found h = let none : [] ≡ found = cc in subst (λ (xs : List Found). AreIn head (head + 0) xs) none tt
  earlier-in head (suc k) found h =
      let (before, more, old, read, all) = followed_by-ok (read_earlier g file head k) (read_segment g is_padding (head + k) (segment_bytes g.settings file (head + k))) found h in
      subst (λ (xs : List Found). AreIn head (head + suc k) xs) (sym all) (are-joined head (head + suc k) before more
      (are-wider head (head + k) head (head + suc k) before (omega arith) (omega arith) (earlier-in head k before old))
      (are-wider (head + k) (head + k) head (head + suc k) more (omega arith) (omega arith) (segment-in is_padding (head + k) (segment_bytes g.settings file (head + k)) more read)))

  log-in : (head k used : ℕ) (found : List Found) → read_log g file head k used ≡ ok found → AreIn head (head + k) found
  log-in head k used found h =
      let (before, more, old, read, all) = followed_by-ok (read_earlier g file head k) (read_segment g is_at_tail (head + k) (take used (segment_bytes g.settings file (head + k)))) found h in
      subst (λ (xs : List Found). AreIn head (head + k) xs) (sym all) (are-joined head (head + k) before more (earlier-in head k before old)
      (are-wider (head + k) (head + k) head (head + k) more (omega arith) (omega arith) (segment-in is_at_tail (head + k) (take used (segment_bytes g.settings file (head + k))) more read)))

-- ---- the head segment taken off

filter-none : (n : ℕ) (fs : List Frame) → filter (λ f. not (nat_eq f.segment n)) (all_in n fs) ≡ []
filter-none n [] = refl
filter-none n (f ∷ fs) = rw (eq-eqb n n refl) (filter-none n fs)

filter-all : (n high : ℕ) (found : List Found) → AllByRecursion (λ f. (suc n ≤ f.segment) × (f.segment ≤ high)) found → filter (λ f. not (nat_eq f.segment n)) found ≡ found
filter-all n high [] above = refl
filter-all n high (f ∷ found) above = rw (ne_eqb f.segment n (λ e. let one = above.0 in omega (arith, one, e))) (ap (λ (xs : List Found). f ∷ xs) (filter-all n high found above.1))

module _ (g : Format) (file : List ℕ) (head tail : ℕ) (found : List Found) (more : head < last_segment g.settings tail) (read : log_between g file head tail ≡ ok found) where
  -- the frames found in the head segment, and the rest, which are those found from the next segment on
  pub record HeadOff : Type 0 where
    pub here : List Frame
    pub rest : List Found
    pub all : found ≡ all_in head here ++ rest
    pub later : AllByRecursion (λ f. (suc head ≤ f.segment) × (f.segment ≤ last_segment g.settings tail)) rest
    pub read_on : log_between g file (suc head) tail ≡ ok rest

  -- the same of segments that are counted
  off_by : (count k used : ℕ) → count ≡ suc k → read_log g file head count used ≡ ok found
      → (in_head rest : List Found) × (read_segment g is_padding head (segment_bytes g.settings file head) ≡ ok in_head) × (read_log g file (suc head) k used ≡ ok rest) × (found ≡ in_head ++ rest)
  off_by count k used is reads =
      followed_by-ok (read_segment g is_padding head (segment_bytes g.settings file head)) (read_log g file (suc head) k used) found
      (sym (log-first g file head k used) ∙ subst (λ (n : ℕ). read_log g file head n used ≡ ok found) is reads)

  made_of : (in_head rest : List Found) → read_segment g is_padding head (segment_bytes g.settings file head) ≡ ok in_head → log_between g file (suc head) tail ≡ ok rest → found ≡ in_head ++ rest → HeadOff
  made_of in_head rest first following all =
      let (here, are) = segment-ok g is_padding head (segment_bytes g.settings file head) in_head first in
      record {
        here = here;
        rest = rest;
        all = all ∙ ap (λ (xs : List Found). xs ++ rest) are;
        later = are-wider (suc head) (suc head + (last_segment g.settings tail - suc head)) (suc head) (last_segment g.settings tail) rest (omega arith) (omega (arith, more))
            (log-in g file (suc head) (last_segment g.settings tail - suc head) (bytes_in_use g.settings tail) rest following);
        read_on = following;
      }

  pub head-off : HeadOff
  head-off = let parts = off_by (last_segment g.settings tail - head) (last_segment g.settings tail - suc head) (bytes_in_use g.settings tail) (omega (arith, more)) read in made_of parts.0 parts.1 parts.2 parts.3 parts.4

  pub head-filtered : log_between g file (suc head) tail ≡ ok (filter (λ f. not (nat_eq f.segment head)) found)
  head-filtered =
      let off = head-off in
      off.read_on
      ∙ ap ok (sym (ap (λ (xs : List Found). filter (λ f. not (nat_eq f.segment head)) xs) off.all
      ∙ filter-append (λ f. not (nat_eq f.segment head)) (all_in head off.here) off.rest
      ∙ ap (λ (xs : List Found). xs ++ filter (λ f. not (nat_eq f.segment head)) off.rest) (filter-none head off.here)
      ∙ filter-all head (last_segment g.settings tail) off.rest off.later))

module _ (g : Format) where
  -- all frames found are in segments from the head to the last one
  pub found-in : (file : List ℕ) (head tail : ℕ) (found : List Found) → 0 < g.settings.seg_size → head * g.settings.seg_size < tail → log_between g file head tail ≡ ok found
      → AllByRecursion (λ f. (head ≤ f.segment) × (f.segment ≤ last_segment g.settings tail)) found
  found-in file head tail found some h read =
      let split = split-tail g.settings head tail some h in
      let from = split.from in
      are-wider head (head + (last_segment g.settings tail - head)) head (last_segment g.settings tail) found (omega arith) (omega (arith, from)) (log-in g file head (last_segment g.settings tail - head) (bytes_in_use g.settings tail) found read)

module _ (s : Settings) where
  placed-from : (n offset : ℕ) (fs : List Frame) → AllByRecursion (λ f. n ≤ f.segment) (map found_at (placed_from s n offset fs))
  placed-from =
      by_places s (λ n offset fs ps. AllByRecursion (λ f. n ≤ f.segment) (map found_at ps))
      (λ n offset. tt)
      (λ n offset f fs ps fit later. (omega arith, later))
      (λ n offset f fs ps later. (omega arith, all_weaker (λ f. suc n ≤ f.segment) (λ f. n ≤ f.segment) (λ f l. omega arith) (map found_at ps) later))

  -- new frames are in no segment before that of the tail
  pub text-in : (tail : ℕ) (text : List Frame) → 0 < s.seg_size → 0 < tail → AllByRecursion (λ f. last_segment s tail ≤ f.segment) (found_in_text s tail text)
  text-in tail text some h =
      let split = split-tail s 0 tail some (omega arith) in
      from_start (last_segment s tail) (bytes_in_use s tail) (tail / s.seg_size) (tail % s.seg_size) text (starts s (last_segment s tail) (bytes_in_use s tail) tail split.is split.high some)
    where
      from_start : (q used n at : ℕ) (text : List Frame) → Start s q used n at → AllByRecursion (λ f. q ≤ f.segment) (map found_at (placed_from s n (past_header at) text))
      from_start q used n at text (Inside room) = placed-from q (past_header used) text
      from_start q used n at text (Following full) = all_weaker (λ f. suc q ≤ f.segment) (λ f. q ≤ f.segment) (λ f l. omega arith) (map found_at (placed_from s (suc q) 16 text)) (placed-from (suc q) 16 text)
