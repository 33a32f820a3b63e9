-- The frames found in a log, after one more segment at a time.
use Rattle.std.specs.Prelude.{◌≡◌, ℕ, true, false, List, [], ◌∷◌, ◌++◌, map, fold, Option, Some, None, is_some, Result, Ok, Err, MatchResult, Vec, ◌⊎◌}
use Rattle.std.specs.declared.alloc.Global.{Global}
use Rattle.std.proofs.Common.{refl, sym, ap, ◌∙◌, subst, inl, append_assoc, append-nil}
use Rattle.keys.specs.declared.fault.Fault.{Fault}
use Rattle.std.specs.List.{AllByRecursion}
use Rattle.frame_codec.specs.declared.format.Format.{Format}
use Rattle.frame_codec.specs.Frame.{is_frame}
use Rattle.flush_log.specs.Reading.{Found, followed_by}
use Rattle.recovery.specs.Gathered.{AreLive, AreGathered, IsPartialLog}
use Rattle.recovery.specs.Recovered.{IsLate}
use Rattle.recovery.specs.Scan.{HeldSegment, scanned, HeldFrame, said_of_frame, said_of, held_frame, frames_held, said_by_scan}
use Rattle.recovery.specs.declared.gather.Gathering.{Gathering}
use Rattle.recovery.specs.declared.gather.Wanted.{Wanted}
use Rattle.recovery.specs.declared.scan_segment.ScanDone.{ScanDone}
use Rattle.recovery.specs.declared.scan_segment.ScannedFrame.{ScannedFrame}

-- ---- the segments

abbrev pub ReadResult : Type 0
ReadResult = Result (List Found) Fault

abbrev all : List Found → ReadResult
all found = Ok found

abbrev broken : Fault → ReadResult
broken fault = Err fault

module _ (w : Wanted) (gathering : Gathering) where
  -- without a fault the frames are gathered
  pub found-of : (o : Option Fault) (state : ReadResult) → is_some o ≡ false → IsPartialLog w gathering o state → (found : List Found) × (state ≡ all found) × AreLive w gathering found
  found-of None state none h = h
  found-of (Some fault) state none h = absurd (cc)

  pub found-none : (o : Option Fault) (state : ReadResult) → o ≡ None → IsPartialLog w gathering o state → (found : List Found) × (state ≡ all found) × AreLive w gathering found
  found-none None state none h = h
  found-none (Some fault) state none h = absurd (cc)

  pub fault-some : (o : Option Fault) (state : ReadResult) (fault : Fault) → o ≡ Some fault → IsPartialLog w gathering o state → state ≡ broken fault
  fault-some None state fault some h = absurd (cc)
  fault-some (Some g) state fault some h = let is : g ≡ fault = cc in h ∙ ap broken is

-- ---- what was scanned is gathered

abbrev Said : Type 0
Said = Result (List HeldFrame) Fault

abbrev said : List HeldFrame → Said
said hs = Ok hs

abbrev none_said : Fault → Said
none_said fault = Err fault

-- these frames of segment n, or of several, remain, and those before them are retained
pub record AreAfter (w : Wanted) (gathering : Gathering) (n : ℕ) (every : List Found) (left : List ScannedFrame) : Type 0 where
  pub front : List Found
  pub more : List Found
  pub all : front ++ more ≡ every
  pub same : map said_of_frame more ≡ map (held_frame n) left
  pub live : AreLive w gathering front

pub following-next : (w : Wanted) (gathering next : Gathering) (n : ℕ) (every : List Found) (left rest : List ScannedFrame) (k : ScannedFrame) → left ≡ k ∷ rest → AreAfter w gathering n every left
    → ((found : List Found) (f : Found) → said_of_frame f ≡ held_frame n k → AreLive w gathering found → AreLive w next (found ++ f ∷ [])) → AreAfter w next n every rest
following-next w gathering next n every left rest k is h add = of h.more h.all (h.same ∙ ap (λ (ks : List ScannedFrame). map (held_frame n) ks) is)
  where
    of : (more : List Found) → h.front ++ more ≡ every → map said_of_frame more ≡ held_frame n k ∷ map (held_frame n) rest → AreAfter w next n every rest
    of [] all same = absurd (cc)
    of (f ∷ fs) all same =
        let one : said_of_frame f ≡ held_frame n k = cc in
        let following : map said_of_frame fs ≡ map (held_frame n) rest = cc in
        record {
          front = h.front ++ f ∷ [];
          more = fs;
          all = append_assoc h.front (f ∷ []) fs ∙ all;
          same = following;
          live = add h.front f one h.live;
        }

pub following-none : (w : Wanted) (gathering : Gathering) (n : ℕ) (every : List Found) (left : List ScannedFrame) → left ≡ [] → AreAfter w gathering n every left → AreLive w gathering every
following-none w gathering n every left none h = of h.more h.all (h.same ∙ ap (λ (ks : List ScannedFrame). map (held_frame n) ks) none)
  where
    of : (more : List Found) → h.front ++ more ≡ every → map said_of_frame more ≡ [] → AreLive w gathering every
    of [] all same = subst (λ (fs : List Found). AreLive w gathering fs) (sym (append-nil h.front) ∙ all) h.live
    of (f ∷ fs) all same = absurd (cc)

-- ---- the segments

-- after a fault nothing counts
pub broken-stays : (fault : Fault) (read : List ReadResult) → fold followed_by (broken fault) read ≡ broken fault
broken-stays fault [] = refl
broken-stays fault (r ∷ read) = broken-stays fault read

pub stays-broken : (w : Wanted) (gathering : Gathering) (o : Option Fault) (state : ReadResult) (read : List ReadResult) → is_some o ≡ true → IsPartialLog w gathering o state → IsPartialLog w gathering o (fold followed_by state read)
stays-broken w gathering None state read some h = absurd (cc)
stays-broken w gathering (Some fault) state read some h = ap (λ (t : ReadResult). fold followed_by t read) h ∙ broken-stays fault read

-- which segment gave frames, and which a fault
ok_of : (hs : List HeldFrame) (r : ReadResult) → said_of r ≡ said hs → (more : List Found) × (r ≡ all more) × (map said_of_frame more ≡ hs)
ok_of hs (Ok more) e = (more, refl, cc)
ok_of hs (Err fault) e = absurd (cc)

err_of : (fault : Fault) (r : ReadResult) → said_of r ≡ none_said fault → r ≡ broken fault
err_of fault (Ok more) e = absurd (cc)
err_of fault (Err other) e = let is : other ≡ fault = cc in ap broken is

-- these scans of segments remain
pub record AreLeft (w : Wanted) (gathering : Gathering) (o : Option Fault) (every : ReadResult) (left : List ScanDone) : Type 0 where
  pub so_far : ReadResult
  pub read : List ReadResult
  pub all : fold followed_by so_far read ≡ every
  pub same : map said_of read ≡ map said_by_scan left
  pub is : IsPartialLog w gathering o so_far

-- the first of them
record IsFirst (every so_far : ReadResult) (d : ScanDone) (rest : List ScanDone) : Type 0 where
  one : ReadResult
  following : List ReadResult
  state : said_of one ≡ said_by_scan d
  same : map said_of following ≡ map said_by_scan rest
  all : fold followed_by (followed_by so_far one) following ≡ every

first_of : (every so_far : ReadResult) (read : List ReadResult) (d : ScanDone) (rest : List ScanDone) → fold followed_by so_far read ≡ every → map said_of read ≡ said_by_scan d ∷ map said_by_scan rest → IsFirst every so_far d rest
first_of every so_far [] d rest all same = absurd (cc)
first_of every so_far (r ∷ rs) d rest all same = record { one = r; following = rs; state = cc; same = cc; all = all }

module _ (w : Wanted) (gathering : Gathering) (o : Option Fault) (every : ReadResult) (left rest : List ScanDone) (d : ScanDone) (is : left ≡ d ∷ rest) (none : o ≡ None) (h : AreLeft w gathering o every left) where
  first : IsFirst every h.so_far d rest
  first = first_of every h.so_far h.read d rest h.all (h.same ∙ ap (λ (ds : List ScanDone). map said_by_scan ds) is)

  -- which has no fault
  pub left-ok : (next : Gathering) (n : ℕ) (frames : Vec ScannedFrame Global) → d.segment.number ≡ n → d.scan ≡ Ok frames
      → ((found more : List Found) → map said_of_frame more ≡ map (held_frame n) frames.items → AreLive w gathering found → AreLive w next (found ++ more)) → AreLeft w next o every rest
  left-ok next n frames number ok add =
      let f = first in
      let (found, state, live) = found-none w gathering o h.so_far none h.is in
      let (more, one, same) = ok_of (map (held_frame n) frames.items) f.one (f.state ∙ ap (λ (m : ℕ). frames_held m d.scan) number ∙ ap (λ r. frames_held n r) ok) in
      let both : followed_by h.so_far f.one ≡ all (found ++ more) = ap (λ (t : ReadResult). followed_by t f.one) state ∙ ap (λ (t : ReadResult). followed_by (all found) t) one in
      record {
        so_far = followed_by h.so_far f.one;
        read = f.following;
        all = f.all;
        same = f.same;
        is = subst (λ (p : Option Fault). IsPartialLog w next p (followed_by h.so_far f.one)) (sym none) (found ++ more, both, add found more same live);
      }

  -- or which has one
  pub left-err : (fault : Fault) → d.scan ≡ Err fault → every ≡ broken fault
  left-err fault err =
      let f = first in
      let (found, state, live) = found-none w gathering o h.so_far none h.is in
      let one = err_of fault f.one (f.state ∙ ap (λ r. frames_held d.segment.number r) err) in
      sym f.all ∙ ap (λ (t : ReadResult). fold followed_by t f.following) (ap (λ (t : ReadResult). followed_by t f.one) state ∙ ap (λ (t : ReadResult). followed_by (all found) t) one) ∙ broken-stays fault f.following

-- if none remains
pub left-none : (w : Wanted) (gathering : Gathering) (o : Option Fault) (every : ReadResult) (left : List ScanDone) → left ≡ [] → AreLeft w gathering o every left → IsPartialLog w gathering o every
left-none w gathering o every left none h = of h.read h.all (h.same ∙ ap (λ (ds : List ScanDone). map said_by_scan ds) none)
  where
    of : (read : List ReadResult) → fold followed_by h.so_far read ≡ every → map said_of read ≡ [] → IsPartialLog w gathering o every
    of [] all same = subst (λ (t : ReadResult). IsPartialLog w gathering o t) all h.is
    of (r ∷ rs) all same = absurd (cc)

-- ---- the result of a round

scans-each : (s : Format) (gs : List HeldSegment) → map said_of (map (scanned s) gs) ≡ map (λ g. said_of (scanned s g)) gs
scans-each s [] = refl
scans-each s (g ∷ gs) = ap (λ (rs : List Said). said_of (scanned s g) ∷ rs) (scans-each s gs)

pub scans-made : (s own : Format) (gs : List HeldSegment) (made : List Said) → own ≡ s → made ≡ map (λ g. said_of (scanned own g)) gs → map said_of (map (scanned s) gs) ≡ made
scans-made s own gs made same is = scans-each s gs ∙ ap (λ (t : Format). map (λ g. said_of (scanned t g)) gs) (sym same) ∙ sym is

-- ---- the whole log

-- a store may have the gathered frames, because the log is read in this way
pub gathered-all : (s : Format) (w : Wanted) (old new : ℕ) (state : ReadResult) → ((found : List Found) → state ≡ all found → AllByRecursion (λ f. is_frame s f.frame ≡ true) found)
    → (r : Result Gathering Fault) → MatchResult r (λ g. (found : List Found) × (state ≡ Ok found) × AreLive w g found) (λ fault. state ≡ Err fault)
    → MatchResult r (λ g. (found : List Found) × (state ≡ Ok found) × AreGathered s w g found) (λ fault. (state ≡ Err fault) ⊎ IsLate old new fault)
gathered-all s w old new state within (Ok g) (found, is, live) = (found, is, record { live = live; within = within found is })
gathered-all s w old new state within (Err fault) e = inl e
