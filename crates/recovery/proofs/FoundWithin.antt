-- A log of its format may contain the frames that a reading of the log finds.
use Rattle.std.specs.Prelude.{◌≡◌, ℕ, zero, suc, ◌+◌, ◌-◌, Bool, true, false, nat_eq, if◌then◌else◌, List, [], ◌∷◌, length, take, drop, Option, Some, None, Result, Ok, Err}
use Rattle.std.proofs.Common.{refl, sym, ap, ◌∙◌, subst}
use Rattle.std.specs.List.{AllByRecursion, starts_with}
use Rattle.keys.specs.Cells.{read_where}
use Rattle.keys.specs.declared.fault.Fault.{Fault}
use Rattle.keys.specs.declared.fault.Fault.TheVariants.{BadSegment}
use Rattle.index_page.proofs.ListLemmas.{all-append}
use Rattle.frame_codec.specs.declared.format.Format.{Format}
use Rattle.frame_codec.specs.Frame.{Frame, is_frame}
use Rattle.frame_codec.specs.Reading.{read_any, read_frame}
use Rattle.flush_log.specs.Reading.{Found, all_in, is_at_tail, is_padding, with_first, read_then, read_frames, in_segment, read_segment, followed_by, read_earlier, log_between}
use Rattle.flush_log.specs.Segments.{segment_header, segment_bytes, last_segment, bytes_in_use}
use Rattle.flush_log.proofs.ReadBackLemmas.{ok, followed_by-ok}
use Rattle.flush_log.proofs.SegmentLemmas.{in_segment-ok}

module _ (s : Format) where
  -- frames of the format
  abbrev Good : List Frame → Type 0
  Good fs = AllByRecursion (λ f. is_frame s f ≡ true) fs

  abbrev GoodFound : List Found → Type 0
  GoodFound found = AllByRecursion (λ f. is_frame s f.frame ≡ true) found

  abbrev frames_read : List Frame → Result (List Frame) ℕ
  frames_read fs = Ok fs

  -- ---- one frame

  passed_by : (b : Bool) (x : Frame) (rest : List ℕ) (p : Frame × List ℕ) → is_frame s x ≡ b → (let none : Option (Frame × List ℕ) = None in (if b then Some (x, rest) else none) ≡ Some p) → is_frame s p.0 ≡ true
  passed_by true x rest p e h = let same : (x, rest) ≡ p = cc in ap (λ (q : Frame × List ℕ). is_frame s q.0) (sym same) ∙ e
  passed_by false x rest p e h = absurd (cc)

  of_any : (o : Option (Frame × List ℕ)) (p : Frame × List ℕ) → read_where (is_frame s) o ≡ Some p → is_frame s p.0 ≡ true
  of_any None p h = absurd (cc)
  of_any (Some q) p h = passed_by (is_frame s q.0) q.0 q.1 p refl h

  -- ---- a segment

  first_ok : (f : Frame) (r : Result (List Frame) ℕ) (fs : List Frame) → with_first f r ≡ frames_read fs → (gs : List Frame) × (r ≡ frames_read gs) × (fs ≡ f ∷ gs)
  first_ok f (Ok gs) fs e = (gs, refl, cc)
  first_ok f (Err left) fs e = absurd (cc)

  none_read : (fs : List Frame) → frames_read [] ≡ frames_read fs → Good fs
  none_read fs e = let same : [] ≡ fs = cc in subst (λ (gs : List Frame). Good gs) same tt

  then_by : (left : ℕ) (o : Option (Frame × List ℕ)) (next : List ℕ → Result (List Frame) ℕ) (fs : List Frame) → ((p : Frame × List ℕ) → o ≡ Some p → is_frame s p.0 ≡ true)
      → ((bytes : List ℕ) (gs : List Frame) → next bytes ≡ frames_read gs → Good gs) → read_then left o next ≡ frames_read fs → Good fs
  then_by left None next fs within later e = absurd (cc)
  then_by left (Some p) next fs within later e =
      let (gs, read, same) = first_ok p.0 (next p.1) fs e in
      subst (λ (hs : List Frame). Good hs) (sym same) (within p refl, later p.1 gs read)

  end_by : (b : Bool) (r : Result (List Frame) ℕ) (fs : List Frame) → (r ≡ frames_read fs → Good fs) → (if b then frames_read [] else r) ≡ frames_read fs → Good fs
  end_by true r fs later e = none_read fs e
  end_by false r fs later e = later e

  frames-within : (is_end : List ℕ → Bool) (most : ℕ) (bytes : List ℕ) (fs : List Frame) → read_frames s is_end most bytes ≡ frames_read fs → Good fs
  frames-within is_end zero bytes fs e = end_by (is_end bytes) (Err (length bytes)) fs (λ h. absurd (cc)) e
  frames-within is_end (suc most) bytes fs e =
      end_by (is_end bytes) (read_then (length bytes) (read_frame s bytes) (λ following. read_frames s is_end most following)) fs
      (λ h. then_by (length bytes) (read_frame s bytes) (λ following. read_frames s is_end most following) fs (λ p g. of_any (read_any bytes) p g) (λ following gs g. frames-within is_end most following gs g) h) e

  all_good : (n : ℕ) (fs : List Frame) → Good fs → GoodFound (all_in n fs)
  all_good n [] a = tt
  all_good n (f ∷ fs) a = (a.0, all_good n fs a.1)

  headed_by : (b : Bool) (n long : ℕ) (r : Result (List Frame) ℕ) (found : List Found) → ((fs : List Frame) → r ≡ frames_read fs → Good fs) → (if b then in_segment n long r else Err (BadSegment n)) ≡ ok found → GoodFound found
  headed_by true n long r found good e = let (fs, read, same) = in_segment-ok n long r found e in subst (λ (xs : List Found). GoodFound xs) (sym same) (all_good n fs (good fs read))
  headed_by false n long r found good e = absurd (cc)

  segment-within : (is_end : List ℕ → Bool) (n : ℕ) (bytes : List ℕ) (found : List Found) → read_segment s is_end n bytes ≡ ok found → GoodFound found
  segment-within is_end n bytes found e =
      headed_by (starts_with nat_eq bytes (segment_header n)) n (length bytes) (read_frames s is_end (length bytes) (drop 16 bytes)) found
      (λ fs h. frames-within is_end (length bytes) (drop 16 bytes) fs h) e

  -- ---- the log

  both : (x y : Result (List Found) Fault) (found : List Found) → followed_by x y ≡ ok found → ((xs : List Found) → x ≡ ok xs → GoodFound xs) → ((ys : List Found) → y ≡ ok ys → GoodFound ys) → GoodFound found
  both x y found e f g =
      let (xs, ys, before, following, same) = followed_by-ok x y found e in
      subst (λ (zs : List Found). GoodFound zs) (sym same) (all-append (λ z. is_frame s z.frame ≡ true) xs ys (f xs before) (g ys following))

  earlier-within : (file : List ℕ) (head k : ℕ) (found : List Found) → read_earlier s file head k ≡ ok found → GoodFound found
  earlier-within file head zero found e = let same : [] ≡ found = cc in subst (λ (xs : List Found). GoodFound xs) same tt
  earlier-within file head (suc k) found e =
      both (read_earlier s file head k) (read_segment s is_padding (head + k) (segment_bytes s.settings file (head + k))) found e
      (λ xs h. earlier-within file head k xs h) (λ ys h. segment-within is_padding (head + k) (segment_bytes s.settings file (head + k)) ys h)

  pub log-within : (file : List ℕ) (head tail : ℕ) (found : List Found) → log_between s file head tail ≡ ok found → GoodFound found
  log-within file head tail found e =
      let k : ℕ = last_segment s.settings tail - head in
      let used : ℕ = bytes_in_use s.settings tail in
      both (read_earlier s file head k) (read_segment s is_at_tail (head + k) (take used (segment_bytes s.settings file (head + k)))) found e
      (λ xs h. earlier-within file head k xs h) (λ ys h. segment-within is_at_tail (head + k) (take used (segment_bytes s.settings file (head + k))) ys h)
