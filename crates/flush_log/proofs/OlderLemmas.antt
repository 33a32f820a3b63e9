-- The contents of a log of version 1 are the same when it is read as a log of version 2.
use Rattle.std.specs.Prelude.{◌≡◌, ℕ, zero, suc, ◌+◌, ◌-◌, Bool, true, false, nat_eq, if◌then◌else◌, List, [], length, take, drop, Option, Some, None, Result, Ok, Err}
use Rattle.std.specs.List.{starts_with}
use Rattle.std.proofs.Common.{sym, ap, ap₂, ◌∙◌, refl}
use Rattle.keys.specs.declared.settings.Settings.{Settings}
use Rattle.keys.specs.declared.version.Version.TheVariants.{One, Two}
use Rattle.keys.specs.declared.fault.Fault.TheVariants.{BadSegment}
use Rattle.frame_codec.specs.declared.format.Format.{Format}
use Rattle.frame_codec.specs.Frame.{Frame}
use Rattle.frame_codec.specs.Reading.{read_frame}
use Rattle.frame_codec.proofs.VersionLemmas.{in_version, read-known}
use Rattle.flush_log.specs.Reading.{Found, is_at_tail, is_padding, with_first, read_then, read_frames, in_segment, read_segment, followed_by, read_earlier, log_between}
use Rattle.flush_log.specs.Segments.{segment_header, segment_bytes, last_segment, bytes_in_use}
use Rattle.flush_log.proofs.ReadBackLemmas.{ok, followed_by-ok}
use Rattle.flush_log.proofs.SegmentLemmas.{with_first-ok, in_segment-ok}

abbrev AllOk : List Frame → Result (List Frame) ℕ
AllOk fs = Ok fs

module _ (s : Settings) where
  abbrev older : Format
  older = in_version s One

  abbrev newer : Format
  newer = in_version s Two

  module _ (is_end : List ℕ → Bool) where
    then-known : (most : ℕ) (bs : List ℕ) (fs : List Frame) (o : Option (Frame × List ℕ)) → read_frame older bs ≡ o
        → ((rest : List ℕ) (gs : List Frame) → read_frames older is_end most rest ≡ AllOk gs → read_frames newer is_end most rest ≡ AllOk gs)
        → read_then (length bs) o (λ following. read_frames older is_end most following) ≡ AllOk fs
        → read_then (length bs) (read_frame newer bs) (λ following. read_frames newer is_end most following) ≡ AllOk fs
    then-known most bs fs None is further h = absurd (cc)
    then-known most bs fs (Some p) is further h =
        let (gs, read, all) = with_first-ok older p.0 (read_frames older is_end most p.1) fs h in
        ap (λ (o : Option (Frame × List ℕ)). read_then (length bs) o (λ following. read_frames newer is_end most following)) (read-known s bs p.0 p.1 is)
        ∙ ap (λ (r : Result (List Frame) ℕ). with_first p.0 r) (further p.1 gs read)
        ∙ ap AllOk (sym all)

    frames-known : (most : ℕ) (bs : List ℕ) (fs : List Frame) → read_frames older is_end most bs ≡ AllOk fs → read_frames newer is_end most bs ≡ AllOk fs
    frames-known zero bs fs h = h
    frames-known (suc most) bs fs h = of (λ rest gs read. frames-known most rest gs read) (is_end bs) h
      where
        of : ((rest : List ℕ) (gs : List Frame) → read_frames older is_end most rest ≡ AllOk gs → read_frames newer is_end most rest ≡ AllOk gs)
            → (b : Bool) → (if b then Ok [] else read_then (length bs) (read_frame older bs) (λ following. read_frames older is_end most following)) ≡ AllOk fs
            → (if b then Ok [] else read_then (length bs) (read_frame newer bs) (λ following. read_frames newer is_end most following)) ≡ AllOk fs
        of further true h = h
        of further false h = then-known most bs fs (read_frame older bs) refl further h

    segment-known : (n : ℕ) (bytes : List ℕ) (found : List Found) → read_segment older is_end n bytes ≡ ok found → read_segment newer is_end n bytes ≡ ok found
    segment-known n bytes found = of (starts_with nat_eq bytes (segment_header n))
      where
        of : (b : Bool) → (if b then in_segment n (length bytes) (read_frames older is_end (length bytes) (drop 16 bytes)) else Err (BadSegment n)) ≡ ok found
            → (if b then in_segment n (length bytes) (read_frames newer is_end (length bytes) (drop 16 bytes)) else Err (BadSegment n)) ≡ ok found
        of true h =
            let (fs, read, all) = in_segment-ok n (length bytes) (read_frames older is_end (length bytes) (drop 16 bytes)) found h in
            ap (λ (r : Result (List Frame) ℕ). in_segment n (length bytes) r) (frames-known (length bytes) (drop 16 bytes) fs read) ∙ ap ok (sym all)
        of false h = h

  earlier-known : (file : List ℕ) (head k : ℕ) (found : List Found) → read_earlier older file head k ≡ ok found → read_earlier newer file head k ≡ ok found
  earlier-known file head zero found h = h
  earlier-known file head (suc k) found h =
      let (before, more, old, read, all) = followed_by-ok (read_earlier older file head k) (read_segment older is_padding (head + k) (segment_bytes s file (head + k))) found h in
      ap₂ followed_by (earlier-known file head k before old) (segment-known is_padding (head + k) (segment_bytes s file (head + k)) more read) ∙ ap ok (sym all)

  pub log-known : (file : List ℕ) (head tail : ℕ) (found : List Found) → log_between older file head tail ≡ ok found → log_between newer file head tail ≡ ok found
  log-known file head tail found h =
      let k : ℕ = last_segment s tail - head in
      let bytes : List ℕ = take (bytes_in_use s tail) (segment_bytes s file (head + (last_segment s tail - head))) in
      let (before, more, old, read, all) = followed_by-ok (read_earlier older file head k) (read_segment older is_at_tail (head + k) bytes) found h in
      ap₂ followed_by (earlier-known file head k before old) (segment-known is_at_tail (head + k) bytes more read) ∙ ap ok (sym all)
