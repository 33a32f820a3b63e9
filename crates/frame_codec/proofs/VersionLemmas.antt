-- Whatever a log of version 1 may contain, a log of version 2 may contain too.
use Rattle.std.proofs.Common.{◌≡◌, ℕ, true, List, Some, refl, ◌∙◌, ap}
use Rattle.std.proofs.lemmas.Bool.{and_parts}
use Rattle.std.specs.Cmp.Derive.{both_true}
use Rattle.keys.specs.Cells.{read_where}
use Rattle.keys.specs.declared.settings.Settings.{Settings}
use Rattle.keys.proofs.CellLemmas.{read_where-gave}
use Rattle.frame_codec.specs.declared.format.Format.{Format}
use Rattle.keys.specs.declared.version.Version.{Version}
use Rattle.keys.specs.declared.version.Version.TheVariants.{One, Two}
use Rattle.frame_codec.specs.Frame.{Content, Frame, is_pid, is_content, is_readable, is_allowed, is_frame}
use Rattle.frame_codec.specs.Frame.Content.{FullLeaf, DeltaLeaf, FullIndex, DeltaIndex, Free}
use Rattle.frame_codec.specs.Reading.{read_any, read_frame}

-- a format of a store with these settings
abbrev pub in_version : Settings → Version → Format
in_version s v = record { settings = s; version = v }

readable : (c : Content) → is_readable Two c ≡ true
readable (FullLeaf encoding low base) = refl
readable (DeltaLeaf run) = refl
readable (FullIndex encoding low base) = refl
readable (DeltaIndex run) = refl
readable Free = refl

pub frame-known : (s : Settings) (f : Frame) → is_frame (in_version s One) f ≡ true → is_frame (in_version s Two) f ≡ true
frame-known s f h =
    let (pid, allowed) = and_parts (is_pid f.pid) (is_allowed (in_version s One) f.content) h in
    let (known, within) = and_parts (is_readable One f.content) (is_content s f.content) allowed in
    both_true pid (both_true (readable f.content) within)

pub read-known : (s : Settings) (bs : List ℕ) (f : Frame) (rest : List ℕ) → read_frame (in_version s One) bs ≡ Some (f, rest) → read_frame (in_version s Two) bs ≡ Some (f, rest)
read-known s bs f rest h =
    let (read, is) = read_where-gave (is_frame (in_version s One)) (read_any bs) f rest h in
    ap (read_where (is_frame (in_version s Two))) read ∙ rw (frame-known s f is) refl
