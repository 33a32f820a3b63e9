-- Byte row 3: the headers of segments 0 and 1.
use Rattle.std.specs.Prelude.{◌≡◌}
use Rattle.std.proofs.Common.{refl}
use Rattle.frame_codec.proofs.RowForms.{hex}
use Rattle.flush_log.specs.Segments.{segment_header}

segment_0 : segment_header 0 ≡ hex "42575347 00000000 0000000000000000"
segment_0 = refl

segment_1 : segment_header 1 ≡ hex "42575347 00000000 0000000000000001"
segment_1 = refl
