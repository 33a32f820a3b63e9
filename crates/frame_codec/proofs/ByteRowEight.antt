-- Byte row 8: the pids 1 and 2 are freed.
use Rattle.std.proofs.Common.{refl}
use Rattle.frame_codec.specs.Frame.Content.{Free}
use Rattle.frame_codec.proofs.RowForms.{IsSpelled}

free_1 : IsSpelled (record { pid = 1; content = Free }) "05 00000008 0000000000000001"
free_1 = (refl, refl, refl)

free_2 : IsSpelled (record { pid = 2; content = Free }) "05 00000008 0000000000000002"
free_2 = (refl, refl, refl)
