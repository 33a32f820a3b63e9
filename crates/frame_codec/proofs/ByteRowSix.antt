-- Byte row 6: a run that puts a 1.
use Rattle.std.specs.Prelude.{[], ◌∷◌, Some, codes}
use Rattle.std.proofs.Common.{refl}
use Rattle.frame_codec.specs.Frame.Content.{DeltaLeaf}
use Rattle.frame_codec.proofs.RowForms.{IsSpelled}

a_put : IsSpelled (record { pid = 0; content = DeltaLeaf ((codes "a", Some (codes "1")) ∷ []) })
    "02 00000011 0000000000000000 0001 0001 61 01 0001 31"
a_put = (refl, refl, refl)
