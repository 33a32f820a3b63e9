-- Byte row 5: a run that deletes a.
use Rattle.std.specs.Prelude.{[], ◌∷◌, None, codes}
use Rattle.std.proofs.Common.{refl}
use Rattle.frame_codec.specs.Frame.Content.{DeltaLeaf}
use Rattle.frame_codec.proofs.RowForms.{IsSpelled}

a_absent : IsSpelled (record { pid = 0; content = DeltaLeaf ((codes "a", None) ∷ []) })
    "02 0000000e 0000000000000000 0001 0001 61 00"
a_absent = (refl, refl, refl)
