-- Byte row 12: a run of as many changes as fan.
use Rattle.std.specs.Prelude.{[], ◌∷◌, Some, codes}
use Rattle.std.proofs.Common.{refl}
use Rattle.frame_codec.specs.Frame.Content.{DeltaLeaf}
use Rattle.frame_codec.proofs.RowForms.{IsSpelled}

four_put : IsSpelled
    (record {
      pid = 0;
      content =
          DeltaLeaf ((codes "a", Some (codes "1")) ∷ (codes "b", Some (codes "2")) ∷ (codes "c", Some (codes "3")) ∷ (codes "d", Some (codes "4")) ∷ []);
    })
    "02 00000026 0000000000000000 0004 0001 61 01 0001 31 0001 62 01 0001 32 0001 63 01 0001 33 0001 64 01 0001 34"
four_put = (refl, refl, refl)
