-- Byte row 7: two leaves and the index page above them.
use Rattle.std.specs.Prelude.{[], ◌∷◌, codes}
use Rattle.std.proofs.Common.{refl}
use Rattle.frame_codec.specs.declared.format.KeyEncoding.TheVariants.{Whole}
use Rattle.frame_codec.specs.Frame.Content.{FullLeaf, FullIndex}
use Rattle.frame_codec.proofs.RowForms.{IsSpelled}

leaf_0 : IsSpelled (record { pid = 0; content = FullLeaf Whole [] ((codes "a", codes "1") ∷ (codes "b", codes "2") ∷ []) })
    "01 00000018 0000000000000000 0000 0002 0001 61 0001 31 0001 62 0001 32"
leaf_0 = (refl, refl, refl)

leaf_1 : IsSpelled
    (record { pid = 1; content = FullLeaf Whole (codes "c") ((codes "c", codes "3") ∷ (codes "d", codes "4") ∷ (codes "e", codes "5") ∷ []) })
    "01 0000001f 0000000000000001 0001 63 0003 0001 63 0001 33 0001 64 0001 34 0001 65 0001 35"
leaf_1 = (refl, refl, refl)

root : IsSpelled (record { pid = 2; content = FullIndex Whole [] (([], 0) ∷ (codes "c", 1) ∷ []) })
    "03 00000021 0000000000000002 0000 0002 0000 0000000000000000 0001 63 0000000000000001"
root = (refl, refl, refl)
