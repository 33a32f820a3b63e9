-- Byte row 10: a leaf of three, and a run of an index page that deletes d. Its frame that frees pid 1 is the first of byte row 8.
use Rattle.std.specs.Prelude.{[], ◌∷◌, None, codes}
use Rattle.std.proofs.Common.{refl}
use Rattle.frame_codec.specs.declared.format.KeyEncoding.TheVariants.{Whole}
use Rattle.frame_codec.specs.Frame.Content.{FullLeaf, DeltaIndex}
use Rattle.frame_codec.proofs.RowForms.{IsSpelled}

leaf_0 : IsSpelled
    (record { pid = 0; content = FullLeaf Whole [] ((codes "a", codes "1") ∷ (codes "b", codes "1") ∷ (codes "c", codes "1") ∷ []) })
    "01 0000001e 0000000000000000 0000 0003 0001 61 0001 31 0001 62 0001 31 0001 63 0001 31"
leaf_0 = (refl, refl, refl)

d_absent : IsSpelled (record { pid = 5; content = DeltaIndex ((codes "d", None) ∷ []) })
    "04 0000000e 0000000000000005 0001 0001 64 00"
d_absent = (refl, refl, refl)
