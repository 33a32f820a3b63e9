-- Byte row 11: a leaf that was replaced by a base with the pair a 3.
use Rattle.std.specs.Prelude.{[], ◌∷◌, codes}
use Rattle.std.proofs.Common.{refl}
use Rattle.frame_codec.specs.declared.format.KeyEncoding.TheVariants.{Whole}
use Rattle.frame_codec.specs.Frame.Content.{FullLeaf}
use Rattle.frame_codec.proofs.RowForms.{IsSpelled}

a_3 : IsSpelled (record { pid = 0; content = FullLeaf Whole [] ((codes "a", codes "3") ∷ []) })
    "01 00000012 0000000000000000 0000 0001 0001 61 0001 33"
a_3 = (refl, refl, refl)
