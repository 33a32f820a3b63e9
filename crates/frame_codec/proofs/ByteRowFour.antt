-- Byte row 4: the log of a new store, one empty leaf with the pid 0.
use Rattle.std.specs.Prelude.{[]}
use Rattle.std.proofs.Common.{refl}
use Rattle.frame_codec.specs.declared.format.KeyEncoding.TheVariants.{Whole}
use Rattle.frame_codec.specs.Frame.Content.{FullLeaf}
use Rattle.frame_codec.proofs.RowForms.{IsSpelled}

empty_leaf : IsSpelled (record { pid = 0; content = FullLeaf Whole [] [] }) "01 0000000c 0000000000000000 0000 0000"
empty_leaf = (refl, refl, refl)
