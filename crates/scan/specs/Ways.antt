-- The pairs that the two kinds of iteration over a leaf represent.
use Rattle.keys.specs.Bytes.{Bytes, Pairs}
use Rattle.scan.specs.Merge.{merged}
use Rattle.scan.specs.declared.leaf.Way.{Way}
use Rattle.scan.specs.declared.leaf.Way.TheVariants.{Merging, Searching}

-- the remaining pairs, for any of them
abbrev pub pairs_of_way : {W : Type 0} → Way W → Pairs Bytes
pairs_of_way (Merging m) = merged m
pairs_of_way (Searching left) = left
