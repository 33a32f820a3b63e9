-- If frames of a page do not fit together, no later run changes that; and no run fits if there is no page.
use Rattle.std.specs.Prelude.{◌≡◌, List, [], ◌∷◌, fold}
use Rattle.std.proofs.Common.{refl}
use Rattle.frame_codec.specs.Frame.{Content}
use Rattle.frame_codec.specs.Frame.Content.{FullLeaf, DeltaLeaf, FullIndex, DeltaIndex, Free}
use Rattle.recovery.specs.PageByLog.{continued}
use Rattle.recovery.specs.PageByLog.InLog.{Missing, Broken}

pub broken-stays : (cs : List Content) → fold continued Broken cs ≡ Broken
broken-stays [] = refl
broken-stays (FullLeaf encoding low base ∷ cs) = broken-stays cs
broken-stays (DeltaLeaf run ∷ cs) = broken-stays cs
broken-stays (FullIndex encoding low base ∷ cs) = broken-stays cs
broken-stays (DeltaIndex run ∷ cs) = broken-stays cs
broken-stays (Free ∷ cs) = broken-stays cs

pub missing-breaks : (c : Content) → continued Missing c ≡ Broken
missing-breaks (FullLeaf encoding low base) = refl
missing-breaks (DeltaLeaf run) = refl
missing-breaks (FullIndex encoding low base) = refl
missing-breaks (DeltaIndex run) = refl
missing-breaks Free = refl
