-- Properties of the result of a job.
use Rattle.crew.specs.declared.Turn.{Turn}
use Rattle.crew.specs.declared.Turn.TheVariants.{Done, Back}

module _ {J D : Type 0} where
  -- p holds for the output, if the job was done
  abbrev pub IfDone : Turn J D → (D → Type 0) → Type 0
  IfDone (Done d) p = p d
  IfDone (Back j) p = Unit {0}

  -- p holds for the returned job, if it was not
  abbrev pub IfBack : Turn J D → (J → Type 0) → Type 0
  IfBack (Done d) p = Unit {0}
  IfBack (Back j) p = p j
