-- A disk that is one of two disks, and behaves like it.
use Rattle.std.specs.Prelude.{ℕ, IsTrue}
use Rattle.flush_log.specs.Disk.{View, Lawful}
use Rattle.bwsh.specs.declared.disk.Base.{Base}
use Rattle.bwsh.specs.declared.disk.Base.TheVariants.{Memory, File}

-- its current state
abbrev pub view_of : {M F : Type 0} → (M → View) → (F → View) → Base M F → View
view_of memory file (Memory disk) = memory disk
view_of memory file (File disk) = file disk

-- how many calls have failed
abbrev pub failed_of : {M F : Type 0} → (M → ℕ) → (F → ℕ) → Base M F → ℕ
failed_of memory file (Memory disk) = memory disk
failed_of memory file (File disk) = file disk

-- if both are lawful, so is this disk; this is proved here, because the implementation of `Disk` can cite nothing else
pub lawful_of : {M F : Type 0} (memory : M → View) (file : F → View)
    → ((disk : M) → IsTrue (memory disk).is_honest → Lawful (memory disk))
    → ((disk : F) → IsTrue (file disk).is_honest → Lawful (file disk))
    → (base : Base M F) → IsTrue (view_of memory file base).is_honest → Lawful (view_of memory file base)
lawful_of memory file of_memory of_file (Memory disk) honest = of_memory disk honest
lawful_of memory file of_memory of_file (File disk) honest = of_file disk honest
