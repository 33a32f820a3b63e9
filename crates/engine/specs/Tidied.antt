-- The effect of tidying on a store, and why it fails.
use Rattle.std.specs.Prelude.{◌≡◌, ◌⊎◌, ℕ, ◌-◌, ◌^◌, min, List, length, Some}
use Rattle.std.specs.declared.alloc.Global.{Global}
use Rattle.keys.specs.declared.command.Command.{Command}
use Rattle.keys.specs.declared.fault.Fault.{Fault}
use Rattle.keys.specs.declared.fault.Fault.TheVariants.{NoMemory, Spent}
use Rattle.keys.specs.declared.settings.Settings.{Settings}
use Rattle.mapping.specs.Levels.{contents}
use Rattle.mapping.specs.Tree.{Store, Tree, with_tree}
use Rattle.engine.specs.Batches.{tree_in_turn}
use Rattle.engine.specs.Refusal.{refusal}

-- a store has the contents of another one, and its tree is that store's tree after some batches, each planned on the tree after the batch before it
pub record IsTidied (s : Settings) (old now : Store) : Type 0 where
  pub holds : contents now.tree ≡ contents old.tree
  pub batches : List (List (Command Global))
  pub planned : now ≡ with_tree old (tree_in_turn s old.tree batches)

-- how many pages a tree has, as a number of 64 bits
abbrev pub counted_pages : Tree → ℕ
counted_pages t = min (length t.pages) (2 ^ 64 - 1)

-- why tidying fails: out of memory, too many levels, or a fault of one of its batches
abbrev pub IsTidyFault : Settings → Fault → Type 0
IsTidyFault s fault = (fault ≡ NoMemory) ⊎ (fault ≡ Spent) ⊎ ((cs : List (Command Global)) × (refusal s cs ≡ Some fault))
