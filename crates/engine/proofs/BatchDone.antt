-- A store on a disk after a batch.
use Rattle.std.specs.Prelude.{◌≡◌, ℕ, ◌≤◌, ◌<◌, ◌^◌, Bool, false, if◌then◌else◌, List, Option, Some, None}
use Rattle.std.specs.Option.{option_or}
use Rattle.std.proofs.Common.{refl, sym, ap, ◌∙◌, subst}
use Rattle.std.proofs.lemmas.Bool.{le-ltb}
use Rattle.std.specs.declared.alloc.Global.{Global}
use Rattle.keys.specs.declared.command.Command.{Command}
use Rattle.keys.specs.declared.fault.Fault.{Fault}
use Rattle.keys.specs.declared.fault.Fault.TheVariants.{Spent}
use Rattle.keys.specs.declared.settings.Settings.{Settings}
use Rattle.keys.specs.declared.version.Version.{Version}
use Rattle.mapping.specs.Tree.{Store, Tree, most_levels, with_tree}
use Rattle.mapping.specs.TreeInMemory.{TreeInMemory, AreAllHome, tree_of}
use Rattle.climb_plan.specs.Plan.{plan, planned_tree}
use Rattle.flush_log.specs.AfterFlush.{slot_of}
use Rattle.flush_log.specs.Disk.{View}
use Rattle.flush_log.specs.declared.slot.LogEnds.{LogEnds}
use Rattle.flush_log.proofs.SlotLemmas.{slot-is}
use Rattle.recovery.specs.InStep.{IsInStep, IsStore, IsStoreOf}
use Rattle.engine.specs.Batch.{refusal_by, height_fault}
use Rattle.engine.specs.Refusal.{refusal}
use Rattle.engine.specs.SoundTree.{IsSoundInMemory}
use Rattle.engine.specs.State.{IsSound, State, store_in}
use Rattle.engine.proofs.SoundStores.{IsSoundStore}

-- a store's tree is sound
pub tree-sound : (s : Settings) (t : TreeInMemory) (log : LogEnds) (version : Version) → AreAllHome t → IsStore s (store_in t log version) → IsSoundInMemory s t
tree-sound s t log version home is = record {
  home = home;
  sound = record { settings = is.good; proper = is.proper; logs = is.logs; height = (slot-is s log.sequence (slot_of (store_in t log version)) is.slot).height.1 };
}

-- and has no more levels than a tree may have
pub height_of : {D : Type 0} {view : D → View} {x : State D} → IsSound view x → x.store.tree.height ≤ most_levels
height_of {x = x} sound = (slot-is x.settings x.store.sequence (slot_of x.store) sound.is.slot).height.1

-- the store after a batch is the planned one
pub planned-is : (s : Settings) (t now : TreeInMemory) (log : LogEnds) (version : Version) (cs : List (Command Global)) → tree_of now ≡ planned_tree s (tree_of t) cs → store_in now log version ≡ plan s (store_in t log version) cs
planned-is s t now log version cs e = ap (λ (x : Tree). with_tree (store_in t log version) x) e

-- a batch that is done has no reason to be refused
low : (h : ℕ) → h ≤ most_levels → height_fault h ≡ None
low h le = ap (λ (b : Bool). (let o : Option Fault = if b then Some Spent else None in o)) (le-ltb most_levels h le)

pub unrefused : (s : Settings) (t now : TreeInMemory) (cs : List (Command Global)) → refusal s cs ≡ None → now.height ≤ most_levels → tree_of now ≡ planned_tree s (tree_of t) cs → refusal_by s (tree_of t) cs ≡ None
unrefused s t now cs none le e =
    ap (λ (o : Option Fault). option_or o (height_fault (planned_tree s (tree_of t) cs).height)) none
    ∙ low (planned_tree s (tree_of t) cs).height (subst (λ (x : Tree). x.height ≤ most_levels) e le)

module _ {D : Type 0} (view : D → View) (s : Settings) (t now : TreeInMemory) (log : LogEnds) (version : Version) (disk : D) (cs : List (Command Global)) where
  pub batched-sound : IsSoundStore view s t log version disk false → AreAllHome now → tree_of now ≡ planned_tree s (tree_of t) cs → refusal_by s (tree_of t) cs ≡ None → now.root < 2 ^ 64
      → ((s : Settings) (st : Store) (cs : List (Command Global)) → IsStore s st → refusal_by s st.tree cs ≡ None → (planned_tree s st.tree cs).root < 2 ^ 64 → IsStore s (plan s st cs))
      → ((s : Settings) (st : Store) (file : List ℕ) (cs : List (Command Global)) → IsStoreOf s st file → refusal_by s st.tree cs ≡ None → (planned_tree s st.tree cs).root < 2 ^ 64 → IsStoreOf s (plan s st cs) file)
      → IsSoundStore view s now log version disk false
  batched-sound was home e none words kept step =
      let root : (planned_tree s (tree_of t) cs).root < 2 ^ 64 = subst (λ (x : Tree). x.root < 2 ^ 64) e words in
      let is = planned-is s t now log version cs e in
      record {
        home = home;
        sound = record {
          is = subst (λ (x : Store). IsStore s x) (sym is) (kept s (store_in t log version) cs was.sound.is none root);
          room = was.sound.room;
          step = λ _ honest. subst (λ (x : Store). IsInStep s x (view disk).seen) (sym is)
              (step s (store_in t log version) (view disk).seen cs (record { is = was.sound.is; step = was.sound.step refl honest }) none root).step;
        };
      }
