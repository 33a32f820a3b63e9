-- The result of a recovery, from the parts that are read of its disk.
use Rattle.std.specs.Prelude.{◌≡◌, ◌⊎◌, ℕ, ◌≤◌, List, length, take, Option, Some, None, Result, Ok, Err}
use Rattle.std.proofs.Common.{sym, ap, ◌∙◌, inl, inr, arith}
use Rattle.keys.specs.Bytes.{Bytes}
use Rattle.keys.specs.declared.fault.Fault.{Fault}
use Rattle.keys.specs.declared.fault.Fault.TheVariants.{NoMemory, BadStructure}
use Rattle.keys.specs.declared.settings.Settings.{Settings}
use Rattle.mapping.specs.Finding.{Finding}
use Rattle.mapping.specs.Tree.{Store, Tree}
use Rattle.mapping.specs.TreeInMemory.{TreeInMemory, AreAllHome, tree_of}
use Rattle.frame_codec.specs.declared.format.Format.{Format}
use Rattle.flush_log.specs.AfterFlush.{store_after}
use Rattle.flush_log.specs.Disk.{View, Kept}
use Rattle.flush_log.specs.Reading.{Found, log}
use Rattle.flush_log.specs.Segments.{segments_begin, disk_size}
use Rattle.flush_log.specs.SettingsBlock.{store_settings}
use Rattle.flush_log.specs.Slot.{Slot, store_slot}
use Rattle.recovery.specs.Gathered.{AreGathered}
use Rattle.recovery.specs.Recovered.{IsReadOf, IsLate, IsLogRead, store_recovered}
use Rattle.recovery.specs.StoreOfDisk.{and_then, frames_in, store_of_disk, store_of_slot, store_under, tree_by_log, unless_found, wrong_in}
use Rattle.recovery.proofs.FrontLemmas.{front-settings, front-slot}
use Rattle.recovery.specs.declared.gather.Gathering.{Gathering}
use Rattle.recovery.specs.declared.gather.Wanted.TheVariants.{Every}
use Rattle.recovery.specs.declared.recovered.LogRead.{LogRead}

-- ---- the store that the bytes of a disk encode

abbrev found_store : Settings → Store → Result (Settings × Store) Fault
found_store s st = Ok (s, st)

abbrev of_settings : Bytes → Result Settings Fault → Result (Settings × Store) Fault
of_settings file r = and_then r (λ s. store_under s file)

abbrev of_slot : Settings → Bytes → Result Slot Fault → Result (Settings × Store) Fault
of_slot s file r = and_then r (λ t. and_then (store_of_slot s file t) (λ st. found_store s st))

abbrev of_log : Settings → Slot → Result (List Found) Fault → Result Store Fault
of_log s t r = and_then r (λ found. unless_found (wrong_in s t (frames_in found)) (store_after (tree_by_log t (frames_in found)) t))

abbrev of_store : Settings → Result Store Fault → Result (Settings × Store) Fault
of_store s r = and_then r (λ st. found_store s st)

abbrev of_finding : Settings → Slot → List Found → Option Finding → Result Store Fault
of_finding s t found o = unless_found o (store_after (tree_by_log t (frames_in found)) t)

pub no_settings : (file : Bytes) (fault : Fault) → store_settings file ≡ Err fault → store_of_disk file ≡ Err fault
no_settings file fault e = ap (of_settings file) e

module _ (file : Bytes) (s : Settings) (settings : store_settings file ≡ Ok s) where
  pub no_slot : (fault : Fault) → store_slot s file ≡ Err fault → store_of_disk file ≡ Err fault
  no_slot fault e = ap (of_settings file) settings ∙ ap (of_slot s file) e

  module _ (t : Slot) (slot : store_slot s file ≡ Ok t) where
    by_log : store_of_disk file ≡ of_store s (store_of_slot s file t)
    by_log = ap (of_settings file) settings ∙ ap (of_slot s file) slot

    pub no_log : (fault : Fault) → log s file t ≡ Err fault → store_of_disk file ≡ Err fault
    no_log fault e = by_log ∙ ap (of_store s) (ap (of_log s t) e)

    module _ (found : List Found) (is : log s file t ≡ Ok found) where
      by_finding : store_of_disk file ≡ of_store s (of_finding s t found (wrong_in s t (frames_in found)))
      by_finding = by_log ∙ ap (of_store s) (ap (of_log s t) is)

      pub wrong_store : (f : Finding) → wrong_in s t (frames_in found) ≡ Some f → store_of_disk file ≡ Err (BadStructure f)
      wrong_store f e = by_finding ∙ ap (λ o. of_store s (of_finding s t found o)) e

      pub right_store : wrong_in s t (frames_in found) ≡ None → store_of_disk file ≡ Ok (s, store_after (tree_by_log t (frames_in found)) t)
      right_store e = by_finding ∙ ap (λ o. of_store s (of_finding s t found o)) e

-- bytes that were read after those before the segments have the same settings and the same slot
pub in-front : (s : Settings) (file now : Bytes) (first old new : View) → disk_size s ≤ first.size → Kept first old → Kept old new → IsReadOf old file → IsReadOf new now
    → take segments_begin now ≡ take segments_begin file → (t : Slot) → store_settings file ≡ Ok s → store_slot s file ≡ Ok t → (store_settings now ≡ Ok s) × (store_slot s now ≡ Ok t)
in-front s file now first old new within before kept was is front t settings slot =
    let size = before.size in
    let whole = was.whole in
    let room : 512 ≤ length file = omega (arith, whole, size, within) in
    let long = is.whole ∙ kept.size ∙ sym whole in
    (front-settings file now long front room ∙ settings, front-slot file now long front s room ∙ slot)

-- ---- what was read, by the parts in which it is passed on

-- for any gathered frames, the tree or the fault is right
abbrev pub IsTreeOf : TreeInMemory → Format → Slot → Gathering → Type 0
IsTreeOf tree f t g = (found : List Found) → AreGathered f Every g found → (wrong_in f.settings t (frames_in found) ≡ None) × (tree_of tree ≡ tree_by_log t (frames_in found)) × AreAllHome tree

abbrev pub IsRefusedTree : Fault → Format → Slot → Gathering → Type 0
IsRefusedTree fault f t g = (found : List Found) → AreGathered f Every g found → (fault ≡ NoMemory) ⊎ ((x : Finding) × (wrong_in f.settings t (frames_in found) ≡ Some x) × (fault ≡ BadStructure x))

module _ (file : Bytes) (r : LogRead) (read : IsLogRead r file) where
  pub tree-recovered : (tree : TreeInMemory) (pairs : ℕ) → IsTreeOf tree r.format r.slot r.gathering
      → (store_of_disk file ≡ Ok (r.format.settings, store_recovered (record { settings = r.format.settings; slot = r.slot; tree = tree; pairs = pairs }))) × AreAllHome tree
  tree-recovered tree pairs right =
      let (none, is, home) = right read.found read.gathered in (
        right_store file r.format.settings read.settings r.slot read.slot read.found read.log none ∙ ap (λ (u : Tree). found_store r.format.settings (store_after u r.slot)) (sym is),
        home,
      )

  pub tree-refused : (old new : ℕ) (fault : Fault) → IsRefusedTree fault r.format r.slot r.gathering → (store_of_disk file ≡ Err fault) ⊎ IsLate old new fault
  tree-refused old new fault refused = elim (refused read.found read.gathered) [
    | inl memory ↦ inr (inl memory)
    | inr wrong ↦ inl (wrong_store file r.format.settings read.settings r.slot read.slot read.found read.log wrong.0 wrong.1 ∙ ap (λ (f : Fault). refused_with f) (sym wrong.2))
  ]
    where
      refused_with : Fault → Result (Settings × Store) Fault
      refused_with f = Err f
