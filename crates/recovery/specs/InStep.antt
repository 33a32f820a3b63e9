-- When a store in memory is in step with the bytes of its disk: its log states are true of the log on the disk.
use Rattle.std.specs.Prelude.{◌≡◌, ◌↔◌, ℕ, true, Option, Some, None, Ok}
use Rattle.keys.specs.Bytes.{Bytes}
use Rattle.keys.specs.Limits.{first_bad_field}
use Rattle.keys.specs.declared.settings.Settings.{Settings}
use Rattle.index_page.specs.Over.{IsPageOver}
use Rattle.index_page.specs.Page.{PageOfKind}
use Rattle.mapping.specs.Flushed.{page_depth}
use Rattle.mapping.specs.Proper.{AreLogsTrue, IsProper}
use Rattle.mapping.specs.Tree.{Tree, Store, page_at, logged_of}
use Rattle.mapping.specs.Tree.Logged.{No, Upto}
use Rattle.flush_log.specs.AfterFlush.{slot_of}
use Rattle.flush_log.specs.Slot.{is_slot}
use Rattle.recovery.specs.StoreOfDisk.{store_of_disk}

-- the log has a page with k runs, and the present page has these runs, possibly with newer ones in front
abbrev pub IsLogged : ℕ → Option PageOfKind → Option PageOfKind → Type 0
IsLogged k (Some logged) (Some now) = (page_depth logged ≡ k) × IsPageOver logged now
IsLogged k _ _ = ⊥

-- a store and the one that its disk encodes: the log has the same ends and the same version; a pid has the log state `No` if and only if the log has
-- no page of it; and if it has the state `Upto k`, the log contains exactly the base and the k oldest runs of the present page
pub record AreInStep (st on_disk : Store) : Type 0 where
  pub head : st.head ≡ on_disk.head
  pub tail : st.tail ≡ on_disk.tail
  pub sequence : st.sequence ≡ on_disk.sequence
  pub version : st.version ≡ on_disk.version
  pub none : (pid : ℕ) → (logged_of st.tree pid ≡ No) ↔ (page_at on_disk.tree.pages pid ≡ None)
  pub upto : (pid k : ℕ) → logged_of st.tree pid ≡ Upto k → IsLogged k (page_at on_disk.tree.pages pid) (page_at st.tree.pages pid)

-- the disk encodes a store with these settings, with which this store is in step
abbrev pub IsInStep : Settings → Store → Bytes → Type 0
IsInStep s st file = (on_disk : Store) × (store_of_disk file ≡ Ok (s, on_disk)) × AreInStep st on_disk

-- the invariant of every store, whatever its disk does: its settings are valid, its tree is proper, its log states are true, and its numbers are
-- those of a well-formed slot
pub record IsStore (s : Settings) (st : Store) : Type 0 where
  pub good : first_bad_field s ≡ None
  pub proper : IsProper s st.tree
  pub logs : AreLogsTrue st.tree
  pub slot : is_slot s st.sequence (slot_of st) ≡ true

-- the invariant of a store on an honest disk with these bytes: it is also in step with them
pub record IsStoreOf (s : Settings) (st : Store) (file : Bytes) : Type 0 where
  pub is : IsStore s st
  pub step : IsInStep s st file

-- a new tree keeps the log states of an old one: the same pids have the log state `No`; a pid has `Upto k` only if it had it before; and a page with
-- such a log state is unchanged, except for newer runs in front
pub record KeepsLogged (old new : Tree) : Type 0 where
  pub none : (pid : ℕ) → (logged_of old pid ≡ No) ↔ (logged_of new pid ≡ No)
  pub upto : (pid k : ℕ) → logged_of new pid ≡ Upto k → logged_of old pid ≡ Upto k
  pub over : (pid k : ℕ) (p : PageOfKind) → logged_of new pid ≡ Upto k → page_at old.pages pid ≡ Some p →
      (q : PageOfKind) × (page_at new.pages pid ≡ Some q) × IsPageOver p q
