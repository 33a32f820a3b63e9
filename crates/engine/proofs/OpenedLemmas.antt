-- The result of opening a store on a disk.
use Rattle.std.specs.Prelude.{◌≡◌, ◌≢◌, ◌⊎◌, ℕ, ◌+◌, ◌-◌, ◌^◌, min, ◌≤◌, Bool, true, false, IsTrue, IfOk, Result, Ok, Err, MatchResult}
use Rattle.std.proofs.Common.{refl, sym, ap, subst, ◌∙◌, inl, inr, ⊎_elim}
use Rattle.keys.specs.Bytes.{Bytes}
use Rattle.keys.specs.declared.fault.Fault.{Fault}
use Rattle.keys.specs.declared.fault.Fault.TheVariants.{Device}
use Rattle.keys.specs.declared.settings.Settings.{Settings}
use Rattle.keys.specs.declared.version.Version.{Version}
use Rattle.mapping.specs.Tree.{Store}
use Rattle.mapping.specs.TreeInMemory.{TreeInMemory, AreAllHome, tree_of}
use Rattle.flush_log.specs.AfterFlush.{store_after}
use Rattle.flush_log.specs.Disk.{View, Lawful, Kept, IsSynced, Leaves, Same}
use Rattle.flush_log.specs.Segments.{disk_size}
use Rattle.flush_log.specs.Slot.{Slot}
use Rattle.flush_log.specs.declared.slot.LogEnds.{LogEnds}
use Rattle.flush_log.proofs.SettingsLemmas.{store_settings-are}
use Rattle.flush_log.proofs.SameLemmas.{settled_still}
use Rattle.flush_log.proofs.ViewLemmas.{counted_failed}
use Rattle.recovery.specs.InStep.{IsInStep, IsStoreOf}
use Rattle.recovery.specs.Recovered.{IsLate, IsReadOf, OnlyReads, store_recovered}
use Rattle.recovery.specs.StoreOfDisk.{store_of_disk}
use Rattle.recovery.specs.declared.recovered.Recovered.{Recovered}
use Rattle.recovery.proofs.ReadBytes.{first_read, kept_then}
use Rattle.recovery.proofs.StoreLemmas.{StandsBy, store-stands}
use Rattle.engine.specs.Opened.{IsOpened, IsOpenedOn, disk_left, read_on}
use Rattle.engine.specs.State.{IsSound, State, store_in}
use Rattle.engine.proofs.SoundStores.{IsSoundStore}
use Rattle.engine.proofs.CreateLemmas.{slot_with, opened-is}

module _ {D : Type 0} (view : D → View) (s : Settings) (st : Store) (old new : D) (file : Bytes)
    (read : IsReadOf (view old) file) (is : store_of_disk file ≡ Ok (s, st))
    (kept : Kept (view old) (view new)) (same : IsTrue (view old).is_honest → Same (view old) (view new))
    (law : (s : Settings) (st : Store) (file : Bytes) → store_of_disk file ≡ Ok (s, st) → IsStoreOf s st file) where
  pub opened-sound : IsSound view (record { settings = s; store = st; disk = new; has_failed = false })
  opened-sound =
      let store : IsStoreOf s st file = law s st file is in
      let by : StandsBy s file st = store-stands s file st is in
      let (block, good, whole) = store_settings-are file s by.reads.settings in
      record {
        is = store.is;
        room = subst (λ (n : ℕ). disk_size s ≤ n) (read.whole ∙ sym kept.size) whole;
        step = λ _ still. (
            let honest = subst IsTrue kept.honest still in
            subst (λ (f : Bytes). IsInStep s st f) (read.honest honest ∙ sym (same honest).seen) store.step);
      }

abbrev read_as : Settings → Store → Result (Settings × Store) Fault
read_as s st = Ok (s, st)

-- in memory
module _ {D : Type 0} (view : D → View) (s : Settings) (tree : TreeInMemory) (slot : Slot) (log : LogEnds) (root height : ℕ) (version : Version) (old new : D) (file : Bytes)
    (read : IsReadOf (view old) file) (is : store_of_disk file ≡ Ok (s, store_after (tree_of tree) slot))
    (kept : Kept (view old) (view new)) (same : IsTrue (view old).is_honest → Same (view old) (view new))
    (law : (s : Settings) (st : Store) (file : Bytes) → store_of_disk file ≡ Ok (s, st) → IsStoreOf s st file)
    (kept_as : slot_with log root height version ≡ slot) where
  pub opened-store : AreAllHome tree → IsSoundStore view s tree log version new false
  opened-store home = record {
    home = home;
    sound = subst (λ (st : Store). IsSound view (record { settings = s; store = st; disk = new; has_failed = false })) (sym (opened-is tree slot log root height version kept_as))
        (opened-sound view s (store_after (tree_of tree) slot) old new file read is kept same law);
  }

  pub opened-read : store_of_disk file ≡ Ok (s, store_in tree log version)
  opened-read = is ∙ ap (λ (st : Store). read_as s st) (sym (opened-is tree slot log root height version kept_as))

  pub opened-seen : IsTrue (view old).is_honest → store_of_disk (view old).seen ≡ Ok (s, store_in tree log version)
  opened-seen honest = subst (λ (f : Bytes). store_of_disk f ≡ read_as s (store_in tree log version)) (read.honest honest) opened-read

pub refused-seen : (v : View) (file : Bytes) (fault : Fault) (L : Type 0) → IsReadOf v file → (store_of_disk file ≡ Err fault) ⊎ L → IsTrue v.is_honest → (store_of_disk v.seen ≡ Err fault) ⊎ L
refused-seen v file fault L read reported honest = subst (λ (f : Bytes). (store_of_disk f ≡ Err fault) ⊎ L) (read.honest honest) reported

-- the store opened from the bytes that were read is the store opened from the readable contents
pub opened_seen : {D : Type 0} (failed : D → ℕ) (v : View) (file : Bytes) (count : ℕ) (r : Result (State D) (Fault × D)) → IsReadOf v file → IsOpened failed file count r
    → IsTrue v.is_honest → IsOpened failed v.seen count r
opened_seen failed v file count r read opened honest = subst (λ (f : Bytes). IsOpened failed f count r) (read.honest honest) opened

-- a call that failed before anything was read
pub failed-first : (v : View) (old new : ℕ) (fault : Fault) → (IsTrue v.is_honest → Lawful v) → fault ≡ Device → new ≡ min (old + 1) (2 ^ 64 - 1)
    → (file : Bytes) × IsReadOf v file × ((store_of_disk file ≡ Err fault) ⊎ IsLate old new fault)
failed-first v old new fault law is count = let (file, read) = first_read v law in (file, read, inr (inr (is, counted_failed old new count)))

-- the same for a disk before a call that does not change the readable contents
pub read_earlier : (a b : View) (file : Bytes) → Kept a b → (IsTrue a.is_honest → b.seen ≡ a.seen) → IsReadOf b file → IsReadOf a file
read_earlier a b file kept same read = record {
  whole = read.whole ∙ kept.size;
  honest = λ honest. read.honest (subst IsTrue (sym kept.honest) honest) ∙ same honest;
}

-- after a call that changes nothing
pub leaves_still : (a b c : View) (step : Bytes → Bytes → Type 0) → Leaves a b step → Same b c → Leaves a c step
leaves_still a b c step run same = record {
  time = record {
    later = subst (λ (m : ℕ). a.moment ≤ m) (sym same.moment) run.time.later;
    splits = λ t x le left. ⊎_elim (λ was. inl was) (λ now. inr ((same.left_since a.moment x).1 now)) (run.time.splits t x le ((same.left_since t x).0 left));
    keeps = λ t x le left. (same.left_since t x).1 (run.time.keeps t x le (⊎_elim (λ was. inl was) (λ now. inr ((same.left_since a.moment x).0 now)) left));
  };
  crash = λ x left. run.crash x ((same.left_since a.moment x).0 left);
}

-- if a store was opened, its disk is synced if the returned disk is
pub settled_where : {D : Type 0} (view : D → View) (r : Result (State D) (Fault × D)) → IsSynced (view (disk_left r)) → IfOk r (λ opened. IsSynced (view opened.disk))
settled_where view (Ok opened) is_synced = is_synced
settled_where view (Err refused) is_synced = tt

-- ---- a disk that is synced and then read

module _ {D : Type 0} (view : D → View) (failures : D → ℕ) (old mid new : D)
    (law : (s : Settings) (st : Store) (file : Bytes) → store_of_disk file ≡ Ok (s, st) → IsStoreOf s st file)
    (kept : Kept (view old) (view mid)) (counted : failures mid ≡ failures old) (is_synced : IsTrue (view old).is_honest → IsSynced (view mid))
    (seen : IsTrue (view old).is_honest → (view mid).seen ≡ (view old).seen)
    (crash : IsTrue (view old).is_honest → Leaves (view old) (view mid) (λ before c. c ≡ before)) where
  pub read-synced : (r : Result Recovered Fault) (file : Bytes) → IsReadOf (view mid) file
      → MatchResult r (λ found. (store_of_disk file ≡ Ok (found.settings, store_recovered found)) × AreAllHome found.tree) (λ fault. (store_of_disk file ≡ Err fault) ⊎ IsLate (failures mid) (failures new) fault)
      → OnlyReads view failures mid new r → IsOpenedOn view failures true old (read_on r new)
  read-synced (Ok found) file read reported only =
      let still = λ (honest : IsTrue (view old).is_honest). only.same (is_synced honest).honest in
      record {
        bad_crew = λ bad. absurd (cc);
        read = λ _. (file, read_earlier (view old) (view mid) file kept seen read, reported.0);
        honest = λ _ honest. subst (λ (f : Bytes). store_of_disk f ≡ read_as found.settings (store_recovered found)) (read.honest (is_synced honest).honest ∙ seen honest) reported.0;
        fine = refl;
        seen = λ honest. (still honest).seen ∙ seen honest;
        is_synced = λ honest. settled_still (view mid) (view new) only.kept (still honest) (is_synced honest);
        crash = λ honest. leaves_still (view old) (view mid) (view new) (λ b a. a ≡ b) (crash honest) (still honest);
        kept = kept_then (view old) (view mid) (view new) kept only.kept;
        counted = only.counted ∙ counted;
        uncounted = tt;
        sound = opened-sound view found.settings (store_recovered found) mid new file read reported.0 only.kept only.same law;
      }
  read-synced (Err fault) file read reported only =
      let still = λ (honest : IsTrue (view old).is_honest). only.same (is_synced honest).honest in
      let late = subst (λ (n : ℕ). (store_of_disk file ≡ Err fault) ⊎ IsLate n (failures new) fault) counted reported in
      record {
        bad_crew = λ bad. absurd (cc);
        read = λ _. (file, read_earlier (view old) (view mid) file kept seen read, late);
        honest = λ _ honest. subst (λ (f : Bytes). (store_of_disk f ≡ Err fault) ⊎ IsLate (failures old) (failures new) fault) (read.honest (is_synced honest).honest ∙ seen honest) late;
        fine = tt;
        seen = λ honest. (still honest).seen ∙ seen honest;
        is_synced = λ _. tt;
        crash = λ honest. leaves_still (view old) (view mid) (view new) (λ b a. a ≡ b) (crash honest) (still honest);
        kept = kept_then (view old) (view mid) (view new) kept only.kept;
        counted = tt;
        uncounted = λ other. only.uncounted other ∙ counted;
        sound = tt;
      }

-- the pages of what was read are in the table
pub read_home : (r : Result Recovered Fault) (P : Recovered → Type 0) (Q : Fault → Type 0) → MatchResult r (λ found. P found × AreAllHome found.tree) Q → IfOk r (λ found. AreAllHome found.tree)
read_home (Ok found) P Q is = is.1
read_home (Err fault) P Q is = tt

-- ---- a store that is opened again in place

abbrev opened_as : {D : Type 0} → Settings → Store → D → Result (State D) (Fault × D)
opened_as s st disk = Ok (record { settings = s; store = st; disk = disk; has_failed = false })

pub reopened-store : {D : Type 0} (view : D → View) (failures : D → ℕ) (old new : D) (s : Settings) (tree : TreeInMemory) (slot : Slot) (log : LogEnds) (root height : ℕ) (version : Version)
    → slot_with log root height version ≡ slot → IsOpenedOn view failures true old (opened_as s (store_after (tree_of tree) slot) new)
    → IsOpenedOn view failures true old (opened_as s (store_in tree log version) new)
reopened-store view failures old new s tree slot log root height version kept_as opened =
    subst (λ (st : Store). IsOpenedOn view failures true old (opened_as s st new)) (sym (opened-is tree slot log root height version kept_as)) opened

-- a store that was not opened again is still sound
pub unopened-sound : {D : Type 0} (view : D → View) (s : Settings) (st : Store) (old new : D) (had has : Bool) (fault : Fault)
    → IsSound view (record { settings = s; store = st; disk = old; has_failed = had }) → Kept (view old) (view new) → (IsTrue (view old).is_honest → (view new).seen ≡ (view old).seen)
    → ((fault ≡ Device) × (has ≡ true)) ⊎ ((fault ≢ Device) × (has ≡ had)) → IsSound view (record { settings = s; store = st; disk = new; has_failed = has })
unopened-sound view s st old new had has fault was keeps seen why = record {
  is = was.is;
  room = subst (λ (n : ℕ). disk_size s ≤ n) (sym keeps.size) was.room;
  step = λ none still. (
      let honest = subst IsTrue keeps.honest still in
      let fine : had ≡ false = ⊎_elim (λ yes. (let bad = yes.1 in absurd (cc))) (λ no. sym no.1 ∙ none) why in
      subst (λ (f : Bytes). IsInStep s st f) (sym (seen honest)) (was.step fine honest));
}
