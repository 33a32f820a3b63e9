-- The store that a disk encodes is determined by its settings, its slot and its log.
use Rattle.std.specs.Prelude.{◌≡◌, ℕ, List, Option, Some, None, Result, Ok, Err}
use Rattle.std.proofs.Common.{refl, sym, ap, ◌∙◌, subst}
use Rattle.keys.specs.declared.settings.Settings.{Settings}
use Rattle.keys.specs.declared.fault.Fault.{Fault}
use Rattle.keys.specs.Results.{and_then}
use Rattle.mapping.specs.Finding.{Finding, finding, or_else}
use Rattle.mapping.specs.Tree.{Store}
use Rattle.flush_log.specs.Reading.{Found, log}
use Rattle.flush_log.specs.SettingsBlock.{store_settings}
use Rattle.flush_log.specs.Slot.{Slot, store_slot}
use Rattle.flush_log.specs.AfterFlush.{store_after}
use Rattle.recovery.specs.LogPages.{broken_in}
use Rattle.recovery.specs.StoreOfDisk.{unless_found, frames_in, tree_by_log, wrong_in, store_of_slot, store_under, store_of_disk}

-- what is read of a disk
pub record Reads (s : Settings) (file : List ℕ) (t : Slot) (found : List Found) : Type 0 where
  pub settings : store_settings file ≡ Ok s
  pub slot : store_slot s file ≡ Ok t
  pub log : log s file t ≡ Ok found

-- the disk encodes this store, with this slot and these frames
pub record StandsBy (s : Settings) (file : List ℕ) (on_disk : Store) : Type 0 where
  pub slot : Slot
  pub found : List Found
  pub reads : Reads s file slot found
  pub sound : broken_in (frames_in found) ≡ None
  pub proper : finding s (tree_by_log slot (frames_in found)) ≡ None
  pub store : on_disk ≡ store_after (tree_by_log slot (frames_in found)) slot

-- ---- what is read makes the store

module _ {X Y : Type 0} where
  pub then-ok : (r : Result X Fault) (next : X → Result Y Fault) (x : X) → r ≡ Ok x → and_then r next ≡ next x
  then-ok r next x e = ap (λ (q : Result X Fault). and_then q next) e

  pub ok-then : (r : Result X Fault) (next : X → Result Y Fault) (y : Y) → and_then r next ≡ Ok y → (x : X) × (r ≡ Ok x) × (next x ≡ Ok y)
  ok-then (Ok x) next y e = (x, refl, e)
  ok-then (Err fault) next y e = absurd (cc)

nothing_wrong : (a b : Option Finding) → a ≡ None → b ≡ None → or_else a b ≡ None
nothing_wrong a b e f = ap (λ (x : Option Finding). or_else x b) e ∙ f

pub stands-for : (s : Settings) (file : List ℕ) (t : Slot) (found : List Found) → Reads s file t found → broken_in (frames_in found) ≡ None → finding s (tree_by_log t (frames_in found)) ≡ None
    → store_of_disk file ≡ Ok (s, store_after (tree_by_log t (frames_in found)) t)
stands-for s file t found reads sound proper =
    let fs = frames_in found in
    let st : Store = store_after (tree_by_log t fs) t in
    let pair : Store → Result (Settings × Store) Fault = λ st. Ok (s, st) in
    then-ok (store_settings file) (λ s. store_under s file) s reads.settings
    ∙ then-ok (store_slot s file) (λ t. and_then (store_of_slot s file t) pair) t reads.slot
    ∙ ap (λ (r : Result Store Fault). and_then r pair)
    (then-ok (log s file t) (λ found. unless_found (wrong_in s t (frames_in found)) (store_after (tree_by_log t (frames_in found)) t)) found reads.log
    ∙ ap (λ (o : Option Finding). unless_found o st) (nothing_wrong (broken_in fs) (finding s (tree_by_log t fs)) sound proper))

-- ---- and the store is made of what is read

nothing_found_in : (a b : Option Finding) → or_else a b ≡ None → (a ≡ None) × (b ≡ None)
nothing_found_in None b e = (refl, e)
nothing_found_in (Some f) b e = absurd (cc)

unless-ok : {X : Type 0} (o : Option Finding) (x y : X) → unless_found o x ≡ Ok y → (o ≡ None) × (y ≡ x)
unless-ok None x y e = (refl, cc)
unless-ok (Some f) x y e = absurd (cc)

same_pair : (s r : Settings) (st on_disk : Store) → (let p : Result (Settings × Store) Fault = Ok (s, st) in p ≡ Ok (r, on_disk)) → (s ≡ r) × (st ≡ on_disk)
same_pair s r st on_disk e =
    let same : (let x : Settings × Store = (s, st) in x ≡ (r, on_disk)) = cc in
    (ap (λ (x : Settings × Store). x.0) same, ap (λ (x : Settings × Store). x.1) same)

pub store-stands : (s : Settings) (file : List ℕ) (on_disk : Store) → store_of_disk file ≡ Ok (s, on_disk) → StandsBy s file on_disk
store-stands s file on_disk e =
    let (r, settings, under) = ok-then (store_settings file) (λ s. store_under s file) (s, on_disk) e in
    let (t, slot, of_slot) = ok-then (store_slot r file) (λ t. and_then (store_of_slot r file t) (λ st. Ok (r, st))) (s, on_disk) under in
    let (st, made, last) = ok-then (store_of_slot r file t) (λ st. Ok (r, st)) (s, on_disk) of_slot in
    let (same, stores) = same_pair r s st on_disk last in
    let (found, read, checked) = ok-then (log r file t) (λ found. unless_found (wrong_in r t (frames_in found)) (store_after (tree_by_log t (frames_in found)) t)) st made in
    let (sound, is) = unless-ok (wrong_in r t (frames_in found)) (store_after (tree_by_log t (frames_in found)) t) st checked in
    let (whole, proper) = nothing_found_in (broken_in (frames_in found)) (finding r (tree_by_log t (frames_in found))) sound in
    subst (λ (q : Settings). StandsBy q file on_disk) same (record {
      slot = t;
      found = found;
      reads = record { settings = settings; slot = slot; log = read };
      sound = whole;
      proper = proper;
      store = ◌∙◌ {c = store_after (tree_by_log t (frames_in found)) t} (sym stores) is;
    })
