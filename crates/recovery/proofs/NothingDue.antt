-- A store whose log lacks nothing is the store that its disk encodes.
use Rattle.std.specs.Prelude.{◌≡◌, ℕ, ◌-◌, ◌<◌, ◌≤◌, List, [], ◌∷◌, ◌++◌, reverse, length, drop, Option, Some, None, Result, Ok}
use Rattle.std.proofs.Common.{refl, sym, ap, ◌∙◌, arith, subst}
use Rattle.std.specs.List.{AllByRecursion}
use Rattle.std.specs.Map.{keys_of}
use Rattle.std.proofs.lemmas.List.{append-nil, length-drop, length-map, length-reverse}
use Rattle.keys.specs.declared.fault.Fault.{Fault}
use Rattle.keys.specs.declared.settings.Settings.{Settings}
use Rattle.keys.specs.declared.version.Version.{Version}
use Rattle.index_page.specs.Page.{PageOfKind}
use Rattle.index_page.specs.Page.PageOfKind.{Leaf, Index}
use Rattle.mapping.specs.Flushed.{page_depth}
use Rattle.mapping.specs.Proper.{AreRisingPids, HasRuns, IsTrueOf, AreLogsTrue, IsProper}
use Rattle.mapping.specs.Tree.{Logged, Tree, Store, listed_at, page_at, or_no, logged_of}
use Rattle.mapping.specs.Tree.Logged.{No, Old, Upto}
use Rattle.mapping.proofs.InUse.{is_eq_same}
use Rattle.mapping.proofs.SameTable.{same_logged}
use Rattle.mapping.proofs.SameTree.{same_tree}
use Rattle.mapping.proofs.TableLemmas.{differ}
use Rattle.mapping.proofs.Walk.{nothing_found}
use Rattle.frame_codec.specs.declared.format.KeyEncoding.{KeyEncoding}
use Rattle.frame_codec.specs.Frame.{Content, Frame}
use Rattle.flush_log.specs.AfterFlush.{store_after}
use Rattle.flush_log.specs.FlushText.{encoding_of, run_contents, lacking, flush_frames, logged_whole, tree_in_log, flushed}
use Rattle.flush_log.specs.Slot.{Slot}
use Rattle.flush_log.specs.declared.text.CommitKind.TheVariants.{Flush}
use Rattle.flush_log.proofs.SlotLemmas.{IsSlot, store_slot-read, slot-stands, slot-is}
use Rattle.recovery.specs.InStep.{AreInStep, IsInStep}
use Rattle.recovery.specs.LogPages.{contents_of, pages_of}
use Rattle.recovery.specs.StoreOfDisk.{frames_in, tree_by_log, store_of_disk}
use Rattle.recovery.proofs.FlushBack.{same_store}
use Rattle.recovery.proofs.FlushLemmas.{known-frames}
use Rattle.recovery.proofs.PagesLemmas.{rising-pages_of}
use Rattle.recovery.proofs.StepLemmas.{whole_of, logged-whole}
use Rattle.recovery.proofs.StoreLemmas.{StandsBy, store-stands}
use Rattle.recovery.proofs.TextLemmas.{IsKnown, true_at, text-of_pid, pages-after}

-- ---- log states if the log lacks nothing

runs_long : (p : PageOfKind) → length (run_contents p) ≡ page_depth p
runs_long (Leaf p) = length-map (reverse p.layers.runs) _ ∙ length-reverse p.layers.runs
runs_long (Index p) = length-map (reverse p.layers.runs) _ ∙ length-reverse p.layers.runs

has_depth : (k : ℕ) (p : PageOfKind) → HasRuns k p → k ≤ page_depth p
has_depth k (Leaf p) h = h
has_depth k (Index p) h = h

all_there : (k : ℕ) (p : PageOfKind) → drop k (run_contents p) ≡ [] → k ≤ page_depth p → k ≡ page_depth p
all_there k p e l =
    let long : length (drop k (run_contents p)) ≡ length (run_contents p) - k = length-drop k (run_contents p) in
    let none : length (drop k (run_contents p)) ≡ 0 = ap (λ (cs : List Content). length cs) e in
    let all = runs_long p in
    omega arith

whole_by : (encoding : KeyEncoding) (o : Option PageOfKind) (listed : Option Logged) → ((l : Logged) → listed ≡ Some l → IsTrueOf o l) → lacking encoding o (or_no listed) ≡ [] → or_no listed ≡ whole_of o
whole_by encoding (Some p) None t e = absurd (cc)
whole_by encoding (Some p) (Some No) t e = absurd (cc)
whole_by encoding (Some p) (Some Old) t e = absurd (cc)
whole_by encoding (Some p) (Some (Upto k)) t e = ap (λ (n : ℕ). Upto n) (all_there k p e (has_depth k p (t (Upto k) refl)))
whole_by encoding None None t e = refl
whole_by encoding None (Some No) t e = refl
whole_by encoding None (Some Old) t e = absurd (cc)
whole_by encoding None (Some (Upto k)) t e = absurd (t (Upto k) refl)

-- ---- a log that has every page as it is

keys_whole : (ps : List (ℕ × PageOfKind)) → keys_of (logged_whole ps) ≡ keys_of ps
keys_whole [] = refl
keys_whole (p ∷ ps) = ap (λ (ns : List ℕ). p.0 ∷ ns) (keys_whole ps)

deep : (p : PageOfKind) → HasRuns (page_depth p) p
deep (Leaf p) = omega arith
deep (Index p) = omega arith

whole_true : (o : Option PageOfKind) (p : PageOfKind) → o ≡ Some p → IsTrueOf o (Upto (page_depth p))
whole_true None p e = absurd (cc)
whole_true (Some q) p e = let same : q ≡ p = cc in rw same (deep p)

each_true : (table ps : List (ℕ × PageOfKind)) → AllByRecursion (λ p. page_at table p.0 ≡ Some p.1) ps → AllByRecursion (λ l. IsTrueOf (page_at table l.0) l.1) (logged_whole ps)
each_true table [] a = tt
each_true table (p ∷ ps) a = (whole_true (page_at table p.0) p.1 a.0, each_true table ps a.1)

later_has : (p : ℕ × PageOfKind) (table ps : List (ℕ × PageOfKind)) → AllByRecursion (λ n. p.0 < n) (keys_of ps) → AllByRecursion (λ q. page_at table q.0 ≡ Some q.1) ps → AllByRecursion (λ q. page_at (p ∷ table) q.0 ≡ Some q.1) ps
later_has p table [] r a = tt
later_has p table (q ∷ qs) r a =
    let above : p.0 < q.0 = r.0 in
    (rw (differ q.0 p.0 (λ e. omega (arith, above, e))) a.0, later_has p table qs r.1 a.1)

pub each_has : (ps : List (ℕ × PageOfKind)) → AreRisingPids (keys_of ps) → AllByRecursion (λ p. page_at ps p.0 ≡ Some p.1) ps
each_has [] r = tt
each_has (p ∷ ps) r = (rw (is_eq_same p.0 p.0 refl) refl, later_has p ps ps r.0 (each_has ps r.1))

-- the log states are true
pub logs-in_log : (ps : List (ℕ × PageOfKind)) (root height : ℕ) → AreRisingPids (keys_of ps) → AreLogsTrue (tree_in_log ps root height)
logs-in_log ps root height rising = record {
  rising = subst (λ (ns : List ℕ). AreRisingPids ns) (sym (keys_whole ps)) rising;
  each = each_true ps ps (each_has ps rising);
}

module _ (t : Tree) (rising : AreRisingPids (keys_of t.pages)) (logs : AreLogsTrue t) where
  -- a tree of which the log lacks nothing is the one that is written
  pub nothing-due : (version : Version) → flush_frames version t ≡ [] → flushed t ≡ t
  nothing-due version e =
      let same : (pid : ℕ) → logged_of (flushed t) pid ≡ logged_of t pid = λ pid.
      logged-whole t.pages pid
      ∙ sym (whole_by (encoding_of version) (page_at t.pages pid) (listed_at t.logged pid) (λ l h. true_at t.pages t.logged pid l logs.each h) (sym (text-of_pid (Flush version) t rising logs pid) ∙ ap (contents_of pid) e)) in
      ap (λ (ls : List (ℕ × Logged)). (let u : Tree = record { pages = t.pages; root = t.root; height = t.height; logged = ls } in u)) (same_logged (flushed t) t (logs-in_log t.pages t.root t.height rising) logs same)

-- ---- the disk

-- the store that is read has a proper tree, and its slot is one that a store may have
pub slot-read : (s : Settings) (on_disk : Store) (file : List ℕ) (by : StandsBy s file on_disk) → IsSlot s by.slot.sequence by.slot
slot-read s on_disk file by = slot-is s by.slot.sequence by.slot (slot-stands s by.slot.sequence by.slot file (store_slot-read s file by.slot by.reads.slot)).good

pub proper-read : (s : Settings) (on_disk : Store) (file : List ℕ) (by : StandsBy s file on_disk) → IsProper s (tree_by_log by.slot (frames_in by.found))
proper-read s on_disk file by =
    let height = (slot-read s on_disk file by).height in
    (nothing_found s (tree_by_log by.slot (frames_in by.found)) (record { rising = rising-pages_of (frames_in by.found); some = height.0 })).0 by.proper

module _ (s : Settings) (st on_disk : Store) (file : List ℕ) (proper : IsProper s st.tree) (logs : AreLogsTrue st.tree) (by : StandsBy s file on_disk) (step : AreInStep st on_disk) (none : flush_frames st.version st.tree ≡ []) where
  abbrev tree_read : Tree
  tree_read = tree_by_log by.slot (frames_in by.found)

  pages_same : tree_read.pages ≡ st.tree.pages
  pages_same =
      let known : IsKnown st.tree (frames_in by.found) = known-frames s st on_disk file proper logs by step in
      sym (ap pages_of (ap (λ (fs : List Frame). frames_in by.found ++ fs) none ∙ append-nil (frames_in by.found))) ∙ pages-after (Flush st.version) st.tree (frames_in by.found) known

  tree_same : tree_read ≡ st.tree
  tree_same =
      let (root, height) = same_tree s tree_read st.tree (proper-read s on_disk file by) proper pages_same in
      ap (λ ps. tree_in_log ps by.slot.root by.slot.height) pages_same
      ∙ ap (λ (n : ℕ). tree_in_log st.tree.pages n by.slot.height) root
      ∙ ap (λ (n : ℕ). tree_in_log st.tree.pages st.tree.root n) height
      ∙ nothing-due st.tree proper.tree.rising logs st.version none

  same_as_read : on_disk ≡ st
  same_as_read =
      let slot : Slot = by.slot in
      let store = by.store in
      store
      ∙ ap (λ (t : Tree). store_after t slot) tree_same
      ∙ same_store st on_disk tree_read slot step store

-- a store whose log lacks nothing is the store that its disk encodes
pub all-written : (s : Settings) (st : Store) (file : List ℕ) → IsProper s st.tree → AreLogsTrue st.tree → IsInStep s st file → flush_frames st.version st.tree ≡ [] → store_of_disk file ≡ Ok (s, st)
all-written s st file proper logs (on_disk, is, are) none =
    is ∙ ap (λ (x : Store). answer x) (same_as_read s st on_disk file proper logs (store-stands s file on_disk is) are none)
  where
    answer : Store → Result (Settings × Store) Fault
    answer x = Ok (s, x)
