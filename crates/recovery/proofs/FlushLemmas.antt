-- Written frames are read back.
use Rattle.std.specs.Prelude.{◌≡◌, ℕ, suc, ◌+◌, Bool, true, false, nat_le, if◌then◌else◌, List, [], ◌∷◌, ◌++◌, length, map, None, Ok}
use Rattle.std.proofs.Common.{refl, sym, ap, ◌∙◌, subst}
use Rattle.std.proofs.lemmas.List.{map-append}
use Rattle.keys.specs.declared.settings.Settings.{Settings}
use Rattle.mapping.specs.Finding.{finding}
use Rattle.mapping.specs.Proper.{AreLogsTrue, IsProper}
use Rattle.mapping.specs.Tree.{Tree, Store}
use Rattle.mapping.proofs.Walk.{nothing_found}
use Rattle.frame_codec.specs.Frame.{Frame, bytes_of}
use Rattle.flush_log.specs.AfterFlush.{flush_slot, store_after}
use Rattle.flush_log.specs.FlushText.{commit_frames, tree_in_log, flushed}
use Rattle.flush_log.specs.Layout.{PlacedFrame, placed_from, placed, found_in_text}
use Rattle.flush_log.specs.Reading.{Found}
use Rattle.flush_log.specs.Slot.{Slot}
use Rattle.flush_log.specs.declared.text.CommitKind.{CommitKind}
use Rattle.recovery.specs.InStep.{AreInStep}
use Rattle.recovery.specs.LogPages.{pages_of, broken_in}
use Rattle.recovery.specs.StoreOfDisk.{frames_in, tree_by_log, store_of_disk}
use Rattle.recovery.proofs.StoreLemmas.{Reads, StandsBy, stands-for}
use Rattle.recovery.proofs.TextLemmas.{IsKnown, pages-after, sound-after}

-- ---- the frames of a commit

frame_by : (b : Bool) (f : Frame) (here there : PlacedFrame) (xs ys : List PlacedFrame) → here.frame ≡ f → there.frame ≡ f → map (λ (p : PlacedFrame). p.frame) xs ≡ map (λ (p : PlacedFrame). p.frame) ys
    → map (λ (p : PlacedFrame). p.frame) (if b then here ∷ xs else (there ∷ ys)) ≡ f ∷ map (λ (p : PlacedFrame). p.frame) ys
frame_by true f here there xs ys e g h = ap (λ (x : Frame). x ∷ map (λ (p : PlacedFrame). p.frame) xs) e ∙ ap (λ (fs : List Frame). f ∷ fs) h
frame_by false f here there xs ys e g h = ap (λ (x : Frame). x ∷ map (λ (p : PlacedFrame). p.frame) ys) g

frames-placed_from : (s : Settings) (n offset : ℕ) (fs : List Frame) → map (λ (p : PlacedFrame). p.frame) (placed_from s n offset fs) ≡ fs
frames-placed_from s n offset [] = refl
frames-placed_from s n offset (f ∷ fs) =
    let later = frames-placed_from s (suc n) (16 + length (bytes_of f)) fs in
    let here : PlacedFrame = record { segment = n; offset = offset; frame = f } in
    let there : PlacedFrame = record { segment = suc n; offset = 16; frame = f } in
    frame_by (nat_le (offset + length (bytes_of f)) s.seg_size) f here there (placed_from s n (offset + length (bytes_of f)) fs) (placed_from s (suc n) (16 + length (bytes_of f)) fs) refl refl
    (frames-placed_from s n (offset + length (bytes_of f)) fs ∙ sym later)
    ∙ ap (λ (gs : List Frame). f ∷ gs) later

frames-placed : (ps : List PlacedFrame) → map (λ (f : Found). f.frame) (map (λ (p : PlacedFrame). (let q : Found = record { segment = p.segment; frame = p.frame } in q)) ps) ≡ map (λ (p : PlacedFrame). p.frame) ps
frames-placed [] = refl
frames-placed (p ∷ ps) = ap (λ (fs : List Frame). p.frame ∷ fs) (frames-placed ps)

-- the places of frames do not affect the pages that they determine
pub frames-text : (s : Settings) (tail : ℕ) (found : List Found) (text : List Frame) → frames_in (found ++ found_in_text s tail text) ≡ frames_in found ++ text
frames-text s tail found text =
    map-append (λ (f : Found). f.frame) found (found_in_text s tail text)
    ∙ ap (λ (fs : List Frame). frames_in found ++ fs) (frames-placed (placed s tail text) ∙ frames-placed_from s _ _ text)

-- ---- the tree that is written

pub proper-flushed : (s : Settings) (t : Tree) → IsProper s t → IsProper s (flushed t)
proper-flushed s t p = record { tree = record { rising = p.tree.rising; some = p.tree.some }; held = p.held; levels = p.levels; fit = p.fit }

finding-flushed : (s : Settings) (t : Tree) → IsProper s t → finding s (flushed t) ≡ None
finding-flushed s t p = let q = proper-flushed s t p in (nothing_found s (flushed t) q.tree).1 q

-- facts about the frames of a disk with which a store is in step
pub known-frames : (s : Settings) (st on_disk : Store) (file : List ℕ) → IsProper s st.tree → AreLogsTrue st.tree → (by : StandsBy s file on_disk) → AreInStep st on_disk → IsKnown st.tree (frames_in by.found)
known-frames s st on_disk file proper logs by step =
    let same : AreInStep st (store_after (tree_by_log by.slot (frames_in by.found)) by.slot) = subst (λ (x : Store). AreInStep st x) by.store step in
    record {
      pages = proper.tree.rising;
      logs = logs;
      sound = by.sound;
      none = λ pid e. (same.none pid).0 e;
      upto = λ pid k e. same.upto pid k e;
    }

-- a disk whose log has the new frames after the old ones, and whose slot is that of the commit
pub text-read : (s : Settings) (text : CommitKind) (st : Store) (bytes : List ℕ) (found : List Found) → IsProper s st.tree → IsKnown st.tree (frames_in found)
    → (let frames : List Frame = commit_frames text st.tree in let t : Slot = flush_slot s st frames in
    Reads s bytes t (found ++ found_in_text s st.tail frames) → store_of_disk bytes ≡ Ok (s, store_after (flushed st.tree) t))
text-read s text st bytes found proper known reads =
    let frames : List Frame = commit_frames text st.tree in
    let t : Slot = flush_slot s st frames in
    let all : List Found = found ++ found_in_text s st.tail frames in
    let alone : frames_in all ≡ frames_in found ++ frames = frames-text s st.tail found frames in
    let pages : pages_of (frames_in all) ≡ st.tree.pages = ap pages_of alone ∙ pages-after text st.tree (frames_in found) known in
    let tree : tree_by_log t (frames_in all) ≡ flushed st.tree = ap (λ ps. tree_in_log ps st.tree.root st.tree.height) pages in
    let sound : broken_in (frames_in all) ≡ None = ap broken_in alone ∙ sound-after text st.tree (frames_in found) known in
    let whole : finding s (tree_by_log t (frames_in all)) ≡ None = ap (λ x. finding s x) tree ∙ finding-flushed s st.tree proper in
    stands-for s bytes t all reads sound whole ∙ ap (λ x. Ok (s, store_after x t)) tree
