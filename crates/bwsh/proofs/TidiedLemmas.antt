-- Lemmas on stores that are tidied before their flushes.
use Rattle.std.proofs.Common.{◌≡◌, ◌≢◌, ◌⊎◌, inl, inr, ℕ, List, [], ◌∷◌, ◌++◌, map, Option, Some, None, Result, Ok, Err, refl, sym, ap, ◌∙◌, subst, append_assoc}
use Rattle.std.specs.Prelude.{Bool, true, false, ◌&&◌, if◌then◌else◌, nat_eq, is_err, IsTrue}
use Rattle.std.specs.List.{flat_map}
use Rattle.std.specs.declared.alloc.Global.{Global}
use Rattle.std.specs.Option.{option_or}
use Rattle.std.proofs.lemmas.Slice.Eq.{bytes_eq-Decides}
use Rattle.keys.proofs.RunLemmas.{map_after_all-append}
use Rattle.keys.specs.Step.{replies_to, map_after_all}
use Rattle.keys.specs.declared.command.Command.{Command}
use Rattle.keys.specs.declared.fault.Fault.{Fault}
use Rattle.keys.specs.declared.fault.Fault.TheVariants.{NoMemory, NothingToClean}
use Rattle.keys.specs.declared.settings.Settings.{Settings}
use Rattle.mapping.specs.Levels.{contents}
use Rattle.mapping.specs.Tree.{Store, Tree, with_tree}
use Rattle.flush_log.specs.AfterFlush.{file_after, is_spent, slot_of, store_after}
use Rattle.flush_log.specs.Layout.{is_full_for_clean}
use Rattle.flush_log.specs.Reading.{Found, log}
use Rattle.flush_log.specs.Segments.{last_segment}
use Rattle.flush_log.specs.Slot.{Slot}
use Rattle.recovery.specs.LogPages.{broken_in}
use Rattle.recovery.specs.StoreOfDisk.{and_then, frames_in, unless_found}
use Rattle.cleaner.specs.AfterClean.{after_carried, after_clean, after_clean_of, clean_commit}
use Rattle.cleaner.specs.CleanText.{clean_frames}
use Rattle.engine.specs.Batches.{tree_in_turn}
use Rattle.engine.specs.Cleaning.{CleanRow, reads_in}
use Rattle.engine.specs.Compacted.{IsCompacted, compacted}
use Rattle.engine.specs.Room.{is_bloated, is_two_thirds_full}
use Rattle.engine.specs.Tidied.{IsTidied}
use Rattle.bwsh.specs.declared.order.Order.{Order}
use Rattle.bwsh.specs.declared.order.Order.TheVariants.{Batch, Flush, Clean}
use Rattle.bwsh.specs.declared.options.asked.Mode.{Mode}
use Rattle.bwsh.specs.declared.session.SessionError.{SessionError}
use Rattle.bwsh.specs.declared.session.SessionError.TheVariants as errors
use Rattle.bwsh.specs.BatchFile.{commands_of}
use Rattle.bwsh.specs.Session.{Batches, IsAsked, IsByBatches, MayFailBy, Reads, RunsOrder, Seen, Stored, Tidying, TidiesTo, answer_lines, after_order, by_batches, cleaned, cleaned_by, front_lines, compacted_if, compacting, if_it_holds, is_same_map, later, left_by, left_by_step, left_unless, map_after, no_tidying, own_lines, own_refusal, readied, refusal_of, step_in, tidied, tidied_tree, tree_of_batches}
use Rattle.bwsh.specs.Shown.{shown_flushed, shown_reply}
use Rattle.bwsh.proofs.Prints.{front-whole}
use Rattle.bwsh.proofs.RunLemmas.{LeavesStored-alike, LeavesStored-unmoved, Runs-alike, all_printed, answering, committed_unless, of_clean, own_all, failing_cleans, no_cleans, none_in_front, own_printed, refusal_of-failing, refused, unrefused_by}

-- ---- maps

abbrev Rows : Type 0
Rows = List (List ℕ × List ℕ)

is_same_map-own : (m : Rows) → is_same_map m m ≡ true
is_same_map-own [] = refl
is_same_map-own (p ∷ ps) = rw ((bytes_eq-Decides p.0 p.0).1 refl, (bytes_eq-Decides p.1 p.1).1 refl, is_same_map-own ps) refl

all_three : (a b c : Bool) → (a && b && c) ≡ true → (a ≡ true) × (b ≡ true) × (c ≡ true)
all_three true true true e = (refl, refl, refl)
all_three true true false e = absurd (cc)
all_three true false c e = absurd (cc)
all_three false b c e = absurd (cc)

rows_are : (p q : List ℕ × List ℕ) (ps qs : Rows) → p.0 ≡ q.0 → p.1 ≡ q.1 → ps ≡ qs → p ∷ ps ≡ q ∷ qs
rows_are p q ps qs first second rest =
    ap (λ (x : List ℕ). (let row : List ℕ × List ℕ = (x, p.1) in row ∷ ps)) first
    ∙ ap (λ (y : List ℕ). (let row : List ℕ × List ℕ = (q.0, y) in row ∷ ps)) second
    ∙ ap (λ (rows : Rows). q ∷ rows) rest

is_same_map-is : (m n : Rows) → is_same_map m n ≡ true → m ≡ n
is_same_map-is [] [] e = refl
is_same_map-is [] (q ∷ qs) e = absurd (cc)
is_same_map-is (p ∷ ps) [] e = absurd (cc)
is_same_map-is (p ∷ ps) (q ∷ qs) e =
    let (first, second, rest) = all_three _ _ _ e in
    rows_are p q ps qs ((bytes_eq-Decides p.0 q.0).0 first) ((bytes_eq-Decides p.1 q.1).0 second) (is_same_map-is ps qs rest)

-- ---- what tidying leaves

holds_by : (now old : Tree) (b : Bool) → is_same_map (contents now) (contents old) ≡ b → contents (if b then now else old) ≡ contents old
holds_by now old true same = is_same_map-is (contents now) (contents old) same
holds_by now old false same = refl

holds_batches : (settings : Settings) (batches : Batches) (tree : Tree) → contents (tree_of_batches settings batches tree) ≡ contents tree
holds_batches settings [] tree = refl
holds_batches settings (b ∷ bs) tree = holds_by (tree_in_turn settings tree (b ∷ bs)) tree _ refl

holds_if : (now old : Tree) (b : Bool) → contents now ≡ contents old → contents (if b then now else old) ≡ contents old
holds_if now old true same = same
holds_if now old false same = refl

holds_compacted : (settings : Settings) (compacts : Bool) (tree : Tree) → contents (compacted_if compacts settings tree) ≡ contents tree
holds_compacted settings false tree = refl
holds_compacted settings true tree = holds_if (if_it_holds (compacted settings tree) tree) tree (is_bloated settings tree) (holds_by (compacted settings tree) tree _ refl)

-- what is held stays
pub holds-tidied : (settings : Settings) (tidying : Tidying) (at : Stored) → contents (tidied settings tidying at).0.tree ≡ contents at.0.tree
holds-tidied settings tidying at =
    holds_compacted settings tidying.compacts (tree_of_batches settings tidying.batches at.0.tree) ∙ holds_batches settings tidying.batches at.0.tree

-- the log and the bytes stay
pub log-tidied : (settings : Settings) (tidying : Tidying) (at : Stored)
    → ((tidied settings tidying at).0 ≡ with_tree at.0 (tidied settings tidying at).0.tree) × ((tidied settings tidying at).1 ≡ at.1)
log-tidied settings tidying at = (refl, refl)

-- what is stored, with another tree
abbrev retreed : Tree → Stored → Stored
retreed tree at = (with_tree at.0 tree, at.1)

tidied-is : (settings : Settings) (batches : Tidying) (at : Stored) → tidied settings batches at ≡ retreed (tidied_tree settings batches at.0.tree) at
tidied-is settings batches at = refl

-- a tree that holds the same counts
if_it_holds-is : (now old : Tree) → contents now ≡ contents old → if_it_holds now old ≡ now
if_it_holds-is now old same =
    let one : is_same_map (contents now) (contents old) ≡ true = ap (λ (m : Rows). is_same_map m (contents old)) same ∙ is_same_map-own (contents old) in
    ap (λ (b : Bool). if b then now else old) one

tidies_by : (settings : Settings) (st now : Store) (batches : Batches) → contents now.tree ≡ contents st.tree
    → now ≡ with_tree st (tree_in_turn settings st.tree batches) → with_tree st (tree_of_batches settings batches st.tree) ≡ now
tidies_by settings st now [] holds planned = sym planned
tidies_by settings st now (b ∷ bs) holds planned =
    let tree : Tree = tree_in_turn settings st.tree (b ∷ bs) in
    let same : contents tree ≡ contents st.tree = ap (λ (s : Store). contents s.tree) (sym planned) ∙ holds in
    ap (λ (t : Tree). with_tree st t) (if_it_holds-is tree st.tree same) ∙ sym planned

-- what `Store::tidy` leaves is tidied by some batches
pub tidies : (settings : Settings) (st now : Store) → IsTidied settings st now → (batches : Batches) × ((file : List ℕ) → tidied settings (by_batches batches) (st, file) ≡ (now, file))
tidies settings st now is =
    (is.batches, λ file. ap (λ (s : Store). (let at : Stored = (s, file) in at)) (tidies_by settings st now is.batches is.holds is.planned))

-- the store is compacted after these batches
module _ (settings : Settings) (st mid now : Store) (batches : Batches) (are : (file : List ℕ) → tidied settings (by_batches batches) (st, file) ≡ (mid, file)) where
  mid_is : with_tree st (tree_of_batches settings batches st.tree) ≡ mid
  mid_is = ap (λ (at : Stored). at.0) (are [])

  mid_tree : tree_of_batches settings batches st.tree ≡ mid.tree
  mid_tree = ap (λ (s : Store). s.tree) mid_is

  compacted_then : (bloated : is_bloated settings mid.tree ≡ true) → IsCompacted settings mid now → (file : List ℕ)
      → tidied settings (record { batches = batches; compacts = true }) (st, file) ≡ (now, file)
  compacted_then bloated is file =
      let same : contents (compacted settings mid.tree) ≡ contents mid.tree = ap (λ (s : Store). contents s.tree) (sym is.planned) ∙ is.holds in
      ap (λ (t : Tree). (let at : Stored = (with_tree st (compacted_if true settings t), file) in at)) mid_tree
      ∙ ap (λ (b : Bool). (let at : Stored = (with_tree st (if b then if_it_holds (compacted settings mid.tree) mid.tree else mid.tree), file) in at)) bloated
      ∙ ap (λ (t : Tree). (let at : Stored = (with_tree st t, file) in at)) (if_it_holds-is (compacted settings mid.tree) mid.tree same)
      ∙ ap (λ (s : Store). (let at : Stored = (with_tree s (compacted settings mid.tree), file) in at)) mid_is
      ∙ ap (λ (s : Store). (let at : Stored = (s, file) in at)) (sym is.planned)

-- what `Store::compact` leaves of a bloated store is tidied by compaction
pub compacts : (settings : Settings) (st now : Store) → is_bloated settings st.tree ≡ true → IsCompacted settings st now → (file : List ℕ) → tidied settings compacting (st, file) ≡ (now, file)
compacts settings st now bloated is = compacted_then settings st st now [] (λ file. refl) bloated is

-- ---- replies

map_after-is : (m : Rows) (order : Order) → map_after_all m (commands_of order) ≡ map_after m order
map_after-is m (Batch cs) = refl
map_after-is m _ = refl

-- a batch prints the replies of the map after the commands that were ordered before it
pub replies-anywhere : (settings : Settings) (st : Store) (shown : Reads) (m : Rows) (front : List Order) (commands : List (Command Global)) (rest : List Order)
    → (last : List (List ℕ)) × (answer_lines settings st shown m (front ++ Batch commands ∷ rest)
    ≡ answer_lines settings st shown m front ++ (map shown_reply (replies_to (map_after_all m (flat_map commands_of front)) commands) ++ last))
replies-anywhere settings st shown m [] commands rest =
    (answer_lines settings (after_order settings st (shown 0) (Batch commands)).0 (later shown) (map_after_all m commands) rest, refl)
replies-anywhere settings st shown m (order ∷ front) commands rest =
    let now : Store = (after_order settings st (shown 0) order).0 in
    let own : List (List ℕ) = front_lines st (shown 0) order ++ own_lines settings st (shown 0) m order in
    let further : List (Command Global) = flat_map commands_of front in
    let (last, is) = replies-anywhere settings now (later shown) (map_after m order) front commands rest in
    let same : map_after_all (map_after m order) further ≡ map_after_all m (commands_of order ++ further) =
    ap (λ (n : Rows). map_after_all n further) (sym (map_after-is m order)) ∙ sym (map_after_all-append m (commands_of order) further) in
    let fronted : List (List ℕ) = answer_lines settings now (later shown) (map_after m order) front in (
      last,
      ap (λ (l : List (List ℕ)). own ++ l) is
          ∙ ap (λ (n : Rows). own ++ (fronted ++ (map shown_reply (replies_to n commands) ++ last))) same
          ∙ sym (append_assoc own fronted (map shown_reply (replies_to (map_after_all m (commands_of order ++ further)) commands) ++ last)),
    )

-- ---- a flush before which the store is tidied

-- in the same ways, but that nothing is tidied
abbrev pub untidy : Mode → Mode
untidy mode = record mode { tidy = 0; clean_when_full = false }

-- so nothing is
pub plain_of : (mode : Mode) (t : Tidying) → IsAsked (untidy mode) t → t ≡ no_tidying
plain_of mode t asked =
    ap (λ (b : Batches). (let s : Tidying = record { batches = b; compacts = t.compacts } in s)) (asked.0 refl)
    ∙ ap (λ (c : Bool). (let s : Tidying = record { batches = []; compacts = c } in s)) (asked.1 refl)

-- a store becomes another one, where it is tidied so
abbrev pub IsTidiedBy : Settings → Tidying → Store → Store → Type 0
IsTidiedBy settings batches old now = (file : List ℕ) → tidied settings batches (old, file) ≡ (now, file)

-- no batches are none that weren't asked for
pub by_no_batches : (mode : Mode) (settings : Settings) (st : Store) → IsByBatches mode settings st st
by_no_batches mode settings st = ([], λ off. refl, λ file. refl)

-- what `Store::tidy` leaves is tidied as it is asked for
pub by_some_batches : (mode : Mode) (settings : Settings) (st now : Store) → mode.tidy ≢ 0 → IsTidied settings st now → IsByBatches mode settings st now
by_some_batches mode settings st now some is =
    let (batches, are) = tidies settings st now is in
    (batches, λ off. absurd (some off), are)

-- and it isn't compacted after them
pub TidiesTo-batches : (mode : Mode) (settings : Settings) (st now : Store) → IsByBatches mode settings st now → TidiesTo mode settings st now
TidiesTo-batches mode settings st now (batches, unasked, are) =
    record { tidying = by_batches batches; asked = (unasked, λ off. refl); leaves = are }

-- or it is, or isn't, where flushes make themselves room
pub TidiesTo-compacted : (mode : Mode) (settings : Settings) (st mid now : Store) → mode.clean_when_full ≡ true → IsByBatches mode settings st mid
    → (now ≡ mid) ⊎ (IsTrue (is_two_thirds_full settings mid) × IsTrue (is_bloated settings mid.tree) × IsCompacted settings mid now) → TidiesTo mode settings st now
TidiesTo-compacted mode settings st mid now room by (inl same) = subst (λ (s : Store). TidiesTo mode settings st s) (sym same) (TidiesTo-batches mode settings st mid by)
TidiesTo-compacted mode settings st mid now room (batches, unasked, are) (inr (full, bloated, is)) =
    record {
      tidying = record { batches = batches; compacts = true };
      asked = (unasked, λ off. absurd (cc));
      leaves = compacted_then settings st mid now batches are bloated is;
    }

module _ (settings : Settings) (batches : Tidying) (under st : Store) (are : IsTidiedBy settings batches under st) where
  -- the tidied store holds the same
  pub held_by : contents st.tree ≡ contents under.tree
  held_by = ap (λ (at : Stored). contents at.0.tree) (sym (are [])) ∙ holds-tidied settings batches (under, [])

  module _ (seen : Seen) (plain : seen.tidying ≡ no_tidying) (bare : seen.rows ≡ []) where
    -- with no rows, nothing is cleaned
    no_rows : (t : Tidying) (x : Store) → (cleaned_by settings (reads_in seen.rows) (tidied settings t (x, seen.bytes))).0 ≡ (tidied settings t (x, seen.bytes)).0
    no_rows t x = ap (λ (r : List CleanRow). (cleaned_by settings (reads_in r) (tidied settings t (x, seen.bytes))).0) bare

    at_hand : readied Flush settings (record seen { tidying = batches }) (under, seen.bytes) ≡ readied Flush settings seen (st, seen.bytes)
    at_hand =
        ap (λ (x : Store). (let at : Stored = (x, seen.last) in at))
        (no_rows batches under ∙ ap (λ (at : Stored). at.0) (are seen.bytes ∙ ap (λ (b : Tidying). tidied settings b (st, seen.bytes)) (sym plain)) ∙ sym (no_rows seen.tidying st))

    -- a flush of the tidied store leaves what one leaves before which the store is tidied, and is refused for the same reason
    after_flush_of : after_order settings under (record seen { tidying = batches }) Flush ≡ after_order settings st seen Flush
    unfolding after_order
    after_flush_of = ap (λ (at : Stored). left_unless seen.fails at (left_by_step settings at (step_in Flush))) at_hand

    refusal_flush_of : refusal_of settings under (record seen { tidying = batches }) Flush ≡ refusal_of settings st seen Flush
    unfolding refusal_of
    refusal_flush_of = ap (λ (at : Stored). option_or seen.fails (own_refusal settings at Flush)) at_hand

-- a flush that can fail so where flushes make themselves no room can where they do
fails_too : (cleans : Bool) (settings : Settings) (at other : Stored) (o : Option Fault) → MayFailBy false settings at Flush o → MayFailBy cleans settings other Flush o
fails_too cleans settings at other None may = tt
fails_too cleans settings at other (Some fault) (inl memory) = inl memory
fails_too cleans settings at other (Some fault) (inr (on, frees, full, right)) = absurd (cc)

pub RunsOrder-tidied : (mode : Mode) → mode.clean_when_full ≡ false → (honest : Bool) (settings : Settings) (batches : Tidying) → IsAsked mode batches → (under st : Store) → IsTidiedBy settings batches under st
    → (left : List ℕ) (old new : Option (List ℕ)) (end : Result (Unit {0}) SessionError) (now : Store) (bytes : List ℕ)
    → RunsOrder (untidy mode) honest settings st left Flush old new end now bytes → RunsOrder mode honest settings under left Flush old new end now bytes
RunsOrder-tidied mode off honest settings batches unasked under st are left old new end now bytes (seen, is, runs, leaves) =
    let plain : seen.tidying ≡ no_tidying = plain_of mode seen.tidying is.0 in
    let bare : seen.rows ≡ [] = is.2 in
    let too : Seen = record seen { tidying = batches } in
    let after = after_flush_of settings batches under st are seen plain bare in
    let refused_so = refusal_flush_of settings batches under st are seen plain bare in (
      too,
      (
        unasked,
        fails_too mode.clean_when_full settings (readied Flush settings seen (st, seen.bytes)) (readied Flush settings too (under, seen.bytes)) seen.fails is.1,
        no_cleans honest mode.clean_when_full settings under Flush too (λ _. off) bare,
        λ h. (
          (is.3 h).0,
          (is.3 h).1
              ∙ ap (λ (rows : List CleanRow). (cleaned_by settings (reads_in rows) (tidied settings seen.tidying (st, seen.bytes))).1) bare
              ∙ sym (ap (λ (rows : List CleanRow). (cleaned_by settings (reads_in rows) (tidied settings batches (under, seen.bytes))).1) bare),
        ),
      ),
      Runs-alike settings under st too seen Flush refused_so (none_in_front under too Flush bare ∙ sym (none_in_front st seen Flush bare))
          (ap (λ (at : Stored). shown_flushed at.0.sequence ∷ []) after) mode.stream old new end runs,
      λ other. LeavesStored-alike honest settings under st too seen Flush refused_so after (sym (held_by settings batches under st are)) now bytes (leaves other),
    )

-- ---- a flush that fails

-- these bytes are read, the store is tidied so, and this fails
abbrev pub failing_flush : Tidying → List ℕ → Fault → Seen
failing_flush batches file fault = record { bytes = file; tidying = batches; rows = []; last = file; merged = []; fails = Some fault; told = [] }

pub after_flush-failing : (settings : Settings) (st : Store) (batches : Tidying) (file : List ℕ) (fault : Fault)
    → after_order settings st (failing_flush batches file fault) Flush ≡ tidied settings batches (st, file)
unfolding after_order
after_flush-failing settings st batches file fault = refl

-- ---- memory that is refused when the flush is done

-- in a session that isn't a stream, for there the flush isn't tried then
pub RunsOrder-late : (mode : Mode) (honest : Bool) (settings : Settings) (st : Store) (left : List ℕ) (old new : Option (List ℕ)) (done : Unit {0}) (end : Result (Unit {0}) SessionError)
    (now : Store) (bytes : List ℕ) → RunsOrder mode honest settings st left Flush old new (Ok done) now bytes → (end ≡ Ok tt) ⊎ ((mode.stream ≡ false) × (end ≡ Err (errors.Fault NoMemory)))
    → RunsOrder mode honest settings st left Flush old new end now bytes
RunsOrder-late mode honest settings st left old new done end now bytes one (inl e) = rw e one
RunsOrder-late mode honest settings st left old new done end now bytes (seen, is, runs, leaves) (inr (off, e)) =
    let lines : List (List ℕ) = front_lines st seen Flush ++ own_lines settings st seen (contents st.tree) Flush in
    let none = unrefused_by settings st seen Flush mode.stream old new done runs in
    let all = own_all mode.stream old new lines done (own_printed settings st seen Flush mode.stream old new (Ok done) none runs) in (
      seen,
      is,
      all_printed settings st seen Flush mode.stream old new end none (inr (inl (off, e, (lines, front-whole lines, all)))),
      λ other. leaves (λ device. absurd (cc)),
    )

-- memory that was refused in tidying ends such a session
pub late_or : (stream : Bool) (r : Result (Unit {0}) SessionError) → (r ≡ Ok tt) ⊎ (r ≡ Err (errors.Fault NoMemory)) → (stream ≡ false) ⊎ (is_err r ≡ false)
    → (r ≡ Ok tt) ⊎ ((stream ≡ false) × (r ≡ Err (errors.Fault NoMemory)))
late_or stream r (inl e) how = inl e
late_or stream r (inr e) (inl off) = inr (off, e)
late_or stream r (inr e) (inr fine) =
    let no : true ≡ false = subst (λ (x : Result (Unit {0}) SessionError). is_err x ≡ false) e fine in absurd (cc)

pub refused_if : (r : Result (Unit {0}) SessionError) → (r ≡ Ok tt) ⊎ (r ≡ Err (errors.Fault NoMemory)) → is_err r ≡ true → r ≡ Err (errors.Fault NoMemory)
refused_if r (inr e) failed = e
refused_if r (inl e) failed =
    let no : false ≡ true = subst (λ (x : Result (Unit {0}) SessionError). is_err x ≡ true) e failed in absurd (cc)

-- memory is refused when the store is tidied: the flush is refused, and the store stays as it was tidied
pub RunsOrder-untidied : (mode : Mode) (honest : Bool) (settings : Settings) (st : Store) (left : List ℕ) (old : Option (List ℕ)) (now : Store) → TidiesTo mode settings st now → (bytes : List ℕ)
    → (IsTrue honest → bytes ≡ left) → RunsOrder mode honest settings st left Flush old old (Err (errors.Fault NoMemory)) now bytes
RunsOrder-untidied mode honest settings st left old now by bytes same =
    let at = failing_flush by.tidying left NoMemory in (
      at,
      (by.asked, inl refl, failing_cleans honest mode.clean_when_full settings st Flush NoMemory (λ flush. refl) left by.tidying, λ h. (refl, refl)),
      refused settings st at Flush mode.stream old old refl NoMemory refl (refusal_of-failing settings st at Flush NoMemory refl),
      λ other.
          LeavesStored-unmoved honest settings st now at Flush NoMemory (refusal_of-failing settings st at Flush NoMemory refl) left (after_flush-failing settings st by.tidying left NoMemory ∙ by.leaves left)
          (held_by settings by.tidying st now by.leaves) now bytes refl same,
    )

-- ---- a clean of a store that was tidied

abbrev retreed_by : Tree → Result Stored Fault → Result Stored Fault
retreed_by tree (Ok at) = Ok (retreed tree at)
retreed_by tree (Err fault) = Err fault

abbrev unless_alone : Bool → Result Stored Fault → Result Stored Fault
unless_alone alone r = if alone then Err NothingToClean else r

commit-any_tree : (tree other : Tree) (t : Slot) (spent full : Bool) (f : List ℕ) → committed_unless spent full (store_after tree t) f ≡ retreed_by tree (committed_unless spent full (store_after other t) f)
commit-any_tree tree other t true full f = refl
commit-any_tree tree other t false true f = refl
commit-any_tree tree other t false false f = refl

-- a clean is the same whatever the tree is, and this stays
module _ (settings : Settings) (st : Store) (tree : Tree) (file : List ℕ) where
  carried-any_tree : (text : _) → after_carried settings (with_tree st tree) file text ≡ retreed_by tree (after_carried settings st file text)
  carried-any_tree text =
      let m = clean_commit settings st file text in
      commit-any_tree tree st.tree m.slot (is_spent m.slot) (is_full_for_clean settings st.head m.slot.tail) (file_after settings file m)

  text-any_tree : (text : Result _ Fault) → and_then text (after_carried settings (with_tree st tree) file) ≡ retreed_by tree (and_then text (after_carried settings st file))
  text-any_tree (Ok text) = carried-any_tree text
  text-any_tree (Err fault) = refl

  found-any_tree : (found : Result (List Found) Fault) → and_then found (after_clean_of settings (with_tree st tree) file) ≡ retreed_by tree (and_then found (after_clean_of settings st file))
  found-any_tree (Ok found) = text-any_tree (unless_found (broken_in (frames_in found)) (clean_frames st.head found))
  found-any_tree (Err fault) = refl

  unless-any_tree : (alone : Bool) (found : Result (List Found) Fault) → unless_alone alone (and_then found (after_clean_of settings (with_tree st tree) file))
      ≡ retreed_by tree (unless_alone alone (and_then found (after_clean_of settings st file)))
  unless-any_tree true found = refl
  unless-any_tree false found = found-any_tree found

  clean-any_tree : after_clean settings (with_tree st tree) file ≡ retreed_by tree (after_clean settings st file)
  clean-any_tree = unless-any_tree (nat_eq st.head (last_segment settings st.tail)) (log settings file (slot_of st))

  left-any_tree : (r : Result Stored Fault) → left_by (with_tree st tree, file) (answering of_clean (retreed_by tree r)) ≡ retreed tree (left_by (st, file) (answering of_clean r))
  left-any_tree (Ok p) = refl
  left-any_tree (Err fault) = refl

step_clean-any_tree : (settings : Settings) (at : Stored) (tree : Tree) → left_by_step settings (retreed tree at) (step_in Clean) ≡ retreed tree (left_by_step settings at (step_in Clean))
step_clean-any_tree settings at tree =
    ap (λ (r : Result Stored Fault). left_by (with_tree at.0 tree, at.1) (answering of_clean r)) (clean-any_tree settings at.0 tree at.1)
    ∙ left-any_tree settings at.0 tree at.1 (after_clean settings at.0 at.1)

step_clean-tree : (settings : Settings) (at : Stored) → (left_by_step settings at (step_in Clean)).0.tree ≡ at.0.tree
step_clean-tree settings at = ap (λ (q : Stored). q.0.tree) (step_clean-any_tree settings at at.0.tree)

-- so do several
cleaned-tree : (settings : Settings) (reads : List (List ℕ)) (at : Stored) → (cleaned_by settings reads at).0.tree ≡ at.0.tree
cleaned-tree settings [] at = refl
cleaned-tree settings (file ∷ reads) at = cleaned-tree settings reads (left_by_step settings (at.0, file) (step_in Clean)) ∙ step_clean-tree settings (at.0, file)

-- what is held stays in a flush that tidies and cleans
pub holds-cleaned : (settings : Settings) (seen : Seen) (at : Stored) → contents (cleaned settings seen at).0.tree ≡ contents at.0.tree
holds-cleaned settings seen at = ap contents (cleaned-tree settings (reads_in seen.rows) (tidied settings seen.tidying at)) ∙ holds-tidied settings seen.tidying at

-- so it makes no difference whether the store is tidied before or after it
pub tidied-cleaned : (settings : Settings) (batches : Tidying) (at : Stored)
    → tidied settings batches (left_by_step settings at (step_in Clean)) ≡ left_by_step settings (tidied settings batches at) (step_in Clean)
tidied-cleaned settings batches at =
    let left : Stored = left_by_step settings at (step_in Clean) in
    tidied-is settings batches left
    ∙ ap (λ (t : Tree). retreed (tidied_tree settings batches t) left) (step_clean-tree settings at)
    ∙ sym (step_clean-any_tree settings at (tidied_tree settings batches at.0.tree))
    ∙ ap (λ (q : Stored). left_by_step settings q (step_in Clean)) (sym (tidied-is settings batches at))
