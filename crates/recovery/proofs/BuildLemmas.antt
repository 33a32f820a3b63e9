-- Filling a table by rising pid, and the findings on the tree that it then contains.
use Rattle.std.specs.Prelude.{◌≡◌, ◌⊎◌, ℕ, suc, pred, ◌<◌, ◌==◌, true, List, [], ◌∷◌, ◌++◌, length, map, Option, Some, None, IsSome, Result, Ok, Err, IfErr, OnOk, IsErrAnd, nat_eq}
use Rattle.std.proofs.Common.{refl, sym, ap, ◌∙◌, arith, subst, inl, inr, append_assoc, append-nil, Equal, Greater}
use Rattle.std.specs.List.{AllByRecursion}
use Rattle.std.specs.declared.alloc.AllocError.{AllocError}
use Rattle.std.specs.List.Sorted.{IsStrictlySortedBy}
use Rattle.std.specs.Map.{keys_of, lookup}
use Rattle.std.specs.Ordering.{nat_cmp}
use Rattle.std.specs.Cmp.{nat_cmp_is}
use Rattle.std.specs.BTreeMap.{insert_entry}
use Rattle.std.proofs.lemmas.Bool.{ne_eqb}
use Rattle.std.proofs.lemmas.List.{map-append}
use Rattle.keys.specs.Limits.{first_bad_field}
use Rattle.keys.specs.declared.fault.Fault.{Fault}
use Rattle.keys.specs.declared.fault.Fault.TheVariants.{NoMemory, BadStructure}
use Rattle.keys.specs.declared.settings.Settings.{Settings}
use Rattle.index_page.specs.Children.{Place}
use Rattle.index_page.specs.Page.{PageOfKind}
use Rattle.mapping.specs.Finding.{Finding, finding, finding_below, or_else, root_place}
use Rattle.mapping.specs.Flushed.{marked_as_written}
use Rattle.mapping.specs.FreshPids.{is_among}
use Rattle.mapping.specs.Proper.{AreRisingPids, IsProper, IsTree}
use Rattle.mapping.specs.Slots.{entry_if}
use Rattle.mapping.specs.Table.{Mapping, is_same_pid, place_of, with_place, room_by, with_room}
use Rattle.mapping.specs.Tree.{Tree}
use Rattle.mapping.specs.TreeInMemory.{TreeInMemory, AreAllHome, home_pages, tree_of}
use Rattle.mapping.proofs.Walk.{nothing_found}
use Rattle.frame_codec.specs.declared.format.Format.{Format}
use Rattle.frame_codec.specs.Frame.{Frame, is_frame}
use Rattle.flush_log.specs.FlushText.{tree_in_log}
use Rattle.flush_log.specs.Reading.{Found}
use Rattle.flush_log.specs.Slot.{Slot}
use Rattle.verify.specs.Report.{IsFaultOf}
use Rattle.recovery.specs.BuiltTree.{in_places, log_pids, pages_of_logs, logs_made, pages_made, filled, log_under}
use Rattle.recovery.specs.Gathered.{live_frames, wanted_of, IsKept, IsKeptOf, AreGathered}
use Rattle.recovery.specs.LogPages.{in_log, pages_under, pages_of, broken_in}
use Rattle.recovery.specs.PageByLog.{page_from_start, page_in}
use Rattle.recovery.specs.Rebuild.{HeldLog, held_log, page_of_frames}
use Rattle.recovery.specs.StoreOfDisk.{frames_in, tree_by_log, wrong_in}
use Rattle.recovery.specs.declared.gather.Gathering.{Gathering}
use Rattle.recovery.specs.declared.gather.Kept.{Kept}
use Rattle.recovery.specs.declared.gather.Wanted.TheVariants.{Every}
use Rattle.recovery.specs.declared.rebuild.PageLog.{PageLog}
use Rattle.recovery.specs.declared.rebuild.Rebuilt.{Rebuilt}
use Rattle.recovery.proofs.GatherLemmas.{keys-rise}
use Rattle.recovery.proofs.KeptPages.{first_is, later_are, in-order, state-in_log, bytes-frames, live_frames-within, wanted-within, wanted-page}
use Rattle.recovery.proofs.PagesLemmas.{rising-pages_of}
use Rattle.recovery.proofs.TableLemmas.{table-marked}

-- ---- a pid above all that there are

same_number : (n : ℕ) → nat_cmp n n ≡ Equal
same_number n = sym (nat_cmp_is n n Equal refl)

greater : (m n : ℕ) → n < m → nat_cmp m n ≡ Greater
greater m n h = sym (nat_cmp_is m n Greater h)

module _ {V : Type 0} (k : ℕ) where
  abbrev AreBelow : List (ℕ × V) → Type 0
  AreBelow es = AllByRecursion (λ n. n < k) (keys_of es)

  insert_last : (es : List (ℕ × V)) (v : V) → AreBelow es → insert_entry nat_cmp es k v ≡ es ++ (k, v) ∷ []
  insert_last [] v b = refl
  insert_last (e ∷ es) v b = rw (greater k e.0 b.0) (ap (λ (x : List (ℕ × V)). e ∷ x) (insert_last es v b.1))

  replace_last : (es : List (ℕ × V)) (w v : V) → AreBelow es → insert_entry nat_cmp (es ++ (k, w) ∷ []) k v ≡ es ++ (k, v) ∷ []
  replace_last [] w v b = rw (same_number k) refl
  replace_last (e ∷ es) w v b = rw (greater k e.0 b.0) (ap (λ (x : List (ℕ × V)). e ∷ x) (replace_last es w v b.1))

  none_here : (es : List (ℕ × V)) → AreBelow es → lookup (is_same_pid k) es ≡ None
  none_here [] b = refl
  none_here (e ∷ es) b = rw (greater k e.0 b.0) (none_here es b.1)

  last_here : (es : List (ℕ × V)) (v : V) → AreBelow es → lookup (is_same_pid k) (es ++ (k, v) ∷ []) ≡ Some v
  last_here [] v b = rw (same_number k) refl
  last_here (e ∷ es) v b = rw (greater k e.0 b.0) (last_here es v b.1)

module _ {P : Type 0} (t : Mapping P) where
  -- the table with a place after all others
  abbrev pub and_last : ℕ → Option P → Mapping P
  and_last k o = record { places = t.places ++ (k, o) ∷ []; logged = t.logged }

  abbrev with_these : List (ℕ × Option P) → Mapping P
  with_these es = record { places = es; logged = t.logged }

  module _ (k : ℕ) (b : AllByRecursion (λ n. n < k) (keys_of t.places)) where
    room-last : with_room t k ≡ and_last k None
    room-last = ap (λ (o : Option (Option P)). room_by o t k) (none_here k t.places b) ∙ ap with_these (insert_last k t.places None b)

    -- the place is empty at first
    pub away-last : place_of (with_room t k) k ≡ Some None
    away-last = ap (λ (u : Mapping P). place_of u k) room-last ∙ last_here k t.places None b

    -- and then it is put there
    pub put-last : (p : P) → with_place (with_room t k) k (Some p) ≡ and_last k (Some p)
    put-last p = ap (λ (u : Mapping P). with_place u k (Some p)) room-last ∙ ap with_these (replace_last k t.places None (Some p) b)

-- ---- a table that is filled

below_first : (ms ns : List ℕ) (n m : ℕ) → AllByRecursion (λ k. m < k) (ms ++ n ∷ ns) → m < n
below_first [] ns n m a = a.0
below_first (k ∷ ms) ns n m a = below_first ms ns n m a.1

-- those before are below
all-below : (ms ns : List ℕ) (n : ℕ) → AreRisingPids (ms ++ n ∷ ns) → AllByRecursion (λ m. m < n) ms
all-below [] ns n r = tt
all-below (m ∷ ms) ns n r = (below_first ms ns n m r.0, all-below ms ns n r.1)

left_out : (P : ℕ → Type 0) (ms ns : List ℕ) (n : ℕ) → AllByRecursion P (ms ++ n ∷ ns) → AllByRecursion P (ms ++ ns)
left_out P [] ns n a = a.1
left_out P (m ∷ ms) ns n a = (a.0, left_out P ms ns n a.1)

-- without one of them, rising pids rise
rising-left_out : (ms ns : List ℕ) (n : ℕ) → AreRisingPids (ms ++ n ∷ ns) → AreRisingPids (ms ++ ns)
rising-left_out [] ns n r = r.1
rising-left_out (m ∷ ms) ns n r = (left_out (λ k. m < k) ms ns n r.0, rising-left_out ms ns n r.1)

abbrev pub pids_in : Mapping PageOfKind → List ℕ → List ℕ
pids_in t ns = keys_of t.places ++ ns

in_places-append : (ps qs : List (ℕ × PageOfKind)) → in_places (ps ++ qs) ≡ in_places ps ++ in_places qs
in_places-append ps qs = map-append (λ p. (let x : ℕ × Option PageOfKind = (p.0, Some p.1) in x)) ps qs

-- pages after pages
pub filled-more : (t : Mapping PageOfKind) (ps qs : List (ℕ × PageOfKind)) → filled (filled t ps) qs ≡ filled t (ps ++ qs)
filled-more t ps qs =
    ap (λ (es : List (ℕ × Option PageOfKind)). (let u : Mapping PageOfKind = record { places = es; logged = t.logged } in u))
    (append_assoc t.places (in_places ps) (in_places qs) ∙ ap (λ (es : List (ℕ × Option PageOfKind)). t.places ++ es) (sym (in_places-append ps qs)))

filled-none : (t : Mapping PageOfKind) → filled t [] ≡ t
filled-none t = ap (λ (es : List (ℕ × Option PageOfKind)). (let u : Mapping PageOfKind = record { places = es; logged = t.logged } in u)) (append-nil t.places)

-- ---- the pages that were made

-- the remaining pages fill the table as all pages fill the first one; and the pids rise, those in the table before the remaining ones
pub record IsFilledBy (old t : Mapping PageOfKind) (left all : List Rebuilt) : Type 0 where
  pub rising : AreRisingPids (pids_in t (log_pids (logs_made left)))
  pub placed : filled t (pages_made left) ≡ filled old (pages_made all)

pub filled-first : (old : Mapping PageOfKind) (all : List Rebuilt) → AreRisingPids (pids_in old (log_pids (logs_made all))) → IsFilledBy old old all all
filled-first old all rising = record { rising = rising; placed = refl }

module _ (old t : Mapping PageOfKind) (left rest all : List Rebuilt) (h : IsFilledBy old t left all) (r : Rebuilt) (is : left ≡ r ∷ rest) where
  below_left : AreRisingPids (pids_in t (r.log.pid ∷ log_pids (logs_made rest)))
  below_left = subst (λ (rs : List Rebuilt). AreRisingPids (pids_in t (log_pids (logs_made rs)))) is h.rising

  -- the pids in the table are less than the next one
  pub next_is_last : AllByRecursion (λ n. n < r.log.pid) (keys_of t.places)
  next_is_last = all-below (keys_of t.places) (log_pids (logs_made rest)) r.log.pid below_left

  -- if there is no page, nothing is put there
  none_filled : r.page ≡ None → IsFilledBy old t rest all
  none_filled none = record {
    rising = rising-left_out (keys_of t.places) (log_pids (logs_made rest)) r.log.pid below_left;
    placed = ap (λ (o : Option PageOfKind). filled t (entry_if r.log.pid o ++ pages_made rest)) (sym none) ∙ sym (ap (λ (rs : List Rebuilt). filled t (pages_made rs)) is) ∙ h.placed;
  }

  -- and else the page
  one_filled : (p : PageOfKind) (now : Mapping PageOfKind) → r.page ≡ Some p → now ≡ filled t ((r.log.pid, p) ∷ []) → IsFilledBy old now rest all
  one_filled p now some here =
      record {
        rising = subst (λ (u : Mapping PageOfKind). AreRisingPids (pids_in u (log_pids (logs_made rest)))) (sym here)
            (subst (λ (ns : List ℕ). AreRisingPids ns) (sym (pids-moved t.places r.log.pid (Some p) (log_pids (logs_made rest)))) below_left);
        placed = ap (λ (u : Mapping PageOfKind). filled u (pages_made rest)) here ∙ filled-more t ((r.log.pid, p) ∷ []) (pages_made rest)
            ∙ ap (λ (o : Option PageOfKind). filled t (entry_if r.log.pid o ++ pages_made rest)) (sym some)
            ∙ sym (ap (λ (rs : List Rebuilt). filled t (pages_made rs)) is) ∙ h.placed;
      }
    where
      pids-moved : (es : List (ℕ × Option PageOfKind)) (n : ℕ) (o : Option PageOfKind) (ns : List ℕ) → keys_of (es ++ (n, o) ∷ []) ++ ns ≡ keys_of es ++ n ∷ ns
      pids-moved [] n o ns = refl
      pids-moved (e ∷ es) n o ns = ap (λ (ms : List ℕ). e.0 ∷ ms) (pids-moved es n o ns)

  filled_by : (o : Option PageOfKind) (now : Mapping PageOfKind) → r.page ≡ o → now ≡ filled t (entry_if r.log.pid o) → IsFilledBy old now rest all
  filled_by None now none here = subst (λ (u : Mapping PageOfKind). IsFilledBy old u rest all) (sym (here ∙ filled-none t)) (none_filled none)
  filled_by (Some p) now some here = one_filled p now some here

  pub next_filled : (now : Mapping PageOfKind) → now ≡ filled t (entry_if r.log.pid r.page) → IsFilledBy old now rest all
  next_filled now here = filled_by r.page now refl here

-- what is put of one
pub nothing-filled : (t : Mapping PageOfKind) (r : Rebuilt) → r.page ≡ None → t ≡ filled t (entry_if r.log.pid r.page)
nothing-filled t r none = sym (ap (λ (o : Option PageOfKind). filled t (entry_if r.log.pid o)) none ∙ filled-none t)

pub made-filled : {X : Type 0} (e : Result X AllocError) (t now : Mapping PageOfKind) (r : Rebuilt) (p : PageOfKind) → r.page ≡ Some p
    → OnOk e (now ≡ record { places = t.places ++ (r.log.pid, Some p) ∷ []; logged = t.logged }) → OnOk e (now ≡ filled t (entry_if r.log.pid r.page))
made-filled e t now r p some h = subst (λ (o : Option PageOfKind). OnOk e (now ≡ filled t (entry_if r.log.pid o))) (sym some) h

-- if no page remains, all are in the table
pub all_filled : (old t : Mapping PageOfKind) (left all : List Rebuilt) → left ≡ [] → IsFilledBy old t left all → t ≡ filled old (pages_made all)
all_filled old t left all none h = sym (filled-none t) ∙ ap (λ (rs : List Rebuilt). filled t (pages_made rs)) (sym none) ∙ h.placed

first_same : {X : Type 0} (x y : X) (xs ys : List X) → x ∷ xs ≡ y ∷ ys → (x ≡ y) × (xs ≡ ys)
first_same x y xs ys e = (cc, cc)

-- the pages that were built from logs are those that the logs determine
pub pages-made : (s : Format) (rs : List Rebuilt) (hs : List HeldLog) → logs_made rs ≡ hs → map (λ r. r.page) rs ≡ map (λ h. page_in (page_of_frames s h.frames)) hs → pages_made rs ≡ pages_of_logs s hs
pages-made s [] [] e f = refl
pages-made s [] (h ∷ hs) e f = absurd (cc)
pages-made s (r ∷ rs) [] e f = absurd (cc)
pages-made s (r ∷ rs) (h ∷ hs) e f =
    let held = first_same (held_log r.log) h (logs_made rs) hs e in
    let made = first_same r.page (page_in (page_of_frames s h.frames)) (map (λ (q : Rebuilt). q.page) rs) (map (λ (g : HeldLog). page_in (page_of_frames s g.frames)) hs) f in
    ap (λ (x : HeldLog). entry_if x.pid r.page ++ pages_made rs) held.0
    ∙ ap (λ (o : Option PageOfKind). entry_if h.pid o ++ pages_made rs) made.0
    ∙ ap (λ (ps : List (ℕ × PageOfKind)). entry_if h.pid (page_in (page_of_frames s h.frames)) ++ ps) (pages-made s rs hs held.1 made.1)

-- ---- some at a time

pages-following : (s : Format) (gs hs : List HeldLog) → pages_of_logs s (gs ++ hs) ≡ pages_of_logs s gs ++ pages_of_logs s hs
pages-following s [] hs = refl
pages-following s (g ∷ gs) hs =
    ap (λ (ps : List (ℕ × PageOfKind)). entry_if g.pid (page_in (page_of_frames s g.frames)) ++ ps) (pages-following s gs hs)
    ∙ sym (append_assoc (entry_if g.pid (page_in (page_of_frames s g.frames))) (pages_of_logs s gs) (pages_of_logs s hs))

-- for the retained pages: those in the table, in the logs put aside and the remaining ones are all; and their pids rise in this order
pub record AreAside (s : Format) (t : Mapping PageOfKind) (logs : List HeldLog) (left all : List (ℕ × Kept)) : Type 0 where
  pub rising : AreRisingPids (pids_in t (log_pids (logs ++ map log_under left)))
  pub placed : filled t (pages_of_logs s (logs ++ map log_under left)) ≡ record { places = in_places (pages_of_logs s (map log_under all)); logged = [] }

log_pids-under : (es : List (ℕ × Kept)) → log_pids (map log_under es) ≡ keys_of es
log_pids-under [] = refl
log_pids-under (e ∷ es) = ap (λ (ns : List ℕ). e.0 ∷ ns) (log_pids-under es)

log_pids-append : (gs hs : List HeldLog) → log_pids (gs ++ hs) ≡ log_pids gs ++ log_pids hs
log_pids-append gs hs = map-append (λ (h : HeldLog). h.pid) gs hs

-- none yet
pub aside-none : (s : Format) (t : Mapping PageOfKind) (logs : List HeldLog) (left all : List (ℕ × Kept)) → t ≡ record { places = []; logged = [] } → logs ≡ [] → left ≡ all → IsStrictlySortedBy nat_cmp (keys_of all)
    → AreAside s t logs left all
aside-none s t logs left all empty none whole sorted =
    let e : AreAside s (record { places = []; logged = [] }) [] all all = record {
      rising = subst (λ (ns : List ℕ). AreRisingPids ns) (sym (log_pids-under all)) (keys-rise (keys_of all) sorted);
      placed = refl;
    } in
    subst (λ (es : List (ℕ × Kept)). AreAside s t logs es all) (sym whole)
    (subst (λ (u : Mapping PageOfKind). AreAside s u logs all all) (sym empty) (subst (λ (hs : List HeldLog). AreAside s (record { places = []; logged = [] }) hs all all) (sym none) e))

pub put-aside : (now items : List PageLog) (x : PageLog) (e : ℕ × Kept) → now ≡ items ++ x ∷ [] → held_log x ≡ log_under e → map held_log now ≡ map held_log items ++ log_under e ∷ []
put-aside now items x e put same = ap (λ (ls : List PageLog). map held_log ls) put ∙ map-append held_log items (x ∷ []) ∙ ap (λ (h : HeldLog). map held_log items ++ h ∷ []) same

pub empty_by : (bytes : List ℕ) (n : ℕ) → length bytes ≡ n → (n == 0) ≡ true → bytes ≡ []
empty_by [] n same e = refl
empty_by (b ∷ bytes) n same e = let none = ne_eqb n 0 (λ h. omega (arith, h, same)) in absurd (cc)

module _ (s : Format) (t : Mapping PageOfKind) (logs : List HeldLog) (left rest all : List (ℕ × Kept)) (h : AreAside s t logs left all) (e : ℕ × Kept) (is : left ≡ e ∷ rest) where
  -- one more is put aside
  pub aside-more : (now : List HeldLog) → now ≡ logs ++ log_under e ∷ [] → AreAside s t now rest all
  aside-more now put =
      let same : logs ++ map log_under left ≡ now ++ map log_under rest =
      ap (λ (es : List (ℕ × Kept)). logs ++ map log_under es) is ∙ sym (append_assoc logs (log_under e ∷ []) (map log_under rest)) ∙ ap (λ (hs : List HeldLog). hs ++ map log_under rest) (sym put) in
      record {
        rising = subst (λ (hs : List HeldLog). AreRisingPids (pids_in t (log_pids hs))) same h.rising;
        placed = ap (λ (hs : List HeldLog). filled t (pages_of_logs s hs)) (sym same) ∙ h.placed;
      }

  -- and one that has no frames need not be
  pub aside-passed : e.1.frames.items ≡ [] → AreAside s t logs rest all
  aside-passed none =
      let split : pages_of_logs s (logs ++ map log_under left) ≡ pages_of_logs s (logs ++ map log_under rest) =
      ap (λ (es : List (ℕ × Kept)). pages_of_logs s (logs ++ map log_under es)) is ∙ pages-following s logs (log_under e ∷ map log_under rest)
      ∙ ap (λ (bs : List ℕ). pages_of_logs s logs ++ (entry_if e.0 (page_in (page_of_frames s bs)) ++ pages_of_logs s (map log_under rest))) none
      ∙ sym (pages-following s logs (map log_under rest)) in
      let parts : pids_in t (log_pids (logs ++ map log_under left)) ≡ (keys_of t.places ++ log_pids logs) ++ e.0 ∷ log_pids (map log_under rest) =
      ap (λ (es : List (ℕ × Kept)). pids_in t (log_pids (logs ++ map log_under es))) is ∙ ap (λ (ns : List ℕ). keys_of t.places ++ ns) (log_pids-append logs (log_under e ∷ map log_under rest))
      ∙ sym (append_assoc (keys_of t.places) (log_pids logs) (e.0 ∷ log_pids (map log_under rest))) in
      let left_out : AreRisingPids ((keys_of t.places ++ log_pids logs) ++ log_pids (map log_under rest)) =
      rising-left_out (keys_of t.places ++ log_pids logs) (log_pids (map log_under rest)) e.0 (subst (λ (ns : List ℕ). AreRisingPids ns) parts h.rising) in
      record {
        rising = subst (λ (ns : List ℕ). AreRisingPids ns) (append_assoc (keys_of t.places) (log_pids logs) (log_pids (map log_under rest)) ∙ ap (λ (ns : List ℕ). keys_of t.places ++ ns) (sym (log_pids-append logs (map log_under rest)))) left_out;
        placed = ap (λ (ps : List (ℕ × PageOfKind)). filled t ps) (sym split) ∙ h.placed;
      }

module _ (s : Format) (t : Mapping PageOfKind) (logs : List HeldLog) (left all : List (ℕ × Kept)) (h : AreAside s t logs left all) where
  split_rising : (ms ns : List ℕ) → AreRisingPids (ms ++ ns) → AreRisingPids ms
  split_rising [] ns r = tt
  split_rising (m ∷ ms) ns r = (first_all (λ k. m < k) ms ns r.0, split_rising ms ns r.1)
    where
      first_all : (P : ℕ → Type 0) (ms ns : List ℕ) → AllByRecursion P (ms ++ ns) → AllByRecursion P ms
      first_all P [] ns a = tt
      first_all P (k ∷ ks) ns a = (a.0, first_all P ks ns a.1)

  -- those that are aside may be built
  pub aside-rise : AreRisingPids (keys_of t.places ++ log_pids logs)
  aside-rise =
      split_rising (keys_of t.places ++ log_pids logs) (log_pids (map log_under left))
      (subst (λ (ns : List ℕ). AreRisingPids ns) (ap (λ (ns : List ℕ). keys_of t.places ++ ns) (log_pids-append logs (map log_under left)) ∙ sym (append_assoc (keys_of t.places) (log_pids logs) (log_pids (map log_under left)))) h.rising)

  keys-filled : (hs : List HeldLog) (ns : List ℕ) → AreRisingPids ((keys_of t.places ++ log_pids hs) ++ ns) → AreRisingPids (keys_of (filled t (pages_of_logs s hs)).places ++ ns)
  keys-filled hs ns r = subst (λ (ms : List ℕ). AreRisingPids (ms ++ ns)) (sym (keys-append t.places (in_places (pages_of_logs s hs)))) (subst (λ (ms : List ℕ). AreRisingPids ms) (sym (append_assoc (keys_of t.places) (keys_of (in_places (pages_of_logs s hs))) ns)) (thinned (keys_of t.places) hs ns (subst (λ (ms : List ℕ). AreRisingPids ms) (append_assoc (keys_of t.places) (log_pids hs) ns) r)))
    where
      keys-append : (es gs : List (ℕ × Option PageOfKind)) → keys_of (es ++ gs) ≡ keys_of es ++ keys_of gs
      keys-append [] gs = refl
      keys-append (x ∷ es) gs = ap (λ (ms : List ℕ). x.0 ∷ ms) (keys-append es gs)

      thin_by : (o : Option PageOfKind) (ms : List ℕ) (g : HeldLog) (gs : List HeldLog) (ns : List ℕ) → AreRisingPids (ms ++ ((g.pid ∷ log_pids gs) ++ ns))
          → ((ks : List ℕ) → AreRisingPids (ks ++ (log_pids gs ++ ns)) → AreRisingPids (ks ++ (keys_of (in_places (pages_of_logs s gs)) ++ ns)))
          → AreRisingPids (ms ++ (keys_of (in_places (entry_if g.pid o ++ pages_of_logs s gs)) ++ ns))
      thin_by None ms g gs ns r on = on ms (rising-left_out ms (log_pids gs ++ ns) g.pid r)
      thin_by (Some p) ms g gs ns r on =
          subst (λ (ks : List ℕ). AreRisingPids ks) (append_assoc ms (g.pid ∷ []) (keys_of (in_places (pages_of_logs s gs)) ++ ns))
          (on (ms ++ g.pid ∷ []) (subst (λ (ks : List ℕ). AreRisingPids ks) (sym (append_assoc ms (g.pid ∷ []) (log_pids gs ++ ns))) r))

      thinned : (ms : List ℕ) (gs : List HeldLog) (ns : List ℕ) → AreRisingPids (ms ++ (log_pids gs ++ ns)) → AreRisingPids (ms ++ (keys_of (in_places (pages_of_logs s gs)) ++ ns))
      thinned ms [] ns r = r
      thinned ms (g ∷ gs) ns r = thin_by (page_in (page_of_frames s g.frames)) ms g gs ns r (λ ks q. thinned ks gs ns q)

  -- and then none is aside
  pub aside-built : (now : Mapping PageOfKind) (none : List HeldLog) → now ≡ filled t (pages_of_logs s logs) → none ≡ [] → AreAside s now none left all
  aside-built now none built empty =
      let e : AreAside s (filled t (pages_of_logs s logs)) [] left all = record {
        rising = keys-filled logs (log_pids (map log_under left))
            (subst (λ (ns : List ℕ). AreRisingPids ns) (ap (λ (ns : List ℕ). keys_of t.places ++ ns) (log_pids-append logs (map log_under left)) ∙ sym (append_assoc (keys_of t.places) (log_pids logs) (log_pids (map log_under left)))) h.rising);
        placed = filled-more t (pages_of_logs s logs) (pages_of_logs s (map log_under left)) ∙ ap (λ (ps : List (ℕ × PageOfKind)). filled t ps) (sym (pages-following s logs (map log_under left))) ∙ h.placed;
      } in
      subst (λ (u : Mapping PageOfKind). AreAside s u none left all) (sym built) (subst (λ (hs : List HeldLog). AreAside s (filled t (pages_of_logs s logs)) hs left all) (sym empty) e)

  -- if no page remains either, all are in the table after these are built
  pub aside-all : (now : Mapping PageOfKind) → left ≡ [] → now ≡ filled t (pages_of_logs s logs) → now ≡ record { places = in_places (pages_of_logs s (map log_under all)); logged = [] }
  aside-all now none built =
      built ∙ ap (λ (hs : List HeldLog). filled t (pages_of_logs s hs)) (sym (append-nil logs))
      ∙ ap (λ (es : List (ℕ × Kept)). filled t (pages_of_logs s (logs ++ map log_under es))) (sym none) ∙ h.placed

-- ---- the retained frames give the pages of the log

module _ (s : Format) (good : first_bad_field s.settings ≡ None) (found : List Found) (within : AllByRecursion (λ f. is_frame s f.frame ≡ true) found) where
  -- the frames that are kept of a page make it
  page_kept : (k : Kept) (pid : ℕ) → IsKept Every k (live_frames pid found) → page_in (page_of_frames s k.frames.items) ≡ page_in (in_log (frames_in found) pid)
  page_kept k pid h =
      ap (λ (bs : List ℕ). page_in (page_of_frames s bs)) h.frames
      ∙ ap (λ (fs : List Frame). page_in (page_from_start (map (λ (f : Frame). f.content) fs))) (bytes-frames s good (wanted_of Every (live_frames pid found)) (wanted-within s Every (live_frames pid found) (live_frames-within s pid found within)))
      ∙ wanted-page (live_frames pid found)
      ∙ ap page_in (sym (state-in_log found pid))

  abbrev KeepEach : List (ℕ × Kept) → Type 0
  KeepEach es = (n : ℕ) → is_among n (keys_of es) ≡ true → IsKeptOf Every (lookup (nat_eq n) es) (live_frames n found)

  pages_kept : (es : List (ℕ × Kept)) → AreRisingPids (keys_of es) → KeepEach es → pages_of_logs s (map log_under es) ≡ pages_under (frames_in found) (keys_of es)
  pages_kept [] r h = refl
  pages_kept ((k, v) ∷ es) r h =
      ap (λ (o : Option PageOfKind). entry_if k o ++ pages_of_logs s (map log_under es)) (page_kept v k (first_is Every found k v es h))
      ∙ ap (λ (ps : List (ℕ × PageOfKind)). entry_if k (page_in (in_log (frames_in found) k)) ++ ps) (pages_kept es r.1 (later_are Every found k v es r h))

-- of a log whose frames are all kept
pub pages-gathered : (s : Format) (g : Gathering) (found : List Found) → first_bad_field s.settings ≡ None → IsStrictlySortedBy nat_cmp (keys_of g.by_pid.entries) → AreGathered s Every g found
    → pages_of_logs s (map log_under g.by_pid.entries) ≡ pages_of (frames_in found)
pages-gathered s g found good sorted h =
    let es = g.by_pid.entries in
    let order = in-order Every g.by_pid found sorted h.live.kept in
    pages_kept s good found h.within es order.rise order.each ∙ ap (λ (ns : List ℕ). pages_under (frames_in found) ns) order.all

-- ---- the tree

home-places : (ps : List (ℕ × PageOfKind)) → home_pages (in_places ps) ≡ ps
home-places [] = refl
home-places (p ∷ ps) = ap (λ (x : List (ℕ × PageOfKind)). p ∷ x) (home-places ps)

home-all : (ps : List (ℕ × PageOfKind)) → AllByRecursion (λ e. IsSome e.1) (in_places ps)
home-all [] = tt
home-all (p ∷ ps) = (refl, home-all ps)

abbrev places_alone : List (ℕ × PageOfKind) → Mapping PageOfKind
places_alone ps = record { places = in_places ps; logged = [] }

-- a table under the root and the height of a slot
abbrev pub slot_tree : Mapping PageOfKind → Slot → TreeInMemory
slot_tree u t = record { table = u; root = t.root; height = t.height }

abbrev built_tree : Slot → List (ℕ × PageOfKind) → TreeInMemory
built_tree t ps = slot_tree (places_alone ps) t

-- the table of these pages under a slot is their tree
pub built-table : (t : Slot) (u : Mapping PageOfKind) (ps qs : List (ℕ × PageOfKind)) → u ≡ places_alone ps → ps ≡ qs → slot_tree u t ≡ built_tree t qs
built-table t u ps qs e f = ap (λ (v : Mapping PageOfKind). slot_tree v t) (e ∙ ap places_alone f)

-- none of whose pages is checked out
pub home-table : (tree : TreeInMemory) (u : Mapping PageOfKind) (ps : List (ℕ × PageOfKind)) → tree.table ≡ u → u ≡ places_alone ps → AreAllHome tree
home-table tree u ps e f = subst (λ (v : Mapping PageOfKind). AllByRecursion (λ e. IsSome e.1) v.places) (sym (e ∙ f)) (home-all ps)

module _ (s : Settings) (t : Slot) (fs : List Frame) (tree : TreeInMemory) (is : tree ≡ built_tree t (pages_of fs)) where
  -- the finding of the walk in it is the finding in the tree by the log
  built-found : finding s (tree_of tree) ≡ finding s (tree_by_log t fs)
  built-found =
      let root : Place = root_place (tree_by_log t fs) in
      ap (λ (u : TreeInMemory). finding s (tree_of u)) is ∙ ap (λ (ps : List (ℕ × PageOfKind)). finding_below s ps (pred t.height) 2 [] (root ∷ [])) (home-places (pages_of fs))

  -- and so all that is wrong with it, where frames fit
  pub built-wrong : broken_in fs ≡ None → finding s (tree_of tree) ≡ wrong_in s t fs
  built-wrong none = built-found ∙ sym (ap (λ (o : Option Finding). or_else o (finding s (tree_by_log t fs))) none)

  -- a height of 0 is taken as 1
  abbrev taller : TreeInMemory
  taller = record { table = record { places = in_places (pages_of fs); logged = [] }; root = t.root; height = suc (pred t.height) }

  abbrev with_height : Tree → Tree
  with_height u = record { pages = u.pages; root = u.root; height = t.height; logged = u.logged }

  taller-proper : finding s (tree_of tree) ≡ None → IsProper s (tree_of taller)
  taller-proper none =
      let pages : home_pages (in_places (pages_of fs)) ≡ pages_of fs = home-places (pages_of fs) in
      let rising : AreRisingPids (keys_of (home_pages (in_places (pages_of fs)))) = subst (λ (ps : List (ℕ × PageOfKind)). AreRisingPids (keys_of ps)) (sym pages) (rising-pages_of fs) in
      let numbers : IsTree (tree_of taller) = record { rising = rising; some = omega arith } in
      let found : finding s (tree_of taller) ≡ finding s (tree_of tree) = sym (ap (λ (u : TreeInMemory). finding s (tree_of u)) is) in
      (nothing_found s (tree_of taller) numbers).0 (found ∙ none)

  -- after it is marked as written, it holds the tree by the log
  pub marked-built : first_bad_field s ≡ None → finding s (tree_of tree) ≡ None → (now : TreeInMemory) → now ≡ record { table = marked_as_written tree.table; root = tree.root; height = tree.height }
      → (tree_of now ≡ tree_by_log t fs) × AreAllHome now
  marked-built good none now e =
      let mark : TreeInMemory → TreeInMemory = λ u. record { table = marked_as_written u.table; root = u.root; height = u.height } in
      let marked : now ≡ mark (built_tree t (pages_of fs)) = e ∙ ap mark is in
      let same : tree_of (mark (built_tree t (pages_of fs))) ≡ tree_in_log (home_pages (in_places (pages_of fs))) t.root t.height = ap with_height (table-marked s taller good (taller-proper none)) in (
        ap tree_of marked ∙ same ∙ ap (λ (ps : List (ℕ × PageOfKind)). tree_in_log ps t.root t.height) (home-places (pages_of fs)),
        subst (λ (u : TreeInMemory). AreAllHome u) (sym marked) (home-all (pages_of fs)),
      )

-- ---- faults

-- the finding, or out of memory
abbrev pub IsFoundOrLate : Option Finding → Fault → Type 0
IsFoundOrLate o fault = (fault ≡ NoMemory) ⊎ ((f : Finding) × (o ≡ Some f) × (fault ≡ BadStructure f))

pub found_of_same : (o p : Option Finding) (fault : Fault) → o ≡ p → IsFoundOrLate o fault → IsFoundOrLate p fault
found_of_same o p fault e h = subst (λ (x : Option Finding). IsFoundOrLate x fault) e h

pub found_by_walk : (o : Option Finding) (fault : Fault) → IsFaultOf o fault → IsFoundOrLate o fault
found_by_walk None fault h = inl h
found_by_walk (Some f) fault (inl e) = inl e
found_by_walk (Some f) fault (inr e) = inr (f, refl, e)

-- pages that fit no page come first
pub found_first : (o p : Option Finding) (q : Option Finding) (f : Finding) → o ≡ Some f → o ≡ p → or_else p q ≡ Some f
found_first o p q f is same = ap (λ (x : Option Finding). or_else x q) (sym same ∙ is)

-- an error that is returned by `?` is one of them
pub found_leaves : {T : Type 0} (r : Result T Fault) (o : Option Finding) (fault : Fault) → IsErrAnd r (λ e. e ≡ fault) → IsFoundOrLate o fault → IfErr r (λ e. IsFoundOrLate o e)
found_leaves (Ok x) o fault e h = tt
found_leaves (Err y) o fault e h = subst (λ (z : Fault). IsFoundOrLate o z) (sym e) h
