-- The table that slots represent after the log contains all pages of the table.
use Rattle.std.specs.Prelude.{◌≡◌, ℕ, zero, suc, ◌+◌, ◌<◌, ◌≤◌, List, [], ◌∷◌, ◌++◌, map, take, drop, set, get_or, length, Option}
use Rattle.std.proofs.Common.{refl, sym, ap, ◌∙◌, arith, subst}
use Rattle.std.proofs.lemmas.List.{take_at}
use Rattle.index_page.specs.Page.{PageOfKind}
use Rattle.mapping.specs.LogState.{log_state}
use Rattle.mapping.specs.Flushed.{logged_home_pages, marked_as_written, logged_then, slot_then}
use Rattle.mapping.specs.Proper.{AreRisingPids}
use Rattle.mapping.specs.Table.{Mapping}
use Rattle.mapping.specs.Slots.{slot_pids, listed_place, listed_state, entry_if, table_of, AreInUseBelow, AreSlots}
use Rattle.mapping.specs.declared.logged.Logged.{Logged}
use Rattle.mapping.specs.declared.slots.TablePlace.{TablePlace}
use Rattle.mapping.specs.declared.slots.TablePlace.TheVariants.{Vacant, Away, Home}
use Rattle.mapping.specs.declared.slots.TableSlot.{TableSlot}
use Rattle.mapping.proofs.TableSlots.{same_mapping}

-- the first slots, rewritten, and the others
abbrev pub so_far : List (TableSlot PageOfKind) → ℕ → List (TableSlot PageOfKind)
so_far ss i = map slot_then (take i ss) ++ drop i ss

-- ---- the loop

one_more : (ss : List (TableSlot PageOfKind)) (i : ℕ) (s : TableSlot PageOfKind) → i < length (so_far ss i) → set (so_far ss i) i (slot_then (get_or (so_far ss i) i s)) ≡ so_far ss (suc i)
one_more [] zero s l = absurd (omega arith)
one_more [] (suc i) s l = absurd (omega arith)
one_more (x ∷ xs) zero s l = refl
one_more (x ∷ xs) (suc i) s l = ap (λ (r : List (TableSlot PageOfKind)). slot_then x ∷ r) (one_more xs i s (omega arith))

no_more : (ss : List (TableSlot PageOfKind)) (i : ℕ) → length (so_far ss i) ≤ i → so_far ss i ≡ map slot_then ss
no_more [] zero l = refl
no_more [] (suc i) l = refl
no_more (x ∷ xs) zero l = absurd (omega arith)
no_more (x ∷ xs) (suc i) l = ap (λ (r : List (TableSlot PageOfKind)). slot_then x ∷ r) (no_more xs i (omega arith))

module _ (ss ts : List (TableSlot PageOfKind)) (i : ℕ) (e : ts ≡ so_far ss i) where
  pub so_far-more : (s : TableSlot PageOfKind) (l : Logged) → i < length ts → l ≡ logged_then (get_or ts i s).page
      → set ts i (record { pid = (get_or ts i s).pid; page = (get_or ts i s).page; logged = l }) ≡ so_far ss (i + 1)
  so_far-more s l h f =
      let with_log : Logged → List (TableSlot PageOfKind) = λ x. set ts i (record { pid = (get_or ts i s).pid; page = (get_or ts i s).page; logged = x }) in
      let next : suc i ≡ i + 1 = omega arith in
      let within : i < length (so_far ss i) = subst (λ (x : List (TableSlot PageOfKind)). i < length x) e h in
      ap with_log f ∙ ap (λ (x : List (TableSlot PageOfKind)). set x i (slot_then (get_or x i s))) e ∙ one_more ss i s within ∙ ap (so_far ss) next

  so_far-all : length ts ≤ i → ts ≡ map slot_then ss
  so_far-all h = e ∙ no_more ss i (subst (λ (x : List (TableSlot PageOfKind)). length x ≤ i) e h)

-- ---- the table that they represent

pids-then : (ss : List (TableSlot PageOfKind)) → slot_pids (map slot_then ss) ≡ slot_pids ss
pids-then [] = refl
pids-then (s ∷ ss) = ap (λ (ns : List ℕ). s.pid ∷ ns) (pids-then ss)

places-then : (ss : List (TableSlot PageOfKind)) → (table_of (map slot_then ss)).places ≡ (table_of ss).places
places-then [] = refl
places-then (s ∷ ss) = ap (λ (es : List (ℕ × Option PageOfKind)). entry_if s.pid (listed_place s.page) ++ es) (places-then ss)

logged_by : (n : ℕ) (p : TablePlace PageOfKind) (es : List (ℕ × Option PageOfKind)) → entry_if n (listed_state (log_state (logged_then p))) ++ logged_home_pages es ≡ logged_home_pages (entry_if n (listed_place p) ++ es)
logged_by n Vacant es = refl
logged_by n Away es = refl
logged_by n (Home p) es = refl

logged-then : (ss : List (TableSlot PageOfKind)) → (table_of (map slot_then ss)).logged ≡ logged_home_pages (table_of ss).places
logged-then [] = refl
logged-then (s ∷ ss) =
    ap (λ x. entry_if s.pid (listed_state (log_state (logged_then s.page))) ++ x) (logged-then ss)
    ∙ logged_by s.pid s.page (table_of ss).places

pub table-then : (ss : List (TableSlot PageOfKind)) → table_of (map slot_then ss) ≡ marked_as_written (table_of ss)
table-then ss = same_mapping _ _ _ _ (places-then ss) (logged-then ss)

-- the slots keep their order and their places
pub slots-then : (ss : List (TableSlot PageOfKind)) (n : ℕ) → AreSlots ss n → AreSlots (map slot_then ss) n
slots-then ss n a = record {
  rising = subst (λ (ns : List ℕ). AreRisingPids ns) (sym (pids-then ss)) a.rising;
  in_use = subst (λ (t : Mapping PageOfKind). AreInUseBelow t n) (sym (table-then ss)) a.in_use;
}

-- after the loop has ended and the slots are back in their vector
pub all-marked_as_written : (was ss ts : List (TableSlot PageOfKind)) (n i len : ℕ) → AreSlots was n → ss ≡ was → ts ≡ so_far ss i → length ts ≤ i → length ts ≡ len
    → AreSlots (take len (ts ++ drop (length ts) was)) n × (table_of (take len (ts ++ drop (length ts) was)) ≡ marked_as_written (table_of was))
all-marked_as_written was ss ts n i len a e f l g =
    let all : take len (ts ++ drop (length ts) was) ≡ map slot_then was = take_at ts (drop (length ts) was) len g ∙ so_far-all ss ts i f l ∙ ap (map slot_then) e in
    (subst (λ (x : List (TableSlot PageOfKind)). AreSlots x n) (sym all) (slots-then was n a), ap table_of all ∙ table-then was)
