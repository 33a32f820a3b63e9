-- A table of rising pids that has exactly the pages of some levels is the table that is made of them.
use Rattle.std.specs.Prelude.{◌≡◌, ℕ, ◌<◌, ◌≤◌, ◌⊎◌, Bool, true, false, nat_eq, List, [], ◌∷◌, flat_map, Option, Some, None}
use Rattle.std.proofs.Common.{refl, sym, ap, ◌∙◌, subst, arith, inl, inr}
use Rattle.std.specs.Ordering.{nat_cmp, is_eq}
use Rattle.std.specs.List.{AllByRecursion}
use Rattle.std.specs.Map.{keys_of}
use Rattle.std.proofs.lemmas.Bool.{cases_lt, eqb-true}
use Rattle.std.proofs.lemmas.Cmp.{tied_itself}
use Rattle.keys.proofs.Basics.{equal_by}
use Rattle.index_page.specs.Page.{PageOfKind}
use Rattle.index_page.proofs.ListLemmas.{all-append}
use Rattle.mapping.specs.Tree.{page_at}
use Rattle.mapping.specs.Levels.{Placed, Levels, pids, all_pids, all_pages, by_pid}
use Rattle.mapping.specs.FreshPids.{is_among}
use Rattle.mapping.specs.Proper.{AreRisingPids, Distinct, HasLeaves, HasIndexPages, HoldsLevels}
use Rattle.mapping.proofs.PidLemmas.{below_later, among_either_by}
use Rattle.mapping.proofs.TableLemmas.{total, same_pid, differ, rising-by_pid, by_pid-holds, holds_where_found}

-- ---- tables with the same pages

-- what holds of all numbers of a list holds of one that is among them
pub holds_among : (P : ℕ → Type 0) (n : ℕ) (ns : List ℕ) → AllByRecursion P ns → is_among n ns ≡ true → P n
holds_among P n [] a h = absurd (cc)
holds_among P n (m ∷ ms) a h =
    elim (among_either_by (nat_eq n m) (is_among n ms) h) [
      | inl e ↦ subst P (sym (eqb-true n m e)) a.0
      | inr later ↦ holds_among P n ms a.1 later
    ]

module _ (t u : List (ℕ × PageOfKind)) where
  abbrev AgreeAt : ℕ → Type 0
  AgreeAt n = page_at t n ≡ page_at u n

  agree_on_leaves : (ps : List (Placed (List ℕ))) → HasLeaves t ps → HasLeaves u ps → AllByRecursion AgreeAt (pids ps)
  agree_on_leaves [] h k = tt
  agree_on_leaves (p ∷ ps) h k = (h.0 ∙ sym k.0, agree_on_leaves ps h.1 k.1)

  agree_on_index_pages : (ps : List (Placed ℕ)) → HasIndexPages t ps → HasIndexPages u ps → AllByRecursion AgreeAt (pids ps)
  agree_on_index_pages [] h k = tt
  agree_on_index_pages (p ∷ ps) h k = (h.0 ∙ sym k.0, agree_on_index_pages ps h.1 k.1)

  agree_above : (ls : List (List (Placed ℕ))) → AllByRecursion (HasIndexPages t) ls → AllByRecursion (HasIndexPages u) ls → AllByRecursion AgreeAt (flat_map pids ls)
  agree_above [] h k = tt
  agree_above (l ∷ ls) h k = all-append AgreeAt (pids l) (flat_map pids ls) (agree_on_index_pages l h.0 k.0) (agree_above ls h.1 k.1)

-- a table has no page under a pid that the levels lack
none_elsewhere : (t : List (ℕ × PageOfKind)) (l : Levels) (n : ℕ) (o : Option PageOfKind) → HoldsLevels t l → is_among n (all_pids l.level l.above) ≡ false → page_at t n ≡ o → o ≡ None
none_elsewhere t l n None h f e = refl
none_elsewhere t l n (Some p) h f e =
    let met : is_among n (all_pids l.level l.above) ≡ true = holds_where_found (λ m. is_among m (all_pids l.level l.above) ≡ true) t n p h.no_other e in
    absurd (cc)

agree_by : (b : Bool) (t u : List (ℕ × PageOfKind)) (l : Levels) (n : ℕ) → is_among n (all_pids l.level l.above) ≡ b → HoldsLevels t l → HoldsLevels u l → page_at t n ≡ page_at u n
agree_by true t u l n e h k =
    holds_among (AgreeAt t u) n (all_pids l.level l.above) (all-append (AgreeAt t u) (pids l.level) (flat_map pids l.above) (agree_on_leaves t u l.level h.leaves k.leaves) (agree_above t u l.above h.above k.above)) e
agree_by false t u l n e h k = none_elsewhere t l n (page_at t n) h e refl ∙ sym (none_elsewhere u l n (page_at u n) k e refl)

-- two tables of the same levels have the same page under each pid
pub agree : (t u : List (ℕ × PageOfKind)) (l : Levels) (n : ℕ) → HoldsLevels t l → HoldsLevels u l → page_at t n ≡ page_at u n
agree t u l n h k = agree_by (is_among n (all_pids l.level l.above)) t u l n refl h k

-- ---- rising tables with the same pages are the same

none_below : (n : ℕ) (es : List (ℕ × PageOfKind)) → AllByRecursion (λ m. n < m) (keys_of es) → page_at es n ≡ None
none_below n [] a = refl
none_below n (e ∷ es) a = let d : is_eq (nat_cmp n e.0) ≡ false = differ n e.0 (λ s. let l : n < e.0 = a.0 in omega arith) in rw d (none_below n es a.1)

at_first : (e : ℕ × PageOfKind) (es : List (ℕ × PageOfKind)) → page_at (e ∷ es) e.0 ≡ Some e.1
at_first e es = rw (tied_itself total e.0) refl

past_first : (e : ℕ × PageOfKind) (es : List (ℕ × PageOfKind)) (n : ℕ) → is_eq (nat_cmp n e.0) ≡ false → page_at (e ∷ es) n ≡ page_at es n
past_first e es n f = rw f refl

first_is_least : (d e : ℕ × PageOfKind) (ds es : List (ℕ × PageOfKind)) → AreRisingPids (keys_of (e ∷ es)) → d.0 < e.0 → page_at (d ∷ ds) d.0 ≡ page_at (e ∷ es) d.0 → ⊥
first_is_least d e ds es s l h =
    let none : page_at (e ∷ es) d.0 ≡ None = none_below d.0 (e ∷ es) (l, below_later d.0 e.0 (keys_of es) l s.0) in
    let some : Some d.1 ≡ None = sym (at_first d ds) ∙ h ∙ none in
    absurd (cc)

after_by : (b : Bool) (d e : ℕ × PageOfKind) (ds es : List (ℕ × PageOfKind)) (n : ℕ) → is_eq (nat_cmp n d.0) ≡ b → d.0 ≡ e.0 → AreRisingPids (keys_of (d ∷ ds)) → AreRisingPids (keys_of (e ∷ es)) → page_at (d ∷ ds) n ≡ page_at (e ∷ es) n → page_at ds n ≡ page_at es n
after_by true d e ds es n f k r s h =
    let first : n ≡ d.0 = same_pid n d.0 (equal_by (nat_cmp n d.0) f) in
    none_below n ds (rw first r.0) ∙ sym (none_below n es (rw (first ∙ k) s.0))
after_by false d e ds es n f k r s h =
    let g : is_eq (nat_cmp n e.0) ≡ false = subst (λ (m : ℕ). is_eq (nat_cmp n m) ≡ false) k f in
    sym (past_first d ds n f) ∙ h ∙ past_first e es n g

same_pair : (d e : ℕ × PageOfKind) → d.0 ≡ e.0 → d.1 ≡ e.1 → d ≡ e
same_pair d e k v =
    let pair : ℕ → PageOfKind → ℕ × PageOfKind = λ a b. (a, b) in
    ap (λ (a : ℕ). pair a d.1) k ∙ ap (λ (b : PageOfKind). pair e.0 b) v

same_table : (t u : List (ℕ × PageOfKind)) → AreRisingPids (keys_of t) → AreRisingPids (keys_of u) → ((n : ℕ) → page_at t n ≡ page_at u n) → t ≡ u
same_table [] [] r s h = refl
same_table [] (e ∷ es) r s h = let f : None ≡ Some e.1 = h e.0 ∙ at_first e es in absurd (cc)
same_table (d ∷ ds) [] r s h = let f : Some d.1 ≡ None = sym (at_first d ds) ∙ h d.0 in absurd (cc)
same_table (d ∷ ds) (e ∷ es) r s h =
    let k : d.0 ≡ e.0 = same_first (cases_lt d.0 e.0) (cases_lt e.0 d.0) in
    let f : Some d.1 ≡ Some e.1 = sym (at_first d ds) ∙ h d.0 ∙ ap (λ (n : ℕ). page_at (e ∷ es) n) k ∙ at_first e es in
    let v : d.1 ≡ e.1 = cc in
    let rest : ds ≡ es = same_table ds es r.1 s.1 (λ n. after_by (is_eq (nat_cmp n d.0)) d e ds es n refl k r s (h n)) in
    ap (λ (x : ℕ × PageOfKind). x ∷ ds) (same_pair d e k v) ∙ ap (λ (x : List (ℕ × PageOfKind)). e ∷ x) rest
  where
    same_first : (d.0 < e.0) ⊎ (e.0 ≤ d.0) → (e.0 < d.0) ⊎ (d.0 ≤ e.0) → d.0 ≡ e.0
    same_first (inl l) g = absurd (first_is_least d e ds es s l (h d.0))
    same_first (inr l) (inl g) = absurd (first_is_least e d es ds r g (sym (h e.0)))
    same_first (inr l) (inr g) = omega arith

-- the table that is made of levels is the one that has just their pages
pub by_pid-unique : (t : List (ℕ × PageOfKind)) (l : Levels) → AreRisingPids (keys_of t) → Distinct (all_pids l.level l.above) → HoldsLevels t l → by_pid (all_pages l) ≡ t
by_pid-unique t l r d h =
    same_table (by_pid (all_pages l)) t (rising-by_pid (all_pages l)) r (λ n. agree (by_pid (all_pages l)) t l n (by_pid-holds l d) h)
