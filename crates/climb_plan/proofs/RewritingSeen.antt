-- Lemmas on pages in their parents' view, for the proofs of this crate.
use Rattle.std.specs.Prelude.{◌≡◌, ℕ, zero, suc, ◌+◌, ◌<◌, ◌≤◌, Bool, true, false, IsSome, List, [], ◌∷◌, ◌++◌, map, take, drop, length, Option, Some}
use Rattle.std.proofs.Common.{refl, sym, ap, ◌∙◌, subst, get_or, Less, Equal, arith}
use Rattle.std.specs.List.{AllByRecursion}
use Rattle.std.specs.List.Sorted.{IsStrictlySortedBy}
use Rattle.std.specs.Map.{keys_of}
use Rattle.std.proofs.lemmas.List.{take_more, drop_more, map-append, take-append-drop}
use Rattle.keys.specs.Order.{order, IsRising}
use Rattle.keys.proofs.MapLemmas.{order_itself, is_itself, passes_same, IsBelowAll}
use Rattle.index_page.specs.InMemory.{page_shown}
use Rattle.index_page.specs.Page.{PageOfKind, low_of}
use Rattle.index_page.specs.Range.{is_below, AreBelow, AreFrom}
use Rattle.index_page.specs.Rules.{is_same_key}
use Rattle.mapping.specs.Table.{Mapping, page_of}
use Rattle.page_runs.specs.declared.class.Class.{Class}
use Rattle.page_runs.specs.declared.class.Class.TheVariants.{Same}
use Rattle.climb_plan.specs.Changing.{SeenPage, needs_restructuring}
use Rattle.climb_plan.specs.Rewriting.{seen_now, all_seen, seen_name, lows, AreSeenIn, begins_at, IsNextChild, IsQuiet, HasFirstCall}
use Rattle.climb_plan.specs.Rewriting.AreSeenIn.{updated, at_home}
use Rattle.climb_plan.specs.declared.seen.Seen.{Seen}

-- one more element of a list that is copied as something else
pub copied_more : {A B X : Type 0} (of : A → X) (from : B → X) (old new : List A) (x : A) (ys : List B) (i : ℕ) (y : B) → i < length ys → new ≡ old ++ x ∷ [] → of x ≡ from y → y ≡ get_or ys i y → map of old ≡ map from (take i ys)
    → map of new ≡ map from (take (i + 1) ys)
copied_more {A} {B} {X} of from old new x ys i y l e h r m =
    ap (λ (zs : List A). map of zs) e
    ∙ map-append of old (x ∷ [])
    ∙ ap (λ (zs : List X). zs ++ of x ∷ []) m
    ∙ ap (λ (z : X). map from (take i ys) ++ z ∷ []) (h ∙ ap from r)
    ∙ sym (map-append from (take i ys) (get_or ys i y ∷ []))
    ∙ ap (λ (zs : List B). map from zs) (sym (take_more ys i y l))

-- ---- pages at a place

-- the page at a place is the first of the remaining ones
pub left_at : (all : List Seen) (i : ℕ) (y : Seen) → i < length all → y ≡ get_or all i y → all_seen (drop i all) ≡ seen_now y ∷ all_seen (drop (i + 1) all)
left_at all i y l e = ap (λ (xs : List Seen). all_seen xs) (drop_more all i y l) ∙ ap (λ (x : Seen). seen_now x ∷ all_seen (drop (i + 1) all)) (sym e)

-- ---- pages of a level

-- what holds of all low keys of a level holds of those of the pages that got a run
pub all_lows : {t : Mapping PageOfKind} {xs all : List SeenPage} (P : List ℕ → Type 0) → AreSeenIn t xs all → AllByRecursion P (keys_of (map seen_name all)) → AllByRecursion P (lows xs)
all_lows P (AreSeenIn.none) h = tt
all_lows P (updated x s) h = (h.0, all_lows P s h.1)
all_lows P (at_home x c r p s) h = all_lows P s h.1

same_begin : (low : List ℕ) (x : SeenPage) (xs : List SeenPage) → begins_at low (x ∷ xs) ≡ true → low_of x.page ≡ low
same_begin low x xs h = passes_same (low_of x.page) low h

not_later : (low : List ℕ) (xs : List SeenPage) → begins_at low xs ≡ true → AllByRecursion (λ k. order low k ≡ Less) (lows xs) → ⊥
not_later low [] b h = absurd (cc)
not_later low (x ∷ xs) b h =
    let same : low_of x.page ≡ low = same_begin low x xs b in
    let itself : order low (low_of x.page) ≡ Equal = ap (λ (k : List ℕ). order low k) same ∙ order_itself low in
    let less : order low (low_of x.page) ≡ Less = h.0 in
    absurd (cc)

rising_first : (x : SeenPage) (later : List SeenPage) → IsRising (map seen_name (x ∷ later)) → IsBelowAll (low_of x.page) (keys_of (map seen_name later))
unfolding IsStrictlySortedBy
rising_first x later r = r.0

pub rising_later : (x : SeenPage) (later : List SeenPage) → IsRising (map seen_name (x ∷ later)) → IsRising (map seen_name later)
unfolding IsStrictlySortedBy
rising_later x later r = r.1

-- the first page of a level got a run, where the first that got one has its low key
pub child_updated : {t : Mapping PageOfKind} {xs later : List SeenPage} {x : SeenPage} (y : SeenPage) (ys : List SeenPage) → AreSeenIn t xs (x ∷ later) → xs ≡ y ∷ ys → IsRising (map seen_name (x ∷ later)) → begins_at (low_of x.page) xs ≡ true → (y ≡ x) × AreSeenIn t ys later
child_updated {t} {later = later} y ys (updated {xs = more} x s) e r b =
    let same : more ≡ ys = cc in
    let first : y ≡ x = cc in
    (first, subst (λ (zs : List SeenPage). AreSeenIn t zs later) same s)
child_updated {xs = xs} {later = later} y ys (at_home x c p h s) e r b = absurd (not_later (low_of x.page) xs b (all_lows (λ k. order (low_of x.page) k ≡ Less) s (rising_first x later r)))

-- a page that got no run, with the pages after it
pub record IsUntouched (t : Mapping PageOfKind) (xs : List SeenPage) (x : SeenPage) (later : List SeenPage) : Type 0 where
  pub class : x.class ≡ Same
  pub replaced : x.replaced ≡ false
  pub home : page_of t x.pid ≡ Some x.page
  pub rest : AreSeenIn t xs later

-- else it is in the table
pub child_at_home : {t : Mapping PageOfKind} {xs later : List SeenPage} {x : SeenPage} → AreSeenIn t xs (x ∷ later) → begins_at (low_of x.page) xs ≡ false → IsUntouched t xs x later
child_at_home (updated x s) b = absurd (let same : begins_at (low_of x.page) (x ∷ []) ≡ true = is_itself (low_of x.page) in cc)
child_at_home (at_home x c p h s) b = record { class = c; replaced = p; home = h; rest = s }

-- ---- the next child

module _ (t : Mapping PageOfKind) (low : List ℕ) (pid : ℕ) (x : SeenPage) (later : List SeenPage) where
  pub home_child : (xs : List SeenPage) → IsNextChild t xs low pid x later → begins_at low xs ≡ false → IsUntouched t xs x later
  home_child xs n b = child_at_home n.seen (ap (λ (k : List ℕ). begins_at k xs) (sym n.same_low) ∙ b)

  pub some_page : (xs : List SeenPage) → IsNextChild t xs low pid x later → begins_at low xs ≡ false → IsSome (page_of t pid)
  some_page xs n b =
      let h = home_child xs n b in
      let found : page_of t pid ≡ Some x.page = ap (λ (i : ℕ). page_of t i) n.same_pid ∙ h.home in
      subst (λ (o : Option PageOfKind). IsSome o) (sym found) refl

  pub home_next : (xs : List SeenPage) (page : PageOfKind) (z : SeenPage) → IsNextChild t xs low pid x later → begins_at low xs ≡ false → page_of t pid ≡ Some page → z ≡ record { pid = pid; page = page; class = Same; replaced = false }
      → (z ≡ x) × AreSeenIn t xs later
  home_next xs page z n b e m =
      let h = home_child xs n b in
      let found : page_of t pid ≡ Some x.page = ap (λ (i : ℕ). page_of t i) n.same_pid ∙ h.home in
      let same : page ≡ x.page = cc in
      let made : ℕ → PageOfKind → Class → Bool → SeenPage = λ i p c r. record { pid = i; page = p; class = c; replaced = r } in
      (m ∙ ap (λ (i : ℕ). made i page Same false) n.same_pid ∙ ap (λ (p : PageOfKind). made x.pid p Same false) same ∙ ap (λ (c : Class). made x.pid x.page c false) (sym h.class) ∙ ap (λ (r : Bool). made x.pid x.page x.class r) (sym h.replaced), h.rest)

  pub updated_next : (all : List Seen) (i : ℕ) (y : Seen) → IsNextChild t (all_seen (drop i all)) low pid x later → begins_at low (all_seen (drop i all)) ≡ true → i < length all → y ≡ get_or all i y → (seen_now y ≡ x) × AreSeenIn t (all_seen (drop (i + 1) all)) later
  updated_next all i y n b l e =
      child_updated (seen_now y) (all_seen (drop (i + 1) all)) n.seen (left_at all i y l e) n.rising (ap (λ (k : List ℕ). begins_at k (all_seen (drop i all))) (sym n.same_low) ∙ b)

-- if some page begins with the key, the place is within the list
pub begins_within : (low : List ℕ) (all : List Seen) (i : ℕ) → begins_at low (all_seen (drop i all)) ≡ true → i < length all
begins_within low [] zero b = absurd (cc)
begins_within low [] (suc i) b = absurd (cc)
begins_within low (x ∷ xs) zero b = omega arith
begins_within low (x ∷ xs) (suc i) b = let l = begins_within low xs i b in omega arith

-- and the page there says whether it does
pub begins_read : (low : List ℕ) (all : List Seen) (i : ℕ) (y : Seen) → i < length all → y ≡ get_or all i y → begins_at low (all_seen (drop i all)) ≡ is_same_key (low_of (page_shown y.page.now)) low
begins_read low all i y l e = ap (λ (xs : List SeenPage). begins_at low xs) (left_at all i y l e)

-- ---- pages below a key

module _ (k : List ℕ) where
  abbrev pub is_low : Seen → Bool
  is_low y = is_below (low_of (page_shown y.page.now)) k

  none_low : (xs : List Seen) (from : List SeenPage) → all_seen xs ≡ from → AreFrom k (lows from) → (i : ℕ) (d : Seen) → i < length xs → is_low (get_or xs i d) ≡ false
  none_low [] from e a i d l = absurd (omega arith)
  none_low (x ∷ xs) [] e a i d l = absurd (cc)
  none_low (x ∷ xs) (y ∷ ys) e a zero d l = let same : seen_now x ≡ y = cc in ap (λ (z : SeenPage). is_below (low_of z.page) k) same ∙ a.0
  none_low (x ∷ xs) (y ∷ ys) e a (suc i) d l = let rest : all_seen xs ≡ ys = cc in none_low xs ys rest a.1 i d (omega arith)

  -- no page below the key comes after one that isn't
  pub low_first : (xs : List Seen) (before from : List SeenPage) → all_seen xs ≡ before ++ from → AreBelow k (lows before) → AreFrom k (lows from) → (i j : ℕ) (d : Seen) → i ≤ j → j < length xs → is_low (get_or xs j d) ≡ true → is_low (get_or xs i d) ≡ true
  low_first xs [] from e b a i j d l w h = absurd (let n = none_low xs from e a j d w in cc)
  low_first [] (y ∷ ys) from e b a i j d l w h = absurd (cc)
  low_first (x ∷ xs) (y ∷ ys) from e b a zero j d l w h = let same : seen_now x ≡ y = cc in ap (λ (z : SeenPage). is_below (low_of z.page) k) same ∙ b.0
  low_first (x ∷ xs) (y ∷ ys) from e b a (suc i) zero d l w h = absurd (omega arith)
  low_first (x ∷ xs) (y ∷ ys) from e b a (suc i) (suc j) d l w h = let rest : all_seen xs ≡ ys ++ from = cc in low_first xs ys from rest b.1 a i j d (omega arith) (omega arith) h

  -- so the place between them is found
  pub low_count : (xs : List Seen) (before from : List SeenPage) (n : ℕ) → all_seen xs ≡ before ++ from → AreBelow k (lows before) → AreFrom k (lows from) → n ≤ length xs
      → ((i : ℕ) (d : Seen) → i < length xs → i < n → is_low (get_or xs i d) ≡ true) → ((i : ℕ) (d : Seen) → i < length xs → n ≤ i → is_low (get_or xs i d) ≡ false) → n ≡ length before
  low_count xs [] from zero e b a l p q = refl
  low_count [] [] from (suc n) e b a l p q = absurd (omega arith)
  low_count (x ∷ xs) [] from (suc n) e b a l p q = absurd (let yes : is_low x ≡ true = p 0 x (omega arith) (omega arith) in let no = none_low (x ∷ xs) from e a 0 x (omega arith) in cc)
  low_count [] (y ∷ ys) from n e b a l p q = absurd (cc)
  low_count (x ∷ xs) (y ∷ ys) from zero e b a l p q =
      absurd (let no : is_low x ≡ false = q 0 x (omega arith) (omega arith) in let same : seen_now x ≡ y = cc in let yes : is_low x ≡ true = ap (λ (z : SeenPage). is_below (low_of z.page) k) same ∙ b.0 in cc)
  low_count (x ∷ xs) (y ∷ ys) from (suc n) e b a l p q =
      let rest : all_seen xs ≡ ys ++ from = cc in
      ap (λ (m : ℕ). suc m) (low_count xs ys from n rest b.1 a (omega arith) (λ i d w h. p (suc i) d (omega arith) (omega arith)) (λ i d w h. q (suc i) d (omega arith) (omega arith)))

-- ---- the first page that needs restructuring

pub call_at : (all : List Seen) (i : ℕ) (y : Seen) (low : List ℕ) → i < length all → y ≡ get_or all i y → AllByRecursion IsQuiet (all_seen (take i all)) → needs_restructuring y.class ≡ true → low ≡ low_of (page_shown y.page.now) → HasFirstCall (all_seen all) low
call_at all i y low l e q c w =
    let parts : all_seen all ≡ all_seen (take i all) ++ seen_now y ∷ all_seen (drop (i + 1) all) =
    ap (λ (xs : List Seen). all_seen xs) (sym (take-append-drop i all)) ∙ map-append seen_now (take i all) (drop i all) ∙ ap (λ (xs : List SeenPage). all_seen (take i all) ++ xs) (left_at all i y l e) in
    (all_seen (take i all), seen_now y, all_seen (drop (i + 1) all), record { parted = parts; none_earlier = q; call = c }, w)

-- ---- one more page

pub all_seen-push : (old new : List Seen) (x : Seen) → new ≡ old ++ x ∷ [] → all_seen new ≡ all_seen old ++ seen_now x ∷ []
all_seen-push old new x e = ap (λ (xs : List Seen). all_seen xs) e ∙ map-append seen_now old (x ∷ [])
