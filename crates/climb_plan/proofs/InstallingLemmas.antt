-- Laws about a climb's changes of the mapping table: which places and which log states change, and how.
use Rattle.std.specs.Prelude.{◌≡◌, ◌≢◌, ℕ, suc, ◌<◌, ⊤, Bool, true, false, cond, if◌then◌else◌, ◌||◌, nat_eq, List, [], ◌∷◌, ◌++◌, map, flat_map, take, drop, length, Option, Some, None, IsSome}
use Rattle.std.proofs.Common.{refl, sym, ap, ◌∙◌, subst, arith, Ordering, Less, Equal, Greater}
use Rattle.std.specs.List.{filter, AllByRecursion}
use Rattle.std.specs.Ordering.{nat_cmp, match_ordering}
use Rattle.std.specs.Map.{keys_of, remove_entry}
use Rattle.std.specs.BTreeMap.{insert_entry}
use Rattle.std.proofs.lemmas.Cmp.{ranked}
use Rattle.std.proofs.lemmas.Bool.{or_parts, or_from, eqb-true, eqb-false, false_from_ne_true}
use Rattle.keys.proofs.Basics.{equal_by}
use Rattle.index_page.specs.Page.{PageOfKind}
use Rattle.index_page.proofs.ListLemmas.{all-append, all_apart}
use Rattle.mapping.specs.Tree.{Logged, listed_at}
use Rattle.mapping.specs.Outdate.{outdate_all}
use Rattle.mapping.specs.FreshPids.{is_among}
use Rattle.mapping.specs.Proper.{Distinct, AreRisingPids}
use Rattle.mapping.specs.Table.{Mapping, is_same_pid, pids_in_use, place_of, page_of, at_home, with_place, log_outdated, freed}
use Rattle.mapping.proofs.PidLemmas.{below_later}
use Rattle.mapping.proofs.TableLemmas.{differ, same_pid}
use Rattle.mapping.proofs.SameTable.{same_table}
use Rattle.split_plan.specs.Pieces.{CanJoin, group_made}
use Rattle.climb_plan.specs.Changing.{SeenPage}
use Rattle.climb_plan.specs.Rewriting.{Remade}
use Rattle.climb_plan.specs.Installing.{all_taken, all_put, come_home, all_come_home, page_or_none, pages_under, members_freed, put_under, group_installed, all_installed, IsMade, CanInstallAll}
use Rattle.climb_plan.proofs.ChangingOutdated.{among-joined, outdate-joined, outdate-same}
use Rattle.climb_plan.proofs.Installing.{place_here, placed_apart, home_apart, gone_from, gone_apart, replaced_by, distinct_first, distinct_last}
use Rattle.climb_plan.proofs.InstalledPages.{at_among}

-- ---- numbers among others

-- a number that isn't among a list isn't the first, nor among the others
pub none_of : (q k : ℕ) (ks : List ℕ) → is_among q (k ∷ ks) ≡ false → (q ≢ k) × (is_among q ks ≡ false)
none_of q k ks h = let a = or_parts (nat_eq q k) (is_among q ks) h in (eqb-false q k a.0, a.1)

pub not_among : (n : ℕ) (ms : List ℕ) → AllByRecursion (λ m. m ≢ n) ms → is_among n ms ≡ false
not_among n [] d = refl
not_among n (m ∷ ms) d =
    let first : nat_eq n m ≡ false = false_from_ne_true (nat_eq n m) (λ e. d.0 (sym (eqb-true n m e))) in
    or_from (nat_eq n m) (is_among n ms) first (not_among n ms d.1)

-- ---- the pids in use rise still

module _ {V : Type 0} where
  all_put_by : (Q : ℕ → Type 0) (o : Ordering) (e : ℕ × V) (es rest : List (ℕ × V)) (k : ℕ) (v : V) → Q k → Q e.0 → AllByRecursion Q (keys_of es) → AllByRecursion Q (keys_of rest)
      → AllByRecursion Q (keys_of (match_ordering o ((k, v) ∷ e ∷ es) ((e.0, v) ∷ es) (e ∷ rest)))
  all_put_by Q Less e es rest k v p h a b = (p, (h, a))
  all_put_by Q Equal e es rest k v p h a b = (h, a)
  all_put_by Q Greater e es rest k v p h a b = (h, b)

  all_keys_put : (Q : ℕ → Type 0) (es : List (ℕ × V)) (k : ℕ) (v : V) → Q k → AllByRecursion Q (keys_of es) → AllByRecursion Q (keys_of (insert_entry nat_cmp es k v))
  all_keys_put Q [] k v p a = (p, tt)
  all_keys_put Q (e ∷ es) k v p a = all_put_by Q (nat_cmp k e.0) e es (insert_entry nat_cmp es k v) k v p a.0 a.1 (all_keys_put Q es k v p a.1)

  rising_put_by : (o : Ordering) (e : ℕ × V) (es rest : List (ℕ × V)) (k : ℕ) (v : V) → nat_cmp k e.0 ≡ o → AreRisingPids (keys_of (e ∷ es)) → (e.0 < k → AllByRecursion (λ n. e.0 < n) (keys_of rest)) → AreRisingPids (keys_of rest)
      → AreRisingPids (keys_of (match_ordering o ((k, v) ∷ e ∷ es) ((e.0, v) ∷ es) (e ∷ rest)))
  rising_put_by Less e es rest k v h r a b = let l : k < e.0 = ranked k e.0 Less (sym h) in ((l, below_later k e.0 (keys_of es) l r.0), r)
  rising_put_by Equal e es rest k v h r a b = r
  rising_put_by Greater e es rest k v h r a b = (a (ranked k e.0 Greater (sym h)), b)

  rising_put : (es : List (ℕ × V)) (k : ℕ) (v : V) → AreRisingPids (keys_of es) → AreRisingPids (keys_of (insert_entry nat_cmp es k v))
  rising_put [] k v r = (tt, tt)
  rising_put (e ∷ es) k v r =
      rising_put_by (nat_cmp k e.0) e es (insert_entry nat_cmp es k v) k v refl r (λ l. all_keys_put (λ n. e.0 < n) es k v l r.0) (rising_put es k v r.1)

  all_left_by : (Q : ℕ → Type 0) (b : Bool) (e : ℕ × V) (es rest : List (ℕ × V)) → Q e.0 → AllByRecursion Q (keys_of es) → AllByRecursion Q (keys_of rest) → AllByRecursion Q (keys_of (cond b es (e ∷ rest)))
  all_left_by Q true e es rest p a r = a
  all_left_by Q false e es rest p a r = (p, r)

  all_keys_left : (Q : ℕ → Type 0) (k : ℕ) (es : List (ℕ × V)) → AllByRecursion Q (keys_of es) → AllByRecursion Q (keys_of (remove_entry (is_same_pid k) es))
  all_keys_left Q k [] a = tt
  all_keys_left Q k (e ∷ es) a = all_left_by Q (is_same_pid k e.0) e es (remove_entry (is_same_pid k) es) a.0 a.1 (all_keys_left Q k es a.1)

  rising_left_by : (b : Bool) (e : ℕ × V) (es rest : List (ℕ × V)) → AreRisingPids (keys_of es) → AllByRecursion (λ n. e.0 < n) (keys_of rest) → AreRisingPids (keys_of rest) → AreRisingPids (keys_of (cond b es (e ∷ rest)))
  rising_left_by true e es rest r a s = r
  rising_left_by false e es rest r a s = (a, s)

  rising_left : (k : ℕ) (es : List (ℕ × V)) → AreRisingPids (keys_of es) → AreRisingPids (keys_of (remove_entry (is_same_pid k) es))
  rising_left k [] r = tt
  rising_left k (e ∷ es) r = rising_left_by (is_same_pid k e.0) e es (remove_entry (is_same_pid k) es) r.1 (all_keys_left (λ n. e.0 < n) k es r.0) (rising_left k es r.1)

abbrev Pages : Type 0
Pages = Mapping PageOfKind

abbrev Rises : Pages → Type 0
Rises t = AreRisingPids (pids_in_use t)

pub rising_with_place : (t : Pages) (k : ℕ) (p : Option PageOfKind) → Rises t → Rises (with_place t k p)
rising_with_place t k p r = rising_put t.places k p r

pub rising_freed : (t : Pages) (k : ℕ) → Rises t → Rises (freed t k)
rising_freed t k r = rising_left k t.places r

-- ---- pages taken, and put

pub rising-all_taken : (t : Pages) (ks : List ℕ) → Rises t → Rises (all_taken t ks)
rising-all_taken t [] r = r
rising-all_taken t (k ∷ ks) r = rising-all_taken (with_place t k None) ks (rising_with_place t k None r)

pub rising-all_put : (t : Pages) (es : List (ℕ × PageOfKind)) → Rises t → Rises (all_put t es)
rising-all_put t [] r = r
rising-all_put t (e ∷ es) r = rising-all_put (with_place t e.0 (Some e.1)) es (rising_with_place t e.0 (Some e.1) r)

-- other places stay
pub others-all_taken : (q : ℕ) (t : Pages) (ks : List ℕ) → is_among q ks ≡ false → place_of (all_taken t ks) q ≡ place_of t q
others-all_taken q t [] h = refl
others-all_taken q t (k ∷ ks) h = let a = none_of q k ks h in others-all_taken q (with_place t k None) ks a.1 ∙ placed_apart t k None q a.0

pub others-all_put : (q : ℕ) (t : Pages) (es : List (ℕ × PageOfKind)) → is_among q (keys_of es) ≡ false → place_of (all_put t es) q ≡ place_of t q
others-all_put q t [] h = refl
others-all_put q t (e ∷ es) h =
    let a = none_of q e.0 (keys_of es) h in
    others-all_put q (with_place t e.0 (Some e.1)) es a.1 ∙ placed_apart t e.0 (Some e.1) q a.0

-- pages that were taken are checked out
pub away-all_taken : (t : Pages) (ks : List ℕ) → Distinct ks → AllByRecursion (λ k. place_of (all_taken t ks) k ≡ Some None) ks
away-all_taken t [] d = tt
away-all_taken t (k ∷ ks) d =
    (others-all_taken k (with_place t k None) ks (not_among k ks d.0) ∙ place_here t k None, away-all_taken (with_place t k None) ks d.1)

-- pages that were put are in the table
pub home-all_put : (t : Pages) (es : List (ℕ × PageOfKind)) → Distinct (keys_of es) → AllByRecursion (λ e. place_of (all_put t es) e.0 ≡ Some (Some e.1)) es
home-all_put t [] d = tt
home-all_put t (e ∷ es) d =
    let u : Pages = with_place t e.0 (Some e.1) in
    (others-all_put e.0 u es (not_among e.0 (keys_of es) d.0) ∙ place_here t e.0 (Some e.1), home-all_put u es d.1)

-- what the log has stays
pub logged-all_taken : (t : Pages) (ks : List ℕ) → (all_taken t ks).logged ≡ t.logged
logged-all_taken t [] = refl
logged-all_taken t (k ∷ ks) = logged-all_taken (with_place t k None) ks

pub logged-all_put : (t : Pages) (es : List (ℕ × PageOfKind)) → (all_put t es).logged ≡ t.logged
logged-all_put t [] = refl
logged-all_put t (e ∷ es) = logged-all_put (with_place t e.0 (Some e.1)) es

agree_each : (t u : Pages) (es : List (ℕ × PageOfKind)) → AllByRecursion (λ e. place_of t e.0 ≡ Some (Some e.1)) es → AllByRecursion (λ e. place_of u e.0 ≡ Some (Some e.1)) es → AllByRecursion (λ q. place_of u q ≡ place_of t q) (keys_of es)
agree_each t u [] a b = tt
agree_each t u (e ∷ es) a b = (b.0 ∙ sym a.0, agree_each t u es a.1 b.1)

pub same_pages : (t u : Pages) → Rises t → Rises u → ((q : ℕ) → place_of u q ≡ place_of t q) → u.logged ≡ t.logged → u ≡ t
same_pages t u r s h l =
    let both : List (ℕ × Option PageOfKind) → List (ℕ × Logged) → Pages = λ es ls. record { places = es; logged = ls } in
    ap (λ (es : List (ℕ × Option PageOfKind)). both es u.logged) (same_table u.places t.places s r h) ∙ ap (λ (ls : List (ℕ × Logged)). both t.places ls) l

-- pages that were taken and put back give the original table
pub put_back_is_before : (t : Pages) (es : List (ℕ × PageOfKind)) → Rises t → Distinct (keys_of es) → AllByRecursion (λ e. place_of t e.0 ≡ Some (Some e.1)) es → all_put (all_taken t (keys_of es)) es ≡ t
put_back_is_before t es r d h =
    let taken : Pages = all_taken t (keys_of es) in
    let back : Pages = all_put taken es in
    let listed : AllByRecursion (λ q. place_of back q ≡ place_of t q) (keys_of es) = agree_each t back es h (home-all_put taken es d) in
    let places : (q : ℕ) → place_of back q ≡ place_of t q = λ q. by_case q (is_among q (keys_of es)) refl listed in
    same_pages t back r (rising-all_put taken es (rising-all_taken t (keys_of es) r)) places (logged-all_put taken es ∙ logged-all_taken t (keys_of es))
  where
    by_case : (q : ℕ) (b : Bool) → is_among q (keys_of es) ≡ b → AllByRecursion (λ q. place_of (all_put (all_taken t (keys_of es)) es) q ≡ place_of t q) (keys_of es) → place_of (all_put (all_taken t (keys_of es)) es) q ≡ place_of t q
    by_case q true e a = at_among (λ q. place_of (all_put (all_taken t (keys_of es)) es) q ≡ place_of t q) q (keys_of es) a e
    by_case q false e a = others-all_put q (all_taken t (keys_of es)) es e ∙ others-all_taken q t (keys_of es) e

-- ---- pages that are put back after their runs

rising_home_by : (b : Bool) (t : Pages) (k : ℕ) (p : PageOfKind) → Rises t → Rises (with_place (if b then log_outdated t k else t) k (Some p))
rising_home_by true t k p r = rising_with_place (log_outdated t k) k (Some p) r
rising_home_by false t k p r = rising_with_place t k (Some p) r

pub rising-all_come_home : (t : Pages) (xs : List SeenPage) → Rises t → Rises (all_come_home t xs)
rising-all_come_home t [] r = r
rising-all_come_home t (x ∷ xs) r = rising-all_come_home (come_home t x) xs (rising_home_by x.replaced t x.pid x.page r)

pub others-all_come_home : (q : ℕ) (t : Pages) (xs : List SeenPage) → is_among q (map (λ x. x.pid) xs) ≡ false → place_of (all_come_home t xs) q ≡ place_of t q
others-all_come_home q t [] h = refl
others-all_come_home q t (x ∷ xs) h =
    let a = none_of q x.pid (map (λ y. y.pid) xs) h in
    others-all_come_home q (come_home t x) xs a.1 ∙ home_apart t x q a.0

home_here_by : (b : Bool) (t : Pages) (k : ℕ) (p : PageOfKind) → place_of (with_place (if b then log_outdated t k else t) k (Some p)) k ≡ Some (Some p)
home_here_by true t k p = place_here (log_outdated t k) k (Some p)
home_here_by false t k p = place_here t k (Some p)

-- pages that were put back are in the table
pub home-all_come_home : (t : Pages) (xs : List SeenPage) → Distinct (map (λ x. x.pid) xs) → AllByRecursion (λ x. place_of (all_come_home t xs) x.pid ≡ Some (Some x.page)) xs
home-all_come_home t [] d = tt
home-all_come_home t (x ∷ xs) d =
    let u : Pages = come_home t x in
    (others-all_come_home x.pid u xs (not_among x.pid (map (λ y. y.pid) xs) d.0) ∙ home_here_by x.replaced t x.pid x.page, home-all_come_home u xs d.1)

-- the pids of those that were replaced
abbrev pub replaced_pids : List SeenPage → List ℕ
replaced_pids xs = map (λ x. x.pid) (filter (λ x. x.replaced) xs)

swapped_last : (a b : Bool) → (a || (b || false)) ≡ (b || a)
swapped_last true true = refl
swapped_last true false = refl
swapped_last false true = refl
swapped_last false false = refl

among_last : (n k : ℕ) (ks : List ℕ) → is_among n (ks ++ k ∷ []) ≡ is_among n (k ∷ ks)
among_last n k ks = among-joined n ks (k ∷ []) ∙ swapped_last (is_among n ks) (nat_eq n k)

swapped : (a b : Bool) → (a || b) ≡ (b || a)
swapped true true = refl
swapped true false = refl
swapped false true = refl
swapped false false = refl

among_swapped : (n : ℕ) (ms ns : List ℕ) → is_among n (ms ++ ns) ≡ is_among n (ns ++ ms)
among_swapped n ms ns = among-joined n ms ns ∙ swapped (is_among n ms) (is_among n ns) ∙ sym (among-joined n ns ms)

-- outdating one and then others is outdating all of them
outdate_more : (k : ℕ) (ks : List ℕ) (ls : List (ℕ × Logged)) → outdate_all ks (outdate_all (k ∷ []) ls) ≡ outdate_all (k ∷ ks) ls
outdate_more k ks ls = outdate-joined ks (k ∷ []) ls ∙ outdate-same (ks ++ k ∷ []) (k ∷ ks) ls (λ n. among_last n k ks)

outdate_none : (ls : List (ℕ × Logged)) → outdate_all [] ls ≡ ls
outdate_none [] = refl
outdate_none (l ∷ ls) = ap (λ (ms : List (ℕ × Logged)). l ∷ ms) (outdate_none ls)

logged_home_by : (b : Bool) (t u : Pages) (x : SeenPage) (xs : List SeenPage) → x.replaced ≡ b → u.logged ≡ outdate_all (replaced_pids xs) (with_place (if b then log_outdated t x.pid else t) x.pid (Some x.page)).logged
    → u.logged ≡ outdate_all (map (λ y. y.pid) (if b then x ∷ filter (λ y. y.replaced) xs else filter (λ y. y.replaced) xs)) t.logged
logged_home_by true t u x xs e h = h ∙ outdate_more x.pid (replaced_pids xs) t.logged
logged_home_by false t u x xs e h = h

-- the log states of replaced pages become outdated
pub logged-all_come_home : (t : Pages) (xs : List SeenPage) → (all_come_home t xs).logged ≡ outdate_all (replaced_pids xs) t.logged
logged-all_come_home t [] = sym (outdate_none t.logged)
logged-all_come_home t (x ∷ xs) = logged_home_by x.replaced t (all_come_home (come_home t x) xs) x xs refl (logged-all_come_home (come_home t x) xs)

-- ---- members that are freed

lookup_gone : {V : Type 0} → (k : ℕ) (es : List (ℕ × V)) → AllByRecursion (λ n. k < n) (keys_of es) → listed_at es k ≡ None
lookup_gone k [] a = refl
lookup_gone k (e ∷ es) a =
    let apart : k ≢ e.0 = (λ h. let l : k < e.0 = a.0 in omega arith) in
    rw (differ k e.0 apart) (lookup_gone k es a.1)

gone_by : {V : Type 0} → (b : Bool) (k : ℕ) (e : ℕ × V) (es rest : List (ℕ × V)) → is_same_pid k e.0 ≡ b → AreRisingPids (keys_of (e ∷ es)) → listed_at rest k ≡ None → listed_at (cond b es (e ∷ rest)) k ≡ None
gone_by true k e es rest h r n =
    let same : k ≡ e.0 = same_pid k e.0 (equal_by (nat_cmp k e.0) h) in
    lookup_gone k es (subst (λ (m : ℕ). AllByRecursion (λ n. m < n) (keys_of es)) (sym same) r.0)
gone_by false k e es rest h r n = rw h n

gone_entry : {V : Type 0} → (k : ℕ) (es : List (ℕ × V)) → AreRisingPids (keys_of es) → listed_at (remove_entry (is_same_pid k) es) k ≡ None
gone_entry k [] r = refl
gone_entry k (e ∷ es) r = gone_by (is_same_pid k e.0) k e es (remove_entry (is_same_pid k) es) refl r (gone_entry k es r.1)

pub rising_gone : (t : Pages) (k : ℕ) → Rises t → Rises (gone_from t k)
rising_gone t k r = rising_freed (with_place t k None) k (rising_with_place t k None r)

pub no_place : (t : Pages) (k : ℕ) → Rises t → place_of (gone_from t k) k ≡ None
no_place t k r = gone_entry k (with_place t k None).places (rising_with_place t k None r)

pub rising-members_freed : (t : Pages) (ks : List ℕ) → Rises t → Rises (members_freed t ks)
rising-members_freed t [] r = r
rising-members_freed t (k ∷ ks) r = rising-members_freed (gone_from t k) ks (rising_gone t k r)

pub others-members_freed : (q : ℕ) (t : Pages) (ks : List ℕ) → is_among q ks ≡ false → place_of (members_freed t ks) q ≡ place_of t q
others-members_freed q t [] h = refl
others-members_freed q t (k ∷ ks) h = let a = none_of q k ks h in others-members_freed q (gone_from t k) ks a.1 ∙ gone_apart t k q a.0

-- members that were freed have no place
pub none-members_freed : (t : Pages) (ks : List ℕ) → Rises t → Distinct ks → AllByRecursion (λ k. place_of (members_freed t ks) k ≡ None) ks
none-members_freed t [] r d = tt
none-members_freed t (k ∷ ks) r d =
    let u : Pages = gone_from t k in
    (others-members_freed k u ks (not_among k ks d.0) ∙ no_place t k r, none-members_freed u ks (rising_gone t k r) d.1)

pub logged-members_freed : (t : Pages) (ks : List ℕ) → (members_freed t ks).logged ≡ outdate_all ks t.logged
logged-members_freed t [] = sym (outdate_none t.logged)
logged-members_freed t (k ∷ ks) = logged-members_freed (gone_from t k) ks ∙ outdate_more k ks t.logged

-- a page is put into a place after others are freed, or before
by_freed : (b : Bool) (u : Pages) (k q : ℕ) (ks : List ℕ) (p : PageOfKind) → is_among q ks ≡ b → Rises u → Distinct ks → q ≢ k → place_of (with_place (members_freed u ks) k (Some p)) q ≡ place_of (members_freed (with_place u k (Some p)) ks) q
by_freed true u k q ks p e r d n =
    let before = at_among (λ m. place_of (members_freed u ks) m ≡ None) q ks (none-members_freed u ks r d) e in
    let after = at_among (λ m. place_of (members_freed (with_place u k (Some p)) ks) m ≡ None) q ks (none-members_freed (with_place u k (Some p)) ks (rising_with_place u k (Some p) r) d) e in
    placed_apart (members_freed u ks) k (Some p) q n ∙ before ∙ sym after
by_freed false u k q ks p e r d n =
    placed_apart (members_freed u ks) k (Some p) q n ∙ others-members_freed q u ks e ∙ sym (placed_apart u k (Some p) q n) ∙ sym (others-members_freed q (with_place u k (Some p)) ks e)

by_place : (b : Bool) (u : Pages) (k q : ℕ) (ks : List ℕ) (p : PageOfKind) → nat_eq q k ≡ b → Rises u → Distinct ks → is_among k ks ≡ false → place_of (with_place (members_freed u ks) k (Some p)) q ≡ place_of (members_freed (with_place u k (Some p)) ks) q
by_place true u k q ks p e r d n =
    let same : k ≡ q = sym (eqb-true q k e) in
    subst (λ (m : ℕ). place_of (with_place (members_freed u ks) k (Some p)) m ≡ place_of (members_freed (with_place u k (Some p)) ks) m) same
    (place_here (members_freed u ks) k (Some p) ∙ sym (place_here u k (Some p)) ∙ sym (others-members_freed k (with_place u k (Some p)) ks n))
by_place false u k q ks p e r d n = by_freed (is_among q ks) u k q ks p refl r d (eqb-false q k e)

pub put_before_freed : (u : Pages) (k : ℕ) (ks : List ℕ) (p : PageOfKind) → Rises u → Distinct ks → is_among k ks ≡ false → with_place (members_freed u ks) k (Some p) ≡ members_freed (with_place u k (Some p)) ks
put_before_freed u k ks p r d n =
    let first : Pages = with_place (members_freed u ks) k (Some p) in
    let last : Pages = members_freed (with_place u k (Some p)) ks in
    same_pages last first (rising-members_freed (with_place u k (Some p)) ks (rising_with_place u k (Some p) r)) (rising_with_place (members_freed u ks) k (Some p) (rising-members_freed u ks r)) (λ q. by_place (nat_eq q k) u k q ks p refl r d n)
    (logged-members_freed u ks ∙ sym (logged-members_freed (with_place u k (Some p)) ks))

-- ---- pages put under pids

-- the pages are in the table under these pids, one for each
abbrev pub AreUnder : Pages → List ℕ → List PageOfKind → Type 0
AreUnder t [] [] = ⊤
AreUnder t [] (p ∷ ps) = ⊥
AreUnder t (k ∷ ks) [] = ⊥
AreUnder t (k ∷ ks) (p ∷ ps) = (place_of t k ≡ Some (Some p)) × AreUnder t ks ps

pub rising-put_under : (t : Pages) (ks : List ℕ) (ps : List PageOfKind) → Rises t → Rises (put_under t ks ps)
rising-put_under t [] ps r = r
rising-put_under t (k ∷ ks) [] r = r
rising-put_under t (k ∷ ks) (p ∷ ps) r = rising-put_under (with_place t k (Some p)) ks ps (rising_with_place t k (Some p) r)

pub others-put_under : (q : ℕ) (t : Pages) (ks : List ℕ) (ps : List PageOfKind) → is_among q ks ≡ false → place_of (put_under t ks ps) q ≡ place_of t q
others-put_under q t [] ps h = refl
others-put_under q t (k ∷ ks) [] h = refl
others-put_under q t (k ∷ ks) (p ∷ ps) h =
    let a = none_of q k ks h in
    others-put_under q (with_place t k (Some p)) ks ps a.1 ∙ placed_apart t k (Some p) q a.0

pub home-put_under : (t : Pages) (ks : List ℕ) (ps : List PageOfKind) → Distinct ks → length ps ≡ length ks → AreUnder (put_under t ks ps) ks ps
home-put_under t [] [] d e = tt
home-put_under t [] (p ∷ ps) d e = absurd (omega arith)
home-put_under t (k ∷ ks) [] d e = absurd (omega arith)
home-put_under t (k ∷ ks) (p ∷ ps) d e =
    let u : Pages = with_place t k (Some p) in
    let l : length ps ≡ length ks = omega arith in
    (others-put_under k u ks ps (not_among k ks d.0) ∙ place_here t k (Some p), home-put_under u ks ps d.1 l)

pub logged-put_under : (t : Pages) (ks : List ℕ) (ps : List PageOfKind) → (put_under t ks ps).logged ≡ t.logged
logged-put_under t [] ps = refl
logged-put_under t (k ∷ ks) [] = refl
logged-put_under t (k ∷ ks) (p ∷ ps) = logged-put_under (with_place t k (Some p)) ks ps

-- ---- a group is replaced

-- the pids of a group: those of its members, and those of its new pieces
abbrev pub group_pids : Remade → List ℕ
group_pids r = r.members ++ r.fresh

-- from one table to the next the group was replaced: its pieces are in the table, its members but the first have no place, other
-- places stayed, and the log states of the members became outdated
pub record IsReplaced (t u : Mapping PageOfKind) (r : Remade) : Type 0 where
  pub pieces : AreUnder u (take 1 r.members ++ r.fresh) r.pieces
  pub freed : AllByRecursion (λ k. place_of u k ≡ None) (drop 1 r.members)
  pub others : (q : ℕ) → is_among q (group_pids r) ≡ false → place_of u q ≡ place_of t q
  pub logged : u.logged ≡ outdate_all r.members t.logged
  pub rising : Rises t → Rises u

pub none_each : (ms ns : List ℕ) → Distinct (ms ++ ns) → AllByRecursion (λ q. is_among q ns ≡ false) ms
none_each [] ns d = tt
none_each (m ∷ ms) ns d = (not_among m ns (all_apart (λ k. k ≢ m) ms ns d.0).1, none_each ms ns d.1)

pub none_joined : (q : ℕ) (ms ns : List ℕ) → is_among q (ms ++ ns) ≡ false → (is_among q ms ≡ false) × (is_among q ns ≡ false)
none_joined q ms ns h = or_parts (is_among q ms) (is_among q ns) (sym (among-joined q ms ns) ∙ h)

stay_none : (t u : Pages) (ks : List ℕ) → AllByRecursion (λ k. place_of u k ≡ place_of t k) ks → AllByRecursion (λ k. place_of t k ≡ None) ks → AllByRecursion (λ k. place_of u k ≡ None) ks
stay_none t u [] a b = tt
stay_none t u (k ∷ ks) a b = (a.0 ∙ b.0, stay_none t u ks a.1 b.1)

stay_under : (t u : Pages) (ks : List ℕ) (ps : List PageOfKind) → AllByRecursion (λ k. place_of u k ≡ place_of t k) ks → AreUnder t ks ps → AreUnder u ks ps
stay_under t u [] [] a b = tt
stay_under t u [] (p ∷ ps) a b = b
stay_under t u (k ∷ ks) [] a b = b
stay_under t u (k ∷ ks) (p ∷ ps) a b = (a.0 ∙ b.0, stay_under t u ks ps a.1 b.1)

pub each_other : (P Q : ℕ → Type 0) (ks : List ℕ) → ((q : ℕ) → P q → Q q) → AllByRecursion P ks → AllByRecursion Q ks
each_other P Q [] f a = tt
each_other P Q (k ∷ ks) f a = (f k a.0, each_other P Q ks f a.1)

first_apart : (k q : ℕ) (t : Pages) (p : PageOfKind) → q ≢ k → place_of (replaced_by t k p) q ≡ place_of t q
first_apart k q t p d = placed_apart (log_outdated t k) k (Some p) q d

replaced_group : (t : Pages) (k : ℕ) (ks fresh : List ℕ) (p : PageOfKind) (ps : List PageOfKind) → Rises t → Distinct ((k ∷ ks) ++ fresh) → length (p ∷ ps) ≡ suc (length fresh)
    → IsReplaced t (put_under (members_freed (replaced_by t k p) ks) fresh ps) (record { members = k ∷ ks; pieces = p ∷ ps; fresh = fresh })
replaced_group t k ks fresh p ps r d n =
    let a : Pages = replaced_by t k p in
    let b : Pages = members_freed a ks in
    let u : Pages = put_under b fresh ps in
    let count : length ps ≡ length fresh = omega arith in
    let k_apart = none_joined k ks fresh (not_among k (ks ++ fresh) d.0) in
    let first : place_of u k ≡ Some (Some p) = others-put_under k b fresh ps k_apart.1 ∙ others-members_freed k a ks k_apart.0 ∙ place_here (log_outdated t k) k (Some p) in
    let later : AreUnder u fresh ps = home-put_under b fresh ps (distinct_last ks fresh d.1) count in
    let rises : Rises a = rising_with_place (log_outdated t k) k (Some p) r in
    let gone : AllByRecursion (λ q. place_of b q ≡ None) ks = none-members_freed a ks rises (distinct_first ks fresh d.1) in
    let stay : AllByRecursion (λ q. place_of u q ≡ place_of b q) ks = each_other (λ q. is_among q fresh ≡ false) (λ q. place_of u q ≡ place_of b q) ks (λ q h. others-put_under q b fresh ps h) (none_each ks fresh d.1) in
    record {
      pieces = (first, later);
      freed = stay_none b u ks stay gone;
      others = λ q h. (let x = none_of q k (ks ++ fresh) h in let y = none_joined q ks fresh x.1 in others-put_under q b fresh ps y.1 ∙ others-members_freed q a ks y.0 ∙ first_apart k q t p x.0);
      logged = logged-put_under b fresh ps ∙ logged-members_freed a ks ∙ outdate_more k ks t.logged;
      rising = λ s. rising-put_under b fresh ps (rising-members_freed a ks (rising_with_place (log_outdated t k) k (Some p) s));
    }

replaced_by_parts : (t : Pages) (members fresh : List ℕ) (pieces : List PageOfKind) → Rises t → 0 < length members → Distinct (members ++ fresh) → length pieces ≡ suc (length fresh)
    → IsReplaced t (group_installed t (record { members = members; pieces = pieces; fresh = fresh })) (record { members = members; pieces = pieces; fresh = fresh })
replaced_by_parts t [] fresh pieces r s d n = absurd (omega arith)
replaced_by_parts t (k ∷ ks) fresh [] r s d n = absurd (omega arith)
replaced_by_parts t (k ∷ ks) fresh (p ∷ ps) r s d n = replaced_group t k ks fresh p ps r d n

pub group_is_replaced : (t : Pages) (r : Remade) → Rises t → 0 < length r.members → Distinct (group_pids r) → length r.pieces ≡ suc (length r.fresh) → IsReplaced t (group_installed t r) r
group_is_replaced t r s m d n = replaced_by_parts t r.members r.fresh r.pieces s m d n

-- ---- groups are replaced, one after the other

-- all of their pids
abbrev pub groups_pids : List Remade → List ℕ
groups_pids rs = flat_map group_pids rs

-- each group has a member, and one piece more than new pids
abbrev pub AreShaped : List Remade → Type 0
AreShaped rs = AllByRecursion (λ r. (0 < length r.members) × (length r.pieces ≡ suc (length r.fresh))) rs

-- the members of all groups are in the table, and the places of their new pages are empty
abbrev pub AreReady : Mapping PageOfKind → List Remade → Type 0
AreReady t rs = AllByRecursion (λ r. AllByRecursion (λ k. IsSome (page_of t k)) r.members × AllByRecursion (λ k. place_of t k ≡ Some None) r.fresh) rs

pub rising-group_installed : (t : Pages) (r : Remade) → Rises t → Distinct (group_pids r) → 0 < length r.members → length r.pieces ≡ suc (length r.fresh) → Rises (group_installed t r)
rising-group_installed t r s d m n = (group_is_replaced t r s m d n).rising s

pub rising-all_installed : (t : Pages) (rs : List Remade) → Rises t → Distinct (groups_pids rs) → AreShaped rs → Rises (all_installed t rs)
rising-all_installed t [] s d h = s
rising-all_installed t (r ∷ rs) s d h =
    let u : Pages = group_installed t r in
    rising-all_installed u rs (rising-group_installed t r s (distinct_first (group_pids r) (groups_pids rs) d) h.0.0 h.0.1) (distinct_last (group_pids r) (groups_pids rs) d) h.1

-- other places stay
pub others-all_installed : (q : ℕ) (t : Pages) (rs : List Remade) → Rises t → Distinct (groups_pids rs) → AreShaped rs → is_among q (groups_pids rs) ≡ false → place_of (all_installed t rs) q ≡ place_of t q
others-all_installed q t [] s d h n = refl
others-all_installed q t (r ∷ rs) s d h n =
    let here = distinct_first (group_pids r) (groups_pids rs) d in
    let later = distinct_last (group_pids r) (groups_pids rs) d in
    let is = group_is_replaced t r s h.0.0 here h.0.1 in
    let a = none_joined q (group_pids r) (groups_pids rs) n in
    others-all_installed q (group_installed t r) rs (is.rising s) later h.1 a.1 ∙ is.others q a.0

-- the log states of all members become outdated
pub logged-all_installed : (t : Pages) (rs : List Remade) → Rises t → Distinct (groups_pids rs) → AreShaped rs → (all_installed t rs).logged ≡ outdate_all (flat_map (λ r. r.members) rs) t.logged
logged-all_installed t [] s d h = sym (outdate_none t.logged)
logged-all_installed t (r ∷ rs) s d h =
    let later : List ℕ = flat_map (λ x. x.members) rs in
    let is = group_is_replaced t r s h.0.0 (distinct_first (group_pids r) (groups_pids rs) d) h.0.1 in
    logged-all_installed (group_installed t r) rs (is.rising s) (distinct_last (group_pids r) (groups_pids rs) d) h.1
    ∙ ap (λ (ls : List (ℕ × Logged)). outdate_all later ls) is.logged
    ∙ outdate-joined later r.members t.logged
    ∙ outdate-same (later ++ r.members) (r.members ++ later) t.logged (λ n. among_swapped n later r.members)

-- the new pages of a group are in the table, and its members except the first have no place
pub record AreInstalled (u : Mapping PageOfKind) (r : Remade) : Type 0 where
  pub pieces : AreUnder u (take 1 r.members ++ r.fresh) r.pieces
  pub freed : AllByRecursion (λ k. place_of u k ≡ None) (drop 1 r.members)

all_first : (P : ℕ → Type 0) (ks : List ℕ) → AllByRecursion P ks → AllByRecursion P (take 1 ks)
all_first P [] a = tt
all_first P (k ∷ ks) a = (a.0, tt)

all_later : (P : ℕ → Type 0) (ks : List ℕ) → AllByRecursion P ks → AllByRecursion P (drop 1 ks)
all_later P [] a = tt
all_later P (k ∷ ks) a = a.1

-- a group that was replaced stays so while others are
stays_installed : (t u v : Pages) (r : Remade) → IsReplaced t u r → AllByRecursion (λ k. place_of v k ≡ place_of u k) (group_pids r) → AreInstalled v r
stays_installed t u v r is same =
    let parts = all_apart (λ k. place_of v k ≡ place_of u k) r.members r.fresh same in
    let front = all_first (λ k. place_of v k ≡ place_of u k) r.members parts.0 in
    let rest = all_later (λ k. place_of v k ≡ place_of u k) r.members parts.0 in
    record {
      pieces = stay_under u v (take 1 r.members ++ r.fresh) r.pieces (all-append (λ k. place_of v k ≡ place_of u k) (take 1 r.members) r.fresh front parts.1) is.pieces;
      freed = stay_none u v (drop 1 r.members) rest is.freed;
    }

pub all_are_installed : (t : Pages) (rs : List Remade) → Rises t → Distinct (groups_pids rs) → AreShaped rs → AllByRecursion (AreInstalled (all_installed t rs)) rs
all_are_installed t [] s d h = tt
all_are_installed t (r ∷ rs) s d h =
    let u : Pages = group_installed t r in
    let here = distinct_first (group_pids r) (groups_pids rs) d in
    let later = distinct_last (group_pids r) (groups_pids rs) d in
    let is = group_is_replaced t r s h.0.0 here h.0.1 in
    let rises : Rises u = is.rising s in
    let v : Pages = all_installed u rs in
    let same : AllByRecursion (λ k. place_of v k ≡ place_of u k) (group_pids r) =
    each_other (λ k. is_among k (groups_pids rs) ≡ false) (λ k. place_of v k ≡ place_of u k) (group_pids r) (λ k n. others-all_installed k u rs rises later h.1 n) (none_each (group_pids r) (groups_pids rs) d) in
    (stays_installed t u v r is same, all_are_installed u rs rises later h.1)

-- ---- groups that can be replaced

pub none_after : (ms ns : List ℕ) → Distinct (ms ++ ns) → AllByRecursion (λ q. is_among q ms ≡ false) ns
none_after [] ns d = all_so ns
  where
    all_so : (ks : List ℕ) → AllByRecursion (λ q. is_among q [] ≡ false) ks
    all_so [] = tt
    all_so (k ∷ ks) = (refl, all_so ks)
none_after (m ∷ ms) ns d = both ns (all_apart (λ k. k ≢ m) ms ns d.0).1 (none_after ms ns d.1)
  where
    both : (ks : List ℕ) → AllByRecursion (λ k. k ≢ m) ks → AllByRecursion (λ q. is_among q ms ≡ false) ks → AllByRecursion (λ q. is_among q (m ∷ ms) ≡ false) ks
    both [] a b = tt
    both (k ∷ ks) a b =
        (or_from (nat_eq k m) (is_among k ms) (false_from_ne_true (nat_eq k m) (λ e. a.0 (eqb-true k m e))) b.0, both ks a.1 b.1)

under_stays : (t u : Pages) (ks : List ℕ) → AllByRecursion (λ k. place_of u k ≡ place_of t k) ks → pages_under t ks ≡ pages_under u ks
under_stays t u [] a = refl
under_stays t u (k ∷ ks) a =
    ap (λ (o : Option (Option PageOfKind)). page_or_none (at_home o) ∷ pages_under t ks) (sym a.0) ∙ ap (λ (ps : List PageOfKind). page_or_none (page_of u k) ∷ ps) (under_stays t u ks a.1)

-- the new pages of each group are those of its members
abbrev pub AreMade : Mapping PageOfKind → List Remade → Type 0
AreMade t rs = AllByRecursion (IsMade t) rs

still_made : (t u : Pages) (rs : List Remade) → AllByRecursion (λ k. place_of u k ≡ place_of t k) (groups_pids rs) → AreMade t rs → AreMade u rs
still_made t u [] a h = tt
still_made t u (r ∷ rs) a h =
    let parts = all_apart (λ k. place_of u k ≡ place_of t k) (group_pids r) (groups_pids rs) a in
    let here = all_apart (λ k. place_of u k ≡ place_of t k) r.members r.fresh parts.0 in
    let same = under_stays t u r.members here.0 in
    ((h.0.0, subst (λ (ps : List PageOfKind). CanJoin ps) same h.0.1, subst (λ (ps : List PageOfKind). r.pieces ≡ group_made h.0.0 ps) same h.0.2), still_made t u rs parts.1 h.1)

ready_stays : (R : Option (Option PageOfKind) → Type 0) (t u : Pages) (ks : List ℕ) → AllByRecursion (λ k. place_of u k ≡ place_of t k) ks → AllByRecursion (λ k. R (place_of t k)) ks → AllByRecursion (λ k. R (place_of u k)) ks
ready_stays R t u [] a b = tt
ready_stays R t u (k ∷ ks) a b = (subst R (sym a.0) b.0, ready_stays R t u ks a.1 b.1)

still_ready : (t u : Pages) (rs : List Remade) → AllByRecursion (λ k. place_of u k ≡ place_of t k) (groups_pids rs) → AreReady t rs → AreReady u rs
still_ready t u [] a h = tt
still_ready t u (r ∷ rs) a h =
    let parts = all_apart (λ k. place_of u k ≡ place_of t k) (group_pids r) (groups_pids rs) a in
    let here = all_apart (λ k. place_of u k ≡ place_of t k) r.members r.fresh parts.0 in
    ((ready_stays (λ o. IsSome (at_home o)) t u r.members here.0 h.0.0, ready_stays (λ o. o ≡ Some None) t u r.fresh here.1 h.0.1), still_ready t u rs parts.1 h.1)

-- groups can be replaced if their members, of which the new pages are made, are in the table and their new pages have empty places, under distinct
-- pids
pub can_install_all : (t : Pages) (rs : List Remade) → Rises t → Distinct (groups_pids rs) → AreShaped rs → AreReady t rs → AreMade t rs → CanInstallAll t rs
can_install_all t [] s d h a m = tt
can_install_all t (r ∷ rs) s d h a m =
    let u : Pages = group_installed t r in
    let here = distinct_first (group_pids r) (groups_pids rs) d in
    let is = group_is_replaced t r s h.0.0 here h.0.1 in
    let same : AllByRecursion (λ k. place_of u k ≡ place_of t k) (groups_pids rs) = each_other (λ k. is_among k (group_pids r) ≡ false) (λ k. place_of u k ≡ place_of t k) (groups_pids rs) is.others (none_after (group_pids r) (groups_pids rs) d) in (
      record { some = h.0.0; members = a.0.0; fresh = a.0.1; distinct = here; count = h.0.1; made = m.0; rising = s },
      can_install_all u rs (is.rising s) (distinct_last (group_pids r) (groups_pids rs) d) h.1 (still_ready t u rs same a.1) (still_made t u rs same m.1),
    )
