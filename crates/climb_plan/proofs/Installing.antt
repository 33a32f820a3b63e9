-- Steps of a climb's changes of the mapping table: the effect of one step on the other places.
use Rattle.std.specs.Prelude.{◌≡◌, ◌≢◌, ℕ, suc, ◌+◌, ◌-◌, ◌<◌, ◌++◌, map, take, drop, length, slice_get, slice_index_or, Bool, true, false, cond, if◌then◌else◌, List, [], ◌∷◌, Option, Some, None, IsSome}
use Rattle.std.proofs.Common.{refl, sym, ap, ◌∙◌, subst, append_assoc, get_or, drop-cons, arith, Ordering, Less, Equal, Greater}
use Rattle.std.specs.List.{AllByRecursion}
use Rattle.std.specs.Ordering.{nat_cmp, is_eq, match_ordering}
use Rattle.std.specs.Map.{remove_entry}
use Rattle.std.specs.BTreeMap.{insert_entry}
use Rattle.std.proofs.lemmas.Cmp.{tied_itself}
use Rattle.std.proofs.lemmas.List.{drop_more}
use Rattle.keys.proofs.Basics.{equal_by}
use Rattle.index_page.specs.Page.{PageOfKind}
use Rattle.index_page.proofs.ListLemmas.{all_apart}
use Rattle.mapping.specs.Tree.{listed_at}
use Rattle.mapping.specs.Table.{Mapping, is_same_pid, place_of, page_of, at_home, with_place, log_outdated, freed}
use Rattle.mapping.specs.TreeInMemory.{TreeInMemory}
use Rattle.mapping.specs.Proper.{Distinct}
use Rattle.mapping.proofs.TableLemmas.{total, same_pid, differ, listed-insert_entry}
use Rattle.page_runs.specs.TermWork.{TermHeld, term_held_of}
use Rattle.page_runs.specs.declared.term_work.TermJob.{TermJob}
use Rattle.climb_plan.specs.Changing.{SeenPage}
use Rattle.climb_plan.specs.Rewriting.{Remade}
use Rattle.climb_plan.specs.Installing.{all_taken, page_or_none, parent_held, IsIndexAt, AreParentsHome, all_put, AreAway, come_home, all_come_home, pages_under, members_freed, put_under, group_installed, first_replaced, all_installed, CanInstall, CanInstallAll}

-- ---- other places

-- from one table to the other no place but this one has changed
abbrev pub KeepsOthers : {P : Type 0} → Mapping P → Mapping P → ℕ → Type 0
KeepsOthers t u k = (q : ℕ) → q ≢ k → place_of u q ≡ place_of t q

module _ {V : Type 0} where
  removed_by : (a b : Bool) (q k : ℕ) (e : ℕ × V) (es rest : List (ℕ × V)) → is_eq (nat_cmp k e.0) ≡ a → is_eq (nat_cmp q e.0) ≡ b → q ≢ k → listed_at rest q ≡ listed_at es q
      → listed_at (cond a es (e ∷ rest)) q ≡ cond b (Some e.1) (listed_at es q)
  removed_by true true q k e es rest f g d ih =
      absurd (d (same_pid q e.0 (equal_by (nat_cmp q e.0) g) ∙ sym (same_pid k e.0 (equal_by (nat_cmp k e.0) f))))
  removed_by true false q k e es rest f g d ih = refl
  removed_by false true q k e es rest f g d ih = rw g refl
  removed_by false false q k e es rest f g d ih = rw g ih

  -- the entries under other pids, after a pid's entry was removed
  removed_apart : (q k : ℕ) (es : List (ℕ × V)) → q ≢ k → listed_at (remove_entry (is_same_pid k) es) q ≡ listed_at es q
  removed_apart q k [] d = refl
  removed_apart q k (e ∷ es) d = removed_by (is_eq (nat_cmp k e.0)) (is_eq (nat_cmp q e.0)) q k e es (remove_entry (is_same_pid k) es) refl refl d (removed_apart q k es d)

module _ {P : Type 0} (t : Mapping P) (k : ℕ) where
  -- the page that was put into a place is there
  pub place_here : (p : Option P) → place_of (with_place t k p) k ≡ Some p
  place_here p =
      let found = listed-insert_entry t.places k p k in
      let same : is_eq (nat_cmp k k) ≡ true = ap is_eq (tied_itself total k) in
      found ∙ ap (λ (b : Bool). cond b (Some p) (listed_at t.places k)) same

  pub placed_apart : (p : Option P) → KeepsOthers t (with_place t k p) k
  placed_apart p q d =
      listed-insert_entry t.places k p q ∙ ap (λ (b : Bool). cond b (Some p) (listed_at t.places q)) (differ q k d)

  pub freed_apart : KeepsOthers t (freed t k) k
  freed_apart q d = removed_apart q k t.places d

module _ {P : Type 0} (R : Option (Option P) → Type 0) (t u : Mapping P) (k : ℕ) (keeps : KeepsOthers t u k) where
  -- what holds of other places holds of them still
  pub all_kept : (qs : List ℕ) → AllByRecursion (λ q. q ≢ k) qs → AllByRecursion (λ q. R (place_of t q)) qs → AllByRecursion (λ q. R (place_of u q)) qs
  all_kept [] d a = tt
  all_kept (q ∷ qs) d a = (subst R (sym (keeps q d.0)) a.0, all_kept qs d.1 a.1)

-- ---- empty places, one after the other

-- after one of them was changed, the others are empty
pub away_rest : (t u : Mapping PageOfKind) (k : ℕ) (ks all : List ℕ) → all ≡ k ∷ ks → KeepsOthers t u k → AreAway t all → AreAway u ks
away_rest t u k ks all e keeps h =
    let a : AreAway t (k ∷ ks) = subst (λ (ns : List ℕ). AreAway t ns) e h in
    (all_kept (λ o. o ≡ Some None) t u k keeps ks a.1.0 a.0.1, a.1.1)

-- the same of the tree's table
pub away_next : (tree now : TreeInMemory) (t : Mapping PageOfKind) (k : ℕ) (ks all : List ℕ) → all ≡ k ∷ ks → now ≡ record tree { table = t } → KeepsOthers tree.table t k → AreAway tree.table all → AreAway now.table ks
away_next tree now t k ks all e n keeps h =
    subst (λ (x : TreeInMemory). AreAway x.table ks) (sym n) (away_rest tree.table t k ks all e keeps h)

-- ---- the rest of a list does what is left to do

abbrev pub tree_put : TreeInMemory → List (ℕ × PageOfKind) → TreeInMemory
tree_put tree es = record tree { table = all_put tree.table es }

pub put_step : (tree now done : TreeInMemory) (e : ℕ × PageOfKind) (es all : List (ℕ × PageOfKind)) → all ≡ e ∷ es → now ≡ record tree { table = with_place tree.table e.0 (Some e.1) } → tree_put tree all ≡ done → tree_put now es ≡ done
put_step tree now done e es all r n h =
    ap (λ (x : TreeInMemory). tree_put x es) n ∙ ap (λ (x : List (ℕ × PageOfKind)). tree_put tree x) (sym r) ∙ h

abbrev pub tree_home : TreeInMemory → List SeenPage → TreeInMemory
tree_home tree xs = record tree { table = all_come_home tree.table xs }

pub home_step : (tree now done : TreeInMemory) (x : SeenPage) (xs all : List SeenPage) → all ≡ x ∷ xs → now ≡ record tree { table = come_home tree.table x } → tree_home tree all ≡ done → tree_home now xs ≡ done
home_step tree now done x xs all r n h =
    ap (λ (y : TreeInMemory). tree_home y xs) n ∙ ap (λ (y : List SeenPage). tree_home tree y) (sym r) ∙ h

by_replaced : (b : Bool) (t : Mapping PageOfKind) (k : ℕ) (p : PageOfKind) → KeepsOthers t (with_place (if b then log_outdated t k else t) k (Some p)) k
by_replaced true t k p q d = placed_apart (log_outdated t k) k (Some p) q d
by_replaced false t k p q d = placed_apart t k (Some p) q d

pub home_apart : (t : Mapping PageOfKind) (x : SeenPage) → KeepsOthers t (come_home t x) x.pid
home_apart t x = by_replaced x.replaced t x.pid x.page

-- pages that were undone and put back are the original ones
pub put_held : (tree now : TreeInMemory) (held : TermHeld) (job : TermJob) → term_held_of job ≡ held → now ≡ record tree { table = with_place tree.table job.pid (Some job.page) } → now ≡ record tree { table = with_place tree.table held.pid (Some held.page) }
put_held tree now held job e n = n ∙ ap (λ (h : TermHeld). record tree { table = with_place tree.table h.pid (Some h.page) }) e

-- ---- groups are replaced

abbrev pub AreAllAtHome : Mapping PageOfKind → List ℕ → Type 0
AreAllAtHome t pids = AllByRecursion (λ pid. IsSome (page_of t pid)) pids × Distinct pids

abbrev pub tree_freed : TreeInMemory → List ℕ → TreeInMemory
tree_freed tree pids = record tree { table = members_freed tree.table pids }

abbrev pub tree_under : TreeInMemory → List ℕ → List PageOfKind → TreeInMemory
tree_under tree pids pages = record tree { table = put_under tree.table pids pages }

abbrev pub tree_installed : TreeInMemory → List Remade → TreeInMemory
tree_installed tree rs = record tree { table = all_installed tree.table rs }

-- the table without a page and its place
abbrev pub gone_from : Mapping PageOfKind → ℕ → Mapping PageOfKind
gone_from t k = freed (with_place t k None) k

pub gone_apart : (t : Mapping PageOfKind) (k : ℕ) → KeepsOthers t (gone_from t k) k
gone_apart t k q d = freed_apart (with_place t k None) k q d ∙ placed_apart t k None q d

pub gone_tree : (tree mid now : TreeInMemory) (k : ℕ) → mid ≡ record tree { table = with_place tree.table k None } → now ≡ record mid { table = freed mid.table k } → now ≡ record tree { table = gone_from tree.table k }
gone_tree tree mid now k m n = n ∙ ap (λ (t : TreeInMemory). record t { table = freed t.table k }) m

pub home_next : (tree now : TreeInMemory) (k : ℕ) (ks all : List ℕ) → all ≡ k ∷ ks → now ≡ record tree { table = gone_from tree.table k } → AreAllAtHome tree.table all → AreAllAtHome now.table ks
home_next tree now k ks all e n h =
    let a : AreAllAtHome tree.table (k ∷ ks) = subst (λ (ns : List ℕ). AreAllAtHome tree.table ns) e h in
    let t : Mapping PageOfKind = gone_from tree.table k in
    let rest : AreAllAtHome t ks = (all_kept (λ o. IsSome (at_home o)) tree.table t k (gone_apart tree.table k) ks a.1.0 a.0.1, a.1.1) in
    subst (λ (x : TreeInMemory). AreAllAtHome x.table ks) (sym n) rest

-- of pages that are checked out one after the other, what the others are
pub under_apart : (t u : Mapping PageOfKind) (k : ℕ) (ks : List ℕ) → KeepsOthers t u k → AllByRecursion (λ q. q ≢ k) ks → pages_under u ks ≡ pages_under t ks
under_apart t u k [] keeps d = refl
under_apart t u k (q ∷ qs) keeps d =
    ap (λ (o : Option (Option PageOfKind)). page_or_none (at_home o) ∷ pages_under u qs) (keeps q d.0) ∙ ap (λ (ps : List PageOfKind). page_or_none (page_of t q) ∷ ps) (under_apart t u k qs keeps d.1)

pub pages_step : (tree now : TreeInMemory) (k : ℕ) (ks all : List ℕ) (done pushed pages : List PageOfKind) (p : PageOfKind) → all ≡ k ∷ ks → now ≡ record tree { table = gone_from tree.table k } → AreAllAtHome tree.table all → pushed ≡ done ++ p ∷ [] → page_of tree.table k ≡ Some p
    → done ++ pages_under tree.table all ≡ pages → pushed ++ pages_under now.table ks ≡ pages
pages_step tree now k ks all done pushed pages p e n home q here h =
    let apart = (subst (λ (ns : List ℕ). AreAllAtHome tree.table ns) e home).1.0 in
    let rest : pages_under now.table ks ≡ pages_under tree.table ks = ap (λ (x : TreeInMemory). pages_under x.table ks) n ∙ under_apart tree.table (gone_from tree.table k) k ks (gone_apart tree.table k) apart in
    ap (λ (ps : List PageOfKind). ps ++ pages_under now.table ks) q
    ∙ append_assoc done (p ∷ []) (pages_under now.table ks)
    ∙ ap (λ (ps : List PageOfKind). done ++ p ∷ ps) rest
    ∙ ap (λ (o : Option PageOfKind). done ++ page_or_none o ∷ pages_under tree.table ks) (sym here)
    ∙ ap (λ (ns : List ℕ). done ++ pages_under tree.table ns) (sym e)
    ∙ h

pub freed_step : (tree now done : TreeInMemory) (k : ℕ) (ks all : List ℕ) → all ≡ k ∷ ks → now ≡ record tree { table = gone_from tree.table k } → tree_freed tree all ≡ done → tree_freed now ks ≡ done
freed_step tree now done k ks all r n h =
    ap (λ (x : TreeInMemory). tree_freed x ks) n ∙ ap (λ (x : List ℕ). tree_freed tree x) (sym r) ∙ h

pub under_step : (tree now done : TreeInMemory) (k : ℕ) (ks all : List ℕ) (p : PageOfKind) (ps pages : List PageOfKind) → all ≡ k ∷ ks → pages ≡ p ∷ ps → now ≡ record tree { table = with_place tree.table k (Some p) }
    → tree_under tree all pages ≡ done → tree_under now ks ps ≡ done
under_step tree now done k ks all p ps pages r s n h =
    ap (λ (x : TreeInMemory). tree_under x ks ps) n ∙ ap (λ (x : List ℕ). tree_under tree x (p ∷ ps)) (sym r) ∙ ap (λ (x : List PageOfKind). tree_under tree all x) (sym s) ∙ h

pub under_nothing : (tree : TreeInMemory) (pids : List ℕ) → tree_under tree pids [] ≡ tree
under_nothing tree [] = refl
under_nothing tree (k ∷ ks) = refl

pub install_step : (tree now done : TreeInMemory) (r : Remade) (rs all : List Remade) → all ≡ r ∷ rs → now ≡ record tree { table = group_installed tree.table r } → tree_installed tree all ≡ done → tree_installed now rs ≡ done
install_step tree now done r rs all e n h =
    ap (λ (x : TreeInMemory). tree_installed x rs) n ∙ ap (λ (x : List Remade). tree_installed tree x) (sym e) ∙ h

pub can_next : (tree now : TreeInMemory) (r : Remade) (rs all : List Remade) → all ≡ r ∷ rs → now ≡ record tree { table = group_installed tree.table r } → CanInstallAll tree.table all → CanInstallAll now.table rs
can_next tree now r rs all e n h =
    subst (λ (x : TreeInMemory). CanInstallAll x.table rs) (sym n) ((subst (λ (x : List Remade). CanInstallAll tree.table x) e h).1)

-- the rest of a list from a place on is the number at that place, followed by the rest from the next place on
pub front : (xs : List ℕ) (i : ℕ) → i < length xs → drop i xs ≡ slice_index_or xs i 0 ∷ drop (i + 1) xs
front xs i h = let next : suc i ≡ i + 1 = omega arith in drop-cons xs i 0 h ∙ ap (λ (n : ℕ). slice_index_or xs i 0 ∷ drop n xs) next

take_all : (xs : List ℕ) → take (length xs) xs ≡ xs
take_all [] = refl
take_all (x ∷ xs) = ap (λ (ys : List ℕ). x ∷ ys) (take_all xs)

pub rest_is : (ms : List ℕ) (k : ℕ) (ks : List ℕ) → ms ≡ k ∷ ks → take (length ms - 1) (drop 1 ms) ≡ ks
rest_is ms k ks e =
    let one : length (k ∷ ks) - 1 ≡ length ks = omega arith in
    ap (λ (x : List ℕ). take (length x - 1) (drop 1 x)) e ∙ ap (λ (n : ℕ). take n ks) one ∙ take_all ks

first_of : (ms : List ℕ) (k : ℕ) → Some k ≡ slice_get ms 0 → ms ≡ k ∷ drop 1 ms
first_of [] k e = absurd (cc)
first_of (m ∷ ms) k e = let same : m ≡ k = cc in ap (λ (x : ℕ). x ∷ ms) same

pub first_member : (ms all : List ℕ) (k : ℕ) → ms ≡ all → Some k ≡ slice_get ms 0 → all ≡ k ∷ drop 1 all
first_member ms all k e h = first_of all k (h ∙ ap (λ (x : List ℕ). slice_get x 0) e)

-- the same of the item that a loop is at
pub front_item : (xs : List ℕ) (i x : ℕ) → i < length xs → x ≡ get_or xs i x → drop i xs ≡ x ∷ drop (i + 1) xs
front_item xs i x h e = drop_more xs i x h ∙ ap (λ (y : ℕ). y ∷ drop (i + 1) xs) (sym e)

-- a page that is checked out or in the table, and isn't among freed members, stays so
members_kept : (R : Option (Option PageOfKind) → Type 0) (t : Mapping PageOfKind) (ks qs : List ℕ) → Distinct (ks ++ qs) → AllByRecursion (λ q. R (place_of t q)) qs → AllByRecursion (λ q. R (place_of (members_freed t ks) q)) qs
members_kept R t [] qs d a = a
members_kept R t (k ∷ ks) qs d a =
    members_kept R (gone_from t k) ks qs d.1 (all_kept R t (gone_from t k) k (gone_apart t k) qs (all_apart (λ m. m ≢ k) ks qs d.0).1 a)

pub distinct_first : (ms ns : List ℕ) → Distinct (ms ++ ns) → Distinct ms
distinct_first [] ns d = tt
distinct_first (m ∷ ms) ns d = ((all_apart (λ k. k ≢ m) ms ns d.0).0, distinct_first ms ns d.1)

pub distinct_last : (ms ns : List ℕ) → Distinct (ms ++ ns) → Distinct ns
distinct_last [] ns d = d
distinct_last (m ∷ ms) ns d = distinct_last ms ns d.1

abbrev pub replaced_by : Mapping PageOfKind → ℕ → PageOfKind → Mapping PageOfKind
replaced_by t k p = with_place (log_outdated t k) k (Some p)

module _ (tree : TreeInMemory) (r : Remade) (k : ℕ) (ks : List ℕ) (p : PageOfKind) (can : CanInstall tree.table r) (ms : r.members ≡ k ∷ ks) (replaced : TreeInMemory) (is : replaced ≡ record tree { table = replaced_by tree.table k p }) where
  abbrev distinct : Distinct (k ∷ ks ++ r.fresh)
  distinct = subst (λ (ns : List ℕ). Distinct (ns ++ r.fresh)) ms can.distinct

  pub fresh_away : (less : TreeInMemory) (xs fresh : List ℕ) → xs ≡ ks → fresh ≡ r.fresh → less ≡ tree_freed replaced xs → AreAway less.table fresh
  fresh_away less xs fresh e f l =
      let t : Mapping PageOfKind = replaced_by tree.table k p in
      let here : AllByRecursion (λ pid. place_of t pid ≡ Some None) r.fresh = all_kept (λ o. o ≡ Some None) tree.table t k (placed_apart (log_outdated tree.table k) k (Some p)) r.fresh (all_apart (λ m. m ≢ k) ks r.fresh distinct.0).1 can.fresh in
      let rest : AreAway (members_freed t ks) r.fresh = (members_kept (λ o. o ≡ Some None) t ks r.fresh distinct.1 here, distinct_last ks r.fresh distinct.1) in
      let same : less ≡ record tree { table = members_freed t ks } = l ∙ ap (λ (x : TreeInMemory). tree_freed x xs) is ∙ ap (λ (x : List ℕ). tree_freed (record tree { table = t }) x) e in
      subst (λ (x : TreeInMemory). AreAway x.table fresh) (sym same) (subst (λ (x : List ℕ). AreAway (members_freed t ks) x) (sym f) rest)

  pub group_done : (less now : TreeInMemory) (xs fresh : List ℕ) (pages : List PageOfKind) → xs ≡ ks → fresh ≡ r.fresh → r.pieces ≡ p ∷ pages → less ≡ tree_freed replaced xs → now ≡ tree_under less fresh pages
      → now ≡ record tree { table = group_installed tree.table r }
  group_done less now xs fresh pages e f q l n =
      let t : Mapping PageOfKind = replaced_by tree.table k p in
      let same : less ≡ record tree { table = members_freed t ks } = l ∙ ap (λ (x : TreeInMemory). tree_freed x xs) is ∙ ap (λ (x : List ℕ). tree_freed (record tree { table = t }) x) e in
      let whole : List ℕ → List PageOfKind → TreeInMemory = λ ns qs. record tree { table = put_under (members_freed (first_replaced tree.table ns qs) (drop 1 ns)) r.fresh (drop 1 qs) } in
      n ∙ ap (λ (x : TreeInMemory). tree_under x fresh pages) same ∙ ap (λ (x : List ℕ). tree_under (record tree { table = members_freed t ks }) x pages) f
      ∙ ap (λ (x : List PageOfKind). whole (k ∷ ks) x) (sym q) ∙ ap (λ (x : List ℕ). whole x r.pieces) (sym ms)

-- of two pages put into a place, the last one is there
put_again_by : {V : Type 0} → (o : Ordering) (k : ℕ) (v w : V) (e : ℕ × V) (es rest again : List (ℕ × V)) → nat_cmp k e.0 ≡ o → insert_entry nat_cmp rest k w ≡ again
    → insert_entry nat_cmp (match_ordering o ((k, v) ∷ e ∷ es) ((e.0, v) ∷ es) (e ∷ rest)) k w ≡ match_ordering o ((k, w) ∷ e ∷ es) ((e.0, w) ∷ es) (e ∷ again)
put_again_by Less k v w e es rest again o h = rw (tied_itself total k) refl
put_again_by Equal k v w e es rest again o h = rw o refl
put_again_by Greater k v w e es rest again o h = rw o (ap (λ (x : List (ℕ × _)). e ∷ x) h)

pub put_again : {V : Type 0} → (es : List (ℕ × V)) (k : ℕ) (v w : V) → insert_entry nat_cmp (insert_entry nat_cmp es k v) k w ≡ insert_entry nat_cmp es k w
put_again [] k v w = rw (tied_itself total k) refl
put_again (e ∷ es) k v w = put_again_by (nat_cmp k e.0) k v w e es (insert_entry nat_cmp es k v) (insert_entry nat_cmp es k w) refl (put_again es k v w)

pub taken_here : (tree taken : TreeInMemory) (k : ℕ) → taken ≡ record tree { table = with_place tree.table k None } → place_of taken.table k ≡ Some None
taken_here tree taken k a = ap (λ (t : TreeInMemory). place_of t.table k) a ∙ place_here tree.table k None

pub under_none : (tree done : TreeInMemory) (pids : List ℕ) (pages : List PageOfKind) → pages ≡ [] → tree_under tree pids pages ≡ done → tree ≡ done
under_none tree done pids pages e h = sym (under_nothing tree pids) ∙ ap (λ (x : List PageOfKind). tree_under tree pids x) (sym e) ∙ h

pub can_first : (tree : TreeInMemory) (r : Remade) (rs all : List Remade) → all ≡ r ∷ rs → CanInstallAll tree.table all → CanInstall tree.table r
can_first tree r rs all e h = (subst (λ (x : List Remade). CanInstallAll tree.table x) e h).0

-- ---- parents are taken

abbrev pub tree_taken : TreeInMemory → List ℕ → TreeInMemory
tree_taken tree pids = record tree { table = all_taken tree.table pids }

pub taken_step : (tree now done : TreeInMemory) (k : ℕ) (ks all : List ℕ) → all ≡ k ∷ ks → now ≡ record tree { table = with_place tree.table k None } → tree_taken tree all ≡ done → tree_taken now ks ≡ done
taken_step tree now done k ks all r n h =
    ap (λ (x : TreeInMemory). tree_taken x ks) n ∙ ap (λ (x : List ℕ). tree_taken tree x) (sym r) ∙ h

pub parents_next : (tree now : TreeInMemory) (k : ℕ) (ks all : List ℕ) → all ≡ k ∷ ks → now ≡ record tree { table = with_place tree.table k None } → AreParentsHome tree.table all → AreParentsHome now.table ks
parents_next tree now k ks all e n h =
    let a : AreParentsHome tree.table (k ∷ ks) = subst (λ (ns : List ℕ). AreParentsHome tree.table ns) e h in
    let t : Mapping PageOfKind = with_place tree.table k None in
    let rest : AreParentsHome t ks = (all_kept (λ o. IsIndexAt (at_home o)) tree.table t k (placed_apart tree.table k None) ks a.1.0 a.0.1, a.1.1) in
    subst (λ (x : TreeInMemory). AreParentsHome x.table ks) (sym n) rest

abbrev pub ParentRuns : Type 0
ParentRuns = ℕ × List (List ℕ × Option ℕ)

held_apart : (t u : Mapping PageOfKind) (k : ℕ) (xs : List ParentRuns) → KeepsOthers t u k → AllByRecursion (λ q. q ≢ k) (map (λ x. x.0) xs) → map (parent_held u) xs ≡ map (parent_held t) xs
held_apart t u k [] keeps d = refl
held_apart t u k (x ∷ xs) keeps d =
    ap (λ (o : Option (Option PageOfKind)). record { page = page_or_none (at_home o); pid = x.0; terms = x.1 } ∷ map (parent_held u) xs) (keeps x.0 d.0)
    ∙ ap (λ (hs : List TermHeld). parent_held t x ∷ hs) (held_apart t u k xs keeps d.1)

held_push : (done : List TermJob) (job : TermJob) (hs : List TermHeld) → map term_held_of (done ++ job ∷ []) ++ hs ≡ map term_held_of done ++ term_held_of job ∷ hs
held_push [] job hs = refl
held_push (d ∷ ds) job hs = ap (λ (x : List TermHeld). term_held_of d ∷ x) (held_push ds job hs)

pub held_step : (tree now : TreeInMemory) (done pushed : List TermJob) (job : TermJob) (x : ParentRuns) (xs all : List ParentRuns) (hs : List TermHeld) → all ≡ x ∷ xs → now ≡ record tree { table = with_place tree.table x.0 None } → AreParentsHome tree.table (map (λ t. t.0) all)
    → pushed ≡ done ++ job ∷ [] → job.pid ≡ x.0 → job.terms ≡ x.1 → page_of tree.table x.0 ≡ Some job.page → map term_held_of done ++ map (parent_held tree.table) all ≡ hs → map term_held_of pushed ++ map (parent_held now.table) xs ≡ hs
held_step tree now done pushed job x xs all hs e n home p a b c h =
    let t : Mapping PageOfKind = with_place tree.table x.0 None in
    let apart = (subst (λ (ys : List ParentRuns). AreParentsHome tree.table (map (λ t. t.0) ys)) e home).1.0 in
    let rest : map (parent_held now.table) xs ≡ map (parent_held tree.table) xs = ap (λ (y : TreeInMemory). map (parent_held y.table) xs) n ∙ held_apart tree.table t x.0 xs (placed_apart tree.table x.0 None) apart in
    let make : PageOfKind → ℕ → List (List ℕ × Option ℕ) → TermHeld = λ q k r. record { page = q; pid = k; terms = r } in
    let first : term_held_of job ≡ parent_held tree.table x = ap (λ (k : ℕ). make job.page k job.terms) a ∙ ap (λ (r : List (List ℕ × Option ℕ)). make job.page x.0 r) b ∙ ap (λ (o : Option PageOfKind). make (page_or_none o) x.0 x.1) (sym c) in
    ap (λ (ys : List TermJob). map term_held_of ys ++ map (parent_held now.table) xs) p
    ∙ held_push done job (map (parent_held now.table) xs)
    ∙ ap (λ (ys : List TermHeld). map term_held_of done ++ term_held_of job ∷ ys) rest
    ∙ ap (λ (y : TermHeld). map term_held_of done ++ y ∷ map (parent_held tree.table) xs) first
    ∙ ap (λ (ys : List ParentRuns). map term_held_of done ++ map (parent_held tree.table) ys) (sym e)
    ∙ h
