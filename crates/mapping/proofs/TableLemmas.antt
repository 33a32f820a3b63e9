-- Lemmas on tables of pages, for the proofs of this crate and of those above it.
use Rattle.std.specs.Prelude.{◌≡◌, ◌≢◌, ℕ, ◌<◌, Bool, true, false, cond, List, [], ◌∷◌, ◌++◌, flat_map, Option, Some}
use Rattle.std.proofs.Common.{refl, sym, ap, ◌∙◌, subst, Ordering, Less, Equal, Greater}
use Rattle.std.specs.Ordering.{nat_cmp, is_eq, match_ordering}
use Rattle.std.specs.Cmp.{IsTotalOrder}
use Rattle.std.specs.List.{AllByRecursion}
use Rattle.std.specs.Map.{keys_of}
use Rattle.std.specs.BTreeMap.{insert_entry}
use Rattle.std.proofs.lemmas.Cmp.{nat_cmp_total, alike_right, tied_itself, ranked}
use Rattle.std.proofs.lemmas.List.{map-append}
use Rattle.keys.proofs.Basics.{equal_by}
use Rattle.index_page.specs.Page.{PageOfKind}
use Rattle.index_page.specs.Page.PageOfKind.{Leaf, Index}
use Rattle.index_page.proofs.ListLemmas.{all-append, all_apart}
use Rattle.mapping.specs.Tree.{listed_at, page_at}
use Rattle.mapping.specs.Levels.{Placed, Levels, pids, all_pids, listed_leaves, listed_index_pages, all_pages, by_pid}
use Rattle.mapping.specs.FreshPids.{is_among}
use Rattle.mapping.specs.Proper.{Distinct, AreRisingPids, HasLeaves, HasIndexPages, HoldsLevels}
use Rattle.mapping.proofs.PidLemmas.{all_among, below_later}

pub total : IsTotalOrder nat_cmp
total = nat_cmp_total

-- ---- pids that compare alike are the same

pub same_pid : (m n : ℕ) → nat_cmp m n ≡ Equal → m ≡ n
same_pid m n e = ranked m n Equal (sym e)

differ_by : (b : Bool) (m n : ℕ) → is_eq (nat_cmp m n) ≡ b → m ≢ n → b ≡ false
differ_by true m n e h = absurd (h (same_pid m n (equal_by (nat_cmp m n) e)))
differ_by false m n e h = refl

pub differ : (m n : ℕ) → m ≢ n → is_eq (nat_cmp m n) ≡ false
differ m n h = differ_by (is_eq (nat_cmp m n)) m n refl h

-- ---- a list by pid with one more entry

not_both : (q k e : ℕ) → nat_cmp k e ≡ Greater → is_eq (nat_cmp q k) ≡ true → is_eq (nat_cmp q e) ≡ true → ⊥
not_both q k e g a b =
    let x : nat_cmp q k ≡ Equal = equal_by (nat_cmp q k) a in
    let y : nat_cmp q e ≡ Equal = equal_by (nat_cmp q e) b in
    let z : Equal ≡ Greater = sym y ∙ total.congr q k e x ∙ g in
    absurd (cc)

module _ {V : Type 0} where
  replace_by : (b : Bool) (v w : V) (r : Option V) → cond b (Some v) r ≡ cond b (Some v) (cond b (Some w) r)
  replace_by true v w r = refl
  replace_by false v w r = refl

  apart_by : (b c : Bool) (v w : V) (r : Option V) → (b ≡ true → c ≡ true → ⊥) → cond c (Some w) (cond b (Some v) r) ≡ cond b (Some v) (cond c (Some w) r)
  apart_by true true v w r h = absurd (h refl refl)
  apart_by true false v w r h = refl
  apart_by false c v w r h = refl

  insert_by : (o : Ordering) (e : ℕ × V) (es rest : List (ℕ × V)) (k : ℕ) (v : V) (q : ℕ) → nat_cmp k e.0 ≡ o → listed_at rest q ≡ cond (is_eq (nat_cmp q k)) (Some v) (listed_at es q) → listed_at (match_ordering o ((k, v) ∷ e ∷ es) ((e.0, v) ∷ es) (e ∷ rest)) q ≡ cond (is_eq (nat_cmp q k)) (Some v) (listed_at (e ∷ es) q)
  insert_by Less e es rest k v q h ih = refl
  insert_by Equal e es rest k v q h ih = rw (alike_right total k e.0 q h) (replace_by (is_eq (nat_cmp q e.0)) v e.1 (listed_at es q))
  insert_by Greater e es rest k v q h ih =
      ap (λ (x : Option V). cond (is_eq (nat_cmp q e.0)) (Some e.1) x) ih
      ∙ apart_by (is_eq (nat_cmp q k)) (is_eq (nat_cmp q e.0)) v e.1 (listed_at es q) (λ a b. not_both q k e.0 h a b)

  -- the entries after something is put under a pid
  pub listed-insert_entry : (es : List (ℕ × V)) (k : ℕ) (v : V) (q : ℕ) → listed_at (insert_entry nat_cmp es k v) q ≡ cond (is_eq (nat_cmp q k)) (Some v) (listed_at es q)
  listed-insert_entry [] k v q = refl
  listed-insert_entry (e ∷ es) k v q = insert_by (nat_cmp k e.0) e es (insert_entry nat_cmp es k v) k v q refl (listed-insert_entry es k v q)

-- ---- a table that is made of pages

pub page_at-by_pid : (ps : List (ℕ × PageOfKind)) (q : ℕ) → page_at (by_pid ps) q ≡ page_at ps q
page_at-by_pid [] q = refl
page_at-by_pid (p ∷ ps) q = listed-insert_entry (by_pid ps) p.0 p.1 q ∙ ap (λ (r : Option PageOfKind). cond (is_eq (nat_cmp q p.0)) (Some p.1) r) (page_at-by_pid ps q)

-- the table has each of these pages
abbrev Has : List (ℕ × PageOfKind) → List (ℕ × PageOfKind) → Type 0
Has table ps = AllByRecursion (λ p. page_at table p.0 ≡ Some p.1) ps

later_has : (table : List (ℕ × PageOfKind)) (p : ℕ × PageOfKind) (ps : List (ℕ × PageOfKind)) → AllByRecursion (λ n. n ≢ p.0) (keys_of ps) → Has table ps → Has (p ∷ table) ps
later_has table p [] d h = tt
later_has table p (q ∷ qs) d h = (rw (differ q.0 p.0 d.0) h.0, later_has table p qs d.1 h.1)

has_each : (ps : List (ℕ × PageOfKind)) → Distinct (keys_of ps) → Has ps ps
has_each [] d = tt
has_each (p ∷ ps) d = (rw (tied_itself total p.0) refl, later_has ps p ps d.0 (has_each ps d.1))

has-by_pid : (all ps : List (ℕ × PageOfKind)) → Has all ps → Has (by_pid all) ps
has-by_pid all [] h = tt
has-by_pid all (p ∷ ps) h = (page_at-by_pid all p.0 ∙ h.0, has-by_pid all ps h.1)

-- ---- its pids

module _ (P : ℕ → Type 0) where
  insert_keys_by : (o : Ordering) (e : ℕ × PageOfKind) (es rest : List (ℕ × PageOfKind)) (k : ℕ) (v : PageOfKind) → P k → P e.0 → AllByRecursion P (keys_of es) → AllByRecursion P (keys_of rest) → AllByRecursion P (keys_of (match_ordering o ((k, v) ∷ e ∷ es) ((e.0, v) ∷ es) (e ∷ rest)))
  insert_keys_by Less e es rest k v p h a b = (p, (h, a))
  insert_keys_by Equal e es rest k v p h a b = (h, a)
  insert_keys_by Greater e es rest k v p h a b = (h, b)

  all_keys-insert_entry : (es : List (ℕ × PageOfKind)) (k : ℕ) (v : PageOfKind) → P k → AllByRecursion P (keys_of es) → AllByRecursion P (keys_of (insert_entry nat_cmp es k v))
  all_keys-insert_entry [] k v p a = (p, tt)
  all_keys-insert_entry (e ∷ es) k v p a = insert_keys_by (nat_cmp k e.0) e es (insert_entry nat_cmp es k v) k v p a.0 a.1 (all_keys-insert_entry es k v p a.1)

  all_keys-by_pid : (ps : List (ℕ × PageOfKind)) → AllByRecursion P (keys_of ps) → AllByRecursion P (keys_of (by_pid ps))
  all_keys-by_pid [] a = tt
  all_keys-by_pid (p ∷ ps) a = all_keys-insert_entry (by_pid ps) p.0 p.1 a.0 (all_keys-by_pid ps a.1)

  there_by : (b : Bool) (q : ℕ) (e : ℕ × PageOfKind) (rest : Option PageOfKind) (v : PageOfKind) → is_eq (nat_cmp q e.0) ≡ b → P e.0 → (rest ≡ Some v → P q) → cond b (Some e.1) rest ≡ Some v → P q
  there_by true q e rest v s p ih h = subst P (sym (same_pid q e.0 (equal_by (nat_cmp q e.0) s))) p
  there_by false q e rest v s p ih h = ih h

  -- what holds of all pids of a table holds of a pid under which it has a page
  pub holds_where_found : (ps : List (ℕ × PageOfKind)) (q : ℕ) (v : PageOfKind) → AllByRecursion P (keys_of ps) → page_at ps q ≡ Some v → P q
  holds_where_found [] q v a h = absurd (cc)
  holds_where_found (e ∷ es) q v a h = there_by (is_eq (nat_cmp q e.0)) q e (page_at es q) v refl a.0 (λ r. holds_where_found es q v a.1 r) h

rising_insert_by : (o : Ordering) (e : ℕ × PageOfKind) (es : List (ℕ × PageOfKind)) (k : ℕ) (v : PageOfKind) → nat_cmp k e.0 ≡ o → AreRisingPids (keys_of (e ∷ es)) → AreRisingPids (keys_of (insert_entry nat_cmp es k v)) → AreRisingPids (keys_of (match_ordering o ((k, v) ∷ e ∷ es) ((e.0, v) ∷ es) (e ∷ insert_entry nat_cmp es k v)))
rising_insert_by Less e es k v h r ih = let l : k < e.0 = ranked k e.0 Less (sym h) in ((l, below_later k e.0 (keys_of es) l r.0), r)
rising_insert_by Equal e es k v h r ih = r
rising_insert_by Greater e es k v h r ih = let l : e.0 < k = ranked k e.0 Greater (sym h) in (all_keys-insert_entry (λ n. e.0 < n) es k v l r.0, ih)

pub rising-insert_entry : (es : List (ℕ × PageOfKind)) (k : ℕ) (v : PageOfKind) → AreRisingPids (keys_of es) → AreRisingPids (keys_of (insert_entry nat_cmp es k v))
rising-insert_entry [] k v r = (tt, tt)
rising-insert_entry (e ∷ es) k v r = rising_insert_by (nat_cmp k e.0) e es k v refl r (rising-insert_entry es k v r.1)

pub rising-by_pid : (ps : List (ℕ × PageOfKind)) → AreRisingPids (keys_of (by_pid ps))
rising-by_pid [] = tt
rising-by_pid (p ∷ ps) = rising-insert_entry (by_pid ps) p.0 p.1 (rising-by_pid ps)

-- ---- the table of some levels

leaves_in : (t : List (ℕ × PageOfKind)) (ps : List (Placed (List ℕ))) → Has t (listed_leaves ps) → HasLeaves t ps
leaves_in t [] h = tt
leaves_in t (p ∷ ps) h = (h.0, leaves_in t ps h.1)

index_pages_in : (t : List (ℕ × PageOfKind)) (ps : List (Placed ℕ)) → Has t (listed_index_pages ps) → HasIndexPages t ps
index_pages_in t [] h = tt
index_pages_in t (p ∷ ps) h = (h.0, index_pages_in t ps h.1)

levels_in : (t : List (ℕ × PageOfKind)) (ls : List (List (Placed ℕ))) → Has t (flat_map listed_index_pages ls) → AllByRecursion (HasIndexPages t) ls
levels_in t [] h = tt
levels_in t (l ∷ ls) h =
    let a = all_apart (λ (e : ℕ × PageOfKind). page_at t e.0 ≡ Some e.1) (listed_index_pages l) (flat_map listed_index_pages ls) h in
    (index_pages_in t l a.0, levels_in t ls a.1)

leaf_keys : (ps : List (Placed (List ℕ))) → keys_of (listed_leaves ps) ≡ pids ps
leaf_keys [] = refl
leaf_keys (p ∷ ps) = ap (λ (ns : List ℕ). p.pid ∷ ns) (leaf_keys ps)

index_keys : (ps : List (Placed ℕ)) → keys_of (listed_index_pages ps) ≡ pids ps
index_keys [] = refl
index_keys (p ∷ ps) = ap (λ (ns : List ℕ). p.pid ∷ ns) (index_keys ps)

keys-append : (ps qs : List (ℕ × PageOfKind)) → keys_of (ps ++ qs) ≡ keys_of ps ++ keys_of qs
keys-append ps qs = map-append (λ e. e.0) ps qs

levels_keys : (ls : List (List (Placed ℕ))) → keys_of (flat_map listed_index_pages ls) ≡ flat_map pids ls
levels_keys [] = refl
levels_keys (l ∷ ls) =
    keys-append (listed_index_pages l) (flat_map listed_index_pages ls)
    ∙ ap (λ (ns : List ℕ). ns ++ keys_of (flat_map listed_index_pages ls)) (index_keys l)
    ∙ ap (λ (ns : List ℕ). pids l ++ ns) (levels_keys ls)

-- the pids of the levels' pages are those of the levels
pub keys_of-all_pages : (l : Levels) → keys_of (all_pages l) ≡ all_pids l.level l.above
keys_of-all_pages l =
    keys-append (listed_leaves l.level) (flat_map listed_index_pages l.above)
    ∙ ap (λ (ns : List ℕ). ns ++ keys_of (flat_map listed_index_pages l.above)) (leaf_keys l.level)
    ∙ ap (λ (ns : List ℕ). pids l.level ++ ns) (levels_keys l.above)

-- the table that is made of levels with distinct pids has their pages, and no other
pub by_pid-holds : (l : Levels) → Distinct (all_pids l.level l.above) → HoldsLevels (by_pid (all_pages l)) l
by_pid-holds l d =
    let table : List (ℕ × PageOfKind) = by_pid (all_pages l) in
    let k : keys_of (all_pages l) ≡ all_pids l.level l.above = keys_of-all_pages l in
    let e : Distinct (keys_of (all_pages l)) = subst (λ (ns : List ℕ). Distinct ns) (sym k) d in
    let h : Has table (all_pages l) = has-by_pid (all_pages l) (all_pages l) (has_each (all_pages l) e) in
    let a = all_apart (λ (p : ℕ × PageOfKind). page_at table p.0 ≡ Some p.1) (listed_leaves l.level) (flat_map listed_index_pages l.above) h in
    let among : AllByRecursion (λ n. is_among n (all_pids l.level l.above) ≡ true) (keys_of (all_pages l)) =
    subst (λ (ns : List ℕ). AllByRecursion (λ n. is_among n (all_pids l.level l.above) ≡ true) ns) (sym k) (all_among (all_pids l.level l.above)) in
    record {
      leaves = leaves_in table l.level a.0;
      above = levels_in table l.above a.1;
      no_other = all_keys-by_pid (λ n. is_among n (all_pids l.level l.above) ≡ true) (all_pages l) among;
    }

-- ---- what holds of all pids of a table holds of those of the levels that it has

module _ (P : ℕ → Type 0) (t : List (ℕ × PageOfKind)) (all : AllByRecursion P (keys_of t)) where
  leaf_pids : (ps : List (Placed (List ℕ))) → HasLeaves t ps → AllByRecursion P (pids ps)
  leaf_pids [] h = tt
  leaf_pids (p ∷ ps) h = (holds_where_found P t p.pid (Leaf p.page) all h.0, leaf_pids ps h.1)

  index_pids : (ps : List (Placed ℕ)) → HasIndexPages t ps → AllByRecursion P (pids ps)
  index_pids [] h = tt
  index_pids (p ∷ ps) h = (holds_where_found P t p.pid (Index p.page) all h.0, index_pids ps h.1)

  upper_pids : (ls : List (List (Placed ℕ))) → AllByRecursion (HasIndexPages t) ls → AllByRecursion P (flat_map pids ls)
  upper_pids [] h = tt
  upper_pids (l ∷ ls) h = all-append P (pids l) (flat_map pids ls) (index_pids l h.0) (upper_pids ls h.1)

  pub all_pids_hold : (l : Levels) → HoldsLevels t l → AllByRecursion P (all_pids l.level l.above)
  all_pids_hold l h = all-append P (pids l.level) (flat_map pids l.above) (leaf_pids l.level h.leaves) (upper_pids l.above h.above)
