-- The tables while an outdated tree is built: the pages under the page ids, and the log states.
use Rattle.std.specs.Prelude.{◌≡◌, ℕ, ◌<◌, Bool, true, false, cond, ◌&&◌, ◌||◌, if◌then◌else◌, nat_eq, List, [], ◌∷◌, ◌++◌, map, Option, Some, None, is_some, IfSome, Result, Ok, Err, IfOk}
use Rattle.std.proofs.Common.{refl, sym, ap, ◌∙◌, subst, eqb-true, eq-eqb}
use Rattle.std.specs.Ordering.{nat_cmp, is_eq}
use Rattle.std.specs.List.{AllByRecursion}
use Rattle.std.specs.Map.{keys_of, lookup}
use Rattle.keys.proofs.Basics.{equal_by}
use Rattle.index_page.specs.Page.{PageOfKind}
use Rattle.mapping.specs.Flushed.{depth_counted, marked_as_written}
use Rattle.mapping.specs.FreshPids.{is_among}
use Rattle.mapping.specs.Outdate.{outdate, outdate_all}
use Rattle.mapping.specs.Proper.{AreLogsTrue, AreRisingPids, IsTrueOf}
use Rattle.mapping.specs.Slots.{entry_if}
use Rattle.mapping.specs.Table.{Mapping, at_home, freed, is_old, is_same_pid, log_of, page_of, pids_in_use, pids_in_use_or_old, place_of, room_by, with_place, with_room}
use Rattle.mapping.specs.Tree.{Logged, Tree, first_tree, listed_at, or_no, page_at}
use Rattle.mapping.specs.Tree.Logged.{No, Old, Upto}
use Rattle.mapping.specs.TreeInMemory.{AreAllHome, TreeInMemory, home_pages, tree_of}
use Rattle.mapping.proofs.DrawnPlaces.{among_last, listed-remove_entry}
use Rattle.mapping.proofs.HomePages.{page-home}
use Rattle.mapping.proofs.InUse.{among-lookup, is_eq_same}
use Rattle.mapping.proofs.KnownPids.{among-in_use_or_old, none_above}
use Rattle.mapping.proofs.SameTable.{same_table}
use Rattle.mapping.proofs.TableLemmas.{listed-insert_entry, same_pid}
use Rattle.engine.specs.Compacted.{AreFreed, HasLeavesAt, is_logged, no_pairs, outdated_tree}

-- ---- tests of a page id

same_test_by : (b c : Bool) (m n : ℕ) → nat_eq m n ≡ b → is_eq (nat_cmp m n) ≡ c → b ≡ c
same_test_by true true m n e f = refl
same_test_by true false m n e f = let x = is_eq_same m n (eqb-true m n e) in absurd (cc)
same_test_by false true m n e f = let x = eq-eqb m n (same_pid m n (equal_by (nat_cmp m n) f)) in absurd (cc)
same_test_by false false m n e f = refl

same_test : (m n : ℕ) → nat_eq m n ≡ is_eq (nat_cmp m n)
same_test m n = same_test_by (nat_eq m n) (is_eq (nat_cmp m n)) m n refl refl

same_where : (m n : ℕ) → is_eq (nat_cmp m n) ≡ true → m ≡ n
same_where m n e = same_pid m n (equal_by (nat_cmp m n) e)

none_where_not : {X : Type 0} (o : Option X) → is_some o ≡ false → o ≡ None
none_where_not None h = refl
none_where_not (Some x) h = absurd (cc)

-- ---- page ids that are collected

pushed_by : (n p r f : Bool) → (n ≡ true → f ≡ true) → ((n || p) || (r && f)) ≡ (p || ((n || r) && f))
pushed_by true true r f h = refl
pushed_by true false r f h = sym (h refl)
pushed_by false p r f h = refl

skipped_by : (n p r f : Bool) → (n ≡ true → f ≡ false) → (p || (r && f)) ≡ (p || ((n || r) && f))
skipped_by true p r true h = absurd (let no : true ≡ false = h refl in cc)
skipped_by true p true false h = refl
skipped_by true p false false h = refl
skipped_by false p r f h = refl

or_none : (a : Bool) → (a || false) ≡ a
or_none true = refl
or_none false = refl

module _ (f g : ℕ → Bool) (found rest : List ℕ) where
  -- a logged one is pushed
  pub pids_pushed : (new left : List ℕ) (pid : ℕ) → left ≡ pid ∷ rest → f pid ≡ true → new ≡ found ++ pid ∷ []
      → ((q : ℕ) → (is_among q found || (is_among q left && f q)) ≡ g q) → (q : ℕ) → (is_among q new || (is_among q rest && f q)) ≡ g q
  pids_pushed new left pid l is n h q =
      ap (λ (x : List ℕ). is_among q x || (is_among q rest && f q)) n
      ∙ ap (λ (b : Bool). b || (is_among q rest && f q)) (among_last q pid found)
      ∙ pushed_by (nat_eq q pid) (is_among q found) (is_among q rest) (f q) (λ e. ap f (eqb-true q pid e) ∙ is)
      ∙ ap (λ (x : List ℕ). is_among q found || (is_among q x && f q)) (sym l)
      ∙ h q

  -- any other is skipped
  pub pids_passed : (left : List ℕ) (pid : ℕ) → left ≡ pid ∷ rest → f pid ≡ false
      → ((q : ℕ) → (is_among q found || (is_among q left && f q)) ≡ g q) → (q : ℕ) → (is_among q found || (is_among q rest && f q)) ≡ g q
  pids_passed left pid l is h q =
      skipped_by (nat_eq q pid) (is_among q found) (is_among q rest) (f q) (λ e. ap f (eqb-true q pid e) ∙ is)
      ∙ ap (λ (x : List ℕ). is_among q found || (is_among q x && f q)) (sym l)
      ∙ h q

  pub pids_all : (left : List ℕ) → left ≡ [] → ((q : ℕ) → (is_among q found || (is_among q left && f q)) ≡ g q) → (q : ℕ) → is_among q found ≡ g q
  pids_all left l h q = sym (or_none (is_among q found)) ∙ ap (λ (x : List ℕ). is_among q found || (is_among q x && f q)) (sym l) ∙ h q

-- ---- leaves that are put

abbrev Places : Type 0
Places = Mapping PageOfKind

abbrev leaf_if : Bool → Option (Option PageOfKind)
leaf_if b = if b then Some (Some no_pairs) else None

more_among : (q k : ℕ) (ns : List ℕ) → is_among q (ns ++ k ∷ []) ≡ (is_eq (nat_cmp q k) || is_among q ns)
more_among q k ns = among_last q k ns ∙ ap (λ (b : Bool). b || is_among q ns) (same_test q k)

room_apart : (o : Option (Option PageOfKind)) (t : Places) (k q : ℕ) → is_eq (nat_cmp q k) ≡ false → place_of (room_by o t k) q ≡ place_of t q
room_apart None t k q e = listed-insert_entry t.places k None q ∙ ap (λ (b : Bool). cond b (Some None) (place_of t q)) e
room_apart (Some p) t k q e = refl

room_made : (o : Option (Option PageOfKind)) (t : Places) (k : ℕ) → o ≡ None → place_of (room_by o t k) k ≡ Some None
room_made None t k e = listed-insert_entry t.places k None k ∙ ap (λ (b : Bool). cond b (Some None) (place_of t k)) (is_eq_same k k refl)
room_made (Some p) t k e = absurd (cc)

room_there : (o : Option (Option PageOfKind)) (p : Option PageOfKind) (t : Places) (k : ℕ) → o ≡ Some p → room_by o t k ≡ t
room_there None p t k e = absurd (cc)
room_there (Some x) p t k e = refl

module _ (pids : List ℕ) (pid : ℕ) (old mid : Places) (room : mid ≡ with_room old pid) (has : HasLeavesAt pids old) where
  put_by : (b : Bool) (q : ℕ) → is_eq (nat_cmp q pid) ≡ b → cond b (Some (Some no_pairs)) (place_of mid q) ≡ leaf_if (b || is_among q pids)
  put_by true q e = refl
  put_by false q e = ap (λ (t : Places). place_of t q) room ∙ room_apart (place_of old pid) old pid q e ∙ has q

  -- one is put if the place was empty
  pub leaf_put : (new : Places) → new ≡ with_place mid pid (Some no_pairs) → HasLeavesAt (pids ++ pid ∷ []) new
  leaf_put new is q =
      ap (λ (t : Places). place_of t q) is
      ∙ listed-insert_entry mid.places pid (Some no_pairs) q
      ∙ put_by (is_eq (nat_cmp q pid)) q refl
      ∙ ap leaf_if (sym (more_among q pid pids))

  same_more : (b : Bool) (q : ℕ) → is_eq (nat_cmp q pid) ≡ b → is_among pid pids ≡ true → (b || is_among q pids) ≡ is_among q pids
  same_more true q e h = sym (ap (λ (n : ℕ). is_among n pids) (same_where q pid e) ∙ h)
  same_more false q e h = refl

  there_by : (b : Bool) → is_among pid pids ≡ b → (place_of mid pid ≡ Some None → ⊥) → HasLeavesAt (pids ++ pid ∷ []) mid
  there_by true e never q =
      let there : place_of old pid ≡ Some (Some no_pairs) = has pid ∙ ap leaf_if e in
      ap (λ (t : Places). place_of t q) (room ∙ room_there (place_of old pid) (Some no_pairs) old pid there)
      ∙ has q
      ∙ ap leaf_if (sym (same_more (is_eq (nat_cmp q pid)) q refl e))
      ∙ ap leaf_if (sym (more_among q pid pids))
  there_by false e never q =
      let none : place_of old pid ≡ None = has pid ∙ ap leaf_if e in
      absurd (never (ap (λ (t : Places). place_of t pid) room ∙ room_made (place_of old pid) old pid none))

  -- or it is already there
  pub leaf_there : (place_of mid pid ≡ Some None → ⊥) → HasLeavesAt (pids ++ pid ∷ []) mid
  leaf_there never = there_by (is_among pid pids) refl never

-- ---- the log, after it has these leaves

abbrev as_logged : Option PageOfKind → Option Logged
as_logged None = None
as_logged (Some p) = Some (Upto (depth_counted p))

logged_by : (b : Bool) (p : PageOfKind) (rest : Option PageOfKind) (later : Option Logged) → later ≡ as_logged rest → cond b (Some (Upto (depth_counted p))) later ≡ as_logged (cond b (Some p) rest)
logged_by true p rest later h = refl
logged_by false p rest later h = h

listed_logged : (ps : List (ℕ × PageOfKind)) (q : ℕ) → listed_at (map (λ e. (e.0, Upto (depth_counted e.1))) ps) q ≡ as_logged (listed_at ps q)
listed_logged [] q = refl
listed_logged (p ∷ ps) q = logged_by (is_eq (nat_cmp q p.0)) p.1 (listed_at ps q) (listed_at (map (λ e. (e.0, Upto (depth_counted e.1))) ps) q) (listed_logged ps q)

home_by : (b : Bool) (o : Option PageOfKind) (m q : ℕ) (es : List (ℕ × Option PageOfKind)) → is_eq (nat_cmp q m) ≡ b → lookup (is_same_pid m) es ≡ None
    → listed_at (home_pages es) q ≡ at_home (lookup (is_same_pid q) es) → listed_at (entry_if m o ++ home_pages es) q ≡ at_home (cond b (Some o) (lookup (is_same_pid q) es))
home_by true None m q es e none h = h ∙ ap (λ (n : ℕ). at_home (lookup (is_same_pid n) es)) (same_where q m e) ∙ ap (λ (o : Option (Option PageOfKind)). at_home o) none
home_by false None m q es e none h = h
home_by true (Some p) m q es e none h = ap (λ (b : Bool). cond b (Some p) (listed_at (home_pages es) q)) e
home_by false (Some p) m q es e none h = ap (λ (b : Bool). cond b (Some p) (listed_at (home_pages es) q)) e ∙ h

no_later : (m : ℕ) (es : List (ℕ × Option PageOfKind)) → AllByRecursion (λ n. m < n) (keys_of es) → lookup (is_same_pid m) es ≡ None
no_later m es a = none_where_not (lookup (is_same_pid m) es) (among-lookup m es ∙ none_above m (keys_of es) a)

home_listed : (es : List (ℕ × Option PageOfKind)) (q : ℕ) → AreRisingPids (keys_of es) → listed_at (home_pages es) q ≡ at_home (lookup (is_same_pid q) es)
home_listed [] q r = refl
home_listed (e ∷ es) q r = home_by (is_eq (nat_cmp q e.0)) e.1 e.0 q es refl (no_later e.0 es r.0) (home_listed es q r.1)

leaf_logged : (b : Bool) → as_logged (at_home (leaf_if b)) ≡ (if b then Some (Upto (depth_counted no_pairs)) else None)
leaf_logged true = refl
leaf_logged false = refl

pub leaves_written : (pids : List ℕ) (t new : Places) → HasLeavesAt pids t → AreRisingPids (pids_in_use t) → new ≡ marked_as_written t → AreFreed pids [] new
leaves_written pids t new has rises is = record {
  place = λ q. ap (λ (x : Places). place_of x q) is ∙ has q;
  logged = λ q.
      ap (λ (x : Places). listed_at x.logged q) is
      ∙ listed_logged (home_pages t.places) q
      ∙ ap as_logged (home_listed t.places q rises)
      ∙ ap (λ (o : Option (Option PageOfKind)). as_logged (at_home o)) (has q)
      ∙ leaf_logged (is_among q pids);
}

-- ---- a leaf that is freed

abbrev pub outdate_if : Bool → Option Logged → Option Logged
outdate_if b None = None
outdate_if b (Some l) = Some (if b then outdate l else l)

outdated_by : (b : Bool) (gone : List ℕ) (q : ℕ) (l : ℕ × Logged) (rest old : Option Logged) → is_eq (nat_cmp q l.0) ≡ b → rest ≡ outdate_if (is_among q gone) old
    → cond b (Some (if is_among l.0 gone then outdate l.1 else l.1)) rest ≡ outdate_if (is_among q gone) (cond b (Some l.1) old)
outdated_by true gone q l rest old e h = ap (λ (n : ℕ). (let o : Option Logged = Some (if is_among n gone then outdate l.1 else l.1) in o)) (sym (same_where q l.0 e))
outdated_by false gone q l rest old e h = h

pub outdated_listed : (gone : List ℕ) (ls : List (ℕ × Logged)) (q : ℕ) → listed_at (outdate_all gone ls) q ≡ outdate_if (is_among q gone) (listed_at ls q)
outdated_listed gone [] q = refl
outdated_listed gone (l ∷ ls) q = outdated_by (is_eq (nat_cmp q l.0)) gone q l (listed_at (outdate_all gone ls) q) (listed_at ls q) refl (outdated_listed gone ls q)

abbrev log_if : Bool → Bool → Option Logged
log_if a g = if a then Some (if g then Old else Upto (depth_counted no_pairs)) else None

abbrev place_if : Bool → Bool → Option (Option PageOfKind)
place_if a g = if g then None else if a then Some (Some no_pairs) else None

freed_log : (b a g : Bool) → outdate_if (b || false) (log_if a g) ≡ log_if a (b || g)
freed_log true true true = refl
freed_log true true false = refl
freed_log true false g = refl
freed_log false true g = refl
freed_log false false g = refl

freed_place : (b a g : Bool) (o : Option (Option PageOfKind)) → o ≡ place_if a g → cond b None (cond b (Some None) o) ≡ place_if a (b || g)
freed_place true a g o h = refl
freed_place false a g o h = h

none_place : (a g : Bool) → at_home (place_if a g) ≡ None → place_if a g ≡ None
none_place a true h = refl
none_place true false h = absurd (cc)
none_place false false h = refl

none_log : (a g : Bool) → at_home (place_if a g) ≡ None → log_if a g ≡ log_if a true
none_log a true h = refl
none_log true false h = absurd (cc)
none_log false false h = refl

module _ (pids gone : List ℕ) (pid : ℕ) (old : Places) (was : AreFreed pids gone old) where
  pub leaf_freed : (mid new : Places) → mid ≡ with_place old pid None → AreRisingPids (pids_in_use mid) → new ≡ freed mid pid → AreFreed pids (gone ++ pid ∷ []) new
  leaf_freed mid new m rises n = record {
    place = λ q.
        ap (λ (x : Places). place_of x q) n
        ∙ listed-remove_entry pid q mid.places rises
        ∙ ap (λ (x : Places). cond (is_eq (nat_cmp q pid)) None (place_of x q)) m
        ∙ ap (λ (o : Option (Option PageOfKind)). cond (is_eq (nat_cmp q pid)) None o) (listed-insert_entry old.places pid None q)
        ∙ freed_place (is_eq (nat_cmp q pid)) (is_among q pids) (is_among q gone) (place_of old q) (was.place q)
        ∙ ap (λ (b : Bool). place_if (is_among q pids) b) (sym (more_among q pid gone));
    logged = λ q.
        ap (λ (x : Places). listed_at x.logged q) n
        ∙ outdated_listed (pid ∷ []) mid.logged q
        ∙ ap (λ (x : Places). outdate_if (is_among q (pid ∷ [])) (listed_at x.logged q)) m
        ∙ ap (λ (o : Option Logged). outdate_if (is_among q (pid ∷ [])) o) (was.logged q)
        ∙ freed_log (nat_eq q pid) (is_among q pids) (is_among q gone)
        ∙ ap (λ (b : Bool). log_if (is_among q pids) b) (sym (among_last q pid gone));
  }

  module _ (none : page_of old pid ≡ None) where
    none_at : (q : ℕ) → is_eq (nat_cmp q pid) ≡ true → at_home (place_if (is_among q pids) (is_among q gone)) ≡ None
    none_at q e = ap (λ (o : Option (Option PageOfKind)). at_home o) (sym (was.place q)) ∙ ap (λ (n : ℕ). page_of old n) (same_where q pid e) ∙ none

    gone_place : (b : Bool) (q : ℕ) → is_eq (nat_cmp q pid) ≡ b → place_of old q ≡ place_if (is_among q pids) (b || is_among q gone)
    gone_place true q e = was.place q ∙ none_place (is_among q pids) (is_among q gone) (none_at q e)
    gone_place false q e = was.place q

    gone_log : (b : Bool) (q : ℕ) → is_eq (nat_cmp q pid) ≡ b → listed_at old.logged q ≡ log_if (is_among q pids) (b || is_among q gone)
    gone_log true q e = was.logged q ∙ none_log (is_among q pids) (is_among q gone) (none_at q e)
    gone_log false q e = was.logged q

    pub leaf_gone : AreFreed pids (gone ++ pid ∷ []) old
    leaf_gone = record {
      place = λ q. gone_place (is_eq (nat_cmp q pid)) q refl ∙ ap (λ (b : Bool). place_if (is_among q pids) b) (sym (more_among q pid gone));
      logged = λ q. gone_log (is_eq (nat_cmp q pid)) q refl ∙ ap (λ (b : Bool). log_if (is_among q pids) b) (sym (more_among q pid gone));
    }

-- the place of the page that was checked out is empty
pub taken_away : (t new : Places) (pid : ℕ) → new ≡ with_place t pid None → place_of new pid ≡ Some None
taken_away t new pid is =
    ap (λ (x : Places). place_of x pid) is
    ∙ listed-insert_entry t.places pid None pid
    ∙ ap (λ (b : Bool). cond b (Some None) (place_of t pid)) (is_eq_same pid pid refl)

-- ---- all of them are freed

nowhere_by : (a : Bool) → place_if a a ≡ None
nowhere_by true = refl
nowhere_by false = refl

old_by : (a : Bool) → log_if a a ≡ (if a then Some Old else None)
old_by true = refl
old_by false = refl

no_entries : (es : List (ℕ × Option PageOfKind)) → ((q : ℕ) → lookup (is_same_pid q) es ≡ None) → es ≡ []
no_entries [] h = refl
no_entries (e ∷ es) h =
    let here : Some e.1 ≡ None = sym (ap (λ (b : Bool). cond b (Some e.1) (lookup (is_same_pid e.0) es)) (is_eq_same e.0 e.0 refl)) ∙ h e.0 in
    absurd (cc)

pub no_places_left : (pids : List ℕ) (t : Places) → AreFreed pids pids t → t.places ≡ []
no_places_left pids t is = no_entries t.places (λ q. is.place q ∙ nowhere_by (is_among q pids))

pub keys-outdated : (gone : List ℕ) (ls : List (ℕ × Logged)) → keys_of (outdate_all gone ls) ≡ keys_of ls
keys-outdated gone [] = refl
keys-outdated gone (l ∷ ls) = ap (λ (ns : List ℕ). l.0 ∷ ns) (keys-outdated gone ls)

-- the log state of a page id is true for its page
some_same : (l m : Logged) → Some l ≡ Some m → l ≡ m
some_same l m e = cc

true_by : (b : Bool) (pages : List (ℕ × PageOfKind)) (q : ℕ) (x : ℕ × Logged) (l : Logged) (rest : Option Logged) → is_eq (nat_cmp q x.0) ≡ b → IsTrueOf (page_at pages x.0) x.1
    → (rest ≡ Some l → IsTrueOf (page_at pages q) l) → cond b (Some x.1) rest ≡ Some l → IsTrueOf (page_at pages q) l
true_by true pages q x l rest e t h is =
    subst (λ (k : Logged). IsTrueOf (page_at pages q) k) (some_same x.1 l is) (subst (λ (n : ℕ). IsTrueOf (page_at pages n) x.1) (sym (same_where q x.0 e)) t)
true_by false pages q x l rest e t h is = h is

true_at : (pages : List (ℕ × PageOfKind)) (ls : List (ℕ × Logged)) (q : ℕ) (l : Logged) → AllByRecursion (λ l. IsTrueOf (page_at pages l.0) l.1) ls → listed_at ls q ≡ Some l → IsTrueOf (page_at pages q) l
true_at pages [] q l a e = absurd (cc)
true_at pages (x ∷ xs) q l a e = true_by (is_eq (nat_cmp q x.0)) pages q x l (listed_at xs q) refl a.0 (λ r. true_at pages xs q l a.1 r) e

as_true : (o : Option Logged) (page : Option PageOfKind) → ((l : Logged) → o ≡ Some l → IsTrueOf page l) → IfSome o (λ l. IsTrueOf page l)
as_true None page h = tt
as_true (Some l) page h = h l refl

-- exactly the page ids that are known and logged have a log state, which is `Old`
outdated_where : (o : Option Logged) (page : Option PageOfKind) (place : Option (Option PageOfKind)) → IfSome o (λ l. IsTrueOf page l) → at_home place ≡ page
    → (if (is_some place || is_old (or_no o)) && is_logged (or_no o) then Some Old else None) ≡ outdate_if (is_some o) o
outdated_where None page None h e = refl
outdated_where None page (Some p) h e = refl
outdated_where (Some No) page place h e = absurd h
outdated_where (Some Old) page None h e = refl
outdated_where (Some Old) page (Some p) h e = refl
outdated_where (Some (Upto k)) None place h e = absurd h
outdated_where (Some (Upto k)) (Some p) None h e = absurd (cc)
outdated_where (Some (Upto k)) (Some p) (Some x) h e = refl

module _ (t : TreeInMemory) (pids : List ℕ) (table : Places) (home : AreAllHome t) (logs : AreLogsTrue (tree_of t))
    (known : (q : ℕ) → is_among q pids ≡ (is_among q (pids_in_use_or_old t.table) && is_logged (log_of t.table q))) (is : AreFreed pids pids table) where
  abbrev outdated_log : List (ℕ × Logged)
  outdated_log = outdate_all (keys_of t.table.logged) t.table.logged

  same_listed : (q : ℕ) → listed_at table.logged q ≡ listed_at outdated_log q
  same_listed q =
      let o : Option Logged = listed_at t.table.logged q in
      let is_true : IfSome o (λ l. IsTrueOf (page_at (home_pages t.table.places) q) l) =
      as_true o (page_at (home_pages t.table.places) q) (λ l e. true_at (home_pages t.table.places) t.table.logged q l logs.each e) in
      is.logged q
      ∙ old_by (is_among q pids)
      ∙ ap (λ (b : Bool). (let x : Option Logged = if b then Some Old else None in x)) (known q)
      ∙ ap (λ (b : Bool). (let x : Option Logged = if b && is_logged (log_of t.table q) then Some Old else None in x)) (among-in_use_or_old t.table q logs.rising)
      ∙ outdated_where o (page_at (home_pages t.table.places) q) (place_of t.table q) is_true (page-home t.table.places q home)
      ∙ ap (λ (b : Bool). outdate_if b o) (among-lookup q t.table.logged)
      ∙ sym (outdated_listed (keys_of t.table.logged) t.table.logged q)

  same_logs : AreRisingPids (keys_of table.logged) → table.logged ≡ outdated_log
  same_logs rises =
      same_table table.logged outdated_log rises (subst (λ (ns : List ℕ). AreRisingPids ns) (sym (keys-outdated (keys_of t.table.logged) t.table.logged)) logs.rising) same_listed

  -- the tree of one empty leaf, with this table's log
  pub outdated-is : (new : TreeInMemory) → AreRisingPids (keys_of table.logged)
      → new ≡ record { table = record { places = (0, Some no_pairs) ∷ []; logged = table.logged }; root = 0; height = 1 }
      → AreAllHome new × (tree_of new ≡ outdated_tree (tree_of t))
  outdated-is new rises e = (
    subst (λ (x : TreeInMemory). AreAllHome x) (sym e) (refl, tt),
    ap (λ (x : TreeInMemory). tree_of x) e
        ∙ ap (λ (ls : List (ℕ × Logged)). (let x : Tree = record { pages = first_tree.pages; root = 0; height = 1; logged = ls } in x)) (same_logs rises),
  )

-- a consequence of the value in an `Ok`
pub ok_then : {X E : Type 0} (P Q : X → Type 0) (r : Result X E) → ((x : X) → P x → Q x) → IfOk r P → IfOk r Q
ok_then P Q (Ok x) f h = f x h
ok_then P Q (Err e) f h = tt
