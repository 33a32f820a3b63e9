-- Which pids are written, after a change of a table, for the proofs of this crate and of those above it.
use Rattle.std.specs.Prelude.{◌≡◌, ◌≢◌, ℕ, ◌<◌, ◌⊎◌, Bool, true, false, cond, ◌||◌, nat_eq, List, [], ◌∷◌, ◌++◌, Option, Some, None, Result, Ok, Err, OnOk, OnErr}
use Rattle.std.proofs.Common.{refl, sym, ap, ◌∙◌, inl, inr}
use mathlib.Core.Bool.{false≢true}
use Rattle.std.specs.List.{AllByRecursion}
use Rattle.std.specs.Ordering.{nat_cmp, is_eq}
use Rattle.std.specs.Map.{keys_of, lookup, remove_entry}
use Rattle.std.proofs.lemmas.Bool.{eqb-true}
use Rattle.keys.proofs.Basics.{equal_by}
use Rattle.index_page.specs.Page.{PageOfKind}
use Rattle.mapping.specs.Tree.{Logged, or_no}
use Rattle.mapping.specs.Tree.Logged.{No, Old, Upto}
use Rattle.mapping.specs.LogState.{log_state}
use Rattle.mapping.specs.Outdate.{outdate, outdate_all}
use Rattle.mapping.specs.FreshPids.{is_among}
use Rattle.mapping.specs.Proper.{AreRisingPids}
use Rattle.mapping.specs.Table.{Mapping, is_same_pid, pids_in_use, place_of, log_of, with_place, log_outdated, freed, room_by, with_room, with_rooms}
use Rattle.mapping.specs.Flushed.{logged_home_pages, marked_as_written}
use Rattle.mapping.specs.Due.{log_then, IsWritten, DuePids, may_be_due, AreNoted}
use Rattle.mapping.specs.declared.logged.Logged as of_code
use Rattle.mapping.specs.declared.logged.Logged.TheVariants.{No as of_code_no, Old as of_code_old, Upto as of_code_upto}
use Rattle.mapping.proofs.PidLemmas.{all_among, among_left, among_right}
use Rattle.mapping.proofs.TableLemmas.{same_pid, differ, listed-insert_entry}
use Rattle.mapping.proofs.Around.{lookup_none}
use Rattle.mapping.proofs.InUse.{is_eq_same}
use Rattle.mapping.proofs.DrawnPlaces.{listed-remove_entry}

-- ---- what of others stays

module _ {V : Type 0} where
  removed_by : (b : Bool) (k q : ℕ) (e : ℕ × V) (es rest : List (ℕ × V)) → is_same_pid k e.0 ≡ b → q ≢ k → lookup (is_same_pid q) rest ≡ lookup (is_same_pid q) es
      → lookup (is_same_pid q) (cond b es (e ∷ rest)) ≡ lookup (is_same_pid q) (e ∷ es)
  removed_by true k q e es rest h d ih =
      let same : k ≡ e.0 = same_pid k e.0 (equal_by (nat_cmp k e.0) h) in
      let apart : is_eq (nat_cmp q e.0) ≡ false = differ q e.0 (λ x. d (x ∙ sym same)) in
      ap (λ (c : Bool). cond c (Some e.1) (lookup (is_same_pid q) es)) (sym apart)
  removed_by false k q e es rest h d ih = ap (λ (o : Option V). cond (is_eq (nat_cmp q e.0)) (Some e.1) o) ih

  lookup_removed : (k q : ℕ) (es : List (ℕ × V)) → q ≢ k → lookup (is_same_pid q) (remove_entry (is_same_pid k) es) ≡ lookup (is_same_pid q) es
  lookup_removed k q [] d = refl
  lookup_removed k q (e ∷ es) d = removed_by (is_same_pid k e.0) k q e es (remove_entry (is_same_pid k) es) refl d (lookup_removed k q es d)

-- if a pid has an entry the test is of that pid, so another one isn't outdated
outdated_by : (b c : Bool) (k q : ℕ) (l : ℕ × Logged) (rest : Option Logged) → is_eq (nat_cmp q l.0) ≡ b → nat_eq l.0 k ≡ c → q ≢ k
    → cond b (Some (cond (c || false) (outdate l.1) l.1)) rest ≡ cond b (Some l.1) rest
outdated_by true true k q l rest e f d = absurd (d (same_pid q l.0 (equal_by (nat_cmp q l.0) e) ∙ eqb-true l.0 k f))
outdated_by true false k q l rest e f d = refl
outdated_by false c k q l rest e f d = refl

lookup_outdated : (k q : ℕ) (ls : List (ℕ × Logged)) → q ≢ k → lookup (is_same_pid q) (outdate_all (k ∷ []) ls) ≡ lookup (is_same_pid q) ls
lookup_outdated k q [] d = refl
lookup_outdated k q (l ∷ ls) d =
    outdated_by (is_eq (nat_cmp q l.0)) (nat_eq l.0 k) k q l (lookup (is_same_pid q) (outdate_all (k ∷ []) ls)) refl refl d
    ∙ ap (λ (o : Option Logged). cond (is_eq (nat_cmp q l.0)) (Some l.1) o) (lookup_outdated k q ls d)

-- a log state `No` does not become outdated
none_outdated_by : (b : Bool) (c : Bool) (l : Logged) (here rest : Option Logged) → or_no (cond b (Some l) here) ≡ No → (or_no here ≡ No → or_no rest ≡ No) → or_no (cond b (Some (cond c (outdate l) l)) rest) ≡ No
none_outdated_by true true No here rest h ih = refl
none_outdated_by true false No here rest h ih = refl
none_outdated_by true c Old here rest h ih = absurd (cc)
none_outdated_by true c (Upto n) here rest h ih = absurd (cc)
none_outdated_by false c l here rest h ih = ih h

no_outdated : (k q : ℕ) (ls : List (ℕ × Logged)) → or_no (lookup (is_same_pid q) ls) ≡ No → or_no (lookup (is_same_pid q) (outdate_all (k ∷ []) ls)) ≡ No
no_outdated k q [] h = refl
no_outdated k q (l ∷ ls) h =
    none_outdated_by (is_eq (nat_cmp q l.0)) (is_among l.0 (k ∷ [])) l.1 (lookup (is_same_pid q) ls) (lookup (is_same_pid q) (outdate_all (k ∷ []) ls)) h (no_outdated k q ls)

-- ---- each pid

-- the pid is this one, or not
split : (q k : ℕ) → (q ≡ k) ⊎ (q ≢ k)
split q k = split_by (is_eq (nat_cmp q k)) refl
  where
    split_by : (b : Bool) → is_eq (nat_cmp q k) ≡ b → (q ≡ k) ⊎ (q ≢ k)
    split_by true e = inl (same_pid q k (equal_by (nat_cmp q k) e))
    split_by false e = inr (λ same. false≢true (sym e ∙ is_eq_same q k same))

placed_by : (b : Bool) (t : Mapping PageOfKind) (k q : ℕ) (p : Option PageOfKind) → is_eq (nat_cmp q k) ≡ b → (q ≢ k → IsWritten t q) → (q ≡ k → log_of t k ≡ log_then (Some p))
    → log_of t q ≡ log_then (cond b (Some p) (place_of t q))
placed_by true t k q p e others here =
    let same : q ≡ k = same_pid q k (equal_by (nat_cmp q k) e) in
    ap (log_of t) same ∙ here same
placed_by false t k q p e others here = others (λ same. false≢true (sym e ∙ is_eq_same q k same))

is_written-with_place : (t : Mapping PageOfKind) (k q : ℕ) (p : Option PageOfKind) → (q ≢ k → IsWritten t q) → (q ≡ k → log_of t k ≡ log_then (Some p)) → IsWritten (with_place t k p) q
is_written-with_place t k q p others here = placed_by (is_eq (nat_cmp q k)) t k q p refl others here ∙ ap log_then (sym (listed-insert_entry t.places k p q))

is_written-freed : (t : Mapping PageOfKind) (k q : ℕ) → q ≢ k → IsWritten t q → IsWritten (freed t k) q
is_written-freed t k q d h =
    ap or_no (lookup_outdated k q t.logged d) ∙ h ∙ ap log_then (sym (lookup_removed k q t.places d))

is_written-outdated : (t : Mapping PageOfKind) (k q : ℕ) → q ≢ k → IsWritten t q → IsWritten (log_outdated t k) q
is_written-outdated t k q d h = ap or_no (lookup_outdated k q t.logged d) ∙ h

-- ---- recorded pids

or_kept : (a b c : Bool) → (b ≡ true → c ≡ true) → (a || b) ≡ true → (a || c) ≡ true
or_kept true b c f h = refl
or_kept false b c f h = f h

or_right : (a b : Bool) → b ≡ true → (a || b) ≡ true
or_right true b h = refl
or_right false b h = h

-- one pid more
pub noted-push : (all : Bool) (pids : List ℕ) (k : ℕ) → (all || is_among k (pids ++ k ∷ [])) ≡ true
noted-push all pids k = or_right all (is_among k (pids ++ k ∷ [])) (among_right k pids (k ∷ []) ((all_among (k ∷ [])).0))

pub kept-push : (all : Bool) (pids : List ℕ) (k q : ℕ) → (all || is_among q pids) ≡ true → (all || is_among q (pids ++ k ∷ [])) ≡ true
kept-push all pids k q h = or_kept all (is_among q pids) (is_among q (pids ++ k ∷ [])) (λ x. among_left q pids (k ∷ []) x) h

-- all that may be due in one may be in the other
abbrev pub IsWithin : DuePids → DuePids → Type 0
IsWithin d e = (q : ℕ) → may_be_due d q ≡ true → may_be_due e q ≡ true

not_due_by : (b : Bool) (d e : DuePids) (q : ℕ) → may_be_due d q ≡ b → IsWithin d e → may_be_due e q ≡ false → may_be_due d q ≡ false
not_due_by true d e q h w f = absurd (false≢true (sym f ∙ w q h))
not_due_by false d e q h w f = h

not_due : (d e : DuePids) (q : ℕ) → IsWithin d e → may_be_due e q ≡ false → may_be_due d q ≡ false
not_due d e q w f = not_due_by (may_be_due d q) d e q refl w f

-- who isn't due is another than who is
other_due : (e : DuePids) (k q : ℕ) → may_be_due e k ≡ true → may_be_due e q ≡ false → q ≢ k
other_due e k q h f same = false≢true (sym f ∙ ap (may_be_due e) same ∙ h)

module _ (t : Mapping PageOfKind) (d e : DuePids) (a : AreNoted t d) (w : IsWithin d e) (k : ℕ) where
  -- a place of a recorded pid changes
  pub noted-with_place : (p : Option PageOfKind) → may_be_due e k ≡ true → AreNoted (with_place t k p) e
  noted-with_place p h q f = is_written-with_place t k q p (λ apart. a q (not_due d e q w f)) (λ same. absurd (other_due e k q h f same))

  pub noted-outdated : may_be_due e k ≡ true → AreNoted (log_outdated t k) e
  noted-outdated h q f = is_written-outdated t k q (other_due e k q h f) (a q (not_due d e q w f))

-- a page is put into its empty place, for a pid that the log has something of: such a pid is recorded already
due_by : (b : Bool) (t : Mapping PageOfKind) (d : DuePids) (k : ℕ) → may_be_due d k ≡ b → AreNoted t d → place_of t k ≡ Some None → log_of t k ≢ No → may_be_due d k ≡ true
due_by true t d k e a away h = e
due_by false t d k e a away h = absurd (h (a k e ∙ ap log_then away))

pub is_due : (t : Mapping PageOfKind) (d : DuePids) (k : ℕ) → AreNoted t d → place_of t k ≡ Some None → log_of t k ≢ No → may_be_due d k ≡ true
is_due t d k a away h = due_by (may_be_due d k) t d k refl a away h

pub noted-put_back : (t : Mapping PageOfKind) (d : DuePids) (k : ℕ) (p : Option PageOfKind) → AreNoted t d → place_of t k ≡ Some None → log_of t k ≢ No → AreNoted (with_place t k p) d
noted-put_back t d k p a away h = noted-with_place t d d a (λ q x. x) k p (is_due t d k a away h)

no_state : (l : of_code.Logged) → log_state l ≡ No → l ≡ of_code_no
no_state of_code_no e = refl
no_state of_code_old e = absurd (cc)
no_state (of_code_upto n) e = absurd (cc)

-- the same, if it was not recorded
pub noted-put : (t : Mapping PageOfKind) (d : DuePids) (k : ℕ) (p : Option PageOfKind) (l : of_code.Logged) → AreNoted t d → place_of t k ≡ Some None → log_state l ≡ log_of t k → (l ≡ of_code_no → ⊥) → AreNoted (with_place t k p) d
noted-put t d k p l a away e h = noted-put_back t d k p a away (λ none. h (no_state l (e ∙ none)))

-- an empty place is freed
freed_by : (t : Mapping PageOfKind) (d : DuePids) (k q : ℕ) → (q ≡ k) ⊎ (q ≢ k) → AreRisingPids (pids_in_use t) → AreNoted t d → place_of t k ≡ Some None → may_be_due d q ≡ false → IsWritten (freed t k) q
freed_by t d k q (inl same) r a away f =
    let none : log_of t q ≡ No = a q f ∙ ap log_then (ap (place_of t) same ∙ away) in
    no_outdated k q t.logged none ∙ ap log_then (sym (gone t k q same r))
  where
    gone : (t : Mapping PageOfKind) (k q : ℕ) → q ≡ k → AreRisingPids (pids_in_use t) → place_of (freed t k) q ≡ None
    gone t k q same r = listed-remove_entry k q t.places r ∙ ap (λ (b : Bool). cond b None (place_of t q)) (is_eq_same q k same)
freed_by t d k q (inr apart) r a away f = is_written-freed t k q apart (a q f)

pub noted-freed : (t : Mapping PageOfKind) (d : DuePids) (k : ℕ) → AreRisingPids (pids_in_use t) → AreNoted t d → place_of t k ≡ Some None → AreNoted (freed t k) d
noted-freed t d k r a away q f = freed_by t d k q (split q k) r a away f

-- ---- places for allocated pids

room_by_noted : (o : Option (Option PageOfKind)) (t : Mapping PageOfKind) (d : DuePids) (k : ℕ) → place_of t k ≡ o → AreNoted t d → AreNoted (room_by o t k) d
room_by_noted None t d k none a q f =
    is_written-with_place t k q None (λ apart. a q f) (λ same. ap (log_of t) (sym same) ∙ a q f ∙ ap log_then (ap (place_of t) same ∙ none))
room_by_noted (Some p) t d k some a q f = a q f

pub noted-with_rooms : (t : Mapping PageOfKind) (d : DuePids) (pids : List ℕ) → AreNoted t d → AreNoted (with_rooms t pids) d
noted-with_rooms t d [] a = a
noted-with_rooms t d (k ∷ pids) a = noted-with_rooms (with_room t k) d pids (room_by_noted (place_of t k) t d k refl a)

module _ {T E : Type 0} (t u : Mapping PageOfKind) (d e : DuePids) (pids : List ℕ) where
  -- whatever the result of the allocation
  pub noted-drawn : (r : Result T E) → AreNoted t d → e ≡ d → OnOk r (u ≡ with_rooms t pids) → OnErr r (u ≡ t) → AreNoted u e
  noted-drawn (Ok x) a same ok err = rw (same, ok) (noted-with_rooms t d pids a)
  noted-drawn (Err x) a same ok err = rw (same, err) a

-- ---- all are written

logged_by : (b : Bool) (q : ℕ) (e : ℕ × Option PageOfKind) (es : List (ℕ × Option PageOfKind)) → is_eq (nat_cmp q e.0) ≡ b → lookup (is_same_pid q) es ≡ None ⊎ (b ≡ false)
    → or_no (lookup (is_same_pid q) (logged_home_pages es)) ≡ log_then (lookup (is_same_pid q) es)
    → or_no (lookup (is_same_pid q) (logged_home_pages (e ∷ es))) ≡ log_then (cond b (Some e.1) (lookup (is_same_pid q) es))
logged_by b q (n, None) es h first ih = logged_away b first
  where
    logged_away : (b : Bool) → lookup (is_same_pid q) es ≡ None ⊎ (b ≡ false) → or_no (lookup (is_same_pid q) (logged_home_pages es)) ≡ log_then (cond b (Some None) (lookup (is_same_pid q) es))
    logged_away true (inl none) = ih ∙ ap log_then none
    logged_away true (inr f) = absurd (false≢true (sym f))
    logged_away false first = ih
logged_by true q (n, Some p) es h first ih = rw h refl
logged_by false q (n, Some p) es h first ih = rw h ih

first_by : (b : Bool) (q : ℕ) (e : ℕ × Option PageOfKind) (es : List (ℕ × Option PageOfKind)) → is_eq (nat_cmp q e.0) ≡ b → AllByRecursion (λ n. e.0 < n) (keys_of es) → lookup (is_same_pid q) es ≡ None ⊎ (b ≡ false)
first_by true q e es h a =
    let same : q ≡ e.0 = same_pid q e.0 (equal_by (nat_cmp q e.0) h) in
    inl (ap (λ (n : ℕ). lookup (is_same_pid n) es) same ∙ lookup_none e.0 es a)
first_by false q e es h a = inr refl

logged_each : (es : List (ℕ × Option PageOfKind)) (q : ℕ) → AreRisingPids (keys_of es) → or_no (lookup (is_same_pid q) (logged_home_pages es)) ≡ log_then (lookup (is_same_pid q) es)
logged_each [] q r = refl
logged_each (e ∷ es) q r = logged_by (is_eq (nat_cmp q e.0)) q e es refl (first_by (is_eq (nat_cmp q e.0)) q e es refl r.0) (logged_each es q r.1)

pub noted-marked : (t : Mapping PageOfKind) (d : DuePids) → AreRisingPids (pids_in_use t) → AreNoted (marked_as_written t) d
noted-marked t d r q f = logged_each t.places q r
