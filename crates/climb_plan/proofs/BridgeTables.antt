-- Tables from which pids were allocated and pages checked out.
use Rattle.std.specs.Prelude.{◌≡◌, ◌≢◌, ℕ, ◌+◌, ◌<◌, Bool, true, false, cond, ◌||◌, nat_eq, List, [], ◌∷◌, map, Option, Some, None, is_some}
use Rattle.std.proofs.Common.{refl, sym, ap, ◌∙◌, subst, arith, Ordering, Less, Equal, Greater}
use Rattle.std.specs.List.{AllByRecursion, range_with_len}
use Rattle.std.specs.Ordering.{nat_cmp, is_eq, match_ordering}
use Rattle.std.specs.Map.{keys_of, lookup}
use Rattle.std.specs.BTreeMap.{insert_entry}
use Rattle.std.proofs.lemmas.Cmp.{ranked, tied_itself}
use Rattle.std.proofs.lemmas.Bool.{eq-eqb, eqb-true, or_parts, or_from, false_from_ne_true}
use Rattle.index_page.specs.Page.{PageOfKind}
use Rattle.mapping.specs.FreshPids.{is_among, unused, IsNeverUnused}
use Rattle.mapping.specs.Proper.{AreRisingPids}
use Rattle.mapping.specs.Table.{Mapping, pids_in_use, place_of, with_place, fresh_pids, IsOldWithoutPlace, is_same_pid}
use Rattle.mapping.specs.Tree.{Logged}
use Rattle.mapping.specs.Tree.Logged.{Old}
use Rattle.mapping.proofs.PidLemmas.{below_later}
use Rattle.mapping.proofs.TableLemmas.{total, differ, listed-insert_entry}
use Rattle.climb_plan.specs.Installing.{all_taken}

-- ---- an entry in the place of another

module _ {X : Type 0} where
  none_below : (k : ℕ) (es : List (ℕ × X)) → AllByRecursion (λ n. k < n) (keys_of es) → lookup (is_same_pid k) es ≡ None
  none_below k [] a = refl
  none_below k (e ∷ es) a =
      let apart : k ≢ e.0 = (λ q. let l : k < e.0 = a.0 in omega arith) in
      rw (differ k e.0 apart) (none_below k es a.1)

  kept_by : (o : Ordering) (k : ℕ) (v : X) (e : ℕ × X) (es rest : List (ℕ × X)) → nat_cmp k e.0 ≡ o → AllByRecursion (λ n. e.0 < n) (keys_of es) → is_some (cond (is_eq o) (Some e.1) (lookup (is_same_pid k) es)) ≡ true
      → (is_some (lookup (is_same_pid k) es) ≡ true → keys_of rest ≡ keys_of es) → keys_of (match_ordering o ((k, v) ∷ e ∷ es) ((e.0, v) ∷ es) (e ∷ rest)) ≡ keys_of (e ∷ es)
  kept_by Less k v e es rest c a h ih =
      let l : k < e.0 = ranked k e.0 Less (sym c) in
      let none : is_some (lookup (is_same_pid k) es) ≡ false = ap (λ (o : Option X). is_some o) (none_below k es (below_later k e.0 (keys_of es) l a)) in
      absurd (cc)
  kept_by Equal k v e es rest c a h ih = refl
  kept_by Greater k v e es rest c a h ih = ap (λ (ns : List ℕ). e.0 ∷ ns) (ih h)

  -- no pid comes or goes
  keys_kept : (es : List (ℕ × X)) (k : ℕ) (v : X) → AreRisingPids (keys_of es) → is_some (lookup (is_same_pid k) es) ≡ true → keys_of (insert_entry nat_cmp es k v) ≡ keys_of es
  keys_kept [] k v r h = absurd (cc)
  keys_kept (e ∷ es) k v r h = kept_by (nat_cmp k e.0) k v e es (insert_entry nat_cmp es k v) refl r.0 h (λ g. keys_kept es k v r.1 g)

-- ---- pages are taken

pub test_false : (m n : ℕ) → nat_eq m n ≡ false → is_eq (nat_cmp m n) ≡ false
test_false m n h = differ m n (λ e. let f : nat_eq m n ≡ true = eq-eqb m n e in absurd (cc))

pub test_true : (m n : ℕ) → nat_eq m n ≡ true → is_eq (nat_cmp m n) ≡ true
test_true m n h =
    let e : m ≡ n = eqb-true m n h in
    ap (λ (k : ℕ). is_eq (nat_cmp m k)) (sym e) ∙ ap (λ (o : Ordering). is_eq o) (tied_itself total m)

-- other places stay
pub taken_others : (t : Mapping PageOfKind) (ns : List ℕ) (pid : ℕ) → is_among pid ns ≡ false → place_of (all_taken t ns) pid ≡ place_of t pid
taken_others t [] pid h = refl
taken_others t (n ∷ ns) pid h =
    let apart = or_parts (nat_eq pid n) (is_among pid ns) h in
    taken_others (with_place t n None) ns pid apart.1
    ∙ listed-insert_entry t.places n None pid
    ∙ ap (λ (b : Bool). cond b (Some None) (place_of t pid)) (test_false pid n apart.0)

taken_by : (b : Bool) (t : Mapping PageOfKind) (n : ℕ) (ns : List ℕ) (pid : ℕ) → is_among pid ns ≡ b → (nat_eq pid n || b) ≡ true → ((u : Mapping PageOfKind) → is_among pid ns ≡ true → place_of (all_taken u ns) pid ≡ Some None) → place_of (all_taken (with_place t n None) ns) pid ≡ Some None
taken_by true t n ns pid e h ih = ih (with_place t n None) e
taken_by false t n ns pid e h ih =
    taken_others (with_place t n None) ns pid e ∙ listed-insert_entry t.places n None pid ∙ ap (λ (b : Bool). cond b (Some None) (place_of t pid)) (test_true pid n (left (nat_eq pid n) h))
  where
    left : (a : Bool) → (a || false) ≡ true → a ≡ true
    left true h = refl
    left false h = h

-- the places of the pages are empty
pub taken_away : (t : Mapping PageOfKind) (ns : List ℕ) (pid : ℕ) → is_among pid ns ≡ true → place_of (all_taken t ns) pid ≡ Some None
taken_away t [] pid h = absurd (cc)
taken_away t (n ∷ ns) pid h = taken_by (is_among pid ns) t n ns pid refl h (λ u g. taken_away u ns pid g)

pub taken_logged : (t : Mapping PageOfKind) (ns : List ℕ) → (all_taken t ns).logged ≡ t.logged
taken_logged t [] = refl
taken_logged t (n ∷ ns) = taken_logged (with_place t n None) ns

none_by : (b : Bool) (t : Mapping PageOfKind) (ns : List ℕ) (pid : ℕ) → is_among pid ns ≡ b → place_of (all_taken t ns) pid ≡ None → place_of t pid ≡ None
none_by true t ns pid e h = absurd (let f = taken_away t ns pid e in cc)
none_by false t ns pid e h = sym (taken_others t ns pid e) ∙ h

-- a pid without a place had none
pub taken_none : (t : Mapping PageOfKind) (ns : List ℕ) (pid : ℕ) → place_of (all_taken t ns) pid ≡ None → place_of t pid ≡ None
taken_none t ns pid h = none_by (is_among pid ns) t ns pid refl h

-- these pids have places
abbrev pub ArePlaced : Mapping PageOfKind → List ℕ → Type 0
ArePlaced t ns = AllByRecursion (λ n. is_some (place_of t n) ≡ true) ns

placed_by : (b : Bool) (o : Option (Option PageOfKind)) → is_some o ≡ true → is_some (cond b (Some None) o) ≡ true
placed_by true o h = refl
placed_by false o h = h

still_placed : (t : Mapping PageOfKind) (k : ℕ) (ns : List ℕ) → ArePlaced t ns → ArePlaced (with_place t k None) ns
still_placed t k [] h = tt
still_placed t k (n ∷ ns) h =
    (ap (λ (o : Option (Option PageOfKind)). is_some o) (listed-insert_entry t.places k None n) ∙ placed_by (is_eq (nat_cmp n k)) (place_of t n) h.0, still_placed t k ns h.1)

-- the pids in use stay
pub taken_pids : (t : Mapping PageOfKind) (ns : List ℕ) → AreRisingPids (pids_in_use t) → ArePlaced t ns → pids_in_use (all_taken t ns) ≡ pids_in_use t
taken_pids t [] r h = refl
taken_pids t (n ∷ ns) r h =
    let same : pids_in_use (with_place t n None) ≡ pids_in_use t = keys_kept t.places n None r h.0 in
    taken_pids (with_place t n None) ns (subst (λ (ks : List ℕ). AreRisingPids ks) (sym same) r) (still_placed t n ns h.1) ∙ same

-- ---- pids were allocated

-- from one table to the next n pids were allocated: their places are empty, and everything else is unchanged
pub record AreDrawn (before after : Mapping PageOfKind) (n : ℕ) : Type 0 where
  pub away : (pid : ℕ) → is_among pid (fresh_pids (pids_in_use before) n) ≡ true → place_of after pid ≡ Some None
  pub others : (pid : ℕ) → is_among pid (fresh_pids (pids_in_use before) n) ≡ false → place_of after pid ≡ place_of before pid
  pub logged : after.logged ≡ before.logged
  pub rising : AreRisingPids (pids_in_use after)
  pub next : (m : ℕ) → unused (pids_in_use after) m ≡ unused (pids_in_use before) (n + m)

not_given : (us used : List ℕ) (i pid : ℕ) (js : List ℕ) → ((m : ℕ) → unused us m ≡ unused used (i + m)) → IsNeverUnused used pid → is_among pid (map (unused us) js) ≡ false
not_given us used i pid [] d o = refl
not_given us used i pid (j ∷ js) d o =
    or_from (nat_eq pid (unused us j)) (is_among pid (map (unused us) js)) (false_from_ne_true (nat_eq pid (unused us j)) (λ e. o (i + j) (eqb-true pid (unused us j) e ∙ d j))) (not_given us used i pid js d o)

-- a pid that is never given has the place that it had
pub drawn_others : (t u : Mapping PageOfKind) (n : ℕ) (used : List ℕ) (i pid : ℕ) → AreDrawn t u n → ((m : ℕ) → unused (pids_in_use t) m ≡ unused used (i + m)) → IsNeverUnused used pid → place_of u pid ≡ place_of t pid
drawn_others t u n used i pid a d o = a.others pid (not_given (pids_in_use t) used i pid (range_with_len 0 n) d o)

logs_by : (b : Bool) (t u : Mapping PageOfKind) (n pid : ℕ) → AreDrawn t u n → is_among pid (fresh_pids (pids_in_use t) n) ≡ b → place_of u pid ≡ None → place_of t pid ≡ None
logs_by true t u n pid a e h = absurd (let f = a.away pid e in cc)
logs_by false t u n pid a e h = sym (a.others pid e) ∙ h

-- after pages were taken too, the log state of a pid without a place is still at most `Old`
pub logs_after : (t u : Mapping PageOfKind) (n : ℕ) (ns : List ℕ) → AreDrawn t u n → IsOldWithoutPlace t → IsOldWithoutPlace (all_taken u ns)
logs_after t u n ns a h = subst (λ (ls : List (ℕ × Logged)). AllByRecursion (λ l. place_of (all_taken u ns) l.0 ≡ None → l.1 ≡ Old) ls) (sym (taken_logged u ns ∙ a.logged)) (each t.logged h)
  where
    each : (ls : List (ℕ × Logged)) → AllByRecursion (λ l. place_of t l.0 ≡ None → l.1 ≡ Old) ls → AllByRecursion (λ l. place_of (all_taken u ns) l.0 ≡ None → l.1 ≡ Old) ls
    each [] h = tt
    each (l ∷ ls) h = (λ e. h.0 (logs_by (is_among l.0 (fresh_pids (pids_in_use t) n)) t u n l.0 a refl (taken_none u ns l.0 e)), each ls h.1)
