-- Pids that are allocated for the new pages of groups, one group after the other, and the freeing of these pids.
use Rattle.std.specs.Prelude.{◌≡◌, ◌≢◌, ℕ, zero, suc, Bool, ◌+◌, ◌-◌, ◌<◌, ◌≤◌, true, false, cond, List, [], ◌∷◌, ◌++◌, map, flat_map, take, drop, length, get_or, Option, Some, None}
use Rattle.std.proofs.Common.{refl, sym, ap, ◌∙◌, arith, append_assoc, append-nil, set}
use Rattle.std.specs.List.{AllByRecursion, range_with_len}
use Rattle.std.specs.Ordering.{nat_cmp, is_eq}
use Rattle.std.specs.Map.{lookup, remove_entry}
use Rattle.std.proofs.lemmas.List.{drop_more, take_more, get_or_at, set_at, length-take-le, take_all, drop_all, take_at}
use Rattle.keys.proofs.Basics.{equal_by}
use Rattle.index_page.specs.Page.{PageOfKind}
use Rattle.mapping.specs.FreshPids.{is_among, unused}
use Rattle.mapping.specs.Proper.{Distinct}
use Rattle.mapping.specs.Table.{Mapping, is_same_pid, pids_in_use, place_of, freed, with_rooms, fresh_pids, freed_all}
use Rattle.mapping.specs.TreeInMemory.{TreeInMemory}
use Rattle.mapping.proofs.PidLemmas.{all_among, unused-rises}
use Rattle.mapping.proofs.TableLemmas.{same_pid, differ}
use Rattle.climb_plan.specs.Rewriting.{Remade, with_numbers, numbers}
use Rattle.climb_plan.specs.Installing.{AreAway}

-- ---- places that are freed

module _ {V : Type 0} where
  other_by : (b : Bool) (k q : ℕ) (e : ℕ × V) (es rest : List (ℕ × V)) → is_same_pid k e.0 ≡ b → q ≢ k → lookup (is_same_pid q) rest ≡ lookup (is_same_pid q) es → lookup (is_same_pid q) (cond b es (e ∷ rest)) ≡ lookup (is_same_pid q) (e ∷ es)
  other_by true k q e es rest h d ih =
      let same : k ≡ e.0 = same_pid k e.0 (equal_by (nat_cmp k e.0) h) in
      let apart : is_eq (nat_cmp q e.0) ≡ false = differ q e.0 (λ x. d (x ∙ sym same)) in
      ap (λ (c : Bool). cond c (Some e.1) (lookup (is_same_pid q) es)) (sym apart)
  other_by false k q e es rest h d ih = ap (λ (o : Option V). cond (is_eq (nat_cmp q e.0)) (Some e.1) o) ih

  -- the other places stay
  other_listed : (k q : ℕ) (es : List (ℕ × V)) → q ≢ k → lookup (is_same_pid q) (remove_entry (is_same_pid k) es) ≡ lookup (is_same_pid q) es
  other_listed k q [] d = refl
  other_listed k q (e ∷ es) d = other_by (is_same_pid k e.0) k q e es (remove_entry (is_same_pid k) es) refl d (other_listed k q es d)

-- the places of others stay empty
still_away : (t : Mapping PageOfKind) (k : ℕ) (pids : List ℕ) → AllByRecursion (λ m. m ≢ k) pids → AllByRecursion (λ pid. place_of t pid ≡ Some None) pids → AllByRecursion (λ pid. place_of (freed t k) pid ≡ Some None) pids
still_away t k [] d a = tt
still_away t k (pid ∷ pids) d a = (other_listed k pid t.places d.0 ∙ a.0, still_away t k pids d.1 a.1)

away_freed : (t : Mapping PageOfKind) (k : ℕ) (pids : List ℕ) → AreAway t (k ∷ pids) → AreAway (freed t k) pids
away_freed t k pids a = (still_away t k pids a.1.0 a.0.1, a.1.1)

away_some : (t : Mapping PageOfKind) (xs ys : List ℕ) → AllByRecursion (λ pid. place_of t pid ≡ Some None) (xs ++ ys) → AllByRecursion (λ pid. place_of t pid ≡ Some None) xs
away_some t [] ys a = tt
away_some t (x ∷ xs) ys a = (a.0, away_some t xs ys a.1)

apart_some : (n : ℕ) (xs ys : List ℕ) → AllByRecursion (λ m. m ≢ n) (xs ++ ys) → AllByRecursion (λ m. m ≢ n) xs
apart_some n [] ys a = tt
apart_some n (x ∷ xs) ys a = (a.0, apart_some n xs ys a.1)

distinct_some : (xs ys : List ℕ) → Distinct (xs ++ ys) → Distinct xs
distinct_some [] ys d = tt
distinct_some (x ∷ xs) ys d = (apart_some x xs ys d.0, distinct_some xs ys d.1)

-- of some empty places, those before some others
pub away_first : (t : Mapping PageOfKind) (xs ys : List ℕ) → AreAway t (xs ++ ys) → AreAway t xs
away_first t xs ys a = (away_some t xs ys a.0, distinct_some xs ys a.1)

-- and the others after those are freed
away_later : (t : Mapping PageOfKind) (xs ys : List ℕ) → AreAway t (xs ++ ys) → AreAway (freed_all t xs) ys
away_later t [] ys a = a
away_later t (x ∷ xs) ys a = away_later (freed t x) xs ys (away_freed t x (xs ++ ys) a)

freed-append : (t : Mapping PageOfKind) (xs ys : List ℕ) → freed_all t (xs ++ ys) ≡ freed_all (freed_all t xs) ys
freed-append t [] ys = refl
freed-append t (x ∷ xs) ys = freed-append (freed t x) xs ys

-- the tree with this table
abbrev with_table : TreeInMemory → Mapping PageOfKind → TreeInMemory
with_table t m = record t { table = m }

-- empty places of a tree are freed, before others
module _ (t u : TreeInMemory) (xs ys : List ℕ) (e : u ≡ record t { table = freed_all t.table xs }) where
  pub left_away : AreAway t.table (xs ++ ys) → AreAway u.table ys
  left_away a = rw e (away_later t.table xs ys a)

  pub left_freed : (end : TreeInMemory) → record t { table = freed_all t.table (xs ++ ys) } ≡ end → record u { table = freed_all u.table ys } ≡ end
  left_freed end h = ap (λ (v : TreeInMemory). with_table v (freed_all v.table ys)) e ∙ ap (with_table t) (sym (freed-append t.table xs ys)) ∙ h

-- the numbers of the groups from a place on are those of the first of them, and the others'
pub fresh_more : (all : List Remade) (i : ℕ) (r : Remade) (xs : List ℕ) → i < length all → r ≡ get_or all i r → xs ≡ r.fresh → flat_map (λ x. x.fresh) (drop i all) ≡ xs ++ flat_map (λ x. x.fresh) (drop (i + 1) all)
fresh_more all i r xs l e f =
    let rest : List ℕ = flat_map (λ x. x.fresh) (drop (i + 1) all) in
    ap (λ (rs : List Remade). flat_map (λ x. x.fresh) rs) (drop_more all i r l)
    ∙ ap (λ (x : Remade). x.fresh ++ rest) (sym e)
    ∙ ap (λ (pids : List ℕ). pids ++ rest) (sym f)

-- ---- pids that are allocated

-- the numbers that follow others
pub shifted : (used later : List ℕ) (n i j k : ℕ) → j ≡ n + i → ((m : ℕ) → unused later m ≡ unused used (n + m)) → map (unused later) (range_with_len i k) ≡ map (unused used) (range_with_len j k)
shifted used later n i j zero e h = refl
shifted used later n i j (suc k) e h =
    let first : unused later i ≡ unused used j = h i ∙ ap (unused used) (sym e) in
    ap (λ (m : ℕ). m ∷ map (unused later) (range_with_len (i + 1) k)) first ∙ ap (λ (ms : List ℕ). unused used j ∷ ms) (shifted used later n (i + 1) (j + 1) k (omega arith) h)

range-append : (f : ℕ → ℕ) (i n j k : ℕ) → j ≡ i + n → map f (range_with_len i (n + k)) ≡ map f (range_with_len i n) ++ map f (range_with_len j k)
range-append f i zero j k e = let x : 0 + k ≡ k = omega arith in let y : i ≡ j = omega arith in rw (x, y) refl
range-append f i (suc n) j k e =
    let x : suc n + k ≡ suc (n + k) = omega arith in
    ap (λ (m : ℕ). map f (range_with_len i m)) x ∙ ap (λ (ms : List ℕ). f i ∷ ms) (range-append f (i + 1) n j k (omega arith))

-- allocating some pids and then others equals allocating them at once
fresh-append : (used later : List ℕ) (n k : ℕ) → ((m : ℕ) → unused later m ≡ unused used (n + m)) → fresh_pids used (n + k) ≡ fresh_pids used n ++ fresh_pids later k
fresh-append used later n k h = range-append (unused used) 0 n n k (omega arith) ∙ ap (λ (ms : List ℕ). fresh_pids used n ++ ms) (sym (shifted used later n 0 n k (omega arith) h))

module _ {P : Type 0} where
  rooms-append : (t : Mapping P) (xs ys : List ℕ) → with_rooms t (xs ++ ys) ≡ with_rooms (with_rooms t xs) ys
  rooms-append t [] ys = refl
  rooms-append t (x ∷ xs) ys = rooms-append (with_rooms t (x ∷ [])) xs ys

-- a tree with rooms for n allocated pids, and then for some more
module _ (t u : TreeInMemory) (n : ℕ) (e : u ≡ record t { table = with_rooms t.table (fresh_pids (pids_in_use t.table) n) }) where
  -- the pids that are free then
  pub next_drawn : ((m : ℕ) → unused (pids_in_use (with_rooms t.table (fresh_pids (pids_in_use t.table) n))) m ≡ unused (pids_in_use t.table) (n + m)) → (m : ℕ) → unused (pids_in_use u.table) m ≡ unused (pids_in_use t.table) (n + m)
  next_drawn h m = ap (λ (x : TreeInMemory). unused (pids_in_use x.table) m) e ∙ h m

  pub rooms_more : (v : TreeInMemory) (k m : ℕ) → v ≡ record u { table = with_rooms u.table (fresh_pids (pids_in_use u.table) k) } → ((i : ℕ) → unused (pids_in_use u.table) i ≡ unused (pids_in_use t.table) (n + i)) → m ≡ n + k → v ≡ record t { table = with_rooms t.table (fresh_pids (pids_in_use t.table) m) }
  rooms_more v k m f h c =
      let used : List ℕ = pids_in_use t.table in
      let later : List ℕ = pids_in_use u.table in
      f
      ∙ ap (λ (x : TreeInMemory). with_table x (with_rooms x.table (fresh_pids later k))) e
      ∙ ap (with_table t) (sym (rooms-append t.table (fresh_pids used n) (fresh_pids later k)))
      ∙ ap (λ (pids : List ℕ). with_table t (with_rooms t.table pids)) (sym (fresh-append used later n k h) ∙ ap (fresh_pids used) (sym c))

-- a group with these numbers
abbrev pub with_fresh : Remade → List ℕ → Remade
with_fresh r pids = record { members = r.members; pieces = r.pieces; fresh = pids }

-- the numbers of one more group follow those of the others
with_numbers-push : (used : List ℕ) (i j : ℕ) (rs : List Remade) (r : Remade) → j ≡ i + numbers rs → with_numbers used i (rs ++ r ∷ []) ≡ with_numbers used i rs ++ with_fresh r (map (unused used) (range_with_len j (length r.pieces - 1))) ∷ []
with_numbers-push used i j [] r e =
    let x : i ≡ j = omega arith in
    ap (λ (m : ℕ). with_fresh r (map (unused used) (range_with_len m (length r.pieces - 1))) ∷ []) x
with_numbers-push used i j (x ∷ xs) r e =
    let n : ℕ = length x.pieces - 1 in
    ap (λ (rs : List Remade). with_fresh x (map (unused used) (range_with_len i n)) ∷ rs) (with_numbers-push used (i + n) j xs r (omega arith))

numbers-push : (rs : List Remade) (r : Remade) → numbers (rs ++ r ∷ []) ≡ numbers rs + (length r.pieces - 1)
numbers-push [] r = omega arith
numbers-push (x ∷ xs) r = let ih = numbers-push xs r in omega arith

length-with_numbers : (used : List ℕ) (i : ℕ) (rs : List Remade) → length (with_numbers used i rs) ≡ length rs
length-with_numbers used i [] = refl
length-with_numbers used i (r ∷ rs) = ap (λ n. suc n) (length-with_numbers used (i + (length r.pieces - 1)) rs)

-- all these numbers, group by group
fresh-with_numbers : (used : List ℕ) (i : ℕ) (rs : List Remade) → flat_map (λ r. r.fresh) (with_numbers used i rs) ≡ map (unused used) (range_with_len i (numbers rs))
fresh-with_numbers used i [] = refl
fresh-with_numbers used i (r ∷ rs) =
    let n : ℕ = length r.pieces - 1 in
    ap (λ (ms : List ℕ). map (unused used) (range_with_len i n) ++ ms) (fresh-with_numbers used (i + n) rs) ∙ sym (range-append (unused used) i n (i + n) (numbers rs) refl)

-- numbers that would follow those of others
renumbered : (used later : List ℕ) (n i j : ℕ) (rs : List Remade) → j ≡ n + i → ((m : ℕ) → unused later m ≡ unused used (n + m)) → with_numbers later i rs ≡ with_numbers used j rs
renumbered used later n i j [] e h = refl
renumbered used later n i j (r ∷ rs) e h =
    let k : ℕ = length r.pieces - 1 in
    ap (λ (pids : List ℕ). with_fresh r pids ∷ with_numbers later (i + k) rs) (shifted used later n i j k e h)
    ∙ ap (λ (qs : List Remade). with_fresh r (map (unused used) (range_with_len j k)) ∷ qs) (renumbered used later n (i + k) (j + k) rs (omega arith) h)

-- the groups before a place have their numbers
module _ (used : List ℕ) (start all : List Remade) (at : ℕ) (r : Remade) (l : at < length start) (is : all ≡ with_numbers used 0 (take at start) ++ drop at start) (e : r ≡ get_or all at r) where
  -- those before it, with their numbers
  abbrev before : List Remade
  before = with_numbers used 0 (take at start)

  -- the group at the place, and those after
  abbrev here : Remade
  here = get_or start at r

  split : all ≡ before ++ here ∷ drop (at + 1) start
  split = is ∙ ap (λ (rs : List Remade). before ++ rs) (drop_more start at r l)

  count : length before ≡ at
  count = length-with_numbers used 0 (take at start) ∙ length-take-le at start (omega arith)

  -- the one at the place is unchanged
  untouched : r ≡ get_or start at r
  untouched = e ∙ ap (λ (rs : List Remade). get_or rs at r) split ∙ get_or_at before here (drop (at + 1) start) r at count

  -- it gets its numbers
  pub one_numbered : (new : Remade) → new ≡ with_fresh r (map (unused used) (range_with_len (numbers (take at start)) (length r.pieces - 1))) → set all at new ≡ with_numbers used 0 (take (at + 1) start) ++ drop (at + 1) start
  one_numbered new f =
      let n : ℕ = numbers (take at start) in
      let more : take at start ++ r ∷ [] ≡ take (at + 1) start = ap (λ (x : Remade). take at start ++ x ∷ []) untouched ∙ sym (take_more start at r l) in
      let pushed : before ++ new ∷ [] ≡ with_numbers used 0 (take (at + 1) start) =
      ap (λ (x : Remade). before ++ x ∷ []) f ∙ sym (with_numbers-push used 0 n (take at start) r (omega arith)) ∙ ap (with_numbers used 0) more in
      ap (λ (rs : List Remade). set rs at new) split
      ∙ set_at before here (drop (at + 1) start) new at count
      ∙ sym (append_assoc before (new ∷ []) (drop (at + 1) start))
      ∙ ap (λ (rs : List Remade). rs ++ drop (at + 1) start) pushed

  pub one_counted : numbers (take (at + 1) start) ≡ numbers (take at start) + (length r.pieces - 1)
  one_counted = ap numbers (take_more start at r l ∙ ap (λ (x : Remade). take at start ++ x ∷ []) (sym untouched)) ∙ numbers-push (take at start) r

-- ---- all allocated pids

each_away : (t : Mapping PageOfKind) (pids all : List ℕ) → ((pid : ℕ) → is_among pid all ≡ true → place_of t pid ≡ Some None) → AllByRecursion (λ pid. is_among pid all ≡ true) pids → AllByRecursion (λ pid. place_of t pid ≡ Some None) pids
each_away t [] all h a = tt
each_away t (pid ∷ pids) all h a = (h pid a.0, each_away t pids all h a.1)

apart_later : (used : List ℕ) (i j n : ℕ) → i < j → AllByRecursion (λ m. m ≢ unused used i) (map (unused used) (range_with_len j n))
apart_later used i j zero l = tt
apart_later used i j (suc n) l = ((λ x. let y = unused-rises used i j l in absurd (omega arith)), apart_later used i (j + 1) n (omega arith))

distinct_range : (used : List ℕ) (i n : ℕ) → Distinct (map (unused used) (range_with_len i n))
distinct_range used i zero = tt
distinct_range used i (suc n) = (apart_later used i (i + 1) n (omega arith), distinct_range used (i + 1) n)

-- the first n groups have their numbers
module _ (used : List ℕ) (start all : List Remade) (n : ℕ) (l : n ≤ length start) (is : all ≡ with_numbers used 0 (take n start) ++ drop n start) where
  taken : take n all ≡ with_numbers used 0 (take n start)
  taken = ap (take n) is ∙ take_at (with_numbers used 0 (take n start)) (drop n start) n (length-with_numbers used 0 (take n start) ∙ length-take-le n start l)

  pub drawn_numbers : flat_map (λ r. r.fresh) (take n all) ≡ fresh_pids used (numbers (take n start))
  drawn_numbers = ap (λ (rs : List Remade). flat_map (λ r. r.fresh) rs) taken ∙ fresh-with_numbers used 0 (take n start)

  -- all of them, and where they begin in other numbers
  pub all_numbered : length start ≤ n → (others : List ℕ) (i : ℕ) → ((m : ℕ) → unused used m ≡ unused others (i + m)) → all ≡ with_numbers others i start
  all_numbered m others i h =
      is
      ∙ ap (λ (rs : List Remade). with_numbers used 0 (take n start) ++ rs) (drop_all n start m)
      ∙ append-nil (with_numbers used 0 (take n start))
      ∙ ap (with_numbers used 0) (take_all n start m)
      ∙ renumbered others used i 0 i start (omega arith) h

-- the places of allocated pids are empty
pub drawn_away : (t : Mapping PageOfKind) (used pids : List ℕ) (n : ℕ) → pids ≡ fresh_pids used n → ((pid : ℕ) → is_among pid (fresh_pids used n) ≡ true → place_of t pid ≡ Some None) → AreAway t pids
drawn_away t used pids n e h = rw e (each_away t (fresh_pids used n) (fresh_pids used n) h (all_among (fresh_pids used n)), distinct_range used 0 n)

-- a tree whose table got rooms that were freed again
pub given_back : (t u v : TreeInMemory) (drawn pids : List ℕ) → u ≡ record t { table = with_rooms t.table pids } → v ≡ record u { table = freed_all u.table drawn } → drawn ≡ pids → freed_all (with_rooms t.table pids) pids ≡ t.table → v ≡ t
given_back t u v drawn pids e f g h =
    f
    ∙ ap (λ (x : TreeInMemory). with_table x (freed_all x.table drawn)) e
    ∙ ap (λ (x : List ℕ). with_table t (freed_all (with_rooms t.table pids) x)) g
    ∙ ap (with_table t) h
