-- Lemmas on an iteration over the leaves of a tree in either direction.
use Rattle.std.specs.Prelude.{◌≡◌, ℕ, zero, suc, pred, ◌+◌, ◌-◌, ◌<◌, Bool, true, false, not, cond, List, [], ◌∷◌, ◌++◌, length, Option, Some}
use Rattle.std.proofs.Common.{refl, sym, ap, ◌∙◌, subst, arith, append_assoc, length-append}
use Rattle.std.specs.List.{AllByRecursion, filter}
use Rattle.std.specs.Map.{values_of}
use Rattle.smallvec.specs.SmallVec.{SmallVec}
use Rattle.index_page.specs.Page.{Page, PageOfKind, IsIndex}
use Rattle.index_page.specs.Page.PageOfKind.{Leaf}
use Rattle.index_page.specs.Children.{child_entries}
use Rattle.index_page.proofs.ListLemmas.{all_apart}
use Rattle.mapping.specs.Tree.{page_at}
use Rattle.mapping.specs.Levels.{as_leaf}
use Rattle.mapping.specs.TreeInMemory.{TreeInMemory, tree_of}
use Rattle.scan.specs.Direction.{IsNext, in_turn}
use Rattle.scan.specs.Edge.{IsOutermost}
use Rattle.scan.specs.Path.{entries_at, children_up, children_beyond, leaves_by_first, leaves_beyond, leaves_ahead, leaves_under, leaf_pages, IsKnown, ArePathOf}
use Rattle.scan.specs.Walk.{IsWalk, IsAt, walk_beyond, walk_ahead}
use Rattle.scan.specs.declared.direction.Direction.{Direction}
use Rattle.scan.specs.declared.direction.Direction.TheVariants.{Up, Down}
use Rattle.scan.proofs.LastLemmas.{passes_all}
use Rattle.scan.proofs.DirectionLemmas.{nothing_first, nothing_later, turns_join, next_in_turn, in_turn_next, next_mapped, same_next, never_empty}
use Rattle.scan.proofs.PathLemmas.{leaves_under-append, leaves_under-one, leaf_pages-append, under-none, path-push, path_pop, index_page_at}

abbrev pub Separators : Type 0
Separators = List (List ℕ × ℕ)

-- ---- lists

module _ {X : Type 0} where
  -- the next element of a list that is not empty
  pub record IsFirstOf (d : Direction) (xs : List X) : Type 0 where
    pub first : X
    pub rest : List X
    pub next : IsNext d xs first rest

  pub last_of : (x : X) (xs : List X) → IsFirstOf Down (x ∷ xs)
  last_of x [] = record { first = x; rest = []; next = refl }
  last_of x (y ∷ xs) = let l = last_of y xs in record { first = l.first; rest = x ∷ l.rest; next = ap (λ (zs : List X). x ∷ zs) l.next }

  first_of : (d : Direction) (xs : List X) → 0 < length xs → IsFirstOf d xs
  first_of d [] l = absurd (omega arith)
  first_of Up (x ∷ xs) l = record { first = x; rest = xs; next = refl }
  first_of Down (x ∷ xs) l = last_of x xs

  pub all_next : (d : Direction) (P : X → Type 0) (x : X) (xs rest : List X) → IsNext d xs x rest → AllByRecursion P xs → P x × AllByRecursion P rest
  all_next Up P x xs rest h a = let b = subst (λ (ys : List X). AllByRecursion P ys) h a in (b.0, b.1)
  all_next Down P x xs rest h a = let b = all_apart P rest (x ∷ []) (subst (λ (ys : List X). AllByRecursion P ys) h a) in (b.1.0, b.0)

-- ---- children beyond an edge

module _ (P : ℕ → Type 0) (test : List ℕ → Bool) where
  kept_by : (b : Bool) (e : List ℕ × ℕ) (kept : Separators) → P e.1 → AllByRecursion P (values_of kept) → AllByRecursion P (values_of (cond b (e ∷ kept) kept))
  kept_by true e kept p a = (p, a)
  kept_by false e kept p a = a

  values_kept : (es : Separators) → AllByRecursion P (values_of es) → AllByRecursion P (values_of (filter (λ f. test f.0) es))
  values_kept [] a = tt
  values_kept (e ∷ es) a = kept_by (test e.0) e (filter (λ f. test f.0) es) a.0 (values_kept es a.1)

  up_by : (b : Bool) (xs ys : Separators) → AllByRecursion P (values_of xs) → AllByRecursion P (values_of ys) → AllByRecursion P (values_of (cond b xs ys))
  up_by true xs ys a c = a
  up_by false xs ys a c = c

  up_kept : (es : Separators) → AllByRecursion P (values_of es) → AllByRecursion P (values_of (children_up test es))
  up_kept [] a = tt
  up_kept (e ∷ []) a = a
  up_kept (e ∷ f ∷ es) a = up_by (test f.0) (children_up test (f ∷ es)) (e ∷ f ∷ es) (up_kept (f ∷ es) a.1) a

  pub children_kept : (d : Direction) (es : Separators) → AllByRecursion P (values_of es) → AllByRecursion P (values_of (children_beyond d test es))
  children_kept Up es a = up_kept es a
  children_kept Down [] a = tt
  children_kept Down (e ∷ es) a = (a.0, values_kept es a.1)

some_by : (b : Bool) (xs ys : Separators) → 0 < length xs → 0 < length ys → 0 < length (cond b xs ys)
some_by true xs ys a c = a
some_by false xs ys a c = c

some_up : (test : List ℕ → Bool) (e : List ℕ × ℕ) (es : Separators) → 0 < length (children_up test (e ∷ es))
some_up test e [] = omega arith
some_up test e (f ∷ es) = some_by (test f.0) (children_up test (f ∷ es)) (e ∷ f ∷ es) (some_up test f es) (omega arith)

some_child : (d : Direction) (test : List ℕ → Bool) (es : Separators) → 0 < length es → 0 < length (children_beyond d test es)
some_child d test [] l = absurd (omega arith)
some_child Up test (e ∷ es) l = some_up test e es
some_child Down test (e ∷ es) l = omega arith

all_up : (test : List ℕ → Bool) → ((k : List ℕ) → test k ≡ false) → (es : Separators) → children_up test es ≡ es
all_up test f [] = refl
all_up test f (e ∷ []) = refl
all_up test f (e ∷ g ∷ es) = ap (λ (b : Bool). cond b (children_up test (g ∷ es)) (e ∷ g ∷ es)) (f g.0)

opposite : (b : Bool) → not b ≡ true → b ≡ false
opposite true q = absurd (cc)
opposite false q = refl

all_tested : (test : List ℕ → Bool) → ((k : List ℕ) → test k ≡ true) → (es : Separators) → AllByRecursion (λ (e : List ℕ × ℕ). test e.0 ≡ true) es
all_tested test f [] = tt
all_tested test f (e ∷ es) = (f e.0, all_tested test f es)

all_children : (d : Direction) (test : List ℕ → Bool) → IsOutermost d test → (es : Separators) → children_beyond d test es ≡ es
all_children Up test o es = all_up test (λ k. opposite (test k) (o k)) es
all_children Down test o [] = refl
all_children Down test o (e ∷ es) = ap (λ (x : Separators). e ∷ x) (passes_all (λ (f : List ℕ × ℕ). test f.0) es (all_tested test o es))

module _ (ps : List (ℕ × PageOfKind)) where
  -- ---- lists of leaves

  under_turns : (d : Direction) (n : ℕ) (xs ys : List ℕ) → leaves_under ps n (in_turn d xs ys) ≡ in_turn d (leaves_under ps n xs) (leaves_under ps n ys)
  under_turns Up n xs ys = leaves_under-append ps n xs ys
  under_turns Down n xs ys = leaves_under-append ps n ys xs

  pub pages_turn : (d : Direction) (xs ys : List ℕ) → leaf_pages ps (in_turn d xs ys) ≡ in_turn d (leaf_pages ps xs) (leaf_pages ps ys)
  pages_turn Up xs ys = leaf_pages-append ps xs ys
  pages_turn Down xs ys = leaf_pages-append ps ys xs

  down_end : (n : ℕ) (first : List ℕ × ℕ → List ℕ) (xs : Separators) (e : List ℕ × ℕ) → leaves_by_first Down first (leaves_under ps n) (xs ++ e ∷ []) ≡ leaves_under ps n (values_of xs) ++ first e
  down_end n first [] e = sym (ap (λ (x : List ℕ). x ++ first e) (under-none ps n))
  down_end n first (x ∷ []) e = refl
  down_end n first (x ∷ y ∷ xs) e =
      ap (λ (z : List ℕ). leaves_under ps n (x.1 ∷ []) ++ z) (down_end n first (y ∷ xs) e)
      ∙ sym (append_assoc (leaves_under ps n (x.1 ∷ [])) (leaves_under ps n (values_of (y ∷ xs))) (first e))
      ∙ ap (λ (z : List ℕ). z ++ first e) (sym (leaves_under-append ps n (x.1 ∷ []) (values_of (y ∷ xs))))

  -- the leaves found below the next child, and the leaves below the others
  pub by_first : (d : Direction) (n : ℕ) (first : List ℕ × ℕ → List ℕ) (e : List ℕ × ℕ) (es rest : Separators) → IsNext d es e rest → leaves_by_first d first (leaves_under ps n) es ≡ in_turn d (first e) (leaves_under ps n (values_of rest))
  by_first Up n first e es rest h = ap (λ (x : Separators). leaves_by_first Up first (leaves_under ps n) x) h
  by_first Down n first e es rest h = ap (λ (x : Separators). leaves_by_first Down first (leaves_under ps n) x) h ∙ down_end n first rest e

  -- a page is pushed onto the path
  pub ahead-push : (d : Direction) (n m : ℕ) (path : List (List ℕ)) (pids : List ℕ) → length path + suc m ≡ n → leaves_ahead d ps n (path ++ pids ∷ []) ≡ in_turn d (leaves_under ps m pids) (leaves_ahead d ps n path)
  ahead-push d zero m path pids h = absurd (omega arith)
  ahead-push d (suc n) m [] pids h =
      let same : n ≡ m = omega arith in
      nothing_first d (leaves_under ps n pids) ∙ ap (λ (j : ℕ). leaves_under ps j pids) same ∙ sym (nothing_later d (leaves_under ps m pids))
  ahead-push d (suc n) m (qs ∷ path) pids h =
      ap (λ (x : List ℕ). in_turn d x (leaves_under ps n qs)) (ahead-push d n m path pids (omega arith))
      ∙ turns_join d (leaves_under ps m pids) (leaves_ahead d ps n path) (leaves_under ps n qs)

  -- ---- an index page of the descent

  pub record IsStep (d : Direction) (n : ℕ) (test : List ℕ → Bool) (pid : ℕ) (kept : List ℕ) : Type 0 where
    pub level : ℕ
    pub height : suc level ≡ n
    pub first : ℕ
    pub rest : List ℕ
    pub parts : IsNext d kept first rest
    pub known : IsKnown ps level first
    pub others : AllByRecursion (IsKnown ps level) rest
    pub leaves : leaves_beyond d ps n test pid ≡ in_turn d (leaves_beyond d ps level test first) (leaves_under ps level rest)

  step_by : (d : Direction) (n : ℕ) (test : List ℕ → Bool) (pid : ℕ) → 0 < length (entries_at ps pid) → AllByRecursion (IsKnown ps n) (values_of (entries_at ps pid)) → IsStep d (suc n) test pid (values_of (children_beyond d test (entries_at ps pid)))
  step_by d n test pid l a =
      let kept : Separators = children_beyond d test (entries_at ps pid) in
      let f = first_of d kept (some_child d test (entries_at ps pid) l) in
      let value : List ℕ × ℕ → ℕ = λ e. e.1 in
      let parts = next_mapped value d f.first kept f.rest f.next in
      let all = all_next d (IsKnown ps n) f.first.1 (values_of kept) (values_of f.rest) parts (children_kept (IsKnown ps n) test d (entries_at ps pid) a) in
      record {
        level = n;
        height = refl;
        first = f.first.1;
        rest = values_of f.rest;
        parts = parts;
        known = all.0;
        others = all.1;
        leaves = by_first d n (λ (e : List ℕ × ℕ). leaves_beyond d ps n test e.1) f.first kept f.rest f.next;
      }

  pub at_index : (d : Direction) (n pid : ℕ) (test : List ℕ → Bool) (page : PageOfKind) → IsKnown ps n pid → Some page ≡ page_at ps pid → IsIndex page → IsStep d n test pid (values_of (children_beyond d test (child_entries page)))
  at_index d n pid test page k h i =
      let x = index_page_at ps n pid page k h i in
      subst (λ (m : ℕ). IsStep d m test pid (values_of (children_beyond d test (child_entries page)))) x.height
      (subst (λ (es : Separators). IsStep d (suc x.level) test pid (values_of (children_beyond d test es))) (sym x.entries)
      (step_by d x.level test pid x.known.2 x.known.3))

  -- ---- from the outermost edge a descent leads to all leaves

  pub beyond_all : (d : Direction) (n pid : ℕ) (test : List ℕ → Bool) → IsOutermost d test → IsKnown ps n pid → leaves_beyond d ps n test pid ≡ leaves_under ps n (pid ∷ [])
  beyond_all d zero pid test o k = refl
  beyond_all d (suc n) pid test o k =
      let es : Separators = entries_at ps pid in
      let f = first_of d es k.2 in
      let value : List ℕ × ℕ → ℕ = λ e. e.1 in
      let parts = next_mapped value d f.first es f.rest f.next in
      let known = all_next d (IsKnown ps n) f.first.1 (values_of es) (values_of f.rest) parts k.3 in
      ap (λ (x : Separators). leaves_by_first d (λ (e : List ℕ × ℕ). leaves_beyond d ps n test e.1) (leaves_under ps n) x) (all_children d test o es)
      ∙ by_first d n (λ (e : List ℕ × ℕ). leaves_beyond d ps n test e.1) f.first es f.rest f.next
      ∙ ap (λ (x : List ℕ). in_turn d x (leaves_under ps n (values_of f.rest))) (beyond_all d n f.first.1 test o known.0)
      ∙ sym (under_turns d n (f.first.1 ∷ []) (values_of f.rest))
      ∙ ap (λ (js : List ℕ). leaves_under ps n js) (sym (next_in_turn d f.first.1 (values_of es) (values_of f.rest) parts))
      ∙ sym (leaves_under-one ps n pid)

-- ---- a step of the iteration

-- children were pushed onto the path, and the iteration continues at this page
pub record IsPushed (d : Direction) (t : TreeInMemory) (path : SmallVec (List ℕ)) (test : List ℕ → Bool) (child : ℕ) (whole : List (Page (List ℕ))) : Type 0 where
  pub walk : IsWalk t path
  pub known : IsAt t (length path.items) child
  pub leaves : in_turn d (walk_beyond d t (length path.items) test child) (walk_ahead d t path.items) ≡ whole

module _ (d : Direction) (t : TreeInMemory) where
  abbrev Pages : List (ℕ × PageOfKind)
  Pages = (tree_of t).pages

  abbrev Top : ℕ
  Top = pred t.height

  pushed : (path new : SmallVec (List ℕ)) (m : ℕ) (test : List ℕ → Bool) (child : ℕ) (rest : List ℕ) → length path.items + suc m ≡ Top → IsWalk t path → new.items ≡ path.items ++ rest ∷ [] → new.capacity ≡ path.capacity
      → IsKnown Pages m child → AllByRecursion (IsKnown Pages m) rest → IsPushed d t new test child (leaf_pages Pages (in_turn d (leaves_beyond d Pages m test child) (in_turn d (leaves_under Pages m rest) (leaves_ahead d Pages Top path.items))))
  pushed path new m test child rest h w i c k a =
      let long : length new.items ≡ length path.items + 1 = ap (λ (x : List (List ℕ)). length x) i ∙ length-append path.items (rest ∷ []) in
      let level : Top - length new.items ≡ m = omega (arith, long, h) in
      let left : leaves_ahead d Pages Top new.items ≡ in_turn d (leaves_under Pages m rest) (leaves_ahead d Pages Top path.items) =
      ap (λ (x : List (List ℕ)). leaves_ahead d Pages Top x) i ∙ ahead-push Pages d Top m path.items rest h in
      record {
        walk = record {
          home = w.home;
          height = w.height;
          known = subst (λ (x : List (List ℕ)). ArePathOf Pages Top x) (sym i) (path-push Pages Top m path.items rest h w.known a);
          room = c ∙ w.room;
        };
        known = record { within = omega (arith, long, h); known = subst (λ (j : ℕ). IsKnown Pages j child) (sym level) k };
        leaves =
            ap (λ (j : ℕ). in_turn d (leaf_pages Pages (leaves_beyond d Pages j test child)) (leaf_pages Pages (leaves_ahead d Pages Top new.items))) level
            ∙ ap (λ (x : List ℕ). in_turn d (leaf_pages Pages (leaves_beyond d Pages m test child)) (leaf_pages Pages x)) left
            ∙ sym (pages_turn Pages d (leaves_beyond d Pages m test child) (in_turn d (leaves_under Pages m rest) (leaves_ahead d Pages Top path.items)));
      }

  -- at an index page, the iteration continues at the next child that is kept, and the others are pushed
  pub step_down : (path new : SmallVec (List ℕ)) (test : List ℕ → Bool) (pid child : ℕ) (page : PageOfKind) (rest : List ℕ) (whole : List (Page (List ℕ))) → IsWalk t path → IsAt t (length path.items) pid
      → Some page ≡ page_at Pages pid → IsIndex page → IsNext d (values_of (children_beyond d test (child_entries page))) child rest
      → new.items ≡ path.items ++ rest ∷ [] → new.capacity ≡ path.capacity → in_turn d (walk_beyond d t (length path.items) test pid) (walk_ahead d t path.items) ≡ whole → IsPushed d t new test child whole
  step_down path new test pid child page rest whole w at h x e i c l =
      let s = at_index Pages d (Top - length path.items) pid test page at.known h x in
      let both = same_next d s.first child (values_of (children_beyond d test (child_entries page))) s.rest rest s.parts e in
      let level = s.height in
      let within = at.within in
      let p = pushed path new s.level test child rest (omega (arith, level, within)) w i c (subst (λ (j : ℕ). IsKnown Pages s.level j) both.0 s.known) (subst (λ (js : List ℕ). AllByRecursion (IsKnown Pages s.level) js) both.1 s.others) in
      let old : List ℕ = leaves_ahead d Pages Top path.items in
      let same : leaf_pages Pages (in_turn d (leaves_beyond d Pages s.level test child) (in_turn d (leaves_under Pages s.level rest) old)) ≡ whole =
      ap (λ (x : List ℕ). leaf_pages Pages x) (sym (turns_join d (leaves_beyond d Pages s.level test child) (leaves_under Pages s.level rest) old))
      ∙ ap (λ (j : ℕ). leaf_pages Pages (in_turn d (in_turn d (leaves_beyond d Pages s.level test j) (leaves_under Pages s.level rest)) old)) (sym both.0)
      ∙ ap (λ (js : List ℕ). leaf_pages Pages (in_turn d (in_turn d (leaves_beyond d Pages s.level test s.first) (leaves_under Pages s.level js)) old)) (sym both.1)
      ∙ ap (λ (x : List ℕ). leaf_pages Pages (in_turn d x old)) (sym s.leaves)
      ∙ pages_turn Pages d (leaves_beyond d Pages (Top - length path.items) test pid) old
      ∙ l in
      record { walk = p.walk; known = p.known; leaves = p.leaves ∙ same }

  -- at least one child is kept
  pub no_dead_end : (path : SmallVec (List ℕ)) (test : List ℕ → Bool) (pid : ℕ) (page : PageOfKind) → IsAt t (length path.items) pid → Some page ≡ page_at Pages pid → IsIndex page → values_of (children_beyond d test (child_entries page)) ≡ [] → ⊥
  no_dead_end path test pid page at h x e =
      let s = at_index Pages d (Top - length path.items) pid test page at.known h x in
      never_empty d s.first s.rest (subst (λ (xs : List ℕ). IsNext d xs s.first s.rest) e s.parts)

  -- the last page of the path is popped, and its children are pushed again without the next one, at which the iteration continues
  pub step_along : (path popped new : SmallVec (List ℕ)) (test : List ℕ → Bool) (step rest : List ℕ) (child : ℕ) → IsOutermost d test → IsWalk t path → path.items ≡ popped.items ++ step ∷ [] → popped.capacity ≡ path.capacity → IsNext d step child rest
      → new.items ≡ popped.items ++ rest ∷ [] → new.capacity ≡ popped.capacity → IsPushed d t new test child (walk_ahead d t path.items)
  step_along path popped new test step rest child o w i c e j k =
      let top = path_pop Pages Top popped.items step (subst (λ (x : List (List ℕ)). ArePathOf Pages Top x) i w.known) in
      let all = all_next d (IsKnown Pages top.level) child step rest e top.known in
      let lower : IsWalk t popped = record { home = w.home; height = w.height; known = top.below; room = c ∙ w.room } in
      let p = pushed popped new top.level test child rest top.height lower j k all.0 all.1 in
      let old : List ℕ = leaves_ahead d Pages Top popped.items in
      let same : in_turn d (leaves_beyond d Pages top.level test child) (in_turn d (leaves_under Pages top.level rest) old) ≡ leaves_ahead d Pages Top path.items =
      sym (turns_join d (leaves_beyond d Pages top.level test child) (leaves_under Pages top.level rest) old)
      ∙ ap (λ (x : List ℕ). in_turn d (in_turn d x (leaves_under Pages top.level rest)) old) (beyond_all Pages d top.level child test o all.0)
      ∙ ap (λ (x : List ℕ). in_turn d x old) (sym (under_turns Pages d top.level (child ∷ []) rest))
      ∙ ap (λ (js : List ℕ). in_turn d (leaves_under Pages top.level js) old) (sym (next_in_turn d child step rest e))
      ∙ sym (ap (λ (x : List (List ℕ)). leaves_ahead d Pages Top x) i ∙ ahead-push Pages d Top top.level popped.items step top.height) in
      record { walk = p.walk; known = p.known; leaves = p.leaves ∙ ap (λ (x : List ℕ). leaf_pages Pages x) same }

  -- if it has no children left, the iteration continues above it
  pub step_up : (path popped : SmallVec (List ℕ)) (step : List ℕ) (whole : List (Page (List ℕ))) → IsWalk t path → path.items ≡ popped.items ++ step ∷ [] → popped.capacity ≡ path.capacity → step ≡ [] → walk_ahead d t path.items ≡ whole
      → IsWalk t popped × (walk_ahead d t popped.items ≡ whole)
  step_up path popped step whole w i c e l =
      let top = path_pop Pages Top popped.items step (subst (λ (x : List (List ℕ)). ArePathOf Pages Top x) i w.known) in
      let old : List ℕ = leaves_ahead d Pages Top popped.items in
      let same : leaves_ahead d Pages Top path.items ≡ old =
      ap (λ (x : List (List ℕ)). leaves_ahead d Pages Top x) i
      ∙ ahead-push Pages d Top top.level popped.items step top.height
      ∙ ap (λ (x : List ℕ). in_turn d x old) (ap (λ (js : List ℕ). leaves_under Pages top.level js) e ∙ under-none Pages top.level)
      ∙ nothing_first d old in
      (record { home = w.home; height = w.height; known = top.below; room = c ∙ w.room }, ap (λ (x : List ℕ). leaf_pages Pages x) (sym same) ∙ l)

  -- at a leaf, the leaf is the next, and the path leads to the others
  pub at_leaf : (path : SmallVec (List ℕ)) (test : List ℕ → Bool) (pid : ℕ) (page : PageOfKind) (leaf : Page (List ℕ)) (whole : List (Page (List ℕ))) → IsAt t (length path.items) pid → Some page ≡ page_at Pages pid → page ≡ Leaf leaf
      → in_turn d (walk_beyond d t (length path.items) test pid) (walk_ahead d t path.items) ≡ whole → IsNext d whole leaf (walk_ahead d t path.items)
  at_leaf path test pid page leaf whole at h e l = by (Top - length path.items) at.known l
    where
      there : page_at Pages pid ≡ Some (Leaf leaf)
      there = sym h ∙ ap (λ (p : PageOfKind). Some p) e

      by : (n : ℕ) → IsKnown Pages n pid → in_turn d (leaf_pages Pages (leaves_beyond d Pages n test pid)) (walk_ahead d t path.items) ≡ whole → IsNext d whole leaf (walk_ahead d t path.items)
      by zero k g =
          in_turn_next d leaf whole (walk_ahead d t path.items)
          (sym g ∙ ap (λ (o : Option PageOfKind). in_turn d (as_leaf o ∷ []) (walk_ahead d t path.items)) there)
      by (suc n) k g = absurd (let wrong = sym there ∙ k.0 in cc)
