-- The pairs of a tree beyond an edge are those of the leaf whose range contains the edge, and all pairs of the leaves that come after it.
use Rattle.std.specs.Prelude.{◌≡◌, ◌⊎◌, ℕ, zero, suc, pred, ◌<◌, Bool, true, false, not, cond, List, [], ◌∷◌, ◌++◌, map, length, Option, Some, None}
use Rattle.std.proofs.Common.{refl, sym, ap, ◌∙◌, subst, arith, append_assoc, append-nil, inl, inr}
use Rattle.std.specs.List.{AllByRecursion, filter}
use Rattle.std.specs.List.Sorted.{IsStrictlySortedBy}
use Rattle.std.specs.Map.{keys_of, values_of}
use Rattle.std.proofs.lemmas.List.{map-append}
use Rattle.std.proofs.lemmas.List.Elements.{filter-append}
use Rattle.keys.specs.Order.{IsRising}
use Rattle.keys.specs.Range.{is_below}
use Rattle.index_page.specs.Page as page
use Rattle.index_page.specs.Page.{Page, PageOfKind}
use Rattle.index_page.specs.Range.{AreBelow, AreFrom}
use Rattle.index_page.specs.Children.{Place, children}
use Rattle.index_page.proofs.ListLemmas.{all_apart, all_keyed}
use Rattle.index_page.proofs.ChildLemmas.{next_key, place_of, children-cons, children-append}
use Rattle.mapping.specs.Tree.{Tree}
use Rattle.mapping.specs.Levels.{Placed, joined, leaf_at, levels_of, contents}
use Rattle.mapping.specs.Proper.{Tiled, AreLevels, HoldsLevels, next_low}
use Rattle.mapping.proofs.TileLemmas.{from-joined, before-joined}
use Rattle.scan.specs.Direction.{IsNext, in_turn}
use Rattle.scan.specs.Edge.{beyond}
use Rattle.scan.specs.Path.{entries_at, children_up, children_beyond, leaves_beyond, leaves_under, leaf_under, leaf_pages, pairs}
use Rattle.scan.specs.RankCounter.{PassesLower}
use Rattle.scan.specs.declared.direction.Direction.{Direction}
use Rattle.scan.specs.declared.direction.Direction.TheVariants.{Up, Down}
use Rattle.scan.proofs.LastLemmas.{each, passes_all, passes_none}
use Rattle.scan.proofs.DirectionLemmas.{nothing_later, turns_join, next_of_both, next_mapped, same_next, not_both}
use Rattle.scan.proofs.PathLemmas.{leaves_under-append, leaves_under-one, leaf_pages-append, under-none}
use Rattle.scan.proofs.PlaceLemmas.{none_passes_later, split_at_edge}
use Rattle.scan.proofs.RangeLemmas.{passing_pass}
use Rattle.scan.proofs.TreeLemmas.{joined-leaves, leaves-below, IsSubtree, tiles, root_place, pairs-append, whole_tree, contents-leaves, AreLast, pages-placed}
use Rattle.scan.proofs.TreeWalks.{Separators, by_first, last_of}

-- of the parts of a list to the left and to the right, the one to which the iteration comes later
abbrev pub side : {X : Type 0} → Direction → List X → List X → List X
side Up left right = right
side Down left right = left

module _ (test : List ℕ → Bool) (lower : PassesLower test) where
  -- children in three parts: those to the left of the child whose range contains the edge, that child, and those to the right
  record IsCut (d : Direction) (es : Separators) : Type 0 where
    pub left : Separators
    pub here : List ℕ × ℕ
    pub right : Separators
    pub parts : es ≡ left ++ here ∷ right
    pub under_here : (left ≡ []) ⊎ (test here.0 ≡ true)
    pub over_right : AllByRecursion (λ (e : List ℕ × ℕ). test e.0 ≡ false) right
    pub kept : IsNext d (children_beyond d test es) here (side d left right)

  up_under : (f : List ℕ × ℕ) (es left right : Separators) (here : List ℕ × ℕ) → test f.0 ≡ true → f ∷ es ≡ left ++ here ∷ right → (left ≡ []) ⊎ (test here.0 ≡ true) → test here.0 ≡ true
  up_under f es [] right here t p u = let same : f ≡ here = cc in subst (λ (x : List ℕ × ℕ). test x.0 ≡ true) same t
  up_under f es (x ∷ left) right here t p (inl e) = absurd (cc)
  up_under f es (x ∷ left) right here t p (inr u) = u

  cut_up_by : (b : Bool) (e f : List ℕ × ℕ) (es : Separators) → test f.0 ≡ b → IsRising (e ∷ f ∷ es) → IsCut Up (f ∷ es) → IsCut Up (e ∷ f ∷ es)
  unfolding IsStrictlySortedBy
  cut_up_by true e f es h r c = record {
    left = e ∷ c.left;
    here = c.here;
    right = c.right;
    parts = ap (λ (x : Separators). e ∷ x) c.parts;
    under_here = inr (up_under f es c.left c.right c.here h c.parts c.under_here);
    over_right = c.over_right;
    kept = ap (λ (b : Bool). cond b (children_up test (f ∷ es)) (e ∷ f ∷ es)) h ∙ c.kept;
  }
  cut_up_by false e f es h r c = record {
    left = [];
    here = e;
    right = f ∷ es;
    parts = refl;
    under_here = inl refl;
    over_right = (h, none_passes_later test lower f.0 es h r.1.0);
    kept = ap (λ (b : Bool). cond b (children_up test (f ∷ es)) (e ∷ f ∷ es)) h;
  }

  cut_up : (es : Separators) → IsRising es → 0 < length es → IsCut Up es
  unfolding IsStrictlySortedBy
  cut_up [] r l = absurd (omega arith)
  cut_up (e ∷ []) r l = record { left = []; here = e; right = []; parts = refl; under_here = inl refl; over_right = tt; kept = refl }
  cut_up (e ∷ f ∷ es) r l = cut_up_by (test f.0) e f es refl r (cut_up (f ∷ es) r.1 (omega arith))

  not_passing : (es : Separators) → AllByRecursion (λ (e : List ℕ × ℕ). test e.0 ≡ false) (filter (λ e. not (test e.0)) es)
  not_passing es = each (λ (e : List ℕ × ℕ) (q : not (test e.0) ≡ true). opposite (test e.0) q) (filter (λ e. not (test e.0)) es) (passing_pass (λ (e : List ℕ × ℕ). not (test e.0)) es)
    where
      opposite : (b : Bool) → not b ≡ true → b ≡ false
      opposite true q = absurd (cc)
      opposite false q = refl

  down_under : (e : List ℕ × ℕ) (kept left : Separators) (here : List ℕ × ℕ) → e ∷ kept ≡ left ++ here ∷ [] → AllByRecursion (λ (f : List ℕ × ℕ). test f.0 ≡ true) kept → (left ≡ []) ⊎ (test here.0 ≡ true)
  down_under e kept [] here h a = inl refl
  down_under e kept (f ∷ left) here h a =
      let rest : kept ≡ left ++ here ∷ [] = cc in
      inr ((all_apart (λ (g : List ℕ × ℕ). test g.0 ≡ true) left (here ∷ []) (subst (λ (x : Separators). AllByRecursion (λ (g : List ℕ × ℕ). test g.0 ≡ true) x) rest a)).1.0)

  cut_down : (es : Separators) → IsRising es → 0 < length es → IsCut Down es
  unfolding IsStrictlySortedBy
  cut_down [] r l = absurd (omega arith)
  cut_down (e ∷ es) r l =
      let under : Separators = filter (λ f. test f.0) es in
      let over : Separators = filter (λ f. not (test f.0)) es in
      let end = last_of e under in
      record {
        left = end.rest;
        here = end.first;
        right = over;
        parts = ap (λ (x : Separators). e ∷ x) (split_at_edge test lower es r.1) ∙ ap (λ (x : Separators). x ++ over) end.next ∙ append_assoc end.rest (end.first ∷ []) over;
        under_here = down_under e under end.rest end.first end.next (passing_pass (λ (f : List ℕ × ℕ). test f.0) es);
        over_right = not_passing es;
        kept = end.next;
      }

  cut : (d : Direction) (es : Separators) → IsRising es → 0 < length es → IsCut d es
  cut Up es r l = cut_up es r l
  cut Down es r l = cut_down es r l

  -- ---- pairs to the left are under the edge, and pairs to the right are not

  under_low : (j low : List ℕ) → is_below j low ≡ true → test low ≡ true → test j ≡ true
  under_low j low b t = lower j low t (not_both Up j low b)

  over_by : (b : Bool) (j low : List ℕ) → test j ≡ b → test low ≡ false → is_below j low ≡ false → b ≡ false
  over_by true j low h n m = absurd (let t = lower low j h m in cc)
  over_by false j low h n m = refl

  module _ (ps : List (ℕ × PageOfKind)) where
    abbrev Held : List ℕ → List (List ℕ × List ℕ)
    Held pids = pairs (leaf_pages ps pids)

    abbrev Under : ℕ → Separators → List ℕ
    Under n es = leaves_under ps n (values_of es)

    abbrev Tiles : ℕ → Separators → List (Placed (List ℕ))
    Tiles n es = map (leaf_at ps) (Under n es)

    left_under : (n : ℕ) (low : List ℕ) (es : Separators) → AllByRecursion (IsSubtree ps n) (children es (Some low)) → test low ≡ true → AllByRecursion (λ x. test x.0 ≡ true) (Held (Under n es))
    left_under n low es a h =
        let t = tiles ps n es (Some low) a in
        let keys : AreBelow low (keys_of (joined (Tiles n es))) = before-joined (Tiles n es) (Some low) t.tiled in
        let below : AreBelow low (keys_of (Held (Under n es))) = subst (λ (x : List (List ℕ × List ℕ)). AreBelow low (keys_of x)) (joined-leaves ps (Under n es)) keys in
        each (λ (x : List ℕ × List ℕ) (b : is_below x.0 low ≡ true). under_low x.0 low b h) (Held (Under n es)) (all_keyed (λ (j : List ℕ). is_below j low ≡ true) (Held (Under n es)) below)

    from_low : (low : List ℕ) (ls : List (Placed (List ℕ))) (end : Option (List ℕ)) → Tiled ls end → next_low ls None ≡ Some low → AreFrom low (keys_of (joined ls))
    from_low low [] end t e = absurd (cc)
    from_low low (p ∷ ls) end t e =
        let same : p.page.low ≡ low = cc in
        subst (λ (j : List ℕ). AreFrom j (keys_of (joined (p ∷ ls)))) same (from-joined p ls end t)

    right_over : (n : ℕ) (es : Separators) (end : Option (List ℕ)) → AllByRecursion (IsSubtree ps n) (children es end) → AllByRecursion (λ (e : List ℕ × ℕ). test e.0 ≡ false) es → AllByRecursion (λ x. test x.0 ≡ false) (Held (Under n es))
    right_over n [] end a b = subst (λ (x : List ℕ). AllByRecursion (λ y. test y.0 ≡ false) (Held x)) (sym (under-none ps n)) tt
    right_over n (e ∷ es) end a b =
        let held : List (List ℕ × List ℕ) = Held (Under n (e ∷ es)) in
        let t = tiles ps n (e ∷ es) end a in
        let keys = from_low e.0 (Tiles n (e ∷ es)) end t.tiled (t.begins None) in
        let from_here : AreFrom e.0 (keys_of held) = subst (λ (x : List (List ℕ × List ℕ)). AreFrom e.0 (keys_of x)) (joined-leaves ps (Under n (e ∷ es))) keys in
        each (λ (x : List ℕ × List ℕ) (m : is_below x.0 e.0 ≡ false). over_by (test x.0) x.0 e.0 refl b.0 m) held (all_keyed (λ (j : List ℕ). is_below j e.0 ≡ false) held from_here)

    -- the pairs beyond the edge of three lists, where the first is below the edge and the last is above it
    three_parts : (d : Direction) (l h r : List (List ℕ × List ℕ)) → AllByRecursion (λ x. test x.0 ≡ true) l → AllByRecursion (λ x. test x.0 ≡ false) r → beyond d test (l ++ (h ++ r)) ≡ in_turn d (beyond d test h) (side d l r)
    three_parts Up l h r a b =
        let p : List ℕ × List ℕ → Bool = λ x. not (test x.0) in
        filter-append p l (h ++ r)
        ∙ ap (λ (x : List (List ℕ × List ℕ)). x ++ filter p (h ++ r)) (passes_none p l (each (λ (x : List ℕ × List ℕ) (q : test x.0 ≡ true). ap not q) l a))
        ∙ filter-append p h r
        ∙ ap (λ (x : List (List ℕ × List ℕ)). filter p h ++ x) (passes_all p r (each (λ (x : List ℕ × List ℕ) (q : test x.0 ≡ false). ap not q) r b))
    three_parts Down l h r a b =
        let p : List ℕ × List ℕ → Bool = λ x. test x.0 in
        filter-append p l (h ++ r)
        ∙ ap (λ (x : List (List ℕ × List ℕ)). x ++ filter p (h ++ r)) (passes_all p l a)
        ∙ ap (λ (x : List (List ℕ × List ℕ)). l ++ x) (filter-append p h r ∙ ap (λ (x : List (List ℕ × List ℕ)). filter p h ++ x) (passes_none p r b) ∙ append-nil (filter p h))

    held_turns : (d : Direction) (xs ys : List ℕ) → Held (in_turn d xs ys) ≡ in_turn d (Held xs) (Held ys)
    held_turns Up xs ys = pairs-append ps xs ys
    held_turns Down xs ys = pairs-append ps ys xs

    held_side : (d : Direction) (n : ℕ) (l r : Separators) → Held (Under n (side d l r)) ≡ side d (Held (Under n l)) (Held (Under n r))
    held_side Up n l r = refl
    held_side Down n l r = refl

    one_next : (d : Direction) (pid : ℕ) → IsNext d (pid ∷ []) pid []
    one_next Up pid = refl
    one_next Down pid = refl

    -- the pairs beyond the edge are those of the first leaf found, as far as they are beyond it, and all pairs of the other leaves found
    pub record IsBeyond (d : Direction) (all found : List ℕ) : Type 0 where
      pub first : ℕ
      pub rest : List ℕ
      pub parts : IsNext d found first rest
      pub kept : beyond d test (Held all) ≡ in_turn d (beyond d test (page.entries (leaf_under ps first))) (Held rest)

    pub way : (d : Direction) (n : ℕ) (at : Place) → IsSubtree ps n at → IsBeyond d (leaves_under ps n (at.pid ∷ [])) (leaves_beyond d ps n test at.pid)
    way d zero at s = record {
      first = at.pid;
      rest = [];
      parts = one_next d at.pid;
      kept = ap (λ (x : List (List ℕ × List ℕ)). beyond d test x) (append-nil (page.entries (leaf_under ps at.pid))) ∙ sym (nothing_later d (beyond d test (page.entries (leaf_under ps at.pid))));
    }
    way d (suc n) at s =
        let es : Separators = entries_at ps at.pid in
        let c = cut d es s.3 s.4 in
        let all = all_apart (IsSubtree ps n) (children c.left (Some c.here.0)) (children (c.here ∷ c.right) at.end)
        (subst (λ (ats : List Place). AllByRecursion (IsSubtree ps n) ats) (ap (λ (x : Separators). children x at.end) c.parts ∙ children-append c.left (c.here ∷ c.right) at.end) s.5) in
        let others = subst (λ (ats : List Place). AllByRecursion (IsSubtree ps n) ats) (children-cons c.here c.right at.end) all.1 in
        let left : AllByRecursion (λ x. test x.0 ≡ true) (Held (Under n c.left)) = elim c.under_here [
          | inl e ↦ subst (λ (x : List ℕ). AllByRecursion (λ y. test y.0 ≡ true) (Held x)) (sym (ap (λ (x : Separators). Under n x) e ∙ under-none ps n)) tt
          | inr h ↦ left_under n c.here.0 c.left all.0 h
        ] in
        let right = right_over n c.right at.end others.1 c.over_right in
        let w = way d n (place_of c.here (next_key c.right at.end)) others.0 in
        let hereabouts : List ℕ = leaves_under ps n (c.here.1 ∷ []) in
        let whole : leaves_under ps (suc n) (at.pid ∷ []) ≡ Under n c.left ++ (hereabouts ++ Under n c.right) =
        leaves_under-one ps n at.pid
        ∙ ap (λ (x : Separators). Under n x) c.parts
        ∙ ap (λ (x : List ℕ). leaves_under ps n x) (map-append (λ (e : List ℕ × ℕ). e.1) c.left (c.here ∷ c.right))
        ∙ leaves_under-append ps n (values_of c.left) (c.here.1 ∷ values_of c.right)
        ∙ ap (λ (x : List ℕ). Under n c.left ++ x) (leaves_under-append ps n (c.here.1 ∷ []) (values_of c.right)) in
        let ahead : List ℕ = Under n (side d c.left c.right) in
        let found : leaves_beyond d ps (suc n) test at.pid ≡ in_turn d (leaves_beyond d ps n test c.here.1) ahead =
        by_first ps d n (λ (e : List ℕ × ℕ). leaves_beyond d ps n test e.1) c.here (children_beyond d test es) (side d c.left c.right) c.kept in
        let own : List (List ℕ × List ℕ) = beyond d test (page.entries (leaf_under ps w.first)) in
        record {
          first = w.first;
          rest = in_turn d w.rest ahead;
          parts = subst (λ (x : List ℕ). IsNext d x w.first (in_turn d w.rest ahead)) (sym found) (next_of_both d w.first (leaves_beyond d ps n test c.here.1) w.rest ahead w.parts);
          kept =
              ap (λ (x : List ℕ). beyond d test (Held x)) whole
              ∙ ap (λ (x : List (List ℕ × List ℕ)). beyond d test x) (pairs-append ps (Under n c.left) (hereabouts ++ Under n c.right) ∙ ap (λ (x : List (List ℕ × List ℕ)). Held (Under n c.left) ++ x) (pairs-append ps hereabouts (Under n c.right)))
              ∙ three_parts d (Held (Under n c.left)) (Held hereabouts) (Held (Under n c.right)) left right
              ∙ ap (λ (x : List (List ℕ × List ℕ)). in_turn d x (side d (Held (Under n c.left)) (Held (Under n c.right)))) w.kept
              ∙ ap (λ (x : List (List ℕ × List ℕ)). in_turn d (in_turn d own (Held w.rest)) x) (sym (held_side d n c.left c.right))
              ∙ turns_join d own (Held w.rest) (Held ahead)
              ∙ ap (λ (x : List (List ℕ × List ℕ)). in_turn d own x) (sym (held_turns d w.rest ahead));
        }

    -- upward, the leaves found are the last leaves
    pub record AreTail (all found : List ℕ) : Type 0 where
      pub before : List ℕ
      pub whole : all ≡ before ++ found

    pub tail : (n : ℕ) (at : Place) → IsSubtree ps n at → AreTail (leaves_under ps n (at.pid ∷ [])) (leaves_beyond Up ps n test at.pid)
    tail zero at s = record { before = []; whole = refl }
    tail (suc n) at s =
        let es : Separators = entries_at ps at.pid in
        let c = cut Up es s.3 s.4 in
        let all = all_apart (IsSubtree ps n) (children c.left (Some c.here.0)) (children (c.here ∷ c.right) at.end)
        (subst (λ (ats : List Place). AllByRecursion (IsSubtree ps n) ats) (ap (λ (x : Separators). children x at.end) c.parts ∙ children-append c.left (c.here ∷ c.right) at.end) s.5) in
        let others = subst (λ (ats : List Place). AllByRecursion (IsSubtree ps n) ats) (children-cons c.here c.right at.end) all.1 in
        let w = tail n (place_of c.here (next_key c.right at.end)) others.0 in
        let below : List ℕ = leaves_beyond Up ps n test c.here.1 in
        let found : leaves_beyond Up ps (suc n) test at.pid ≡ below ++ Under n c.right =
        by_first ps Up n (λ (e : List ℕ × ℕ). leaves_beyond Up ps n test e.1) c.here (children_beyond Up test es) c.right c.kept in
        record {
          before = Under n c.left ++ w.before;
          whole =
              leaves_under-one ps n at.pid
              ∙ ap (λ (x : Separators). Under n x) c.parts
              ∙ ap (λ (x : List ℕ). leaves_under ps n x) (map-append (λ (e : List ℕ × ℕ). e.1) c.left (c.here ∷ c.right))
              ∙ leaves_under-append ps n (values_of c.left) (c.here.1 ∷ values_of c.right)
              ∙ ap (λ (x : List ℕ). Under n c.left ++ x) (leaves_under-append ps n (c.here.1 ∷ []) (values_of c.right) ∙ ap (λ (x : List ℕ). x ++ Under n c.right) w.whole ∙ append_assoc w.before below (Under n c.right))
              ∙ sym (append_assoc (Under n c.left) w.before (below ++ Under n c.right))
              ∙ ap (λ (x : List ℕ). (Under n c.left ++ w.before) ++ x) (sym found);
        }

-- an upward descent leads to the last leaves of the level, in key order
pub last-beyond : (t : Tree) (held : HoldsLevels t.pages (levels_of t)) (levels : AreLevels (levels_of t)) (test : List ℕ → Bool) → PassesLower test → AreLast t held levels (leaves_beyond Up t.pages (pred t.height) test t.root)
last-beyond t held levels test lower =
    let w = tail test lower t.pages (pred t.height) (root_place t.pages t.root) (whole_tree t held levels) in
    let under : List ℕ = leaves_under t.pages (pred t.height) (t.root ∷ []) in
    record {
      before = leaf_pages t.pages w.before;
      whole =
          ap (λ (ls : List (Placed (List ℕ))). map (λ (p : Placed (List ℕ)). p.page) ls) (leaves-below t.pages (pred t.height) (t.root ∷ []) [])
          ∙ pages-placed t held levels under
          ∙ ap (λ (x : List ℕ). leaf_pages t.pages x) w.whole
          ∙ leaf_pages-append t.pages w.before (leaves_beyond Up t.pages (pred t.height) test t.root);
    }

-- if the levels of a tree are in order, its pairs beyond an edge are those of the leaf to which a descent leads, and all pairs of the leaves that come after it
pub contents-beyond : (d : Direction) (t : Tree) → HoldsLevels t.pages (levels_of t) → AreLevels (levels_of t) → (test : List ℕ → Bool) → PassesLower test → (leaf : Page (List ℕ)) (others : List (Page (List ℕ)))
    → IsNext d (leaf_pages t.pages (leaves_beyond d t.pages (pred t.height) test t.root)) leaf others → beyond d test (contents t) ≡ in_turn d (beyond d test (page.entries leaf)) (pairs others)
contents-beyond d t held levels test lower leaf others h =
    let found : List ℕ = leaves_beyond d t.pages (pred t.height) test t.root in
    let w = way test lower t.pages d (pred t.height) (root_place t.pages t.root) (whole_tree t held levels) in
    let both = same_next d (leaf_under t.pages w.first) leaf (leaf_pages t.pages found) (leaf_pages t.pages w.rest) others (next_mapped (leaf_under t.pages) d w.first found w.rest w.parts) h in
    ap (λ (x : List (List ℕ × List ℕ)). beyond d test x) (contents-leaves t held levels)
    ∙ w.kept
    ∙ ap (λ (p : Page (List ℕ)). in_turn d (beyond d test (page.entries p)) (pairs (leaf_pages t.pages w.rest))) both.0
    ∙ ap (λ (x : List (Page (List ℕ))). in_turn d (beyond d test (page.entries leaf)) (pairs x)) both.1
