-- Lemmas on the children of one parent in the parent's view, for the proofs of this crate.
use Rattle.std.specs.Prelude.{◌≡◌, ℕ, zero, suc, ◌+◌, ◌<◌, ◌≤◌, List, [], ◌∷◌, ◌++◌, map, take, drop, length, slice_get, Some, None}
use Rattle.std.proofs.Common.{refl, sym, ap, ◌∙◌, subst, get_or, arith}
use Rattle.std.specs.Map.{keys_of, values_of}
use Rattle.std.proofs.lemmas.List.{take_more, drop_more, length-map}
use Rattle.keys.specs.Order.{IsRising}
use Rattle.index_page.specs.Page as page
use Rattle.index_page.specs.Page.{Page, PageOfKind, low_of, IsLeaf}
use Rattle.index_page.specs.Page.PageOfKind.{Index}
use Rattle.mapping.specs.Levels.{Placed, entries}
use Rattle.mapping.specs.Table.{Mapping, page_of}
use Rattle.climb_plan.specs.Changing.{SeenPage}
use Rattle.climb_plan.specs.Rewriting.{all_seen, seen_name, AreSeenIn, AreParted, IsNextChild, IsFamilyOf}
use Rattle.climb_plan.specs.declared.seen.Seen.{Seen}
use Rattle.climb_plan.proofs.LevelParts.{family_of}
use Rattle.climb_plan.proofs.RewritingSeen.{rising_later}

abbrev pub Separators : Type 0
Separators = List (List ℕ × ℕ)

-- ---- parts of lists

element : {X : Type 0} (xs : List X) (i : ℕ) → i < length xs → (x : X) × (x ≡ get_or xs i x)
element [] i l = absurd (omega arith)
element (x ∷ xs) zero l = (x, refl)
element (x ∷ xs) (suc i) l = element xs i (omega arith)

low_at : (xs : List SeenPage) (i : ℕ) (x : SeenPage) (k : List ℕ) → i < length xs → x ≡ get_or xs i x → slice_get (keys_of (map seen_name xs)) i ≡ Some k → k ≡ low_of x.page
low_at [] i x k l e g = absurd (omega arith)
low_at (y ∷ ys) zero x k l e g = let low : low_of y.page ≡ k = cc in sym low ∙ ap (λ (z : SeenPage). low_of z.page) (sym e)
low_at (y ∷ ys) (suc i) x k l e g = low_at ys i x k (omega arith) e g

pid_at : (xs : List SeenPage) (i : ℕ) (x : SeenPage) (n : ℕ) → i < length xs → x ≡ get_or xs i x → slice_get (values_of (map seen_name xs)) i ≡ Some n → n ≡ x.pid
pid_at [] i x n l e g = absurd (omega arith)
pid_at (y ∷ ys) zero x n l e g = let pid : y.pid ≡ n = cc in sym pid ∙ ap (λ (z : SeenPage). z.pid) (sym e)
pid_at (y ∷ ys) (suc i) x n l e g = pid_at ys i x n (omega arith) e g

following : (seen : List Seen) (before from : List SeenPage) → all_seen seen ≡ before ++ from → (length before ≤ length seen) × (all_seen (drop (length before) seen) ≡ from)
following seen [] from e = (omega arith, e)
following [] (y ∷ ys) from e = absurd (cc)
following (x ∷ xs) (y ∷ ys) from e = let rest : all_seen xs ≡ ys ++ from = cc in let r = following xs ys from rest in (omega (arith, r.0), r.1)

all_taken : {X : Type 0} (xs : List X) (n : ℕ) → n ≡ length xs → (take n xs ≡ xs) × (drop n xs ≡ [])
all_taken [] zero e = (refl, refl)
all_taken [] (suc n) e = absurd (omega arith)
all_taken (x ∷ xs) zero e = absurd (omega arith)
all_taken {X} (x ∷ xs) (suc n) e = let r = all_taken xs n (omega arith) in (ap (λ (ys : List X). x ∷ ys) r.0, r.1)

-- ---- the walk over the children

module _ (t : Mapping PageOfKind) (seen : List Seen) (es : Separators) (children later : List SeenPage) where
  -- the children before `at` are seen; the remaining ones, and the pages after them, begin at `next`
  pub record IsSoFar (next at : ℕ) (made : List SeenPage) : Type 0 where
    pub named : es ≡ map seen_name children
    pub seen_so_far : made ≡ take at children
    pub left : AreSeenIn t (all_seen (drop next seen)) (drop at children ++ later)
    pub in_order : IsRising (map seen_name (drop at children ++ later))

  -- the child at a place
  pub record IsChildAt (next at : ℕ) (low : List ℕ) (pid : ℕ) (x : SeenPage) : Type 0 where
    pub at_place : x ≡ get_or children at x
    pub next_child : IsNextChild t (all_seen (drop next seen)) low pid x (drop (at + 1) children ++ later)

  within : (at : ℕ) → es ≡ map seen_name children → at < length es → at < length children
  within at e l = let n : length es ≡ length children = ap (λ (ns : Separators). length ns) e ∙ length-map children seen_name in omega arith

  pub child_at : (next at : ℕ) (made : List SeenPage) (low : List ℕ) (pid : ℕ) → IsSoFar next at made → at < length es → slice_get (keys_of es) at ≡ Some low → slice_get (values_of es) at ≡ Some pid → (x : SeenPage) × IsChildAt next at low pid x
  child_at next at made low pid h l k v =
      let w = within at h.named l in
      let x = element children at w in
      let parts : drop at children ++ later ≡ x.0 ∷ (drop (at + 1) children ++ later) = ap (λ (xs : List SeenPage). xs ++ later) (drop_more children at x.0 w ∙ ap (λ (y : SeenPage). y ∷ drop (at + 1) children) (sym x.1)) in (
        x.0,
        record {
          at_place = x.1;
          next_child = record {
            seen = subst (λ (xs : List SeenPage). AreSeenIn t (all_seen (drop next seen)) xs) parts h.left;
            same_low = low_at children at x.0 low w x.1 (ap (λ (ns : Separators). slice_get (keys_of ns) at) (sym h.named) ∙ k);
            same_pid = pid_at children at x.0 pid w x.1 (ap (λ (ns : Separators). slice_get (values_of ns) at) (sym h.named) ∙ v);
            rising = subst (λ (xs : List SeenPage). IsRising (map seen_name xs)) parts h.in_order;
          };
        },
      )

  pub one_more : (next after at : ℕ) (made more : List SeenPage) (low : List ℕ) (pid : ℕ) (x z : SeenPage) → IsSoFar next at made → at < length es → IsChildAt next at low pid x → more ≡ made ++ z ∷ [] → (z ≡ x) × AreSeenIn t (all_seen (drop after seen)) (drop (at + 1) children ++ later)
      → IsSoFar after (at + 1) more
  one_more next after at made more low pid x z h l c m r =
      let w = within at h.named l in
      record {
        named = h.named;
        seen_so_far =
            m ∙ ap (λ (xs : List SeenPage). xs ++ z ∷ []) h.seen_so_far ∙ ap (λ (y : SeenPage). take at children ++ y ∷ []) (r.0 ∙ c.at_place) ∙ sym (take_more children at x w);
        left = r.1;
        in_order = rising_later x (drop (at + 1) children ++ later) c.next_child.rising;
      }

  pub all_children : (next at : ℕ) (made : List SeenPage) → IsSoFar next at made → at ≡ length es → (made ≡ children) × AreSeenIn t (all_seen (drop next seen)) later
  all_children next at made h e =
      let n : length es ≡ length children = ap (λ (ns : Separators). length ns) h.named ∙ length-map children seen_name in
      let r = all_taken children at (omega arith) in
      (h.seen_so_far ∙ r.0, subst (λ (xs : List SeenPage). AreSeenIn t (all_seen (drop next seen)) (xs ++ later)) r.1 h.left)

-- ---- where the walk begins

module _ (t : Mapping PageOfKind) (seen : List Seen) (parent : ℕ) (p : Placed ℕ) (before from children later : List SeenPage) (e : parent ≡ p.pid) (h : IsFamilyOf t (all_seen seen) (family_of p before from children later)) where
  pub same_parent : (page : PageOfKind) → Some page ≡ page_of t parent → page ≡ Index p.page
  same_parent page f = let home : page_of t parent ≡ Some (Index p.page) = ap (λ (n : ℕ). page_of t n) e ∙ h.home in cc

  pub parent_at_home : None ≡ page_of t parent → ⊥
  parent_at_home f = let home : page_of t parent ≡ Some (Index p.page) = ap (λ (n : ℕ). page_of t n) e ∙ h.home in absurd (cc)

  pub parent_is_index : (page : PageOfKind) → Some page ≡ page_of t parent → IsLeaf page → ⊥
  parent_is_index page f l = absurd (subst (λ (q : PageOfKind). IsLeaf q) (same_parent page f) l)

  pub parted_by : (page : PageOfKind) (low : List ℕ) → Some page ≡ page_of t parent → low ≡ low_of page → AreParted low (all_seen seen) before from
  parted_by page low f l =
      let same : p.page.low ≡ low = ap (λ (q : PageOfKind). low_of q) (sym (same_parent page f)) ∙ sym l in
      subst (λ (k : List ℕ). AreParted k (all_seen seen) before from) same h.parted

  pub before_within : length before ≤ length seen
  before_within = (following seen before from h.parted.joined).0

  pub at_start : (es : Separators) (next : ℕ) (made : List SeenPage) → es ≡ entries p → next ≡ length before → made ≡ [] → IsSoFar t seen es children later next 0 made
  at_start es next made l n m =
      let r : all_seen (drop next seen) ≡ from = ap (λ (i : ℕ). all_seen (drop i seen)) n ∙ (following seen before from h.parted.joined).1 in
      record {
        named = l ∙ h.linked;
        seen_so_far = m;
        left = subst (λ (xs : List SeenPage). AreSeenIn t xs (children ++ later)) (sym r) h.seen;
        in_order = h.rising;
      }

  -- the entries that were read
  pub same_entries : (q : PageOfKind) (own : Page ℕ) (es : Separators) → Some q ≡ page_of t parent → q ≡ Index own → es ≡ page.entries own → es ≡ entries p
  same_entries q own es f i r = let same : Index own ≡ Index p.page = sym i ∙ same_parent q f in let pages : own ≡ p.page = cc in r ∙ ap (λ (o : Page ℕ). page.entries o) pages
