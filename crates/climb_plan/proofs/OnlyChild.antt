-- The only child of an index page: without bounds, the children between the bounds are all children.
use Rattle.std.specs.Prelude.{◌≡◌, ℕ, Bool, true, cond, List, [], ◌∷◌, map, Option, Some, None}
use Rattle.std.proofs.Common.{refl, sym, ap, ◌∙◌, subst}
use Rattle.std.specs.List.{filter}
use Rattle.std.specs.List.Sorted.{IsStrictlySortedBy}
use Rattle.keys.specs.Order.{IsRising}
use Rattle.index_page.specs.Page.{PageOfKind}
use Rattle.index_page.specs.Range.{is_before}
use Rattle.index_page.specs.Children.{Place, children, child_entries, meets, children_within}
use Rattle.index_page.proofs.ChildLemmas.{next_key, place_of, children-cons}
use Rattle.index_page.proofs.RangeLemmas.{less_is_below}
use Rattle.climb_plan.specs.Installing.{page_or_none, only_pid}

-- ---- every child meets the empty key as the lower bound, and none as the upper one

meets_all : (low : List ℕ) (pid : ℕ) (end : Option (List ℕ)) → is_before end low ≡ true → meets [] None (place_of (low, pid) end) ≡ true
meets_all [] pid end h = rw h refl
meets_all (k ∷ ks) pid end h = refl

before_next : (e : List ℕ × ℕ) (es : List (List ℕ × ℕ)) → IsRising (e ∷ es) → is_before (next_key es None) e.0 ≡ true
unfolding IsStrictlySortedBy
before_next e [] r = refl
before_next e (f ∷ es) r = less_is_below e.0 f.0 r.0.0

within_no_bounds : (es : List (List ℕ × ℕ)) → IsRising es → children_within [] None es ≡ es
unfolding IsStrictlySortedBy
within_no_bounds [] r = refl
within_no_bounds (e ∷ es) r =
    let at : Place = place_of e (next_key es None) in
    let rest : List Place = filter (meets [] None) (children es None) in
    ap (λ (ats : List Place). map {B = List ℕ × ℕ} (λ (x : Place). (x.low, x.pid)) (filter (meets [] None) ats)) (children-cons e es None)
    ∙ ap (λ (b : Bool). map {B = List ℕ × ℕ} (λ (x : Place). (x.low, x.pid)) (cond b (at ∷ rest) rest)) (meets_all e.0 e.1 (next_key es None) (before_next e es r))
    ∙ ap (λ (more : List (List ℕ × ℕ)). e ∷ more) (within_no_bounds es r.1)

-- so a walk over them finds the only child
pub walk_tells : (o : Option PageOfKind) (p : PageOfKind) (walk es : List (List ℕ × ℕ)) → Some p ≡ o → IsRising (child_entries (page_or_none o)) → walk ≡ children_within [] None (child_entries p) → walk ≡ es
    → only_pid es ≡ only_pid (child_entries (page_or_none o))
walk_tells o p walk es e r w s =
    let of : Option PageOfKind → List (List ℕ × ℕ) = λ x. child_entries (page_or_none x) in
    let rising : IsRising (child_entries p) = subst (λ (x : Option PageOfKind). IsRising (of x)) (sym e) r in
    ap only_pid (sym s ∙ w ∙ within_no_bounds (child_entries p) rising) ∙ ap (λ (x : Option PageOfKind). only_pid (of x)) e
