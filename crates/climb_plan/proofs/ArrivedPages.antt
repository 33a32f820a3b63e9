-- Lemmas on tables by rising pid: a property of the page under each pid is a property of each entry.
use Rattle.std.specs.Prelude.{◌≡◌, ℕ, Bool, true, false, cond, nat_eq, List, [], ◌∷◌, Option, Some, None, IsSome}
use Rattle.std.proofs.Common.{refl, sym, ap, ◌∙◌, subst}
use Rattle.std.specs.Ordering.{nat_cmp, is_eq}
use Rattle.std.specs.List.{AllByRecursion}
use Rattle.std.specs.Map.{keys_of}
use Rattle.std.proofs.lemmas.Bool.{or_parts, eqb-false}
use Rattle.std.proofs.lemmas.Cmp.{tied_itself}
use Rattle.index_page.specs.Page.{Page, PageOfKind}
use Rattle.index_page.specs.Page.PageOfKind.{Leaf, Index}
use Rattle.index_page.proofs.ListLemmas.{all_keys, all_weaker}
use Rattle.mapping.specs.FreshPids.{is_among}
use Rattle.mapping.specs.Levels.{Placed, Levels, all_pids}
use Rattle.mapping.specs.Proper.{AreRisingPids, HasIndexPages, HoldsLevels}
use Rattle.mapping.specs.Table.{Mapping, pids_in_use, place_of, at_home}
use Rattle.mapping.specs.Tree.{listed_at, page_at}
use Rattle.mapping.specs.TreeInMemory.{home_pages}
use Rattle.mapping.proofs.HomePages.{page-home}
use Rattle.mapping.proofs.SameTable.{rest_listed}
use Rattle.mapping.proofs.TableLemmas.{total, differ}
use Rattle.climb_plan.specs.Changing.{AreHome}

-- ---- lists by rising pid

module _ {X : Type 0} where
  -- nothing is listed under a pid that isn't a key
  pub nothing_listed : (n : ℕ) (es : List (ℕ × X)) → is_among n (keys_of es) ≡ false → listed_at es n ≡ None
  nothing_listed n [] h = refl
  nothing_listed n (e ∷ es) h =
      let r = or_parts (nat_eq n e.0) (is_among n (keys_of es)) h in
      rw (differ n e.0 (eqb-false n e.0 r.0)) (nothing_listed n es r.1)

  listed_first : (e : ℕ × X) (es : List (ℕ × X)) → listed_at (e ∷ es) e.0 ≡ Some e.1
  listed_first e es = rw (tied_itself total e.0) refl

  passed_by : (b : Bool) (x y : Option X) (v : X) → x ≡ cond b None y → x ≡ Some v → y ≡ Some v
  passed_by true x y v e f = absurd (cc)
  passed_by false x y v e f = sym e ∙ f

  -- what holds of each pid and what is listed under it holds of each entry
  pub each_listed : (P : ℕ → X → Type 0) (es : List (ℕ × X)) → AreRisingPids (keys_of es) → ((n : ℕ) (v : X) → listed_at es n ≡ Some v → P n v) → AllByRecursion (λ e. P e.0 e.1) es
  each_listed P [] r h = tt
  each_listed P (e ∷ es) r h =
      (h e.0 e.1 (listed_first e es), each_listed P es r.1 (λ n v f. h n v (passed_by (is_eq (nat_cmp n e.0)) (listed_at es n) (listed_at (e ∷ es) n) v (rest_listed n e es r) f)))

-- ---- pages in the table

module _ {P : Type 0} where
  home_keys_by : (n : ℕ) (o : Option P) (es : List (ℕ × Option P)) → IsSome o → keys_of (home_pages es) ≡ keys_of es → keys_of (home_pages ((n, o) ∷ es)) ≡ n ∷ keys_of es
  home_keys_by n None es h e = absurd (cc)
  home_keys_by n (Some p) es h e = ap (λ (ns : List ℕ). n ∷ ns) e

  -- if no page is checked out, the pids of pages are those in use
  pub home_keys : (es : List (ℕ × Option P)) → AllByRecursion (λ e. IsSome e.1) es → keys_of (home_pages es) ≡ keys_of es
  home_keys [] h = refl
  home_keys (e ∷ es) h = home_keys_by e.0 e.1 es h.0 (home_keys es h.1)

module _ (t : Mapping PageOfKind) (all : AllByRecursion (λ e. IsSome e.1) t.places) where
  is_listed : {V : Type 0} (of : Page V → PageOfKind) (p : Placed V) → place_of t p.pid ≡ Some (Some (of p.page)) → page_at (home_pages t.places) p.pid ≡ Some (of p.page)
  is_listed of p h = sym (page-home t.places p.pid all) ∙ ap (λ (o : Option (Option PageOfKind)). at_home o) h

  listed_level : {V : Type 0} (of : Page V → PageOfKind) (ps : List (Placed V)) → AreHome of t ps → AllByRecursion (λ p. page_at (home_pages t.places) p.pid ≡ Some (of p.page)) ps
  listed_level of ps h = all_weaker (λ (p : Placed _). place_of t p.pid ≡ Some (Some (of p.page))) (λ p. page_at (home_pages t.places) p.pid ≡ Some (of p.page)) (is_listed of) ps h

  -- the pages in the table are those of levels that are in the table, if no other pid has a place
  pub holds-home : (l : Levels) → AreHome Leaf t l.level → AllByRecursion (AreHome Index t) l.above → AreRisingPids (pids_in_use t) → ((n : ℕ) (o : Option PageOfKind) → place_of t n ≡ Some o → is_among n (all_pids l.level l.above) ≡ true)
      → HoldsLevels (home_pages t.places) l
  holds-home l h k r m =
      let IsIn : ℕ → Type 0 = λ n. is_among n (all_pids l.level l.above) ≡ true in
      let keys : AllByRecursion IsIn (keys_of t.places) = all_keys IsIn t.places (each_listed (λ n o. IsIn n) t.places r m) in
      record {
        leaves = listed_level Leaf l.level h;
        above = all_weaker (AreHome Index t) (HasIndexPages (home_pages t.places)) (listed_level Index) l.above k;
        no_other = subst (λ (ns : List ℕ). AllByRecursion IsIn ns) (sym (home_keys t.places all)) keys;
      }
