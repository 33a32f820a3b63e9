-- A group is replaced: its members' pages are taken out of the tree, and then its new pages are put into it.
use Rattle.std.specs.Prelude.{◌≡◌, ◌≢◌, ℕ, ◌-◌, ◌<◌, false, List, [], ◌∷◌, ◌++◌, take, drop, length, get_or, Option, Some, None, IsSome}
use Rattle.std.proofs.Common.{refl, sym, ap, ◌∙◌, subst, arith}
use Rattle.keys.specs.declared.settings.Settings.{Settings}
use Rattle.index_page.specs.Page.{PageOfKind}
use Rattle.index_page.proofs.ListLemmas.{all_apart}
use Rattle.mapping.specs.FreshPids.{is_among}
use Rattle.mapping.specs.Outdate.{outdate_all}
use Rattle.mapping.specs.Proper.{Distinct}
use Rattle.mapping.specs.Table.{Mapping, place_of, page_of, at_home, with_place, log_outdated}
use Rattle.mapping.specs.TreeInMemory.{TreeInMemory}
use Rattle.split_plan.specs.Pieces.{CanJoin, group_made}
use Rattle.climb_plan.specs.Rewriting.{Remade}
use Rattle.climb_plan.specs.Installing.{page_or_none, pages_under, members_freed, members_taken, CanInstall}
use Rattle.climb_plan.proofs.Installing.{AreAllAtHome, tree_freed, place_here, placed_apart, all_kept, under_apart, put_again, rest_is, replaced_by, distinct_first}
use Rattle.climb_plan.proofs.InstallingLemmas.{not_among, others-members_freed, put_before_freed, rising_with_place}

-- ---- the members are taken

pub split_members : (ms : List ℕ) (k : ℕ) → 0 < length ms → k ≡ get_or ms 0 k → ms ≡ k ∷ take (length ms - 1) (drop 1 ms)
split_members [] k l e = absurd (omega arith)
split_members (m ∷ ms) k l e =
    let same : m ≡ k = sym e in
    ap (λ (x : ℕ). x ∷ ms) same ∙ ap (λ (xs : List ℕ). k ∷ xs) (sym (rest_is (m ∷ ms) m ms refl))

abbrev without_first : Mapping PageOfKind → ℕ → Mapping PageOfKind
without_first t k = log_outdated (with_place t k None) k

-- after the first one is taken, the others are in the table
pub others_home : (tree taken known : TreeInMemory) (k : ℕ) (ks all : List ℕ) → all ≡ k ∷ ks → taken ≡ record tree { table = with_place tree.table k None } → known ≡ record taken { table = log_outdated taken.table k } → AreAllAtHome tree.table all → AreAllAtHome known.table ks
others_home tree taken known k ks all e a b home =
    let here : AreAllAtHome tree.table (k ∷ ks) = subst (λ (ns : List ℕ). AreAllAtHome tree.table ns) e home in
    let less : TreeInMemory → TreeInMemory = λ x. record x { table = log_outdated x.table k } in
    let is : known ≡ record tree { table = without_first tree.table k } = b ∙ ap less a in
    let rest : AreAllAtHome (without_first tree.table k) ks = (all_kept (λ o. IsSome (at_home o)) tree.table (without_first tree.table k) k (placed_apart tree.table k None) ks here.1.0 here.0.1, here.1.1) in
    subst (λ (x : TreeInMemory). AreAllAtHome x.table ks) (sym is) rest

pub pages_are : (tree taken known : TreeInMemory) (k : ℕ) (ks all : List ℕ) (none first pages : List PageOfKind) (p : PageOfKind) → all ≡ k ∷ ks → taken ≡ record tree { table = with_place tree.table k None } → known ≡ record taken { table = log_outdated taken.table k } → AreAllAtHome tree.table all
    → none ≡ [] → first ≡ none ++ p ∷ [] → page_of tree.table k ≡ Some p → pages ≡ first ++ pages_under known.table ks → pages ≡ pages_under tree.table all
pages_are tree taken known k ks all none first pages p e a b home z f here n =
    let less : TreeInMemory → TreeInMemory = λ x. record x { table = log_outdated x.table k } in
    let is : known ≡ record tree { table = without_first tree.table k } = b ∙ ap less a in
    let apart = (subst (λ (ns : List ℕ). AreAllAtHome tree.table ns) e home).1.0 in
    let rest : pages_under known.table ks ≡ pages_under tree.table ks = ap (λ (x : TreeInMemory). pages_under x.table ks) is ∙ under_apart tree.table (without_first tree.table k) k ks (placed_apart tree.table k None) apart in
    n ∙ ap (λ (ps : List PageOfKind). ps ++ pages_under known.table ks) (f ∙ ap (λ (ps : List PageOfKind). ps ++ p ∷ []) z)
    ∙ ap (λ (ps : List PageOfKind). p ∷ ps) rest
    ∙ ap (λ (o : Option PageOfKind). page_or_none o ∷ pages_under tree.table ks) (sym here)
    ∙ ap (λ (ns : List ℕ). pages_under tree.table ns) (sym e)

-- ---- the group is ready

pub members_at_home : (t : Mapping PageOfKind) (r : Remade) (ms : List ℕ) → ms ≡ r.members → CanInstall t r → AreAllAtHome t ms
members_at_home t r ms e can = subst (λ (ns : List ℕ). AreAllAtHome t ns) (sym e) (can.members, distinct_first r.members r.fresh can.distinct)

-- the new pages are those of the pages that were taken
pub pieces_of_taken : (t : Mapping PageOfKind) (r : Remade) (ms : List ℕ) (pieces taken : List PageOfKind) → ms ≡ r.members → pieces ≡ r.pieces → taken ≡ pages_under t ms → CanInstall t r → (s : Settings) × CanJoin taken × (pieces ≡ group_made s taken)
pieces_of_taken t r ms pieces taken e p q can =
    let same : pages_under t r.members ≡ taken = ap (λ (ns : List ℕ). pages_under t ns) (sym e) ∙ sym q in
    let made = can.made in
    (made.0, subst (λ (ps : List PageOfKind). CanJoin ps) same made.1, p ∙ made.2 ∙ ap (λ (ps : List PageOfKind). group_made made.0 ps) same)

-- ---- the first new page

module _ (tree : TreeInMemory) (r : Remade) (k : ℕ) (ks : List ℕ) (can : CanInstall tree.table r) (is : r.members ≡ k ∷ ks) (taken : TreeInMemory) (ms : List ℕ) (e : ms ≡ r.members) (t : taken ≡ record tree { table = members_taken tree.table ms }) where
  abbrev distinct : Distinct (k ∷ ks ++ r.fresh)
  distinct = subst (λ (ns : List ℕ). Distinct (ns ++ r.fresh)) is can.distinct

  not_later : is_among k ks ≡ false
  not_later = not_among k ks (all_apart (λ m. m ≢ k) ks r.fresh distinct.0).0

  same : taken ≡ record tree { table = members_freed (without_first tree.table k) ks }
  same = t ∙ ap (λ (ns : List ℕ). record tree { table = members_taken tree.table ns }) (e ∙ is)

  -- its place is empty
  pub first_is_empty : place_of taken.table k ≡ Some None
  first_is_empty =
      ap (λ (x : TreeInMemory). place_of x.table k) same ∙ others-members_freed k (without_first tree.table k) ks not_later ∙ place_here tree.table k None

  -- when it is put there, all is as if the other members were freed after it
  pub first_is_put : (put : TreeInMemory) (p : PageOfKind) → put ≡ record taken { table = with_place taken.table k (Some p) } → put ≡ tree_freed (record tree { table = replaced_by tree.table k p }) ks
  first_is_put put p n =
      let at : TreeInMemory → TreeInMemory = λ x. record x { table = with_place x.table k (Some p) } in
      let whole : Mapping PageOfKind → TreeInMemory = λ u. record tree { table = u } in
      let u : Mapping PageOfKind = without_first tree.table k in
      let logged = outdate_all (k ∷ []) tree.table.logged in
      n ∙ ap at same ∙ ap whole (put_before_freed u k ks p (rising_with_place tree.table k None can.rising) (distinct_first ks r.fresh distinct.1) not_later)
      ∙ ap (λ (es : List (ℕ × Option PageOfKind)). whole (members_freed (record { places = es; logged = logged }) ks)) (put_again tree.table.places k None (Some p))
