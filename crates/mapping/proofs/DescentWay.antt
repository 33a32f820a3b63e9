-- The descent of a key from the root of stacked levels, for the proofs of this crate and of those above it.
use Rattle.std.specs.Prelude.{◌≡◌, ℕ, zero, suc, pred, ◌+◌, ◌-◌, ◌<◌, true, false, List, [], ◌∷◌, ◌++◌, map, length, Option, Some, None}
use Rattle.std.proofs.Common.{refl, sym, ap, ◌∙◌, subst, arith, length-append}
use Rattle.std.specs.List.{AllByRecursion, filter}
use Rattle.std.specs.Map.{values_of}
use Rattle.std.proofs.lemmas.List.{length-map, map-append}
use Rattle.std.proofs.lemmas.List.Elements.{filter-append}
use Rattle.std.proofs.lemmas.List.Sums.{length-filter}
use Rattle.keys.specs.OrderedMap.{value_at}
use Rattle.delta_chain.specs.Layers.{Layers, entries_of}
use Rattle.index_page.specs.Page.{Page, PageOfKind}
use Rattle.index_page.specs.Page.PageOfKind.{Leaf, Index}
use Rattle.index_page.specs.Range.{is_below, is_before, is_within}
use Rattle.index_page.specs.Rules.{IsHeaded}
use Rattle.index_page.specs.Children.{Place, children, is_place_for, child_entries, HasChildFor}
use Rattle.index_page.proofs.ListLemmas.{all_apart, all_weaker}
use Rattle.index_page.proofs.RangeLemmas.{from_nothing}
use Rattle.index_page.proofs.ChildLemmas.{next_key, place_of, children-append, within, within_parts}
use Rattle.mapping.specs.Descent.{pids_for, IsChildFor, HasWay, LeadsTo, IsLeafFor}
use Rattle.mapping.specs.Levels.{Placed, Levels, entries, joined, name, names, index_at, levels_below, levels_of, contents, top_pid}
use Rattle.mapping.specs.Proper.{next_low, Tiled, Stacked, AreLevels, HasLeaves, HoldsItsLevels}
use Rattle.mapping.specs.Table.{page_of}
use Rattle.mapping.specs.Tree.{Tree, page_at}
use Rattle.mapping.specs.TreeInMemory.{TreeInMemory, AreAllHome, tree_of}
use Rattle.mapping.proofs.HomePages.{page-home}
use Rattle.mapping.proofs.Joined.{next_joined}
use Rattle.mapping.proofs.SameTree.{root_on_top}
use Rattle.mapping.proofs.TileLemmas.{Separators, next_low-parents, joined-append, range-names, one_page, page_for, value_at-joined}

-- ---- lists of one element

only_one : {X : Type 0} (xs zs : List X) (y : X) → length (xs ++ y ∷ zs) ≡ 1 → xs ++ y ∷ zs ≡ y ∷ []
only_one [] [] y h = refl
only_one [] (z ∷ zs) y h = absurd (omega arith)
only_one (x ∷ xs) zs y h = absurd (omega (arith, length-append xs (y ∷ zs)))

module _ (k : List ℕ) where
  -- of places the pids of those for the key
  abbrev pids_of : List Place → List ℕ
  pids_of ats = map (λ at. at.pid) (filter (is_place_for k) ats)

  pids_of-append : (xs ys : List Place) → pids_of (xs ++ ys) ≡ pids_of xs ++ pids_of ys
  pids_of-append xs ys = ap (λ (ats : List Place). map (λ at. at.pid) ats) (filter-append (is_place_for k) xs ys) ∙ map-append (λ (at : Place). at.pid) (filter (is_place_for k) xs) (filter (is_place_for k) ys)

  chosen : (at : Place) (ats : List Place) → is_place_for k at ≡ true → pids_of (at ∷ ats) ≡ at.pid ∷ pids_of ats
  chosen at ats h = rw h refl

  from_all : is_within [] None k ≡ true
  from_all = within [] None k (from_nothing (k ∷ [])).0 refl

  module _ {V : Type 0} where
    one_pid : (ps : List (Placed V)) → Tiled ps None → next_low ps None ≡ Some [] → length (pids_for k (names ps)) ≡ 1
    one_pid ps t f = length-map (filter (is_place_for k) (children (names ps) None)) (λ (at : Place). at.pid) ∙ length-filter (is_place_for k) (children (names ps) None) ∙ one_page ps None [] k t f from_all

    -- the page in whose range the key is
    pub pid_for : (xs ys : List (Placed V)) (p : Placed V) (ps : List (Placed V)) → ps ≡ xs ++ p ∷ ys → Tiled ps None → next_low ps None ≡ Some [] → is_within p.page.low (next_low ys None) k ≡ true → pids_for k (names ps) ≡ p.pid ∷ []
    pid_for xs ys p ps e t f w =
        let before : List Place = children (names xs) (Some p.page.low) in
        let here : Place = place_of (name p) (next_low ys None) in
        let after : List Place = children (names ys) None in
        let parts : pids_for k (names ps) ≡ pids_of before ++ p.pid ∷ pids_of after =
        ap (λ (qs : List (Placed V)). pids_for k (names qs)) e ∙ ap (λ (ats : List Place). pids_of ats) (range-names xs ys p None) ∙ pids_of-append before (here ∷ after) ∙ ap (λ (ns : List ℕ). pids_of before ++ ns) (chosen here after w) in
        let one : length (pids_of before ++ p.pid ∷ pids_of after) ≡ 1 = ap (λ (ns : List ℕ). length ns) (sym parts) ∙ one_pid ps t f in
        parts ∙ only_one (pids_of before) (pids_of after) p.pid one

    -- and the page below it
    child_pid_for : (xs ys : List (Placed ℕ)) (p : Placed ℕ) (ps : List (Placed V)) (child : ℕ) → joined (xs ++ p ∷ ys) ≡ names ps → AllByRecursion (λ q. IsHeaded 1 q.page) ys → Tiled ps None → next_low ps None ≡ Some [] → is_within p.page.low (next_low ys None) k ≡ true
        → ((end : Option (List ℕ)) → is_before end k ≡ true → pids_of (children (entries p) end) ≡ child ∷ []) → pids_for k (names ps) ≡ child ∷ []
    child_pid_for xs ys p ps child l hd t f w has =
        let later : Separators = joined ys in
        let end : Option (List ℕ) = next_key later None in
        let same : end ≡ next_low ys None = next_joined ys None hd in
        let inside : is_before end k ≡ true = ap (λ (e : Option (List ℕ)). is_before e k) same ∙ (within_parts p.page.low (next_low ys None) k w).1 in
        let before : List Place = children (joined xs) (next_key (entries p ++ later) None) in
        let own : List Place = children (entries p) end in
        let after : List Place = children later None in
        let parts : pids_for k (names ps) ≡ pids_of before ++ child ∷ pids_of after =
        ap (λ (ns : Separators). pids_of (children ns None)) (sym l)
        ∙ ap (λ (ns : Separators). pids_of (children ns None)) (joined-append xs (p ∷ ys))
        ∙ ap (λ (ats : List Place). pids_of ats) (children-append (joined xs) (entries p ++ later) None)
        ∙ pids_of-append before (children (entries p ++ later) None)
        ∙ ap (λ (ats : List Place). pids_of before ++ pids_of ats) (children-append (entries p) later None)
        ∙ ap (λ (ns : List ℕ). pids_of before ++ ns) (pids_of-append own after)
        ∙ ap (λ (ns : List ℕ). pids_of before ++ (ns ++ pids_of after)) (has end inside) in
        let one : length (pids_of before ++ child ∷ pids_of after) ≡ 1 = ap (λ (ns : List ℕ). length ns) (sym parts) ∙ one_pid ps t f in
        parts ∙ only_one (pids_of before) (pids_of after) child one

-- ---- from level to level

-- a number of levels above these pages, the pid is that of the page in whose range the key lies
abbrev pub IsOnWay : {V : Type 0} → ℕ → List (Placed V) → List (List (Placed ℕ)) → List ℕ → ℕ → Type 0
IsOnWay zero ps ups k pid = pids_for k (names ps) ≡ pid ∷ []
IsOnWay (suc n) ps [] k pid = ⊥
IsOnWay (suc n) ps (up ∷ ups) k pid = IsOnWay n up ups k pid

-- pages, with the levels of index pages up to a root, which are in the table
pub record AreUnder {V : Type 0} (at : ℕ → Option PageOfKind) (ps : List (Placed V)) (ups : List (List (Placed ℕ))) : Type 0 where
  pub home : AllByRecursion (AllByRecursion (λ p. at p.pid ≡ Some (Index p.page))) ups
  pub tiled : Tiled ps None
  pub first : next_low ps None ≡ Some []
  pub stacked : Stacked ps ups

module _ (at : ℕ → Option PageOfKind) where
  abbrev IsHome : Placed ℕ → Type 0
  IsHome p = at p.pid ≡ Some (Index p.page)

  go_up : {V : Type 0} (ps : List (Placed V)) (up : List (Placed ℕ)) (ups : List (List (Placed ℕ))) → AreUnder at ps (up ∷ ups) → AreUnder at up ups
  go_up ps up ups h = record {
    home = h.home.1;
    tiled = h.stacked.0.tiled;
    first = sym (next_low-parents up ps h.stacked.0.linked h.stacked.0.headed) ∙ h.first;
    stacked = h.stacked.1;
  }

  module _ (k : List ℕ) where
    way_top : {V : Type 0} (ps : List (Placed V)) → AreUnder at ps [] → pids_for k (names ps) ≡ top_pid ps [] ∷ []
    way_top [] h = absurd (let one : 0 ≡ 1 = h.stacked in omega arith)
    way_top (p ∷ []) h =
        let low : p.page.low ≡ [] = cc (h.first) in
        pid_for k [] [] p (p ∷ []) refl h.tiled h.first (subst (λ (l : List ℕ). is_within l None k ≡ true) (sym low) (from_all k))
    way_top (p ∷ q ∷ ps) h = absurd (let more = h.stacked in omega arith)

    way_start : {V : Type 0} (ps : List (Placed V)) (ups : List (List (Placed ℕ))) → AreUnder at ps ups → IsOnWay (length ups) ps ups k (top_pid ps ups)
    way_start ps [] h = way_top ps h
    way_start ps (up ∷ ups) h = way_start up ups (go_up ps up ups h)

    -- the page in the table under a pid, which has the key in its range
    record IsFound (up : List (Placed ℕ)) (pid : ℕ) : Type 0 where
      pub before : List (Placed ℕ)
      pub page : Placed ℕ
      pub following : List (Placed ℕ)
      pub parts : up ≡ before ++ page ∷ following
      pub inside : is_within page.page.low (next_low following None) k ≡ true
      pub home : at pid ≡ Some (Index page.page)
      pub own : IsHeaded 1 page.page
      pub headed : AllByRecursion (λ p. IsHeaded 1 p.page) following

    found : {V : Type 0} (ps : List (Placed V)) (up : List (Placed ℕ)) (ups : List (List (Placed ℕ))) (pid : ℕ) → AreUnder at ps (up ∷ ups) → pids_for k (names up) ≡ pid ∷ [] → IsFound up pid
    found ps up ups pid h e =
        let g = go_up ps up ups h in
        let r = page_for up None [] k g.first (from_all k) in
        let same : pids_for k (names up) ≡ r.1.pid ∷ [] = pid_for k r.0 r.2 r.1 up r.3 g.tiled g.first r.4 in
        let pids : pid ≡ r.1.pid = cc in
        let homes : AllByRecursion IsHome (r.0 ++ r.1 ∷ r.2) = subst (λ (qs : List (Placed ℕ)). AllByRecursion IsHome qs) r.3 h.home.0 in
        let heads : AllByRecursion (λ p. IsHeaded 1 p.page) (r.0 ++ r.1 ∷ r.2) = subst (λ (qs : List (Placed ℕ)). AllByRecursion (λ p. IsHeaded 1 p.page) qs) r.3 h.stacked.0.headed in
        let home = all_apart IsHome r.0 (r.1 ∷ r.2) homes in
        let head = all_apart (λ (p : Placed ℕ). IsHeaded 1 p.page) r.0 (r.1 ∷ r.2) heads in
        record {
          before = r.0;
          page = r.1;
          following = r.2;
          parts = r.3;
          inside = r.4;
          home = ap (λ (n : ℕ). at n) pids ∙ home.1.0;
          own = head.1.0;
          headed = head.1.1;
        }

    has_child : (p : Placed ℕ) (end : Option (List ℕ)) → IsHeaded 1 p.page → is_within p.page.low end k ≡ true → HasChildFor (Index p.page) k
    has_child p end h w = (let n = h.some in omega arith, subst (λ (l : List ℕ). is_below k l ≡ false) (sym h.first) (within_parts p.page.low end k w).0)

    -- one or more levels above there is an index page under the pid
    way_index : {V : Type 0} (n : ℕ) (ps : List (Placed V)) (ups : List (List (Placed ℕ))) (pid : ℕ) → AreUnder at ps ups → IsOnWay (suc n) ps ups k pid → (p : Placed ℕ) × (at pid ≡ Some (Index p.page)) × HasChildFor (Index p.page) k
    way_index n ps [] pid h w = absurd w
    way_index zero ps (up ∷ ups) pid h w =
        let r = found ps up ups pid h w in
        (r.page, r.home, has_child r.page (next_low r.following None) r.own r.inside)
    way_index (suc n) ps (up ∷ ups) pid h w = way_index n up ups pid (go_up ps up ups h) w

    -- and the child of that page is the next on the way
    way_down : {V : Type 0} (n : ℕ) (ps : List (Placed V)) (ups : List (List (Placed ℕ))) (pid child : ℕ) (page : PageOfKind) → AreUnder at ps ups → IsOnWay (suc n) ps ups k pid → at pid ≡ Some page → IsChildFor k page child → IsOnWay n ps ups k child
    way_down n ps [] pid child page h w e has = absurd w
    way_down zero ps (up ∷ ups) pid child page h w e has =
        let r = found ps up ups pid h w in
        let home : at pid ≡ Some (Index r.page.page) = r.home in
        let same : page ≡ Index r.page.page = cc in
        let linked : joined (r.before ++ r.page ∷ r.following) ≡ names ps = subst (λ (qs : List (Placed ℕ)). joined qs ≡ names ps) r.parts h.stacked.0.linked in
        let has_own : IsChildFor k (Index r.page.page) child = subst (λ (q : PageOfKind). IsChildFor k q child) same has in
        child_pid_for k r.before r.following r.page ps child linked r.headed h.tiled h.first r.inside has_own
    way_down (suc n) ps (up ∷ ups) pid child page h w e has = way_down n up ups pid child page (go_up ps up ups h) w e has

    -- so a descent finds a page each time, and comes to the page in whose range the key lies
    has_way : {V : Type 0} (n : ℕ) (ps : List (Placed V)) (ups : List (List (Placed ℕ))) (pid : ℕ) → AreUnder at ps ups → IsOnWay n ps ups k pid → HasWay at k n pid
    has_way zero ps ups pid h w = tt
    has_way (suc n) ps ups pid h w =
        let r = way_index n ps ups pid h w in
        (Index r.0.page, r.1, r.2, λ child has. has_way n ps ups child h (way_down n ps ups pid child (Index r.0.page) h w r.1 has))

    leads_there : {V : Type 0} (n : ℕ) (ps : List (Placed V)) (ups : List (List (Placed ℕ))) (pid to : ℕ) → AreUnder at ps ups → IsOnWay n ps ups k pid → LeadsTo at k n pid to → pids_for k (names ps) ≡ to ∷ []
    leads_there zero ps ups pid to h w l = subst (λ (q : ℕ). pids_for k (names ps) ≡ q ∷ []) l w
    leads_there (suc n) ps ups pid to h w l = leads_there n ps ups l.2 to h (way_down n ps ups pid l.2 l.0 h w l.1 l.3) l.4

    -- the same from the root
    pub way_from_root : {V : Type 0} (ps : List (Placed V)) (ups : List (List (Placed ℕ))) (n root : ℕ) → AreUnder at ps ups → n ≡ length ups → root ≡ top_pid ps ups → HasWay at k n root
    way_from_root ps ups n root h far top =
        subst (λ (m : ℕ). HasWay at k m root) (sym far) (subst (λ (q : ℕ). HasWay at k (length ups) q) (sym top) (has_way (length ups) ps ups (top_pid ps ups) h (way_start ps ups h)))

    pub leads_from_root : {V : Type 0} (ps : List (Placed V)) (ups : List (List (Placed ℕ))) (n root to : ℕ) → AreUnder at ps ups → n ≡ length ups → root ≡ top_pid ps ups → LeadsTo at k n root to → pids_for k (names ps) ≡ to ∷ []
    leads_from_root ps ups n root to h far top l =
        leads_there (length ups) ps ups (top_pid ps ups) to h (way_start ps ups h)
        (subst (λ (q : ℕ). LeadsTo at k (length ups) q to) top (subst (λ (m : ℕ). LeadsTo at k m root to) far l))

-- ---- the levels of a tree

-- there are as many levels of index pages as the height says
pub count_above : (pages : List (ℕ × PageOfKind)) (n : ℕ) (level : List ℕ) (above : List (List (Placed ℕ))) → (let l : Levels = levels_below pages n level above in length l.above ≡ n + length above)
count_above pages zero level above = omega arith
count_above pages (suc n) level above =
    let here : List (Placed ℕ) = map (index_at pages) level in
    let e = count_above pages n (values_of (joined here)) (here ∷ above) in
    e ∙ omega arith

same_pred : (i n : ℕ) → i ≡ n - 1 → i ≡ pred n
same_pred i zero h = omega arith
same_pred i (suc n) h = omega arith

-- the leaf of a level that has the key in its range has the value of all leaves there
leaf_found : (t : Tree) (k : List ℕ) (pid : ℕ) → HoldsItsLevels t → AreLevels (levels_of t) → pids_for k (names (levels_of t).level) ≡ pid ∷ [] → IsLeafFor t k pid
leaf_found t k pid held levels e =
    let level : List (Placed (List ℕ)) = (levels_of t).level in
    let r = page_for level None [] k levels.first (from_all k) in
    let xs : List (Placed (List ℕ)) = r.0 in
    let p : Placed (List ℕ) = r.1 in
    let ys : List (Placed (List ℕ)) = r.2 in
    let Held : Placed (List ℕ) → Type 0 = λ q. page_at t.pages q.pid ≡ Some (Leaf q.page) in
    let there = all_apart Held xs (p ∷ ys) (subst (λ (qs : List (Placed (List ℕ))). AllByRecursion Held qs) r.3 held.leaves) in
    let same : pids_for k (names level) ≡ p.pid ∷ [] = pid_for k xs ys p level r.3 levels.tiled levels.first r.4 in
    let pids : pid ≡ p.pid = cc in
    record {
      page = p.page;
      home = ap (λ (q : ℕ). page_at t.pages q) pids ∙ there.1.0;
      value = value_at-joined xs ys p None k (subst (λ (qs : List (Placed (List ℕ))). Tiled qs None) r.3 levels.tiled) r.4 ∙ ap (λ (qs : List (Placed (List ℕ))). value_at k (joined qs)) (sym r.3);
    }

module _ (t : TreeInMemory) (home : AreAllHome t) (held : HoldsItsLevels (tree_of t)) (levels : AreLevels (levels_of (tree_of t))) where
  at_home : (ps : List (Placed ℕ)) → AllByRecursion (λ p. page_at (tree_of t).pages p.pid ≡ Some (Index p.page)) ps → AllByRecursion (λ p. page_of t.table p.pid ≡ Some (Index p.page)) ps
  at_home ps a = all_weaker (λ (p : Placed ℕ). page_at (tree_of t).pages p.pid ≡ Some (Index p.page)) (λ p. page_of t.table p.pid ≡ Some (Index p.page)) (λ p e. page-home t.table.places p.pid home ∙ e) ps a

  tree_under : AreUnder (page_of t.table) (levels_of (tree_of t)).level (levels_of (tree_of t)).above
  tree_under = record {
    home = all_weaker (AllByRecursion (λ (p : Placed ℕ). page_at (tree_of t).pages p.pid ≡ Some (Index p.page))) (AllByRecursion (λ (p : Placed ℕ). page_of t.table p.pid ≡ Some (Index p.page))) at_home (levels_of (tree_of t)).above held.above;
    tiled = levels.tiled;
    first = levels.first;
    stacked = levels.stacked;
  }

  tree_far : (depth : ℕ) → depth ≡ t.height - 1 → depth ≡ length (levels_of (tree_of t)).above
  tree_far depth e =
      let n = count_above (tree_of t).pages (pred t.height) (t.root ∷ []) [] in
      let d : depth ≡ pred t.height = same_pred depth t.height e in
      let z : pred t.height + 0 ≡ pred t.height = omega arith in
      d ∙ sym (n ∙ z)

  tree_top : t.root ≡ top_pid (levels_of (tree_of t)).level (levels_of (tree_of t)).above
  tree_top = sym (root_on_top (tree_of t).pages (pred t.height) t.root)

  pub tree_way : (k : List ℕ) (depth : ℕ) → depth ≡ t.height - 1 → HasWay (page_of t.table) k depth t.root
  tree_way k depth e = way_from_root (page_of t.table) k (levels_of (tree_of t)).level (levels_of (tree_of t)).above depth t.root tree_under (tree_far depth e) tree_top

  pub tree_leads : (k : List ℕ) (depth to : ℕ) → depth ≡ t.height - 1 → LeadsTo (page_of t.table) k depth t.root to → pids_for k (names (levels_of (tree_of t)).level) ≡ to ∷ []
  tree_leads k depth to e l = leads_from_root (page_of t.table) k (levels_of (tree_of t)).level (levels_of (tree_of t)).above depth t.root to tree_under (tree_far depth e) tree_top l

  pub tree_leaf : (k : List ℕ) (depth to : ℕ) → depth ≡ t.height - 1 → LeadsTo (page_of t.table) k depth t.root to → IsLeafFor (tree_of t) k to
  tree_leaf k depth to e l = leaf_found (tree_of t) k to held levels (tree_leads k depth to e l)
