-- The highest level: the pages that the code makes of it are those of the plan, and so are the levels that are added above.
use Rattle.std.specs.Prelude.{◌≡◌, ℕ, zero, suc, ◌+◌, ◌<◌, ◌≤◌, Bool, true, false, cond, nat_lt, List, [], ◌∷◌, ◌++◌, map, flat_map, take, drop, length, Some, None}
use Rattle.std.proofs.Common.{refl, sym, ap, ◌∙◌, subst, arith, append-nil}
use Rattle.std.specs.List.{filter}
use Rattle.std.proofs.lemmas.List.{length-map}
use Rattle.keys.specs.Order.{IsRising}
use Rattle.keys.specs.declared.settings.Settings.{Settings}
use Rattle.index_page.specs.Page.{Page, PageOfKind}
use Rattle.mapping.specs.Levels.{Placed, name, names, pids, top_pid}
use Rattle.mapping.specs.FreshPids.{unused}
use Rattle.mapping.specs.Proper.{next_low, AreRisingPids}
use Rattle.mapping.specs.Table.{Mapping, pids_in_use, with_rooms, fresh_pids, freed_all, IsOldWithoutPlace}
use Rattle.mapping.specs.TreeInMemory.{TreeInMemory}
use Rattle.mapping.proofs.LevelLemmas.{same_pids}
use Rattle.mapping.proofs.TileLemmas.{Separators, rising-names}
use Rattle.page_runs.specs.Updated.{Updated, is_fat}
use Rattle.split_plan.specs.Cut.{cut}
use Rattle.split_plan.specs.UpdatedLevel.{placed_of}
use Rattle.split_plan.specs.Change.{Change, placed_bare, fresh_pages, is_rewritten, remade, changes, fresh_of, all_new, all_fresh}
use Rattle.split_plan.proofs.ChangeLemmas.{remade_by, remade_begins}
use Rattle.climb_plan.specs.Changing.{SeenPage, page_seen, AreSeen}
use Rattle.climb_plan.specs.Changing.AreSeen.{updated, at_home}
use Rattle.climb_plan.specs.Climb.{climb, grown_levels}
use Rattle.climb_plan.specs.Installing.{AreGrown}
use Rattle.climb_plan.specs.Level.{IsKind, IsLevel, remade_of, next_tree, IsTopChanged}
use Rattle.climb_plan.specs.Rewriting.{Remade, is_rewritten_seen, cut_group, CanBeCut, HaveSome, with_numbers, numbers, named_pages, top_names}
use Rattle.climb_plan.proofs.BridgeDrawn.{drawn_places}
use Rattle.climb_plan.proofs.BridgeGroups.{all_rewritten, top_in_order, cut_each}
use Rattle.climb_plan.proofs.BridgePieces.{with_numbers-page_seen, numbers-page_seen, some-page_seen}
use Rattle.climb_plan.proofs.BridgeSeen.{shown_groups, filter-page_seen}
use Rattle.climb_plan.proofs.BridgeTables.{logs_after}
use Rattle.climb_plan.proofs.ChangingGroups.{fresh_on_top}
use Rattle.climb_plan.proofs.Climbs.{tiled-top}
use Rattle.climb_plan.proofs.ClimbingTop.{made_on_top, grown_above}
use Rattle.climb_plan.proofs.LeveledChange.{with_table, numbers_drawn, CanGiveBack}
use Rattle.climb_plan.proofs.LeveledDrawn.{AreGiven, all_given}
use Rattle.climb_plan.proofs.LevelParts.{level_of}

-- ---- all pages were seen

module _ {V : Type 0} (of : Page V → PageOfKind) (t : Mapping PageOfKind) where
  fewer_seen : {xs : List SeenPage} {ws : List (Updated V)} → AreSeen of t xs ws → length xs ≤ length ws
  fewer_seen (AreSeen.none) = omega arith
  fewer_seen (updated w e r) = let ih = fewer_seen r in omega arith
  fewer_seen (at_home p e r) = let ih = fewer_seen r in omega arith

  -- if as many pages were seen as there are, these are all pages
  all_seen : {xs : List SeenPage} {ws : List (Updated V)} → AreSeen of t xs ws → length ws ≤ length xs → xs ≡ map (page_seen of) ws
  all_seen (AreSeen.none) l = refl
  all_seen (updated w e r) l = ap (λ (xs : List SeenPage). page_seen of w ∷ xs) (all_seen r (omega arith))
  all_seen (at_home p e r) l = absurd (let ih = fewer_seen r in omega arith)

pub some_seen : {D : Type 0} (f : D → SeenPage) (ds : List D) → 0 < length ds → 0 < length (map f ds)
some_seen f ds h = subst (λ (n : ℕ). 0 < n) (sym (length-map ds f)) h

-- ---- levels grow above separators

module _ {V W : Type 0} where
  -- above pages with the same separators the same levels grow
  grown_levels-named : (n : ℕ) (s : Settings) (used : List ℕ) (i : ℕ) (ps : List (Placed V)) (qs : List (Placed W)) → names ps ≡ names qs → grown_levels n s used i ps ≡ grown_levels n s used i qs
  grown_levels-named zero s used i ps qs e = refl
  grown_levels-named (suc n) s used i ps qs e =
      let above : Separators → List (List (Placed ℕ)) = λ ns. (let up : List (Placed ℕ) = fresh_pages used i (cut s.fan ns) in up ∷ grown_levels n s used (i + length up) up) in
      let count : length ps ≡ length qs = sym (length-map ps name) ∙ ap (λ (ns : Separators). length ns) e ∙ length-map qs name in
      ap (λ (m : ℕ). cond (nat_lt 1 m) (above (names ps)) []) count ∙ ap (λ (ns : Separators). cond (nat_lt 1 (length qs)) (above ns) []) e

  -- and the same page is the top
  top-named : (ps : List (Placed V)) (qs : List (Placed W)) (ls : List (List (Placed ℕ))) → names ps ≡ names qs → top_pid ps ls ≡ top_pid qs ls
  top-named [] [] [] e = refl
  top-named [] (q ∷ qs) [] e = absurd (cc)
  top-named (p ∷ ps) [] [] e = absurd (cc)
  top-named (p ∷ ps) (q ∷ qs) [] e = let here : name p ≡ name q = cc in ap (λ (x : List ℕ × ℕ). x.1) here
  top-named ps qs (up ∷ ups) e = refl

-- index pages of these separators
abbrev pages_named : Separators → List (Placed ℕ)
pages_named ns = map (λ n. placed_bare n.1 n.0 []) ns

names-pages_named : (ns : Separators) → names (pages_named ns) ≡ ns
names-pages_named [] = refl
names-pages_named (n ∷ ns) = ap (λ (ms : Separators). n ∷ ms) (names-pages_named ns)

-- ---- the entries of the new pages

module _ {V : Type 0} (of : Page V → PageOfKind) (kind : IsKind of) where
  named_kept : (qs : List (Placed V)) → named_pages (map (λ q. of q.page) qs) (pids qs) ≡ names qs
  named_kept [] = refl
  named_kept (q ∷ qs) =
      ap (λ (k : List ℕ). (k, q.pid) ∷ named_pages (map (λ q. of q.page) qs) (pids qs)) (kind.low q.page) ∙ ap (λ (ns : Separators). name q ∷ ns) (named_kept qs)

  names_by : (s : Settings) (used : List ℕ) (i : ℕ) (b : Bool) (w : Updated V) (root : ℕ) → is_fat w ≡ b → root ≡ w.placed.pid → w.placed.page.low ≡ []
      → top_names root (map (remade_of of) (changes s used i (cond b ((w ∷ []) ∷ []) []))) ≡ names (all_new (changes s used i ((w ∷ []) ∷ []) ∷ []))
  names_by s used i true w root e r l =
      let qs : List (Placed V) = remade s used i (w ∷ []) in
      let own : pids qs ≡ w.placed.pid ∷ pids (drop 1 qs) = same_pids qs (w.placed ∷ drop 1 qs) (remade_begins s used i w []) in
      ap (λ (ns : List ℕ). named_pages (map (λ q. of q.page) qs) ns) (sym own) ∙ named_kept qs ∙ ap (λ (ps : List (Placed V)). names ps) (sym (append-nil (qs ++ []) ∙ append-nil qs))
  names_by s used i false w root e r l =
      let pair : List ℕ → ℕ → List ℕ × ℕ = λ k n. (k, n) in
      ap (λ (n : ℕ). pair [] n ∷ []) r
      ∙ ap (λ (k : List ℕ). pair k w.placed.pid ∷ []) (sym l)
      ∙ ap (λ (b : Bool). names ((remade_by b s used i w [] ++ []) ++ [])) (sym e)

  -- a property of the pages of the highest level in the code holds for the pages of the plan
  names_here : (s : Settings) (used : List ℕ) (i : ℕ) (ws : List (Updated V)) (root : ℕ) → length ws ≡ 1 → root ≡ top_pid (placed_of ws) [] → next_low (placed_of ws) None ≡ Some []
      → top_names root (map (remade_of of) (changes s used i (filter is_rewritten (ws ∷ [])))) ≡ names (all_new (changes s used i (ws ∷ []) ∷ []))
  names_here s used i [] root e r l = absurd (omega arith)
  names_here s used i (w ∷ []) root e r l = names_by s used i (is_fat w) w root refl r (let low : w.placed.page.low ≡ [] = cc in low)
  names_here s used i (w ∷ v ∷ ws) root e r l = absurd (omega arith)

module _ {V : Type 0} where
  -- something is made of it
  some_made : (s : Settings) (used : List ℕ) (i : ℕ) (ws : List (Updated V)) → length ws ≡ 1 → 0 < length (names (all_new (changes s used i (ws ∷ []) ∷ [])))
  some_made s used i [] e = absurd (omega arith)
  some_made s used i (w ∷ ws) e =
      let qs : List (Placed V) = remade s used i (w ∷ ws) in
      let begins : names qs ≡ name w.placed ∷ names (drop 1 qs) = remade_begins s used i w ws in
      let same : names ((qs ++ []) ++ []) ≡ name w.placed ∷ names (drop 1 qs) = ap (λ (ps : List (Placed V)). names ps) (append-nil (qs ++ []) ∙ append-nil qs) ∙ begins in
      let count : length (names ((qs ++ []) ++ [])) ≡ suc (length (names (drop 1 qs))) = ap (λ (ns : Separators). length ns) same in
      omega arith

-- ---- the level

-- the highest level after page ids were allocated for its new pages: levels can be added above it, and with the levels that the code adds it becomes
-- what the plan makes of it; above index pages with the same entries, if as many page ids are allocated, the same levels are added
pub record IsTopDrawn {V : Type 0} (s : Settings) (of : Page V → PageOfKind) (t u : TreeInMemory) (ws : List (Updated V)) (used : List ℕ) (i : ℕ) (given : List Remade) : Type 0 where
  pub some : 0 < length (top_names u.root given)
  pub named : IsRising (top_names u.root given)
  pub rising : AreRisingPids (pids_in_use u.table)
  pub logs : IsOldWithoutPlace u.table
  pub changed : (after : TreeInMemory) (pid levels : ℕ)
      → ((used : List ℕ) (i : ℕ) (ps : List (Placed ℕ)) → ((m : ℕ) → unused (pids_in_use u.table) m ≡ unused used (i + m)) → names ps ≡ top_names u.root given
      → (pid ≡ top_pid ps (grown_levels (length ps) s used i ps)) × (levels ≡ u.height + length (grown_levels (length ps) s used i ps)) × AreGrown u after (grown_levels (length ps) s used i ps))
      → IsTopChanged s of t after (level_of ws [] used i) given pid levels
  pub next : ℕ
  pub like : List (Placed ℕ)
  pub numbered : (m : ℕ) → unused (pids_in_use u.table) m ≡ unused used (next + m)
  pub like_named : names like ≡ top_names u.root given
  pub too_high : 64 < u.height + length (grown_levels (length like) s used next like) → 64 < t.height + length (climb s used i ws []).tower.above

module _ {V : Type 0} (s : Settings) (of : Page V → PageOfKind) (kind : IsKind of) (z : 0 < s.fan) (t : TreeInMemory) (xs : List SeenPage) (ws : List (Updated V)) (used : List ℕ) (i : ℕ) (h : IsLevel of t xs (level_of ws [] used i)) where
  -- the group, if it is one
  abbrev pub group_on_top : List (List (Updated V))
  group_on_top = filter is_rewritten (ws ∷ [])

  one_page : length ws ≡ 1
  one_page = sym (length-map ws (λ (w : Updated V). w.placed)) ∙ h.stacked

  module _ (some : 0 < length xs) where
    all_here : xs ≡ map (page_seen of) ws
    all_here = let one = one_page in all_seen of t.table h.seen (omega arith)

    -- one page was seen
    pub one_seen : length xs ≡ 1
    one_seen = ap (λ (ys : List SeenPage). length ys) all_here ∙ length-map ws (page_seen of) ∙ one_page

    pub pages_are_one : {D : Type 0} (f : D → SeenPage) (ds : List D) → map f ds ≡ xs → length ds ≡ 1
    pages_are_one f ds e = sym (length-map ds f) ∙ ap (λ (ys : List SeenPage). length ys) e ∙ one_seen

    same_group : filter is_rewritten_seen (xs ∷ []) ≡ shown_groups of group_on_top
    same_group = ap (λ (g : List SeenPage). filter is_rewritten_seen (g ∷ [])) all_here ∙ filter-page_seen of (ws ∷ [])

    -- it can be cut where it is a group
    pub can_cut : CanBeCut (filter is_rewritten_seen (xs ∷ []))
    can_cut = subst (λ (gs : List (List SeenPage)). CanBeCut gs) (sym same_group) (cut_each of kind group_on_top (top_in_order ws None h.tiled))

    module _ (groups : List Remade) (made : groups ≡ map (cut_group s) (filter is_rewritten_seen (xs ∷ []))) where
      group_made : groups ≡ map (cut_group s) (shown_groups of group_on_top)
      group_made = made ∙ ap (λ (gs : List (List SeenPage)). map (cut_group s) gs) same_group

      -- it has a piece then
      pub some_piece : HaveSome groups
      some_piece = subst HaveSome (sym group_made) (some-page_seen of kind s group_on_top (all_rewritten (ws ∷ [])))

      -- as many pids are allocated as there are new pages
      count : numbers groups ≡ length (fresh_of (changes s used i group_on_top))
      count = ap numbers group_made ∙ numbers-page_seen of kind s used i group_on_top (all_rewritten (ws ∷ []))

      -- with its pids it is as the plan says
      remade_here : with_numbers used i groups ≡ map (remade_of of) (changes s used i group_on_top)
      remade_here = ap (with_numbers used i) group_made ∙ with_numbers-page_seen of kind s used i group_on_top (all_rewritten (ws ∷ []))

  -- ---- the pids were allocated

  abbrev made_here : List (List (Change V))
  made_here = made_on_top s used i ws

  abbrev count_here : ℕ
  count_here = length (fresh_of (changes s used i group_on_top))

  -- the tree with places for them
  abbrev pub ready_on_top : TreeInMemory
  ready_on_top = next_tree t count_here []

  module _ (given : List Remade) (is : given ≡ map (remade_of of) (changes s used i group_on_top)) where
    names_top : top_names t.root given ≡ names (all_new made_here)
    names_top = ap (λ (rs : List Remade). top_names t.root rs) is ∙ names_here of kind s used i ws t.root one_page h.root h.first

    -- index pages with the same separators as the new ones
    abbrev like_top : List (Placed ℕ)
    like_top = pages_named (names (all_new made_here))

    like_named : names like_top ≡ names (all_new made_here)
    like_named = names-pages_named (names (all_new made_here))

    number_next : (m : ℕ) → unused (pids_in_use ready_on_top.table) m ≡ unused used ((i + length (all_fresh made_here)) + m)
    number_next m =
        let n : ℕ = count_here in
        let same : length (all_fresh made_here) ≡ n = ap (λ (qs : List (Placed V)). length qs) (fresh_on_top s used i ws) in
        let x : i + (n + m) ≡ (i + length (all_fresh made_here)) + m = omega arith in
        (drawn_places n t.table h.rising).next m ∙ h.drawn (n + m) ∙ ap (unused used) x

    grown_same : grown_levels (length like_top) s used (i + length (all_fresh made_here)) like_top ≡ grown_above s used i ws
    grown_same =
        let j : ℕ = i + length (all_fresh made_here) in
        let top : List (Placed V) = all_new made_here in
        let count : length like_top ≡ length top = sym (length-map like_top name) ∙ ap (λ (ns : Separators). length ns) like_named ∙ length-map top name in
        ap (λ (n : ℕ). grown_levels n s used j like_top) count ∙ grown_levels-named (length top) s used j like_top top like_named

    ready_logs : IsOldWithoutPlace ready_on_top.table
    ready_logs = logs_after t.table (with_rooms t.table (fresh_pids (pids_in_use t.table) count_here)) count_here [] (drawn_places count_here t.table h.rising) h.logs

    -- levels can be added above it, and with them it is as the plan says
    ready_drawn : IsTopDrawn s of t ready_on_top ws used i given
    ready_drawn =
        let top : List (Placed V) = all_new made_here in
        let j : ℕ = i + length (all_fresh made_here) in
        let like : names like_top ≡ top_names t.root given = like_named ∙ sym names_top in
        record {
          some = subst (λ (ns : Separators). 0 < length ns) (sym names_top) (some_made s used i ws one_page);
          named = subst (λ (ns : Separators). IsRising ns) (sym names_top) (rising-names top None (tiled-top s used i ws z h.tiled));
          rising = (drawn_places count_here t.table h.rising).rising;
          logs = ready_logs;
          changed = λ after pid levels grows. (
              let g = grows used j like_top number_next like in
              let so : List (List (Placed ℕ)) → Type 0 = λ ls. (pid ≡ top_pid like_top ls) × (levels ≡ t.height + length ls) × AreGrown ready_on_top after ls in
              let r : so (grown_above s used i ws) = subst so grown_same g in
              record {
                groups = is;
                grown = r.2;
                root = r.0 ∙ top-named like_top top (grown_above s used i ws) like_named;
                height = r.1;
              }
              );
          next = j;
          like = like_top;
          numbered = number_next;
          like_named = like;
          too_high = λ l. subst (λ (ls : List (List (Placed ℕ))). 64 < t.height + length ls) grown_same l;
        }

  -- in the form of the code
  pub top_drawn : 0 < length xs → (u : TreeInMemory) (groups old new rest given : List Remade) (n : ℕ) → groups ≡ map (cut_group s) (filter is_rewritten_seen (xs ∷ [])) → old ≡ groups
      → AreGiven t.table old new → length old ≡ n → given ≡ take n (new ++ rest) → u ≡ numbers_drawn t old → IsTopDrawn s of t u ws used i given
  top_drawn some u groups old new rest given n made same numbers_so len whole drawn =
      let is : given ≡ map (remade_of of) (changes s used i group_on_top) =
      whole ∙ all_given t.table old new rest n numbers_so len ∙ numbers_so used i h.drawn ∙ remade_here some old (same ∙ made) in
      let ready : u ≡ ready_on_top = drawn ∙ ap (λ (k : ℕ). next_tree t k []) (count some old (same ∙ made)) in
      subst (λ (v : TreeInMemory). IsTopDrawn s of t v ws used i given) (sym ready) (ready_drawn given is)

-- the tree after the pids are freed is the one before
pub given_back : (t v w : TreeInMemory) (given : List Remade) → CanGiveBack t v given → w ≡ with_table v (freed_all v.table (flat_map (λ r. r.fresh) given)) → w ≡ t
given_back t v w given b e = e ∙ b.back

-- the same groups under another name
pub of_groups : {V : Type 0} (s : Settings) (of : Page V → PageOfKind) (t after : TreeInMemory) (ws : List (Updated V)) (used : List ℕ) (i : ℕ) (given groups : List Remade) (pid levels : ℕ) → given ≡ groups
    → IsTopChanged s of t after (level_of ws [] used i) given pid levels → IsTopChanged s of t after (level_of ws [] used i) groups pid levels
of_groups s of t after ws used i given groups pid levels e c = subst (λ (rs : List Remade). IsTopChanged s of t after (level_of ws [] used i) rs pid levels) e c
