-- The root shrinks by one level: the rest is a tree whose levels are still parents of each other, and shrinking the rest is shrinking the whole.
use Rattle.std.specs.Prelude.{◌≡◌, ℕ, suc, ◌+◌, ◌-◌, ◌<◌, ◌≤◌, true, false, nat_eq, List, [], ◌∷◌, ◌++◌, flat_map, drop, length, Option, Some, None}
use Rattle.std.proofs.Common.{refl, sym, ap, ◌∙◌, subst, arith, append_assoc, length-append, inl, inr}
use Rattle.std.proofs.Math.Seq.{drop-length}
use Rattle.std.specs.List.{AllByRecursion}
use Rattle.std.proofs.lemmas.Bool.{eqb-true, false_from_ne_true}
use Rattle.std.proofs.lemmas.Grind.{flat_map-append}
use Rattle.keys.specs.Order.{IsRising}
use Rattle.index_page.specs.Page.{PageOfKind, entries}
use Rattle.index_page.specs.Page.PageOfKind.{Index}
use Rattle.index_page.specs.Children.{child_entries}
use Rattle.delta_chain.proofs.LayerLemmas.{rising-entries_of}
use Rattle.index_page.proofs.ListLemmas.{all_apart, all_weaker}
use Rattle.mapping.specs.FreshPids.{is_among}
use Rattle.mapping.specs.Levels.{Placed, names, pids, first_pid, top_pid, all_pids}
use Rattle.mapping.specs.Outdate.{outdate_all}
use Rattle.mapping.specs.Proper.{Stacked, Distinct, Tiled}
use Rattle.mapping.specs.Table.{place_of, page_of, at_home}
use Rattle.mapping.specs.TreeInMemory.{TreeInMemory}
use Rattle.mapping.proofs.PidLemmas.{among_either, among_right, among_apart, all_among}
use Rattle.climb_plan.specs.Changing.{AreHome}
use Rattle.climb_plan.specs.Climb.{is_lone, kept_under, kept_levels}
use Rattle.climb_plan.specs.HasClimbed.{CanShrink, HasShrunk}
use Rattle.climb_plan.specs.Installing.{page_or_none, only_pid}
use Rattle.climb_plan.specs.Plan.{shrunk_pids}
use Rattle.climb_plan.proofs.ChangingOutdated.{outdate-joined}
use Rattle.climb_plan.proofs.Climbing.{still_home_above}
use Rattle.climb_plan.proofs.InstalledPages.{AreApart, distinct_apart, at_among}
use Rattle.climb_plan.proofs.Installing.{distinct_first, gone_from, gone_apart}
use Rattle.climb_plan.proofs.InstallingLemmas.{none_of, no_place, rising_gone}
use Rattle.climb_plan.proofs.Kept.{left, kept_and_left, drop_first}
use Rattle.climb_plan.proofs.Untouched.{none_outdated}

abbrev Ups : Type 0
Ups = List (List (Placed ℕ))

abbrev Lone : Placed ℕ → List (Placed ℕ)
Lone p = p ∷ []

-- ---- the levels below the highest, and what is kept of all

kept_levels-lone : (lower : Ups) (top : List (Placed ℕ)) → is_lone top ≡ true → kept_levels (lower ++ top ∷ []) ≡ kept_levels lower
kept_levels-lone [] top e = rw e refl
kept_levels-lone (l ∷ ls) top e = ap (λ (ks : Ups). kept_under l ks) (kept_levels-lone ls top e)

under_some : (l top : List (Placed ℕ)) (ls : Ups) → kept_under l (ls ++ top ∷ []) ≡ l ∷ ls ++ top ∷ []
under_some l top [] = refl
under_some l top (x ∷ xs) = refl

kept_levels-all : (lower : Ups) (top : List (Placed ℕ)) → is_lone top ≡ false → kept_levels (lower ++ top ∷ []) ≡ lower ++ top ∷ []
kept_levels-all [] top e = rw e refl
kept_levels-all (l ∷ ls) top e = ap (λ (ks : Ups). kept_under l ks) (kept_levels-all ls top e) ∙ under_some l top ls

-- the pids of the levels that go are those of the lower ones that go, and the root's
left-lone : (lower : Ups) (top : List (Placed ℕ)) → is_lone top ≡ true → left (lower ++ top ∷ []) ≡ left lower ++ top ∷ []
left-lone lower top e =
    let all : Ups = lower ++ top ∷ [] in
    drop_first (kept_levels all) (left lower ++ top ∷ []) all
    (ap (λ (ks : Ups). ks ++ (left lower ++ top ∷ [])) (kept_levels-lone lower top e)
    ∙ sym (append_assoc (kept_levels lower) (left lower) (top ∷ []))
    ∙ ap (λ (ks : Ups). ks ++ top ∷ []) (kept_and_left lower))

shrunk_levels-lone : (lower : Ups) (p : Placed ℕ) → is_lone (Lone p) ≡ true → shrunk_pids (lower ++ Lone p ∷ []) ≡ shrunk_pids lower ++ p.pid ∷ []
shrunk_levels-lone lower p e = ap (λ (ls : Ups). flat_map pids ls) (left-lone lower (Lone p) e) ∙ flat_map-append pids (left lower) (Lone p ∷ [])

-- if all levels remain, none is removed
shrunk_levels-none : (ls : Ups) → kept_levels ls ≡ ls → shrunk_pids ls ≡ []
shrunk_levels-none ls e = ap (λ (ks : Ups). flat_map pids (drop (length ks) ls)) e ∙ ap (λ (x : Ups). flat_map pids x) (drop-length ls)

-- ---- the highest level

with_last : (ls : Ups) → 0 < length ls → (lower : Ups) × (top : List (Placed ℕ)) × (lower ++ top ∷ [] ≡ ls)
with_last [] l = absurd (omega arith)
with_last (x ∷ []) l = ([], x, refl)
with_last (x ∷ y ∷ ys) l =
    let r = with_last (y ∷ ys) (omega arith) in
    (x ∷ r.0, r.1, ap (λ (ls : Ups). x ∷ ls) r.2)

alone : (top : List (Placed ℕ)) → length top ≡ 1 → (p : Placed ℕ) × (Lone p ≡ top)
alone [] e = absurd (omega arith)
alone (p ∷ []) e = (p, refl)
alone (p ∷ q ∷ ps) e = absurd (omega arith)

one_on_top : {V : Type 0} (level : List (Placed V)) (lower : Ups) (top : List (Placed ℕ)) → Stacked level (lower ++ top ∷ []) → length top ≡ 1
one_on_top level [] top o = o.1
one_on_top level (l ∷ ls) top o = one_on_top l ls top o.1

tiled_on_top : {V : Type 0} (level : List (Placed V)) (lower : Ups) (top : List (Placed ℕ)) → Stacked level (lower ++ top ∷ []) → Tiled top None
tiled_on_top level [] top o = o.0.tiled
tiled_on_top level (l ∷ ls) top o = tiled_on_top l ls top o.1

first_on_top : {V : Type 0} (level : List (Placed V)) (lower : Ups) (top : List (Placed ℕ)) → top_pid level (lower ++ top ∷ []) ≡ first_pid top
first_on_top level [] top = refl
first_on_top level (l ∷ ls) top = first_on_top l ls top

-- ---- entries of exactly one child, and of others

one_entry : (es : List (List ℕ × ℕ)) (c : ℕ) → Some c ≡ only_pid es → (low : List ℕ) × (es ≡ (low, c) ∷ [])
one_entry [] c h = absurd (cc)
one_entry (e ∷ []) c h = let same : c ≡ e.1 = cc in (e.0, ap {B = List (List ℕ × ℕ)} (λ (n : ℕ). (e.0, n) ∷ []) (sym same))
one_entry (e ∷ f ∷ es) c h = absurd (cc)

not_one : (es : List (List ℕ × ℕ)) → None ≡ only_pid es → nat_eq (length es) 1 ≡ false
not_one [] h = refl
not_one (e ∷ []) h = absurd (cc)
not_one (e ∷ f ∷ es) h =
    let count : ℕ = length (e ∷ f ∷ es) in
    false_from_ne_true (nat_eq count 1) (λ b. let one : count ≡ 1 = eqb-true count 1 b in absurd (omega arith))

-- the level below a root with one child is that child
one_child : {V : Type 0} (level : List (Placed V)) (low : List ℕ) (c : ℕ) → (low, c) ∷ [] ≡ names level → (length level ≡ 1) × (c ≡ first_pid level)
one_child [] low c h = absurd (cc)
one_child (p ∷ []) low c h = (refl, ap (λ (es : List (List ℕ × ℕ)). first_of es) h)
  where
    first_of : List (List ℕ × ℕ) → ℕ
    first_of [] = 0
    first_of (e ∷ es) = e.1
one_child (p ∷ q ∷ ps) low c h = absurd (cc)

below_lone : {V : Type 0} (level : List (Placed V)) (lower : Ups) (p : Placed ℕ) (low : List ℕ) (c : ℕ) → entries p.page ≡ (low, c) ∷ [] → Stacked level (lower ++ Lone p ∷ []) → Stacked level lower × (c ≡ top_pid level lower)
below_lone level [] p low c e o = one_child level low c (sym (ap (λ (es : List (List ℕ × ℕ)). es ++ []) e) ∙ o.0.linked)
below_lone level (l ∷ ls) p low c e o = let rest = below_lone l ls p low c e o.1 in ((o.0, rest.0), rest.1)

-- ---- the pids of the levels below the root

pids_and_root : {V : Type 0} (level : List (Placed V)) (lower : Ups) (p : Placed ℕ) → all_pids level (lower ++ Lone p ∷ []) ≡ all_pids level lower ++ p.pid ∷ []
pids_and_root level lower p =
    ap (λ (ns : List ℕ). pids level ++ ns) (flat_map-append pids lower (Lone p ∷ []))
    ∙ sym (append_assoc (pids level) (flat_map pids lower) (p.pid ∷ []))

shrunk_among : {V : Type 0} (level : List (Placed V)) (lower : Ups) (n : ℕ) → is_among n (shrunk_pids lower) ≡ true → is_among n (all_pids level lower) ≡ true
shrunk_among level lower n e =
    let all : flat_map pids (kept_levels lower) ++ shrunk_pids lower ≡ flat_map pids lower =
    sym (flat_map-append pids (kept_levels lower) (left lower)) ∙ ap (λ (ls : Ups). flat_map pids ls) (kept_and_left lower) in
    among_right n (pids level) (flat_map pids lower) (subst (λ (ns : List ℕ). is_among n ns ≡ true) all (among_right n (flat_map pids (kept_levels lower)) (shrunk_pids lower) e))

-- ---- one level after the other

-- the present levels can shrink, and after they have shrunk, so have the original levels
pub record Shrinks {V : Type 0} (before now : TreeInMemory) (level : List (Placed V)) (ls : List (List (Placed ℕ))) : Type 0 where
  pub lower : List (List (Placed ℕ))
  pub can : CanShrink now level lower
  pub all : (after : TreeInMemory) → HasShrunk now after level lower → HasShrunk before after level ls

-- the tree without its root, whose only child this is
abbrev pub without_root : TreeInMemory → ℕ → ℕ → TreeInMemory
without_root t root child = record { table = gone_from t.table root; root = child; height = t.height - 1 }

module _ {V : Type 0} (t : TreeInMemory) (level : List (Placed V)) where
  -- nothing is done yet
  pub shrinks_first : (ls : Ups) → CanShrink t level ls → Shrinks t t level ls
  shrinks_first ls can = record { lower = ls; can = can; all = λ after s. s }

  -- if all levels remain, the tree has shrunk
  all_done : (ls : Ups) → CanShrink t level ls → kept_levels ls ≡ ls → HasShrunk t t level ls
  all_done ls can e =
      let none : shrunk_pids ls ≡ [] = shrunk_levels-none ls e in
      record {
        gone = λ n h. absurd (let wrong : is_among n [] ≡ true = ap (λ (ns : List ℕ). is_among n ns) (sym none) ∙ h in cc);
        others = λ n h. refl;
        rising = can.rising;
        logged = sym (none_outdated t.table.logged) ∙ ap (λ (ns : List ℕ). outdate_all ns t.table.logged) (sym none);
        root = can.root ∙ ap (λ (ks : Ups). top_pid level ks) (sym e);
        height = can.height ∙ ap (λ (ks : Ups). suc (length ks)) (sym e);
      }

  -- a tree of one level has
  low_is_done : (ls : Ups) → CanShrink t level ls → t.height ≤ 1 → HasShrunk t t level ls
  low_is_done [] can h = all_done [] can refl
  low_is_done (l ∷ ls) can h = let high = can.height in absurd (omega arith)

  module _ (lower : Ups) (p : Placed ℕ) (can : CanShrink t level (lower ++ Lone p ∷ [])) where
    root_is : t.root ≡ p.pid
    root_is = can.root ∙ first_on_top level lower (Lone p)

    root_page : page_of t.table t.root ≡ Some (Index p.page)
    root_page =
        let home = all_apart (AreHome Index t.table) lower (Lone p ∷ []) can.home in
        ap (λ (n : ℕ). page_of t.table n) root_is ∙ ap (λ (o : Option (Option PageOfKind)). at_home o) home.1.0.0

    root_entries : child_entries (page_or_none (page_of t.table t.root)) ≡ entries p.page
    root_entries = ap (λ (o : Option PageOfKind). child_entries (page_or_none o)) root_page

    root_rises : IsRising (child_entries (page_or_none (page_of t.table t.root)))
    root_rises =
        let tile = tiled_on_top level lower (Lone p) can.stacked in
        subst (λ (es : List (List ℕ × ℕ)). IsRising es) (sym root_entries) (rising-entries_of p.page.layers tile.0.keys.rising)

    -- a root with more children stays
    branched_is_done : None ≡ only_pid (child_entries (page_or_none (page_of t.table t.root))) → HasShrunk t t level (lower ++ Lone p ∷ [])
    branched_is_done h =
        all_done (lower ++ Lone p ∷ []) can (kept_levels-all lower (Lone p) (not_one (entries p.page) (h ∙ ap only_pid root_entries)))

    parts : AreApart (all_pids level lower) (p.pid ∷ []) × Distinct (p.pid ∷ [])
    parts = distinct_apart (all_pids level lower) (p.pid ∷ []) (subst (λ (ns : List ℕ). Distinct ns) (pids_and_root level lower p) can.distinct)

    -- the pages below the root stay
    below_stays : (n : ℕ) → is_among n (p.pid ∷ []) ≡ false → place_of (gone_from t.table p.pid) n ≡ place_of t.table n
    below_stays n h = gone_apart t.table p.pid n (none_of n p.pid [] h).0

    below_home : AllByRecursion (AreHome Index (gone_from t.table p.pid)) lower
    below_home =
        let ns : List ℕ = flat_map pids lower in
        still_home_above t.table (gone_from t.table p.pid) lower (all_weaker (λ n. is_among n ns ≡ true) (λ n. place_of (gone_from t.table p.pid) n ≡ place_of t.table n) (λ n e. below_stays n (parts.0 n (among_right n (pids level) ns e))) ns (all_among ns))
        (all_apart (AreHome Index t.table) lower (Lone p ∷ []) can.home).0

    module _ (low : List ℕ) (c : ℕ) (one : entries p.page ≡ (low, c) ∷ []) where
      lone : is_lone (Lone p) ≡ true
      lone = ap (λ (es : List (List ℕ × ℕ)). nat_eq (length es) 1) one

      can_below : CanShrink (without_root t p.pid c) level lower
      can_below =
          let below = below_lone level lower p low c one can.stacked in
          let count : length (lower ++ Lone p ∷ []) ≡ length lower + 1 = length-append lower (Lone p ∷ []) in
          let high : t.height ≡ suc (length (lower ++ Lone p ∷ [])) = can.height in
          record {
            home = below_home;
            stacked = below.0;
            distinct = distinct_first (all_pids level lower) (p.pid ∷ []) (subst (λ (ns : List ℕ). Distinct ns) (pids_and_root level lower p) can.distinct);
            rising = rising_gone t.table p.pid can.rising;
            root = below.1;
            height = omega arith;
          }

      module _ (after : TreeInMemory) (s : HasShrunk (without_root t p.pid c) after level lower) where
        root_gone : (n : ℕ) → is_among n (p.pid ∷ []) ≡ true → place_of after.table n ≡ None
        root_gone n e =
            let not_lower : is_among n (shrunk_pids lower) ≡ false = false_from_ne_true (is_among n (shrunk_pids lower)) (λ h. let x : is_among n (p.pid ∷ []) ≡ false = parts.0 n (shrunk_among level lower n h) in absurd (cc)) in
            s.others n not_lower ∙ at_among (λ m. place_of (gone_from t.table p.pid) m ≡ None) n (p.pid ∷ []) (no_place t.table p.pid can.rising, tt) e

        all_gone : (n : ℕ) → is_among n (shrunk_pids lower ++ p.pid ∷ []) ≡ true → place_of after.table n ≡ None
        all_gone n e = elim (among_either n (shrunk_pids lower) (p.pid ∷ []) e) [ inl x ↦ s.gone n x | inr y ↦ root_gone n y ]

        others_stay : (n : ℕ) → is_among n (shrunk_pids lower ++ p.pid ∷ []) ≡ false → place_of after.table n ≡ place_of t.table n
        others_stay n e = let r = among_apart n (shrunk_pids lower) (p.pid ∷ []) e in s.others n r.0 ∙ below_stays n r.1

        whole_done : HasShrunk t after level (lower ++ Lone p ∷ [])
        whole_done =
            let gone : shrunk_pids (lower ++ Lone p ∷ []) ≡ shrunk_pids lower ++ p.pid ∷ [] = shrunk_levels-lone lower p lone in
            let same : kept_levels (lower ++ Lone p ∷ []) ≡ kept_levels lower = kept_levels-lone lower (Lone p) lone in
            record {
              gone = λ n e. all_gone n (ap (λ (ns : List ℕ). is_among n ns) (sym gone) ∙ e);
              others = λ n e. others_stay n (ap (λ (ns : List ℕ). is_among n ns) (sym gone) ∙ e);
              rising = s.rising;
              logged = s.logged ∙ outdate-joined (shrunk_pids lower) (p.pid ∷ []) t.table.logged ∙ ap (λ (ns : List ℕ). outdate_all ns t.table.logged) (sym gone);
              root = s.root ∙ ap (λ (ks : Ups). top_pid level ks) (sym same);
              height = s.height ∙ ap (λ (ks : Ups). suc (length ks)) (sym same);
            }

      shrinks_here : Shrinks t (without_root t p.pid c) level (lower ++ Lone p ∷ [])
      shrinks_here = record { lower = lower; can = can_below; all = λ after s. whole_done after s }

    lone_shrinks : (c : ℕ) → Some c ≡ only_pid (child_entries (page_or_none (page_of t.table t.root))) → Shrinks t (without_root t t.root c) level (lower ++ Lone p ∷ [])
    lone_shrinks c h =
        let one = one_entry (entries p.page) c (h ∙ ap only_pid root_entries) in
        subst (λ (n : ℕ). Shrinks t (without_root t n c) level (lower ++ Lone p ∷ [])) (sym root_is) (shrinks_here one.0 c one.1)

  module _ (ls : Ups) (can : CanShrink t level ls) (high : 1 < t.height) where
    -- the levels below the highest, and its one page
    top_parts : (lower : Ups) × (p : Placed ℕ) × (lower ++ Lone p ∷ [] ≡ ls)
    top_parts =
        let count : t.height ≡ suc (length ls) = can.height in
        let r = with_last ls (omega arith) in
        let p = alone r.1 (one_on_top level r.0 r.1 (subst (λ (x : Ups). Stacked level x) (sym r.2) can.stacked)) in
        (r.0, p.0, ap (λ (top : List (Placed ℕ)). r.0 ++ top ∷ []) p.1 ∙ r.2)

    can_parts : CanShrink t level (top_parts.0 ++ Lone top_parts.1 ∷ [])
    can_parts = subst (λ (x : Ups). CanShrink t level x) (sym top_parts.2) can

    pub entries_rise : IsRising (child_entries (page_or_none (page_of t.table t.root)))
    entries_rise = root_rises top_parts.0 top_parts.1 can_parts

    -- a root with one child gives up its place
    pub shrinks_by_one : (c : ℕ) → Some c ≡ only_pid (child_entries (page_or_none (page_of t.table t.root))) → Shrinks t (without_root t t.root c) level ls
    shrinks_by_one c h = subst (λ (x : Ups). Shrinks t (without_root t t.root c) level x) top_parts.2 (lone_shrinks top_parts.0 top_parts.1 can_parts c h)

    pub others_are_done : None ≡ only_pid (child_entries (page_or_none (page_of t.table t.root))) → HasShrunk t t level ls
    others_are_done h = subst (λ (x : Ups). HasShrunk t t level x) top_parts.2 (branched_is_done top_parts.0 top_parts.1 can_parts h)

-- ---- the steps of the loop

-- all levels that could shrink at first have shrunk as far as the tree now
abbrev pub AreOnTheWay : TreeInMemory → TreeInMemory → Type 0
AreOnTheWay before now = (level : List (Placed (List ℕ))) (ls : List (List (Placed ℕ))) → CanShrink before level ls → Shrinks before now level ls

pub way_at_start : (t : TreeInMemory) → AreOnTheWay t t
way_at_start t level ls can = shrinks_first t level ls can

module _ (before now : TreeInMemory) (way : AreOnTheWay before now) where
  -- some levels that could shrink
  abbrev Levels : Type 0
  Levels = (level : List (Placed (List ℕ))) × (ls : List (List (Placed ℕ))) × CanShrink before level ls

  -- the root's entries rise
  pub rise_here : (n : ℕ) → 1 < n → n ≡ now.height → Levels → IsRising (child_entries (page_or_none (page_of now.table now.root)))
  rise_here n h e l = let s = way l.0 l.1 l.2 in entries_rise now l.0 s.lower s.can (omega arith)

  -- if the root doesn't have exactly one child, or is a leaf, nothing remains to do
  pub done_here : (n : ℕ) → 1 < n → n ≡ now.height → None ≡ only_pid (child_entries (page_or_none (page_of now.table now.root)))
      → (level : List (Placed (List ℕ))) (ls : List (List (Placed ℕ))) → CanShrink before level ls → HasShrunk before now level ls
  done_here n h e o level ls can = let s = way level ls can in s.all now (others_are_done now level s.lower s.can (omega arith) o)

  pub done_low : (n : ℕ) → n ≤ 1 → n ≡ now.height → (level : List (Placed (List ℕ))) (ls : List (List (Placed ℕ))) → CanShrink before level ls → HasShrunk before now level ls
  done_low n h e level ls can = let s = way level ls can in s.all now (low_is_done now level s.lower s.can (omega arith))

  -- one level less
  pub next_way : (n c : ℕ) (next : TreeInMemory) → 1 < n → n ≡ now.height → Some c ≡ only_pid (child_entries (page_or_none (page_of now.table now.root))) → next ≡ without_root now now.root c → AreOnTheWay before next
  next_way n c next h e o m level ls can =
      let s = way level ls can in
      let t = shrinks_by_one now level s.lower s.can (omega arith) c o in
      let step : Shrinks before (without_root now now.root c) level ls = record { lower = t.lower; can = t.can; all = λ after x. s.all after (t.all after x) } in
      subst (λ (x : TreeInMemory). Shrinks before x level ls) (sym m) step

pub lower_now : (n c : ℕ) (now next : TreeInMemory) → 1 < n → n ≡ now.height → next ≡ without_root now now.root c → next.height < now.height
lower_now n c now next h e m =
    let high : next.height ≡ now.height - 1 = ap (λ (t : TreeInMemory). t.height) m in
    omega arith
