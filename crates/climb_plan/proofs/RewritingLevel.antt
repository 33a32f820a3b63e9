-- Lemmas on the families of a level in which a page needs restructuring, for the proofs of this crate.
use Rattle.std.specs.Prelude.{◌≡◌, ◌⊎◌, ℕ, Bool, true, false, List, [], ◌∷◌, ◌++◌, map, take, drop, length, Option, Some, None}
use Rattle.std.proofs.Common.{refl, sym, ap, ◌∙◌, subst, inl, inr, append-nil, append_assoc}
use Rattle.std.specs.List.{AllByRecursion, filter}
use Rattle.std.specs.Map.{keys_of}
use Rattle.std.proofs.lemmas.Bool.{or_parts}
use Rattle.std.proofs.lemmas.List.{map-append, take-append-drop}
use Rattle.keys.specs.Order.{IsRising}
use Rattle.index_page.specs.Page.{PageOfKind, low_of}
use Rattle.index_page.specs.Page.PageOfKind.{Index}
use Rattle.index_page.specs.Range.{is_below, is_before, is_within, AreBelow, AreFrom, AreBefore}
use Rattle.index_page.proofs.ListLemmas.{all_apart}
use Rattle.index_page.proofs.PageLemmas.{all_keys_entries}
use Rattle.index_page.proofs.ChildLemmas.{within}
use Rattle.mapping.specs.Levels.{Placed, entries, joined}
use Rattle.mapping.specs.Proper.{next_low, IsTile, Tiled}
use Rattle.mapping.specs.Table.{Mapping, page_of}
use Rattle.mapping.specs.TreeInMemory.{TreeInMemory}
use Rattle.mapping.proofs.DescentWay.{pid_for}
use Rattle.mapping.proofs.TileLemmas.{tiled_apart, from-joined, before-joined, rising-joined}
use Rattle.page_runs.specs.declared.class.Class.{Class}
use Rattle.page_runs.specs.Updated.{is_fat_class}
use Rattle.split_plan.specs.Groups.{Gathered, with_child, gathered, with_leading}
use Rattle.climb_plan.specs.Changing.{SeenPage, needs_restructuring}
use Rattle.climb_plan.specs.Rewriting.{seen_name, lows, AreSeenIn, is_thin_seen, is_rewritten_seen, rewritten_groups, Rewriting, with_rewriting, rewriting_families, rewriting_counts, groups_of, IsLevelSeen, IsQuiet, HasFirstCall, pids_for, IsFamilyOf}
use Rattle.climb_plan.specs.Rewriting.AreSeenIn.{updated, at_home}
use Rattle.climb_plan.proofs.RewritingFamily.{Separators}
use Rattle.climb_plan.proofs.RewritingSeen.{all_lows}
use Rattle.climb_plan.proofs.LevelParts.{family_of}

-- ---- families in which no page needs restructuring

record IsStill (g : Gathered SeenPage) : Type 0 where
  pub leading : g.leading ≡ []
  pub groups : filter is_rewritten_seen g.groups ≡ []

still_child : (b : Bool) (x : SeenPage) (g : Gathered SeenPage) → b ≡ false → is_fat_class x.class ≡ false → IsStill g → IsStill (with_child b x g)
still_child true x g e f q = absurd (cc)
still_child false x g e f q = record { leading = refl; groups = rw (q.leading, f) q.groups }

still_gathered : (xs : List SeenPage) → AllByRecursion IsQuiet xs → IsStill (gathered is_thin_seen xs)
still_gathered [] h = record { leading = refl; groups = refl }
still_gathered (x ∷ xs) h =
    let p = or_parts (is_thin_seen x) (is_fat_class x.class) h.0 in
    still_child (is_thin_seen x) x (gathered is_thin_seen xs) p.0 p.1 (still_gathered xs h.1)

still_leading : (lead : List SeenPage) (gs : List (List SeenPage)) → lead ≡ [] → filter is_rewritten_seen gs ≡ [] → filter is_rewritten_seen (with_leading lead gs) ≡ []
still_leading [] gs e f = f
still_leading (x ∷ xs) gs e f = absurd (cc)

still_family : (xs : List SeenPage) → AllByRecursion IsQuiet xs → rewritten_groups xs ≡ []
still_family xs h = let q = still_gathered xs h in still_leading (gathered is_thin_seen xs).leading (gathered is_thin_seen xs).groups q.leading q.groups

-- ---- parts of a level

names_apart : (es fs : Separators) (xs : List SeenPage) → es ++ fs ≡ map seen_name xs → (es ≡ map seen_name (take (length es) xs)) × (fs ≡ map seen_name (drop (length es) xs))
names_apart [] fs xs e = (refl, e)
names_apart (n ∷ es) fs [] e = absurd (cc)
names_apart (n ∷ es) fs (x ∷ xs) e =
    let first : n ≡ seen_name x = cc in
    let rest : es ++ fs ≡ map seen_name xs = cc in
    let r = names_apart es fs xs rest in
    (ap (λ (m : List ℕ × ℕ). m ∷ es) first ∙ ap (λ (ns : Separators). seen_name x ∷ ns) r.0, r.1)

-- a part of a list ends after an element, or before it
split_by : {X : Type 0} (xs ys ds bs : List X) (x : X) → xs ++ ys ≡ ds ++ x ∷ bs → ((more : List X) × (xs ≡ ds ++ x ∷ more)) ⊎ ((cs : List X) × (ds ≡ xs ++ cs) × (ys ≡ cs ++ x ∷ bs))
split_by [] ys ds bs x e = inr (ds, refl, e)
split_by {X} (z ∷ zs) ys [] bs x e = let first : z ≡ x = cc in inl (zs, ap (λ (w : X). w ∷ zs) first)
split_by {X} (z ∷ zs) ys (a ∷ ds) bs x e =
    let first : z ≡ a = cc in
    let rest : zs ++ ys ≡ ds ++ x ∷ bs = cc in
    elim (split_by zs ys ds bs x rest) [
      | inl r ↦ inl (r.0, ap (λ (w : X). w ∷ zs) first ∙ ap (λ (ws : List X). a ∷ ws) r.1)
      | inr r ↦ inr (r.0, ap (λ (ws : List X). a ∷ ws) r.1 ∙ ap (λ (w : X). w ∷ (zs ++ r.0)) (sym first), r.2)
    ]

module _ (t : Mapping PageOfKind) where
  seen_apart : {xs : List SeenPage} (ds bs : List SeenPage) → AreSeenIn t xs (ds ++ bs) → (own : List SeenPage) × (after : List SeenPage) × (xs ≡ own ++ after) × AreSeenIn t own ds × AreSeenIn t after bs
  seen_apart {xs} [] bs s = ([], xs, refl, AreSeenIn.none, s)
  seen_apart (a ∷ ds) bs (updated x s) = let r = seen_apart ds bs s in (x ∷ r.0, r.1, ap (λ (ys : List SeenPage). x ∷ ys) r.2, updated x r.3, r.4)
  seen_apart (a ∷ ds) bs (at_home x c p h s) = let r = seen_apart ds bs s in (r.0, r.1, r.2, at_home x c p h r.3, r.4)

  seen_joined : {xs ds : List SeenPage} (ys bs : List SeenPage) → AreSeenIn t xs ds → AreSeenIn t ys bs → AreSeenIn t (xs ++ ys) (ds ++ bs)
  seen_joined ys bs (AreSeenIn.none) r = r
  seen_joined ys bs (updated x s) r = updated x (seen_joined ys bs s r)
  seen_joined ys bs (at_home x c p h s) r = at_home x c p h (seen_joined ys bs s r)

  -- if no page that got a run needs restructuring, no page does
  all_quiet : {xs all : List SeenPage} → AreSeenIn t xs all → AllByRecursion IsQuiet xs → AllByRecursion IsQuiet all
  all_quiet (AreSeenIn.none) h = tt
  all_quiet (updated x s) h = (h.0, all_quiet s h.1)
  all_quiet (at_home x c p h s) q = (ap (λ (k : Class). needs_restructuring k) c, all_quiet s q)

  not_seen : {xs : List SeenPage} (quiet more : List SeenPage) (x : SeenPage) → AreSeenIn t xs [] → xs ≡ quiet ++ x ∷ more → ⊥
  not_seen [] more x (AreSeenIn.none) e = absurd (cc)
  not_seen (q ∷ qs) more x (AreSeenIn.none) e = absurd (cc)

  -- ---- the first family in which a page needs restructuring

  pub record IsCalled (ps : List (Placed ℕ)) (left xs : List SeenPage) (x : SeenPage) : Type 0 where
    pub front : List (Placed ℕ)
    pub parent : Placed ℕ
    pub following : List (Placed ℕ)
    pub skipped : List SeenPage
    pub children : List SeenPage
    pub later : List SeenPage
    pub before : List SeenPage
    pub own : List SeenPage
    pub after : List SeenPage
    pub quiet : List SeenPage
    pub more : List SeenPage
    pub parts : ps ≡ front ++ parent ∷ following
    pub front_linked : joined front ≡ map seen_name skipped
    pub own_linked : entries parent ≡ map seen_name children
    pub later_linked : joined following ≡ map seen_name later
    pub seen_parts : xs ≡ before ++ (own ++ after)
    pub seen_before : AreSeenIn t before skipped
    pub seen_own : AreSeenIn t own children
    pub seen_after : AreSeenIn t after later
    pub has : own ≡ quiet ++ x ∷ more
    pub same : rewriting_families ps left ≡ with_rewriting parent.pid (rewritten_groups children) (rewriting_families following later)

  called : (ps : List (Placed ℕ)) (left xs quiet : List SeenPage) (x : SeenPage) (more : List SeenPage) → joined ps ≡ map seen_name left → AreSeenIn t xs left → xs ≡ quiet ++ x ∷ more → AllByRecursion IsQuiet quiet → IsCalled ps left xs x
  called [] [] xs quiet x more l s e q = absurd (not_seen quiet more x s e)
  called [] (y ∷ ys) xs quiet x more l s e q = absurd (cc)
  called (p ∷ ps) left xs quiet x more l s e q =
      let n : ℕ = length (entries p) in
      let f : List SeenPage = take n left in
      let g : List SeenPage = drop n left in
      let names = names_apart (entries p) (joined ps) left l in
      let whole : f ++ g ≡ left = take-append-drop n left in
      let a = seen_apart f g (subst (λ (zs : List SeenPage). AreSeenIn t xs zs) (sym whole) s) in
      let both : a.0 ++ a.1 ≡ quiet ++ x ∷ more = sym a.2 ∙ e in
      elim (split_by a.0 a.1 quiet more x both) [
        | inl r ↦ record {
          front = [];
          parent = p;
          following = ps;
          skipped = [];
          children = f;
          later = g;
          before = [];
          own = a.0;
          after = a.1;
          quiet = quiet;
          more = r.0;
          parts = refl;
          front_linked = refl;
          own_linked = names.0;
          later_linked = names.1;
          seen_parts = a.2;
          seen_before = AreSeenIn.none;
          seen_own = a.3;
          seen_after = a.4;
          has = r.1;
          same = refl;
        }
        | inr r ↦ (
            let quiets = all_apart IsQuiet a.0 r.0 (subst (λ (zs : List SeenPage). AllByRecursion IsQuiet zs) r.1 q) in
            let still : rewritten_groups f ≡ [] = still_family f (all_quiet a.3 quiets.0) in
            let c = called ps g a.1 r.0 x more names.1 a.4 r.2 quiets.1 in
            record {
              front = p ∷ c.front;
              parent = c.parent;
              following = c.following;
              skipped = f ++ c.skipped;
              children = c.children;
              later = c.later;
              before = a.0 ++ c.before;
              own = c.own;
              after = c.after;
              quiet = c.quiet;
              more = c.more;
              parts = ap (λ (qs : List (Placed ℕ)). p ∷ qs) c.parts;
              front_linked = ap (λ (ns : Separators). ns ++ joined c.front) names.0 ∙ ap (λ (ns : Separators). map seen_name f ++ ns) c.front_linked ∙ sym (map-append seen_name f c.skipped);
              own_linked = c.own_linked;
              later_linked = c.later_linked;
              seen_parts = a.2 ∙ ap (λ (zs : List SeenPage). a.0 ++ zs) c.seen_parts ∙ sym (append_assoc a.0 c.before (c.own ++ c.after));
              seen_before = seen_joined c.before c.skipped a.3 c.seen_before;
              seen_own = c.seen_own;
              seen_after = c.seen_after;
              has = c.has;
              same = ap (λ (gs : List (List SeenPage)). with_rewriting p.pid gs (rewriting_families ps g)) still ∙ c.same;
            })
      ]

  -- if no page needs restructuring, no group is rewritten
  none_called : (ps : List (Placed ℕ)) (left xs : List SeenPage) → joined ps ≡ map seen_name left → AreSeenIn t xs left → AllByRecursion IsQuiet xs → rewriting_families ps left ≡ []
  none_called [] left xs l s q = refl
  none_called (p ∷ ps) left xs l s q =
      let n : ℕ = length (entries p) in
      let f : List SeenPage = take n left in
      let g : List SeenPage = drop n left in
      let names = names_apart (entries p) (joined ps) left l in
      let whole : f ++ g ≡ left = take-append-drop n left in
      let a = seen_apart f g (subst (λ (zs : List SeenPage). AreSeenIn t xs zs) (sym whole) s) in
      let quiets = all_apart IsQuiet a.0 a.1 (subst (λ (zs : List SeenPage). AllByRecursion IsQuiet zs) a.2 q) in
      ap (λ (gs : List (List SeenPage)). with_rewriting p.pid gs (rewriting_families ps g)) (still_family f (all_quiet a.3 quiets.0)) ∙ none_called ps g a.1 names.1 a.4 quiets.1

-- ---- low keys

low_in : (P : List ℕ → Type 0) (ds bs : List SeenPage) (x : SeenPage) → AllByRecursion P (lows (ds ++ x ∷ bs)) → P (low_of x.page)
low_in P [] bs x h = h.0
low_in P (a ∷ ds) bs x h = low_in P ds bs x h.1

all_before : (end : Option (List ℕ)) (ks : List (List ℕ)) → AreBefore end ks → AllByRecursion (λ k. is_before end k ≡ true) ks
all_before None [] h = tt
all_before None (k ∷ ks) h = (refl, all_before None ks tt)
all_before (Some hi) ks h = h

entries_before : (end : Option (List ℕ)) (p : Placed ℕ) → IsTile end p → AreBefore end (keys_of (entries p))
entries_before None p h = tt
entries_before (Some hi) p h = all_keys_entries (λ j. is_below j hi ≡ true) p.page h.keys.before

all_after : (ps : List (Placed ℕ)) → Tiled ps None → AllByRecursion (λ k. is_before (next_low ps None) k ≡ false) (keys_of (joined ps))
all_after [] h = tt
all_after (p ∷ ps) h = from-joined p ps None h

-- ---- the state of the walk

-- the later parents are left, with their children; what is made so far, and what is still to come, is all
pub record IsLeft (t : Mapping PageOfKind) (xs all : List SeenPage) (ps : List (Placed ℕ)) (parents : List (ℕ × ℕ)) (made : List (List SeenPage)) : Type 0 where
  pub done : List (Placed ℕ)
  pub rest : List (Placed ℕ)
  pub left : List SeenPage
  pub parts : ps ≡ done ++ rest
  pub linked : joined rest ≡ map seen_name left
  pub seen : AreSeenIn t xs left
  pub all_parents : parents ++ rewriting_counts (rewriting_families rest left) ≡ rewriting_counts (rewriting_families ps all)
  pub all_groups : made ++ groups_of (rewriting_families rest left) ≡ groups_of (rewriting_families ps all)

counted_with : (pid : ℕ) (gs : List (List SeenPage)) (rs : List Rewriting) → rewriting_counts (with_rewriting pid gs []) ++ rewriting_counts rs ≡ rewriting_counts (with_rewriting pid gs rs)
counted_with pid [] rs = refl
counted_with pid (g ∷ gs) rs = refl

groups_with : (pid : ℕ) (gs : List (List SeenPage)) (rs : List Rewriting) → gs ++ groups_of rs ≡ groups_of (with_rewriting pid gs rs)
groups_with pid [] rs = refl
groups_with pid (g ∷ gs) rs = refl

module _ (t : TreeInMemory) (depth : ℕ) (all_xs all : List SeenPage) (ps : List (Placed ℕ)) (ups : List (List (Placed ℕ))) (h : IsLevelSeen t depth all_xs all ps ups) where
  pub at_first : IsLeft t.table all_xs all ps [] []
  at_first = record { done = []; rest = ps; left = all; parts = refl; linked = h.linked; seen = h.seen; all_parents = refl; all_groups = refl }

  pub at_last : (xs : List SeenPage) (parents : List (ℕ × ℕ)) (made : List (List SeenPage)) → IsLeft t.table xs all ps parents made → AllByRecursion IsQuiet xs → (parents ≡ rewriting_counts (rewriting_families ps all)) × (made ≡ groups_of (rewriting_families ps all))
  at_last xs parents made s q =
      let nothing : rewriting_families s.rest s.left ≡ [] = none_called t.table s.rest s.left xs s.linked s.seen q in
      (sym (append-nil parents) ∙ ap (λ (rs : List Rewriting). parents ++ rewriting_counts rs) (sym nothing) ∙ s.all_parents, sym (append-nil made) ∙ ap (λ (rs : List Rewriting). made ++ groups_of rs) (sym nothing) ∙ s.all_groups)

  module _ (xs : List SeenPage) (parents : List (ℕ × ℕ)) (made : List (List SeenPage)) (low : List ℕ) (s : IsLeft t.table xs all ps parents made) (f : HasFirstCall xs low) where
    -- the family of the first page that needs restructuring
    pub found : IsCalled t.table s.rest s.left xs f.1
    found = called t.table s.rest s.left xs f.0 f.1 f.2 s.linked s.seen f.3.parted f.3.none_earlier

    apart : Tiled s.rest None
    apart = (tiled_apart s.done s.rest None (subst (λ (qs : List (Placed ℕ)). Tiled qs None) s.parts h.parents.tiled)).1

    tiles : Tiled found.front (Some found.parent.page.low) × Tiled (found.parent ∷ found.following) None
    tiles = tiled_apart found.front (found.parent ∷ found.following) None (subst (λ (qs : List (Placed ℕ)). Tiled qs None) found.parts apart)

    names_from : joined (found.parent ∷ found.following) ≡ map seen_name (found.children ++ found.later)
    names_from = ap (λ (ns : Separators). ns ++ joined found.following) found.own_linked ∙ ap (λ (ns : Separators). map seen_name found.children ++ ns) found.later_linked ∙ sym (map-append seen_name found.children found.later)

    home : page_of t.table found.parent.pid ≡ Some (Index found.parent.page)
    home =
        let P : Placed ℕ → Type 0 = λ p. page_of t.table p.pid ≡ Some (Index p.page) in
        let rest = (all_apart P s.done s.rest (subst (λ (qs : List (Placed ℕ)). AllByRecursion P qs) s.parts h.parents.home.0)).1 in
        (all_apart P found.front (found.parent ∷ found.following) (subst (λ (qs : List (Placed ℕ)). AllByRecursion P qs) found.parts rest)).1.0

    seen_from : AreSeenIn t.table (found.own ++ found.after) (found.children ++ found.later)
    seen_from = seen_joined t.table found.after found.later found.seen_own found.seen_after

    pub family : IsFamilyOf t.table xs (family_of found.parent found.before (found.own ++ found.after) found.children found.later)
    family = record {
      home = home;
      parted = record {
        joined = found.seen_parts;
        below = all_lows (λ k. is_below k found.parent.page.low ≡ true) found.seen_before (subst (λ (ns : Separators). AreBelow found.parent.page.low (keys_of ns)) found.front_linked (before-joined found.front (Some found.parent.page.low) tiles.0));
        others = all_lows (λ k. is_below k found.parent.page.low ≡ false) seen_from (subst (λ (ns : Separators). AreFrom found.parent.page.low (keys_of ns)) names_from (from-joined found.parent found.following None tiles.1));
      };
      seen = seen_from;
      linked = found.own_linked;
      rising = subst (λ (ns : Separators). IsRising ns) names_from (rising-joined (found.parent ∷ found.following) None tiles.1);
    }

    in_own : (P : List ℕ → Type 0) → AllByRecursion P (keys_of (entries found.parent)) → P (low_of (f.1).page)
    in_own P a =
        let own : AllByRecursion P (lows found.own) = all_lows P found.seen_own (subst (λ (ns : Separators). AllByRecursion P (keys_of ns)) found.own_linked a) in
        low_in P found.quiet found.more f.1 (subst (λ (ys : List SeenPage). AllByRecursion P (lows ys)) found.has own)

    is_inside : is_before (next_low found.following None) (low_of (f.1).page) ≡ true
    is_inside = in_own (λ k. is_before (next_low found.following None) k ≡ true) (all_before (next_low found.following None) (keys_of (entries found.parent)) (entries_before (next_low found.following None) found.parent tiles.1.0))

    is_from : is_below (low_of (f.1).page) found.parent.page.low ≡ false
    is_from = in_own (λ k. is_below k found.parent.page.low ≡ false) (all_keys_entries (λ k. is_below k found.parent.page.low ≡ false) found.parent.page tiles.1.0.keys.from)

    -- its parent is the one that is found
    pub is_parent : (pid : ℕ) → pids_for ps low ≡ pid ∷ [] → pid ≡ found.parent.pid
    is_parent pid e =
        let parts : ps ≡ (s.done ++ found.front) ++ found.parent ∷ found.following = s.parts ∙ ap (λ (qs : List (Placed ℕ)). s.done ++ qs) found.parts ∙ sym (append_assoc s.done found.front (found.parent ∷ found.following)) in
        let inside : is_within found.parent.page.low (next_low found.following None) low ≡ true = subst (λ (k : List ℕ). is_within found.parent.page.low (next_low found.following None) k ≡ true) (sym f.4) (within found.parent.page.low (next_low found.following None) (low_of (f.1).page) is_from is_inside) in
        let pids : pids_for ps low ≡ found.parent.pid ∷ [] = pid_for low (s.done ++ found.front) found.following found.parent ps parts h.parents.tiled h.parents.first inside in
        cc

    -- some page was passed
    pub has_gone : AreSeenIn t.table xs found.later → ⊥
    has_gone seen =
        let no : AllByRecursion (λ k. is_before (next_low found.following None) k ≡ false) (lows xs) =
        all_lows (λ k. is_before (next_low found.following None) k ≡ false) seen (subst (λ (ns : Separators). AllByRecursion (λ k. is_before (next_low found.following None) k ≡ false) (keys_of ns)) found.later_linked (all_after found.following tiles.1.1)) in
        let here = low_in (λ k. is_before (next_low found.following None) k ≡ false) f.0 f.2 f.1 (subst (λ (ys : List SeenPage). AllByRecursion (λ k. is_before (next_low found.following None) k ≡ false) (lows ys)) f.3.parted no) in
        let inside = is_inside in
        absurd (cc)

    pub at_next : (ys : List SeenPage) (more : List (ℕ × ℕ)) (most : List (List SeenPage)) → AreSeenIn t.table ys found.later → more ≡ parents ++ rewriting_counts (with_rewriting found.parent.pid (rewritten_groups found.children) []) → most ≡ made ++ rewritten_groups found.children → IsLeft t.table ys all ps more most
    at_next ys more most seen m g =
        let pid : ℕ = found.parent.pid in
        let gs : List (List SeenPage) = rewritten_groups found.children in
        let rs : List Rewriting = rewriting_families found.following found.later in
        record {
          done = s.done ++ (found.front ++ found.parent ∷ []);
          rest = found.following;
          left = found.later;
          parts =
              s.parts ∙ ap (λ (qs : List (Placed ℕ)). s.done ++ qs) (found.parts ∙ sym (append_assoc found.front (found.parent ∷ []) found.following)) ∙ sym (append_assoc s.done (found.front ++ found.parent ∷ []) found.following);
          linked = found.later_linked;
          seen = seen;
          all_parents =
              ap (λ (cs : List (ℕ × ℕ)). cs ++ rewriting_counts rs) m ∙ append_assoc parents (rewriting_counts (with_rewriting pid gs [])) (rewriting_counts rs) ∙ ap (λ (cs : List (ℕ × ℕ)). parents ++ cs) (counted_with pid gs rs) ∙ ap (λ (qs : List Rewriting). parents ++ rewriting_counts qs) (sym found.same) ∙ s.all_parents;
          all_groups =
              ap (λ (hs : List (List SeenPage)). hs ++ groups_of rs) g ∙ append_assoc made gs (groups_of rs) ∙ ap (λ (hs : List (List SeenPage)). made ++ hs) (groups_with pid gs rs) ∙ ap (λ (qs : List Rewriting). made ++ groups_of qs) (sym found.same) ∙ s.all_groups;
        }
