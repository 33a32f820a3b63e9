-- Lemmas on the groups of children in the parent's view, for the proofs of this crate.
use Rattle.std.specs.Prelude.{◌≡◌, ℕ, zero, suc, ◌+◌, ◌<◌, ◌≤◌, Bool, true, false, List, [], ◌∷◌, ◌++◌, map, take, drop, length, Vec}
use Rattle.std.proofs.Common.{refl, sym, ap, ◌∙◌, get_or, arith, append-nil, append_assoc, length-append}
use Rattle.std.specs.List.{filter}
use Rattle.std.proofs.lemmas.List.{length-map, map-append}
use Rattle.std.proofs.lemmas.List.Elements.{filter-append}
use Rattle.keys.specs.Lists.{flat}
use Rattle.page_runs.specs.declared.class.Class.{Class}
use Rattle.page_runs.specs.Updated.{is_thin_class}
use Rattle.split_plan.specs.Groups.{Gathered, with_child, gathered, with_leading, groups}
use Rattle.split_plan.proofs.GroupLemmas.{groups-joined}
use Rattle.climb_plan.specs.Changing.{SeenPage}
use Rattle.climb_plan.specs.Rewriting.{seen_now, all_seen, groups_seen, is_thin_seen, is_rewritten_seen, with_rewriting, rewriting_counts}
use Rattle.climb_plan.specs.declared.seen.Seen.{Seen}

-- ---- the sizes of groups, by classes

module _ {X Y : Type 0} (f : X → Y) where
  -- what is gathered of things that are read from others
  record IsReadFrom (g : Gathered Y) (h : Gathered X) : Type 0 where
    pub leading : g.leading ≡ map f h.leading
    pub groups : g.groups ≡ map (λ xs. map f xs) h.groups

  child_read : (b : Bool) (x : X) (g : Gathered Y) (h : Gathered X) → IsReadFrom g h → IsReadFrom (with_child b (f x) g) (with_child b x h)
  child_read true x g h r = record { leading = ap (λ (ys : List Y). f x ∷ ys) r.leading; groups = r.groups }
  child_read false x g h r = record {
    leading = refl;
    groups = ap (λ (ys : List Y). (f x ∷ ys) ∷ g.groups) r.leading ∙ ap (λ (gs : List (List Y)). map f (x ∷ h.leading) ∷ gs) r.groups;
  }

  gathered_read : (thin : Y → Bool) (xs : List X) → IsReadFrom (gathered thin (map f xs)) (gathered (λ x. thin (f x)) xs)
  gathered_read thin [] = record { leading = refl; groups = refl }
  gathered_read thin (x ∷ xs) = child_read (thin (f x)) x (gathered thin (map f xs)) (gathered (λ y. thin (f y)) xs) (gathered_read thin xs)

  leading_read : (xs : List X) (gs : List (List X)) → map length (with_leading (map f xs) (map (λ ys. map f ys) gs)) ≡ map length (with_leading xs gs)
  leading_read [] [] = refl
  leading_read [] (g ∷ gs) = ap (λ (n : ℕ). n ∷ map length (map (λ ys. map f ys) gs)) (length-map g f) ∙ ap (λ (ns : List ℕ). length g ∷ ns) (leading_read [] gs)
  leading_read (x ∷ xs) [] = ap (λ (n : ℕ). suc n ∷ []) (length-map xs f)
  leading_read (x ∷ xs) (g ∷ gs) =
      let both : length (map f xs ++ map f g) ≡ length (xs ++ g) = ap (λ (ys : List Y). length ys) (sym (map-append f xs g)) ∙ length-map (xs ++ g) f in
      ap (λ (n : ℕ). suc n ∷ map length (map (λ ys. map f ys) gs)) both ∙ ap (λ (ns : List ℕ). suc (length (xs ++ g)) ∷ ns) (leading_read [] gs)

  -- the groups have the same sizes
  sizes_read : (thin : Y → Bool) (xs : List X) → map length (groups thin (map f xs)) ≡ map length (groups (λ x. thin (f x)) xs)
  sizes_read thin xs =
      let r = gathered_read thin xs in
      let h : Gathered X = gathered (λ x. thin (f x)) xs in
      ap (λ (ys : List Y). map length (with_leading ys (gathered thin (map f xs)).groups)) r.leading
      ∙ ap (λ (gs : List (List Y)). map length (with_leading (map f h.leading) gs)) r.groups
      ∙ leading_read h.leading h.groups

classes : (xs : List Seen) → map (λ x. x.class) xs ≡ map (λ (x : SeenPage). x.class) (all_seen xs)
classes [] = refl
classes (x ∷ xs) = ap (λ (cs : List Class). x.class ∷ cs) (classes xs)

-- the groups of the children
abbrev pub seen_groups : List Seen → List (List SeenPage)
seen_groups xs = groups is_thin_seen (all_seen xs)

pub sizes_of_seen : (xs : List Seen) (cs : List Class) (sizes : List ℕ) → cs ≡ map (λ x. x.class) xs → sizes ≡ map length (groups is_thin_class cs) → sizes ≡ map length (seen_groups xs)
sizes_of_seen xs cs sizes e h =
    h ∙ ap (λ (ds : List Class). map length (groups is_thin_class ds)) (e ∙ classes xs) ∙ sizes_read (λ (x : SeenPage). x.class) is_thin_class (all_seen xs)

pub all_in_groups : (xs : List Seen) → all_seen xs ≡ flat (seen_groups xs)
all_in_groups xs = sym (groups-joined is_thin_seen (all_seen xs))

-- ---- group by group

cut_front : (xs : List Seen) (g rest : List SeenPage) → all_seen xs ≡ g ++ rest → (length g ≤ length xs) × (all_seen (take (length g) xs) ≡ g) × (all_seen (drop (length g) xs) ≡ rest)
cut_front xs [] rest e = (omega arith, refl, e)
cut_front [] (y ∷ ys) rest e = absurd (cc)
cut_front (x ∷ xs) (y ∷ ys) rest e =
    let same : seen_now x ≡ y = cc in
    let more : all_seen xs ≡ ys ++ rest = cc in
    let r = cut_front xs ys rest more in
    (omega (arith, r.0), ap (λ (z : SeenPage). z ∷ all_seen (take (length ys) xs)) same ∙ ap (λ (zs : List SeenPage). y ∷ zs) r.1, r.2)

drop_nothing : {X : Type 0} (k : ℕ) (xs : List X) → xs ≡ [] → drop k xs ≡ []
drop_nothing zero xs e = e
drop_nothing (suc k) [] e = refl
drop_nothing (suc k) (x ∷ xs) e = absurd (cc)

pub drop_further : {X : Type 0} (xs : List X) (m n : ℕ) → drop n (drop m xs) ≡ drop (m + n) xs
drop_further xs zero n = let e : n ≡ 0 + n = omega arith in ap (λ (k : ℕ). drop k xs) e
drop_further [] (suc m) n = drop_nothing n [] refl ∙ sym (drop_nothing (suc m + n) [] refl)
drop_further {X} (x ∷ xs) (suc m) n = let e : suc (m + n) ≡ suc m + n = omega arith in drop_further xs m n ∙ ap (λ (k : ℕ). drop k (x ∷ xs)) e

length_dropped : {X : Type 0} (xs : List X) (n : ℕ) → n ≤ length xs → length (drop n xs) + n ≡ length xs
length_dropped xs zero h = omega arith
length_dropped [] (suc n) h = absurd (omega arith)
length_dropped (x ∷ xs) (suc n) h = let r = length_dropped xs n (omega arith) in omega arith

group_at : {X : Type 0} (gs : List (List X)) (i : ℕ) → i < length gs → (g : List X) × (drop i gs ≡ g ∷ drop (i + 1) gs) × (get_or (map length gs) i 0 ≡ length g)
group_at [] i l = absurd (omega arith)
group_at (g ∷ gs) zero l = (g, refl, refl)
group_at {X} (g ∷ gs) (suc i) l =
    let r = group_at gs i (omega arith) in
    let e : suc (i + 1) ≡ suc i + 1 = omega arith in
    (r.0, r.1 ∙ ap (λ (k : ℕ). r.0 ∷ drop k (g ∷ gs)) e, r.2)

-- the first i groups are done; the remaining ones begin at `start`
module _ (children : List Seen) (sizes : List ℕ) (all : List (List SeenPage)) where
  pub record IsDealt (start i : ℕ) (made : List (List SeenPage)) : Type 0 where
    pub most : start ≤ length children
    pub sized : sizes ≡ map length (seen_groups children)
    pub left : all_seen (drop start children) ≡ flat (drop i (seen_groups children))
    pub so_far : made ++ filter is_rewritten_seen (drop i (seen_groups children)) ≡ all

  -- the next group
  pub record IsGroupAt (start i : ℕ) (g : List SeenPage) : Type 0 where
    pub size : get_or sizes i 0 ≡ length g
    pub within : start + length g ≤ length children
    pub own : all_seen (take (length g) (drop start children)) ≡ g
    pub following : all_seen (drop (start + length g) children) ≡ flat (drop (i + 1) (seen_groups children))
    pub parts : drop i (seen_groups children) ≡ g ∷ drop (i + 1) (seen_groups children)

  pub next_group : (start i : ℕ) (made : List (List SeenPage)) → IsDealt start i made → i < length sizes → (g : List SeenPage) × IsGroupAt start i g
  next_group start i made h l =
      let n : length sizes ≡ length (seen_groups children) = ap (λ (ns : List ℕ). length ns) h.sized ∙ length-map (seen_groups children) length in
      let r = group_at (seen_groups children) i (omega arith) in
      let c = cut_front (drop start children) r.0 (flat (drop (i + 1) (seen_groups children))) (h.left ∙ ap (λ (gs : List (List SeenPage)). flat gs) r.1) in
      let d = length_dropped children start h.most in (
        r.0,
        record {
          size = ap (λ (ns : List ℕ). get_or ns i 0) h.sized ∙ r.2;
          within = omega (arith, c.0);
          own = c.1;
          following = ap (λ (xs : List Seen). all_seen xs) (sym (drop_further children start (length r.0))) ∙ c.2;
          parts = r.1;
        },
      )

  pub dealt_more : (start i end : ℕ) (made more : List (List SeenPage)) (g own : List SeenPage) → IsDealt start i made → IsGroupAt start i g → end ≡ start + get_or sizes i 0 → own ≡ all_seen (take (get_or sizes i 0) (drop start children)) → more ≡ made ++ filter is_rewritten_seen (own ∷ []) → IsDealt end (i + 1) more
  dealt_more start i end made more g own h r e o m =
      let there : end ≡ start + length g = omega (arith, r.size) in
      let same : own ≡ g = o ∙ ap (λ (n : ℕ). all_seen (take n (drop start children))) r.size ∙ r.own in
      let later : List (List SeenPage) = drop (i + 1) (seen_groups children) in
      record {
        most = omega (arith, r.within);
        sized = h.sized;
        left = ap (λ (n : ℕ). all_seen (drop n children)) there ∙ r.following;
        so_far =
            ap (λ (gs : List (List SeenPage)). gs ++ filter is_rewritten_seen later) (m ∙ ap (λ (x : List SeenPage). made ++ filter is_rewritten_seen (x ∷ [])) same)
            ∙ append_assoc made (filter is_rewritten_seen (g ∷ [])) (filter is_rewritten_seen later)
            ∙ ap (λ (gs : List (List SeenPage)). made ++ gs) (sym (filter-append is_rewritten_seen (g ∷ []) later))
            ∙ ap (λ (gs : List (List SeenPage)). made ++ filter is_rewritten_seen gs) (sym r.parts)
            ∙ h.so_far;
      }

  pub all_dealt : (start i : ℕ) (made : List (List SeenPage)) → IsDealt start i made → i ≡ length sizes → made ≡ all
  all_dealt start i made h e =
      let n : length sizes ≡ length (seen_groups children) = ap (λ (ns : List ℕ). length ns) h.sized ∙ length-map (seen_groups children) length in
      let none : drop i (seen_groups children) ≡ [] = ap (λ (k : ℕ). drop k (seen_groups children)) (e ∙ n) ∙ all_dropped (seen_groups children) in
      sym (append-nil made) ∙ ap (λ (gs : List (List SeenPage)). made ++ filter is_rewritten_seen gs) (sym none) ∙ h.so_far
    where
      all_dropped : {X : Type 0} (xs : List X) → drop (length xs) xs ≡ []
      all_dropped [] = refl
      all_dropped (x ∷ xs) = all_dropped xs

-- ---- what is added

-- as many groups are added as there are
pub count_added : {A : Type 0} (old new : List (Vec Seen A)) (gs : List (List SeenPage)) → groups_seen new ≡ groups_seen old ++ gs → length new ≡ length old + length gs
count_added old new gs e =
    sym (length-map new (λ g. all_seen g.items)) ∙ ap (λ (hs : List (List SeenPage)). length hs) e ∙ length-append (groups_seen old) gs ∙ ap (λ (n : ℕ). n + length gs) (length-map old (λ g. all_seen g.items))

-- and their parent, if there are some
pub some_added : (pid n : ℕ) (gs : List (List SeenPage)) → n ≡ length gs → 0 < n → rewriting_counts (with_rewriting pid gs []) ≡ (pid, n) ∷ []
some_added pid n [] e l = absurd (omega arith)
some_added pid n (g ∷ gs) e l = let one : ℕ → List (ℕ × ℕ) = λ m. (pid, m) ∷ [] in ap one (sym e)

pub none_added : (pid n : ℕ) (gs : List (List SeenPage)) → n ≡ length gs → (0 < n → ⊥) → rewriting_counts (with_rewriting pid gs []) ≡ []
none_added pid n [] e d = refl
none_added pid n (g ∷ gs) e d = absurd (d (omega arith))
