-- Lemmas on groups of children, for the proofs of this crate and of those above it.
use Rattle.std.specs.Prelude.{◌≡◌, suc, ◌+◌, ◌<◌, Bool, true, false, not, cond, List, [], ◌∷◌, ◌++◌, length, drop}
use Rattle.std.proofs.Common.{refl, sym, ap, ◌∙◌, arith, append-nil, append_assoc}
use Rattle.std.specs.List.{AllByRecursion}
use Rattle.std.proofs.lemmas.List.Sums.{sum_by-cons, sum_by-append}
use Rattle.keys.specs.Lists.{flat}
use Rattle.split_plan.specs.Groups.{Gathered, with_child, gathered, with_leading, groups, count_kept, begins_thin}
use Rattle.split_plan.proofs.Full.{AllFull}

module _ {X : Type 0} (is_thin : X → Bool) where
  front-joined : (b : Bool) (x : X) (g : Gathered X) → (with_child b x g).leading ++ flat (with_child b x g).groups ≡ x ∷ (g.leading ++ flat g.groups)
  front-joined true x g = refl
  front-joined false x g = refl

  gathered-joined : (xs : List X) → (gathered is_thin xs).leading ++ flat (gathered is_thin xs).groups ≡ xs
  gathered-joined [] = refl
  gathered-joined (x ∷ xs) = front-joined (is_thin x) x (gathered is_thin xs) ∙ ap (λ (rest : List X). x ∷ rest) (gathered-joined xs)

  leading-joined : (xs : List X) (gs : List (List X)) → flat (with_leading xs gs) ≡ xs ++ flat gs
  leading-joined [] gs = refl
  leading-joined (x ∷ xs) [] = refl
  leading-joined (x ∷ xs) (g ∷ gs) = ap (λ (rest : List X). x ∷ rest) (append_assoc xs g (flat gs))

  -- the groups joined are the children
  pub groups-joined : (xs : List X) → flat (groups is_thin xs) ≡ xs
  groups-joined xs = leading-joined (gathered is_thin xs).leading (gathered is_thin xs).groups ∙ gathered-joined xs

  front_full : (b : Bool) (x : X) (g : Gathered X) → AllFull g.groups → AllFull (with_child b x g).groups
  front_full true x g h = h
  front_full false x g h = (omega arith, h)

  gathered_full : (xs : List X) → AllFull (gathered is_thin xs).groups
  gathered_full [] = tt
  gathered_full (x ∷ xs) = front_full (is_thin x) x (gathered is_thin xs) (gathered_full xs)

  leading_full : (xs : List X) (gs : List (List X)) → AllFull gs → AllFull (with_leading xs gs)
  leading_full [] gs h = h
  leading_full (x ∷ xs) [] h = (omega arith, tt)
  leading_full (x ∷ xs) (g ∷ gs) h = (omega arith, h.1)

  -- no group is empty
  pub groups_full : (xs : List X) → AllFull (groups is_thin xs)
  groups_full xs = leading_full (gathered is_thin xs).leading (gathered is_thin xs).groups (gathered_full xs)

  -- ---- which children are in a group

  count_kept-cons : (x : X) (xs : List X) → count_kept is_thin (x ∷ xs) ≡ cond (not (is_thin x)) 1 0 + count_kept is_thin xs
  count_kept-cons x xs = sum_by-cons (λ y. cond (not (is_thin y)) 1 0) x xs

  count_kept-thin : (x : X) (xs : List X) → is_thin x ≡ true → count_kept is_thin (x ∷ xs) ≡ count_kept is_thin xs
  count_kept-thin x xs h = count_kept-cons x xs ∙ (rw h (omega arith))

  count_kept-kept : (x : X) (xs : List X) → is_thin x ≡ false → count_kept is_thin (x ∷ xs) ≡ suc (count_kept is_thin xs)
  count_kept-kept x xs h = count_kept-cons x xs ∙ (rw h (omega arith))

  count_kept-append : (xs ys : List X) → count_kept is_thin (xs ++ ys) ≡ count_kept is_thin xs + count_kept is_thin ys
  count_kept-append xs ys = sum_by-append (λ y. cond (not (is_thin y)) 1 0) xs ys

  -- what is gathered: what leads is thin, and each group begins with its only child that isn't
  record IsGathered (xs : List X) (g : Gathered X) : Type 0 where
    pub leading : count_kept is_thin g.leading ≡ 0
    pub one : AllByRecursion (λ h. count_kept is_thin h ≡ 1) g.groups
    pub begin : AllByRecursion (λ h. begins_thin is_thin h ≡ false) g.groups
    pub none : g.groups ≡ [] → count_kept is_thin xs ≡ 0

  child_by : (b : Bool) (x : X) (xs : List X) (g : Gathered X) → is_thin x ≡ b → IsGathered xs g → IsGathered (x ∷ xs) (with_child b x g)
  child_by true x xs g e h = record {
    leading = count_kept-thin x g.leading e ∙ h.leading;
    one = h.one;
    begin = h.begin;
    none = λ n. count_kept-thin x xs e ∙ h.none n;
  }
  child_by false x xs g e h = record {
    leading = refl;
    one = (count_kept-kept x g.leading e ∙ ap (λ n. suc n) h.leading, h.one);
    begin = (e, h.begin);
    none = λ n. absurd (cc);
  }

  is_gathered : (xs : List X) → IsGathered xs (gathered is_thin xs)
  is_gathered [] = record { leading = refl; one = tt; begin = tt; none = λ n. refl }
  is_gathered (x ∷ xs) = child_by (is_thin x) x xs (gathered is_thin xs) refl (is_gathered xs)

  one_by : (xs : List X) (lead : List X) (gs : List (List X)) → count_kept is_thin lead ≡ 0 → AllByRecursion (λ h. count_kept is_thin h ≡ 1) gs → (gs ≡ [] → count_kept is_thin xs ≡ 0) → 0 < count_kept is_thin xs → AllByRecursion (λ h. count_kept is_thin h ≡ 1) (with_leading lead gs)
  one_by xs [] gs l a n h = a
  one_by xs (x ∷ lead) [] l a n h = absurd (let z = n refl in omega arith)
  one_by xs (x ∷ lead) (g ∷ gs) l a n h = (count_kept-append (x ∷ lead) g ∙ (let one = a.0 in omega arith), a.1)

  -- if some child isn't thin, each group has exactly one that isn't
  pub one_in_each_group : (xs : List X) → 0 < count_kept is_thin xs → AllByRecursion (λ h. count_kept is_thin h ≡ 1) (groups is_thin xs)
  one_in_each_group xs h =
      let g = is_gathered xs in
      one_by xs (gathered is_thin xs).leading (gathered is_thin xs).groups g.leading g.one g.none h

  later_by : (lead : List X) (gs : List (List X)) → AllByRecursion (λ h. begins_thin is_thin h ≡ false) gs → AllByRecursion (λ h. begins_thin is_thin h ≡ false) (drop 1 (with_leading lead gs))
  later_by [] [] a = tt
  later_by [] (g ∷ gs) a = a.1
  later_by (x ∷ lead) [] a = tt
  later_by (x ∷ lead) (g ∷ gs) a = a.1

  -- each group but the first begins with it
  pub later_groups_begin : (xs : List X) → AllByRecursion (λ h. begins_thin is_thin h ≡ false) (drop 1 (groups is_thin xs))
  later_groups_begin xs = later_by (gathered is_thin xs).leading (gathered is_thin xs).groups (is_gathered xs).begin

  none_kept : (gs : List (List X)) → AllByRecursion (λ h. count_kept is_thin h ≡ 1) gs → count_kept is_thin (flat gs) ≡ 0 → gs ≡ []
  none_kept [] a z = refl
  none_kept (g ∷ gs) a z =
      absurd (let one = a.0 in let sum : count_kept is_thin (g ++ flat gs) ≡ count_kept is_thin g + count_kept is_thin (flat gs) = count_kept-append g (flat gs) in omega arith)

  all_thin_by : (lead : List X) (gs : List (List X)) (xs : List X) → gs ≡ [] → lead ++ flat gs ≡ xs → 0 < length xs → with_leading lead gs ≡ xs ∷ []
  all_thin_by lead (g ∷ gs) xs e j h = absurd (cc)
  all_thin_by [] [] xs e j h = absurd (let z : [] ≡ xs = j in let n : 0 ≡ length xs = ap (λ (ys : List X). length ys) z in omega arith)
  all_thin_by (x ∷ lead) [] xs e j h = ap (λ (ys : List X). ys ∷ []) (sym (append-nil (x ∷ lead)) ∙ j)

  -- if all children are thin, they are one group
  pub all_thin_are_one_group : (xs : List X) → count_kept is_thin xs ≡ 0 → 0 < length xs → groups is_thin xs ≡ xs ∷ []
  all_thin_are_one_group xs z h =
      let g = is_gathered xs in
      let lead : List X = (gathered is_thin xs).leading in
      let gs : List (List X) = (gathered is_thin xs).groups in
      let sum : count_kept is_thin (lead ++ flat gs) ≡ count_kept is_thin lead + count_kept is_thin (flat gs) = count_kept-append lead (flat gs) in
      let all : count_kept is_thin (lead ++ flat gs) ≡ count_kept is_thin xs = ap (λ (ys : List X). count_kept is_thin ys) (gathered-joined xs) in
      let thin : count_kept is_thin (flat gs) ≡ 0 = omega arith in
      all_thin_by lead gs xs (none_kept gs g.one thin) (gathered-joined xs) h
