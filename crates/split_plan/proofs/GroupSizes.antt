-- The sizes of groups, found by one walk over the children, for the proofs of this crate and of those above it.
use Rattle.std.specs.Prelude.{◌≡◌, ◌<◌, ◌≤◌, ℕ, zero, suc, ◌+◌, Bool, true, false, cond, List, [], ◌∷◌, ◌++◌, length, map}
use Rattle.std.proofs.Common.{refl, sym, ap, ◌∙◌, subst, arith, length-append}
use Rattle.std.proofs.lemmas.List.{length-map}
use Rattle.std.proofs.Math.Seq.{take-append_seam, drop-append_seam}
use Rattle.keys.specs.Lists.{flat}
use Rattle.page_runs.specs.Updated.{Updated, is_thin, is_thin_class}
use Rattle.split_plan.specs.Groups.{Gathered, with_child, gathered, with_leading, groups, cut_by}
use Rattle.split_plan.proofs.GroupLemmas.{groups-joined}

-- sizes of groups, if the first has this many members more; these are one group where there is none
abbrev pub more_in_first : ℕ → List ℕ → List ℕ
more_in_first zero sizes = sizes
more_in_first (suc n) [] = suc n ∷ []
more_in_first (suc n) (size ∷ sizes) = (suc n + size) ∷ sizes

-- at a child that isn't thin: the group that ends there, if one has begun, and the members of the one that it is in
abbrev pub ended : Bool → ℕ → List ℕ
ended true members = members ∷ []
ended false members = []

abbrev pub members_with : Bool → ℕ → ℕ
members_with true members = 1
members_with false members = suc members

-- the sizes that are still to come, if a group has this many members so far; it has begun where one of them isn't thin
abbrev pub sizes_from : {X : Type 0} → (X → Bool) → ℕ → Bool → List X → List ℕ
sizes_from is_thin members has_begun [] = more_in_first members []
sizes_from is_thin members has_begun (x ∷ xs) =
    cond (is_thin x) (sizes_from is_thin (suc members) has_begun xs) (ended has_begun members ++ sizes_from is_thin (members_with has_begun members) true xs)

first_begins : (n m : ℕ) (sizes : List ℕ) → (suc n + m) ∷ sizes ≡ more_in_first (n + 0) (suc m ∷ sizes)
first_begins zero m sizes = let e : 1 + m ≡ suc m = omega arith in ap (λ (k : ℕ). k ∷ sizes) e
first_begins (suc n) m sizes =
    let e : suc (suc n) + m ≡ suc n + suc m = omega arith in
    let f : suc n ≡ suc n + 0 = omega arith in
    ap (λ (k : ℕ). k ∷ sizes) e ∙ ap (λ (k : ℕ). more_in_first k (suc m ∷ sizes)) f

some_begun : (has_begun : Bool) (n : ℕ) → 0 < members_with has_begun n
some_begun true n = omega arith
some_begun false n = omega arith

some_by : (thin has_begun : Bool) (n : ℕ) (sizes later : List ℕ) → 0 < length sizes → 0 < length later → 0 < length (cond thin sizes (ended has_begun n ++ later))
some_by true has_begun n sizes later h k = h
some_by false true n sizes later h k = omega arith
some_by false false n sizes later h k = k

module _ {X : Type 0} where
  -- the same by what is gathered
  abbrev sizes_after : ℕ → Bool → Gathered X → List ℕ
  sizes_after members true g = (members + length g.leading) ∷ map length g.groups
  sizes_after members false g = more_in_first (members + length g.leading) (map length g.groups)

  child_by : (b has_begun : Bool) (n : ℕ) (x : X) (g : Gathered X) → cond b (sizes_after (suc n) has_begun g) (ended has_begun n ++ sizes_after (members_with has_begun n) true g) ≡ sizes_after n has_begun (with_child b x g)
  child_by true true n x g = let e : suc n + length g.leading ≡ n + suc (length g.leading) = omega arith in ap (λ (k : ℕ). k ∷ map length g.groups) e
  child_by true false n x g = let e : suc n + length g.leading ≡ n + suc (length g.leading) = omega arith in ap (λ (k : ℕ). more_in_first k (map length g.groups)) e
  child_by false true n x g =
      let e : n ≡ n + 0 = omega arith in
      let f : 1 + length g.leading ≡ suc (length g.leading) = omega arith in
      ap (λ (k : ℕ). k ∷ (1 + length g.leading) ∷ map length g.groups) e ∙ ap (λ (k : ℕ). (n + 0) ∷ k ∷ map length g.groups) f
  child_by false false n x g = first_begins n (length g.leading) (map length g.groups)

  module _ (is_thin : X → Bool) where
    none_left : (n : ℕ) (has_begun : Bool) → (has_begun ≡ true → 0 < n) → more_in_first n [] ≡ sizes_after n has_begun (gathered is_thin [])
    none_left zero true h = absurd (let z : 0 < 0 = h refl in omega arith)
    none_left zero false h = refl
    none_left (suc n) true h = let e : suc n ≡ suc n + 0 = omega arith in ap (λ (k : ℕ). k ∷ []) e
    none_left (suc n) false h = let e : suc n ≡ suc n + 0 = omega arith in ap (λ (k : ℕ). more_in_first k []) e

    sizes_of_gathered : (xs : List X) (n : ℕ) (has_begun : Bool) → (has_begun ≡ true → 0 < n) → sizes_from is_thin n has_begun xs ≡ sizes_after n has_begun (gathered is_thin xs)
    sizes_of_gathered [] n has_begun h = none_left n has_begun h
    sizes_of_gathered (x ∷ xs) n has_begun h =
        let g : Gathered X = gathered is_thin xs in
        ap (λ (sizes : List ℕ). cond (is_thin x) sizes (ended has_begun n ++ sizes_from is_thin (members_with has_begun n) true xs)) (sizes_of_gathered xs (suc n) has_begun (λ e. omega arith))
        ∙ ap (λ (sizes : List ℕ). cond (is_thin x) (sizes_after (suc n) has_begun g) (ended has_begun n ++ sizes)) (sizes_of_gathered xs (members_with has_begun n) true (λ e. some_begun has_begun n))
        ∙ child_by (is_thin x) has_begun n x g

    sizes-with_leading : (lead : List X) (gs : List (List X)) → more_in_first (length lead) (map length gs) ≡ map length (with_leading lead gs)
    sizes-with_leading [] gs = refl
    sizes-with_leading (x ∷ lead) [] = refl
    sizes-with_leading (x ∷ lead) (g ∷ gs) = ap (λ (k : ℕ). k ∷ map length gs) (sym (length-append (x ∷ lead) g))

    -- the walk from the first child on finds the sizes of the groups
    pub sizes_are_found : (xs : List X) → sizes_from is_thin 0 false xs ≡ map length (groups is_thin xs)
    sizes_are_found xs =
        let g : Gathered X = gathered is_thin xs in
        let e : 0 + length g.leading ≡ length g.leading = omega arith in
        sizes_of_gathered xs 0 false (λ e. absurd (cc)) ∙ ap (λ (k : ℕ). more_in_first k (map length g.groups)) e ∙ sizes-with_leading g.leading g.groups

  -- ---- how many sizes come

  some_come : (is_thin : X → Bool) (xs : List X) (n : ℕ) (has_begun : Bool) → 0 < n → 0 < length (sizes_from is_thin n has_begun xs)
  some_come is_thin [] zero has_begun h = absurd (omega arith)
  some_come is_thin [] (suc n) has_begun h = omega arith
  some_come is_thin (x ∷ xs) n has_begun h =
      some_by (is_thin x) has_begun n (sizes_from is_thin (suc n) has_begun xs) (sizes_from is_thin (members_with has_begun n) true xs)
      (some_come is_thin xs (suc n) has_begun (omega arith))
      (some_come is_thin xs (members_with has_begun n) true (some_begun has_begun n))

  -- while a group has members so far, the sizes before it are fewer than the groups
  pub more_come : (is_thin : X → Bool) (xs : List X) (n : ℕ) (has_begun : Bool) (sizes : List ℕ) (gs : List (List X)) → 0 < n → sizes ++ sizes_from is_thin n has_begun xs ≡ map length gs → length sizes + 1 ≤ length gs
  more_come is_thin xs n has_begun sizes gs h e =
      let some = some_come is_thin xs n has_begun h in
      omega (arith, some, ap (λ (ns : List ℕ). length ns) e, length-append sizes (sizes_from is_thin n has_begun xs), length-map gs (length {A = X}))

  -- lists cut out by their lengths are found again
  pub cut_by-lengths : (gs : List (List X)) → cut_by (map length gs) (flat gs) ≡ gs
  cut_by-lengths [] = refl
  cut_by-lengths (g ∷ gs) = rw (take-append_seam, drop-append_seam) (ap (λ (hs : List (List X)). g ∷ hs) (cut_by-lengths gs))

module _ {V : Type 0} where
  -- the walk reads nothing but classes
  sizes_by_class : (f : List (Updated V)) (n : ℕ) (has_begun : Bool) → sizes_from is_thin_class n has_begun (map (λ w. w.class) f) ≡ sizes_from is_thin n has_begun f
  sizes_by_class [] n has_begun = refl
  sizes_by_class (w ∷ f) n has_begun =
      ap (λ (sizes : List ℕ). cond (is_thin w) sizes (ended has_begun n ++ sizes_from is_thin_class (members_with has_begun n) true (map (λ v. v.class) f))) (sizes_by_class f (suc n) has_begun)
      ∙ ap (λ (sizes : List ℕ). cond (is_thin w) (sizes_from is_thin (suc n) has_begun f) (ended has_begun n ++ sizes)) (sizes_by_class f (members_with has_begun n) true)

  -- so the sizes of a family's groups are found by its classes
  pub groups_by_class : (f : List (Updated V)) → map length (groups is_thin_class (map (λ w. w.class) f)) ≡ map length (groups is_thin f)
  groups_by_class f = sym (sizes_are_found is_thin_class (map (λ w. w.class) f)) ∙ sizes_by_class f 0 false ∙ sizes_are_found is_thin f

  -- and cut it into its groups
  pub groups_cut : (f : List (Updated V)) → cut_by (map length (groups is_thin f)) f ≡ groups is_thin f
  groups_cut f =
      let joined : flat (groups is_thin f) ≡ f = groups-joined is_thin f in
      subst (λ (ws : List (Updated V)). cut_by (map length (groups is_thin f)) ws ≡ groups is_thin f) joined (cut_by-lengths (groups is_thin f))
