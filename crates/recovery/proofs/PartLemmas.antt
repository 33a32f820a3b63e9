-- The part of a list from the last element on that passes a test.
use Rattle.std.specs.Prelude.{◌≡◌, Bool, true, false, cond, not, ◌&&◌, ◌||◌, ⊤, List, [], ◌∷◌, ◌++◌, map}
use Rattle.std.proofs.Common.{refl, sym, ap, ◌∙◌}
use Rattle.std.proofs.lemmas.Bool.{or_parts, or_right}
use Rattle.std.proofs.lemmas.List.Folds.{list_any-append}
use Rattle.std.specs.List.{AllByRecursion, list_any}
use Rattle.recovery.specs.PageByLog.{from_last}

module _ {X : Type 0} (test : X → Bool) where
  step_by : (b c : Bool) (x : X) (xs rest : List X) → c ≡ true → cond (b && not c) (x ∷ xs) rest ≡ rest
  step_by true true x xs rest e = refl
  step_by true false x xs rest e = absurd (cc)
  step_by false c x xs rest e = refl

  -- if one passes after a first one, that one doesn't count
  pub from_last-step : (x : X) (xs : List X) → list_any test xs ≡ true → from_last test (x ∷ xs) ≡ from_last test xs
  from_last-step x xs e = step_by (test x) (list_any test xs) x xs (from_last test xs) e

  none_by : (b c : Bool) (x : X) (xs rest : List X) → (b || c) ≡ false → cond (b && not c) (x ∷ xs) rest ≡ rest
  none_by true c x xs rest e = absurd (cc)
  none_by false c x xs rest e = refl

  -- if none passes, there is nothing
  pub from_last-none : (xs : List X) → list_any test xs ≡ false → from_last test xs ≡ []
  from_last-none [] e = refl
  from_last-none (x ∷ xs) e = none_by (test x) (list_any test xs) x xs (from_last test xs) e ∙ from_last-none xs (or_parts (test x) (list_any test xs) e).1

  -- if one passes in the second part, the first part doesn't count
  pub from_last-following : (xs ys : List X) → list_any test ys ≡ true → from_last test (xs ++ ys) ≡ from_last test ys
  from_last-following [] ys e = refl
  from_last-following (x ∷ xs) ys e =
      from_last-step x (xs ++ ys) (list_any-append test xs ys ∙ or_right (list_any test xs) (list_any test ys) e) ∙ from_last-following xs ys e

  first_by : (b c : Bool) (x : X) (xs rest : List X) → b ≡ true → c ≡ false → cond (b && not c) (x ∷ xs) rest ≡ x ∷ xs
  first_by true true x xs rest e f = absurd (cc)
  first_by true false x xs rest e f = refl
  first_by false c x xs rest e f = absurd (cc)

  -- a first one that passes, if none passes after it
  pub from_last-first : (x : X) (xs : List X) → test x ≡ true → list_any test xs ≡ false → from_last test (x ∷ xs) ≡ x ∷ xs
  from_last-first x xs e f = first_by (test x) (list_any test xs) x xs (from_last test xs) e f

  pub from_last-at : (xs : List X) (y : X) (ys : List X) → test y ≡ true → list_any test ys ≡ false → from_last test (xs ++ y ∷ ys) ≡ y ∷ ys
  from_last-at xs y ys e f = from_last-following xs (y ∷ ys) (ap (λ (b : Bool). b || list_any test ys) e) ∙ from_last-first y ys e f

  more_by : (b c d : Bool) (x : X) (xs ys rest other : List X) → (b || c) ≡ true → d ≡ c → (c ≡ true → rest ≡ other ++ ys) → cond (b && not d) (x ∷ xs ++ ys) rest ≡ cond (b && not c) (x ∷ xs) other ++ ys
  more_by true true true x xs ys rest other h e f = f refl
  more_by true true false x xs ys rest other h e f = absurd (cc)
  more_by true false true x xs ys rest other h e f = absurd (cc)
  more_by true false false x xs ys rest other h e f = refl
  more_by false true d x xs ys rest other h e f = f refl
  more_by false false d x xs ys rest other h e f = absurd (cc)

  or_false : (a b : Bool) → b ≡ false → (a || b) ≡ a
  or_false true b e = refl
  or_false false b e = e

  -- what passes no test after it belongs to it
  pub from_last-more : (xs ys : List X) → list_any test xs ≡ true → list_any test ys ≡ false → from_last test (xs ++ ys) ≡ from_last test xs ++ ys
  from_last-more [] ys e f = absurd (cc)
  from_last-more (x ∷ xs) ys e f =
      more_by (test x) (list_any test xs) (list_any test (xs ++ ys)) x xs ys (from_last test (xs ++ ys)) (from_last test xs) e
      (list_any-append test xs ys ∙ or_false (list_any test xs) (list_any test ys) f) (λ g. from_last-more xs ys g f)

  -- nothing passes before or after
  pub none-append : (xs ys : List X) → list_any test xs ≡ false → list_any test ys ≡ false → list_any test (xs ++ ys) ≡ false
  none-append xs ys e f = list_any-append test xs ys ∙ or_false (list_any test xs) (list_any test ys) f ∙ e

  -- the part has one that passes if and only if the whole has
  some_by : (b c : Bool) (x : X) (xs rest : List X) → (b || c) ≡ true → (c ≡ true → list_any test rest ≡ true) → test x ≡ b → list_any test (cond (b && not c) (x ∷ xs) rest) ≡ true
  some_by true true x xs rest h f e = f refl
  some_by true false x xs rest h f e = ap (λ (b : Bool). b || list_any test xs) e
  some_by false true x xs rest h f e = f refl
  some_by false false x xs rest h f e = absurd (cc)

  pub from_last-some : (xs : List X) → list_any test xs ≡ true → list_any test (from_last test xs) ≡ true
  from_last-some [] e = absurd (cc)
  from_last-some (x ∷ xs) e = some_by (test x) (list_any test xs) x xs (from_last test xs) e (λ g. from_last-some xs g) refl

  -- what holds of all holds of the part
  all_by : (P : X → Type 0) (b : Bool) (xs ys : List X) → AllByRecursion P xs → AllByRecursion P ys → AllByRecursion P (cond b xs ys)
  all_by P true xs ys a c = a
  all_by P false xs ys a c = c

  pub from_last-all : (P : X → Type 0) (xs : List X) → AllByRecursion P xs → AllByRecursion P (from_last test xs)
  from_last-all P [] a = tt
  from_last-all P (x ∷ xs) a = all_by P (test x && not (list_any test xs)) (x ∷ xs) (from_last test xs) a (from_last-all P xs a.1)

  -- its first passes, and none after it does
  abbrev pub IsPart : List X → Type 0
  IsPart [] = ⊤
  IsPart (y ∷ ys) = (test y ≡ true) × (list_any test ys ≡ false)

  part_by : (b c : Bool) (x : X) (xs rest : List X) → test x ≡ b → list_any test xs ≡ c → IsPart rest → IsPart (cond (b && not c) (x ∷ xs) rest)
  part_by true true x xs rest e f h = h
  part_by true false x xs rest e f h = (e, f)
  part_by false c x xs rest e f h = h

  pub from_last-is : (xs : List X) → IsPart (from_last test xs)
  from_last-is [] = tt
  from_last-is (x ∷ xs) = part_by (test x) (list_any test xs) x xs (from_last test xs) refl refl (from_last-is xs)

-- the part of what elements are made of
module _ {X Y : Type 0} (f : X → Y) (test : Y → Bool) where
  pub any-map : (xs : List X) → list_any test (map f xs) ≡ list_any (λ x. test (f x)) xs
  any-map [] = refl
  any-map (x ∷ xs) = ap (λ (b : Bool). test (f x) || b) (any-map xs)

  map_by : (b : Bool) (xs ys : List X) → map f (cond b xs ys) ≡ cond b (map f xs) (map f ys)
  map_by true xs ys = refl
  map_by false xs ys = refl

  pub from_last-map : (xs : List X) → from_last test (map f xs) ≡ map f (from_last (λ x. test (f x)) xs)
  from_last-map [] = refl
  from_last-map (x ∷ xs) =
      let g : X → Bool = λ x. test (f x) in
      ap (λ (b : Bool). cond (test (f x) && not b) (map f (x ∷ xs)) (from_last test (map f xs))) (any-map xs)
      ∙ ap (λ (ys : List Y). cond (test (f x) && not (list_any g xs)) (map f (x ∷ xs)) ys) (from_last-map xs)
      ∙ sym (map_by (test (f x) && not (list_any g xs)) (x ∷ xs) (from_last g xs))
