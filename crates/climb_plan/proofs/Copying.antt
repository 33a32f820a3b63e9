-- Lists that are made from other lists, one element after the other.
use Rattle.std.specs.Prelude.{◌≡◌, ℕ, ◌+◌, ◌<◌, ◌≤◌, List, [], ◌∷◌, ◌++◌, map, flat_map, length, take, drop}
use Rattle.std.proofs.Common.{sym, ap, ◌∙◌, append_assoc, append-nil, get_or}
use Rattle.std.proofs.lemmas.List.{drop_more, take_more, drop_all, take_all, map-append}

-- the images of the elements so far and of the remaining ones, after one more element
pub told_more : {A B X : Type 0} (of : A → B) (tell : B → X) (out new all : List X) (xs : List A) (i : ℕ) (x : A) → i < length xs → x ≡ get_or xs i x → new ≡ out ++ tell (of x) ∷ [] → out ++ map tell (map of (drop i xs)) ≡ all
    → new ++ map tell (map of (drop (i + 1) xs)) ≡ all
told_more {A} {B} {X} of tell out new all xs i x l e n h =
    let left : drop i xs ≡ x ∷ drop (i + 1) xs = drop_more xs i x l ∙ ap (λ (y : A). y ∷ drop (i + 1) xs) (sym e) in
    ap (λ (ys : List X). ys ++ map tell (map of (drop (i + 1) xs))) n
    ∙ append_assoc out (tell (of x) ∷ []) (map tell (map of (drop (i + 1) xs)))
    ∙ ap (λ (ys : List A). out ++ map tell (map of ys)) (sym left)
    ∙ h

-- the images of the elements so far, after one more element
pub taken_more : {A X : Type 0} (tell : A → X) (out new : List X) (xs : List A) (i : ℕ) (x : A) → i < length xs → x ≡ get_or xs i x → new ≡ out ++ tell x ∷ [] → out ≡ map tell (take i xs) → new ≡ map tell (take (i + 1) xs)
taken_more {A} {X} tell out new xs i x l e n h =
    n
    ∙ ap (λ (ys : List X). ys ++ tell x ∷ []) h
    ∙ sym (map-append tell (take i xs) (x ∷ []))
    ∙ ap (λ (ys : List A). map tell ys) (ap (λ (y : A). take i xs ++ y ∷ []) e ∙ sym (take_more xs i x l))

-- after the last element all images are there
pub told_all : {A B X : Type 0} (of : A → B) (tell : B → X) (out all : List X) (xs : List A) (i : ℕ) → length xs ≤ i → out ++ map tell (map of (drop i xs)) ≡ all → out ≡ all
told_all {A} {B} {X} of tell out all xs i l h = sym (append-nil out) ∙ ap (λ (ys : List A). out ++ map tell (map of ys)) (sym (drop_all i xs l)) ∙ h

pub taken_all : {A X : Type 0} (tell : A → X) (out : List X) (xs : List A) (i : ℕ) → length xs ≤ i → out ≡ map tell (take i xs) → out ≡ map tell xs
taken_all {A} {X} tell out xs i l h = h ∙ ap (λ (ys : List A). map tell ys) (take_all i xs l)

-- the same if the image of each element is a list
pub joined_more : {A X : Type 0} (tell : A → List X) (out new all : List X) (xs : List A) (i : ℕ) (x : A) → i < length xs → x ≡ get_or xs i x → new ≡ out ++ tell x → out ++ flat_map tell (drop i xs) ≡ all → new ++ flat_map tell (drop (i + 1) xs) ≡ all
joined_more {A} {X} tell out new all xs i x l e n h =
    let left : drop i xs ≡ x ∷ drop (i + 1) xs = drop_more xs i x l ∙ ap (λ (y : A). y ∷ drop (i + 1) xs) (sym e) in
    ap (λ (ys : List X). ys ++ flat_map tell (drop (i + 1) xs)) n
    ∙ append_assoc out (tell x) (flat_map tell (drop (i + 1) xs))
    ∙ ap (λ (ys : List A). out ++ flat_map tell ys) (sym left)
    ∙ h

pub joined_all : {A X : Type 0} (tell : A → List X) (out all : List X) (xs : List A) (i : ℕ) → length xs ≤ i → out ++ flat_map tell (drop i xs) ≡ all → out ≡ all
joined_all {A} {X} tell out all xs i l h = sym (append-nil out) ∙ ap (λ (ys : List A). out ++ flat_map tell ys) (sym (drop_all i xs l)) ∙ h
