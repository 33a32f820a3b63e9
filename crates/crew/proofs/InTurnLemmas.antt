-- A list of jobs with the first one at the end, and the outputs of the jobs before them.
use Rattle.std.specs.Prelude.{◌≡◌, List, [], ◌∷◌, ◌++◌, map, reverse}
use Rattle.std.specs.List.{All}
use Rattle.std.proofs.Common.{sym, ap, subst, ◌∙◌, arith, append_assoc, length-append}
use Rattle.std.proofs.lemmas.List.{map-append, reverse-append, get_or_append_left}

pub all_before : {X : Type 0} (P : X → Type 0) (xs : List X) (x : X) → All P (xs ++ x ∷ []) → All P xs
all_before P xs x all = λ k d h. subst P (get_or_append_left xs (x ∷ []) d k h) (all k d (omega (arith, length-append xs (x ∷ []), h)))

module _ {J D H : Type 0} (held : J → H) (origin : D → H) (jobs : List J) (job : J) (dones : List D) (all : List H)
    (was : map origin dones ++ map held (reverse (jobs ++ job ∷ [])) ≡ all) where
  first : map origin dones ++ held job ∷ map held (reverse jobs) ≡ all
  first = ap (λ js. map origin dones ++ map held js) (sym (reverse-append jobs (job ∷ []))) ∙ was

  -- the job on top is done
  pub one_done : (done : D) → origin done ≡ held job → map origin (dones ++ done ∷ []) ++ map held (reverse jobs) ≡ all
  one_done done same =
      ap (λ xs. xs ++ map held (reverse jobs)) (map-append origin dones (done ∷ []))
      ∙ append_assoc (map origin dones) (origin done ∷ []) (map held (reverse jobs))
      ∙ ap (λ h. map origin dones ++ h ∷ map held (reverse jobs)) same ∙ first

  -- the job on top came back
  pub one_back : (again : J) → held again ≡ held job → map origin dones ++ map held (reverse (jobs ++ again ∷ [])) ≡ all
  one_back again same =
      ap (λ js. map origin dones ++ map held js) (reverse-append jobs (again ∷ []))
      ∙ ap (λ h. map origin dones ++ h ∷ map held (reverse jobs)) same ∙ first
