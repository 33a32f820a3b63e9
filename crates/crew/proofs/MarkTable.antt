-- The table of marks, filled from the collected results.
use Rattle.std.specs.Prelude.{◌≡◌, ℕ, ◌+◌, ◌<◌, Bool, true, false, List, [], ◌∷◌, ◌++◌, length, eqb, get_or, set, take, if◌then◌else◌, Option, Some, None, option_map, is_some}
use Rattle.std.proofs.Common.{refl, sym, ap, subst, ◌∙◌, inl, inr}
use Rattle.std.proofs.lemmas.Bool.{cases_eq, eq-eqb, ne_eqb}
use Rattle.std.proofs.lemmas.List.{take_more, get_or-set_same, get_or-set_other}
use Rattle.crew.specs.declared.machine.Mark.{Mark}
use Rattle.crew.specs.declared.machine.Mark.TheVariants.{Made as MarkMade, Back as MarkBack}
use Rattle.crew.specs.Marks.{mark_of, fate_by, fates_by}
use Rattle.crew.specs.Round.{fate_of}

-- the mark of the job n, as these note it
abbrev pub noted : ℕ → List (ℕ × Mark) → Option Mark
noted n marks = option_map mark_of (fate_of n (fates_by marks))

mark_back : (mark : Mark) → mark_of (fate_by mark) ≡ mark
mark_back MarkMade = refl
mark_back MarkBack = refl

noted-cons : (n : ℕ) (x : ℕ × Mark) (rest : List (ℕ × Mark)) (b : Bool) → eqb x.0 n ≡ b → noted n (x ∷ rest) ≡ (if b then Some x.1 else noted n rest)
noted-cons n x rest true e = ap (λ b. option_map mark_of (if b then Some (fate_by x.1) else fate_of n (fates_by rest))) e ∙ ap Some (mark_back x.1)
noted-cons n x rest false e = ap (λ b. option_map mark_of (if b then Some (fate_by x.1) else fate_of n (fates_by rest))) e

-- one more record for another job
noted_other : (n : ℕ) (marks : List (ℕ × Mark)) (x : ℕ × Mark) → (x.0 ≡ n → ⊥) → noted n (marks ++ x ∷ []) ≡ noted n marks
noted_other n [] x ne = noted-cons n x [] false (ne_eqb x.0 n ne)
noted_other n (y ∷ rest) x ne =
    noted-cons n y (rest ++ x ∷ []) (eqb y.0 n) refl ∙ ap (λ o. if eqb y.0 n then Some y.1 else o) (noted_other n rest x ne) ∙ sym (noted-cons n y rest (eqb y.0 n) refl)

-- one more record for a job that was recorded before
noted_before_from : (n : ℕ) (y x : ℕ × Mark) (rest : List (ℕ × Mark)) (mark : Mark) (b : Bool) → eqb y.0 n ≡ b
    → (noted n rest ≡ Some mark → noted n (rest ++ x ∷ []) ≡ Some mark) → noted n (y ∷ rest) ≡ Some mark → noted n (y ∷ (rest ++ x ∷ [])) ≡ Some mark
noted_before_from n y x rest mark true e later had = noted-cons n y (rest ++ x ∷ []) true e ∙ sym (noted-cons n y rest true e) ∙ had
noted_before_from n y x rest mark false e later had = noted-cons n y (rest ++ x ∷ []) false e ∙ later (sym (noted-cons n y rest false e) ∙ had)

noted_before : (n : ℕ) (marks : List (ℕ × Mark)) (x : ℕ × Mark) (mark : Mark) → noted n marks ≡ Some mark → noted n (marks ++ x ∷ []) ≡ Some mark
noted_before n [] x mark had = absurd (cc)
noted_before n (y ∷ rest) x mark had = noted_before_from n y x rest mark (eqb y.0 n) refl (noted_before n rest x mark) had

-- the first record for a job
noted_first_from : (n : ℕ) (y x : ℕ × Mark) (rest : List (ℕ × Mark)) (b : Bool) → eqb y.0 n ≡ b
    → (noted n rest ≡ None → noted n (rest ++ x ∷ []) ≡ Some x.1) → noted n (y ∷ rest) ≡ None → noted n (y ∷ (rest ++ x ∷ [])) ≡ Some x.1
noted_first_from n y x rest true e later none = let first : Some y.1 ≡ None = sym (noted-cons n y rest true e) ∙ none in absurd (cc)
noted_first_from n y x rest false e later none = noted-cons n y (rest ++ x ∷ []) false e ∙ later (sym (noted-cons n y rest false e) ∙ none)

noted_first : (n : ℕ) (marks : List (ℕ × Mark)) (x : ℕ × Mark) → x.0 ≡ n → noted n marks ≡ None → noted n (marks ++ x ∷ []) ≡ Some x.1
noted_first n [] x e none = noted-cons n x [] true (eq-eqb x.0 n e)
noted_first n (y ∷ rest) x e none = noted_first_from n y x rest (eqb y.0 n) refl (noted_first n rest x e) none

-- ---- a step

module _ (marks : List (Option Mark)) (home : List (ℕ × Mark)) (i : ℕ) (d : ℕ × Mark) (there : i < length home)
    (so_far : (n : ℕ) → n < length marks → get_or marks n None ≡ noted n (take i home)) where
  -- the next collected result
  abbrev pub next : ℕ × Mark
  next = get_or home i d

  with_next : (n : ℕ) → noted n (take (i + 1) home) ≡ noted n (take i home ++ next ∷ [])
  with_next n = ap (noted n) (take_more home i d there)

  others : (n : ℕ) → n < length marks → (next.0 ≡ n → ⊥) → get_or marks n None ≡ noted n (take (i + 1) home)
  others n h ne = so_far n h ∙ sym (with_next n ∙ noted_other n (take i home) next ne)

  -- the first of its job is written
  pub written : next.0 < length marks → get_or marks next.0 None ≡ None → (n : ℕ) → n < length marks → get_or (set marks next.0 (Some next.1)) n None ≡ noted n (take (i + 1) home)
  written within none n h =
      elim (cases_eq next.0 n) [
        | inl e ↦
            subst (λ n. get_or (set marks next.0 (Some next.1)) n None ≡ noted n (take (i + 1) home)) e
            (get_or-set_same marks next.0 (Some next.1) None within
            ∙ sym (with_next next.0 ∙ noted_first next.0 (take i home) next refl (sym (so_far next.0 within) ∙ none)))
        | inr ne ↦ get_or-set_other marks next.0 n (Some next.1) None (λ e. ne (sym e)) ∙ others n h ne
      ]

  -- a later one is not
  pub kept : (next.0 < length marks → (had : Mark) × (get_or marks next.0 None ≡ Some had)) → (n : ℕ) → n < length marks → get_or marks n None ≡ noted n (take (i + 1) home)
  kept some n h =
      elim (cases_eq next.0 n) [
        | inl e ↦
            let within : next.0 < length marks = subst (λ n. n < length marks) (sym e) h in
            let had = some within in
            subst (λ n. get_or marks n None ≡ noted n (take (i + 1) home)) e
            (had.1 ∙ sym (with_next next.0 ∙ noted_before next.0 (take i home) next had.0 (sym (so_far next.0 within) ∙ had.1)))
        | inr ne ↦ others n h ne
      ]

pub none_there : {X : Type 0} (o : Option X) → is_some o ≡ false → o ≡ None
none_there None e = refl
none_there (Some x) e = absurd (cc)

pub some_there : {X : Type 0} (o : Option X) → is_some o ≡ true → (x : X) × (o ≡ Some x)
some_there None e = absurd (cc)
some_there (Some x) e = (x, refl)
