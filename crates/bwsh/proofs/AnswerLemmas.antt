-- Lemmas on answers that are written in sequence.
use Rattle.std.proofs.Common.{◌≡◌, ◌<◌, ◌+◌, ℕ, length, drop, get_or, List, [], ◌∷◌, ◌++◌, map, Option, Result, Ok, Err, refl, sym, ap, ◌∙◌, subst, inl}
use Rattle.std.specs.List.{flat_map}
use Rattle.std.proofs.lemmas.List.{drop_more}
use Rattle.std.proofs.KnownBytes.{Appends-nil}
use Rattle.engine.specs.Plays.{answer_of}
use Rattle.engine.specs.declared.step.Answer as code_answer
use Rattle.bwsh.specs.declared.session.SessionError.{SessionError}
use Rattle.bwsh.specs.Output.{Writes}
use Rattle.bwsh.specs.Shown.{shown_answer}
use Rattle.bwsh.proofs.ShowLemmas.{Writes-all, Writes-early, Writes-then}

abbrev pub lines_of_answers : List code_answer.Answer → List (List ℕ)
lines_of_answers parsed = flat_map shown_answer (map answer_of parsed)

-- the lines of the answers from this place on
pub answers_left : (parsed : List code_answer.Answer) (i : ℕ) (a : code_answer.Answer) → i < length parsed → a ≡ get_or parsed i a
    → lines_of_answers (drop i parsed) ≡ shown_answer (answer_of a) ++ lines_of_answers (drop (i + 1) parsed)
answers_left parsed i a h is = ap lines_of_answers (drop_more parsed i a h ∙ ap (λ (b : code_answer.Answer). b ∷ drop (i + 1) parsed) (sym is))

-- writing the remaining answers after the current contents gives the same as writing all of them after the first contents
abbrev pub WritesAfter : Option (List ℕ) → List (List ℕ) → Option (List ℕ) → List (List ℕ) → Type 0
WritesAfter old all now left = (new : Option (List ℕ)) (end : Result (Unit {0}) SessionError) → Writes now new left end → Writes old new all end

module _ (old now : Option (List ℕ)) (all left : List (List ℕ)) (leads : WritesAfter old all now left) where
  pub none_left : left ≡ [] → Writes old now all (Ok tt)
  none_left none = leads now (Ok tt) (subst (λ (l : List (List ℕ)). Writes now now l (Ok tt)) (sym none) (inl (refl, Appends-nil now)))

  module _ (one rest : List (List ℕ)) (is : left ≡ one ++ rest) (new : Option (List ℕ)) where
    pub left_early : (early : SessionError) → Writes now new one (Err early) → Writes old new all (Err early)
    left_early early p = leads new (Err early) (subst (λ (l : List (List ℕ)). Writes now new l (Err early)) (sym is) (Writes-early now new one rest early p))

    pub left_later : (done : Unit {0}) → Writes now new one (Ok done) → WritesAfter old all new rest
    left_later done p last end q =
        leads last end (subst (λ (l : List (List ℕ)). Writes now last l end) (sym is) (Writes-then now new last one rest end (Writes-all now new one done p) q))
