-- The pairs of a copy in pieces: the first piece, and the batches of those that are left.
use Rattle.std.specs.Prelude.{◌≡◌, ◌≢◌, ◌⊎◌, ℕ, zero, suc, ◌≤◌, List, [], ◌∷◌, ◌++◌, length, map, take, drop, Option, Some, None, MatchOption, Result, Err, IfErr}
use Rattle.std.specs.Option.{option_or}
use Rattle.std.proofs.Common.{refl, sym, ap, ◌∙◌, subst, inl, inr, append_assoc, arith}
use Rattle.std.proofs.lemmas.List.{append-nil, take-append-drop}
use Rattle.std.specs.declared.alloc.Global.{Global}
use Rattle.keys.specs.Bytes.{Bytes, Pairs}
use Rattle.keys.specs.declared.command.Command.{Command}
use Rattle.keys.specs.Order.{IsRising}
use Rattle.keys.specs.Step.{map_after_all}
use Rattle.keys.specs.declared.fault.Fault.{Fault}
use Rattle.keys.specs.declared.fault.Fault.TheVariants.{NoMemory}
use Rattle.keys.specs.declared.settings.Settings.{Settings}
use Rattle.mapping.specs.Levels.{contents}
use Rattle.mapping.specs.Tree.{Store, Tree}
use Rattle.climb_plan.specs.Plan.{plan, planned_tree}
use Rattle.engine.specs.Batch.{IsLaterFault, refusal_by}
use Rattle.engine.specs.Batches.{tree_in_turn}
use Rattle.engine.specs.Copies.{IsPutOn, IsPutRefused, last_key, most_puts, pieces_of, batches_of, puts_of, refused_in_turn}
use Rattle.engine.specs.Plays.{IsStepFault}
use Rattle.engine.specs.Refusal.{refusal}
use Rattle.engine.specs.Steps.{Answer, Stepped, unless_refused}
use Rattle.engine.specs.Steps.Step.{Batch}
use Rattle.engine.proofs.CopyLemmas.{put_next}
use Rattle.engine.proofs.StepDone.{batch_refused}

shorter : (n : ℕ) (xs : Pairs Bytes) → length (drop n xs) ≤ length xs
shorter zero xs = omega arith
shorter (suc n) [] = omega arith
shorter (suc n) (x ∷ xs) = (let few = shorter n xs in omega (arith, few))

-- a greater bound changes nothing
enough : (n k : ℕ) (xs : Pairs Bytes) → length xs ≤ n → length xs ≤ k → pieces_of n xs ≡ pieces_of k xs
enough zero zero xs first second = refl
enough zero (suc k) [] first second = refl
enough zero (suc k) (x ∷ xs) first second = absurd (omega (arith, first))
enough (suc n) zero [] first second = refl
enough (suc n) zero (x ∷ xs) first second = absurd (omega (arith, second))
enough (suc n) (suc k) [] first second = refl
enough (suc n) (suc k) (x ∷ xs) first second =
    let few : length (drop most_puts (x ∷ xs)) ≤ length xs = shorter 4095 xs in
    ap (λ (rest : List (Pairs Bytes)). take most_puts (x ∷ xs) ∷ rest) (enough n k (drop most_puts (x ∷ xs)) (omega (arith, few, first)) (omega (arith, few, second)))

-- the first piece, and the others
pub first_piece : (x : Bytes × Bytes) (xs : Pairs Bytes) → batches_of (x ∷ xs) ≡ puts_of (take most_puts (x ∷ xs)) ∷ batches_of (drop most_puts (x ∷ xs))
first_piece x xs =
    let rest = drop most_puts (x ∷ xs) in
    let few : length rest ≤ length xs = shorter 4095 xs in
    ap (λ (ps : List (Pairs Bytes)). puts_of (take most_puts (x ∷ xs)) ∷ map puts_of ps) (enough (length xs) (length rest) rest few (omega arith))

-- what is left of a list after its beginning is one list
pub same_rest : (xs a b : Pairs Bytes) → xs ++ a ≡ xs ++ b → a ≡ b
same_rest [] a b e = e
same_rest (x ∷ xs) a b e = (let same : xs ++ a ≡ xs ++ b = cc in same_rest xs a b same)

-- ---- a batch of a copy, in turn

module _ (s : Settings) (start now next : Tree) (all : Pairs Bytes) (x : Bytes × Bytes) (xs : Pairs Bytes) (is : next ≡ planned_tree s now (puts_of (take most_puts (x ∷ xs)))) where
  pub trees_on : tree_in_turn s now (batches_of (x ∷ xs)) ≡ tree_in_turn s start (batches_of all)
      → tree_in_turn s next (batches_of (drop most_puts (x ∷ xs))) ≡ tree_in_turn s start (batches_of all)
  trees_on so =
      ap (λ (t : Tree). tree_in_turn s t (batches_of (drop most_puts (x ∷ xs)))) is
      ∙ sym (ap (λ (bs : List (List (Command Global))). tree_in_turn s now bs) (first_piece x xs))
      ∙ so

  refused_first : (o p : Option Fault) → o ≡ None → option_or o p ≡ p
  refused_first None p e = refl
  refused_first (Some fault) p e = absurd (cc)

  pub faults_on : refusal_by s now (puts_of (take most_puts (x ∷ xs))) ≡ None → refused_in_turn s start (batches_of all) ≡ refused_in_turn s now (batches_of (x ∷ xs))
      → refused_in_turn s start (batches_of all) ≡ refused_in_turn s next (batches_of (drop most_puts (x ∷ xs)))
  faults_on none so =
      let later : Tree → Option Fault = λ t. refused_in_turn s t (batches_of (drop most_puts (x ∷ xs))) in
      so
      ∙ ap (λ (bs : List (List (Command Global))). refused_in_turn s now bs) (first_piece x xs)
      ∙ refused_first (refusal_by s now (puts_of (take most_puts (x ∷ xs)))) (later (planned_tree s now (puts_of (take most_puts (x ∷ xs))))) none
      ∙ ap later (sym is)

-- the batch that is refused is the first
module _ (s : Settings) (start now : Tree) (all : Pairs Bytes) (x : Bytes × Bytes) (xs : Pairs Bytes) (fault : Fault) where
  first_is : (o p : Option Fault) → o ≡ Some fault → option_or o p ≡ Some fault
  first_is None p e = absurd (cc)
  first_is (Some f) p e = e

  pub refused_now : refusal_by s now (puts_of (take most_puts (x ∷ xs))) ≡ Some fault → refused_in_turn s start (batches_of all) ≡ refused_in_turn s now (batches_of (x ∷ xs))
      → refused_in_turn s start (batches_of all) ≡ Some fault
  refused_now why so =
      so
      ∙ ap (λ (bs : List (List (Command Global))). refused_in_turn s now bs) (first_piece x xs)
      ∙ first_is (refusal_by s now (puts_of (take most_puts (x ∷ xs)))) (refused_in_turn s (planned_tree s now (puts_of (take most_puts (x ∷ xs)))) (batches_of (drop most_puts (x ∷ xs)))) why

-- ---- a piece

some_left : (left : Pairs Bytes) (key : Bytes) → last_key None (take most_puts left) ≡ Some key → left ≢ []
some_left [] key e none = absurd (cc)
some_left (x ∷ xs) key e none = absurd (cc)

right_was : (o : Option Fault) (a : Answer Global) (st : Store) (file : Bytes) (fault : Fault) → (let q : Stepped Global = unless_refused o a st file in q ≡ Err fault) → o ≡ Some fault
right_was None a st file fault e = absurd (cc)
right_was (Some f) a st file fault e = (let same : f ≡ fault = cc in ap (λ (x : Fault). (let o : Option Fault = Some x in o)) same)

module _ (s : Settings) (st : Store) (left rows : Pairs Bytes) (puts cs : List (Command Global)) (key : Bytes)
    (first : rows ≡ take most_puts left) (end : last_key None rows ≡ Some key) (put : puts ≡ puts_of rows) (given : cs ≡ puts) where
  is_piece : cs ≡ puts_of (take most_puts left)
  is_piece = given ∙ put ∙ ap (λ (x : Pairs Bytes). puts_of x) first

  some_now : left ≢ []
  some_now = some_left left key (ap (λ (x : Pairs Bytes). last_key None x) (sym first) ∙ end)

  -- its batch was refused
  pub piece_refused : {U : Type 0} (r : Result U Fault) (fault : Fault) → r ≡ Err fault → MatchOption (refusal s cs) (IfErr r (IsLaterFault s st.tree cs)) (λ f. r ≡ Err f) → IsPutRefused s st.tree left fault
  piece_refused r fault was why = by (batch_refused s st cs r fault was [] 0 0 (Batch cs) refl why) where
    by : IsStepFault s st [] 0 0 (Batch cs) fault → IsPutRefused s st.tree left fault
    by (inl right) =
        inr (some_now, ap (λ (x : List (Command Global)). refusal_by s st.tree x) (sym is_piece) ∙ right_was (refusal_by s st.tree cs) _ _ [] fault right)
    by (inr (memory, none)) = inl memory

  -- it was done
  pub piece_put : (all : Pairs Bytes) (now : Store) → IsRising all → contents st.tree ++ left ≡ all → now ≡ plan s st cs → refusal_by s st.tree cs ≡ None → contents now.tree ≡ map_after_all (contents st.tree) cs
      → IsPutOn s st.tree left now.tree
  piece_put all now rises whole planned allowed holds = record {
    some = some_now;
    planned = ap (λ (x : Store). x.tree) planned ∙ ap (λ (x : List (Command Global)). planned_tree s st.tree x) is_piece;
    allowed = ap (λ (x : List (Command Global)). refusal_by s st.tree x) (sym is_piece) ∙ allowed;
    holds = holds ∙ ap (λ (x : List (Command Global)). map_after_all (contents st.tree) x) is_piece ∙ put_next all (contents st.tree) left most_puts rises whole;
  }

-- ---- pieces in turn

-- some pairs are put, and all pairs come to what those that are left come to now
pub record AreBeingPut (s : Settings) (start : Tree) (all : Pairs Bytes) (now : Tree) : Type 0 where
  pub left : Pairs Bytes
  pub whole : contents now ++ left ≡ all
  pub trees : tree_in_turn s now (batches_of left) ≡ tree_in_turn s start (batches_of all)
  pub faults : refused_in_turn s start (batches_of all) ≡ refused_in_turn s now (batches_of left)

pub none_put : (s : Settings) (start : Tree) (all : Pairs Bytes) → contents start ≡ [] → AreBeingPut s start all start
none_put s start all none = record { left = all; whole = ap (λ (x : Pairs Bytes). x ++ all) none; trees = refl; faults = refl }

module _ (s : Settings) (start now : Tree) (all : Pairs Bytes) (on : AreBeingPut s start all now) where
  -- one piece more
  pub more_put : (next : Tree) → IsPutOn s now on.left next → AreBeingPut s start all next
  more_put next put = by on.left refl where
    by : (left : Pairs Bytes) → on.left ≡ left → AreBeingPut s start all next
    by [] none = absurd (put.some none)
    by (x ∷ xs) is =
        let here : IsPutOn s now (x ∷ xs) next = subst (λ (l : Pairs Bytes). IsPutOn s now l next) is put in
        let trees = subst (λ (l : Pairs Bytes). tree_in_turn s now (batches_of l) ≡ tree_in_turn s start (batches_of all)) is on.trees in
        let faults = subst (λ (l : Pairs Bytes). refused_in_turn s start (batches_of all) ≡ refused_in_turn s now (batches_of l)) is on.faults in
        let whole = subst (λ (l : Pairs Bytes). contents now ++ l ≡ all) is on.whole in
        record {
          left = drop most_puts (x ∷ xs);
          whole =
              ap (λ (m : Pairs Bytes). m ++ drop most_puts (x ∷ xs)) here.holds
              ∙ append_assoc (contents now) (take most_puts (x ∷ xs)) (drop most_puts (x ∷ xs))
              ∙ ap (λ (l : Pairs Bytes). contents now ++ l) (take-append-drop most_puts (x ∷ xs))
              ∙ whole;
          trees = trees_on s start now next all x xs here.planned trees;
          faults = faults_on s start now next all x xs here.planned here.allowed faults;
        }

  -- the next piece is refused
  pub stopped_put : (fault : Fault) → IsPutRefused s now on.left fault → (fault ≡ NoMemory) ⊎ (refused_in_turn s start (batches_of all) ≡ Some fault)
  stopped_put fault (inl memory) = inl memory
  stopped_put fault (inr (some, why)) = by on.left refl where
    by : (left : Pairs Bytes) → on.left ≡ left → (fault ≡ NoMemory) ⊎ (refused_in_turn s start (batches_of all) ≡ Some fault)
    by [] none = absurd (some none)
    by (x ∷ xs) is =
        inr (refused_now s start now all x xs fault
        (subst (λ (l : Pairs Bytes). refusal_by s now (puts_of (take most_puts l)) ≡ Some fault) is why)
        (subst (λ (l : Pairs Bytes). refused_in_turn s start (batches_of all) ≡ refused_in_turn s now (batches_of l)) is on.faults))

  -- all are there
  pub all_put : contents now ≡ all → (now ≡ tree_in_turn s start (batches_of all)) × (refused_in_turn s start (batches_of all) ≡ None)
  all_put holds =
      let none : on.left ≡ [] = same_rest (contents now) on.left [] (on.whole ∙ sym holds ∙ sym (append-nil (contents now))) in (
        subst (λ (l : Pairs Bytes). tree_in_turn s now (batches_of l) ≡ tree_in_turn s start (batches_of all)) none on.trees,
        subst (λ (l : Pairs Bytes). refused_in_turn s start (batches_of all) ≡ refused_in_turn s now (batches_of l)) none on.faults,
      )
