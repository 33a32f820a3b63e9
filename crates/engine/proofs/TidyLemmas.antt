-- Tidying: one more batch, and why a batch is refused.
use Rattle.std.specs.Prelude.{◌≡◌, List, [], ◌∷◌, ◌++◌, Option, Some, None, Result, Err, MatchOption, IfErr}
use Rattle.std.proofs.Common.{refl, sym, ap, ◌∙◌, subst, inl, inr}
use Rattle.std.specs.declared.alloc.Global.{Global}
use Rattle.keys.specs.declared.command.Command.{Command}
use Rattle.keys.specs.declared.fault.Fault.{Fault}
use Rattle.keys.specs.declared.settings.Settings.{Settings}
use Rattle.mapping.specs.Levels.{contents}
use Rattle.mapping.specs.Tree.{Store, Tree, with_tree}
use Rattle.climb_plan.specs.Plan.{plan, planned_tree}
use Rattle.engine.specs.Batch.{IsLaterFault}
use Rattle.engine.specs.Batches.{tree_in_turn}
use Rattle.engine.specs.Refusal.{refusal}
use Rattle.engine.specs.Tidied.{IsTidied, IsTidyFault}

in_turn-append : (s : Settings) (t : Tree) (bs cs : List (List (Command Global))) → tree_in_turn s t (bs ++ cs) ≡ tree_in_turn s (tree_in_turn s t bs) cs
in_turn-append s t [] cs = refl
in_turn-append s t (b ∷ bs) cs = in_turn-append s (planned_tree s t b) bs cs

-- nothing was done
pub untouched : (s : Settings) (old now : Store) → now ≡ old → IsTidied s old now
untouched s old now same = record { holds = ap (λ (x : Store). contents x.tree) same; batches = []; planned = same }

-- a batch was done that changes nothing
pub tidied_by : (s : Settings) (old now : Store) (cs : List (Command Global)) → now ≡ plan s old cs → contents now.tree ≡ contents old.tree → IsTidied s old now
tidied_by s old now cs is holds = record { holds = holds; batches = cs ∷ []; planned = is }

-- two sequences of batches, one after the other
pub tidied_further : (s : Settings) (old mid now : Store) → IsTidied s old mid → IsTidied s mid now → IsTidied s old now
tidied_further s old mid now first then = record {
  holds = then.holds ∙ first.holds;
  batches = first.batches ++ then.batches;
  planned =
      then.planned
      ∙ ap (λ (x : Store). with_tree x (tree_in_turn s x.tree then.batches)) first.planned
      ∙ ap (λ (x : Tree). with_tree old x) (sym (in_turn-append s old.tree first.batches then.batches));
}

-- ---- a refused batch

late_by : (s : Settings) (t : Tree) (cs : List (Command Global)) (fault : Fault) → IsLaterFault s t cs fault → IsTidyFault s fault
late_by s t cs fault (inl memory) = inl memory
late_by s t cs fault (inr (spent, high)) = inr (inl spent)

err_same : {U : Type 0} (f g : Fault) → (let a : Result U Fault = Err f in a) ≡ Err g → f ≡ g
err_same f g h = cc

abbrev some_fault : Fault → Option Fault
some_fault x = Some x

refused_by : {U : Type 0} (s : Settings) (t : Tree) (cs : List (Command Global)) (o : Option Fault) (r : Result U Fault) (fault : Fault)
    → refusal s cs ≡ o → MatchOption o (IfErr r (IsLaterFault s t cs)) (λ f. r ≡ Err f) → r ≡ Err fault → IsTidyFault s fault
refused_by {U = U} s t cs None r fault none later e = late_by s t cs fault (subst (λ (x : Result U Fault). IfErr x (IsLaterFault s t cs)) e later)
refused_by {U = U} s t cs (Some f) r fault is right e = inr (inr (cs, is ∙ ap some_fault (err_same {U = U} f fault (sym right ∙ e))))

pub tidy_refused : {U : Type 0} (s : Settings) (t : Tree) (cs : List (Command Global)) (r : Result U Fault) (fault : Fault) → MatchOption (refusal s cs) (IfErr r (IsLaterFault s t cs)) (λ f. r ≡ Err f) → r ≡ Err fault
    → IsTidyFault s fault
tidy_refused s t cs r fault given e = refused_by s t cs (refusal s cs) r fault refl given e
