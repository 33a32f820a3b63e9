-- The commands at the places of those that go to a page.
use Rattle.std.specs.Prelude.{◌≡◌, ℕ, suc, Bool, true, false, cond, List, [], ◌∷◌, ◌++◌, map, option_to_list, slice_get, Option}
use Rattle.std.proofs.Common.{refl, ap, ◌∙◌}
use Rattle.std.specs.List.{filter}
use Rattle.keys.specs.declared.command.Command.{Command}
use Rattle.page_runs.specs.Replies.{commands_at}
use Rattle.routing.specs.Routes.{goes_to, places_from, places_within}
use Rattle.routing.proofs.RouteLemmas.{places_from-suc}

module _ {A : Type 0} where
  -- after one more command, each of the others has the next place
  commands_at-suc : (c : Command A) (cs : List (Command A)) (places : List ℕ) → commands_at (c ∷ cs) (map suc places) ≡ commands_at cs places
  commands_at-suc c cs [] = refl
  commands_at-suc c cs (p ∷ ps) = ap (λ (ds : List (Command A)). option_to_list (slice_get cs p) ++ ds) (commands_at-suc c cs ps)

  passing_by : (b : Bool) (c : Command A) (cs ds : List (Command A)) (later places : List ℕ) → later ≡ map suc places → commands_at cs places ≡ ds → commands_at (c ∷ cs) (cond b (0 ∷ later) later) ≡ cond b (c ∷ ds) ds
  passing_by true c cs ds later places e h =
      ap (λ (ns : List ℕ). c ∷ commands_at (c ∷ cs) ns) e ∙ ap (λ (xs : List (Command A)). c ∷ xs) (commands_at-suc c cs places ∙ h)
  passing_by false c cs ds later places e h = ap (λ (ns : List ℕ). commands_at (c ∷ cs) ns) e ∙ commands_at-suc c cs places ∙ h

  -- the commands at the places of those that pass are those that pass
  pub commands_passing : (passes : Command A → Bool) (cs : List (Command A)) → commands_at cs (places_from 0 passes cs) ≡ filter passes cs
  commands_passing passes [] = refl
  commands_passing passes (c ∷ cs) =
      passing_by (passes c) c cs (filter passes cs) (places_from 1 passes cs) (places_from 0 passes cs) (places_from-suc 0 passes cs) (commands_passing passes cs)

  -- the commands at the places of those that go to a page with this range are those that go to it
  pub commands_within : (low : List ℕ) (end : Option (List ℕ)) (cs : List (Command A)) → commands_at cs (places_within low end cs) ≡ filter (goes_to low end) cs
  commands_within low end cs = commands_passing (goes_to low end) cs
