-- The groups of one parent as separators alone: for each group the separator that stays, the removed ones, and the new ones. A device of proofs: it
-- is proved for any such lists that the terms turn the separators before into the separators after, and nothing about how groups are made is needed.
use Rattle.std.specs.Prelude.{ℕ, List, ◌∷◌, flat_map, Option}
use Rattle.delta_chain.specs.Layers.{with_run}
use Rattle.mapping.proofs.TileLemmas.{Separators}
use Rattle.split_plan.specs.Terms.{absent, present}

-- a group as its parent sees it: the separator that stays, the removed ones, and the new ones
pub record Exchange : Type 0 where
  pub kept : List ℕ × ℕ
  pub gone : Separators
  pub come : Separators

-- the separators of some groups, before or after, with those that stay, and without them
abbrev pub whole : (Exchange → Separators) → List Exchange → Separators
whole part xs = flat_map (λ x. x.kept ∷ part x) xs

abbrev pub others : (Exchange → Separators) → List Exchange → Separators
others part xs = flat_map part xs

-- the parent's run
abbrev pub terms_of : List Exchange → List (List ℕ × Option ℕ)
terms_of xs = with_run (absent (others (λ x. x.gone) xs)) (present (others (λ x. x.come) xs))
