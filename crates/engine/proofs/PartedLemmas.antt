-- Some of the leaves that commands go to: what holds for all holds for these.
use Rattle.std.specs.Prelude.{◌≡◌, ◌≢◌, ℕ, Bool, true, false, List, [], ◌∷◌, map}
use Rattle.std.proofs.Common.{refl, ap, ◌∙◌}
use Rattle.std.specs.List.{AllByRecursion, filter}
use Rattle.mapping.specs.Proper.{Distinct}
use Rattle.routing.specs.Routes.{Route}
use Rattle.engine.specs.Leaves.{route_pids}

-- ---- of some routes

module _ (w : Route → Bool) where
  passing_by : (P : ℕ → Type 0) (r : Route) (rs : List Route) (b : Bool) → w r ≡ b → P r.pid → AllByRecursion P (route_pids (filter w rs)) → AllByRecursion P (route_pids (filter w (r ∷ rs)))
  passing_by P r rs true e p a = rw e (p, a)
  passing_by P r rs false e p a = rw e a

  -- what holds of all pids holds of those of the routes that pass
  pub all_passing : (P : ℕ → Type 0) (rs : List Route) → AllByRecursion P (route_pids rs) → AllByRecursion P (route_pids (filter w rs))
  all_passing P [] a = tt
  all_passing P (r ∷ rs) a = passing_by P r rs (w r) refl a.0 (all_passing P rs a.1)

  distinct_by : (r : Route) (rs : List Route) (b : Bool) → w r ≡ b → AllByRecursion (λ n. n ≢ r.pid) (route_pids (filter w rs)) → Distinct (route_pids (filter w rs)) → Distinct (route_pids (filter w (r ∷ rs)))
  distinct_by r rs true e a d = rw e (a, d)
  distinct_by r rs false e a d = rw e d

  -- and routes to distinct pages stay so
  pub distinct_passing : (rs : List Route) → Distinct (route_pids rs) → Distinct (route_pids (filter w rs))
  distinct_passing [] d = tt
  distinct_passing (r ∷ rs) d = distinct_by r rs (w r) refl (all_passing (λ n. n ≢ r.pid) rs d.0) (distinct_passing rs d.1)

  each_by : (P : Route → Type 0) (r : Route) (rs : List Route) (b : Bool) → w r ≡ b → P r → AllByRecursion P (filter w rs) → AllByRecursion P (filter w (r ∷ rs))
  each_by P r rs true e p a = rw e (p, a)
  each_by P r rs false e p a = rw e a

  -- what holds of all routes holds of those that pass
  pub each_passing : (P : Route → Type 0) (rs : List Route) → AllByRecursion P rs → AllByRecursion P (filter w rs)
  each_passing P [] a = tt
  each_passing P (r ∷ rs) a = each_by P r rs (w r) refl a.0 (each_passing P rs a.1)

  module _ {X : Type 0} (f g : Route → X) where
    same_by : (r : Route) (rs : List Route) (b : Bool) → w r ≡ b → f r ≡ g r → map f (filter w rs) ≡ map g (filter w rs) → map f (filter w (r ∷ rs)) ≡ map g (filter w (r ∷ rs))
    same_by r rs true h first rest = rw h (ap (λ (x : X). x ∷ map f (filter w rs)) first ∙ ap (λ (xs : List X). g r ∷ xs) rest)
    same_by r rs false h first rest = rw h rest

    -- two functions that are equal on all routes are equal on these
    pub same_passing : (rs : List Route) → map f rs ≡ map g rs → map f (filter w rs) ≡ map g (filter w rs)
    same_passing [] e = refl
    same_passing (r ∷ rs) e =
        let first : f r ≡ g r = cc in
        let rest : map f rs ≡ map g rs = cc in
        same_by r rs (w r) refl first (same_passing rs rest)
