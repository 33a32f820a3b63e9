-- A level's facts are passed to the climb of the levels above, whose results are combined with them.
use Rattle.std.specs.Prelude.{◌≡◌, ℕ, zero, suc, ◌+◌, ◌-◌, ◌<◌, ◌≤◌, Bool, true, nat_eq, List, [], ◌∷◌, map, length, Vec, Result, Ok, Err, OnOk, OnErr, IfErr}
use Rattle.std.proofs.Common.{refl, sym, ap, ◌∙◌, subst, arith}
use Rattle.std.proofs.lemmas.Bool.{eqb-true}
use Rattle.std.proofs.lemmas.List.{length-map}
use Rattle.keys.specs.declared.settings.Settings.{Settings}
use Rattle.index_page.specs.Page.{Page, PageOfKind}
use Rattle.index_page.specs.Page.PageOfKind.{Index}
use Rattle.mapping.specs.Levels.{Placed}
use Rattle.mapping.specs.TreeInMemory.{TreeInMemory}
use Rattle.page_runs.specs.TermWork.{IndexUpdate}
use Rattle.page_runs.specs.Updated.{Updated}
use Rattle.split_plan.specs.UpdatedLevel.{placed_of}
use Rattle.climb_plan.specs.Changing.{SeenPage, parents_seen, same_page, AreSeen, AreHome}
use Rattle.climb_plan.specs.Changing.AreSeen.{updated, at_home}
use Rattle.climb_plan.specs.Climb.{LevelPlan, climb}
use Rattle.climb_plan.specs.HasClimbed.{HasClimbed}
use Rattle.climb_plan.specs.Installing.{AreAway, all_come_home, all_installed, CanInstallAll}
use Rattle.climb_plan.specs.Level.{IsKind, IsLevel, IsChanged}
use Rattle.climb_plan.specs.LevelSteps.{SomeLevel, SomeChildren, ChangesFrom, ClimbsFrom, IsTooHighFrom, Working, IsWorkedOn, HaveClimbed, AreRefused, HaveEnded, CanEnd}
use Rattle.climb_plan.specs.Rewriting.{Remade}
use Rattle.climb_plan.specs.declared.refused.Refused.{Refused}
use Rattle.climb_plan.specs.declared.refused.Refused.TheVariants.{TooHigh}
use Rattle.climb_plan.proofs.BridgeNext.{next_level}
use Rattle.climb_plan.proofs.Climbing.{untouched-climbed}
use Rattle.climb_plan.proofs.ClimbingLevel.{plan_above, climbed_above}
use Rattle.climb_plan.proofs.LevelParts.{level_of}
use Rattle.climb_plan.proofs.ThroughLevel.{seen_pids, ready_here, level_away, level_installs, level_through}

-- ---- no page was touched

module _ {V : Type 0} (of : Page V → PageOfKind) where
  nothing_seen : (t : TreeInMemory) {xs : List SeenPage} {ws : List (Updated V)} → AreSeen of t.table xs ws → length xs ≡ 0 → (ws ≡ map same_page (placed_of ws)) × AreHome of t.table (placed_of ws)
  nothing_seen t (AreSeen.none) e = (refl, tt)
  nothing_seen t (updated w p r) e = absurd (omega arith)
  nothing_seen t (at_home p q r) e =
      let rest = nothing_seen t r e in
      (ap (λ (vs : List (Updated V)). same_page p ∷ vs) rest.0, (q, rest.1))

  -- the levels are unchanged
  pub nothing_climbs : (s : Settings) (t : TreeInMemory) (xs : List SeenPage) → length xs ≡ 0 → (ws : List (Updated V)) (ups : List (List (Placed ℕ))) (used : List ℕ) (i : ℕ) → IsLevel of t xs (level_of ws ups used i) → HasClimbed of t t (level_of ws ups used i) (climb s used i ws ups)
  nothing_climbs s t xs e ws ups used i h =
      let rest = nothing_seen t h.seen e in
      subst (λ (vs : List (Updated V)). HasClimbed of t t (level_of vs ups used i) (climb s used i vs ups)) (sym rest.0) (untouched-climbed s used i of t (placed_of ws) ups h.stacked rest.1 h.home h.rising h.root)

  -- ---- levels, as a function's premise has them

  children_by : (t : TreeInMemory) (xs : List SeenPage) (depth : ℕ) → (depth ≡ 0 → ⊥) → (ws : List (Updated V)) (ups : List (List (Placed ℕ))) (used : List ℕ) (i : ℕ) → IsLevel of t xs (level_of ws ups used i) → depth ≡ length ups → SomeChildren of t xs (depth - 1)
  children_by t xs depth d ws [] used i h e = absurd (d e)
  children_by t xs depth d ws (ps ∷ ups) used i h e = let f : depth - 1 ≡ length ups = omega arith in (level_of ws ups used i, ps, h, f)

  -- a level that isn't the highest is one under parents
  pub some_children : (t : TreeInMemory) (xs ys : List SeenPage) (depth : ℕ) → ys ≡ xs → (depth ≡ 0 → ⊥) → SomeLevel of t xs depth → SomeChildren of t ys (depth - 1)
  some_children t xs ys depth q d l =
      subst (λ (zs : List SeenPage). SomeChildren of t zs (depth - 1)) (sym q) (children_by t xs depth d l.0.updated l.0.above l.0.used l.0.from l.1 l.2)

-- ---- one level

module _ {V : Type 0} {of : Page V → PageOfKind} {s : Settings} {w : Working} {xs : List SeenPage} {groups : List Remade} (k : IsWorkedOn of s w xs groups) where
  pub children_here : SomeChildren of w.before xs (w.depth - 1)
  children_here = some_children of w.before xs xs w.depth refl k.deep k.level

  module _ (ws : List (Updated V)) (ps : List (Placed ℕ)) (ups : List (List (Placed ℕ))) (used : List ℕ) (i : ℕ) (h : IsLevel of w.before xs (level_of ws (ps ∷ ups) used i)) (e : w.depth - 1 ≡ length ups) where
    abbrev changed : IsChanged s of w.before w.ready (level_of ws ups used i) ps groups w.parents
    changed = k.works (level_of ws ups used i) ps h e

    -- the parents are the next level
    next_above : IsLevel Index w.ready (parents_seen w.parents) (plan_above s used i ps ws ups)
    next_above =
        let z : 0 < s.fan = let f = k.fan in omega arith in
        let up : LevelPlan ℕ = plan_above s used i ps ws ups in
        subst (λ (u : TreeInMemory). IsLevel Index u (parents_seen w.parents) up) (sym changed.tree) (subst (λ (ys : List SeenPage). IsLevel Index (ready_here s of w.before xs ws ps ups used i h) ys up) (sym changed.made) (next_level s of w.before xs ws ps ups used i z h))

    same_height : w.ready.height ≡ w.before.height
    same_height = ap (λ (u : TreeInMemory). u.height) changed.tree

  -- as the climb above needs it
  pub some_above : SomeLevel Index w.ready (parents_seen w.parents) (w.depth - 1)
  some_above =
      let l = children_here in
      (plan_above s l.0.used l.0.from l.1 l.0.updated l.0.above, next_above l.0.updated l.1 l.0.above l.0.used l.0.from l.2 l.3, l.3)

  pub low_above : w.before.height ≤ 64 → w.ready.height ≤ 64
  low_above h =
      let l = children_here in
      let e : w.ready.height ≡ w.before.height = same_height l.0.updated l.1 l.0.above l.0.used l.0.from l.2 l.3 in
      omega arith

  module _ {above : TreeInMemory} (climbs : ClimbsFrom Index s w.ready above (parents_seen w.parents) (w.depth - 1)) where
    above_here : (ws : List (Updated V)) (ps : List (Placed ℕ)) (ups : List (List (Placed ℕ))) (used : List ℕ) (i : ℕ) (h : IsLevel of w.before xs (level_of ws (ps ∷ ups) used i)) → w.depth - 1 ≡ length ups → HasClimbed Index (ready_here s of w.before xs ws ps ups used i h) above (plan_above s used i ps ws ups) (climbed_above s used i ps ws ups)
    above_here ws ps ups used i h e =
        subst (λ (u : TreeInMemory). HasClimbed Index u above (plan_above s used i ps ws ups) (climbed_above s used i ps ws ups)) (changed ws ps ups used i h e).tree (climbs (plan_above s used i ps ws ups) (next_above ws ps ups used i h e) e)

    -- the level's pages are checked out
    pub away_here : AreAway above.table (seen_pids xs)
    away_here =
        let l = children_here in
        level_away s of w.before xs l.0.updated l.1 l.0.above l.0.used l.0.from l.2 above (above_here l.0.updated l.1 l.0.above l.0.used l.0.from l.2 l.3)

    module _ {home : TreeInMemory} (come : home ≡ record above { table = all_come_home above.table xs }) where
      -- after they are put back, its groups can be replaced
      pub installs_here : IsKind of → CanInstallAll home.table groups
      installs_here kind =
          let l = children_here in
          subst (λ (u : TreeInMemory). CanInstallAll u.table groups) (sym come) (subst (λ (rs : List Remade). CanInstallAll (all_come_home above.table xs) rs) (sym (changed l.0.updated l.1 l.0.above l.0.used l.0.from l.2 l.3).groups) (level_installs s of w.before xs l.0.updated l.1 l.0.above l.0.used l.0.from l.2 above (above_here l.0.updated l.1 l.0.above l.0.used l.0.from l.2 l.3) kind))

      -- and after they are replaced, the level has climbed
      module _ {after : TreeInMemory} (installed : after ≡ record home { table = all_installed home.table groups }) where
        climbs_under : (ws : List (Updated V)) (ps : List (Placed ℕ)) (ups : List (List (Placed ℕ))) (used : List ℕ) (i : ℕ) → IsLevel of w.before xs (level_of ws (ps ∷ ups) used i) → w.depth - 1 ≡ length ups → HasClimbed of w.before after (level_of ws (ps ∷ ups) used i) (climb s used i ws (ps ∷ ups))
        climbs_under ws ps ups used i h e =
            let put : TreeInMemory → List Remade → TreeInMemory = λ u rs. record u { table = all_installed u.table rs } in
            let back : TreeInMemory = record above { table = all_come_home above.table xs } in
            let is = installed ∙ ap (λ (u : TreeInMemory). put u groups) come ∙ ap (λ (rs : List Remade). put back rs) (changed ws ps ups used i h e).groups in
            subst (λ (u : TreeInMemory). HasClimbed of w.before u (level_of ws (ps ∷ ups) used i) (climb s used i ws (ps ∷ ups))) (sym is) (level_through s of w.before xs ws ps ups used i h above (above_here ws ps ups used i h e))

        climbs_by : (ws : List (Updated V)) (ups : List (List (Placed ℕ))) (used : List ℕ) (i : ℕ) → IsLevel of w.before xs (level_of ws ups used i) → w.depth ≡ length ups → HasClimbed of w.before after (level_of ws ups used i) (climb s used i ws ups)
        climbs_by ws [] used i h e = absurd (k.deep e)
        climbs_by ws (ps ∷ ups) used i h e = let g : w.depth - 1 ≡ length ups = omega arith in climbs_under ws ps ups used i h g

        pub climbs_here : ClimbsFrom of s w.before after xs w.depth
        climbs_here l h e = climbs_by l.updated l.above l.used l.from h e

        -- and is as high as before
        pub low_here : above.height ≤ 64 → after.height ≤ 64
        low_here low = subst (λ (n : ℕ). n ≤ 64) (sym (ap (λ (u : TreeInMemory). u.height) installed ∙ ap (λ (u : TreeInMemory). u.height) come)) low

  -- if the levels above would be too many, so would these
  high_by : IsTooHighFrom Index s w.ready (parents_seen w.parents) (w.depth - 1) → (ws : List (Updated V)) (ups : List (List (Placed ℕ))) (used : List ℕ) (i : ℕ) → IsLevel of w.before xs (level_of ws ups used i) → w.depth ≡ length ups
      → 64 + length ups < w.before.height + length (climb s used i ws ups).tower.above
  high_by f ws [] used i h e = absurd (k.deep e)
  high_by f ws (ps ∷ ups) used i h e =
      let g : w.depth - 1 ≡ length ups = omega arith in
      let more : 64 + length ups < w.ready.height + length (climbed_above s used i ps ws ups).tower.above = f (plan_above s used i ps ws ups) (next_above ws ps ups used i h g) g in
      raised (length ups) w.ready.height w.before.height (length (climbed_above s used i ps ws ups).tower.above) more (same_height ws ps ups used i h g)
    where
      raised : (n a b m : ℕ) → 64 + n < a + m → a ≡ b → 64 + suc n < b + suc m
      raised n a b m l q = omega arith

  pub high_here : IsTooHighFrom Index s w.ready (parents_seen w.parents) (w.depth - 1) → IsTooHighFrom of s w.before xs w.depth
  high_here f l h e = high_by f l.updated l.above l.used l.from h e

-- a vector that is empty has no length
pub none_by : (b : Bool) (n : ℕ) → b ≡ nat_eq n 0 → b ≡ true → n ≡ 0
none_by b n e h = eqb-true n 0 (sym e ∙ h)

-- a measure that goes down
pub one_less : (n : ℕ) → (n ≡ 0 → ⊥) → n - 1 < n
one_less zero d = absurd (d refl)
one_less (suc n) d = omega arith

pids_of_map : {D : Type 0} (f : D → SeenPage) (ds : List D) → seen_pids (map f ds) ≡ map (λ d. (f d).pid) ds
pids_of_map f [] = refl
pids_of_map f (d ∷ ds) = ap (λ (ns : List ℕ). (f d).pid ∷ ns) (pids_of_map f ds)

-- the pages' places are empty, as they were passed on
pub away_for : {D : Type 0} (f : D → SeenPage) (t : TreeInMemory) (ds : List D) → AreAway t.table (seen_pids (map f ds)) → AreAway t.table (map (λ d. (f d).pid) ds)
away_for f t ds a = subst (λ (ns : List ℕ). AreAway t.table ns) (pids_of_map f ds) a

-- the same level, as it was passed to the callee
module _ {V D : Type 0} (of : Page V → PageOfKind) (f : D → SeenPage) where
  pub children_for : (t : TreeInMemory) (ds es : List D) (depth : ℕ) → es ≡ ds → (depth ≡ 0 → ⊥) → SomeLevel of t (map f ds) depth → SomeChildren of t (map f es) (depth - 1)
  children_for t ds es depth q d l = some_children of t (map f ds) (map f es) depth (ap (λ (xs : List D). map f xs) q) d l

  pub works_for : {s : Settings} {t ready : TreeInMemory} {groups : List Remade} {parents : List IndexUpdate} (ds es : List D) (depth : ℕ) → es ≡ ds → ChangesFrom of s t ready (map f es) depth groups parents → ChangesFrom of s t ready (map f ds) depth groups parents
  works_for {s = s} {t = t} {ready = ready} {groups = groups} {parents = parents} ds es depth q c =
      subst (λ (xs : List D). ChangesFrom of s t ready (map f xs) depth groups parents) q c

  -- if no page got a run, nothing is done
  pub nothing_done : (s : Settings) (t : TreeInMemory) (ds : List D) (depth : ℕ) → length ds ≡ 0 → ClimbsFrom of s t t (map f ds) depth
  nothing_done s t ds depth e l h g = nothing_climbs of s t (map f ds) (length-map ds f ∙ e) l.updated l.above l.used l.from h

-- ---- the result of the parents' climb

module _ {U A : Type 0} (s : Settings) (w : Working) (now : TreeInMemory) where
  pub have_ended : (r : Result U (Refused × Vec IndexUpdate A)) → OnOk r (ClimbsFrom Index s w.ready now (parents_seen w.parents) (w.depth - 1)) → OnOk r (now.height ≤ 64) → IfErr r (λ e. e.1.items ≡ w.parents) → OnErr r (now ≡ w.ready)
      → IfErr r (λ e. e.0 ≡ TooHigh → IsTooHighFrom Index s w.ready (parents_seen w.parents) (w.depth - 1)) → HaveEnded s w now r
  have_ended (Ok done) climbs low back same high = record { climbs = climbs; low = low }
  have_ended (Err refused) climbs low back same high = record { same = same; back = back; high = high }

  -- and what follows in each case
  pub climbed_by : (r : Result U (Refused × Vec IndexUpdate A)) (done : U) → r ≡ Ok done → HaveEnded s w now r → HaveClimbed s w now
  climbed_by r done e h = subst (λ (x : Result U (Refused × Vec IndexUpdate A)). HaveEnded s w now x) e h

  pub refused_by : (r : Result U (Refused × Vec IndexUpdate A)) (refused : Refused × Vec IndexUpdate A) → r ≡ Err refused → HaveEnded s w now r → AreRefused s w now refused.0 refused.1.items
  refused_by r refused e h = subst (λ (x : Result U (Refused × Vec IndexUpdate A)). HaveEnded s w now x) e h

-- what a level's end gives, for the level that was ended
module _ {V U A : Type 0} {of : Page V → PageOfKind} {s : Settings} {w : Working} {now : TreeInMemory} {xs : List SeenPage} {groups : List Remade} {climbed : Result U (Refused × Vec IndexUpdate A)} (can : CanEnd of s w now xs groups climbed) (after : TreeInMemory) where
  pub ended_climbs : {D E : Type 0} (r : Result D E) → OnOk r ((v : Working) → CanEnd of s v now xs groups climbed → ClimbsFrom of s v.before after xs v.depth) → OnOk r (ClimbsFrom of s w.before after xs w.depth)
  ended_climbs (Ok done) h = h w can
  ended_climbs (Err refused) h = h

  pub ended_back : {D E : Type 0} (r : Result D E) → OnErr r ((v : Working) → CanEnd of s v now xs groups climbed → after ≡ v.before) → OnErr r (after ≡ w.before)
  ended_back (Ok done) h = h
  ended_back (Err refused) h = h w can

  pub ended_high : {D E : Type 0} (r : Result D (Refused × E)) → IfErr r (λ e. (v : Working) → CanEnd of s v now xs groups climbed → e.0 ≡ TooHigh → IsTooHighFrom of s v.before xs v.depth) → IfErr r (λ e. e.0 ≡ TooHigh → IsTooHighFrom of s w.before xs w.depth)
  ended_high (Ok done) h = h
  ended_high (Err refused) h = h w can
