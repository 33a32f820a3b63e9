-- Lemmas on the pids of the new pages of groups, for the proofs of this crate and of those above it.
use Rattle.std.specs.Prelude.{◌≡◌, ◌≢◌, ℕ, suc, ◌+◌, ◌<◌, ◌≤◌, Bool, true, false, cond, List, [], ◌∷◌, ◌++◌, drop, length}
use Rattle.std.proofs.Common.{refl, sym, ap, ◌∙◌, subst, arith, length-append}
use Rattle.std.specs.List.{AllByRecursion}
use Rattle.keys.specs.declared.settings.Settings.{Settings}
use Rattle.keys.specs.Lists.{flat}
use Rattle.mapping.specs.Levels.{Placed, joined, pids}
use Rattle.mapping.proofs.LevelLemmas.{pids-append}
use Rattle.mapping.specs.FreshPids.{unused, IsNeverUnused}
use Rattle.mapping.proofs.PidLemmas.{unused-rises}
use Rattle.mapping.specs.Proper.{Distinct}
use Rattle.split_plan.specs.Cut.{cut}
use Rattle.split_plan.specs.Groups.{groups}
use Rattle.split_plan.proofs.GroupLemmas.{groups-joined}
use Rattle.page_runs.specs.Updated.{Updated, is_thin, is_fat}
use Rattle.split_plan.specs.UpdatedLevel.{placed_of}
use Rattle.split_plan.specs.Change.{Change, fresh_pages, replacements, remade, changes, family_changes, new_of, fresh_of, all_new, all_fresh}
use Rattle.split_plan.proofs.ChangeLemmas.{placed_of-append}
use Rattle.split_plan.proofs.Renewed.{Renewed}
use Rattle.split_plan.proofs.Renewed.Renewed.{done, keep, drop_one, draw}

pub renewed-append : {used : List ℕ} {i j k : ℕ} {b a c d : List ℕ} → Renewed used i j b a → Renewed used j k c d → Renewed used i k (b ++ c) (a ++ d)
renewed-append (done) r = r
renewed-append (keep n m) r = keep n (renewed-append m r)
renewed-append (drop_one n m) r = drop_one n (renewed-append m r)
renewed-append (draw m) r = draw (renewed-append m r)

-- what holds of the pids before, and of the fresh ones, holds of those after
all_renewed : {used : List ℕ} {i j : ℕ} {b a : List ℕ} (P : ℕ → Type 0) → Renewed used i j b a → AllByRecursion P b → ((m : ℕ) → i ≤ m → P (unused used m)) → AllByRecursion P a
all_renewed P (done) h f = tt
all_renewed P (keep n m) h f = (h.0, all_renewed P m h.1 f)
all_renewed P (drop_one n m) h f = all_renewed P m h.1 f
all_renewed P (draw {i = i} m) h f = (f i (omega arith), all_renewed P m h (λ k l. f k (omega arith)))

apart_from : (used ns : List ℕ) (i : ℕ) → AllByRecursion (IsNeverUnused used) ns → AllByRecursion (λ n. n ≢ unused used i) ns
apart_from used [] i a = tt
apart_from used (n ∷ ns) i a = (a.0 i, apart_from used ns i a.1)

later_differs : (used : List ℕ) (i k : ℕ) → suc i ≤ k → unused used k ≢ unused used i
later_differs used i k h e = let l : unused used i < unused used k = unused-rises used i k (omega arith) in omega arith

-- distinct pids that are never unused stay distinct
pub distinct_renewed : {used : List ℕ} {i j : ℕ} {b a : List ℕ} → Renewed used i j b a → AllByRecursion (IsNeverUnused used) b → Distinct b → Distinct a
distinct_renewed (done) h d = tt
distinct_renewed {used} (keep n m) h d = (all_renewed (λ k. k ≢ n) m d.0 (λ k l e. h.0 k (sym e)), distinct_renewed m h.1 d.1)
distinct_renewed (drop_one n m) h d = distinct_renewed m h.1 d.1
distinct_renewed {used} (draw {i = i} {before = b} m) h d =
    (all_renewed (λ k. k ≢ unused used i) m (apart_from used b i h) (λ k l. later_differs used i k l), distinct_renewed m h d)

module _ (used : List ℕ) where
  -- the same lists, written in another way
  pub recast : {i j k : ℕ} {b c a d : List ℕ} → j ≡ k → b ≡ c → a ≡ d → Renewed used i j b a → Renewed used i k c d
  recast {i} {j} {k} {b} {c} {a} {d} e f g m =
      subst (λ (x : List ℕ). Renewed used i k c x) g (subst (λ (x : List ℕ). Renewed used i k x a) f (subst (λ (x : ℕ). Renewed used i x b a) e m))

  drop_all : {i j : ℕ} {a : List ℕ} → (b : List ℕ) → Renewed used i j [] a → Renewed used i j b a
  drop_all [] m = m
  drop_all (n ∷ ns) m = drop_one n (drop_all ns m)

  none_drawn : (i : ℕ) → Renewed used i (i + 0) [] []
  none_drawn i = let e : i ≡ i + 0 = omega arith in subst (λ (x : ℕ). Renewed used i x [] []) e done

module _ {V : Type 0} where
  pub renewed-fresh_pages : (used : List ℕ) (i : ℕ) (bs : List (List (List ℕ × V))) → Renewed used i (i + length (fresh_pages used i bs)) [] (pids (fresh_pages used i bs))
  renewed-fresh_pages used i [] = none_drawn used i
  renewed-fresh_pages used i (b ∷ bs) = draw (recast used (omega arith) refl refl (renewed-fresh_pages used (suc i) bs))

  renewed-replacements : (used : List ℕ) (i : ℕ) (p : Placed V) (ns : List ℕ) (bs : List (List (List ℕ × V))) → Renewed used i (i + length (drop 1 (replacements used i p bs))) (p.pid ∷ ns) (pids (replacements used i p bs))
  renewed-replacements used i p ns [] = drop_all used (p.pid ∷ ns) (none_drawn used i)
  renewed-replacements used i p ns (b ∷ bs) = keep p.pid (drop_all used ns (renewed-fresh_pages used i bs))

  renewed_one : (b : Bool) (used : List ℕ) (i : ℕ) (w : Updated V) (bs : List (List (List ℕ × V))) → Renewed used i (i + length (drop 1 (cond b (replacements used i w.placed bs) (placed_of (w ∷ []))))) (pids (placed_of (w ∷ []))) (pids (cond b (replacements used i w.placed bs) (placed_of (w ∷ []))))
  renewed_one true used i w bs = renewed-replacements used i w.placed [] bs
  renewed_one false used i w bs = keep w.placed.pid (none_drawn used i)

  renewed-remade : (s : Settings) (used : List ℕ) (i : ℕ) (g : List (Updated V)) → Renewed used i (i + length (drop 1 (remade s used i g))) (pids (placed_of g)) (pids (remade s used i g))
  renewed-remade s used i [] = none_drawn used i
  renewed-remade s used i (w ∷ []) = renewed_one (is_fat w) used i w (cut s.fan (joined (placed_of (w ∷ []))))
  renewed-remade s used i (w ∷ v ∷ ws) = renewed-replacements used i w.placed (pids (placed_of (v ∷ ws))) (cut s.fan (joined (placed_of (w ∷ v ∷ ws))))

  pub pids-placed_of : (g h : List (Updated V)) → pids (placed_of (g ++ h)) ≡ pids (placed_of g) ++ pids (placed_of h)
  pids-placed_of g h = ap (λ (ps : List (Placed V)). pids ps) (placed_of-append g h) ∙ pids-append (placed_of g) (placed_of h)

  -- the pids of groups: some go, and fresh ones come
  pub renewed-changes : (s : Settings) (used : List ℕ) (i : ℕ) (gs : List (List (Updated V))) → Renewed used i (i + length (fresh_of (changes s used i gs))) (pids (placed_of (flat gs))) (pids (new_of (changes s used i gs)))
  renewed-changes s used i [] = none_drawn used i
  renewed-changes s used i (g ∷ gs) =
      let here : List (Placed V) = remade s used i g in
      let j : ℕ = i + length (drop 1 here) in
      let later : List (Change V) = changes s used j gs in
      let e : j + length (fresh_of later) ≡ i + length (drop 1 here ++ fresh_of later) = omega (arith, length-append (drop 1 here) (fresh_of later)) in
      recast used e (sym (pids-placed_of g (flat gs))) (sym (pids-append here (new_of later))) (renewed-append (renewed-remade s used i g) (renewed-changes s used j gs))

  pub renewed-family_changes : (s : Settings) (used : List ℕ) (i : ℕ) (fs : List (List (Updated V))) → Renewed used i (i + length (all_fresh (family_changes s used i fs))) (pids (placed_of (flat fs))) (pids (all_new (family_changes s used i fs)))
  renewed-family_changes s used i [] = none_drawn used i
  renewed-family_changes s used i (f ∷ fs) =
      let cs : List (Change V) = changes s used i (groups is_thin f) in
      let j : ℕ = i + length (fresh_of cs) in
      let later : List (List (Change V)) = family_changes s used j fs in
      let e : j + length (all_fresh later) ≡ i + length (fresh_of cs ++ all_fresh later) = omega (arith, length-append (fresh_of cs) (all_fresh later)) in
      let same : pids (placed_of (flat (groups is_thin f))) ++ pids (placed_of (flat fs)) ≡ pids (placed_of (flat (f ∷ fs))) =
      ap (λ (ws : List (Updated V)). pids (placed_of ws) ++ pids (placed_of (flat fs))) (groups-joined is_thin f) ∙ sym (pids-placed_of f (flat fs)) in
      recast used e same (sym (pids-append (new_of cs) (all_new later))) (renewed-append (renewed-changes s used i (groups is_thin f)) (renewed-family_changes s used j fs))
