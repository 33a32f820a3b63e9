-- Lemmas on which pids are outdated by changes, for the proofs of this crate and of those above it.
use Rattle.std.specs.Prelude.{◌≡◌, ℕ, zero, suc, ◌+◌, ◌<◌, ◌⊎◌, ◌↔◌, Bool, true, false, cond, ◌||◌, nat_eq, List, [], ◌∷◌, map, flat_map, length}
use Rattle.std.proofs.Common.{refl, sym, ap, ◌∙◌, subst, arith, inl, inr, get_or}
use Rattle.std.specs.List.{Any, filter}
use Rattle.std.proofs.lemmas.Bool.{eq-eqb, eqb-true}
use Rattle.mapping.specs.FreshPids.{is_among}
use Rattle.mapping.proofs.PidLemmas.{or_true_right, later_among, among_either_by, among_either, among_left, among_right}
use Rattle.keys.specs.declared.settings.Settings.{Settings}
use Rattle.page_runs.specs.Updated.{Updated, is_thin}
use Rattle.split_plan.specs.Groups.{groups}
use Rattle.split_plan.specs.Change.{Change, is_rewritten, remade, fresh, changes, family_changes, fresh_of, outdated, IsOutdatedIn, all_outdated}

-- ---- some element

module _ {X : Type 0} (P : X → Type 0) where
  any_here : (x : X) (xs : List X) → P x → Any P (x ∷ xs)
  any_here x xs p = (0, x, omega arith, refl, p)

  any_later : (x : X) (xs : List X) → Any P xs → Any P (x ∷ xs)
  any_later x xs h = (suc h.0, h.1, (let l = h.2 in omega arith), h.3, h.4)

  any_of_none : Any P [] → ⊥
  any_of_none h = let l = h.2 in omega arith

  any_at : (x : X) (xs : List X) (k : ℕ) (y : X) → k < length (x ∷ xs) → get_or (x ∷ xs) k y ≡ y → P y → P x ⊎ Any P xs
  any_at x xs zero y l e p = inl (subst P (sym e) p)
  any_at x xs (suc k) y l e p = inr (k, y, omega arith, e, p)

  any_cases : (x : X) (xs : List X) → Any P (x ∷ xs) → P x ⊎ Any P xs
  any_cases x xs h = any_at x xs h.0 h.1 h.2 h.3 h.4

  any_weaker : (Q : X → Type 0) (xs : List X) → ((x : X) → P x → Q x) → Any P xs → Any Q xs
  any_weaker Q xs f h = (h.0, h.1, h.2, h.3, f h.1 h.4)

-- ---- the pids of pages that pass a test

module _ {V : Type 0} (test : Updated V → Bool) (n : ℕ) where
  -- a page that passes, under this pid
  abbrev Passes : Updated V → Type 0
  Passes w = (w.placed.pid ≡ n) × (test w ≡ true)

  abbrev passed : List (Updated V) → List ℕ
  passed ws = map (λ w. w.placed.pid) (filter test ws)

  listed_by : (b : Bool) (w : Updated V) (ws : List (Updated V)) → test w ≡ b → (is_among n (passed ws) ≡ true → Any Passes ws) → is_among n (map (λ v. v.placed.pid) (cond b (w ∷ filter test ws) (filter test ws))) ≡ true → Any Passes (w ∷ ws)
  listed_by true w ws e ih h =
      elim (among_either_by (nat_eq n w.placed.pid) (is_among n (passed ws)) h) [
        | inl a ↦ any_here Passes w ws (sym (eqb-true n w.placed.pid a), e)
        | inr b ↦ any_later Passes w ws (ih b)
      ]
  listed_by false w ws e ih h = any_later Passes w ws (ih h)

  listed_passes : (ws : List (Updated V)) → is_among n (passed ws) ≡ true → Any Passes ws
  listed_passes [] h = absurd (cc)
  listed_passes (w ∷ ws) h = listed_by (test w) w ws refl (λ k. listed_passes ws k) h

  passes_by : (b : Bool) (w : Updated V) (ws : List (Updated V)) → test w ≡ b → Passes w ⊎ (is_among n (passed ws) ≡ true) → is_among n (map (λ v. v.placed.pid) (cond b (w ∷ filter test ws) (filter test ws))) ≡ true
  passes_by true w ws e (inl p) = ap (λ (b : Bool). b || is_among n (passed ws)) (eq-eqb n w.placed.pid (sym p.0))
  passes_by true w ws e (inr h) = later_among n w.placed.pid (passed ws) h
  passes_by false w ws e (inl p) = let t = p.1 in absurd (cc)
  passes_by false w ws e (inr h) = h

  passes_listed : (ws : List (Updated V)) → Any Passes ws → is_among n (passed ws) ≡ true
  passes_listed [] h = absurd (any_of_none Passes h)
  passes_listed (w ∷ ws) h =
      passes_by (test w) w ws refl (elim (any_cases Passes w ws h) [ inl p ↦ inl p | inr a ↦ inr (passes_listed ws a) ])

-- ---- the pids that are outdated

true_left : (a b : Bool) → a ≡ true → (a || b) ≡ true
true_left a b h = ap (λ (x : Bool). x || b) h

true_right : (a b : Bool) → b ≡ true → (a || b) ≡ true
true_right a b h = ap (λ (x : Bool). a || x) h ∙ or_true_right a

module _ {V : Type 0} where
  -- for one change: the members that were replaced, and all members if the group is rewritten
  pub outdated_members : (c : Change V) (pid : ℕ) → (is_among pid (outdated c) ≡ true) ↔ IsOutdatedIn c.members pid
  outdated_members c pid =
      let rewritten : Bool = is_rewritten c.members in
      let test : Updated V → Bool = λ w. w.replaced || is_rewritten c.members in
      let P : Updated V → Type 0 = λ w. (w.placed.pid ≡ pid) × (test w ≡ true) in
      let Q : Updated V → Type 0 = λ w. (w.placed.pid ≡ pid) × ((w.replaced ≡ true) ⊎ (is_rewritten c.members ≡ true)) in (
        λ h. any_weaker P Q c.members (λ w p. (p.0, among_either_by w.replaced rewritten p.1)) (listed_passes test pid c.members h),
        λ h. passes_listed test pid c.members (any_weaker Q P c.members (λ w q. (q.0, elim q.1 [ inl r ↦ true_left w.replaced rewritten r | inr r ↦ true_right w.replaced rewritten r ])) h),
      )

  -- of groups
  outdated_in_some : (s : Settings) (used : List ℕ) (i : ℕ) (gs : List (List (Updated V))) (pid : ℕ) → is_among pid (flat_map outdated (changes s used i gs)) ≡ true → Any (λ g. IsOutdatedIn g pid) gs
  outdated_in_some s used i [] pid h = absurd (cc)
  outdated_in_some s used i (g ∷ gs) pid h =
      let c : Change V = record { members = g; pages = remade s used i g } in
      let j : ℕ = i + length (fresh c) in
      let P : List (Updated V) → Type 0 = λ g. IsOutdatedIn g pid in
      elim (among_either pid (outdated c) (flat_map outdated (changes s used j gs)) h) [
        | inl a ↦ any_here P g gs ((outdated_members c pid).0 a)
        | inr b ↦ any_later P g gs (outdated_in_some s used j gs pid b)
      ]

  some_outdated_in : (s : Settings) (used : List ℕ) (i : ℕ) (gs : List (List (Updated V))) (pid : ℕ) → Any (λ g. IsOutdatedIn g pid) gs → is_among pid (flat_map outdated (changes s used i gs)) ≡ true
  some_outdated_in s used i [] pid h = absurd (any_of_none (λ (g : List (Updated V)). IsOutdatedIn g pid) h)
  some_outdated_in s used i (g ∷ gs) pid h =
      let c : Change V = record { members = g; pages = remade s used i g } in
      let j : ℕ = i + length (fresh c) in
      let later : List ℕ = flat_map outdated (changes s used j gs) in
      elim (any_cases (λ g. IsOutdatedIn g pid) g gs h) [
        | inl a ↦ among_left pid (outdated c) later ((outdated_members c pid).1 a)
        | inr b ↦ among_right pid (outdated c) later (some_outdated_in s used j gs pid b)
      ]

  pub outdated_of_groups : (s : Settings) (used : List ℕ) (i : ℕ) (gs : List (List (Updated V))) (pid : ℕ) → (is_among pid (flat_map outdated (changes s used i gs)) ≡ true) ↔ Any (λ g. IsOutdatedIn g pid) gs
  outdated_of_groups s used i gs pid = (outdated_in_some s used i gs pid, some_outdated_in s used i gs pid)

  -- and of families
  abbrev IsOutdatedInFamily : ℕ → List (Updated V) → Type 0
  IsOutdatedInFamily pid f = Any (λ g. IsOutdatedIn g pid) (groups is_thin f)

  in_some_family : (s : Settings) (used : List ℕ) (i : ℕ) (fs : List (List (Updated V))) (pid : ℕ) → is_among pid (all_outdated (family_changes s used i fs)) ≡ true → Any (IsOutdatedInFamily pid) fs
  in_some_family s used i [] pid h = absurd (cc)
  in_some_family s used i (f ∷ fs) pid h =
      let cs : List (Change V) = changes s used i (groups is_thin f) in
      let j : ℕ = i + length (fresh_of cs) in
      elim (among_either pid (flat_map outdated cs) (all_outdated (family_changes s used j fs)) h) [
        | inl a ↦ any_here (IsOutdatedInFamily pid) f fs (outdated_in_some s used i (groups is_thin f) pid a)
        | inr b ↦ any_later (IsOutdatedInFamily pid) f fs (in_some_family s used j fs pid b)
      ]

  some_family_in : (s : Settings) (used : List ℕ) (i : ℕ) (fs : List (List (Updated V))) (pid : ℕ) → Any (IsOutdatedInFamily pid) fs → is_among pid (all_outdated (family_changes s used i fs)) ≡ true
  some_family_in s used i [] pid h = absurd (any_of_none (IsOutdatedInFamily pid) h)
  some_family_in s used i (f ∷ fs) pid h =
      let cs : List (Change V) = changes s used i (groups is_thin f) in
      let j : ℕ = i + length (fresh_of cs) in
      let later : List ℕ = all_outdated (family_changes s used j fs) in
      elim (any_cases (IsOutdatedInFamily pid) f fs h) [
        | inl a ↦ among_left pid (flat_map outdated cs) later (some_outdated_in s used i (groups is_thin f) pid a)
        | inr b ↦ among_right pid (flat_map outdated cs) later (some_family_in s used j fs pid b)
      ]

  pub outdated_of_families : (s : Settings) (used : List ℕ) (i : ℕ) (fs : List (List (Updated V))) (pid : ℕ) → (is_among pid (all_outdated (family_changes s used i fs)) ≡ true) ↔ Any (IsOutdatedInFamily pid) fs
  outdated_of_families s used i fs pid = (in_some_family s used i fs pid, some_family_in s used i fs pid)
