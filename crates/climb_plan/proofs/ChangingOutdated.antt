-- Lemmas on outdated pids: those of the pages that were replaced, and those of the groups that are rewritten.
use Rattle.std.specs.Prelude.{◌≡◌, ℕ, ◌+◌, Bool, true, false, cond, ◌||◌, nat_eq, List, [], ◌∷◌, ◌++◌, flat_map, length}
use Rattle.std.proofs.Common.{refl, sym, ap, ◌∙◌, append-nil}
use Rattle.std.specs.List.{filter}
use Rattle.std.proofs.lemmas.Grind.{flat_map-append}
use Rattle.std.proofs.lemmas.List.{map-append}
use Rattle.keys.specs.Lists.{flat}
use Rattle.keys.specs.declared.settings.Settings.{Settings}
use Rattle.keys.proofs.Basics.{or_grouped}
use Rattle.mapping.specs.Tree.{Logged}
use Rattle.mapping.specs.Tree.Logged.{No, Old, Upto}
use Rattle.mapping.specs.Levels.{Placed, pids}
use Rattle.mapping.specs.FreshPids.{is_among}
use Rattle.mapping.specs.Outdate.{outdate, outdate_all}
use Rattle.page_runs.specs.Updated.{Updated, is_thin}
use Rattle.split_plan.specs.Groups.{groups}
use Rattle.split_plan.proofs.GroupLemmas.{groups-joined}
use Rattle.split_plan.specs.UpdatedLevel.{placed_of}
use Rattle.split_plan.specs.Change.{Change, is_rewritten, remade, fresh, changes, family_changes, outdated, all_outdated}
use Rattle.climb_plan.specs.Climb.{families}
use Rattle.climb_plan.specs.Changing.{changing_families, changing_groups}
use Rattle.climb_plan.proofs.ChangingGroups.{flat_map-flat, filter-joined, all_groups, flat-family_changes, groups-changing_families}
use Rattle.climb_plan.proofs.Installed.{updated_pids, replaced_among}

-- ---- numbers among others

pub among-joined : (n : ℕ) (ms ns : List ℕ) → is_among n (ms ++ ns) ≡ (is_among n ms || is_among n ns)
among-joined n [] ns = refl
among-joined n (m ∷ ms) ns = ap (λ (b : Bool). nat_eq n m || b) (among-joined n ms ns) ∙ or_grouped (nat_eq n m) (is_among n ms) (is_among n ns)

both_ways : (x a c d : Bool) → a ≡ (c || d) → (x || a) ≡ ((x || c) || (x || d))
both_ways true a c d e = refl
both_ways false a c d e = e

on_the_right : (x a c d : Bool) → a ≡ (c || d) → (x || a) ≡ (c || (x || d))
on_the_right true a true d e = refl
on_the_right true a false d e = refl
on_the_right false a c d e = e

paired : (a b c d : Bool) → ((a || b) || (c || d)) ≡ ((a || c) || (b || d))
paired true b c d = refl
paired false true true d = refl
paired false true false d = refl
paired false false c d = refl

module _ {V : Type 0} where
  -- the pids of pages after their runs are those of the pages
  pub updated_pids-placed : (ws : List (Updated V)) → updated_pids ws ≡ pids (placed_of ws)
  updated_pids-placed [] = refl
  updated_pids-placed (w ∷ ws) = ap (λ (ns : List ℕ). w.placed.pid ∷ ns) (updated_pids-placed ws)

  pub updated_pids-append : (xs ys : List (Updated V)) → updated_pids (xs ++ ys) ≡ updated_pids xs ++ updated_pids ys
  updated_pids-append xs ys = map-append (λ w. w.placed.pid) xs ys

  -- ---- one group

  -- one more member: whether it was replaced, and whether the group is rewritten
  member_by : (r b : Bool) (n : ℕ) (w : Updated V) (ws all some : List (Updated V)) → is_among n (updated_pids all) ≡ (is_among n (updated_pids some) || is_among n (updated_pids (cond b ws [])))
      → is_among n (updated_pids (cond (r || b) (w ∷ all) all)) ≡ (is_among n (updated_pids (cond r (w ∷ some) some)) || is_among n (updated_pids (cond b (w ∷ ws) [])))
  member_by true true n w ws all some e = both_ways (nat_eq n w.placed.pid) (is_among n (updated_pids all)) (is_among n (updated_pids some)) (is_among n (updated_pids ws)) e
  member_by true false n w ws all some e = ap (λ (x : Bool). nat_eq n w.placed.pid || x) e ∙ or_grouped (nat_eq n w.placed.pid) (is_among n (updated_pids some)) false
  member_by false true n w ws all some e = on_the_right (nat_eq n w.placed.pid) (is_among n (updated_pids all)) (is_among n (updated_pids some)) (is_among n (updated_pids ws)) e
  member_by false false n w ws all some e = e

  members_outdated : (b : Bool) (n : ℕ) (ws : List (Updated V)) → is_among n (updated_pids (filter (λ w. w.replaced || b) ws)) ≡ (is_among n (updated_pids (replaced_among ws)) || is_among n (updated_pids (cond b ws [])))
  members_outdated true n [] = refl
  members_outdated false n [] = refl
  members_outdated b n (w ∷ ws) = member_by w.replaced b n w ws (filter (λ v. v.replaced || b) ws) (replaced_among ws) (members_outdated b n ws)

  -- ---- groups

  more_rewritten : (b : Bool) (g : List (Updated V)) (gs : List (List (Updated V))) → updated_pids (flat (cond b (g ∷ gs) gs)) ≡ updated_pids (cond b g []) ++ updated_pids (flat gs)
  more_rewritten true g gs = updated_pids-append g (flat gs)
  more_rewritten false g gs = refl

  replaced-append : (xs ys : List (Updated V)) → updated_pids (replaced_among (xs ++ ys)) ≡ updated_pids (replaced_among xs) ++ updated_pids (replaced_among ys)
  replaced-append xs ys = ap (λ (ws : List (Updated V)). updated_pids ws) (filter-joined (λ (w : Updated V). w.replaced) xs ys) ∙ updated_pids-append (replaced_among xs) (replaced_among ys)

  -- outdated are the pids of the members that were replaced, and those of all members of the groups that are rewritten
  pub outdated-groups : (s : Settings) (used : List ℕ) (i : ℕ) (gs : List (List (Updated V))) (n : ℕ)
      → is_among n (flat_map outdated (changes s used i gs)) ≡ (is_among n (updated_pids (replaced_among (flat gs))) || is_among n (updated_pids (flat (filter is_rewritten gs))))
  outdated-groups s used i [] n = refl
  outdated-groups s used i (g ∷ gs) n =
      let c : Change V = record { members = g; pages = remade s used i g } in
      let later : List ℕ = flat_map outdated (changes s used (i + length (fresh c)) gs) in
      let rest = outdated-groups s used (i + length (fresh c)) gs n in
      let a : Bool = is_among n (updated_pids (replaced_among g)) in
      let b : Bool = is_among n (updated_pids (cond (is_rewritten g) g [])) in
      let x : Bool = is_among n (updated_pids (replaced_among (flat gs))) in
      let y : Bool = is_among n (updated_pids (flat (filter is_rewritten gs))) in
      let here : is_among n (outdated c) ≡ (a || b) = members_outdated (is_rewritten g) n g in
      let front : is_among n (updated_pids (replaced_among (g ++ flat gs))) ≡ (a || x) =
      ap (λ (ns : List ℕ). is_among n ns) (replaced-append g (flat gs)) ∙ among-joined n (updated_pids (replaced_among g)) (updated_pids (replaced_among (flat gs))) in
      let back : is_among n (updated_pids (flat (filter is_rewritten (g ∷ gs)))) ≡ (b || y) =
      ap (λ (ns : List ℕ). is_among n ns) (more_rewritten (is_rewritten g) g (filter is_rewritten gs)) ∙ among-joined n (updated_pids (cond (is_rewritten g) g [])) (updated_pids (flat (filter is_rewritten gs))) in
      let parts : is_among n (outdated c ++ later) ≡ ((a || b) || (x || y)) = among-joined n (outdated c) later ∙ ap (λ (p : Bool). p || is_among n later) here ∙ ap (λ (q : Bool). (a || b) || q) rest in
      let whole : ((a || x) || (b || y)) ≡ (is_among n (updated_pids (replaced_among (g ++ flat gs))) || is_among n (updated_pids (flat (filter is_rewritten (g ∷ gs))))) =
      ap (λ (p : Bool). p || (b || y)) (sym front) ∙ ap (λ (q : Bool). is_among n (updated_pids (replaced_among (g ++ flat gs))) || q) (sym back) in
      parts ∙ paired a b x y ∙ whole

  -- ---- a level

  -- the groups of all families, joined, are the families, joined
  pub all_groups-joined : (fs : List (List (Updated V))) → flat (all_groups fs) ≡ flat fs
  all_groups-joined [] = refl
  all_groups-joined (f ∷ fs) =
      flat_map-append (λ (g : List (Updated V)). g) (groups is_thin f) (all_groups fs)
      ∙ ap (λ (ws : List (Updated V)). ws ++ flat (all_groups fs)) (groups-joined is_thin f)
      ∙ ap (λ (ws : List (Updated V)). f ++ ws) (all_groups-joined fs)

  -- of a level under parents: the pids of its pages that were replaced, and those of the groups that are rewritten
  pub outdated-level : (s : Settings) (used : List ℕ) (i : ℕ) (ps : List (Placed ℕ)) (ws : List (Updated V)) (n : ℕ) → flat (families ps ws) ≡ ws
      → is_among n (all_outdated (family_changes s used i (families ps ws))) ≡ (is_among n (updated_pids (replaced_among ws)) || is_among n (updated_pids (flat (changing_groups (changing_families ps ws)))))
  outdated-level s used i ps ws n e =
      let fs : List (List (Updated V)) = families ps ws in
      let gs : List (List (Updated V)) = all_groups fs in
      let one : all_outdated (family_changes s used i fs) ≡ flat_map outdated (changes s used i gs) =
      flat_map-flat outdated (family_changes s used i fs) ∙ ap (λ (cs : List (Change V)). flat_map outdated cs) (flat-family_changes s used i fs) in
      let members : flat gs ≡ ws = all_groups-joined fs ∙ e in
      let all : List (Updated V) → List (List (Updated V)) → Bool = λ vs hs. is_among n (updated_pids (replaced_among vs)) || is_among n (updated_pids (flat hs)) in
      ap (λ (ns : List ℕ). is_among n ns) one
      ∙ outdated-groups s used i gs n
      ∙ ap (λ (vs : List (Updated V)). all vs (filter is_rewritten gs)) members
      ∙ ap (λ (hs : List (List (Updated V))). all ws hs) (sym (groups-changing_families ps ws))

  -- and of the highest level
  pub outdated-top : (s : Settings) (used : List ℕ) (i : ℕ) (ws : List (Updated V)) (n : ℕ)
      → is_among n (all_outdated (changes s used i (ws ∷ []) ∷ [])) ≡ (is_among n (updated_pids (replaced_among ws)) || is_among n (updated_pids (flat (filter is_rewritten (ws ∷ [])))))
  outdated-top s used i ws n =
      ap (λ (ns : List ℕ). is_among n ns) (append-nil (flat_map outdated (changes s used i (ws ∷ []))))
      ∙ outdated-groups s used i (ws ∷ []) n
      ∙ ap (λ (vs : List (Updated V)). is_among n (updated_pids (replaced_among vs)) || is_among n (updated_pids (flat (filter is_rewritten (ws ∷ []))))) (append-nil ws)

-- ---- what the log has, step by step

outdate_again : (l : Logged) → outdate (outdate l) ≡ outdate l
outdate_again No = refl
outdate_again Old = refl
outdate_again (Upto k) = refl

outdate_by : (a b : Bool) (l : Logged) → cond a (outdate (cond b (outdate l) l)) (cond b (outdate l) l) ≡ cond (a || b) (outdate l) l
outdate_by true true l = outdate_again l
outdate_by true false l = refl
outdate_by false b l = refl

-- outdating some, and then others, is outdating all of them
pub outdate-joined : (xs ys : List ℕ) (ls : List (ℕ × Logged)) → outdate_all xs (outdate_all ys ls) ≡ outdate_all (xs ++ ys) ls
outdate-joined xs ys [] = refl
outdate-joined xs ys (l ∷ ls) =
    let rest : List (ℕ × Logged) = outdate_all xs (outdate_all ys ls) in
    let put : Bool → List (ℕ × Logged) = λ b. (l.0, cond b (outdate l.1) l.1) ∷ outdate_all (xs ++ ys) ls in
    ap (λ (m : Logged). (let e : ℕ × Logged = (l.0, m) in e ∷ rest)) (outdate_by (is_among l.0 xs) (is_among l.0 ys) l.1)
    ∙ ap (λ (more : List (ℕ × Logged)). (let e : ℕ × Logged = (l.0, cond (is_among l.0 xs || is_among l.0 ys) (outdate l.1) l.1) in e ∷ more)) (outdate-joined xs ys ls)
    ∙ ap put (sym (among-joined l.0 xs ys))

-- outdating goes by which pids are listed, and not by how
pub outdate-same : (xs ys : List ℕ) (ls : List (ℕ × Logged)) → ((n : ℕ) → is_among n xs ≡ is_among n ys) → outdate_all xs ls ≡ outdate_all ys ls
outdate-same xs ys [] h = refl
outdate-same xs ys (l ∷ ls) h =
    ap (λ (b : Bool). (let e : ℕ × Logged = (l.0, cond b (outdate l.1) l.1) in e ∷ outdate_all xs ls)) (h l.0)
    ∙ ap (λ (more : List (ℕ × Logged)). (let e : ℕ × Logged = (l.0, cond (is_among l.0 ys) (outdate l.1) l.1) in e ∷ more)) (outdate-same xs ys ls h)
