-- Log states stay true.
use Rattle.std.specs.Prelude.{◌≡◌, ℕ, ◌<◌, ◌≤◌, ◌⊎◌, ◌↔◌, Bool, true, false, cond, ◌||◌, nat_eq, List, [], ◌∷◌, ◌++◌, flat_map, length, Option, Some, None}
use Rattle.std.proofs.Common.{refl, sym, ap, ◌∙◌, subst, arith, inl, inr, length-append}
use Rattle.std.specs.Ordering.{nat_cmp, is_eq}
use Rattle.std.specs.List.{AllByRecursion}
use Rattle.std.specs.Map.{keys_of, lookup}
use Rattle.std.proofs.lemmas.Bool.{eq-eqb, eqb-true}
use Rattle.keys.specs.declared.settings.Settings.{Settings}
use Rattle.keys.specs.declared.command.Command.{Command}
use Rattle.index_page.specs.Over.{IsPageOver}
use Rattle.keys.proofs.Basics.{equal_by}
use Rattle.index_page.specs.Page.{PageOfKind}
use Rattle.index_page.specs.Page.PageOfKind.{Leaf, Index}
use Rattle.index_page.proofs.RuleLemmas.{all_both}
use Rattle.mapping.specs.Tree.{Logged, Tree, page_at, or_no, logged_of}
use Rattle.mapping.specs.Tree.Logged.{No, Old, Upto}
use Rattle.mapping.specs.Levels.{Placed, Levels, pids, all_pids, levels_of, by_pid, all_pages}
use Rattle.mapping.specs.FreshPids.{is_among}
use Rattle.mapping.proofs.PidLemmas.{later_among, among_apart, among_either}
use Rattle.mapping.specs.Proper.{AreRisingPids, HasIndexPages, HoldsLevels, HasRuns, IsTrueOf, AreLogsTrue, IsProper}
use Rattle.mapping.proofs.TableLemmas.{same_pid, by_pid-holds, holds_where_found}
use Rattle.page_runs.specs.NetRun.{net_run}
use Rattle.split_plan.specs.UpdatedLevel.{updated_leaves}
use Rattle.split_plan.proofs.RunLemmas.{names-updated_leaves}
use Rattle.climb_plan.specs.Climb.{Climbed, kept_levels}
use Rattle.mapping.specs.Outdate.{outdate, outdate_all}
use Rattle.climb_plan.specs.Plan.{batch_climb, planned_levels, planned_tree, shrunk_pids, outdated_pids}
use Rattle.climb_plan.proofs.Kept.{kept_is_first, left_is_rest}
use Rattle.climb_plan.proofs.Planned.{planned_are_levels}
use Rattle.climb_plan.proofs.Standing.{Has, IsAsBefore, HasAsBefore, StandsIn, AllStandIn, as_before-updated_leaves, stand-climb}

-- ---- what is listed of a pid

outdated_no : (b : Bool) → No ≡ cond b (outdate No) No
outdated_no true = refl
outdated_no false = refl

logged_by : (b : Bool) (gone : List ℕ) (pid : ℕ) (l : ℕ × Logged) (rest old : Option Logged) → is_eq (nat_cmp pid l.0) ≡ b → or_no rest ≡ cond (is_among pid gone) (outdate (or_no old)) (or_no old)
    → or_no (cond b (Some (cond (is_among l.0 gone) (outdate l.1) l.1)) rest) ≡ cond (is_among pid gone) (outdate (or_no (cond b (Some l.1) old))) (or_no (cond b (Some l.1) old))
logged_by true gone pid l rest old e ih = ap (λ (n : ℕ). cond (is_among n gone) (outdate l.1) l.1) (sym (same_pid pid l.0 (equal_by (nat_cmp pid l.0) e)))
logged_by false gone pid l rest old e ih = ih

-- outdated if the pid is among the removed ones, else unchanged
logged-outdate_all : (gone : List ℕ) (ls : List (ℕ × Logged)) (pid : ℕ)
    → or_no (lookup (λ n. is_eq (nat_cmp pid n)) (outdate_all gone ls)) ≡ cond (is_among pid gone) (outdate (or_no (lookup (λ n. is_eq (nat_cmp pid n)) ls))) (or_no (lookup (λ n. is_eq (nat_cmp pid n)) ls))
logged-outdate_all gone [] pid = outdated_no (is_among pid gone)
logged-outdate_all gone (l ∷ ls) pid =
    logged_by (is_eq (nat_cmp pid l.0)) gone pid l (lookup (λ n. is_eq (nat_cmp pid n)) (outdate_all gone ls)) (lookup (λ n. is_eq (nat_cmp pid n)) ls) refl (logged-outdate_all gone ls pid)

never_upto : (l : Logged) (k : ℕ) → outdate l ≡ Upto k → ⊥
never_upto No k h = absurd (cc)
never_upto Old k h = absurd (cc)
never_upto (Upto j) k h = absurd (cc)

upto_by : (b : Bool) (l : Logged) (k : ℕ) → cond b (outdate l) l ≡ Upto k → (b ≡ false) × (l ≡ Upto k)
upto_by true l k h = absurd (never_upto l k h)
upto_by false l k h = (refl, h)

no_by : (b : Bool) (l : Logged) → (l ≡ No) ↔ (cond b (outdate l) l ≡ No)
no_by false l = (λ h. h, λ h. h)
no_by true No = (λ h. refl, λ h. refl)
no_by true Old = (λ h. absurd (cc), λ h. absurd (cc))
no_by true (Upto k) = (λ h. absurd (cc), λ h. absurd (cc))

-- a page with newer runs in front has as many runs as it had, or more
more_by : {X : Type 0} (k : ℕ) (now newer before : List X) → now ≡ newer ++ before → k ≤ length before → k ≤ length now
more_by k now newer before e h = rw e (omega (arith, length-append newer before))

more_runs : (p q : PageOfKind) (k : ℕ) → IsPageOver p q → HasRuns k p → HasRuns k q
more_runs (Leaf p) (Leaf q) k r h = more_by k q.layers.runs r.runs.0 p.layers.runs r.runs.1 h
more_runs (Index p) (Index q) k r h = more_by k q.layers.runs r.runs.0 p.layers.runs r.runs.1 h
more_runs (Leaf p) (Index q) k r h = absurd r
more_runs (Index p) (Leaf q) k r h = absurd r

-- ---- pages found by their pids

module _ {V : Type 0} where
  pick_by : (b : Bool) (P : Placed V → Type 0) (p : Placed V) (ps : List (Placed V)) (n : ℕ) → nat_eq n p.pid ≡ b → P p → ((is_among n (pids ps) ≡ true) → (q : Placed V) × (q.pid ≡ n) × P q) → (b || is_among n (pids ps)) ≡ true → (q : Placed V) × (q.pid ≡ n) × P q
  pick_by true P p ps n e h ih a = (p, sym (eqb-true n p.pid e), h)
  pick_by false P p ps n e h ih a = ih a

  -- the page of a level that has the pid
  pick : (P : Placed V → Type 0) (ps : List (Placed V)) (n : ℕ) → AllByRecursion P ps → is_among n (pids ps) ≡ true → (q : Placed V) × (q.pid ≡ n) × P q
  pick P [] n h a = absurd (cc)
  pick P (p ∷ ps) n h a = pick_by (nat_eq n p.pid) P p ps n refl h.0 (λ r. pick P ps n h.1 r) a

  found : (news : List (Placed V)) (p : Placed V) → HasAsBefore news p → (q : Placed V) × IsAsBefore p q × Has news q
  found [] p h = absurd h
  found (q ∷ qs) p (inl a) = (q, a, inl refl)
  found (q ∷ qs) p (inr h) = let r = found qs p h in (r.0, r.1, inr r.2)

  has_all : (P : Placed V → Type 0) (ps : List (Placed V)) (q : Placed V) → AllByRecursion P ps → Has ps q → P q
  has_all P [] q a h = absurd h
  has_all P (p ∷ ps) q a (inl e) = subst P e a.0
  has_all P (p ∷ ps) q a (inr h) = has_all P ps q a.1 h

  has_pid : (ps : List (Placed V)) (q : Placed V) → Has ps q → is_among q.pid (pids ps) ≡ true
  has_pid [] q h = absurd h
  has_pid (p ∷ ps) q (inl e) = ap (λ (b : Bool). b || is_among q.pid (pids ps)) (eq-eqb q.pid p.pid (ap (λ (x : Placed V). x.pid) (sym e)))
  has_pid (p ∷ ps) q (inr h) = later_among q.pid p.pid (pids ps) (has_pid ps q h)

-- a page is in one of some levels
abbrev InLevels : List (List (Placed ℕ)) → Placed ℕ → Type 0
InLevels [] q = ⊥
InLevels (l ∷ ls) q = Has l q ⊎ InLevels ls q

in_either : (xs ys : List (List (Placed ℕ))) (q : Placed ℕ) → InLevels (xs ++ ys) q → InLevels xs q ⊎ InLevels ys q
in_either [] ys q h = inr h
in_either (x ∷ xs) ys q (inl h) = inl (inl h)
in_either (x ∷ xs) ys q (inr h) = elim (in_either xs ys q h) [ inl a ↦ inl (inr a) | inr b ↦ inr b ]

in_all : (P : Placed ℕ → Type 0) (ls : List (List (Placed ℕ))) (q : Placed ℕ) → AllByRecursion (AllByRecursion P) ls → InLevels ls q → P q
in_all P [] q a h = absurd h
in_all P (l ∷ ls) q a (inl h) = has_all P l q a.0 h
in_all P (l ∷ ls) q a (inr h) = in_all P ls q a.1 h

not_in_by : (n : ℕ) (ls : List (List (Placed ℕ))) (q : Placed ℕ) → q.pid ≡ n → is_among n (flat_map pids ls) ≡ false → InLevels ls q → ⊥
not_in_by n [] q e a h = h
not_in_by n (l ∷ ls) q e a (inl h) = let here = has_pid l q h in let none = (among_apart n (pids l) (flat_map pids ls) a).0 in let same : is_among n (pids l) ≡ true = rw (sym e) here in absurd (cc)
not_in_by n (l ∷ ls) q e a (inr h) = not_in_by n ls q e (among_apart n (pids l) (flat_map pids ls) a).1 h

-- an index page of the levels before, and the page of the levels after that it has become
record IsFoundAbove (t : List (ℕ × PageOfKind)) (news : List (List (Placed ℕ))) (n : ℕ) : Type 0 where
  pub before : Placed ℕ
  pub after : Placed ℕ
  pub pid : before.pid ≡ n
  pub page : page_at t before.pid ≡ Some (Index before.page)
  pub same : IsAsBefore before after
  pub there : InLevels news after

found_above : (t : List (ℕ × PageOfKind)) (gone : List ℕ) (ups news : List (List (Placed ℕ))) (n : ℕ) → AllByRecursion (HasIndexPages t) ups → AllStandIn gone ups news → is_among n gone ≡ false → is_among n (flat_map pids ups) ≡ true → IsFoundAbove t news n
found_above t gone [] news n h a f m = absurd (cc)
found_above t gone (l ∷ ls) [] n h a f m = absurd a
found_above t gone (l ∷ ls) (new ∷ news) n h a f m =
    elim (among_either n (pids l) (flat_map pids ls) m) [
      | inl here ↦ (
          let p = pick (λ q. (page_at t q.pid ≡ Some (Index q.page)) × StandsIn gone new q) l n ((all_both (λ q. page_at t q.pid ≡ Some (Index q.page)) (StandsIn gone new) l).1 (h.0, a.0)) here in
          let q = found new p.0 (p.2.1 (subst (λ (x : ℕ). is_among x gone ≡ false) (sym p.1) f)) in
          record { before = p.0; after = q.0; pid = p.1; page = p.2.0; same = q.1; there = inl q.2 })
      | inr later ↦ (
          let r = found_above t gone ls news n h.1 a.1 f later in
          record { before = r.before; after = r.after; pid = r.pid; page = r.page; same = r.same; there = inr r.there })
    ]

some_same : (p q : PageOfKind) → Some p ≡ Some q → p ≡ q
some_same p q e = cc

-- ---- the plan

module _ {A : Type 0} (s : Settings) (t : Tree) (cs : List (Command A)) where
  abbrev gone_pids : List ℕ
  gone_pids = outdated_pids s t cs

  -- the log state of a pid
  pub logged_after : (pid : ℕ) → logged_of (planned_tree s t cs) pid ≡ cond (is_among pid gone_pids) (outdate (logged_of t pid)) (logged_of t pid)
  logged_after pid = logged-outdate_all gone_pids t.logged pid

  pub no_stays : (pid : ℕ) → (logged_of t pid ≡ No) ↔ (logged_of (planned_tree s t cs) pid ≡ No)
  no_stays pid =
      let e = logged_after pid in
      let r = no_by (is_among pid gone_pids) (logged_of t pid) in
      (λ h. e ∙ r.0 h, λ h. r.1 (sym e ∙ h))

  upto_is : (pid k : ℕ) → logged_of (planned_tree s t cs) pid ≡ Upto k → (is_among pid gone_pids ≡ false) × (logged_of t pid ≡ Upto k)
  upto_is pid k h = upto_by (is_among pid gone_pids) (logged_of t pid) k (sym (logged_after pid) ∙ h)

  pub upto_was : (pid k : ℕ) → logged_of (planned_tree s t cs) pid ≡ Upto k → logged_of t pid ≡ Upto k
  upto_was pid k h = (upto_is pid k h).1

  module _ (fan : 1 < s.fan) (proper : IsProper s t) where
    levels_stand : AllByRecursion (StandsIn (batch_climb s t cs).outdated (batch_climb s t cs).tower.level) (levels_of t).level × AllStandIn (batch_climb s t cs).outdated (levels_of t).above (batch_climb s t cs).tower.above
    levels_stand =
        let l : Levels = levels_of t in
        let run : List (List ℕ × Option (List ℕ)) = net_run (Rattle.mapping.specs.Levels.contents t) cs in
        stand-climb s (keys_of t.pages) 0 (updated_leaves s run l.level) l.level l.above (names-updated_leaves s run l.level) proper.levels.stacked (as_before-updated_leaves s run l.level)

    planned_holds : HoldsLevels (by_pid (all_pages (planned_levels s t cs))) (planned_levels s t cs)
    planned_holds = by_pid-holds (planned_levels s t cs) (planned_are_levels s t cs fan proper).distinct

    -- there is a page under the pid, equal to the old one except for newer runs
    abbrev StillStands : ℕ → PageOfKind → Type 0
    StillStands pid p = (q : PageOfKind) × (page_at (planned_tree s t cs).pages pid ≡ Some q) × IsPageOver p q

    leaf_stands : (pid : ℕ) (p : PageOfKind) → is_among pid gone_pids ≡ false → page_at t.pages pid ≡ Some p → is_among pid (pids (levels_of t).level) ≡ true → StillStands pid p
    leaf_stands pid p g h m =
        let l : Levels = levels_of t in
        let c : Climbed (List ℕ) = batch_climb s t cs in
        let gone : List ℕ = c.outdated in
        let news : List (Placed (List ℕ)) = c.tower.level in
        let was = pick (λ q. (page_at t.pages q.pid ≡ Some (Leaf q.page)) × StandsIn gone news q) l.level pid ((all_both (λ q. page_at t.pages q.pid ≡ Some (Leaf q.page)) (StandsIn gone news) l.level).1 (proper.held.leaves, levels_stand.0)) m in
        let kept_pid : is_among pid gone ≡ false = (among_apart pid gone (shrunk_pids c.tower.above) g).0 in
        let now = found news was.0 (was.2.1 (subst (λ (x : ℕ). is_among x gone ≡ false) (sym was.1) kept_pid)) in
        let there : page_at (planned_tree s t cs).pages now.0.pid ≡ Some (Leaf now.0.page) = has_all (λ q. page_at (planned_tree s t cs).pages q.pid ≡ Some (Leaf q.page)) news now.0 planned_holds.leaves now.2 in
        let at_pid : page_at (planned_tree s t cs).pages pid ≡ Some (Leaf now.0.page) = subst (λ (x : ℕ). page_at (planned_tree s t cs).pages x ≡ Some (Leaf now.0.page)) (now.1.pid ∙ was.1) there in
        let same : Leaf was.0.page ≡ p = some_same (Leaf was.0.page) p (sym was.2.0 ∙ ap (λ (x : ℕ). page_at t.pages x) was.1 ∙ h) in
        (Leaf now.0.page, at_pid, subst (λ (x : PageOfKind). IsPageOver x (Leaf now.0.page)) same now.1.page)

    index_page_stands : (pid : ℕ) (p : PageOfKind) → is_among pid gone_pids ≡ false → page_at t.pages pid ≡ Some p → is_among pid (flat_map pids (levels_of t).above) ≡ true → StillStands pid p
    index_page_stands pid p g h m =
        let c : Climbed (List ℕ) = batch_climb s t cs in
        let table : List (ℕ × PageOfKind) = (planned_tree s t cs).pages in
        let apart = among_apart pid c.outdated (shrunk_pids c.tower.above) g in
        let f = found_above t.pages c.outdated (levels_of t).above c.tower.above pid proper.held.above levels_stand.1 apart.0 m in
        let r = kept_is_first c.tower.above in
        let not_shrunk : is_among pid (flat_map pids r.0) ≡ false = subst (λ (x : List (List (Placed ℕ))). is_among pid (flat_map pids x) ≡ false) (left_is_rest c.tower.above) apart.1 in
        let split = in_either (kept_levels c.tower.above) r.0 f.after (subst (λ (x : List (List (Placed ℕ))). InLevels x f.after) (sym r.1) f.there) in
        let there : page_at table f.after.pid ≡ Some (Index f.after.page) =
        elim split [
          | inl a ↦ in_all (λ q. page_at table q.pid ≡ Some (Index q.page)) (kept_levels c.tower.above) f.after planned_holds.above a
          | inr b ↦ absurd (not_in_by pid r.0 f.after (f.same.pid ∙ f.pid) not_shrunk b)
        ] in
        let at_pid : page_at table pid ≡ Some (Index f.after.page) = subst (λ (x : ℕ). page_at table x ≡ Some (Index f.after.page)) (f.same.pid ∙ f.pid) there in
        let same : Index f.before.page ≡ p = some_same (Index f.before.page) p (sym f.page ∙ ap (λ (x : ℕ). page_at t.pages x) f.pid ∙ h) in
        (Index f.after.page, at_pid, subst (λ (x : PageOfKind). IsPageOver x (Index f.after.page)) same f.same.page)

    -- a page whose pid isn't outdated keeps its contents, with newer runs in front
    pub page_stands : (pid : ℕ) (p : PageOfKind) → is_among pid gone_pids ≡ false → page_at t.pages pid ≡ Some p → StillStands pid p
    page_stands pid p g e =
        let l : Levels = levels_of t in
        let met : is_among pid (all_pids l.level l.above) ≡ true = holds_where_found (λ n. is_among n (all_pids l.level l.above) ≡ true) t.pages pid p proper.held.no_other e in
        elim (among_either pid (pids l.level) (flat_map pids l.above) met) [
          | inl a ↦ leaf_stands pid p g e a
          | inr b ↦ index_page_stands pid p g e b
        ]

    -- so does one whose base and runs the log still has
    pub logged_page_stands : (pid k : ℕ) (p : PageOfKind) → logged_of (planned_tree s t cs) pid ≡ Upto k → page_at t.pages pid ≡ Some p → StillStands pid p
    logged_page_stands pid k p h e = page_stands pid p (upto_is pid k h).0 e

    -- ---- it is true

    logged_keys : (gone : List ℕ) (ls : List (ℕ × Logged)) → keys_of (outdate_all gone ls) ≡ keys_of ls
    logged_keys gone [] = refl
    logged_keys gone (l ∷ ls) = ap (λ (ns : List ℕ). l.0 ∷ ns) (logged_keys gone ls)

    true_after : (now : Option PageOfKind) (was : PageOfKind) (k : ℕ) → HasRuns k was → (q : PageOfKind) × (now ≡ Some q) × IsPageOver was q → IsTrueOf now (Upto k)
    true_after now was k h r = rw r.1 (more_runs was r.0 k r.2 h)

    -- properties of the old log state of a pid
    stays_true : (b : Bool) (pid : ℕ) (l : Logged) (was : Option PageOfKind) → is_among pid gone_pids ≡ b → page_at t.pages pid ≡ was → IsTrueOf was l → IsTrueOf (page_at (planned_tree s t cs).pages pid) (cond b (outdate l) l)
    stays_true b pid No was f e h = absurd h
    stays_true true pid Old was f e h = tt
    stays_true false pid Old was f e h = tt
    stays_true true pid (Upto k) was f e h = tt
    stays_true false pid (Upto k) None f e h = absurd h
    stays_true false pid (Upto k) (Some p) f e h = true_after (page_at (planned_tree s t cs).pages pid) p k h (page_stands pid p f e)

    all_stay_true : (ls : List (ℕ × Logged)) → AllByRecursion (λ l. IsTrueOf (page_at t.pages l.0) l.1) ls → AllByRecursion (λ l. IsTrueOf (page_at (planned_tree s t cs).pages l.0) l.1) (outdate_all gone_pids ls)
    all_stay_true [] h = tt
    all_stay_true (l ∷ ls) h = (stays_true (is_among l.0 gone_pids) l.0 l.1 (page_at t.pages l.0) refl refl h.0, all_stay_true ls h.1)

    -- true log states stay true
    pub logs_stay_true : AreLogsTrue t → AreLogsTrue (planned_tree s t cs)
    logs_stay_true h = record {
      rising = subst (λ (ns : List ℕ). AreRisingPids ns) (sym (logged_keys gone_pids t.logged)) h.rising;
      each = all_stay_true t.logged h.each;
    }
