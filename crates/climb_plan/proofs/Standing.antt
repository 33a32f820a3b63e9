-- A page that isn't outdated keeps its contents, with newer runs in front.
use Rattle.std.specs.Prelude.{◌≡◌, ℕ, ◌+◌, ◌⊎◌, Bool, true, false, cond, ◌||◌, nat_eq, ⊤, List, [], ◌∷◌, ◌++◌, map, flat_map, drop, length, Option}
use Rattle.std.proofs.Common.{refl, sym, ap, ◌∙◌, subst, append-nil, inl, inr}
use Rattle.std.specs.List.{AllByRecursion, filter}
use Rattle.std.proofs.lemmas.Bool.{eqb-false, or_parts}
use Rattle.keys.specs.declared.settings.Settings.{Settings}
use Rattle.index_page.specs.Over.{IsOver}
use Rattle.index_page.specs.Page.{Page}
use Rattle.index_page.proofs.RuleLemmas.{all_both}
use Rattle.keys.specs.Lists.{flat}
use Rattle.index_page.proofs.ListLemmas.{all-append, all_weaker}
use Rattle.mapping.specs.Levels.{Placed, joined, name, names}
use Rattle.mapping.specs.FreshPids.{is_among}
use Rattle.mapping.proofs.PidLemmas.{among_apart}
use Rattle.mapping.specs.Proper.{Stacked}
use Rattle.page_runs.specs.AfterRun.{must_replace, replaced, in_front}
use Rattle.split_plan.specs.Groups.{groups}
use Rattle.split_plan.proofs.GroupLemmas.{groups-joined}
use Rattle.page_runs.specs.Updated.{Updated, updated, is_thin}
use Rattle.split_plan.specs.UpdatedLevel.{part_below, part_from, updated_leaves, updated_parents, placed_of}
use Rattle.split_plan.proofs.RunLemmas.{names-updated_parents}
use Rattle.split_plan.specs.Change.{Change, is_rewritten, remade, changes, family_changes, new_of, fresh_of, all_new, all_fresh, outdated, all_outdated}
use Rattle.split_plan.proofs.ChangeLemmas.{remade_by}
use Rattle.split_plan.specs.Terms.{terms}
use Rattle.climb_plan.specs.Climb.{families, Climbed, climb}
use Rattle.climb_plan.proofs.Families.{families-joined}

-- ---- a number that isn't among others

not_itself : (n : ℕ) (ns : List ℕ) → is_among n (n ∷ ns) ≡ false → ⊥
not_itself n ns h = eqb-false n n ((or_parts (nat_eq n n) (is_among n ns) h).0) refl

fails_by : (b : Bool) (n : ℕ) (ns : List ℕ) → is_among n (cond b (n ∷ ns) ns) ≡ false → b ≡ false
fails_by true n ns h = absurd (not_itself n ns h)
fails_by false n ns h = refl

later_by : (b : Bool) (n m : ℕ) (ns : List ℕ) → is_among n (cond b (m ∷ ns) ns) ≡ false → is_among n ns ≡ false
later_by true n m ns h = (or_parts (nat_eq n m) (is_among n ns) h).1
later_by false n m ns h = h

module _ {V : Type 0} where
  -- ---- a page after a run that doesn't replace it

  -- the page under the same pid, unchanged except for newer runs
  pub record IsAsBefore (p q : Placed V) : Type 0 where
    pub pid : q.pid ≡ p.pid
    pub page : IsOver p.page q.page

  stands_by : (b : Bool) (p : Page V) (c : List ℕ × Option V) (cs : List (List ℕ × Option V)) → b ≡ false → IsOver p (record { low = p.low; layers = cond b (replaced p.layers (c ∷ cs)) (in_front p.layers (c ∷ cs)) })
  stands_by true p c cs h = absurd (cc)
  stands_by false p c cs h = record { low = refl; base = refl; runs = ((c ∷ cs) ∷ [], refl) }

  as_before-updated : (s : Settings) (p : Placed V) (run : List (List ℕ × Option V)) → (updated s p run).replaced ≡ false → IsAsBefore p (updated s p run).placed
  as_before-updated s p [] h = record { pid = refl; page = record { low = refl; base = refl; runs = ([], refl) } }
  as_before-updated s p (c ∷ cs) h = record { pid = refl; page = stands_by (must_replace s p.page.layers (c ∷ cs)) p.page c cs h }

  -- each page after its run is as before, unless it was replaced
  abbrev pub AreAsBefore : List (Placed V) → List (Updated V) → Type 0
  AreAsBefore [] [] = ⊤
  AreAsBefore (p ∷ ps) (w ∷ ws) = (w.replaced ≡ false → IsAsBefore p w.placed) × AreAsBefore ps ws
  AreAsBefore _ _ = ⊥

  pub as_before-updated_leaves : (s : Settings) (run : List (List ℕ × Option V)) (ps : List (Placed V)) → AreAsBefore ps (updated_leaves s run ps)
  as_before-updated_leaves s run [] = tt
  as_before-updated_leaves s run (p ∷ []) = (as_before-updated s p run, tt)
  as_before-updated_leaves s run (p ∷ q ∷ qs) = (as_before-updated s p (part_below q.page.low run), as_before-updated_leaves s (part_from q.page.low run) (q ∷ qs))

  pub as_before-updated_parents : (s : Settings) (ps : List (Placed V)) (runs : List (List (List ℕ × Option V))) → AreAsBefore ps (updated_parents s ps runs)
  as_before-updated_parents s [] runs = tt
  as_before-updated_parents s (p ∷ ps) [] = (as_before-updated s p [], as_before-updated_parents s ps [])
  as_before-updated_parents s (p ∷ ps) (run ∷ runs) = (as_before-updated s p run, as_before-updated_parents s ps runs)

  -- ---- pages of groups that aren't rewritten

  -- the page is in the list
  abbrev pub Has : List (Placed V) → Placed V → Type 0
  Has [] p = ⊥
  Has (q ∷ qs) p = (q ≡ p) ⊎ Has qs p

  has_left : (xs ys : List (Placed V)) (p : Placed V) → Has xs p → Has (xs ++ ys) p
  has_left [] ys p h = absurd h
  has_left (x ∷ xs) ys p (inl e) = inl e
  has_left (x ∷ xs) ys p (inr h) = inr (has_left xs ys p h)

  has_right : (xs ys : List (Placed V)) (p : Placed V) → Has ys p → Has (xs ++ ys) p
  has_right [] ys p h = h
  has_right (x ∷ xs) ys p h = inr (has_right xs ys p h)

  -- a page that isn't outdated wasn't replaced, and is one of these
  abbrev StaysIn : List ℕ → List (Placed V) → Updated V → Type 0
  StaysIn gone news w = is_among w.placed.pid gone ≡ false → (w.replaced ≡ false) × Has news w.placed

  where_by : (test : Updated V → Bool) (w : Updated V) (ws : List (Updated V)) (b : Bool) → test w ≡ b → map (λ w. w.placed.pid) (cond b (w ∷ filter test ws) (filter test ws)) ≡ cond b (w.placed.pid ∷ map (λ w. w.placed.pid) (filter test ws)) (map (λ w. w.placed.pid) (filter test ws))
  where_by test w ws true e = refl
  where_by test w ws false e = refl

  -- a test fails at each page whose pid isn't among those where it holds
  fails : (test : Updated V → Bool) (ws : List (Updated V)) → AllByRecursion (λ w. is_among w.placed.pid (map (λ v. v.placed.pid) (filter test ws)) ≡ false → test w ≡ false) ws
  fails test [] = tt
  fails test (w ∷ ws) =
      let rest : List ℕ = map (λ v. v.placed.pid) (filter test ws) in
      let e : map (λ v. v.placed.pid) (filter test (w ∷ ws)) ≡ cond (test w) (w.placed.pid ∷ rest) rest = where_by test w ws (test w) refl in (
        λ h. fails_by (test w) w.placed.pid rest (subst (λ (ns : List ℕ). is_among w.placed.pid ns ≡ false) e h),
        all_weaker (λ v. is_among v.placed.pid rest ≡ false → test v ≡ false) (λ v. is_among v.placed.pid (map (λ u. u.placed.pid) (filter test (w ∷ ws))) ≡ false → test v ≡ false)
            (λ v f h. f (later_by (test w) v.placed.pid w.placed.pid rest (subst (λ (ns : List ℕ). is_among v.placed.pid ns ≡ false) e h))) ws (fails test ws),
      )

  has_members : (ws : List (Updated V)) → AllByRecursion (λ w. Has (placed_of ws) w.placed) ws
  has_members [] = tt
  has_members (w ∷ ws) = (inl refl, all_weaker (λ v. Has (placed_of ws) v.placed) (λ v. Has (placed_of (w ∷ ws)) v.placed) (λ v h. inr h) ws (has_members ws))

  stays_by : (b : Bool) (s : Settings) (used : List ℕ) (i : ℕ) (w : Updated V) (ws : List (Updated V)) → is_rewritten (w ∷ ws) ≡ b
      → AllByRecursion (StaysIn (map (λ v. v.placed.pid) (filter (λ v. v.replaced || b) (w ∷ ws))) (remade_by b s used i w ws)) (w ∷ ws)
  stays_by true s used i w ws e =
      let test : Updated V → Bool = λ v. v.replaced || true in
      all_weaker (λ v. is_among v.placed.pid (map (λ u. u.placed.pid) (filter test (w ∷ ws))) ≡ false → test v ≡ false) (StaysIn (map (λ u. u.placed.pid) (filter test (w ∷ ws))) (remade_by true s used i w ws))
      (λ v f h. absurd (right v.replaced (f h))) (w ∷ ws) (fails test (w ∷ ws))
    where
      right : (a : Bool) → (a || true) ≡ false → ⊥
      right true h = absurd (cc)
      right false h = absurd (cc)
  stays_by false s used i w ws e =
      let test : Updated V → Bool = λ v. v.replaced || false in
      let P : Updated V → Type 0 = λ v. is_among v.placed.pid (map (λ u. u.placed.pid) (filter test (w ∷ ws))) ≡ false → test v ≡ false in
      let Q : Updated V → Type 0 = λ v. Has (placed_of (w ∷ ws)) v.placed in
      all_weaker (λ v. P v × Q v) (StaysIn (map (λ u. u.placed.pid) (filter test (w ∷ ws))) (placed_of (w ∷ ws)))
      (λ v f h. ((or_parts v.replaced false (f.0 h)).0, f.1)) (w ∷ ws) ((all_both P Q (w ∷ ws)).1 (fails test (w ∷ ws), has_members (w ∷ ws)))

  stays-remade : (s : Settings) (used : List ℕ) (i : ℕ) (g : List (Updated V)) → AllByRecursion (StaysIn (outdated (record { members = g; pages = remade s used i g })) (remade s used i g)) g
  stays-remade s used i [] = tt
  stays-remade s used i (w ∷ ws) = stays_by (is_rewritten (w ∷ ws)) s used i w ws refl

  -- what stays in a part stays in the whole
  stays_left : (gone more : List ℕ) (news others : List (Placed V)) (ws : List (Updated V)) → AllByRecursion (StaysIn gone news) ws → AllByRecursion (StaysIn (gone ++ more) (news ++ others)) ws
  stays_left gone more news others ws a =
      all_weaker (StaysIn gone news) (StaysIn (gone ++ more) (news ++ others))
      (λ w f h. let r = f (among_apart w.placed.pid gone more h).0 in (r.0, has_left news others w.placed r.1)) ws a

  stays_right : (gone more : List ℕ) (news others : List (Placed V)) (ws : List (Updated V)) → AllByRecursion (StaysIn more others) ws → AllByRecursion (StaysIn (gone ++ more) (news ++ others)) ws
  stays_right gone more news others ws a =
      all_weaker (StaysIn more others) (StaysIn (gone ++ more) (news ++ others))
      (λ w f h. let r = f (among_apart w.placed.pid gone more h).1 in (r.0, has_right news others w.placed r.1)) ws a

  stays-changes : (s : Settings) (used : List ℕ) (i : ℕ) (gs : List (List (Updated V))) → AllByRecursion (StaysIn (flat_map outdated (changes s used i gs)) (new_of (changes s used i gs))) (flat gs)
  stays-changes s used i [] = tt
  stays-changes s used i (g ∷ gs) =
      let here : List (Placed V) = remade s used i g in
      let own : List ℕ = outdated (record { members = g; pages = here }) in
      let cs : List (Change V) = changes s used (i + length (drop 1 here)) gs in
      all-append (StaysIn (own ++ flat_map outdated cs) (here ++ new_of cs)) g (flat gs)
      (stays_left own (flat_map outdated cs) here (new_of cs) g (stays-remade s used i g))
      (stays_right own (flat_map outdated cs) here (new_of cs) (flat gs) (stays-changes s used (i + length (drop 1 here)) gs))

  stays-family_changes : (s : Settings) (used : List ℕ) (i : ℕ) (fs : List (List (Updated V))) → AllByRecursion (StaysIn (all_outdated (family_changes s used i fs)) (all_new (family_changes s used i fs))) (flat fs)
  stays-family_changes s used i [] = tt
  stays-family_changes s used i (f ∷ fs) =
      let cs : List (Change V) = changes s used i (groups is_thin f) in
      let later : List (List (Change V)) = family_changes s used (i + length (fresh_of cs)) fs in
      let own : AllByRecursion (StaysIn (flat_map outdated cs) (new_of cs)) f =
      subst (λ (ws : List (Updated V)). AllByRecursion (StaysIn (flat_map outdated cs) (new_of cs)) ws) (groups-joined is_thin f) (stays-changes s used i (groups is_thin f)) in
      all-append (StaysIn (flat_map outdated cs ++ all_outdated later) (new_of cs ++ all_new later)) f (flat fs)
      (stays_left (flat_map outdated cs) (all_outdated later) (new_of cs) (all_new later) f own)
      (stays_right (flat_map outdated cs) (all_outdated later) (new_of cs) (all_new later) (flat fs) (stays-family_changes s used (i + length (fresh_of cs)) fs))

  -- ---- levels

  -- a page as it was before is one of these
  abbrev pub HasAsBefore : List (Placed V) → Placed V → Type 0
  HasAsBefore [] p = ⊥
  HasAsBefore (q ∷ qs) p = IsAsBefore p q ⊎ HasAsBefore qs p

  abbrev pub StandsIn : List ℕ → List (Placed V) → Placed V → Type 0
  StandsIn gone news p = is_among p.pid gone ≡ false → HasAsBefore news p

  found_as_before : (news : List (Placed V)) (p q : Placed V) → IsAsBefore p q → Has news q → HasAsBefore news p
  found_as_before [] p q a h = absurd h
  found_as_before (x ∷ xs) p q a (inl e) = inl (subst (λ (y : Placed V). IsAsBefore p y) (sym e) a)
  found_as_before (x ∷ xs) p q a (inr h) = inr (found_as_before xs p q a h)

  same_pid_as : (ps : List (Placed V)) (ws : List (Updated V)) → names (placed_of ws) ≡ names ps → AreAsBefore ps ws → (gone : List ℕ) (news : List (Placed V)) → AllByRecursion (StaysIn gone news) ws → AllByRecursion (StandsIn gone news) ps
  same_pid_as [] [] e a gone news h = tt
  same_pid_as [] (w ∷ ws) e a gone news h = tt
  same_pid_as (p ∷ ps) [] e a gone news h = absurd a
  same_pid_as (p ∷ ps) (w ∷ ws) e a gone news h =
      let name_same : name w.placed ≡ name p = cc in
      let same : w.placed.pid ≡ p.pid = ap (λ (n : List ℕ × ℕ). n.1) name_same in
      let rest : names (placed_of ws) ≡ names ps = cc in (
        λ n. let r = h.0 (subst (λ (m : ℕ). is_among m gone ≡ false) (sym same) n) in found_as_before news p w.placed (a.0 r.0) r.1,
        same_pid_as ps ws rest a.1 gone news h.1,
      )

-- each page of the old levels is in the new ones, unchanged except for newer runs, unless its pid is outdated
abbrev pub AllStandIn : List ℕ → List (List (Placed ℕ)) → List (List (Placed ℕ)) → Type 0
AllStandIn gone [] news = ⊤
AllStandIn gone (l ∷ ls) [] = ⊥
AllStandIn gone (l ∷ ls) (new ∷ news) = AllByRecursion (StandsIn gone new) l × AllStandIn gone ls news

stand_more : (gone more : List ℕ) (ls news : List (List (Placed ℕ))) → AllStandIn more ls news → AllStandIn (gone ++ more) ls news
stand_more gone more [] news h = tt
stand_more gone more (l ∷ ls) [] h = h
stand_more gone more (l ∷ ls) (new ∷ news) h =
    (all_weaker (StandsIn more new) (StandsIn (gone ++ more) new) (λ p f n. f (among_apart p.pid gone more n).1) l h.0, stand_more gone more ls news h.1)

-- the pages of a climb's levels are unchanged except for newer runs, unless their pids are outdated
pub stand-climb : {V : Type 0} (s : Settings) (used : List ℕ) (i : ℕ) (ws : List (Updated V)) (olds : List (Placed V)) (ups : List (List (Placed ℕ))) → names (placed_of ws) ≡ names olds → Stacked olds ups → AreAsBefore olds ws
    → AllByRecursion (StandsIn (climb s used i ws ups).outdated (climb s used i ws ups).tower.level) olds × AllStandIn (climb s used i ws ups).outdated ups (climb s used i ws ups).tower.above
stand-climb {V} s used i ws olds [] e o a =
    let cs : List (Change V) = changes s used i (ws ∷ []) in
    let whole : AllByRecursion (StaysIn (flat_map outdated cs) (new_of cs)) ws = subst (λ (vs : List (Updated V)). AllByRecursion (StaysIn (flat_map outdated cs) (new_of cs)) vs) (append-nil ws) (stays-changes s used i (ws ∷ [])) in
    let only : AllByRecursion (StaysIn (all_outdated (cs ∷ [])) (all_new (cs ∷ []))) ws = stays_left (flat_map outdated cs) [] (new_of cs) [] ws whole in
    (same_pid_as olds ws e a (all_outdated (cs ∷ [])) (all_new (cs ∷ [])) only, tt)
stand-climb {V} s used i ws olds (ps ∷ ups) e o a =
    let linked : joined ps ≡ names (placed_of ws) = o.0.linked ∙ sym e in
    let css : List (List (Change V)) = family_changes s used i (families ps ws) in
    let vs : List (Updated ℕ) = updated_parents s ps (map terms css) in
    let up : Climbed ℕ = climb s used (i + length (all_fresh css)) vs ups in
    let own : AllByRecursion (StaysIn (all_outdated css) (all_new css)) ws = subst (λ (xs : List (Updated V)). AllByRecursion (StaysIn (all_outdated css) (all_new css)) xs) (families-joined ps ws linked) (stays-family_changes s used i (families ps ws)) in
    let all : AllByRecursion (StaysIn (all_outdated css ++ up.outdated) (all_new css)) ws =
    all_weaker (StaysIn (all_outdated css) (all_new css)) (StaysIn (all_outdated css ++ up.outdated) (all_new css)) (λ w f h. f (among_apart w.placed.pid (all_outdated css) up.outdated h).0) ws own in
    let upper = stand-climb s used (i + length (all_fresh css)) vs ps ups (names-updated_parents s ps (map terms css)) o.1 (as_before-updated_parents s ps (map terms css)) in (
      same_pid_as olds ws e a (all_outdated css ++ up.outdated) (all_new css) all,
      (
        all_weaker (StandsIn up.outdated up.tower.level) (StandsIn (all_outdated css ++ up.outdated) up.tower.level) (λ p f n. f (among_apart p.pid (all_outdated css) up.outdated n).1) ps upper.0,
        stand_more (all_outdated css) up.outdated ups up.tower.above upper.1,
      ),
    )
