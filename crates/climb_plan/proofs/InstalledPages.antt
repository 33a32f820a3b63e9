-- Lemmas on a table in which the new pages of the rewritten groups were installed: it contains the whole new level.
use Rattle.std.specs.Prelude.{◌≡◌, ◌≢◌, ℕ, ◌+◌, Bool, true, false, cond, not, ◌||◌, nat_eq, List, [], ◌∷◌, ◌++◌, drop, length, Some, None}
use Rattle.std.proofs.Common.{refl, sym, ap, ◌∙◌, subst, arith, inl, inr}
use Rattle.std.specs.List.{filter, AllByRecursion}
use Rattle.std.specs.Map.{values_of}
use Rattle.std.proofs.lemmas.Bool.{or_parts, or_from, eqb-true, eq-eqb, false_from_ne_true}
use Rattle.keys.specs.Lists.{flat}
use Rattle.keys.specs.declared.settings.Settings.{Settings}
use Rattle.index_page.specs.Page.{Page, PageOfKind}
use Rattle.index_page.proofs.ListLemmas.{all-append, all_apart}
use Rattle.mapping.specs.Levels.{Placed, pids}
use Rattle.mapping.specs.FreshPids.{is_among}
use Rattle.mapping.specs.Table.{Mapping, place_of}
use Rattle.mapping.specs.Proper.{Distinct}
use Rattle.mapping.proofs.LevelLemmas.{pids-append, values_of-names}
use Rattle.mapping.proofs.PidLemmas.{among_either, among_either_by, among_left, among_right, among_apart, later_among}
use Rattle.page_runs.specs.Updated.{Updated}
use Rattle.split_plan.specs.UpdatedLevel.{placed_of}
use Rattle.split_plan.specs.Change.{Change, is_rewritten, remade, changes, new_of, fresh_of}
use Rattle.split_plan.specs.Terms.{freed_of}
use Rattle.split_plan.proofs.ChangeLemmas.{placed_of-append, remade_begins}
use Rattle.climb_plan.specs.Changing.{AreHome}
use Rattle.climb_plan.proofs.ChangingGroups.{idle_group, AreAlike, alike_rewritten}
use Rattle.climb_plan.proofs.ChangingOutdated.{updated_pids-placed, updated_pids-append, among-joined}
use Rattle.climb_plan.proofs.Installed.{updated_pids, IsInstalled}

-- ---- numbers among others

pub not_among_from : (n : ℕ) (ms ns : List ℕ) → is_among n ms ≡ false → is_among n ns ≡ false → is_among n (ms ++ ns) ≡ false
not_among_from n ms ns a b = among-joined n ms ns ∙ or_from (is_among n ms) (is_among n ns) a b

differs : (m n : ℕ) → m ≢ n → nat_eq n m ≡ false
differs m n d = false_from_ne_true (nat_eq n m) (λ e. d (sym (eqb-true n m e)))

not_among_others : (n : ℕ) (ms : List ℕ) → AllByRecursion (λ m. m ≢ n) ms → is_among n ms ≡ false
not_among_others n [] d = refl
not_among_others n (m ∷ ms) d = or_from (nat_eq n m) (is_among n ms) (differs m n d.0) (not_among_others n ms d.1)

rest_of : (a b : Bool) → (a || b) ≡ true → a ≡ false → b ≡ true
rest_of true b h e = absurd (cc)
rest_of false b h e = h

-- no number is in both lists
abbrev pub AreApart : List ℕ → List ℕ → Type 0
AreApart ms ns = (n : ℕ) → is_among n ms ≡ true → is_among n ns ≡ false

pub turned : (ms ns : List ℕ) → AreApart ms ns → AreApart ns ms
turned ms ns h n e = false_from_ne_true (is_among n ms) (λ f. let g : is_among n ns ≡ false = h n f in absurd (cc))

joined_apart : (xs ms ns : List ℕ) → AreApart xs ns → AreApart ms ns → AreApart (xs ++ ms) ns
joined_apart xs ms ns a b n e = elim (among_either n xs ms e) [ inl x ↦ a n x | inr y ↦ b n y ]

apart_cons : (m : ℕ) (ms ns : List ℕ) → is_among m ns ≡ false → AreApart ms ns → AreApart (m ∷ ms) ns
apart_cons m ms ns d a n e =
    elim (among_either_by (nat_eq n m) (is_among n ms) e) [
      | inl x ↦ subst (λ (k : ℕ). is_among k ns ≡ false) (sym (eqb-true n m x)) d
      | inr y ↦ a n y
    ]

-- distinct numbers in two parts
pub distinct_apart : (ms ns : List ℕ) → Distinct (ms ++ ns) → AreApart ms ns × Distinct ns
distinct_apart [] ns d = (λ n e. absurd (cc), d)
distinct_apart (m ∷ ms) ns d =
    let rest = distinct_apart ms ns d.1 in
    let r = all_apart (λ (k : ℕ). k ≢ m) ms ns d.0 in
    (apart_cons m ms ns (not_among_others m ns r.1) rest.0, rest.1)

-- what holds of all of a list holds of each number among it
pub at_among : (P : ℕ → Type 0) (n : ℕ) (ns : List ℕ) → AllByRecursion P ns → is_among n ns ≡ true → P n
at_among P n [] a e = absurd (cc)
at_among P n (m ∷ ms) a e =
    elim (among_either_by (nat_eq n m) (is_among n ms) e) [
      | inl x ↦ subst P (sym (eqb-true n m x)) a.0
      | inr y ↦ at_among P n ms a.1 y
    ]

module _ {V : Type 0} where
  keyed_by_pid : (P : ℕ → Type 0) (ps : List (Placed V)) → AllByRecursion (λ p. P p.pid) ps → AllByRecursion P (pids ps)
  keyed_by_pid P [] a = tt
  keyed_by_pid P (p ∷ ps) a = (a.0, keyed_by_pid P ps a.1)

  -- ---- groups that are not rewritten

  -- the members of the groups that stay as they are
  abbrev pub staying : List (List (Updated V)) → List (Updated V)
  staying gs = flat (filter (λ g. not (is_rewritten g)) gs)

  made_by : (b : Bool) (P : Placed V → Type 0) (s : Settings) (used : List ℕ) (i : ℕ) (g : List (Updated V)) (gs : List (List (Updated V))) → is_rewritten g ≡ b
      → ((j : ℕ) → AllByRecursion P (new_of (changes s used j (filter is_rewritten gs))) → AllByRecursion P (placed_of (staying gs)) → AllByRecursion P (new_of (changes s used j gs)))
      → AllByRecursion P (new_of (changes s used i (cond b (g ∷ filter is_rewritten gs) (filter is_rewritten gs)))) → AllByRecursion P (placed_of (flat (cond (not b) (g ∷ filter (λ g. not (is_rewritten g)) gs) (filter (λ g. not (is_rewritten g)) gs))))
      → AllByRecursion P (new_of (changes s used i (g ∷ gs)))
  made_by true P s used i g gs e ih h k =
      let here : List (Placed V) = remade s used i g in
      let j : ℕ = i + length (drop 1 here) in
      let r = all_apart P here (new_of (changes s used j (filter is_rewritten gs))) h in
      all-append P here (new_of (changes s used j gs)) r.0 (ih j r.1 k)
  made_by false P s used i g gs e ih h k =
      let idle = idle_group s used i g e in
      let here : List (Placed V) = remade s used i g in
      let r = all_apart P (placed_of g) (placed_of (staying gs)) (subst (λ (ps : List (Placed V)). AllByRecursion P ps) (placed_of-append g (staying gs)) k) in
      let none : i + 0 ≡ i = omega arith in
      let count : i + length (drop 1 here) ≡ i = ap (λ (ps : List (Placed V)). i + length ps) idle.fresh ∙ none in
      let first : AllByRecursion P here = subst (λ (ps : List (Placed V)). AllByRecursion P ps) (sym idle.new) r.0 in
      let later : AllByRecursion P (new_of (changes s used (i + length (drop 1 here)) gs)) = subst (λ (j : ℕ). AllByRecursion P (new_of (changes s used j gs))) (sym count) (ih i h r.1) in
      all-append P here (new_of (changes s used (i + length (drop 1 here)) gs)) first later

  -- the pages of a level are those that are made of the groups that are rewritten, and the members of the others
  pub all_made : (P : Placed V → Type 0) (s : Settings) (used : List ℕ) (i : ℕ) (gs : List (List (Updated V))) → AllByRecursion P (new_of (changes s used i (filter is_rewritten gs))) → AllByRecursion P (placed_of (staying gs)) → AllByRecursion P (new_of (changes s used i gs))
  all_made P s used i [] h k = tt
  all_made P s used i (g ∷ gs) h k = made_by (is_rewritten g) P s used i g gs refl (λ j. all_made P s used j gs) h k

  -- ---- the pids of groups that are rewritten, and of the others

  -- what passes a test is among all
  among_passed : (test : List (Updated V) → Bool) (gs : List (List (Updated V))) (n : ℕ) → is_among n (updated_pids (flat (filter test gs))) ≡ true → is_among n (updated_pids (flat gs)) ≡ true
  among_passed test [] n e = e
  among_passed test (g ∷ gs) n e =
      let rest = among_passed test gs n in
      let goal : is_among n (updated_pids g ++ updated_pids (flat gs)) ≡ true = passed_by (test g) rest e in
      subst (λ (ns : List ℕ). is_among n ns ≡ true) (sym (updated_pids-append g (flat gs))) goal
    where
      passed_by : (b : Bool) → (is_among n (updated_pids (flat (filter test gs))) ≡ true → is_among n (updated_pids (flat gs)) ≡ true) → is_among n (updated_pids (flat (cond b (g ∷ filter test gs) (filter test gs)))) ≡ true → is_among n (updated_pids g ++ updated_pids (flat gs)) ≡ true
      passed_by true ih x =
          elim (among_either n (updated_pids g) (updated_pids (flat (filter test gs))) (subst (λ (ns : List ℕ). is_among n ns ≡ true) (updated_pids-append g (flat (filter test gs))) x)) [
            | inl y ↦ among_left n (updated_pids g) (updated_pids (flat gs)) y
            | inr z ↦ among_right n (updated_pids g) (updated_pids (flat gs)) (ih z)
          ]
      passed_by false ih x = among_right n (updated_pids g) (updated_pids (flat gs)) (ih x)

  within_apart : (test : List (Updated V) → Bool) (ms : List ℕ) (gs : List (List (Updated V))) → AreApart ms (updated_pids (flat gs)) → AreApart ms (updated_pids (flat (filter test gs)))
  within_apart test ms gs h n e = false_from_ne_true (is_among n (updated_pids (flat (filter test gs)))) (λ f. let a = among_passed test gs n f in let b : is_among n (updated_pids (flat gs)) ≡ false = h n e in absurd (cc))

  parts_by : (b : Bool) (g : List (Updated V)) (ks rs : List (List (Updated V))) → AreApart (updated_pids g) (updated_pids (flat ks)) → AreApart (updated_pids g) (updated_pids (flat rs)) → AreApart (updated_pids (flat ks)) (updated_pids (flat rs))
      → AreApart (updated_pids (flat (cond (not b) (g ∷ ks) ks))) (updated_pids (flat (cond b (g ∷ rs) rs)))
  parts_by true g ks rs a c h =
      let back = joined_apart (updated_pids g) (updated_pids (flat rs)) (updated_pids (flat ks)) a (turned (updated_pids (flat ks)) (updated_pids (flat rs)) h) in
      turned (updated_pids (flat (g ∷ rs))) (updated_pids (flat ks)) (subst (λ (ns : List ℕ). AreApart ns (updated_pids (flat ks))) (sym (updated_pids-append g (flat rs))) back)
  parts_by false g ks rs a c h =
      let front = joined_apart (updated_pids g) (updated_pids (flat ks)) (updated_pids (flat rs)) c h in
      subst (λ (ns : List ℕ). AreApart ns (updated_pids (flat rs))) (sym (updated_pids-append g (flat ks))) front

  -- if the pids are distinct, no member of a group that stays is in one that is rewritten
  staying_apart : (gs : List (List (Updated V))) → Distinct (updated_pids (flat gs)) → AreApart (updated_pids (staying gs)) (updated_pids (flat (filter is_rewritten gs)))
  staying_apart [] d = λ n e. refl
  staying_apart (g ∷ gs) d =
      let r = distinct_apart (updated_pids g) (updated_pids (flat gs)) (subst Distinct (updated_pids-append g (flat gs)) d) in
      let stay : List (Updated V) → Bool = λ h. not (is_rewritten h) in
      parts_by (is_rewritten g) g (filter stay gs) (filter is_rewritten gs) (within_apart stay (updated_pids g) gs r.0) (within_apart is_rewritten (updated_pids g) gs r.0) (staying_apart gs r.1)

  -- ---- the pids of the new pages

  remade_pids : (s : Settings) (used : List ℕ) (i : ℕ) (w : Updated V) (ws : List (Updated V)) → pids (remade s used i (w ∷ ws)) ≡ w.placed.pid ∷ pids (drop 1 (remade s used i (w ∷ ws)))
  remade_pids s used i w ws =
      let here : List (Placed V) = remade s used i (w ∷ ws) in
      sym (values_of-names here)
      ∙ ap (λ (ns : List (List ℕ × ℕ)). values_of ns) (remade_begins s used i w ws)
      ∙ ap (λ (ns : List ℕ). w.placed.pid ∷ ns) (values_of-names (drop 1 here))

  not_new_here : (s : Settings) (used : List ℕ) (i n : ℕ) (g : List (Updated V)) → is_among n (updated_pids g) ≡ false → is_among n (pids (drop 1 (remade s used i g))) ≡ false → is_among n (pids (remade s used i g)) ≡ false
  not_new_here s used i n [] h k = refl
  not_new_here s used i n (w ∷ ws) h k =
      let first = or_parts (nat_eq n w.placed.pid) (is_among n (updated_pids ws)) h in
      let rest : List ℕ = pids (drop 1 (remade s used i (w ∷ ws))) in
      ap (λ (ns : List ℕ). is_among n ns) (remade_pids s used i w ws) ∙ or_from (nat_eq n w.placed.pid) (is_among n rest) first.0 k

  not_freed_here : (n : ℕ) (g : List (Updated V)) → is_among n (updated_pids g) ≡ false → is_among n (pids (drop 1 (placed_of g))) ≡ false
  not_freed_here n [] h = refl
  not_freed_here n (w ∷ ws) h = ap (λ (ns : List ℕ). is_among n ns) (sym (updated_pids-placed ws)) ∙ (or_parts (nat_eq n w.placed.pid) (is_among n (updated_pids ws)) h).1

  gone_here : (s : Settings) (used : List ℕ) (i n : ℕ) (g : List (Updated V)) → is_among n (updated_pids g) ≡ true → is_among n (pids (remade s used i g)) ≡ false → is_among n (pids (drop 1 (placed_of g))) ≡ true
  gone_here s used i n [] h k = h
  gone_here s used i n (w ∷ ws) h k =
      let rest : List ℕ = pids (drop 1 (remade s used i (w ∷ ws))) in
      let first = or_parts (nat_eq n w.placed.pid) (is_among n rest) (ap (λ (ns : List ℕ). is_among n ns) (sym (remade_pids s used i w ws)) ∙ k) in
      ap (λ (ns : List ℕ). is_among n ns) (sym (updated_pids-placed ws)) ∙ rest_of (nat_eq n w.placed.pid) (is_among n (updated_pids ws)) h first.0

  -- a pid apart from the members' and from the fresh ones isn't a new page's
  not_new : (s : Settings) (used : List ℕ) (i n : ℕ) (gs : List (List (Updated V))) → is_among n (updated_pids (flat gs)) ≡ false → is_among n (pids (fresh_of (changes s used i gs))) ≡ false → is_among n (pids (new_of (changes s used i gs))) ≡ false
  not_new s used i n [] h k = refl
  not_new s used i n (g ∷ gs) h k =
      let here : List (Placed V) = remade s used i g in
      let later : List (Change V) = changes s used (i + length (drop 1 here)) gs in
      let r = among_apart n (updated_pids g) (updated_pids (flat gs)) (ap (λ (ns : List ℕ). is_among n ns) (sym (updated_pids-append g (flat gs))) ∙ h) in
      let q = among_apart n (pids (drop 1 here)) (pids (fresh_of later)) (ap (λ (ns : List ℕ). is_among n ns) (sym (pids-append (drop 1 here) (fresh_of later))) ∙ k) in
      ap (λ (ns : List ℕ). is_among n ns) (pids-append here (new_of later))
      ∙ not_among_from n (pids here) (pids (new_of later)) (not_new_here s used i n g r.0 q.0) (not_new s used (i + length (drop 1 here)) n gs r.1 q.1)

  -- nor a page's that is freed
  not_freed : (s : Settings) (used : List ℕ) (i n : ℕ) (gs : List (List (Updated V))) → is_among n (updated_pids (flat gs)) ≡ false → is_among n (pids (freed_of (changes s used i gs))) ≡ false
  not_freed s used i n [] h = refl
  not_freed s used i n (g ∷ gs) h =
      let j : ℕ = i + length (drop 1 (remade s used i g)) in
      let later : List (Placed V) = freed_of (changes s used j gs) in
      let r = among_apart n (updated_pids g) (updated_pids (flat gs)) (ap (λ (ns : List ℕ). is_among n ns) (sym (updated_pids-append g (flat gs))) ∙ h) in
      ap (λ (ns : List ℕ). is_among n ns) (pids-append (drop 1 (placed_of g)) later)
      ∙ not_among_from n (pids (drop 1 (placed_of g))) (pids later) (not_freed_here n g r.0) (not_freed s used j n gs r.1)

  -- a member whose pid no new page has is freed
  gone_is_freed : (s : Settings) (used : List ℕ) (i n : ℕ) (gs : List (List (Updated V))) → is_among n (updated_pids (flat gs)) ≡ true → is_among n (pids (new_of (changes s used i gs))) ≡ false → is_among n (pids (freed_of (changes s used i gs))) ≡ true
  gone_is_freed s used i n [] h k = h
  gone_is_freed s used i n (g ∷ gs) h k =
      let here : List (Placed V) = remade s used i g in
      let j : ℕ = i + length (drop 1 here) in
      let later : List (Change V) = changes s used j gs in
      let r = among_apart n (pids here) (pids (new_of later)) (ap (λ (ns : List ℕ). is_among n ns) (sym (pids-append here (new_of later))) ∙ k) in
      let freed_here : List ℕ = pids (drop 1 (placed_of g)) in
      let freed_later : List ℕ = pids (freed_of later) in
      let e : pids (freed_of (changes s used i (g ∷ gs))) ≡ freed_here ++ freed_later = pids-append (drop 1 (placed_of g)) (freed_of later) in
      ap (λ (ns : List ℕ). is_among n ns) e
      ∙ elim (among_either n (updated_pids g) (updated_pids (flat gs)) (ap (λ (ns : List ℕ). is_among n ns) (sym (updated_pids-append g (flat gs))) ∙ h)) [
        | inl a ↦ among_left n freed_here freed_later (gone_here s used i n g a r.0)
        | inr b ↦ among_right n freed_here freed_later (gone_is_freed s used j n gs b r.1)
      ]

  -- ---- the table

  -- a fact on the members of all groups is one on those of some
  all_passed : (P : Placed V → Type 0) (test : List (Updated V) → Bool) (gs : List (List (Updated V))) → AllByRecursion P (placed_of (flat gs)) → AllByRecursion P (placed_of (flat (filter test gs)))
  all_passed P test [] h = h
  all_passed P test (g ∷ gs) h =
      let r = all_apart P (placed_of g) (placed_of (flat gs)) (subst (λ (ps : List (Placed V)). AllByRecursion P ps) (placed_of-append g (flat gs)) h) in
      passed_by (test g) r.0 (all_passed P test gs r.1)
    where
      passed_by : (b : Bool) → AllByRecursion P (placed_of g) → AllByRecursion P (placed_of (flat (filter test gs))) → AllByRecursion P (placed_of (flat (cond b (g ∷ filter test gs) (filter test gs))))
      passed_by true a k = subst (λ (ps : List (Placed V)). AllByRecursion P ps) (sym (placed_of-append g (flat (filter test gs)))) (all-append P (placed_of g) (placed_of (flat (filter test gs))) a k)
      passed_by false a k = k

  -- pages whose places stayed are still in the table
  stay_home : (of : Page V → PageOfKind) (before after : Mapping PageOfKind) (ws : List (Updated V)) → ((n : ℕ) → is_among n (updated_pids ws) ≡ true → place_of after n ≡ place_of before n) → AreHome of before (placed_of ws) → AreHome of after (placed_of ws)
  stay_home of before after [] h a = tt
  stay_home of before after (w ∷ ws) h a =
      let first : is_among w.placed.pid (updated_pids (w ∷ ws)) ≡ true = ap (λ (b : Bool). b || is_among w.placed.pid (updated_pids ws)) (eq-eqb w.placed.pid w.placed.pid refl) in
      (h w.placed.pid first ∙ a.0, stay_home of before after ws (λ n e. h n (later_among n w.placed.pid (updated_pids ws) e)) a.1)

  -- the pids that fresh pages have aren't among those of the level
  abbrev pub AreFreshFor : List (Updated V) → List (Placed V) → Type 0
  AreFreshFor ws ps = AllByRecursion (λ n. is_among n (updated_pids ws) ≡ false) (pids ps)

  fresh_apart : (ws : List (Updated V)) (ps : List (Placed V)) → AreFreshFor ws ps → AreApart (updated_pids ws) (pids ps)
  fresh_apart ws ps h n e =
      false_from_ne_true (is_among n (pids ps)) (λ f. let a : is_among n (updated_pids ws) ≡ false = at_among (λ k. is_among k (updated_pids ws) ≡ false) n (pids ps) h f in absurd (cc))

  -- members of the groups that stay have the places that they had
  staying_place : (s : Settings) (used : List ℕ) (i : ℕ) (of : Page V → PageOfKind) (before after : Mapping PageOfKind) (gs : List (List (Updated V))) (n : ℕ)
      → Distinct (updated_pids (flat gs)) → AreFreshFor (flat gs) (fresh_of (changes s used i (filter is_rewritten gs))) → IsInstalled of before after (changes s used i (filter is_rewritten gs))
      → is_among n (updated_pids (staying gs)) ≡ true → place_of after n ≡ place_of before n
  staying_place s used i of before after gs n d f t e =
      let rs : List (List (Updated V)) = filter is_rewritten gs in
      let cs : List (Change V) = changes s used i rs in
      let all : is_among n (updated_pids (flat gs)) ≡ true = among_passed (λ g. not (is_rewritten g)) gs n e in
      let apart : is_among n (updated_pids (flat rs)) ≡ false = staying_apart gs d n e in
      let fresh : is_among n (pids (fresh_of cs)) ≡ false = fresh_apart (flat gs) (fresh_of cs) f n all in
      t.others n (not_among_from n (pids (new_of cs)) (pids (freed_of cs)) (not_new s used i n rs apart fresh) (not_freed s used i n rs apart))

  -- of any groups: after those that are rewritten are installed, the table has all pages that are made of all of them
  pub installed-groups : (s : Settings) (used : List ℕ) (i : ℕ) (of : Page V → PageOfKind) (before after : Mapping PageOfKind) (gs : List (List (Updated V)))
      → AreHome of before (placed_of (flat gs)) → Distinct (updated_pids (flat gs)) → AreFreshFor (flat gs) (fresh_of (changes s used i (filter is_rewritten gs))) → IsInstalled of before after (changes s used i (filter is_rewritten gs))
      → AreHome of after (new_of (changes s used i gs))
  installed-groups s used i of before after gs h d f t =
      all_made (λ p. place_of after p.pid ≡ Some (Some (of p.page))) s used i gs t.new (stay_home of before after (staying gs) (λ n. staying_place s used i of before after gs n d f t) (all_passed (λ p. place_of before p.pid ≡ Some (Some (of p.page))) (λ g. not (is_rewritten g)) gs h))

  -- a pid of theirs that no page has afterwards has no place
  pub freed-groups : (s : Settings) (used : List ℕ) (i : ℕ) (of : Page V → PageOfKind) (before after : Mapping PageOfKind) (gs : List (List (Updated V))) (n : ℕ)
      → IsInstalled of before after (changes s used i (filter is_rewritten gs)) → is_among n (updated_pids (flat gs)) ≡ true → is_among n (pids (new_of (changes s used i gs))) ≡ false → place_of after n ≡ None
  freed-groups s used i of before after gs n t h k =
      let rs : List (List (Updated V)) = filter is_rewritten gs in
      let a : AreAlike (changes s used i gs) (changes s used i rs) = alike_rewritten s used i gs in
      let gone : is_among n (pids (freed_of (changes s used i rs))) ≡ true = ap (λ (ps : List (Placed V)). is_among n (pids ps)) (sym a.freed) ∙ gone_is_freed s used i n gs h k in
      at_among (λ m. place_of after m ≡ None) n (pids (freed_of (changes s used i rs))) (keyed_by_pid (λ m. place_of after m ≡ None) (freed_of (changes s used i rs)) t.freed) gone

  -- a pid that is neither theirs nor a fresh page's has the place that it had
  pub other-groups : (s : Settings) (used : List ℕ) (i : ℕ) (of : Page V → PageOfKind) (before after : Mapping PageOfKind) (gs : List (List (Updated V))) (n : ℕ)
      → IsInstalled of before after (changes s used i (filter is_rewritten gs)) → is_among n (updated_pids (flat gs)) ≡ false → is_among n (pids (fresh_of (changes s used i (filter is_rewritten gs)))) ≡ false → place_of after n ≡ place_of before n
  other-groups s used i of before after gs n t h k =
      let rs : List (List (Updated V)) = filter is_rewritten gs in
      let apart : is_among n (updated_pids (flat rs)) ≡ false = false_from_ne_true (is_among n (updated_pids (flat rs))) (λ e. let x : is_among n (updated_pids (flat gs)) ≡ true = among_passed is_rewritten gs n e in absurd (cc)) in
      t.others n (not_among_from n (pids (new_of (changes s used i rs))) (pids (freed_of (changes s used i rs))) (not_new s used i n rs apart k) (not_freed s used i n rs apart))
