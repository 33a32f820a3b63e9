-- The levels that remain after the root has shrunk.
use Rattle.std.specs.Prelude.{◌≡◌, ◌≢◌, ℕ, zero, suc, ◌≤◌, Bool, true, false, cond, List, [], ◌∷◌, ◌++◌, flat_map, drop, length}
use Rattle.std.proofs.Common.{refl, sym, ap, ◌∙◌, subst, arith, append-nil, append_assoc}
use Rattle.std.specs.List.{AllByRecursion}
use Rattle.std.proofs.lemmas.Bool.{eqb-true, eqb-false}
use Rattle.std.proofs.lemmas.List.{length-map}
use Rattle.std.proofs.lemmas.Grind.{flat_map-append}
use Rattle.index_page.specs.Rules.{IsHeaded}
use Rattle.index_page.proofs.ListLemmas.{all_apart}
use Rattle.mapping.specs.Levels.{Placed, entries, joined, name, names, pids, all_pids}
use Rattle.mapping.specs.Proper.{Stacked, IsBranchedTop, Distinct}
use Rattle.mapping.proofs.TileLemmas.{Separators}
use Rattle.split_plan.proofs.ChangeLemmas.{AllHeaded}
use Rattle.climb_plan.specs.Climb.{is_lone, kept_under, kept_levels}

-- ---- a level that isn't kept has one page below it

pub lone_is_over_one : {V : Type 0} (l : List (Placed ℕ)) (level : List (Placed V)) → is_lone l ≡ true → joined l ≡ names level → length level ≡ 1
lone_is_over_one [] level e h = absurd (cc)
lone_is_over_one (p ∷ []) level e h =
    let one : length (entries p) ≡ 1 = eqb-true (length (entries p)) 1 e in
    let all : length (entries p ++ []) ≡ length (names level) = ap (λ (ns : Separators). length ns) h in
    let same : length (entries p ++ []) ≡ length (entries p) = ap (λ (ns : Separators). length ns) (append-nil (entries p)) in
    sym (length-map level name) ∙ sym all ∙ same ∙ one
lone_is_over_one (p ∷ q ∷ ps) level e h = absurd (cc)

stacked_by : {V : Type 0} (b : Bool) (l : List (Placed ℕ)) (level : List (Placed V)) → is_lone l ≡ b → joined l ≡ names level → Stacked level (l ∷ []) → Stacked level (cond b [] (l ∷ []))
stacked_by true l level e h o = lone_is_over_one l level e h
stacked_by false l level e h o = o

stacked-kept_under : {V : Type 0} (l : List (Placed ℕ)) (ls : List (List (Placed ℕ))) (level : List (Placed V)) → Stacked level (l ∷ ls) → Stacked level (kept_under l ls)
stacked-kept_under l [] level o = stacked_by (is_lone l) l level refl o.0.linked o
stacked-kept_under l (up ∷ ups) level o = o

-- the levels that are kept are each the parents of the one below
pub stacked-kept_levels : {V : Type 0} (ls : List (List (Placed ℕ))) (level : List (Placed V)) → Stacked level ls → Stacked level (kept_levels ls)
stacked-kept_levels [] level o = o
stacked-kept_levels (l ∷ ls) level o = stacked-kept_under l (kept_levels ls) level (o.0, stacked-kept_levels ls l o.1)

-- ---- the highest one that is kept has two children

two_by : (l : List (Placed ℕ)) → length l ≡ 1 → is_lone l ≡ false → AllHeaded l → AllByRecursion (λ p. IsHeaded 2 p.page) l
two_by [] n e h = tt
two_by (p ∷ []) n e h =
    let not_one : length (entries p) ≢ 1 = eqb-false (length (entries p)) 1 e in
    (record { some = two (length (entries p)) h.0.some not_one; first = h.0.first }, tt)
  where
    two : (n : ℕ) → 1 ≤ n → n ≢ 1 → 2 ≤ n
    two zero l d = absurd (omega arith)
    two (suc zero) l d = absurd (d refl)
    two (suc (suc n)) l d = omega arith
two_by (p ∷ q ∷ ps) n e h = absurd (omega arith)

branched_by : (b : Bool) (l : List (Placed ℕ)) → is_lone l ≡ b → length l ≡ 1 → AllHeaded l → IsBranchedTop (cond b [] (l ∷ []))
branched_by true l e n h = tt
branched_by false l e n h = two_by l n e h

branched-kept_under : (l : List (Placed ℕ)) (ls : List (List (Placed ℕ))) → AllHeaded l → Stacked l ls → IsBranchedTop ls → IsBranchedTop (kept_under l ls)
branched-kept_under l [] h o t = branched_by (is_lone l) l refl o h
branched-kept_under l (up ∷ ups) h o t = t

pub branched-kept_levels : {V : Type 0} (ls : List (List (Placed ℕ))) (level : List (Placed V)) → Stacked level ls → IsBranchedTop (kept_levels ls)
branched-kept_levels [] level o = tt
branched-kept_levels (l ∷ ls) level o = branched-kept_under l (kept_levels ls) o.0.headed (stacked-kept_levels ls l o.1) (branched-kept_levels ls l o.1)

-- ---- they are the first of the levels

rest_by : (b : Bool) (l : List (Placed ℕ)) (rest : List (List (Placed ℕ))) → (r : List (List (Placed ℕ))) × (cond b [] (l ∷ []) ++ r ≡ l ∷ rest)
rest_by true l rest = (l ∷ rest, refl)
rest_by false l rest = (rest, refl)

rest_under : (l : List (Placed ℕ)) (ls rest all : List (List (Placed ℕ))) → ls ++ rest ≡ all → (r : List (List (Placed ℕ))) × (kept_under l ls ++ r ≡ l ∷ all)
rest_under l [] rest all e =
    let k = rest_by (is_lone l) l rest in
    (k.0, k.1 ∙ ap (λ (x : List (List (Placed ℕ))). l ∷ x) e)
rest_under l (up ∷ ups) rest all e = (rest, ap (λ (x : List (List (Placed ℕ))). l ∷ x) e)

pub kept_is_first : (ls : List (List (Placed ℕ))) → (rest : List (List (Placed ℕ))) × (kept_levels ls ++ rest ≡ ls)
kept_is_first [] = ([], refl)
kept_is_first (l ∷ ls) = let r = kept_is_first ls in rest_under l (kept_levels ls) r.0 ls r.1

pub drop_first : (xs ys all : List (List (Placed ℕ))) → xs ++ ys ≡ all → drop (length xs) all ≡ ys
drop_first xs ys all e = ap (λ (z : List (List (Placed ℕ))). drop (length xs) z) (sym e) ∙ drop_length xs ys
  where
    drop_length : (xs ys : List (List (Placed ℕ))) → drop (length xs) (xs ++ ys) ≡ ys
    drop_length [] ys = refl
    drop_length (x ∷ xs) ys = drop_length xs ys

-- those that aren't kept
abbrev pub left : List (List (Placed ℕ)) → List (List (Placed ℕ))
left ls = drop (length (kept_levels ls)) ls

pub left_is_rest : (ls : List (List (Placed ℕ))) → left ls ≡ (kept_is_first ls).0
left_is_rest ls = drop_first (kept_levels ls) (kept_is_first ls).0 ls (kept_is_first ls).1

pub kept_and_left : (ls : List (List (Placed ℕ))) → kept_levels ls ++ left ls ≡ ls
kept_and_left ls = ap (λ (rest : List (List (Placed ℕ))). kept_levels ls ++ rest) (left_is_rest ls) ∙ (kept_is_first ls).1

pub all-kept_levels : (P : List (Placed ℕ) → Type 0) (ls : List (List (Placed ℕ))) → AllByRecursion P ls → AllByRecursion P (kept_levels ls)
all-kept_levels P ls a =
    let r = kept_is_first ls in
    (all_apart P (kept_levels ls) r.0 (subst (λ (x : List (List (Placed ℕ))). AllByRecursion P x) (sym r.1) a)).0

distinct_left : (ms ns : List ℕ) → Distinct (ms ++ ns) → Distinct ms
distinct_left [] ns d = tt
distinct_left (m ∷ ms) ns d = ((all_apart (λ k. k ≢ m) ms ns d.0).0, distinct_left ms ns d.1)

-- so their pids are distinct where those of all levels are
pub distinct-kept_levels : {V : Type 0} (level : List (Placed V)) (ls : List (List (Placed ℕ))) → Distinct (all_pids level ls) → Distinct (all_pids level (kept_levels ls))
distinct-kept_levels level ls d =
    let r = kept_is_first ls in
    let e : all_pids level ls ≡ all_pids level (kept_levels ls) ++ flat_map pids r.0 =
    ap (λ (x : List (List (Placed ℕ))). pids level ++ flat_map pids x) (sym r.1)
    ∙ ap (λ (ns : List ℕ). pids level ++ ns) (flat_map-append pids (kept_levels ls) r.0)
    ∙ sym (append_assoc (pids level) (flat_map pids (kept_levels ls)) (flat_map pids r.0)) in
    distinct_left (all_pids level (kept_levels ls)) (flat_map pids r.0) (subst (λ (ns : List ℕ). Distinct ns) e d)

-- ---- each that isn't kept is lone, and the highest that is kept isn't

abbrev AllLone : List (List (Placed ℕ)) → Type 0
AllLone ls = AllByRecursion (λ l. is_lone l ≡ true) ls

lone_by : (b : Bool) (l : List (Placed ℕ)) (ls : List (List (Placed ℕ))) → is_lone l ≡ b → AllLone ls → AllLone (drop (length (cond b [] (l ∷ []))) (l ∷ ls))
lone_by true l ls e h = (e, h)
lone_by false l ls e h = h

lone_under : (l : List (Placed ℕ)) (ls ks : List (List (Placed ℕ))) → AllLone (drop (length ks) ls) → AllLone (drop (length (kept_under l ks)) (l ∷ ls))
lone_under l ls [] h = lone_by (is_lone l) l ls refl h
lone_under l ls (up ∷ ups) h = h

pub lone-left : (ls : List (List (Placed ℕ))) → AllLone (left ls)
lone-left [] = tt
lone-left (l ∷ ls) = lone_under l ls (kept_levels ls) (lone-left ls)

not_empty : (lower : List (List (Placed ℕ))) (top : List (Placed ℕ)) → [] ≡ lower ++ top ∷ [] → ⊥
not_empty [] top e = absurd (cc)
not_empty (x ∷ xs) top e = absurd (cc)

top_by : (b : Bool) (l top : List (Placed ℕ)) (lower : List (List (Placed ℕ))) → is_lone l ≡ b → cond b [] (l ∷ []) ≡ lower ++ top ∷ [] → is_lone top ≡ false
top_by true l top lower e h = absurd (not_empty lower top h)
top_by false l top [] e h = let same : l ≡ top = cc in ap (λ (x : List (Placed ℕ)). is_lone x) (sym same) ∙ e
top_by false l top (x ∷ xs) e h = let rest : [] ≡ xs ++ top ∷ [] = cc in absurd (not_empty xs top rest)

top_under : (l top : List (Placed ℕ)) (ks lower : List (List (Placed ℕ))) → kept_under l ks ≡ lower ++ top ∷ [] → ((less : List (List (Placed ℕ))) → ks ≡ less ++ top ∷ [] → is_lone top ≡ false) → is_lone top ≡ false
top_under l top [] lower h ih = top_by (is_lone l) l top lower refl h
top_under l top (up ∷ ups) [] h ih = absurd (cc)
top_under l top (up ∷ ups) (x ∷ xs) h ih = let rest : up ∷ ups ≡ xs ++ top ∷ [] = cc in ih xs rest

pub top_is_not_lone : (ls lower : List (List (Placed ℕ))) (top : List (Placed ℕ)) → kept_levels ls ≡ lower ++ top ∷ [] → is_lone top ≡ false
top_is_not_lone [] lower top h = absurd (not_empty lower top h)
top_is_not_lone (l ∷ ls) lower top h = top_under l top (kept_levels ls) lower h (λ less e. top_is_not_lone ls less top e)
