-- If a climb leaves more levels than there were, the root doesn't shrink; and no climb is higher after the root has shrunk.
use Rattle.std.specs.Prelude.{◌≡◌, ℕ, zero, suc, ◌+◌, ◌<◌, ◌≤◌, Bool, true, false, cond, nat_eq, nat_lt, List, [], ◌∷◌, ◌++◌, map, length}
use Rattle.std.proofs.Common.{refl, ap, ◌∙◌, arith, append-nil, length-append, ltb-true}
use Rattle.std.proofs.lemmas.List.{length-map}
use Rattle.keys.specs.declared.settings.Settings.{Settings}
use Rattle.mapping.specs.Levels.{Placed, entries, joined, name, names}
use Rattle.mapping.proofs.TileLemmas.{Separators}
use Rattle.page_runs.specs.Updated.{Updated}
use Rattle.split_plan.specs.Change.{Change, fresh_pages, changes, family_changes, all_new, all_fresh}
use Rattle.split_plan.specs.Cut.{cut}
use Rattle.split_plan.specs.Terms.{terms}
use Rattle.split_plan.specs.UpdatedLevel.{updated_parents}
use Rattle.split_plan.proofs.ChangeLemmas.{joined-fresh_pages}
use Rattle.split_plan.proofs.CutLemmas.{cut-joined}
use Rattle.climb_plan.specs.Climb.{Climbed, families, grown_levels, climb, is_lone, kept_under, kept_levels}
use Rattle.climb_plan.proofs.Kept.{kept_is_first}
use Rattle.climb_plan.proofs.Untouched.{not_lone_by}

-- ---- levels that grow

-- a level with two entries or more isn't lone
not_lone : (l : List (Placed ℕ)) → 1 < length (joined l) → is_lone l ≡ false
not_lone [] h = refl
not_lone (p ∷ []) h =
    let e : length (joined (p ∷ [])) ≡ length (entries p) = ap (λ (ns : Separators). length ns) (append-nil (entries p)) in
    not_lone_by (nat_eq (length (entries p)) 1) (length (entries p)) refl (omega arith)
not_lone (p ∷ q ∷ ps) h = refl

kept_over : (l : List (Placed ℕ)) (ls : List (List (Placed ℕ))) → is_lone l ≡ false → kept_under l ls ≡ l ∷ ls
kept_over l [] e = rw e refl
kept_over l (up ∷ ups) e = refl

-- each level that grows is cut from the separators of two pages or more, so it is kept
grown_by : {V : Type 0} (b : Bool) (enough : ℕ) (s : Settings) (used : List ℕ) (i : ℕ) (ps : List (Placed V)) → nat_lt 1 (length ps) ≡ b
    → ((j : ℕ) (up : List (Placed ℕ)) → kept_levels (grown_levels enough s used j up) ≡ grown_levels enough s used j up)
    → kept_levels (cond b (let up : List (Placed ℕ) = fresh_pages used i (cut s.fan (names ps)) in up ∷ grown_levels enough s used (i + length up) up) [])
    ≡ cond b (let up : List (Placed ℕ) = fresh_pages used i (cut s.fan (names ps)) in up ∷ grown_levels enough s used (i + length up) up) []
grown_by false enough s used i ps e ih = refl
grown_by true enough s used i ps e ih =
    let ns : Separators = names ps in
    let up : List (Placed ℕ) = fresh_pages used i (cut s.fan ns) in
    let several : 1 < length ps = ltb-true 1 (length ps) e in
    let all : joined up ≡ ns = joined-fresh_pages used i (cut s.fan ns) ∙ cut-joined s.fan ns in
    let count : length (joined up) ≡ length ps = ap (λ (xs : Separators). length xs) all ∙ length-map ps name in
    ap (λ (ls : List (List (Placed ℕ))). kept_under up ls) (ih (i + length up) up)
    ∙ kept_over up (grown_levels enough s used (i + length up) up) (not_lone up (omega arith))

all_grown : {V : Type 0} (enough : ℕ) (s : Settings) (used : List ℕ) (i : ℕ) (ps : List (Placed V)) → kept_levels (grown_levels enough s used i ps) ≡ grown_levels enough s used i ps
all_grown zero s used i ps = refl
all_grown (suc enough) s used i ps = grown_by (nat_lt 1 (length ps)) enough s used i ps refl (λ j up. all_grown enough s used j up)

-- ---- levels that were there

kept_below : (l : List (Placed ℕ)) (ls : List (List (Placed ℕ))) → 0 < length ls → kept_levels ls ≡ ls → kept_levels (l ∷ ls) ≡ l ∷ ls
kept_below l [] h e = absurd (omega arith)
kept_below l (up ∷ ups) h e = ap (λ (ls : List (List (Placed ℕ))). kept_under l ls) e

-- a climb that leaves more levels than there were keeps all of them
pub grown_is_kept : {V : Type 0} (s : Settings) (used : List ℕ) (i : ℕ) (ws : List (Updated V)) (ups : List (List (Placed ℕ))) → length ups < length (climb s used i ws ups).tower.above → kept_levels (climb s used i ws ups).tower.above ≡ (climb s used i ws ups).tower.above
grown_is_kept {V} s used i ws [] h =
    let css : List (List (Change V)) = changes s used i (ws ∷ []) ∷ [] in
    all_grown (length (all_new css)) s used (i + length (all_fresh css)) (all_new css)
grown_is_kept {V} s used i ws (ps ∷ ups) h =
    let css : List (List (Change V)) = family_changes s used i (families ps ws) in
    let up : Climbed ℕ = climb s used (i + length (all_fresh css)) (updated_parents s ps (map terms css)) ups in
    kept_below up.tower.level up.tower.above (omega arith) (grown_is_kept s used (i + length (all_fresh css)) (updated_parents s ps (map terms css)) ups (omega arith))

-- ---- heights

-- no more levels are kept than there are
pub kept_are_no_more : (ls : List (List (Placed ℕ))) → length (kept_levels ls) ≤ length ls
kept_are_no_more ls =
    let r = kept_is_first ls in
    let e : length (kept_levels ls ++ r.0) ≡ length ls = ap (λ (x : List (List (Placed ℕ))). length x) r.1 in
    let n : length (kept_levels ls ++ r.0) ≡ length (kept_levels ls) + length r.0 = length-append (kept_levels ls) r.0 in
    omega arith
