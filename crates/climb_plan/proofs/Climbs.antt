-- A climb results in levels in order, each consisting of the parents of the one below.
use Rattle.std.specs.Prelude.{◌≡◌, ℕ, zero, suc, ◌+◌, ◌<◌, ◌≤◌, Bool, true, false, cond, nat_lt, List, [], ◌∷◌, map, length, Some, None}
use Rattle.std.proofs.Common.{refl, sym, ap, ◌∙◌, subst, arith, append-nil, ltb-false, ltb-true}
use Rattle.std.proofs.lemmas.List.{length-map}
use Rattle.keys.specs.Order.{IsRising}
use Rattle.keys.specs.declared.settings.Settings.{Settings}
use Rattle.keys.specs.Lists.{flat}
use Rattle.mapping.specs.Levels.{Placed, joined, name, names}
use Rattle.mapping.specs.Proper.{next_low, Tiled, Stacked}
use Rattle.mapping.proofs.TileLemmas.{Separators, next_low-same, some_page, rising-names}
use Rattle.split_plan.specs.Cut.{cut, piece_count}
use Rattle.split_plan.proofs.CutLemmas.{cut-joined, cut_full, cut_some, length-cut, fewer_pieces}
use Rattle.page_runs.specs.Updated.{Updated}
use Rattle.split_plan.specs.UpdatedLevel.{updated_parents, placed_of}
use Rattle.split_plan.proofs.RunLemmas.{names-updated_parents}
use Rattle.split_plan.proofs.WorkedLemmas.{tiled-updated_parents}
use Rattle.split_plan.specs.Change.{Change, fresh_pages, changes, family_changes, new_of, all_new, all_fresh}
use Rattle.split_plan.proofs.ChangeLemmas.{joined-fresh_pages, joined-changes, joined-family_changes, next_low-changes, next_low-family_changes, tiled-fresh_pages, tiled-changes, tiled-family_changes, length-fresh_pages, AllHeaded, headed-fresh_pages, headed-changes, headed-family_changes}
use Rattle.split_plan.specs.Terms.{terms}
use Rattle.climb_plan.specs.Climb.{families, grown_levels, climb}
use Rattle.climb_plan.proofs.Families.{families-joined, parents_link, parents_termed}
use Rattle.split_plan.proofs.Full.{AllFull}

-- ---- levels that grow above pages without a parent

one_left : (n : ℕ) → 0 < n → nat_lt 1 n ≡ false → n ≡ 1
one_left zero h e = absurd (omega arith)
one_left (suc zero) h e = refl
one_left (suc (suc n)) h e = absurd (omega (arith, ltb-false))

module _ {V : Type 0} where
  grown_by : (b : Bool) (enough : ℕ) (s : Settings) (used : List ℕ) (i : ℕ) (ps : List (Placed V)) → nat_lt 1 (length ps) ≡ b → 1 < s.fan → 0 < length ps → length ps ≤ suc enough → Tiled ps None
      → ((up : List (Placed ℕ)) (j : ℕ) → 0 < length up → length up ≤ enough → Tiled up None → Stacked up (grown_levels enough s used j up))
      → Stacked ps (cond b (let up : List (Placed ℕ) = fresh_pages used i (cut s.fan (names ps)) in up ∷ grown_levels enough s used (i + length up) up) [])
  grown_by false enough s used i ps e f h l d ih = one_left (length ps) h e
  grown_by true enough s used i ps e f h l d ih =
      let ns : Separators = names ps in
      let up : List (Placed ℕ) = fresh_pages used i (cut s.fan ns) in
      let fan : 0 < s.fan = omega arith in
      let several : 1 < length ps = ltb-true 1 (length ps) e in
      let same : length ns ≡ length ps = length-map ps name in
      let some : 0 < length ns = omega arith in
      let count : length up ≡ piece_count s.fan (length ns) = length-fresh_pages used i (cut s.fan ns) ∙ length-cut s.fan ns in
      let less : piece_count s.fan (length ns) < length ns = fewer_pieces s.fan (length ns) f (omega arith) in
      let full : AllFull (cut s.fan ns) = cut_full s.fan ns fan some in
      let rising : IsRising (flat (cut s.fan ns)) = subst (λ (x : Separators). IsRising x) (sym (cut-joined s.fan ns)) (rising-names ps None d) in
      let tiled : Tiled up None = tiled-fresh_pages used i (cut s.fan ns) None full rising tt in
      let one : 0 < length up = let pieces : 0 < length (cut s.fan ns) = cut_some s.fan ns in omega (arith, length-cut s.fan ns) in (
        record { linked = joined-fresh_pages used i (cut s.fan ns) ∙ cut-joined s.fan ns; headed = headed-fresh_pages used i (cut s.fan ns) full; tiled = tiled },
        ih up (i + length up) one (omega arith) tiled,
      )

stacked-grown_levels : {V : Type 0} (enough : ℕ) (s : Settings) (used : List ℕ) (i : ℕ) (ps : List (Placed V)) → 1 < s.fan → 0 < length ps → length ps ≤ enough → Tiled ps None → Stacked ps (grown_levels enough s used i ps)
stacked-grown_levels zero s used i ps f h l d = absurd (omega arith)
stacked-grown_levels (suc enough) s used i ps f h l d = grown_by (nat_lt 1 (length ps)) enough s used i ps refl f h l d (λ up j h l d. stacked-grown_levels enough s used j up f h l d)

-- ---- the lowest level of a climb

module _ {V : Type 0} where
  -- the highest level is one family, whose one group it is
  top_is : (ws : List (Updated V)) → flat (ws ∷ []) ≡ ws
  top_is ws = append-nil ws

  only_new : (s : Settings) (used : List ℕ) (i : ℕ) (ws : List (Updated V)) → all_new (changes s used i (ws ∷ []) ∷ []) ≡ new_of (changes s used i (ws ∷ []))
  only_new s used i ws = append-nil (new_of (changes s used i (ws ∷ [])))

  -- a climb keeps the entries of the level that it begins with
  pub joined-climb : (s : Settings) (used : List ℕ) (i : ℕ) (ws : List (Updated V)) (ups : List (List (Placed ℕ))) (olds : List (Placed V)) → names (placed_of ws) ≡ names olds → Stacked olds ups → joined (climb s used i ws ups).tower.level ≡ joined (placed_of ws)
  joined-climb s used i ws [] olds e o =
      ap (λ (ps : List (Placed V)). joined ps) (only_new s used i ws) ∙ joined-changes s used i (ws ∷ []) ∙ ap (λ (vs : List (Updated V)). joined (placed_of vs)) (top_is ws)
  joined-climb s used i ws (ps ∷ ups) olds e o =
      joined-family_changes s used i (families ps ws) ∙ ap (λ (vs : List (Updated V)). joined (placed_of vs)) (families-joined ps ws (o.0.linked ∙ sym e))

  -- and its first low key
  pub next_low-climb : (s : Settings) (used : List ℕ) (i : ℕ) (ws : List (Updated V)) (ups : List (List (Placed ℕ))) (olds : List (Placed V)) → names (placed_of ws) ≡ names olds → Stacked olds ups → next_low (climb s used i ws ups).tower.level None ≡ next_low olds None
  next_low-climb s used i ws [] olds e o =
      ap (λ (ps : List (Placed V)). next_low ps None) (only_new s used i ws) ∙ next_low-changes s used i (ws ∷ []) None ∙ ap (λ (vs : List (Updated V)). next_low (placed_of vs) None) (top_is ws) ∙ next_low-same (placed_of ws) olds None e
  next_low-climb s used i ws (ps ∷ ups) olds e o =
      next_low-family_changes s used i (families ps ws) None ∙ ap (λ (vs : List (Updated V)). next_low (placed_of vs) None) (families-joined ps ws (o.0.linked ∙ sym e)) ∙ next_low-same (placed_of ws) olds None e

  one_page_begins : (ps : List (Placed V)) → length ps ≡ 1 → (low : List ℕ) × (next_low ps None ≡ Some low)
  one_page_begins [] e = absurd (omega arith)
  one_page_begins (p ∷ ps) e = (p.page.low, refl)

  pub tiled-top : (s : Settings) (used : List ℕ) (i : ℕ) (ws : List (Updated V)) → 0 < s.fan → Tiled (placed_of ws) None → Tiled (all_new (changes s used i (ws ∷ []) ∷ [])) None
  tiled-top s used i ws z h =
      let t : Tiled (placed_of (flat (ws ∷ []))) None = subst (λ (vs : List (Updated V)). Tiled (placed_of vs) None) (sym (top_is ws)) h in
      subst (λ (ps : List (Placed V)). Tiled ps None) (sym (only_new s used i ws)) (tiled-changes s used i (ws ∷ []) None z t)

headed-climb : (s : Settings) (used : List ℕ) (i : ℕ) (ws : List (Updated ℕ)) (olds : List (Placed ℕ)) (ups : List (List (Placed ℕ))) → 0 < s.fan → names (placed_of ws) ≡ names olds → Stacked olds ups → AllHeaded (placed_of ws) → AllHeaded (climb s used i ws ups).tower.level
headed-climb s used i ws olds [] z e o h =
    let a : AllHeaded (placed_of (flat (ws ∷ []))) = subst (λ (vs : List (Updated ℕ)). AllHeaded (placed_of vs)) (sym (top_is ws)) h in
    subst (λ (ps : List (Placed ℕ)). AllHeaded ps) (sym (only_new s used i ws)) (headed-changes s used i (ws ∷ []) z a)
headed-climb s used i ws olds (ps ∷ ups) z e o h =
    headed-family_changes s used i (families ps ws) z (subst (λ (vs : List (Updated ℕ)). AllHeaded (placed_of vs)) (sym (families-joined ps ws (o.0.linked ∙ sym e))) h)

-- ---- all levels

-- a climb gives tiled levels, each the parents of the one below
pub stacked-climb : {V : Type 0} (s : Settings) (used : List ℕ) (i : ℕ) (ws : List (Updated V)) (olds : List (Placed V)) (ups : List (List (Placed ℕ))) → 1 < s.fan → names (placed_of ws) ≡ names olds → Stacked olds ups → Tiled (placed_of ws) None
    → Tiled (climb s used i ws ups).tower.level None × Stacked (climb s used i ws ups).tower.level (climb s used i ws ups).tower.above
stacked-climb {V} s used i ws olds [] f e o h =
    let z : 0 < s.fan = omega arith in
    let css : List (List (Change V)) = changes s used i (ws ∷ []) ∷ [] in
    let top : List (Placed V) = all_new css in
    let tiled : Tiled top None = tiled-top s used i ws z h in
    let begins = one_page_begins olds o in
    let some : 0 < length top = some_page top begins.0 (next_low-climb s used i ws [] olds e o ∙ begins.1) in
    (tiled, stacked-grown_levels (length top) s used (i + length (all_fresh css)) top f some (omega arith) tiled)
stacked-climb {V} s used i ws olds (ps ∷ ups) f e o h =
    let z : 0 < s.fan = omega arith in
    let linked : joined ps ≡ names (placed_of ws) = o.0.linked ∙ sym e in
    let css : List (List (Change V)) = family_changes s used i (families ps ws) in
    let vs : List (Updated ℕ) = updated_parents s ps (map terms css) in
    let j : ℕ = i + length (all_fresh css) in
    let termed = parents_termed s used i ps ws z linked o.0.headed h in
    let named : names (placed_of vs) ≡ names ps = names-updated_parents s ps (map terms css) in
    let upper = stacked-climb s used j vs ps ups f named o.1 (tiled-updated_parents s ps (map terms css) None o.0.tiled termed.0) in
    let links : joined (climb s used j vs ups).tower.level ≡ names (all_new css) = joined-climb s used j vs ups ps named o.1 ∙ parents_link s used i ps ws None z linked h in
    let level : Tiled (placed_of (flat (families ps ws))) None = subst (λ (xs : List (Updated V)). Tiled (placed_of xs) None) (sym (families-joined ps ws linked)) h in (
      tiled-family_changes s used i (families ps ws) None z level,
      (record { linked = links; headed = headed-climb s used j vs ps ups z named o.1 termed.1; tiled = upper.0 }, upper.1),
    )
