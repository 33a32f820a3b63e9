-- Lemmas on distributing shares down several levels at once, in parts.
use Rattle.std.specs.Prelude.{◌≡◌, ℕ, zero, suc, pred, ◌+◌, ◌-◌, ◌<◌, List, [], ◌∷◌, ◌++◌, flat_map}
use Rattle.std.proofs.Common.{refl, sym, ap, ◌∙◌, subst, arith}
use Rattle.std.specs.List.{AllByRecursion}
use Rattle.std.proofs.lemmas.List.Concat.{flat_map-append}
use Rattle.std.proofs.lemmas.List.{map-append}
use Rattle.keys.specs.declared.command.Command.{Command}
use Rattle.index_page.specs.Page.{PageOfKind}
use Rattle.index_page.proofs.ListLemmas.{all_apart}
use Rattle.mapping.specs.Tree.{Tree}
use Rattle.mapping.specs.Levels.{levels_of}
use Rattle.mapping.specs.Proper.{AreLevels, HoldsLevels}
use Rattle.routing.specs.Keyed.{AreKeyed}
use Rattle.routing.specs.Routes.{Route, ranges}
use Rattle.routing.specs.SortedPlaces.{AreInKeyOrder}
use Rattle.routing.specs.Shares.{Share, Lent, share_of_lent, lent_shares, AreKeyedShares, root_shares, HasEachPlaceOnce, IsReadyShare, share_below, shares_down, CanGoDown, AreInBatchOrder}
use Rattle.routing.proofs.LevelShares.{AreSharesFor, AreSharesAt, each_once, root_level, ready_at, shares-next, leaves_shares}

-- runs of two lists of shares, one after the other
pub both_in_order : (ss ts : List Share) (os ps : List Route) → AreInBatchOrder ss os → AreInBatchOrder ts ps → AreInBatchOrder (ss ++ ts) (os ++ ps)
both_in_order [] ts [] ps a b = b
both_in_order [] ts (o ∷ os) ps a b = absurd a
both_in_order (s ∷ ss) ts [] ps a b = absurd a
both_in_order (s ∷ ss) ts (o ∷ os) ps a b = (a.0, both_in_order ss ts os ps a.1 b)

-- two parts of a list of shares
pub shares_of_parts : (all low high : List Lent) → all ≡ low ++ high → lent_shares low ++ lent_shares high ≡ lent_shares all
shares_of_parts all low high e = sym (map-append share_of_lent low high) ∙ sym (ap (λ (x : List Lent). lent_shares x) e)

pub suc_of : (n : ℕ) → (n ≡ 0 → ⊥) → n ≡ suc (n - 1)
suc_of zero h = absurd (h refl)
suc_of (suc n) h = omega arith

module _ {A : Type 0} (pages : List (ℕ × PageOfKind)) (cs : List (Command A)) where
  pub parts_keyed : (all low high : List Lent) → all ≡ low ++ high → AreKeyedShares cs all → AreKeyedShares cs low × AreKeyedShares cs high
  parts_keyed all low high e k = all_apart (λ (share : Lent). AreKeyed cs share.keyed) low high (subst (λ (x : List Lent). AreKeyedShares cs x) e k)

  abbrev below : List Share → List Share
  below ss = flat_map (share_below pages cs) ss

  -- two lists of shares go down as one
  pub down-append : (n : ℕ) (ss ts : List Share) → shares_down pages cs n (ss ++ ts) ≡ shares_down pages cs n ss ++ shares_down pages cs n ts
  down-append zero ss ts = refl
  down-append (suc n) ss ts = ap (λ (x : List Share). shares_down pages cs n x) (flat_map-append (share_below pages cs) ss ts) ∙ down-append n (below ss) (below ts)

  -- and if they can as one list, each of them can
  pub can_apart : (n : ℕ) (ss ts : List Share) → CanGoDown pages cs n (ss ++ ts) → CanGoDown pages cs n ss × CanGoDown pages cs n ts
  can_apart zero ss ts h = all_apart HasEachPlaceOnce ss ts h
  can_apart (suc n) ss ts h =
      let here = all_apart (IsReadyShare pages cs) ss ts h.0 in
      let later = can_apart n (below ss) (below ts) (subst (λ (x : List Share). CanGoDown pages cs n x) (flat_map-append (share_below pages cs) ss ts) h.1) in
      ((here.0, later.0), (here.1, later.1))

  pub parts_can : (n : ℕ) (all low high : List Lent) → all ≡ low ++ high → CanGoDown pages cs n (lent_shares all) → CanGoDown pages cs n (lent_shares low) × CanGoDown pages cs n (lent_shares high)
  parts_can n all low high e h = can_apart n (lent_shares low) (lent_shares high) (subst (λ (x : List Share). CanGoDown pages cs n x) (sym (shares_of_parts all low high e)) h)

  -- one level further down
  pub next_can : (n m : ℕ) (ss : List Share) → n ≡ suc m → CanGoDown pages cs n ss → AllByRecursion (IsReadyShare pages cs) ss × CanGoDown pages cs m (below ss)
  next_can n m ss e h = subst (λ (k : ℕ). CanGoDown pages cs k ss) e h

  pub next_down : (n m : ℕ) (ss : List Share) → n ≡ suc m → shares_down pages cs n ss ≡ shares_down pages cs m (below ss)
  next_down n m ss e = ap (λ (k : ℕ). shares_down pages cs k ss) e

-- ---- of a tree whose levels are in order

module _ (t : Tree) (held : HoldsLevels t.pages (levels_of t)) (levels : AreLevels (levels_of t)) {A : Type 0} (cs : List (Command A)) (ps : List ℕ) (in_order : AreInKeyOrder cs ps) where
  abbrev At : ℕ → List Share → Type 0
  At i ss = AreSharesAt t held levels cs ps in_order i ss

  -- the shares of a level go down to the leaves
  pub can_go_down : (n i : ℕ) (ss : List Share) → i + n ≡ pred t.height → At i ss → CanGoDown t.pages cs n ss
  can_go_down zero i ss e a = each_once cs ps in_order a
  can_go_down (suc n) i ss e a =
      let within : i < pred t.height = omega arith in
      (ready_at t held levels cs ps in_order i ss within a, can_go_down n (i + 1) (flat_map (share_below t.pages cs) ss) (omega arith) (shares-next t held levels cs ps in_order i ss within a))

  -- and are theirs there
  pub gone_down : (n i : ℕ) (ss : List Share) → i + n ≡ pred t.height → At i ss → At (i + n) (shares_down t.pages cs n ss)
  gone_down zero i ss e a = let z : i ≡ i + 0 = omega arith in subst (λ (j : ℕ). At j ss) z a
  gone_down (suc n) i ss e a =
      let within : i < pred t.height = omega arith in
      let z : i + 1 + n ≡ i + suc n = omega arith in
      subst (λ (j : ℕ). At j (shares_down t.pages cs n (flat_map (share_below t.pages cs) ss))) z
      (gone_down n (i + 1) (flat_map (share_below t.pages cs) ss) (omega arith) (shares-next t held levels cs ps in_order i ss within a))

  -- from the root down to the leaves
  pub from_root : (n : ℕ) (ss : List Share) → n ≡ pred t.height → ss ≡ root_shares t.root ps → CanGoDown t.pages cs n ss × AreSharesFor cs ps (ranges (levels_of t).level) (shares_down t.pages cs n ss)
  from_root n ss e r =
      let top = root_level t held levels cs ps in_order ss r in
      let z : 0 + n ≡ pred t.height = omega arith in
      (can_go_down n 0 ss z top, leaves_shares t held levels cs ps in_order (0 + n) (shares_down t.pages cs n ss) z (gone_down n 0 ss z top))
