-- Lemmas on the ends of a batch's scans.
use Rattle.std.specs.Prelude.{◌≡◌, ℕ, suc, pred, ◌+◌, ◌-◌, ◌<◌, ◌≤◌, Bool, true, not, List, [], ◌∷◌, ◌++◌, map, length, take, slice_get, Option, Some, None, IfSome}
use Rattle.std.proofs.Common.{refl, sym, ap, ◌∙◌, subst, arith, append_assoc, Bor, get_or}
use Rattle.std.specs.Map.{keys_of}
use Rattle.std.specs.Option.{option_copied}
use Rattle.std.proofs.lemmas.List.{take_more, length-take, length-map, map-append}
use Rattle.keys.specs.Narrowed.{IsEnough, MayEndAt, MayEndAtAll}
use Rattle.keys.proofs.NarrowedLemmas.{no_ends}
use Rattle.keys.specs.Range.{is_below, is_before, in_range}
use Rattle.keys.specs.Step.{map_after, map_after_all}
use Rattle.keys.specs.declared.command.Command.{Command}
use Rattle.keys.specs.declared.command.Command.TheVariants.{Scan}
use Rattle.index_page.specs.Page as page
use Rattle.index_page.specs.Page.{Page}
use Rattle.index_page.proofs.RangeLemmas.{less_is_below}
use Rattle.mapping.specs.Levels.{Placed, joined, names, levels_of}
use Rattle.mapping.specs.Proper.{next_low, IsTile, Tiled, AreLevels, HoldsLevels}
use Rattle.mapping.specs.TreeInMemory.{TreeInMemory, tree_of}
use Rattle.mapping.proofs.TileLemmas.{tiled_apart}
use Rattle.scan.specs.Ends.{Deletions, deleted, wiped, LacksAtMost, AreCertain}
use Rattle.scan.specs.Deletions.{Tallies, IsTaken}
use Rattle.scan.specs.Path.{leaf_pages, leaves_beyond}
use Rattle.scan.specs.Walk.{walk_from}
use Rattle.scan.proofs.Enough.{lacks}
use Rattle.scan.proofs.Parts.{part_of_level}
use Rattle.scan.specs.declared.direction.Direction.TheVariants.{Up}
use Rattle.scan.proofs.PlaceLemmas.{not_above_end}
use Rattle.scan.proofs.TreeBeyond.{last-beyond}

abbrev pub Leaves : Type 0
Leaves = List (Page (List ℕ))

abbrev pub Level : Type 0
Level = List (Placed (List ℕ))

abbrev pub shown : Level → Leaves
shown level = map (λ p. p.page) level

-- ---- a walk along a level

-- it is at this leaf, with these after it
pub record IsPassing (level : Level) (leaf : Page (List ℕ)) (pairs_after : Leaves) : Type 0 where
  pub passed : Leaves
  pub whole : shown level ≡ passed ++ leaf ∷ pairs_after

-- a level whose pages are known, apart at one of them
record IsApart (level : Level) (leaf : Page (List ℕ)) (pairs_after : Leaves) : Type 0 where
  pub xs : Level
  pub at : Placed (List ℕ)
  pub ys : Level
  pub whole : level ≡ xs ++ at ∷ ys
  pub page : at.page ≡ leaf
  pub rest : shown ys ≡ pairs_after

one_later : (l : Placed (List ℕ)) (ls : Level) (leaf : Page (List ℕ)) (pairs_after : Leaves) → IsApart ls leaf pairs_after → IsApart (l ∷ ls) leaf pairs_after
one_later l ls leaf pairs_after a = record { xs = l ∷ a.xs; at = a.at; ys = a.ys; whole = ap (λ (x : Level). l ∷ x) a.whole; page = a.page; rest = a.rest }

apart : (level : Level) (passed : Leaves) (leaf : Page (List ℕ)) (pairs_after : Leaves) → shown level ≡ passed ++ leaf ∷ pairs_after → IsApart level leaf pairs_after
apart [] [] leaf pairs_after e = absurd (cc)
apart [] (p ∷ passed) leaf pairs_after e = absurd (cc)
apart (l ∷ ls) [] leaf pairs_after e =
    let first : l.page ≡ leaf = cc in
    let rest : shown ls ≡ pairs_after = cc in
    record { xs = []; at = l; ys = ls; whole = refl; page = first; rest = rest }
apart (l ∷ ls) (p ∷ passed) leaf pairs_after e = let later : shown ls ≡ passed ++ leaf ∷ pairs_after = cc in one_later l ls leaf pairs_after (apart ls passed leaf pairs_after later)

begins_with : (ys : Level) (next : Page (List ℕ)) (pairs_after : Leaves) → shown ys ≡ next ∷ pairs_after → next_low ys None ≡ Some next.low
begins_with [] next pairs_after e = absurd (cc)
begins_with (y ∷ ys) next pairs_after e = let f : y.page ≡ next = cc in ap (λ (p : Page (List ℕ)). Some p.low) f

-- a leaf's pairs, and where it ends, are known by the next
pub record IsLeafUpto (m : List (List ℕ × List ℕ)) (leaf : Page (List ℕ)) (end : List ℕ) : Type 0 where
  pub below : is_below leaf.low end ≡ true
  pub part : page.entries leaf ≡ in_range leaf.low (Some end) m

leaf_upto_by : (xs ys : Level) (at : Placed (List ℕ)) (end : List ℕ) → Tiled (xs ++ at ∷ ys) None → next_low ys None ≡ Some end → IsLeafUpto (joined (xs ++ at ∷ ys)) at.page end
leaf_upto_by xs ys at end t e =
    let tile : IsTile (Some end) at = subst (λ (x : Option (List ℕ)). IsTile x at) e (tiled_apart xs (at ∷ ys) None t).1.0 in
    record {
      below = less_is_below at.page.low end tile.low;
      part = part_of_level xs ys at t ∙ ap (λ (x : Option (List ℕ)). in_range at.page.low x (joined (xs ++ at ∷ ys))) e;
    }

pub leaf_upto : (level : Level) (leaf next : Page (List ℕ)) (pairs_after : Leaves) → Tiled level None → IsPassing level leaf (next ∷ pairs_after) → IsLeafUpto (joined level) leaf next.low
leaf_upto level leaf next pairs_after t p =
    let a = apart level p.passed leaf (next ∷ pairs_after) p.whole in
    let here = leaf_upto_by a.xs a.ys a.at next.low (subst (λ (x : Level). Tiled x None) a.whole t) (begins_with a.ys next pairs_after a.rest) in
    subst (λ (x : Page (List ℕ)). IsLeafUpto (joined level) x next.low) a.page (subst (λ (x : Level). IsLeafUpto (joined x) a.at.page next.low) (sym a.whole) here)

-- the walk continues to the next leaf
pub pass_on : (level : Level) (leaf next : Page (List ℕ)) (pairs_after : Leaves) → IsPassing level leaf (next ∷ pairs_after) → IsPassing level next pairs_after
pass_on level leaf next pairs_after p = record {
  passed = p.passed ++ leaf ∷ [];
  whole = p.whole ∙ sym (append_assoc p.passed (leaf ∷ []) (next ∷ pairs_after));
}

-- the low key of each leaf is one of the level's
abbrev IsLowOf : Level → List ℕ → Type 0
IsLowOf level low = (at : ℕ) × (slice_get (keys_of (names level)) at ≡ Some low)

low_among : (level : Level) (passed : Leaves) (leaf : Page (List ℕ)) (pairs_after : Leaves) → shown level ≡ passed ++ leaf ∷ pairs_after → IsLowOf level leaf.low
low_among [] [] leaf pairs_after e = absurd (cc)
low_among [] (p ∷ passed) leaf pairs_after e = absurd (cc)
low_among (l ∷ ls) [] leaf pairs_after e = let f : l.page ≡ leaf = cc in (0, ap (λ (p : Page (List ℕ)). Some p.low) f)
low_among (l ∷ ls) (p ∷ passed) leaf pairs_after e = let later : shown ls ≡ passed ++ leaf ∷ pairs_after = cc in let a = low_among ls passed leaf pairs_after later in (suc a.0, a.1)

-- the walk begins on the level
module _ (t : TreeInMemory) (held : HoldsLevels (tree_of t).pages (levels_of (tree_of t))) (levels : AreLevels (levels_of (tree_of t))) where
  pub passing_first : (lo : List ℕ) (leaf : Page (List ℕ)) (pairs_after : Leaves) → walk_from t 0 lo t.root ≡ leaf ∷ pairs_after → IsPassing (levels_of (tree_of t)).level leaf pairs_after
  passing_first lo leaf pairs_after w =
      let at_top : pred t.height - 0 ≡ pred t.height = omega arith in
      let under : List ℕ → Bool = λ j. not (is_below lo j) in
      let l = last-beyond (tree_of t) held levels under (λ j k u n. not_above_end j k lo u n) in
      record {
        passed = l.before;
        whole =
            l.whole
            ∙ ap (λ (x : Leaves). l.before ++ x) (sym (ap (λ (n : ℕ). leaf_pages (tree_of t).pages (leaves_beyond Up (tree_of t).pages n under t.root)) at_top) ∙ w);
      }

-- ---- a step of the walk

-- at a leaf, `certain` pairs are certain before it, of each map that lacks no more than the keys say
pub record AreCertainBefore (taken : Deletions) (m : List (List ℕ × List ℕ)) (lo low : List ℕ) (certain : ℕ) : Type 0 where
  pub each : (n : List (List ℕ × List ℕ)) → LacksAtMost taken m n → certain ≤ length (in_range lo (Some low) n)

abbrev pub SharesOf : Deletions → List ℕ → List ℕ → Page (List ℕ) → ℕ → Type 0
SharesOf taken lo end leaf n =
    (m l : List (List ℕ × List ℕ)) → LacksAtMost taken m l → is_below leaf.low end ≡ true → page.entries leaf ≡ in_range leaf.low (Some end) m → AreCertain lo l leaf.low end n

module _ (taken : Deletions) (level : Level) (lo : List ℕ) (leaf next : Page (List ℕ)) (leaves pairs_after : Leaves) (passing : IsPassing level leaf leaves) (steps : leaves ≡ next ∷ pairs_after) where
  at_next : IsPassing level leaf (next ∷ pairs_after)
  at_next = subst (λ (x : Leaves). IsPassing level leaf x) steps passing

  pub passing_on : IsPassing level next pairs_after
  passing_on = pass_on level leaf next pairs_after at_next

  pub certain_on : (certain share sum : ℕ) → Tiled level None → AreCertainBefore taken (joined level) lo leaf.low certain → SharesOf taken lo next.low leaf share → sum ≤ certain + share → AreCertainBefore taken (joined level) lo next.low sum
  certain_on certain share sum t c s l = record {
    each = λ n lack.
        let upto = leaf_upto level leaf next pairs_after t at_next in
        let before = c.each n lack in
        let here = s (joined level) n lack upto.below upto.part in
        omega (arith, l, before, here);
  }

  enough : (hi : Option (List ℕ)) (limit certain : ℕ) → AreCertainBefore taken (joined level) lo next.low certain → is_below lo next.low ≡ true → is_before hi next.low ≡ true → limit ≤ certain
      → (n : List (List ℕ × List ℕ)) → LacksAtMost taken (joined level) n → IsEnough (keys_of (names level)) n lo hi limit next.low
  enough hi limit certain c b h l = λ n lack.
      let on = passing_on in
      let each = c.each n lack in
      record { known = low_among level on.passed next pairs_after on.whole; following = b; before = h; rows = omega (arith, l, each) }

  -- both at once: what is certain before the next leaf is enough
  pub enough_on : (hi : Option (List ℕ)) (limit certain share sum : ℕ) → Tiled level None → AreCertainBefore taken (joined level) lo leaf.low certain → SharesOf taken lo next.low leaf share → sum ≤ certain + share
      → is_below lo next.low ≡ true → is_before hi next.low ≡ true → limit ≤ sum → (n : List (List ℕ × List ℕ)) → LacksAtMost taken (joined level) n → IsEnough (keys_of (names level)) n lo hi limit next.low
  enough_on hi limit certain share sum t c s l b h w = enough hi limit sum (certain_on certain share sum t c s l) b h w

-- ---- a batch

module _ {A : Type 0} where
  -- an end more, of the next command
  pub may_end-push : (keys : List (List ℕ)) (m : List (List ℕ × List ℕ)) (cs : List (Command A)) (c : Command A) (ends : List (Option (List ℕ))) (end : Option (List ℕ)) → length ends ≡ length cs → MayEndAtAll keys m cs ends
      → MayEndAt keys (map_after_all m cs) c end → MayEndAtAll keys m (cs ++ c ∷ []) (ends ++ end ∷ [])
  may_end-push keys m [] c [] end l a h = (h, tt)
  may_end-push keys m [] c (x ∷ ends) end l a h = absurd (omega (arith, l))
  may_end-push keys m (d ∷ cs) c [] end l a h = absurd (omega (arith, l))
  may_end-push keys m (d ∷ cs) c (x ∷ ends) end l a h = (a.0, may_end-push keys (map_after m d) cs c ends end (omega (arith, l)) a.1 h)

  may_end_by : (keys : List (List ℕ)) (m : List (List ℕ × List ℕ)) (c : Command A) (lo : List ℕ) (hi : Option (List ℕ)) (limit : ℕ) (end : Option (Bor (List ℕ))) → c ≡ Scan lo hi limit → IfSome end (λ e. IsEnough keys m lo hi limit e.now)
      → MayEndAt keys m c (option_copied end)
  may_end_by keys m c lo hi limit None e h = tt
  may_end_by keys m c lo hi limit (Some end) e h = subst (λ (x : Command A). MayEndAt keys m x (Some end.now)) (sym e) h

  pub may_end : (keys : List (List ℕ)) (m : List (List ℕ × List ℕ)) (c : Command A) (lo low : List ℕ) (hi upper : Option (List ℕ)) (limit : ℕ) (end : Option (Bor (List ℕ))) → c ≡ Scan lo hi limit → low ≡ lo → upper ≡ hi
      → IfSome end (λ e. IsEnough keys m low upper limit e.now) → MayEndAt keys m c (option_copied end)
  may_end keys m c lo low hi upper limit end e l u h =
      may_end_by keys m c lo hi limit end e
      (subst (λ (x : List ℕ). IfSome end (λ e. IsEnough keys m x hi limit e.now)) l (subst (λ (x : Option (List ℕ)). IfSome end (λ e. IsEnough keys m low x limit e.now)) u h))

  pub none_end : (keys : List (List ℕ)) (m : List (List ℕ × List ℕ)) (cs : List (Command A)) (ends : List (Option (Bor (List ℕ)))) → ends ≡ [] → MayEndAtAll keys m cs (map option_copied ends)
  none_end keys m cs ends e = subst (λ (x : List (Option (Bor (List ℕ)))). MayEndAtAll keys m cs (map option_copied x)) (sym e) (no_ends keys m cs)

  -- so it continues from place to place
  pub ends_on : (keys : List (List ℕ)) (m : List (List ℕ × List ℕ)) (cs : List (Command A)) (place : ℕ) (c : Command A) (ends new : List (Option (Bor (List ℕ)))) (end : Option (Bor (List ℕ))) (t : Tallies)
      → place < length cs → c ≡ get_or cs place c → length ends ≡ place → new ≡ ends ++ end ∷ [] → IsTaken (deleted (take place cs), wiped (take place cs)) t
      → ((gone : Deletions) (n : List (List ℕ × List ℕ)) → IsTaken gone t → LacksAtMost gone m n → MayEndAt keys n c (option_copied end)) → MayEndAtAll keys m (take place cs) (map option_copied ends) → MayEndAtAll keys m (take (place + 1) cs) (map option_copied new)
  ends_on keys m cs place c ends new end t w is count e taken h a =
      let first : List (Command A) = take place cs in
      let here : MayEndAt keys (map_after_all m first) c (option_copied end) = h (deleted first, wiped first) (map_after_all m first) taken (lacks m first) in
      let long : length first ≡ place = omega (arith, length-take place cs, w) in
      let many : length (map option_copied ends) ≡ length first = length-map ends option_copied ∙ count ∙ sym long in
      let whole : take (place + 1) cs ≡ first ++ c ∷ [] = take_more cs place c w ∙ ap (λ (d : Command A). first ++ d ∷ []) (sym is) in
      let made : map option_copied new ≡ map option_copied ends ++ option_copied end ∷ [] = ap (λ (x : List (Option (Bor (List ℕ)))). map option_copied x) e ∙ map-append option_copied ends (end ∷ []) in
      subst (λ (ds : List (Command A)). MayEndAtAll keys m ds (map option_copied new)) (sym whole)
      (subst (λ (x : List (Option (List ℕ))). MayEndAtAll keys m (first ++ c ∷ []) x) (sym made) (may_end-push keys m first c (map option_copied ends) (option_copied end) many a here))
