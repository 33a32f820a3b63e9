-- A path has room for one more page.
use Rattle.std.specs.Prelude.{◌≡◌, ℕ, zero, suc, pred, ◌+◌, ◌≤◌, List, [], ◌∷◌, ◌++◌, length}
use Rattle.std.proofs.Common.{◌∙◌, subst, arith}
use Rattle.smallvec.specs.SmallVec.{SmallVec}
use Rattle.index_page.specs.Page.{PageOfKind}
use Rattle.mapping.specs.TreeInMemory.{TreeInMemory, tree_of}
use Rattle.scan.specs.Path.{ArePathOf}
use Rattle.scan.specs.Walk.{IsWalk}
use Rattle.scan.proofs.PathLemmas.{path_pop}

module _ (t : TreeInMemory) where
  abbrev Pages : List (ℕ × PageOfKind)
  Pages = (tree_of t).pages

  abbrev Top : ℕ
  Top = pred t.height

  room_for_one : (l m : ℕ) → t.height ≤ 64 → l + suc m ≡ Top → l + 1 ≤ 64
  room_for_one l m h e = by t.height h e
    where
      by : (n : ℕ) → n ≤ 64 → l + suc m ≡ pred n → l + 1 ≤ 64
      by zero h e = omega arith
      by (suc n) h e = omega arith

  pub room_again : (path popped : SmallVec (List ℕ)) (step : List ℕ) → IsWalk t path → path.items ≡ popped.items ++ step ∷ [] → popped.capacity ≡ path.capacity → length popped.items + 1 ≤ popped.capacity
  room_again path popped step w i c =
      let top = path_pop Pages Top popped.items step (subst (λ (x : List (List ℕ)). ArePathOf Pages Top x) i w.known) in
      let r = room_for_one (length popped.items) top.level w.height top.height in
      let d = c ∙ w.room in
      omega (arith, r, d)
